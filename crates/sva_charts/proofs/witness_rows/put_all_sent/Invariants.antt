use Rattle.std.proofs.Common.{◌≡◌, ◌++◌, drop}
use Rattle.std.specs.Prelude.{flat_map}
use Rattle.sva_charts.specs.Witnesses.{sent_text}
use Rattle.sva_charts.proofs.witness_rows.put_all_sent.Given as goal

-- what was appended and what is left are the whole
abbrev pub invariant-loop-message : goal.invariant-loop-message
invariant-loop-message l = l.out.items ++ flat_map sent_text (drop l.message-index l.sent) ≡ l.initial.out.items ++ flat_map sent_text l.sent
