use Rattle.std.proofs.Common.{◌≡◌, ◌++◌, drop, false, map}
use Rattle.sva_lines.specs.Pieces.{ask_text, listed}
use Rattle.sva_prq.specs.Job.{ask_seen}
use Rattle.sva_lines.proofs.pieces.put_each_ask.Given as goal

-- what was said and what is left make the whole
abbrev pub invariant-loop-ask : goal.invariant-loop-ask
invariant-loop-ask l =
    l.out.items ++ listed l.is_begun (map ask_text (map ask_seen (drop l.ask-index l.asks)))
    ≡ l.initial.out.items ++ listed false (map ask_text (map ask_seen l.asks))
