use Rattle.std.proofs.Common.{◌≡◌, ◌++◌, flat_map, map, take}
use Rattle.sva_prq.specs.Job.{ask_seen}
use Rattle.sva_why.specs.Groups.{read_only_if}
use Rattle.sva_address_spaces.specs.Seen.{pages_seen}
use Rattle.sva_why.proofs.groups.put_each_read_only.Given as goal

-- what was said so far
abbrev pub invariant-loop-ask : goal.invariant-loop-ask
invariant-loop-ask l =
    l.out.items ≡ l.initial.out.items ++ flat_map (read_only_if l.snapshot l.worker (pages_seen l.pages)) (map ask_seen (take l.ask-index l.asks))
