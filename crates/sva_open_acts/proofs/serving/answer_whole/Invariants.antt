use Rattle.std.proofs.Common.{◌≡◌, ◌++◌, filter, map, take}
use Rattle.sva_open.specs.Host.{answer_to, is_whole_under}
use Rattle.sva_open_acts.proofs.serving.answer_whole.Given as goal

abbrev pub invariant-loop-one : goal.invariant-loop-one
invariant-loop-one l =
    l.flight.items ≡ l.initial.flight.items ++ map (answer_to l.fails) (filter (is_whole_under l.pasid) (take l.one-index l.filed))
