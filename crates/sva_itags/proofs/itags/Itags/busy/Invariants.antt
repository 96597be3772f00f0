use Rattle.std.proofs.Common.{◌≡◌, take, map, is_some}
use Rattle.sva_itags.specs.Vector.{vector_of}
use Rattle.sva_itags.proofs.itags.Itags.busy.Given as goal

abbrev pub invariant-loop-tag : goal.invariant-loop-tag
invariant-loop-tag l = l.busy ≡ vector_of (take l.tag (map is_some l.place-items))
