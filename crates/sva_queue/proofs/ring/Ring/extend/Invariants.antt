use Rattle.std.proofs.Common.{◌≡◌, ◌++◌, take}
use Rattle.sva_queue.proofs.ring.Ring.extend.Given as goal

abbrev pub invariant-loop-descriptor : goal.invariant-loop-descriptor
invariant-loop-descriptor l = l.self ≡ l.initial.self ++ take l.descriptor-index l.descriptors
