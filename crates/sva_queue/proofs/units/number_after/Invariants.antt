use Rattle.std.proofs.Common.{◌≡◌, take}
use Rattle.sva_queue.specs.Cookies.{number_after}
use Rattle.sva_queue.proofs.units.number_after.Given as goal

abbrev pub invariant-loop-descriptor : goal.invariant-loop-descriptor
invariant-loop-descriptor l = l.number ≡ number_after l.first (take l.descriptor-index l.descriptors)
