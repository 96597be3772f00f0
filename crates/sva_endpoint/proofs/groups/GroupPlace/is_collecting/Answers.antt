use Rattle.std.proofs.Common.{refl}
use Rattle.sva_endpoint.proofs.groups.GroupPlace.is_collecting.Goals as goal

pub returns-in-Collecting : goal.returns-in-Collecting
returns-in-Collecting c = rw (c.in-Collecting.is, c.from.ensures) refl
