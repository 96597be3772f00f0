use Rattle.std.proofs.Common.{refl}
use Rattle.sva_endpoint.proofs.use_slots.UseSlot.runs_under.Goals as goal

pub returns-in-Running : goal.returns-in-Running
returns-in-Running c = rw (c.in-Running.is, c.from.ensures) refl
