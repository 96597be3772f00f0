use Rattle.std.proofs.Common.{rules}
use Rattle.sva_endpoint.proofs.use_slots.UseSlots.new.Goals as goal

pub returns : goal.returns
returns c = search rules
