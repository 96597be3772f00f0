use Rattle.std.proofs.Common.{rules}
use Rattle.sva_host_state.proofs.stage_reading.is_before_invalidating.Goals as goal

pub returns-in-Some-Invalidating : goal.returns-in-Some-Invalidating
returns-in-Some-Invalidating c = search rules
