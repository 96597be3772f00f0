use Rattle.std.proofs.Common.{rules}
use Rattle.sva_host_state.proofs.stage_reading.is_live.Goals as goal

pub returns-in_default : goal.returns-in_default
returns-in_default c = search rules

pub returns-in_default-2 : goal.returns-in_default-2
returns-in_default-2 c = search rules
