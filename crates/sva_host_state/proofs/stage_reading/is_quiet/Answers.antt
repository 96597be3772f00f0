use Rattle.std.proofs.Common.{rules}
use Rattle.sva_host_state.proofs.stage_reading.is_quiet.Goals as goal

pub returns-in-Some-Quiet : goal.returns-in-Some-Quiet
returns-in-Some-Quiet c = search rules

pub returns-in-Some-Quiet-2 : goal.returns-in-Some-Quiet-2
returns-in-Some-Quiet-2 c = search rules
