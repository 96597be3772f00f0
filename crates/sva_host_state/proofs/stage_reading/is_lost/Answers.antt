use Rattle.std.proofs.Common.{rules}
use Rattle.sva_host_state.proofs.stage_reading.is_lost.Goals as goal

pub returns-in-Some-Lost : goal.returns-in-Some-Lost
returns-in-Some-Lost c = search rules
