use Rattle.std.proofs.Common.{rules}
use Rattle.sva_host_state.proofs.advancing.is_due.Goals as goal

pub returns-in-Some-Stopping : goal.returns-in-Some-Stopping
returns-in-Some-Stopping c = search rules
