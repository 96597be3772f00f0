use Rattle.std.proofs.Common.{rules}
use Rattle.sva_host_state.proofs.replying.code_by.Goals as goal

pub returns-in-Some-Stopping : goal.returns-in-Some-Stopping
returns-in-Some-Stopping c = search rules

pub returns-in-Some-Lost : goal.returns-in-Some-Lost
returns-in-Some-Lost c = search rules
