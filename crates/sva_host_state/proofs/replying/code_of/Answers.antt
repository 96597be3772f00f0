use Rattle.std.proofs.Common.{rules}
use Rattle.sva_host_state.proofs.replying.code_of.Goals as goal

pub returns-in-Failure : goal.returns-in-Failure
returns-in-Failure c = search rules
