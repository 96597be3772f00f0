use Rattle.std.proofs.Common.{rules}
use Rattle.sva_host_state.proofs.requests.completion.Goals as goal

pub returns-in-Some : goal.returns-in-Some
returns-in-Some c = search rules
