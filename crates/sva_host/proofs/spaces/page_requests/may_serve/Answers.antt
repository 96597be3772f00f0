use Rattle.std.proofs.Common.{arith}
use Rattle.std.proofs.lemmas.Grind.{common_steps}
use Rattle.sva_host.proofs.spaces.page_requests.may_serve.Goals as goal

pub returns-else-is_open : goal.returns-else-is_open
returns-else-is_open c = grind (arith, common_steps)
