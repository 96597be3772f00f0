use Rattle.std.proofs.Common.{arith}
use Rattle.std.proofs.lemmas.Grind.{common_steps}
use Rattle.sva_host.proofs.spaces.page_requests.first_request.Goals as goal

pub returns : goal.returns
returns c = grind (arith, common_steps)
