use Rattle.std.proofs.Common.{arith}
use Rattle.std.proofs.lemmas.Grind.{common_steps}
use Rattle.sva_step.proofs.limits.Config.fits.Goals as goal

pub returns-then-contains-3 : goal.returns-then-contains-3
returns-then-contains-3 c = grind (arith, common_steps)

pub returns-else-contains-3 : goal.returns-else-contains-3
returns-else-contains-3 c = grind (arith, common_steps)
