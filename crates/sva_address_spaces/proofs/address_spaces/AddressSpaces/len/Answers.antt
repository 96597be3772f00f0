use Rattle.std.proofs.Common.{arith}
use Rattle.std.proofs.lemmas.Grind.{common_steps}
use Rattle.sva_address_spaces.proofs.address_spaces.AddressSpaces.len.Goals as goal

pub returns : goal.returns
returns c = grind (arith, common_steps)
