use Rattle.sva_open_laws.proofs.OneUnit.{always}
use Rattle.sva_open_laws.proofs.units.endpoints_see_one_unit.Goals as goal

pub returns : goal.returns
returns c = always
