use Rattle.std.proofs.Common.{rules}
use Rattle.sva_pasid.proofs.places.TableEntry.reset_at.Goals as goal

pub returns-in-None : goal.returns-in-None
returns-in-None c = search rules
