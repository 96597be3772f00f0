use Rattle.sva_fabric.proofs.Once.{tell_once}
use Rattle.sva_fabric.proofs.laws.audits_tell_once.Goals as goal

pub returns : goal.returns
returns c = tell_once
