use Rattle.sva_open_laws.proofs.Forward.{texts_go_forward}
use Rattle.sva_open_laws.proofs.ends.texts_go_forward.Goals as goal

pub returns : goal.returns
returns c = texts_go_forward
