use Rattle.sva_parts_by_labels.proofs.Bindings.{bindings_are_seen}
use Rattle.sva_parts_by_labels.proofs.binding_laws.Goals as goal

pub returns : goal.returns
returns c = bindings_are_seen
