use Rattle.sva_renumbering.proofs.Equal as equal
use Rattle.sva_renumbering.proofs.Stepping as by_step
use Rattle.sva_renumbering.proofs.always_numbered.Goals as goal

pub returns : goal.returns
returns c = record { first = equal.numbered_first; after = by_step.numbered_after; where_sound = equal.numbered_where_sound }
