use Rattle.std.proofs.Common.{vec_len}
use Rattle.sva_pasid.proofs.tables.Table.drop.Given as goal

abbrev pub decreases-loop-place : goal.decreases-loop-place
decreases-loop-place l = vec_len l.places
