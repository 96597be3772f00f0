use Rattle.std.specs.Prelude.{refl}
use Rattle.sva_model.specs.Words.{lowest, any_below, all_below, count_below, select, tabulate}
use Rattle.sva_open.specs.Units.{free_itag}
use Rattle.sva_open.specs.World.{parts_opened}
use Rattle.sva_open_laws.specs.AsOpen.{gather}
use Rattle.sva_open_laws.specs.Beside.{moved_by}
use Rattle.sva_open_laws.proofs.runs_beside.Goals as goal

pub returns : goal.returns
unfolding lowest any_below all_below count_below select tabulate gather free_itag parts_opened moved_by
returns c = record { asked = refl; sent = refl; freed = refl; again = refl; reset = refl; awaited = refl; timed = refl }
