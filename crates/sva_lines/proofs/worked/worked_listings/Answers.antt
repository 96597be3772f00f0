use Rattle.std.specs.Prelude.{refl}
use Rattle.std.specs.Fmt.{digits}
use Rattle.sva_model.specs.Words.{lowest, any_below, all_below, count_below, select, tabulate}
use Rattle.sva_model.specs.Wire.{pages_below}
use Rattle.sva_lines.proofs.worked.worked_listings.Goals as goal

pub returns-clause-pages_mapped : goal.returns-clause-pages_mapped
unfolding digits lowest any_below all_below count_below select tabulate pages_below
returns-clause-pages_mapped c = refl

pub returns-clause-page_unmapped : goal.returns-clause-page_unmapped
unfolding digits lowest any_below all_below count_below select tabulate pages_below
returns-clause-page_unmapped c = refl

pub returns-clause-listed_invalidations : goal.returns-clause-listed_invalidations
unfolding digits lowest any_below all_below count_below select tabulate pages_below
returns-clause-listed_invalidations c = refl

pub returns-clause-listed_groups : goal.returns-clause-listed_groups
unfolding digits lowest any_below all_below count_below select tabulate pages_below
returns-clause-listed_groups c = refl

pub returns-clause-listed_targets : goal.returns-clause-listed_targets
unfolding digits lowest any_below all_below count_below select tabulate pages_below
returns-clause-listed_targets c = refl

pub returns-clause-listed_drain : goal.returns-clause-listed_drain
unfolding digits lowest any_below all_below count_below select tabulate pages_below
returns-clause-listed_drain c = refl

pub returns-clause-listed_ranges : goal.returns-clause-listed_ranges
unfolding digits lowest any_below all_below count_below select tabulate pages_below
returns-clause-listed_ranges c = refl

pub returns-clause-listed_held_back : goal.returns-clause-listed_held_back
unfolding digits lowest any_below all_below count_below select tabulate pages_below
returns-clause-listed_held_back c = refl

pub returns-clause-listed_translations : goal.returns-clause-listed_translations
unfolding digits lowest any_below all_below count_below select tabulate pages_below
returns-clause-listed_translations c = refl

pub returns-clause-listed_stopping : goal.returns-clause-listed_stopping
unfolding digits lowest any_below all_below count_below select tabulate pages_below
returns-clause-listed_stopping c = refl

pub returns-clause-listed_marker : goal.returns-clause-listed_marker
unfolding digits lowest any_below all_below count_below select tabulate pages_below
returns-clause-listed_marker c = refl

pub returns-clause-listed_draining : goal.returns-clause-listed_draining
unfolding digits lowest any_below all_below count_below select tabulate pages_below
returns-clause-listed_draining c = refl

pub returns-clause-listed_invalidating : goal.returns-clause-listed_invalidating
unfolding digits lowest any_below all_below count_below select tabulate pages_below
returns-clause-listed_invalidating c = refl

pub returns-clause-listed_reset : goal.returns-clause-listed_reset
unfolding digits lowest any_below all_below count_below select tabulate pages_below
returns-clause-listed_reset c = refl
