use Rattle.std.specs.Prelude.{refl}
use Rattle.sva_model.specs.Words.{lowest, any_below, all_below, count_below, select, tabulate}
use Rattle.sva_labels.specs.Host.{replies_of}
use Rattle.sva_refinement.specs.ByLabels.{counts_after}
use Rattle.sva_refinement.proofs.by_labels.invalidations_by_labels.Goals as goal

pub returns : goal.returns
unfolding lowest any_below all_below count_below select tabulate replies_of counts_after
returns c =
    record {
      count_of_eight = (refl, refl);
      one_vector_for_three = (refl, refl);
      all_tags_busy = (refl, refl);
      unbind_stage_by_stage = (refl, refl);
      unmap_while_invalidating = (refl, refl);
    }
