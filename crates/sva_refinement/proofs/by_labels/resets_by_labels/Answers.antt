use Rattle.std.specs.Prelude.{refl}
use Rattle.sva_model.specs.Words.{lowest, any_below, all_below, count_below, select, tabulate}
use Rattle.sva_labels.specs.Host.{replies_of}
use Rattle.sva_refinement.specs.ByLabels.{counts_after}
use Rattle.sva_refinement.proofs.by_labels.resets_by_labels.Goals as goal

pub returns : goal.returns
unfolding lowest any_below all_below count_below select tabulate replies_of counts_after
returns c =
    record {
      silent_endpoint = (refl, refl);
      reset_and_tags = (refl, refl);
      old_job = (refl, refl);
      reset_of_a_live_binding = (refl, refl);
      two_endpoints_one_silent = (refl, refl);
    }
