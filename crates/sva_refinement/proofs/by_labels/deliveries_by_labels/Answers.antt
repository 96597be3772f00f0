use Rattle.std.specs.Prelude.{refl}
use Rattle.sva_model.specs.Words.{lowest, any_below, all_below, count_below, select, tabulate}
use Rattle.sva_labels.specs.Host.{replies_of}
use Rattle.sva_refinement.specs.ByLabels.{counts_after}
use Rattle.sva_refinement.proofs.by_labels.deliveries_by_labels.Goals as goal

pub returns : goal.returns
unfolding lowest any_below all_below count_below select tabulate replies_of counts_after
returns c =
    record {
      each_kind_at_an_open_unit = (refl, refl);
      start_and_stop_in_reset = (refl, refl);
      start_before_the_reset = (refl, refl);
      invalidate_in_reset = (refl, refl);
      response_in_reset = (refl, refl);
      stale_response_in_reset = (refl, refl);
      completions_in_reset = (refl, refl);
      completions_at_an_open_unit = (refl, refl);
      doomed_without_translation = (refl, refl);
      cache_full_in_reset = (refl, refl);
      responses_by_code = (refl, refl);
      messages_up_in_reset = (refl, refl);
      vectors_of_two_counts = (refl, refl);
      own_reset = (refl, refl);
    }
