use Rattle.std.specs.Prelude.{refl}
use Rattle.sva_model.specs.Words.{lowest, any_below, all_below, count_below, select, tabulate}
use Rattle.sva_labels.specs.Host.{replies_of}
use Rattle.sva_refinement.specs.ByLabels.{counts_after}
use Rattle.sva_refinement.proofs.by_labels.limits_by_labels.Goals as goal

pub returns : goal.returns
unfolding lowest any_below all_below count_below select tabulate replies_of counts_after
returns c =
    record {
      request_tags_spent = (refl, refl);
      use_slots_spent = (refl, refl);
      cache_full = (refl, refl);
      pasids_spent = (refl, refl);
      page_numbers = (refl, refl);
      page_requests_spent = (refl, refl);
      queue_of_sixty_four = (refl, refl);
      spaces_spent = (refl, refl);
      pages_of_an_unmap = (refl, refl);
      numbers_spent_at_the_end = (refl, refl);
    }
