use Rattle.std.specs.Prelude.{refl}
use Rattle.sva_model.specs.Words.{lowest, any_below, all_below, count_below, select, tabulate}
use Rattle.sva_labels.specs.Host.{replies_of}
use Rattle.sva_refinement.specs.ByLabels.{counts_after}
use Rattle.sva_refinement.proofs.by_labels.boundaries_by_labels.Goals as goal

pub returns : goal.returns
unfolding lowest any_below all_below count_below select tabulate replies_of counts_after
returns c =
    record {
      messages_spent_before_bindings = (refl, refl);
      last_number_of_a_reset = (refl, refl);
      last_number_of_a_completion = (refl, refl);
      last_cookie_of_a_drain = (refl, refl);
      last_cookie_of_an_invalidation = (refl, refl);
      no_cookie_in_reset = (refl, refl);
      quiet_needs_no_room = (refl, refl);
      greatest_page = (refl, refl);
      held_before_writable = (refl, refl);
      last_slot_and_last_tag = (refl, refl);
      stages_in_reset = (refl, refl);
      unmap_in_each_stage = (refl, refl);
      unmap_while_stopping_in_reset = (refl, refl);
      waits_after_an_early_reset = (refl, refl);
      credit_after_a_reset = (refl, refl);
      orders_over_after_a_reset = (refl, refl);
      labels_back_in_reset = (refl, refl);
    }
