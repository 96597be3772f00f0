use Rattle.std.specs.Prelude.{refl}
use Rattle.sva_model.specs.Words.{lowest, any_below, all_below, count_below, select, tabulate}
use Rattle.sva_labels.specs.Host.{replies_of}
use Rattle.sva_refinement.specs.ByLabels.{counts_after}
use Rattle.sva_refinement.proofs.by_labels.own_causes_by_labels.Goals as goal

pub returns : goal.returns
unfolding lowest any_below all_below count_below select tabulate replies_of counts_after
returns c =
    record {
      full_queue_of_ranges = (refl, refl);
      open_beside_a_reset = (refl, refl);
      quiet_beside_a_reset = (refl, refl);
      read_beside_a_write = (refl, refl);
      lost_beside_a_full_queue = (refl, refl);
      drop_beside_a_job = (refl, refl);
      quit_beside_a_stale_group = (refl, refl);
      room_at_the_second_unit = (refl, refl);
      credit_of_a_dropped_request = (refl, refl);
      bearers_at_three_endpoints = (refl, refl);
      bearer_by_number = (refl, refl);
      greatest_pasid = (refl, refl);
    }
