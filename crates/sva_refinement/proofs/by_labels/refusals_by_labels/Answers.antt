use Rattle.std.specs.Prelude.{refl}
use Rattle.sva_model.specs.Words.{lowest, any_below, all_below, count_below, select, tabulate}
use Rattle.sva_labels.specs.Host.{replies_of}
use Rattle.sva_refinement.specs.ByLabels.{counts_after}
use Rattle.sva_refinement.proofs.by_labels.refusals_by_labels.Goals as goal

pub returns : goal.returns
unfolding lowest any_below all_below count_below select tabulate replies_of counts_after
returns c =
    record {
      causes_of_space = (refl, refl);
      causes_of_drop_space = (refl, refl);
      causes_of_map = (refl, refl);
      causes_of_unmap = (refl, refl);
      full_queue_while_stopping = (refl, refl);
      full_queue_while_draining = (refl, refl);
      causes_of_bind = (refl, refl);
      bind_in_reset = (refl, refl);
      causes_of_unbind = (refl, refl);
      unbind_without_numbers = (refl, refl);
      causes_of_advance = (refl, refl);
      causes_at_a_unit = (refl, refl);
      causes_of_workers = (refl, refl);
      causes_of_ask = (refl, refl);
      causes_of_begin_use = (refl, refl);
      causes_of_end_use_and_evict = (refl, refl);
      causes_of_fault = (refl, refl);
      fault_where_disabled = (refl, refl);
      causes_of_finish = (refl, refl);
      causes_of_quit = (refl, refl);
      quit_without_numbers = (refl, refl);
      causes_of_deliver = (refl, refl);
      causes_of_look = (refl, refl);
      no_number_at_all = (refl, refl);
      bindings_spent = (refl, refl);
      cookies_of_two_units = (refl, refl);
      cookies_of_a_range = (refl, refl);
      cookies_while_draining = (refl, refl);
      pump_without_numbers = (refl, refl);
      pump_without_tags_and_numbers = (refl, refl);
      verdicts_without_numbers = (refl, refl);
      dropped_without_numbers = (refl, refl);
      lost_without_numbers = (refl, refl);
    }
