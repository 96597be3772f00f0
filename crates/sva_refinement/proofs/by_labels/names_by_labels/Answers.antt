use Rattle.std.specs.Prelude.{refl}
use Rattle.sva_model.specs.Words.{lowest, any_below, all_below, count_below, select, tabulate}
use Rattle.sva_labels.specs.Host.{replies_of}
use Rattle.sva_refinement.specs.ByLabels.{counts_after}
use Rattle.sva_refinement.proofs.by_labels.names_by_labels.Goals as goal

pub returns : goal.returns
unfolding lowest any_below all_below count_below select tabulate replies_of counts_after
returns c =
    record {
      numbers_apart = (refl, refl);
      numbers_below_the_first = (refl, refl);
      quit_of_one_of_two = (refl, refl);
      second_job_of_an_endpoint = (refl, refl);
      full_queue_of_a_binding = (refl, refl);
      past_older_messages = (refl, refl);
      newer_answer_in_place = (refl, refl);
      second_unmap = (refl, refl);
      tags_given_back = (refl, refl);
    }
