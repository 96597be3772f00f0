use Rattle.std.specs.Prelude.{refl}
use Rattle.sva_model.specs.Words.{lowest, any_below, all_below, count_below, select, tabulate}
use Rattle.sva_labels.specs.Host.{replies_of}
use Rattle.sva_refinement.specs.ByLabels.{counts_after}
use Rattle.sva_refinement.proofs.by_labels.translations_by_labels.Goals as goal

pub returns : goal.returns
unfolding lowest any_below all_below count_below select tabulate replies_of counts_after
returns c =
    record {
      spaces_and_frames = (refl, refl);
      pages_of_a_space = (refl, refl);
      two_bindings = (refl, refl);
      drop_of_a_space = (refl, refl);
      translations = (refl, refl);
      first_translation = (refl, refl);
      held_back_by_a_use = (refl, refl);
      late_answer = (refl, refl);
      answers_crossed = (refl, refl);
    }
