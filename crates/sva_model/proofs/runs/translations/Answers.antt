use Rattle.std.specs.Prelude.{refl}
use Rattle.sva_model.specs.Words.{lowest, any_below, all_below, count_below, select, tabulate}
use Rattle.sva_model.specs.Steps.{replies}
use Rattle.sva_model.proofs.runs.translations.Goals as goal

pub returns-clause-spaces_and_frames : goal.returns-clause-spaces_and_frames
unfolding lowest any_below all_below count_below select tabulate replies
returns-clause-spaces_and_frames c = (refl, refl)

pub returns-clause-pages_of_a_space : goal.returns-clause-pages_of_a_space
unfolding lowest any_below all_below count_below select tabulate replies
returns-clause-pages_of_a_space c = (refl, refl)

pub returns-clause-two_bindings : goal.returns-clause-two_bindings
unfolding lowest any_below all_below count_below select tabulate replies
returns-clause-two_bindings c = (refl, refl)

pub returns-clause-drop_of_a_space : goal.returns-clause-drop_of_a_space
unfolding lowest any_below all_below count_below select tabulate replies
returns-clause-drop_of_a_space c = (refl, refl)

pub returns-clause-translations : goal.returns-clause-translations
unfolding lowest any_below all_below count_below select tabulate replies
returns-clause-translations c = (refl, refl)

pub returns-clause-first_translation : goal.returns-clause-first_translation
unfolding lowest any_below all_below count_below select tabulate replies
returns-clause-first_translation c = (refl, refl)

pub returns-clause-held_back_by_a_use : goal.returns-clause-held_back_by_a_use
unfolding lowest any_below all_below count_below select tabulate replies
returns-clause-held_back_by_a_use c = (refl, refl)

pub returns-clause-late_answer : goal.returns-clause-late_answer
unfolding lowest any_below all_below count_below select tabulate replies
returns-clause-late_answer c = (refl, refl)

pub returns-clause-answers_crossed : goal.returns-clause-answers_crossed
unfolding lowest any_below all_below count_below select tabulate replies
returns-clause-answers_crossed c = (refl, refl)
