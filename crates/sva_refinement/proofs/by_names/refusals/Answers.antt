use Rattle.std.specs.Prelude.{refl}
use Rattle.sva_model.specs.Words.{lowest, any_below, all_below, count_below, select, tabulate}
use Rattle.sva_model.specs.Steps.{replies}
use Rattle.sva_refinement.proofs.FullSpace.{reached}
use Rattle.sva_refinement.proofs.by_names.refusals.Goals as goal

pub returns-clause-causes_of_space : goal.returns-clause-causes_of_space
unfolding lowest any_below all_below count_below select tabulate replies
returns-clause-causes_of_space c = (refl, refl)

pub returns-clause-causes_of_drop_space : goal.returns-clause-causes_of_drop_space
unfolding lowest any_below all_below count_below select tabulate replies
returns-clause-causes_of_drop_space c = (refl, refl)

pub returns-clause-causes_of_map : goal.returns-clause-causes_of_map
unfolding lowest any_below all_below count_below select tabulate replies
returns-clause-causes_of_map c = (refl, refl)

pub returns-clause-full_space_reached : goal.returns-clause-full_space_reached
returns-clause-full_space_reached c = reached

pub returns-clause-full_space_without_frames : goal.returns-clause-full_space_without_frames
unfolding lowest any_below all_below count_below select tabulate replies
returns-clause-full_space_without_frames c = (refl, refl)

pub returns-clause-full_space_without_numbers : goal.returns-clause-full_space_without_numbers
unfolding lowest any_below all_below count_below select tabulate replies
returns-clause-full_space_without_numbers c = (refl, refl)

pub returns-clause-causes_of_unmap : goal.returns-clause-causes_of_unmap
unfolding lowest any_below all_below count_below select tabulate replies
returns-clause-causes_of_unmap c = (refl, refl)

pub returns-clause-full_queue_while_stopping : goal.returns-clause-full_queue_while_stopping
unfolding lowest any_below all_below count_below select tabulate replies
returns-clause-full_queue_while_stopping c = (refl, refl)

pub returns-clause-full_queue_while_draining : goal.returns-clause-full_queue_while_draining
unfolding lowest any_below all_below count_below select tabulate replies
returns-clause-full_queue_while_draining c = (refl, refl)

pub returns-clause-causes_of_bind : goal.returns-clause-causes_of_bind
unfolding lowest any_below all_below count_below select tabulate replies
returns-clause-causes_of_bind c = (refl, refl)

pub returns-clause-bind_in_reset : goal.returns-clause-bind_in_reset
unfolding lowest any_below all_below count_below select tabulate replies
returns-clause-bind_in_reset c = (refl, refl)

pub returns-clause-causes_of_unbind : goal.returns-clause-causes_of_unbind
unfolding lowest any_below all_below count_below select tabulate replies
returns-clause-causes_of_unbind c = (refl, refl)

pub returns-clause-unbind_without_numbers : goal.returns-clause-unbind_without_numbers
unfolding lowest any_below all_below count_below select tabulate replies
returns-clause-unbind_without_numbers c = (refl, refl)

pub returns-clause-causes_of_advance : goal.returns-clause-causes_of_advance
unfolding lowest any_below all_below count_below select tabulate replies
returns-clause-causes_of_advance c = (refl, refl)

pub returns-clause-causes_at_a_unit : goal.returns-clause-causes_at_a_unit
unfolding lowest any_below all_below count_below select tabulate replies
returns-clause-causes_at_a_unit c = (refl, refl)

pub returns-clause-causes_of_workers : goal.returns-clause-causes_of_workers
unfolding lowest any_below all_below count_below select tabulate replies
returns-clause-causes_of_workers c = (refl, refl)

pub returns-clause-causes_of_ask : goal.returns-clause-causes_of_ask
unfolding lowest any_below all_below count_below select tabulate replies
returns-clause-causes_of_ask c = (refl, refl)

pub returns-clause-causes_of_begin_use : goal.returns-clause-causes_of_begin_use
unfolding lowest any_below all_below count_below select tabulate replies
returns-clause-causes_of_begin_use c = (refl, refl)

pub returns-clause-causes_of_end_use_and_evict : goal.returns-clause-causes_of_end_use_and_evict
unfolding lowest any_below all_below count_below select tabulate replies
returns-clause-causes_of_end_use_and_evict c = (refl, refl)

pub returns-clause-causes_of_fault : goal.returns-clause-causes_of_fault
unfolding lowest any_below all_below count_below select tabulate replies
returns-clause-causes_of_fault c = (refl, refl)

pub returns-clause-fault_where_disabled : goal.returns-clause-fault_where_disabled
unfolding lowest any_below all_below count_below select tabulate replies
returns-clause-fault_where_disabled c = (refl, refl)

pub returns-clause-causes_of_finish : goal.returns-clause-causes_of_finish
unfolding lowest any_below all_below count_below select tabulate replies
returns-clause-causes_of_finish c = (refl, refl)

pub returns-clause-causes_of_quit : goal.returns-clause-causes_of_quit
unfolding lowest any_below all_below count_below select tabulate replies
returns-clause-causes_of_quit c = (refl, refl)

pub returns-clause-quit_without_numbers : goal.returns-clause-quit_without_numbers
unfolding lowest any_below all_below count_below select tabulate replies
returns-clause-quit_without_numbers c = (refl, refl)

pub returns-clause-causes_of_deliver : goal.returns-clause-causes_of_deliver
unfolding lowest any_below all_below count_below select tabulate replies
returns-clause-causes_of_deliver c = (refl, refl)

pub returns-clause-causes_of_look : goal.returns-clause-causes_of_look
unfolding lowest any_below all_below count_below select tabulate replies
returns-clause-causes_of_look c = (refl, refl)

pub returns-clause-no_number_at_all : goal.returns-clause-no_number_at_all
unfolding lowest any_below all_below count_below select tabulate replies
returns-clause-no_number_at_all c = (refl, refl)

pub returns-clause-bindings_spent : goal.returns-clause-bindings_spent
unfolding lowest any_below all_below count_below select tabulate replies
returns-clause-bindings_spent c = (refl, refl)

pub returns-clause-cookies_of_two_units : goal.returns-clause-cookies_of_two_units
unfolding lowest any_below all_below count_below select tabulate replies
returns-clause-cookies_of_two_units c = (refl, refl)

pub returns-clause-cookies_of_a_range : goal.returns-clause-cookies_of_a_range
unfolding lowest any_below all_below count_below select tabulate replies
returns-clause-cookies_of_a_range c = (refl, refl)

pub returns-clause-cookies_while_draining : goal.returns-clause-cookies_while_draining
unfolding lowest any_below all_below count_below select tabulate replies
returns-clause-cookies_while_draining c = (refl, refl)

pub returns-clause-pump_without_numbers : goal.returns-clause-pump_without_numbers
unfolding lowest any_below all_below count_below select tabulate replies
returns-clause-pump_without_numbers c = (refl, refl)

pub returns-clause-pump_without_tags_and_numbers : goal.returns-clause-pump_without_tags_and_numbers
unfolding lowest any_below all_below count_below select tabulate replies
returns-clause-pump_without_tags_and_numbers c = (refl, refl)

pub returns-clause-verdicts_without_numbers : goal.returns-clause-verdicts_without_numbers
unfolding lowest any_below all_below count_below select tabulate replies
returns-clause-verdicts_without_numbers c = (refl, refl)

pub returns-clause-dropped_without_numbers : goal.returns-clause-dropped_without_numbers
unfolding lowest any_below all_below count_below select tabulate replies
returns-clause-dropped_without_numbers c = (refl, refl)

pub returns-clause-lost_without_numbers : goal.returns-clause-lost_without_numbers
unfolding lowest any_below all_below count_below select tabulate replies
returns-clause-lost_without_numbers c = (refl, refl)
