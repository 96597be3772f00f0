-- Runs that are worked out, by labels: from what a host keeps before the first step, the steps by labels give the answers that
-- stand in each row of the definitions, and leave as many frames free, mapped and withheld as stand at its end.
use Rattle.std.specs.Prelude.{◌≡◌, ℕ, Bool, true, false, List, [], ◌∷◌, ◌++◌, map}
use Rattle.std.specs.List.{count_by}
use Rattle.sva_step.specs.declared.limits.Config.{Config}
use Rattle.sva_step.specs.declared.steps.Step.{Step}
use Rattle.sva_model.specs.Runs.{Line, steps_of, config}
use Rattle.sva_model.specs.Steps.{Counts}
use Rattle.sva_model.specs.Wire.{Wire, PlaceWire}
use Rattle.sva_model.specs.Wire.PlaceWire.{MappedWire, WithheldWire}
use Rattle.sva_model.specs.RunsOfTranslations as of_translations
use Rattle.sva_model.specs.RunsOfInvalidations as of_invalidations
use Rattle.sva_model.specs.RunsOfResets as of_resets
use Rattle.sva_model.specs.RunsOfPageRequests as of_page_requests
use Rattle.sva_model.specs.RunsOfFinalRules as of_final_rules
use Rattle.sva_refinement.specs.RunsOfDeliveries as of_deliveries
use Rattle.sva_refinement.specs.RunsOfRefusals as of_refusals
use Rattle.sva_refinement.specs.RunsOfSpentNumbers as of_spent_numbers
use Rattle.sva_refinement.specs.RunsOfReadings as of_readings
use Rattle.sva_refinement.specs.RunsOfLinkOrder as of_link_order
use Rattle.sva_refinement.specs.RunsOfGroups as of_groups
use Rattle.sva_model.specs.RunsOfLimits as of_limits
use Rattle.sva_refinement.specs.RunsOfBoundaries as of_boundaries
use Rattle.sva_refinement.specs.RunsOfStages as of_stages
use Rattle.sva_refinement.specs.RunsOfNames as of_names
use Rattle.sva_refinement.specs.RunsOfNumbersApart as of_numbers_apart
use Rattle.sva_refinement.specs.RunsOfWrongRules as of_wrong_rules
use Rattle.sva_refinement.specs.RunsOfEarlyReuse as of_early_reuse
use Rattle.sva_refinement.specs.RunsOfWhatStays as of_what_stays
use Rattle.sva_refinement.specs.RunsOfOwnCauses as of_own_causes
use Rattle.sva_refinement.specs.WiresInReset as of_wires
use Rattle.sva_labels.specs.Finding.{is_free}
use Rattle.sva_labels.specs.Host.{first_wire, next_of, replies_of}

-- is the frame at a page of a space?
abbrev pub is_at_a_page : PlaceWire → Bool
is_at_a_page MappedWire = true
is_at_a_page _ = false

-- is the frame withheld, since an endpoint hasn't answered?
abbrev pub is_withheld : PlaceWire → Bool
is_withheld (WithheldWire targets) = true
is_withheld _ = false

-- how many of the frames at these places are free, mapped and withheld
abbrev pub counts_in : List PlaceWire → Counts
counts_in places = record { free = count_by is_free places; mapped = count_by is_at_a_page places; withheld = count_by is_withheld places }

-- the counts after a list of steps; unfolded step by step, as the answers are, it is computed quickly
unfoldable pub counts_after : Wire → List Step → Counts
counts_after wire [] = counts_in wire.places
counts_after wire (step ∷ steps) = counts_after (next_of wire step) steps

-- the answers, and the counts of frames at the end
abbrev pub IsRunByLabels : Config → List Line → (free mapped withheld : ℕ) → Type 0
IsRunByLabels config row free mapped withheld =
    (replies_of (first_wire config) (steps_of row) ≡ map (λ line. line.reply) row)
    × (counts_after (first_wire config) (steps_of row) ≡ record { free = free; mapped = mapped; withheld = withheld })

-- Spaces, bindings, translations, and pages unmapped while they are in use.
pub record TranslationsByLabels : Type 0 where
  pub spaces_and_frames : IsRunByLabels (config 1 4 1 0) of_translations.spaces_and_frames 3 1 0
  pub pages_of_a_space : IsRunByLabels (config 1 4 1 0) of_translations.pages_of_a_space 3 1 0
  pub two_bindings : IsRunByLabels (config 1 4 1 0) of_translations.two_bindings 4 0 0
  pub drop_of_a_space : IsRunByLabels (config 1 4 1 0) of_translations.drop_of_a_space 4 0 0
  pub translations : IsRunByLabels (config 1 4 1 0) of_translations.translations 3 1 0
  pub first_translation : IsRunByLabels (config 1 4 1 0) of_translations.first_translation 3 0 1
  pub held_back_by_a_use : IsRunByLabels (config 1 4 1 0) of_translations.held_back_by_a_use 3 1 0
  pub late_answer : IsRunByLabels (config 1 4 1 0) of_translations.late_answer 4 0 0
  pub answers_crossed : IsRunByLabels (config 1 4 1 0) of_translations.answers_crossed 2 1 1

-- Invalidations, their tags and completions, and bindings that are taken back.
pub record InvalidationsByLabels : Type 0 where
  pub count_of_eight : IsRunByLabels (config 1 4 1 0) of_invalidations.count_of_eight 4 0 0
  pub one_vector_for_three : IsRunByLabels (config 1 64 1 0) of_invalidations.one_vector_for_three 60 0 4
  pub all_tags_busy : IsRunByLabels (config 1 64 1 0) of_invalidations.all_tags_busy 24 0 40
  pub unbind_stage_by_stage : IsRunByLabels (config 1 4 1 0) of_invalidations.unbind_stage_by_stage 4 0 0
  pub unmap_while_invalidating : IsRunByLabels (config 1 4 1 0) of_invalidations.unmap_while_invalidating 4 0 0

-- Function level resets and endpoints that are silent.
pub record ResetsByLabels : Type 0 where
  pub silent_endpoint : IsRunByLabels (config 1 4 1 0) of_resets.silent_endpoint 4 0 0
  pub reset_and_tags : IsRunByLabels (config 1 4 1 0) of_resets.reset_and_tags 3 0 1
  pub old_job : IsRunByLabels (config 1 4 1 0) of_resets.old_job 3 1 0
  pub reset_of_a_live_binding : IsRunByLabels (config 1 4 1 0) of_resets.reset_of_a_live_binding 4 0 0
  pub two_endpoints_one_silent : IsRunByLabels (config 2 4 1 0) of_resets.two_endpoints_one_silent 4 0 0

-- Page requests, their groups, jobs and responses.
pub record PageRequestsByLabels : Type 0 where
  pub page_request_group : IsRunByLabels (config 1 4 1 0) of_page_requests.page_request_group 2 2 0
  pub stale_group : IsRunByLabels (config 1 4 1 0) of_page_requests.stale_group 4 0 0
  pub drain_of_two_requests : IsRunByLabels (config 1 4 1 0) of_page_requests.drain_of_two_requests 4 0 0
  pub verdicts : IsRunByLabels (config 1 1 1 0) of_page_requests.verdicts 0 1 0

-- Ranges of pages, and one PASID for each space.
pub record FinalRulesByLabels : Type 0 where
  pub range_of_eight : IsRunByLabels (config 1 8 1 0) of_final_rules.range_of_eight 7 1 0
  pub causes_of_unmap_range : IsRunByLabels (config 1 2 1 0) of_final_rules.causes_of_unmap_range 2 0 0
  pub one_pasid_for_each_space : IsRunByLabels (config 2 4 1 0) of_final_rules.one_pasid_for_each_space 4 0 0

-- What each delivery answers.
pub record DeliveriesByLabels : Type 0 where
  pub each_kind_at_an_open_unit : IsRunByLabels (config 1 1 1 0) of_page_requests.each_kind_at_an_open_unit 1 0 0
  pub start_and_stop_in_reset : IsRunByLabels (config 1 1 1 0) of_deliveries.start_and_stop_in_reset 1 0 0
  pub start_before_the_reset : IsRunByLabels (config 1 1 1 0) of_deliveries.start_before_the_reset 0 1 0
  pub invalidate_in_reset : IsRunByLabels (config 1 1 1 0) of_deliveries.invalidate_in_reset 1 0 0
  pub response_in_reset : IsRunByLabels (config 1 1 1 0) of_deliveries.response_in_reset 1 0 0
  pub stale_response_in_reset : IsRunByLabels (config 1 1 1 0) of_deliveries.stale_response_in_reset 1 0 0
  pub completions_in_reset : IsRunByLabels (config 1 2 1 0) of_deliveries.completions_in_reset 1 1 0
  pub completions_at_an_open_unit : IsRunByLabels (config 1 2 1 0) of_deliveries.completions_at_an_open_unit 1 0 1
  pub doomed_without_translation : IsRunByLabels (config 1 1 1 0) of_deliveries.doomed_without_translation 0 0 1
  pub cache_full_in_reset : IsRunByLabels (config 1 66 1 0) of_deliveries.cache_full_in_reset 0 66 0
  pub responses_by_code : IsRunByLabels (config 1 1 1 0) of_deliveries.responses_by_code 0 1 0
  pub messages_up_in_reset : IsRunByLabels (config 1 1 1 0) of_deliveries.messages_up_in_reset 1 0 0
  pub vectors_of_two_counts : IsRunByLabels (config 1 3 1 0) of_deliveries.vectors_of_two_counts 3 0 0
  pub own_reset : IsRunByLabels (config 1 2 1 0) of_deliveries.own_reset 1 1 0

-- The causes of each step.
pub record RefusalsByLabels : Type 0 where
  pub causes_of_space : IsRunByLabels (config 1 1 1 9223372036854775744) of_refusals.causes_of_space 1 0 0
  pub causes_of_drop_space : IsRunByLabels (config 1 1 1 0) of_refusals.causes_of_drop_space 1 0 0
  pub causes_of_map : IsRunByLabels (config 1 1 1 0) of_refusals.causes_of_map 0 1 0
  pub causes_of_unmap : IsRunByLabels (config 1 2 1 0) of_refusals.causes_of_unmap 1 1 0
  pub full_queue_while_stopping : IsRunByLabels (config 1 33 1 9223372036854775776) of_refusals.full_queue_while_stopping 0 1 32
  pub full_queue_while_draining : IsRunByLabels (config 1 33 1 9223372036854775775) of_refusals.full_queue_while_draining 1 1 31
  pub causes_of_bind : IsRunByLabels (config 2 1 1 9223372036854775775) of_refusals.causes_of_bind 1 0 0
  pub bind_in_reset : IsRunByLabels (config 1 1 1 0) of_refusals.bind_in_reset 1 0 0
  pub causes_of_unbind : IsRunByLabels (config 1 1 1 0) of_refusals.causes_of_unbind 1 0 0
  pub unbind_without_numbers : IsRunByLabels (config 1 1 1 9223372036854775806) of_spent_numbers.unbind_without_numbers 1 0 0
  pub causes_of_advance : IsRunByLabels (config 1 1 1 0) of_refusals.causes_of_advance 1 0 0
  pub causes_at_a_unit : IsRunByLabels (config 1 1 1 9223372036854775807) of_refusals.causes_at_a_unit 1 0 0
  pub causes_of_workers : IsRunByLabels (config 1 1 1 9223372036854775805) of_refusals.causes_of_workers 0 0 1
  pub causes_of_ask : IsRunByLabels (config 1 1 1 9223372036854775775) of_refusals.causes_of_ask 1 0 0
  pub causes_of_begin_use : IsRunByLabels (config 1 1 1 0) of_refusals.causes_of_begin_use 0 1 0
  pub causes_of_end_use_and_evict : IsRunByLabels (config 1 1 1 0) of_refusals.causes_of_end_use_and_evict 0 1 0
  pub causes_of_fault : IsRunByLabels (config 1 1 1 9223372036854775775) of_refusals.causes_of_fault 1 0 0
  pub fault_where_disabled : IsRunByLabels (config 1 1 1 9223372036854775805) of_refusals.fault_where_disabled 1 0 0
  pub causes_of_finish : IsRunByLabels (config 1 2 1 9223372036854775801) of_refusals.causes_of_finish 0 0 2
  pub causes_of_quit : IsRunByLabels (config 1 1 1 9223372036854775805) of_refusals.causes_of_quit 1 0 0
  pub quit_without_numbers : IsRunByLabels (config 1 1 1 9223372036854775806) of_spent_numbers.quit_without_numbers 1 0 0
  pub causes_of_deliver : IsRunByLabels (config 1 1 1 9223372036854775806) of_refusals.causes_of_deliver 1 0 0
  pub causes_of_look : IsRunByLabels (config 1 4 1 0) of_refusals.causes_of_look 4 0 0
  pub no_number_at_all : IsRunByLabels (config 1 1 1 9223372036854775808) of_spent_numbers.no_number_at_all 1 0 0
  pub bindings_spent : IsRunByLabels (config 2 1 1 9223372036854775807) of_spent_numbers.bindings_spent 1 0 0
  pub cookies_of_two_units : IsRunByLabels (config 2 3 1 9223372036854775805) of_spent_numbers.cookies_of_two_units 0 1 2
  pub cookies_of_a_range : IsRunByLabels (config 2 2 1 9223372036854775805) of_spent_numbers.cookies_of_a_range 0 1 1
  pub cookies_while_draining : IsRunByLabels (config 1 2 1 9223372036854775805) of_spent_numbers.cookies_while_draining 0 0 2
  pub pump_without_numbers : IsRunByLabels (config 1 1 1 9223372036854775805) of_spent_numbers.pump_without_numbers 1 0 0
  pub pump_without_tags_and_numbers : IsRunByLabels (config 1 33 1 9223372036854775775) of_spent_numbers.pump_without_tags_and_numbers 0 0 33
  pub verdicts_without_numbers : IsRunByLabels (config 1 1 1 9223372036854775806) of_spent_numbers.verdicts_without_numbers 0 1 0
  pub dropped_without_numbers : IsRunByLabels (config 1 1 1 9223372036854775804) of_spent_numbers.dropped_without_numbers 1 0 0
  pub lost_without_numbers : IsRunByLabels (config 1 1 1 9223372036854775804) of_spent_numbers.lost_without_numbers 1 0 0

-- What is easily read otherwise.
pub record ReadingsByLabels : Type 0 where
  pub last_request_past_a_marker : IsRunByLabels (config 1 4 1 0) of_link_order.last_request_past_a_marker 4 0 0
  pub marker_past_a_marker : IsRunByLabels (config 1 4 1 0) of_link_order.marker_past_a_marker 4 0 0
  pub request_without_l_is_not_ordered : IsRunByLabels (config 1 1 1 0) of_link_order.request_without_l_is_not_ordered 1 0 0
  pub advance_of_a_live_binding : IsRunByLabels (config 1 4 1 0) of_readings.advance_of_a_live_binding 4 0 0
  pub advance_of_a_lost_binding : IsRunByLabels (config 1 4 1 0) of_readings.advance_of_a_lost_binding 4 0 0
  pub one_number_of_each_kind : IsRunByLabels (config 1 4 1 9223372036854775807) of_readings.one_number_of_each_kind 2 1 1
  pub unmap_past_the_last_page : IsRunByLabels (config 1 4 1 0) of_readings.unmap_past_the_last_page 4 0 0
  pub unmap_while_drained_in_reset : IsRunByLabels (config 1 4 1 0) of_readings.unmap_while_drained_in_reset 4 0 0
  pub unmap_while_invalidating_in_reset : IsRunByLabels (config 1 1 1 0) of_readings.unmap_while_invalidating_in_reset 1 0 0
  pub unmap_after_the_invalidation : IsRunByLabels (config 1 2 1 0) of_readings.unmap_after_the_invalidation 2 0 0
  pub page_named_twice : IsRunByLabels (config 1 1 1 0) of_groups.page_named_twice 0 1 0
  pub page_request_for_neither : IsRunByLabels (config 1 1 1 0) of_groups.page_request_for_neither 0 1 0
  pub other_verdicts_need_no_frame : IsRunByLabels (config 1 1 1 0) of_groups.other_verdicts_need_no_frame 0 1 0
  pub success_that_is_none : IsRunByLabels (config 1 1 2 0) of_groups.success_that_is_none 0 1 0
  pub job_of_a_lost_binding : IsRunByLabels (config 1 1 2 0) of_groups.job_of_a_lost_binding 1 0 0
  pub drain_waits_for_other_pasids : IsRunByLabels (config 1 1 1 0) of_groups.drain_waits_for_other_pasids 1 0 0
  pub wait_of_an_unmap_does_not_drain : IsRunByLabels (config 1 1 1 0) of_groups.wait_of_an_unmap_does_not_drain 1 0 0
  pub stale_groups_keep_their_requests : IsRunByLabels (config 1 1 1 0) of_groups.stale_groups_keep_their_requests 1 0 0
  pub unfinished_where_disabled : IsRunByLabels (config 1 1 1 0) of_groups.unfinished_where_disabled 1 0 0
  pub unfinished_without_credit : IsRunByLabels (config 1 1 1 0) of_groups.unfinished_without_credit 1 0 0
  pub group_while_stopping : IsRunByLabels (config 1 1 1 0) of_groups.group_while_stopping 1 0 0
  pub group_of_another_pasid : IsRunByLabels (config 1 1 1 0) of_groups.group_of_another_pasid 1 0 0
  pub second_reset : IsRunByLabels (config 1 2 1 0) of_readings.second_reset 2 0 0
  pub doomed_requests_are_out : IsRunByLabels (config 1 1 1 0) of_readings.doomed_requests_are_out 0 0 1
  pub failure_before_the_stop : IsRunByLabels (config 1 1 1 0) of_link_order.failure_before_the_stop 1 0 0
  pub earlier_waits_in_reset : IsRunByLabels (config 1 1 1 0) of_readings.earlier_waits_in_reset 1 0 0
  pub orders_down_stay_in_order : IsRunByLabels (config 1 1 1 0) of_link_order.orders_down_stay_in_order 0 0 1
  pub stop_behind_an_invalidate : IsRunByLabels (config 1 1 1 0) of_link_order.stop_behind_an_invalidate 0 0 1

-- The limits of the tables and of the numbers.
pub record LimitsByLabels : Type 0 where
  pub request_tags_spent : IsRunByLabels (config 1 80 1 0) of_limits.request_tags_spent 14 66 0
  pub use_slots_spent : IsRunByLabels (config 1 80 1 0) of_limits.use_slots_spent 14 66 0
  pub cache_full : IsRunByLabels (config 1 80 1 0) of_limits.cache_full 14 66 0
  pub pasids_spent : IsRunByLabels (config 1 4 1 0) of_limits.pasids_spent 4 0 0
  pub page_numbers : IsRunByLabels (config 1 4 1 0) of_limits.page_numbers 3 1 0
  pub page_requests_spent : IsRunByLabels (config 1 4 1 0) of_limits.page_requests_spent 4 0 0
  pub queue_of_sixty_four : IsRunByLabels (config 1 63 1 0) of_limits.queue_of_sixty_four 0 1 62
  pub spaces_spent : IsRunByLabels (config 1 4 1 0) of_limits.spaces_spent 4 0 0
  pub pages_of_an_unmap : IsRunByLabels (config 1 4 1 0) of_limits.pages_of_an_unmap 4 0 0
  pub numbers_spent_at_the_end : IsRunByLabels (config 1 4 1 9223372036854775807) of_limits.numbers_spent_at_the_end 4 0 0

-- The last that is accepted before a limit.
pub record BoundariesByLabels : Type 0 where
  pub messages_spent_before_bindings : IsRunByLabels (config 1 1 1 9223372036854775806) of_boundaries.messages_spent_before_bindings 1 0 0
  pub last_number_of_a_reset : IsRunByLabels (config 1 1 1 9223372036854775805) of_boundaries.last_number_of_a_reset 1 0 0
  pub last_number_of_a_completion : IsRunByLabels (config 1 1 1 9223372036854775805) of_boundaries.last_number_of_a_completion 1 0 0
  pub last_cookie_of_a_drain : IsRunByLabels (config 1 3 1 9223372036854775805) of_boundaries.last_cookie_of_a_drain 0 1 2
  pub last_cookie_of_an_invalidation : IsRunByLabels (config 1 2 1 9223372036854775805) of_boundaries.last_cookie_of_an_invalidation 0 0 2
  pub no_cookie_in_reset : IsRunByLabels (config 1 3 1 9223372036854775806) of_boundaries.no_cookie_in_reset 0 0 3
  pub quiet_needs_no_room : IsRunByLabels (config 1 61 1 0) of_boundaries.quiet_needs_no_room 0 0 61
  pub greatest_page : IsRunByLabels (config 1 1 1 0) of_boundaries.greatest_page 0 0 1
  pub held_before_writable : IsRunByLabels (config 1 1 1 0) of_boundaries.held_before_writable 0 1 0
  pub last_slot_and_last_tag : IsRunByLabels (config 1 33 1 0) of_boundaries.last_slot_and_last_tag 0 1 32
  pub stages_in_reset : IsRunByLabels (config 1 1 1 0) of_stages.stages_in_reset 1 0 0
  pub unmap_in_each_stage : IsRunByLabels (config 1 6 1 0) of_stages.unmap_in_each_stage 3 3 0
  pub unmap_while_stopping_in_reset : IsRunByLabels (config 1 2 1 0) of_stages.unmap_while_stopping_in_reset 2 0 0
  pub waits_after_an_early_reset : IsRunByLabels (config 1 1 1 0) of_stages.waits_after_an_early_reset 1 0 0
  pub credit_after_a_reset : IsRunByLabels (config 1 1 1 0) of_stages.credit_after_a_reset 1 0 0
  pub orders_over_after_a_reset : IsRunByLabels (config 1 4 1 0) of_stages.orders_over_after_a_reset 4 0 0
  pub labels_back_in_reset : IsRunByLabels (config 1 1 1 0) of_stages.labels_back_in_reset 0 1 0

-- Numbers that differ from kind to kind.
pub record NamesByLabels : Type 0 where
  pub numbers_apart : IsRunByLabels (config 3 8 3 100) of_numbers_apart.numbers_apart 7 1 0
  pub numbers_below_the_first : IsRunByLabels (config 1 2 1 5) of_names.numbers_below_the_first 1 1 0
  pub quit_of_one_of_two : IsRunByLabels (config 1 2 1 0) of_names.quit_of_one_of_two 1 1 0
  pub second_job_of_an_endpoint : IsRunByLabels (config 2 8 2 0) of_names.second_job_of_an_endpoint 1 7 0
  pub full_queue_of_a_binding : IsRunByLabels (config 2 62 1 0) of_names.full_queue_of_a_binding 0 0 62
  pub past_older_messages : IsRunByLabels (config 1 2 1 0) of_names.past_older_messages 0 1 1
  pub newer_answer_in_place : IsRunByLabels (config 1 2 1 0) of_names.newer_answer_in_place 0 1 1
  pub second_unmap : IsRunByLabels (config 1 4 1 0) of_names.second_unmap 4 0 0
  pub tags_given_back : IsRunByLabels (config 1 5 1 0) of_names.tags_given_back 0 0 5

-- What wrong rules would answer otherwise.
pub record WrongRulesByLabels : Type 0 where
  pub not_free_when_sent : IsRunByLabels (config 1 2 1 0) of_early_reuse.not_free_when_sent 0 1 1
  pub not_free_when_taken : IsRunByLabels (config 1 2 1 0) of_early_reuse.not_free_when_taken 0 1 1
  pub not_free_at_the_reset : IsRunByLabels (config 1 2 1 0) of_early_reuse.not_free_at_the_reset 1 1 0
  pub not_free_when_unmapped_in_reset : IsRunByLabels (config 1 2 1 0) of_early_reuse.not_free_when_unmapped_in_reset 1 1 0
  pub not_freed_at_the_first_of_two : IsRunByLabels (config 1 2 1 0) of_early_reuse.not_freed_at_the_first_of_two 2 0 0
  pub not_none_of_eight : IsRunByLabels (config 1 2 1 0) of_early_reuse.not_none_of_eight 2 0 0
  pub doomed_answer_not_kept : IsRunByLabels (config 1 2 1 0) of_early_reuse.doomed_answer_not_kept 2 0 0
  pub doomed_answer_not_kept_later : IsRunByLabels (config 1 2 1 0) of_early_reuse.doomed_answer_not_kept_later 1 1 0
  pub doomed_tag_not_given_back : IsRunByLabels (config 1 2 1 0) of_early_reuse.doomed_tag_not_given_back 1 0 1
  pub not_finished_while_a_use_runs : IsRunByLabels (config 1 2 1 0) of_wrong_rules.not_finished_while_a_use_runs 2 0 0
  pub no_use_held_against_another : IsRunByLabels (config 1 4 1 0) of_wrong_rules.no_use_held_against_another 0 3 1
  pub no_drain_past_a_page_request : IsRunByLabels (config 1 2 1 0) of_wrong_rules.no_drain_past_a_page_request 2 0 0
  pub no_response_by_an_unbind : IsRunByLabels (config 1 2 1 0) of_wrong_rules.no_response_by_an_unbind 2 0 0
  pub no_response_in_reset : IsRunByLabels (config 1 2 1 0) of_wrong_rules.no_response_in_reset 2 0 0
  pub not_withheld_past_the_last_wait : IsRunByLabels (config 1 2 1 0) of_early_reuse.not_withheld_past_the_last_wait 1 1 0
  pub no_page_invalidation_while_invalidating : IsRunByLabels (config 1 2 1 0) of_wrong_rules.no_page_invalidation_while_invalidating 2 0 0
  pub not_free_while_invalidating : IsRunByLabels (config 1 2 1 0) of_early_reuse.not_free_while_invalidating 0 1 1
  pub no_reset_done_past_older_messages : IsRunByLabels (config 1 2 1 0) of_wrong_rules.no_reset_done_past_older_messages 2 0 0
  pub not_released_while_invalidating : IsRunByLabels (config 1 2 1 0) of_early_reuse.not_released_while_invalidating 1 1 0
  pub not_released_while_quiet : IsRunByLabels (config 1 2 1 0) of_early_reuse.not_released_while_quiet 2 0 0
  pub no_marker_past_page_requests : IsRunByLabels (config 1 2 1 0) of_wrong_rules.no_marker_past_page_requests 2 0 0
  pub no_wait_past_a_busy_tag : IsRunByLabels (config 1 2 1 0) of_wrong_rules.no_wait_past_a_busy_tag 1 0 1
  pub no_use_left_by_a_reset : IsRunByLabels (config 1 2 1 0) of_early_reuse.no_use_left_by_a_reset 2 0 0
  pub no_index_given_back_by_a_quit : IsRunByLabels (config 1 2 1 0) of_early_reuse.no_index_given_back_by_a_quit 2 0 0
  pub no_quit_while_a_use_runs : IsRunByLabels (config 1 2 1 0) of_wrong_rules.no_quit_while_a_use_runs 1 1 0
  pub no_quit_while_a_request_is_out : IsRunByLabels (config 1 2 1 0) of_wrong_rules.no_quit_while_a_request_is_out 2 0 0
  pub no_translation_while_stopping : IsRunByLabels (config 1 2 1 0) of_wrong_rules.no_translation_while_stopping 1 1 0
  pub no_translation_of_another_space : IsRunByLabels (config 1 2 1 0) of_wrong_rules.no_translation_of_another_space 0 2 0
  pub nothing_else_invalidated : IsRunByLabels (config 1 4 1 0) of_wrong_rules.nothing_else_invalidated 1 2 1
  pub nothing_of_a_pasid_left : IsRunByLabels (config 1 4 1 0) of_wrong_rules.nothing_of_a_pasid_left 1 3 0

-- What a step leaves alone.
pub record WhatStaysByLabels : Type 0 where
  pub same_page_of_two_pasids : IsRunByLabels (config 1 2 1 0) of_what_stays.same_page_of_two_pasids 0 2 0
  pub evict_of_one_page : IsRunByLabels (config 1 2 1 0) of_what_stays.evict_of_one_page 0 2 0
  pub no_translation_beside_an_older : IsRunByLabels (config 1 1 1 0) of_what_stays.no_translation_beside_an_older 0 0 1
  pub cache_full_of_two : IsRunByLabels (config 1 65 1 0) of_what_stays.cache_full_of_two 0 65 0

-- What isn't refused for what another has.
pub record OwnCausesByLabels : Type 0 where
  pub full_queue_of_ranges : IsRunByLabels (config 1 33 1 9223372036854775776) of_own_causes.full_queue_of_ranges 0 1 32
  pub open_beside_a_reset : IsRunByLabels (config 2 1 1 0) of_own_causes.open_beside_a_reset 1 0 0
  pub quiet_beside_a_reset : IsRunByLabels (config 2 1 1 0) of_own_causes.quiet_beside_a_reset 1 0 0
  pub read_beside_a_write : IsRunByLabels (config 1 2 1 0) of_own_causes.read_beside_a_write 0 2 0
  pub lost_beside_a_full_queue : IsRunByLabels (config 1 37 1 0) of_own_causes.lost_beside_a_full_queue 4 1 32
  pub drop_beside_a_job : IsRunByLabels (config 1 1 1 0) of_own_causes.drop_beside_a_job 1 0 0
  pub quit_beside_a_stale_group : IsRunByLabels (config 1 1 1 0) of_own_causes.quit_beside_a_stale_group 1 0 0
  pub room_at_the_second_unit : IsRunByLabels (config 2 33 1 0) of_own_causes.room_at_the_second_unit 0 1 32
  pub credit_of_a_dropped_request : IsRunByLabels (config 1 1 1 0) of_own_causes.credit_of_a_dropped_request 1 0 0
  pub bearers_at_three_endpoints : IsRunByLabels (config 3 1 1 0) of_own_causes.bearers_at_three_endpoints 1 0 0
  pub bearer_by_number : IsRunByLabels (config 1 1 1 5) of_own_causes.bearer_by_number 1 0 0
  pub greatest_pasid : IsRunByLabels (config 1 1 1 0) of_own_causes.greatest_pasid 1 0 0

-- The runs that are read for what a host keeps of a reset, a stale group and a disabled interface.
pub record KeptInResetByLabels : Type 0 where
  pub busy_unit :
      IsRunByLabels (config 1 2 1 0) (of_wires.busy_unit ++ of_wires.reset_step ++ of_wires.own_reset_of_it ++ of_wires.end_of_it) 2 0 0
  pub told_to_stop : IsRunByLabels (config 1 1 1 0) (of_wires.told_to_stop ++ of_wires.quit_then) 1 0 0
  pub failed_group : IsRunByLabels (config 1 1 1 0) of_wires.failed_group 1 0 0
