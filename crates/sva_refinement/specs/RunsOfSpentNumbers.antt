-- Runs that are worked out: where no number is left of a space, a binding, a message or a cookie, and who needs none.
use Rattle.std.specs.Prelude.{true, false, List, [], ◌∷◌, None, ◌++◌, ◌+◌}
use Rattle.sva_step.specs.declared.answers.Answer.TheVariants as answer
use Rattle.sva_step.specs.declared.refusals.Refusal.TheVariants as refusal
use Rattle.sva_step.specs.declared.steps.Step.TheVariants as step
use Rattle.sva_step.specs.declared.steps.Verdict.TheVariants as verdict
use Rattle.sva_model.specs.Runs.{Line, says, IsRun, config, refused, lines}

-- the last message is the reset, and a live binding waits for its end
abbrev pub unbind_without_numbers : List Line
unbind_without_numbers =
    says step.Space (answer.Space 9223372036854775806)
    ∷ says (step.Bind 0 9223372036854775806) (answer.Binding 9223372036854775806 1)
    ∷ says (step.Reset 0) answer.Resetting
    ∷ refused (step.Unbind 9223372036854775806) refusal.Resetting  -- NumbersSpent too
    ∷ []

abbrev pub UnbindWithoutNumbers : Type 0
UnbindWithoutNumbers = IsRun (config 1 1 1 9223372036854775806) unbind_without_numbers 1 0 0

-- the last message is the stop
abbrev pub quit_without_numbers : List Line
quit_without_numbers =
    says step.Space (answer.Space 9223372036854775806)
    ∷ says (step.Bind 0 9223372036854775806) (answer.Binding 9223372036854775806 1)
    ∷ says (step.Unbind 9223372036854775806) answer.Stopping
    ∷ says (step.Deliver 9223372036854775806) answer.Started
    ∷ says (step.Deliver 9223372036854775807) answer.Stopping
    ∷ refused (step.Quit 0 1) refusal.NumbersSpent
    ∷ refused (step.Advance 9223372036854775806) refusal.NotYet
    ∷ []

abbrev pub QuitWithoutNumbers : Type 0
QuitWithoutNumbers = IsRun (config 1 1 1 9223372036854775806) quit_without_numbers 1 0 0

-- the first number is past the last
abbrev pub no_number_at_all : List Line
no_number_at_all =
    refused step.Space refusal.NumbersSpent
    ∷ refused (step.DropSpace 9223372036854775808) refusal.NoSuchSpace
    ∷ refused (step.Bind 0 9223372036854775808) refusal.NoSuchSpace
    ∷ refused (step.Reset 0) refusal.NumbersSpent
    ∷ says (step.Pump 0) answer.Idle
    ∷ says (step.Serve 0) answer.Empty
    ∷ says (step.Look 0) answer.Free
    ∷ []

abbrev pub NoNumberAtAll : Type 0
NoNumberAtAll = IsRun (config 1 1 1 9223372036854775808) no_number_at_all 1 0 0

-- one number of a binding
abbrev pub bindings_spent : List Line
bindings_spent =
    says step.Space (answer.Space 9223372036854775807)
    ∷ says (step.Bind 0 9223372036854775807) (answer.Binding 9223372036854775807 1)
    ∷ refused (step.Bind 1 9223372036854775807) refusal.NumbersSpent
    ∷ []

abbrev pub BindingsSpent : Type 0
BindingsSpent = IsRun (config 2 1 1 9223372036854775807) bindings_spent 1 0 0

-- an unmap needs a cookie for each unit that gets a wait
abbrev pub cookies_of_two_units : List Line
cookies_of_two_units =
    says step.Space (answer.Space 9223372036854775805)
    ∷ says step.Space (answer.Space 9223372036854775806)
    ∷ says (step.Map 9223372036854775805 16 false) (answer.Frame 0)
    ∷ says (step.Map 9223372036854775805 17 false) (answer.Frame 1)
    ∷ says (step.Map 9223372036854775806 16 false) (answer.Frame 2)
    ∷ says (step.Bind 0 9223372036854775805) (answer.Binding 9223372036854775805 1)
    ∷ says (step.Bind 1 9223372036854775805) (answer.Binding 9223372036854775806 1)
    ∷ says (step.Bind 0 9223372036854775806) (answer.Binding 9223372036854775807 2)
    ∷ says (step.Unmap 9223372036854775805 16 1) (answer.WithheldFrames (0 ∷ []))
    ∷ refused (step.Unmap 9223372036854775805 17 1) refusal.NumbersSpent
    ∷ says (step.Unmap 9223372036854775806 16 1) (answer.WithheldFrames (2 ∷ []))
    ∷ []

abbrev pub CookiesOfTwoUnits : Type 0
CookiesOfTwoUnits = IsRun (config 2 3 1 9223372036854775805) cookies_of_two_units 0 1 2

-- so does an unmapping of a range
abbrev pub cookies_of_a_range : List Line
cookies_of_a_range =
    says step.Space (answer.Space 9223372036854775805)
    ∷ says (step.Map 9223372036854775805 16 false) (answer.Frame 0)
    ∷ says (step.Map 9223372036854775805 17 false) (answer.Frame 1)
    ∷ says (step.Bind 0 9223372036854775805) (answer.Binding 9223372036854775805 1)
    ∷ says (step.Bind 1 9223372036854775805) (answer.Binding 9223372036854775806 1)
    ∷ says (step.UnmapRange 9223372036854775805 16 0) (answer.RangeWithheld 1)
    ∷ refused (step.UnmapRange 9223372036854775805 17 0) refusal.NumbersSpent
    ∷ []

abbrev pub CookiesOfARange : Type 0
CookiesOfARange = IsRun (config 2 2 1 9223372036854775805) cookies_of_a_range 0 1 1

-- a draining binding needs a cookie for its second wait
abbrev pub cookies_while_draining : List Line
cookies_while_draining =
    says step.Space (answer.Space 9223372036854775805)
    ∷ says (step.Map 9223372036854775805 16 false) (answer.Frame 0)
    ∷ says (step.Map 9223372036854775805 17 false) (answer.Frame 1)
    ∷ says (step.Bind 0 9223372036854775805) (answer.Binding 9223372036854775805 1)
    ∷ says (step.Unbind 9223372036854775805) answer.Stopping
    ∷ says (step.Deliver 9223372036854775805) answer.Started
    ∷ says (step.Deliver 9223372036854775806) answer.Stopping
    ∷ says (step.Quit 0 1) answer.Marker
    ∷ says (step.Deliver 9223372036854775807) answer.Marked
    ∷ says (step.Advance 9223372036854775805) answer.Draining
    ∷ says (step.Pump 0) answer.WaitDone
    ∷ says (step.Unmap 9223372036854775805 16 1) (answer.WithheldFrames (0 ∷ []))
    ∷ says (step.Unmap 9223372036854775805 17 1) (answer.WithheldFrames (1 ∷ []))
    ∷ refused (step.Advance 9223372036854775805) refusal.NumbersSpent
    ∷ refused (step.Pump 0) refusal.NumbersSpent
    ∷ []

abbrev pub CookiesWhileDraining : Type 0
CookiesWhileDraining = IsRun (config 1 2 1 9223372036854775805) cookies_while_draining 0 0 2

-- a pump that sends nothing needs no number
abbrev pub pump_without_numbers : List Line
pump_without_numbers =
    says step.Space (answer.Space 9223372036854775805)
    ∷ says (step.Map 9223372036854775805 16 false) (answer.Frame 0)
    ∷ says (step.Bind 0 9223372036854775805) (answer.Binding 9223372036854775805 1)
    ∷ says (step.Deliver 9223372036854775805) answer.Started
    ∷ says (step.Unmap 9223372036854775805 16 1) (answer.WithheldFrames (0 ∷ []))
    ∷ says (step.Pump 0) (answer.Itag 0)
    ∷ says (step.Pump 0) answer.Blocked
    ∷ says (step.Deliver 9223372036854775806) answer.Taken
    ∷ says (step.Finish 0 1 1) (answer.Sent 1)
    ∷ says (step.Pump 0) answer.Blocked
    ∷ says (step.Deliver 9223372036854775807) (answer.Freed 1)
    ∷ says (step.Pump 0) answer.WaitDone
    ∷ says (step.Pump 0) answer.Idle
    ∷ []

abbrev pub PumpWithoutNumbers : Type 0
PumpWithoutNumbers = IsRun (config 1 1 1 9223372036854775805) pump_without_numbers 1 0 0

-- 32 ITags are busy, and no message is left
abbrev pub pump_without_tags_and_numbers : List Line
pump_without_tags_and_numbers =
    (says step.Space (answer.Space 9223372036854775775)
    ∷ [])
    ++ lines 33 (λ k. says (step.Map 9223372036854775775 (16 + k) false) (answer.Frame k))
    ++ (says (step.Bind 0 9223372036854775775) (answer.Binding 9223372036854775775 1)
    ∷ says (step.Deliver 9223372036854775775) answer.Started
    ∷ says (step.Unmap 9223372036854775775 16 33)
    (answer.WithheldFrames (0 ∷ 1 ∷ 2 ∷ 3 ∷ 4 ∷ 5 ∷ 6 ∷ 7 ∷ 8 ∷ 9 ∷ 10 ∷ 11 ∷ 12 ∷ 13 ∷ 14 ∷ 15 ∷ 16 ∷ 17 ∷ 18 ∷ 19 ∷ 20 ∷ 21 ∷ 22 ∷ 23 ∷ 24 ∷ 25
    ∷ 26 ∷ 27 ∷ 28 ∷ 29 ∷ 30 ∷ 31 ∷ 32 ∷ []))
    ∷ [])
    ++ lines 32 (λ k. says (step.Pump 0) (answer.Itag k))
    ++ (says (step.Pump 0) answer.Blocked
    ∷ says (step.Deliver 9223372036854775776) answer.Taken
    ∷ [])

abbrev pub PumpWithoutTagsAndNumbers : Type 0
PumpWithoutTagsAndNumbers = IsRun (config 1 33 1 9223372036854775775) pump_without_tags_and_numbers 0 0 33

-- a worker's answer needs a message, whatever the verdict
abbrev pub verdicts_without_numbers : List Line
verdicts_without_numbers =
    says step.Space (answer.Space 9223372036854775806)
    ∷ says (step.Map 9223372036854775806 16 false) (answer.Frame 0)
    ∷ says (step.Bind 0 9223372036854775806) (answer.Binding 9223372036854775806 1)
    ∷ says (step.Deliver 9223372036854775806) answer.Started
    ∷ says (step.Fault 0 1 16 true false None true) (answer.Group 0)
    ∷ says (step.Deliver 9223372036854775807) answer.Queued
    ∷ says (step.Serve 0) answer.Job
    ∷ says (step.Take 0) (answer.JobTaken 9223372036854775806 0 1)
    ∷ refused (step.Reply 0 verdict.Success) refusal.NumbersSpent
    ∷ refused (step.Reply 0 verdict.Invalid) refusal.NumbersSpent
    ∷ refused (step.Reply 0 verdict.Failure) refusal.NumbersSpent
    ∷ []

abbrev pub VerdictsWithoutNumbers : Type 0
VerdictsWithoutNumbers = IsRun (config 1 1 1 9223372036854775806) verdicts_without_numbers 0 1 0

-- what is dropped sends nothing
abbrev pub dropped_without_numbers : List Line
dropped_without_numbers =
    says step.Space (answer.Space 9223372036854775804)
    ∷ says (step.Bind 0 9223372036854775804) (answer.Binding 9223372036854775804 1)
    ∷ says (step.Deliver 9223372036854775804) answer.Started
    ∷ says (step.Ask 0 1 16) (answer.Tag 0)
    ∷ says (step.Fault 0 1 16 true false None true) (answer.Group 0)
    ∷ says (step.Deliver 9223372036854775806) answer.Queued
    ∷ says (step.Serve 0) answer.Job
    ∷ says (step.Take 0) (answer.JobTaken 9223372036854775804 0 1)
    ∷ says (step.Reset 0) answer.Resetting
    ∷ says (step.Reply 0 verdict.Success) answer.Dropped
    ∷ says (step.Deliver 9223372036854775805) answer.Dropped
    ∷ refused (step.Deliver 9223372036854775807) refusal.NumbersSpent
    ∷ []

abbrev pub DroppedWithoutNumbers : Type 0
DroppedWithoutNumbers = IsRun (config 1 1 1 9223372036854775804) dropped_without_numbers 1 0 0

-- a lost binding is ended without a message, in reset too
abbrev pub lost_without_numbers : List Line
lost_without_numbers =
    says step.Space (answer.Space 9223372036854775804)
    ∷ says (step.Map 9223372036854775804 16 false) (answer.Frame 0)
    ∷ says (step.Bind 0 9223372036854775804) (answer.Binding 9223372036854775804 1)
    ∷ says (step.Deliver 9223372036854775804) answer.Started
    ∷ says (step.Reset 0) answer.Resetting
    ∷ says (step.Deliver 9223372036854775805) answer.Reset
    ∷ says (step.Deliver 9223372036854775806) answer.ResetDone
    ∷ says (step.Reset 0) answer.Resetting
    ∷ refused (step.Advance 9223372036854775804) refusal.Resetting
    ∷ says (step.Unmap 9223372036854775804 16 1) (answer.FreeFrames (0 ∷ []))
    ∷ says (step.Unbind 9223372036854775804) answer.Quiet
    ∷ says (step.Advance 9223372036854775804) answer.Released
    ∷ []

abbrev pub LostWithoutNumbers : Type 0
LostWithoutNumbers = IsRun (config 1 1 1 9223372036854775804) lost_without_numbers 1 0 0
