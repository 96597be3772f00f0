-- Runs that are worked out: the last that is accepted before a limit; and the limits of a config.
use Rattle.std.specs.Prelude.{◌↔◌, ◌≤◌, true, false, List, [], ◌∷◌, None, ◌++◌, ◌+◌}
use Rattle.sva_step.specs.declared.limits.Config.{Config}
use Rattle.sva_step.specs.Limits.{Fits}
use Rattle.sva_step.specs.declared.answers.Answer.TheVariants as answer
use Rattle.sva_step.specs.declared.refusals.Refusal.TheVariants as refusal
use Rattle.sva_step.specs.declared.steps.Step.TheVariants as step
use Rattle.sva_step.specs.declared.steps.Verdict.TheVariants as verdict
use Rattle.sva_model.specs.Runs.{Line, says, IsRun, config, refused, lines}
use Rattle.sva_model.specs.Words.{tabulate}
use Rattle.sva_refinement.specs.RunsOfFullSpaces.{full_space, IsRunAfter}

-- a config fits exactly within these numbers
abbrev pub LimitsOfAConfig : Type 0
LimitsOfAConfig =
    (limits : Config)
    → Fits limits
    ↔ ((1 ≤ limits.endpoints)
    × (limits.endpoints ≤ 8)
    × (1 ≤ limits.frames)
    × (limits.frames ≤ 4096)
    × (1 ≤ limits.workers)
    × (limits.workers ≤ 4)
    × (limits.first ≤ 9223372036854775808))

-- no step at all: each frame is free
abbrev pub NoStep : Type 0
NoStep = IsRun (config 2 5 1 0) [] 5 0 0

-- a bind needs a message, also where a number of a binding is left
abbrev pub messages_spent_before_bindings : List Line
messages_spent_before_bindings =
    says step.Space (answer.Space 9223372036854775806)
    ∷ says step.Space (answer.Space 9223372036854775807)
    ∷ says (step.Bind 0 9223372036854775806) (answer.Binding 9223372036854775806 1)
    ∷ says (step.Unbind 9223372036854775806) answer.Stopping
    ∷ refused (step.Bind 0 9223372036854775807) refusal.NumbersSpent
    ∷ []

abbrev pub MessagesSpentBeforeBindings : Type 0
MessagesSpentBeforeBindings = IsRun (config 1 1 1 9223372036854775806) messages_spent_before_bindings 1 0 0

-- the last number is that of the reset-done
abbrev pub last_number_of_a_reset : List Line
last_number_of_a_reset =
    says step.Space (answer.Space 9223372036854775805)
    ∷ says (step.Bind 0 9223372036854775805) (answer.Binding 9223372036854775805 1)
    ∷ says (step.Reset 0) answer.Resetting
    ∷ says (step.Deliver 9223372036854775805) answer.Started
    ∷ says (step.Deliver 9223372036854775806) answer.Reset
    ∷ says (step.Deliver 9223372036854775807) answer.ResetDone
    ∷ []

abbrev pub LastNumberOfAReset : Type 0
LastNumberOfAReset = IsRun (config 1 1 1 9223372036854775805) last_number_of_a_reset 1 0 0

-- the last number is that of a completion
abbrev pub last_number_of_a_completion : List Line
last_number_of_a_completion =
    says step.Space (answer.Space 9223372036854775805)
    ∷ says (step.Bind 0 9223372036854775805) (answer.Binding 9223372036854775805 1)
    ∷ says (step.Deliver 9223372036854775805) answer.Started
    ∷ says (step.Ask 0 1 16) (answer.Tag 0)
    ∷ says (step.Deliver 9223372036854775806) answer.Completion
    ∷ says (step.Deliver 9223372036854775807) answer.NoTranslation
    ∷ refused (step.Ask 0 1 16) refusal.NumbersSpent
    ∷ []

abbrev pub LastNumberOfACompletion : Type 0
LastNumberOfACompletion = IsRun (config 1 1 1 9223372036854775805) last_number_of_a_completion 1 0 0

-- the last cookie is that of a drain
abbrev pub last_cookie_of_a_drain : List Line
last_cookie_of_a_drain =
    says step.Space (answer.Space 9223372036854775805)
    ∷ says (step.Map 9223372036854775805 16 false) (answer.Frame 0)
    ∷ says (step.Map 9223372036854775805 17 false) (answer.Frame 1)
    ∷ says (step.Map 9223372036854775805 18 false) (answer.Frame 2)
    ∷ says (step.Bind 0 9223372036854775805) (answer.Binding 9223372036854775805 1)
    ∷ says (step.Unbind 9223372036854775805) answer.Stopping
    ∷ says (step.Deliver 9223372036854775805) answer.Started
    ∷ says (step.Deliver 9223372036854775806) answer.Stopping
    ∷ says (step.Quit 0 1) answer.Marker
    ∷ says (step.Deliver 9223372036854775807) answer.Marked
    ∷ says (step.Unmap 9223372036854775805 16 1) (answer.WithheldFrames (0 ∷ []))
    ∷ says (step.Unmap 9223372036854775805 17 1) (answer.WithheldFrames (1 ∷ []))
    ∷ says (step.Advance 9223372036854775805) answer.Draining
    ∷ refused (step.Unmap 9223372036854775805 18 1) refusal.NumbersSpent
    ∷ []

abbrev pub LastCookieOfADrain : Type 0
LastCookieOfADrain = IsRun (config 1 3 1 9223372036854775805) last_cookie_of_a_drain 0 1 2

-- the last cookie is that of the wait behind a PASID's invalidation
abbrev pub last_cookie_of_an_invalidation : List Line
last_cookie_of_an_invalidation =
    says step.Space (answer.Space 9223372036854775805)
    ∷ says (step.Map 9223372036854775805 16 false) (answer.Frame 0)
    ∷ says (step.Map 9223372036854775805 17 false) (answer.Frame 1)
    ∷ says (step.Bind 0 9223372036854775805) (answer.Binding 9223372036854775805 1)
    ∷ says (step.Unbind 9223372036854775805) answer.Stopping
    ∷ says (step.Deliver 9223372036854775805) answer.Started
    ∷ says (step.Deliver 9223372036854775806) answer.Stopping
    ∷ says (step.Quit 0 1) answer.Marker
    ∷ says (step.Deliver 9223372036854775807) answer.Marked
    ∷ says (step.Advance 9223372036854775805) answer.Draining
    ∷ says (step.Pump 0) answer.WaitDone
    ∷ says (step.Unmap 9223372036854775805 16 1) (answer.WithheldFrames (0 ∷ []))
    ∷ says (step.Advance 9223372036854775805) answer.Invalidating
    ∷ says (step.Unmap 9223372036854775805 17 1) (answer.WithheldFrames (1 ∷ []))  -- needs no cookie
    ∷ []

abbrev pub LastCookieOfAnInvalidation : Type 0
LastCookieOfAnInvalidation = IsRun (config 1 2 1 9223372036854775805) last_cookie_of_an_invalidation 0 0 2

-- an unmap at a unit in reset submits nothing, and needs no cookie
abbrev pub no_cookie_in_reset : List Line
no_cookie_in_reset =
    says step.Space (answer.Space 9223372036854775806)
    ∷ says (step.Map 9223372036854775806 16 false) (answer.Frame 0)
    ∷ says (step.Map 9223372036854775806 17 false) (answer.Frame 1)
    ∷ says (step.Map 9223372036854775806 18 false) (answer.Frame 2)
    ∷ says (step.Bind 0 9223372036854775806) (answer.Binding 9223372036854775806 1)
    ∷ says (step.Unmap 9223372036854775806 16 1) (answer.WithheldFrames (0 ∷ []))
    ∷ says (step.Unmap 9223372036854775806 17 1) (answer.WithheldFrames (1 ∷ []))
    ∷ refused (step.Unmap 9223372036854775806 18 1) refusal.NumbersSpent
    ∷ says (step.Reset 0) answer.Resetting
    ∷ says (step.Unmap 9223372036854775806 18 1) (answer.WithheldFrames (2 ∷ []))
    ∷ []

abbrev pub NoCookieInReset : Type 0
NoCookieInReset = IsRun (config 1 3 1 9223372036854775806) no_cookie_in_reset 0 0 3

-- an invalidating binding is quiet once its wait is done, and submits nothing, however full the queue is
abbrev pub quiet_needs_no_room : List Line
quiet_needs_no_room =
    (says step.Space (answer.Space 0)
    ∷ says step.Space (answer.Space 1)
    ∷ [])
    ++ lines 61 (λ k. says (step.Map 1 (16 + k) false) (answer.Frame k))
    ++ (says (step.Bind 0 0) (answer.Binding 0 1)
    ∷ says (step.Bind 0 1) (answer.Binding 1 2)
    ∷ says (step.Deliver 0) answer.Started
    ∷ says (step.Deliver 1) answer.Started
    ∷ says (step.Unbind 0) answer.Stopping
    ∷ says (step.Deliver 2) answer.Stopping
    ∷ says (step.Quit 0 1) answer.Marker
    ∷ says (step.Deliver 3) answer.Marked
    ∷ says (step.Advance 0) answer.Draining
    ∷ says (step.Pump 0) answer.WaitDone
    ∷ says (step.Advance 0) answer.Invalidating
    ∷ says (step.Unmap 1 16 48) (answer.WithheldFrames (tabulate 48 (λ k. k)))
    ∷ says (step.Unmap 1 64 12) (answer.WithheldFrames (tabulate 12 (λ k. 48 + k)))
    ∷ refused (step.Unmap 1 76 1) refusal.QueueFull
    ∷ says (step.Pump 0) (answer.Itag 0)
    ∷ says (step.Deliver 4) answer.Taken
    ∷ says (step.Finish 0 1 1) (answer.Sent 1)
    ∷ says (step.Deliver 5) (answer.Freed 1)
    ∷ refused (step.Advance 0) refusal.NotYet
    ∷ says (step.Pump 0) answer.WaitDone
    ∷ says (step.Unmap 1 76 1) (answer.WithheldFrames (60 ∷ []))
    ∷ says (step.Advance 0) answer.Quiet
    ∷ [])

abbrev pub QuietNeedsNoRoom : Type 0
QuietNeedsNoRoom = IsRun (config 1 61 1 0) quiet_needs_no_room 0 0 61

-- a space of 1024 pages: another space has room, and so has this one for one page in place of one
abbrev pub full_space_and_another : List Line
full_space_and_another =
    refused (step.Map 0 1024 false) refusal.SpaceFull
    ∷ says step.Space (answer.Space 1)
    ∷ says (step.Map 1 1024 false) (answer.Frame 1024)
    ∷ says (step.Unmap 0 7 1) (answer.FreeFrames (7 ∷ []))
    ∷ says (step.Map 0 1024 true) (answer.Frame 7)
    ∷ refused (step.Map 0 7 false) refusal.SpaceFull
    ∷ []

abbrev pub FullSpaceAndAnother : Type 0
FullSpaceAndAnother = IsRunAfter (full_space 1026 0) full_space_and_another 1 1025 0

-- a success that maps the last page of a space to the last frame
abbrev pub last_page_and_last_frame : List Line
last_page_and_last_frame =
    says (step.Unmap 0 7 1) (answer.FreeFrames (7 ∷ []))
    ∷ says (step.Bind 0 0) (answer.Binding 0 1)
    ∷ says (step.Deliver 0) answer.Started
    ∷ says (step.Fault 0 1 1024 true false None true) (answer.Group 0)
    ∷ says (step.Deliver 1) answer.Queued
    ∷ says (step.Serve 0) answer.Job
    ∷ says (step.Take 0) (answer.JobTaken 0 0 1)
    ∷ says (step.Reply 0 verdict.Success) (answer.Success 1)
    ∷ []

abbrev pub LastPageAndLastFrame : Type 0
LastPageAndLastFrame = IsRunAfter (full_space 1024 0) last_page_and_last_frame 0 1024 0

-- the greatest page number, in each step that names a page
abbrev pub greatest_page : List Line
greatest_page =
    says step.Space (answer.Space 0)
    ∷ says (step.Map 0 68719476735 true) (answer.Frame 0)
    ∷ says (step.Bind 0 0) (answer.Binding 0 1)
    ∷ says (step.Deliver 0) answer.Started
    ∷ says (step.Ask 0 1 68719476735) (answer.Tag 0)
    ∷ says (step.Deliver 1) answer.Completion
    ∷ says (step.Deliver 2) answer.Held
    ∷ says (step.BeginUse 0 1 68719476735 true) (answer.Use 0 0)
    ∷ says (step.EndUse 0 0) answer.Ended
    ∷ says (step.Evict 0 1 68719476735) answer.Evicted
    ∷ says (step.Fault 0 1 68719476735 true false None true) (answer.Group 0)
    ∷ says (step.Unmap 0 68719476735 1) (answer.WithheldFrames (0 ∷ []))
    ∷ []

abbrev pub GreatestPage : Type 0
GreatestPage = IsRun (config 1 1 1 0) greatest_page 0 0 1

-- a page that isn't held: that the page is mapped read-only is no matter
abbrev pub held_before_writable : List Line
held_before_writable =
    says step.Space (answer.Space 0)
    ∷ says (step.Map 0 16 false) (answer.Frame 0)
    ∷ says (step.Bind 0 0) (answer.Binding 0 1)
    ∷ says (step.Deliver 0) answer.Started
    ∷ refused (step.BeginUse 0 1 16 true) refusal.NotHeld
    ∷ []

abbrev pub HeldBeforeWritable : Type 0
HeldBeforeWritable = IsRun (config 1 1 1 0) held_before_writable 0 1 0

-- the last slot of a use, and the last ITag
abbrev pub last_slot_and_last_tag : List Line
last_slot_and_last_tag =
    (says step.Space (answer.Space 0)
    ∷ [])
    ++ lines 33 (λ k. says (step.Map 0 (16 + k) false) (answer.Frame k))
    ++ (says (step.Bind 0 0) (answer.Binding 0 1)
    ∷ says (step.Deliver 0) answer.Started
    ∷ says (step.Ask 0 1 48) (answer.Tag 0)
    ∷ says (step.Deliver 1) answer.Completion
    ∷ says (step.Deliver 2) answer.Held
    ∷ [])
    ++ lines 16 (λ k. says (step.BeginUse 0 1 48 false) (answer.Use k 32))
    ++ (says (step.EndUse 0 15) answer.Ended
    ∷ says (step.BeginUse 0 1 48 false) (answer.Use 15 32)
    ∷ says (step.Unmap 0 16 32) (answer.WithheldFrames (tabulate 32 (λ k. k)))
    ∷ [])
    ++ lines 32 (λ k. says (step.Pump 0) (answer.Itag k))
    ++ (says (step.Deliver 34) answer.Taken
    ∷ says (step.Finish 0 2147483648 1) (answer.Sent 1)
    ∷ says (step.Deliver 35) (answer.Freed 1)
    ∷ [])

abbrev pub LastSlotAndLastTag : Type 0
LastSlotAndLastTag = IsRun (config 1 33 1 0) last_slot_and_last_tag 0 1 32
