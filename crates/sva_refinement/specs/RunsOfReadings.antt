-- Runs that are worked out: how a rule of spaces, bindings, invalidations and resets is read where it could be read in two ways,
-- and what follows from the rules and may surprise.
use Rattle.std.specs.Prelude.{true, false, List, [], ◌∷◌, None, ◌++◌, ◌+◌, Some}
use Rattle.sva_step.specs.declared.answers.Answer.TheVariants as answer
use Rattle.sva_step.specs.declared.refusals.Refusal.TheVariants as refusal
use Rattle.sva_step.specs.declared.steps.Step.TheVariants as step
use Rattle.sva_model.specs.Runs.{Line, says, IsRun, config, refused, lines}

-- a Live binding isn't advanced: its unit is in reset, or it isn't yet time
abbrev pub advance_of_a_live_binding : List Line
advance_of_a_live_binding =
    says step.Space (answer.Space 0)
    ∷ says (step.Bind 0 0) (answer.Binding 0 1)
    ∷ says (step.Deliver 0) answer.Started
    ∷ refused (step.Advance 0) refusal.NotYet
    ∷ says (step.Reset 0) answer.Resetting
    ∷ refused (step.Advance 0) refusal.Resetting
    ∷ []

abbrev pub AdvanceOfALiveBinding : Type 0
AdvanceOfALiveBinding = IsRun (config 1 4 1 0) advance_of_a_live_binding 4 0 0

-- a Lost binding isn't advanced either; its unbind and what follows don't mind a reset
abbrev pub advance_of_a_lost_binding : List Line
advance_of_a_lost_binding =
    says step.Space (answer.Space 0)
    ∷ says (step.Bind 0 0) (answer.Binding 0 1)
    ∷ says (step.Deliver 0) answer.Started
    ∷ says (step.Reset 0) answer.Resetting
    ∷ says (step.Deliver 1) answer.Reset
    ∷ says (step.Deliver 2) answer.ResetDone
    ∷ refused (step.Advance 0) refusal.NotYet
    ∷ says (step.Reset 0) answer.Resetting
    ∷ refused (step.Advance 0) refusal.Resetting
    ∷ says (step.Unbind 0) answer.Quiet
    ∷ says (step.Advance 0) answer.Released
    ∷ []

abbrev pub AdvanceOfALostBinding : Type 0
AdvanceOfALostBinding = IsRun (config 1 4 1 0) advance_of_a_lost_binding 4 0 0

-- spaces, bindings, messages and cookies have counters of their own
abbrev pub one_number_of_each_kind : List Line
one_number_of_each_kind =
    says step.Space (answer.Space 9223372036854775807)
    ∷ refused step.Space refusal.NumbersSpent
    ∷ says (step.Map 9223372036854775807 16 false) (answer.Frame 0)
    ∷ says (step.Bind 0 9223372036854775807) (answer.Binding 9223372036854775807 1)
    ∷ says (step.Unmap 9223372036854775807 16 1) (answer.WithheldFrames (0 ∷ []))
    ∷ says (step.Map 9223372036854775807 16 false) (answer.Frame 1)
    ∷ refused (step.Unmap 9223372036854775807 16 1) refusal.NumbersSpent
    ∷ refused (step.Unmap 9223372036854775807 17 1) refusal.NotMapped
    ∷ refused (step.Unbind 9223372036854775807) refusal.NumbersSpent
    ∷ refused (step.Advance 9223372036854775807) refusal.NotYet
    ∷ refused (step.Pump 0) refusal.NumbersSpent
    ∷ says (step.Serve 0) answer.Empty
    ∷ refused (step.Reset 0) refusal.NumbersSpent
    ∷ refused (step.Ask 0 1 16) refusal.NotStarted
    ∷ says (step.Deliver 9223372036854775807) answer.Started
    ∷ refused (step.Deliver 9223372036854775807) refusal.NoSuchMessage
    ∷ refused (step.Ask 0 1 16) refusal.NumbersSpent
    ∷ refused (step.Fault 0 1 16 true false None true) refusal.NumbersSpent
    ∷ refused (step.Fault 0 1 16 true false (Some 0) true) refusal.NoSuchGroup
    ∷ refused (step.Take 0) refusal.NoJob
    ∷ refused (step.DropSpace 9223372036854775807) refusal.StillBound
    ∷ says (step.Look 0) answer.Withheld
    ∷ []

abbrev pub OneNumberOfEachKind : Type 0
OneNumberOfEachKind = IsRun (config 1 4 1 9223372036854775807) one_number_of_each_kind 2 1 1

-- each of the pages of an unmap is a page of the step
abbrev pub unmap_past_the_last_page : List Line
unmap_past_the_last_page =
    says step.Space (answer.Space 0)
    ∷ says (step.Map 0 68719476735 false) (answer.Frame 0)
    ∷ refused (step.Unmap 0 68719476735 2) refusal.PageRange
    ∷ refused (step.Unmap 0 18446744073709551615 2) refusal.PageRange
    ∷ says (step.Unmap 0 68719476735 1) (answer.FreeFrames (0 ∷ []))
    ∷ []

abbrev pub UnmapPastTheLastPage : Type 0
UnmapPastTheLastPage = IsRun (config 1 4 1 0) unmap_past_the_last_page 4 0 0

-- each of the pages of a range is a page of the step: past the last page it is no matter that the range isn't aligned
abbrev pub range_past_the_last_page : List Line
range_past_the_last_page =
    says step.Space (answer.Space 0)
    ∷ says (step.Map 0 68719476735 false) (answer.Frame 0)
    ∷ refused (step.UnmapRange 0 68719476735 1) refusal.PageRange
    ∷ says (step.UnmapRange 0 68719476734 1) (answer.RangeFree 1)
    ∷ []

abbrev pub RangePastTheLastPage : Type 0
RangePastTheLastPage = IsRun (config 1 4 1 0) range_past_the_last_page 4 0 0

-- the wait of a drained binding is done, and yet its frames wait for the reset's end
abbrev pub unmap_while_drained_in_reset : List Line
unmap_while_drained_in_reset =
    says step.Space (answer.Space 0)
    ∷ says (step.Map 0 16 false) (answer.Frame 0)
    ∷ says (step.Bind 0 0) (answer.Binding 0 1)
    ∷ says (step.Deliver 0) answer.Started
    ∷ says (step.Unbind 0) answer.Stopping
    ∷ says (step.Deliver 1) answer.Stopping
    ∷ says (step.Quit 0 1) answer.Marker
    ∷ says (step.Deliver 2) answer.Marked
    ∷ says (step.Advance 0) answer.Draining
    ∷ says (step.Pump 0) answer.WaitDone
    ∷ says (step.Reset 0) answer.Resetting
    ∷ says (step.Unmap 0 16 1) (answer.WithheldFrames (0 ∷ []))
    ∷ says (step.Deliver 3) answer.Reset
    ∷ says (step.Look 0) answer.Withheld
    ∷ says (step.Deliver 4) answer.ResetDone
    ∷ says (step.Look 0) answer.Free
    ∷ []

abbrev pub UnmapWhileDrainedInReset : Type 0
UnmapWhileDrainedInReset = IsRun (config 1 4 1 0) unmap_while_drained_in_reset 4 0 0

-- the wait of an invalidating binding is not done: its frames wait for the reset's end
abbrev pub unmap_while_invalidating_in_reset : List Line
unmap_while_invalidating_in_reset =
    says step.Space (answer.Space 0)
    ∷ says (step.Map 0 16 false) (answer.Frame 0)
    ∷ says (step.Bind 0 0) (answer.Binding 0 1)
    ∷ says (step.Unbind 0) answer.Stopping
    ∷ says (step.Deliver 0) answer.Started
    ∷ says (step.Deliver 1) answer.Stopping
    ∷ says (step.Quit 0 1) answer.Marker
    ∷ says (step.Deliver 2) answer.Marked
    ∷ says (step.Advance 0) answer.Draining
    ∷ says (step.Pump 0) answer.WaitDone
    ∷ says (step.Advance 0) answer.Invalidating
    ∷ says (step.Reset 0) answer.Resetting
    ∷ says (step.Unmap 0 16 1) (answer.WithheldFrames (0 ∷ []))
    ∷ says (step.Deliver 3) answer.Reset
    ∷ says (step.Look 0) answer.Withheld
    ∷ says (step.Deliver 4) answer.ResetDone
    ∷ says (step.Look 0) answer.Free
    ∷ says (step.Advance 0) answer.Released
    ∷ []

abbrev pub UnmapWhileInvalidatingInReset : Type 0
UnmapWhileInvalidatingInReset = IsRun (config 1 1 1 0) unmap_while_invalidating_in_reset 1 0 0

-- the same where the PASID has started before it is told to stop, and other frames are free
abbrev pub unmap_while_invalidating_one_that_started : List Line
unmap_while_invalidating_one_that_started =
    says step.Space (answer.Space 0)
    ∷ says (step.Map 0 16 false) (answer.Frame 0)
    ∷ says (step.Bind 0 0) (answer.Binding 0 1)
    ∷ says (step.Deliver 0) answer.Started
    ∷ says (step.Unbind 0) answer.Stopping
    ∷ says (step.Deliver 1) answer.Stopping
    ∷ says (step.Quit 0 1) answer.Marker
    ∷ says (step.Deliver 2) answer.Marked
    ∷ says (step.Advance 0) answer.Draining
    ∷ says (step.Pump 0) answer.WaitDone
    ∷ says (step.Advance 0) answer.Invalidating
    ∷ says (step.Reset 0) answer.Resetting
    ∷ says (step.Unmap 0 16 1) (answer.WithheldFrames (0 ∷ []))
    ∷ says (step.Deliver 3) answer.Reset
    ∷ says (step.Look 0) answer.Withheld
    ∷ says (step.Deliver 4) answer.ResetDone
    ∷ says (step.Look 0) answer.Free
    ∷ says (step.Advance 0) answer.Released
    ∷ []

abbrev pub UnmapWhileInvalidatingOneThatStarted : Type 0
UnmapWhileInvalidatingOneThatStarted = IsRun (config 1 4 1 0) unmap_while_invalidating_one_that_started 4 0 0

-- the wait of an invalidating binding is done: its frames are free at once, in reset too
abbrev pub unmap_after_the_invalidation : List Line
unmap_after_the_invalidation =
    says step.Space (answer.Space 0)
    ∷ says (step.Map 0 16 false) (answer.Frame 0)
    ∷ says (step.Map 0 17 false) (answer.Frame 1)
    ∷ says (step.Bind 0 0) (answer.Binding 0 1)
    ∷ says (step.Unbind 0) answer.Stopping
    ∷ says (step.Deliver 0) answer.Started
    ∷ says (step.Deliver 1) answer.Stopping
    ∷ says (step.Quit 0 1) answer.Marker
    ∷ says (step.Deliver 2) answer.Marked
    ∷ says (step.Advance 0) answer.Draining
    ∷ says (step.Pump 0) answer.WaitDone
    ∷ says (step.Advance 0) answer.Invalidating
    ∷ says (step.Pump 0) (answer.Itag 0)
    ∷ says (step.Deliver 3) answer.Taken
    ∷ says (step.Finish 0 1 1) (answer.Sent 1)
    ∷ says (step.Deliver 4) (answer.Freed 1)
    ∷ says (step.Pump 0) answer.WaitDone
    ∷ says (step.Unmap 0 16 1) (answer.FreeFrames (0 ∷ []))
    ∷ says (step.Reset 0) answer.Resetting
    ∷ says (step.Unmap 0 17 1) (answer.FreeFrames (1 ∷ []))
    ∷ refused (step.Advance 0) refusal.Resetting
    ∷ says (step.Deliver 5) answer.Reset
    ∷ says (step.Deliver 6) answer.ResetDone
    ∷ says (step.Advance 0) answer.Released
    ∷ []

abbrev pub UnmapAfterTheInvalidation : Type 0
UnmapAfterTheInvalidation = IsRun (config 1 2 1 0) unmap_after_the_invalidation 2 0 0

-- a second reset finds bindings Lost or Quiet: they go on in reset, but no space is bound
abbrev pub second_reset : List Line
second_reset =
    says step.Space (answer.Space 0)
    ∷ says step.Space (answer.Space 1)
    ∷ says (step.Map 0 16 false) (answer.Frame 0)
    ∷ says (step.Map 1 16 false) (answer.Frame 1)
    ∷ says (step.Bind 0 0) (answer.Binding 0 1)
    ∷ says (step.Bind 0 1) (answer.Binding 1 2)
    ∷ says (step.Deliver 0) answer.Started
    ∷ says (step.Deliver 1) answer.Started
    ∷ says (step.Unbind 1) answer.Stopping
    ∷ says (step.Deliver 2) answer.Stopping
    ∷ says (step.Reset 0) answer.Resetting
    ∷ says (step.Deliver 3) answer.Reset
    ∷ says (step.Deliver 4) answer.ResetDone
    ∷ says (step.Reset 0) answer.Resetting
    ∷ says (step.Unmap 0 16 1) (answer.FreeFrames (0 ∷ []))
    ∷ says (step.Unmap 1 16 1) (answer.FreeFrames (1 ∷ []))
    ∷ refused (step.Advance 0) refusal.Resetting
    ∷ says (step.Unbind 0) answer.Quiet
    ∷ says (step.Advance 0) answer.Released
    ∷ says (step.Advance 1) answer.Released
    ∷ refused (step.Bind 0 0) refusal.Resetting
    ∷ says (step.Deliver 5) answer.Reset
    ∷ says (step.Deliver 6) answer.ResetDone
    ∷ says (step.Bind 0 0) (answer.Binding 2 1)
    ∷ []

abbrev pub SecondReset : Type 0
SecondReset = IsRun (config 1 2 1 0) second_reset 2 0 0

-- a doomed request keeps its tag and its PASID busy until its completion comes
abbrev pub doomed_requests_are_out : List Line
doomed_requests_are_out =
    (says step.Space (answer.Space 0)
    ∷ says (step.Map 0 16 false) (answer.Frame 0)
    ∷ says (step.Bind 0 0) (answer.Binding 0 1)
    ∷ says (step.Deliver 0) answer.Started
    ∷ [])
    ++ lines 32 (λ k. says (step.Ask 0 1 16) (answer.Tag k))
    ++ (says (step.Unmap 0 16 1) (answer.WithheldFrames (0 ∷ []))
    ∷ says (step.Pump 0) (answer.Itag 0)
    ∷ says (step.Deliver 33) answer.Taken
    ∷ refused (step.Ask 0 1 17) refusal.NoTag
    ∷ says (step.Finish 0 1 1) (answer.Sent 1)
    ∷ says (step.Unbind 0) answer.Stopping
    ∷ says (step.Deliver 35) answer.Stopping
    ∷ refused (step.Quit 0 1) refusal.Busy
    ∷ [])
    ++ lines 32 (λ k. says (step.Deliver (1 + k)) answer.Completion)
    ++ lines 31 (λ k. says (step.Deliver (36 + k)) answer.Dropped)
    ++ (refused (step.Quit 0 1) refusal.Busy
    ∷ says (step.Deliver 67) answer.Dropped
    ∷ says (step.Quit 0 1) answer.Marker
    ∷ [])

abbrev pub DoomedRequestsAreOut : Type 0
DoomedRequestsAreOut = IsRun (config 1 1 1 0) doomed_requests_are_out 0 0 1

-- a frame that waited when a reset began waits for the reset-done
abbrev pub earlier_waits_in_reset : List Line
earlier_waits_in_reset =
    says step.Space (answer.Space 0)
    ∷ says (step.Map 0 16 false) (answer.Frame 0)
    ∷ says (step.Bind 0 0) (answer.Binding 0 1)
    ∷ says (step.Deliver 0) answer.Started
    ∷ says (step.Unmap 0 16 1) (answer.WithheldFrames (0 ∷ []))
    ∷ says (step.Pump 0) (answer.Itag 0)
    ∷ says (step.Deliver 1) answer.Taken
    ∷ says (step.Finish 0 1 1) (answer.Sent 1)
    ∷ says (step.Deliver 2) (answer.Freed 1)
    ∷ says (step.Reset 0) answer.Resetting
    ∷ says (step.Look 0) answer.Withheld
    ∷ refused (step.Pump 0) refusal.Resetting
    ∷ says (step.Deliver 3) answer.Reset
    ∷ says (step.Look 0) answer.Withheld
    ∷ says (step.Deliver 4) answer.ResetDone
    ∷ says (step.Look 0) answer.Free
    ∷ says (step.Pump 0) answer.Idle
    ∷ []

abbrev pub EarlierWaitsInReset : Type 0
EarlierWaitsInReset = IsRun (config 1 1 1 0) earlier_waits_in_reset 1 0 0
