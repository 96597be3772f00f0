-- Runs that are worked out: each is a short run in which a wrong rule would give a frame, a label or a PASID back too early, or
-- keep what is doomed, and is named by what doesn't happen.
use Rattle.std.specs.Prelude.{true, false, List, [], ◌∷◌, None, ◌++◌, ◌+◌}
use Rattle.sva_step.specs.declared.answers.Answer.TheVariants as answer
use Rattle.sva_step.specs.declared.refusals.Refusal.TheVariants as refusal
use Rattle.sva_step.specs.declared.steps.Step.TheVariants as step
use Rattle.sva_step.specs.declared.steps.Verdict.TheVariants as verdict
use Rattle.sva_model.specs.Runs.{Line, says, IsRun, config, refused, lines}

-- a frame isn't free when its invalidation is sent
abbrev pub not_free_when_sent : List Line
not_free_when_sent =
    says step.Space (answer.Space 0)
    ∷ says (step.Map 0 16 true) (answer.Frame 0)
    ∷ says (step.Bind 0 0) (answer.Binding 0 1)
    ∷ says (step.Deliver 0) answer.Started
    ∷ says (step.Ask 0 1 16) (answer.Tag 0)
    ∷ says (step.Deliver 1) answer.Completion
    ∷ says (step.Unmap 0 16 1) (answer.WithheldFrames (0 ∷ []))
    ∷ says (step.Pump 0) (answer.Itag 0)
    ∷ says (step.Look 0) answer.Withheld
    ∷ says (step.Map 0 17 true) (answer.Frame 1)
    ∷ says (step.Deliver 2) answer.Held
    ∷ says (step.BeginUse 0 1 16 true) (answer.Use 0 0)
    ∷ []

abbrev pub NotFreeWhenSent : Type 0
NotFreeWhenSent = IsRun (config 1 2 1 0) not_free_when_sent 0 1 1

-- a frame isn't free when the endpoint has taken its invalidation
abbrev pub not_free_when_taken : List Line
not_free_when_taken =
    says step.Space (answer.Space 0)
    ∷ says (step.Map 0 16 true) (answer.Frame 0)
    ∷ says (step.Bind 0 0) (answer.Binding 0 1)
    ∷ says (step.Deliver 0) answer.Started
    ∷ says (step.Ask 0 1 16) (answer.Tag 0)
    ∷ says (step.Deliver 1) answer.Completion
    ∷ says (step.Deliver 2) answer.Held
    ∷ says (step.BeginUse 0 1 16 true) (answer.Use 0 0)
    ∷ says (step.Unmap 0 16 1) (answer.WithheldFrames (0 ∷ []))
    ∷ says (step.Pump 0) (answer.Itag 0)
    ∷ says (step.Deliver 3) answer.Taken
    ∷ says (step.Look 0) answer.Withheld
    ∷ says (step.Map 0 17 true) (answer.Frame 1)
    ∷ []

abbrev pub NotFreeWhenTaken : Type 0
NotFreeWhenTaken = IsRun (config 1 2 1 0) not_free_when_taken 0 1 1

-- a frame isn't free when the unit is closed, nor when the endpoint has reset itself
abbrev pub not_free_at_the_reset : List Line
not_free_at_the_reset =
    says step.Space (answer.Space 0)
    ∷ says (step.Map 0 16 true) (answer.Frame 0)
    ∷ says (step.Bind 0 0) (answer.Binding 0 1)
    ∷ says (step.Deliver 0) answer.Started
    ∷ says (step.Ask 0 1 16) (answer.Tag 0)
    ∷ says (step.Deliver 1) answer.Completion
    ∷ says (step.Unmap 0 16 1) (answer.WithheldFrames (0 ∷ []))
    ∷ says (step.Reset 0) answer.Resetting
    ∷ says (step.Look 0) answer.Withheld
    ∷ says (step.Map 0 17 true) (answer.Frame 1)
    ∷ says (step.Deliver 2) answer.Held
    ∷ says (step.BeginUse 0 1 16 true) (answer.Use 0 0)
    ∷ says (step.Deliver 3) answer.Reset
    ∷ says (step.Look 0) answer.Withheld
    ∷ says (step.Deliver 4) answer.ResetDone
    ∷ says (step.Look 0) answer.Free
    ∷ says (step.EndUse 0 0) answer.Dead
    ∷ []

abbrev pub NotFreeAtTheReset : Type 0
NotFreeAtTheReset = IsRun (config 1 2 1 0) not_free_at_the_reset 1 1 0

-- a frame unmapped in reset isn't free before the reset-done
abbrev pub not_free_when_unmapped_in_reset : List Line
not_free_when_unmapped_in_reset =
    says step.Space (answer.Space 0)
    ∷ says (step.Map 0 16 true) (answer.Frame 0)
    ∷ says (step.Bind 0 0) (answer.Binding 0 1)
    ∷ says (step.Reset 0) answer.Resetting
    ∷ says (step.Unmap 0 16 1) (answer.WithheldFrames (0 ∷ []))
    ∷ says (step.Look 0) answer.Withheld
    ∷ says (step.Map 0 17 true) (answer.Frame 1)
    ∷ says (step.Deliver 0) answer.Started
    ∷ says (step.Deliver 1) answer.Reset
    ∷ says (step.Look 0) answer.Withheld
    ∷ says (step.Deliver 2) answer.ResetDone
    ∷ says (step.Look 0) answer.Free
    ∷ []

abbrev pub NotFreeWhenUnmappedInReset : Type 0
NotFreeWhenUnmappedInReset = IsRun (config 1 2 1 0) not_free_when_unmapped_in_reset 1 1 0

-- an ITag isn't free at the first of two completions
abbrev pub not_freed_at_the_first_of_two : List Line
not_freed_at_the_first_of_two =
    says step.Space (answer.Space 0)
    ∷ says (step.Map 0 16 true) (answer.Frame 0)
    ∷ says (step.Bind 0 0) (answer.Binding 0 1)
    ∷ says (step.Unmap 0 16 1) (answer.WithheldFrames (0 ∷ []))
    ∷ says (step.Pump 0) (answer.Itag 0)
    ∷ says (step.Deliver 1) answer.Taken
    ∷ says (step.Finish 0 1 2) (answer.Sent 2)
    ∷ says (step.Deliver 2) (answer.Freed 0)
    ∷ says (step.Pump 0) answer.Blocked
    ∷ says (step.Look 0) answer.Withheld
    ∷ says (step.Deliver 3) (answer.Freed 1)
    ∷ says (step.Pump 0) answer.WaitDone
    ∷ says (step.Look 0) answer.Free
    ∷ []

abbrev pub NotFreedAtTheFirstOfTwo : Type 0
NotFreedAtTheFirstOfTwo = IsRun (config 1 2 1 0) not_freed_at_the_first_of_two 2 0 0

-- a count field of 0 is eight completions, neither none nor one
abbrev pub not_none_of_eight : List Line
not_none_of_eight =
    (says step.Space (answer.Space 0)
    ∷ says (step.Map 0 16 true) (answer.Frame 0)
    ∷ says (step.Bind 0 0) (answer.Binding 0 1)
    ∷ says (step.Unmap 0 16 1) (answer.WithheldFrames (0 ∷ []))
    ∷ says (step.Pump 0) (answer.Itag 0)
    ∷ says (step.Deliver 1) answer.Taken
    ∷ says (step.Finish 0 1 8) (answer.Sent 8)
    ∷ says (step.Pump 0) answer.Blocked
    ∷ [])
    ++ lines 7 (λ k. says (step.Deliver (2 + k)) (answer.Freed 0))
    ++ (says (step.Pump 0) answer.Blocked
    ∷ says (step.Deliver 9) (answer.Freed 1)
    ∷ says (step.Pump 0) answer.WaitDone
    ∷ says (step.Look 0) answer.Free
    ∷ [])

abbrev pub NotNoneOfEight : Type 0
NotNoneOfEight = IsRun (config 1 2 1 0) not_none_of_eight 2 0 0

-- the answer to a request that was out when its page was invalidated isn't kept
abbrev pub doomed_answer_not_kept : List Line
doomed_answer_not_kept =
    says step.Space (answer.Space 0)
    ∷ says (step.Map 0 16 true) (answer.Frame 0)
    ∷ says (step.Bind 0 0) (answer.Binding 0 1)
    ∷ says (step.Deliver 0) answer.Started
    ∷ says (step.Ask 0 1 16) (answer.Tag 0)
    ∷ says (step.Deliver 1) answer.Completion
    ∷ says (step.Unmap 0 16 1) (answer.WithheldFrames (0 ∷ []))
    ∷ says (step.Pump 0) (answer.Itag 0)
    ∷ says (step.Deliver 3) answer.Taken
    ∷ says (step.Finish 0 1 1) (answer.Sent 1)
    ∷ says (step.Deliver 2) answer.Dropped
    ∷ refused (step.BeginUse 0 1 16 false) refusal.NotHeld
    ∷ says (step.Deliver 4) (answer.Freed 1)
    ∷ says (step.Pump 0) answer.WaitDone
    ∷ refused (step.BeginUse 0 1 16 false) refusal.NotHeld
    ∷ []

abbrev pub DoomedAnswerNotKept : Type 0
DoomedAnswerNotKept = IsRun (config 1 2 1 0) doomed_answer_not_kept 2 0 0

-- nor where it comes after the frame is free and mapped again
abbrev pub doomed_answer_not_kept_later : List Line
doomed_answer_not_kept_later =
    says step.Space (answer.Space 0)
    ∷ says (step.Map 0 16 true) (answer.Frame 0)
    ∷ says (step.Bind 0 0) (answer.Binding 0 1)
    ∷ says (step.Deliver 0) answer.Started
    ∷ says (step.Ask 0 1 16) (answer.Tag 0)
    ∷ says (step.Deliver 1) answer.Completion
    ∷ says (step.Unmap 0 16 1) (answer.WithheldFrames (0 ∷ []))
    ∷ says (step.Pump 0) (answer.Itag 0)
    ∷ says (step.Deliver 3) answer.Taken
    ∷ says (step.Finish 0 1 1) (answer.Sent 1)
    ∷ says (step.Deliver 4) (answer.Freed 1)
    ∷ says (step.Pump 0) answer.WaitDone
    ∷ says (step.Map 0 17 true) (answer.Frame 0)
    ∷ says (step.Deliver 2) answer.Dropped
    ∷ refused (step.BeginUse 0 1 16 true) refusal.NotHeld
    ∷ []

abbrev pub DoomedAnswerNotKeptLater : Type 0
DoomedAnswerNotKeptLater = IsRun (config 1 2 1 0) doomed_answer_not_kept_later 1 1 0

-- the tag of a doomed request isn't free before its answer has come
abbrev pub doomed_tag_not_given_back : List Line
doomed_tag_not_given_back =
    says step.Space (answer.Space 0)
    ∷ says (step.Map 0 16 true) (answer.Frame 0)
    ∷ says (step.Bind 0 0) (answer.Binding 0 1)
    ∷ says (step.Unmap 0 16 1) (answer.WithheldFrames (0 ∷ []))
    ∷ says (step.Pump 0) (answer.Itag 0)
    ∷ says (step.Deliver 0) answer.Started
    ∷ says (step.Ask 0 1 16) (answer.Tag 0)
    ∷ says (step.Deliver 1) answer.Taken
    ∷ says (step.Ask 0 1 16) (answer.Tag 1)
    ∷ says (step.Deliver 2) answer.Completion
    ∷ says (step.Deliver 4) answer.Dropped
    ∷ says (step.Ask 0 1 16) (answer.Tag 0)
    ∷ []

abbrev pub DoomedTagNotGivenBack : Type 0
DoomedTagNotGivenBack = IsRun (config 1 2 1 0) doomed_tag_not_given_back 1 0 1

-- a frame isn't withheld any longer when its last wait is done
abbrev pub not_withheld_past_the_last_wait : List Line
not_withheld_past_the_last_wait =
    says step.Space (answer.Space 0)
    ∷ says (step.Map 0 16 true) (answer.Frame 0)
    ∷ says (step.Bind 0 0) (answer.Binding 0 1)
    ∷ says (step.Unmap 0 16 1) (answer.WithheldFrames (0 ∷ []))
    ∷ says (step.Pump 0) (answer.Itag 0)
    ∷ says (step.Deliver 1) answer.Taken
    ∷ says (step.Finish 0 1 1) (answer.Sent 1)
    ∷ says (step.Deliver 2) (answer.Freed 1)
    ∷ says (step.Look 0) answer.Withheld
    ∷ says (step.Pump 0) answer.WaitDone
    ∷ says (step.Look 0) answer.Free
    ∷ says (step.Map 0 16 true) (answer.Frame 0)
    ∷ []

abbrev pub NotWithheldPastTheLastWait : Type 0
NotWithheldPastTheLastWait = IsRun (config 1 2 1 0) not_withheld_past_the_last_wait 1 1 0

-- a frame unmapped while its PASID is invalidated isn't free before that has an answer
abbrev pub not_free_while_invalidating : List Line
not_free_while_invalidating =
    says step.Space (answer.Space 0)
    ∷ says (step.Bind 0 0) (answer.Binding 0 1)
    ∷ says (step.Unbind 0) answer.Stopping
    ∷ says (step.Deliver 0) answer.Started
    ∷ says (step.Deliver 1) answer.Stopping
    ∷ says (step.Quit 0 1) answer.Marker
    ∷ says (step.Deliver 2) answer.Marked
    ∷ says (step.Advance 0) answer.Draining
    ∷ says (step.Pump 0) answer.WaitDone
    ∷ says (step.Map 0 16 true) (answer.Frame 0)
    ∷ says (step.Advance 0) answer.Invalidating
    ∷ says (step.Unmap 0 16 1) (answer.WithheldFrames (0 ∷ []))
    ∷ says (step.Look 0) answer.Withheld
    ∷ says (step.Map 0 17 true) (answer.Frame 1)
    ∷ []

abbrev pub NotFreeWhileInvalidating : Type 0
NotFreeWhileInvalidating = IsRun (config 1 2 1 0) not_free_while_invalidating 0 1 1

-- a PASID isn't given out before its invalidation is answered
abbrev pub not_released_while_invalidating : List Line
not_released_while_invalidating =
    says step.Space (answer.Space 0)
    ∷ says step.Space (answer.Space 1)
    ∷ says (step.Map 0 16 true) (answer.Frame 0)
    ∷ says (step.Bind 0 0) (answer.Binding 0 1)
    ∷ says (step.Deliver 0) answer.Started
    ∷ says (step.Ask 0 1 16) (answer.Tag 0)
    ∷ says (step.Deliver 1) answer.Completion
    ∷ says (step.Unbind 0) answer.Stopping
    ∷ says (step.Deliver 3) answer.Stopping
    ∷ says (step.Deliver 2) answer.Held
    ∷ says (step.Quit 0 1) answer.Marker
    ∷ says (step.Deliver 4) answer.Marked
    ∷ says (step.Advance 0) answer.Draining
    ∷ says (step.Pump 0) answer.WaitDone
    ∷ says (step.Advance 0) answer.Invalidating
    ∷ refused (step.Advance 0) refusal.NotYet
    ∷ refused (step.Bind 0 0) refusal.AlreadyBound
    ∷ says (step.Bind 0 1) (answer.Binding 1 2)
    ∷ says (step.Pump 0) (answer.Itag 0)
    ∷ refused (step.Advance 0) refusal.NotYet
    ∷ refused (step.DropSpace 0) refusal.StillBound
    ∷ []

abbrev pub NotReleasedWhileInvalidating : Type 0
NotReleasedWhileInvalidating = IsRun (config 1 2 1 0) not_released_while_invalidating 1 1 0

-- a PASID isn't given out before its binding is released
abbrev pub not_released_while_quiet : List Line
not_released_while_quiet =
    says step.Space (answer.Space 0)
    ∷ says step.Space (answer.Space 1)
    ∷ says (step.Bind 0 0) (answer.Binding 0 1)
    ∷ says (step.Deliver 0) answer.Started
    ∷ says (step.Reset 0) answer.Resetting
    ∷ says (step.Deliver 1) answer.Reset
    ∷ says (step.Deliver 2) answer.ResetDone
    ∷ says (step.Unbind 0) answer.Quiet
    ∷ says (step.Bind 0 1) (answer.Binding 1 2)
    ∷ says (step.Advance 0) answer.Released
    ∷ says (step.Bind 0 0) (answer.Binding 2 1)
    ∷ []

abbrev pub NotReleasedWhileQuiet : Type 0
NotReleasedWhileQuiet = IsRun (config 1 2 1 0) not_released_while_quiet 2 0 0

-- a reset leaves no use running, and no slot free before the use is ended
abbrev pub no_use_left_by_a_reset : List Line
no_use_left_by_a_reset =
    says step.Space (answer.Space 0)
    ∷ says (step.Map 0 16 true) (answer.Frame 0)
    ∷ says (step.Bind 0 0) (answer.Binding 0 1)
    ∷ says (step.Deliver 0) answer.Started
    ∷ says (step.Ask 0 1 16) (answer.Tag 0)
    ∷ says (step.Deliver 1) answer.Completion
    ∷ says (step.Unmap 0 16 1) (answer.WithheldFrames (0 ∷ []))
    ∷ says (step.Reset 0) answer.Resetting
    ∷ says (step.Deliver 2) answer.Held
    ∷ says (step.BeginUse 0 1 16 false) (answer.Use 0 0)
    ∷ says (step.Deliver 3) answer.Reset
    ∷ says (step.Deliver 4) answer.ResetDone
    ∷ says (step.Look 0) answer.Free
    ∷ says (step.EndUse 0 0) answer.Dead
    ∷ []

abbrev pub NoUseLeftByAReset : Type 0
NoUseLeftByAReset = IsRun (config 1 2 1 0) no_use_left_by_a_reset 2 0 0

-- a group of a PASID that was quit keeps its index until its response comes
abbrev pub no_index_given_back_by_a_quit : List Line
no_index_given_back_by_a_quit =
    says step.Space (answer.Space 0)
    ∷ says step.Space (answer.Space 1)
    ∷ says (step.Bind 0 0) (answer.Binding 0 1)
    ∷ says (step.Bind 0 1) (answer.Binding 1 2)
    ∷ says (step.Deliver 0) answer.Started
    ∷ says (step.Deliver 1) answer.Started
    ∷ says (step.Fault 0 1 16 false true None true) (answer.Group 0)
    ∷ says (step.Unbind 0) answer.Stopping
    ∷ says (step.Deliver 3) answer.Stopping
    ∷ says (step.Quit 0 1) answer.Marker
    ∷ says (step.Fault 0 2 16 true false None true) (answer.Group 1)
    ∷ says (step.Deliver 2) answer.Queued
    ∷ says (step.Serve 0) answer.Job
    ∷ says (step.Take 0) (answer.JobTaken 0 0 1)
    ∷ says (step.Reply 0 verdict.Success) answer.Invalid
    ∷ says (step.Fault 0 2 17 true false None true) (answer.Group 2)
    ∷ says (step.Deliver 6) answer.Stale
    ∷ says (step.Fault 0 2 18 true false None true) (answer.Group 0)
    ∷ []

abbrev pub NoIndexGivenBackByAQuit : Type 0
NoIndexGivenBackByAQuit = IsRun (config 1 2 1 0) no_index_given_back_by_a_quit 2 0 0
