-- Runs that are worked out: each is a short run in which a wrong rule would answer otherwise, and is named by what doesn't happen.
use Rattle.std.specs.Prelude.{true, false, List, [], ◌∷◌, None}
use Rattle.sva_step.specs.declared.answers.Answer.TheVariants as answer
use Rattle.sva_step.specs.declared.refusals.Refusal.TheVariants as refusal
use Rattle.sva_step.specs.declared.steps.Step.TheVariants as step
use Rattle.sva_step.specs.declared.steps.Verdict.TheVariants as verdict
use Rattle.sva_model.specs.Runs.{Line, says, IsRun, config, refused}

-- an invalidation isn't finished while a use that it covers runs
abbrev pub not_finished_while_a_use_runs : List Line
not_finished_while_a_use_runs =
    says step.Space (answer.Space 0)
    ∷ says (step.Map 0 16 true) (answer.Frame 0)
    ∷ says (step.Bind 0 0) (answer.Binding 0 1)
    ∷ says (step.Deliver 0) answer.Started
    ∷ says (step.Ask 0 1 16) (answer.Tag 0)
    ∷ says (step.Deliver 1) answer.Completion
    ∷ says (step.Unmap 0 16 1) (answer.WithheldFrames (0 ∷ []))
    ∷ says (step.Pump 0) (answer.Itag 0)
    ∷ says (step.Deliver 2) answer.Held
    ∷ says (step.BeginUse 0 1 16 false) (answer.Use 0 0)
    ∷ says (step.Deliver 3) answer.Taken
    ∷ refused (step.Finish 0 1 1) refusal.InUse
    ∷ refused (step.Deliver 4) refusal.NoSuchMessage
    ∷ says (step.Pump 0) answer.Blocked
    ∷ says (step.EndUse 0 0) answer.Ended
    ∷ says (step.Finish 0 1 1) (answer.Sent 1)
    ∷ says (step.Deliver 4) (answer.Freed 1)
    ∷ says (step.Pump 0) answer.WaitDone
    ∷ []

abbrev pub NotFinishedWhileAUseRuns : Type 0
NotFinishedWhileAUseRuns = IsRun (config 1 2 1 0) not_finished_while_a_use_runs 2 0 0

-- an invalidation isn't held up by a use of another page, of another PASID, or begun later
abbrev pub no_use_held_against_another : List Line
no_use_held_against_another =
    says step.Space (answer.Space 0)
    ∷ says step.Space (answer.Space 1)
    ∷ says (step.Map 0 16 false) (answer.Frame 0)
    ∷ says (step.Map 0 17 false) (answer.Frame 1)
    ∷ says (step.Map 1 16 false) (answer.Frame 2)
    ∷ says (step.Bind 0 0) (answer.Binding 0 1)
    ∷ says (step.Bind 0 1) (answer.Binding 1 2)
    ∷ says (step.Deliver 0) answer.Started
    ∷ says (step.Deliver 1) answer.Started
    ∷ says (step.Ask 0 1 17) (answer.Tag 0)
    ∷ says (step.Ask 0 2 16) (answer.Tag 1)
    ∷ says (step.Deliver 2) answer.Completion
    ∷ says (step.Deliver 3) answer.Completion
    ∷ says (step.Deliver 4) answer.Held
    ∷ says (step.Deliver 5) answer.Held
    ∷ says (step.BeginUse 0 1 17 false) (answer.Use 0 1)
    ∷ says (step.BeginUse 0 2 16 false) (answer.Use 1 2)
    ∷ says (step.Unmap 0 16 1) (answer.WithheldFrames (0 ∷ []))
    ∷ says (step.Map 0 16 false) (answer.Frame 3)
    ∷ says (step.Pump 0) (answer.Itag 0)
    ∷ says (step.Deliver 6) answer.Taken
    ∷ says (step.Ask 0 1 16) (answer.Tag 0)
    ∷ says (step.Deliver 7) answer.Completion
    ∷ says (step.Deliver 8) answer.Held
    ∷ says (step.BeginUse 0 1 16 false) (answer.Use 2 3)
    ∷ says (step.Finish 0 1 1) (answer.Sent 1)
    ∷ []

abbrev pub NoUseHeldAgainstAnother : Type 0
NoUseHeldAgainstAnother = IsRun (config 1 4 1 0) no_use_held_against_another 0 3 1

-- a wait that drains isn't done while a page request is queued
abbrev pub no_drain_past_a_page_request : List Line
no_drain_past_a_page_request =
    says step.Space (answer.Space 0)
    ∷ says (step.Bind 0 0) (answer.Binding 0 1)
    ∷ says (step.Unbind 0) answer.Stopping
    ∷ says (step.Deliver 0) answer.Started
    ∷ says (step.Fault 0 1 16 false true None true) (answer.Group 0)
    ∷ says (step.Deliver 1) answer.Stopping
    ∷ says (step.Quit 0 1) answer.Marker
    ∷ says (step.Deliver 2) answer.Queued
    ∷ says (step.Deliver 3) answer.Marked
    ∷ says (step.Advance 0) answer.Draining
    ∷ says (step.Pump 0) answer.Blocked
    ∷ refused (step.Advance 0) refusal.NotYet
    ∷ says (step.Serve 0) answer.Job
    ∷ says (step.Pump 0) answer.WaitDone
    ∷ refused (step.Advance 0) refusal.NotYet
    ∷ says (step.Take 0) (answer.JobTaken 0 0 1)
    ∷ refused (step.Advance 0) refusal.NotYet
    ∷ says (step.Reply 0 verdict.Success) answer.Invalid
    ∷ says (step.Advance 0) answer.Invalidating
    ∷ []

abbrev pub NoDrainPastAPageRequest : Type 0
NoDrainPastAPageRequest = IsRun (config 1 2 1 0) no_drain_past_a_page_request 2 0 0

-- an unbind sends no response of its own; the worker's is the only one
abbrev pub no_response_by_an_unbind : List Line
no_response_by_an_unbind =
    says step.Space (answer.Space 0)
    ∷ says (step.Bind 0 0) (answer.Binding 0 1)
    ∷ says (step.Deliver 0) answer.Started
    ∷ says (step.Fault 0 1 16 false true None true) (answer.Group 0)
    ∷ says (step.Deliver 1) answer.Queued
    ∷ says (step.Serve 0) answer.Job
    ∷ says (step.Unbind 0) answer.Stopping
    ∷ refused (step.Deliver 3) refusal.NoSuchMessage
    ∷ says (step.Take 0) (answer.JobTaken 0 0 1)
    ∷ says (step.Reply 0 verdict.Success) answer.Invalid
    ∷ says (step.Deliver 2) answer.Stopping
    ∷ says (step.Deliver 3) answer.Answered
    ∷ refused (step.Deliver 4) refusal.NoSuchMessage
    ∷ []

abbrev pub NoResponseByAnUnbind : Type 0
NoResponseByAnUnbind = IsRun (config 1 2 1 0) no_response_by_an_unbind 2 0 0

-- a worker's answer isn't sent at a unit in reset
abbrev pub no_response_in_reset : List Line
no_response_in_reset =
    says step.Space (answer.Space 0)
    ∷ says (step.Bind 0 0) (answer.Binding 0 1)
    ∷ says (step.Deliver 0) answer.Started
    ∷ says (step.Fault 0 1 16 false true None true) (answer.Group 0)
    ∷ says (step.Deliver 1) answer.Queued
    ∷ says (step.Serve 0) answer.Job
    ∷ says (step.Take 0) (answer.JobTaken 0 0 1)
    ∷ says (step.Reset 0) answer.Resetting
    ∷ says (step.Reply 0 verdict.Success) answer.Dropped
    ∷ says (step.Deliver 2) answer.Reset
    ∷ says (step.Deliver 3) answer.ResetDone
    ∷ says (step.Look 0) answer.Free
    ∷ []

abbrev pub NoResponseInReset : Type 0
NoResponseInReset = IsRun (config 1 2 1 0) no_response_in_reset 2 0 0

-- an unmap while its PASID is invalidated submits nothing
abbrev pub no_page_invalidation_while_invalidating : List Line
no_page_invalidation_while_invalidating =
    says step.Space (answer.Space 0)
    ∷ says (step.Bind 0 0) (answer.Binding 0 1)
    ∷ says (step.Unbind 0) answer.Stopping
    ∷ says (step.Deliver 0) answer.Started
    ∷ says (step.Deliver 1) answer.Stopping
    ∷ says (step.Quit 0 1) answer.Marker
    ∷ says (step.Deliver 2) answer.Marked
    ∷ says (step.Advance 0) answer.Draining
    ∷ says (step.Map 0 16 true) (answer.Frame 0)
    ∷ says (step.Pump 0) answer.WaitDone
    ∷ says (step.Advance 0) answer.Invalidating
    ∷ says (step.Unmap 0 16 1) (answer.WithheldFrames (0 ∷ []))
    ∷ says (step.Pump 0) (answer.Itag 0)
    ∷ says (step.Deliver 3) answer.Taken
    ∷ says (step.Finish 0 1 1) (answer.Sent 1)
    ∷ says (step.Look 0) answer.Withheld
    ∷ says (step.Deliver 4) (answer.Freed 1)
    ∷ says (step.Look 0) answer.Withheld
    ∷ says (step.Pump 0) answer.WaitDone
    ∷ says (step.Look 0) answer.Free
    ∷ says (step.Advance 0) answer.Quiet
    ∷ says (step.Advance 0) answer.Released
    ∷ says (step.Bind 0 0) (answer.Binding 1 1)
    ∷ says (step.Pump 0) answer.Idle
    ∷ says (step.Deliver 5) answer.Started
    ∷ says (step.Ask 0 1 16) (answer.Tag 0)
    ∷ says (step.Deliver 6) answer.Completion
    ∷ says (step.Deliver 7) answer.NoTranslation
    ∷ []

abbrev pub NoPageInvalidationWhileInvalidating : Type 0
NoPageInvalidationWhileInvalidating = IsRun (config 1 2 1 0) no_page_invalidation_while_invalidating 2 0 0

-- a reset-done overtakes no older message, up or down
abbrev pub no_reset_done_past_older_messages : List Line
no_reset_done_past_older_messages =
    says step.Space (answer.Space 0)
    ∷ says (step.Bind 0 0) (answer.Binding 0 1)
    ∷ says (step.Reset 0) answer.Resetting
    ∷ says (step.Deliver 0) answer.Started
    ∷ says (step.Fault 0 1 16 false true None true) (answer.Group 0)
    ∷ says (step.Deliver 1) answer.Reset
    ∷ refused (step.Deliver 3) refusal.Overtakes
    ∷ refused (step.Unbind 0) refusal.Resetting
    ∷ says (step.Deliver 2) answer.Dropped
    ∷ says (step.Deliver 3) answer.ResetDone
    ∷ says (step.Unbind 0) answer.Quiet
    ∷ says (step.Advance 0) answer.Released
    ∷ []

abbrev pub NoResetDonePastOlderMessages : Type 0
NoResetDonePastOlderMessages = IsRun (config 1 2 1 0) no_reset_done_past_older_messages 2 0 0

-- a marker overtakes no older page request
abbrev pub no_marker_past_page_requests : List Line
no_marker_past_page_requests =
    says step.Space (answer.Space 0)
    ∷ says (step.Bind 0 0) (answer.Binding 0 1)
    ∷ says (step.Unbind 0) answer.Stopping
    ∷ says (step.Deliver 0) answer.Started
    ∷ says (step.Fault 0 1 16 false true None true) (answer.Group 0)
    ∷ says (step.Deliver 1) answer.Stopping
    ∷ says (step.Quit 0 1) answer.Marker
    ∷ refused (step.Deliver 3) refusal.Overtakes
    ∷ refused (step.Advance 0) refusal.NotYet
    ∷ says (step.Deliver 2) answer.Queued
    ∷ says (step.Deliver 3) answer.Marked
    ∷ says (step.Advance 0) answer.Draining
    ∷ []

abbrev pub NoMarkerPastPageRequests : Type 0
NoMarkerPastPageRequests = IsRun (config 1 2 1 0) no_marker_past_page_requests 2 0 0

-- a wait isn't done while an ITag is busy
abbrev pub no_wait_past_a_busy_tag : List Line
no_wait_past_a_busy_tag =
    says step.Space (answer.Space 0)
    ∷ says (step.Map 0 16 true) (answer.Frame 0)
    ∷ says (step.Bind 0 0) (answer.Binding 0 1)
    ∷ says (step.Unmap 0 16 1) (answer.WithheldFrames (0 ∷ []))
    ∷ says (step.Pump 0) (answer.Itag 0)
    ∷ says (step.Pump 0) answer.Blocked
    ∷ says (step.Look 0) answer.Withheld
    ∷ []

abbrev pub NoWaitPastABusyTag : Type 0
NoWaitPastABusyTag = IsRun (config 1 2 1 0) no_wait_past_a_busy_tag 1 0 1

-- a PASID isn't quit while a use of it runs, and is while a translation is held
abbrev pub no_quit_while_a_use_runs : List Line
no_quit_while_a_use_runs =
    says step.Space (answer.Space 0)
    ∷ says (step.Map 0 16 true) (answer.Frame 0)
    ∷ says (step.Bind 0 0) (answer.Binding 0 1)
    ∷ says (step.Deliver 0) answer.Started
    ∷ says (step.Ask 0 1 16) (answer.Tag 0)
    ∷ says (step.Deliver 1) answer.Completion
    ∷ says (step.Deliver 2) answer.Held
    ∷ says (step.BeginUse 0 1 16 true) (answer.Use 0 0)
    ∷ says (step.Unbind 0) answer.Stopping
    ∷ says (step.Deliver 3) answer.Stopping
    ∷ refused (step.Quit 0 1) refusal.Busy
    ∷ says (step.EndUse 0 0) answer.Ended
    ∷ says (step.Quit 0 1) answer.Marker
    ∷ refused (step.BeginUse 0 1 16 true) refusal.NotStarted
    ∷ []

abbrev pub NoQuitWhileAUseRuns : Type 0
NoQuitWhileAUseRuns = IsRun (config 1 2 1 0) no_quit_while_a_use_runs 1 1 0

-- a PASID isn't quit while a translation request of it is out
abbrev pub no_quit_while_a_request_is_out : List Line
no_quit_while_a_request_is_out =
    says step.Space (answer.Space 0)
    ∷ says (step.Bind 0 0) (answer.Binding 0 1)
    ∷ says (step.Deliver 0) answer.Started
    ∷ says (step.Ask 0 1 16) (answer.Tag 0)
    ∷ says (step.Unbind 0) answer.Stopping
    ∷ says (step.Deliver 2) answer.Stopping
    ∷ refused (step.Quit 0 1) refusal.Busy
    ∷ says (step.Deliver 1) answer.Completion
    ∷ refused (step.Quit 0 1) refusal.Busy
    ∷ says (step.Deliver 3) answer.NoTranslation
    ∷ says (step.Quit 0 1) answer.Marker
    ∷ []

abbrev pub NoQuitWhileARequestIsOut : Type 0
NoQuitWhileARequestIsOut = IsRun (config 1 2 1 0) no_quit_while_a_request_is_out 2 0 0

-- a request of a binding that stops is answered without a translation
abbrev pub no_translation_while_stopping : List Line
no_translation_while_stopping =
    says step.Space (answer.Space 0)
    ∷ says (step.Map 0 16 true) (answer.Frame 0)
    ∷ says (step.Bind 0 0) (answer.Binding 0 1)
    ∷ says (step.Deliver 0) answer.Started
    ∷ says (step.Ask 0 1 16) (answer.Tag 0)
    ∷ says (step.Unbind 0) answer.Stopping
    ∷ says (step.Deliver 1) answer.Completion
    ∷ says (step.Deliver 3) answer.NoTranslation
    ∷ []

abbrev pub NoTranslationWhileStopping : Type 0
NoTranslationWhileStopping = IsRun (config 1 2 1 0) no_translation_while_stopping 1 1 0

-- a request is answered from its own PASID's space
abbrev pub no_translation_of_another_space : List Line
no_translation_of_another_space =
    says step.Space (answer.Space 0)
    ∷ says step.Space (answer.Space 1)
    ∷ says (step.Map 0 16 false) (answer.Frame 0)
    ∷ says (step.Map 1 17 false) (answer.Frame 1)
    ∷ says (step.Bind 0 0) (answer.Binding 0 1)
    ∷ says (step.Bind 0 1) (answer.Binding 1 2)
    ∷ says (step.Deliver 0) answer.Started
    ∷ says (step.Deliver 1) answer.Started
    ∷ says (step.Ask 0 1 17) (answer.Tag 0)
    ∷ says (step.Ask 0 2 17) (answer.Tag 1)
    ∷ says (step.Deliver 2) answer.Completion
    ∷ says (step.Deliver 3) answer.Completion
    ∷ says (step.Deliver 4) answer.NoTranslation
    ∷ says (step.Deliver 5) answer.Held
    ∷ refused (step.BeginUse 0 1 17 false) refusal.NotHeld
    ∷ says (step.BeginUse 0 2 17 false) (answer.Use 0 1)
    ∷ []

abbrev pub NoTranslationOfAnotherSpace : Type 0
NoTranslationOfAnotherSpace = IsRun (config 1 2 1 0) no_translation_of_another_space 0 2 0

-- a page's invalidation covers that page of its PASID and nothing else
abbrev pub nothing_else_invalidated : List Line
nothing_else_invalidated =
    says step.Space (answer.Space 0)
    ∷ says step.Space (answer.Space 1)
    ∷ says (step.Map 0 16 false) (answer.Frame 0)
    ∷ says (step.Map 0 17 false) (answer.Frame 1)
    ∷ says (step.Map 1 16 false) (answer.Frame 2)
    ∷ says (step.Bind 0 0) (answer.Binding 0 1)
    ∷ says (step.Bind 0 1) (answer.Binding 1 2)
    ∷ says (step.Deliver 0) answer.Started
    ∷ says (step.Deliver 1) answer.Started
    ∷ says (step.Ask 0 1 16) (answer.Tag 0)
    ∷ says (step.Ask 0 1 17) (answer.Tag 1)
    ∷ says (step.Ask 0 2 16) (answer.Tag 2)
    ∷ says (step.Deliver 2) answer.Completion
    ∷ says (step.Deliver 3) answer.Completion
    ∷ says (step.Deliver 4) answer.Completion
    ∷ says (step.Deliver 5) answer.Held
    ∷ says (step.Deliver 6) answer.Held
    ∷ says (step.Ask 0 1 16) (answer.Tag 0)
    ∷ says (step.Unmap 0 16 1) (answer.WithheldFrames (0 ∷ []))
    ∷ says (step.Pump 0) (answer.Itag 0)
    ∷ says (step.Deliver 9) answer.Taken
    ∷ says (step.Deliver 7) answer.Held
    ∷ refused (step.BeginUse 0 1 16 false) refusal.NotHeld
    ∷ says (step.BeginUse 0 1 17 false) (answer.Use 0 1)
    ∷ says (step.BeginUse 0 2 16 false) (answer.Use 1 2)
    ∷ []

abbrev pub NothingElseInvalidated : Type 0
NothingElseInvalidated = IsRun (config 1 4 1 0) nothing_else_invalidated 1 2 1

-- a PASID's invalidation covers all its pages and no other PASID's
abbrev pub nothing_of_a_pasid_left : List Line
nothing_of_a_pasid_left =
    says step.Space (answer.Space 0)
    ∷ says step.Space (answer.Space 1)
    ∷ says (step.Map 0 16 false) (answer.Frame 0)
    ∷ says (step.Map 0 17 false) (answer.Frame 1)
    ∷ says (step.Map 1 16 false) (answer.Frame 2)
    ∷ says (step.Bind 0 0) (answer.Binding 0 1)
    ∷ says (step.Bind 0 1) (answer.Binding 1 2)
    ∷ says (step.Deliver 0) answer.Started
    ∷ says (step.Deliver 1) answer.Started
    ∷ says (step.Ask 0 1 16) (answer.Tag 0)
    ∷ says (step.Ask 0 1 17) (answer.Tag 1)
    ∷ says (step.Ask 0 2 16) (answer.Tag 2)
    ∷ says (step.Deliver 2) answer.Completion
    ∷ says (step.Deliver 3) answer.Completion
    ∷ says (step.Deliver 4) answer.Completion
    ∷ says (step.Deliver 5) answer.Held
    ∷ says (step.Deliver 6) answer.Held
    ∷ says (step.Deliver 7) answer.Held
    ∷ says (step.Unbind 0) answer.Stopping
    ∷ says (step.Deliver 8) answer.Stopping
    ∷ says (step.Quit 0 1) answer.Marker
    ∷ says (step.Deliver 9) answer.Marked
    ∷ says (step.Advance 0) answer.Draining
    ∷ says (step.Pump 0) answer.WaitDone
    ∷ says (step.Advance 0) answer.Invalidating
    ∷ says (step.Evict 0 1 17) answer.Evicted
    ∷ says (step.Pump 0) (answer.Itag 0)
    ∷ says (step.Deliver 10) answer.Taken
    ∷ refused (step.Evict 0 1 16) refusal.NotHeld
    ∷ says (step.BeginUse 0 2 16 false) (answer.Use 0 2)
    ∷ []

abbrev pub NothingOfAPasidLeft : Type 0
NothingOfAPasidLeft = IsRun (config 1 4 1 0) nothing_of_a_pasid_left 1 3 0
