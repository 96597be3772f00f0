-- Runs that are worked out: what each kind of message does where it is delivered, at an open unit and at one in reset.
use Rattle.std.specs.Prelude.{true, false, List, [], ◌∷◌, None, ◌++◌, ◌+◌, Some}
use Rattle.sva_step.specs.declared.answers.Answer.TheVariants as answer
use Rattle.sva_step.specs.declared.refusals.Refusal.TheVariants as refusal
use Rattle.sva_step.specs.declared.steps.Step.TheVariants as step
use Rattle.sva_step.specs.declared.steps.Verdict.TheVariants as verdict
use Rattle.sva_model.specs.State.PasidRule.{PerSpace}
use Rattle.sva_model.specs.Runs.{one_page, Line, says, IsRun, config, refused, lines}
use Rattle.std.specs.Prelude.{◌≡◌, ℕ, replicate}
use Rattle.sva_step.specs.declared.limits.Config.{Config}
use Rattle.sva_model.specs.Words.{tabulate}
use Rattle.sva_model.specs.Message.{Message}
use Rattle.sva_model.specs.Message.Code.{InvalidCode}
use Rattle.sva_model.specs.Message.Message.{StartMessage, StopMessage, ResetMessage, CompletionMessage, InvalidateMessage, ResponseMessage, RequestMessage}
use Rattle.sva_model.specs.Message.Message.{InvalidatedMessage, PageRequestMessage, MarkerMessage, ResetDoneMessage}
use Rattle.sva_model.specs.Runs.{steps_of}
use Rattle.sva_model.specs.RunsOfInvalidations.{count_of_eight}
use Rattle.sva_model.specs.RunsOfPageRequests.{each_kind_at_an_open_unit}
use Rattle.sva_model.specs.Steps.{world_after}

-- the messages of a run at one endpoint, as they were sent, are these
abbrev pub AreSent : Config → List Line → (count : ℕ) → List Message → Type 0
AreSent limits row count messages = tabulate count (((world_after PerSpace limits (steps_of row)).part 0).carried) ≡ messages

-- a start and a stop arrive before the reset, and the marker after them is dropped
abbrev pub start_and_stop_in_reset : List Line
start_and_stop_in_reset =
    says step.Space (answer.Space 0)
    ∷ says (step.Bind 0 0) (answer.Binding 0 1)
    ∷ says (step.Unbind 0) answer.Stopping
    ∷ says (step.Reset 0) answer.Resetting
    ∷ refused (step.Deliver 2) refusal.Overtakes
    ∷ says (step.Deliver 0) answer.Started
    ∷ refused (step.Deliver 2) refusal.Overtakes
    ∷ says (step.Deliver 1) answer.Stopping
    ∷ says (step.Quit 0 1) answer.Marker
    ∷ says (step.Deliver 3) answer.Dropped
    ∷ says (step.Deliver 2) answer.Reset
    ∷ says (step.Deliver 4) answer.ResetDone
    ∷ says (step.Advance 0) answer.Released
    ∷ []

abbrev pub StartAndStopInReset : Type 0
StartAndStopInReset = IsRun (config 1 1 1 0) start_and_stop_in_reset 1 0 0

-- a start arrives at a unit in reset: its PASID is on until the reset arrives
abbrev pub start_before_the_reset : List Line
start_before_the_reset =
    says step.Space (answer.Space 0)
    ∷ says (step.Map 0 16 false) (answer.Frame 0)
    ∷ says (step.Bind 0 0) (answer.Binding 0 1)
    ∷ says (step.Reset 0) answer.Resetting
    ∷ refused (step.Ask 0 1 16) refusal.NotStarted
    ∷ says (step.Deliver 0) answer.Started
    ∷ says (step.Ask 0 1 16) (answer.Tag 0)
    ∷ says (step.Deliver 2) answer.Dropped
    ∷ says (step.Deliver 1) answer.Reset
    ∷ refused (step.Ask 0 1 16) refusal.NotStarted
    ∷ says (step.Deliver 3) answer.ResetDone
    ∷ refused (step.Ask 0 1 16) refusal.NotStarted
    ∷ []

abbrev pub StartBeforeTheReset : Type 0
StartBeforeTheReset = IsRun (config 1 1 1 0) start_before_the_reset 0 1 0

-- an invalidation is taken and finished before the reset, but its completion is dropped
abbrev pub invalidate_in_reset : List Line
invalidate_in_reset =
    says step.Space (answer.Space 0)
    ∷ says (step.Map 0 16 false) (answer.Frame 0)
    ∷ says (step.Bind 0 0) (answer.Binding 0 1)
    ∷ says (step.Deliver 0) answer.Started
    ∷ says (step.Ask 0 1 16) (answer.Tag 0)
    ∷ says (step.Deliver 1) answer.Completion
    ∷ says (step.Deliver 2) answer.Held
    ∷ says (step.Unmap 0 16 1) (answer.WithheldFrames (0 ∷ []))
    ∷ says (step.Pump 0) (answer.Itag 0)
    ∷ says (step.Reset 0) answer.Resetting
    ∷ refused (step.Deliver 4) refusal.Overtakes
    ∷ says (step.BeginUse 0 1 16 false) (answer.Use 0 0)
    ∷ says (step.EndUse 0 0) answer.Ended
    ∷ says (step.Deliver 3) answer.Taken
    ∷ refused (step.BeginUse 0 1 16 false) refusal.NotHeld
    ∷ says (step.Finish 0 1 1) (answer.Sent 1)
    ∷ says (step.Deliver 5) answer.Dropped
    ∷ says (step.Look 0) answer.Withheld
    ∷ says (step.Deliver 4) answer.Reset
    ∷ says (step.Deliver 6) answer.ResetDone
    ∷ says (step.Look 0) answer.Free
    ∷ []

abbrev pub InvalidateInReset : Type 0
InvalidateInReset = IsRun (config 1 1 1 0) invalidate_in_reset 1 0 0

-- a response failure disables the interface until the reset arrives
abbrev pub response_in_reset : List Line
response_in_reset =
    says step.Space (answer.Space 0)
    ∷ says (step.Bind 0 0) (answer.Binding 0 1)
    ∷ says (step.Deliver 0) answer.Started
    ∷ says (step.Fault 0 1 16 true false None true) (answer.Group 0)
    ∷ says (step.Deliver 1) answer.Queued
    ∷ says (step.Serve 0) answer.Job
    ∷ says (step.Take 0) (answer.JobTaken 0 0 1)
    ∷ says (step.Reply 0 verdict.Failure) answer.Failure
    ∷ says (step.Fault 0 1 17 true false None true) (answer.Group 1)
    ∷ says (step.Reset 0) answer.Resetting
    ∷ refused (step.Deliver 4) refusal.Overtakes
    ∷ says (step.Deliver 2) answer.Answered
    ∷ refused (step.Fault 0 1 18 true false None true) refusal.PriDisabled
    ∷ says (step.Deliver 3) answer.Dropped
    ∷ says (step.Deliver 4) answer.Reset
    ∷ says (step.Deliver 5) answer.ResetDone
    ∷ says (step.Unbind 0) answer.Quiet
    ∷ says (step.Advance 0) answer.Released
    ∷ says (step.Bind 0 0) (answer.Binding 1 1)
    ∷ says (step.Deliver 6) answer.Started
    ∷ says (step.Fault 0 1 18 true false None true) (answer.Group 0)
    ∷ []

abbrev pub ResponseInReset : Type 0
ResponseInReset = IsRun (config 1 1 1 0) response_in_reset 1 0 0

-- a response to a group of a PASID that was quit, and the marker, at a unit in reset
abbrev pub stale_response_in_reset : List Line
stale_response_in_reset =
    says step.Space (answer.Space 0)
    ∷ says (step.Bind 0 0) (answer.Binding 0 1)
    ∷ says (step.Deliver 0) answer.Started
    ∷ says (step.Fault 0 1 16 true false None true) (answer.Group 0)
    ∷ says (step.Unbind 0) answer.Stopping
    ∷ says (step.Deliver 2) answer.Stopping
    ∷ says (step.Quit 0 1) answer.Marker
    ∷ says (step.Deliver 1) answer.Queued
    ∷ says (step.Serve 0) answer.Job
    ∷ says (step.Take 0) (answer.JobTaken 0 0 1)
    ∷ says (step.Reply 0 verdict.Success) answer.Invalid
    ∷ says (step.Reset 0) answer.Resetting
    ∷ says (step.Deliver 4) answer.Stale
    ∷ says (step.Deliver 3) answer.Dropped
    ∷ says (step.Deliver 5) answer.Reset
    ∷ says (step.Deliver 6) answer.ResetDone
    ∷ says (step.Advance 0) answer.Released
    ∷ []

abbrev pub StaleResponseInReset : Type 0
StaleResponseInReset = IsRun (config 1 1 1 0) stale_response_in_reset 1 0 0

-- held, doomed and without a page before the reset arrives; its tag is no longer out after it
abbrev pub completions_in_reset : List Line
completions_in_reset =
    says step.Space (answer.Space 0)
    ∷ says (step.Map 0 16 true) (answer.Frame 0)
    ∷ says (step.Map 0 17 false) (answer.Frame 1)
    ∷ says (step.Bind 0 0) (answer.Binding 0 1)
    ∷ says (step.Deliver 0) answer.Started
    ∷ says (step.Ask 0 1 16) (answer.Tag 0)
    ∷ says (step.Ask 0 1 17) (answer.Tag 1)
    ∷ says (step.Ask 0 1 18) (answer.Tag 2)
    ∷ says (step.Ask 0 1 16) (answer.Tag 3)
    ∷ says (step.Deliver 1) answer.Completion
    ∷ says (step.Deliver 2) answer.Completion
    ∷ says (step.Deliver 3) answer.Completion
    ∷ says (step.Deliver 4) answer.Completion
    ∷ says (step.Unmap 0 17 1) (answer.WithheldFrames (1 ∷ []))
    ∷ says (step.Pump 0) (answer.Itag 0)
    ∷ says (step.Deliver 9) answer.Taken
    ∷ says (step.Reset 0) answer.Resetting
    ∷ says (step.Deliver 5) answer.Held
    ∷ says (step.BeginUse 0 1 16 true) (answer.Use 0 0)
    ∷ says (step.Deliver 6) answer.Dropped
    ∷ says (step.Deliver 7) answer.NoTranslation
    ∷ says (step.Deliver 10) answer.Reset
    ∷ refused (step.Deliver 11) refusal.Overtakes
    ∷ says (step.Deliver 8) answer.Dropped
    ∷ says (step.Deliver 11) answer.ResetDone
    ∷ says (step.EndUse 0 0) answer.Dead
    ∷ []

abbrev pub CompletionsInReset : Type 0
CompletionsInReset = IsRun (config 1 2 1 0) completions_in_reset 1 1 0

-- held, without a page, in place of one of the same page, and doomed; each gives its tag back
abbrev pub completions_at_an_open_unit : List Line
completions_at_an_open_unit =
    says step.Space (answer.Space 0)
    ∷ says (step.Map 0 16 false) (answer.Frame 0)
    ∷ says (step.Bind 0 0) (answer.Binding 0 1)
    ∷ says (step.Deliver 0) answer.Started
    ∷ says (step.Ask 0 1 16) (answer.Tag 0)
    ∷ says (step.Deliver 1) answer.Completion
    ∷ says (step.Deliver 2) answer.Held
    ∷ says (step.Ask 0 1 17) (answer.Tag 0)
    ∷ says (step.Deliver 3) answer.Completion
    ∷ says (step.Deliver 4) answer.NoTranslation
    ∷ says (step.Ask 0 1 16) (answer.Tag 0)
    ∷ says (step.Deliver 5) answer.Completion
    ∷ says (step.Deliver 6) answer.Held
    ∷ says (step.Ask 0 1 16) (answer.Tag 0)
    ∷ says (step.Deliver 7) answer.Completion
    ∷ says (step.Unmap 0 16 1) (answer.WithheldFrames (0 ∷ []))
    ∷ says (step.Pump 0) (answer.Itag 0)
    ∷ says (step.Deliver 9) answer.Taken
    ∷ says (step.Ask 0 1 17) (answer.Tag 1)
    ∷ says (step.Deliver 8) answer.Dropped
    ∷ refused (step.BeginUse 0 1 16 false) refusal.NotHeld
    ∷ says (step.Ask 0 1 17) (answer.Tag 0)
    ∷ []

abbrev pub CompletionsAtAnOpenUnit : Type 0
CompletionsAtAnOpenUnit = IsRun (config 1 2 1 0) completions_at_an_open_unit 1 0 1

-- a doomed request is dropped also where no page was found
abbrev pub doomed_without_translation : List Line
doomed_without_translation =
    says step.Space (answer.Space 0)
    ∷ says (step.Map 0 16 false) (answer.Frame 0)
    ∷ says (step.Bind 0 0) (answer.Binding 0 1)
    ∷ says (step.Deliver 0) answer.Started
    ∷ says (step.Ask 0 1 16) (answer.Tag 0)
    ∷ says (step.Unmap 0 16 1) (answer.WithheldFrames (0 ∷ []))
    ∷ says (step.Deliver 1) answer.Completion
    ∷ says (step.Pump 0) (answer.Itag 0)
    ∷ says (step.Deliver 3) answer.Taken
    ∷ says (step.Deliver 2) answer.Dropped
    ∷ []

abbrev pub DoomedWithoutTranslation : Type 0
DoomedWithoutTranslation = IsRun (config 1 1 1 0) doomed_without_translation 0 0 1

-- 64 translations are cached: others aren't kept, one of a cached page is
abbrev pub cache_full_in_reset : List Line
cache_full_in_reset =
    (says step.Space (answer.Space 0)
    ∷ [])
    ++ lines 66 (λ k. says (step.Map 0 (16 + k) false) (answer.Frame k))
    ++ (says (step.Bind 0 0) (answer.Binding 0 1)
    ∷ says (step.Deliver 0) answer.Started
    ∷ [])
    ++ lines 32 (λ k. says (step.Ask 0 1 (16 + k)) (answer.Tag k))
    ++ lines 32 (λ k. says (step.Deliver (1 + k)) answer.Completion)
    ++ lines 32 (λ k. says (step.Deliver (33 + k)) answer.Held)
    ++ lines 32 (λ k. says (step.Ask 0 1 (48 + k)) (answer.Tag k))
    ++ lines 32 (λ k. says (step.Deliver (65 + k)) answer.Completion)
    ++ lines 32 (λ k. says (step.Deliver (97 + k)) answer.Held)
    ++ (says (step.Ask 0 1 80) (answer.Tag 0)
    ∷ says (step.Ask 0 1 81) (answer.Tag 1)
    ∷ says (step.Ask 0 1 16) (answer.Tag 2)
    ∷ says (step.Deliver 129) answer.Completion
    ∷ says (step.Deliver 130) answer.Completion
    ∷ says (step.Deliver 131) answer.Completion
    ∷ says (step.Deliver 132) answer.Full
    ∷ refused (step.BeginUse 0 1 80 false) refusal.NotHeld
    ∷ says (step.Ask 0 1 80) (answer.Tag 0)
    ∷ says (step.Reset 0) answer.Resetting
    ∷ says (step.Deliver 133) answer.Full
    ∷ says (step.Deliver 134) answer.Held
    ∷ says (step.BeginUse 0 1 16 false) (answer.Use 0 0)
    ∷ says (step.Deliver 135) answer.Dropped
    ∷ refused (step.Deliver 133) refusal.NoSuchMessage
    ∷ says (step.Ask 0 1 81) (answer.Tag 1)
    ∷ [])

abbrev pub CacheFullInReset : Type 0
CacheFullInReset = IsRun (config 1 66 1 0) cache_full_in_reset 0 66 0

-- only a response failure disables the interface; a response gives back its group's index
abbrev pub responses_by_code : List Line
responses_by_code =
    says step.Space (answer.Space 0)
    ∷ says (step.Bind 0 0) (answer.Binding 0 1)
    ∷ says (step.Deliver 0) answer.Started
    ∷ says (step.Fault 0 1 16 true false None true) (answer.Group 0)
    ∷ says (step.Fault 0 1 17 false true None true) (answer.Group 1)
    ∷ says (step.Fault 0 1 18 true false None true) (answer.Group 2)
    ∷ says (step.Deliver 1) answer.Queued
    ∷ says (step.Deliver 2) answer.Queued
    ∷ says (step.Deliver 3) answer.Queued
    ∷ says (step.Serve 0) answer.Job
    ∷ says (step.Serve 0) answer.Job
    ∷ says (step.Serve 0) answer.Job
    ∷ says (step.Take 0) (answer.JobTaken 0 0 1)
    ∷ says (step.Reply 0 verdict.Invalid) answer.Invalid
    ∷ says (step.Take 0) (answer.JobTaken 0 1 1)
    ∷ says (step.Reply 0 verdict.Success) (answer.Success 1)
    ∷ says (step.Take 0) (answer.JobTaken 0 2 1)
    ∷ says (step.Reply 0 verdict.Failure) answer.Failure
    ∷ says (step.Deliver 5) answer.Answered
    ∷ says (step.Fault 0 1 19 true false None true) (answer.Group 1)
    ∷ says (step.Deliver 4) answer.Answered
    ∷ says (step.Fault 0 1 20 true false None true) (answer.Group 0)
    ∷ says (step.Deliver 6) answer.Answered
    ∷ refused (step.Fault 0 1 21 true false None true) refusal.PriDisabled
    ∷ says (step.Deliver 7) answer.Queued
    ∷ says (step.Deliver 8) answer.Queued
    ∷ []

abbrev pub ResponsesByCode : Type 0
ResponsesByCode = IsRun (config 1 1 1 0) responses_by_code 0 1 0

-- what an endpoint sent is dropped at a unit in reset, before and after the endpoint's own reset
abbrev pub messages_up_in_reset : List Line
messages_up_in_reset =
    says step.Space (answer.Space 0)
    ∷ says step.Space (answer.Space 1)
    ∷ says step.Space (answer.Space 2)
    ∷ says (step.Map 0 16 false) (answer.Frame 0)
    ∷ says (step.Bind 0 0) (answer.Binding 0 1)
    ∷ says (step.Bind 0 1) (answer.Binding 1 2)
    ∷ says (step.Bind 0 2) (answer.Binding 2 3)
    ∷ says (step.Deliver 0) answer.Started
    ∷ says (step.Deliver 1) answer.Started
    ∷ says (step.Deliver 2) answer.Started
    ∷ says (step.Unbind 1) answer.Stopping
    ∷ says (step.Unbind 2) answer.Stopping
    ∷ says (step.Deliver 3) answer.Stopping
    ∷ says (step.Deliver 4) answer.Stopping
    ∷ says (step.Quit 0 2) answer.Marker
    ∷ says (step.Quit 0 3) answer.Marker
    ∷ says (step.Ask 0 1 16) (answer.Tag 0)
    ∷ says (step.Ask 0 1 16) (answer.Tag 1)
    ∷ says (step.Fault 0 1 20 true false None true) (answer.Group 0)
    ∷ says (step.Fault 0 1 20 true false None true) (answer.Group 1)
    ∷ says (step.Unmap 0 16 1) (answer.WithheldFrames (0 ∷ []))
    ∷ says (step.Pump 0) (answer.Itag 0)
    ∷ says (step.Deliver 11) answer.Taken
    ∷ says (step.Finish 0 1 2) (answer.Sent 2)
    ∷ says (step.Reset 0) answer.Resetting
    ∷ says (step.Deliver 5) answer.Dropped
    ∷ says (step.Deliver 7) answer.Dropped
    ∷ says (step.Deliver 9) answer.Dropped
    ∷ says (step.Deliver 12) answer.Dropped
    ∷ says (step.Deliver 14) answer.Reset
    ∷ says (step.Deliver 6) answer.Dropped
    ∷ says (step.Deliver 8) answer.Dropped
    ∷ says (step.Deliver 10) answer.Dropped
    ∷ refused (step.Deliver 15) refusal.Overtakes
    ∷ says (step.Deliver 13) answer.Dropped
    ∷ says (step.Look 0) answer.Withheld
    ∷ says (step.Deliver 15) answer.ResetDone
    ∷ says (step.Look 0) answer.Free
    ∷ says (step.Serve 0) answer.Empty
    ∷ says (step.Advance 1) answer.Released
    ∷ []

abbrev pub MessagesUpInReset : Type 0
MessagesUpInReset = IsRun (config 1 1 1 0) messages_up_in_reset 1 0 0

-- one completion of two for tags 0 and 2, one of one for tag 1
abbrev pub vectors_of_two_counts : List Line
vectors_of_two_counts =
    says step.Space (answer.Space 0)
    ∷ says (step.Map 0 16 false) (answer.Frame 0)
    ∷ says (step.Map 0 17 false) (answer.Frame 1)
    ∷ says (step.Map 0 18 false) (answer.Frame 2)
    ∷ says (step.Bind 0 0) (answer.Binding 0 1)
    ∷ says (step.Unmap 0 16 3) (answer.WithheldFrames (0 ∷ 1 ∷ 2 ∷ []))
    ∷ says (step.Pump 0) (answer.Itag 0)
    ∷ says (step.Pump 0) (answer.Itag 1)
    ∷ says (step.Pump 0) (answer.Itag 2)
    ∷ says (step.Deliver 1) answer.Taken
    ∷ says (step.Deliver 2) answer.Taken
    ∷ says (step.Deliver 3) answer.Taken
    ∷ says (step.Finish 0 5 2) (answer.Sent 2)
    ∷ says (step.Finish 0 2 1) (answer.Sent 1)
    ∷ says (step.Deliver 5) (answer.Freed 0)
    ∷ says (step.Deliver 6) (answer.Freed 1)
    ∷ says (step.Pump 0) answer.Blocked
    ∷ says (step.Deliver 4) (answer.Freed 2)
    ∷ says (step.Pump 0) answer.WaitDone
    ∷ []

abbrev pub VectorsOfTwoCounts : Type 0
VectorsOfTwoCounts = IsRun (config 1 3 1 0) vectors_of_two_counts 3 0 0

-- the endpoint's own reset clears what it holds, asked, took and grouped, and ends its uses
abbrev pub own_reset : List Line
own_reset =
    says step.Space (answer.Space 0)
    ∷ says (step.Map 0 16 false) (answer.Frame 0)
    ∷ says (step.Map 0 17 false) (answer.Frame 1)
    ∷ says (step.Bind 0 0) (answer.Binding 0 1)
    ∷ says (step.Deliver 0) answer.Started
    ∷ says (step.Ask 0 1 16) (answer.Tag 0)
    ∷ says (step.Deliver 1) answer.Completion
    ∷ says (step.Deliver 2) answer.Held
    ∷ says (step.BeginUse 0 1 16 false) (answer.Use 0 0)
    ∷ says (step.Ask 0 1 18) (answer.Tag 0)
    ∷ says (step.Fault 0 1 20 true false None false) (answer.Group 0)
    ∷ says (step.Unmap 0 17 1) (answer.WithheldFrames (1 ∷ []))
    ∷ says (step.Pump 0) (answer.Itag 0)
    ∷ says (step.Deliver 5) answer.Taken
    ∷ says (step.Reset 0) answer.Resetting
    ∷ says (step.Deliver 6) answer.Reset
    ∷ refused (step.Evict 0 1 16) refusal.NotHeld
    ∷ refused (step.Finish 0 1 1) refusal.NotPending
    ∷ refused (step.Fault 0 1 20 true false (Some 0) true) refusal.NotStarted
    ∷ refused (step.Quit 0 1) refusal.NotStopping
    ∷ refused (step.Deliver 7) refusal.Overtakes
    ∷ says (step.Deliver 3) answer.Dropped
    ∷ says (step.Deliver 4) answer.Dropped
    ∷ says (step.Look 1) answer.Withheld
    ∷ says (step.Deliver 7) answer.ResetDone
    ∷ says (step.Look 1) answer.Free
    ∷ says (step.Unbind 0) answer.Quiet
    ∷ says (step.Advance 0) answer.Released
    ∷ says (step.Bind 0 0) (answer.Binding 1 1)
    ∷ says (step.Deliver 8) answer.Started
    ∷ refused (step.BeginUse 0 1 16 false) refusal.NotHeld
    ∷ refused (step.Fault 0 1 20 true false (Some 0) true) refusal.NoSuchGroup
    ∷ says (step.Ask 0 1 16) (answer.Tag 0)
    ∷ says (step.Fault 0 1 20 true false None true) (answer.Group 0)
    ∷ says (step.Deliver 9) answer.Completion
    ∷ says (step.Deliver 11) answer.Held
    ∷ says (step.BeginUse 0 1 16 false) (answer.Use 1 0)
    ∷ says (step.EndUse 0 0) answer.Dead
    ∷ refused (step.EndUse 0 0) refusal.NoSuchUse
    ∷ says (step.EndUse 0 1) answer.Ended
    ∷ []

abbrev pub OwnReset : Type 0
OwnReset = IsRun (config 1 2 1 0) own_reset 1 1 0

-- the eleven kinds as they were sent in that run, each with its fields
abbrev pub EachKindAsSent : Type 0
EachKindAsSent =
    AreSent
    (config 1 1 1 0)
    each_kind_at_an_open_unit
    11
    (StartMessage 1
    ∷ RequestMessage 0 1 16
    ∷ CompletionMessage 0 0 true false
    ∷ PageRequestMessage 1 0 32 true false true
    ∷ InvalidateMessage 0 1 (one_page 16)
    ∷ InvalidatedMessage 1 1
    ∷ StopMessage 1
    ∷ MarkerMessage 1
    ∷ ResponseMessage 1 0 InvalidCode
    ∷ ResetMessage
    ∷ ResetDoneMessage
    ∷ [])

-- eight completions for one tag: the count field is 0 in each
abbrev pub CountFieldsAsSent : Type 0
CountFieldsAsSent =
    AreSent
    (config 1 4 1 0)
    count_of_eight
    10
    (StartMessage 1 ∷ InvalidateMessage 0 1 (one_page 16) ∷ replicate 8 (InvalidatedMessage 1 0))
