-- Runs that are worked out: the numbers of endpoints, spaces, bindings, groups, requests and messages differ from one another,
-- so that one taken for another would show.
use Rattle.std.specs.Prelude.{◌≡◌, ℕ, Bool, true, false, List, [], ◌∷◌, None, Some}
use Rattle.sva_step.specs.declared.answers.Answer.TheVariants as answer
use Rattle.sva_step.specs.declared.limits.Config.{Config}
use Rattle.sva_step.specs.declared.refusals.Refusal.TheVariants as refusal
use Rattle.sva_step.specs.declared.steps.Step.TheVariants as step
use Rattle.sva_step.specs.declared.steps.Verdict.TheVariants as verdict
use Rattle.sva_model.specs.State.PasidRule.{PerSpace}
use Rattle.sva_model.specs.Runs.{one_page, page_of, Line, says, IsRun, config, refused, steps_of, AreSentInAll, AreOrdered}
use Rattle.sva_model.specs.Words.{tabulate}
use Rattle.sva_model.specs.Message.Code.{SuccessCode, InvalidCode, FailureCode}
use Rattle.sva_model.specs.Message.Scope.{Everything}
use Rattle.sva_model.specs.Message.Message.{StartMessage, StopMessage, ResetMessage, CompletionMessage, InvalidateMessage, ResponseMessage, RequestMessage}
use Rattle.sva_model.specs.Message.Message.{InvalidatedMessage, PageRequestMessage, MarkerMessage, ResetDoneMessage}
use Rattle.sva_model.specs.State.Order.{PasidOf, Wait}
use Rattle.sva_model.specs.Steps.{world_after}

-- three endpoints and three spaces: a binding from its start to its release, and a reset of one endpoint of two
abbrev pub numbers_apart : List Line
numbers_apart =
    says step.Space (answer.Space 100)
    ∷ says step.Space (answer.Space 101)
    ∷ says step.Space (answer.Space 102)
    ∷ says (step.Map 102 16 true) (answer.Frame 0)
    ∷ says (step.Map 101 20 false) (answer.Frame 1)
    ∷ says (step.Map 102 18 false) (answer.Frame 2)
    ∷ says (step.Map 102 17 true) (answer.Frame 3)
    ∷ says (step.Bind 1 101) (answer.Binding 100 1)
    ∷ says (step.Bind 2 101) (answer.Binding 101 1)
    ∷ says (step.Bind 1 102) (answer.Binding 102 2)
    ∷ refused (step.Bind 1 102) refusal.AlreadyBound
    ∷ says (step.Deliver 100) answer.Started
    ∷ says (step.Deliver 101) answer.Started
    ∷ says (step.Deliver 102) answer.Started
    ∷ refused (step.Ask 0 1 16) refusal.NotStarted
    -- translations and uses
    ∷ says (step.Ask 1 2 17) (answer.Tag 0)
    ∷ says (step.Ask 1 1 20) (answer.Tag 1)
    ∷ says (step.Ask 2 1 20) (answer.Tag 0)
    ∷ says (step.Ask 1 2 16) (answer.Tag 2)
    ∷ says (step.Deliver 106) answer.Completion
    ∷ says (step.Deliver 103) answer.Completion
    ∷ says (step.Deliver 104) answer.Completion
    ∷ says (step.Deliver 105) answer.Completion
    ∷ says (step.Deliver 109) answer.Held
    ∷ says (step.Deliver 108) answer.Held
    ∷ says (step.Deliver 110) answer.Held
    ∷ says (step.Deliver 107) answer.Held
    ∷ says (step.BeginUse 1 2 17 true) (answer.Use 0 3)
    ∷ says (step.BeginUse 1 2 16 true) (answer.Use 1 0)
    ∷ refused (step.BeginUse 1 1 20 true) refusal.ReadOnly
    ∷ says (step.BeginUse 1 1 20 false) (answer.Use 2 1)
    ∷ refused (step.BeginUse 1 1 17 false) refusal.NotHeld
    ∷ refused (step.EndUse 2 1) refusal.NoSuchUse
    ∷ says (step.EndUse 1 0) answer.Ended
    -- three pages are unmapped, and a use of one runs
    ∷ says (step.Unmap 102 16 3) (answer.WithheldFrames (0 ∷ 3 ∷ 2 ∷ []))
    ∷ says (step.Pump 2) answer.Idle
    ∷ says (step.Pump 0) answer.Idle
    ∷ says (step.Pump 1) (answer.Itag 0)
    ∷ says (step.Pump 1) (answer.Itag 1)
    ∷ says (step.Pump 1) (answer.Itag 2)
    ∷ says (step.Pump 1) answer.Blocked
    ∷ says (step.Deliver 112) answer.Taken
    ∷ says (step.Deliver 111) answer.Taken
    ∷ refused (step.Finish 1 7 1) refusal.NotPending
    ∷ refused (step.Finish 1 3 2) refusal.InUse
    ∷ says (step.Finish 1 2 2) (answer.Sent 2)
    ∷ says (step.Deliver 113) answer.Taken
    ∷ says (step.EndUse 1 1) answer.Ended
    ∷ says (step.Finish 1 5 1) (answer.Sent 1)
    ∷ says (step.Deliver 116) (answer.Freed 2)
    ∷ says (step.Deliver 115) (answer.Freed 0)
    ∷ says (step.Pump 1) answer.Blocked
    ∷ says (step.Look 3) answer.Withheld
    ∷ says (step.Deliver 114) (answer.Freed 1)
    ∷ says (step.Pump 1) answer.WaitDone
    ∷ says (step.Look 3) answer.Free
    ∷ says (step.Look 0) answer.Free
    ∷ says (step.Look 1) answer.Mapped
    ∷ says (step.Map 101 19 true) (answer.Frame 0)
    -- page requests of two bindings, filed in the order of their arrival
    ∷ says (step.Fault 1 2 40 true true None false) (answer.Group 0)
    ∷ says (step.Fault 1 1 41 true false None false) (answer.Group 1)
    ∷ says (step.Fault 1 2 42 false true (Some 0) true) (answer.Group 0)
    ∷ refused (step.Fault 1 2 43 true false (Some 1) true) refusal.NoSuchGroup
    ∷ says (step.Fault 1 1 43 true false (Some 1) true) (answer.Group 1)
    ∷ refused (step.Deliver 119) refusal.Overtakes
    ∷ says (step.Deliver 118) answer.Queued
    ∷ says (step.Deliver 117) answer.Queued
    ∷ refused (step.Deliver 120) refusal.Overtakes
    ∷ says (step.Deliver 119) answer.Queued
    ∷ says (step.Deliver 120) answer.Queued
    ∷ says (step.Serve 2) answer.Empty
    ∷ says (step.Serve 1) answer.Part
    ∷ says (step.Serve 1) answer.Part
    ∷ says (step.Serve 1) answer.Job
    ∷ says (step.Serve 1) answer.Job
    ∷ says (step.Take 2) (answer.JobTaken 102 0 2)
    ∷ says (step.Take 1) (answer.JobTaken 100 1 2)
    ∷ refused (step.Reply 0 verdict.Success) refusal.NoJob
    ∷ says (step.Reply 2 verdict.Success) (answer.Success 2)
    ∷ says (step.Look 2) answer.Mapped
    ∷ says (step.Reply 1 verdict.Failure) answer.Failure
    ∷ says (step.Deliver 122) answer.Answered
    ∷ refused (step.Fault 1 2 44 true false None true) refusal.PriDisabled
    ∷ says (step.Fault 2 1 44 true false None true) (answer.Group 0)
    ∷ says (step.Deliver 121) answer.Answered
    ∷ refused (step.Fault 1 2 44 true false None true) refusal.PriDisabled
    ∷ says (step.Ask 1 2 42) (answer.Tag 0)
    ∷ says (step.Deliver 124) answer.Completion
    ∷ says (step.Deliver 125) answer.Held
    ∷ says (step.BeginUse 1 2 42 true) (answer.Use 0 3)
    ∷ says (step.EndUse 1 0) answer.Ended
    ∷ says (step.Evict 1 2 42) answer.Evicted
    ∷ refused (step.BeginUse 1 2 42 false) refusal.NotHeld
    ∷ says (step.BeginUse 1 1 20 false) (answer.Use 0 1)
    ∷ says (step.EndUse 1 0) answer.Ended
    ∷ says (step.Map 102 45 false) (answer.Frame 4)
    -- the younger binding of the endpoint is taken back
    ∷ says (step.Unbind 102) answer.Stopping
    ∷ says (step.Deliver 126) answer.Stopping
    ∷ refused (step.Quit 1 1) refusal.NotStopping
    ∷ says (step.Quit 1 2) answer.Marker
    ∷ refused (step.Quit 1 2) refusal.NotStopping
    ∷ says (step.Deliver 127) answer.Marked
    ∷ refused (step.Advance 100) refusal.NotYet
    ∷ says (step.Advance 102) answer.Draining
    ∷ refused (step.Advance 102) refusal.NotYet
    ∷ says (step.Pump 1) answer.WaitDone
    ∷ says (step.Advance 102) answer.Invalidating
    ∷ says (step.Unmap 102 40 1) (answer.WithheldFrames (2 ∷ []))
    ∷ says (step.Pump 1) (answer.Itag 0)
    ∷ says (step.Pump 1) answer.Blocked
    ∷ says (step.Deliver 128) answer.Taken
    ∷ says (step.Finish 1 1 1) (answer.Sent 1)
    ∷ says (step.Deliver 129) (answer.Freed 1)
    -- its invalidation is done, and the wait behind it isn't
    ∷ refused (step.Advance 102) refusal.NotYet
    ∷ says (step.Look 2) answer.Withheld
    ∷ says (step.Unmap 102 45 1) (answer.WithheldFrames (4 ∷ []))
    ∷ says (step.Pump 1) answer.WaitDone
    ∷ says (step.Look 2) answer.Free
    ∷ says (step.Look 4) answer.Free
    ∷ says (step.Unmap 102 42 1) (answer.FreeFrames (3 ∷ []))
    ∷ says (step.Advance 102) answer.Quiet
    ∷ refused (step.DropSpace 102) refusal.StillBound
    ∷ says (step.Advance 102) answer.Released
    ∷ says (step.DropSpace 102) answer.Gone
    ∷ says (step.BeginUse 1 1 20 false) (answer.Use 0 1)
    -- a reset of one of two endpoints: the other isn't in reset, and its page request holds nothing back
    ∷ says (step.Reset 1) answer.Resetting
    ∷ says (step.Pump 2) answer.Idle
    ∷ refused (step.Pump 1) refusal.Resetting
    ∷ refused (step.Advance 100) refusal.Resetting
    ∷ refused (step.Bind 1 100) refusal.Resetting
    ∷ says (step.Unmap 101 20 1) (answer.WithheldFrames (1 ∷ []))
    ∷ says (step.Deliver 130) answer.Reset
    ∷ says (step.EndUse 1 2) answer.Dead
    ∷ says (step.EndUse 1 0) answer.Dead
    ∷ says (step.Deliver 131) answer.ResetDone
    ∷ says (step.Look 1) answer.Withheld
    ∷ says (step.Pump 1) answer.Idle
    ∷ says (step.Pump 2) (answer.Itag 0)
    ∷ says (step.Deliver 132) answer.Taken
    ∷ says (step.Finish 2 1 1) (answer.Sent 1)
    ∷ says (step.Deliver 133) (answer.Freed 1)
    ∷ says (step.Pump 2) answer.WaitDone
    ∷ says (step.Look 1) answer.Free
    ∷ says (step.Unbind 100) answer.Quiet
    ∷ says (step.Unbind 101) answer.Stopping
    ∷ says (step.Advance 100) answer.Released
    ∷ refused (step.Advance 100) refusal.NoSuchBinding
    ∷ says (step.Bind 1 101) (answer.Binding 103 1)
    ∷ says (step.Deliver 134) answer.Stopping
    ∷ says (step.Deliver 135) answer.Started
    ∷ refused (step.Deliver 135) refusal.NoSuchMessage
    ∷ says (step.Quit 2 1) answer.Marker
    ∷ says (step.Deliver 123) answer.Queued
    ∷ says (step.Deliver 136) answer.Marked
    ∷ says (step.Serve 2) answer.Job
    ∷ says (step.Take 0) (answer.JobTaken 101 0 1)
    ∷ says (step.Reply 0 verdict.Success) answer.Invalid
    ∷ says (step.Deliver 137) answer.Stale
    ∷ says (step.Advance 101) answer.Draining
    ∷ []

abbrev pub NumbersApart : Type 0
NumbersApart = IsRun (config 3 8 3 100) numbers_apart 7 1 0

-- each with its own labels, pages and flags
abbrev pub NumbersApartAsSent : Type 0
NumbersApartAsSent =
    AreSentInAll
    (config 3 8 3 100)
    numbers_apart
    38
    (StartMessage 1
    ∷ StartMessage 1
    ∷ StartMessage 2
    ∷ RequestMessage 0 2 17
    ∷ RequestMessage 1 1 20
    ∷ RequestMessage 0 1 20
    ∷ RequestMessage 2 2 16
    ∷ CompletionMessage 2 0 true true
    ∷ CompletionMessage 0 3 true true
    ∷ CompletionMessage 1 1 true false
    ∷ CompletionMessage 0 1 true false
    ∷ InvalidateMessage 0 2 (one_page 16)
    ∷ InvalidateMessage 1 2 (one_page 17)
    ∷ InvalidateMessage 2 2 (one_page 18)
    ∷ InvalidatedMessage 2 2
    ∷ InvalidatedMessage 2 2
    ∷ InvalidatedMessage 5 1
    ∷ PageRequestMessage 2 0 40 true true false
    ∷ PageRequestMessage 1 1 41 true false false
    ∷ PageRequestMessage 2 0 42 false true true
    ∷ PageRequestMessage 1 1 43 true false true
    ∷ ResponseMessage 2 0 SuccessCode
    ∷ ResponseMessage 1 1 FailureCode
    ∷ PageRequestMessage 1 0 44 true false true
    ∷ RequestMessage 0 2 42
    ∷ CompletionMessage 0 3 true true
    ∷ StopMessage 2
    ∷ MarkerMessage 2
    ∷ InvalidateMessage 0 2 Everything
    ∷ InvalidatedMessage 1 1
    ∷ ResetMessage
    ∷ ResetDoneMessage
    ∷ InvalidateMessage 0 1 (one_page 20)
    ∷ InvalidatedMessage 1 1
    ∷ StopMessage 1
    ∷ StartMessage 1
    ∷ MarkerMessage 1
    ∷ ResponseMessage 1 0 InvalidCode
    ∷ [])

-- pages of an unmap with the wait behind them; a wait that drains; a PASID with the wait behind it
abbrev pub NumbersApartAsOrdered : Type 0
NumbersApartAsOrdered =
    AreOrdered
    (config 3 8 3 100)
    numbers_apart
    1
    (page_of 2 16
    ∷ page_of 2 17
    ∷ page_of 2 18
    ∷ Wait 0 false
    ∷ Wait 1 true
    ∷ PasidOf 2
    ∷ Wait 2 false
    ∷ [])

abbrev pub OtherEndpointAsOrdered : Type 0
OtherEndpointAsOrdered = AreOrdered (config 3 8 3 100) numbers_apart 2 (page_of 1 20 ∷ Wait 3 false ∷ Wait 4 true ∷ [])

-- what the page requests of an endpoint ask for, to read and to write, in the order in which they were sent
abbrev pub AreAsked : Config → List Line → (endpoint : ℕ) → (read write : List Bool) → Type 0
AreAsked limits row endpoint read write =
    let part = (world_after PerSpace limits (steps_of row)).part endpoint in
    (tabulate part.page_requests part.asks_read ≡ read) × (tabulate part.page_requests part.asks_write ≡ write)

abbrev pub NumbersApartAsAsked : Type 0
NumbersApartAsAsked =
    AreAsked (config 3 8 3 100) numbers_apart 1 (true ∷ true ∷ false ∷ true ∷ []) (true ∷ false ∷ true ∷ false ∷ [])
