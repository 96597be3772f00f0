-- Runs that are worked out: page requests, their groups, jobs and responses.
use Rattle.std.specs.Prelude.{true, false, List, [], ◌∷◌, Some, None}
use Rattle.sva_step.specs.declared.answers.Answer.TheVariants as answer
use Rattle.sva_step.specs.declared.refusals.Refusal.TheVariants as refusal
use Rattle.sva_step.specs.declared.steps.Step.TheVariants as step
use Rattle.sva_step.specs.declared.steps.Verdict.TheVariants as verdict
use Rattle.sva_model.specs.State.PasidRule.{PerEndpoint}
use Rattle.sva_model.specs.Runs.{Line, says, refused, IsRun, IsRunBy, config}

-- a group of three page requests over two pages
abbrev pub page_request_group : List Line
page_request_group =
    says (step.Space) (answer.Space 0)
    ∷ says (step.Bind 0 0) (answer.Binding 0 1)
    ∷ says (step.Deliver 0) (answer.Started)
    ∷ says (step.Fault 0 1 33 true false None false) (answer.Group 0)
    ∷ says (step.Fault 0 1 32 true false (Some 0) false) (answer.Group 0)
    ∷ says (step.Fault 0 1 33 false true (Some 0) true) (answer.Group 0)
    ∷ says (step.Deliver 2) (answer.Queued)
    ∷ says (step.Deliver 1) (answer.Queued)
    ∷ says (step.Deliver 3) (answer.Queued)
    ∷ says (step.Serve 0) (answer.Part)
    ∷ says (step.Serve 0) (answer.Part)
    ∷ says (step.Serve 0) (answer.Job)
    ∷ says (step.Take 0) (answer.JobTaken 0 0 3)
    ∷ says (step.Reply 0 verdict.Success) (answer.Success 2)
    ∷ says (step.Deliver 4) (answer.Answered)
    ∷ says (step.Look 1) (answer.Mapped)
    ∷ says (step.Ask 0 1 33) (answer.Tag 0)
    ∷ says (step.Deliver 5) (answer.Completion)
    ∷ says (step.Deliver 6) (answer.Held)
    ∷ says (step.BeginUse 0 1 33 true) (answer.Use 0 1)
    ∷ []

abbrev pub PageRequestGroup : Type 0
PageRequestGroup = IsRun (config 1 4 1 0) page_request_group 2 2 0

-- a group outlives its PASID's quitting; its response finds it stale
abbrev pub stale_group : List Line
stale_group =
    says (step.Space) (answer.Space 0)
    ∷ says (step.Bind 0 0) (answer.Binding 0 1)
    ∷ says (step.Deliver 0) (answer.Started)
    ∷ says (step.Fault 0 1 32 true false None true) (answer.Group 0)
    ∷ says (step.Unbind 0) (answer.Stopping)
    ∷ says (step.Deliver 2) (answer.Stopping)
    ∷ says (step.Quit 0 1) (answer.Marker)
    ∷ refused (step.Deliver 3) refusal.Overtakes
    ∷ says (step.Deliver 1) (answer.Queued)
    ∷ says (step.Deliver 3) (answer.Marked)
    ∷ says (step.Advance 0) (answer.Draining)
    ∷ says (step.Pump 0) (answer.Blocked)
    ∷ says (step.Serve 0) (answer.Job)
    ∷ says (step.Pump 0) (answer.WaitDone)
    ∷ refused (step.Advance 0) refusal.NotYet
    ∷ says (step.Take 0) (answer.JobTaken 0 0 1)
    ∷ says (step.Reply 0 verdict.Success) (answer.Invalid)
    ∷ says (step.Advance 0) (answer.Invalidating)
    ∷ says (step.Pump 0) (answer.Itag 0)
    ∷ says (step.Deliver 5) (answer.Taken)
    ∷ says (step.Finish 0 1 1) (answer.Sent 1)
    ∷ says (step.Deliver 6) (answer.Freed 1)
    ∷ says (step.Pump 0) (answer.WaitDone)
    ∷ says (step.Advance 0) (answer.Quiet)
    ∷ says (step.Advance 0) (answer.Released)
    ∷ says (step.Bind 0 0) (answer.Binding 1 1)
    ∷ refused (step.Deliver 7) refusal.Overtakes
    ∷ says (step.Deliver 4) (answer.Stale)
    ∷ says (step.Deliver 7) (answer.Started)
    ∷ says (step.Fault 0 1 32 true false None true) (answer.Group 0)
    ∷ []

abbrev pub StaleGroup : Type 0
StaleGroup = IsRun (config 1 4 1 0) stale_group 4 0 0

-- a wait that drains waits for the page request queue
abbrev pub drain_of_two_requests : List Line
drain_of_two_requests =
    says (step.Space) (answer.Space 0)
    ∷ says (step.Bind 0 0) (answer.Binding 0 1)
    ∷ says (step.Deliver 0) (answer.Started)
    ∷ says (step.Fault 0 1 32 true false None false) (answer.Group 0)
    ∷ says (step.Unbind 0) (answer.Stopping)
    ∷ says (step.Deliver 2) (answer.Stopping)
    ∷ refused (step.Quit 0 1) refusal.Busy
    ∷ refused (step.Fault 0 1 40 true false None true) refusal.NotStarted
    ∷ says (step.Fault 0 1 33 false true (Some 0) true) (answer.Group 0)
    ∷ says (step.Quit 0 1) (answer.Marker)
    ∷ refused (step.Deliver 3) refusal.Overtakes
    ∷ refused (step.Deliver 4) refusal.Overtakes
    ∷ refused (step.Advance 0) refusal.NotYet
    ∷ says (step.Deliver 1) (answer.Queued)
    ∷ refused (step.Deliver 4) refusal.Overtakes
    ∷ says (step.Deliver 3) (answer.Queued)
    ∷ says (step.Deliver 4) (answer.Marked)
    ∷ says (step.Advance 0) (answer.Draining)
    ∷ says (step.Serve 0) (answer.Part)
    ∷ says (step.Pump 0) (answer.Blocked)
    ∷ says (step.Serve 0) (answer.Job)
    ∷ says (step.Pump 0) (answer.WaitDone)
    ∷ []

abbrev pub DrainOfTwoRequests : Type 0
DrainOfTwoRequests = IsRun (config 1 4 1 0) drain_of_two_requests 4 0 0

-- a success that can't be, and a failure
abbrev pub verdicts : List Line
verdicts =
    says (step.Space) (answer.Space 0)
    ∷ says (step.Map 0 32 false) (answer.Frame 0)
    ∷ says (step.Bind 0 0) (answer.Binding 0 1)
    ∷ says (step.Deliver 0) (answer.Started)
    ∷ says (step.Fault 0 1 32 false true None true) (answer.Group 0)
    ∷ says (step.Deliver 1) (answer.Queued)
    ∷ says (step.Serve 0) (answer.Job)
    ∷ says (step.Take 0) (answer.JobTaken 0 0 1)
    ∷ refused (step.Reply 0 verdict.Success) refusal.BadVerdict
    ∷ says (step.Reply 0 verdict.Failure) (answer.Failure)
    ∷ says (step.Deliver 2) (answer.Answered)
    ∷ refused (step.Fault 0 1 33 true false None true) refusal.PriDisabled
    ∷ []

abbrev pub Verdicts : Type 0
Verdicts = IsRun (config 1 1 1 0) verdicts 0 1 0

-- the eleven kinds in turn: the response finds its group stale, and the reset its unit closed
abbrev pub each_kind_at_an_open_unit : List Line
each_kind_at_an_open_unit =
    says step.Space (answer.Space 0)
    ∷ says (step.Map 0 16 false) (answer.Frame 0)
    ∷ says (step.Bind 0 0) (answer.Binding 0 1)
    ∷ says (step.Deliver 0) answer.Started
    ∷ says (step.Ask 0 1 16) (answer.Tag 0)
    ∷ says (step.Deliver 1) answer.Completion
    ∷ says (step.Deliver 2) answer.Held
    ∷ says (step.Fault 0 1 32 true false None true) (answer.Group 0)
    ∷ says (step.Deliver 3) answer.Queued
    ∷ says (step.Unmap 0 16 1) (answer.WithheldFrames (0 ∷ []))
    ∷ says (step.Pump 0) (answer.Itag 0)
    ∷ says (step.Deliver 4) answer.Taken
    ∷ says (step.Finish 0 1 1) (answer.Sent 1)
    ∷ says (step.Deliver 5) (answer.Freed 1)
    ∷ says (step.Serve 0) answer.Job
    ∷ says (step.Unbind 0) answer.Stopping
    ∷ says (step.Deliver 6) answer.Stopping
    ∷ says (step.Quit 0 1) answer.Marker
    ∷ says (step.Deliver 7) answer.Marked
    ∷ says (step.Take 0) (answer.JobTaken 0 0 1)
    ∷ says (step.Reply 0 verdict.Success) answer.Invalid
    ∷ says (step.Deliver 8) answer.Stale
    ∷ says (step.Reset 0) answer.Resetting
    ∷ says (step.Deliver 9) answer.Reset
    ∷ says (step.Deliver 10) answer.ResetDone
    ∷ []

abbrev pub EachKindAtAnOpenUnit : Type 0
EachKindAtAnOpenUnit = IsRun (config 1 1 1 0) each_kind_at_an_open_unit 1 0 0

-- a worker's answer ends its own job: that of another endpoint is open until it is answered
abbrev pub jobs_of_two_endpoints : List Line
jobs_of_two_endpoints =
    says step.Space (answer.Space 0)
    ∷ says step.Space (answer.Space 1)
    ∷ says (step.Bind 0 0) (answer.Binding 0 1)
    ∷ says (step.Bind 1 1) (answer.Binding 1 1)
    ∷ says (step.Deliver 0) answer.Started
    ∷ says (step.Deliver 1) answer.Started
    ∷ says (step.Fault 0 1 16 true false None true) (answer.Group 0)
    ∷ says (step.Fault 1 1 17 true false None true) (answer.Group 0)
    ∷ says (step.Deliver 2) answer.Queued
    ∷ says (step.Deliver 3) answer.Queued
    ∷ says (step.Serve 0) answer.Job
    ∷ says (step.Serve 1) answer.Job
    ∷ says (step.Take 1) (answer.JobTaken 0 0 1)
    ∷ says (step.Take 0) (answer.JobTaken 1 0 1)
    ∷ refused (step.Take 0) refusal.HandsFull
    ∷ says (step.Unbind 0) answer.Stopping
    ∷ says (step.Deliver 4) answer.Stopping
    ∷ says (step.Quit 0 1) answer.Marker
    ∷ says (step.Deliver 5) answer.Marked
    ∷ says (step.Advance 0) answer.Draining
    ∷ says (step.Pump 0) answer.WaitDone
    ∷ refused (step.Advance 0) refusal.NotYet
    ∷ says (step.Reset 1) answer.Resetting
    ∷ says (step.Reply 0 verdict.Success) answer.Dropped
    ∷ refused (step.Reply 0 verdict.Success) refusal.NoJob
    ∷ refused (step.Advance 0) refusal.NotYet
    ∷ says (step.Reply 1 verdict.Success) answer.Invalid
    ∷ says (step.Advance 0) answer.Invalidating
    ∷ says (step.Deliver 7) answer.Stale
    ∷ []

abbrev pub JobsOfTwoEndpoints : Type 0
JobsOfTwoEndpoints = IsRunBy PerEndpoint (config 2 2 2 0) jobs_of_two_endpoints 2 0 0
