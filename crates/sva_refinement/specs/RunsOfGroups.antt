-- Runs that are worked out: groups of page requests, their jobs and verdicts, where a rule could be read in two ways or may
-- surprise.
use Rattle.std.specs.Prelude.{true, false, List, [], ◌∷◌, None, ◌++◌, Some}
use Rattle.sva_step.specs.declared.answers.Answer.TheVariants as answer
use Rattle.sva_step.specs.declared.refusals.Refusal.TheVariants as refusal
use Rattle.sva_step.specs.declared.steps.Step.TheVariants as step
use Rattle.sva_step.specs.declared.steps.Verdict.TheVariants as verdict
use Rattle.sva_model.specs.Runs.{Line, says, IsRun, config, refused, lines}

-- a page that a group names twice is mapped once, to write where one request asks so
abbrev pub page_named_twice : List Line
page_named_twice =
    says step.Space (answer.Space 0)
    ∷ says (step.Bind 0 0) (answer.Binding 0 1)
    ∷ says (step.Deliver 0) answer.Started
    ∷ says (step.Fault 0 1 32 true false None false) (answer.Group 0)
    ∷ says (step.Fault 0 1 32 false true (Some 0) true) (answer.Group 0)
    ∷ says (step.Deliver 1) answer.Queued
    ∷ says (step.Deliver 2) answer.Queued
    ∷ says (step.Serve 0) answer.Part
    ∷ says (step.Serve 0) answer.Job
    ∷ says (step.Take 0) (answer.JobTaken 0 0 2)
    ∷ says (step.Reply 0 verdict.Success) (answer.Success 1)
    ∷ says (step.Deliver 3) answer.Answered
    ∷ says (step.Ask 0 1 32) (answer.Tag 0)
    ∷ says (step.Deliver 4) answer.Completion
    ∷ says (step.Deliver 5) answer.Held
    ∷ says (step.BeginUse 0 1 32 true) (answer.Use 0 0)
    ∷ []

abbrev pub PageNamedTwice : Type 0
PageNamedTwice = IsRun (config 1 1 1 0) page_named_twice 0 1 0

-- a page request that asks neither to read nor to write maps its page to be read
abbrev pub page_request_for_neither : List Line
page_request_for_neither =
    says step.Space (answer.Space 0)
    ∷ says (step.Bind 0 0) (answer.Binding 0 1)
    ∷ says (step.Deliver 0) answer.Started
    ∷ says (step.Fault 0 1 32 false false None true) (answer.Group 0)
    ∷ says (step.Deliver 1) answer.Queued
    ∷ says (step.Serve 0) answer.Job
    ∷ says (step.Take 0) (answer.JobTaken 0 0 1)
    ∷ says (step.Reply 0 verdict.Success) (answer.Success 1)
    ∷ says (step.Deliver 2) answer.Answered
    ∷ says (step.Ask 0 1 32) (answer.Tag 0)
    ∷ says (step.Deliver 3) answer.Completion
    ∷ says (step.Deliver 4) answer.Held
    ∷ refused (step.BeginUse 0 1 32 true) refusal.ReadOnly
    ∷ says (step.BeginUse 0 1 32 false) (answer.Use 0 0)
    ∷ []

abbrev pub PageRequestForNeither : Type 0
PageRequestForNeither = IsRun (config 1 1 1 0) page_request_for_neither 0 1 0

-- a write of a read-only page and a want of frames refuse a success alone
abbrev pub other_verdicts_need_no_frame : List Line
other_verdicts_need_no_frame =
    says step.Space (answer.Space 0)
    ∷ says (step.Map 0 16 false) (answer.Frame 0)
    ∷ says (step.Bind 0 0) (answer.Binding 0 1)
    ∷ says (step.Deliver 0) answer.Started
    ∷ says (step.Fault 0 1 16 false true None true) (answer.Group 0)
    ∷ says (step.Fault 0 1 17 true false None true) (answer.Group 1)
    ∷ says (step.Deliver 1) answer.Queued
    ∷ says (step.Deliver 2) answer.Queued
    ∷ says (step.Serve 0) answer.Job
    ∷ says (step.Serve 0) answer.Job
    ∷ says (step.Take 0) (answer.JobTaken 0 0 1)
    ∷ refused (step.Reply 0 verdict.Success) refusal.BadVerdict
    ∷ says (step.Reply 0 verdict.Invalid) answer.Invalid
    ∷ says (step.Take 0) (answer.JobTaken 0 1 1)
    ∷ refused (step.Reply 0 verdict.Success) refusal.NoFrame
    ∷ says (step.Reply 0 verdict.Failure) answer.Failure
    ∷ []

abbrev pub OtherVerdictsNeedNoFrame : Type 0
OtherVerdictsNeedNoFrame = IsRun (config 1 1 1 0) other_verdicts_need_no_frame 0 1 0

-- success is invalid while the binding stops and dropped in reset, whatever the pages
abbrev pub success_that_is_none : List Line
success_that_is_none =
    says step.Space (answer.Space 0)
    ∷ says (step.Map 0 16 false) (answer.Frame 0)
    ∷ says (step.Bind 0 0) (answer.Binding 0 1)
    ∷ says (step.Deliver 0) answer.Started
    ∷ says (step.Fault 0 1 16 false true None false) (answer.Group 0)
    ∷ says (step.Fault 0 1 17 true false (Some 0) true) (answer.Group 0)
    ∷ says (step.Fault 0 1 16 false true None false) (answer.Group 1)
    ∷ says (step.Fault 0 1 17 true false (Some 1) true) (answer.Group 1)
    ∷ says (step.Deliver 1) answer.Queued
    ∷ says (step.Deliver 2) answer.Queued
    ∷ says (step.Deliver 3) answer.Queued
    ∷ says (step.Deliver 4) answer.Queued
    ∷ says (step.Serve 0) answer.Part
    ∷ says (step.Serve 0) answer.Job
    ∷ says (step.Serve 0) answer.Part
    ∷ says (step.Serve 0) answer.Job
    ∷ says (step.Take 1) (answer.JobTaken 0 0 2)
    ∷ says (step.Take 0) (answer.JobTaken 0 1 2)
    ∷ refused (step.Reply 1 verdict.Success) refusal.BadVerdict
    ∷ says (step.Unbind 0) answer.Stopping
    ∷ says (step.Reply 1 verdict.Success) answer.Invalid
    ∷ says (step.Reset 0) answer.Resetting
    ∷ says (step.Reply 0 verdict.Success) answer.Dropped
    ∷ refused (step.Reply 0 verdict.Success) refusal.NoJob
    ∷ []

abbrev pub SuccessThatIsNone : Type 0
SuccessThatIsNone = IsRun (config 1 1 2 0) success_that_is_none 0 1 0

-- a job is dropped where its binding is Lost; the queue of jobs is emptied by a reset
abbrev pub job_of_a_lost_binding : List Line
job_of_a_lost_binding =
    says step.Space (answer.Space 0)
    ∷ says (step.Bind 0 0) (answer.Binding 0 1)
    ∷ says (step.Deliver 0) answer.Started
    ∷ says (step.Fault 0 1 16 true false None true) (answer.Group 0)
    ∷ says (step.Fault 0 1 17 true false None true) (answer.Group 1)
    ∷ says (step.Deliver 1) answer.Queued
    ∷ says (step.Deliver 2) answer.Queued
    ∷ says (step.Serve 0) answer.Job
    ∷ says (step.Serve 0) answer.Job
    ∷ says (step.Take 0) (answer.JobTaken 0 0 1)
    ∷ says (step.Reset 0) answer.Resetting
    ∷ refused (step.Take 0) refusal.HandsFull
    ∷ refused (step.Take 1) refusal.NoJob
    ∷ says (step.Deliver 3) answer.Reset
    ∷ says (step.Deliver 4) answer.ResetDone
    ∷ says (step.Reply 0 verdict.Success) answer.Dropped
    ∷ refused (step.Take 0) refusal.NoJob
    ∷ says (step.Unbind 0) answer.Quiet
    ∷ []

abbrev pub JobOfALostBinding : Type 0
JobOfALostBinding = IsRun (config 1 1 2 0) job_of_a_lost_binding 1 0 0

-- a drain waits for the whole page request queue, and not for other bindings' jobs
abbrev pub drain_waits_for_other_pasids : List Line
drain_waits_for_other_pasids =
    says step.Space (answer.Space 0)
    ∷ says step.Space (answer.Space 1)
    ∷ says (step.Bind 0 0) (answer.Binding 0 1)
    ∷ says (step.Bind 0 1) (answer.Binding 1 2)
    ∷ says (step.Deliver 0) answer.Started
    ∷ says (step.Deliver 1) answer.Started
    ∷ says (step.Unbind 0) answer.Stopping
    ∷ says (step.Deliver 2) answer.Stopping
    ∷ says (step.Quit 0 1) answer.Marker
    ∷ says (step.Deliver 3) answer.Marked
    ∷ says (step.Fault 0 2 32 true false None true) (answer.Group 0)
    ∷ says (step.Deliver 4) answer.Queued
    ∷ says (step.Advance 0) answer.Draining
    ∷ says (step.Pump 0) answer.Blocked
    ∷ refused (step.Advance 0) refusal.NotYet
    ∷ says (step.Serve 0) answer.Job
    ∷ says (step.Pump 0) answer.WaitDone
    ∷ says (step.Advance 0) answer.Invalidating
    ∷ []

abbrev pub DrainWaitsForOtherPasids : Type 0
DrainWaitsForOtherPasids = IsRun (config 1 1 1 0) drain_waits_for_other_pasids 1 0 0

-- only a wait that drains waits for the page request queue
abbrev pub wait_of_an_unmap_does_not_drain : List Line
wait_of_an_unmap_does_not_drain =
    says step.Space (answer.Space 0)
    ∷ says (step.Map 0 16 false) (answer.Frame 0)
    ∷ says (step.Bind 0 0) (answer.Binding 0 1)
    ∷ says (step.Deliver 0) answer.Started
    ∷ says (step.Fault 0 1 32 true false None true) (answer.Group 0)
    ∷ says (step.Deliver 1) answer.Queued
    ∷ says (step.Unmap 0 16 1) (answer.WithheldFrames (0 ∷ []))
    ∷ says (step.Pump 0) (answer.Itag 0)
    ∷ says (step.Deliver 2) answer.Taken
    ∷ says (step.Finish 0 1 1) (answer.Sent 1)
    ∷ says (step.Deliver 3) (answer.Freed 1)
    ∷ says (step.Pump 0) answer.WaitDone
    ∷ says (step.Look 0) answer.Free
    ∷ says (step.Serve 0) answer.Job
    ∷ []

abbrev pub WaitOfAnUnmapDoesNotDrain : Type 0
WaitOfAnUnmapDoesNotDrain = IsRun (config 1 1 1 0) wait_of_an_unmap_does_not_drain 1 0 0

-- the groups of a PASID that was quit keep their page requests until the responses come
abbrev pub stale_groups_keep_their_requests : List Line
stale_groups_keep_their_requests =
    (says step.Space (answer.Space 0)
    ∷ says step.Space (answer.Space 1)
    ∷ says (step.Bind 0 0) (answer.Binding 0 1)
    ∷ says (step.Bind 0 1) (answer.Binding 1 2)
    ∷ says (step.Deliver 0) answer.Started
    ∷ says (step.Deliver 1) answer.Started
    ∷ [])
    ++ lines 32 (λ k. says (step.Fault 0 1 32 true false None true) (answer.Group k))
    ++ (says (step.Unbind 0) answer.Stopping
    ∷ says (step.Deliver 34) answer.Stopping
    ∷ says (step.Quit 0 1) answer.Marker
    ∷ refused (step.Fault 0 2 32 true false None true) refusal.NoCredit
    ∷ says (step.Deliver 2) answer.Queued
    ∷ says (step.Serve 0) answer.Job
    ∷ says (step.Take 0) (answer.JobTaken 0 0 1)
    ∷ says (step.Reply 0 verdict.Success) answer.Invalid
    ∷ refused (step.Fault 0 2 32 true false None true) refusal.NoCredit
    ∷ says (step.Deliver 36) answer.Stale
    ∷ says (step.Fault 0 2 32 true false None true) (answer.Group 0)
    ∷ refused (step.Fault 0 2 32 true false None true) refusal.NoCredit
    ∷ [])

abbrev pub StaleGroupsKeepTheirRequests : Type 0
StaleGroupsKeepTheirRequests = IsRun (config 1 1 1 0) stale_groups_keep_their_requests 1 0 0

-- where the interface is disabled an unfinished group keeps its PASID stopping until a reset
abbrev pub unfinished_where_disabled : List Line
unfinished_where_disabled =
    says step.Space (answer.Space 0)
    ∷ says (step.Bind 0 0) (answer.Binding 0 1)
    ∷ says (step.Deliver 0) answer.Started
    ∷ says (step.Fault 0 1 32 true false None false) (answer.Group 0)
    ∷ says (step.Fault 0 1 33 true false None true) (answer.Group 1)
    ∷ says (step.Deliver 1) answer.Queued
    ∷ says (step.Deliver 2) answer.Queued
    ∷ says (step.Serve 0) answer.Part
    ∷ says (step.Serve 0) answer.Job
    ∷ says (step.Take 0) (answer.JobTaken 0 1 1)
    ∷ says (step.Reply 0 verdict.Failure) answer.Failure
    ∷ says (step.Deliver 3) answer.Answered
    ∷ refused (step.Fault 0 1 34 true false (Some 0) true) refusal.PriDisabled
    ∷ says (step.Unbind 0) answer.Stopping
    ∷ says (step.Deliver 4) answer.Stopping
    ∷ refused (step.Fault 0 1 34 true false (Some 0) true) refusal.PriDisabled
    ∷ refused (step.Quit 0 1) refusal.Busy
    ∷ refused (step.Advance 0) refusal.NotYet
    ∷ says (step.Reset 0) answer.Resetting
    ∷ says (step.Deliver 5) answer.Reset
    ∷ says (step.Deliver 6) answer.ResetDone
    ∷ says (step.Advance 0) answer.Released
    ∷ []

abbrev pub UnfinishedWhereDisabled : Type 0
UnfinishedWhereDisabled = IsRun (config 1 1 1 0) unfinished_where_disabled 1 0 0

-- 32 page requests in unfinished groups keep their PASID stopping
abbrev pub unfinished_without_credit : List Line
unfinished_without_credit =
    (says step.Space (answer.Space 0)
    ∷ says (step.Bind 0 0) (answer.Binding 0 1)
    ∷ says (step.Deliver 0) answer.Started
    ∷ [])
    ++ lines 32 (λ k. says (step.Fault 0 1 32 true false None false) (answer.Group k))
    ++ (refused (step.Fault 0 1 32 true false (Some 0) true) refusal.NoCredit
    ∷ says (step.Unbind 0) answer.Stopping
    ∷ says (step.Deliver 33) answer.Stopping
    ∷ refused (step.Fault 0 1 32 true false (Some 0) true) refusal.NoCredit
    ∷ refused (step.Quit 0 1) refusal.Busy
    ∷ [])

abbrev pub UnfinishedWithoutCredit : Type 0
UnfinishedWithoutCredit = IsRun (config 1 1 1 0) unfinished_without_credit 1 0 0

-- a group goes on while its PASID is stopping, and no new one begins
abbrev pub group_while_stopping : List Line
group_while_stopping =
    says step.Space (answer.Space 0)
    ∷ says (step.Bind 0 0) (answer.Binding 0 1)
    ∷ says (step.Deliver 0) answer.Started
    ∷ says (step.Fault 0 1 32 true false None false) (answer.Group 0)
    ∷ says (step.Unbind 0) answer.Stopping
    ∷ says (step.Deliver 2) answer.Stopping
    ∷ refused (step.Fault 0 1 33 true false None true) refusal.NotStarted
    ∷ says (step.Fault 0 1 33 true false (Some 0) false) (answer.Group 0)
    ∷ refused (step.Quit 0 1) refusal.Busy
    ∷ says (step.Fault 0 1 34 true false (Some 0) true) (answer.Group 0)
    ∷ refused (step.Fault 0 1 35 true false (Some 0) true) refusal.NoSuchGroup
    ∷ says (step.Quit 0 1) answer.Marker
    ∷ []

abbrev pub GroupWhileStopping : Type 0
GroupWhileStopping = IsRun (config 1 1 1 0) group_while_stopping 1 0 0

-- an index is that of a group of its own PASID alone
abbrev pub group_of_another_pasid : List Line
group_of_another_pasid =
    says step.Space (answer.Space 0)
    ∷ says step.Space (answer.Space 1)
    ∷ says (step.Bind 0 0) (answer.Binding 0 1)
    ∷ says (step.Bind 0 1) (answer.Binding 1 2)
    ∷ says (step.Deliver 0) answer.Started
    ∷ says (step.Deliver 1) answer.Started
    ∷ says (step.Fault 0 1 32 true false None false) (answer.Group 0)
    ∷ refused (step.Fault 0 2 32 true false (Some 0) true) refusal.NoSuchGroup
    ∷ refused (step.Fault 0 2 32 true false (Some 32) true) refusal.NoSuchGroup
    ∷ says (step.Fault 0 1 32 true false (Some 0) true) (answer.Group 0)
    ∷ []

abbrev pub GroupOfAnotherPasid : Type 0
GroupOfAnotherPasid = IsRun (config 1 1 1 0) group_of_another_pasid 1 0 0
