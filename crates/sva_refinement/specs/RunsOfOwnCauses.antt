-- Runs that are worked out: a step is refused for its own endpoint, space or binding, and not for what another has. Each run ends
-- well where a wrong rule would refuse one of its steps.
use Rattle.std.specs.Prelude.{true, false, List, [], ◌∷◌, None, ◌++◌, ◌+◌, Some}
use Rattle.sva_step.specs.declared.answers.Answer.TheVariants as answer
use Rattle.sva_step.specs.declared.refusals.Refusal.TheVariants as refusal
use Rattle.sva_step.specs.declared.steps.Step.TheVariants as step
use Rattle.sva_step.specs.declared.steps.Verdict.TheVariants as verdict
use Rattle.sva_model.specs.Runs.{Line, says, IsRun, config, refused, lines}
use Rattle.sva_refinement.specs.RunsOfFullSpaces.{full_space, IsRunAfter}

-- a range finds the queue full before it asks for a cookie: 32 ranges fill the 64 places, and spend the 32 cookies
abbrev pub full_queue_of_ranges : List Line
full_queue_of_ranges =
    (says step.Space (answer.Space 9223372036854775776)
    ∷ [])
    ++ lines 33 (λ k. says (step.Map 9223372036854775776 (16 + k) false) (answer.Frame k))
    ++ (says (step.Bind 0 9223372036854775776) (answer.Binding 9223372036854775776 1)
    ∷ [])
    ++ lines 32 (λ k. says (step.UnmapRange 9223372036854775776 (16 + k) 0) (answer.RangeWithheld 1))
    ++ (refused (step.UnmapRange 9223372036854775776 48 0) refusal.QueueFull  -- NumbersSpent too
    ∷ [])

abbrev pub FullQueueOfRanges : Type 0
FullQueueOfRanges = IsRun (config 1 33 1 9223372036854775776) full_queue_of_ranges 0 1 32

-- another unit is in reset: a bind, a pump, a serve, an unbind and a reset go by their own
abbrev pub open_beside_a_reset : List Line
open_beside_a_reset =
    says step.Space (answer.Space 0)
    ∷ says (step.Reset 1) answer.Resetting
    ∷ refused (step.Bind 1 0) refusal.Resetting
    ∷ says (step.Bind 0 0) (answer.Binding 0 1)
    ∷ says (step.Pump 0) answer.Idle
    ∷ says (step.Serve 0) answer.Empty
    ∷ says (step.Unbind 0) answer.Stopping
    ∷ says (step.Reset 0) answer.Resetting
    ∷ []

abbrev pub OpenBesideAReset : Type 0
OpenBesideAReset = IsRun (config 2 1 1 0) open_beside_a_reset 1 0 0

-- an Invalidating binding whose wait is done becomes Quiet, and is released, while another unit is in reset
abbrev pub quiet_beside_a_reset : List Line
quiet_beside_a_reset =
    says step.Space (answer.Space 0)
    ∷ says (step.Bind 0 0) (answer.Binding 0 1)
    ∷ says (step.Deliver 0) answer.Started
    ∷ says (step.Unbind 0) answer.Stopping
    ∷ says (step.Deliver 1) answer.Stopping
    ∷ says (step.Quit 0 1) answer.Marker
    ∷ says (step.Deliver 2) answer.Marked
    ∷ says (step.Reset 1) answer.Resetting
    ∷ says (step.Advance 0) answer.Draining
    ∷ says (step.Pump 0) answer.WaitDone
    ∷ says (step.Advance 0) answer.Invalidating
    ∷ says (step.Pump 0) (answer.Itag 0)
    ∷ says (step.Deliver 4) answer.Taken
    ∷ says (step.Finish 0 1 1) (answer.Sent 1)
    ∷ says (step.Deliver 5) (answer.Freed 1)
    ∷ says (step.Pump 0) answer.WaitDone
    ∷ says (step.Advance 0) answer.Quiet
    ∷ says (step.Advance 0) answer.Released
    ∷ []

abbrev pub QuietBesideAReset : Type 0
QuietBesideAReset = IsRun (config 2 1 1 0) quiet_beside_a_reset 1 0 0

-- a space of 1024 pages has room for a success that maps none: its group asks for a page that is mapped
abbrev pub success_of_a_full_space : List Line
success_of_a_full_space =
    says (step.Bind 0 0) (answer.Binding 0 1)
    ∷ says (step.Deliver 0) answer.Started
    ∷ says (step.Fault 0 1 16 true false None true) (answer.Group 0)
    ∷ says (step.Deliver 1) answer.Queued
    ∷ says (step.Serve 0) answer.Job
    ∷ says (step.Take 0) (answer.JobTaken 0 0 1)
    ∷ says (step.Reply 0 verdict.Success) (answer.Success 0)
    ∷ []

abbrev pub SuccessOfAFullSpace : Type 0
SuccessOfAFullSpace = IsRunAfter (full_space 1025 0) success_of_a_full_space 1 1024 0

-- a group that asks to read a read-only page, and to write another: only a write of a read-only page is a bad verdict
abbrev pub read_beside_a_write : List Line
read_beside_a_write =
    says step.Space (answer.Space 0)
    ∷ says (step.Map 0 16 false) (answer.Frame 0)
    ∷ says (step.Bind 0 0) (answer.Binding 0 1)
    ∷ says (step.Deliver 0) answer.Started
    ∷ says (step.Fault 0 1 16 true false None false) (answer.Group 0)
    ∷ says (step.Fault 0 1 17 false true (Some 0) true) (answer.Group 0)
    ∷ says (step.Deliver 1) answer.Queued
    ∷ says (step.Deliver 2) answer.Queued
    ∷ says (step.Serve 0) answer.Part
    ∷ says (step.Serve 0) answer.Job
    ∷ says (step.Take 0) (answer.JobTaken 0 0 2)
    ∷ says (step.Reply 0 verdict.Success) (answer.Success 1)
    ∷ []

abbrev pub ReadBesideAWrite : Type 0
ReadBesideAWrite = IsRun (config 1 2 1 0) read_beside_a_write 0 2 0

-- a binding that is Lost, and then Quiet, gets nothing of an unmapping: that its unit's queue is full by another binding is no matter
abbrev pub lost_beside_a_full_queue : List Line
lost_beside_a_full_queue =
    (says step.Space (answer.Space 0)
    ∷ says step.Space (answer.Space 1)
    ∷ says (step.Map 0 16 false) (answer.Frame 0)
    ∷ says (step.Map 0 17 false) (answer.Frame 1)
    ∷ says (step.Map 0 18 false) (answer.Frame 2)
    ∷ says (step.Map 0 19 false) (answer.Frame 3)
    ∷ says (step.Bind 0 0) (answer.Binding 0 1)
    ∷ says (step.Reset 0) answer.Resetting
    ∷ says (step.Deliver 0) answer.Started
    ∷ says (step.Deliver 1) answer.Reset
    ∷ says (step.Deliver 2) answer.ResetDone
    ∷ says (step.Bind 0 1) (answer.Binding 1 2)
    ∷ [])
    ++ lines 33 (λ k. says (step.Map 1 (16 + k) false) (answer.Frame (4 + k)))
    ++ lines 32 (λ k. says (step.UnmapRange 1 (16 + k) 0) (answer.RangeWithheld 1))
    ++ (refused (step.Unmap 1 48 1) refusal.QueueFull
    ∷ says (step.Unmap 0 16 1) (answer.FreeFrames (0 ∷ []))
    ∷ says (step.UnmapRange 0 17 0) (answer.RangeFree 1)
    ∷ says (step.Unbind 0) answer.Quiet
    ∷ says (step.Unmap 0 18 1) (answer.FreeFrames (2 ∷ []))
    ∷ says (step.UnmapRange 0 19 0) (answer.RangeFree 1)
    ∷ refused (step.UnmapRange 1 48 0) refusal.QueueFull
    ∷ [])

abbrev pub LostBesideAFullQueue : Type 0
LostBesideAFullQueue = IsRun (config 1 37 1 0) lost_beside_a_full_queue 4 1 32

-- a space is dropped while a worker holds a job of it that a reset has dropped: only a binding keeps a space
abbrev pub drop_beside_a_job : List Line
drop_beside_a_job =
    says step.Space (answer.Space 0)
    ∷ says (step.Bind 0 0) (answer.Binding 0 1)
    ∷ says (step.Deliver 0) answer.Started
    ∷ says (step.Fault 0 1 16 true false None true) (answer.Group 0)
    ∷ says (step.Deliver 1) answer.Queued
    ∷ says (step.Serve 0) answer.Job
    ∷ says (step.Take 0) (answer.JobTaken 0 0 1)
    ∷ says (step.Reset 0) answer.Resetting
    ∷ says (step.Deliver 2) answer.Reset
    ∷ says (step.Deliver 3) answer.ResetDone
    ∷ says (step.Unbind 0) answer.Quiet
    ∷ refused (step.DropSpace 0) refusal.StillBound
    ∷ says (step.Advance 0) answer.Released
    ∷ says (step.DropSpace 0) answer.Gone
    ∷ says (step.Reply 0 verdict.Success) answer.Dropped
    ∷ []

abbrev pub DropBesideAJob : Type 0
DropBesideAJob = IsRun (config 1 1 1 0) drop_beside_a_job 1 0 0

-- a PASID is quit beside a group that the quit of another one has made stale, and that still awaits its response
abbrev pub quit_beside_a_stale_group : List Line
quit_beside_a_stale_group =
    says step.Space (answer.Space 0)
    ∷ says step.Space (answer.Space 1)
    ∷ says (step.Bind 0 0) (answer.Binding 0 1)
    ∷ says (step.Bind 0 1) (answer.Binding 1 2)
    ∷ says (step.Deliver 0) answer.Started
    ∷ says (step.Deliver 1) answer.Started
    ∷ says (step.Fault 0 1 32 true false None true) (answer.Group 0)
    ∷ says (step.Unbind 0) answer.Stopping
    ∷ says (step.Unbind 1) answer.Stopping
    ∷ says (step.Deliver 3) answer.Stopping
    ∷ says (step.Deliver 4) answer.Stopping
    ∷ says (step.Quit 0 1) answer.Marker
    ∷ says (step.Quit 0 2) answer.Marker
    ∷ []

abbrev pub QuitBesideAStaleGroup : Type 0
QuitBesideAStaleGroup = IsRun (config 1 1 1 0) quit_beside_a_stale_group 1 0 0

-- a space is bound at two endpoints, and the queue of the second one's unit is full: there is no room for an unmapping, though there is
-- at the first one
abbrev pub room_at_the_second_unit : List Line
room_at_the_second_unit =
    (says step.Space (answer.Space 0)
    ∷ says step.Space (answer.Space 1)
    ∷ says (step.Map 0 16 false) (answer.Frame 0)
    ∷ [])
    ++ lines 32 (λ k. says (step.Map 1 (16 + k) false) (answer.Frame (1 + k)))
    ++ (says (step.Bind 0 0) (answer.Binding 0 1)
    ∷ says (step.Bind 1 0) (answer.Binding 1 1)
    ∷ says (step.Bind 1 1) (answer.Binding 2 2)
    ∷ [])
    ++ lines 32 (λ k. says (step.UnmapRange 1 (16 + k) 0) (answer.RangeWithheld 1))
    ++ (refused (step.UnmapRange 0 16 0) refusal.QueueFull
    ∷ refused (step.Unmap 0 16 1) refusal.QueueFull
    ∷ says (step.Pump 1) (answer.Itag 0)
    ∷ refused (step.UnmapRange 0 16 0) refusal.QueueFull  -- one place is free
    ∷ [])

abbrev pub RoomAtTheSecondUnit : Type 0
RoomAtTheSecondUnit = IsRun (config 2 33 1 0) room_at_the_second_unit 0 1 32

-- a page request that a unit in reset drops is outstanding until the endpoint resets itself
abbrev pub credit_of_a_dropped_request : List Line
credit_of_a_dropped_request =
    (says step.Space (answer.Space 0)
    ∷ says (step.Bind 0 0) (answer.Binding 0 1)
    ∷ says (step.Deliver 0) answer.Started
    ∷ says (step.Reset 0) answer.Resetting
    ∷ [])
    ++ lines 32 (λ k. says (step.Fault 0 1 16 true false None true) (answer.Group k))
    ++ (refused (step.Fault 0 1 16 true false None true) refusal.NoCredit
    ∷ says (step.Deliver 2) answer.Dropped
    ∷ refused (step.Fault 0 1 16 true false None true) refusal.NoCredit
    ∷ [])

abbrev pub CreditOfADroppedRequest : Type 0
CreditOfADroppedRequest = IsRun (config 1 1 1 0) credit_of_a_dropped_request 1 0 0

-- Who bears a PASID: each unreleased binding counts, in whatever stage and at whatever endpoint.
abbrev pub bearers_at_three_endpoints : List Line
bearers_at_three_endpoints =
    says step.Space (answer.Space 0)
    ∷ says (step.Bind 0 0) (answer.Binding 0 1)
    ∷ says (step.Unbind 0) answer.Stopping
    ∷ says (step.Bearer 1) (answer.Bearer 0 1)
    ∷ says (step.Bind 1 0) (answer.Binding 1 1)
    ∷ says (step.Bind 2 0) (answer.Binding 2 1)
    ∷ says (step.Bearer 1) (answer.Bearer 0 3)
    ∷ []

abbrev pub BearersAtThreeEndpoints : Type 0
BearersAtThreeEndpoints = IsRun (config 3 1 1 0) bearers_at_three_endpoints 1 0 0

-- a space is told by its number
abbrev pub bearer_by_number : List Line
bearer_by_number =
    says step.Space (answer.Space 5)
    ∷ says (step.Bind 0 5) (answer.Binding 5 1)
    ∷ says (step.Bearer 1) (answer.Bearer 5 1)
    ∷ []

abbrev pub BearerByNumber : Type 0
BearerByNumber = IsRun (config 1 1 1 5) bearer_by_number 1 0 0

-- 32 is a PASID, and 33 is none
abbrev pub greatest_pasid : List Line
greatest_pasid =
    says (step.Bearer 32) answer.NoBearer
    ∷ refused (step.Bearer 33) refusal.BadPasid
    ∷ refused (step.Bearer 0) refusal.BadPasid
    ∷ []

abbrev pub GreatestPasid : Type 0
GreatestPasid = IsRun (config 1 1 1 0) greatest_pasid 1 0 0
