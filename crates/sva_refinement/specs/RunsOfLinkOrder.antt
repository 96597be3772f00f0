-- Runs that are worked out: which message may overtake which, where the order of the link could be read in two ways.
use Rattle.std.specs.Prelude.{true, false, List, [], ◌∷◌, None, Some}
use Rattle.sva_step.specs.declared.answers.Answer.TheVariants as answer
use Rattle.sva_step.specs.declared.refusals.Refusal.TheVariants as refusal
use Rattle.sva_step.specs.declared.steps.Step.TheVariants as step
use Rattle.sva_step.specs.declared.steps.Verdict.TheVariants as verdict
use Rattle.sva_model.specs.Runs.{Line, says, IsRun, config, refused}

-- the last page request of a group may overtake an older marker
abbrev pub last_request_past_a_marker : List Line
last_request_past_a_marker =
    says step.Space (answer.Space 0)
    ∷ says step.Space (answer.Space 1)
    ∷ says (step.Bind 0 0) (answer.Binding 0 1)
    ∷ says (step.Bind 0 1) (answer.Binding 1 2)
    ∷ says (step.Deliver 0) answer.Started
    ∷ says (step.Deliver 1) answer.Started
    ∷ says (step.Unbind 0) answer.Stopping
    ∷ says (step.Deliver 2) answer.Stopping
    ∷ says (step.Quit 0 1) answer.Marker
    ∷ says (step.Fault 0 2 32 true false None true) (answer.Group 0)
    ∷ says (step.Deliver 4) answer.Queued
    ∷ says (step.Deliver 3) answer.Marked
    ∷ []

abbrev pub LastRequestPastAMarker : Type 0
LastRequestPastAMarker = IsRun (config 1 4 1 0) last_request_past_a_marker 4 0 0

-- a marker may overtake an older marker
abbrev pub marker_past_a_marker : List Line
marker_past_a_marker =
    says step.Space (answer.Space 0)
    ∷ says step.Space (answer.Space 1)
    ∷ says (step.Bind 0 0) (answer.Binding 0 1)
    ∷ says (step.Bind 0 1) (answer.Binding 1 2)
    ∷ says (step.Deliver 0) answer.Started
    ∷ says (step.Deliver 1) answer.Started
    ∷ says (step.Unbind 0) answer.Stopping
    ∷ says (step.Unbind 1) answer.Stopping
    ∷ says (step.Deliver 2) answer.Stopping
    ∷ says (step.Deliver 3) answer.Stopping
    ∷ says (step.Quit 0 1) answer.Marker
    ∷ says (step.Quit 0 2) answer.Marker
    ∷ says (step.Deliver 5) answer.Marked
    ∷ says (step.Deliver 4) answer.Marked
    ∷ []

abbrev pub MarkerPastAMarker : Type 0
MarkerPastAMarker = IsRun (config 1 4 1 0) marker_past_a_marker 4 0 0

-- a page request that isn't the last of its group may overtake older ones
abbrev pub request_without_l_is_not_ordered : List Line
request_without_l_is_not_ordered =
    says step.Space (answer.Space 0)
    ∷ says (step.Bind 0 0) (answer.Binding 0 1)
    ∷ says (step.Deliver 0) answer.Started
    ∷ says (step.Fault 0 1 32 true false None false) (answer.Group 0)
    ∷ says (step.Fault 0 1 33 true false None false) (answer.Group 1)
    ∷ says (step.Fault 0 1 34 true false (Some 0) true) (answer.Group 0)
    ∷ refused (step.Deliver 3) refusal.Overtakes
    ∷ says (step.Deliver 2) answer.Queued
    ∷ refused (step.Deliver 3) refusal.Overtakes
    ∷ says (step.Deliver 1) answer.Queued
    ∷ says (step.Deliver 3) answer.Queued
    ∷ says (step.Serve 0) answer.Part
    ∷ says (step.Serve 0) answer.Part
    ∷ says (step.Serve 0) answer.Job
    ∷ []

abbrev pub RequestWithoutLIsNotOrdered : Type 0
RequestWithoutLIsNotOrdered = IsRun (config 1 1 1 0) request_without_l_is_not_ordered 1 0 0

-- a stop stays behind an older response: a response failure finds no stale group
abbrev pub failure_before_the_stop : List Line
failure_before_the_stop =
    says step.Space (answer.Space 0)
    ∷ says (step.Bind 0 0) (answer.Binding 0 1)
    ∷ says (step.Deliver 0) answer.Started
    ∷ says (step.Fault 0 1 32 true false None true) (answer.Group 0)
    ∷ says (step.Deliver 1) answer.Queued
    ∷ says (step.Serve 0) answer.Job
    ∷ says (step.Take 0) (answer.JobTaken 0 0 1)
    ∷ says (step.Reply 0 verdict.Failure) answer.Failure
    ∷ says (step.Unbind 0) answer.Stopping
    ∷ refused (step.Deliver 3) refusal.Overtakes
    ∷ refused (step.Quit 0 1) refusal.NotStopping
    ∷ says (step.Deliver 2) answer.Answered
    ∷ says (step.Deliver 3) answer.Stopping
    ∷ says (step.Quit 0 1) answer.Marker
    ∷ []

abbrev pub FailureBeforeTheStop : Type 0
FailureBeforeTheStop = IsRun (config 1 1 1 0) failure_before_the_stop 1 0 0

-- start, stop and reset stay behind what was sent down before them, an invalidation doesn't
abbrev pub orders_down_stay_in_order : List Line
orders_down_stay_in_order =
    says step.Space (answer.Space 0)
    ∷ says (step.Map 0 16 false) (answer.Frame 0)
    ∷ says (step.Bind 0 0) (answer.Binding 0 1)
    ∷ says (step.Unmap 0 16 1) (answer.WithheldFrames (0 ∷ []))
    ∷ says (step.Pump 0) (answer.Itag 0)
    ∷ says (step.Unbind 0) answer.Stopping
    ∷ says (step.Reset 0) answer.Resetting
    ∷ refused (step.Deliver 3) refusal.Overtakes
    ∷ refused (step.Deliver 2) refusal.Overtakes
    ∷ says (step.Deliver 1) answer.Taken
    ∷ refused (step.Deliver 2) refusal.Overtakes
    ∷ says (step.Deliver 0) answer.Started
    ∷ refused (step.Deliver 3) refusal.Overtakes
    ∷ says (step.Deliver 2) answer.Stopping
    ∷ says (step.Deliver 3) answer.Reset
    ∷ []

abbrev pub OrdersDownStayInOrder : Type 0
OrdersDownStayInOrder = IsRun (config 1 1 1 0) orders_down_stay_in_order 0 0 1

-- a stop stays behind an older invalidation, and overtakes a completion
abbrev pub stop_behind_an_invalidate : List Line
stop_behind_an_invalidate =
    says step.Space (answer.Space 0)
    ∷ says (step.Map 0 16 false) (answer.Frame 0)
    ∷ says (step.Bind 0 0) (answer.Binding 0 1)
    ∷ says (step.Deliver 0) answer.Started
    ∷ says (step.Ask 0 1 16) (answer.Tag 0)
    ∷ says (step.Deliver 1) answer.Completion
    ∷ says (step.Unmap 0 16 1) (answer.WithheldFrames (0 ∷ []))
    ∷ says (step.Pump 0) (answer.Itag 0)
    ∷ says (step.Unbind 0) answer.Stopping
    ∷ refused (step.Deliver 4) refusal.Overtakes
    ∷ says (step.Deliver 3) answer.Taken
    ∷ says (step.Deliver 4) answer.Stopping
    ∷ says (step.Deliver 2) answer.Dropped
    ∷ says (step.Quit 0 1) answer.Marker
    ∷ []

abbrev pub StopBehindAnInvalidate : Type 0
StopBehindAnInvalidate = IsRun (config 1 1 1 0) stop_behind_an_invalidate 0 0 1
