-- Runs that are worked out: function level resets and endpoints that are silent.
use Rattle.std.specs.Prelude.{true, false, List, [], ◌∷◌, ◌++◌, None}
use Rattle.sva_step.specs.declared.answers.Answer.TheVariants as answer
use Rattle.sva_step.specs.declared.refusals.Refusal.TheVariants as refusal
use Rattle.sva_step.specs.declared.steps.Step.TheVariants as step
use Rattle.sva_step.specs.declared.steps.Verdict.TheVariants as verdict
use Rattle.sva_model.specs.Runs.{Line, says, refused, lines, IsRun, config}

-- an endpoint that answers nothing stalls its own unit; a reset ends the wait
abbrev pub silent_endpoint : List Line
silent_endpoint =
    (says (step.Space) (answer.Space 0)
    ∷ says (step.Map 0 16 true) (answer.Frame 0)
    ∷ says (step.Bind 0 0) (answer.Binding 0 1)
    ∷ says (step.Deliver 0) (answer.Started)
    ∷ says (step.Ask 0 1 16) (answer.Tag 0)
    ∷ says (step.Deliver 1) (answer.Completion)
    ∷ says (step.Deliver 2) (answer.Held)
    ∷ says (step.BeginUse 0 1 16 true) (answer.Use 0 0)
    ∷ says (step.Unmap 0 16 1) (answer.WithheldFrames (0 ∷ []))
    ∷ says (step.Pump 0) (answer.Itag 0)
    ∷ says (step.Deliver 3) (answer.Taken)
    ∷ [])
    ++ lines 100 (λ k. says (step.Pump 0) (answer.Blocked))
    ++ (says (step.Look 0) (answer.Withheld)
    ∷ says (step.Reset 0) (answer.Resetting)
    ∷ refused (step.Pump 0) refusal.Resetting
    ∷ says (step.Deliver 4) (answer.Reset)
    ∷ says (step.Look 0) (answer.Withheld)
    ∷ says (step.Deliver 5) (answer.ResetDone)
    ∷ says (step.Look 0) (answer.Free)
    ∷ says (step.EndUse 0 0) (answer.Dead)
    ∷ [])

abbrev pub SilentEndpoint : Type 0
SilentEndpoint = IsRun (config 1 4 1 0) silent_endpoint 4 0 0

-- a reset keeps the tags busy until its reset-done, which overtakes nothing
abbrev pub reset_and_tags : List Line
reset_and_tags =
    says (step.Space) (answer.Space 0)
    ∷ says (step.Map 0 16 false) (answer.Frame 0)
    ∷ says (step.Bind 0 0) (answer.Binding 0 1)
    ∷ says (step.Deliver 0) (answer.Started)
    ∷ says (step.Unmap 0 16 1) (answer.WithheldFrames (0 ∷ []))
    ∷ says (step.Pump 0) (answer.Itag 0)
    ∷ says (step.Deliver 1) (answer.Taken)
    ∷ says (step.Finish 0 1 2) (answer.Sent 2)
    ∷ says (step.Deliver 2) (answer.Freed 0)
    ∷ says (step.Reset 0) (answer.Resetting)
    ∷ says (step.Deliver 4) (answer.Reset)
    ∷ refused (step.Deliver 5) refusal.Overtakes
    ∷ says (step.Deliver 3) (answer.Dropped)
    ∷ says (step.Deliver 5) (answer.ResetDone)
    ∷ says (step.Look 0) (answer.Free)
    ∷ says (step.Unbind 0) (answer.Quiet)
    ∷ says (step.Advance 0) (answer.Released)
    ∷ says (step.Bind 0 0) (answer.Binding 1 1)
    ∷ says (step.Deliver 6) (answer.Started)
    ∷ says (step.Map 0 16 false) (answer.Frame 0)
    ∷ says (step.Unmap 0 16 1) (answer.WithheldFrames (0 ∷ []))
    ∷ says (step.Pump 0) (answer.Itag 0)
    ∷ []

abbrev pub ResetAndTags : Type 0
ResetAndTags = IsRun (config 1 4 1 0) reset_and_tags 3 0 1

-- a job from before a reset is dropped, and a new one answered
abbrev pub old_job : List Line
old_job =
    says (step.Space) (answer.Space 0)
    ∷ says (step.Bind 0 0) (answer.Binding 0 1)
    ∷ says (step.Deliver 0) (answer.Started)
    ∷ says (step.Fault 0 1 32 true true None true) (answer.Group 0)
    ∷ says (step.Deliver 1) (answer.Queued)
    ∷ says (step.Serve 0) (answer.Job)
    ∷ says (step.Take 0) (answer.JobTaken 0 0 1)
    ∷ says (step.Reset 0) (answer.Resetting)
    ∷ says (step.Deliver 2) (answer.Reset)
    ∷ says (step.Deliver 3) (answer.ResetDone)
    ∷ says (step.Unbind 0) (answer.Quiet)
    ∷ says (step.Advance 0) (answer.Released)
    ∷ says (step.Bind 0 0) (answer.Binding 1 1)
    ∷ says (step.Deliver 4) (answer.Started)
    ∷ says (step.Fault 0 1 33 true false None true) (answer.Group 0)
    ∷ says (step.Deliver 5) (answer.Queued)
    ∷ says (step.Serve 0) (answer.Job)
    ∷ says (step.Reply 0 verdict.Success) (answer.Dropped)
    ∷ says (step.Take 0) (answer.JobTaken 1 0 1)
    ∷ says (step.Reply 0 verdict.Success) (answer.Success 1)
    ∷ says (step.Deliver 6) (answer.Answered)
    ∷ []

abbrev pub OldJob : Type 0
OldJob = IsRun (config 1 4 1 0) old_job 3 1 0

-- a reset cuts a binding off
abbrev pub reset_of_a_live_binding : List Line
reset_of_a_live_binding =
    says (step.Space) (answer.Space 0)
    ∷ says (step.Map 0 16 false) (answer.Frame 0)
    ∷ says (step.Bind 0 0) (answer.Binding 0 1)
    ∷ says (step.Deliver 0) (answer.Started)
    ∷ says (step.Ask 0 1 16) (answer.Tag 0)
    ∷ says (step.Deliver 1) (answer.Completion)
    ∷ says (step.Reset 0) (answer.Resetting)
    ∷ says (step.Unmap 0 16 1) (answer.WithheldFrames (0 ∷ []))
    ∷ refused (step.Unbind 0) refusal.Resetting
    ∷ refused (step.Reset 0) refusal.Resetting
    ∷ says (step.Deliver 3) (answer.Reset)
    ∷ says (step.Look 0) (answer.Withheld)
    ∷ refused (step.Deliver 4) refusal.Overtakes
    ∷ says (step.Deliver 2) (answer.Dropped)
    ∷ says (step.Deliver 4) (answer.ResetDone)
    ∷ says (step.Look 0) (answer.Free)
    ∷ says (step.Unbind 0) (answer.Quiet)
    ∷ says (step.Advance 0) (answer.Released)
    ∷ []

abbrev pub ResetOfALiveBinding : Type 0
ResetOfALiveBinding = IsRun (config 1 4 1 0) reset_of_a_live_binding 4 0 0

-- a frame waits for both endpoints
abbrev pub two_endpoints_one_silent : List Line
two_endpoints_one_silent =
    says (step.Space) (answer.Space 0)
    ∷ says (step.Map 0 16 false) (answer.Frame 0)
    ∷ says (step.Bind 0 0) (answer.Binding 0 1)
    ∷ says (step.Bind 1 0) (answer.Binding 1 1)
    ∷ says (step.Deliver 0) (answer.Started)
    ∷ says (step.Deliver 1) (answer.Started)
    ∷ says (step.Unmap 0 16 1) (answer.WithheldFrames (0 ∷ []))
    ∷ says (step.Pump 0) (answer.Itag 0)
    ∷ says (step.Pump 1) (answer.Itag 0)
    ∷ says (step.Deliver 2) (answer.Taken)
    ∷ says (step.Finish 0 1 1) (answer.Sent 1)
    ∷ says (step.Deliver 4) (answer.Freed 1)
    ∷ says (step.Pump 0) (answer.WaitDone)
    ∷ says (step.Look 0) (answer.Withheld)
    ∷ says (step.Reset 1) (answer.Resetting)
    ∷ refused (step.Deliver 5) refusal.Overtakes
    ∷ says (step.Deliver 3) (answer.Taken)
    ∷ says (step.Deliver 5) (answer.Reset)
    ∷ says (step.Deliver 6) (answer.ResetDone)
    ∷ says (step.Look 0) (answer.Free)
    ∷ []

abbrev pub TwoEndpointsOneSilent : Type 0
TwoEndpointsOneSilent = IsRun (config 2 4 1 0) two_endpoints_one_silent 4 0 0
