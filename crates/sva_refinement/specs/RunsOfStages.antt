-- Runs that are worked out: each stage of a binding where it is unmapped, advanced or reset, and what a reset gives back.
use Rattle.std.specs.Prelude.{true, false, List, [], ◌∷◌, None, ◌++◌, ◌+◌}
use Rattle.sva_step.specs.declared.answers.Answer.TheVariants as answer
use Rattle.sva_step.specs.declared.refusals.Refusal.TheVariants as refusal
use Rattle.sva_step.specs.declared.steps.Step.TheVariants as step
use Rattle.sva_step.specs.declared.steps.Verdict.TheVariants as verdict
use Rattle.sva_model.specs.Runs.{Line, says, IsRun, config, refused, lines}

-- a binding isn't advanced at a unit in reset, whatever its stage needs; the reset-done makes it Quiet
abbrev pub stages_in_reset : List Line
stages_in_reset =
    says step.Space (answer.Space 0)
    ∷ says (step.Bind 0 0) (answer.Binding 0 1)
    ∷ says (step.Unbind 0) answer.Stopping
    ∷ says (step.Deliver 0) answer.Started
    ∷ says (step.Deliver 1) answer.Stopping
    ∷ says (step.Quit 0 1) answer.Marker
    ∷ says (step.Deliver 2) answer.Marked
    ∷ says (step.Advance 0) answer.Draining
    ∷ says (step.Reset 0) answer.Resetting
    ∷ refused (step.Advance 0) refusal.Resetting  -- NotYet too
    ∷ says (step.Deliver 3) answer.Reset
    ∷ refused (step.Advance 0) refusal.Resetting
    ∷ says (step.Deliver 4) answer.ResetDone
    ∷ says (step.Advance 0) answer.Released
    -- a draining one whose wait is done
    ∷ says (step.Bind 0 0) (answer.Binding 1 1)
    ∷ says (step.Unbind 1) answer.Stopping
    ∷ says (step.Deliver 5) answer.Started
    ∷ says (step.Deliver 6) answer.Stopping
    ∷ says (step.Quit 0 1) answer.Marker
    ∷ says (step.Deliver 7) answer.Marked
    ∷ says (step.Advance 1) answer.Draining
    ∷ says (step.Pump 0) answer.WaitDone
    ∷ says (step.Reset 0) answer.Resetting
    ∷ refused (step.Advance 1) refusal.Resetting
    ∷ says (step.Deliver 8) answer.Reset
    ∷ says (step.Deliver 9) answer.ResetDone
    ∷ says (step.Advance 1) answer.Released
    -- an invalidating one
    ∷ says (step.Bind 0 0) (answer.Binding 2 1)
    ∷ says (step.Unbind 2) answer.Stopping
    ∷ says (step.Deliver 10) answer.Started
    ∷ says (step.Deliver 11) answer.Stopping
    ∷ says (step.Quit 0 1) answer.Marker
    ∷ says (step.Deliver 12) answer.Marked
    ∷ says (step.Advance 2) answer.Draining
    ∷ says (step.Pump 0) answer.WaitDone
    ∷ says (step.Advance 2) answer.Invalidating
    ∷ says (step.Reset 0) answer.Resetting
    ∷ refused (step.Advance 2) refusal.Resetting  -- NotYet too
    ∷ says (step.Deliver 13) answer.Reset
    ∷ says (step.Deliver 14) answer.ResetDone
    ∷ says (step.Advance 2) answer.Released
    ∷ []

abbrev pub StagesInReset : Type 0
StagesInReset = IsRun (config 1 1 1 0) stages_in_reset 1 0 0

-- pages unmapped while a binding is Stopping, with its marker noted or not, and while it is Draining
abbrev pub unmap_in_each_stage : List Line
unmap_in_each_stage =
    (says step.Space (answer.Space 0)
    ∷ [])
    ++ lines 6 (λ k. says (step.Map 0 (16 + k) false) (answer.Frame k))
    ++ (says (step.Bind 0 0) (answer.Binding 0 1)
    ∷ says (step.Deliver 0) answer.Started
    ∷ says (step.Ask 0 1 16) (answer.Tag 0)
    ∷ says (step.Deliver 1) answer.Completion
    ∷ says (step.Deliver 2) answer.Held
    ∷ says (step.Unbind 0) answer.Stopping
    ∷ says (step.Unmap 0 16 1) (answer.WithheldFrames (0 ∷ []))
    ∷ says (step.Look 0) answer.Withheld
    ∷ says (step.BeginUse 0 1 16 false) (answer.Use 0 0)
    ∷ says (step.EndUse 0 0) answer.Ended
    ∷ says (step.Deliver 3) answer.Stopping
    ∷ says (step.Pump 0) (answer.Itag 0)
    ∷ says (step.Deliver 4) answer.Taken
    ∷ says (step.Finish 0 1 1) (answer.Sent 1)
    ∷ says (step.Deliver 5) (answer.Freed 1)
    ∷ says (step.Look 0) answer.Withheld
    ∷ says (step.Pump 0) answer.WaitDone
    ∷ says (step.Look 0) answer.Free
    ∷ says (step.Quit 0 1) answer.Marker
    ∷ says (step.Deliver 6) answer.Marked
    ∷ says (step.Unmap 0 17 1) (answer.WithheldFrames (1 ∷ []))
    ∷ says (step.Pump 0) (answer.Itag 0)
    ∷ says (step.Deliver 7) answer.Taken
    ∷ says (step.Finish 0 1 1) (answer.Sent 1)
    ∷ says (step.Deliver 8) (answer.Freed 1)
    ∷ says (step.Look 1) answer.Withheld
    ∷ says (step.Pump 0) answer.WaitDone
    ∷ says (step.Look 1) answer.Free
    ∷ says (step.Advance 0) answer.Draining
    ∷ says (step.Unmap 0 18 1) (answer.WithheldFrames (2 ∷ []))
    ∷ says (step.Pump 0) answer.WaitDone
    ∷ says (step.Look 2) answer.Withheld
    ∷ says (step.Pump 0) (answer.Itag 0)
    ∷ says (step.Pump 0) answer.Blocked
    ∷ says (step.Deliver 9) answer.Taken
    ∷ says (step.Finish 0 1 1) (answer.Sent 1)
    ∷ says (step.Deliver 10) (answer.Freed 1)
    ∷ says (step.Look 2) answer.Withheld
    ∷ says (step.Pump 0) answer.WaitDone
    ∷ says (step.Look 2) answer.Free
    ∷ [])

abbrev pub UnmapInEachStage : Type 0
UnmapInEachStage = IsRun (config 1 6 1 0) unmap_in_each_stage 3 3 0

-- a page unmapped while a binding is Stopping at a unit in reset waits for the reset-done; one of a Quiet one waits for nothing
abbrev pub unmap_while_stopping_in_reset : List Line
unmap_while_stopping_in_reset =
    says step.Space (answer.Space 0)
    ∷ says (step.Map 0 16 false) (answer.Frame 0)
    ∷ says (step.Map 0 17 false) (answer.Frame 1)
    ∷ says (step.Bind 0 0) (answer.Binding 0 1)
    ∷ says (step.Unbind 0) answer.Stopping
    ∷ says (step.Reset 0) answer.Resetting
    ∷ says (step.Unmap 0 16 1) (answer.WithheldFrames (0 ∷ []))
    ∷ says (step.Deliver 0) answer.Started
    ∷ says (step.Deliver 1) answer.Stopping
    ∷ says (step.Deliver 2) answer.Reset
    ∷ says (step.Look 0) answer.Withheld
    ∷ says (step.Deliver 3) answer.ResetDone
    ∷ says (step.Look 0) answer.Free
    ∷ says (step.Unmap 0 17 1) (answer.FreeFrames (1 ∷ []))
    ∷ []

abbrev pub UnmapWhileStoppingInReset : Type 0
UnmapWhileStoppingInReset = IsRun (config 1 2 1 0) unmap_while_stopping_in_reset 2 0 0

-- a reset-done answers for what was unmapped before it, and not for what is unmapped after
abbrev pub waits_after_an_early_reset : List Line
waits_after_an_early_reset =
    says step.Space (answer.Space 0)
    ∷ says (step.Map 0 16 false) (answer.Frame 0)
    ∷ says (step.Reset 0) answer.Resetting
    ∷ says (step.Deliver 0) answer.Reset
    ∷ says (step.Deliver 1) answer.ResetDone
    ∷ says (step.Bind 0 0) (answer.Binding 0 1)
    ∷ says (step.Unmap 0 16 1) (answer.WithheldFrames (0 ∷ []))
    ∷ says (step.Look 0) answer.Withheld
    ∷ says (step.Reset 0) answer.Resetting
    ∷ says (step.Deliver 2) answer.Started
    ∷ says (step.Look 0) answer.Withheld
    ∷ says (step.Deliver 3) answer.Reset
    ∷ says (step.Look 0) answer.Withheld
    ∷ says (step.Deliver 4) answer.ResetDone
    ∷ says (step.Look 0) answer.Free
    ∷ []

abbrev pub WaitsAfterAnEarlyReset : Type 0
WaitsAfterAnEarlyReset = IsRun (config 1 1 1 0) waits_after_an_early_reset 1 0 0

-- a reset gives back the page requests that were outstanding
abbrev pub credit_after_a_reset : List Line
credit_after_a_reset =
    (says step.Space (answer.Space 0)
    ∷ says (step.Bind 0 0) (answer.Binding 0 1)
    ∷ says (step.Deliver 0) answer.Started
    ∷ [])
    ++ lines 32 (λ k. says (step.Fault 0 1 16 true false None false) (answer.Group k))
    ++ (refused (step.Fault 0 1 16 true false None false) refusal.NoCredit
    ∷ says (step.Reset 0) answer.Resetting
    ∷ says (step.Deliver 33) answer.Reset
    ∷ [])
    ++ lines 32 (λ k. says (step.Deliver (1 + k)) answer.Dropped)
    ++ (says (step.Deliver 34) answer.ResetDone
    ∷ says (step.Unbind 0) answer.Quiet
    ∷ says (step.Advance 0) answer.Released
    ∷ says (step.Bind 0 0) (answer.Binding 1 1)
    ∷ says (step.Deliver 35) answer.Started
    ∷ says (step.Fault 0 1 16 true false None true) (answer.Group 0)
    ∷ [])

abbrev pub CreditAfterAReset : Type 0
CreditAfterAReset = IsRun (config 1 1 1 0) credit_after_a_reset 1 0 0

-- what was queued, sent, taken and owed when a unit was reset is over: a wait of later is done without it
abbrev pub orders_over_after_a_reset : List Line
orders_over_after_a_reset =
    (says step.Space (answer.Space 0)
    ∷ [])
    ++ lines 4 (λ k. says (step.Map 0 (16 + k) false) (answer.Frame k))
    ++ (says (step.Bind 0 0) (answer.Binding 0 1)
    ∷ says (step.Unmap 0 16 4) (answer.WithheldFrames (0 ∷ 1 ∷ 2 ∷ 3 ∷ []))
    ∷ says (step.Pump 0) (answer.Itag 0)
    ∷ says (step.Pump 0) (answer.Itag 1)
    ∷ says (step.Pump 0) (answer.Itag 2)
    ∷ says (step.Deliver 1) answer.Taken
    ∷ says (step.Deliver 2) answer.Taken
    ∷ says (step.Finish 0 1 1) (answer.Sent 1)
    ∷ says (step.Reset 0) answer.Resetting
    ∷ says (step.Deliver 0) answer.Started
    ∷ refused (step.Deliver 5) refusal.Overtakes
    ∷ says (step.Deliver 3) answer.Taken
    ∷ says (step.Deliver 5) answer.Reset
    ∷ refused (step.Finish 0 2 1) refusal.NotPending
    ∷ refused (step.Deliver 6) refusal.Overtakes
    ∷ says (step.Deliver 4) answer.Dropped
    ∷ says (step.Deliver 6) answer.ResetDone
    ∷ says (step.Pump 0) answer.Idle
    ∷ says (step.Unbind 0) answer.Quiet
    ∷ says (step.Advance 0) answer.Released
    ∷ says (step.Bind 0 0) (answer.Binding 1 1)
    ∷ says (step.Map 0 16 false) (answer.Frame 0)
    ∷ says (step.Unmap 0 16 1) (answer.WithheldFrames (0 ∷ []))
    ∷ says (step.Pump 0) (answer.Itag 0)
    ∷ says (step.Deliver 8) answer.Taken
    ∷ says (step.Finish 0 1 1) (answer.Sent 1)
    ∷ says (step.Deliver 9) (answer.Freed 1)
    ∷ says (step.Pump 0) answer.WaitDone
    ∷ says (step.Look 0) answer.Free
    ∷ [])

abbrev pub OrdersOverAfterAReset : Type 0
OrdersOverAfterAReset = IsRun (config 1 4 1 0) orders_over_after_a_reset 4 0 0

-- labels come back at a unit in reset too, before the endpoint's own reset: of an answered request, and of an answered group
abbrev pub labels_back_in_reset : List Line
labels_back_in_reset =
    says step.Space (answer.Space 0)
    ∷ says (step.Map 0 16 false) (answer.Frame 0)
    ∷ says (step.Bind 0 0) (answer.Binding 0 1)
    ∷ says (step.Deliver 0) answer.Started
    ∷ says (step.Ask 0 1 16) (answer.Tag 0)
    ∷ says (step.Ask 0 1 17) (answer.Tag 1)
    ∷ says (step.Fault 0 1 18 true false None true) (answer.Group 0)
    ∷ says (step.Deliver 1) answer.Completion
    ∷ says (step.Deliver 2) answer.Completion
    ∷ says (step.Deliver 3) answer.Queued
    ∷ says (step.Serve 0) answer.Job
    ∷ says (step.Take 0) (answer.JobTaken 0 0 1)
    ∷ says (step.Reply 0 verdict.Invalid) answer.Invalid
    ∷ says (step.Ask 0 1 19) (answer.Tag 2)
    ∷ says (step.Reset 0) answer.Resetting
    ∷ says (step.Deliver 5) answer.NoTranslation
    ∷ says (step.Deliver 4) answer.Held
    ∷ says (step.Ask 0 1 20) (answer.Tag 0)
    ∷ says (step.Ask 0 1 20) (answer.Tag 1)
    ∷ says (step.Ask 0 1 20) (answer.Tag 3)
    ∷ says (step.Fault 0 1 21 true false None true) (answer.Group 1)
    ∷ says (step.Deliver 6) answer.Answered
    ∷ says (step.Fault 0 1 22 true false None true) (answer.Group 0)
    ∷ []

abbrev pub LabelsBackInReset : Type 0
LabelsBackInReset = IsRun (config 1 1 1 0) labels_back_in_reset 0 1 0

-- a unit is in reset, and its endpoint goes on until it resets itself: what it holds may be evicted until then
abbrev pub evict_in_reset : List Line
evict_in_reset =
    says step.Space (answer.Space 0)
    ∷ says (step.Map 0 16 false) (answer.Frame 0)
    ∷ says (step.Map 0 17 false) (answer.Frame 1)
    ∷ says (step.Bind 0 0) (answer.Binding 0 1)
    ∷ says (step.Deliver 0) answer.Started
    ∷ says (step.Ask 0 1 16) (answer.Tag 0)
    ∷ says (step.Ask 0 1 17) (answer.Tag 1)
    ∷ says (step.Deliver 1) answer.Completion
    ∷ says (step.Deliver 2) answer.Completion
    ∷ says (step.Deliver 3) answer.Held
    ∷ says (step.Deliver 4) answer.Held
    ∷ says (step.Reset 0) answer.Resetting
    ∷ says (step.Evict 0 1 16) answer.Evicted
    ∷ refused (step.Evict 0 1 16) refusal.NotHeld
    ∷ says (step.BeginUse 0 1 17 false) (answer.Use 0 1)
    ∷ says (step.Deliver 5) answer.Reset
    ∷ refused (step.Evict 0 1 17) refusal.NotHeld
    ∷ says (step.EndUse 0 0) answer.Dead
    ∷ []

abbrev pub EvictInReset : Type 0
EvictInReset = IsRun (config 1 2 1 0) evict_in_reset 0 2 0
