-- Runs that are worked out: invalidations, their tags and completions, and bindings that are taken back.
use Rattle.std.specs.Prelude.{◌+◌, false, List, [], ◌∷◌, ◌++◌}
use Rattle.sva_step.specs.declared.answers.Answer.TheVariants as answer
use Rattle.sva_step.specs.declared.refusals.Refusal.TheVariants as refusal
use Rattle.sva_step.specs.declared.steps.Step.TheVariants as step
use Rattle.sva_model.specs.Runs.{Line, says, refused, lines, IsRun, config}

-- eight completions for one invalidation: the count field is 0
abbrev pub count_of_eight : List Line
count_of_eight =
    (says (step.Space) (answer.Space 0)
    ∷ says (step.Map 0 16 false) (answer.Frame 0)
    ∷ says (step.Bind 0 0) (answer.Binding 0 1)
    ∷ says (step.Deliver 0) (answer.Started)
    ∷ says (step.Unmap 0 16 1) (answer.WithheldFrames (0 ∷ []))
    ∷ says (step.Pump 0) (answer.Itag 0)
    ∷ says (step.Deliver 1) (answer.Taken)
    ∷ refused (step.Finish 0 1 0) refusal.BadCount
    ∷ refused (step.Finish 0 1 9) refusal.BadCount
    ∷ says (step.Finish 0 1 8) (answer.Sent 8)
    ∷ [])
    ++ lines 7 (λ k. says (step.Deliver (2 + k)) (answer.Freed 0))
    ++ (says (step.Pump 0) (answer.Blocked)
    ∷ says (step.Deliver 9) (answer.Freed 1)
    ∷ says (step.Pump 0) (answer.WaitDone)
    ∷ [])

abbrev pub CountOfEight : Type 0
CountOfEight = IsRun (config 1 4 1 0) count_of_eight 4 0 0

-- one completion names several ITags
abbrev pub one_vector_for_three : List Line
one_vector_for_three =
    (says (step.Space) (answer.Space 0)
    ∷ [])
    ++ lines 4 (λ k. says (step.Map 0 (16 + k) false) (answer.Frame k))
    ++ (says (step.Bind 0 0) (answer.Binding 0 1)
    ∷ says (step.Deliver 0) (answer.Started)
    ∷ says (step.Unmap 0 16 4) (answer.WithheldFrames (0 ∷ 1 ∷ 2 ∷ 3 ∷ []))
    ∷ [])
    ++ lines 4 (λ k. says (step.Pump 0) (answer.Itag k))
    ++ (says (step.Deliver 1) (answer.Taken)
    ∷ says (step.Deliver 2) (answer.Taken)
    ∷ says (step.Deliver 4) (answer.Taken)
    ∷ says (step.Finish 0 11 2) (answer.Sent 2)
    ∷ says (step.Deliver 6) (answer.Freed 0)
    ∷ says (step.Deliver 5) (answer.Freed 3)
    ∷ says (step.Pump 0) (answer.Blocked)
    ∷ [])

abbrev pub OneVectorForThree : Type 0
OneVectorForThree = IsRun (config 1 64 1 0) one_vector_for_three 60 0 4

-- thirty-two ITags are busy, and one comes back
abbrev pub all_tags_busy : List Line
all_tags_busy =
    (says (step.Space) (answer.Space 0)
    ∷ [])
    ++ lines 40 (λ k. says (step.Map 0 (16 + k) false) (answer.Frame k))
    ++ (says (step.Bind 0 0) (answer.Binding 0 1)
    ∷ says (step.Deliver 0) (answer.Started)
    ∷ says (step.Unmap 0 16 40)
    (answer.WithheldFrames (0 ∷ 1 ∷ 2 ∷ 3 ∷ 4 ∷ 5 ∷ 6 ∷ 7 ∷ 8 ∷ 9 ∷ 10 ∷ 11 ∷ 12 ∷ 13 ∷ 14 ∷ 15 ∷ 16 ∷ 17 ∷ 18 ∷ 19 ∷ 20 ∷ 21 ∷ 22 ∷ 23 ∷ 24 ∷ 25
    ∷ 26 ∷ 27 ∷ 28 ∷ 29 ∷ 30 ∷ 31 ∷ 32 ∷ 33 ∷ 34 ∷ 35 ∷ 36 ∷ 37 ∷ 38 ∷ 39 ∷ []))
    ∷ [])
    ++ lines 32 (λ k. says (step.Pump 0) (answer.Itag k))
    ++ (says (step.Pump 0) (answer.Blocked)
    ∷ says (step.Deliver 1) (answer.Taken)
    ∷ says (step.Finish 0 1 1) (answer.Sent 1)
    ∷ says (step.Deliver 33) (answer.Freed 1)
    ∷ says (step.Pump 0) (answer.Itag 0)
    ∷ [])

abbrev pub AllTagsBusy : Type 0
AllTagsBusy = IsRun (config 1 64 1 0) all_tags_busy 24 0 40

-- a binding is taken back stage by stage
abbrev pub unbind_stage_by_stage : List Line
unbind_stage_by_stage =
    says (step.Space) (answer.Space 0)
    ∷ says (step.Map 0 16 false) (answer.Frame 0)
    ∷ says (step.Bind 0 0) (answer.Binding 0 1)
    ∷ says (step.Deliver 0) (answer.Started)
    ∷ says (step.Ask 0 1 16) (answer.Tag 0)
    ∷ says (step.Unbind 0) (answer.Stopping)
    ∷ says (step.Deliver 2) (answer.Stopping)
    ∷ refused (step.Quit 0 1) refusal.Busy
    ∷ says (step.Deliver 1) (answer.Completion)
    ∷ says (step.Deliver 3) (answer.NoTranslation)
    ∷ says (step.Quit 0 1) (answer.Marker)
    ∷ refused (step.Advance 0) refusal.NotYet
    ∷ says (step.Deliver 4) (answer.Marked)
    ∷ says (step.Advance 0) (answer.Draining)
    ∷ refused (step.Advance 0) refusal.NotYet
    ∷ says (step.Pump 0) (answer.WaitDone)
    ∷ says (step.Advance 0) (answer.Invalidating)
    ∷ says (step.Pump 0) (answer.Itag 0)
    ∷ says (step.Deliver 5) (answer.Taken)
    ∷ refused (step.Advance 0) refusal.NotYet
    ∷ says (step.Finish 0 1 1) (answer.Sent 1)
    ∷ says (step.Deliver 6) (answer.Freed 1)
    ∷ says (step.Pump 0) (answer.WaitDone)
    ∷ says (step.Advance 0) (answer.Quiet)
    ∷ refused (step.DropSpace 0) refusal.StillBound
    ∷ says (step.Advance 0) (answer.Released)
    ∷ refused (step.Advance 0) refusal.NoSuchBinding
    ∷ says (step.DropSpace 0) (answer.Gone)
    ∷ []

abbrev pub UnbindStageByStage : Type 0
UnbindStageByStage = IsRun (config 1 4 1 0) unbind_stage_by_stage 4 0 0

-- pages unmapped while the PASID is invalidated join its wait
abbrev pub unmap_while_invalidating : List Line
unmap_while_invalidating =
    says (step.Space) (answer.Space 0)
    ∷ says (step.Map 0 16 false) (answer.Frame 0)
    ∷ says (step.Bind 0 0) (answer.Binding 0 1)
    ∷ says (step.Deliver 0) (answer.Started)
    ∷ says (step.Unbind 0) (answer.Stopping)
    ∷ says (step.Deliver 1) (answer.Stopping)
    ∷ says (step.Quit 0 1) (answer.Marker)
    ∷ says (step.Deliver 2) (answer.Marked)
    ∷ says (step.Advance 0) (answer.Draining)
    ∷ says (step.Pump 0) (answer.WaitDone)
    ∷ says (step.Advance 0) (answer.Invalidating)
    ∷ says (step.Unmap 0 16 1) (answer.WithheldFrames (0 ∷ []))
    ∷ says (step.Pump 0) (answer.Itag 0)
    ∷ says (step.Pump 0) (answer.Blocked)
    ∷ says (step.Deliver 3) (answer.Taken)
    ∷ says (step.Finish 0 1 1) (answer.Sent 1)
    ∷ says (step.Deliver 4) (answer.Freed 1)
    ∷ says (step.Pump 0) (answer.WaitDone)
    ∷ says (step.Look 0) (answer.Free)
    ∷ says (step.Pump 0) (answer.Idle)
    ∷ says (step.Advance 0) (answer.Quiet)
    ∷ says (step.Advance 0) (answer.Released)
    ∷ says (step.Bind 0 0) (answer.Binding 1 1)
    ∷ []

abbrev pub UnmapWhileInvalidating : Type 0
UnmapWhileInvalidating = IsRun (config 1 4 1 0) unmap_while_invalidating 4 0 0
