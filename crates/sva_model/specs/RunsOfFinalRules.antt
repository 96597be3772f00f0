-- Runs that are worked out: ranges of pages that are taken out and invalidated together, and one PASID for each space over all
-- endpoints.
use Rattle.std.specs.Prelude.{true, false, List, [], ◌∷◌}
use Rattle.sva_step.specs.declared.answers.Answer.TheVariants as answer
use Rattle.sva_step.specs.declared.refusals.Refusal.TheVariants as refusal
use Rattle.sva_step.specs.declared.steps.Step.TheVariants as step
use Rattle.sva_model.specs.Runs.{Line, says, refused, IsRun, config}

-- two pages of a range of eight go, and a page past it stays; the range has one invalidation
abbrev pub range_of_eight : List Line
range_of_eight =
    says step.Space (answer.Space 0)
    ∷ says (step.Map 0 64 false) (answer.Frame 0)
    ∷ says (step.Map 0 70 false) (answer.Frame 1)
    ∷ says (step.Map 0 72 false) (answer.Frame 2)
    ∷ says (step.Bind 0 0) (answer.Binding 0 1)
    ∷ says (step.Deliver 0) answer.Started
    ∷ says (step.Ask 0 1 70) (answer.Tag 0)
    ∷ says (step.Deliver 1) answer.Completion
    ∷ says (step.Deliver 2) answer.Held
    ∷ says (step.Ask 0 1 72) (answer.Tag 0)
    ∷ says (step.Deliver 3) answer.Completion
    ∷ says (step.Deliver 4) answer.Held
    ∷ refused (step.UnmapRange 0 66 2) refusal.NotAligned
    ∷ refused (step.UnmapRange 0 64 10) refusal.BadOrder
    ∷ refused (step.UnmapRange 0 80 4) refusal.NothingMapped
    ∷ says (step.UnmapRange 0 64 3) (answer.RangeWithheld 2)
    ∷ says (step.Pump 0) (answer.Itag 0)
    ∷ says (step.Deliver 5) answer.Taken
    ∷ refused (step.BeginUse 0 1 70 false) refusal.NotHeld
    ∷ says (step.BeginUse 0 1 72 false) (answer.Use 0 2)
    ∷ says (step.Finish 0 1 1) (answer.Sent 1)
    ∷ says (step.Deliver 6) (answer.Freed 1)
    ∷ says (step.Pump 0) answer.WaitDone
    ∷ []

abbrev pub RangeOfEight : Type 0
RangeOfEight = IsRun (config 1 8 1 0) range_of_eight 7 1 0

-- while nothing is bound the frames of a range are free at once; its causes in their order
abbrev pub causes_of_unmap_range : List Line
causes_of_unmap_range =
    says step.Space (answer.Space 0)
    ∷ says (step.Map 0 4 true) (answer.Frame 0)
    ∷ says (step.Map 0 7 true) (answer.Frame 1)
    ∷ refused (step.UnmapRange 1 68719476735 10) refusal.NoSuchSpace
    ∷ refused (step.UnmapRange 0 68719476735 10) refusal.BadOrder
    ∷ refused (step.UnmapRange 0 68719476735 1) refusal.PageRange
    ∷ refused (step.UnmapRange 0 9 1) refusal.NotAligned
    ∷ refused (step.UnmapRange 0 8 1) refusal.NothingMapped
    ∷ says (step.UnmapRange 0 4 2) (answer.RangeFree 2)
    ∷ refused (step.UnmapRange 0 4 2) refusal.NothingMapped
    ∷ []

abbrev pub CausesOfUnmapRange : Type 0
CausesOfUnmapRange = IsRun (config 1 2 1 0) causes_of_unmap_range 2 0 0

-- two spaces at two endpoints: a space has its PASID at both, until the last of its bindings is released
abbrev pub one_pasid_for_each_space : List Line
one_pasid_for_each_space =
    says step.Space (answer.Space 0)
    ∷ says step.Space (answer.Space 1)
    ∷ says (step.Bind 0 0) (answer.Binding 0 1)
    ∷ says (step.Bind 1 1) (answer.Binding 1 2)
    ∷ says (step.Bind 1 0) (answer.Binding 2 1)
    ∷ says (step.Bearer 1) (answer.Bearer 0 2)
    ∷ says (step.Reset 0) answer.Resetting
    ∷ says (step.Deliver 0) answer.Started
    ∷ says (step.Deliver 3) answer.Reset
    ∷ says (step.Deliver 4) answer.ResetDone
    ∷ says (step.Unbind 0) answer.Quiet
    ∷ says (step.Advance 0) answer.Released
    ∷ says (step.Bearer 1) (answer.Bearer 0 1)
    ∷ says step.Space (answer.Space 2)
    ∷ says (step.Bind 0 2) (answer.Binding 3 3)
    ∷ says (step.Bearer 4) answer.NoBearer
    ∷ refused (step.Bearer 0) refusal.BadPasid
    ∷ refused (step.Bearer 33) refusal.BadPasid
    ∷ says (step.Bind 0 0) (answer.Binding 4 1)
    ∷ []

abbrev pub OnePasidForEachSpace : Type 0
OnePasidForEachSpace = IsRun (config 2 4 1 0) one_pasid_for_each_space 4 0 0

-- of a space's two bindings one is released: its PASID isn't given to another space, and comes to it again at the same endpoint
abbrev pub first_release_of_two : List Line
first_release_of_two =
    says step.Space (answer.Space 0)
    ∷ says step.Space (answer.Space 1)
    ∷ says (step.Bind 0 0) (answer.Binding 0 1)
    ∷ says (step.Bind 1 1) (answer.Binding 1 2)
    ∷ says (step.Bind 1 0) (answer.Binding 2 1)
    ∷ says (step.Bearer 1) (answer.Bearer 0 2)
    ∷ says (step.Reset 0) answer.Resetting
    ∷ says (step.Deliver 0) answer.Started
    ∷ says (step.Deliver 3) answer.Reset
    ∷ says (step.Deliver 4) answer.ResetDone
    ∷ says (step.Unbind 0) answer.Quiet
    ∷ says (step.Advance 0) answer.Released
    ∷ says (step.Bearer 1) (answer.Bearer 0 1)
    ∷ says step.Space (answer.Space 2)
    ∷ says (step.Bind 0 2) (answer.Binding 3 3)
    ∷ says (step.Bearer 4) answer.NoBearer
    ∷ refused (step.Bearer 0) refusal.BadPasid
    ∷ says (step.Bind 0 0) (answer.Binding 4 1)
    ∷ []

abbrev pub FirstReleaseOfTwo : Type 0
FirstReleaseOfTwo = IsRun (config 2 4 1 0) first_release_of_two 4 0 0
