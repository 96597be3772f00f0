-- Runs that are worked out: spaces, bindings, translations, and pages unmapped while they are in use.
use Rattle.std.specs.Prelude.{true, false, List, [], ◌∷◌}
use Rattle.sva_step.specs.declared.answers.Answer.TheVariants as answer
use Rattle.sva_step.specs.declared.refusals.Refusal.TheVariants as refusal
use Rattle.sva_step.specs.declared.steps.Step.TheVariants as step
use Rattle.sva_model.specs.Runs.{Line, says, refused, IsRun, config}

-- a page is mapped, unmapped and mapped again while nothing is bound
abbrev pub spaces_and_frames : List Line
spaces_and_frames =
    says (step.Space) (answer.Space 0)
    ∷ says (step.Map 0 16 true) (answer.Frame 0)
    ∷ says (step.Unmap 0 16 1) (answer.FreeFrames (0 ∷ []))
    ∷ says (step.Map 0 16 false) (answer.Frame 0)
    ∷ []

abbrev pub SpacesAndFrames : Type 0
SpacesAndFrames = IsRun (config 1 4 1 0) spaces_and_frames 3 1 0

-- pages of one space, mapped and unmapped together
abbrev pub pages_of_a_space : List Line
pages_of_a_space =
    says (step.Space) (answer.Space 0)
    ∷ says (step.Map 0 16 true) (answer.Frame 0)
    ∷ refused (step.Map 0 16 false) refusal.Mapped
    ∷ says (step.Map 0 17 false) (answer.Frame 1)
    ∷ refused (step.Unmap 0 16 3) refusal.NotMapped
    ∷ says (step.Unmap 0 16 2) (answer.FreeFrames (0 ∷ 1 ∷ []))
    ∷ refused (step.Map 1 16 false) refusal.NoSuchSpace
    ∷ says (step.Map 0 16 false) (answer.Frame 0)
    ∷ []

abbrev pub PagesOfASpace : Type 0
PagesOfASpace = IsRun (config 1 4 1 0) pages_of_a_space 3 1 0

-- two bindings of one endpoint, whose starts arrive in order
abbrev pub two_bindings : List Line
two_bindings =
    says (step.Space) (answer.Space 0)
    ∷ says (step.Space) (answer.Space 1)
    ∷ says (step.Bind 0 0) (answer.Binding 0 1)
    ∷ says (step.Bind 0 1) (answer.Binding 1 2)
    ∷ refused (step.Bind 0 1) refusal.AlreadyBound
    ∷ refused (step.Deliver 1) refusal.Overtakes
    ∷ says (step.Deliver 0) (answer.Started)
    ∷ says (step.Deliver 1) (answer.Started)
    ∷ refused (step.Deliver 1) refusal.NoSuchMessage
    ∷ refused (step.DropSpace 0) refusal.StillBound
    ∷ []

abbrev pub TwoBindings : Type 0
TwoBindings = IsRun (config 1 4 1 0) two_bindings 4 0 0

-- a space is taken away with its pages
abbrev pub drop_of_a_space : List Line
drop_of_a_space =
    says (step.Space) (answer.Space 0)
    ∷ says (step.Map 0 16 true) (answer.Frame 0)
    ∷ says (step.Map 0 17 false) (answer.Frame 1)
    ∷ says (step.Look 0) (answer.Mapped)
    ∷ refused (step.Look 4) refusal.NoFrame
    ∷ says (step.DropSpace 0) (answer.Gone)
    ∷ says (step.Look 1) (answer.Free)
    ∷ refused (step.Map 0 16 false) refusal.NoSuchSpace
    ∷ []

abbrev pub DropOfASpace : Type 0
DropOfASpace = IsRun (config 1 4 1 0) drop_of_a_space 4 0 0

-- translations with and without a page
abbrev pub translations : List Line
translations =
    says (step.Space) (answer.Space 0)
    ∷ says (step.Map 0 16 false) (answer.Frame 0)
    ∷ says (step.Bind 0 0) (answer.Binding 0 1)
    ∷ refused (step.Ask 0 1 16) refusal.NotStarted
    ∷ says (step.Deliver 0) (answer.Started)
    ∷ says (step.Ask 0 1 16) (answer.Tag 0)
    ∷ says (step.Ask 0 1 17) (answer.Tag 1)
    ∷ says (step.Deliver 2) (answer.Completion)
    ∷ says (step.Deliver 1) (answer.Completion)
    ∷ says (step.Deliver 3) (answer.NoTranslation)
    ∷ says (step.Deliver 4) (answer.Held)
    ∷ refused (step.BeginUse 0 1 17 false) refusal.NotHeld
    ∷ refused (step.BeginUse 0 1 16 true) refusal.ReadOnly
    ∷ says (step.BeginUse 0 1 16 false) (answer.Use 0 0)
    ∷ says (step.Evict 0 1 16) (answer.Evicted)
    ∷ refused (step.BeginUse 0 1 16 false) refusal.NotHeld
    ∷ says (step.EndUse 0 0) (answer.Ended)
    ∷ refused (step.EndUse 0 0) refusal.NoSuchUse
    ∷ []

abbrev pub Translations : Type 0
Translations = IsRun (config 1 4 1 0) translations 3 1 0

-- a translation is asked for, cached and used; its page is unmapped while the use runs
abbrev pub first_translation : List Line
first_translation =
    says (step.Space) (answer.Space 0)
    ∷ says (step.Map 0 16 true) (answer.Frame 0)
    ∷ says (step.Bind 0 0) (answer.Binding 0 1)
    ∷ says (step.Deliver 0) (answer.Started)
    ∷ says (step.Ask 0 1 16) (answer.Tag 0)
    ∷ says (step.Deliver 1) (answer.Completion)
    ∷ says (step.Deliver 2) (answer.Held)
    ∷ says (step.BeginUse 0 1 16 true) (answer.Use 0 0)
    ∷ says (step.Unmap 0 16 1) (answer.WithheldFrames (0 ∷ []))
    ∷ says (step.Pump 0) (answer.Itag 0)
    ∷ says (step.Deliver 3) (answer.Taken)
    ∷ []

abbrev pub FirstTranslation : Type 0
FirstTranslation = IsRun (config 1 4 1 0) first_translation 3 0 1

-- the same, until the use has ended: the completion waits for it, and the frame for the completion
abbrev pub held_back_by_a_use : List Line
held_back_by_a_use =
    says (step.Space) (answer.Space 0)
    ∷ says (step.Map 0 16 true) (answer.Frame 0)
    ∷ says (step.Bind 0 0) (answer.Binding 0 1)
    ∷ says (step.Deliver 0) (answer.Started)
    ∷ says (step.Ask 0 1 16) (answer.Tag 0)
    ∷ says (step.Deliver 1) (answer.Completion)
    ∷ says (step.Deliver 2) (answer.Held)
    ∷ says (step.BeginUse 0 1 16 true) (answer.Use 0 0)
    ∷ says (step.Unmap 0 16 1) (answer.WithheldFrames (0 ∷ []))
    ∷ says (step.Pump 0) (answer.Itag 0)
    ∷ says (step.Deliver 3) (answer.Taken)
    ∷ refused (step.Finish 0 1 1) refusal.InUse
    ∷ says (step.EndUse 0 0) (answer.Ended)
    ∷ says (step.Finish 0 1 1) (answer.Sent 1)
    ∷ says (step.Pump 0) (answer.Blocked)
    ∷ says (step.Deliver 4) (answer.Freed 1)
    ∷ says (step.Pump 0) (answer.WaitDone)
    ∷ says (step.Map 0 16 true) (answer.Frame 0)
    ∷ []

abbrev pub HeldBackByAUse : Type 0
HeldBackByAUse = IsRun (config 1 4 1 0) held_back_by_a_use 3 1 0

-- an answer that was under way when its page was invalidated is thrown away
abbrev pub late_answer : List Line
late_answer =
    says (step.Space) (answer.Space 0)
    ∷ says (step.Map 0 16 false) (answer.Frame 0)
    ∷ says (step.Bind 0 0) (answer.Binding 0 1)
    ∷ says (step.Deliver 0) (answer.Started)
    ∷ says (step.Ask 0 1 16) (answer.Tag 0)
    ∷ says (step.Deliver 1) (answer.Completion)
    ∷ says (step.Unmap 0 16 1) (answer.WithheldFrames (0 ∷ []))
    ∷ says (step.Pump 0) (answer.Itag 0)
    ∷ says (step.Deliver 3) (answer.Taken)
    ∷ says (step.Finish 0 1 1) (answer.Sent 1)
    ∷ says (step.Deliver 4) (answer.Freed 1)
    ∷ says (step.Pump 0) (answer.WaitDone)
    ∷ says (step.Look 0) (answer.Free)
    ∷ says (step.Deliver 2) (answer.Dropped)
    ∷ refused (step.BeginUse 0 1 16 false) refusal.NotHeld
    ∷ []

abbrev pub LateAnswer : Type 0
LateAnswer = IsRun (config 1 4 1 0) late_answer 4 0 0

-- an older answer comes in place of a newer one: its frame is withheld
abbrev pub answers_crossed : List Line
answers_crossed =
    says (step.Space) (answer.Space 0)
    ∷ says (step.Map 0 16 true) (answer.Frame 0)
    ∷ says (step.Bind 0 0) (answer.Binding 0 1)
    ∷ says (step.Deliver 0) (answer.Started)
    ∷ says (step.Ask 0 1 16) (answer.Tag 0)
    ∷ says (step.Deliver 1) (answer.Completion)
    ∷ says (step.Unmap 0 16 1) (answer.WithheldFrames (0 ∷ []))
    ∷ says (step.Map 0 16 true) (answer.Frame 1)
    ∷ says (step.Ask 0 1 16) (answer.Tag 1)
    ∷ says (step.Deliver 3) (answer.Completion)
    ∷ says (step.Deliver 4) (answer.Held)
    ∷ says (step.Deliver 2) (answer.Held)
    ∷ says (step.BeginUse 0 1 16 true) (answer.Use 0 0)
    ∷ says (step.Look 0) (answer.Withheld)
    ∷ []

abbrev pub AnswersCrossed : Type 0
AnswersCrossed = IsRun (config 1 4 1 0) answers_crossed 2 1 1
