-- What a binding does next on its way out, where nothing refuses it.
use Rattle.std.specs.Prelude.{◌≡◌, ℕ, Bool, true, false, ◌&&◌, ◌||◌, not, Option, Some, None, Result, List, [], ◌∷◌}
use Rattle.sva_step.specs.declared.refusals.Refusal.{Refusal}
use Rattle.sva_step.specs.declared.refusals.Refusal.TheVariants as refusal
use Rattle.sva_step.specs.declared.steps.Step.TheVariants as step
use Rattle.sva_model.specs.Steps.{Reply}
use Rattle.sva_model.specs.Wire.{Wire, BindingWire, UnitWire, StageWire}
use Rattle.sva_model.specs.Wire.StageWire.{StoppingWire, DrainingWire, InvalidatingWire, QuietWire}
use Rattle.sva_labels.specs.Finding.{unit_of, is_wait_done, has_room, binding_of}
use Rattle.sva_labels.specs.Causes as causes
use Rattle.sva_labels.specs.Causes.{resetting, numbers_spent}
use Rattle.sva_labels.specs.Host.{Decision, checked}
use Rattle.sva_labels.specs.Outcomes.{result_of}
use Rattle.sva_model.specs.Refusals.{Cause, unless_refused}
use Rattle.sva_host_state.specs.Steps.{Does}
use Rattle.sva_host_state.specs.declared.advancing.Course.{Course}
use Rattle.sva_host_state.specs.declared.advancing.Course.TheVariants.{Drain, Invalidate, Settle, Release}

-- by its stage: its unit drains (Intel VT-d, "Page Request Drain"), invalidates its PASID, then it is Quiet, then released. A Live and a
-- Lost one are refused, so nothing is meant by what stands for them.
abbrev pub course_by : BindingWire → StageWire → Course
course_by binding (StoppingWire marked) = Drain binding.endpoint
course_by binding (DrainingWire cookie) = Invalidate binding.endpoint binding.pasid
course_by binding (InvalidatingWire cookie) = Settle binding.endpoint
course_by binding stage = Release

-- one that isn't there is refused
abbrev pub course_of : Option BindingWire → Course
course_of None = Release
course_of (Some binding) = course_by binding binding.stage

-- Whether a group of the binding is open is told: a host keeps no groups. It holds up a binding whose page requests are drained.

-- what refuses the advance at a stage
abbrev pub advance_by : Wire → (groups_open : Bool) → BindingWire → StageWire → List Cause
advance_by world groups_open binding (DrainingWire cookie) =
    resetting world binding.endpoint
    ∷ (not (is_wait_done (unit_of world binding.endpoint) cookie) || groups_open, refusal.NotYet)
    ∷ (not (has_room (unit_of world binding.endpoint) 2), refusal.QueueFull)
    ∷ numbers_spent world.next_cookie 1
    ∷ []
advance_by world groups_open binding stage = causes.advance_by world binding stage

-- one that isn't there is refused
abbrev pub advance_causes : Wire → (groups_open : Bool) → Option BindingWire → List Cause
advance_causes world groups_open None = (true, refusal.NoSuchBinding) ∷ []
advance_causes world groups_open (Some binding) = advance_by world groups_open binding binding.stage

-- what refuses it: the first of its causes that holds, if one does
abbrev pub MayAdvance : Wire → (groups_open : Bool) → (binding : ℕ) → Result Course Refusal → Type 0
MayAdvance world groups_open binding result =
    result ≡ unless_refused (advance_causes world groups_open (binding_of world binding)) (course_of (binding_of world binding))

-- what the step answers and moves
abbrev pub decide_advance : Wire → (groups_open : Bool) → (binding : ℕ) → Decision
decide_advance world groups_open binding =
    checked (advance_causes world groups_open (binding_of world binding)) (result_of world (step.Advance binding))

-- the step by labels, where a group of the binding is open or none is
abbrev pub AdvancesBy : Wire → (groups_open : Bool) → (binding : ℕ) → Reply → Wire → Type 0
AdvancesBy before groups_open binding result after = Does (decide_advance before groups_open binding) before result after

-- does the endpoint hold nothing of the binding any more, so that its PASID can be given back?
abbrev pub is_quiet : StageWire → Bool
is_quiet QuietWire = true
is_quiet _ = false

-- has come what it waits for? Who is in use, and who was cut off, waits for an unbinding
abbrev pub is_due : UnitWire → (groups_open : Bool) → StageWire → Bool
is_due unit groups_open (StoppingWire marked) = marked
is_due unit groups_open (DrainingWire cookie) = is_wait_done unit cookie && not groups_open
is_due unit groups_open (InvalidatingWire cookie) = is_wait_done unit cookie
is_due unit groups_open QuietWire = true
is_due unit groups_open stage = false

-- how many descriptors its unit gets: a wait with drain; an invalidation and a wait
abbrev pub descriptors_of : StageWire → ℕ
descriptors_of (StoppingWire marked) = 1
descriptors_of (DrainingWire cookie) = 2
descriptors_of stage = 0
