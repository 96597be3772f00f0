-- The plan of an unmapping: what it asks of the units, and what its frames wait for; and what the units get.
use Rattle.std.specs.Prelude.{◌≡◌, ℕ, ◌+◌, ◌<◌, ◌≤◌, Bool, false, ◌&&◌, not, nat_lt, if◌then◌else◌, Option, Some, None}
use Rattle.std.specs.Prelude.{List, [], ◌∷◌, length, Result, Ok, Err}
use Rattle.sva_step.specs.declared.refusals.Refusal.{Refusal}
use Rattle.sva_model.specs.Refusals.{Cause}
use Rattle.sva_model.specs.Words.{any_below, count_below, tabulate}
use Rattle.sva_model.specs.Wire.{Wire, EndpointWire, TargetWire}
use Rattle.sva_labels.specs.Finding.{submits, has_room, unit_of, part_of, bound_at}
use Rattle.sva_labels.specs.Causes.{queue_full, numbers_spent, waits_needed}
use Rattle.sva_labels.specs.Moves.{part_unmapped, target_by, cookie_at, pasid_or_0}
use Rattle.sva_address_spaces.specs.Pieces.{verdict}
use Rattle.sva_address_spaces.specs.Seen.{targets_seen}
use Rattle.sva_host_state.specs.declared.unmapping.Plan.{Plan}

-- the PASID under which the unit of an endpoint gets descriptors where pages of the space are taken out, if it gets some
abbrev pub pasid_at : Wire → (space endpoint : ℕ) → Option ℕ
pasid_at world space endpoint = if submits world space endpoint then Some (pasid_or_0 (bound_at world endpoint space)) else None

-- what the frames wait for there
abbrev pub target_at : Wire → (space endpoint : ℕ) → Option TargetWire
target_at world space endpoint = target_by (unit_of world endpoint) (cookie_at world space endpoint) (bound_at world endpoint space)

-- the unit gets descriptors, and lacks the room for so many
abbrev pub lacks_room : Wire → (space descriptors endpoint : ℕ) → Bool
lacks_room world space descriptors endpoint = submits world space endpoint && not (has_room (unit_of world endpoint) descriptors)

-- a table of the eight units that there may be: what stands at the first so many of them, and nothing at the others
abbrev pub of_first : {A : Type 0} → (units : ℕ) → (ℕ → Option A) → List (Option A)
of_first units at = tabulate 8 (λ endpoint. if nat_lt endpoint units then at endpoint else None)

-- The plan, as far as the first so many units were asked: each of these that gets descriptors has room for so many.
pub record IsPlanned (world : Wire) (space descriptors units : ℕ) (plan : Plan) : Type 0 where
  pub pasids : plan.pasids ≡ of_first units (pasid_at world space)
  pub waits : targets_seen plan.waits ≡ of_first units (target_at world space)
  pub cookies : plan.cookies ≡ count_below units (submits world space)
  pub room : any_below units (lacks_room world space descriptors) ≡ false

-- the whole plan of an unmapping for which each unit that gets some gets so many descriptors
abbrev pub IsPlan : Wire → (space descriptors : ℕ) → Plan → Type 0
IsPlan world space descriptors plan = IsPlanned world space descriptors (length world.parts) plan

-- what the units have against it: room, and cookies for their waits
abbrev pub unit_causes : Wire → (space descriptors : ℕ) → List Cause
unit_causes world space descriptors = queue_full world space descriptors ∷ numbers_spent world.next_cookie (waits_needed world space) ∷ []

-- the plan, or the first cause that refuses it
abbrev pub Plans : Wire → (space descriptors : ℕ) → Result Plan Refusal → Type 0
Plans world space descriptors (Ok plan) = IsPlan world space descriptors plan × (Ok tt ≡ verdict (unit_causes world space descriptors))
Plans world space descriptors (Err refusal) = Err refusal ≡ verdict (unit_causes world space descriptors)

-- no unit was given a cookie that is yet to come
abbrev pub AreGiven : Wire → Type 0
AreGiven world = (endpoint : ℕ) → endpoint < length world.parts → (unit_of world endpoint).waits_end ≤ world.next_cookie

-- an endpoint with its unit once the first so many units have got their descriptors
abbrev pub part_so_far : Wire → (space page count order units endpoint : ℕ) → EndpointWire
part_so_far world space page count order units endpoint =
    if nat_lt endpoint units then part_unmapped world space page count order endpoint else part_of world endpoint

-- what is kept once these have
abbrev pub submitted_to : Wire → (space page count order units : ℕ) → Wire
submitted_to world space page count order units =
    record world {
      parts = tabulate (length world.parts) (part_so_far world space page count order units);
      next_cookie = cookie_at world space units;
    }

-- and once all have
abbrev pub submitted : Wire → (space page count order : ℕ) → Wire
submitted world space page count order =
    record world {
      parts = tabulate (length world.parts) (part_unmapped world space page count order);
      next_cookie = world.next_cookie + waits_needed world space;
    }
