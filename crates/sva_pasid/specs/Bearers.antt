-- What the table keeps of each PASID beside its places: the space that bears it, and how many bindings are under it.
use Rattle.std.specs.Prelude.{◌≡◌, ℕ, ◌+◌, ◌-◌, ◌<◌, Bool, true, false, ◌==◌, if◌then◌else◌, Option, Some, None, List, length, find, All}
use Rattle.std.specs.List.{range_with_len, slice_index_or}
use Rattle.sva_pasid.specs.Places.{count_under}
use Rattle.sva_pasid.specs.declared.bearers.Bearer.{Bearer}
use Rattle.sva_step.specs.declared.limits.TheConstants.{PASIDS}
use Rattle.sva_pasid.specs.declared.places.TableEntry.{TableEntry}

-- what is kept of the PASID
abbrev pub slot : ℕ → List (Option Bearer) → Option Bearer
slot pasid bearers = slice_index_or bearers pasid None

-- the space bears it
abbrev pub is_by : ℕ → Option Bearer → Bool
is_by space None = false
is_by space (Some bearer) = bearer.space == space

-- no space bears it
abbrev pub is_free : Option Bearer → Bool
is_free None = true
is_free (Some _) = false

-- the first PASID that the space bears
unfoldable pub pasid_in : ℕ → List (Option Bearer) → Option ℕ
pasid_in space bearers = find (λ pasid. is_by space (slot pasid bearers)) (range_with_len 1 PASIDS)

-- the first PASID that no space bears
unfoldable pub free_in : List (Option Bearer) → Option ℕ
free_in bearers = find (λ pasid. is_free (slot pasid bearers)) (range_with_len 1 PASIDS)

-- with one binding of the space more
abbrev pub raised : ℕ → Option Bearer → Option Bearer
raised space None = Some (record { space = space; bindings = 1 })
raised space (Some bearer) = Some (record { space = space; bindings = bearer.bindings + 1 })

-- with one binding less
abbrev pub lowered : Option Bearer → Option Bearer
lowered None = None
lowered (Some bearer) = if bearer.bindings == 1 then None else Some (record { space = bearer.space; bindings = bearer.bindings - 1 })

-- what is kept of the PASID is what the places say
abbrev pub IsBearer : ℕ → List TableEntry → Option Bearer → Type 0
IsBearer pasid places None = count_under pasid places ≡ 0
IsBearer pasid places (Some bearer) =
    (count_under pasid places ≡ bearer.bindings) × (0 < bearer.bindings) × All (λ place. place.pasid ≡ pasid → place.space ≡ bearer.space) places

-- so it is for each PASID up to 32; nothing is kept of 0, which is given to no space
pub record AreBearers (places : List TableEntry) (bearers : List (Option Bearer)) : Type 0 where
  pub count : length bearers ≡ PASIDS + 1
  pub each : (pasid : ℕ) → pasid < PASIDS + 1 → IsBearer pasid places (slot pasid bearers)
