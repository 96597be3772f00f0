-- The table of bindings, seen as a list of places in the order in which the bindings began. A PASID is borne by a space,
-- over all endpoints: 1 to 32 are given out, to a space that bears none the lowest free one (this project's own rule; PCI
-- Express Base 5.0 has 20 bits, and leaves it to software which space a PASID names).
use Rattle.std.specs.Prelude.{◌≡◌, ◌≢◌, ◌↔◌, ℕ, ◌<◌, ◌≤◌, Bool, true, false, ◌==◌, ◌&&◌, not, if◌then◌else◌, Option, Some, None, option_map}
use Rattle.std.specs.Prelude.{option_and_then, IfSome, IsSomeAnd, MatchOption, List, map, filter, find, count_by, All, AllPairs}
use Rattle.std.specs.List.{list_any, range_with_len}
use Rattle.std.specs.Option.{option_or}
use Rattle.sva_pasid.specs.States.{Numbers}
use Rattle.sva_pasid.specs.Stages.{numbers_of, reset_of, IsLive}
use Rattle.sva_pasid.specs.declared.stages.Stage.{Stage}
use Rattle.sva_pasid.specs.declared.stages.Stage.TheVariants.{Live}
use Rattle.sva_pasid.specs.declared.bearers.Bearer.{Bearer}
use Rattle.sva_step.specs.declared.limits.TheConstants.{PASIDS}
use Rattle.sva_pasid.specs.declared.places.TableEntry.{TableEntry}

-- is the place that of this binding? No two places of a table are of one binding
abbrev pub is_of : ℕ → TableEntry → Bool
is_of binding place = place.binding == binding

-- the place of the binding, if the table has one
abbrev pub place_of : ℕ → List TableEntry → Option TableEntry
place_of binding places = find (is_of binding) places

-- the stage of the binding, if its place is there and not empty
abbrev pub stage_of : ℕ → List TableEntry → Option Stage
stage_of binding places = option_and_then (λ (place : TableEntry). place.stage) (place_of binding places)

-- the table with this in the place of the binding: a stage, or nothing
abbrev pub with_stage : ℕ → Option Stage → List TableEntry → List TableEntry
with_stage binding stage places = map (λ (place : TableEntry). if is_of binding place then record place { stage = stage } else place) places

-- the table without the place of the binding
abbrev pub without : ℕ → List TableEntry → List TableEntry
without binding places = filter (λ place. not (is_of binding place)) places

-- the place is of a binding to this endpoint that bears the PASID
abbrev pub is_under : ℕ → ℕ → TableEntry → Bool
is_under endpoint pasid place = (place.endpoint == endpoint) && (place.pasid == pasid)

-- the first binding to the endpoint that bears the PASID
abbrev pub place_under : ℕ → ℕ → List TableEntry → Option TableEntry
place_under endpoint pasid places = find (is_under endpoint pasid) places

-- the place is of a binding of the space to this endpoint
abbrev pub joins : ℕ → ℕ → TableEntry → Bool
joins endpoint space place = (place.endpoint == endpoint) && (place.space == space)

-- the first binding of the space to the endpoint
abbrev pub place_between : ℕ → ℕ → List TableEntry → Option TableEntry
place_between endpoint space places = find (joins endpoint space) places

-- the place is of a binding of the space
abbrev pub is_in : ℕ → TableEntry → Bool
is_in space place = place.space == space

-- whether the space has an unreleased binding, at any endpoint
abbrev pub is_bound : ℕ → List TableEntry → Bool
is_bound space places = list_any (is_in space) places

-- the PASID that the space bears: that of its unreleased bindings, if it has any
abbrev pub borne_by : ℕ → List TableEntry → Option ℕ
borne_by space places = option_map (λ (place : TableEntry). place.pasid) (find (is_in space) places)

-- the place bears the PASID
abbrev pub bears : ℕ → TableEntry → Bool
bears pasid place = place.pasid == pasid

-- whether a space bears the PASID
abbrev pub is_borne : ℕ → List TableEntry → Bool
is_borne pasid places = list_any (bears pasid) places

-- how many bindings are under the PASID, over all endpoints
abbrev pub count_under : ℕ → List TableEntry → ℕ
count_under pasid places = count_by (bears pasid) places

-- the space that bears the PASID, and how many bindings are under it
abbrev pub bearer_of : ℕ → List TableEntry → Option Bearer
bearer_of pasid places =
    option_map (λ (place : TableEntry). record { space = place.space; bindings = count_under pasid places }) (find (bears pasid) places)

-- the lowest PASID from 1 to 32 that no space bears
unfoldable pub lowest_free : List TableEntry → Option ℕ
lowest_free places = find (λ pasid. not (is_borne pasid places)) (range_with_len 1 PASIDS)

-- the PASID of a binding of the space that begins: the one that the space bears, else the lowest that no space bears
abbrev pub lowest : ℕ → List TableEntry → Option ℕ
lowest space places = option_or (borne_by space places) (lowest_free places)

-- what `lowest` gives: a PASID that the space bears, or one that no space bears while each lower one is borne
pub record IsLowest (space : ℕ) (places : List TableEntry) (pasid : ℕ) : Type 0 where
  pub from_one : 1 ≤ pasid
  pub to_last : pasid ≤ PASIDS
  pub borne : IfSome (borne_by space places) (λ own. own ≡ pasid)
  pub free : borne_by space places ≡ None → is_borne pasid places ≡ false
  pub lower : borne_by space places ≡ None → (other : ℕ) → 1 ≤ other → other < pasid → is_borne other places ≡ true

-- the space bears no PASID, and all 32 are borne
pub record IsOutOfPasids (space : ℕ) (places : List TableEntry) : Type 0 where
  pub none : borne_by space places ≡ None
  pub all : (pasid : ℕ) → 1 ≤ pasid → pasid ≤ PASIDS → is_borne pasid places ≡ true

-- the place of a binding that begins under the PASID
abbrev pub begun : ℕ → ℕ → ℕ → ℕ → TableEntry
begun endpoint space binding pasid =
    record { endpoint = endpoint; space = space; binding = binding; pasid = pasid; stage = Some (Live (record { binding = binding; pasid = pasid })) }

-- the place of the binding is there, with a stage that is live
abbrev pub IsLiveIn : ℕ → List TableEntry → Type 0
IsLiveIn binding places = IsSomeAnd (stage_of binding places) IsLive

-- a place after a reset of the endpoint: if it is of this endpoint, what a reset makes of the stage that is there
abbrev pub reset_at : ℕ → TableEntry → TableEntry
reset_at endpoint place = if place.endpoint == endpoint then record place { stage = option_map reset_of place.stage } else place

-- the table after a reset of the endpoint
abbrev pub after_reset : ℕ → List TableEntry → List TableEntry
after_reset endpoint places = map (reset_at endpoint) places

-- the place of the binding is there and empty, and bears the PASID
abbrev pub Awaits : Numbers → List TableEntry → Type 0
Awaits numbers places = IsSomeAnd (place_of numbers.binding places) (λ place. (place.pasid ≡ numbers.pasid) × (place.stage ≡ None))

-- two places bear the same PASID exactly where they are of the same space
abbrev pub ShareAlike : TableEntry → TableEntry → Type 0
ShareAlike place other = (place.pasid ≡ other.pasid) ↔ (place.space ≡ other.space)

-- two places are of two bindings, and have the same PASID exactly where they have the same space
pub record IsApart (place other : TableEntry) : Type 0 where
  pub bindings : place.binding ≢ other.binding
  pub pasids : ShareAlike place other

-- the PASID is one of those that are given out, and a stage in the place is of its binding and PASID
pub record IsOwn (place : TableEntry) : Type 0 where
  pub from_one : 1 ≤ place.pasid
  pub to_last : place.pasid ≤ PASIDS
  pub stage : IfSome place.stage (λ held. numbers_of held ≡ record { binding = place.binding; pasid = place.pasid })

-- what holds of every table
pub record IsTable (places : List TableEntry) : Type 0 where
  pub apart : AllPairs IsApart places
  pub own : All IsOwn places

-- `lowest` of a table is as above, and None exactly where the space bears none and all 32 are borne
abbrev pub LowestIsLeast : Type 0
LowestIsLeast =
    (space : ℕ) (places : List TableEntry) → IsTable places
    → MatchOption (lowest space places) (IsOutOfPasids space places) (λ pasid. IsLowest space places pasid)
