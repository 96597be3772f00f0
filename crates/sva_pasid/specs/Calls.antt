-- The calls of a table over time, with the moves of the stages that are in hand in between, and what holds after every
-- list of them.
use Rattle.std.specs.Prelude.{◌≡◌, ◌≢◌, ◌↔◌, ℕ, ◌==◌, if◌then◌else◌, Option, Some, None, option_map, IsSome, IsSomeAnd, List, [], ◌∷◌, ◌++◌, All}
use Rattle.sva_pasid.specs.Moves.{Life, Move, after_move, numbers_of_life, kind_of, IsTableStep}
use Rattle.sva_pasid.specs.Moves.Life.{at, over}
use Rattle.sva_pasid.specs.Moves.Move.{reset}
use Rattle.sva_pasid.specs.Moves.Kind.{live, released}
use Rattle.sva_pasid.specs.Stages.{reset_of}
use Rattle.sva_pasid.specs.Places.{place_of, stage_of, with_stage, without, lowest, begun, after_reset, IsLiveIn, Awaits, ShareAlike, IsTable}
use Rattle.sva_pasid.specs.declared.stages.Stage.{Stage}
use Rattle.sva_pasid.specs.declared.places.TableEntry.{TableEntry}

-- a table, and what is in hand of each binding: a stage that was taken out of the table, or what was released of it
pub record Holder : Type 0 where
  pub places : List TableEntry
  pub hand : ℕ → Option Life

-- a table in which no binding has begun, with nothing in hand
abbrev pub opening : Holder
opening = record { places = []; hand = λ _. None }

-- the six calls that change a table, and a move of the stage that is in hand
pub data Call : Type 0 where
  begin : (endpoint space binding : ℕ) → Call
  take : (binding : ℕ) → Call
  move : (binding : ℕ) (by : Move) → Call
  put : (binding : ℕ) → Call
  end : (binding : ℕ) → Call
  take_back : (binding : ℕ) → Call
  by_reset : (endpoint : ℕ) → Call

-- what is in hand of each binding, where of this one it is now that life, or nothing
abbrev pub hand_with : ℕ → Option Life → (ℕ → Option Life) → ℕ → Option Life
hand_with binding life hand other = if other == binding then life else hand other

-- once a binding of the space begins under this PASID: its place is the last; with no PASID left none begins
abbrev pub after_begin : ℕ → ℕ → ℕ → Option ℕ → Holder → Holder
after_begin endpoint space binding None holder = holder
after_begin endpoint space binding (Some pasid) holder = record holder { places = holder.places ++ begun endpoint space binding pasid ∷ [] }

-- once the stage of a binding is taken in hand: its place stays and is empty, so that its PASID stays borne
abbrev pub after_take : ℕ → Option Stage → Holder → Holder
after_take binding None holder = holder
after_take binding (Some stage) holder =
    record { places = with_stage binding None holder.places; hand = hand_with binding (Some (at stage)) holder.hand }

-- once the stage in hand has made a move, which the table doesn't see before it is put back
abbrev pub after_moving : ℕ → Move → Option Life → Holder → Holder
after_moving binding by None holder = holder
after_moving binding by (Some life) holder = record holder { hand = hand_with binding (Some (after_move life by)) holder.hand }

-- once the stage in hand is back in its place; of a binding that was released there is none to put back
abbrev pub after_put : ℕ → Option Life → Holder → Holder
after_put binding (Some (at stage)) holder =
    record { places = with_stage binding (Some stage) holder.places; hand = hand_with binding None holder.hand }
after_put binding _ holder = holder

-- once a binding is ended by what was released of it: its place is gone, and bears its PASID no more
abbrev pub after_end : ℕ → Option Life → Holder → Holder
after_end binding (Some (over numbers)) holder = record { places = without numbers.binding holder.places; hand = hand_with binding None holder.hand }
after_end binding _ holder = holder

-- a call that lacks its value in hand can't be written, and is here one that does nothing
abbrev pub after : Holder → Call → Holder
after holder (begin endpoint space binding) = after_begin endpoint space binding (lowest space holder.places) holder
after holder (take binding) = after_take binding (stage_of binding holder.places) holder
after holder (move binding by) = after_moving binding by (holder.hand binding) holder
after holder (put binding) = after_put binding (holder.hand binding) holder
after holder (end binding) = after_end binding (holder.hand binding) holder
after holder (take_back binding) = record holder { places = without binding holder.places }
after holder (by_reset endpoint) = record holder { places = after_reset endpoint holder.places }

-- the table and what is in hand after all calls of the list
abbrev pub after_all : Holder → List Call → Holder
after_all holder [] = holder
after_all holder (call ∷ calls) = after_all (after holder call) calls

-- the conditions of `begin` and of `take_back`; those of `put` and `end` are no premise, they are a law below
abbrev pub IsPermitted : Holder → Call → Type 0
IsPermitted holder (begin endpoint space binding) = IsSome (lowest space holder.places) × (place_of binding holder.places ≡ None)
IsPermitted holder (take_back binding) = IsLiveIn binding holder.places
IsPermitted holder _ = Unit {0}

-- each call of the list is permitted where it is made
abbrev pub ArePermitted : Holder → List Call → Type 0
ArePermitted holder [] = Unit {0}
ArePermitted holder (call ∷ calls) = IsPermitted holder call × ArePermitted (after holder call) calls

-- the stage of a binding, or what was released of it, wherever it is: in hand or in its place
abbrev pub life_in : Option TableEntry → Option Life → Option Life
life_in place (Some life) = Some life
life_in None None = None
life_in (Some place) None = option_map (λ (stage : Stage). at stage) place.stage

-- where the binding with this number is in its life; nowhere before it begins, and once it is ended or taken back
abbrev pub life_of : ℕ → Holder → Option Life
life_of binding holder = life_in (place_of binding holder.places) (holder.hand binding)

-- a binding begins live, goes by the stage table with its number and PASID, and ends released
abbrev pub IsLifeStep : Option Life → Option Life → Type 0
IsLifeStep None None = Unit {0}
IsLifeStep None (Some life) = kind_of life ≡ live
IsLifeStep (Some life) None = kind_of life ≡ released
IsLifeStep (Some before) (Some after) =
    IsTableStep (kind_of before) (kind_of after) × (numbers_of_life after ≡ numbers_of_life before)

-- two places are of two bindings, they bear the same PASID of 1 to 32 exactly where they are of the same space, and each
-- stage is of its place
abbrev pub AlwaysTable : Type 0
AlwaysTable = (calls : List Call) → ArePermitted opening calls → IsTable (after_all opening calls).places

-- two unreleased bindings have the same PASID exactly where they have the same space, whatever their endpoints
abbrev pub SharedBySpace : Type 0
SharedBySpace =
    (calls : List Call) (binding other : ℕ) (place other_place : TableEntry) → ArePermitted opening calls
    → place_of binding (after_all opening calls).places ≡ Some place
    → place_of other (after_all opening calls).places ≡ Some other_place → ShareAlike place other_place

-- what is in hand can always be put back, or ended: its place is there, empty, and of its binding and PASID
abbrev pub AlwaysAwaited : Type 0
AlwaysAwaited =
    (calls : List Call) (binding : ℕ) (life : Life) → ArePermitted opening calls → (after_all opening calls).hand binding ≡ Some life
    → ((numbers_of_life life).binding ≡ binding) × Awaits (numbers_of_life life) (after_all opening calls).places

-- the call doesn't end the binding
abbrev pub Spares : ℕ → Call → Type 0
Spares binding call = (call ≢ end binding) × (call ≢ take_back binding)

-- as long as a binding has not ended, the PASID that it was given is that of each further binding of its space, and of no
-- other space: so it goes to another one only after the end of the last binding that bore it
abbrev pub KeptUntilEnd : Type 0
KeptUntilEnd =
    (calls between : List Call) (endpoint space binding pasid : ℕ) → ArePermitted opening (calls ++ begin endpoint space binding ∷ between)
    → lowest space (after_all opening calls).places ≡ Some pasid → All (λ call. Spares binding call) between → (other : ℕ)
    → (lowest other (after_all opening (calls ++ begin endpoint space binding ∷ between)).places ≡ Some pasid) ↔ (other ≡ space)

-- over every list of calls each binding begins live, goes by the stage table alone, and ends released, or is taken back
abbrev pub LivesByTable : Type 0
LivesByTable =
    (calls : List Call) (call : Call) (binding : ℕ) → call ≢ take_back binding → ArePermitted opening (calls ++ call ∷ [])
    → IsLifeStep (life_of binding (after_all opening calls)) (life_of binding (after_all opening (calls ++ call ∷ [])))

-- a binding that is taken back was live; and where it was the last that began, the table is as it was before
abbrev pub TakenBack : Type 0
TakenBack =
    (calls : List Call) → ArePermitted opening calls
    → ((binding : ℕ) → IsPermitted (after_all opening calls) (take_back binding)
    → IsSomeAnd (life_of binding (after_all opening calls)) (λ life. kind_of life ≡ live)
    × (life_of binding (after_all opening (calls ++ take_back binding ∷ [])) ≡ None))
    × ((endpoint space binding : ℕ) → IsPermitted (after_all opening calls) (begin endpoint space binding)
    → (after_all opening (calls ++ begin endpoint space binding ∷ take_back binding ∷ [])).places ≡ (after_all opening calls).places)

-- what a reset makes of a stage in its place is what the reset move makes of it
abbrev pub ResetByMoves : Type 0
ResetByMoves = (stage : Stage) → at (reset_of stage) ≡ after_move (at stage) reset
