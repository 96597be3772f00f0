-- How the open groups lie in the slots of a slab, and tests of them. No public clause cites this module.
use Rattle.std.specs.Borrow.{Bor}
use Rattle.std.specs.Prelude.{◌≡◌, ℕ, ◌+◌, ◌*◌, ◌%◌, ◌<◌, Bool, false, nat_lt, if◌then◌else◌, List, [], ◌∷◌, Option, Some, None, slice_index_or}
use Rattle.sva_step.specs.Limits
use Rattle.sva_prq.specs.Groups.{OpenGroup}

-- the slot with this key has the group
abbrev pub IsAt : List (Option OpenGroup) → ℕ → OpenGroup → Type 0
IsAt slots key group = slice_index_or slots key None ≡ Some group

-- did the group begin after the one with this serial?
abbrev pub is_behind : (serial : ℕ) → OpenGroup → Bool
is_behind serial group = nat_lt serial group.serial

-- a group among others that stand by rising serial
abbrev pub placed : OpenGroup → List OpenGroup → List OpenGroup
placed group [] = group ∷ []
placed group (other ∷ others) = if nat_lt group.serial other.serial then group ∷ other ∷ others else other ∷ placed group others

-- the groups of these slots by rising serial, that is in the order in which they began
abbrev pub groups_in : List (Option OpenGroup) → List OpenGroup
groups_in [] = []
groups_in (None ∷ slots) = groups_in slots
groups_in (Some group ∷ slots) = placed group (groups_in slots)

-- the cell of a unit and an index in the table of unfinished groups: 32 indexes for each of 8 units. Beyond these bounds
-- several units or indexes share a cell
abbrev pub cell_of : (unit index : ℕ) → ℕ
cell_of unit index = unit % Limits.most_endpoints * Limits.groups + index % Limits.groups

-- groups in slots, cells that lead to those that are unfinished, and the next serial
pub record AreKept (slots : List (Option OpenGroup)) (cells : List (Option ℕ)) (next : ℕ) : Type 0 where
  -- each serial was given, and none is there twice
  pub given : (key : ℕ) (group : OpenGroup) → IsAt slots key group → group.serial < next
  pub apart : (key other_key : ℕ) (group other : OpenGroup) → IsAt slots key group → IsAt slots other_key other → group.serial ≡ other.serial → key ≡ other_key
  -- one unfinished group for each unit, binding and index
  pub single : (key other_key : ℕ) (group other : OpenGroup) → IsAt slots key group → IsAt slots other_key other → group.last ≡ false → other.last ≡ false
      → group.unit ≡ other.unit → group.binding ≡ other.binding → group.index ≡ other.index → key ≡ other_key
  -- a cell with a key has all unfinished groups of the cell at that key
  pub celled : (noted key : ℕ) (group : OpenGroup) → IsAt slots key group → group.last ≡ false
      → slice_index_or cells (cell_of group.unit group.index) None ≡ Some noted → noted ≡ key

-- what a call of the test says of a group is what `passes` is of it
abbrev pub IsTest : (Bor OpenGroup → Bool → Type 0) → (OpenGroup → Bool) → Type 0
IsTest post passes = (group : Bor OpenGroup) (answer : Bool) → post group answer → answer ≡ passes group.now

-- the slot has a group that passes
abbrev pub passes_at : (OpenGroup → Bool) → Option OpenGroup → Bool
passes_at passes None = false
passes_at passes (Some group) = passes group

-- the slots that may have an unfinished group of a cell: the one with its key, or any where the cell has none
abbrev pub MayHold : Option ℕ → ℕ → Type 0
MayHold None key = Unit {0}
MayHold (Some only) key = only ≡ key
