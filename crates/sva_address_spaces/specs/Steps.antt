-- What a memory does, in the words of the steps by labels.
use Rattle.std.specs.Prelude.{◌≡◌, ℕ, Bool, true, false, List, [], Err, IsOk, is_some, count_by}
use Rattle.sva_frames.specs.declared.pool.Counts.{Counts}
use Rattle.sva_step.specs.declared.refusals.Refusal.TheVariants as refusal
use Rattle.sva_step.specs.declared.steps.Step.{Step}
use Rattle.sva_model.specs.Words.{tabulate}
use Rattle.sva_model.specs.Steps.{Reply}
use Rattle.sva_model.specs.Wire.{Wire, PlaceWire}
use Rattle.sva_model.specs.Wire.PlaceWire.{FreeWire, MappedWire, WithheldWire}
use Rattle.sva_labels.specs.Finding.{pages_of, is_free}
use Rattle.sva_labels.specs.Moves.{Move, moved, all_moved}
use Rattle.sva_labels.specs.Host.{Decision, decide_of}
use Rattle.sva_address_spaces.specs.Seen.{AddressSpacesSeen, address_spaces_of, with_address_spaces}

-- before the first step
abbrev pub first_address_spaces : (frames first : ℕ) → AddressSpacesSeen
first_address_spaces frames first = record { spaces = []; places = tabulate frames (λ frame. FreeWire); next_space = first }

-- what was decided is answered and done; want of memory changes nothing, and comes only where the step would have been
-- accepted
abbrev pub Does : Decision → Wire → Reply → Wire → Type 0
Does decision before (Err refusal.OutOfMemory) after = IsOk decision.reply × (after ≡ before)
Does decision before result after = (result ≡ decision.reply) × (after ≡ all_moved before decision.moves)

-- the step by labels
abbrev pub ByLabels : Wire → Step → Reply → Wire → Type 0
ByLabels before step result after = Does (decide_of before step) before result after

-- a step that the spaces and frames alone decide, at each host that keeps them so
abbrev pub Steps : Step → AddressSpacesSeen → Reply → AddressSpacesSeen → Type 0
Steps step before result after = (world : Wire) → address_spaces_of world ≡ before → ByLabels world step result (with_address_spaces world after)

-- a move that changes spaces and frames alone, at each host that keeps them so
abbrev pub Moves : Move → AddressSpacesSeen → AddressSpacesSeen → Type 0
Moves move before after = (world : Wire) → address_spaces_of world ≡ before → with_address_spaces world after ≡ moved world move

-- several such moves, one after another
abbrev pub AllMoves : List Move → AddressSpacesSeen → AddressSpacesSeen → Type 0
AllMoves moves before after = (world : Wire) → address_spaces_of world ≡ before → with_address_spaces world after ≡ all_moved world moves

-- is there a space of this number?
abbrev pub has_space : AddressSpacesSeen → (number : ℕ) → Bool
has_space memory number = is_some (pages_of memory.spaces number)

-- is the frame at a page of a space?
abbrev pub is_mapped_place : PlaceWire → Bool
is_mapped_place MappedWire = true
is_mapped_place _ = false

-- is the frame withheld, since a unit hasn't answered for it?
abbrev pub is_withheld_place : PlaceWire → Bool
is_withheld_place (WithheldWire targets) = true
is_withheld_place _ = false

-- how many frames are at each place
pub record Counted (places : List PlaceWire) (counts : Counts) : Type 0 where
  pub free : counts.free ≡ count_by is_free places
  pub mapped : counts.mapped ≡ count_by is_mapped_place places
  pub withheld : counts.withheld ≡ count_by is_withheld_place places
