-- A memory where one space and the frames changed.
use Rattle.std.proofs.Common.{◌≡◌, ℕ, Bool, List, Some, None, set, get_or, ap, ◌∙◌}
use Rattle.std.specs.List.{position}
use Rattle.std.specs.Vec.{with_item}
use Rattle.sva_frames.specs.Frames.{Holding}
use Rattle.sva_labels.specs.Finding.{pages_of}
use Rattle.sva_address_spaces.specs.declared.address_spaces.AddressSpaces.TheInside.{Inside}
use Rattle.sva_address_spaces.specs.declared.live.LiveSpace.{LiveSpace}
use Rattle.sva_address_spaces.specs.Seen.{pages_seen}
use Rattle.sva_address_spaces.specs.Lives.{is_of, spaces_seen}
use Rattle.sva_address_spaces.specs.Owned.{Balanced}
use Rattle.sva_address_spaces.specs.Inner.{spaces_in, AreAddressSpaces}
use Rattle.sva_address_spaces.proofs.LiveLists.{IsAt, found, not_found, pages_of-at, with_pages-at, spaces-kept, numbered-at, owned-at}
use Rattle.sva_address_spaces.proofs.Hosts.{OneChanged}

-- the memory with other pages in the space at a place, and other frames
abbrev pub with_space : Inside → (place : ℕ) → LiveSpace → List (ℕ × (ℕ × Bool)) → List Holding → Inside
with_space memory place live space frames = record memory { pool = frames; spaces = with_item memory.spaces place (record live { space = space }) }

-- no space has the number
pub lacks_space : (memory : Inside) (number : ℕ) (lives : List LiveSpace) → None ≡ position (is_of number) lives → lives ≡ memory.spaces.items
    → pages_of (spaces_in memory).spaces number ≡ None
lacks_space memory number lives none is = not_found memory.spaces.items number (none ∙ ap (λ (ls : List LiveSpace). position (is_of number) ls) is)

-- the space that has the number
pub has_space : (memory : Inside) (number place : ℕ) (live : LiveSpace) (lives : List LiveSpace)
    → AreAddressSpaces memory → Some place ≡ position (is_of number) lives
    → lives ≡ memory.spaces.items
    → live ≡ get_or memory.spaces.items place live → IsAt memory.spaces.items number place live
has_space memory number place live lives h first is read =
    found memory.spaces.items memory.next_space number place live h.numbered (first ∙ ap (λ (ls : List LiveSpace). position (is_of number) ls) is) read

-- the invariant stays where frames moved between the space and the pool alone
pub stays_the_same : (memory : Inside) (number place : ℕ) (live : LiveSpace) (space : List (ℕ × (ℕ × Bool))) (frames : List Holding) → AreAddressSpaces memory
    → IsAt memory.spaces.items number place live
    → Balanced live.space memory.pool space frames → AreAddressSpaces (with_space memory place live space frames)
stays_the_same memory number place live space frames h at balanced = record {
  numbered = numbered-at memory.spaces.items memory.next_space place live space h.numbered at.there;
  owned = owned-at memory.spaces.items memory.pool frames place live space h.owned at.there balanced;
}

-- what is seen of the spaces, where one of them has other pages
pub one_changed : (memory : Inside) (number place : ℕ) (live : LiveSpace) (space : List (ℕ × (ℕ × Bool))) → IsAt memory.spaces.items number place live
    → OneChanged (spaces_seen memory.spaces.items) number (pages_seen live.space) (pages_seen space) (spaces_seen
    (set memory.spaces.items place (record live { space = space })))
one_changed memory number place live space at = record {
  found = pages_of-at memory.spaces.items number place live at.there at.is_number at.once;
  kept = λ same. spaces-kept memory.spaces.items place live space at.there same;
  put = λ change same. with_pages-at memory.spaces.items number place live space change at.there at.is_number at.once same;
}
