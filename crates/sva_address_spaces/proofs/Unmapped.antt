-- A memory where pages of one space were taken out.
use Rattle.std.proofs.Common.{◌≡◌, ℕ, List, Option, Some, None, sym, ap, subst, ◌∙◌}
use Rattle.std.specs.Prelude.{filter, IsOk}
use Rattle.std.specs.List.{position}
use Rattle.sva_model.specs.Refusals.{Cause}
use Rattle.sva_model.specs.Wire.{PageWire, SpaceWire, PlaceWire, TargetWire}
use Rattle.sva_labels.specs.Finding.{pages_of, or_no_pages}
use Rattle.sva_labels.specs.Moves.{is_between, placed, place_for, without_pages}
use Rattle.sva_labels.specs.Moves as labels
use Rattle.sva_address_spaces.specs.declared.address_spaces.AddressSpaces.TheInside.{Inside}
use Rattle.sva_address_spaces.specs.declared.live.LiveSpace.{LiveSpace}
use Rattle.sva_address_spaces.specs.Seen.{AddressSpacesSeen}
use Rattle.sva_address_spaces.specs.Lives.{is_of}
use Rattle.sva_address_spaces.specs.Inner.{spaces_in}
use Rattle.sva_address_spaces.specs.Unmapping.{unmapped}
use Rattle.sva_address_spaces.proofs.Hosts.{OneChanged}
use Rattle.sva_address_spaces.proofs.ChangedSpace.{lacks_space}
use Rattle.sva_address_spaces.proofs.Permits.{in_space}

-- no space was asked for that isn't there
pub is_there : (causes : List PageWire → List Cause) (memory : Inside) (number : ℕ) (lives : List LiveSpace)
    → IsOk (in_space causes (pages_of (spaces_in memory).spaces number)) → None ≡ position (is_of number) lives → lives ≡ memory.spaces.items → ⊥
is_there causes memory number lives may none is =
    cc (subst (λ (o : Option (List PageWire)). IsOk (in_space causes o)) (lacks_space memory number lives none is) may)

-- the test of the space is that of its pages
pub tested : (causes : List PageWire → List Cause) (found : Option (List PageWire)) (pages : List PageWire) → found ≡ Some pages
    → IsOk (in_space causes found) → IsOk (in_space causes (Some pages))
tested causes found pages there may = subst (λ (o : Option (List PageWire)). IsOk (in_space causes o)) there may

-- what is left
pub taken_out : (m : AddressSpacesSeen) (n q count : ℕ) (targets : List (Option TargetWire)) (pages pages_after : List PageWire)
    (spaces_after : List SpaceWire) (places_after : List PlaceWire) → OneChanged m.spaces n pages pages_after spaces_after → pages_after
    ≡ without_pages q count pages
    → places_after ≡ placed (place_for targets) (filter (is_between q count) pages) m.places
    → record m { spaces = spaces_after; places = places_after } ≡ unmapped m n q count targets
taken_out m n q count targets pages pages_after spaces_after places_after one gone placed_after =
    (λ i. record m { spaces = one.put (without_pages q count) gone i; places = placed_after i })
    ∙ ap (λ o. record m {
      spaces = labels.with_pages m.spaces n (without_pages q count);
      places =
          placed (place_for targets) (filter (is_between q count) (or_no_pages o)) m.places;
    }) (sym one.found)
