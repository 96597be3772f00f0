-- Spaces, their pages and frames, looked up in what a host keeps: they are those that the definitions find.
use Rattle.std.proofs.Common.{◌≡◌, refl, ap, ◌∙◌, ℕ, suc, ◌+◌, ◌<◌, Bool, true, false, arith}
use Rattle.std.specs.Prelude.{Option, Some, None, option_map, ◌&&◌, nat_lt, nat_le, is_some, length}
use Rattle.std.proofs.lemmas.Bool.Decides.{nat_tests}
use Rattle.std.proofs.lemmas.Bool.{and_from}
use Rattle.sva_model.specs.Words as words
use Rattle.sva_model.specs.Words.{the, all_below}
use Rattle.sva_model.specs.State.{World}
use Rattle.sva_model.specs.Outcomes.{frames_at}
use Rattle.sva_model.specs.Labels
use Rattle.sva_model.specs.Wire.{number, page_wire, pages_wire, wire}
use Rattle.sva_labels.proofs.Words.{all_below-true}
use Rattle.sva_laws.proofs.Invariant.{Mapped}
use Rattle.sva_labels.proofs.Lists.{tabulate_same}
use Rattle.sva_refinement.proofs.PagesOfSpaces.{page_at_is, pages_length}
pub use Rattle.sva_refinement.proofs.PlacesByNumber.{lowest_is as lowest_there, free_is as frames_free}
use Rattle.sva_refinement.proofs.SpacesByNumber.{space_found, space_missing}
use Rattle.sva_labels.specs.Finding.{pages_of, is_space, or_no_pages, pages_in, page_at, is_mapped, frame_or_0, frames_of}
use Rattle.sva_refinement.proofs.Lookups.{seen_some}

-- Spaces by their numbers.

pub space_there : (w : World) (n : ℕ) → is_space (wire w) n ≡ Labels.is_space w n
space_there w n = go (Labels.is_space w n) refl
  where
    go : (b : Bool) → Labels.is_space w n ≡ b → is_some (pages_of (wire w).spaces n) ≡ b
    go true e = ap is_some (space_found w n e)
    go false e = ap is_some (space_missing w n e)

pub pages_there : (w : World) (n : ℕ) → Labels.is_space w n ≡ true → pages_in (wire w) n ≡ pages_wire w.mappings (Labels.name w n)
pages_there w n e = ap or_no_pages (space_found w n e)

-- a number and its name
pub name_of : (w : World) (s : ℕ) → Labels.name w (number w.config.first s) ≡ s
name_of w s = omega arith

pub number_given : (w : World) (count s : ℕ) → s < count → Labels.is_number w count (number w.config.first s) ≡ true
number_given w count s l = go w.config.first (number w.config.first s) (Labels.name w (number w.config.first s)) (omega arith) (name_of w s)
  where
    go : (f n k : ℕ) → f < suc n → k ≡ s → (nat_le f n && nat_lt k count) ≡ true
    go f n k h e = grind (arith, nat_tests)

-- the pages of a live space, by its name
pub pages_of_name : (w : World) (s : ℕ) → Mapped w → w.is_live s ≡ true → pages_in (wire w) (number w.config.first s) ≡ pages_wire w.mappings s
pages_of_name w s ma l =
    pages_there w (number w.config.first s)
    (and_from (Labels.is_number w w.spaces (number w.config.first s)) (w.is_live (Labels.name w (number w.config.first s)))
    (number_given w w.spaces s (ma.live s l)) (ap w.is_live (name_of w s) ∙ l))
    ∙ ap (pages_wire w.mappings) (name_of w s)

-- Pages of a space.

pub page_found : (w : World) (s q : ℕ) → Mapped w → page_at (pages_wire w.mappings s) q ≡ option_map (page_wire w.mappings) (w.mappings.at s q)
page_found w s q ma = page_at_is w ma s q

pub mapped_there : (w : World) (s q : ℕ) → Mapped w → is_mapped (pages_wire w.mappings s) q ≡ Labels.is_mapped w s q
mapped_there w s q ma = ap is_some (page_found w s q ma) ∙ seen_some (page_wire w.mappings) (w.mappings.at s q)

pub pages_count : (w : World) (s : ℕ) → length (pages_wire w.mappings s) ≡ Labels.pages_of w s
pages_count w s = pages_length w s w.mappings.made

-- the frames of pages that are all mapped
pub frames_there :
    (w : World) (s q count : ℕ) → Mapped w → all_below count (λ j. Labels.is_mapped w s (q + j)) ≡ true
    → frames_of (pages_wire w.mappings s) q count ≡ frames_at w s q count
frames_there w s q count ma h =
    tabulate_same count (λ j. frame_or_0 (page_at (pages_wire w.mappings s) (q + j))) (λ j. w.mappings.frame (the (w.mappings.at s (q + j))))
    (λ j l. ap frame_or_0 (page_found w s (q + j) ma) ∙ go (w.mappings.at s (q + j)) (all_below-true count (λ j. Labels.is_mapped w s (q + j)) h j l))
  where
    go : (o : Option ℕ) → words.is_some o ≡ true → frame_or_0 (option_map (page_wire w.mappings) o) ≡ w.mappings.frame (the o)
    go None t = absurd (cc)
    go (Some m) t = refl
