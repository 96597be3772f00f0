-- The frames, as they are seen.
use Rattle.std.proofs.Common.{◌≡◌, ◌≢◌, ℕ, zero, suc, ◌+◌, ◌<◌, ◌≤◌, ◌==◌, Bool, true, false, cond, List, Option, Some, None, [], ◌∷◌, length, set, get_or}
use Rattle.std.proofs.Common.{slice_get, refl, sym, ap, ◌∙◌, arith, replicate, count_by, if◌then◌else◌}
use Rattle.std.specs.Prelude.{nat_lt}
use Rattle.std.specs.List.{position, position_or_len}
use Rattle.std.proofs.lemmas.Bool.Decides.{nat_tests}
use Rattle.std.proofs.lemmas.List.{map-set, length-map}
use Rattle.std.proofs.lemmas.List.Quantifiers.{position-Some}
use Rattle.std.proofs.lemmas.List.Recursion.{is_position_or_len}
use Rattle.std.proofs.lemmas.List.Sums.{sum_by-cons}
use Rattle.std.proofs.lemmas.Option.{slice_get-get_or}
use Rattle.sva_frames.specs.Frames.{Holding, Free, Mapped, Withheld, is_free, is_mapped, is_withheld}
use Rattle.sva_frames.proofs.Pools.{map-replicate, slice_get-set_same, slice_get-set_other}
use Rattle.sva_model.specs.Wire.{PlaceWire}
use Rattle.sva_model.specs.Wire.PlaceWire.{FreeWire}
use Rattle.sva_labels.specs.Finding.{lowest_free, is_free as is_free_wire}
use Rattle.sva_labels.specs.Moves.{placed}
use Rattle.sva_address_spaces.specs.Seen.{pages_seen, place_seen, places_seen}
use Rattle.sva_labels.proofs.Lists.{tabulate_one}
use Rattle.sva_address_spaces.specs.declared.live.LiveSpace.{LiveSpace}
use Rattle.sva_address_spaces.specs.Lives.{spaces_seen}
use Rattle.sva_address_spaces.specs.Steps.{first_address_spaces, is_mapped_place, is_withheld_place}
use Rattle.sva_address_spaces.specs.Owned.{one_if_mapped, mapped_bit}

pub length-seen : (frames : List Holding) → length (places_seen frames) ≡ length frames
length-seen frames = length-map frames place_seen

pub is_free-seen : (h : Holding) → is_free_wire (place_seen h) ≡ is_free h
is_free-seen Free = refl
is_free-seen Mapped = refl
is_free-seen (Withheld targets) = refl

one_first : (k : ℕ) → suc k ≡ 1 + k
one_first k = omega arith

-- the lowest free frame is the first
lowest_free-first : (frames : List Holding) → lowest_free (places_seen frames) ≡ position_or_len is_free frames
lowest_free-first frames = is_position_or_len (λ (hs : List Holding). lowest_free (places_seen hs)) is_free refl one_more frames
  where
    one_more : (h : Holding) (hs : List Holding) → lowest_free (places_seen (h ∷ hs)) ≡ cond (is_free h) 0 (1 + lowest_free (places_seen hs))
    one_more h hs = ap (λ b. if b then 0 else suc (lowest_free (places_seen hs))) (is_free-seen h)
        ∙ ap (λ k. cond (is_free h) 0 k) (one_first (lowest_free (places_seen hs)))

pub lowest_free-some : (frames : List Holding) (n : ℕ) → position is_free frames ≡ Some n → lowest_free (places_seen frames) ≡ n
lowest_free-some frames n first = lowest_free-first frames ∙ of_some (position_or_len is_free frames) (length frames) n first
  where
    of_some : (k l n : ℕ) → cond (nat_lt k l) (Some k) None ≡ Some n → k ≡ n
    of_some k l n h = grind (arith, nat_tests)

pub some-within : (frames : List Holding) (n : ℕ) → position is_free frames ≡ Some n → n < length frames
some-within frames n first = (position-Some is_free frames n Free first).0

pub lowest_free-none : (frames : List Holding) → position is_free frames ≡ None → lowest_free (places_seen frames) ≡ length (places_seen frames)
lowest_free-none [] none = refl
lowest_free-none (h ∷ hs) none = by_test (is_free h) refl (lowest_free-none hs)
  where
    first : (b : Bool) → is_free h ≡ b → position_or_len is_free (h ∷ hs) ≡ cond b 0 (1 + position_or_len is_free hs)
    first b is = sym (lowest_free-first (h ∷ hs)) ∙ ap (λ c. if c then 0 else suc (lowest_free (places_seen hs))) (is_free-seen h ∙ is)
        ∙ ap (λ k. cond b 0 k) (one_first (lowest_free (places_seen hs)) ∙ ap (λ k. 1 + k) (lowest_free-first hs))

    none_after : (k l m : ℕ) → k ≡ 1 + m → cond (nat_lt k (1 + l)) (Some k) None ≡ None → cond (nat_lt m l) (Some m) None ≡ None
    none_after k l m e h = grind (arith, nat_tests)

    not_first : (k l : ℕ) → k ≡ 0 → cond (nat_lt k (1 + l)) (Some k) None ≢ None
    not_first k l e h = grind (arith, nat_tests)

    by_test : (b : Bool) → is_free h ≡ b → (position is_free hs ≡ None → lowest_free (places_seen hs) ≡ length (places_seen hs))
        → (if is_free_wire (place_seen h) then 0 else suc (lowest_free (places_seen hs))) ≡ length (places_seen (h ∷ hs))
    by_test true is rest = absurd (not_first (position_or_len is_free (h ∷ hs)) (length hs) (first true is) (lengthened none))
      where
        lengthened : position is_free (h ∷ hs) ≡ None
            → cond (nat_lt (position_or_len is_free (h ∷ hs)) (1 + length hs)) (Some (position_or_len is_free (h ∷ hs))) None ≡ None
        lengthened n = let same : 1 + length hs ≡ length (h ∷ hs) = omega arith in rw same n
    by_test false is rest =
        let same : 1 + length hs ≡ length (h ∷ hs) = omega arith in
        let long : cond (nat_lt (position_or_len is_free (h ∷ hs)) (1 + length hs)) (Some (position_or_len is_free (h ∷ hs))) None ≡ None = rw same none in
        let below : lowest_free (places_seen hs) ≡ length (places_seen hs) =
        rest (none_after (position_or_len is_free (h ∷ hs)) (length hs) (position_or_len is_free hs) (first false is) long) in
        ap (λ c. if c then 0 else suc (lowest_free (places_seen hs))) (is_free-seen h ∙ is) ∙ omega arith

-- a frame's place changes
pub places_seen-set : (frames : List Holding) (n : ℕ) (h : Holding) → places_seen (set frames n h) ≡ set (places_seen frames) n (place_seen h)
places_seen-set frames n h = map-set place_seen frames n h

-- what was taken and given back is as it was
pub taken_given : (frames : List Holding) (n : ℕ) → slice_get frames n ≡ Some Free → set (set frames n Mapped) n Free ≡ frames
taken_given [] n here = refl
taken_given (h ∷ hs) zero here = ap (λ g. g ∷ hs) (same here)
  where
    same : Some h ≡ Some Free → Free ≡ h
    same e = cc
taken_given (h ∷ hs) (suc n) here = ap (λ gs. h ∷ gs) (taken_given hs n here)

pub first-free : (frames : List Holding) (n : ℕ) → position is_free frames ≡ Some n → slice_get frames n ≡ Some Free
first-free frames n first =
    let at = position-Some is_free frames n Free first in
    slice_get-get_or frames n Free at.0 ∙ ap Some (free (get_or frames n Free) at.1)
  where
    free : (h : Holding) → is_free h ≡ true → h ≡ Free
    free Free is = refl
    free Mapped is = absurd (cc)
    free (Withheld targets) is = absurd (cc)

-- the first frame of a space given back, and the others later
pub first-placed : (space rest : List (ℕ × (ℕ × Bool))) (frames frames_after : List Holding) (first : ℕ × (ℕ × Bool)) → space ≡ first ∷ rest
    → frames_after ≡ set frames first.1.0 Free → placed FreeWire (pages_seen rest) (places_seen frames_after)
    ≡ placed FreeWire (pages_seen space) (places_seen frames)
first-placed space rest frames frames_after first is gave =
    ap (placed FreeWire (pages_seen rest)) (ap places_seen gave ∙ places_seen-set frames first.1.0 Free)
    ∙ sym (ap (λ (ms : List (ℕ × (ℕ × Bool))). placed FreeWire (pages_seen ms) (places_seen frames)) is)

-- whether a frame is mapped in the pool, after a place changed
pub mapped_bit-set : (frames : List Holding) (n : ℕ) (h : Holding) (f : ℕ) → n < length frames → mapped_bit f (set frames n h)
    ≡ (if n == f then one_if_mapped (Some h) else mapped_bit f frames)
mapped_bit-set frames n h f within = by_test (n == f) refl
  where
    same : (n f : ℕ) → (n == f) ≡ true → n ≡ f
    same n f is = grind (arith, nat_tests)

    apart : (n f : ℕ) → (n == f) ≡ false → f ≢ n
    apart n f is = grind (arith, nat_tests)

    by_test : (b : Bool) → (n == f) ≡ b → mapped_bit f (set frames n h) ≡ (if b then one_if_mapped (Some h) else mapped_bit f frames)
    by_test true is = ap (λ (k : ℕ). mapped_bit k (set frames n h)) (sym (same n f is)) ∙ ap one_if_mapped (slice_get-set_same frames n h within)
    by_test false is = ap one_if_mapped (slice_get-set_other frames n f h (apart n f is))

pub is_mapped-bit : (frames : List Holding) (f : ℕ) → 1 ≤ mapped_bit f frames → slice_get frames f ≡ Some Mapped
is_mapped-bit frames f one = go (slice_get frames f) one
  where
    go : (o : Option Holding) → 1 ≤ one_if_mapped o → o ≡ Some Mapped
    go None one = absurd (omega arith)
    go (Some Free) one = absurd (omega arith)
    go (Some Mapped) one = refl
    go (Some (Withheld targets)) one = absurd (omega arith)

-- how many are at each place

pub count-seen : (p : Holding → Bool) (q : PlaceWire → Bool) → ((h : Holding) → q (place_seen h) ≡ p h) → (frames : List Holding) → count_by p frames
    ≡ count_by q (places_seen frames)
count-seen p q same [] = refl
count-seen p q same (h ∷ hs) =
    sum_by-cons (λ (x : Holding). cond (p x) 1 0) h hs
    ∙ ap (λ b. cond b 1 0 + count_by p hs) (sym (same h))
    ∙ ap (λ (k : ℕ). cond (q (place_seen h)) 1 0 + k) (count-seen p q same hs)
    ∙ sym (sum_by-cons (λ (x : PlaceWire). cond (q x) 1 0) (place_seen h) (places_seen hs))

pub mapped-seen : (h : Holding) → is_mapped_place (place_seen h) ≡ is_mapped h
mapped-seen Free = refl
mapped-seen Mapped = refl
mapped-seen (Withheld targets) = refl

pub withheld-seen : (h : Holding) → is_withheld_place (place_seen h) ≡ is_withheld h
withheld-seen Free = refl
withheld-seen Mapped = refl
withheld-seen (Withheld targets) = refl

-- before the first step
pub opened-seen : (frames first : ℕ) (lives : List LiveSpace) (pool : List Holding) → lives ≡ [] → pool ≡ replicate frames Free
    → record { spaces = spaces_seen lives; places = places_seen pool; next_space = first } ≡ first_address_spaces frames first
opened-seen frames first lives pool none all =
    λ i. record {
      spaces = ap spaces_seen none i;
      places = (ap places_seen all ∙ map-replicate place_seen frames Free ∙ sym (tabulate_one frames FreeWire)) i;
      next_space = first;
    }
