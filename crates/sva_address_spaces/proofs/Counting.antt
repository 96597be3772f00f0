-- Frames belong to spaces: what a page more and a page less do to the counts.
use Rattle.std.proofs.Common.{◌≡◌, ℕ, ◌+◌, ◌≤◌, ◌==◌, Bool, true, false, cond, List, Some, None, [], ◌∷◌, set, slice_get, refl, sym, ap, subst, ◌∙◌, arith}
use Rattle.std.proofs.Common.{if◌then◌else◌}
use Rattle.std.specs.Option.{option_map, unwrap_or}
use Rattle.std.specs.Ordering.{nat_cmp}
use Rattle.std.specs.Cmp.{nat_cmp_total}
use Rattle.std.specs.BTreeMap.{is_at, insert_entry}
use Rattle.std.specs.List.{position}
use Rattle.std.specs.Map.{values_of}
use Rattle.std.proofs.lemmas.Bool.Decides.{nat_tests}
use Rattle.std.proofs.lemmas.List.Sums.{sum_by-cons}
use Rattle.std.proofs.lemmas.Map.Entries.{sum_by-insert_entry, sum_by-remove_entry}
use Rattle.std.proofs.lemmas.Option.{slice_get_within}
use Rattle.sva_space.specs.Pages.{IsRising, mapping_at, with_page, without_page}
use Rattle.sva_space.specs.Calls.{count_in}
use Rattle.sva_frames.specs.Frames.{Holding, Free, Mapped, is_free}
use Rattle.sva_address_spaces.specs.Owned.{one_if_mapped, mapped_bit, Owns, Balanced, Spent}
use Rattle.sva_address_spaces.proofs.FrameLists.{mapped_bit-set, is_mapped-bit, first-free, some-within}

-- a page more is a frame more, and a page less a frame less
count_in-insert : (f q n : ℕ) (x : Bool) (ms : List (ℕ × (ℕ × Bool))) → IsRising ms → mapping_at ms q ≡ None → count_in f (with_page ms q n x)
    ≡ count_in f ms + (if n == f then 1 else 0)
count_in-insert f q n x ms rising none =
    let sums : count_in f (insert_entry nat_cmp ms q (n, x)) + unwrap_or (option_map (λ (m : ℕ × Bool). cond {A = ℕ} (m.0 == f) 1 0)
    (mapping_at ms q)) 0 ≡ count_in f ms + cond (n == f) 1 0 =
    sum_by-insert_entry (λ (m : ℕ × Bool). cond (m.0 == f) 1 0) nat_cmp_total ms q (n, x) rising in
    let nothing : unwrap_or (option_map (λ (m : ℕ × Bool). cond {A = ℕ} (m.0 == f) 1 0) (mapping_at ms q)) 0 ≡ 0 =
    ap (λ o. unwrap_or (option_map (λ (m : ℕ × Bool). cond {A = ℕ} (m.0 == f) 1 0) o) 0) none in
    omega (arith, sums, nothing)

count_in-remove : (f q : ℕ) (mapping : ℕ × Bool) (ms : List (ℕ × (ℕ × Bool))) → mapping_at ms q ≡ Some mapping
    → count_in f (without_page ms q) + (if mapping.0 == f then 1 else 0) ≡ count_in f ms
count_in-remove f q mapping ms there =
    let sums : count_in f (without_page ms q) + unwrap_or (option_map (λ (m : ℕ × Bool). cond {A = ℕ} (m.0 == f) 1 0) (mapping_at ms q)) 0 ≡ count_in f ms =
    sum_by-remove_entry (λ (m : ℕ × Bool). cond (m.0 == f) 1 0) (is_at (nat_cmp q)) ms in
    let one : unwrap_or (option_map (λ (m : ℕ × Bool). cond {A = ℕ} (m.0 == f) 1 0) (mapping_at ms q)) 0 ≡ cond (mapping.0 == f) 1 0 =
    ap (λ o. unwrap_or (option_map (λ (m : ℕ × Bool). cond {A = ℕ} (m.0 == f) 1 0) o) 0) there in
    omega (arith, sums, one)

count_in-first : (f : ℕ) (m : ℕ × (ℕ × Bool)) (ms : List (ℕ × (ℕ × Bool))) → count_in f (m ∷ ms) ≡ (if m.1.0 == f then 1 else 0) + count_in f ms
count_in-first f m ms = sum_by-cons (λ (v : ℕ × Bool). cond (v.0 == f) 1 0) m.1 (values_of ms)

one_at : (n k : ℕ) → k ≡ (if n == n then 1 else 0) → k ≡ 1
one_at n k is = grind (arith, nat_tests)

-- one more on both sides, or one less
one_more : (b : Bool) (after before bit was : ℕ) → after ≡ before + (if b then 1 else 0) → bit ≡ (if b then 1 else was) → (b ≡ true → was ≡ 0)
    → after + was ≡ before + bit
one_more true after before bit was e f g = omega (arith, g refl)
one_more false after before bit was e f g = omega arith

one_less : (b : Bool) (after before bit was : ℕ) → after + (if b then 1 else 0) ≡ before → bit ≡ (if b then 0 else was) → (b ≡ true → was ≡ 1)
    → after + was ≡ before + bit
one_less true after before bit was e f g = omega (arith, g refl)
one_less false after before bit was e f g = omega arith

same_frame : (n f : ℕ) → (n == f) ≡ true → n ≡ f
same_frame n f is = grind (arith, nat_tests)

-- the frame of a page of the space is mapped in the pool
owned-bit : (ms : List (ℕ × (ℕ × Bool))) (frames : List Holding) (q : ℕ) (mapping : ℕ × Bool) → Owns ms frames → mapping_at ms q ≡ Some mapping → 1
    ≤ mapped_bit mapping.0 frames
owned-bit ms frames q mapping owned there =
    let one : (if mapping.0 == mapping.0 then 1 else 0) ≡ 1 = one_at mapping.0 _ refl in
    omega (arith, owned mapping.0, count_in-remove mapping.0 q mapping ms there, one)

pub owned-mapped : (ms : List (ℕ × (ℕ × Bool))) (frames : List Holding) (q : ℕ) (mapping : ℕ × Bool) → Owns ms frames → mapping_at ms q
    ≡ Some mapping → slice_get frames mapping.0 ≡ Some Mapped
owned-mapped ms frames q mapping owned there = is_mapped-bit frames mapping.0 (owned-bit ms frames q mapping owned there)

-- a page is mapped to the lowest free frame
pub balanced-map : (ms : List (ℕ × (ℕ × Bool))) (frames : List Holding) (q n : ℕ) (x : Bool) → IsRising ms → mapping_at ms q ≡ None
    → position is_free frames ≡ Some n → Balanced ms frames (with_page ms q n x) (set frames n Mapped)
balanced-map ms frames q n x rising none first f =
    one_more (n == f) _ _ _ _ (count_in-insert f q n x ms rising none) (mapped_bit-set frames n Mapped f (some-within frames n first))
    (λ is. ap (λ (k : ℕ). mapped_bit k frames) (sym (same_frame n f is)) ∙ ap one_if_mapped (first-free frames n first))

-- the frame of a page goes elsewhere
pub balanced-unmap : (ms : List (ℕ × (ℕ × Bool))) (frames : List Holding) (q : ℕ) (mapping : ℕ × Bool) (h : Holding) → one_if_mapped (Some h) ≡ 0
    → Owns ms frames → mapping_at ms q ≡ Some mapping → Balanced ms frames (without_page ms q) (set frames mapping.0 h)
balanced-unmap ms frames q mapping h none owned there f =
    let mapped : slice_get frames mapping.0 ≡ Some Mapped = owned-mapped ms frames q mapping owned there in
    one_less (mapping.0 == f) _ _ _ _ (count_in-remove f q mapping ms there)
    (mapped_bit-set frames mapping.0 h f (slice_get_within frames mapping.0 Mapped mapped)
    ∙ ap (λ (k : ℕ). if mapping.0 == f then k else mapped_bit f frames) none)
    (λ is. ap (λ (k : ℕ). mapped_bit k frames) (sym (same_frame mapping.0 f is)) ∙ ap one_if_mapped mapped)

-- the same of the first page
pub owned-first : (m : ℕ × (ℕ × Bool)) (ms : List (ℕ × (ℕ × Bool))) (frames : List Holding) → Owns (m ∷ ms) frames → slice_get frames m.1.0 ≡ Some Mapped
owned-first m ms frames owned =
    let one : (if m.1.0 == m.1.0 then 1 else 0) ≡ 1 = one_at m.1.0 _ refl in
    is_mapped-bit frames m.1.0 (omega (arith, owned m.1.0, count_in-first m.1.0 m ms, one))

pub balanced-first : (m : ℕ × (ℕ × Bool)) (ms : List (ℕ × (ℕ × Bool))) (frames : List Holding) → Owns (m ∷ ms) frames
    → Balanced (m ∷ ms) frames ms (set frames m.1.0 Free)
balanced-first m ms frames owned f =
    let mapped : slice_get frames m.1.0 ≡ Some Mapped = owned-first m ms frames owned in
    let first : count_in f ms + (if m.1.0 == f then 1 else 0) ≡ count_in f (m ∷ ms) = omega (arith, count_in-first f m ms) in
    one_less (m.1.0 == f) _ _ _ _ first (mapped_bit-set frames m.1.0 Free f (slice_get_within frames m.1.0 Mapped mapped))
    (λ is. ap (λ (k : ℕ). mapped_bit k frames) (sym (same_frame m.1.0 f is)) ∙ ap one_if_mapped mapped)

-- what is balanced step by step is balanced, and keeps what a space owns
pub balanced-on : (a b c : List (ℕ × (ℕ × Bool))) (f g h : List Holding) → Balanced a f b g → Balanced b g c h → Balanced a f c h
balanced-on a b c f g h first second n = omega (arith, first n, second n)

pub owns-on : (a b : List (ℕ × (ℕ × Bool))) (f g : List Holding) → Owns a f → Balanced a f b g → Owns b g
owns-on a b f g owned balanced n = omega (arith, owned n, balanced n)

pub balanced-is : (ms after now : List (ℕ × (ℕ × Bool))) (frames frames_after frames_now : List Holding) → now ≡ after → frames_now ≡ frames_after
    → Balanced ms frames after frames_after → Balanced ms frames now frames_now
balanced-is ms after now frames frames_after frames_now same_pages same_frames balanced f =
    ap (λ (m : List (ℕ × (ℕ × Bool))). count_in f m + mapped_bit f frames) same_pages ∙ balanced f
    ∙ sym (ap (λ (h : List Holding). count_in f ms + mapped_bit f h) same_frames)

pub balanced-none : (ms : List (ℕ × (ℕ × Bool))) (frames : List Holding) → Balanced ms frames ms frames
balanced-none ms frames f = refl

-- a space whose pages are taken out from the first on
pub first-mapped : (all ms : List (ℕ × (ℕ × Bool))) (frames : List Holding) (m : ℕ × (ℕ × Bool)) → all ≡ m ∷ ms → Owns all frames
    → slice_get frames m.1.0 ≡ Some Mapped
first-mapped all ms frames m is owned = owned-first m ms frames (subst (λ (a : List (ℕ × (ℕ × Bool))). Owns a frames) is owned)

pub first-balanced : (all ms : List (ℕ × (ℕ × Bool))) (frames frames_after : List Holding) (m : ℕ × (ℕ × Bool)) → all ≡ m ∷ ms → frames_after
    ≡ set frames m.1.0 Free → Owns all frames → Balanced all frames ms frames_after
first-balanced all ms frames frames_after m is gave owned =
    subst (λ (a : List (ℕ × (ℕ × Bool))). Balanced a frames ms frames_after) (sym is)
    (balanced-is (m ∷ ms) ms ms frames (set frames m.1.0 Free) frames_after refl gave
    (balanced-first m ms frames (subst (λ (a : List (ℕ × (ℕ × Bool))). Owns a frames) is owned)))

pub spent : (old all : List (ℕ × (ℕ × Bool))) (frames_old frames : List Holding) → all ≡ [] → Balanced old frames_old all frames → Spent old frames_old frames
spent old all frames_old frames none balanced f =
    let empty : count_in f all ≡ 0 = ap (count_in f) none in
    omega (arith, balanced f, empty)
