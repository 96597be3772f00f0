-- The ITags as they are seen once completions have arrived, and how many are free.
use Rattle.std.proofs.Common.{◌≡◌, ℕ, zero, suc, ◌+◌, ◌*◌, ◌==◌, cond, count_ones, Bool, true, false, Option, Some, None, List, [], ◌∷◌, length, map}
use Rattle.std.proofs.Common.{is_none, refl, ap, ap₂, sym, ◌∙◌, arith}
use Rattle.std.specs.Prelude.{◌&&◌, if◌then◌else◌, option_map, slice_index_or, replicate}
use Rattle.std.proofs.lemmas.Bool.Decides.{nat_tests}
use Rattle.std.proofs.lemmas.Simd.{ones-mask_l_cons}
use Rattle.std.proofs.lemmas.Nat.{ones_le_self}
use lib.Lanes.{mask_l}
use Rattle.sva_itags.specs.Vector.{vector_of}
use Rattle.sva_itags.specs.Tags.{all_free, counted, after_completion, completed as tags_completed, completed_from, is_freed, freed_places, freed_vector}
use Rattle.sva_itags.specs.declared.itags.Busy.{Busy}
use Rattle.sva_itags.specs.declared.itags.Busy.TheVariants as place
use Rattle.sva_model.specs.Words.{tabulate, count_below}
use Rattle.sva_model.specs.Labels.{is_set}
use Rattle.sva_model.specs.Wire.{BusyWire}
use Rattle.sva_labels.proofs.Counting.{count_same}
use Rattle.sva_labels.proofs.Lists.{tabulate_first, tabulate_same}
use Rattle.sva_labels.specs.Moves.{completed, counting, one_more}
use Rattle.sva_labels.specs.Outcomes.{is_last_of}
use Rattle.sva_msg.specs.declared.messages.PageRequest.{PageRequest}
use Rattle.sva_queue.specs.Queue.{Queue, reset_ended}
use Rattle.sva_iommu.specs.Seen.{busy_seen, descriptor_seen, unit_seen, seen, with_unit}
use Rattle.sva_msg.specs.Seen.{page_request_seen}
use Rattle.sva_iommu.specs.Changes.{unit_reopened}
use Rattle.sva_iommu.proofs.Places.{places_seen, places_length}

-- Tables from their first entry on.

tabulate_none : {A : Type 0} (f : ℕ → A) → tabulate zero f ≡ []
unfolding tabulate
tabulate_none f = refl

count_none : (p : ℕ → Bool) → count_below zero p ≡ zero
unfolding count_below
count_none p = refl

one_and : (b : Bool) (a x y : ℕ) → x ≡ a + y → (if b then suc x else x) ≡ a + (if b then suc y else y)
one_and true a x y h = omega (arith, h)
one_and false a x y h = h

first_one : (b : Bool) → (if b then suc zero else zero) ≡ cond b 1 0 + 0
first_one true = refl
first_one false = refl

pub count_cons : (n : ℕ) (p : ℕ → Bool) → count_below (suc n) p ≡ cond (p 0) 1 0 + count_below n (λ k. p (suc k))
unfolding count_below
count_cons zero p = first_one (p 0)
count_cons (suc n) p = one_and (p (suc n)) (cond (p 0) 1 0) (count_below (suc n) p) (count_below n (λ k. p (suc k))) (count_cons n p)

-- One ITag.

counted_seen : (b : Bool) (c a : ℕ)
    → option_map busy_seen (if b then None else Some (place.Counting c a)) ≡ (if b then None else Some (BusyWire.Counting c a))
counted_seen true c a = refl
counted_seen false c a = refl

next_seen : (c a : ℕ) → option_map busy_seen (counted c (a + 1)) ≡ counting c (suc a)
next_seen c a =
    let next : a + 1 ≡ suc a = omega arith in
    ap (λ n. option_map busy_seen (counted c n)) next ∙ counted_seen (suc a == c) c (suc a)

one_seen : (named : Bool) (c : ℕ) (tag : Option Busy)
    → option_map busy_seen (after_completion named c tag) ≡ (if named then one_more c (option_map busy_seen tag) else option_map busy_seen tag)
one_seen true c None = refl
one_seen false c None = refl
one_seen false c (Some b) = refl
one_seen true c (Some place.Fresh) = counted_seen (1 == c) c 1
one_seen true c (Some (place.Counting fixed a)) = next_seen fixed a

is_counted : (b : Bool) (c a : ℕ) → is_none (if b then None else Some (place.Counting c a)) ≡ b
is_counted true c a = refl
is_counted false c a = refl

turned : (c : ℕ) → (1 == c) ≡ (c == 1)
turned c = grind (arith, nat_tests)

freed_one : (named : Bool) (c : ℕ) (tag : Option Busy)
    → is_freed tag (after_completion named c tag) ≡ (named && is_last_of c (option_map busy_seen tag))
freed_one true c None = refl
freed_one false c None = refl
freed_one false c (Some b) = refl
freed_one true c (Some place.Fresh) = is_counted (1 == c) c 1 ∙ turned c
freed_one true c (Some (place.Counting fixed a)) =
    let next : a + 1 ≡ suc a = omega arith in
    is_counted (a + 1 == fixed) fixed (a + 1) ∙ ap (λ n. n == fixed) next

-- All of them; the first is that of the given ITag.

abbrev completed_at : (tag vector count : ℕ) → List (Option BusyWire) → ℕ → Option BusyWire
completed_at tag v c busy t = if is_set v (tag + t) then one_more c (slice_index_or busy t None) else slice_index_or busy t None

abbrev freed_at : (tag vector count : ℕ) → List (Option BusyWire) → ℕ → Bool
freed_at tag v c busy t = is_set v (tag + t) && is_last_of c (slice_index_or busy t None)

pub completed_seen : (tag v c : ℕ) (tags : List (Option Busy)) (n : ℕ) → length tags ≡ n
    → places_seen (completed_from tag v c tags) ≡ tabulate n (completed_at tag v c (places_seen tags))
completed_seen tag v c [] zero len = sym (tabulate_none (completed_at tag v c []))
completed_seen tag v c [] (suc n) len = absurd (omega (arith, len))
completed_seen tag v c (x ∷ tags) zero len = absurd (omega (arith, len))
completed_seen tag v c (x ∷ tags) (suc n) len =
    let table = completed_at tag v c (places_seen (x ∷ tags)) in
    let here : tag + 0 ≡ tag = omega arith in
    let first : option_map busy_seen (after_completion (is_set v tag) c x) ≡ table 0 =
    one_seen (is_set v tag) c x ∙ ap (λ k. if is_set v k then one_more c (option_map busy_seen x) else option_map busy_seen x) (sym here) in
    let others : tabulate n (completed_at (suc tag) v c (places_seen tags)) ≡ tabulate n (λ k. table (suc k)) =
    tabulate_same n (completed_at (suc tag) v c (places_seen tags)) (λ k. table (suc k))
    (λ k l. let next : suc tag + k ≡ tag + suc k = omega arith in
    ap (λ j. if is_set v j then one_more c (slice_index_or (places_seen tags) k None) else slice_index_or (places_seen tags) k None) next) in
    ap₂ (λ y ys. y ∷ ys) first (completed_seen (suc tag) v c tags n (omega (arith, len)) ∙ others) ∙ sym (tabulate_first n table)

vector_mask : (bs : List Bool) → vector_of bs ≡ mask_l bs
vector_mask [] = refl
vector_mask (true ∷ bs) = ap (λ n. 1 + 2 * n) (vector_mask bs)
vector_mask (false ∷ bs) = ap (λ n. 0 + 2 * n) (vector_mask bs)

ones_cons : (b : Bool) (bs : List Bool) → count_ones (vector_of (b ∷ bs)) ≡ cond b 1 0 + count_ones (vector_of bs)
ones_cons b bs =
    ap count_ones (vector_mask (b ∷ bs)) ∙ ones-mask_l_cons b bs ∙ ap (λ n. cond b 1 0 + count_ones n) (sym (vector_mask bs))

none_set : count_ones 0 ≡ 0
none_set = omega (arith, ones_le_self 0)

pub freed_seen : (tag v c : ℕ) (tags : List (Option Busy)) (n : ℕ) → length tags ≡ n
    → count_ones (vector_of (freed_places tags (completed_from tag v c tags))) ≡ count_below n (freed_at tag v c (places_seen tags))
freed_seen tag v c [] zero len = none_set ∙ sym (count_none (freed_at tag v c []))
freed_seen tag v c [] (suc n) len = absurd (omega (arith, len))
freed_seen tag v c (x ∷ tags) zero len = absurd (omega (arith, len))
freed_seen tag v c (x ∷ tags) (suc n) len =
    let test = freed_at tag v c (places_seen (x ∷ tags)) in
    let here : tag + 0 ≡ tag = omega arith in
    let first : is_freed x (after_completion (is_set v tag) c x) ≡ test 0 =
    freed_one (is_set v tag) c x ∙ ap (λ k. is_set v k && is_last_of c (option_map busy_seen x)) (sym here) in
    let others : count_below n (freed_at (suc tag) v c (places_seen tags)) ≡ count_below n (λ k. test (suc k)) =
    count_same n (freed_at (suc tag) v c (places_seen tags)) (λ k. test (suc k))
    (λ k l. let next : suc tag + k ≡ tag + suc k = omega arith in ap (λ j. is_set v j && is_last_of c (slice_index_or (places_seen tags) k None)) next) in
    ones_cons (is_freed x (after_completion (is_set v tag) c x)) (freed_places tags (completed_from (suc tag) v c tags))
    ∙ ap₂ (λ b m. cond b 1 0 + m) first (freed_seen (suc tag) v c tags n (omega (arith, len)) ∙ others)
    ∙ sym (count_cons n test)

-- None is busy.

abbrev to_free : Option BusyWire → Option BusyWire
to_free tag = None

all_free_seen : (busy : List (Option BusyWire)) → map to_free busy ≡ replicate (length busy) None
all_free_seen [] = refl
all_free_seen (x ∷ busy) = ap (λ xs. None ∷ xs) (all_free_seen busy)

pub free_seen : (tags : List (Option Busy)) → length tags ≡ 32 → places_seen all_free ≡ map to_free (places_seen tags)
free_seen tags len = sym (all_free_seen (places_seen tags) ∙ ap (λ n. replicate n None) (places_length tags ∙ len))

-- What is left of a unit.

pub completed_is : (v c : ℕ) (tags : List (Option Busy)) → length tags ≡ 32 → places_seen (tags_completed v c tags) ≡ completed v c (places_seen tags)
completed_is v c tags len =
    let busy = places_seen tags in
    completed_seen 0 v c tags 32 len
    ∙ tabulate_same 32 (completed_at 0 v c busy) (λ t. if is_set v t then one_more c (slice_index_or busy t None) else slice_index_or busy t None)
    (λ t l. let same : 0 + t ≡ t = omega arith in
    ap (λ j. if is_set v j then one_more c (slice_index_or busy t None) else slice_index_or busy t None) same)

pub freed_is : (v c : ℕ) (tags : List (Option Busy)) → length tags ≡ 32
    → count_ones (freed_vector v c tags) ≡ count_below 32 (λ t. is_set v t && is_last_of c (slice_index_or (places_seen tags) t None))
freed_is v c tags len =
    let busy = places_seen tags in
    freed_seen 0 v c tags 32 len
    ∙ count_same 32 (freed_at 0 v c busy) (λ t. is_set v t && is_last_of c (slice_index_or busy t None))
    (λ t l. let same : 0 + t ≡ t = omega arith in ap (λ j. is_set v j && is_last_of c (slice_index_or busy t None)) same)

pub reopened_is : (q : Queue) (requests : List PageRequest) → length q.tags ≡ 32 → q.is_open ≡ false
    → seen (reset_ended q) requests ≡ with_unit (seen q requests) (unit_reopened (unit_seen q))
reopened_is q requests len closed =
    let busy = free_seen q.tags len in
    let front : (if q.is_open then q.front else q.back) ≡ q.back = ap (λ b. if b then q.front else q.back) closed in
    λ i. record {
      unit = record { is_open = true; queue = map descriptor_seen q.descriptors; busy = busy i; front = front i; waits_end = q.back };
      page_queue = map page_request_seen requests;
    }
