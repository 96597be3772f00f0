-- Completions of invalidations, seen: by the bits of an ITag Vector.
use Rattle.std.proofs.Common.{◌≡◌, refl, ap, sym, ◌∙◌, ℕ, zero, suc, ◌+◌, ◌<◌, ◌^◌, Bool, true, false, arith}
use Rattle.std.specs.Prelude.{◌&&◌, ◌||◌, not, ◌==◌, nat_lt, nat_le, if◌then◌else◌, is_some, is_none, Option, Some, None, option_map, List, [], ◌∷◌}
use Rattle.std.specs.Prelude.{map, length, slice_index_or}
use Rattle.std.specs.Int.{bit_at}
use Rattle.std.specs.List.{list_any, list_all, enumerate_from}
use Rattle.std.proofs.lemmas.Bool.Decides.{nat_tests}
use Rattle.std.proofs.lemmas.Nat.Bits.{bit_at-zero, bit_at-lt, same_from_bits_below}
use Rattle.sva_step.specs.declared.refusals.Refusal.TheVariants as refusal
use Rattle.sva_model.specs.Words.{any_below, tabulate}
use Rattle.sva_model.specs.Labels.{is_set, names_none}
use Rattle.sva_labels.specs.Finding.{taken_at, waits_for_use}
use Rattle.sva_labels.specs.Moves as moves
use Rattle.sva_itags.specs.Vector.{is_named}
use Rattle.sva_endpoint.specs.declared.taken_table.Taken.{Taken}
use Rattle.sva_endpoint.specs.Taken.{are_pending, is_one_waiting, without_named, waits}
use Rattle.sva_endpoint.specs.Tables.{Tables}
use Rattle.sva_endpoint.specs.Laws.{IsSound}
use Rattle.sva_labels.proofs.Words.{any_below-false}
use Rattle.sva_labels.proofs.Tests.{none_before, one_shifted}
use Rattle.sva_labels.proofs.Lists.{tabulate_same}
use Rattle.sva_parts_by_labels.specs.Device.{taken_seen, device_seen}
use Rattle.sva_parts_by_labels.specs.DeviceLaws.{FinishIsSeen}
use Rattle.sva_parts_by_labels.proofs.Tables.{seen_at, map_twice}
pub use Rattle.sva_labels.proofs.Lists.{tabulate_first as tabulate_front}

-- Searches and tables from their first number on.

or_front : (a b c : Bool) → (if b then true else (a || c)) ≡ (a || (if b then true else c))
or_front true true c = refl
or_front true false c = refl
or_front false b c = refl

any_front : (n : ℕ) (p : ℕ → Bool) → any_below (suc n) p ≡ (p 0 || any_below n (λ k. p (suc k)))
unfolding any_below
any_front zero p = either (p 0)
  where
    either : (b : Bool) → (if b then true else false) ≡ (b || false)
    either true = refl
    either false = refl
any_front (suc n) p = ap (λ (b : Bool). if p (suc n) then true else b) (any_front n p) ∙ or_front (p 0) (p (suc n)) (any_below n (λ k. p (suc k)))

any_same : (n : ℕ) (p q : ℕ → Bool) → ((k : ℕ) → p k ≡ q k) → any_below n p ≡ any_below n q
unfolding any_below
any_same zero p q h = refl
any_same (suc n) p q h = λ i. if h n i then true else any_same n p q h i

any_numbered : {A : Type 0} (p : ℕ → Option A → Bool) (n : ℕ) (xs : List (Option A))
    → list_any (λ place. p place.0 place.1) (enumerate_from n xs) ≡ any_below (length xs) (λ k. p (n + k) (slice_index_or xs k None))
unfolding any_below
any_numbered p n [] = refl
any_numbered p n (x ∷ xs) =
    let first : n ≡ n + 0 = omega arith in
    (λ i. p (first i) x || any_numbered p (n + 1) xs i)
    ∙ ap (λ (b : Bool). p (n + 0) x || b)
    (any_same (length xs) (λ k. p (n + 1 + k) (slice_index_or xs k None)) (λ k. p (n + suc k) (slice_index_or xs k None))
    (λ k. ap (λ m. p m (slice_index_or xs k None)) (one_shifted n k)))
    ∙ sym (any_front (length xs) (λ k. p (n + k) (slice_index_or (x ∷ xs) k None)))

map_numbered : {A B : Type 0} (f : ℕ → Option A → B) (n : ℕ) (xs : List (Option A))
    → map (λ place. f place.0 place.1) (enumerate_from n xs) ≡ tabulate (length xs) (λ k. f (n + k) (slice_index_or xs k None))
unfolding tabulate
map_numbered f n [] = refl
map_numbered f n (x ∷ xs) =
    let first : n ≡ n + 0 = omega arith in
    (λ i. f (first i) x ∷ map_numbered f (n + 1) xs i)
    ∙ ap (λ l. f (n + 0) x ∷ l)
    (tabulate_same (length xs) (λ k. f (n + 1 + k) (slice_index_or xs k None)) (λ k. f (n + suc k) (slice_index_or xs k None))
    (λ k l. ap (λ m. f m (slice_index_or xs k None)) (one_shifted n k)))
    ∙ sym (tabulate_front (length xs) (λ k. f (n + k) (slice_index_or (x ∷ xs) k None)))

any_at : {A : Type 0} (p : ℕ → Option A → Bool) (xs : List (Option A))
    → list_any (λ place. p place.0 place.1) (enumerate_from 0 xs) ≡ any_below (length xs) (λ k. p k (slice_index_or xs k None))
any_at p xs =
    any_numbered p 0 xs
    ∙ any_same (length xs) (λ k. p (0 + k) (slice_index_or xs k None)) (λ k. p k (slice_index_or xs k None))
    (λ k. ap (λ m. p m (slice_index_or xs k None)) (none_before k))

map_at : {A B : Type 0} (f : ℕ → Option A → B) (xs : List (Option A))
    → map (λ place. f place.0 place.1) (enumerate_from 0 xs) ≡ tabulate (length xs) (λ k. f k (slice_index_or xs k None))
map_at f xs =
    map_numbered f 0 xs
    ∙ tabulate_same (length xs) (λ k. f (0 + k) (slice_index_or xs k None)) (λ k. f k (slice_index_or xs k None))
    (λ k l. ap (λ m. f m (slice_index_or xs k None)) (none_before k))

-- The tests of a vector.

no_bit : (n : ℕ) → n < 2 → (n == 1) ≡ false → n ≡ 0
no_bit n l h = grind (arith, nat_tests)

no_bits : (v : ℕ) → v < 2 ^ 32 → any_below 32 (is_set v) ≡ false → v ≡ 0
no_bits v l h =
    same_from_bits_below 32 v 0 l (omega arith)
    (λ i k. no_bit (bit_at v i) (bit_at-lt v i) (any_below-false 32 (is_set v) h i k) ∙ sym (bit_at-zero i))

none_of_zero : (n : ℕ) → any_below n (is_set 0) ≡ false
unfolding any_below
none_of_zero zero = refl
none_of_zero (suc n) = ap (λ b. if b == 1 then true else any_below n (is_set 0)) (bit_at-zero n) ∙ none_of_zero n

names_none_seen : (v : ℕ) → v < 2 ^ 32 → (v == 0) ≡ names_none v
names_none_seen v l = go (any_below 32 (is_set v)) refl
  where
    zero_is : v ≡ 0 → (v == 0) ≡ true
    zero_is h = grind (arith, nat_tests)

    other_is : (v ≡ 0 → any_below 32 (is_set v) ≡ false) → any_below 32 (is_set v) ≡ true → (b : Bool) → (v == 0) ≡ b → b ≡ false
    other_is f h false k = refl
    other_is f h true k =
        let is : v ≡ 0 = grind (arith, nat_tests) in
        absurd (cc (sym h ∙ f is))

    go : (b : Bool) → any_below 32 (is_set v) ≡ b → (v == 0) ≡ not b
    go false h = zero_is (no_bits v l h)
    go true h = other_is (λ z. ap (λ n. any_below 32 (is_set n)) z ∙ none_of_zero 32) h (v == 0) refl

not_all : {A : Type 0} (p q : A → Bool) → ((a : A) → not (p a) ≡ q a) → (xs : List A) → not (list_all p xs) ≡ list_any q xs
not_all p q h [] = refl
not_all p q h (x ∷ xs) = and_not (p x) (list_all p xs) ∙ (λ i. h x i || not_all p q h xs i)
  where
    and_not : (a b : Bool) → not (a && b) ≡ (not a || not b)
    and_not true b = refl
    and_not false b = refl

missing : {A : Type 0} (named : Bool) (o : Option A) → not (not named || is_some o) ≡ (named && is_none o)
missing true None = refl
missing true (Some a) = refl
missing false o = refl

none_taken_seen : (o : Option Taken) → is_none o ≡ is_none (option_map taken_seen o)
none_taken_seen None = refl
none_taken_seen (Some taken) = refl

waits_seen : (o : Option Taken) → waits o ≡ waits_for_use (option_map taken_seen o)
waits_seen None = refl
waits_seen (Some taken) = refl

at_itag : (s : Tables) (t : ℕ) → taken_at (device_seen s) t ≡ option_map taken_seen (slice_index_or s.taken t None)
at_itag s t = seen_at (option_map taken_seen) s.taken t None

pending_seen : (s : Tables) (v : ℕ) → length s.taken ≡ 32 → not (are_pending v s.taken)
    ≡ any_below 32 (λ t. is_set v t && is_none (taken_at (device_seen s) t))
pending_seen s v h =
    not_all (λ place. not (is_named v place.0) || is_some place.1) (λ place. is_named v place.0 && is_none place.1)
    (λ place. missing (is_named v place.0) place.1) (enumerate_from 0 s.taken)
    ∙ any_at (λ t o. is_named v t && is_none o) s.taken
    ∙ ap (λ n. any_below n (λ t. is_named v t && is_none (slice_index_or s.taken t None))) h
    ∙ any_same 32 (λ t. is_named v t && is_none (slice_index_or s.taken t None)) (λ t. is_set v t && is_none (taken_at (device_seen s) t))
    (λ t. ap (λ (b : Bool). is_set v t && b) (none_taken_seen (slice_index_or s.taken t None) ∙ ap is_none (sym (at_itag s t))))

waiting_seen : (s : Tables) (v : ℕ) → length s.taken ≡ 32
    → is_one_waiting v s.taken ≡ any_below 32 (λ t. is_set v t && waits_for_use (taken_at (device_seen s) t))
waiting_seen s v h =
    any_at (λ t o. is_named v t && waits o) s.taken
    ∙ ap (λ n. any_below n (λ t. is_named v t && waits (slice_index_or s.taken t None))) h
    ∙ any_same 32 (λ t. is_named v t && waits (slice_index_or s.taken t None)) (λ t. is_set v t && waits_for_use (taken_at (device_seen s) t))
    (λ t. ap (λ (b : Bool). is_set v t && b) (waits_seen (slice_index_or s.taken t None) ∙ ap waits_for_use (sym (at_itag s t))))

count_seen : (n : ℕ) → ((n == 0) || nat_lt 8 n) ≡ not (nat_le 1 n && nat_le n 8)
count_seen n = grind (arith, nat_tests)

unnamed_seen : (b : Bool) (o : Option Taken) → option_map taken_seen (if b then None else o) ≡ (if b then None else option_map taken_seen o)
unnamed_seen true o = refl
unnamed_seen false o = refl

left_seen : (s : Tables) (v : ℕ) → length s.taken ≡ 32 → map (option_map taken_seen) (without_named v s.taken) ≡ moves.without_named v (device_seen s).taken
left_seen s v h =
    map_twice (λ place. if is_named v place.0 then None else place.1) (option_map taken_seen) (enumerate_from 0 s.taken)
    ∙ map_at (λ t o. option_map taken_seen (if is_named v t then None else o)) s.taken
    ∙ ap (λ n. tabulate n (λ t. option_map taken_seen (if is_named v t then None else slice_index_or s.taken t None))) h
    ∙ tabulate_same 32 (λ t. option_map taken_seen (if is_named v t then None else slice_index_or s.taken t None))
    (λ t. if is_set v t then None else taken_at (device_seen s) t)
    (λ t l. unnamed_seen (is_named v t) (slice_index_or s.taken t None) ∙ ap (λ o. if is_set v t then None else o) (sym (at_itag s t)))

pub finish_is_seen : (s : Tables) (v n : ℕ) → v < 2 ^ 32 → IsSound s → FinishIsSeen s v n
finish_is_seen s v n l h =
    let none = names_none_seen v l in
    let pending = pending_seen s v h.taken in
    let waiting = waiting_seen s v h.taken in
    let count = count_seen n in
    record {
      refusals = λ i. (none i || pending i, refusal.NotPending) ∷ (waiting i, refusal.InUse) ∷ (count i, refusal.BadCount) ∷ [];
      after = λ i. record (device_seen s) { taken = left_seen s v h.taken i };
    }
