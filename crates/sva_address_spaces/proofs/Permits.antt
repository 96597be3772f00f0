-- What an unmapping tests of the pages of its space.
use Rattle.std.proofs.Common.{◌≡◌, ℕ, ◌+◌, ◌*◌, ◌%◌, ◌^◌, ◌<◌, ◌≤◌, ◌==◌, Bool, true, false, List, Option, Some, None, [], ◌∷◌, refl, sym, ap, subst, ◌∙◌}
use Rattle.std.proofs.Common.{arith, if◌then◌else◌}
use Rattle.std.specs.Prelude.{not, ◌&&◌, nat_lt, nat_le, is_some, Result, Ok, Err, IsOk}
use Rattle.std.proofs.lemmas.Bool.Decides.{nat_tests}
use Rattle.std.proofs.Math.Nat.{pow-le-pow_right}
use Rattle.std.proofs.lemmas.Nat.{one_shl}
use Rattle.sva_step.specs.declared.refusals.Refusal.{Refusal}
use Rattle.sva_step.specs.declared.refusals.Refusal.TheVariants as refusal
use Rattle.sva_model.specs.Words.{any_below, all_below, count_below}
use Rattle.sva_model.specs.Refusals.{Cause}
use Rattle.sva_model.specs.Wire.{PageWire}
use Rattle.sva_labels.specs.Finding.{is_mapped, or_no_pages}
use Rattle.sva_address_spaces.specs.Pieces.{verdict, are_mapped, is_some_mapped, count_mapped}
use Rattle.sva_labels.specs.Causes.{page_causes_of_unmap, page_causes_of_unmap_range}

-- Pages in a row.

are_mapped-is : (pages : List PageWire) (q n : ℕ) (b : Bool) → are_mapped pages q n ≡ b → all_below n (λ j. is_mapped pages (q + j)) ≡ b
unfolding are_mapped
are_mapped-is pages q n b is = is

mapped-are : (pages : List PageWire) (q n : ℕ) (b : Bool) → all_below n (λ j. is_mapped pages (q + j)) ≡ b → are_mapped pages q n ≡ b
unfolding are_mapped
mapped-are pages q n b is = is

unmap-is : (pages : List PageWire) (q n : ℕ) (a b c : Bool) → (nat_le 1 n && nat_le n 48) ≡ a → nat_lt (2 ^ 36) (q + n) ≡ b
    → all_below n (λ j. is_mapped pages (q + j)) ≡ c
    → verdict (page_causes_of_unmap pages q n) ≡ verdict ((not a, refusal.BadCount) ∷ (b, refusal.PageRange) ∷ (not c, refusal.NotMapped) ∷ [])
unmap-is pages q n a b c count past there = rw (count, past, there) refl

few : (n : ℕ) → 1 ≤ n → n ≤ 48 → (nat_le 1 n && nat_le n 48) ≡ true
few n some most = grind (arith, nat_tests)

within : (q n : ℕ) → q + n ≤ 2 ^ 36 → nat_lt (2 ^ 36) (q + n) ≡ false
within q n h = grind (arith, nat_tests)

pub some-unmapped : (pages : List PageWire) (q n : ℕ) → 1 ≤ n → n ≤ 48 → q + n ≤ 2 ^ 36 → are_mapped pages q n ≡ false → Err refusal.NotMapped
    ≡ verdict (page_causes_of_unmap pages q n)
some-unmapped pages q n some most range missing =
    sym (unmap-is pages q n true false false (few n some most) (within q n range) (are_mapped-is pages q n false missing))

pub all-mapped : (pages : List PageWire) (q n : ℕ) → 1 ≤ n → n ≤ 48 → q + n ≤ 2 ^ 36 → are_mapped pages q n ≡ true
    → Ok tt ≡ verdict (page_causes_of_unmap pages q n)
all-mapped pages q n some most range there =
    sym (unmap-is pages q n true false true (few n some most) (within q n range) (are_mapped-is pages q n true there))

pub record MayUnmap (pages : List PageWire) (page count : ℕ) : Type 0 where
  pub few : count ≤ 48
  pub range : page + count ≤ 2 ^ 36
  pub mapped : are_mapped pages page count ≡ true

pub may_unmap-tests : (pages : List PageWire) (q n : ℕ) → IsOk (verdict (page_causes_of_unmap pages q n)) → MayUnmap pages q n
may_unmap-tests pages q n may =
    go (nat_le 1 n && nat_le n 48) (nat_lt (2 ^ 36) (q + n)) (all_below n (λ j. is_mapped pages (q + j))) refl refl refl
    (subst (λ (r : Result (Unit {0}) Refusal). IsOk r) (unmap-is pages q n _ _ _ refl refl refl) may)
  where
    most : (n : ℕ) → (nat_le 1 n && nat_le n 48) ≡ true → n ≤ 48
    most n is = grind (arith, nat_tests)

    not_past : (q n : ℕ) → nat_lt (2 ^ 36) (q + n) ≡ false → q + n ≤ 2 ^ 36
    not_past q n is = grind (arith, nat_tests)

    go : (a b c : Bool) → (nat_le 1 n && nat_le n 48) ≡ a → nat_lt (2 ^ 36) (q + n) ≡ b → all_below n (λ j. is_mapped pages (q + j)) ≡ c
        → IsOk (verdict ((not a, refusal.BadCount) ∷ (b, refusal.PageRange) ∷ (not c, refusal.NotMapped) ∷ [])) → MayUnmap pages q n
    go true false true count past there may = record { few = most n count; range = not_past q n past; mapped = mapped-are pages q n true there }
    go false b c count past there may = absurd (cc)
    go true true c count past there may = absurd (cc)
    go true false false count past there may = absurd (cc)

-- A range.

-- 2^order by a shift
pub size : (k : ℕ) → k ≤ 9 → 1 * 2 ^ k % 2 ^ 64 ≡ 2 ^ k
size k h = one_shl k 64 (omega arith)

pub size-most : (k : ℕ) → k ≤ 9 → 1 * 2 ^ k % 2 ^ 64 ≤ 512
size-most k h =
    let two : 0 < 2 = omega arith in
    rw (size k h) (pow-le-pow_right {n = 2} two h)

some_mapped-is : (pages : List PageWire) (q n : ℕ) (b : Bool) → is_some_mapped pages q n ≡ b → any_below n (λ j. is_mapped pages (q + j)) ≡ b
unfolding is_some_mapped
some_mapped-is pages q n b is = is

range-is : (pages : List PageWire) (q k : ℕ) (a b c d : Bool) → nat_lt 9 k ≡ a → nat_lt (2 ^ 36) (q + 2 ^ k) ≡ b → (q % 2 ^ k == 0) ≡ c
    → any_below (2 ^ k) (λ j. is_mapped pages (q + j)) ≡ d
    → verdict (page_causes_of_unmap_range pages q k)
    ≡ verdict ((a, refusal.BadOrder) ∷ (b, refusal.PageRange) ∷ (not c, refusal.NotAligned) ∷ (not d, refusal.NothingMapped) ∷ [])
range-is pages q k a b c d small past aligned some = rw (small, past, aligned, some) refl

-- the first three tests passed
pub range-tested : (pages : List PageWire) (q k n : ℕ) (d : Bool) → k ≤ 9 → n ≡ 2 ^ k → q + n ≤ 2 ^ 36 → q % n ≡ 0 → is_some_mapped pages q n ≡ d
    → verdict (page_causes_of_unmap_range pages q k) ≡ verdict ((not d, refusal.NothingMapped) ∷ [])
range-tested pages q k n d small is range aligned some =
    range-is pages q k false false true d (not_past k small) (inside q n (2 ^ k) is range) (is_zero (q % 2 ^ k) (sym (ap (λ m. q % m) is) ∙ aligned))
    (some_mapped-is pages q (2 ^ k) d (sym (ap (is_some_mapped pages q) is) ∙ some))
  where
    not_past : (k : ℕ) → k ≤ 9 → nat_lt 9 k ≡ false
    not_past k h = grind (arith, nat_tests)

    inside : (q n m : ℕ) → n ≡ m → q + n ≤ 2 ^ 36 → nat_lt (2 ^ 36) (q + m) ≡ false
    inside q n m e h = grind (arith, nat_tests)

    is_zero : (k : ℕ) → k ≡ 0 → (k == 0) ≡ true
    is_zero k e = grind (arith, nat_tests)

pub record MayUnmapRange (page order : ℕ) : Type 0 where
  pub small : order ≤ 9
  pub range : page + 2 ^ order ≤ 2 ^ 36

pub may_unmap_range-tests : (pages : List PageWire) (q k : ℕ) → IsOk (verdict (page_causes_of_unmap_range pages q k)) → MayUnmapRange q k
may_unmap_range-tests pages q k may = go (nat_lt 9 k) (nat_lt (2 ^ 36) (q + 2 ^ k)) refl refl may
  where
    not_past : (k : ℕ) → nat_lt 9 k ≡ false → k ≤ 9
    not_past k is = grind (arith, nat_tests)

    inside : (q n : ℕ) → nat_lt (2 ^ 36) (q + n) ≡ false → q + n ≤ 2 ^ 36
    inside q n is = grind (arith, nat_tests)

    go : (a b : Bool) → nat_lt 9 k ≡ a → nat_lt (2 ^ 36) (q + 2 ^ k) ≡ b
        → IsOk (verdict ((a, refusal.BadOrder) ∷ (b, refusal.PageRange) ∷ (not (q % 2 ^ k == 0), refusal.NotAligned)
        ∷ (not (any_below (2 ^ k) (λ j. is_mapped pages (q + j))), refusal.NothingMapped) ∷ [])) → MayUnmapRange q k
    go false false small past may = record { small = not_past k small; range = inside q (2 ^ k) past }
    go true b small past may = absurd (cc)
    go false true small past may = absurd (cc)

pub count_mapped-is : (pages : List PageWire) (q n m : ℕ) → n ≡ m → count_mapped pages q n ≡ count_below m (λ j. is_mapped pages (q + j))
unfolding count_mapped
count_mapped-is pages q n m is = ap (λ k. count_below k (λ j. is_mapped pages (q + j))) is

-- In the space of a number.

abbrev pub in_space : (List PageWire → List Cause) → Option (List PageWire) → Result (Unit {0}) Refusal
in_space causes pages = if not (is_some pages) then Err refusal.NoSuchSpace else verdict (causes (or_no_pages pages))

pub no_space : (causes : List PageWire → List Cause) (pages : Option (List PageWire)) → pages ≡ None → Err refusal.NoSuchSpace ≡ in_space causes pages
no_space causes pages none = sym (ap (in_space causes) none)

pub a_space : (causes : List PageWire → List Cause) (found : Option (List PageWire)) (pages : List PageWire) → found ≡ Some pages
    → verdict (causes pages) ≡ in_space causes found
a_space causes found pages there = sym (ap (in_space causes) there)
