-- A search among the entries of a cache, and what an edit at a place leaves of the finite map.
use Rattle.std.proofs.Common.{◌≡◌, ℕ, zero, suc, ◌+◌, ◌*◌, ◌/◌, ◌<◌, ◌≤◌, ◌^◌, List, sym, ◌∙◌, ap, refl, cond, true, false, Bool, ◌&&◌, eqb}
use Rattle.std.proofs.Common.{Result, Ok, Err, arith}
use Rattle.std.specs.Prelude.{T, nat_le}
use Rattle.std.proofs.lemmas.Bool.Decides.{nat_tests}
use native.Mathlib.Numerals.{unary_clauses}
use Rattle.std.specs.Option.{is_some}
use Rattle.std.specs.FinMap as finite
use Rattle.std.specs.FinMap.{find, is_sorted, entries-from_sorted, get-from_sorted}
use Rattle.sva_endpoint.specs.declared.cached.Translation.{Translation}
use Rattle.sva_endpoint.specs.Cache.{Key, Translations, key_cmp, smaller_first, place_of, middle_of, halvings}

-- half of what is left is left after one comparison more
pub halves : (size left : ℕ) → 0 < size → size < 2 ^ left → (less : ℕ) × (left ≡ suc less) × (size / 2 < 2 ^ less)
halves size zero some within = absurd (omega arith)
halves size (suc less) some within =
    let twice : 2 ^ suc less ≡ 2 * 2 ^ less = simp unary_clauses (omega arith) in
    (less, refl, omega arith)

-- ---- how many comparisons are left, by what the next one says

some_left : (low high : ℕ) → low < high → nat_le high low ≡ false
some_left low high some = grind (arith, nat_tests)

not_met : (is_there : Bool) (place middle : ℕ) → place + cond is_there 1 0 ≤ middle → (is_there && eqb place middle) ≡ false
not_met true place middle before = grind (arith, nat_tests)
not_met false place middle before = refl

passed : (is_there : Bool) (place middle : ℕ) → middle < place → (is_there && eqb place middle) ≡ false
passed true place middle behind = grind (arith, nat_tests)
passed false place middle behind = refl

pub halvings_below : (left less low high place : ℕ) (is_there : Bool) → left ≡ suc less → low < high → place + cond is_there 1 0 ≤ middle_of low high
    → halvings left low high place is_there ≡ suc (halvings less low (middle_of low high) place is_there)
unfolding halvings
halvings_below left less low high place is_there more some before =
    let within : place ≤ middle_of low high = omega arith in
    let holds : nat_le place (middle_of low high) ≡ true = grind (arith, nat_tests) in
    rw (more, some_left low high some, not_met is_there place (middle_of low high) before, holds) refl

pub halvings_above : (left less low high place : ℕ) (is_there : Bool) → left ≡ suc less → low < high → middle_of low high < place
    → halvings left low high place is_there ≡ suc (halvings less (middle_of low high + 1) high place is_there)
unfolding halvings
halvings_above left less low high place is_there more some behind =
    let fails : nat_le place (middle_of low high) ≡ false = grind (arith, nat_tests) in
    rw (more, some_left low high some, passed is_there place (middle_of low high) behind, fails) refl

pub halvings_met : (left less low high place : ℕ) (is_there : Bool) → left ≡ suc less → low < high → place ≡ middle_of low high → is_there ≡ true
    → halvings left low high place is_there ≡ 1
unfolding halvings
halvings_met left less low high place is_there more some same there =
    let tie : eqb place (middle_of low high) ≡ true = grind (arith, nat_tests) in
    rw (more, some_left low high some, there, tie) refl

pub halvings_none : (left low high place : ℕ) (is_there : Bool) → high ≤ low → halvings left low high place is_there ≡ 0
unfolding halvings
halvings_none zero low high place is_there none = refl
halvings_none (suc left) low high place is_there none =
    let holds : nat_le high low ≡ true = grind (arith, nat_tests) in
    rw holds refl

-- what a cache's view tells of its entries
module _ (items : List (Key × Translation)) (cache : Translations) (sorted : T (is_sorted key_cmp items)) (seen : finite.from_sorted items ≡ cache) where
  pub entries_are : finite.entries cache ≡ items
  entries_are = ap finite.entries (sym seen) ∙ entries-from_sorted key_cmp items sorted

  pub get_is : (q : Key) → finite.get cache q ≡ find key_cmp q items
  get_is q = ap (λ m. finite.get m q) (sym seen) ∙ get-from_sorted key_cmp items q sorted

  pub place_is : (q : Key) → place_of cache q ≡ smaller_first key_cmp q items
  place_is q = ap (smaller_first key_cmp q) entries_are

  pub found_is : (q : Key) → finite.contains_key cache q ≡ is_some (find key_cmp q items)
  found_is q = ap is_some (get_is q)

chosen : (b : Bool) (n : ℕ) → b ≡ true → ◌≡◌ {A = Result ℕ ℕ} (Ok n) (cond b (Ok n) (Err n))
chosen b n is = ap (λ t. cond t (Ok n) (Err n)) (sym is)

missed : (b : Bool) (n : ℕ) → b ≡ false → ◌≡◌ {A = Result ℕ ℕ} (Err n) (cond b (Ok n) (Err n))
missed b n is = ap (λ t. cond t (Ok n) (Err n)) (sym is)

module _ (items : List (Key × Translation)) (cache : Translations) (sorted : T (is_sorted key_cmp items)) (seen : finite.from_sorted items ≡ cache)
    (q : Key) where
  pub found_at : (i : ℕ) → smaller_first key_cmp q items ≡ i → is_some (find key_cmp q items) ≡ true
      → ◌≡◌ {A = Result ℕ ℕ} (Ok i) (cond (finite.contains_key cache q) (Ok (place_of cache q)) (Err (place_of cache q)))
  found_at i place there =
      ap Ok (sym place ∙ sym (place_is items cache sorted seen q))
      ∙ chosen (finite.contains_key cache q) (place_of cache q) (found_is items cache sorted seen q ∙ there)

  pub not_found_at : (i : ℕ) → smaller_first key_cmp q items ≡ i → is_some (find key_cmp q items) ≡ false
      → ◌≡◌ {A = Result ℕ ℕ} (Err i) (cond (finite.contains_key cache q) (Ok (place_of cache q)) (Err (place_of cache q)))
  not_found_at i place absent =
      ap Err (sym place ∙ sym (place_is items cache sorted seen q))
      ∙ missed (finite.contains_key cache q) (place_of cache q) (found_is items cache sorted seen q ∙ absent)

-- where nothing is left to be looked at, the key is absent and its place is there
pub closed : (b : Bool) (place low high : ℕ) → low ≤ place → place + cond b 1 0 ≤ high → high ≤ low → (place ≡ low) × (b ≡ false)
closed true place low high from to met = absurd (omega arith)
closed false place low high from to met = (omega arith, refl)
