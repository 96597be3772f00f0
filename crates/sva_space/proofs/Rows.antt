-- The mapped pages of a range one after another: the first of them, and those behind a page.
use Rattle.std.proofs.Common.{◌≡◌, ◌≢◌, ℕ, ◌+◌, ◌<◌, ◌≤◌, nat_lt, Bool, true, false, inl, inr, Some, None}
use Rattle.std.proofs.Common.{List, [], ◌∷◌, refl, sym, ◌∙◌, ap, subst, arith}
use Rattle.std.specs.Prelude.{find}
use Rattle.std.specs.BTreeMap.{is_at}
use Rattle.std.specs.Ordering.{nat_cmp}
use Rattle.std.proofs.lemmas.Bool.{cases_Bool, cases_eq, ne_eqb}
use Rattle.std.proofs.lemmas.Bool.Decides.{nat_tests}
use Rattle.sva_space.specs.Pages.{IsRising, mapping_at, without_page, is_between}
use Rattle.sva_space.proofs.Mappings.{AllAbove, is_less, at_page, at_itself, above_others, rising_tail, rising_head}
use Rattle.sva_space.proofs.Ranges.{Mapping, is_behind, is_in_range, is_there, lowest_found}

-- a page that isn't mapped can't be taken out
pub without_absent : (page : ℕ) (ms : List Mapping) → mapping_at ms page ≡ None → without_page ms page ≡ ms
without_absent page [] none = refl
without_absent page (x ∷ ms) none =
    elim (cases_Bool (is_at (nat_cmp page) x.0)) [
      | inl e ↦ absurd (let found : Some x.1 ≡ None = rw e at none in cc)
      | inr e ↦
          let rest : mapping_at ms page ≡ None = rw e at none in
          rw e (ap (λ (l : List Mapping). x ∷ l) (without_absent page ms rest))
    ]

-- where the first page of a range is mapped, it is found
pub first_mapped : (first end : ℕ) (value : ℕ × Bool) (ms : List Mapping) → IsRising ms → first < end
    → mapping_at ms first ≡ Some value → find (is_between first end) ms ≡ Some (first, value)
first_mapped first end value [] rising below there = absurd (cc)
first_mapped first end value (x ∷ ms) rising below there =
    elim (cases_eq x.0 first) [
      | inl same ↦
          let inside : is_between first end x ≡ true =
          is_in_range first end x (omega (arith, same)) (omega (arith, same, below)) in
          let own : x.1 ≡ value = cc (sym (is_there x first ms same) ∙ there) in
          rw inside (λ i. Some (same i, own i))
      | inr other ↦
          let behind : mapping_at ms first ≡ Some value = sym (is_behind x first ms other) ∙ there in
          let before : x.0 < first = above_others x.0 ms (rising_head x ms rising) first value behind in
          let low : nat_lt x.0 first ≡ true = grind (arith, nat_tests) in
          rw low (first_mapped first end value ms (rising_tail x ms rising) below behind)
    ]

-- where none of a range is below a page, the others are from there on
pub found_behind : (first next end : ℕ) (ms : List Mapping) → first ≤ next → find (is_between first next) ms ≡ None
    → find (is_between first end) ms ≡ find (is_between next end) ms
found_behind first next end [] low none = refl
found_behind first next end (x ∷ ms) low none =
    elim (cases_Bool (nat_lt x.0 first)) [
      | inl a ↦
          let b : nat_lt x.0 next ≡ true = grind (arith, nat_tests) in
          let rest : find (is_between first next) ms ≡ None = rw a at none in
          rw (a, b) (found_behind first next end ms low rest)
      | inr a ↦ elim (cases_Bool (nat_lt x.0 next)) [
        | inl b ↦ absurd (let found : Some x ≡ None = rw (a, b) at none in cc)
        | inr b ↦
            let rest : find (is_between first next) ms ≡ None = rw (a, b) at none in
            elim (cases_Bool (nat_lt x.0 end)) [
              | inl d ↦ rw (a, b, d) refl
              | inr d ↦ rw (a, b, d) (found_behind first next end ms low rest)
            ]
      ]
    ]

-- none of pages that are all above one is up to that one
none_up_to : (first end page : ℕ) (ms : List Mapping) → end ≤ page + 1 → AllAbove page ms
    → find (is_between first end) ms ≡ None
none_up_to first end page [] low all = refl
none_up_to first end page (x ∷ ms) low all =
    let above : page < x.0 = is_less page x.0 all.0 in
    let past : nat_lt x.0 end ≡ false = grind (arith, nat_tests) in
    elim (cases_Bool (nat_lt x.0 first)) [
      | inl e ↦ rw e (none_up_to first end page ms low all.1)
      | inr e ↦ rw (e, past) (none_up_to first end page ms low all.1)
    ]

-- a page before the lowest one of a range is before the range
before_range : (first end : ℕ) (x m : Mapping) (ms : List Mapping) → IsRising (x ∷ ms) → is_between first end x ≡ false
    → find (is_between first end) ms ≡ Some m → (x.0 < m.0) × (nat_lt x.0 first ≡ true)
before_range first end x m ms rising outside found =
    let lowest = lowest_found first end ms m (rising_tail x ms rising) found in
    let before : x.0 < m.0 = above_others x.0 ms (rising_head x ms rising) m.0 m.1 lowest.mapped in
    let below : nat_lt x.0 end ≡ true = let high = lowest.below_end in grind (arith, nat_tests) in
    (before, by_test (nat_lt x.0 first) refl below)
  where
    by_test : (b : Bool) → nat_lt x.0 first ≡ b → nat_lt x.0 end ≡ true → nat_lt x.0 first ≡ true
    by_test true e below = e
    by_test false e below = absurd (let no : true ≡ false = rw (e, below) at outside in cc)

-- none of a range is below the lowest one
pub none_below : (first end : ℕ) (m : Mapping) (ms : List Mapping) → IsRising ms → find (is_between first end) ms ≡ Some m
    → find (is_between first m.0) ms ≡ None
none_below first end m [] rising found = refl
none_below first end m (x ∷ ms) rising found =
    elim (cases_Bool (is_between first end x)) [
      | inl e ↦
          let here : Some x ≡ Some m = rw e at found in
          let same : x ≡ m = cc in
          subst (λ (y : Mapping). find (is_between first y.0) (x ∷ ms) ≡ None) same (at_head e)
      | inr e ↦
          let rest : find (is_between first end) ms ≡ Some m = rw e at found in
          let before = before_range first end x m ms rising e rest in
          rw before.1 (none_below first end m ms (rising_tail x ms rising) rest)
    ]
  where
    at_head : is_between first end x ≡ true → find (is_between first x.0) (x ∷ ms) ≡ None
    at_head e =
        let itself : nat_lt x.0 x.0 ≡ false = grind (arith, nat_tests) in
        elim (cases_Bool (nat_lt x.0 first)) [
          | inl a ↦ rw a (none_up_to first x.0 x.0 ms (omega arith) (rising_head x ms rising))
          | inr a ↦ rw (a, itself) (none_up_to first x.0 x.0 ms (omega arith) (rising_head x ms rising))
        ]

-- and without it, none is up to it
pub none_left_below : (first end : ℕ) (m : Mapping) (ms : List Mapping) → IsRising ms
    → find (is_between first end) ms ≡ Some m → find (is_between first (m.0 + 1)) (without_page ms m.0) ≡ None
none_left_below first end m [] rising found = refl
none_left_below first end m (x ∷ ms) rising found =
    elim (cases_Bool (is_between first end x)) [
      | inl e ↦
          let here : Some x ≡ Some m = rw e at found in
          let same : x ≡ m = cc in
          let own : is_at (nat_cmp x.0) x.0 ≡ true = at_itself x.0 in
          subst (λ (y : Mapping). find (is_between first (y.0 + 1)) (without_page (x ∷ ms) y.0) ≡ None) same
          (rw own (none_up_to first (x.0 + 1) x.0 ms (omega arith) (rising_head x ms rising)))
      | inr e ↦
          let rest : find (is_between first end) ms ≡ Some m = rw e at found in
          let before = before_range first end x m ms rising e rest in
          let apart : x.0 ≢ m.0 = λ i. absurd (omega (arith, before.0, i)) in
          let kept : is_at (nat_cmp m.0) x.0 ≡ false = at_page m.0 x.0 ∙ ne_eqb x.0 m.0 apart in
          rw (kept, before.1) (none_left_below first end m ms (rising_tail x ms rising) rest)
    ]
