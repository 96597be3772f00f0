-- Ranges of pages: what is found of one, how many of it are mapped, and that all are.
use Rattle.std.proofs.Common.{◌≡◌, ◌≢◌, ◌↔◌, ℕ, zero, suc, ◌+◌, ◌-◌, ◌<◌, ◌≤◌, nat_lt, Bool, true, false, cond, not, inl, inr, Option, Some, None}
use Rattle.std.proofs.Common.{List, [], ◌∷◌, length, refl, sym, ◌∙◌, ap, subst, arith}
use Rattle.std.specs.Prelude.{◌&&◌, IsSome, MatchOption, is_some, find, filter, option_map, slice_get}
use Rattle.std.specs.BTreeMap.{is_at}
use Rattle.std.specs.BTreeMap.Range.{entries_between, range_contains}
use Rattle.std.specs.Ordering.{nat_cmp, is_le, MatchOrdering}
use Rattle.std.specs.declared.cmp.Ordering.{Ordering}
use Rattle.std.specs.declared.cmp.Ordering.TheVariants.{Less, Equal, Greater}
use Rattle.std.specs.declared.ops.Bound.TheVariants.{Included, Excluded}
use Rattle.std.proofs.lemmas.Bool.{cases_Bool, cases_eq, eq-eqb, ne_eqb}
use Rattle.std.proofs.lemmas.Bool.Decides.{nat_tests}
use Rattle.sva_space.specs.Pages.{IsRising, mapping_at, is_between, mappings_between, AllMapped}
use Rattle.sva_space.specs.Calls.{after_all}
use Rattle.sva_space.specs.Laws.{IsLowestBetween, LowestBetween}
use Rattle.std.specs.Cmp.{ranked}
use Rattle.sva_space.proofs.Mappings.{at_page, at_itself, above_others, rising_after_all, none_rising, rising_tail, rising_head}

abbrev pub Mapping : Type 0
Mapping = ℕ × (ℕ × Bool)

-- a range that runs backwards is empty
pub none_between : (first end : ℕ) (ms : List Mapping) → end < first → mappings_between first end ms ≡ []
none_between first end [] h = refl
none_between first end (m ∷ ms) h =
    let no : is_between first end m ≡ false = backwards (nat_lt m.0 first) (nat_lt m.0 end) m.0 refl refl in
    rw no (none_between first end ms h)
  where
    backwards : (s t : Bool) (k : ℕ) → nat_lt k first ≡ s → nat_lt k end ≡ t → (not s && t) ≡ false
    backwards true t k e f = refl
    backwards false false k e f = refl
    backwards false true k e f =
        absurd (let low : first ≤ k = grind (arith, nat_tests) in let high : k < end = grind (arith, nat_tests) in omega (arith, h, low, high))

-- the part of the map in the range
test_le : (a k : ℕ) → is_le (nat_cmp a k) ≡ not (nat_lt k a)
test_le a k = by_rank (nat_cmp a k) (ranked a k (nat_cmp a k) refl)
  where
    by_rank : (r : Ordering) → MatchOrdering r (a < k) (a ≡ k) (k < a) → is_le r ≡ not (nat_lt k a)
    by_rank Less h = let t : nat_lt k a ≡ false = grind (arith, nat_tests) in rw t
    by_rank Equal h = let t : nat_lt k a ≡ false = grind (arith, nat_tests) in rw t
    by_rank Greater h = let t : nat_lt k a ≡ true = grind (arith, nat_tests) in rw t

not_not : (b : Bool) → not (not b) ≡ b
not_not true = refl
not_not false = refl

test_between : (first end : ℕ) (m : Mapping) → range_contains nat_cmp (Included first) (Excluded end) m.0 ≡ is_between first end m
test_between first end m =
    let low : is_le (nat_cmp first m.0) ≡ not (nat_lt m.0 first) = test_le first m.0 in
    let high : not (is_le (nat_cmp end m.0)) ≡ nat_lt m.0 end = ap (λ (b : Bool). not b) (test_le end m.0) ∙ not_not (nat_lt m.0 end) in
    λ i. low i && high i

pub between-is : (first end : ℕ) (ms : List Mapping) → entries_between nat_cmp (Included first) (Excluded end) ms ≡ mappings_between first end ms
between-is first end [] = refl
between-is first end (m ∷ ms) =
    let rest = between-is first end ms in
    let test = test_between first end m in
    λ i. cond (test i) (m ∷ rest i) (rest i)

pub first_of : (t : Mapping → Bool) (ms : List Mapping) → slice_get (filter t ms) 0 ≡ find t ms
first_of t [] = refl
first_of t (m ∷ ms) = elim (cases_Bool (t m)) [ inl e ↦ rw e | inr e ↦ rw e (first_of t ms) ]

pub none_first : (t : Mapping → Bool) (ms : List Mapping) → filter t ms ≡ [] → find t ms ≡ None
none_first t ms h = sym (first_of t ms) ∙ ap (λ (xs : List Mapping). slice_get xs 0) h

-- what is found is at its page, is the lowest, and goes

passes_between : (first end : ℕ) (m : Mapping) → is_between first end m ≡ true → (first ≤ m.0) × (m.0 < end)
passes_between first end m h = by_tests (nat_lt m.0 first) (nat_lt m.0 end) refl refl h
  where
    by_tests : (s t : Bool) → nat_lt m.0 first ≡ s → nat_lt m.0 end ≡ t → (not s && t) ≡ true → (first ≤ m.0) × (m.0 < end)
    by_tests true t e f h = absurd (cc)
    by_tests false false e f h = absurd (cc)
    by_tests false true e f h = (grind (arith, nat_tests), grind (arith, nat_tests))

pub is_in_range : (first end : ℕ) (m : Mapping) → first ≤ m.0 → m.0 < end → is_between first end m ≡ true
is_in_range first end m l h =
    let low : nat_lt m.0 first ≡ false = grind (arith, nat_tests) in
    let high : nat_lt m.0 end ≡ true = grind (arith, nat_tests) in
    rw (low, high) refl

pub is_there : (m : Mapping) (page : ℕ) (ms : List Mapping) → m.0 ≡ page → mapping_at (m ∷ ms) page ≡ Some m.1
is_there m page ms e =
    let t : is_at (nat_cmp page) m.0 ≡ true = at_page page m.0 ∙ eq-eqb m.0 page e in ap (λ b. cond b (Some m.1) (mapping_at ms page)) t

pub is_behind : (m : Mapping) (page : ℕ) (ms : List Mapping) → m.0 ≢ page → mapping_at (m ∷ ms) page ≡ mapping_at ms page
is_behind m page ms n =
    let t : is_at (nat_cmp page) m.0 ≡ false = at_page page m.0 ∙ ne_eqb m.0 page n in ap (λ b. cond b (Some m.1) (mapping_at ms page)) t

none_mapped : (first end : ℕ) (ms : List Mapping) → find (is_between first end) ms ≡ None → (page : ℕ) → first ≤ page → page < end → mapping_at ms page ≡ None
none_mapped first end [] h page l m = refl
none_mapped first end (x ∷ ms) h page l m =
    elim (cases_Bool (is_between first end x)) [
      | inl e ↦ absurd (let found : Some x ≡ None = rw e at h in cc)
      | inr e ↦
          let rest : find (is_between first end) ms ≡ None = rw e at h in
          elim (cases_eq x.0 page) [
            | inl same ↦ absurd (let yes : is_between first end x ≡ true = is_in_range first end x (omega (arith, l, same)) (omega (arith, m, same)) in cc)
            | inr n ↦ is_behind x page ms n ∙ none_mapped first end ms rest page l m
          ]
    ]

head_lowest : (first end : ℕ) (x : Mapping) (ms : List Mapping) → IsRising (x ∷ ms) → is_between first end x ≡ true → IsLowestBetween first end (x ∷ ms) x
head_lowest first end x ms rising e =
    let parts = passes_between first end x e in
    record {
      from_first = parts.0;
      below_end = parts.1;
      mapped = is_there x x.0 ms refl;
      least = λ page mapping l m f. elim (cases_eq x.0 page) [
        | inl same ↦ omega (arith, same)
        | inr n ↦ let above : x.0 < page =
            above_others x.0 ms (rising_head x ms rising) page mapping (sym (is_behind x page ms n) ∙ f) in omega (arith, above)
      ];
      others = let t : is_at (nat_cmp x.0) x.0 ≡ true = at_itself x.0 in rw (e, t) refl;
    }

tail_lowest : (first end : ℕ) (x : Mapping) (ms : List Mapping) (y : Mapping) → IsRising (x ∷ ms) → is_between first end x ≡ false
    → IsLowestBetween first end ms y → IsLowestBetween first end (x ∷ ms) y
tail_lowest first end x ms y rising e r =
    let above : x.0 < y.0 = above_others x.0 ms (rising_head x ms rising) y.0 y.1 r.mapped in
    let apart : x.0 ≢ y.0 = λ i. absurd (omega (arith, above, i)) in
    record {
      from_first = r.from_first;
      below_end = r.below_end;
      mapped = is_behind x y.0 ms apart ∙ r.mapped;
      least = λ page mapping l m f. elim (cases_eq x.0 page) [
        | inl same ↦ absurd (let yes : is_between first end x ≡ true = is_in_range first end x (omega (arith, l, same)) (omega (arith, m, same)) in cc)
        | inr n ↦ r.least page mapping l m (sym (is_behind x page ms n) ∙ f)
      ];
      others = let t : is_at (nat_cmp y.0) x.0 ≡ false = at_page y.0 x.0 ∙ ne_eqb x.0 y.0 apart in rw (t, e) r.others;
    }

pub lowest_found : (first end : ℕ) (ms : List Mapping) (y : Mapping) → IsRising ms → find (is_between first end) ms ≡ Some y → IsLowestBetween first end ms y
lowest_found first end [] y rising h = absurd (cc)
lowest_found first end (x ∷ ms) y rising h =
    elim (cases_Bool (is_between first end x)) [
      | inl e ↦ let found : Some x ≡ Some y = rw e at h in let same : x ≡ y =
          cc in subst (λ (z : Mapping). IsLowestBetween first end (x ∷ ms) z) same (head_lowest first end x ms rising e)
      | inr e ↦ let found : find (is_between first end) ms ≡ Some y =
          rw e at h in tail_lowest first end x ms y rising e (lowest_found first end ms y (rising_tail x ms rising) found)
    ]

pub lowest_between : LowestBetween
lowest_between calls first end = by_result (find (is_between first end) (after_all [] calls)) refl
  where
    by_result : (r : Option Mapping) → find (is_between first end) (after_all [] calls) ≡ r
        → MatchOption r ((page : ℕ) → first ≤ page → page < end → mapping_at (after_all [] calls) page ≡ None)
        (λ lowest. IsLowestBetween first end (after_all [] calls) lowest)
    by_result None h = none_mapped first end (after_all [] calls) h
    by_result (Some y) h = lowest_found first end (after_all [] calls) y (rising_after_all [] calls none_rising) h

-- how many pages of a range are mapped: one page more is one more at most

none_at : (x : Mapping) (ms : List Mapping) → IsRising (x ∷ ms) → mapping_at ms x.0 ≡ None
none_at x ms rising = by_result (mapping_at ms x.0) refl
  where
    by_result : (r : Option (ℕ × Bool)) → mapping_at ms x.0 ≡ r → mapping_at ms x.0 ≡ None
    by_result None h = h
    by_result (Some m) h = absurd (let above : x.0 < x.0 = above_others x.0 ms (rising_head x ms rising) x.0 m h in omega (arith, above))

abbrev count : ℕ → ℕ → List Mapping → ℕ
count first end ms = length (mappings_between first end ms)

abbrev one_at : List Mapping → ℕ → ℕ
one_at ms page = cond (is_some (mapping_at ms page)) 1 0

count_step : (first e : ℕ) (ms : List Mapping) → IsRising ms → first ≤ e → count first (e + 1) ms ≡ count first e ms + one_at ms e
count_step first e [] rising l = refl
count_step first e (x ∷ ms) rising l =
    let rest : count first (e + 1) ms ≡ count first e ms + one_at ms e = count_step first e ms (rising_tail x ms rising) l in
    elim (cases_eq x.0 e) [
      | inl same ↦ here same rest
      | inr n ↦ behind n rest (is_between first e x) refl
    ]
  where
    here : x.0 ≡ e → count first (e + 1) ms ≡ count first e ms + one_at ms e → count first (e + 1) (x ∷ ms) ≡ count first e (x ∷ ms) + one_at (x ∷ ms) e
    here same rest =
        let yes : is_between first (e + 1) x ≡ true = is_in_range first (e + 1) x (omega (arith, same, l)) (omega (arith, same)) in
        let not_below : nat_lt x.0 e ≡ false = grind (arith, nat_tests) in
        let not_low : nat_lt x.0 first ≡ false = grind (arith, nat_tests) in
        let no : is_between first e x ≡ false = rw (not_below, not_low) refl in
        let there : mapping_at (x ∷ ms) e ≡ Some x.1 = is_there x e ms same in
        let none : mapping_at ms e ≡ None = subst (λ (k : ℕ). mapping_at ms k ≡ None) same (none_at x ms rising) in
        let left : count first (e + 1) ms ≡ count first e ms + 0 =
        subst (λ (o : Option (ℕ × Bool)). count first (e + 1) ms ≡ count first e ms + cond (is_some o) 1 0) none rest in
        subst (λ (o : Option (ℕ × Bool)). count first (e + 1) (x ∷ ms) ≡ count first e (x ∷ ms) + cond (is_some o) 1 0) (sym there)
        (rw (yes, no) (omega (arith, left)))

    behind : x.0 ≢ e → count first (e + 1) ms ≡ count first e ms + one_at ms e → (b : Bool) → is_between first e x ≡ b → count first (e + 1) (x ∷ ms)
        ≡ count first e (x ∷ ms) + one_at (x ∷ ms) e
    behind n rest b h =
        let same_test : nat_lt x.0 (e + 1) ≡ nat_lt x.0 e = below_next x.0 n in
        let more : is_between first (e + 1) x ≡ b = ap (λ (t : Bool). not (nat_lt x.0 first) && t) same_test ∙ h in
        let past : mapping_at (x ∷ ms) e ≡ mapping_at ms e = is_behind x e ms n in
        subst (λ (o : Option (ℕ × Bool)). count first (e + 1) (x ∷ ms) ≡ count first e (x ∷ ms) + cond (is_some o) 1 0) (sym past)
        (rw (more, h) (by_bool b rest))
      where
        below_next : (k : ℕ) → k ≢ e → nat_lt k (e + 1) ≡ nat_lt k e
        below_next k n = grind (arith, nat_tests)

        by_bool : (b : Bool) → count first (e + 1) ms ≡ count first e ms + one_at ms e
            → length (cond b (x ∷ mappings_between first (e + 1) ms) (mappings_between first (e + 1) ms))
            ≡ length (cond b (x ∷ mappings_between first e ms) (mappings_between first e ms)) + one_at ms e
        by_bool true rest = omega (arith, rest)
        by_bool false rest = rest

-- n pages from the first one
one_most : (ms : List Mapping) (page : ℕ) → one_at ms page ≤ 1
one_most ms page = by_result (mapping_at ms page)
  where
    by_result : (r : Option (ℕ × Bool)) → cond {A = ℕ} (is_some r) 1 0 ≤ 1
    by_result None = omega arith
    by_result (Some m) = omega arith

one_some : (ms : List Mapping) (page : ℕ) → IsSome (mapping_at ms page) → one_at ms page ≡ 1
one_some ms page h = by_result (mapping_at ms page) h
  where
    by_result : (r : Option (ℕ × Bool)) → IsSome r → cond {A = ℕ} (is_some r) 1 0 ≡ 1
    by_result None h = absurd (cc)
    by_result (Some m) h = refl

some_one : (ms : List Mapping) (page : ℕ) → one_at ms page ≡ 1 → IsSome (mapping_at ms page)
some_one ms page h = by_result (mapping_at ms page) h
  where
    by_result : (r : Option (ℕ × Bool)) → cond {A = ℕ} (is_some r) 1 0 ≡ 1 → IsSome r
    by_result None h = absurd (omega (arith, h))
    by_result (Some m) h = refl

none_counted : (first : ℕ) (ms : List Mapping) → count first first ms ≡ 0
none_counted first [] = refl
none_counted first (m ∷ ms) =
    let no : is_between first first m ≡ false = neither (nat_lt m.0 first) in rw no (none_counted first ms)
  where
    neither : (t : Bool) → (not t && t) ≡ false
    neither true = refl
    neither false = refl

count_most : (first n : ℕ) (ms : List Mapping) → IsRising ms → count first (first + n) ms ≤ n
count_most first zero ms rising =
    let same : first ≡ first + 0 = omega arith in
    let none : count first first ms ≡ 0 = none_counted first ms in
    let few : count first first ms ≤ 0 = omega (arith, none) in
    subst (λ (k : ℕ). count first k ms ≤ 0) same few
count_most first (suc n) ms rising =
    let next : first + n + 1 ≡ first + suc n = omega arith in
    let step = count_step first (first + n) ms rising (omega arith) in
    let rest = count_most first n ms rising in
    let one = one_most ms (first + n) in
    let few : count first (first + n + 1) ms ≤ suc n = omega (arith, step, rest, one) in
    subst (λ (k : ℕ). count first k ms ≤ suc n) next few

all_counted : (first n : ℕ) (ms : List Mapping) → IsRising ms → AllMapped first (first + n) ms → count first (first + n) ms ≡ n
all_counted first zero ms rising all =
    let same : first ≡ first + 0 = omega arith in
    subst (λ (k : ℕ). count first k ms ≡ 0) same (none_counted first ms)
all_counted first (suc n) ms rising all =
    let rest = all_counted first n ms rising (λ page l m. all page l (omega (arith, m))) in
    let one = one_some ms (first + n) (all (first + n) (omega arith) (omega arith)) in
    let next : first + n + 1 ≡ first + suc n = omega arith in
    let step = count_step first (first + n) ms rising (omega arith) in
    let whole : count first (first + n + 1) ms ≡ suc n = omega (arith, step, rest, one) in
    subst (λ (k : ℕ). count first k ms ≡ suc n) next whole

counted_all : (first n : ℕ) (ms : List Mapping) → IsRising ms → count first (first + n) ms ≡ n → AllMapped first (first + n) ms
counted_all first zero ms rising h page l m = absurd (omega (arith, l, m))
counted_all first (suc n) ms rising whole page l m =
    let next : first + suc n ≡ first + n + 1 = omega arith in
    let h : count first (first + n + 1) ms ≡ suc n = subst (λ (k : ℕ). count first k ms ≡ suc n) next whole in
    let step = count_step first (first + n) ms rising (omega arith) in
    let most = count_most first n ms rising in
    let low = one_most ms (first + n) in
    let one : one_at ms (first + n) ≡ 1 = omega (arith, h, step, most, low) in
    elim (cases_eq page (first + n)) [
      | inl same ↦ subst (λ (k : ℕ). IsSome (mapping_at ms k)) (sym same) (some_one ms (first + n) one)
      | inr other ↦ counted_all first n ms rising (omega (arith, h, step, most, low)) page l (omega (arith, m, other))
    ]

-- each page of the range is mapped exactly where as many are mapped as it has
pub all-counted : (first end : ℕ) (ms : List Mapping) → IsRising ms → (count first end ms ≡ end - first) ↔ AllMapped first end ms
all-counted first end ms rising =
    elim (cases_Bool (nat_lt end first)) [
      | inl e ↦
          let backwards : end < first = grind (arith, nat_tests) in
          let none : count first end ms ≡ 0 = ap (λ (xs : List Mapping). length xs) (none_between first end ms backwards) in
          (λ h page l m. absurd (omega (arith, backwards, l, m)), λ all. none ∙ omega (arith, backwards))
      | inr e ↦
          let forwards : first ≤ end = grind (arith, nat_tests) in
          let split : end ≡ first + (end - first) = omega (arith, forwards) in
          subst (λ (top : ℕ). (count first top ms ≡ end - first) ↔ AllMapped first top ms) (sym split)
          (counted_all first (end - first) ms rising, all_counted first (end - first) ms rising)
    ]

-- the lowest page of a range, by its number

found_at : (first end page : ℕ) (ms : List Mapping) → option_map (λ (m : Mapping). m.0) (find (is_between first end) ms) ≡ Some page → (m : Mapping)
    × (find (is_between first end) ms ≡ Some m) × (m.0 ≡ page)
found_at first end page ms h = by_result (find (is_between first end) ms) refl h
  where
    by_result : (r : Option Mapping) → find (is_between first end) ms ≡ r → option_map (λ (m : Mapping). m.0) r ≡ Some page → (m : Mapping)
        × (find (is_between first end) ms ≡ Some m) × (m.0 ≡ page)
    by_result None e k = absurd (cc (k))
    by_result (Some m) e k = let same : m.0 ≡ page = cc (k) in (m, e, same)

pub found_taken : (first end page : ℕ) (value : ℕ × Bool) (ms : List Mapping) → IsRising ms
    → option_map (λ (m : Mapping). m.0) (find (is_between first end) ms) ≡ Some page → mapping_at ms page ≡ Some value
    → find (is_between first end) ms ≡ Some (page, value)
found_taken first end page value ms rising h there =
    let found = found_at first end page ms h in
    let lowest = lowest_found first end ms found.0 rising found.1 in
    let mapped : mapping_at ms page ≡ Some found.0.1 = subst (λ (k : ℕ). mapping_at ms k ≡ Some found.0.1) found.2 lowest.mapped in
    let same : found.0.1 ≡ value = cc (sym mapped ∙ there) in
    found.1 ∙ (λ i. Some (found.2 i, same i))

pub found_mapped : (first end page : ℕ) (ms : List Mapping) → IsRising ms → option_map (λ (m : Mapping). m.0) (find (is_between first end) ms)
    ≡ Some page → mapping_at ms page ≡ None → ⊥
found_mapped first end page ms rising h gone =
    let found = found_at first end page ms h in
    let lowest = lowest_found first end ms found.0 rising found.1 in
    let mapped : mapping_at ms page ≡ Some found.0.1 = subst (λ (k : ℕ). mapping_at ms k ≡ Some found.0.1) found.2 lowest.mapped in
    cc (sym mapped ∙ gone)
