-- Lists of places: what a write to one place and its removal are, and that every table keeps what holds of tables.
use Rattle.std.proofs.Common.{◌≡◌, ◌≢◌, ℕ, zero, suc, ◌+◌, ◌<◌, ◌≤◌, ◌==◌, Bool, true, false, cond, not, inl, inr, Option, Some, None, List, [], ◌∷◌, ◌++◌}
use Rattle.std.proofs.Common.{length, map, refl, sym, ◌∙◌, ap, subst, arith, slice_index_or, slice_set}
use Rattle.std.specs.Prelude.{All, AllPairs, find, filter, remove, position, IfSome, IfNone, option_map}
use Rattle.std.specs.List.{range_with_len, position_from}
use Rattle.std.proofs.lemmas.Iterator.Adapters.{position_from-zero}
use Rattle.std.proofs.lemmas.List.Elements.{All-head, All-tail, All-nil, All-cons, All-push, All-filter, filter_passes}
use Rattle.std.proofs.lemmas.List.Quantifiers.{all_pairs_push, position-Some}
use Rattle.std.proofs.lemmas.Bool.{cases_Bool, cases_eq, eqb-true, eqb-false, eq-eqb, ne_eqb}
use Rattle.std.proofs.lemmas.Bool.Decides.{nat_tests}
use Rattle.sva_pasid.specs.States.{Numbers}
use Rattle.sva_pasid.specs.Stages.{numbers_of, reset_of}
use Rattle.sva_pasid.specs.Places.{is_of, place_of, with_stage, without, begun, reset_at, after_reset, Awaits, ShareAlike, IsApart, IsOwn, IsTable}
use Rattle.sva_pasid.specs.Indexes.{IsIndexOf}
use Rattle.sva_pasid.specs.declared.stages.Stage.{Stage}
use Rattle.sva_pasid.specs.declared.stages.Stage.TheVariants.{Live, Stopping, Draining, Invalidating, Quiet, Lost}
use Rattle.sva_pasid.specs.declared.places.TableEntry.{TableEntry}
use Rattle.sva_step.specs.declared.limits.TheConstants.{PASIDS}

-- each pair of a list that has one element more at its head
pub pairs-head : {X : Type 0} (R : X → X → Type 0) (x : X) (xs : List X) → AllPairs R (x ∷ xs) → All (R x) xs
pairs-head R x xs h k d l = h 0 (suc k) d (omega arith) (omega arith)

pub pairs-tail : {X : Type 0} (R : X → X → Type 0) (x : X) (xs : List X) → AllPairs R (x ∷ xs) → AllPairs R xs
pairs-tail R x xs h i j d l m = h (suc i) (suc j) d (omega arith) (omega arith)

pub pairs-cons : {X : Type 0} (R : X → X → Type 0) (x : X) (xs : List X) → All (R x) xs → AllPairs R xs → AllPairs R (x ∷ xs)
pairs-cons R x xs a h zero zero d l m = absurd (omega arith)
pairs-cons R x xs a h zero (suc j) d l m = a j d (omega arith)
pairs-cons R x xs a h (suc i) zero d l m = absurd (omega arith)
pairs-cons R x xs a h (suc i) (suc j) d l m = h i j d (omega arith) (omega arith)

-- what was found, or else this
abbrev pub found_or : {X : Type 0} → Option X → Option X → Option X
found_or None r = r
found_or (Some x) r = Some x

-- a look-up that finds nothing, at the head and behind it
pub find_none : {X : Type 0} (t : Bool) (x : X) (rest : Option X) → cond t (Some x) rest ≡ None → (t ≡ false) × (rest ≡ None)
find_none true x rest h = absurd (cc)
find_none false x rest h = (refl, h)

pub with_stage-absent : (b : ℕ) (s : Option Stage) (ps : List TableEntry) → place_of b ps ≡ None → with_stage b s ps ≡ ps
with_stage-absent b s [] h = refl
with_stage-absent b s (p ∷ ps) h =
    let a : (is_of b p ≡ false) × (place_of b ps ≡ None) = find_none (is_of b p) p (place_of b ps) h in
    let e : is_of b p ≡ false = a.0 in
    rw e (ap (λ (qs : List TableEntry). p ∷ qs) (with_stage-absent b s ps a.1))

pub without-absent : (b : ℕ) (ps : List TableEntry) → place_of b ps ≡ None → without b ps ≡ ps
without-absent b [] h = refl
without-absent b (p ∷ ps) h =
    let a : (is_of b p ≡ false) × (place_of b ps ≡ None) = find_none (is_of b p) p (place_of b ps) h in
    let e : is_of b p ≡ false = a.0 in
    rw e (ap (λ (qs : List TableEntry). p ∷ qs) (without-absent b ps a.1))

-- no place is that of the binding
pub absent-from_all : (b : ℕ) (ps : List TableEntry) → All (λ (q : TableEntry). is_of b q ≡ false) ps → place_of b ps ≡ None
absent-from_all b [] h = refl
absent-from_all b (p ∷ ps) h =
    let P : TableEntry → Type 0 = λ (q : TableEntry). is_of b q ≡ false in
    let e : is_of b p ≡ false = All-head P p ps h in
    rw e (absent-from_all b ps (All-tail P p ps h))

pub all-from_absent : (b : ℕ) (ps : List TableEntry) → place_of b ps ≡ None → All (λ (q : TableEntry). is_of b q ≡ false) ps
all-from_absent b [] h = All-nil (λ (q : TableEntry). is_of b q ≡ false)
all-from_absent b (p ∷ ps) h =
    let a : (is_of b p ≡ false) × (place_of b ps ≡ None) = find_none (is_of b p) p (place_of b ps) h in
    All-cons (λ (q : TableEntry). is_of b q ≡ false) p ps a.0 (all-from_absent b ps a.1)

apart_test : (b : ℕ) (p q : TableEntry) → IsApart p q → is_of b p ≡ true → is_of b q ≡ false
apart_test b p q a h = grind (arith, nat_tests, a.bindings)

-- behind a place of the binding there is no other
pub absent_behind : (b : ℕ) (p : TableEntry) (ps : List TableEntry) → AllPairs IsApart (p ∷ ps) → is_of b p ≡ true → place_of b ps ≡ None
absent_behind b p ps a h =
    absent-from_all b ps (λ k d l. apart_test b p (slice_index_or ps k d) (pairs-head IsApart p ps a k d l) h)

apart_before : (b : ℕ) (p q : TableEntry) → IsApart p q → is_of b q ≡ true → is_of b p ≡ false
apart_before b p q a h = grind (arith, nat_tests, a.bindings)

pub found_at : (b : ℕ) (ps : List TableEntry) (i : ℕ) (d : TableEntry) → AllPairs IsApart ps → i < length ps → is_of b (slice_index_or ps i d) ≡ true
    → place_of b ps ≡ Some (slice_index_or ps i d)
found_at b [] i d a l h = absurd (omega arith)
found_at b (p ∷ ps) zero d a l h = let e : is_of b p ≡ true = h in rw e
found_at b (p ∷ ps) (suc i) d a l h =
    let e : is_of b p ≡ false = apart_before b p (slice_index_or ps i d) (pairs-head IsApart p ps a i d (omega arith)) h in
    rw e (found_at b ps i d (pairs-tail IsApart p ps a) (omega arith) h)

pub written_at : (b : ℕ) (s : Option Stage) (ps : List TableEntry) (i : ℕ) (d : TableEntry) → AllPairs IsApart ps → i < length ps
    → is_of b (slice_index_or ps i d) ≡ true → slice_set ps i (record (slice_index_or ps i d) { stage = s }) ≡ with_stage b s ps
written_at b s [] i d a l h = absurd (omega arith)
written_at b s (p ∷ ps) zero d a l h =
    let e : is_of b p ≡ true = h in
    rw e (ap (λ (qs : List TableEntry). record p { stage = s } ∷ qs) (sym (with_stage-absent b s ps (absent_behind b p ps a h))))
written_at b s (p ∷ ps) (suc i) d a l h =
    let e : is_of b p ≡ false = apart_before b p (slice_index_or ps i d) (pairs-head IsApart p ps a i d (omega arith)) h in
    rw e (ap (λ (qs : List TableEntry). p ∷ qs) (written_at b s ps i d (pairs-tail IsApart p ps a) (omega arith) h))

pub removed_at : (b : ℕ) (ps : List TableEntry) (i : ℕ) (d : TableEntry) → AllPairs IsApart ps → i < length ps → is_of b (slice_index_or ps i d) ≡ true
    → remove ps i ≡ without b ps
removed_at b [] i d a l h = absurd (omega arith)
removed_at b (p ∷ ps) zero d a l h =
    let e : is_of b p ≡ true = h in
    rw e (sym (without-absent b ps (absent_behind b p ps a h)))
removed_at b (p ∷ ps) (suc i) d a l h =
    let e : is_of b p ≡ false = apart_before b p (slice_index_or ps i d) (pairs-head IsApart p ps a i d (omega arith)) h in
    rw e (ap (λ (qs : List TableEntry). p ∷ qs) (removed_at b ps i d (pairs-tail IsApart p ps a) (omega arith) h))

index_removed : (b : ℕ) (ps : List TableEntry) (i : ℕ) → AllPairs IsApart ps → i < length ps → ((d : TableEntry) → is_of b (slice_index_or ps i d) ≡ true)
    → remove ps i ≡ without b ps
index_removed b [] i a l h = absurd (omega arith)
index_removed b (p ∷ ps) i a l h = removed_at b (p ∷ ps) i p a l (h p)

pub index_at : (b : ℕ) (ps : List TableEntry) (i : ℕ) → AllPairs IsApart ps → i < length ps → ((d : TableEntry) → is_of b (slice_index_or ps i d) ≡ true)
    → IsIndexOf b ps i
index_at b ps i a l h = record {
  within = l;
  found = λ d. found_at b ps i d a l (h d);
  written = λ d s. written_at b s ps i d a l (h d);
  removed = index_removed b ps i a l h;
}

-- every table stays one

-- the place with this stage or nothing, where it is that of the binding
abbrev pub changed : ℕ → Option Stage → TableEntry → TableEntry
changed b s p = cond (is_of b p) (record p { stage = s }) p

changed-apart : (b : ℕ) (s : Option Stage) (p q : TableEntry) → IsApart p q → IsApart (changed b s p) (changed b s q)
changed-apart b s p q a = changed_by (is_of b p) (is_of b q) s p q a
  where
    changed_by : (t u : Bool) (s : Option Stage) (p q : TableEntry) → IsApart p q
        → IsApart (cond t (record p { stage = s }) p) (cond u (record q { stage = s }) q)
    changed_by true true s p q a = record { bindings = a.bindings; pasids = a.pasids }
    changed_by true false s p q a = record { bindings = a.bindings; pasids = a.pasids }
    changed_by false true s p q a = record { bindings = a.bindings; pasids = a.pasids }
    changed_by false false s p q a = a

-- a fact of each element of a list that a function gives
all_map : {X Y : Type 0} (P : Y → Type 0) (f : X → Y) (xs : List X) → All (λ (x : X). P (f x)) xs → All P (map f xs)
all_map P f [] h = All-nil P
all_map {X} P f (x ∷ xs) h =
    All-cons P (f x) (map f xs) (All-head (λ (y : X). P (f y)) x xs h) (all_map P f xs (All-tail (λ (y : X). P (f y)) x xs h))

all_weaker : {X : Type 0} (P Q : X → Type 0) (xs : List X) → ((x : X) → P x → Q x) → All P xs → All Q xs
all_weaker P Q xs f h k d l = f (slice_index_or xs k d) (h k d l)

map-apart : (f : TableEntry → TableEntry) (ps : List TableEntry)
    → ((p q : TableEntry) → IsApart p q → IsApart (f p) (f q)) → AllPairs IsApart ps → AllPairs IsApart (map f ps)
map-apart f [] k a = λ i j d l m. absurd (omega arith)
map-apart f (p ∷ ps) k a =
    pairs-cons IsApart (f p) (map f ps)
    (all_map (IsApart (f p)) f ps (all_weaker (IsApart p) (λ (q : TableEntry). IsApart (f p) (f q)) ps (λ q h. k p q h) (pairs-head IsApart p ps a)))
    (map-apart f ps k (pairs-tail IsApart p ps a))

with_stage-apart : (b : ℕ) (s : Option Stage) (ps : List TableEntry) → AllPairs IsApart ps → AllPairs IsApart (with_stage b s ps)
with_stage-apart b s ps a = map-apart (changed b s) ps (changed-apart b s) a

-- what is put into the place of the binding, if anything, is of that place's binding and PASID
abbrev pub FitsPlace : ℕ → Option Stage → List TableEntry → Type 0
FitsPlace b s ps = (p : TableEntry) → place_of b ps ≡ Some p → IfSome s (λ (stage : Stage). numbers_of stage ≡ record { binding = p.binding; pasid = p.pasid })

with_stage-here : (b : ℕ) (s : Option Stage) (p : TableEntry) (ps : List TableEntry) → is_of b p ≡ true → with_stage b s ps ≡ ps → with_stage b s (p ∷ ps)
    ≡ record p { stage = s } ∷ ps
with_stage-here b s p ps e same = rw e (ap (λ (qs : List TableEntry). record p { stage = s } ∷ qs) same)

with_stage-past : (b : ℕ) (s : Option Stage) (p : TableEntry) (ps : List TableEntry) → is_of b p ≡ false → with_stage b s (p ∷ ps) ≡ p ∷ with_stage b s ps
with_stage-past b s p ps e = rw e

with_stage-own : (b : ℕ) (s : Option Stage) (ps : List TableEntry) → AllPairs IsApart ps → All IsOwn ps → FitsPlace b s ps → All IsOwn (with_stage b s ps)
with_stage-own b s [] a o f = All-nil IsOwn
with_stage-own b s (p ∷ ps) a o f =
    elim (cases_Bool (is_of b p)) [
      | inl e ↦
          let here : IsOwn p = All-head IsOwn p ps o in
          let absent : place_of b ps ≡ None = absent_behind b p ps a e in
          let same : with_stage b s ps ≡ ps = with_stage-absent b s ps absent in
          let fits = f p (rw e) in
          subst (λ (qs : List TableEntry). All IsOwn qs) (sym (with_stage-here b s p ps e same)) (All-cons IsOwn (record p { stage = s }) ps
          (record { from_one = here.from_one; to_last = here.to_last; stage = fits }) (All-tail IsOwn p ps o))
      | inr e ↦
          let rest : FitsPlace b s ps = λ q h. f q (rw e h) in
          subst (λ (qs : List TableEntry). All IsOwn qs) (sym (with_stage-past b s p ps e))
          (All-cons IsOwn p (with_stage b s ps) (All-head IsOwn p ps o) (with_stage-own b s ps (pairs-tail IsApart p ps a) (All-tail IsOwn p ps o) rest))
    ]

pub with_stage-table : (b : ℕ) (s : Option Stage) (ps : List TableEntry) → IsTable ps → FitsPlace b s ps → IsTable (with_stage b s ps)
with_stage-table b s ps t f =
    record { apart = with_stage-apart b s ps t.apart; own = with_stage-own b s ps t.apart t.own f }

pub find-map : {X : Type 0} (t : X → Bool) (f : X → X) (xs : List X) → ((x : X) → t (f x) ≡ t x) → find t (map f xs) ≡ option_map f (find t xs)
find-map t f [] k = refl
find-map t f (x ∷ xs) k =
    let e : t (f x) ≡ t x = k x in
    let rest : find t (map f xs) ≡ option_map f (find t xs) = find-map t f xs k in
    rw (e, rest) (step f (t x) x (find t xs))
  where
    step : {X : Type 0} (f : X → X) (b : Bool) (x : X) (r : Option X) → cond b (Some (f x)) (option_map f r) ≡ option_map f (cond b (Some x) r)
    step f true x r = refl
    step f false x r = refl

-- a reset leaves each place its numbers, and each stage the numbers of its place
pub reset-keeps : (e : ℕ) (p : TableEntry) → ((reset_at e p).pasid ≡ p.pasid) × ((reset_at e p).space ≡ p.space)
reset-keeps e p = by_test (p.endpoint == e) p
  where
    by_test : (t : Bool) (p : TableEntry) → ((cond t (record p { stage = option_map reset_of p.stage }) p).pasid ≡ p.pasid)
        × ((cond t (record p { stage = option_map reset_of p.stage }) p).space ≡ p.space)
    by_test true p = (refl, refl)
    by_test false p = (refl, refl)

reset-apart : (e : ℕ) (p q : TableEntry) → IsApart p q → IsApart (reset_at e p) (reset_at e q)
reset-apart e p q a = by_tests (p.endpoint == e) (q.endpoint == e) p q a
  where
    by_tests : (t u : Bool) (p q : TableEntry) → IsApart p q
        → IsApart (cond t (record p { stage = option_map reset_of p.stage }) p) (cond u (record q { stage = option_map reset_of q.stage }) q)
    by_tests true true p q a = record { bindings = a.bindings; pasids = a.pasids }
    by_tests true false p q a = record { bindings = a.bindings; pasids = a.pasids }
    by_tests false true p q a = record { bindings = a.bindings; pasids = a.pasids }
    by_tests false false p q a = a

pub reset-numbers : (s : Stage) → numbers_of (reset_of s) ≡ numbers_of s
reset-numbers (Live n) = refl
reset-numbers (Stopping s) = refl
reset-numbers (Draining w) = refl
reset-numbers (Invalidating w) = refl
reset-numbers (Quiet n) = refl
reset-numbers (Lost n) = refl

reset-own : (e : ℕ) (p : TableEntry) → IsOwn p → IsOwn (reset_at e p)
reset-own e p o = by_test (p.endpoint == e) p o
  where
    of_stage : (s : Option Stage) (n : Numbers) → IfSome s (λ k. numbers_of k ≡ n) → IfSome (option_map reset_of s) (λ k. numbers_of k ≡ n)
    of_stage None n h = tt
    of_stage (Some s) n h = reset-numbers s ∙ h

    by_test : (t : Bool) (p : TableEntry) → IsOwn p → IsOwn (cond t (record p { stage = option_map reset_of p.stage }) p)
    by_test true p o = record {
      from_one = o.from_one;
      to_last = o.to_last;
      stage =
          of_stage p.stage (record { binding = p.binding; pasid = p.pasid }) o.stage;
    }
    by_test false p o = o

pub reset-table : (e : ℕ) (ps : List TableEntry) → IsTable ps → IsTable (after_reset e ps)
reset-table e ps t = record {
  apart = map-apart (reset_at e) ps (reset-apart e) t.apart;
  own = all_map IsOwn (reset_at e) ps (all_weaker IsOwn (λ (p : TableEntry). IsOwn (reset_at e p)) ps (λ p o. reset-own e p o) t.own);
}

pub place_of-reset : (e c : ℕ) (ps : List TableEntry) → place_of c (after_reset e ps) ≡ option_map (reset_at e) (place_of c ps)
place_of-reset e c ps = find-map (is_of c) (reset_at e) ps (λ p. by_test (p.endpoint == e) p)
  where
    by_test : (t : Bool) (p : TableEntry) → is_of c (cond t (record p { stage = option_map reset_of p.stage }) p) ≡ is_of c p
    by_test true p = refl
    by_test false p = refl

-- a write to a place's stage leaves each place its numbers
pub changed-keeps : (b : ℕ) (s : Option Stage) (p : TableEntry) → ((changed b s p).pasid ≡ p.pasid) × ((changed b s p).space ≡ p.space)
changed-keeps b s p = by_test (is_of b p) p
  where
    by_test : (t : Bool) (p : TableEntry) → ((cond t (record p { stage = s }) p).pasid ≡ p.pasid) × ((cond t (record p { stage = s }) p).space ≡ p.space)
    by_test true p = (refl, refl)
    by_test false p = (refl, refl)

without-apart : (b : ℕ) (ps : List TableEntry) → AllPairs IsApart ps → AllPairs IsApart (without b ps)
without-apart b [] a = λ i j d l m. absurd (omega arith)
without-apart b (p ∷ ps) a =
    elim (cases_Bool (is_of b p)) [
      | inl e ↦ rw e (without-apart b ps (pairs-tail IsApart p ps a))
      | inr e ↦
          rw e (pairs-cons IsApart p (without b ps) (All-filter (λ (q : TableEntry). not (is_of b q)) (IsApart p) ps (pairs-head IsApart p ps a))
          (without-apart b ps (pairs-tail IsApart p ps a)))
    ]

pub without-table : (b : ℕ) (ps : List TableEntry) → IsTable ps → IsTable (without b ps)
without-table b ps t =
    record { apart = without-apart b ps t.apart; own = All-filter (λ (q : TableEntry). not (is_of b q)) IsOwn ps t.own }

begun-apart : (e s b q : ℕ) (p : TableEntry) → is_of b p ≡ false → ShareAlike p (begun e s b q) → IsApart p (begun e s b q)
begun-apart e s b q p h g = record { bindings = eqb-false p.binding b h; pasids = g }

-- a place of a new binding that shares its PASID with the places of its space alone
pub begun-table : (e s b q : ℕ) (ps : List TableEntry) → IsTable ps → place_of b ps ≡ None → 1 ≤ q → q ≤ PASIDS
    → All (λ (p : TableEntry). ShareAlike p (begun e s b q)) ps → IsTable (ps ++ begun e s b q ∷ [])
begun-table e s b q ps t absent l m alike = record {
  apart = all_pairs_push IsApart ps (begun e s b q) t.apart
      (λ k d h. begun-apart e s b q (slice_index_or ps k d) (all-from_absent b ps absent k d h) (alike k d h));
  own = All-push IsOwn ps (begun e s b q) t.own (record { from_one = l; to_last = m; stage = refl });
}

-- the first number of a range that passes a test
pub find_range : (t : ℕ → Bool) (a n q : ℕ) → a ≤ q → q < a + n → t q ≡ true → ((k : ℕ) → a ≤ k → k < q → t k ≡ false) → find t (range_with_len a n) ≡ Some q
find_range t a zero q l m h before = absurd (omega arith)
find_range t a (suc n) q l m h before =
    elim (cases_eq a q) [
      | inl e ↦ let here : t a ≡ true = subst (λ (k : ℕ). t k ≡ true) (sym e) h in rw here (ap (λ (k : ℕ). Some k) e)
      | inr ne ↦
          let here : t a ≡ false = before a (omega arith) (omega arith) in
          rw here (find_range t (a + 1) n q (omega arith) (omega arith) h (λ k g j. before k (omega arith) j))
    ]

pub find_range_none : (t : ℕ → Bool) (a n : ℕ) → ((k : ℕ) → a ≤ k → k < a + n → t k ≡ false) → find t (range_with_len a n) ≡ None
find_range_none t a zero h = refl
find_range_none t a (suc n) h =
    let here : t a ≡ false = h a (omega arith) (omega arith) in
    rw here (find_range_none t (a + 1) n (λ k g j. h k (omega arith) (omega arith)))

pub record IsFirst (t : ℕ → Bool) (a n q : ℕ) : Type 0 where
  pub from : a ≤ q
  pub below : q < a + n
  pub passes : t q ≡ true
  pub before : (k : ℕ) → a ≤ k → k < q → t k ≡ false

pub found_in_range : (t : ℕ → Bool) (a n q : ℕ) → find t (range_with_len a n) ≡ Some q → IsFirst t a n q
found_in_range t a zero q h = absurd (cc)
found_in_range t a (suc n) q h =
    elim (cases_Bool (t a)) [
      | inl e ↦
          let found : Some a ≡ Some q = rw e at h in
          let same : a ≡ q = cc in
          record { from = omega arith; below = omega arith; passes = subst (λ (k : ℕ). t k ≡ true) same e; before = λ k g j. absurd (omega arith) }
      | inr e ↦
          let found : find t (range_with_len (a + 1) n) ≡ Some q = rw e at h in
          let rest = found_in_range t (a + 1) n q found in
          record {
            from = omega (arith, rest.from);
            below = omega (arith, rest.below);
            passes = rest.passes;
            before = λ k g j. elim (cases_eq a k) [ inl same ↦ subst (λ (m : ℕ). t m ≡ false) same e | inr ne ↦ rest.before k (omega arith) j ];
          }
    ]

pub not_false : (t : Bool) → not t ≡ true → t ≡ false
not_false true h = absurd (cc)
not_false false h = refl

pub not_true : (t : Bool) → not t ≡ false → t ≡ true
not_true true h = refl
not_true false h = absurd (cc)

pub none_in_range : (t : ℕ → Bool) (a n : ℕ) → find t (range_with_len a n) ≡ None → (k : ℕ) → a ≤ k → k < a + n → t k ≡ false
none_in_range t a zero h k l m = absurd (omega arith)
none_in_range t a (suc n) h k l m =
    let parts = find_none (t a) a (find t (range_with_len (a + 1) n)) h in
    elim (cases_eq a k) [
      | inl same ↦ subst (λ (x : ℕ). t x ≡ false) same parts.0
      | inr ne ↦ none_in_range t (a + 1) n parts.1 k (omega arith) (omega arith)
    ]

-- where `position` finds the place of the binding, and that there is none where it finds nothing
none_by_position : (b n : ℕ) (ps : List TableEntry) → position_from (is_of b) n ps ≡ None → place_of b ps ≡ None
none_by_position b n [] h = refl
none_by_position b n (p ∷ ps) h =
    let a = at_none (is_of b p) n (position_from (is_of b) (n + 1) ps) h in
    let e : is_of b p ≡ false = a.0 in
    rw e (none_by_position b (n + 1) ps a.1)
  where
    at_none : (t : Bool) (k : ℕ) (rest : Option ℕ) → cond t (Some k) rest ≡ None → (t ≡ false) × (rest ≡ None)
    at_none true k rest h = absurd (cc)
    at_none false k rest h = (refl, h)

pub index_none : (b : ℕ) (ps : List TableEntry) (r : Option ℕ) → r ≡ position (is_of b) ps → IfNone r (place_of b ps ≡ None)
index_none b ps None h = none_by_position b 0 ps (sym (position_from-zero (is_of b) ps) ∙ sym h)
index_none b ps (Some i) h = tt

pub index_some : (b : ℕ) (ps : List TableEntry) (r : Option ℕ) → AllPairs IsApart ps → r ≡ position (is_of b) ps → IfSome r (λ i. IsIndexOf b ps i)
index_some b ps None a h = tt
index_some b [] (Some i) a h = absurd (cc)
index_some b (p ∷ ps) (Some i) a h =
    index_at b (p ∷ ps) i a (position-Some (is_of b) (p ∷ ps) i p (sym h)).0 (λ d. (position-Some (is_of b) (p ∷ ps) i d (sym h)).1)

-- look-ups after a write and after a removal

pub place_of-binding : (b : ℕ) (ps : List TableEntry) (p : TableEntry) → place_of b ps ≡ Some p → p.binding ≡ b
place_of-binding b [] p h = absurd (cc)
place_of-binding b (q ∷ ps) p h =
    elim (cases_Bool (is_of b q)) [
      | inl e ↦ let found : Some q ≡ Some p = rw e at h in let same : q ≡ p = cc in ap (λ (r : TableEntry). r.binding) (sym same) ∙ eqb-true q.binding b e
      | inr e ↦ let found : place_of b ps ≡ Some p = rw e at h in place_of-binding b ps p found
    ]

find-filter : {X : Type 0} (t u : X → Bool) (xs : List X) → ((x : X) → t x ≡ true → u x ≡ true) → find t (filter u xs) ≡ find t xs
find-filter t u [] k = refl
find-filter t u (x ∷ xs) k =
    elim (cases_Bool (t x)) [
      | inl e ↦ let kept : u x ≡ true = k x e in rw (kept, e)
      | inr e ↦
          let rest : find t (filter u xs) ≡ find t xs = find-filter t u xs k in
          elim (cases_Bool (u x)) [ inl kept ↦ rw (kept, e) rest | inr gone ↦ rw (gone, e) rest ]
    ]

pub find-push : {X : Type 0} (t : X → Bool) (xs : List X) (y : X) → find t (xs ++ y ∷ []) ≡ found_or (find t xs) (cond (t y) (Some y) None)
find-push t [] y = refl
find-push t (x ∷ xs) y = elim (cases_Bool (t x)) [ inl e ↦ rw e | inr e ↦ rw e (find-push t xs y) ]

changed-is_of : (b c : ℕ) (s : Option Stage) (p : TableEntry) → is_of c (changed b s p) ≡ is_of c p
changed-is_of b c s p = by_test (is_of b p) c s p
  where
    by_test : (t : Bool) (c : ℕ) (s : Option Stage) (p : TableEntry) → is_of c (cond t (record p { stage = s }) p) ≡ is_of c p
    by_test true c s p = refl
    by_test false c s p = refl

place_of-with : (b c : ℕ) (s : Option Stage) (ps : List TableEntry) → place_of c (with_stage b s ps) ≡ option_map (changed b s) (place_of c ps)
place_of-with b c s ps = find-map (is_of c) (changed b s) ps (λ p. changed-is_of b c s p)

pub place_of-with_same : (b : ℕ) (s : Option Stage) (ps : List TableEntry) (p : TableEntry) → place_of b ps ≡ Some p → place_of b (with_stage b s ps)
    ≡ Some (record p { stage = s })
place_of-with_same b s ps p h =
    let e : is_of b p ≡ true = eq-eqb p.binding b (place_of-binding b ps p h) in
    place_of-with b b s ps ∙ ap (λ (r : Option TableEntry). option_map (changed b s) r) h ∙ (rw e)

pub place_of-with_other : (b c : ℕ) (s : Option Stage) (ps : List TableEntry) (r : Option TableEntry) → b ≢ c
    → place_of c ps ≡ r → place_of c (with_stage b s ps) ≡ r
place_of-with_other b c s ps None n h = place_of-with b c s ps ∙ ap (λ (r : Option TableEntry). option_map (changed b s) r) h
place_of-with_other b c s ps (Some p) n h =
    let own : p.binding ≡ c = place_of-binding c ps p h in
    let e : is_of b p ≡ false = ne_eqb p.binding b (λ k. n (sym k ∙ own)) in
    place_of-with b c s ps ∙ ap (λ (r : Option TableEntry). option_map (changed b s) r) h ∙ (rw e)

pub place_of-without_same : (b : ℕ) (ps : List TableEntry) → place_of b (without b ps) ≡ None
place_of-without_same b ps =
    absent-from_all b (without b ps)
    (λ k d l. not_false (is_of b (slice_index_or (without b ps) k d)) (filter_passes (λ (q : TableEntry). not (is_of b q)) ps k d l))

pub place_of-without_other : (b c : ℕ) (ps : List TableEntry) → b ≢ c → place_of c (without b ps) ≡ place_of c ps
place_of-without_other b c ps n = find-filter (is_of c) (λ (q : TableEntry). not (is_of b q)) ps (λ p h. grind (arith, nat_tests))

pub place_of-push : (c : ℕ) (ps : List TableEntry) (p : TableEntry) → place_of c (ps ++ p ∷ []) ≡ found_or (place_of c ps) (cond (is_of c p) (Some p) None)
place_of-push c ps p = find-push (is_of c) ps p

-- a stage that goes into the place of its binding, and one that comes out of it

pub awaits-fits : (stage : Stage) (ps : List TableEntry) → Awaits (numbers_of stage) ps → FitsPlace (numbers_of stage).binding (Some stage) ps
awaits-fits stage ps a p h =
    let here : (p.pasid ≡ (numbers_of stage).pasid) × (p.stage ≡ None) = rw h at a in
    let own : p.binding ≡ (numbers_of stage).binding = place_of-binding (numbers_of stage).binding ps p h in
    λ i. record { binding = sym own i; pasid = sym here.0 i }

pub found-own : (b : ℕ) (ps : List TableEntry) (p : TableEntry) → All IsOwn ps → place_of b ps ≡ Some p → IsOwn p
found-own b [] p o h = absurd (cc)
found-own b (q ∷ ps) p o h =
    elim (cases_Bool (is_of b q)) [
      | inl e ↦ let found : Some q ≡ Some p = rw e at h in let same : q ≡ p = cc in subst (λ (r : TableEntry). IsOwn r) same (All-head IsOwn q ps o)
      | inr e ↦ let found : place_of b ps ≡ Some p = rw e at h in found-own b ps p (All-tail IsOwn q ps o) found
    ]

-- the stage that comes out of its place can be put back there
pub taken-awaits : (b : ℕ) (ps : List TableEntry) (p : TableEntry) (r : Option Stage) → IsTable ps → place_of b ps ≡ Some p → r ≡ p.stage
    → IfSome r (λ stage. ((numbers_of stage).binding ≡ b) × Awaits (numbers_of stage) (with_stage b None ps))
taken-awaits b ps p None t h e = tt
taken-awaits b ps p (Some stage) t h e =
    let own : numbers_of stage ≡ record { binding = p.binding; pasid = p.pasid } =
    subst (λ (s : Option Stage). IfSome s (λ k. numbers_of k ≡ record { binding = p.binding; pasid = p.pasid })) (sym e)
    (found-own b ps p t.own h).stage in
    let same : (numbers_of stage).binding ≡ b = ap (λ (n : Numbers). n.binding) own ∙ place_of-binding b ps p h in
    let empty : place_of b (with_stage b None ps) ≡ Some (record p { stage = None }) = place_of-with_same b None ps p h in
    let here : place_of (numbers_of stage).binding (with_stage b None ps) ≡ Some (record p { stage = None }) =
    ap (λ (k : ℕ). place_of k (with_stage b None ps)) same ∙ empty in
    (same, rw here (sym (ap (λ (n : Numbers). n.pasid) own), refl))

-- the code writes at an index of what it saw
pub written-item : (b i : ℕ) (ps seen : List TableEntry) (item : TableEntry) (s : Option Stage) → seen ≡ ps → IsIndexOf b seen i → item
    ≡ slice_index_or ps i item → (slice_set ps i (record item { stage = s }) ≡ with_stage b s ps) × (place_of b ps ≡ Some item)
written-item b i ps seen item s e x at_i =
    let y : IsIndexOf b ps i = subst (λ (qs : List TableEntry). IsIndexOf b qs i) e x in
    (ap (λ (q : TableEntry). slice_set ps i (record q { stage = s })) at_i ∙ y.written item s, y.found item ∙ ap (λ (q : TableEntry). Some q) (sym at_i))
