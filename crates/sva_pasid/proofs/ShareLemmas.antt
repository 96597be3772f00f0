-- PASIDs that are shared by space: what the two look-ups of `lowest` find in a table.
use Rattle.std.proofs.Common.{◌≡◌, ◌↔◌, ℕ, ◌<◌, ◌≤◌, Bool, true, false, not, inl, inr, Option, Some, None, List, [], ◌∷◌, refl, sym, ◌∙◌, ap}
use Rattle.std.proofs.Common.{subst, arith}
use Rattle.std.specs.Prelude.{◌||◌, IfSome, IfNone, All, AllPairs, find, option_map, MatchOption}
use Rattle.std.specs.List.{list_any}
use Rattle.std.specs.Option.{option_or}
use Rattle.std.proofs.lemmas.List.Elements.{All-head, All-tail, All-nil, All-cons, All-weaker}
use Rattle.std.proofs.lemmas.Bool.{cases_Bool, or_parts, eqb-true, eqb-false, eq-eqb}
use Rattle.sva_pasid.specs.Places.{is_in, borne_by, bears, is_borne, lowest_free, lowest, IsLowest, IsOutOfPasids, LowestIsLeast}
use Rattle.sva_pasid.specs.Places.{begun, ShareAlike, IsApart, IsOwn, IsTable}
use Rattle.sva_step.specs.declared.limits.TheConstants.{PASIDS}
use Rattle.sva_pasid.specs.declared.places.TableEntry.{TableEntry}
use Rattle.sva_pasid.proofs.PlaceLemmas.{pairs-head, pairs-tail, find_none, found_in_range, none_in_range, not_false}
use Rattle.sva_pasid.proofs.PlaceLemmas.{not_true}

-- what a search finds passes its test, and has what all have
pub found_passes : {X : Type 0} (t : X → Bool) (xs : List X) (x : X) → find t xs ≡ Some x → t x ≡ true
found_passes t [] x h = absurd (cc)
found_passes {X} t (y ∷ ys) x h =
    elim (cases_Bool (t y)) [
      | inl e ↦ let found : Some y ≡ Some x = rw e at h in let same : y ≡ x = cc in subst (λ (z : X). t z ≡ true) same e
      | inr e ↦ let found : find t ys ≡ Some x = rw e at h in found_passes t ys x found
    ]

pub found_has : {X : Type 0} (P : X → Type 0) (t : X → Bool) (xs : List X) (x : X) → All P xs → find t xs ≡ Some x → P x
found_has P t [] x a h = absurd (cc)
found_has {X} P t (y ∷ ys) x a h =
    elim (cases_Bool (t y)) [
      | inl e ↦ let found : Some y ≡ Some x = rw e at h in let same : y ≡ x = cc in subst P same (All-head P y ys a)
      | inr e ↦ let found : find t ys ≡ Some x = rw e at h in found_has P t ys x (All-tail P y ys a) found
    ]

-- where a search finds nothing, nothing passes; and the other way round
pub none_passes : {X : Type 0} (t : X → Bool) (xs : List X) → find t xs ≡ None → All (λ (x : X). t x ≡ false) xs
none_passes {X} t [] h = All-nil (λ (x : X). t x ≡ false)
none_passes {X} t (y ∷ ys) h =
    let a : (t y ≡ false) × (find t ys ≡ None) = find_none (t y) y (find t ys) h in
    All-cons (λ (x : X). t x ≡ false) y ys a.0 (none_passes t ys a.1)

pub none_found : {X : Type 0} (t : X → Bool) (xs : List X) → All (λ (x : X). t x ≡ false) xs → find t xs ≡ None
none_found t [] a = refl
none_found {X} t (y ∷ ys) a =
    let e : t y ≡ false = All-head (λ (x : X). t x ≡ false) y ys a in
    rw e (none_found t ys (All-tail (λ (x : X). t x ≡ false) y ys a))

-- what one search finds and another would take, the other finds or finds something before
pub record IsFound {X : Type 0} (t : X → Bool) (xs : List X) : Type 0 where
  pub at : X
  pub found : find t xs ≡ Some at

pub found_behind : {X : Type 0} (t : X → Bool) (x : X) (xs : List X) → t x ≡ false → IsFound t xs → IsFound t (x ∷ xs)
found_behind t x xs e r = record { at = r.at; found = rw e r.found }

pub found_too : {X : Type 0} (t u : X → Bool) (xs : List X) (x : X) → find t xs ≡ Some x → u x ≡ true → IsFound u xs
found_too {X} t u xs x h passes = by_result (find u xs) refl
  where
    by_result : (r : Option X) → find u xs ≡ r → IsFound u xs
    by_result (Some y) e = record { at = y; found = e }
    by_result None e = absurd (let no : u x ≡ false = found_has (λ (z : X). u z ≡ false) t xs x (none_passes u xs e) h in cc)

-- a test that some element passes
pub any_found : {X : Type 0} (t : X → Bool) (xs : List X) → list_any t xs ≡ true → IsFound t xs
any_found t [] h = absurd (cc)
any_found t (y ∷ ys) h =
    elim (cases_Bool (t y)) [
      | inl e ↦ record { at = y; found = rw e }
      | inr e ↦ let there : list_any t ys ≡ true = rw e at h in found_behind t y ys e (any_found t ys there)
    ]

pub any_of_found : {X : Type 0} (t : X → Bool) (xs : List X) (x : X) → find t xs ≡ Some x → list_any t xs ≡ true
any_of_found t [] x h = absurd (cc)
any_of_found t (y ∷ ys) x h =
    elim (cases_Bool (t y)) [
      | inl e ↦ rw e
      | inr e ↦ let found : find t ys ≡ Some x = rw e at h in rw e (any_of_found t ys x found)
    ]

pub none_any : {X : Type 0} (t : X → Bool) (xs : List X) → find t xs ≡ None → list_any t xs ≡ false
none_any t [] h = refl
none_any t (y ∷ ys) h =
    let a : (t y ≡ false) × (find t ys ≡ None) = find_none (t y) y (find t ys) h in
    let e : t y ≡ false = a.0 in
    rw e (none_any t ys a.1)

-- a place that was found shares with each
alike_back : (p q : TableEntry) → ShareAlike p q → ShareAlike q p
alike_back p q a = (λ h. sym (a.0 (sym h)), λ h. sym (a.1 (sym h)))

pub alike_all : (t : TableEntry → Bool) (ps : List TableEntry) (r : TableEntry) → AllPairs IsApart ps
    → find t ps ≡ Some r → All (λ (p : TableEntry). ShareAlike p r) ps
alike_all t [] r a h = absurd (cc)
alike_all t (p ∷ ps) r a h =
    elim (cases_Bool (t p)) [
      | inl e ↦
          let found : Some p ≡ Some r = rw e at h in
          let same : p ≡ r = cc in
          subst (λ (x : TableEntry). All (λ (q : TableEntry). ShareAlike q x) (p ∷ ps)) same
          (All-cons (λ (q : TableEntry). ShareAlike q p) p ps (λ k. refl, λ k. refl)
          (All-weaker (IsApart p) (λ (q : TableEntry). ShareAlike q p) (λ q x. alike_back p q x.pasids) ps (pairs-head IsApart p ps a)))
      | inr e ↦
          let found : find t ps ≡ Some r = rw e at h in
          All-cons (λ (q : TableEntry). ShareAlike q r) p ps (found_has (IsApart p) t ps r (pairs-head IsApart p ps a) found).pasids
          (alike_all t ps r (pairs-tail IsApart p ps a) found)
    ]

-- two that were found
pub alike_found : (t u : TableEntry → Bool) (ps : List TableEntry) (p q : TableEntry) → AllPairs IsApart ps
    → find t ps ≡ Some p → find u ps ≡ Some q → ShareAlike p q
alike_found t u ps p q a f g = found_has (λ (x : TableEntry). ShareAlike x q) t ps p (alike_all u ps q a g) f

-- the PASID that a space bears is that of each of its places
pub borne_at : (t : TableEntry → Bool) (s : ℕ) (ps : List TableEntry) (p : TableEntry) → AllPairs IsApart ps → find t ps ≡ Some p → p.space ≡ s → borne_by s ps
    ≡ Some p.pasid
borne_at t s ps p a f e =
    let there : IsFound (is_in s) ps = found_too t (is_in s) ps p f (eq-eqb p.space s e) in
    let own : there.at.space ≡ s = eqb-true there.at.space s (found_passes (is_in s) ps there.at there.found) in
    let same : there.at.pasid ≡ p.pasid = (alike_found (is_in s) t ps there.at p a there.found f).1 (own ∙ sym e) in
    ap (λ (r : Option TableEntry). option_map (λ (x : TableEntry). x.pasid) r) there.found ∙ ap (λ (k : ℕ). Some k) same

-- and where it bears one, it has a place under it
pub record IsBorneAt (s : ℕ) (ps : List TableEntry) (q : ℕ) : Type 0 where
  pub at : TableEntry
  pub found : find (is_in s) ps ≡ Some at
  pub pasid : at.pasid ≡ q
  pub space : at.space ≡ s

pub place_borne : (s : ℕ) (ps : List TableEntry) (q : ℕ) → borne_by s ps ≡ Some q → IsBorneAt s ps q
place_borne s ps q h = by_result (find (is_in s) ps) refl h
  where
    by_result : (r : Option TableEntry) → find (is_in s) ps ≡ r → option_map (λ (x : TableEntry). x.pasid) r ≡ Some q → IsBorneAt s ps q
    by_result None e k = absurd (cc)
    by_result (Some p) e k = record { at = p; found = e; pasid = cc; space = eqb-true p.space s (found_passes (is_in s) ps p e) }

pub no_place : (s : ℕ) (ps : List TableEntry) → borne_by s ps ≡ None → find (is_in s) ps ≡ None
no_place s ps h = by_result (find (is_in s) ps) refl h
  where
    by_result : (r : Option TableEntry) → find (is_in s) ps ≡ r → option_map (λ (x : TableEntry). x.pasid) r ≡ None → find (is_in s) ps ≡ None
    by_result None e k = e
    by_result (Some p) e k = absurd (cc)

-- the lowest PASID that no space bears
pub record IsFree (ps : List TableEntry) (q : ℕ) : Type 0 where
  pub from_one : 1 ≤ q
  pub to_last : q ≤ PASIDS
  pub free : is_borne q ps ≡ false
  pub lower : (r : ℕ) → 1 ≤ r → r < q → is_borne r ps ≡ true

pub is_free : (ps : List TableEntry) (q : ℕ) → lowest_free ps ≡ Some q → IsFree ps q
unfolding lowest_free
is_free ps q h =
    let f = found_in_range (λ k. not (is_borne k ps)) 1 PASIDS q h in
    record {
      from_one = f.from;
      to_last = omega (arith, f.below);
      free = not_false (is_borne q ps) f.passes;
      lower = λ k g j. not_true (is_borne k ps) (f.before k g j);
    }

pub none_free : (ps : List TableEntry) → lowest_free ps ≡ None → (q : ℕ) → 1 ≤ q → q ≤ PASIDS → is_borne q ps ≡ true
unfolding lowest_free
none_free ps h q l m = not_true (is_borne q ps) (none_in_range (λ k. not (is_borne k ps)) 1 PASIDS h q l (omega arith))

-- what `lowest` gives
lowest_from : (s : ℕ) (ps : List TableEntry) (q : ℕ) (r : Option ℕ) → IsTable ps → borne_by s ps ≡ r → option_or r (lowest_free ps) ≡ Some q → IsLowest s ps q
lowest_from s ps q None t e h =
    let f : IsFree ps q = is_free ps q h in
    record {
      from_one = f.from_one;
      to_last = f.to_last;
      borne = rw e tt;
      free = λ k. f.free;
      lower = λ k. f.lower;
    }
lowest_from s ps q (Some b) t e h =
    let same : b ≡ q = cc in
    let at : IsBorneAt s ps b = place_borne s ps b e in
    let own : IsOwn at.at = found_has IsOwn (is_in s) ps at.at t.own at.found in
    record {
      from_one = subst (λ (k : ℕ). 1 ≤ k) (at.pasid ∙ same) own.from_one;
      to_last = subst (λ (k : ℕ). k ≤ PASIDS) (at.pasid ∙ same) own.to_last;
      borne = rw e same;
      free = λ k. absurd (cc);
      lower = λ k. absurd (cc);
    }

pub is_lowest : (s : ℕ) (ps : List TableEntry) (q : ℕ) → IsTable ps → lowest s ps ≡ Some q → IsLowest s ps q
is_lowest s ps q t h = lowest_from s ps q (borne_by s ps) t refl h

out_from : (s : ℕ) (ps : List TableEntry) (r : Option ℕ) → borne_by s ps ≡ r → option_or r (lowest_free ps) ≡ None → IsOutOfPasids s ps
out_from s ps None e h = record { none = e; all = none_free ps h }
out_from s ps (Some b) e h = absurd (cc)

pub is_out : (s : ℕ) (ps : List TableEntry) → lowest s ps ≡ None → IsOutOfPasids s ps
is_out s ps h = out_from s ps (borne_by s ps) refl h

pub lowest_is_least : LowestIsLeast
lowest_is_least s ps t = by_result (lowest s ps) refl
  where
    by_result : (r : Option ℕ) → lowest s ps ≡ r → MatchOption r (IsOutOfPasids s ps) (λ pasid. IsLowest s ps pasid)
    by_result None h = is_out s ps h
    by_result (Some q) h = is_lowest s ps q t h

-- the same of a result that is `lowest`
pub lowest-some : (s : ℕ) (ps : List TableEntry) (r : Option ℕ) → IsTable ps → r ≡ lowest s ps → IfSome r (λ q. IsLowest s ps q)
lowest-some s ps None t h = tt
lowest-some s ps (Some q) t h = is_lowest s ps q t (sym h)

pub lowest-none : (s : ℕ) (ps : List TableEntry) (r : Option ℕ) → r ≡ lowest s ps → IfNone r (IsOutOfPasids s ps)
lowest-none s ps None h = is_out s ps (sym h)
lowest-none s ps (Some q) h = tt

-- a new place under that PASID shares with each
free_alike : (e s b q : ℕ) (ps : List TableEntry) → find (is_in s) ps ≡ None → is_borne q ps ≡ false → All (λ (p : TableEntry). ShareAlike p (begun e s b q)) ps
free_alike e s b q [] f g = All-nil (λ (p : TableEntry). ShareAlike p (begun e s b q))
free_alike e s b q (p ∷ ps) f g =
    let here : (is_in s p ≡ false) × (find (is_in s) ps ≡ None) = find_none (is_in s p) p (find (is_in s) ps) f in
    let parts = or_parts (bears q p) (is_borne q ps) g in
    All-cons (λ (x : TableEntry). ShareAlike x (begun e s b q)) p ps
    (λ k. absurd (eqb-false p.pasid q parts.0 k), λ k. absurd (eqb-false p.space s here.0 k))
    (free_alike e s b q ps here.1 parts.1)

lowest_alike_from : (e s b q : ℕ) (ps : List TableEntry) (r : Option ℕ) → IsTable ps → borne_by s ps ≡ r → option_or r (lowest_free ps) ≡ Some q
    → All (λ (p : TableEntry). ShareAlike p (begun e s b q)) ps
lowest_alike_from e s b q ps None t k h = free_alike e s b q ps (no_place s ps k) (is_free ps q h).free
lowest_alike_from e s b q ps (Some own) t k h =
    let same : own ≡ q = cc in
    let at : IsBorneAt s ps own = place_borne s ps own k in
    All-weaker (λ (p : TableEntry). ShareAlike p at.at) (λ (p : TableEntry). ShareAlike p (begun e s b q))
    (λ p a. (λ x. a.0 (x ∙ sym (at.pasid ∙ same)) ∙ at.space, λ x. a.1 (x ∙ sym at.space) ∙ (at.pasid ∙ same))) ps
    (alike_all (is_in s) ps at.at t.apart at.found)

pub lowest_alike : (e s b q : ℕ) (ps : List TableEntry) → IsTable ps → lowest s ps ≡ Some q → All (λ (p : TableEntry). ShareAlike p (begun e s b q)) ps
lowest_alike e s b q ps t h = lowest_alike_from e s b q ps (borne_by s ps) t refl h

-- the PASID of a space's place is that of each further binding of the space, and of no other
pub kept_to_space : (t : TableEntry → Bool) (ps : List TableEntry) (p : TableEntry) (other : ℕ) → IsTable ps → find t ps ≡ Some p
    → (lowest other ps ≡ Some p.pasid) ↔ (other ≡ p.space)
kept_to_space t ps p other table f = (
  λ h. by_borne (borne_by other ps) refl h,
  λ h. let own : borne_by other ps ≡ Some p.pasid = borne_at t other ps p table.apart f (sym h) in rw own refl,
)
  where
    by_borne : (r : Option ℕ) → borne_by other ps ≡ r → option_or r (lowest_free ps) ≡ Some p.pasid → other ≡ p.space
    by_borne None e h =
        let free : is_borne p.pasid ps ≡ false = (is_free ps p.pasid h).free in
        let there : IsFound (bears p.pasid) ps = found_too t (bears p.pasid) ps p f (eq-eqb p.pasid p.pasid refl) in
        let borne : is_borne p.pasid ps ≡ true = any_of_found (bears p.pasid) ps there.at there.found in
        absurd (cc)
    by_borne (Some b) e h =
        let same : b ≡ p.pasid = cc in
        let at : IsBorneAt other ps b = place_borne other ps b e in
        sym at.space ∙ (alike_found (is_in other) t ps at.at p table.apart at.found f).0 (at.pasid ∙ same)
