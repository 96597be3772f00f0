-- What the table keeps of each PASID: how each call changes it, and that the look-ups in it are those in the places.
use Rattle.std.proofs.Common.{◌≡◌, ◌≢◌, ℕ, zero, suc, ◌+◌, ◌<◌, ◌≤◌, ◌==◌, nat_lt, Bool, true, false, cond, not, inl, inr, Option, Some, None, List}
use Rattle.std.proofs.Common.{[], ◌∷◌, ◌++◌, length, map, refl, sym, ◌∙◌, ap, subst, arith, slice_set}
use Rattle.std.specs.Prelude.{All, AllPairs, find, option_map, is_some, replicate}
use Rattle.std.specs.List.{range_with_len}
use Rattle.std.specs.Option.{IfSome, option_or}
use Rattle.std.proofs.lemmas.List.{get_or-set_same, get_or-set_other, length-set}
use Rattle.std.proofs.lemmas.List.Elements.{All-nil, All-push, All-filter, All-weaker, All-map}
use Rattle.std.proofs.lemmas.List.Sums.{sum_by-cons, sum_by-append, count_by-le-length}
use Rattle.std.proofs.Math.ListN.{get_or-eq_default}
use Rattle.std.proofs.lemmas.Bool.Decides.{nat_tests}
use Rattle.std.proofs.lemmas.Bool.{cases_Bool, cases_eq, eqb-true, eqb-false, eq-eqb, ne_eqb}
use Rattle.sva_pasid.specs.Places.{is_of, place_of, without, is_in, bears, is_borne, is_bound, borne_by, count_under, bearer_of, lowest_free, lowest}
use Rattle.sva_pasid.specs.Places.{begun, ShareAlike, IsApart, IsOwn, IsTable}
use Rattle.sva_pasid.specs.Bearers.{slot, is_by, is_free, pasid_in, free_in, raised, lowered, IsBearer, AreBearers}
use Rattle.sva_pasid.specs.declared.bearers.Bearer.{Bearer}
use Rattle.sva_step.specs.declared.limits.TheConstants.{PASIDS}
use Rattle.sva_pasid.specs.declared.places.TableEntry.{TableEntry}
use Rattle.sva_pasid.proofs.PlaceLemmas.{pairs-tail, absent_behind, without-absent, find_range, find_range_none, found_in_range, none_in_range}
use Rattle.sva_pasid.proofs.ShareLemmas.{found_passes, found_has, none_passes, none_found, IsFound, found_behind, any_of_found}
use Rattle.sva_pasid.proofs.ShareLemmas.{none_any, borne_at, IsBorneAt, place_borne, no_place}

-- the bindings under a PASID, place by place
pub count-cons : (q : ℕ) (p : TableEntry) (ps : List TableEntry) → count_under q (p ∷ ps) ≡ cond (bears q p) 1 0 + count_under q ps
count-cons q p ps = sum_by-cons (λ (x : TableEntry). cond (bears q x) 1 0) p ps

count-push : (q : ℕ) (ps : List TableEntry) (p : TableEntry) → count_under q (ps ++ p ∷ []) ≡ count_under q ps + cond (bears q p) 1 0
count-push q ps p =
    let all : count_under q (ps ++ p ∷ []) ≡ count_under q ps + count_under q (p ∷ []) = sum_by-append (λ (x : TableEntry). cond (bears q x) 1 0) ps (p ∷ []) in
    let one : count_under q (p ∷ []) ≡ cond (bears q p) 1 0 + 0 = count-cons q p [] in
    omega (arith, all, one)

count-without : (q b : ℕ) (ps : List TableEntry) (p : TableEntry) → AllPairs IsApart ps → place_of b ps ≡ Some p
    → count_under q (without b ps) + cond (bears q p) 1 0 ≡ count_under q ps
count-without q b [] p a f = absurd (cc)
count-without q b (r ∷ ps) p a f =
    elim (cases_Bool (is_of b r)) [
      | inl e ↦
          let found : Some r ≡ Some p = rw e at f in
          let same : r ≡ p = cc in
          let gone : without b ps ≡ ps = without-absent b ps (absent_behind b r ps a e) in
          let all : count_under q (r ∷ ps) ≡ cond (bears q r) 1 0 + count_under q ps = count-cons q r ps in
          subst (λ (x : TableEntry). count_under q (without b (r ∷ ps)) + cond (bears q x) 1 0 ≡ count_under q (r ∷ ps)) same
          (rw (e, gone) (omega (arith, all)))
      | inr e ↦
          let found : place_of b ps ≡ Some p = rw e at f in
          let rest : count_under q (without b ps) + cond (bears q p) 1 0 ≡ count_under q ps = count-without q b ps p (pairs-tail IsApart r ps a) found in
          let all : count_under q (r ∷ ps) ≡ cond (bears q r) 1 0 + count_under q ps = count-cons q r ps in
          let left : count_under q (r ∷ without b ps) ≡ cond (bears q r) 1 0 + count_under q (without b ps) = count-cons q r (without b ps) in
          rw e (omega (arith, rest, all, left))
    ]

-- a map that leaves each place its PASID leaves the counts
count-map : (q : ℕ) (f : TableEntry → TableEntry) (ps : List TableEntry) → ((p : TableEntry) → (f p).pasid ≡ p.pasid)
    → count_under q (map f ps) ≡ count_under q ps
count-map q f [] k = refl
count-map q f (p ∷ ps) k =
    let rest : count_under q (map f ps) ≡ count_under q ps = count-map q f ps k in
    let test : bears q (f p) ≡ bears q p = ap (λ (n : ℕ). n == q) (k p) in
    count-cons q (f p) (map f ps) ∙ ap (λ (n : ℕ). cond (bears q (f p)) 1 0 + n) rest ∙ ap (λ (t : Bool). cond t 1 0 + count_under q ps) test
    ∙ sym (count-cons q p ps)

-- no binding is under a PASID that none bears
none_counted : (q : ℕ) (ps : List TableEntry) → count_under q ps ≡ 0 → find (bears q) ps ≡ None
none_counted q [] h = refl
none_counted q (p ∷ ps) h =
    let all : count_under q (p ∷ ps) ≡ cond (bears q p) 1 0 + count_under q ps = count-cons q p ps in
    elim (cases_Bool (bears q p)) [
      | inl e ↦ absurd (let one : cond {A = ℕ} (bears q p) 1 0 ≡ 1 = rw e in omega (arith, h, all, one))
      | inr e ↦ rw e (none_counted q ps (omega (arith, h, all)))
    ]

some_counted : (q : ℕ) (ps : List TableEntry) → 0 < count_under q ps → IsFound (bears q) ps
some_counted q [] h = absurd (omega arith)
some_counted q (p ∷ ps) h =
    let all : count_under q (p ∷ ps) ≡ cond (bears q p) 1 0 + count_under q ps = count-cons q p ps in
    elim (cases_Bool (bears q p)) [
      | inl e ↦ record { at = p; found = rw e }
      | inr e ↦ found_behind (bears q) p ps e (some_counted q ps (not_here (bears q p) (count_under q ps) e (subst (λ (n : ℕ). 0 < n) all h)))
    ]
  where
    not_here : (t : Bool) (n : ℕ) → t ≡ false → 0 < cond {A = ℕ} t 1 0 + n → 0 < n
    not_here true n e h = absurd (cc)
    not_here false n e h = omega (arith, h)

-- what is kept of one PASID, after each change of the places

abbrev OfSpace : ℕ → ℕ → TableEntry → Type 0
OfSpace q s p = p.pasid ≡ q → p.space ≡ s

push_raised : (q s : ℕ) (ps : List TableEntry) (p : TableEntry) (o : Option Bearer) → IsBearer q ps o → bears q p ≡ true → p.space ≡ s → All (OfSpace q s) ps
    → IsBearer q (ps ++ p ∷ []) (raised s o)
push_raised q s ps p None h e k a =
    let one : cond {A = ℕ} (bears q p) 1 0 ≡ 1 = rw e in
    (omega (arith, h, one, count-push q ps p), omega arith, All-push (OfSpace q s) ps p a (λ i. k))
push_raised q s ps p (Some b) h e k a =
    let one : cond {A = ℕ} (bears q p) 1 0 ≡ 1 = rw e in
    (omega (arith, h.0, one, count-push q ps p), omega arith, All-push (OfSpace q s) ps p a (λ i. k))

push_same : (q : ℕ) (ps : List TableEntry) (p : TableEntry) (o : Option Bearer) → IsBearer q ps o → bears q p ≡ false → IsBearer q (ps ++ p ∷ []) o
push_same q ps p None h e = let none : cond {A = ℕ} (bears q p) 1 0 ≡ 0 = rw e in omega (arith, h, none, count-push q ps p)
push_same q ps p (Some b) h e =
    let none : cond {A = ℕ} (bears q p) 1 0 ≡ 0 = rw e in
    (omega (arith, h.0, none, count-push q ps p), h.1, All-push (OfSpace q b.space) ps p h.2 (λ i. absurd (eqb-false p.pasid q e i)))

without_lowered : (q b : ℕ) (ps : List TableEntry) (p : TableEntry) (o : Option Bearer) → AllPairs IsApart ps → place_of b ps ≡ Some p → IsBearer q ps o
    → bears q p ≡ true → IsBearer q (without b ps) (lowered o)
without_lowered q b ps p None a f h e =
    let one : cond {A = ℕ} (bears q p) 1 0 ≡ 1 = rw e in absurd (omega (arith, h, one, count-without q b ps p a f))
without_lowered q b ps p (Some o) a f h e =
    let one : cond {A = ℕ} (bears q p) 1 0 ≡ 1 = rw e in
    let left : count_under q (without b ps) + 1 ≡ o.bindings = omega (arith, h.0, one, count-without q b ps p a f) in
    elim (cases_eq o.bindings 1) [
      | inl last ↦ let t : (o.bindings == 1) ≡ true = eq-eqb o.bindings 1 last in rw t (omega (arith, left, last))
      | inr more ↦
          let t : (o.bindings == 1) ≡ false = ne_eqb o.bindings 1 more in
          rw t (omega (arith, left), omega (arith, left, h.1, more), All-filter (λ (x : TableEntry). not (is_of b x)) (OfSpace q o.space) ps h.2)
    ]

without_same : (q b : ℕ) (ps : List TableEntry) (p : TableEntry) (o : Option Bearer) → AllPairs IsApart ps → place_of b ps ≡ Some p → IsBearer q ps o
    → bears q p ≡ false → IsBearer q (without b ps) o
without_same q b ps p None a f h e =
    let none : cond {A = ℕ} (bears q p) 1 0 ≡ 0 = rw e in omega (arith, h, none, count-without q b ps p a f)
without_same q b ps p (Some o) a f h e =
    let none : cond {A = ℕ} (bears q p) 1 0 ≡ 0 = rw e in
    (omega (arith, h.0, none, count-without q b ps p a f), h.1, All-filter (λ (x : TableEntry). not (is_of b x)) (OfSpace q o.space) ps h.2)

map_same : (q : ℕ) (f : TableEntry → TableEntry) (ps : List TableEntry) (o : Option Bearer)
    → ((p : TableEntry) → ((f p).pasid ≡ p.pasid) × ((f p).space ≡ p.space))
    → IsBearer q ps o → IsBearer q (map f ps) o
map_same q f ps None k h = count-map q f ps (λ p. (k p).0) ∙ h
map_same q f ps (Some b) k h = (
  count-map q f ps (λ p. (k p).0) ∙ h.0,
  h.1,
  All-map (OfSpace q b.space) f ps (All-weaker (OfSpace q b.space) (λ (p : TableEntry). OfSpace q b.space (f p))
      (λ p w i. (k p).1 ∙ w (sym (k p).0 ∙ i)) ps h.2),
)

-- what is kept of all of them

slot_same : (q : ℕ) (o : Option Bearer) (bs : List (Option Bearer)) → q < length bs → slot q (slice_set bs q o) ≡ o
slot_same q o bs l = get_or-set_same bs q o None l

slot_other : (q r : ℕ) (o : Option Bearer) (bs : List (Option Bearer)) → r ≢ q → slot r (slice_set bs q o) ≡ slot r bs
slot_other q r o bs n = get_or-set_other bs q r o None n

set_bearers : (q : ℕ) (o : Option Bearer) (ps ps' : List TableEntry) (bs : List (Option Bearer)) → AreBearers ps bs → q < PASIDS + 1 → IsBearer q ps' o
    → ((r : ℕ) → r ≢ q → IsBearer r ps (slot r bs) → IsBearer r ps' (slot r bs)) → AreBearers ps' (slice_set bs q o)
set_bearers q o ps ps' bs k l here others = record {
  count = length-set bs q o ∙ k.count;
  each = λ r m. elim (cases_eq r q) [
    | inl e ↦
        subst (λ (x : ℕ). IsBearer x ps' (slot x (slice_set bs q o))) (sym e)
        (subst (λ (x : Option Bearer). IsBearer q ps' x) (sym (slot_same q o bs (omega (arith, k.count, l)))) here)
    | inr n ↦ subst (λ (x : Option Bearer). IsBearer r ps' x) (sym (slot_other q r o bs n)) (others r n (k.each r m))
  ];
}

pub bearers-begun : (e s b q : ℕ) (ps : List TableEntry) (bs : List (Option Bearer)) → AreBearers ps bs → q ≤ PASIDS
    → All (λ (p : TableEntry). ShareAlike p (begun e s b q)) ps → AreBearers (ps ++ begun e s b q ∷ []) (slice_set bs q (raised s (slot q bs)))
bearers-begun e s b q ps bs k m alike =
    let p : TableEntry = begun e s b q in
    set_bearers q (raised s (slot q bs)) ps (ps ++ p ∷ []) bs k (omega arith)
    (push_raised q s ps p (slot q bs) (k.each q (omega arith)) (eq-eqb q q refl) refl
    (All-weaker (λ (x : TableEntry). ShareAlike x p) (OfSpace q s) (λ x a. a.0) ps alike))
    (λ r n h. push_same r ps p (slot r bs) h (ne_eqb q r (λ i. n (sym i))))

pub bearers-without : (b : ℕ) (ps : List TableEntry) (p : TableEntry) (bs : List (Option Bearer)) → IsTable ps → AreBearers ps bs → place_of b ps ≡ Some p
    → AreBearers (without b ps) (slice_set bs p.pasid (lowered (slot p.pasid bs)))
bearers-without b ps p bs t k f =
    let own : IsOwn p = found_has IsOwn (is_of b) ps p t.own f in
    let low : p.pasid < PASIDS + 1 = omega (arith, own.to_last) in
    set_bearers p.pasid (lowered (slot p.pasid bs)) ps (without b ps) bs k low
    (without_lowered p.pasid b ps p (slot p.pasid bs) t.apart f (k.each p.pasid low) (eq-eqb p.pasid p.pasid refl))
    (λ r n h. without_same r b ps p (slot r bs) t.apart f h (ne_eqb p.pasid r (λ i. n (sym i))))

-- a space that bears a PASID has a binding under it
pub bearer-counts : (q : ℕ) (ps : List TableEntry) (o : Option Bearer) → IsBearer q ps o → IfSome o (λ bearer. 0 < bearer.bindings)
bearer-counts q ps None k = tt
bearer-counts q ps (Some bearer) k = k.1

pub bearers-map : (f : TableEntry → TableEntry) (ps : List TableEntry) (bs : List (Option Bearer))
    → ((p : TableEntry) → ((f p).pasid ≡ p.pasid) × ((f p).space ≡ p.space)) → AreBearers ps bs → AreBearers (map f ps) bs
bearers-map f ps bs k h = record { count = h.count; each = λ q l. map_same q f ps (slot q bs) k (h.each q l) }

-- the look-ups

pub bearer-is : (q : ℕ) (ps : List TableEntry) (o : Option Bearer) → IsBearer q ps o → bearer_of q ps ≡ o
bearer-is q ps None h = ap (λ (r : Option TableEntry). option_map
    (λ (p : TableEntry). record { space = p.space; bindings = count_under q ps }) r) (none_counted q ps h)
bearer-is q ps (Some b) h =
    let there : IsFound (bears q) ps = some_counted q ps (omega (arith, h.0, h.1)) in
    let own : there.at.pasid ≡ q = eqb-true there.at.pasid q (found_passes (bears q) ps there.at there.found) in
    let space : there.at.space ≡ b.space = found_has (OfSpace q b.space) (bears q) ps there.at h.2 there.found own in
    ap (λ (r : Option TableEntry). option_map (λ (p : TableEntry). record { space = p.space; bindings = count_under q ps }) r) there.found
    ∙ (λ i. Some (record { space = space i; bindings = h.0 i }))

-- no space bears a PASID above the last one
pub bearer-above : (q : ℕ) (ps : List TableEntry) → IsTable ps → PASIDS < q → bearer_of q ps ≡ None
bearer-above q ps t l =
    let none : find (bears q) ps ≡ None =
    none_found (bears q) ps
    (All-weaker IsOwn (λ (p : TableEntry). bears q p ≡ false) (λ p o. ne_eqb p.pasid q (λ i. absurd (omega (arith, i, o.to_last, l)))) ps t.own) in
    ap (λ (r : Option TableEntry). option_map (λ (p : TableEntry). record { space = p.space; bindings = count_under q ps }) r) none

pub slot-above : (q : ℕ) (bs : List (Option Bearer)) → length bs ≤ q → slot q bs ≡ None
slot-above q bs l = get_or-eq_default bs None l

-- so each slot is what the places say, whatever the number
pub slot-is : (q : ℕ) (ps : List TableEntry) (bs : List (Option Bearer)) → IsTable ps → AreBearers ps bs → slot q bs ≡ bearer_of q ps
slot-is q ps bs t k =
    elim (cases_Bool (nat_lt q (PASIDS + 1))) [
      | inl e ↦ sym (bearer-is q ps (slot q bs) (k.each q (grind (arith, nat_tests))))
      | inr e ↦ let above : PASIDS < q = grind (arith, nat_tests) in slot-above q bs (omega (arith, k.count, above)) ∙ sym (bearer-above q ps t above)
    ]

-- a slot is of a space exactly where the space bears its PASID
slot_by : (q s : ℕ) (ps : List TableEntry) (o : Option Bearer) → AllPairs IsApart ps → IsBearer q ps o → is_by s o ≡ true → borne_by s ps ≡ Some q
slot_by q s ps None a h e = absurd (cc)
slot_by q s ps (Some b) a h e =
    let there : IsFound (bears q) ps = some_counted q ps (omega (arith, h.0, h.1)) in
    let own : there.at.pasid ≡ q = eqb-true there.at.pasid q (found_passes (bears q) ps there.at there.found) in
    let space : there.at.space ≡ b.space = found_has (OfSpace q b.space) (bears q) ps there.at h.2 there.found own in
    borne_at (bears q) s ps there.at a there.found (space ∙ eqb-true b.space s e) ∙ ap (λ (k : ℕ). Some k) own

by_slot : (q s : ℕ) (ps : List TableEntry) (o : Option Bearer) → IsBearer q ps o → borne_by s ps ≡ Some q → is_by s o ≡ true
by_slot q s ps None h e =
    let at : IsBorneAt s ps q = place_borne s ps q e in
    let no : bears q at.at ≡ false =
    found_has (λ (p : TableEntry). bears q p ≡ false) (is_in s) ps at.at (none_passes (bears q) ps (none_counted q ps h)) at.found in
    absurd (eqb-false at.at.pasid q no at.pasid)
by_slot q s ps (Some b) h e =
    let at : IsBorneAt s ps q = place_borne s ps q e in
    let space : at.at.space ≡ b.space = found_has (OfSpace q b.space) (is_in s) ps at.at h.2 at.found at.pasid in
    eq-eqb b.space s (sym space ∙ at.space)

pub pasid_in-is : (s : ℕ) (ps : List TableEntry) (bs : List (Option Bearer)) → IsTable ps → AreBearers ps bs → pasid_in s bs ≡ borne_by s ps
unfolding pasid_in
pasid_in-is s ps bs t k = by_result (pasid_in s bs) refl
  where
    by_result : (r : Option ℕ) → find (λ pasid. is_by s (slot pasid bs)) (range_with_len 1 PASIDS) ≡ r
        → find (λ pasid. is_by s (slot pasid bs)) (range_with_len 1 PASIDS) ≡ borne_by s ps
    by_result (Some q) e =
        let f = found_in_range (λ pasid. is_by s (slot pasid bs)) 1 PASIDS q e in
        e ∙ sym (slot_by q s ps (slot q bs) t.apart (k.each q (omega (arith, f.below))) f.passes)
    by_result None e = by_borne (borne_by s ps) refl
      where
        by_borne : (b : Option ℕ) → borne_by s ps ≡ b → find (λ pasid. is_by s (slot pasid bs)) (range_with_len 1 PASIDS) ≡ borne_by s ps
        by_borne None d = e ∙ sym d
        by_borne (Some q) d =
            let at : IsBorneAt s ps q = place_borne s ps q d in
            let own : IsOwn at.at = found_has IsOwn (is_in s) ps at.at t.own at.found in
            let low : 1 ≤ q = omega (arith, own.from_one, at.pasid) in
            let high : q ≤ PASIDS = omega (arith, own.to_last, at.pasid) in
            let yes : is_by s (slot q bs) ≡ true = by_slot q s ps (slot q bs) (k.each q (omega (arith, high))) d in
            let no : is_by s (slot q bs) ≡ false = none_in_range (λ pasid. is_by s (slot pasid bs)) 1 PASIDS e q low (omega (arith, high)) in
            absurd (cc)

slot_free : (q : ℕ) (ps : List TableEntry) (o : Option Bearer) → IsBearer q ps o → is_free o ≡ not (is_borne q ps)
slot_free q ps None h = let no : is_borne q ps ≡ false = none_any (bears q) ps (none_counted q ps h) in rw no refl
slot_free q ps (Some b) h =
    let there : IsFound (bears q) ps = some_counted q ps (omega (arith, h.0, h.1)) in
    let yes : is_borne q ps ≡ true = any_of_found (bears q) ps there.at there.found in
    rw yes refl

-- two tests that agree in a range find the same there
find_alike : (t u : ℕ → Bool) (a n : ℕ) → ((k : ℕ) → a ≤ k → k < a + n → t k ≡ u k) → find t (range_with_len a n) ≡ find u (range_with_len a n)
find_alike t u a zero h = refl
find_alike t u a (suc n) h =
    let here : t a ≡ u a = h a (omega arith) (omega arith) in
    let rest : find t (range_with_len (a + 1) n) ≡ find u (range_with_len (a + 1) n) = find_alike t u (a + 1) n (λ k g j. h k (omega arith) (omega arith)) in
    rw (here, rest) refl

pub free_in-is : (ps : List TableEntry) (bs : List (Option Bearer)) → AreBearers ps bs → free_in bs ≡ lowest_free ps
unfolding free_in lowest_free
free_in-is ps bs k =
    find_alike (λ pasid. is_free (slot pasid bs)) (λ pasid. not (is_borne pasid ps)) 1 PASIDS (λ q l m. slot_free q ps (slot q bs) (k.each q (omega arith)))

pub lowest-is : (s : ℕ) (ps : List TableEntry) (bs : List (Option Bearer)) → IsTable ps → AreBearers ps bs
    → option_or (pasid_in s bs) (free_in bs) ≡ lowest s ps
lowest-is s ps bs t k = λ i. option_or (pasid_in-is s ps bs t k i) (free_in-is ps bs k i)

-- a table with no binding

pub opened-table : IsTable []
opened-table = record { apart = λ i j d l m. absurd (omega arith); own = All-nil IsOwn }

pub slot-replicate : (n q : ℕ) → slot q (replicate n None) ≡ None
slot-replicate zero q = refl
slot-replicate (suc n) zero = refl
slot-replicate (suc n) (suc q) = slot-replicate n q

pub opened-bearers : AreBearers [] (replicate 33 None)
opened-bearers = record {
  count = refl;
  each = λ q l. subst (λ (o : Option Bearer). IsBearer q [] o) (sym (slot-replicate 33 q)) refl;
}

-- what the loops over the slots find

pub pasid_in-some : (s : ℕ) (bs : List (Option Bearer)) (q : ℕ) → 1 ≤ q → q ≤ PASIDS → is_by s (slot q bs) ≡ true
    → ((r : ℕ) → 1 ≤ r → r < q → is_by s (slot r bs) ≡ false) → pasid_in s bs ≡ Some q
unfolding pasid_in
pasid_in-some s bs q l m h before = find_range (λ pasid. is_by s (slot pasid bs)) 1 PASIDS q l (omega arith) h before

pub pasid_in-none : (s : ℕ) (bs : List (Option Bearer)) → ((r : ℕ) → 1 ≤ r → r ≤ PASIDS → is_by s (slot r bs) ≡ false) → pasid_in s bs ≡ None
unfolding pasid_in
pasid_in-none s bs h = find_range_none (λ pasid. is_by s (slot pasid bs)) 1 PASIDS (λ k g j. h k g (omega arith))

pub free_in-some : (bs : List (Option Bearer)) (q : ℕ) → 1 ≤ q → q ≤ PASIDS → is_free (slot q bs) ≡ true
    → ((r : ℕ) → 1 ≤ r → r < q → is_free (slot r bs) ≡ false) → free_in bs ≡ Some q
unfolding free_in
free_in-some bs q l m h before = find_range (λ pasid. is_free (slot pasid bs)) 1 PASIDS q l (omega arith) h before

pub free_in-none : (bs : List (Option Bearer)) → ((r : ℕ) → 1 ≤ r → r ≤ PASIDS → is_free (slot r bs) ≡ false) → free_in bs ≡ None
unfolding free_in
free_in-none bs h = find_range_none (λ pasid. is_free (slot pasid bs)) 1 PASIDS (λ k g j. h k g (omega arith))

slot_none : (o : Option Bearer) → is_some o ≡ false → is_free o ≡ true
slot_none None h = refl
slot_none (Some b) h = absurd (cc)

pub free_slot : (q : ℕ) (bs : List (Option Bearer)) → is_some (slot q bs) ≡ false → is_free (slot q bs) ≡ true
free_slot q bs h = slot_none (slot q bs) h

-- a space is bound exactly where it bears a PASID
pub bound-is : (s : ℕ) (ps : List TableEntry) (r : Option ℕ) → borne_by s ps ≡ r → is_bound s ps ≡ is_some r
bound-is s ps None e = none_any (is_in s) ps (no_place s ps e)
bound-is s ps (Some q) e = let at : IsBorneAt s ps q = place_borne s ps q e in any_of_found (is_in s) ps at.at at.found

-- the count of a bearer is below the table's length
pub bearer-short : (q : ℕ) (ps : List TableEntry) (b : Bearer) → IsBearer q ps (Some b) → b.bindings ≤ length ps
bearer-short q ps b h = omega (arith, h.0, count_by-le-length (bears q) ps)
