-- Fault by labels is Fault by names: the page requests that are outstanding, and the group of an index.
use Rattle.std.proofs.Common.{◌≡◌, ◌≢◌, ◌⊎◌, inl, inr, refl, ap, ap₂, sym, ◌∙◌, ℕ, zero, suc, ◌+◌, ◌<◌, Bool, true, false, arith}
use Rattle.std.specs.Prelude.{Option, Some, None, option_map, ◌&&◌, ◌||◌, not, ◌==◌, nat_le, if◌then◌else◌, List, [], ◌∷◌, ◌++◌}
use Rattle.std.proofs.lemmas.Bool.Decides.{nat_tests}
use Rattle.std.proofs.lemmas.Bool.{eq-eqb, eqb-true, ne_eqb, not-false}
use Rattle.sva_step.specs.declared.answers.Answer.TheVariants as answer
use Rattle.sva_step.specs.declared.refusals.Refusal.TheVariants as refusal
use Rattle.sva_step.specs.declared.steps.Step.TheVariants as step
use Rattle.sva_model.specs.Words as words
use Rattle.sva_model.specs.Words.{count_below, tabulate, holds_of, the}
use Rattle.sva_model.specs.State.{Endpoint, World}
use Rattle.sva_model.specs.States.{is_collecting, is_outstanding}
use Rattle.sva_model.specs.Labels
use Rattle.sva_model.specs.Refusals as names
use Rattle.sva_model.specs.Refusals.{page_range, refusals}
use Rattle.sva_model.specs.Outcomes.{outcome}
use Rattle.sva_model.specs.Wire.{DeviceWire, GroupWire, group_wire, wire}
use Rattle.sva_labels.proofs.Words.{ℕ_cases}
use Rattle.sva_labels.proofs.Counting.{count_zero, count_off}
use Rattle.sva_laws.proofs.Invariant.{Invariant}
use Rattle.sva_laws.proofs.Found.{found}
use Rattle.sva_laws.proofs.Passed.{Passed}
use Rattle.sva_laws.proofs.LegalEndpoint as Legally
use Rattle.sva_labels.specs.Finding.{device_of, lowest_label, requests_in, outstanding, has_unfinished_group, group_at}
use Rattle.sva_labels.specs.Causes.{causes_of, may_request, is_other_group, device_causes_of_fault, numbers_spent}
use Rattle.sva_labels.specs.Moves.{Move}
use Rattle.sva_labels.specs.Outcomes.{by_one, label, result_of}
use Rattle.sva_refinement.proofs.Lookups.{label_is, seen_none}
use Rattle.sva_refinement.proofs.EndpointViews.{device_seen, endpoint_cause, AreSame, same_alike}
use Rattle.sva_refinement.proofs.EndpointLookups.{started_seen, ending_seen, group_seen}
use Rattle.sva_refinement.proofs.EndpointSays.{below_seen, bearer_pasid}
use Rattle.sva_refinement.proofs.Alike.{SaysAlike, result_by}
use Rattle.sva_laws.proofs.LegalEndpoint.{unfinished_is}
use Rattle.sva_labels.proofs.Tests.{is_itself, is_less, same_inside}

-- The page requests that are outstanding, group by group and one by one.

-- a sum over the first numbers
unfoldable sum_below : ℕ → (ℕ → ℕ) → ℕ
sum_below zero f = 0
sum_below (suc n) f = sum_below n f + f n

outstanding_push : (xs : List (Option GroupWire)) (x : Option GroupWire) → outstanding (xs ++ x ∷ []) ≡ outstanding xs + requests_in x
outstanding_push [] x = omega arith
outstanding_push (y ∷ xs) x = ap (λ n. requests_in y + n) (outstanding_push xs x) ∙ omega arith

outstanding_sum : (n : ℕ) (f : ℕ → Option GroupWire) → outstanding (tabulate n f) ≡ sum_below n (λ i. requests_in (f i))
unfolding tabulate sum_below
outstanding_sum zero f = refl
outstanding_sum (suc n) f = outstanding_push (tabulate n f) (f n) ∙ ap (λ k. k + requests_in (f n)) (outstanding_sum n f)

sum_same : (n : ℕ) (f g : ℕ → ℕ) → ((i : ℕ) → i < n → f i ≡ g i) → sum_below n f ≡ sum_below n g
unfolding sum_below
sum_same zero f g h = refl
sum_same (suc n) f g h = ap₂ (λ a b. a + b) (sum_same n f g (λ i l. h i (omega arith))) (h n (omega arith))

sum_zero : (n : ℕ) → sum_below n (λ i. 0) ≡ 0
unfolding sum_below
sum_zero zero = refl
sum_zero (suc n) = let rest = sum_zero n in omega (arith, rest)

-- one more wherever a test passes
sum_more : (n : ℕ) (f : ℕ → ℕ) (p : ℕ → Bool) → sum_below n (λ i. if p i then suc (f i) else f i) ≡ count_below n p + sum_below n f
unfolding sum_below count_below
sum_more zero f p = omega arith
sum_more (suc n) f p = go (p n) (sum_more n f p)
  where
    go :
        (b : Bool) → sum_below n (λ i. if p i then suc (f i) else f i) ≡ count_below n p + sum_below n f
        → sum_below n (λ i. if p i then suc (f i) else f i) + (if b then suc (f n) else f n)
        ≡ (if b then suc (count_below n p) else count_below n p) + (sum_below n f + f n)
    go true h = omega (arith, h)
    go false h = omega (arith, h)

-- how many of the first page requests are of the group that is there
abbrev of_group : (ℕ → ℕ) → (n : ℕ) → Option ℕ → ℕ
of_group group_of n None = 0
of_group group_of n (Some g) = count_below n (λ r. group_of r == g)

abbrev is_one : (x : ℕ) → Option ℕ → Bool
is_one x o = holds_of (λ g. x == g) o

next_of_group :
    (group_of : ℕ → ℕ) (n : ℕ) (o : Option ℕ)
    → of_group group_of (suc n) o ≡ (if is_one (group_of n) o then suc (of_group group_of n o) else of_group group_of n o)
unfolding count_below
next_of_group group_of n None = refl
next_of_group group_of n (Some g) = refl

none_yet : (group_of : ℕ → ℕ) (o : Option ℕ) → of_group group_of 0 o ≡ 0
unfolding count_below
none_yet group_of None = refl
none_yet group_of (Some g) = refl

-- one place alone has it
count_once : (n : ℕ) (p : ℕ → Bool) (k : ℕ) → k < n → p k ≡ true → ((j : ℕ) → p j ≡ true → j ≡ k) → count_below n p ≡ 1
count_once n p k l h one =
    count_off n p (λ j. (p j && not (j == k))) k l h (here (p k)) (λ j ne. other j (p j) (j == k) refl ne)
    ∙ ap suc (count_zero n (λ j. p j && not (j == k)) (λ j m. none j (p j) refl))
  where
    here : (b : Bool) → (b && not (k == k)) ≡ false
    here b = grind (arith, nat_tests)

    differ : (j : ℕ) → j ≢ k → (j == k) ≡ false
    differ j ne = grind (arith, nat_tests)

    other : (j : ℕ) (b c : Bool) → (j == k) ≡ c → j ≢ k → b ≡ (b && not (j == k))
    other j b c e ne = sym (ap (λ z. b && not z) (differ j ne) ∙ keep b)
      where
        keep : (b : Bool) → (b && not false) ≡ b
        keep b = grind arith

    itself : (j : ℕ) → j ≡ k → (j == k) ≡ true
    itself j e = grind (arith, nat_tests)

    none : (j : ℕ) (b : Bool) → p j ≡ b → (b && not (j == k)) ≡ false
    none j false e = refl
    none j true e = ap not (itself j (one j e))

-- over a table of labels that names each outstanding group once
sum_groups :
    (group_of : ℕ → ℕ) (out : ℕ → Bool) (at : ℕ → Option ℕ) (label_of : ℕ → ℕ)
    → ((i g : ℕ) → at i ≡ Some g → (label_of g ≡ i) × (out g ≡ true))
    → ((g : ℕ) → out g ≡ true → (at (label_of g) ≡ Some g) × (label_of g < 32)) → (n : ℕ)
    → sum_below 32 (λ i. of_group group_of n (at i)) ≡ count_below n (λ r. out (group_of r))
unfolding count_below
sum_groups group_of out at label_of bears there zero = sum_same 32 (λ i. of_group group_of 0 (at i)) (λ i. 0) (λ i l. none_yet group_of (at i)) ∙ sum_zero 32
sum_groups group_of out at label_of bears there (suc n) =
    sum_same 32 (λ i. of_group group_of (suc n) (at i))
    (λ i. if is_one (group_of n) (at i) then suc (of_group group_of n (at i)) else of_group group_of n (at i)) (λ i l. next_of_group group_of n (at i))
    ∙ sum_more 32 (λ i. of_group group_of n (at i)) (λ i. is_one (group_of n) (at i))
    ∙ go (out (group_of n)) refl (sum_groups group_of out at label_of bears there n)
  where
    bearer : (i : ℕ) (o : Option ℕ) → at i ≡ o → is_one (group_of n) o ≡ true → (label_of (group_of n) ≡ i) × (out (group_of n) ≡ true)
    bearer i None e h = absurd (cc)
    bearer i (Some g) e h = bears i (group_of n) (e ∙ ap (λ z. Some z) (sym (eqb-true (group_of n) g h)))

    none : out (group_of n) ≡ false → (i : ℕ) (b : Bool) → is_one (group_of n) (at i) ≡ b → b ≡ false
    none e i false h = refl
    none e i true h = absurd (cc (sym e ∙ (bearer i (at i) refl h).1))

    go :
        (b : Bool) → out (group_of n) ≡ b → sum_below 32 (λ i. of_group group_of n (at i)) ≡ count_below n (λ r. out (group_of r))
        → count_below 32 (λ i. is_one (group_of n) (at i)) + sum_below 32 (λ i. of_group group_of n (at i))
        ≡ (if b then suc (count_below n (λ r. out (group_of r))) else count_below n (λ r. out (group_of r)))
    go true e rest =
        let x = there (group_of n) e in
        let one : count_below 32 (λ i. is_one (group_of n) (at i)) ≡ 1 =
        count_once 32 (λ i. is_one (group_of n) (at i)) (label_of (group_of n)) x.1 (ap (is_one (group_of n)) x.0 ∙ is_itself (group_of n))
        (λ j h. sym (bearer j (at j) refl h).0)
        in
        omega (arith, one, rest)
    go false e rest =
        let zero : count_below 32 (λ i. is_one (group_of n) (at i)) ≡ 0 =
        count_zero 32 (λ i. is_one (group_of n) (at i)) (λ i l. none e i (is_one (group_of n) (at i)) refl) in
        omega (arith, zero, rest)

pub outstanding_seen : (w : World) (e : ℕ) → Invariant w → e < w.config.endpoints → outstanding (device_of (wire w) e).groups ≡ Labels.outstanding (w.part e)
outstanding_seen w e i l =
    ap (λ (d : DeviceWire). outstanding d.groups) (device_seen w e l)
    ∙ outstanding_sum 32 (λ x. option_map (group_wire p) (p.at_index x))
    ∙ sum_same 32 (λ x. requests_in (option_map (group_wire p) (p.at_index x))) (λ x. of_group p.group_of p.page_requests (p.at_index x))
    (λ x m. counted (p.at_index x))
    ∙ sum_groups p.group_of (λ g. is_outstanding (p.group g)) p.at_index p.index (i.parts e).groups.index_bears
    (λ g h. let x = (i.parts e).groups.bears_index g h in (x, (i.parts e).groups.index_low (p.index g) g x)) p.page_requests
  where
    p : Endpoint
    p = w.part e

    counted : (o : Option ℕ) → requests_in (option_map (group_wire p) o) ≡ of_group p.group_of p.page_requests o
    counted None = refl
    counted (Some g) = refl

-- What is asked of the PASID, and of the group of an index.

may_seen :
    (w : World) (e t : ℕ) (o : Option ℕ) → Invariant w → e < w.config.endpoints
    → may_request (device_of (wire w) e) t o ≡ names.may_request (w.part e) t o
may_seen w e t None i l = ap (λ d. may_request d t None) (device_seen w e l) ∙ started_seen w.mappings (w.part e) (i.parts e).labels t
may_seen w e t (Some x) i l =
    ap (λ d. may_request d t (Some x)) (device_seen w e l)
    ∙ ap₂ ◌||◌ (started_seen w.mappings (w.part e) (i.parts e).labels t) (ending_seen w.mappings (w.part e) (i.parts e).labels t)

-- an unfinished group is of the PASID exactly where its asker bears it
group_of_pasid :
    (w : World) (e t g : ℕ) → Invariant w
    → (is_collecting ((w.part e).group g) && (w.part e).pasid ((w.part e).asker g) == t)
    ≡ (is_collecting ((w.part e).group g) && words.is_some ((w.part e).at_pasid t) && (w.part e).asker g == Labels.bearer (w.part e) t)
group_of_pasid w e t g i = go (is_collecting (p.group g)) refl
  where
    p : Endpoint
    p = w.part e

    nothing : (x y : ℕ) → (true && false && x == y) ≡ false
    nothing x y = refl

    by :
        is_collecting (p.group g) ≡ true → (o : Option ℕ) → p.at_pasid t ≡ o → (p.pasid (p.asker g) ≡ t) ⊎ (p.pasid (p.asker g) ≢ t)
        → (p.pasid (p.asker g) == t) ≡ (words.is_some o && p.asker g == the o)
    by u None h (inl same) = absurd (cc (sym ((found w e i).asker g (inl (unfinished_is (p.group g) u))).0.bears ∙ ap p.at_pasid same ∙ h))
    by u None h (inr ne) = ne_eqb (p.pasid (p.asker g)) t ne
    by u (Some b) h (inl same) =
        let is : p.asker g ≡ b = same_inside (sym ((found w e i).asker g (inl (unfinished_is (p.group g) u))).0.bears ∙ ap p.at_pasid same ∙ h) in
        eq-eqb (p.pasid (p.asker g)) t same ∙ sym (eq-eqb (p.asker g) b is)
    by u (Some b) h (inr ne) =
        ne_eqb (p.pasid (p.asker g)) t ne ∙ sym (ne_eqb (p.asker g) b (λ is. ne (ap p.pasid is ∙ ((i.parts e).labels.pasid_bears t b h).0)))

    go : (b : Bool) → is_collecting (p.group g) ≡ b → (b && p.pasid (p.asker g) == t) ≡ (b && words.is_some (p.at_pasid t) && p.asker g == Labels.bearer p t)
    go false h = refl
    go true h = by h (p.at_pasid t) refl (ℕ_cases (p.pasid (p.asker g)) t)

other_seen :
    (w : World) (e t : ℕ) (o : Option ℕ) → Invariant w → e < w.config.endpoints
    → is_other_group (device_of (wire w) e) t o ≡ names.is_other_group (w.part e) t o
other_seen w e t None i l = refl
other_seen w e t (Some x) i l =
    ap (λ d. not (has_unfinished_group t (group_at d x))) (device_seen w e l)
    ∙ ap (λ g. not (has_unfinished_group t g)) (group_seen w.mappings (w.part e) (i.parts e).groups.index_low x)
    ∙ ap not (go ((w.part e).at_index x))
  where
    go :
        (o : Option ℕ)
        → has_unfinished_group t (option_map (group_wire (w.part e)) o)
        ≡ holds_of (λ g. is_collecting ((w.part e).group g) && words.is_some ((w.part e).at_pasid t) && (w.part e).asker g == Labels.bearer (w.part e) t) o
    go None = refl
    go (Some g) = group_of_pasid w e t g i

-- The step.

fault_alike :
    (w : World) (e t q : ℕ) (o : Option ℕ) → Invariant w → e < w.config.endpoints
    → AreSame (device_causes_of_fault (device_of (wire w) e) t q o ++ numbers_spent (wire w).next_message 1 ∷ [])
    (page_range q 1 ∷ names.fault_refusals w (w.part e) t o)
fault_alike w e t q o i l = (
  refl,
  λ f0. (
    ap (λ b. (not b, refusal.NotStarted)) (may_seen w e t o i l),
    λ f. (
      ap (λ n. (nat_le 32 n, refusal.NoCredit)) (outstanding_seen w e i l),
      λ f1. (
        ap (λ b. (b, refusal.NoSuchGroup)) (other_seen w e t o i l),
        λ f2. (ap (λ (d : DeviceWire). (d.is_disabled, refusal.PriDisabled)) (device_seen w e l), λ f3. (refl, λ f4. tt)),
      ),
    ),
  ),
)

index_is :
    (w : World) (e : ℕ) → e < w.config.endpoints → Labels.lowest_label 32 (w.part e).at_index < 32
    → label (lowest_label (device_of (wire w) e).groups) ≡ Labels.lowest_label 32 (w.part e).at_index
index_is w e l h =
    ap (λ (d : DeviceWire). label (lowest_label d.groups)) (device_seen w e l)
    ∙ label_is 32 (w.part e).at_index (λ t. option_map (group_wire (w.part e)) ((w.part e).at_index t))
    (λ t. seen_none (group_wire (w.part e)) ((w.part e).at_index t)) (isnt (Labels.lowest_label 32 (w.part e).at_index) h)
  where
    isnt : (k : ℕ) → k < 32 → (k == 32) ≡ false
    isnt k m = grind (arith, nat_tests)

fault_result_is :
    (w : World) (e t q : ℕ) (r x l : Bool) (o : Option ℕ) → Invariant w → Passed (refusals w (step.Fault e t q r x o l))
    → result_of (wire w) (step.Fault e t q r x o l) ≡ result_by w (outcome w (step.Fault e t q r x o l))
fault_result_is w e t q r x l None i h =
    let legal = (Legally.fault w e t q r x None l i h).0.1.0 in
    ap₂ (λ k u. by_one (answer.Group k) (Move.Group e u k q r x l)) (index_is w e (is_less e w.config.endpoints h.0) legal.2)
    (sym (bearer_pasid w e t i (not-false (Labels.is_started (w.part e) t) h.1.1.0)))
fault_result_is w e t q r x l (Some k) i h = go ((w.part e).at_index k) refl (not-false (Labels.is_group_of (w.part e) t k) h.1.1.1.1.0)
  where
    p : Endpoint
    p = w.part e

    three : (a b c : Bool) → (a && b && c) ≡ true → (a ≡ true) × ((a && b && c) ≡ true)
    three a b c h = (grind arith, h)

    same : (a : Bool) (x y : ℕ) → (a && x == y) ≡ true → x ≡ y
    same a x y h = grind (arith, nat_tests)

    go :
        (o : Option ℕ) → p.at_index k ≡ o
        → holds_of (λ g. is_collecting (p.group g) && words.is_some (p.at_pasid t) && p.asker g == Labels.bearer p t) o ≡ true
        → by_one (answer.Group k) (Move.Request e t k q r x l)
        ≡ by_one (answer.Group k) (Move.Request e (p.pasid (p.asker (the (p.at_index k)))) (p.index (the (p.at_index k))) q r x l)
    go None m c = absurd (cc)
    go (Some g) m c =
        ap₂ (λ u v. by_one (answer.Group k) (Move.Request e u v q r x l))
        (sym (same (is_collecting (p.group g)) (p.pasid (p.asker g)) t (group_of_pasid w e t g i ∙ c))) (sym ((i.parts e).groups.index_bears k g m).0)
        ∙ ap (λ z. by_one (answer.Group k) (Move.Request e (p.pasid (p.asker z)) (p.index z) q r x l)) (sym (ap the m))

pub fault_says : (w : World) (e t q : ℕ) (r x : Bool) (o : Option ℕ) (l : Bool) → Invariant w → SaysAlike w (step.Fault e t q r x o l)
fault_says w e t q r x o l i =
    record {
      alike =
          same_alike (causes_of (wire w) (step.Fault e t q r x o l)) (refusals w (step.Fault e t q r x o l)) (
            endpoint_cause w e,
            λ f. fault_alike w e t q o i (below_seen w e f),
          );
      result = fault_result_is w e t q r x l o i;
    }
