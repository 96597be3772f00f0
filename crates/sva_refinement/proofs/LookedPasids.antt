-- PASIDs looked up in what a host keeps, by the rule of one PASID for each space: which one a space is given, and which
-- space bears one, by how many bindings.
use Rattle.std.proofs.Common.{◌≡◌, ◌⊎◌, inl, inr, refl, ap, ap₂, sym, subst, ◌∙◌, ℕ, zero, suc, ◌+◌, ◌<◌, ◌≤◌, Bool, true, false, arith}
use Rattle.std.specs.Prelude.{Option, Some, None, option_map, ◌&&◌, not, ◌==◌, if◌then◌else◌}
use Rattle.std.specs.List as lists
use Rattle.std.proofs.lemmas.Bool.{and_from, eq-eqb, eqb-true, false_from_ne_true}
use Rattle.sva_step.specs.declared.answers.Answer.TheVariants as answer
use Rattle.sva_model.specs.Words.{find, lowest, count_below, is_some, holds_of, the}
use Rattle.sva_model.specs.State.{World}
use Rattle.sva_model.specs.State.PasidRule.{PerSpace}
use Rattle.sva_model.specs.States.{is_unreleased}
use Rattle.sva_model.specs.Outcomes as names
use Rattle.sva_model.specs.Labels
use Rattle.sva_model.specs.Wire.{number, wire}
use Rattle.sva_labels.proofs.Words.{any_below-true, any_below-intro, find_passes, find_some, lowest_cases}
use Rattle.sva_labels.proofs.Counting.{count_placed}
use Rattle.sva_laws.proofs.Invariant.{Invariant}
use Rattle.sva_laws.proofs.Passed.{unreleased_made, unreleased_bound}
use Rattle.sva_labels.proofs.Tests.{first_holds, same_inside, second_holds}
use Rattle.sva_labels.specs.Finding.{pasid_by, pasid_for, is_borne}
use Rattle.sva_labels.specs.Outcomes.{bearer_answer}
use Rattle.sva_refinement.proofs.Bound.{binding_seen}
use Rattle.sva_refinement.proofs.LookedLists.{find_same, find_none, find_only, find_seen, count_seen}
use Rattle.sva_refinement.proofs.LookedBindings.{is_kept, borne_there}

-- The lowest PASID that passes.

lowest_same : (p q : ℕ → Bool) → ((t : ℕ) → p t ≡ q t) → Labels.lowest_pasid p ≡ Labels.lowest_pasid q
lowest_same p q h = ap (option_map suc) (find_same 32 (λ t. p (suc t)) (λ t. q (suc t)) (λ t l. h (suc t)))

lowest_none : (p : ℕ → Bool) → ((t : ℕ) → p t ≡ false) → Labels.lowest_pasid p ≡ None
lowest_none p h = ap (option_map suc) (find_none 32 (λ t. p (suc t)) (λ t l. h (suc t)))

lowest_only : (p : ℕ → Bool) (t : ℕ) → 0 < t → t ≤ 32 → p t ≡ true → ((u : ℕ) → p u ≡ true → u ≡ t) → Labels.lowest_pasid p ≡ Some t
lowest_only p zero pos low h one = absurd (omega arith)
lowest_only p (suc k) pos low h one = ap (option_map suc) (find_only 32 (λ t. p (suc t)) k (omega arith) h (λ j l g. same j k (one (suc j) g)))
  where
    same : (j k : ℕ) → suc j ≡ suc k → j ≡ k
    same j k e = omega arith

-- A space's own PASID.

-- one is borne by a binding of a space
record BorneBy (w : World) (s t : ℕ) : Type 0 where
  endpoint : ℕ
  binding : ℕ
  bears : (w.part endpoint).at_pasid t ≡ Some binding
  its : (w.part endpoint).space binding ≡ s

borne_by : (w : World) (s t : ℕ) → Labels.is_borne_by w s t ≡ true → BorneBy w s t
borne_by w s t h =
    let x = any_below-true w.config.endpoints (λ e. holds_of (λ b. (w.part e).space b == s) ((w.part e).at_pasid t)) h in
    go x.0 ((w.part x.0).at_pasid t) refl x.2
  where
    go : (e : ℕ) (o : Option ℕ) → (w.part e).at_pasid t ≡ o → holds_of (λ b. (w.part e).space b == s) o ≡ true → BorneBy w s t
    go e None k g = absurd (cc (g))
    go e (Some b) k g = record { endpoint = e; binding = b; bears = k; its = eqb-true ((w.part e).space b) s g }

pub pasid_there : (w : World) (e s : ℕ) → Invariant w → w.rule ≡ PerSpace → pasid_for (wire w) (number w.config.first s) ≡ Labels.pasid_for w e s
pasid_there w e s i r =
    ap (pasid_by (wire w)) (find_seen (binding_seen w) (λ b. b.space == w.config.first + s) w.bindings (is_kept w))
    ∙ go (find w.bindings (λ b. is_kept w b && w.config.first + (w.part (w.endpoint_of b)).space b == w.config.first + s)) refl
    ∙ ap (λ z. Labels.pasid_by z w e s) (sym r)
  where
    one_space : (a b : ℕ) → w.config.first + a ≡ w.config.first + b → a ≡ b
    one_space a b h = omega arith

    kept_at :
        (d b : ℕ) → is_unreleased ((w.part d).stage b) ≡ true → (w.part d).space b ≡ s
        → (b < w.bindings) × ((is_kept w b && w.config.first + (w.part (w.endpoint_of b)).space b == w.config.first + s) ≡ true)
    kept_at d b u sp =
        let endpoint_of : w.endpoint_of b ≡ d = i.one_endpoint d b (unreleased_bound (w.part d) b u) in (
          unreleased_made w.bindings (w.part d) b (i.parts d).bounds.stage u,
          and_from (is_kept w b) (w.config.first + (w.part (w.endpoint_of b)).space b == w.config.first + s)
              (ap (λ x. is_unreleased ((w.part x).stage b)) endpoint_of ∙ u)
              (eq-eqb (w.config.first + (w.part (w.endpoint_of b)).space b) (w.config.first + s)
              (ap (λ z. w.config.first + z) (ap (λ x. (w.part x).space b) endpoint_of ∙ sp))),
        )

    found_none :
        (t : ℕ) → find w.bindings (λ b. is_kept w b && w.config.first + (w.part (w.endpoint_of b)).space b == w.config.first + s) ≡ None
        → Labels.is_borne_by w s t ≡ true → ⊥
    found_none t h k =
        let y = borne_by w s t k in
        let la = (i.parts y.endpoint).labels.pasid_bears t y.binding y.bears in
        let z = kept_at y.endpoint y.binding la.1 y.its in
        absurd (cc (sym (find_some w.bindings (λ b. is_kept w b && w.config.first + (w.part (w.endpoint_of b)).space b == w.config.first + s) y.binding z.0
        z.1) ∙ h))

    go :
        (o : Option ℕ) → find w.bindings (λ b. is_kept w b && w.config.first + (w.part (w.endpoint_of b)).space b == w.config.first + s) ≡ o
        → pasid_by (wire w) (option_map (binding_seen w) o)
        ≡ Labels.or_else (Labels.lowest_pasid (Labels.is_borne_by w s)) (Labels.lowest_pasid (λ t. not (Labels.is_borne w t)))
    go None h =
        lowest_same (λ t. not (is_borne (wire w) t)) (λ t. not (Labels.is_borne w t)) (λ t. ap not (borne_there w t i))
        ∙ sym (ap (λ o. Labels.or_else o (Labels.lowest_pasid (λ t. not (Labels.is_borne w t))))
        (lowest_none (Labels.is_borne_by w s) (λ t. false_from_ne_true (Labels.is_borne_by w s t) (found_none t h))))
    go (Some b) h =
        let x = find_passes w.bindings (λ b. is_kept w b && w.config.first + (w.part (w.endpoint_of b)).space b == w.config.first + s) b h in
        let kept = first_holds (is_kept w b) (w.config.first + (w.part (w.endpoint_of b)).space b == w.config.first + s) x.1 in
        let space : (w.part (w.endpoint_of b)).space b ≡ s =
        one_space ((w.part (w.endpoint_of b)).space b) s
        (eqb-true (w.config.first + (w.part (w.endpoint_of b)).space b) (w.config.first + s)
        (second_holds (is_kept w b) (w.config.first + (w.part (w.endpoint_of b)).space b == w.config.first + s) x.1))
        in
        let at = (i.parts (w.endpoint_of b)).labels.bears_pasid b kept in
        let low = (i.parts (w.endpoint_of b)).labels.pasid_low ((w.part (w.endpoint_of b)).pasid b) b at in
        sym (ap (λ o. Labels.or_else o (Labels.lowest_pasid (λ t. not (Labels.is_borne w t))))
        (lowest_only (Labels.is_borne_by w s) ((w.part (w.endpoint_of b)).pasid b) low.0 low.1
        (any_below-intro w.config.endpoints (λ d. holds_of (λ c. (w.part d).space c == s) ((w.part d).at_pasid ((w.part (w.endpoint_of b)).pasid b)))
        (w.endpoint_of b)
        ((i.parts (w.endpoint_of b)).there b (unreleased_bound (w.part (w.endpoint_of b)) b kept))
        (ap (holds_of (λ c. (w.part (w.endpoint_of b)).space c == s)) at ∙ eq-eqb ((w.part (w.endpoint_of b)).space b) s space))
        (λ u g. its_pasid u (borne_by w s u g) b kept space)))
      where
        its_pasid : (u : ℕ) → BorneBy w s u → (b : ℕ) → is_kept w b ≡ true → (w.part (w.endpoint_of b)).space b ≡ s → u ≡ (w.part (w.endpoint_of b)).pasid b
        its_pasid u y b kept space =
            let la = (i.parts y.endpoint).labels.pasid_bears u y.binding y.bears in
            sym la.0 ∙ (i.shared r).same_pasid y.endpoint (w.endpoint_of b) y.binding b la.1 kept (y.its ∙ sym space)

-- Which space bears a PASID.

-- as many pass of the one as of the other, each at a place of its own
count_within :
    (k n : ℕ) (q p : ℕ → Bool) (f : ℕ → ℕ) → ((i : ℕ) → i < k → q i ≡ true → (f i < n) × (p (f i) ≡ true))
    → ((i j : ℕ) → i < k → j < k → q i ≡ true → q j ≡ true → f i ≡ f j → i ≡ j) → count_below k q ≤ count_below n p
count_within k n q p f h one =
    count_placed k n q p (λ i. if q i then f i else n + i) (λ i l t. subst (λ b. (if b then f i else n + i) < n) (sym t) (h i l t).0)
    (λ i l t. ap (λ b. p (if b then f i else n + i)) t ∙ (h i l t).1)
    (λ i j l m e. go i j l m (q i) (q j) refl refl e)
  where
    go : (i j : ℕ) → i < k → j < k → (a b : Bool) → q i ≡ a → q j ≡ b → (if a then f i else n + i) ≡ (if b then f j else n + j) → i ≡ j
    go i j l m true true s t e = one i j l m s t e
    go i j l m true false s t e = let x = (h i l s).0 in absurd (omega (arith, x, e))
    go i j l m false true s t e = let x = (h j m t).0 in absurd (omega (arith, x, e))
    go i j l m false false s t e = omega arith

bearers : (w : World) (t : ℕ) → Invariant w → count_below w.bindings (λ b. is_kept w b && (w.part (w.endpoint_of b)).pasid b == t) ≡ Labels.bindings_under w t
bearers w t i =
    let less =
    count_within w.bindings w.config.endpoints (λ b. is_kept w b && (w.part (w.endpoint_of b)).pasid b == t)
    (λ e. Labels.is_borne_at (w.part e) t) w.endpoint_of forth (λ b c l m u v e. one_binding b c u v e) in
    let more =
    count_within w.config.endpoints w.bindings (λ e. Labels.is_borne_at (w.part e) t) (λ b. is_kept w b && (w.part (w.endpoint_of b)).pasid b == t)
    (λ e. the ((w.part e).at_pasid t)) (λ e l h. back e ((w.part e).at_pasid t) refl h)
    (λ d e l m u v k. one_endpoint d e ((w.part d).at_pasid t) ((w.part e).at_pasid t) refl refl u v k) in
    omega (arith, less, more)
  where
    bears : (b : ℕ) → (is_kept w b && (w.part (w.endpoint_of b)).pasid b == t) ≡ true → (w.part (w.endpoint_of b)).at_pasid t ≡ Some b
    bears b h =
        subst (λ z. (w.part (w.endpoint_of b)).at_pasid z ≡ Some b)
        (eqb-true ((w.part (w.endpoint_of b)).pasid b) t (second_holds (is_kept w b) ((w.part (w.endpoint_of b)).pasid b == t) h))
        ((i.parts (w.endpoint_of b)).labels.bears_pasid b (first_holds (is_kept w b) ((w.part (w.endpoint_of b)).pasid b == t) h))

    forth :
        (b : ℕ) → b < w.bindings → (is_kept w b && (w.part (w.endpoint_of b)).pasid b == t) ≡ true
        → (w.endpoint_of b < w.config.endpoints) × (Labels.is_borne_at (w.part (w.endpoint_of b)) t ≡ true)
    forth b l h = (
      (i.parts (w.endpoint_of b)).there b
          (unreleased_bound (w.part (w.endpoint_of b)) b (first_holds (is_kept w b) ((w.part (w.endpoint_of b)).pasid b == t) h)),
      ap is_some (bears b h),
    )

    one_binding :
        (b c : ℕ) → (is_kept w b && (w.part (w.endpoint_of b)).pasid b == t) ≡ true → (is_kept w c && (w.part (w.endpoint_of c)).pasid c == t) ≡ true
        → w.endpoint_of b ≡ w.endpoint_of c → b ≡ c
    one_binding b c u v e = same_inside (sym (bears b u) ∙ ap (λ d. (w.part d).at_pasid t) e ∙ bears c v)

    back :
        (e : ℕ) (o : Option ℕ) → (w.part e).at_pasid t ≡ o → is_some o ≡ true
        → (the o < w.bindings) × ((is_kept w (the o) && (w.part (w.endpoint_of (the o))).pasid (the o) == t) ≡ true)
    back e None h k = absurd (cc (k))
    back e (Some b) h k =
        let la = (i.parts e).labels.pasid_bears t b h in
        let endpoint_of : w.endpoint_of b ≡ e = i.one_endpoint e b (unreleased_bound (w.part e) b la.1) in (
          unreleased_made w.bindings (w.part e) b (i.parts e).bounds.stage la.1,
          and_from (is_kept w b) ((w.part (w.endpoint_of b)).pasid b == t) (ap (λ d. is_unreleased ((w.part d).stage b)) endpoint_of ∙ la.1)
              (eq-eqb ((w.part (w.endpoint_of b)).pasid b) t (ap (λ d. (w.part d).pasid b) endpoint_of ∙ la.0)),
        )

    one_endpoint :
        (d e : ℕ) (o p : Option ℕ) → (w.part d).at_pasid t ≡ o → (w.part e).at_pasid t ≡ p → is_some o ≡ true → is_some p ≡ true
        → the o ≡ the p → d ≡ e
    one_endpoint d e None p h k u v same = absurd (cc (u))
    one_endpoint d e (Some b) None h k u v same = absurd (cc (v))
    one_endpoint d e (Some b) (Some c) h k u v same =
        sym (i.one_endpoint d b (unreleased_bound (w.part d) b ((i.parts d).labels.pasid_bears t b h).1))
        ∙ ap w.endpoint_of same
        ∙ i.one_endpoint e c (unreleased_bound (w.part e) c ((i.parts e).labels.pasid_bears t c k).1)

pub bearer_said :
    (w : World) (t : ℕ) → Invariant w → w.rule ≡ PerSpace
    → bearer_answer (wire w) t (lists.find (λ b. b.pasid == t) (wire w).bindings) ≡ names.bearer_answer w t (Labels.is_borne w t)
bearer_said w t i r =
    ap (bearer_answer (wire w) t) (find_seen (binding_seen w) (λ b. b.pasid == t) w.bindings (is_kept w))
    ∙ go (find w.bindings (λ b. is_kept w b && (w.part (w.endpoint_of b)).pasid b == t)) refl
  where
    bears : (b : ℕ) → (is_kept w b && (w.part (w.endpoint_of b)).pasid b == t) ≡ true → (w.part (w.endpoint_of b)).at_pasid t ≡ Some b
    bears b h =
        subst (λ z. (w.part (w.endpoint_of b)).at_pasid z ≡ Some b)
        (eqb-true ((w.part (w.endpoint_of b)).pasid b) t (second_holds (is_kept w b) ((w.part (w.endpoint_of b)).pasid b == t) h))
        ((i.parts (w.endpoint_of b)).labels.bears_pasid b (first_holds (is_kept w b) ((w.part (w.endpoint_of b)).pasid b == t) h))

    by_lowest :
        (d b : ℕ) → is_kept w b ≡ true → (w.part (w.endpoint_of b)).pasid b ≡ t → (o : Option ℕ) → (w.part d).at_pasid t ≡ o → is_some o ≡ true
        → (w.part (w.endpoint_of b)).space b ≡ (w.part d).space (the o)
    by_lowest d b kept pasid None h k = absurd (cc (k))
    by_lowest d b kept pasid (Some c) h k =
        let la = (i.parts d).labels.pasid_bears t c h in
        (i.shared r).same_space (w.endpoint_of b) d b c kept la.1 (pasid ∙ sym la.0)

    its_space :
        (b : ℕ) → is_kept w b ≡ true → (w.part (w.endpoint_of b)).pasid b ≡ t
        → ((lowest w.config.endpoints (λ e. Labels.is_borne_at (w.part e) t) ≡ w.config.endpoints)
        × ((j : ℕ) → j < w.config.endpoints → Labels.is_borne_at (w.part j) t
        ≡ false)) ⊎ ((lowest w.config.endpoints (λ e. Labels.is_borne_at (w.part e) t) < w.config.endpoints)
        × (Labels.is_borne_at (w.part (lowest w.config.endpoints (λ e. Labels.is_borne_at (w.part e) t))) t ≡ true)
        × ((j : ℕ) → j < lowest w.config.endpoints (λ e. Labels.is_borne_at (w.part e) t) → Labels.is_borne_at (w.part j) t ≡ false))
        → (w.part (w.endpoint_of b)).space b ≡ Labels.space_under w t
    its_space b kept pasid (inl x) =
        absurd (cc (sym (x.1 (w.endpoint_of b) ((i.parts (w.endpoint_of b)).there b (unreleased_bound (w.part (w.endpoint_of b)) b kept)))
        ∙ ap is_some (subst (λ z. (w.part (w.endpoint_of b)).at_pasid z ≡ Some b) pasid ((i.parts (w.endpoint_of b)).labels.bears_pasid b kept))))
    its_space b kept pasid (inr x) =
        by_lowest (lowest w.config.endpoints (λ e. Labels.is_borne_at (w.part e) t)) b kept pasid
        ((w.part (lowest w.config.endpoints (λ e. Labels.is_borne_at (w.part e) t))).at_pasid t) refl x.1

    go :
        (o : Option ℕ) → find w.bindings (λ b. is_kept w b && (w.part (w.endpoint_of b)).pasid b == t) ≡ o
        → bearer_answer (wire w) t (option_map (binding_seen w) o) ≡ names.bearer_answer w t (Labels.is_borne w t)
    go None h = sym (ap (names.bearer_answer w t) (false_from_ne_true (Labels.is_borne w t) (λ k. unborne k)))
      where
        unborne : Labels.is_borne w t ≡ true → ⊥
        unborne k =
            let x = any_below-true w.config.endpoints (λ e. Labels.is_borne_at (w.part e) t) k in
            by_one x.0 ((w.part x.0).at_pasid t) refl x.2
          where
            by_one : (e : ℕ) (o : Option ℕ) → (w.part e).at_pasid t ≡ o → is_some o ≡ true → ⊥
            by_one e None g z = absurd (cc (z))
            by_one e (Some b) g z =
                let la = (i.parts e).labels.pasid_bears t b g in
                let endpoint_of : w.endpoint_of b ≡ e = i.one_endpoint e b (unreleased_bound (w.part e) b la.1) in
                absurd (cc
                (sym (find_some w.bindings (λ b. is_kept w b && (w.part (w.endpoint_of b)).pasid b == t) b
                (unreleased_made w.bindings (w.part e) b (i.parts e).bounds.stage la.1)
                (and_from (is_kept w b) ((w.part (w.endpoint_of b)).pasid b == t) (ap (λ d. is_unreleased ((w.part d).stage b)) endpoint_of ∙ la.1)
                (eq-eqb ((w.part (w.endpoint_of b)).pasid b) t (ap (λ d. (w.part d).pasid b) endpoint_of ∙ la.0)))) ∙ h))
    go (Some b) h =
        let x = find_passes w.bindings (λ b. is_kept w b && (w.part (w.endpoint_of b)).pasid b == t) b h in
        let kept = first_holds (is_kept w b) ((w.part (w.endpoint_of b)).pasid b == t) x.1 in
        let pasid = eqb-true ((w.part (w.endpoint_of b)).pasid b) t (second_holds (is_kept w b) ((w.part (w.endpoint_of b)).pasid b == t) x.1) in
        let borne : Labels.is_borne w t ≡ true =
        any_below-intro w.config.endpoints (λ e. Labels.is_borne_at (w.part e) t) (w.endpoint_of b)
        ((i.parts (w.endpoint_of b)).there b (unreleased_bound (w.part (w.endpoint_of b)) b kept)) (ap is_some (bears b x.1))
        in
        ap₂ (λ s n. answer.Bearer (w.config.first + s) n) (its_space b kept pasid (lowest_cases w.config.endpoints (λ e. Labels.is_borne_at (w.part e) t)))
        (count_seen (binding_seen w) (λ x. x.pasid == t) w.bindings (is_kept w) ∙ bearers w t i)
        ∙ sym (ap (names.bearer_answer w t) borne)
