-- What the laws need of a rule of PASIDs, and that both rules give it.
use Rattle.std.proofs.Common.{◌≡◌, ◌≢◌, ◌⊎◌, inl, inr, refl, ap, sym, subst, ◌∙◌, ℕ, zero, suc, ◌<◌, ◌≤◌, Bool, true, arith}
use Rattle.std.specs.Prelude.{Option, Some, None, option_map, not, ◌==◌}
use Rattle.std.proofs.lemmas.Bool.{eq-eqb, eqb-true, not-true}
use Rattle.sva_model.specs.Words.{find, is_some, holds_of, the}
use Rattle.sva_model.specs.State.{PasidRule, Endpoint, World}
use Rattle.sva_model.specs.State.PasidRule.{PerEndpoint, PerSpace}
use Rattle.sva_model.specs.States.{is_unreleased}
use Rattle.sva_model.specs.Labels
use Rattle.sva_labels.proofs.Words.{none_is, holds_the, find_passes, find_some, any_below-false, any_below-true, any_below-intro}
use Rattle.sva_laws.proofs.Shared.{IsOf}
use Rattle.sva_laws.proofs.Invariant.{Invariant}
use Rattle.sva_laws.proofs.Passed.{unreleased_bound}

-- the space has no unreleased binding at the endpoint
abbrev pub IsUnbound : World → (endpoint space : ℕ) → Type 0
IsUnbound w e s = (b : ℕ) → is_unreleased ((w.part e).stage b) ≡ true → (w.part e).space b ≢ s

-- A PASID that is given is one of 1 to 32; no other binding of the endpoint bears it; and where the rule is one PASID for
-- each space, it is the space's own.
pub record IsPasidRule (rule : PasidRule) : Type 0 where
  pub low : (w : World) (e s t : ℕ) → Labels.pasid_by rule w e s ≡ Some t → (0 < t) × (t ≤ 32)
  pub free : (w : World) (e s t : ℕ) → w.rule ≡ rule → Invariant w → e < w.config.endpoints → IsUnbound w e s → Labels.pasid_by rule w e s ≡ Some t
      → (w.part e).at_pasid t ≡ None
  pub its : (w : World) (e s t : ℕ) → rule ≡ PerSpace → w.rule ≡ rule → Invariant w → Labels.pasid_by rule w e s ≡ Some t → IsOf w.part s t

-- The lowest PASID that passes, and where none does.

pub lowest_is : (p : ℕ → Bool) (t : ℕ) → Labels.lowest_pasid p ≡ Some t → (0 < t) × (t ≤ 32) × (p t ≡ true)
lowest_is p t h = go (find 32 (λ k. p (suc k))) refl h
  where
    go : (o : Option ℕ) → find 32 (λ k. p (suc k)) ≡ o → option_map suc o ≡ Some t → (0 < t) × (t ≤ 32) × (p t ≡ true)
    go None e h = absurd (cc)
    go (Some k) e h =
        let f = find_passes 32 (λ j. p (suc j)) k e in
        let same : suc k ≡ t = cc in
        (omega arith, omega (arith, f.0), sym (ap p same) ∙ f.1)

pub none_lowest : (p : ℕ → Bool) (t : ℕ) → Labels.lowest_pasid p ≡ None → 0 < t → t ≤ 32 → p t ≢ true
none_lowest p (suc k) h pos low passes = absurd (cc (sym (ap (option_map suc) (find_some 32 (λ j. p (suc j)) k (omega arith) passes)) ∙ h))
none_lowest p zero h pos low passes = absurd (omega arith)

not_borne : (p : Endpoint) (t : ℕ) → not (Labels.is_borne_at p t) ≡ true → p.at_pasid t ≡ None
not_borne p t h = none_is (p.at_pasid t) (not-true (Labels.is_borne_at p t) h)

-- For each endpoint apart.

per_endpoint : IsPasidRule PerEndpoint
per_endpoint =
    record {
      low = λ w e s t h. let x = lowest_is (λ k. not (Labels.is_borne_at (w.part e) k)) t h in (x.0, x.1);
      free = λ w e s t r i there none h. not_borne (w.part e) t (lowest_is (λ k. not (Labels.is_borne_at (w.part e) k)) t h).2;
      its = λ w e s t r same i h. absurd (cc (r));
    }

-- For each space over all endpoints.

pub own_or_new : (a b : Option ℕ) (t : ℕ) → Labels.or_else a b ≡ Some t → (a ≡ Some t) ⊎ ((a ≡ None) × (b ≡ Some t))
own_or_new None b t h = inr (refl, h)
own_or_new (Some k) b t h = inl h

-- one that the space bears is the space's own
borne_is_its : (w : World) (s t : ℕ) → w.rule ≡ PerSpace → Invariant w → Labels.is_borne_by w s t ≡ true → IsOf w.part s t
borne_is_its w s t r i h =
    let d = any_below-true w.config.endpoints (λ e. holds_of (λ b. (w.part e).space b == s) ((w.part e).at_pasid t)) h in
    let c = holds_the (λ b. (w.part d.0).space b == s) ((w.part d.0).at_pasid t) d.2 in
    let bears = (i.parts d.0).labels.pasid_bears t (the ((w.part d.0).at_pasid t)) c.0 in
    let sp = eqb-true ((w.part d.0).space (the ((w.part d.0).at_pasid t))) s c.1 in
    let sh = i.shared r in
    record {
      its_space = λ e b u k. sh.same_space e d.0 b (the ((w.part d.0).at_pasid t)) u bears.1 (k ∙ sym bears.0) ∙ sp;
      its_pasid = λ e b u k. sh.same_pasid e d.0 b (the ((w.part d.0).at_pasid t)) u bears.1 (k ∙ sym sp) ∙ bears.0;
    }

-- one that no space bears becomes the own one of a space that bears none
pub new_is_its : (w : World) (s t : ℕ) → Invariant w → Labels.lowest_pasid (Labels.is_borne_by w s) ≡ None → not (Labels.is_borne w t) ≡ true → IsOf w.part s t
new_is_its w s t i none new =
    record {
      its_space = λ e b u k. absurd
          (cc (sym (ap is_some (subst (λ z. (w.part e).at_pasid z ≡ Some b) k ((i.parts e).labels.bears_pasid b u)))
          ∙ any_below-false w.config.endpoints (λ d. Labels.is_borne_at (w.part d) t) (not-true (Labels.is_borne w t) new) e (there e b u)));
      its_pasid = λ e b u k.
          let at = (i.parts e).labels.bears_pasid b u in
          let low = (i.parts e).labels.pasid_low ((w.part e).pasid b) b at in
          absurd (none_lowest (Labels.is_borne_by w s) ((w.part e).pasid b) none low.0 low.1
          (any_below-intro w.config.endpoints (λ d. holds_of (λ c. (w.part d).space c == s) ((w.part d).at_pasid ((w.part e).pasid b))) e (there e b u)
          (ap (holds_of (λ c. (w.part e).space c == s)) at ∙ eq-eqb ((w.part e).space b) s k)));
    }
  where
    there : (e b : ℕ) → is_unreleased ((w.part e).stage b) ≡ true → e < w.config.endpoints
    there e b u = (i.parts e).there b (unreleased_bound (w.part e) b u)

its_own : (w : World) (e s t : ℕ) → w.rule ≡ PerSpace → Invariant w → Labels.pasid_by PerSpace w e s ≡ Some t → IsOf w.part s t
its_own w e s t r i h = go (own_or_new (Labels.lowest_pasid (Labels.is_borne_by w s)) (Labels.lowest_pasid (λ k. not (Labels.is_borne w k))) t h)
  where
    go : (Labels.lowest_pasid (Labels.is_borne_by w s) ≡ Some t)
        ⊎ ((Labels.lowest_pasid (Labels.is_borne_by w s) ≡ None) × (Labels.lowest_pasid (λ k. not (Labels.is_borne w k)) ≡ Some t)) → IsOf w.part s t
    go (inl x) = borne_is_its w s t r i (lowest_is (Labels.is_borne_by w s) t x).2
    go (inr x) = new_is_its w s t i x.0 (lowest_is (λ k. not (Labels.is_borne w k)) t x.1).2

low_either : (w : World) (e s t : ℕ) → Labels.pasid_by PerSpace w e s ≡ Some t → (0 < t) × (t ≤ 32)
low_either w e s t h = go (own_or_new (Labels.lowest_pasid (Labels.is_borne_by w s)) (Labels.lowest_pasid (λ k. not (Labels.is_borne w k))) t h)
  where
    go : (Labels.lowest_pasid (Labels.is_borne_by w s) ≡ Some t)
        ⊎ ((Labels.lowest_pasid (Labels.is_borne_by w s) ≡ None) × (Labels.lowest_pasid (λ k. not (Labels.is_borne w k)) ≡ Some t)) → (0 < t) × (t ≤ 32)
    go (inl x) = let y = lowest_is (Labels.is_borne_by w s) t x in (y.0, y.1)
    go (inr x) = let y = lowest_is (λ k. not (Labels.is_borne w k)) t x.1 in (y.0, y.1)

free_there : (w : World) (e s t : ℕ) → Invariant w → IsUnbound w e s → IsOf w.part s t → (w.part e).at_pasid t ≡ None
free_there w e s t i none its = go ((w.part e).at_pasid t) refl
  where
    go : (o : Option ℕ) → (w.part e).at_pasid t ≡ o → o ≡ None
    go None h = refl
    go (Some b) h = let x = (i.parts e).labels.pasid_bears t b h in absurd (none b x.1 (its.its_space e b x.1 x.0))

per_space : IsPasidRule PerSpace
per_space =
    record {
      low = low_either;
      free = λ w e s t r i there none h. free_there w e s t i none (its_own w e s t r i h);
      its = λ w e s t r same i h. its_own w e s t same i h;
    }

pub every_rule : (rule : PasidRule) → IsPasidRule rule
every_rule PerEndpoint = per_endpoint
every_rule PerSpace = per_space
