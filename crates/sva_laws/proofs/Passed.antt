-- What has been tested when no cause of a step holds.
use Rattle.std.proofs.Common.{◌≡◌, ◌≢◌, refl, ℕ, ◌<◌, ◌≤◌, Bool, true, false, arith}
use Rattle.std.specs.Prelude.{Option, Some, None, ◌&&◌, not, ◌==◌, if◌then◌else◌, List, [], ◌∷◌, Err}
use Rattle.std.proofs.lemmas.Bool.Decides.{nat_tests}
use Rattle.std.proofs.lemmas.Bool.{not-true}
use Rattle.sva_model.specs.Words.{is_some, holds_of, the}
use Rattle.sva_model.specs.State.{Endpoint, World}
use Rattle.sva_model.specs.State.Phase.{Open}
use Rattle.sva_model.specs.State.Stage.{Unbound}
use Rattle.sva_model.specs.States.{is_open, is_unreleased}
use Rattle.sva_model.specs.Acts.{Act, act}
use Rattle.sva_model.specs.Refusals.{Cause}
use Rattle.sva_model.specs.Outcomes.{Outcome}
use Rattle.sva_model.specs.Steps.{checked, after_acts}
use Rattle.sva_model.specs.Labels
pub use Rattle.sva_labels.proofs.Steps.{Passed}
use Rattle.sva_labels.proofs.Words.{none_is, lowest_passes, any_below-false}
use Rattle.sva_laws.proofs.Invariant.{Invariant}
use Rattle.sva_laws.proofs.Keeps.{Legal, act_keeps}

abbrev pub LegalAll : World → List Act → Type 0
LegalAll w [] = Unit {0}
LegalAll w (a ∷ acts) = Legal w a × LegalAll (act w a) acts

pub acts_keep : (acts : List Act) (w : World) → LegalAll w acts → Invariant w → Invariant (after_acts w acts)
acts_keep [] w l i = i
acts_keep (a ∷ acts) w l i = acts_keep acts (act w a) l.1 (act_keeps w a l.0 i)

pub checked_legal : (w : World) (cs : List Cause) (o : Outcome) → (Passed cs → LegalAll w o.acts) → LegalAll w (checked cs o).acts
checked_legal w [] o f = f tt
checked_legal w (c ∷ cs) o f = go (λ e. checked_legal w cs o (λ k. f (e, k))) c.0 refl
  where
    go : (c.0 ≡ false → LegalAll w (checked cs o).acts) → (b : Bool) → c.0 ≡ b
        → LegalAll w (if b then record { reply = Err c.1; acts = [] } else checked cs o).acts
    go rest true e = tt
    go rest false e = rest e

pub opened_is : (p : Endpoint) → not (is_open p.phase) ≡ false → p.phase ≡ Open
opened_is p h = grind arith

-- the lowest free label
pub label_low : (n : ℕ) (at : ℕ → Option ℕ) → (Labels.lowest_label n at == n) ≡ false → Labels.lowest_label n at < n
label_low n at h = (lowest_passes n (λ t. not (is_some (at t))) h).0

pub label_free : (n : ℕ) (at : ℕ → Option ℕ) → (Labels.lowest_label n at == n) ≡ false → at (Labels.lowest_label n at) ≡ None
label_free n at h = none_is (at (Labels.lowest_label n at))
    (not-true (is_some (at (Labels.lowest_label n at))) (lowest_passes n (λ t. not (is_some (at t))) h).1)

-- bindings
pub unreleased_made : (g : ℕ) (p : Endpoint) (b : ℕ) → ((d : ℕ) → g ≤ d → p.stage d ≡ Unbound) → is_unreleased (p.stage b) ≡ true → b < g
unreleased_made g p b bo h = grind (arith, nat_tests, bo b)

pub unreleased_bound : (p : Endpoint) (b : ℕ) → is_unreleased (p.stage b) ≡ true → p.stage b ≢ Unbound
unreleased_bound p b h e = absurd (cc)

pub not_bound_at : (w : World) (s e : ℕ) → Invariant w → Labels.is_bound_at w s e ≡ false → (b : ℕ) → is_unreleased ((w.part e).stage b) ≡ true
    → (w.part e).space b ≢ s
not_bound_at w s e i h b u same =
    let lt = unreleased_made w.bindings (w.part e) b (i.parts e).bounds.stage u in
    let f = any_below-false w.bindings (λ d. is_unreleased ((w.part e).stage d) && (w.part e).space d == s) h b lt in
    absurd (both u same f)
  where
    both : is_unreleased ((w.part e).stage b) ≡ true → (w.part e).space b ≡ s → (is_unreleased ((w.part e).stage b) && (w.part e).space b == s) ≢ false
    both u same f = grind (arith, nat_tests)

pub not_bound : (w : World) (s : ℕ) → Invariant w → Labels.is_bound w s ≡ false → (e b : ℕ) → is_unreleased ((w.part e).stage b) ≡ true
    → (w.part e).space b ≢ s
not_bound w s i h e b u =
    let there = (i.parts e).there b (unreleased_bound (w.part e) b u) in
    not_bound_at w s e i (any_below-false w.config.endpoints (Labels.is_bound_at w s) h e there) b u

-- a PASID that is on, or told to stop, has a bearer
pub bearer_of : (p : Endpoint) (t : ℕ) (test : ℕ → Bool) → holds_of test (p.at_pasid t) ≡ true → (p.at_pasid t ≡ Some (Labels.bearer p t))
    × (test (Labels.bearer p t) ≡ true)
bearer_of p t test h = go (p.at_pasid t) h
  where
    go : (o : Option ℕ) → holds_of test o ≡ true → (o ≡ Some (the o)) × (test (the o) ≡ true)
    go None h = absurd (cc)
    go (Some k) h = (refl, h)
