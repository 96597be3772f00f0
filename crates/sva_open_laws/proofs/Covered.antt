-- An invalidation covers in the open world what it covers by MODEL.
use Rattle.std.proofs.Common.{◌≡◌, refl, ap, ap₂, sym, ◌∙◌, ℕ, ◌+◌, Bool, true, false, arith}
use Rattle.std.specs.Prelude.{◌-◌, ◌==◌, ◌&&◌, nat_le, nat_lt}
use Rattle.std.proofs.lemmas.Bool.{eqb-true, eq-eqb}
use Rattle.std.proofs.lemmas.Bool.Decides.{nat_tests}
use Rattle.sva_model.specs.Range.{pages_in}
use Rattle.sva_model.specs.State.{Order, Endpoint, World}
use Rattle.sva_model.specs.State.Order.{RangeOf, PasidOf, Wait}
use Rattle.sva_model.specs.StateChanges.{binding_of}
use Rattle.sva_model.specs.States.{is_unreleased, is_wait}
use Rattle.sva_model.specs.States as model
use Rattle.sva_model.specs.Steps.{world_after}
use Rattle.sva_laws.proofs.Agreement.{bearer}
use Rattle.sva_laws.proofs.Invariant.{Invariant}
use Rattle.sva_laws.proofs.Runs.{always}
use Rattle.sva_open.specs.World.{covers}
use Rattle.sva_open_laws.specs.AsOpen.{scope_of}
use Rattle.sva_open_laws.specs.Covered.{ScopesAreOne}
use Rattle.sva_open_laws.proofs.DeviceActs.{never}

within : (base page count : ℕ) → (nat_le base page && nat_lt (page - base) count) ≡ (nat_le base page && nat_lt page (base + count))
within base page count = grind (arith, nat_tests)

and_true : (b : Bool) → b ≡ (b && true)
and_true true = refl
and_true false = refl

module _ (w : World) (e b page : ℕ) (i : Invariant w) (u : is_unreleased ((w.part e).stage b) ≡ true) where
  abbrev p : Endpoint
  p = w.part e

  -- two unreleased bindings have one PASID only where they are one
  pub same_owner : (d : ℕ) → is_unreleased (p.stage d) ≡ true → (p.pasid d == p.pasid b) ≡ (d == b)
  same_owner d v = go (d == b) refl
    where
      go : (x : Bool) → (d == b) ≡ x → (p.pasid d == p.pasid b) ≡ x
      go true h = eq-eqb (p.pasid d) (p.pasid b) (ap p.pasid (eqb-true d b h))
      go false h =
          never (p.pasid d == p.pasid b)
          (λ k.
          let same = (bearer p b (i.parts e).labels u).alone d v (eqb-true (p.pasid d) (p.pasid b) k) in
          absurd (cc (sym (eq-eqb d b same) ∙ h)))

  pub covered : (x : Order) → is_wait x ≡ false → is_unreleased (p.stage (binding_of x)) ≡ true
      → covers (scope_of p x) (p.pasid b) page ≡ model.covers x b page
  covered (RangeOf d range) h v = ap₂ (λ x y. x && y) (same_owner d v) (within range.base page (pages_in range))
  covered (PasidOf d) h v = same_owner d v ∙ and_true (d == b)
  covered (Wait cookie drain) h v = absurd (cc)

pub scopes_are_one : ScopesAreOne
scopes_are_one rule config steps e k b page =
    let w = world_after rule config steps in
    record { same = λ h v u. covered w e b page (always rule config steps) u ((w.part e).order k) h v }
