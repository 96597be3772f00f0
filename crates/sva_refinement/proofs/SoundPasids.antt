-- The bindings that a host keeps: their PASIDs, their endpoints and their spaces.
use Rattle.std.proofs.Common.{◌≡◌, ◌⊎◌, inl, inr, ap, sym, subst, ◌∙◌, ℕ, ◌+◌, ◌<◌, ◌≤◌, arith}
use Rattle.std.specs.Prelude.{◌↔◌, Some, slice_get, length}
use Rattle.sva_model.specs.State.{World}
use Rattle.sva_model.specs.State.PasidRule.{PerSpace}
use Rattle.sva_model.specs.States.{is_unreleased}
use Rattle.sva_model.specs.Wire.{BindingWire, wire}
use Rattle.sva_laws.proofs.Invariant.{Invariant}
use Rattle.sva_laws.proofs.Passed.{unreleased_bound}
use Rattle.sva_refinement.proofs.Bound.{binding_seen}
use Rattle.sva_refinement.proofs.EndpointViews.{endpoints_seen}
use Rattle.sva_refinement.proofs.LookedBindings.{is_kept}
use Rattle.sva_refinement.proofs.SoundLists.{IsSeen, seen_get, seen_rises}

abbrev pub IsKeptAt : World → (k : ℕ) → BindingWire → Type 0
IsKeptAt w k b = IsSeen w.bindings (is_kept w) (binding_seen w) k b

pub kept_at : (w : World) (k : ℕ) (b : BindingWire) → slice_get (wire w).bindings k ≡ Some b → IsKeptAt w k b
kept_at w k b h = seen_get w.bindings (is_kept w) (binding_seen w) k b h

pub pasid_low : (w : World) → Invariant w → (k : ℕ) (b : BindingWire) → IsKeptAt w k b → (0 < b.pasid) × (b.pasid ≤ 32)
pasid_low w i k b x =
    let e = w.endpoint_of x.of in
    subst (λ t. (0 < t) × (t ≤ 32)) (sym (ap (λ z. z.pasid) x.seen))
    ((i.parts e).labels.pasid_low ((w.part e).pasid x.of) x.of ((i.parts e).labels.bears_pasid x.of x.passes))

pub endpoint_low : (w : World) → Invariant w → (k : ℕ) (b : BindingWire) → IsKeptAt w k b → b.endpoint < length (wire w).parts
endpoint_low w i k b x =
    let l : w.endpoint_of x.of < w.config.endpoints =
    (i.parts (w.endpoint_of x.of)).there x.of (unreleased_bound (w.part (w.endpoint_of x.of)) x.of x.passes) in
    subst (λ n. b.endpoint < n) (sym (endpoints_seen w)) (subst (λ e. e < w.config.endpoints) (sym (ap (λ z. z.endpoint) x.seen)) l)

first_off : (first a b : ℕ) → first + a ≡ first + b → a ≡ b
first_off first a b h = omega (arith, h)

pub pasids_shared :
    (w : World) → Invariant w → w.rule ≡ PerSpace → (j k : ℕ) (b d : BindingWire) → IsKeptAt w j b → IsKeptAt w k d
    → (b.pasid ≡ d.pasid) ↔ (b.space ≡ d.space)
pasids_shared w i r j k b d x y = ((λ h. forth h), (λ h. back h))
  where
    pasid_b : b.pasid ≡ (w.part (w.endpoint_of x.of)).pasid x.of
    pasid_b = ap (λ z. z.pasid) x.seen

    pasid_d : d.pasid ≡ (w.part (w.endpoint_of y.of)).pasid y.of
    pasid_d = ap (λ z. z.pasid) y.seen

    space_b : b.space ≡ w.config.first + (w.part (w.endpoint_of x.of)).space x.of
    space_b = ap (λ z. z.space) x.seen

    space_d : d.space ≡ w.config.first + (w.part (w.endpoint_of y.of)).space y.of
    space_d = ap (λ z. z.space) y.seen

    forth : b.pasid ≡ d.pasid → b.space ≡ d.space
    forth h =
        space_b
        ∙ ap (λ s. w.config.first + s)
        ((i.shared r).same_space (w.endpoint_of x.of) (w.endpoint_of y.of) x.of y.of x.passes y.passes (sym pasid_b ∙ h ∙ pasid_d))
        ∙ sym space_d

    back : b.space ≡ d.space → b.pasid ≡ d.pasid
    back h =
        pasid_b
        ∙ (i.shared r).same_pasid (w.endpoint_of x.of) (w.endpoint_of y.of) x.of y.of x.passes y.passes
        (first_off w.config.first _ _ (sym space_b ∙ h ∙ space_d))
        ∙ sym pasid_d

three_ways : (j k : ℕ) → (j ≡ k) ⊎ ((j < k) ⊎ (k < j))
three_ways j k = grind arith

pub one_each :
    (w : World) → Invariant w → (j k : ℕ) (b d : BindingWire) → IsKeptAt w j b → IsKeptAt w k d → b.endpoint ≡ d.endpoint → b.space ≡ d.space
    → j ≡ k
one_each w i j k b d x y he hs = go (three_ways j k)
  where
    endpoint_of : w.endpoint_of x.of ≡ w.endpoint_of y.of
    endpoint_of = sym (ap (λ z. z.endpoint) x.seen) ∙ he ∙ ap (λ z. z.endpoint) y.seen

    space : (w.part (w.endpoint_of x.of)).space x.of ≡ (w.part (w.endpoint_of x.of)).space y.of
    space = first_off w.config.first _ _ (sym (ap (λ z. z.space) x.seen) ∙ hs ∙ ap (λ z. z.space) y.seen) ∙ ap (λ e. (w.part e).space y.of) (sym endpoint_of)

    same : x.of ≡ y.of
    same = (i.parts (w.endpoint_of x.of)).labels.one_space x.of y.of x.passes (ap (λ e. is_unreleased ((w.part e).stage y.of)) endpoint_of ∙ y.passes) space

    go : (j ≡ k) ⊎ ((j < k) ⊎ (k < j)) → j ≡ k
    go (inl e) = e
    go (inr (inl l)) = let r = seen_rises _ _ _ j k b d l x y in let s = same in absurd (omega (arith, r, s))
    go (inr (inr l)) = let r = seen_rises _ _ _ k j d b l y x in let s = same in absurd (omega (arith, r, s))
