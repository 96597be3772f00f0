-- The binding of a space at an endpoint, found by its numbers.
use Rattle.std.proofs.Common.{◌≡◌, ◌≢◌, ◌⊎◌, inl, inr, refl, ap, ◌∙◌, ℕ, ◌+◌, Bool, true, false}
use Rattle.std.specs.Prelude.{Some, None, Option, option_map, ◌&&◌, ◌==◌}
use Rattle.std.proofs.lemmas.Bool.{eq-eqb, ne_eqb}
use Rattle.sva_model.specs.State.{World}
use Rattle.sva_model.specs.States.{is_unreleased}
use Rattle.sva_model.specs.Unmappings.{bound}
use Rattle.sva_model.specs.Wire.{BindingWire, number, binding_wire, wire}
use Rattle.sva_labels.proofs.Words.{ℕ_cases, find_passes}
use Rattle.sva_laws.proofs.Invariant.{Invariant}
use Rattle.sva_laws.proofs.Passed.{unreleased_bound}
use Rattle.sva_labels.proofs.Tests.{first_holds}
use Rattle.sva_labels.specs.Finding.{bound_at}
use Rattle.sva_refinement.proofs.LookedLists.{find_same, find_seen}
use Rattle.sva_refinement.proofs.SpaceLists.{same_number}

-- a binding as its own endpoint shows it
abbrev pub binding_seen : World → (binding : ℕ) → BindingWire
binding_seen w b = binding_wire w.config.first (w.endpoint_of b) (w.part (w.endpoint_of b)) b

pub bound_is :
    (w : World) (e s : ℕ) → Invariant w
    → bound_at (wire w) e (number w.config.first s) ≡ option_map (binding_wire w.config.first e (w.part e)) (bound w e s)
bound_is w e s i =
    find_seen (binding_seen w) (λ b. b.endpoint == e && b.space == w.config.first + s) w.bindings (λ b. is_unreleased ((w.part (w.endpoint_of b)).stage b))
    ∙ ap (option_map (binding_seen w))
    (find_same w.bindings
    (λ b. is_unreleased ((w.part (w.endpoint_of b)).stage b)
    && (w.endpoint_of b == e && w.config.first + (w.part (w.endpoint_of b)).space b == w.config.first + s))
    (λ b. is_unreleased ((w.part e).stage b) && (w.part e).space b == s) (λ b l. same b (ℕ_cases (w.endpoint_of b) e)))
    ∙ go (bound w e s) refl
  where
    at : (b d : ℕ) → Bool
    at b d = is_unreleased ((w.part d).stage b) && (d == e && w.config.first + (w.part d).space b == w.config.first + s)

    no_other : (b : ℕ) → w.endpoint_of b ≢ e → (z : Bool) → is_unreleased ((w.part e).stage b) ≡ z → false ≡ (z && (w.part e).space b == s)
    no_other b ne false h = refl
    no_other b ne true h = absurd (ne (i.one_endpoint e b (unreleased_bound (w.part e) b h)))

    nothing : (x y : Bool) → (x && (false && y)) ≡ false
    nothing true y = refl
    nothing false y = refl

    same : (b : ℕ) → (w.endpoint_of b ≡ e) ⊎ (w.endpoint_of b ≢ e) → at b (w.endpoint_of b) ≡ (is_unreleased ((w.part e).stage b) && (w.part e).space b == s)
    same b (inl h) =
        ap (at b) h
        ∙ ap (λ z. is_unreleased ((w.part e).stage b) && (z && w.config.first + (w.part e).space b == w.config.first + s)) (eq-eqb e e refl)
        ∙ ap (λ z. is_unreleased ((w.part e).stage b) && z) (same_number w.config.first ((w.part e).space b) s)
    same b (inr ne) =
        ap (λ z. is_unreleased ((w.part (w.endpoint_of b)).stage b) && (z && w.config.first + (w.part (w.endpoint_of b)).space b == w.config.first + s))
        (ne_eqb (w.endpoint_of b) e ne)
        ∙ nothing (is_unreleased ((w.part (w.endpoint_of b)).stage b)) (w.config.first + (w.part (w.endpoint_of b)).space b == w.config.first + s)
        ∙ no_other b ne (is_unreleased ((w.part e).stage b)) refl

    go : (o : Option ℕ) → bound w e s ≡ o → option_map (binding_seen w) o ≡ option_map (binding_wire w.config.first e (w.part e)) o
    go None h = refl
    go (Some b) h =
        let found = find_passes w.bindings (λ d. is_unreleased ((w.part e).stage d) && (w.part e).space d == s) b h in
        let endpoint_of =
        i.one_endpoint e b (unreleased_bound (w.part e) b (first_holds (is_unreleased ((w.part e).stage b)) ((w.part e).space b == s) found.1)) in
        ap (λ d. Some (binding_wire w.config.first d (w.part d) b)) endpoint_of
