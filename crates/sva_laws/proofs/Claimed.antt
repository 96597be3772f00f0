-- The headline: after every list of steps the agreement holds.
use Rattle.sva_model.specs.State.{PasidRule}
use Rattle.std.proofs.Common.{◌≡◌, ◌⊎◌, inl, inr, refl, subst, ◌∙◌, ℕ, ◌<◌}
use Rattle.std.specs.Prelude.{List}
use Rattle.sva_step.specs.declared.limits.Config.{Config}
use Rattle.sva_step.specs.declared.steps.Step.{Step}
use Rattle.sva_model.specs.States.{Place, place}
use Rattle.sva_model.specs.States.Place.{Free, Mapped, Withheld}
use Rattle.sva_model.specs.Steps.{world_after}
use Rattle.sva_model.specs.Claims.{IsPresent, IsWithheld, IsDivided, AlwaysAgrees, Usable}
use Rattle.sva_laws.proofs.Runs.{always}
use Rattle.sva_laws.proofs.Agreement.{owner, usable, matched, distinct, mapped_once, frame_low, is_mapped, place_mapped}
use Rattle.sva_laws.proofs.Withheld.{config_kept, rule_kept, is_withheld, place_withheld}

-- a place that is neither Mapped nor Withheld is Free
free_is : (p : Place) → (p ≡ Mapped → ⊥) → (p ≡ Withheld → ⊥) → p ≡ Free
free_is Free h k = refl
free_is Mapped h k = absurd (h refl)
free_is Withheld h k = absurd (k refl)

apart_mapped : (p : Place) → p ≡ Free → p ≡ Mapped → ⊥
apart_mapped p h k = absurd (cc)

apart_withheld : (p : Place) → p ≡ Free → p ≡ Withheld → ⊥
apart_withheld p h k = absurd (cc)

pub divided : (rule : PasidRule) (c : Config) (steps : List Step) → IsDivided rule c steps
divided rule c steps =
    let i = always rule c steps in
    record {
      low = λ f s q a. subst (λ k. f < k.frames) (config_kept rule c steps) (frame_low (world_after rule c steps) f s q i a);
      mapped_once = λ f s q t r a b. mapped_once (world_after rule c steps) f s q t r i a b;
      mapped = λ f. (is_mapped (world_after rule c steps) f i, place_mapped (world_after rule c steps) f i);
      withheld = λ f. (is_withheld rule c steps f, place_withheld rule c steps f);
      free = λ f. (
        (λ h. (
          λ a. apart_mapped (place (world_after rule c steps) f) h (place_mapped (world_after rule c steps) f i a),
          λ x. apart_withheld (place (world_after rule c steps) f) h (place_withheld rule c steps f x),
        )),
        (λ h. free_is (place (world_after rule c steps) f) (λ a. h.0 (is_mapped (world_after rule c steps) f i a)) (λ x. h.1 (is_withheld rule c steps f x))),
      );
    }

usable_now : (rule : PasidRule) (c : Config) (steps : List Step) (e b q m : ℕ) → Usable (world_after rule c steps) e b q m
    → IsPresent (world_after rule c steps) e b q m ⊎ IsWithheld rule c steps ((world_after rule c steps).mappings.frame m)
usable_now rule c steps e b q m u = go (usable (world_after rule c steps) e b q m (always rule c steps) u).1
  where
    go : IsPresent (world_after rule c steps) e b q m ⊎ (place (world_after rule c steps) ((world_after rule c steps).mappings.frame m) ≡ Withheld)
        → IsPresent (world_after rule c steps) e b q m ⊎ IsWithheld rule c steps ((world_after rule c steps).mappings.frame m)
    go (inl x) = inl x
    go (inr y) = inr (is_withheld rule c steps ((world_after rule c steps).mappings.frame m) y)

pub always_agrees : AlwaysAgrees
always_agrees rule c steps fits =
    record {
      owner = λ e b q m u. owner (world_after rule c steps) e b q m (always rule c steps) u;
      usable = λ e b q m u. usable_now rule c steps e b q m u;
      latest = λ e b q m u. (usable (world_after rule c steps) e b q m (always rule c steps) u).0;
      matched = λ e. matched (world_after rule c steps) e (always rule c steps);
      divided = divided rule c steps;
      distinct = λ e b d u v same. distinct (world_after rule c steps) e b d (always rule c steps) u v same;
      shared = λ e b d x of u v. (
        (λ same. ((always rule c steps).shared (rule_kept rule c steps ∙ of)).same_space e d b x u v same),
        (λ same. ((always rule c steps).shared (rule_kept rule c steps ∙ of)).same_pasid e d b x u v same),
      );
    }
