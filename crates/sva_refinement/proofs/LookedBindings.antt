-- Bindings looked up in what a host keeps, by their numbers and by the PASID that they bear: they are those that the
-- definitions find.
use Rattle.std.proofs.Common.{◌≡◌, ◌≢◌, refl, ap, sym, subst, ◌∙◌, ℕ, ◌+◌, ◌-◌, ◌<◌, Bool, true, false, arith}
use Rattle.std.specs.Prelude.{Option, Some, None, option_map, ◌&&◌, ◌==◌, nat_lt, nat_le}
use Rattle.std.proofs.lemmas.Bool.Decides.{nat_tests}
use Rattle.std.proofs.lemmas.Bool.{and_from, and_right, eq-eqb, eqb-true, false_from_ne_true, ltb-true}
use Rattle.sva_model.specs.Words.{find, is_some, any_below}
use Rattle.sva_model.specs.State.{World}
use Rattle.sva_model.specs.State.Stage.{Unbound}
use Rattle.sva_model.specs.States.{is_unreleased}
use Rattle.sva_model.specs.Labels
use Rattle.sva_model.specs.Wire.{number, binding_wire, wire}
use Rattle.sva_labels.proofs.Words.{any_below-true, any_below-intro}
use Rattle.sva_laws.proofs.Invariant.{Invariant}
use Rattle.sva_laws.proofs.Passed.{unreleased_made, unreleased_bound}
use Rattle.sva_labels.specs.Finding.{binding_of, bearer, is_bound, is_borne}
use Rattle.sva_refinement.proofs.Bound.{binding_seen}
use Rattle.sva_refinement.proofs.LookedLists.{find_none, find_only, find_seen}
use Rattle.sva_refinement.proofs.Lookups.{any_seen}
pub use Rattle.sva_labels.proofs.Tests.{same_bool as both_ways}
use Rattle.sva_labels.proofs.Tests.{first_holds, same_inside, second_holds, taken_off}

-- is it unreleased, at its own endpoint?
abbrev pub is_kept : World → (binding : ℕ) → Bool
is_kept w b = is_unreleased ((w.part (w.endpoint_of b)).stage b)

-- By its number.

number_parts : (first n k count : ℕ) → first + k ≡ n → k < count → (nat_le first n && nat_lt (n - first) count) ≡ true
number_parts first n k count e l = grind (arith, nat_tests)

first_at : (first n : ℕ) → nat_le first n ≡ true → first + (n - first) ≡ n
first_at first n h = grind (arith, nat_tests)

pub record IsBinding (w : World) (n : ℕ) : Type 0 where
  pub number : w.config.first + Labels.name w n ≡ n
  pub given : Labels.name w n < w.bindings
  pub kept : is_kept w (Labels.name w n) ≡ true

pub binding_is : (w : World) (n : ℕ) → Labels.is_binding w n ≡ true → IsBinding w n
binding_is w n h =
    let number : (nat_le w.config.first n && nat_lt (Labels.name w n) w.bindings) ≡ true =
    first_holds (nat_le w.config.first n && nat_lt (Labels.name w n) w.bindings) (is_kept w (Labels.name w n)) h in
    record {
      number = first_at w.config.first n (first_holds (nat_le w.config.first n) (nat_lt (Labels.name w n) w.bindings) number);
      given = ltb-true (Labels.name w n) w.bindings (second_holds (nat_le w.config.first n) (nat_lt (Labels.name w n) w.bindings) number);
      kept = second_holds (nat_le w.config.first n && nat_lt (Labels.name w n) w.bindings) (is_kept w (Labels.name w n)) h;
    }

pub binding_found : (w : World) (n : ℕ) → Labels.is_binding w n ≡ true → binding_of (wire w) n ≡ Some (binding_seen w (Labels.name w n))
binding_found w n h =
    let x = binding_is w n h in
    find_seen (binding_seen w) (λ b. b.binding == n) w.bindings (is_kept w)
    ∙ ap (option_map (binding_seen w)) (find_only w.bindings (λ b. is_kept w b && w.config.first + b == n) (Labels.name w n) x.given
    (and_from (is_kept w (Labels.name w n)) (w.config.first + Labels.name w n == n) x.kept (eq-eqb (w.config.first + Labels.name w n) n x.number))
    (λ j l t. sym (taken_off w.config.first n j (eqb-true (w.config.first + j) n (second_holds (is_kept w j) (w.config.first + j == n) t)))))

pub binding_missing : (w : World) (n : ℕ) → Labels.is_binding w n ≡ false → binding_of (wire w) n ≡ None
binding_missing w n h =
    find_seen (binding_seen w) (λ b. b.binding == n) w.bindings (is_kept w)
    ∙ ap (option_map (binding_seen w))
    (find_none w.bindings (λ b. is_kept w b && w.config.first + b == n)
    (λ k l. false_from_ne_true (is_kept w k && w.config.first + k == n) (λ t. absurd (cc (sym (there k l t) ∙ h)))))
  where
    there : (k : ℕ) → k < w.bindings → (is_kept w k && w.config.first + k == n) ≡ true → Labels.is_binding w n ≡ true
    there k l t =
        let e : w.config.first + k ≡ n = eqb-true (w.config.first + k) n (second_holds (is_kept w k) (w.config.first + k == n) t) in
        and_from (Labels.is_number w w.bindings n) (is_kept w (Labels.name w n)) (number_parts w.config.first n k w.bindings e l)
        (ap (is_kept w) (taken_off w.config.first n k e) ∙ first_holds (is_kept w k) (w.config.first + k == n) t)

-- an unreleased one by its name, as its endpoint shows it
pub binding_named :
    (w : World) (e b : ℕ) → Invariant w → is_unreleased ((w.part e).stage b) ≡ true
    → binding_of (wire w) (number w.config.first b) ≡ Some (binding_wire w.config.first e (w.part e) b)
binding_named w e b i u =
    let endpoint_of : w.endpoint_of b ≡ e = i.one_endpoint e b (unreleased_bound (w.part e) b u) in
    let back : Labels.name w (number w.config.first b) ≡ b = omega arith in
    let made : b < w.bindings = unreleased_made w.bindings (w.part e) b (i.parts e).bounds.stage u in
    binding_found w (number w.config.first b)
    (and_from (Labels.is_number w w.bindings (number w.config.first b)) (is_kept w (Labels.name w (number w.config.first b)))
    (number_parts w.config.first (number w.config.first b) b w.bindings refl made)
    (ap (is_kept w) back ∙ ap (λ d. is_unreleased ((w.part d).stage b)) endpoint_of ∙ u))
    ∙ ap (λ z. Some (binding_seen w z)) back
    ∙ ap (λ d. Some (binding_wire w.config.first d (w.part d) b)) endpoint_of

-- one that was bound at this endpoint, and is released since, isn't there
pub binding_released :
    (w : World) (e b : ℕ) → Invariant w → (w.part e).stage b ≢ Unbound → is_unreleased ((w.part e).stage b) ≡ false
    → binding_of (wire w) (number w.config.first b) ≡ None
binding_released w e b i ne u =
    let endpoint_of : w.endpoint_of b ≡ e = i.one_endpoint e b ne in
    let back : Labels.name w (number w.config.first b) ≡ b = omega arith in
    binding_missing w (number w.config.first b)
    (and_right (Labels.is_number w w.bindings (number w.config.first b)) (is_kept w (Labels.name w (number w.config.first b)))
    (ap (is_kept w) back ∙ ap (λ d. is_unreleased ((w.part d).stage b)) endpoint_of ∙ u))

-- By the PASID that it bears at its endpoint.

pub bearer_is : (w : World) (e t : ℕ) → Invariant w → bearer (wire w) e t ≡ option_map (binding_wire w.config.first e (w.part e)) ((w.part e).at_pasid t)
bearer_is w e t i = find_seen (binding_seen w) (λ b. b.endpoint == e && b.pasid == t) w.bindings (is_kept w) ∙ go ((w.part e).at_pasid t) refl
  where
    bears : (b : ℕ) → (is_kept w b && (w.endpoint_of b == e && (w.part (w.endpoint_of b)).pasid b == t)) ≡ true → (w.part e).at_pasid t ≡ Some b
    bears b h =
        let rest = second_holds (is_kept w b) (w.endpoint_of b == e && (w.part (w.endpoint_of b)).pasid b == t) h in
        let endpoint_of : w.endpoint_of b ≡ e =
        eqb-true (w.endpoint_of b) e (first_holds (w.endpoint_of b == e) ((w.part (w.endpoint_of b)).pasid b == t) rest) in
        let pasid : (w.part (w.endpoint_of b)).pasid b ≡ t =
        eqb-true ((w.part (w.endpoint_of b)).pasid b) t (second_holds (w.endpoint_of b == e) ((w.part (w.endpoint_of b)).pasid b == t) rest) in
        subst (λ z. (w.part e).at_pasid z ≡ Some b) (ap (λ d. (w.part d).pasid b) (sym endpoint_of) ∙ pasid)
        ((i.parts e).labels.bears_pasid b
        (ap (λ d. is_unreleased ((w.part d).stage b)) (sym endpoint_of)
        ∙ first_holds (is_kept w b) (w.endpoint_of b == e && (w.part (w.endpoint_of b)).pasid b == t) h))

    go :
        (o : Option ℕ) → (w.part e).at_pasid t ≡ o
        → option_map (binding_seen w) (find w.bindings (λ b. is_kept w b && (w.endpoint_of b == e && (w.part (w.endpoint_of b)).pasid b == t)))
        ≡ option_map (binding_wire w.config.first e (w.part e)) o
    go None h =
        ap (option_map (binding_seen w))
        (find_none w.bindings (λ b. is_kept w b && (w.endpoint_of b == e && (w.part (w.endpoint_of b)).pasid b == t))
        (λ b l. false_from_ne_true _ (λ k. absurd (cc (sym (bears b k) ∙ h)))))
    go (Some b) h =
        let la = (i.parts e).labels.pasid_bears t b h in
        let endpoint_of : w.endpoint_of b ≡ e = i.one_endpoint e b (unreleased_bound (w.part e) b la.1) in
        ap (option_map (binding_seen w))
        (find_only w.bindings (λ b. is_kept w b && (w.endpoint_of b == e && (w.part (w.endpoint_of b)).pasid b == t)) b
        (unreleased_made w.bindings (w.part e) b (i.parts e).bounds.stage la.1)
        (and_from (is_kept w b) (w.endpoint_of b == e && (w.part (w.endpoint_of b)).pasid b == t)
        (ap (λ d. is_unreleased ((w.part d).stage b)) endpoint_of ∙ la.1)
        (and_from (w.endpoint_of b == e) ((w.part (w.endpoint_of b)).pasid b == t) (eq-eqb (w.endpoint_of b) e endpoint_of)
        (eq-eqb ((w.part (w.endpoint_of b)).pasid b) t (ap (λ d. (w.part d).pasid b) endpoint_of ∙ la.0))))
        (λ j l k. same_inside (sym (bears j k) ∙ h)))
        ∙ ap (λ d. Some (binding_wire w.config.first d (w.part d) b)) endpoint_of

-- Is a space bound? is a PASID borne?

pub bound_there : (w : World) (n : ℕ) → Invariant w → w.config.first + Labels.name w n ≡ n → is_bound (wire w) n ≡ Labels.is_bound w (Labels.name w n)
bound_there w n i num =
    any_seen w.bindings (is_kept w) (binding_seen w) (λ b. b.space == n)
    ∙ both_ways (any_below w.bindings (λ b. is_kept w b && w.config.first + (w.part (w.endpoint_of b)).space b == n)) (Labels.is_bound w (Labels.name w n))
    forth back
  where
    forth : any_below w.bindings (λ b. is_kept w b && w.config.first + (w.part (w.endpoint_of b)).space b == n) ≡ true
        → Labels.is_bound w (Labels.name w n) ≡ true
    forth h =
        let x = any_below-true w.bindings (λ b. is_kept w b && w.config.first + (w.part (w.endpoint_of b)).space b == n) h in
        let kept = first_holds (is_kept w x.0) (w.config.first + (w.part (w.endpoint_of x.0)).space x.0 == n) x.2 in
        let space : w.config.first + (w.part (w.endpoint_of x.0)).space x.0 ≡ n =
        eqb-true (w.config.first + (w.part (w.endpoint_of x.0)).space x.0) n
        (second_holds (is_kept w x.0) (w.config.first + (w.part (w.endpoint_of x.0)).space x.0 == n) x.2) in
        any_below-intro w.config.endpoints (Labels.is_bound_at w (Labels.name w n)) (w.endpoint_of x.0)
        ((i.parts (w.endpoint_of x.0)).there x.0 (unreleased_bound (w.part (w.endpoint_of x.0)) x.0 kept))
        (any_below-intro w.bindings
        (λ b. is_unreleased ((w.part (w.endpoint_of x.0)).stage b) && (w.part (w.endpoint_of x.0)).space b == Labels.name w n) x.0 x.1
        (and_from (is_kept w x.0) ((w.part (w.endpoint_of x.0)).space x.0 == Labels.name w n) kept
        (eq-eqb ((w.part (w.endpoint_of x.0)).space x.0) (Labels.name w n)
        (sym (taken_off w.config.first n ((w.part (w.endpoint_of x.0)).space x.0) space)))))

    back : Labels.is_bound w (Labels.name w n) ≡ true → any_below w.bindings (λ b. is_kept w b && w.config.first + (w.part (w.endpoint_of b)).space b == n)
        ≡ true
    back h =
        let x = any_below-true w.config.endpoints (Labels.is_bound_at w (Labels.name w n)) h in
        let y = any_below-true w.bindings (λ b. is_unreleased ((w.part x.0).stage b) && (w.part x.0).space b == Labels.name w n) x.2 in
        let kept = first_holds (is_unreleased ((w.part x.0).stage y.0)) ((w.part x.0).space y.0 == Labels.name w n) y.2 in
        let space : (w.part x.0).space y.0 ≡ Labels.name w n =
        eqb-true ((w.part x.0).space y.0) (Labels.name w n)
        (second_holds (is_unreleased ((w.part x.0).stage y.0)) ((w.part x.0).space y.0 == Labels.name w n) y.2) in
        let endpoint_of : w.endpoint_of y.0 ≡ x.0 = i.one_endpoint x.0 y.0 (unreleased_bound (w.part x.0) y.0 kept) in
        any_below-intro w.bindings (λ b. is_kept w b && w.config.first + (w.part (w.endpoint_of b)).space b == n) y.0 y.1
        (and_from (is_kept w y.0) (w.config.first + (w.part (w.endpoint_of y.0)).space y.0 == n)
        (ap (λ d. is_unreleased ((w.part d).stage y.0)) endpoint_of ∙ kept)
        (eq-eqb (w.config.first + (w.part (w.endpoint_of y.0)).space y.0) n
        (ap (λ d. w.config.first + (w.part d).space y.0) endpoint_of ∙ ap (λ z. w.config.first + z) space ∙ num)))

pub borne_there : (w : World) (t : ℕ) → Invariant w → is_borne (wire w) t ≡ Labels.is_borne w t
borne_there w t i =
    any_seen w.bindings (is_kept w) (binding_seen w) (λ b. b.pasid == t)
    ∙ both_ways (any_below w.bindings (λ b. is_kept w b && (w.part (w.endpoint_of b)).pasid b == t)) (Labels.is_borne w t) forth back
  where
    forth : any_below w.bindings (λ b. is_kept w b && (w.part (w.endpoint_of b)).pasid b == t) ≡ true → Labels.is_borne w t ≡ true
    forth h =
        let x = any_below-true w.bindings (λ b. is_kept w b && (w.part (w.endpoint_of b)).pasid b == t) h in
        let kept = first_holds (is_kept w x.0) ((w.part (w.endpoint_of x.0)).pasid x.0 == t) x.2 in
        let pasid : (w.part (w.endpoint_of x.0)).pasid x.0 ≡ t =
        eqb-true ((w.part (w.endpoint_of x.0)).pasid x.0) t (second_holds (is_kept w x.0) ((w.part (w.endpoint_of x.0)).pasid x.0 == t) x.2) in
        any_below-intro w.config.endpoints (λ e. Labels.is_borne_at (w.part e) t) (w.endpoint_of x.0)
        ((i.parts (w.endpoint_of x.0)).there x.0 (unreleased_bound (w.part (w.endpoint_of x.0)) x.0 kept))
        (ap is_some (subst (λ z. (w.part (w.endpoint_of x.0)).at_pasid z ≡ Some x.0) pasid ((i.parts (w.endpoint_of x.0)).labels.bears_pasid x.0 kept)))

    by_bearer :
        (e : ℕ) (o : Option ℕ) → (w.part e).at_pasid t ≡ o → is_some o ≡ true
        → any_below w.bindings (λ b. is_kept w b && (w.part (w.endpoint_of b)).pasid b == t) ≡ true
    by_bearer e None h k = absurd (cc)
    by_bearer e (Some b) h k =
        let la = (i.parts e).labels.pasid_bears t b h in
        let endpoint_of : w.endpoint_of b ≡ e = i.one_endpoint e b (unreleased_bound (w.part e) b la.1) in
        any_below-intro w.bindings (λ b. is_kept w b && (w.part (w.endpoint_of b)).pasid b == t) b
        (unreleased_made w.bindings (w.part e) b (i.parts e).bounds.stage la.1)
        (and_from (is_kept w b) ((w.part (w.endpoint_of b)).pasid b == t) (ap (λ d. is_unreleased ((w.part d).stage b)) endpoint_of ∙ la.1)
        (eq-eqb ((w.part (w.endpoint_of b)).pasid b) t (ap (λ d. (w.part d).pasid b) endpoint_of ∙ la.0)))

    back : Labels.is_borne w t ≡ true → any_below w.bindings (λ b. is_kept w b && (w.part (w.endpoint_of b)).pasid b == t) ≡ true
    back h =
        let x = any_below-true w.config.endpoints (λ e. Labels.is_borne_at (w.part e) t) h in
        by_bearer x.0 ((w.part x.0).at_pasid t) refl x.2
