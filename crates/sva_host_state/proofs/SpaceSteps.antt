-- The steps of spaces and frames, by labels.
use Rattle.std.proofs.Common.{◌≡◌, refl, sym, ◌∙◌, subst, ℕ, Bool, true, false}
use Rattle.std.specs.Prelude.{not, Ok, Err, [], ◌∷◌}
use Rattle.sva_step.specs.declared.answers.Answer.TheVariants as answer
use Rattle.sva_step.specs.declared.refusals.Refusal.TheVariants as refusal
use Rattle.sva_step.specs.declared.steps.Step.{Step}
use Rattle.sva_step.specs.declared.steps.Step.TheVariants as step
use Rattle.sva_model.specs.Steps.{Reply}
use Rattle.sva_model.specs.Wire.{Wire}
use Rattle.sva_labels.specs.Finding.{is_space, is_bound}
use Rattle.sva_labels.specs.Host.{Decision, checked}
use Rattle.sva_labels.specs.Moves.{Move}
use Rattle.sva_labels.specs.Outcomes.{by_one}
use Rattle.sva_address_spaces.specs.Seen.{AddressSpacesSeen}
use Rattle.sva_address_spaces.specs.Steps as memory
use Rattle.sva_pasid.specs.Places as places
use Rattle.sva_parts_by_labels.proofs.Bindings.{bindings_are_seen}
use Rattle.sva_host_state.specs.declared.host_state.HostState.TheInside.{Inside as HostState}
use Rattle.sva_host_state.specs.Inner.{wire_of}
use Rattle.sva_host_state.specs.Steps.{Does, ByLabels}

-- a step that the spaces and frames alone decide
pub stepped : (host : HostState) (v : Wire) (s : Step) (r : Reply) (after : AddressSpacesSeen) → wire_of host ≡ v → memory.Steps s host.address_spaces r after
    → ByLabels v s r (wire_of (record host { address_spaces = after }))
stepped host v s r after view steps =
    subst (λ (u : Wire). ByLabels u s r (wire_of (record host { address_spaces = after }))) view (steps (wire_of host) refl)

pub looked : (host : HostState) (v : Wire) (s : Step) (r : Reply) → wire_of host ≡ v
    → memory.Steps s host.address_spaces r host.address_spaces → ByLabels v s r v
looked host v s r view steps =
    subst (λ (u : Wire). ByLabels u s r u) view (steps (wire_of host) refl)

-- the end of a space

bound_seen : (host : HostState) (n : ℕ) → is_bound (wire_of host) n ≡ places.is_bound n host.bindings
bound_seen host n = sym (((bindings_are_seen host.bindings).0 (wire_of host) refl).bound n)

pub still_bound : (host : HostState) (v : Wire) (n : ℕ) → wire_of host ≡ v
    → memory.has_space host.address_spaces n ≡ true → places.is_bound n host.bindings ≡ true
    → ByLabels v (step.DropSpace n) (Err refusal.StillBound) v
still_bound host v n view there bound =
    subst (λ (u : Wire). ByLabels u (step.DropSpace n) (Err refusal.StillBound) u) view
    (go (is_space (wire_of host) n) (is_bound (wire_of host) n) there (bound_seen host n ∙ bound))
  where
    go : (b c : Bool) → b ≡ true → c ≡ true
        → Does (checked ((not b, refusal.NoSuchSpace) ∷ (c, refusal.StillBound) ∷ []) (by_one answer.Gone (Move.DropSpace n))) (wire_of host)
        (Err refusal.StillBound) (wire_of host)
    go true true _ _ = (refl, refl)
    go true false _ is = absurd (cc (is))
    go false c is _ = absurd (cc (is))

pub dropped : (host : HostState) (v : Wire) (n : ℕ) (after : AddressSpacesSeen) → wire_of host ≡ v → memory.has_space host.address_spaces n ≡ true
    → places.is_bound n host.bindings ≡ false
    → memory.Moves (Move.DropSpace n) host.address_spaces after
    → ByLabels v (step.DropSpace n) (Ok answer.Gone) (wire_of (record host { address_spaces = after }))
dropped host v n after view there free moves =
    subst (λ (u : Wire). ByLabels u (step.DropSpace n) (Ok answer.Gone) (wire_of (record host { address_spaces = after }))) view
    (subst (λ (d : Decision). Does d (wire_of host) (Ok answer.Gone) (wire_of (record host { address_spaces = after })))
    (sym (go (is_space (wire_of host) n) (is_bound (wire_of host) n) there (bound_seen host n ∙ free)))
    (refl, moves (wire_of host) refl))
  where
    go : (b c : Bool) → b ≡ true → c ≡ false
        → checked ((not b, refusal.NoSuchSpace) ∷ (c, refusal.StillBound) ∷ []) (by_one answer.Gone (Move.DropSpace n))
        ≡ record { reply = Ok answer.Gone; moves = Move.DropSpace n ∷ [] }
    go true false _ _ = refl
    go true true _ is = absurd (cc (is))
    go false c is _ = absurd (cc (is))
