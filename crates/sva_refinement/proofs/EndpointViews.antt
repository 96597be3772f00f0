-- An endpoint of the config as a host keeps it: the views of its part. And causes that are the same one after another.
use Rattle.std.proofs.Common.{◌≡◌, refl, ap, ℕ, ◌<◌, false}
use Rattle.std.specs.Prelude.{List, [], ◌∷◌, length, not, nat_lt}
use Rattle.sva_step.specs.declared.refusals.Refusal.TheVariants as refusal
use Rattle.sva_model.specs.State.{World}
use Rattle.sva_model.specs.Refusals as names
use Rattle.sva_model.specs.Refusals.{Cause}
use Rattle.sva_model.specs.Wire.{wire, part_wire, device_wire, unit_wire}
use Rattle.sva_labels.proofs.Lists.{tabulate_at, tabulate_length}
use Rattle.sva_labels.specs.Finding.{idle, part_of, device_of, unit_of}
use Rattle.sva_labels.specs.Causes.{no_such_endpoint, numbers_spent}
use Rattle.sva_refinement.proofs.Alike.{IsAlike, alike_more}

pub part_seen : (w : World) (e : ℕ) → e < w.config.endpoints → part_of (wire w) e ≡ part_wire w.config.first w.mappings (w.part e)
part_seen w e l = tabulate_at w.config.endpoints (λ x. part_wire w.config.first w.mappings (w.part x)) e idle l

pub device_seen : (w : World) (e : ℕ) → e < w.config.endpoints → device_of (wire w) e ≡ device_wire w.mappings (w.part e)
device_seen w e l = ap (λ p. p.device) (part_seen w e l)

pub unit_seen : (w : World) (e : ℕ) → e < w.config.endpoints → unit_of (wire w) e ≡ unit_wire w.config.first (w.part e)
unit_seen w e l = ap (λ p. p.unit) (part_seen w e l)

pub endpoints_seen : (w : World) → length (wire w).parts ≡ w.config.endpoints
endpoints_seen w = tabulate_length w.config.endpoints (λ x. part_wire w.config.first w.mappings (w.part x))

pub endpoint_cause : (w : World) (e : ℕ) → no_such_endpoint (wire w) e ≡ names.no_such_endpoint w e
endpoint_cause w e = ap (λ n. (not (nat_lt e n), refusal.NoSuchEndpoint)) (endpoints_seen w)

pub spent_cause : (w : World) (needed : ℕ) → numbers_spent (wire w).next_message needed ≡ names.messages_spent w needed
spent_cause w needed = refl

-- two lists with the same causes, each of which need be the same only where those before it don't hold
abbrev pub AreSame : List Cause → List Cause → Type 0
AreSame [] [] = Unit {0}
AreSame (c ∷ cs) (d ∷ ds) = (c ≡ d) × (c.0 ≡ false → AreSame cs ds)
AreSame cs ds = ⊥

pub same_alike : (cs ds : List Cause) → AreSame cs ds → IsAlike cs ds
same_alike [] [] h = refl
same_alike (c ∷ cs) (d ∷ ds) h = alike_more c d cs ds h.0 (λ f. same_alike cs ds (h.1 f))
same_alike [] (d ∷ ds) h = absurd h
same_alike (c ∷ cs) [] h = absurd h
