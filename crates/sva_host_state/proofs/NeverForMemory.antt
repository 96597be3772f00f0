-- A step that takes no memory is never refused for want of it: what refuses it is one of its causes.
use Rattle.std.proofs.Common.{◌≡◌, ◌≢◌, sym, subst, ◌∙◌, ℕ}
use Rattle.std.specs.Prelude.{Ok, Err, IsErr, IsErrAnd}
use Rattle.sva_step.specs.declared.refusals.Refusal.{Refusal}
use Rattle.sva_step.specs.declared.refusals.Refusal.TheVariants as refusal
use Rattle.sva_model.specs.Steps.{Reply}
use Rattle.sva_model.specs.Wire.{Wire}
use Rattle.sva_host_state.specs.Steps.{PortFor}
use Rattle.sva_host_state.proofs.Deciding.{IsOther}

-- an endpoint that isn't there
pub other_port : (w : Wire) (e : ℕ) (x : Refusal) → PortFor w e (Err x) → IsOther x
other_port w e refusal.NoSuchEndpoint is = tt
other_port w e _ is = absurd is

-- what `?` gives back is that refusal
pub not_for_memory : (r : Reply) (x : Refusal) → IsErr r × IsErrAnd r (λ y. y ≡ x) → IsOther x → r ≢ Err refusal.OutOfMemory
not_for_memory (Ok a) x is other wrong = absurd is.1
not_for_memory (Err y) x is other wrong = let same : y ≡ refusal.OutOfMemory = cc in subst IsOther (sym is.1 ∙ same) other
