-- What a call tells of a step and an answer, told of those that a caller names.
use Rattle.std.proofs.Common.{◌≡◌, sym, subst}
use Rattle.std.specs.Prelude.{Result, Ok, Err, IfOk, IfErr, IsErr, IsErrAnd}
use Rattle.sva_step.specs.declared.limits.Config.{Config}
use Rattle.sva_step.specs.declared.steps.Step.{Step}
use Rattle.sva_model.specs.Steps.{Reply}
use Rattle.sva_fabric.specs.declared.faults.Fault.{Fault}
use Rattle.sva_fabric.specs.Receipts.{PortState}
use Rattle.sva_fabric.specs.Tokens.{HasCalled, IsFault}

pub of_step : {config : Config} {before after : PortState} {s t : Step} {r : Reply} → HasCalled config before after s r → s ≡ t
    → HasCalled config before after t r
of_step {config} {before} {after} {s} {t} {r} h is = subst (λ (u : Step). HasCalled config before after u r) is h

pub of_reply : {config : Config} {before after : PortState} {s : Step} {r q : Reply} → HasCalled config before after s r → r ≡ q
    → HasCalled config before after s q
of_reply {config} {before} {after} {s} {r} {q} h is = subst (λ (u : Reply). HasCalled config before after s u) is h

pub fault_of : (config : Config) (before after : PortState) {s t : Step} (f : Fault) → IsFault config before after s f → s ≡ t
    → IsFault config before after t f
fault_of config before after {s} {t} f h is = subst (λ (u : Step). IsFault config before after u f) is h

-- what holds of an error holds of it where it is passed on
pub passed_on : {A E : Type 0} (r : Result A E) (e : E) (P : E → Type 0) → IsErr r × IsErrAnd r (λ x. x ≡ e) → P e → IfErr r P
passed_on (Ok a) e P h p = tt
passed_on (Err x) e P h p = subst P (sym h.1) p

pub passed_by : {A E : Type 0} (r : Result A E) (e : E) (P : A → Type 0) → IsErr r × IsErrAnd r (λ x. x ≡ e) → IfOk r P
passed_by (Ok a) e P h = absurd h.1
passed_by (Err x) e P h = tt
