-- Where the port of an endpoint is, if it is there: with these a step has an answer for each goal (but for four of `finish`), and none is searched for.
use mathlib.Core.List.{Mem, not-mem-nil}
use Rattle.std.proofs.Common.{◌≡◌, ◌≢◌, ◌∙◌, ap, refl, ℕ, Bool, ◌<◌, arith}
use Rattle.std.specs.Prelude.{Option, Result, Ok, Err, List, [], length, nat_lt}
use Rattle.std.specs.Vec.{vec_len}
use Rattle.sva_model.specs.Wire.{Wire}
use Rattle.sva_step.specs.declared.refusals.Refusal.{Refusal}
use Rattle.sva_step.specs.declared.refusals.Refusal.TheVariants as refusal
use Rattle.sva_step.specs.declared.steps.Step.TheVariants as step
use Rattle.sva_host_state.specs.declared.host_state.HostState.TheInside.{Inside as HostState}
use Rattle.sva_host_state.specs.Inner.{wire_of}
use Rattle.sva_host_state.specs.Steps.{ByLabels, PortFor}
use Rattle.sva_host_state.proofs.Ports.{below}

-- the port that is found is there
pub within : (host : HostState) (w : Wire) (e at : ℕ) → wire_of host ≡ w → PortFor w e (Ok at) → at < vec_len host.ports
within host w e at view for =
    let there = below host.ports.items e (ap (λ (v : Wire). nat_lt e (length v.parts)) view ∙ for.1) in
    omega (arith, there, for.0)

-- the steps of an endpoint that isn't there
pub ask_nowhere : (w : _) (e t q : ℕ) (y : Refusal) → PortFor w e (Err y) → ByLabels w (step.Ask e t q) (Err y) w
ask_nowhere w e t q refusal.NoSuchEndpoint is = rw (is) (refl, refl)
ask_nowhere w e t q _ is = absurd is

pub begin_use_nowhere : (w : _) (e t q : ℕ) (x : Bool) (y : Refusal) → PortFor w e (Err y) → ByLabels w (step.BeginUse e t q x) (Err y) w
begin_use_nowhere w e t q x refusal.NoSuchEndpoint is = rw (is) (refl, refl)
begin_use_nowhere w e t q x _ is = absurd is

pub end_use_nowhere : (w : _) (e u : ℕ) (y : Refusal) → PortFor w e (Err y) → ByLabels w (step.EndUse e u) (Err y) w
end_use_nowhere w e u refusal.NoSuchEndpoint is = rw (is) (refl, refl)
end_use_nowhere w e u _ is = absurd is

pub evict_nowhere : (w : _) (e t q : ℕ) (y : Refusal) → PortFor w e (Err y) → ByLabels w (step.Evict e t q) (Err y) w
evict_nowhere w e t q refusal.NoSuchEndpoint is = rw (is) (refl, refl)
evict_nowhere w e t q _ is = absurd is

pub fault_nowhere : (w : _) (e t q : ℕ) (r x : Bool) (g : Option ℕ) (l : Bool) (y : Refusal) → PortFor w e (Err y)
    → ByLabels w (step.Fault e t q r x g l) (Err y) w
fault_nowhere w e t q r x g l refusal.NoSuchEndpoint is = rw (is) (refl, refl)
fault_nowhere w e t q r x g l _ is = absurd is

pub finish_nowhere : (w : _) (e v n : ℕ) (y : Refusal) → PortFor w e (Err y) → ByLabels w (step.Finish e v n) (Err y) w
finish_nowhere w e v n refusal.NoSuchEndpoint is = rw (is) (refl, refl)
finish_nowhere w e v n _ is = absurd is

pub quit_nowhere : (w : _) (e t : ℕ) (y : Refusal) → PortFor w e (Err y) → ByLabels w (step.Quit e t) (Err y) w
quit_nowhere w e t refusal.NoSuchEndpoint is = rw (is) (refl, refl)
quit_nowhere w e t _ is = absurd is

-- what needs nothing
pub none_in : (k : List ℕ) (a : ℕ) → Mem a [] → Mem a k
none_in k a m = absurd (not-mem-nil m)

pub no_error : {A : Type 0} (a : A) (x : Refusal) → ◌≢◌ {A = Result A Refusal} (Ok a) (Err x)
no_error a x wrong = cc
