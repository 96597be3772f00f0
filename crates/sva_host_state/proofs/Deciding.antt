-- What is decided by the first cause that holds.
use Rattle.std.proofs.Common.{◌≡◌, refl, ap, ◌∙◌, subst, ℕ, Bool, true, false}
use Rattle.std.specs.Prelude.{not, nat_lt, Result, Ok, Err, List, [], ◌∷◌, ◌++◌, length, if◌then◌else◌}
use Rattle.sva_step.specs.declared.refusals.Refusal.{Refusal}
use Rattle.sva_step.specs.declared.refusals.Refusal.TheVariants as refusal
use Rattle.sva_model.specs.Refusals.{Cause, unless_refused}
use Rattle.sva_model.specs.Wire.{Wire}
use Rattle.sva_labels.specs.Causes.{no_such_endpoint}
use Rattle.sva_labels.specs.Host.{checked}
use Rattle.sva_labels.specs.Outcomes as outcomes
use Rattle.sva_host_state.specs.Steps.{Does}

-- a refusal that isn't want of memory
abbrev pub IsOther : Refusal → Type 0
IsOther refusal.OutOfMemory = ⊥
IsOther _ = Unit {0}

abbrev pub AreOther : List Cause → Type 0
AreOther [] = Unit {0}
AreOther (cause ∷ causes) = IsOther cause.1 × AreOther causes

pub refused : (x : Refusal) (w : Wire) → IsOther x → Does (record { reply = Err x; moves = [] }) w (Err x) w
refused refusal.OutOfMemory w is = absurd is
refused _ w is = (refl, refl)

-- the first of some causes that holds refuses the step, whatever causes follow
pub refused_by : {A : Type 0} (a : A) (causes more : List Cause) (r : outcomes.Result) (w : Wire) (x : Refusal) → AreOther causes → unless_refused causes a
    ≡ Err x
    → Does (checked (causes ++ more) r) w (Err x) w
refused_by {A = A} a [] more r w x others is = absurd (none is)
  where
    none : ◌≡◌ {A = Result A Refusal} (Ok a) (Err x) → ⊥
    none wrong = cc
refused_by {A = A} a (cause ∷ causes) more r w x others is = go (refused_by a causes more r w x others.1) cause.0 is
  where
    go : (unless_refused causes a ≡ Err x → Does (checked (causes ++ more) r) w (Err x) w) → (b : Bool)
        → (if b then Err cause.1 else unless_refused causes a) ≡ Err x
        → Does (if b then record { reply = Err cause.1; moves = [] } else checked (causes ++ more) r) w (Err x) w
    go rest true is =
        let same : cause.1 ≡ x = cc in
        subst (λ (y : Refusal). Does (record { reply = Err cause.1; moves = [] }) w (Err y) w) same (refused cause.1 w others.0)
    go rest false is = rest is

-- where none of some causes holds, those that follow decide
pub passed : {A : Type 0} (a b : A) (causes more : List Cause) (r : outcomes.Result) → unless_refused causes a ≡ Ok b → checked (causes ++ more) r
    ≡ checked more r
passed {A = A} a b [] more r is = refl
passed {A = A} a b (cause ∷ causes) more r is = go (passed a b causes more r) cause.0 is
  where
    go : (unless_refused causes a ≡ Ok b → checked (causes ++ more) r ≡ checked more r) → (c : Bool) → (if c then Err cause.1 else unless_refused causes a)
        ≡ Ok b
        → (if c then record { reply = Err cause.1; moves = [] } else checked (causes ++ more) r) ≡ checked more r
    go rest true is = absurd (none is)
      where
        none : ◌≡◌ {A = Result A Refusal} (Err cause.1) (Ok b) → ⊥
        none wrong = cc
    go rest false is = rest is

-- at an endpoint that is there the further causes decide
pub at_endpoint : (w : Wire) (e : ℕ) (causes others : List Cause) (r : outcomes.Result) → nat_lt e (length w.parts) ≡ true → causes ≡ others
    → checked (no_such_endpoint w e ∷ causes) r ≡ checked others r
at_endpoint w e causes others r there same =
    ap (λ (b : Bool). if not b then record { reply = Err refusal.NoSuchEndpoint; moves = [] } else checked causes r) there
    ∙ ap (λ (cs : List Cause). checked cs r) same

abbrev pub AreClear : List Cause → Type 0
AreClear [] = Unit {0}
AreClear (cause ∷ causes) = (cause.0 ≡ false) × AreClear causes

pub all_clear : {A : Type 0} (a b : A) (causes : List Cause) → unless_refused causes a ≡ Ok b → AreClear causes
all_clear a b [] is = tt
all_clear {A = A} a b (cause ∷ causes) is = go (all_clear a b causes) cause.0 refl is
  where
    go : (unless_refused causes a ≡ Ok b → AreClear causes) → (c : Bool) → cause.0 ≡ c → (if c then Err cause.1 else unless_refused causes a) ≡ Ok b
        → (cause.0 ≡ false) × AreClear causes
    go rest true which is = absurd (none is)
      where
        none : ◌≡◌ {A = Result A Refusal} (Err cause.1) (Ok b) → ⊥
        none wrong = cc
    go rest false which is = (which, rest is)
