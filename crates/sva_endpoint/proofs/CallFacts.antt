-- What a permitted call says, and what lasts over a list of permitted calls.
use Rattle.std.proofs.Common.{◌≡◌, ◌<◌, List, [], ◌∷◌, length, get_or, Bool, true, false, cond, Some, None, Result, Ok, Err, refl, ap}
use Rattle.std.specs.Prelude.{is_ok, is_none, position, nat_lt}
use Rattle.std.specs.List.{list_any, position_or_len}
use Rattle.std.proofs.lemmas.Bool.{or_parts}
use Rattle.std.proofs.lemmas.List.Quantifiers.{position-Some}
use Rattle.sva_step.specs.declared.refusals.Refusal.{Refusal}
use Rattle.sva_endpoint.specs.Tables.{Tables}
use Rattle.sva_model.specs.Refusals.{unless_refused}
use Rattle.sva_endpoint.specs.Calls.{Call, is_permitted, after, run, ArePermitted}

-- no cause holds
abbrev pub AreClear : List (Bool × Refusal) → Type 0
AreClear [] = Unit {0}
AreClear (cause ∷ causes) = (cause.0 ≡ false) × AreClear causes

pub are_clear : {A : Type 0} (causes : List (Bool × Refusal)) (answer : A) → is_ok (unless_refused causes answer) ≡ true → AreClear causes
are_clear [] answer ok = tt
are_clear {A} (cause ∷ causes) answer ok = by cause.0 refl ok (λ later. are_clear causes answer later)
  where
    by : (b : Bool) → cause.0 ≡ b → is_ok (cond {A = Result A Refusal} b (Err cause.1) (unless_refused causes answer)) ≡ true
        → (is_ok (unless_refused causes answer) ≡ true → AreClear causes) → AreClear (cause ∷ causes)
    by true is given rest = absurd (cc)
    by false is given rest = (is, rest given)

-- where no cause holds the answer is given
pub given : {A : Type 0} (answer other : A) (causes : List (Bool × Refusal)) → unless_refused causes answer ≡ Ok other → answer ≡ other
given {A} answer other [] is = let same : answer ≡ other = cc in same
given {A} answer other (cause ∷ causes) is = by (given answer other causes) cause.0 is
  where
    by : (unless_refused causes answer ≡ Ok other → answer ≡ other) → (b : Bool)
        → cond {A = Result A Refusal} b (Err cause.1) (unless_refused causes answer) ≡ Ok other → answer ≡ other
    by rest true is = absurd (cc)
    by rest false is = rest is

-- the lowest place that passes is there, and passes
pub lowest : {X : Type 0} (test : X → Bool) (xs : List X) (d : X) → is_none (position test xs) ≡ false
    → (position_or_len test xs < length xs) × (test (get_or xs (position_or_len test xs) d) ≡ true)
lowest test xs d found = by (nat_lt (position_or_len test xs) (length xs)) refl found
  where
    by : (b : Bool) → nat_lt (position_or_len test xs) (length xs) ≡ b → is_none (cond b (Some (position_or_len test xs)) None) ≡ false
        → (position_or_len test xs < length xs) × (test (get_or xs (position_or_len test xs) d) ≡ true)
    by true is given =
        let at = position-Some test xs (position_or_len test xs) d (ap (λ b. cond b (Some (position_or_len test xs)) None) is) in
        (at.0, at.1)
    by false is given = absurd (cc)

-- what each permitted call keeps that isn't one of the bad ones lasts over a list of such calls
module _ (P : Tables → Type 0) (bad : Call → Bool) (step : (s : Tables) (call : Call) → is_permitted s call ≡ true → bad call ≡ false → P s
    → P (after s call)) where
  pub lasts : (s : Tables) (calls : List Call) → ArePermitted s calls → list_any bad calls ≡ false → P s → P (run s calls)
  lasts s [] permitted none holds = holds
  lasts s (call ∷ calls) permitted none holds =
      let parts = or_parts (bad call) (list_any bad calls) none in
      lasts (after s call) calls permitted.1 parts.1 (step s call permitted.0 parts.0 holds)
