-- The first cause that holds, where one is asked for something.
use Rattle.std.proofs.Common.{◌≡◌, refl, ap, ◌∙◌, subst, ℕ, ◌+◌, ◌<◌, ◌≤◌, Bool, true, false, arith}
use Rattle.std.specs.Prelude.{nat_lt, if◌then◌else◌, Result, Ok, Err, List, [], ◌∷◌, ◌++◌}
use Rattle.std.proofs.lemmas.Bool.Decides.{nat_tests}
use Rattle.sva_step.specs.declared.refusals.Refusal.{Refusal}
use Rattle.sva_model.specs.Refusals.{Cause, unless_refused}
use Rattle.sva_labels.specs.Host.{checked}
use Rattle.sva_labels.specs.Outcomes as outcomes
use Rattle.sva_host_state.proofs.Deciding.{AreClear, AreOther, IsOther}

-- the first causes don't hold, and the next one does; or none does
pub refuses : {A : Type 0} (a : A) (front rest : List Cause) (cause : Cause) → AreClear front → cause.0 ≡ true → unless_refused (front ++ cause ∷ rest) a
    ≡ Err cause.1
refuses a [] rest cause clear holds = ap (λ (b : Bool). if b then Err cause.1 else unless_refused rest a) holds
refuses a (c ∷ front) rest cause clear holds =
    ap (λ (b : Bool). if b then Err c.1 else unless_refused (front ++ cause ∷ rest) a) clear.0 ∙ refuses a front rest cause clear.1 holds

pub allows : {A : Type 0} (a : A) (causes : List Cause) → AreClear causes → unless_refused causes a ≡ Ok a
allows a [] clear = refl
allows a (c ∷ causes) clear = ap (λ (b : Bool). if b then Err c.1 else unless_refused causes a) clear.0 ∙ allows a causes clear.1

-- what refuses is one of the causes
pub is_other : {A : Type 0} (a : A) (causes : List Cause) (x : Refusal) → AreOther causes → Err x ≡ unless_refused causes a → IsOther x
is_other {A = A} a [] x others is = absurd (none is)
  where
    none : ◌≡◌ {A = Result A Refusal} (Err x) (Ok a) → ⊥
    none wrong = cc
is_other {A = A} a (cause ∷ causes) x others is = go (is_other a causes x others.1) cause.0 is
  where
    go : (Err x ≡ unless_refused causes a → IsOther x) → (b : Bool) → Err x ≡ (if b then Err cause.1 else unless_refused causes a) → IsOther x
    go rest true is =
        let same : cause.1 ≡ x = cc in
        subst IsOther same others.0
    go rest false is = rest is

-- numbers that are spent, and numbers that aren't
pub spent : (m n : ℕ) → m ≤ n → nat_lt m (n + 1) ≡ true
spent m n h = grind (arith, nat_tests)

pub left_over : (m n : ℕ) → n < m → nat_lt m (n + 1) ≡ false
left_over m n h = grind (arith, nat_tests)

pub not_spent : (m n : ℕ) → nat_lt m (n + 1) ≡ false → n < m
not_spent m n h = grind (arith, nat_tests)

-- where no cause holds the step is accepted
pub accepts : (causes : List Cause) (r : outcomes.Result) → AreClear causes → checked causes r ≡ record { reply = Ok r.answer; moves = r.moves }
accepts [] r clear = refl
accepts (c ∷ causes) r clear = ap (λ (b : Bool). if b then record { reply = Err c.1; moves = [] } else checked causes r) clear.0 ∙ accepts causes r clear.1
