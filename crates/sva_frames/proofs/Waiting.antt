use Rattle.std.proofs.Common.{◌≡◌, ℕ, ◌+◌, ◌≤◌, ◌==◌, Bool, true, false, ◌||◌, ◌&&◌, List, Option, Some, None, [], ◌∷◌, ◌++◌, get_or, set, is_some, refl}
use Rattle.std.proofs.Common.{sym, ap, ◌∙◌, arith, zero, suc, if◌then◌else◌}
use Rattle.std.specs.List.{list_any}
use Rattle.std.proofs.lemmas.Bool.Decides.{nat_tests}
use Rattle.sva_frames.specs.declared.waits.Target.{Target}
use Rattle.sva_frames.specs.declared.waits.Target.TheVariants.{Cookie, ResetEnd}
use Rattle.sva_frames.specs.Frames.{Free, Withheld, has_target, after_waits, past_cookie, past_reset, settled}
use Rattle.sva_frames.specs.Calls.{Call, Settle, SettleAll, settles, unsettled}

-- `if` on a test that is known
pub if_true : {A : Type 0} (b : Bool) (x y : A) → b ≡ true → (if b then x else y) ≡ x
if_true true x y is = refl
if_true false x y is = absurd (cc)

pub if_false : {A : Type 0} (b : Bool) (x y : A) → b ≡ false → (if b then x else y) ≡ y
if_false true x y is = absurd (cc)
if_false false x y is = refl

-- a frame with a target left is withheld, and one without is free
pub after_waits-some : (waits : List (Option Target)) → has_target waits ≡ true → after_waits waits ≡ Withheld waits
after_waits-some waits some = if_true (has_target waits) (Withheld waits) Free some

pub after_waits-none : (waits : List (Option Target)) → has_target waits ≡ false → after_waits waits ≡ Free
after_waits-none waits none = if_false (has_target waits) (Withheld waits) Free none

pub withheld-after_waits : (waits left : List (Option Target)) → after_waits waits ≡ Withheld left → (waits ≡ left) × (has_target waits ≡ true)
withheld-after_waits waits left is = by_test (has_target waits) refl
  where
    by_test : (b : Bool) → has_target waits ≡ b → (waits ≡ left) × (has_target waits ≡ true)
    by_test true some = let same : Withheld waits ≡ Withheld left = sym (after_waits-some waits some) ∙ is in (cc, some)
    by_test false none = let other : Free ≡ Withheld left = sym (after_waits-none waits none) ∙ is in absurd (cc)

or-false : (b : Bool) → (b || false) ≡ b
or-false true = refl
or-false false = refl

-- a table of no targets stays so, whatever an event leaves of a target
pub set_none :
    (waits : List (Option Target)) (unit : ℕ) (left : Option Target → Option Target) → left None ≡ None → has_target waits ≡ false →
    has_target (set waits unit (left (get_or waits unit None))) ≡ false
set_none [] unit left keeps none = refl
set_none (None ∷ waits) zero left keeps none = ap (λ t. is_some t || has_target waits) keeps ∙ none
set_none (Some target ∷ waits) unit left keeps none = absurd (cc)
set_none (None ∷ waits) (suc unit) left keeps none = set_none waits unit left keeps none

pub settled-after_waits :
    (unit : ℕ) (left : Option Target → Option Target) (waits : List (Option Target)) → left None ≡ None →
    settled unit left (after_waits waits) ≡ after_waits (set waits unit (left (get_or waits unit None)))
settled-after_waits unit left waits keeps = by_test (has_target waits) refl
  where
    by_test : (b : Bool) → has_target waits ≡ b → settled unit left (after_waits waits) ≡ after_waits (set waits unit (left (get_or waits unit None)))
    by_test true some = ap (settled unit left) (after_waits-some waits some)
    by_test false none = ap (settled unit left) (after_waits-none waits none)
        ∙ sym (after_waits-none (set waits unit (left (get_or waits unit None))) (set_none waits unit left keeps none))

-- with no calls nothing is settled
pub unsettled-nil : (unit : ℕ) (waits : List (Option Target)) → unsettled [] unit waits ≡ waits
unsettled-nil unit [] = refl
unsettled-nil unit (None ∷ waits) = ap (λ ws. None ∷ ws) (unsettled-nil (unit + 1) waits)
unsettled-nil unit (Some target ∷ waits) = ap (λ ws. Some target ∷ ws) (unsettled-nil (unit + 1) waits)

list_any-append : {A : Type 0} (p : A → Bool) (xs ys : List A) → list_any p (xs ++ ys) ≡ (list_any p xs || list_any p ys)
list_any-append p [] ys = refl
list_any-append p (x ∷ xs) ys = ap (λ b. p x || b) (list_any-append p xs ys) ∙ or_assoc (p x) (list_any p xs) (list_any p ys)
  where
    or_assoc : (a b c : Bool) → (a || (b || c)) ≡ ((a || b) || c)
    or_assoc true b c = refl
    or_assoc false b c = refl

-- what later calls leave of what earlier ones left
pub unsettled-append :
    (xs ys : List Call) (unit : ℕ) (waits : List (Option Target)) → unsettled (xs ++ ys) unit waits ≡ unsettled ys unit (unsettled xs unit waits)
unsettled-append xs ys unit [] = refl
unsettled-append xs ys unit (None ∷ waits) = ap (λ ws. None ∷ ws) (unsettled-append xs ys (unit + 1) waits)
unsettled-append xs ys unit (Some target ∷ waits) =
    ap (λ b. (if b then None else Some target) ∷ unsettled (xs ++ ys) (unit + 1) waits) (list_any-append (settles unit target) xs ys)
    ∙ by_test (list_any (settles unit target) xs) (unsettled-append xs ys (unit + 1) waits)
  where
    by_test :
        (b : Bool) → unsettled (xs ++ ys) (unit + 1) waits ≡ unsettled ys (unit + 1) (unsettled xs (unit + 1) waits) →
        ((if (b || list_any (settles unit target) ys) then None else Some target) ∷ unsettled (xs ++ ys) (unit + 1) waits)
        ≡ unsettled ys unit ((if b then None else Some target) ∷ unsettled xs (unit + 1) waits)
    by_test true rest = ap (λ ws. None ∷ ws) rest
    by_test false rest = ap (λ ws. (if list_any (settles unit target) ys then None else Some target) ∷ ws) rest

-- what is left was there
pub has_target-unsettled :
    (calls : List Call) (unit : ℕ) (waits : List (Option Target)) → has_target (unsettled calls unit waits) ≡ true → has_target waits ≡ true
has_target-unsettled calls unit [] some = some
has_target-unsettled calls unit (None ∷ waits) some = has_target-unsettled calls (unit + 1) waits some
has_target-unsettled calls unit (Some target ∷ waits) some = refl

-- calls that settle nothing from a unit on leave the table
pub unsettled_same :
    (call : Call) (unit : ℕ) (waits : List (Option Target)) → ((at : ℕ) (target : Target) → unit ≤ at → settles at target call ≡ false) →
    unsettled (call ∷ []) unit waits ≡ waits
unsettled_same call unit [] apart = refl
unsettled_same call unit (None ∷ waits) apart =
    ap (λ ws. None ∷ ws) (unsettled_same call (unit + 1) waits (λ at target above. apart at target (omega arith)))
unsettled_same call unit (Some target ∷ waits) apart =
    ap (λ b. (if (b || false) then None else Some target) ∷ unsettled (call ∷ []) (unit + 1) waits) (apart unit target (omega arith))
    ∙ ap (λ ws. Some target ∷ ws) (unsettled_same call (unit + 1) waits (λ at target above. apart at target (omega arith)))

-- an event at one unit, as the table that it leaves and as the call that settles
pub record IsEvent (call : Call) (unit : ℕ) (left : Option Target → Option Target) : Type 0 where
  pub elsewhere : (at : ℕ) (target : Target) → (at ≡ unit → ⊥) → settles at target call ≡ false
  pub nothing : left None ≡ None
  pub here : (target : Target) → left (Some target) ≡ (if settles unit target call then None else Some target)

pub unsettled-event :
    (call : Call) (unit first index : ℕ) (left : Option Target → Option Target) (waits : List (Option Target)) → IsEvent call unit left →
    unit ≡ first + index → set waits index (left (get_or waits index None)) ≡ unsettled (call ∷ []) first waits
unsettled-event call unit first index left [] is same = refl
unsettled-event call unit first zero left (None ∷ waits) is same =
    ap (λ t. t ∷ waits) is.nothing
    ∙ ap (λ ws. None ∷ ws) (sym (unsettled_same call (first + 1) waits (λ at target above. is.elsewhere at target (λ e. omega arith))))
unsettled-event call unit first zero left (Some target ∷ waits) is same =
    let at_first : unit ≡ first = omega arith in
    ap (λ t. t ∷ waits) (is.here target ∙ ap (λ u. if settles u target call then None else Some target) at_first
    ∙ ap (λ b. if b then None else Some target) (sym (or-false (settles first target call))))
    ∙ ap (λ ws. (if (settles first target call || false) then None else Some target) ∷ ws)
    (sym (unsettled_same call (first + 1) waits (λ at target above. is.elsewhere at target (λ e. omega arith))))
unsettled-event call unit first (suc index) left (None ∷ waits) is same =
    ap (λ ws. None ∷ ws) (unsettled-event call unit (first + 1) index left waits is (omega arith))
unsettled-event call unit first (suc index) left (Some target ∷ waits) is same =
    ap (λ b. (if (b || false) then None else Some target) ∷ set waits index (left (get_or waits index None)))
    (sym (is.elsewhere first target (λ e. omega arith)))
    ∙ ap (λ ws. (if (settles first target call || false) then None else Some target) ∷ ws)
    (unsettled-event call unit (first + 1) index left waits is (omega arith))

yes_same : (n : ℕ) → true ≡ (n == n)
yes_same n = grind (arith, nat_tests)

-- the two calls that settle
pub settle_event : (unit cookie : ℕ) → IsEvent (Settle unit cookie) unit (past_cookie cookie)
settle_event unit cookie = record {
  elsewhere = apart;
  nothing = refl;
  here = same;
}
  where
    apart : (at : ℕ) (target : Target) → (at ≡ unit → ⊥) → settles at target (Settle unit cookie) ≡ false
    apart at (Cookie awaited) other = grind (arith, nat_tests)
    apart at ResetEnd other = refl

    same : (target : Target) → past_cookie cookie (Some target) ≡ (if settles unit target (Settle unit cookie) then None else Some target)
    same (Cookie awaited) = ap (λ b. if (b && awaited == cookie) then None else Some (Cookie awaited)) (yes_same unit)
    same ResetEnd = refl

pub settle_all_event : (unit : ℕ) → IsEvent (SettleAll unit) unit past_reset
settle_all_event unit = record {
  elsewhere = apart;
  nothing = refl;
  here = same;
}
  where
    apart : (at : ℕ) (target : Target) → (at ≡ unit → ⊥) → settles at target (SettleAll unit) ≡ false
    apart at (Cookie awaited) other = grind (arith, nat_tests)
    apart at ResetEnd other = grind (arith, nat_tests)

    same : (target : Target) → past_reset (Some target) ≡ (if settles unit target (SettleAll unit) then None else Some target)
    same (Cookie awaited) = ap (λ b. if b then None else Some (Cookie awaited)) (yes_same unit)
    same ResetEnd = ap (λ b. if b then None else Some ResetEnd) (yes_same unit)
