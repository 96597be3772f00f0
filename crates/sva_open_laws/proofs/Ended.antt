-- No list of events is longer than its driver's start measures, and from each moment one is reached at which nothing is permitted.
use Rattle.std.proofs.Common.{◌≡◌, ◌∙◌, ◌⊎◌, inl, inr, ◌<◌, ◌≤◌, ℕ, zero, suc, ◌+◌, Bool, true, false, Option, Some, None, List, [], ◌∷◌, ◌++◌}
use Rattle.std.proofs.Common.{length, refl, ap, sym, subst, arith}
use Rattle.std.proofs.lemmas.Bool.{and_parts, false_from_ne_true, ltb-true}
use Rattle.std.specs.Prelude.{⊤, ◌&&◌, Contains, nat_lt, if◌then◌else◌, slice_index_or}
use Rattle.sva_search.specs.Rules.{LeadsTo, after, run_from}
use Rattle.sva_open.specs.Checks.{is_safe}
use Rattle.sva_open.specs.declared.drivers.Driver.{Driver}
use Rattle.sva_judge.specs.Choices.{behind_choice, count_of, is_there, next_in, places_of}
use Rattle.sva_judge.specs.Rules.{rules_of, waits_at}
use Rattle.sva_judge.specs.Spots.{Spot, start_of}
use Rattle.sva_judge.specs.Verdicts.{IsStuck}
use Rattle.sva_judge.specs.declared.choices.Choice.{Choice}
use Rattle.sva_judge.specs.declared.choices.Doing.{Doing}
use Rattle.sva_judge.specs.declared.choices.Doing.TheVariants as doing
use Rattle.sva_open_laws.specs.Ends.{EndsAreThere, GoesForward, IsAtRest, IsDone, ListsAreBounded, NeverStuckIsDone, measure}
use Rattle.sva_open_laws.specs.Weights.{AreNumbered}
use Rattle.sva_open_laws.proofs.Lowered.{each_event_leaves, each_event_lowers}

-- ---- lists are bounded

-- what is led to measures less by each event, and each endpoint stands at its number there
abbrev IsShort : Driver → Spot → List Choice → Option Spot → Type 0
IsShort driver spot choices None = ⊤
IsShort driver spot choices (Some last) =
    (length choices + measure driver last ≤ measure driver spot) × AreNumbered last.world.parts

run_none : (driver : Driver) (choices : List Choice) → run_from (rules_of driver) None choices ≡ None
run_none driver [] = refl
run_none driver (one ∷ choices) = run_none driver choices

one_more : (driver : Driver) (spot next : Spot) (one : Choice) (choices : List Choice) (o : Option Spot)
    → measure driver next < measure driver spot → IsShort driver next choices o → IsShort driver spot (one ∷ choices) o
one_more driver spot next one choices None less rest = tt
one_more driver spot next one choices (Some last) less rest =
    let short = rest.0 in
    (omega (arith, less, short), rest.1)

runs_short : (driver : Driver) → GoesForward driver → (choices : List Choice) (spot : Spot) → AreNumbered spot.world.parts
    → IsShort driver spot choices (run_from (rules_of driver) (Some spot) choices)
runs_short driver forward [] spot numbered = (omega arith, numbered)
runs_short driver forward (one ∷ choices) spot numbered =
    by_next (next_in driver spot one) refl (λ next leaves. runs_short driver forward choices next leaves)
  where
    by_next : (o : Option Spot) → next_in driver spot one ≡ o
        → ((next : Spot) → AreNumbered next.world.parts → IsShort driver next choices (run_from (rules_of driver) (Some next) choices))
        → IsShort driver spot (one ∷ choices) (run_from (rules_of driver) o choices)
    by_next None h rest = subst (λ (o : Option Spot). IsShort driver spot (one ∷ choices) o) (sym (run_none driver choices)) tt
    by_next (Some next) h rest =
        one_more driver spot next one choices (run_from (rules_of driver) (Some next) choices)
        (each_event_lowers driver forward spot next one numbered h)
        (rest next (each_event_leaves driver forward spot next one h numbered))

led_to : (driver : Driver) → GoesForward driver → AreNumbered driver.start.parts → (choices : List Choice) (spot : Spot)
    → LeadsTo (rules_of driver) choices spot → IsShort driver (start_of driver) choices (Some spot)
led_to driver forward numbered choices spot h =
    subst (λ (o : Option Spot). IsShort driver (start_of driver) choices o) h (runs_short driver forward choices (start_of driver) numbered)

pub lists_are_bounded : ListsAreBounded
lists_are_bounded driver forward numbered choices spot h = (led_to driver forward numbered choices spot h).0

-- ---- is a choice permitted, or none?

last_or_below : (k n : ℕ) → k < suc n → (k < n) ⊎ (k ≡ n)
last_or_below k n low = grind arith

-- one is found, or each below a number is such
any_below : {A : Type 0} {Such : ℕ → Type 0} → ((k : ℕ) → A ⊎ Such k) → (n : ℕ) → A ⊎ ((k : ℕ) → k < n → Such k)
any_below look zero = inr (λ k low. absurd (omega (arith, low)))
any_below {A} {Such} look (suc n) = elim (look n) [
  | inl found ↦ inl found
  | inr here ↦ elim (any_below {A = A} {Such = Such} look n) [
    | inl found ↦ inl found
    | inr below ↦ inr (λ k low. elim (last_or_below k n low) [
      | inl before ↦ below k before
      | inr is ↦ subst Such (sym is) here
    ])
  ]
]

here_or_there : {X : Type 0} (Such : X → Type 0) (y : X) (xs : List X) → Such y → ((x : X) → Contains xs x → Such x)
    → (x : X) (k : ℕ) → k < length (y ∷ xs) → slice_index_or (y ∷ xs) k x ≡ x → Such x
here_or_there Such y xs here rest x zero low is = subst Such is here
here_or_there Such y xs here rest x (suc k) low is = rest x (k, omega (arith, low), is)

-- one is found, or each of a list is such
any_of : {A X : Type 0} {Such : X → Type 0} → ((x : X) → A ⊎ Such x) → (xs : List X) → A ⊎ ((x : X) → Contains xs x → Such x)
any_of look [] = inr (λ x has. absurd (omega (arith, has.1)))
any_of {A} {X} {Such} look (y ∷ xs) = elim (look y) [
  | inl found ↦ inl found
  | inr here ↦ elim (any_of {A = A} {X = X} {Such = Such} look xs) [
    | inl found ↦ inl found
    | inr rest ↦ inr (λ x has. here_or_there Such y xs here rest x has.0 has.1 has.2)
  ]
]

abbrev Permitted : Driver → Spot → Type 0
Permitted driver spot = (one : Choice) × (next : Spot) × (next_in driver spot one ≡ Some next)

look_at : (driver : Driver) (spot : Spot) (one : Choice) → Permitted driver spot ⊎ (next_in driver spot one ≡ None)
look_at driver spot one = by_next (next_in driver spot one) refl
  where
    by_next : (o : Option Spot) → next_in driver spot one ≡ o → Permitted driver spot ⊎ (next_in driver spot one ≡ None)
    by_next None h = inr h
    by_next (Some next) h = inl (one, next, h)

-- what isn't there isn't permitted
absent : (driver : Driver) (spot : Spot) (one : Choice) (safe b : Bool) → b ≡ false
    → (if safe && b then behind_choice driver spot one.doing one.at one.number else None) ≡ None
absent driver spot one true false h = refl
absent driver spot one false false h = refl
absent driver spot one safe true h = absurd (cc)

-- each doing has its place
abbrev every : List Doing
every =
    doing.Line ∷ doing.Deliver ∷ doing.Pump ∷ doing.Write ∷ doing.Expire ∷ doing.Serve ∷
    doing.Answer ∷ doing.Fail ∷ doing.End ∷ doing.Finish ∷ doing.Pass ∷ doing.Quit ∷ doing.Complete ∷
    doing.Ask ∷ doing.Use ∷ doing.Fault ∷ doing.Further ∷ doing.Evict ∷ doing.ForgetEntry ∷
    doing.Forget ∷ doing.Leave ∷ doing.PumpAt ∷ []

among_every : (own : Doing) → Contains every own
among_every doing.Line = (0, omega arith, refl)
among_every doing.Deliver = (1, omega arith, refl)
among_every doing.Pump = (2, omega arith, refl)
among_every doing.Write = (3, omega arith, refl)
among_every doing.Expire = (4, omega arith, refl)
among_every doing.Serve = (5, omega arith, refl)
among_every doing.Answer = (6, omega arith, refl)
among_every doing.Fail = (7, omega arith, refl)
among_every doing.End = (8, omega arith, refl)
among_every doing.Finish = (9, omega arith, refl)
among_every doing.Pass = (10, omega arith, refl)
among_every doing.Quit = (11, omega arith, refl)
among_every doing.Complete = (12, omega arith, refl)
among_every doing.Ask = (13, omega arith, refl)
among_every doing.Use = (14, omega arith, refl)
among_every doing.Fault = (15, omega arith, refl)
among_every doing.Further = (16, omega arith, refl)
among_every doing.Evict = (17, omega arith, refl)
among_every doing.ForgetEntry = (18, omega arith, refl)
among_every doing.Forget = (19, omega arith, refl)
among_every doing.Leave = (20, omega arith, refl)
among_every doing.PumpAt = (21, omega arith, refl)

abbrev AreRefused : Driver → Spot → Doing → Type 0
AreRefused driver spot own = (at : ℕ) → at < places_of driver own → (number : ℕ) → number < count_of driver spot own at
    → next_in driver spot (record { doing = own; at = at; number = number }) ≡ None

all_refused : (driver : Driver) (spot : Spot) → ((own : Doing) → Contains every own → AreRefused driver spot own) → IsAtRest driver spot
all_refused driver spot none one = by_test (is_there driver spot one) refl
  where
    by_test : (b : Bool) → is_there driver spot one ≡ b → next_in driver spot one ≡ None
    by_test true is =
        let its = and_parts (nat_lt one.at (places_of driver one.doing)) (nat_lt one.number (count_of driver spot one.doing one.at)) is in
        none one.doing (among_every one.doing) one.at (ltb-true one.at (places_of driver one.doing) its.0)
        one.number (ltb-true one.number (count_of driver spot one.doing one.at) its.1)
    by_test false is = absent driver spot one (is_safe spot.world) (is_there driver spot one) is

any_choice : (driver : Driver) (spot : Spot) → Permitted driver spot ⊎ IsAtRest driver spot
any_choice driver spot = elim (any_of {A = Permitted driver spot} {Such = AreRefused driver spot} at_each every) [
  | inl found ↦ inl found
  | inr none ↦ inr (all_refused driver spot none)
]
  where
    at_each : (own : Doing) → Permitted driver spot ⊎ AreRefused driver spot own
    at_each own =
        any_below {Such = λ at. (number : ℕ) → number < count_of driver spot own at
        → next_in driver spot (record { doing = own; at = at; number = number }) ≡ None}
        (λ at. any_below {Such = λ number. next_in driver spot (record { doing = own; at = at; number = number }) ≡ None}
        (λ number. look_at driver spot (record { doing = own; at = at; number = number })) (count_of driver spot own at))
        (places_of driver own)

-- ---- an end is there

-- some list leads on from a moment to one at which nothing is permitted
abbrev LeadsToRest : Driver → Spot → Type 0
LeadsToRest driver spot =
    (more : List Choice) × (last : Spot) × (run_from (rules_of driver) (Some spot) more ≡ Some last) × IsAtRest driver last

one_on : (driver : Driver) (spot next : Spot) (one : Choice) → next_in driver spot one ≡ Some next → LeadsToRest driver next → LeadsToRest driver spot
one_on driver spot next one h its = (
  one ∷ its.0,
  its.1,
  ap (λ (o : Option Spot). run_from (rules_of driver) o its.0) h ∙ its.2,
  its.3,
)

comes_to_rest : (driver : Driver) → GoesForward driver → (most : ℕ) (spot : Spot) → AreNumbered spot.world.parts → measure driver spot ≤ most
    → LeadsToRest driver spot
comes_to_rest driver forward zero spot numbered low = elim (any_choice driver spot) [
  | inl found ↦
      let less = each_event_lowers driver forward spot found.1 found.0 numbered found.2 in
      absurd (omega (arith, less, low))
  | inr rest ↦ ([], spot, refl, rest)
]
comes_to_rest driver forward (suc most) spot numbered low = elim (any_choice driver spot) [
  | inl found ↦
      let less = each_event_lowers driver forward spot found.1 found.0 numbered found.2 in
      one_on driver spot found.1 found.0 found.2
      (comes_to_rest driver forward most found.1 (each_event_leaves driver forward spot found.1 found.0 found.2 numbered) (omega (arith, less, low)))
  | inr rest ↦ ([], spot, refl, rest)
]

run_append : (driver : Driver) (o : Option Spot) (choices more : List Choice)
    → run_from (rules_of driver) o (choices ++ more) ≡ run_from (rules_of driver) (run_from (rules_of driver) o choices) more
run_append driver o [] more = refl
run_append driver o (one ∷ choices) more = run_append driver (after (rules_of driver) o one) choices more

led_on : (driver : Driver) (choices more : List Choice) (spot last : Spot) → LeadsTo (rules_of driver) choices spot
    → run_from (rules_of driver) (Some spot) more ≡ Some last → LeadsTo (rules_of driver) (choices ++ more) last
led_on driver choices more spot last h its =
    run_append driver (Some (start_of driver)) choices more ∙ ap (λ (o : Option Spot). run_from (rules_of driver) o more) h ∙ its

pub ends_are_there : EndsAreThere
ends_are_there driver forward numbered choices spot h =
    let its = comes_to_rest driver forward (measure driver spot) spot (led_to driver forward numbered choices spot h).1 (omega arith) in
    (its.0, its.1, led_on driver choices its.0 spot its.1 h its.2, its.3, tt)

-- ---- what is never stuck is done

rests_done : (driver : Driver) → ((choices : List Choice) → IsStuck driver choices → ⊥) → (choices : List Choice) (spot : Spot)
    → LeadsTo (rules_of driver) choices spot → IsAtRest driver spot → IsDone spot
rests_done driver never choices spot h rest =
    false_from_ne_true (waits_at spot) (λ waits. never choices (spot, h, (λ one due. rest one), waits))

pub never_stuck_is_done : NeverStuckIsDone
never_stuck_is_done driver forward numbered never choices spot h =
    let its = ends_are_there driver forward numbered choices spot h in (
      (its.0, its.1, its.2, its.3, rests_done driver never (choices ++ its.0) its.1 its.2 its.3),
      rests_done driver never choices spot h,
    )
