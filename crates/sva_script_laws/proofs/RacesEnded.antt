-- No list of choices of a race is endless, and from each moment one is reached at which nothing is permitted.
use Rattle.std.proofs.Common.{◌≡◌, ◌∙◌, ◌⊎◌, inl, inr, ◌<◌, ◌≤◌, ℕ, zero, suc, Bool, true, false, Option, Some, None, List, [], ◌∷◌, ◌++◌}
use Rattle.std.proofs.Common.{length, refl, ap, sym, subst, arith}
use Rattle.std.proofs.lemmas.Bool.{and_parts, ltb-true}
use Rattle.std.specs.Prelude.{Contains, nat_lt, if◌then◌else◌, slice_index_or}
use Rattle.sva_search.specs.Rules.{after, run_from}
use Rattle.sva_race_texts.specs.declared.terms.choices.Act.{Act}
use Rattle.sva_race_texts.specs.declared.terms.choices.Act.TheVariants as act
use Rattle.sva_race_texts.specs.declared.terms.choices.Choice.{Choice}
use Rattle.sva_race_texts.specs.declared.terms.races.Race.{Race}
use Rattle.sva_race.specs.Acts.{behind_act, count_of, is_there, next_in, places_of}
use Rattle.sva_race.specs.Moments.{Moment, start_of}
use Rattle.sva_race.specs.Rules.{rules_of}
use Rattle.sva_script_laws.specs.Ends.{EndsAreThere, IsAtRest, NoneIsEndless, is_line, lines_left, measure}
use Rattle.sva_script_laws.proofs.RacesLowered.{each_act_lowers, lines_are_taken_once}

-- ---- is a choice permitted, or none?

last_or_below : (k n : ℕ) → k < suc n → (k < n) ⊎ (k ≡ n)
last_or_below k n low = grind arith

-- one is found, or each below a number is such
any_below : {A : Type 0} {Such : ℕ → Type 0} → ((k : ℕ) → A ⊎ Such k) → (n : ℕ) → A ⊎ ((k : ℕ) → k < n → Such k)
any_below look zero = inr (λ k low. absurd (omega (arith, low)))
any_below {A} {Such} look (suc n) = elim (look n) [
  | inl found ↦ inl found
  | inr here ↦ elim (any_below {A = A} {Such = Such} look n) [
    | inl found ↦ inl found
    | inr below ↦ inr (λ k low. elim (last_or_below k n low) [
      | inl before ↦ below k before
      | inr is ↦ subst Such (sym is) here
    ])
  ]
]

here_or_there : {X : Type 0} (Such : X → Type 0) (y : X) (xs : List X) → Such y → ((x : X) → Contains xs x → Such x)
    → (x : X) (k : ℕ) → k < length (y ∷ xs) → slice_index_or (y ∷ xs) k x ≡ x → Such x
here_or_there Such y xs here rest x zero low is = subst Such is here
here_or_there Such y xs here rest x (suc k) low is = rest x (k, omega (arith, low), is)

-- one is found, or each of a list is such
any_of : {A X : Type 0} {Such : X → Type 0} → ((x : X) → A ⊎ Such x) → (xs : List X) → A ⊎ ((x : X) → Contains xs x → Such x)
any_of look [] = inr (λ x has. absurd (omega (arith, has.1)))
any_of {A} {X} {Such} look (y ∷ xs) = elim (look y) [
  | inl found ↦ inl found
  | inr here ↦ elim (any_of {A = A} {X = X} {Such = Such} look xs) [
    | inl found ↦ inl found
    | inr rest ↦ inr (λ x has. here_or_there Such y xs here rest x has.0 has.1 has.2)
  ]
]

abbrev Permitted : Race → Moment → Type 0
Permitted race moment = (choice : Choice) × (next : Moment) × (next_in race moment choice ≡ Some next)

look_at : (race : Race) (moment : Moment) (choice : Choice) → Permitted race moment ⊎ (next_in race moment choice ≡ None)
look_at race moment choice = by_next (next_in race moment choice) refl
  where
    by_next : (o : Option Moment) → next_in race moment choice ≡ o → Permitted race moment ⊎ (next_in race moment choice ≡ None)
    by_next None h = inr h
    by_next (Some next) h = inl (choice, next, h)

-- what isn't there isn't permitted
absent : (race : Race) (moment : Moment) (choice : Choice) (b : Bool) → b ≡ false
    → (if b then behind_act race moment choice.act choice.at choice.number else None) ≡ None
absent race moment choice false h = refl
absent race moment choice true h = absurd (cc)

-- each act has its place
abbrev every : List Act
every =
    act.Line ∷ act.Deliver ∷ act.Pump ∷ act.Serve ∷ act.Take ∷ act.Succeed ∷ act.Invalidate ∷
    act.Fail ∷ act.End ∷ act.Finish ∷ act.Quit ∷ act.Last ∷ act.Ask ∷ act.Use ∷ act.Evict ∷
    act.Fault ∷ act.Again ∷ []

among_every : (own : Act) → Contains every own
among_every act.Line = (0, omega arith, refl)
among_every act.Deliver = (1, omega arith, refl)
among_every act.Pump = (2, omega arith, refl)
among_every act.Serve = (3, omega arith, refl)
among_every act.Take = (4, omega arith, refl)
among_every act.Succeed = (5, omega arith, refl)
among_every act.Invalidate = (6, omega arith, refl)
among_every act.Fail = (7, omega arith, refl)
among_every act.End = (8, omega arith, refl)
among_every act.Finish = (9, omega arith, refl)
among_every act.Quit = (10, omega arith, refl)
among_every act.Last = (11, omega arith, refl)
among_every act.Ask = (12, omega arith, refl)
among_every act.Use = (13, omega arith, refl)
among_every act.Evict = (14, omega arith, refl)
among_every act.Fault = (15, omega arith, refl)
among_every act.Again = (16, omega arith, refl)

abbrev AreRefused : Race → Moment → Act → Type 0
AreRefused race moment own = (at : ℕ) → at < places_of race own → (number : ℕ) → number < count_of race moment own at
    → next_in race moment (record { act = own; at = at; number = number }) ≡ None

all_refused : (race : Race) (moment : Moment) → ((own : Act) → Contains every own → AreRefused race moment own) → IsAtRest race moment
all_refused race moment none choice = by_test (is_there race moment choice) refl
  where
    by_test : (b : Bool) → is_there race moment choice ≡ b → next_in race moment choice ≡ None
    by_test true is =
        let its = and_parts (nat_lt choice.at (places_of race choice.act)) (nat_lt choice.number (count_of race moment choice.act choice.at)) is in
        none choice.act (among_every choice.act) choice.at (ltb-true choice.at (places_of race choice.act) its.0)
        choice.number (ltb-true choice.number (count_of race moment choice.act choice.at) its.1)
    by_test false is = absent race moment choice (is_there race moment choice) is

any_choice : (race : Race) (moment : Moment) → Permitted race moment ⊎ IsAtRest race moment
any_choice race moment = elim (any_of {A = Permitted race moment} {Such = AreRefused race moment} at_each every) [
  | inl found ↦ inl found
  | inr none ↦ inr (all_refused race moment none)
]
  where
    at_each : (own : Act) → Permitted race moment ⊎ AreRefused race moment own
    at_each own =
        any_below {Such = λ at. (number : ℕ) → number < count_of race moment own at
        → next_in race moment (record { act = own; at = at; number = number }) ≡ None}
        (λ at. any_below {Such = λ number. next_in race moment (record { act = own; at = at; number = number }) ≡ None}
        (λ number. look_at race moment (record { act = own; at = at; number = number })) (count_of race moment own at))
        (places_of race own)

-- ---- what each choice leaves: fewer lines, or as many and less to do

abbrev Leaves : (moment next : Moment) → Type 0
Leaves moment next = (lines_left next < lines_left moment) ⊎ ((measure next < measure moment) × (lines_left next ≡ lines_left moment))

leaves : (race : Race) (moment next : Moment) (choice : Choice) → next_in race moment choice ≡ Some next → Leaves moment next
leaves race moment next choice h = by_act (is_line choice.act) refl
  where
    by_act : (b : Bool) → is_line choice.act ≡ b → Leaves moment next
    by_act true is = inl (lines_are_taken_once race moment next choice is h)
    by_act false is = inr (each_act_lowers race moment next choice is h)

-- ---- no list is endless

module _ (race : Race) (moments : ℕ → Moment) (choices : ℕ → Choice)
    (goes : (k : ℕ) → next_in race (moments k) (choices k) ≡ Some (moments (suc k))) where
  -- with so many lines left, where with fewer there is none
  with_lines : (lines : ℕ) → ((k : ℕ) → lines_left (moments k) < lines → ⊥) → (most k : ℕ) → lines_left (moments k) ≤ lines
      → measure (moments k) ≤ most → ⊥
  with_lines lines fewer zero k few low = elim (leaves race (moments k) (moments (suc k)) (choices k) (goes k)) [
    | inl less ↦ fewer (suc k) (omega (arith, less, few))
    | inr less ↦
        let down = less.0 in
        absurd (omega (arith, down, low))
  ]
  with_lines lines fewer (suc most) k few low = elim (leaves race (moments k) (moments (suc k)) (choices k) (goes k)) [
    | inl less ↦ fewer (suc k) (omega (arith, less, few))
    | inr less ↦
        let down = less.0 in
        let same = less.1 in
        with_lines lines fewer most (suc k) (omega (arith, same, few)) (omega (arith, down, low))
  ]

  with_fewer : (lines k : ℕ) → lines_left (moments k) < lines → ⊥
  with_fewer zero k few = absurd (omega (arith, few))
  with_fewer (suc lines) k few = with_lines lines (with_fewer lines) (measure (moments k)) k (omega (arith, few)) (omega arith)

pub none_is_endless : NoneIsEndless
none_is_endless race moments choices goes = with_fewer race moments choices goes (suc (lines_left (moments 0))) 0 (omega arith)

-- ---- an end is there

-- some list leads on from a moment to one at which nothing is permitted
abbrev LeadsToRest : Race → Moment → Type 0
LeadsToRest race moment =
    (more : List Choice) × (last : Moment) × (run_from (rules_of race) (Some moment) more ≡ Some last) × IsAtRest race last

one_on : (race : Race) (moment next : Moment) (choice : Choice) → next_in race moment choice ≡ Some next → LeadsToRest race next → LeadsToRest race moment
one_on race moment next choice h its = (
  choice ∷ its.0,
  its.1,
  ap (λ (o : Option Moment). run_from (rules_of race) o its.0) h ∙ its.2,
  its.3,
)

module _ (race : Race) where
  rest_with : (lines : ℕ) → ((moment : Moment) → lines_left moment < lines → LeadsToRest race moment)
      → (most : ℕ) (moment : Moment) → lines_left moment ≤ lines → measure moment ≤ most → LeadsToRest race moment
  rest_with lines fewer zero moment few low = elim (any_choice race moment) [
    | inl found ↦ elim (leaves race moment found.1 found.0 found.2) [
      | inl less ↦ one_on race moment found.1 found.0 found.2 (fewer found.1 (omega (arith, less, few)))
      | inr less ↦
          let down = less.0 in
          absurd (omega (arith, down, low))
    ]
    | inr rest ↦ ([], moment, refl, rest)
  ]
  rest_with lines fewer (suc most) moment few low = elim (any_choice race moment) [
    | inl found ↦ elim (leaves race moment found.1 found.0 found.2) [
      | inl less ↦ one_on race moment found.1 found.0 found.2 (fewer found.1 (omega (arith, less, few)))
      | inr less ↦
          let down = less.0 in
          let same = less.1 in
          one_on race moment found.1 found.0 found.2
          (rest_with lines fewer most found.1 (omega (arith, same, few)) (omega (arith, down, low)))
    ]
    | inr rest ↦ ([], moment, refl, rest)
  ]

  rest_by : (lines : ℕ) (moment : Moment) → lines_left moment < lines → LeadsToRest race moment
  rest_by zero moment few = absurd (omega (arith, few))
  rest_by (suc lines) moment few = rest_with lines (rest_by lines) (measure moment) moment (omega (arith, few)) (omega arith)

run_append : (race : Race) (o : Option Moment) (choices more : List Choice)
    → run_from (rules_of race) o (choices ++ more) ≡ run_from (rules_of race) (run_from (rules_of race) o choices) more
run_append race o [] more = refl
run_append race o (choice ∷ choices) more = run_append race (after (rules_of race) o choice) choices more

pub ends_are_there : EndsAreThere
ends_are_there race choices moment h =
    let its = rest_by race (suc (lines_left moment)) moment (omega arith) in (
      its.0,
      its.1,
      run_append race (Some (start_of race)) choices its.0 ∙ ap (λ (o : Option Moment). run_from (rules_of race) o its.0) h ∙ its.2,
      its.3,
    )
