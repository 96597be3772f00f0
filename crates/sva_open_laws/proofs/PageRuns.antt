-- The page law, and what acts one after another lead to, of a page and of the whole.
use Rattle.std.proofs.Common.{◌≡◌, ◌∙◌, ℕ, true, Option, Some, None, option_map, List, [], ◌∷◌, refl, ap, sym, subst}
use Rattle.std.specs.List.{cons_option}
use Rattle.std.proofs.lemmas.Option.{same_Some}
use Rattle.sva_open.specs.declared.acts.Act.{Act}
use Rattle.sva_open.specs.World.{Open}
use Rattle.sva_open.specs.Acts.{next_open}
use Rattle.sva_open.specs.Checks.{is_safe}
use Rattle.sva_open_laws.specs.Pages.{AreAlwaysSafeApart, AreRunsApart, AreRunsSafeApart, AreTakenSafely, IsAlwaysSafe, IsPageLaw, IsSafeAlong}
use Rattle.sva_open_laws.specs.Pages.{after, its_act, its_acts, its_world, next_by}
use Rattle.sva_open_laws.proofs.PageBelow.{IsLedTo}
use Rattle.sva_open_laws.proofs.PageWorlds.{act_in}
use Rattle.sva_open_laws.proofs.PageSafety.{safe_tagged, safe_whole}

-- ---- one act

led : (page : ℕ) (next : Open) (o : Option Open) → IsLedTo page (Some next) o → o ≡ Some (its_world page next)
led page next (Some other) h = ap Some (sym h)
led page next None h = absurd h

pub page_law : IsPageLaw
page_law page now next one safe h =
    led page next (next_by (its_world page now) (its_act page now one))
    (subst (λ (o : Option Open). IsLedTo page o (next_by (its_world page now) (its_act page now one))) h (act_in page now one (safe_tagged now one safe)))

-- ---- acts one after another

-- what a page has of one act, and then of the others
step : (page : ℕ) (now next last : Open) (acts : List Act) (own : Option Act) → next_by (its_world page now) own ≡ Some (its_world page next)
    → after (Some (its_world page next)) acts ≡ Some (its_world page last)
    → after (Some (its_world page now)) (cons_option own acts) ≡ Some (its_world page last)
step page now next last acts None h rest = ap (λ (o : Option Open). after o acts) h ∙ rest
step page now next last acts (Some one) h rest = ap (λ (o : Option Open). after o acts) h ∙ rest

go_on : (page : ℕ) (now last : Open) (one : Act) (acts : List Act) (o : Option Open) → is_safe now ≡ true → next_open now one ≡ o
    → ((next : Open) → o ≡ Some next → after (Some (its_world page next)) (its_acts page o acts) ≡ Some (its_world page last))
    → after o acts ≡ Some last
    → after (Some (its_world page now)) (cons_option (its_act page now one) (its_acts page o acts)) ≡ Some (its_world page last)
go_on page now last one acts None safe h rest k = absurd (cc)
go_on page now last one acts (Some next) safe h rest k =
    step page now next last (its_acts page (Some next) acts) (its_act page now one) (page_law page now next one safe h) (rest next refl)

runs : (page : ℕ) (o : Option Open) (last : Open) (acts : List Act) → AreTakenSafely o acts → after o acts ≡ Some last
    → after (option_map (its_world page) o) (its_acts page o acts) ≡ Some (its_world page last)
runs page None last acts safe h = absurd (cc)
runs page (Some now) last [] safe h = ap (option_map (its_world page)) h
runs page (Some now) last (one ∷ acts) safe h =
    go_on page now last one acts (next_open now one) safe.0 refl
    (λ next is. ap (λ (o : Option Open). after (option_map (its_world page) o) (its_acts page (next_open now one) acts)) (sym is)
    ∙ runs page (next_open now one) last acts safe.1 h) h

pub runs_apart : AreRunsApart
runs_apart page now last acts safe h = runs page (Some now) last acts safe h

-- ---- what is safe along a list of acts

pub first_safe : (now : Open) (acts : List Act) → IsSafeAlong (Some now) acts → is_safe now ≡ true
first_safe now [] h = h
first_safe now (one ∷ acts) h = h.0

last_safe : (o : Option Open) (acts : List Act) (last : Open) → IsSafeAlong o acts → after o acts ≡ Some last → is_safe last ≡ true
last_safe None acts last h k = absurd (cc)
last_safe (Some now) [] last h k =
    let same : now ≡ last = cc in
    ap is_safe (sym same) ∙ h
last_safe (Some now) (one ∷ acts) last h k = last_safe (next_open now one) acts last h.1 k

-- what is safe along the acts of a page is so behind the first act of all
rest_safe : (page : ℕ) (now next : Open) (own : Option Act) (acts : List Act) → next_by (its_world page now) own ≡ Some (its_world page next)
    → IsSafeAlong (Some (its_world page now)) (cons_option own acts) → IsSafeAlong (Some (its_world page next)) acts
rest_safe page now next None acts led h = subst (λ (o : Option Open). IsSafeAlong o acts) led h
rest_safe page now next (Some one) acts led h = subst (λ (o : Option Open). IsSafeAlong o acts) led h.1

along : (acts : List Act) (o : Option Open)
    → ((now : Open) → o ≡ Some now → (page : ℕ) → IsSafeAlong (Some (its_world page now)) (its_acts page o acts)) → IsSafeAlong o acts
along acts None h = tt
along [] (Some now) h = safe_whole now (h now refl)
along (one ∷ acts) (Some now) h =
    let safe = safe_whole now (λ page. first_safe (its_world page now) (its_acts page (Some now) (one ∷ acts)) (h now refl page)) in (
      safe,
      along acts (next_open now one) (λ next is page. rest_safe page now next (its_act page now one) (its_acts page (next_open now one) acts)
          (page_law page now next one safe is) (h now refl page)),
    )

pub runs_safe_apart : AreRunsSafeApart
runs_safe_apart now acts h =
    along acts (Some now)
    (λ next is page. subst (λ (w : Open). IsSafeAlong (Some (its_world page w)) (its_acts page (Some now) acts)) (same_Some _ _ is) (h page))

-- ---- always

-- what is safe whatever acts come is so along each list of them
always_along : (acts : List Act) (o : Option Open) → ((now : Open) → o ≡ Some now → IsAlwaysSafe now) → IsSafeAlong o acts
always_along acts None h = tt
always_along [] (Some now) h = h now refl [] now refl
always_along (one ∷ acts) (Some now) h = (
  h now refl [] now refl,
  always_along acts (next_open now one) (λ next is. λ others last k. h now refl (one ∷ others) last (ap (λ (o : Option Open). after o others) is ∙ k)),
)

pub always_safe_apart : AreAlwaysSafeApart
always_safe_apart now h = λ acts last k.
    last_safe (Some now) acts last (runs_safe_apart now acts (λ page. always_along (its_acts page (Some now) acts) (Some (its_world page now))
    (λ w is. subst IsAlwaysSafe (same_Some _ _ is) (h page)))) k
