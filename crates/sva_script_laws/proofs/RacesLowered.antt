-- Each permitted choice of a race takes a line, or lowers the measure.
use Rattle.std.proofs.Common.{◌≡◌, ◌<◌, ◌≤◌, ℕ, zero, suc, ◌+◌, ◌-◌, ◌^◌, Bool, true, false, List, [], ◌∷◌}
use Rattle.std.proofs.Common.{Option, Some, None, option_map, refl, ap, subst, arith}
use Rattle.std.proofs.lemmas.Bool.{and_parts, ltb-true, not-true}
use Rattle.std.proofs.lemmas.List.Sums.{sum_by-cons}
use Rattle.std.specs.Prelude.{⊤, cond, ◌||◌, not, nat_lt, if◌then◌else◌, count_by, is_ok, slice_get, slice_set, slice_index_or, sum_by}
use Rattle.sva_step.specs.declared.steps.Step.{Step}
use Rattle.sva_step.specs.declared.steps.Step.TheVariants as step
use Rattle.sva_step.specs.declared.steps.Verdict.{Verdict}
use Rattle.sva_step.specs.declared.steps.Verdict.TheVariants.{Success, Invalid, Failure}
use Rattle.sva_model.specs.Wire.{Wire, FlightWire, TranslationWire}
use Rattle.sva_labels.specs.Finding.{cached, device_of, flight_of, held_by, lowest_label, part_of, unit_of}
use Rattle.sva_labels.specs.Host.{next_of, reply_of}
use Rattle.sva_labels.specs.Outcomes.{label}
use Rattle.sva_race_parts.specs.Devices.{fault_by, fault_of_group, group_pasid, if_left, left_of, no_budget}
use Rattle.sva_race_parts.specs.Latest.{group_place, last_by, latest_at}
use Rattle.sva_race_parts.specs.declared.latest.Latest.{Latest}
use Rattle.sva_race_texts.specs.declared.terms.choices.Act.{Act}
use Rattle.sva_race_texts.specs.declared.terms.choices.Act.TheVariants as act
use Rattle.sva_race_texts.specs.declared.terms.choices.Choice.{Choice}
use Rattle.sva_race_texts.specs.declared.terms.devices.Budget.{Budget}
use Rattle.sva_race_texts.specs.declared.terms.races.Line.{Line}
use Rattle.sva_race_texts.specs.declared.terms.races.Race.{Race}
use Rattle.sva_race.specs.Acts.{behind_act, behind_next, behind_paid, behind_step, count_of, does, is_there, next_in, own_step, places_of, success_step}
use Rattle.sva_race.specs.Counts.{counting, with_counts}
use Rattle.sva_race.specs.Leave.{behind_payment, is_paid_for, paid, paying}
use Rattle.sva_race.specs.Moments.{Moment, behind, behind_line, is_free, is_next, step_of_line, was_taken}
use Rattle.sva_script_laws.specs.Ends.{EachActLowers, LinesAreTakenOnce, is_line, lines_left, measure}
use Rattle.sva_script_laws.specs.Weights.{budget_weight, wire_weight}
use Rattle.sva_script_laws.proofs.WeighedLists.{put_or}
use Rattle.sva_script_laws.proofs.DevicesWeighed as device
use Rattle.sva_script_laws.proofs.StepsWeighed as its
use Rattle.sva_script_laws.proofs.StepsWeighed.{taken}

-- ---- what an act costs: its budget pays for it

abbrev pub act_price : Act → ℕ
act_price act.Ask = 4
act_price act.Use = 2
act_price act.Fault = 12
act_price act.Again = 12
act_price own = 0

-- a step that an act is, if it does something, leaves less than so much
abbrev Lowers : Act → Wire → Option Step → Type 0
Lowers own wire None = ⊤
Lowers own wire (Some s) = does own (reply_of wire s) ≡ true → wire_weight (next_of wire s) < wire_weight wire + act_price own

-- less than what was there
less_still : (a b : ℕ) → a < b → a < b + 0
less_still a b h = omega (arith, h)

replies : (own : Act) (wire : Wire) (worker : ℕ) (verdict : Verdict) → act_price own ≡ 0 → Lowers own wire (Some (step.Reply worker verdict))
replies own wire worker verdict free done =
    let less = taken own (wire_weight wire) wire (step.Reply worker verdict)
    (λ passed so. its.reply_below wire worker verdict (held_by wire worker) refl passed.1) done in
    omega (arith, less)

succeeds : (wire : Wire) (worker : ℕ) → Lowers act.Succeed wire (Some (success_step wire worker))
succeeds wire worker = by_reply (is_ok (reply_of wire (step.Reply worker Success)))
  where
    by_reply : (b : Bool) → Lowers act.Succeed wire (Some (if b then step.Reply worker Success else step.Reply worker Invalid))
    by_reply true = replies act.Succeed wire worker Success refl
    by_reply false = replies act.Succeed wire worker Invalid refl

delivers : (wire : Wire) (number : ℕ) (o : Option FlightWire)
    → Lowers act.Deliver wire (option_map (λ (flight : FlightWire). step.Deliver flight.number) o)
delivers wire number None = tt
delivers wire number (Some flight) = λ done.
    let less = taken act.Deliver (wire_weight wire) wire (step.Deliver flight.number)
    (λ passed so. device.deliver_below wire flight.number (flight_of wire flight.number) refl passed) done in
    omega (arith, less)

asks : (wire : Wire) (endpoint pasid : ℕ) (o : Option ℕ) → Lowers act.Ask wire (option_map (λ page. step.Ask endpoint pasid page) o)
asks wire endpoint pasid None = tt
asks wire endpoint pasid (Some page) =
    taken act.Ask (wire_weight wire + 4) wire (step.Ask endpoint pasid page)
    (λ passed so. device.ask_below wire endpoint pasid page (label (lowest_label (device_of wire endpoint).tags)))

uses : (wire : Wire) (endpoint : ℕ) (write : Bool) (o : Option TranslationWire)
    → Lowers act.Use wire (option_map (λ (it : TranslationWire). step.BeginUse endpoint it.pasid it.page write) o)
uses wire endpoint write None = tt
uses wire endpoint write (Some it) =
    taken act.Use (wire_weight wire + 2) wire (step.BeginUse endpoint it.pasid it.page write)
    (λ passed so. device.begin_below wire endpoint (label (lowest_label (device_of wire endpoint).slots)) (cached (device_of wire endpoint) it.pasid it.page))

evicts : (wire : Wire) (endpoint : ℕ) (o : Option TranslationWire)
    → Lowers act.Evict wire (option_map (λ (it : TranslationWire). step.Evict endpoint it.pasid it.page) o)
evicts wire endpoint None = tt
evicts wire endpoint (Some it) = λ done.
    let less = taken act.Evict (wire_weight wire) wire (step.Evict endpoint it.pasid it.page)
    (λ passed so. device.evict_below wire endpoint it.pasid it.page passed.1) done in
    omega (arith, less)

faults : (own : Act) (wire : Wire) (endpoint pasid page : ℕ) (read write last : Bool) (group : Option ℕ) → act_price own ≡ 12
    → Lowers own wire (Some (step.Fault endpoint pasid page read write group last))
faults own wire endpoint pasid page read write last group price done =
    let less = taken own (wire_weight wire + 12) wire (step.Fault endpoint pasid page read write group last)
    (λ passed so. device.fault_below wire endpoint pasid page read write last group) done in
    omega (arith, less, price)

begins : (wire : Wire) (endpoint pasid manner : ℕ) (o : Option ℕ) → Lowers act.Fault wire (option_map (λ page. fault_by endpoint pasid page manner None) o)
begins wire endpoint pasid manner None = tt
begins wire endpoint pasid manner (Some page) = faults act.Fault wire endpoint pasid page _ _ _ None refl

goes_on : (wire : Wire) (endpoint index manner : ℕ) (pasid page : Option ℕ) → Lowers act.Again wire (fault_of_group endpoint index manner pasid page)
goes_on wire endpoint index manner None page = tt
goes_on wire endpoint index manner (Some pasid) None = tt
goes_on wire endpoint index manner (Some pasid) (Some page) = faults act.Again wire endpoint pasid page _ _ _ (Some index) refl

finishes_group : (wire : Wire) (endpoint index : ℕ) (pasid : Option ℕ) (o : Option Latest) → Lowers act.Last wire (last_by endpoint index pasid o)
finishes_group wire endpoint index None o = tt
finishes_group wire endpoint index (Some pasid) None = tt
finishes_group wire endpoint index (Some pasid) (Some it) = λ done.
    let less = taken act.Last (wire_weight wire) wire (step.Fault endpoint pasid it.page it.read it.write (Some index) true)
    (λ passed so. device.last_below wire endpoint pasid it.page index it.read it.write passed.1.1.1.1.0) done in
    omega (arith, less)

own_lowers : (race : Race) (moment : Moment) (own : Act) (at number : ℕ) → Lowers own moment.wire (own_step race moment own at number)
own_lowers race moment act.Line at number = tt
own_lowers race moment act.Deliver at number = delivers moment.wire number (slice_get moment.wire.in_flight number)
own_lowers race moment act.Pump at number = λ done.
    let less = taken act.Pump (wire_weight moment.wire) moment.wire (step.Pump at)
    (λ passed so. its.pump_below moment.wire at (unit_of moment.wire at).queue refl so) done in
    omega (arith, less)
own_lowers race moment act.Serve at number = λ done.
    let less = taken act.Serve (wire_weight moment.wire) moment.wire (step.Serve at)
    (λ passed so. its.serve_below moment.wire at (part_of moment.wire at).page_queue refl so) done in
    omega (arith, less)
own_lowers race moment act.Take at number = λ done.
    let less = taken act.Take (wire_weight moment.wire) moment.wire (step.Take at)
    (λ passed so. its.take_below moment.wire at moment.wire.jobs refl passed.1.1.0) done in
    omega (arith, less)
own_lowers race moment act.Succeed at number = succeeds moment.wire at
own_lowers race moment act.Invalidate at number = replies act.Invalidate moment.wire at Invalid refl
own_lowers race moment act.Fail at number = replies act.Fail moment.wire at Failure refl
own_lowers race moment act.End at number = λ done.
    let less = taken act.End (wire_weight moment.wire) moment.wire (step.EndUse at number)
    (λ passed so. device.end_below moment.wire at number passed.1) done in
    omega (arith, less)
own_lowers race moment act.Finish at number = λ done.
    let less = taken act.Finish (wire_weight moment.wire) moment.wire (step.Finish at (2 ^ number) 1)
    (λ passed so. device.finish_below moment.wire at (2 ^ number) passed.1.0) done in
    omega (arith, less)
own_lowers race moment act.Quit at number = λ done.
    let less = taken act.Quit (wire_weight moment.wire) moment.wire (step.Quit at (number + 1))
    (λ passed so. device.quit_below moment.wire at (number + 1) passed.1.0) done in
    omega (arith, less)
own_lowers race moment act.Last at number =
    finishes_group moment.wire at number (group_pasid moment.wire at number) (latest_at moment.latest (group_place at number))
own_lowers race moment act.Ask at number = asks moment.wire at _ _
own_lowers race moment act.Use at number = uses moment.wire at _ _
own_lowers race moment act.Evict at number = evicts moment.wire at _
own_lowers race moment act.Fault at number = begins moment.wire at _ _ _
own_lowers race moment act.Again at number = goes_on moment.wire at _ _ _ _

-- ---- budgets

some_left : (left many number : ℕ) → number < if_left left many → left - 1 + 1 ≡ left
some_left zero many number low = absurd (omega (arith, low))
some_left (suc left) many number low = omega arith

paid_less : (race : Race) (moment : Moment) (own : Act) (at number : ℕ) → number < count_of race moment own at → is_paid_for own ≡ true
    → budget_weight (paid own (left_of moment.left at)) + act_price own ≤ budget_weight (left_of moment.left at)
paid_less race moment act.Ask at number low is =
    let some = some_left (left_of moment.left at).asks _ number low in
    omega (arith, some)
paid_less race moment act.Use at number low is =
    let some = some_left (left_of moment.left at).uses _ number low in
    omega (arith, some)
paid_less race moment act.Fault at number low is =
    let some = some_left (left_of moment.left at).faults _ number low in
    omega (arith, some)
paid_less race moment act.Again at number low is =
    let some = some_left (left_of moment.left at).faults _ number low in
    omega (arith, some)
paid_less race moment own at number low is = absurd (cc)

unpaid : (own : Act) → is_paid_for own ≡ false → act_price own ≡ 0
unpaid act.Ask h = absurd (cc)
unpaid act.Use h = absurd (cc)
unpaid act.Fault h = absurd (cc)
unpaid act.Again h = absurd (cc)
unpaid own h = refl

-- what is left of the budgets, with what the act costs
payment : (race : Race) (moment after : Moment) (own : Act) (at number : ℕ) → number < count_of race moment own at → after.left ≡ moment.left
    → (sum_by budget_weight (behind_payment own at after).left + act_price own ≤ sum_by budget_weight moment.left)
    × (wire_weight (behind_payment own at after).wire ≡ wire_weight after.wire)
    × ((behind_payment own at after).taken ≡ after.taken)
payment race moment after own at number low same = by_paid (is_paid_for own) refl
  where
    lefts : sum_by budget_weight after.left ≡ sum_by budget_weight moment.left
    lefts = ap (sum_by budget_weight) same

    by_paid : (b : Bool) → is_paid_for own ≡ b
        → (sum_by budget_weight (if b then record after { left = slice_set after.left at (paid own (left_of after.left at)) } else after).left + act_price own
        ≤ sum_by budget_weight moment.left)
        × (wire_weight (if b then record after { left = slice_set after.left at (paid own (left_of after.left at)) } else after).wire ≡ wire_weight after.wire)
        × ((if b then record after { left = slice_set after.left at (paid own (left_of after.left at)) } else after).taken ≡ after.taken)
    by_paid true is =
        let less = paid_less race moment own at number low is in
        let put = put_or budget_weight moment.left at (paid own (left_of moment.left at)) no_budget refl in
        let its = ap (λ (left : List Budget). sum_by budget_weight (slice_set left at (paid own (left_of left at)))) same in
        (omega (arith, less, put, its), refl, refl)
    by_paid false is =
        let free = unpaid own is in
        (omega (arith, lefts, free), refl, refl)

-- ---- each choice that is no line

-- it lowers the measure, and takes no line
abbrev IsLower : Moment → Option Moment → Type 0
IsLower moment None = ⊤
IsLower moment (Some next) = (measure next < measure moment) × (lines_left next ≡ lines_left moment)

paid_lowers : (race : Race) (moment : Moment) (own : Act) (at number : ℕ) (o : Option Step) → number < count_of race moment own at
    → Lowers own moment.wire o → IsLower moment (behind_paid race moment own at o)
paid_lowers race moment own at number None low h = tt
paid_lowers race moment own at number (Some s) low h = by_done (does own (reply_of moment.wire s)) h
  where
    by_done : (b : Bool) → (b ≡ true → wire_weight (next_of moment.wire s) < wire_weight moment.wire + act_price own)
        → IsLower moment (paying own at (counting race moment (Some s) (if b then Some (behind moment s) else None)))
    by_done true less =
        let after = with_counts race (reply_of moment.wire s) (behind moment s) in
        let its = payment race moment after own at number low refl in
        let left = its.0 in
        let same = its.1 in
        let below = less refl in (
          omega (arith, left, same, below),
          ap (count_by not) its.2,
        )
    by_done false less = tt

act_lowers : (race : Race) (moment : Moment) (own : Act) (at number : ℕ) → is_line own ≡ false → number < count_of race moment own at
    → IsLower moment (behind_act race moment own at number)
act_lowers race moment act.Line at number no_line low = absurd (cc)
act_lowers race moment own at number no_line low =
    paid_lowers race moment own at number (own_step race moment own at number) low (own_lowers race moment own at number)

there_lowers : (race : Race) (moment : Moment) (choice : Choice) → is_line choice.act ≡ false → IsLower moment (next_in race moment choice)
there_lowers race moment choice no_line = by_there (is_there race moment choice) refl
  where
    by_there : (b : Bool) → is_there race moment choice ≡ b
        → IsLower moment (if b then behind_act race moment choice.act choice.at choice.number else None)
    by_there true is =
        let low = (and_parts (nat_lt choice.at (places_of race choice.act)) _ is).1 in
        act_lowers race moment choice.act choice.at choice.number no_line
        (ltb-true choice.number (count_of race moment choice.act choice.at) low)
    by_there false is = tt

pub each_act_lowers : EachActLowers
each_act_lowers race moment next choice no_line h =
    subst (λ (o : Option Moment). IsLower moment o) h (there_lowers race moment choice no_line)

-- ---- a line

-- one less is left
abbrev IsLess : Moment → Option Moment → Type 0
IsLess moment None = ⊤
IsLess moment (Some next) = lines_left next < lines_left moment

taken_less : (lines : List Bool) (place : ℕ) → slice_index_or lines place true ≡ false → count_by not (slice_set lines place true) < count_by not lines
taken_less [] place h = absurd (cc)
taken_less (one ∷ lines) zero h =
    let old = sum_by-cons (λ b. cond (not b) 1 0) one lines in
    let new = sum_by-cons (λ b. cond (not b) 1 0) true lines in
    let here : ◌≡◌ {A = ℕ} (cond (not one) 1 0) 1 = ap (λ b. cond (not b) 1 0) h in
    omega (arith, old, new, here)
taken_less (one ∷ lines) (suc place) h =
    let rest = taken_less lines place h in
    let old = sum_by-cons (λ b. cond (not b) 1 0) one lines in
    let new = sum_by-cons (λ b. cond (not b) 1 0) one (slice_set lines place true) in
    omega (arith, rest, old, new)

tried_less : (race : Race) (moment : Moment) (place : ℕ) (line : Line) (o : Option Step) → was_taken moment place ≡ false
    → IsLess moment (behind_step race moment place line o)
tried_less race moment place line None h = tt
tried_less race moment place line (Some s) h = by_done (is_ok (reply_of moment.wire s) || line.is_try)
  where
    by_done : (b : Bool) → IsLess moment (counting race moment (Some s) (if b then Some (behind_line moment place line s) else None))
    by_done true = taken_less moment.taken place h
    by_done false = tt

not_taken : (moment : Moment) (place : ℕ) (line : Line) → is_next moment place line ≡ true → was_taken moment place ≡ false
not_taken moment place line h = not-true (was_taken moment place) (and_parts (not (was_taken moment place)) (is_free moment line.after) h).0

line_less : (race : Race) (moment : Moment) (place : ℕ) (o : Option Line) → IsLess moment (behind_next race moment place o)
line_less race moment place None = tt
line_less race moment place (Some line) = by_turn (is_next moment place line) refl
  where
    by_turn : (b : Bool) → is_next moment place line ≡ b
        → IsLess moment (if b then behind_step race moment place line (step_of_line race moment line) else None)
    by_turn true is = tried_less race moment place line (step_of_line race moment line) (not_taken moment place line is)
    by_turn false is = tt

one_less : (race : Race) (moment : Moment) (own : Act) (at number : ℕ) → is_line own ≡ true → IsLess moment (behind_act race moment own at number)
one_less race moment act.Line at number h = line_less race moment number (slice_get race.lines.items number)
one_less race moment own at number h = absurd (cc)

pub lines_are_taken_once : LinesAreTakenOnce
lines_are_taken_once race moment next choice line h =
    subst (λ (o : Option Moment). IsLess moment o) h (by_there (is_there race moment choice))
  where
    by_there : (b : Bool) → IsLess moment (if b then behind_act race moment choice.act choice.at choice.number else None)
    by_there true = one_less race moment choice.act choice.at choice.number line
    by_there false = tt
