-- A step that a choice takes has a line.
use Rattle.std.proofs.Common.{◌≡◌, ◌∙◌, ◌<◌, ◌≤◌, ◌+◌, ◌*◌, ◌/◌, ◌%◌, ◌^◌, ◌==◌, ◌||◌, not, ap, arith, refl}
use Rattle.std.proofs.Common.{subst, ℕ, zero, suc, Bool, true, false, List, [], ◌∷◌}
use Rattle.std.proofs.Common.{Option, Some, None, IfSome}
use Rattle.std.specs.Prelude.{if◌then◌else◌, is_ok, nat_lt, option_map, slice_get, slice_index_or}
use Rattle.std.proofs.lemmas.Bool.{and_parts, eqb-true, ltb-true}
use Rattle.std.proofs.lemmas.Nat.{mod_below, pow_below}
use Rattle.std.proofs.lemmas.Option.{same_Some}
use Rattle.sva_step.specs.declared.limits.Config.{Config}
use Rattle.sva_step.specs.declared.steps.Step.{Step}
use Rattle.sva_step.specs.declared.steps.Step.TheVariants as step
use Rattle.sva_step.specs.declared.steps.Verdict.TheVariants.{Success, Invalid, Failure}
use Rattle.sva_model.specs.Claims.{Fits}
use Rattle.sva_model.specs.Wire.{FlightWire, TranslationWire, Wire}
use Rattle.sva_labels.specs.Host.{reply_of}
use Rattle.sva_grammar.specs.Laws.{HasLine}
use Rattle.sva_race_parts.specs.Devices.{cached_at, fault_by, fault_of_group}
use Rattle.sva_race_parts.specs.Devices.{group_pasid, manners, pasid_in}
use Rattle.sva_race_parts.specs.Latest.{group_place, last_by, latest_at}
use Rattle.sva_race_texts.specs.declared.terms.choices.Act.{Act}
use Rattle.sva_race_texts.specs.declared.terms.choices.Act.TheVariants as act
use Rattle.sva_race_texts.specs.declared.terms.choices.Choice.{Choice}
use Rattle.sva_race_parts.specs.declared.latest.Latest.{Latest}
use Rattle.sva_race_texts.specs.declared.terms.races.Line.{Line}
use Rattle.sva_race_texts.specs.declared.terms.races.Race.{Race}
use Rattle.sva_race.specs.Acts.{answering, count_of, is_there, places_of, success_step}
use Rattle.sva_race.specs.Leave.{device_pages}
use Rattle.sva_race.specs.Moments.{Moment, known_in}
use Rattle.sva_race.specs.Moves.{act_step, line_step}
use Rattle.sva_script_laws.proofs.Accepting.{Stands, ask_low, evict_low, fault_low, use_low}
use Rattle.sva_script_laws.proofs.StepNumbers.{text_has}
use Rattle.sva_script_laws.proofs.Taking.{allows}

-- ---- The latest page requests

-- each asks for something
abbrev pub IsRequest : Option Latest → Type 0
IsRequest it = IfSome it (λ (latest : Latest). (latest.read || latest.write) ≡ true)

abbrev pub AreRequests : List (Option Latest) → Type 0
AreRequests [] = Unit {0}
AreRequests (it ∷ others) = IsRequest it × AreRequests others

request_at : (latest : List (Option Latest)) (place : ℕ) → AreRequests latest
    → IsRequest (slice_index_or latest place None)
request_at [] place are = tt
request_at (it ∷ others) zero are = are.0
request_at (it ∷ others) (suc place) are = request_at others place are.1

request_of : (latest : List (Option Latest)) (place : Option ℕ) → AreRequests latest
    → IsRequest (latest_at latest place)
request_of latest None are = tt
request_of latest (Some place) are = request_at latest place are

-- ---- What a moment has, of which a step is taken

pub record Has (config : Config) (moment : Moment) : Type 0 where
  pub fits : Fits config
  pub stands : Stands moment.wire
  pub requests : AreRequests moment.latest

-- ---- Numbers

endpoint_low : (config : Config) → Fits config → (at : ℕ) → at < config.endpoints → at < 2 ^ 64
endpoint_low config fits at low = let most = fits.most_endpoints in omega (arith, most)

worker_low : (config : Config) → Fits config → (at : ℕ) → at < config.workers → at < 2 ^ 64
worker_low config fits at low = let most = fits.most_workers in omega (arith, most)

answering_low : (race : Race) → Fits race.config → (given : Bool) (at : ℕ) → at < answering race given → at < 2 ^ 64
answering_low race fits true at low = worker_low race.config fits at low
answering_low race fits false at low = let none : at < 0 = low in absurd (omega (arith, none))

few : (number most : ℕ) → most ≤ 64 → number < most → number + 1 < 2 ^ 64
few number most small low = omega arith

group_low : (number : ℕ) → number % 32 < 2 ^ 64
group_low number = let low = mod_below number 32 (omega arith) in omega (arith, low)

-- one of the bits R and W is asked in each manner
asks_some : (manner : ℕ) → (not (manner == 1) || not (manner == 0)) ≡ true
asks_some manner = by_one (manner == 1) refl
  where
    by_one : (one : Bool) → (manner == 1) ≡ one → (not (manner == 1) || not (manner == 0)) ≡ true
    by_one true is = ap (λ m. not (m == 1) || not (m == 0)) (eqb-true manner 1 is)
    by_one false is = ap (λ t. not t || not (manner == 0)) is

-- ---- Steps of an act of its own, by what they are taken from

deliver_has : (wire : Wire) → Stands wire → (number : ℕ) (found : Option FlightWire)
    → slice_get wire.in_flight number ≡ found → (it : Step)
    → option_map (λ (flight : FlightWire). step.Deliver flight.number) found ≡ Some it → HasLine it
deliver_has wire here number None at it is = absurd (cc is)
deliver_has wire here number (Some flight) at it is =
    let low = here.sound.message_low number flight at in
    let end = here.sound.messages_end in
    let small : flight.number < 2 ^ 64 = omega (arith, low, end) in
    subst HasLine (same_Some (step.Deliver flight.number) it is) small

success_has : (wire : Wire) (at : ℕ) → at < 2 ^ 64 → HasLine (success_step wire at)
success_has wire at low = by_test (is_ok (reply_of wire (step.Reply at Success)))
  where
    by_test : (test : Bool) → HasLine (if test then step.Reply at Success else step.Reply at Invalid)
    by_test true = low
    by_test false = low

last_has : (wire : Wire) → Stands wire → (at number : ℕ) → at < 2 ^ 64 → number < 2 ^ 64
    → (pasid : Option ℕ) (latest : Option Latest) → IsRequest latest
    → (it : Step) → last_by at number pasid latest ≡ Some it → is_ok (reply_of wire it) ≡ true → HasLine it
last_has wire here at number low small None latest asks it is ok = absurd (cc is)
last_has wire here at number low small (Some pasid) None asks it is ok = absurd (cc is)
last_has wire here at number low small (Some pasid) (Some latest) asks it is ok =
    let same = same_Some (step.Fault at pasid latest.page latest.read latest.write (Some number) true) it is in
    let own = fault_low wire here at pasid latest.page latest.read latest.write (Some number) true
    (ap (λ s. is_ok (reply_of wire s)) same ∙ ok) in
    subst HasLine same (low, own.0, own.1, asks, small)

-- a page request in some manner
manner_has : (wire : Wire) → Stands wire → (at pasid page manner : ℕ) (group : Option ℕ) → at < 2 ^ 64
    → IfSome group (λ index. index < 2 ^ 64) → (it : Step)
    → fault_by at pasid page manner group ≡ it → is_ok (reply_of wire it) ≡ true → HasLine it
manner_has wire here at pasid page manner group low small it same ok =
    let own = fault_low wire here at pasid page (not (manner / 2 == 1)) (not (manner / 2 == 0)) group (manner % 2 == 1)
    (ap (λ s. is_ok (reply_of wire s)) same ∙ ok) in
    subst HasLine same (low, own.0, own.1, asks_some (manner / 2), small)

ask_has : (wire : Wire) → Stands wire → (at number : ℕ) → at < 2 ^ 64 → (page : Option ℕ) (it : Step)
    → option_map (λ page. step.Ask at (pasid_in number) page) page ≡ Some it → is_ok (reply_of wire it) ≡ true
    → HasLine it
ask_has wire here at number low None it is ok = absurd (cc is)
ask_has wire here at number low (Some page) it is ok =
    let same = same_Some (step.Ask at (pasid_in number) page) it is in
    let own = ask_low wire here at (pasid_in number) page (ap (λ s. is_ok (reply_of wire s)) same ∙ ok) in
    subst HasLine same (low, own.0, own.1)

use_has : (wire : Wire) → Stands wire → (at : ℕ) (write : Bool) → at < 2 ^ 64
    → (found : Option TranslationWire) (it : Step)
    → option_map (λ (kept : TranslationWire). step.BeginUse at kept.pasid kept.page write) found ≡ Some it
    → is_ok (reply_of wire it) ≡ true
    → HasLine it
use_has wire here at write low None it is ok = absurd (cc is)
use_has wire here at write low (Some kept) it is ok =
    let same = same_Some (step.BeginUse at kept.pasid kept.page write) it is in
    let own = use_low wire here at kept.pasid kept.page write (ap (λ s. is_ok (reply_of wire s)) same ∙ ok) in
    subst HasLine same (low, own.0, own.1)

evict_has : (wire : Wire) → Stands wire → (at : ℕ) → at < 2 ^ 64 → (found : Option TranslationWire) (it : Step)
    → option_map (λ (kept : TranslationWire). step.Evict at kept.pasid kept.page) found ≡ Some it
    → is_ok (reply_of wire it) ≡ true → HasLine it
evict_has wire here at low None it is ok = absurd (cc is)
evict_has wire here at low (Some kept) it is ok =
    let same = same_Some (step.Evict at kept.pasid kept.page) it is in
    let own = evict_low wire here at kept.pasid kept.page (ap (λ s. is_ok (reply_of wire s)) same ∙ ok) in
    subst HasLine same (low, own.0, own.1)

fault_has : (wire : Wire) → Stands wire → (at number manner : ℕ) → at < 2 ^ 64 → (page : Option ℕ) (it : Step)
    → option_map (λ page. fault_by at (pasid_in number) page manner None) page ≡ Some it
    → is_ok (reply_of wire it) ≡ true → HasLine it
fault_has wire here at number manner low None it is ok = absurd (cc is)
fault_has wire here at number manner low (Some page) it is ok =
    manner_has wire here at (pasid_in number) page manner None low tt it (same_Some (fault_by at (pasid_in number) page manner None) it is) ok

again_has : (wire : Wire) → Stands wire → (at index manner : ℕ) → at < 2 ^ 64 → index < 2 ^ 64
    → (pasid page : Option ℕ) (it : Step)
    → fault_of_group at index manner pasid page ≡ Some it → is_ok (reply_of wire it) ≡ true → HasLine it
again_has wire here at index manner low small None page it is ok = absurd (cc is)
again_has wire here at index manner low small (Some pasid) None it is ok = absurd (cc is)
again_has wire here at index manner low small (Some pasid) (Some page) it is ok =
    manner_has wire here at pasid page manner (Some index) low small it (same_Some (fault_by at pasid page manner (Some index)) it is) ok

-- ---- The step of a line

pub line_has : (race : Race) (moment : Moment) (line : Option Line) (it : Step) → line_step race moment line ≡ Some it
    → HasLine it
line_has race moment None it is = absurd (cc is)
line_has race moment (Some line) it is = text_has (known_in race moment) moment.wire line.text.items it is

-- ---- The step of a choice

act_has : (race : Race) (moment : Moment) → Has race.config moment → (own : Act) (at number : ℕ)
    → at < places_of race own
    → number < count_of race moment own at → (it : Step) → act_step race moment own at number ≡ Some it
    → allows own moment it ≡ true → HasLine it
act_has race moment has act.Line at number low there it is ok = line_has race moment (slice_get race.lines.items number) it is
act_has race moment has act.Deliver at number low there it is ok =
    deliver_has moment.wire has.stands number (slice_get moment.wire.in_flight number) refl it is
act_has race moment has act.Pump at number low there it is ok =
    subst HasLine (same_Some (step.Pump at) it is) (endpoint_low race.config has.fits at low)
act_has race moment has act.Serve at number low there it is ok =
    subst HasLine (same_Some (step.Serve at) it is) (endpoint_low race.config has.fits at low)
act_has race moment has act.Take at number low there it is ok =
    subst HasLine (same_Some (step.Take at) it is) (worker_low race.config has.fits at low)
act_has race moment has act.Succeed at number low there it is ok =
    subst HasLine (same_Some (success_step moment.wire at) it is)
    (success_has moment.wire at (answering_low race has.fits race.verdicts.success at low))
act_has race moment has act.Invalidate at number low there it is ok =
    subst HasLine (same_Some (step.Reply at Invalid) it is) (answering_low race has.fits race.verdicts.invalid at low)
act_has race moment has act.Fail at number low there it is ok =
    subst HasLine (same_Some (step.Reply at Failure) it is) (answering_low race has.fits race.verdicts.failure at low)
act_has race moment has act.End at number low there it is ok =
    let within : number < 16 = there in
    let small : number < 2 ^ 64 = omega (arith, within) in
    subst HasLine (same_Some (step.EndUse at number) it is) (endpoint_low race.config has.fits at low, small)
act_has race moment has act.Finish at number low there it is ok =
    let one : 1 < 2 ^ 64 = omega arith in
    subst HasLine (same_Some (step.Finish at (2 ^ number) 1) it is) (endpoint_low race.config has.fits at low, pow_below number 32 there, one)
act_has race moment has act.Quit at number low there it is ok =
    let most : 32 ≤ 64 = omega arith in
    subst HasLine (same_Some (step.Quit at (number + 1)) it is) (endpoint_low race.config has.fits at low, few number 32 most there)
act_has race moment has act.Last at number low there it is ok =
    let within : number < 32 = there in
    let small : number < 2 ^ 64 = omega (arith, within) in
    last_has moment.wire has.stands at number (endpoint_low race.config has.fits at low) small (group_pasid moment.wire at number)
    (latest_at moment.latest (group_place at number)) (request_of moment.latest (group_place at number) has.requests) it is ok
act_has race moment has act.Ask at number low there it is ok =
    ask_has moment.wire has.stands at number (endpoint_low race.config has.fits at low) (slice_get (device_pages race at) (number / 32)) it is ok
act_has race moment has act.Use at number low there it is ok =
    use_has moment.wire has.stands at (number % 2 == 1) (endpoint_low race.config has.fits at low)
    (slice_get (cached_at moment.wire at) (number / 2)) it is ok
act_has race moment has act.Evict at number low there it is ok =
    evict_has moment.wire has.stands at (endpoint_low race.config has.fits at low) (slice_get (cached_at moment.wire at) number) it is ok
act_has race moment has act.Fault at number low there it is ok =
    fault_has moment.wire has.stands at number (number / 32 % manners) (endpoint_low race.config has.fits at low)
    (slice_get (device_pages race at) (number / (32 * manners))) it is ok
act_has race moment has act.Again at number low there it is ok =
    again_has moment.wire has.stands at (number % 32) (number / 32 % manners) (endpoint_low race.config has.fits at low) (group_low number)
    (group_pasid moment.wire at (number % 32)) (slice_get (device_pages race at) (number / (32 * manners))) it is ok

pub choice_has : (race : Race) (moment : Moment) → Has race.config moment → (choice : Choice)
    → is_there race moment choice ≡ true → (it : Step)
    → act_step race moment choice.act choice.at choice.number ≡ Some it → allows choice.act moment it ≡ true
    → HasLine it
choice_has race moment has choice there it is ok =
    let parts = and_parts (nat_lt choice.at (places_of race choice.act))
    (nat_lt choice.number (count_of race moment choice.act choice.at)) there in
    act_has race moment has choice.act choice.at choice.number
    (ltb-true choice.at (places_of race choice.act) parts.0)
    (ltb-true choice.number (count_of race moment choice.act choice.at) parts.1) it is ok
