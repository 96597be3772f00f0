-- Each step of a witness has a line.
use Rattle.std.proofs.Common.{◌≡◌, ◌∙◌, ◌||◌, ap, refl, subst, sym, ℕ, zero, suc, Bool, true, false, List, [], ◌∷◌}
use Rattle.std.proofs.Common.{◌++◌, Option, Some, None, replicate}
use Rattle.std.specs.Prelude.{◌*◌, Ok, Err, min, slice_get, slice_set}
use Rattle.std.specs.List.{AllByRecursion}
use Rattle.sva_step.specs.declared.answers.Answer.{Answer}
use Rattle.sva_step.specs.declared.limits.Config.{Config}
use Rattle.sva_step.specs.declared.steps.Step.{Step}
use Rattle.sva_step.specs.declared.steps.Step.TheVariants as step
use Rattle.sva_step.specs.Limits
use Rattle.sva_model.specs.Claims.{Fits}
use Rattle.sva_model.specs.Steps.{Reply}
use Rattle.sva_model.specs.Wire.{Wire}
use Rattle.sva_labels.specs.Host.{first_wire, next_of, reply_of, run_of}
use Rattle.sva_grammar.specs.Laws.{HasLine}
use Rattle.sva_race_parts.specs.Latest.{group_in, latest_by, place_by, requested, sent, with_latest}
use Rattle.sva_race_texts.specs.declared.terms.choices.Choice.{Choice}
use Rattle.sva_race_parts.specs.declared.latest.Latest.{Latest}
use Rattle.sva_race_texts.specs.declared.terms.races.Line.{Line}
use Rattle.sva_race_texts.specs.declared.terms.races.Race.{Race}
use Rattle.sva_race.specs.Acts.{next_in}
use Rattle.sva_race.specs.Moments.{Moment, done, done_by, done_first, start_of, step_of_line}
use Rattle.sva_race.specs.Moves.{act_step, line_step, step_and, step_before, step_if, step_of, steps_before, steps_from}
use Rattle.sva_script_laws.specs.Witnesses.{steps_of}
use Rattle.sva_script_laws.proofs.Accepting.{stands}
use Rattle.sva_script_laws.proofs.OwnSteps.{AreRequests, Has, IsRequest, choice_has, line_has}
use Rattle.sva_script_laws.proofs.Taking.{choice_taken}

-- ---- The latest page requests, behind a step

set_requests : (latest : List (Option Latest)) (place : ℕ) (it : Option Latest) → IsRequest it → AreRequests latest
    → AreRequests (slice_set latest place it)
set_requests [] place it asks are = tt
set_requests (other ∷ others) zero it asks are = (asks, are.1)
set_requests (other ∷ others) (suc place) it asks are = (are.0, set_requests others place it asks are.1)

with_requests : (latest : List (Option Latest)) (place : Option ℕ) (it : Option Latest) → IsRequest it
    → AreRequests latest
    → AreRequests (with_latest latest place it)
with_requests latest None it asks are = are
with_requests latest (Some place) it asks are = set_requests latest place it asks are

latest_asks : (page : ℕ) (read write last : Bool) → (read || write) ≡ true → IsRequest (latest_by page read write last)
latest_asks page read write true asks = tt
latest_asks page read write false asks = asks

sent_requests : (latest : List (Option Latest)) (it : Step) (said : Answer) → HasLine it → AreRequests latest
    → AreRequests (sent latest it said)
sent_requests latest (step.Fault endpoint pasid page read write group last) said has are =
    with_requests latest (place_by endpoint (group_in said)) (latest_by page read write last) (latest_asks page read write last has.3) are
sent_requests latest _ said has are = are

requests_behind : (latest : List (Option Latest)) (said : Reply) (it : Step) → HasLine it → AreRequests latest
    → AreRequests (requested latest said it)
requests_behind latest (Ok said) it has are = sent_requests latest it said has are
requests_behind latest (Err why) it has are = are

no_requests : (count : ℕ) → AreRequests (replicate count None)
no_requests zero = tt
no_requests (suc count) = (tt, no_requests count)

-- ---- A moment behind some steps

record Behind (config : Config) (moment : Moment) : Type 0 where
  steps : List Step
  runs : run_of (first_wire config) steps ≡ moment.wire
  requests : AreRequests moment.latest

run_both : (wire : Wire) (one two : List Step) → run_of wire (one ++ two) ≡ run_of (run_of wire one) two
run_both wire [] two = refl
run_both wire (it ∷ one) two = run_both (next_of wire it) one two

-- a step more
one_more : (config : Config) (old next : Moment) (it : Step) → Behind config old → HasLine it
    → next.wire ≡ next_of old.wire it
    → next.latest ≡ requested old.latest (reply_of old.wire it) it → Behind config next
one_more config old next it behind has wire latest = record {
  steps = behind.steps ++ it ∷ [];
  runs = run_both (first_wire config) behind.steps (it ∷ []) ∙ ap (λ (kept : Wire). next_of kept it) behind.runs ∙ sym wire;
  requests = subst AreRequests (sym latest) (requests_behind old.latest (reply_of old.wire it) it has behind.requests);
}

here : (config : Config) (moment : Moment) → Fits config → Behind config moment → Has config moment
here config moment fits behind = record {
  fits = fits;
  stands = stands config behind.steps moment.wire fits behind.runs;
  requests = behind.requests;
}

-- ---- The steps of choices

choices_have : (race : Race) → Fits race.config → (moment : Moment) (choices : List Choice) → Behind race.config moment
    → AllByRecursion HasLine (steps_from race (Some moment) choices)
unfolding steps_from
choices_have race fits moment [] behind = tt
choices_have race fits moment (choice ∷ choices) behind =
    by_next (next_in race moment choice) refl (λ next after. choices_have race fits next choices after)
  where
    by_next : (found : Option Moment) → next_in race moment choice ≡ found
        → ((next : Moment) → Behind race.config next → AllByRecursion HasLine (steps_from race (Some next) choices))
        → AllByRecursion HasLine (step_and (step_of race moment choice) (steps_from race (next_in race moment choice) choices))
    by_next None is rest =
        subst (λ o. AllByRecursion HasLine (step_and (step_if (act_step race moment choice.act choice.at choice.number) o) (steps_from race o choices)))
        (sym is) tt
    by_next (Some next) is rest =
        let found = choice_taken race moment next choice is in
        let takes = found.1 in
        let has = choice_has race moment (here race.config moment fits behind) choice found.0 takes.taken takes.is takes.allowed in
        subst (λ o. AllByRecursion HasLine (step_and (step_if (act_step race moment choice.act choice.at choice.number) o) (steps_from race o choices)))
        (sym is)
        (subst (λ o. AllByRecursion HasLine (step_and o (steps_from race (Some next) choices))) (sym takes.is)
        (has, rest next (one_more race.config moment next takes.taken behind has takes.wire takes.latest)))

-- ---- The lines before the race

line_behind : (race : Race) (old : Moment) (place : ℕ) (line : Option Line) → Behind race.config old
    → Behind race.config (done race old place line) × AllByRecursion HasLine (step_and (line_step race old line) [])
line_behind race old place None behind = (behind, tt)
line_behind race old place (Some line) behind = by_step (step_of_line race old line) refl
  where
    by_step : (found : Option Step) → step_of_line race old line ≡ found
        → Behind race.config (done_by old place line found) × AllByRecursion HasLine (step_and found [])
    by_step None is = (behind, tt)
    by_step (Some it) is =
        let has = line_has race old (Some line) it is in
        (one_more race.config old (done_by old place line (Some it)) it behind has refl refl, (has, tt))

all_both : (first second : List Step) → AllByRecursion HasLine first → AllByRecursion HasLine second
    → AllByRecursion HasLine (first ++ second)
all_both [] second one other = other
all_both (it ∷ first) second one other = (one.0, all_both first second one.1 other)

lines_have : (race : Race) (count : ℕ)
    → Behind race.config (done_first race count) × AllByRecursion HasLine (steps_before race count)
unfolding steps_before done_first
lines_have race zero =
    (record { steps = []; runs = refl; requests = no_requests (min race.config.endpoints Limits.most_endpoints * Limits.groups) }, tt)
lines_have race (suc place) =
    let before = lines_have race place in
    let line = line_behind race (done_first race place) place (slice_get race.lines.items place) before.0 in
    (line.0, all_both (steps_before race place) (step_and (step_before race place) []) before.1 line.1)

-- ---- All steps

pub steps_have : (race : Race) (choices : List Choice) → Fits race.config
    → AllByRecursion HasLine (steps_of race choices)
steps_have race choices fits =
    let before = lines_have race race.before in
    all_both (steps_before race race.before) (steps_from race (Some (start_of race)) choices) before.1
    (choices_have race fits (start_of race) choices before.0)
