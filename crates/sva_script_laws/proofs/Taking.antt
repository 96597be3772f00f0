-- A choice that is permitted: it is one that there is, and what its step comes to.
use Rattle.std.proofs.Common.{◌≡◌, ◌∙◌, ap, refl, sym, ℕ, Bool, true, false, Option, Some, None}
use Rattle.std.specs.Prelude.{◌||◌, if◌then◌else◌, is_ok, slice_get, slice_set}
use Rattle.std.proofs.lemmas.Option.{same_Some}
use Rattle.sva_step.specs.declared.steps.Step.{Step}
use Rattle.sva_labels.specs.Host.{next_of, reply_of}
use Rattle.sva_race_parts.specs.Devices.{left_of}
use Rattle.sva_race_parts.specs.Latest.{requested}
use Rattle.sva_race_texts.specs.declared.terms.choices.Act.{Act}
use Rattle.sva_race_texts.specs.declared.terms.choices.Act.TheVariants as act
use Rattle.sva_race_texts.specs.declared.terms.choices.Choice.{Choice}
use Rattle.sva_race_texts.specs.declared.terms.races.Line.{Line}
use Rattle.sva_race_texts.specs.declared.terms.races.Race.{Race}
use Rattle.sva_race.specs.Acts.{behind_act, behind_next, behind_paid, behind_step, does, is_there, next_in, own_step}
use Rattle.sva_race.specs.Counts.{counting, with_counts}
use Rattle.sva_race.specs.Leave.{behind_payment, is_paid_for, paid, paying}
use Rattle.sva_race.specs.Moments.{Moment, behind, behind_line, is_next, step_of_line}
use Rattle.sva_race.specs.Moves.{act_step, line_step}

-- the choice takes this step, which is allowed, and leads to the moment
pub record Takes (old : Moment) (may : Step → Bool) (step : Option Step) (next : Moment) : Type 0 where
  pub taken : Step
  pub is : step ≡ Some taken
  pub allowed : may taken ≡ true
  pub wire : next.wire ≡ next_of old.wire taken
  pub latest : next.latest ≡ requested old.latest (reply_of old.wire taken) taken

-- a line may also be refused; by an act of its own something is done
abbrev pub allows : Act → Moment → Step → Bool
allows act.Line old it = true
allows own old it = does own (reply_of old.wire it)

-- ---- An act of its own

-- what is paid for leaves what is kept, and the requests
abbrev as_paid : Bool → Act → (at : ℕ) → Moment → Moment
as_paid is_paid own at moment =
    if is_paid then record moment { left = slice_set moment.left at (paid own (left_of moment.left at)) } else moment

paid_wire : (is_paid : Bool) (own : Act) (at : ℕ) (moment : Moment) → (as_paid is_paid own at moment).wire ≡ moment.wire
paid_wire true own at moment = refl
paid_wire false own at moment = refl

paid_latest : (is_paid : Bool) (own : Act) (at : ℕ) (moment : Moment)
    → (as_paid is_paid own at moment).latest ≡ moment.latest
paid_latest true own at moment = refl
paid_latest false own at moment = refl

own_taken : (race : Race) (old next : Moment) (own : Act) (at : ℕ) (step : Option Step)
    → behind_paid race old own at step ≡ Some next
    → Takes old (λ it. does own (reply_of old.wire it)) step next
own_taken race old next own at None is = absurd (cc is)
own_taken race old next own at (Some it) is = by_done (does own (reply_of old.wire it)) refl is
  where
    by_done : (done : Bool) → does own (reply_of old.wire it) ≡ done
        → paying own at (counting race old (Some it) (if done then Some (behind old it) else None)) ≡ Some next
        → Takes old (λ s. does own (reply_of old.wire s)) (Some it) next
    by_done true does_so is =
        let mid = with_counts race (reply_of old.wire it) (behind old it) in
        let same = same_Some (behind_payment own at mid) next is in
        record {
          taken = it;
          is = refl;
          allowed = does_so;
          wire = sym (ap (λ (moment : Moment). moment.wire) same) ∙ paid_wire (is_paid_for own) own at mid;
          latest = sym (ap (λ (moment : Moment). moment.latest) same) ∙ paid_latest (is_paid_for own) own at mid;
        }
    by_done false does_so is = absurd (cc is)

-- ---- A line

tried_taken : (race : Race) (old next : Moment) (place : ℕ) (line : Line) (step : Option Step)
    → behind_step race old place line step ≡ Some next
    → Takes old (λ it. true) step next
tried_taken race old next place line None is = absurd (cc is)
tried_taken race old next place line (Some it) is = by_done (is_ok (reply_of old.wire it) || line.is_try) is
  where
    by_done : (done : Bool)
        → counting race old (Some it) (if done then Some (behind_line old place line it) else None) ≡ Some next
        → Takes old (λ s. true) (Some it) next
    by_done true is =
        let same = same_Some (with_counts race (reply_of old.wire it) (behind_line old place line it)) next is in
        record {
          taken = it;
          is = refl;
          allowed = refl;
          wire = sym (ap (λ (moment : Moment). moment.wire) same);
          latest = sym (ap (λ (moment : Moment). moment.latest) same);
        }
    by_done false is = absurd (cc is)

line_taken : (race : Race) (old next : Moment) (place : ℕ) (line : Option Line)
    → behind_next race old place line ≡ Some next
    → Takes old (λ it. true) (line_step race old line) next
line_taken race old next place None is = absurd (cc is)
line_taken race old next place (Some line) is = by_turn (is_next old place line) is
  where
    by_turn : (turn : Bool)
        → (if turn then behind_step race old place line (step_of_line race old line) else None) ≡ Some next
        → Takes old (λ it. true) (step_of_line race old line) next
    by_turn true is = tried_taken race old next place line (step_of_line race old line) is
    by_turn false is = absurd (cc is)

-- ---- A choice

act_taken : (race : Race) (old next : Moment) (own : Act) (at number : ℕ)
    → behind_act race old own at number ≡ Some next
    → Takes old (allows own old) (act_step race old own at number) next
act_taken race old next act.Line at number is = line_taken race old next number (slice_get race.lines.items number) is
act_taken race old next act.Deliver at number is = own_taken race old next act.Deliver at (own_step race old act.Deliver at number) is
act_taken race old next act.Pump at number is = own_taken race old next act.Pump at (own_step race old act.Pump at number) is
act_taken race old next act.Serve at number is = own_taken race old next act.Serve at (own_step race old act.Serve at number) is
act_taken race old next act.Take at number is = own_taken race old next act.Take at (own_step race old act.Take at number) is
act_taken race old next act.Succeed at number is = own_taken race old next act.Succeed at (own_step race old act.Succeed at number) is
act_taken race old next act.Invalidate at number is = own_taken race old next act.Invalidate at (own_step race old act.Invalidate at number) is
act_taken race old next act.Fail at number is = own_taken race old next act.Fail at (own_step race old act.Fail at number) is
act_taken race old next act.End at number is = own_taken race old next act.End at (own_step race old act.End at number) is
act_taken race old next act.Finish at number is = own_taken race old next act.Finish at (own_step race old act.Finish at number) is
act_taken race old next act.Quit at number is = own_taken race old next act.Quit at (own_step race old act.Quit at number) is
act_taken race old next act.Last at number is = own_taken race old next act.Last at (own_step race old act.Last at number) is
act_taken race old next act.Ask at number is = own_taken race old next act.Ask at (own_step race old act.Ask at number) is
act_taken race old next act.Use at number is = own_taken race old next act.Use at (own_step race old act.Use at number) is
act_taken race old next act.Evict at number is = own_taken race old next act.Evict at (own_step race old act.Evict at number) is
act_taken race old next act.Fault at number is = own_taken race old next act.Fault at (own_step race old act.Fault at number) is
act_taken race old next act.Again at number is = own_taken race old next act.Again at (own_step race old act.Again at number) is

pub choice_taken : (race : Race) (old next : Moment) (choice : Choice) → next_in race old choice ≡ Some next
    → (is_there race old choice ≡ true) × Takes old (allows choice.act old) (act_step race old choice.act choice.at choice.number) next
choice_taken race old next choice is = by_there (is_there race old choice) refl is
  where
    by_there : (there : Bool) → is_there race old choice ≡ there
        → (if there then behind_act race old choice.act choice.at choice.number else None) ≡ Some next
        → (is_there race old choice ≡ true) × Takes old (allows choice.act old) (act_step race old choice.act choice.at choice.number) next
    by_there true there is = (there, act_taken race old next choice.act choice.at choice.number is)
    by_there false there is = absurd (cc is)
