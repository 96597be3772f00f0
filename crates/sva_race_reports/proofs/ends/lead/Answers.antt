use Rattle.std.proofs.Common.{subst}
use Rattle.std.proofs.lemmas.Option.{get_or_from_slice_get}
use Rattle.sva_race.specs.Moves.{Moves}
use Rattle.sva_race_reports.proofs.Ended.{lead_end, lead_next, lead_stop}
use Rattle.sva_race_reports.proofs.ends.lead.Goals as goal

pub returns-in-None : goal.returns-in-None
returns-in-None c =
    let race = c.args.race.now in
    let choices = c.args.choices.now in
    let choice = c.choice_at-choice.result in
    lead_stop race c.loop-place.moment c.take.new.self choices c.loop-place.place choice _
    c.loop-place-test.true (get_or_from_slice_get choices c.loop-place.place choice choice c.choice_at-choice.ensures)
    (subst (λ o. Moves race c.loop-place.moment choice o c.take.new.self) c.in-None.is c.in_ok-step.ensures) c.loop-place.invariant

pub loop-place-preserved : goal.loop-place-preserved
loop-place-preserved c =
    let race = c.args.race.now in
    let choices = c.args.choices.now in
    let choice = c.choice_at-choice.result in
    lead_next race c.loop-place.moment c.take.new.self choices c.loop-place.place choice c.in-Some.step _
    c.loop-place-test.true (get_or_from_slice_get choices c.loop-place.place choice choice c.choice_at-choice.ensures)
    (subst (λ o. Moves race c.loop-place.moment choice o c.take.new.self) c.in-Some.is c.in_ok-step.ensures) c.loop-place.invariant

pub returns : goal.returns
returns c =
    lead_end c.args.race.now c.loop-place.moment c.args.choices.now c.loop-place.place _ c.loop-place-test.false c.loop-place.invariant
