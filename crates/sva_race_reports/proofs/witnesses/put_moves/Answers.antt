use Rattle.std.proofs.Common.{subst}
use Rattle.std.proofs.lemmas.Option.{get_or_from_slice_get}
use Rattle.sva_race.specs.Moves.{Moves}
use Rattle.sva_race_reports.proofs.Moved.{move_next, move_stop, moves_end}
use Rattle.sva_race_reports.proofs.witnesses.put_moves.Goals as goal

pub returns-in-None : goal.returns-in-None
returns-in-None c =
    let race = c.args.race.now in
    let choices = c.args.choices.now in
    let choice = c.choice_at-choice.result in
    move_stop race c.args.threads.now c.loop-place.moment c.take.new.self choices c.loop-place.place choice c.loop-place.out.items _
    c.loop-place-test.true (get_or_from_slice_get choices c.loop-place.place choice choice c.choice_at-choice.ensures)
    (subst (λ o. Moves race c.loop-place.moment choice o c.take.new.self) c.in-None.is c.in_ok-step.ensures) c.loop-place.invariant

pub loop-place-preserved : goal.loop-place-preserved
loop-place-preserved c =
    let race = c.args.race.now in
    let choices = c.args.choices.now in
    let choice = c.choice_at-choice.result in
    move_next race c.args.threads.now c.loop-place.moment c.take.new.self choices c.loop-place.place choice c.in-Some.step
    c.loop-place.out.items c.put_move.new.out.items _ c.loop-place-test.true
    (get_or_from_slice_get choices c.loop-place.place choice choice c.choice_at-choice.ensures)
    (subst (λ o. Moves race c.loop-place.moment choice o c.take.new.self) c.in-Some.is c.in_ok-step.ensures) c.loop-place.invariant
    c.in_ok-put_move-in-Some.ensures

pub returns : goal.returns
returns c =
    moves_end c.args.race.now c.args.threads.now c.loop-place.moment c.args.choices.now c.loop-place.place c.loop-place.out.items _ c.loop-place-test.false
    c.loop-place.invariant
