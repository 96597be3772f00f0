use Rattle.std.proofs.Common.{◌∙◌, ◌++◌, ap, append-nil, sym}
use Rattle.sva_race.proofs.Doing.{done_next, none_done}
use Rattle.sva_race_reports.proofs.Moved.{before_next, none_before}
use Rattle.sva_race_reports.proofs.witnesses.put_before.Goals as goal

pub loop-place-init : goal.loop-place-init
loop-place-init c =
    let race = c.args.race.now in
    let out = c.args.out.now.items in record {
      done = c.in_ok-moment.ensures ∙ sym (none_done race);
      said = sym (append-nil out) ∙ ap (λ l. out ++ l) (sym (none_before race));
    }

pub loop-place-preserved : goal.loop-place-preserved
loop-place-preserved c =
    let race = c.args.race.now in
    let place = c.loop-place.place in record {
      done = done_next race c.loop-place.moment c.do_before.new.self place c.loop-place.invariant.done c.in_ok-step.ensures.moment;
      said = before_next race c.loop-place.moment place c.in_ok-step.step c.args.out.now.items c.loop-place.out.items c.put_step_if.new.out.items
          c.loop-place.invariant.done c.loop-place.invariant.said c.in_ok-step.ensures.step c.in_ok-put_step_if.ensures;
    }
