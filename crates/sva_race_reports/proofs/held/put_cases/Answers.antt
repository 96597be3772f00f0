use Rattle.sva_race_reports.proofs.OwnSteps.{cases_whole}
use Rattle.sva_race_reports.proofs.held.put_cases.Goals as goal

pub returns : goal.returns
returns g c =
    cases_whole g.E.Explains.explained c.args.number c.args.scenario.now c.args.out.now.items c.put_held_below.new.out.items c.why.new.out.items
    c.as_slice.result.now _ c.put_held_below.result c.as_slice.ensures.value c.in_ok-why.ensures c.put_held_below.ensures
