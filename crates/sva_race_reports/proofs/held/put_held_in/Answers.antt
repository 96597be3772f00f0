use Rattle.sva_race_reports.proofs.OwnSteps.{held_whole}
use Rattle.sva_race_reports.proofs.held.put_held_in.Goals as goal

pub returns : goal.returns
returns g c =
    held_whole g.E.Explains.explained c.args.race.now c.args.threads.now c.args.number c.args.choices.now c.args.out.now.items c.put_cases.new.out.items
    c.new-scenario.result.items c.put_scenario.new.out.items c.as_slice.result.now c.put_cases.result c.new-scenario.ensures.items c.in_ok-put_scenario.ensures
    c.as_slice.ensures.value c.put_cases.ensures
