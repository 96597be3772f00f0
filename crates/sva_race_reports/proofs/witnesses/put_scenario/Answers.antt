use Rattle.sva_race_reports.proofs.Moved.{scenario_whole}
use Rattle.sva_race_reports.proofs.witnesses.put_scenario.Goals as goal

pub returns : goal.returns
returns c =
    scenario_whole c.args.race.now c.args.threads.now c.args.choices.now c.args.out.now.items c.put_front.new.out.items
    c.put_before.new.out.items c.put_moves.new.out.items c.in_ok-moment.moment c.put_moves.result c.in_ok-put_front.ensures
    c.in_ok-moment.ensures.start c.in_ok-moment.ensures.text c.put_moves.ensures
