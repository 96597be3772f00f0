use Rattle.std.proofs.Common.{rules, ◌≡◌, Some, subst, true}
use Rattle.sva_search.specs.Rules.{run_from}
use Rattle.sva_race.specs.Rules.{rules_of}
use Rattle.sva_race_reports.specs.WitnessEnds.{Leads}
use Rattle.sva_race_reports.proofs.Ended.{waits_there}
use Rattle.sva_race_reports.proofs.ends.put_all_waits.Goals as goal

pub returns-then-all : goal.returns-then-all
returns-then-all g c =
    let race = c.args.race.now in
    let choices = c.args.choices.now in
    let leads : c.in_ok-all.all ≡ true = search rules in
    waits_there race g.E.Explains.explained choices c.in_ok-moment.moment c.lead.new.moment c.args.out.now.items c.put_waits_at.new.out.items
    c.put_waits_at.result
    c.in_ok-moment.ensures
    (subst (λ b. Leads (run_from (rules_of race) (Some c.in_ok-moment.moment) choices) b c.lead.new.moment) leads c.in_ok-all.ensures)
    c.put_waits_at.ensures
