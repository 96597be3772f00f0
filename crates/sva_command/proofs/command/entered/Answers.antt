use Rattle.clap.specs.Words.{found_of, rows_of}
use Rattle.sva_command.proofs.ReadLemmas.{entered_chart, entered_explore, entered_judge, entered_storm, entered_trace}
use Rattle.sva_command.proofs.command.entered.Goals as goal

pub returns-in-Some-storm-default : goal.returns-in-Some-storm-default
returns-in-Some-storm-default c =
    let stage = c.in-Some-storm-default in
    entered_storm c.args.matches.now stage.field-0-0.now (rows_of (found_of stage.below.now)) c.turns.result stage.is-storm stage.ensures.name
    stage.ensures.rows c.turns.ensures

pub returns-in-Some-explore-default : goal.returns-in-Some-explore-default
returns-in-Some-explore-default c readable =
    let stage = c.in-Some-explore-default in
    entered_explore c.args.matches.now stage.field-0-0.now (rows_of (found_of stage.below.now)) c.most.result c.wants_whys.result
    c.is_given-in-Some-explore-default.result stage.is-explore stage.ensures.name stage.ensures.rows c.most.ensures c.wants_whys.ensures
    c.is_given-in-Some-explore-default.ensures

pub returns-in-Some-trace-default : goal.returns-in-Some-trace-default
returns-in-Some-trace-default c readable =
    let stage = c.in-Some-trace-default in
    entered_trace c.args.matches.now stage.field-0-0.now (rows_of (found_of stage.below.now)) c.is_given-in-Some-trace-default.result
    c.is_given-in-Some-trace-default-2.result stage.is-trace stage.ensures.name stage.ensures.rows c.is_given-in-Some-trace-default.ensures
    c.is_given-in-Some-trace-default-2.ensures

pub returns-in-Some-chart-default : goal.returns-in-Some-chart-default
returns-in-Some-chart-default c readable =
    let stage = c.in-Some-chart-default in
    entered_chart c.args.matches.now stage.field-0-0.now (rows_of (found_of stage.below.now)) c.is_given.result stage.is-chart stage.ensures.name
    stage.ensures.rows c.is_given.ensures

pub returns-in-Some-judge-default : goal.returns-in-Some-judge-default
returns-in-Some-judge-default c readable =
    let stage = c.in-Some-judge-default in
    entered_judge c.args.matches.now stage.field-0-0.now (rows_of (found_of stage.below.now)) c.is_given-in-Some-judge-default.result
    c.most-in-Some-judge-default.result c.is_given-in-Some-judge-default-2.result c.is_given-in-Some-judge-default-3.result
    c.beside_in.result stage.is-judge stage.ensures.name stage.ensures.rows
    c.is_given-in-Some-judge-default.ensures c.most-in-Some-judge-default.ensures c.is_given-in-Some-judge-default-2.ensures
    c.is_given-in-Some-judge-default-3.ensures c.beside_in.ensures
