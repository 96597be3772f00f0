use Rattle.sva_grammar.specs.Grammar.{scenario_of}
use Rattle.sva_scenario.proofs.StormReportLemmas.{judged_fault}
use Rattle.sva_scenario.proofs.storm_reports.judge.Goals as goal

pub returns-in_err-scenario-clause-judged : goal.returns-in_err-scenario-clause-judged
returns-in_err-scenario-clause-judged g c =
    judged_fault (scenario_of c.args.text.now) _ _ c.in_err-scenario.field-0.0 c.from_residual.result
    c.in_err-scenario.ensures.handed c.from_residual.ensures.1
