use Rattle.std.proofs.Common.{◌≡◌, ap, rules, subst, sym, true, false}
use Rattle.std.proofs.lemmas.Result.{IfOk-weaker}
use Rattle.sva_charts.specs.Witnesses.{ChartsDriver}
use Rattle.sva_program.specs.Run.{RulesIf, WhereKnown}
use Rattle.sva_program.proofs.RunLemmas.{caused, reported}
use Rattle.sva_program.proofs.run.rule_by.Goals as goal

pub returns-then-is_chart-clause-ruled : goal.returns-then-is_chart-clause-ruled
returns-then-is_chart-clause-ruled g c =
    let input = g.R.Read.remaining c.args.reader.now.inner in
    let old = g.W.Write.contents c.args.writer.now.inner in
    let new = g.W.Write.contents c.chart_driver.new.writer.inner in
    let it : c.args.is_chart ≡ true = search rules in
    subst (λ b. WhereKnown (λ text. RulesIf b c.args.in_order c.args.question c.args.wanted text old new c.chart_driver.result) input old new c.chart_driver.result)
    (sym it)
    (reported (λ text. ChartsDriver text c.args.wanted.most old new c.chart_driver.result) input old new c.chart_driver.result
    c.chart_driver.ensures.charted (λ read. ap (λ told. g.W.Write.contents told.inner) (c.chart_driver.ensures.read read).0))

pub returns-then-is_chart-clause-cause : goal.returns-then-is_chart-clause-cause
returns-then-is_chart-clause-cause g c =
    let none = IfOk-weaker c.chart_driver.result _ _ (λ _ e. (e.0, e.2)) c.chart_driver.ensures.end in
    caused c.chart_driver.new.reader c.chart_driver.new.writer c.chart_driver.result none (λ read. (c.chart_driver.ensures.read read).1)
    c.chart_driver.ensures.write c.chart_driver.ensures.memory

pub returns-else-is_chart-clause-ruled : goal.returns-else-is_chart-clause-ruled
returns-else-is_chart-clause-ruled g c =
    let input = g.R.Read.remaining c.args.reader.now.inner in
    let old = g.W.Write.contents c.args.writer.now.inner in
    let new = g.W.Write.contents c.rule_of.new.writer.inner in
    let it : c.args.is_chart ≡ false = search rules in
    subst (λ b. WhereKnown (λ text. RulesIf b c.args.in_order c.args.question c.args.wanted text old new c.rule_of.result) input old new c.rule_of.result)
    (sym it)
    c.rule_of.ensures.ruled
