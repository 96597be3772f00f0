use Rattle.std.proofs.Common.{◌≡◌, ap, rules, subst, sym, true, false}
use Rattle.std.proofs.lemmas.Result.{IfOk-weaker}
use Rattle.sva_driver_reports.specs.Judged.{Judges, Runs}
use Rattle.sva_program.specs.Run.{Rules, WhereKnown}
use Rattle.sva_program.proofs.RunLemmas.{caused, reported}
use Rattle.sva_program.proofs.run.rule.Goals as goal

pub returns-then-in_order-clause-ruled : goal.returns-then-in_order-clause-ruled
returns-then-in_order-clause-ruled g c =
    let input = g.R.Read.remaining c.args.reader.now.inner in
    let old = g.W.Write.contents c.args.writer.now.inner in
    let new = g.W.Write.contents c.run.new.writer.inner in
    let in_order : c.args.in_order ≡ true = search rules in
    subst (λ b. WhereKnown (λ text. Rules b c.args.wanted text old new c.run.result) input old new c.run.result) (sym in_order)
    (reported (λ text. Runs text old new c.run.result) input old new c.run.result c.run.ensures.run
    (λ read. ap (λ told. g.W.Write.contents told.inner) (c.run.ensures.read read).0))

pub returns-then-in_order-clause-cause : goal.returns-then-in_order-clause-cause
returns-then-in_order-clause-cause g c =
    let none = IfOk-weaker c.run.result _ _ (λ _ e. (e.0, e.2)) c.run.ensures.end in
    caused c.run.new.reader c.run.new.writer c.run.result none (λ read. (c.run.ensures.read read).1) c.run.ensures.write c.run.ensures.memory

pub returns-else-in_order-clause-ruled : goal.returns-else-in_order-clause-ruled
returns-else-in_order-clause-ruled g c =
    let input = g.R.Read.remaining c.args.reader.now.inner in
    let old = g.W.Write.contents c.args.writer.now.inner in
    let new = g.W.Write.contents c.judge.new.writer.inner in
    let in_order : c.args.in_order ≡ false = search rules in
    subst (λ b. WhereKnown (λ text. Rules b c.args.wanted text old new c.judge.result) input old new c.judge.result) (sym in_order)
    (reported (λ text. Judges text c.args.wanted old new c.judge.result) input old new c.judge.result c.judge.ensures.judged
    (λ read. ap (λ told. g.W.Write.contents told.inner) (c.judge.ensures.read read).0))

pub returns-else-in_order-clause-cause : goal.returns-else-in_order-clause-cause
returns-else-in_order-clause-cause g c =
    let none = IfOk-weaker c.judge.result _ _ (λ _ e. (e.0, e.2)) c.judge.ensures.end in
    caused c.judge.new.reader c.judge.new.writer c.judge.result none (λ read. (c.judge.ensures.read read).1) c.judge.ensures.write c.judge.ensures.memory
