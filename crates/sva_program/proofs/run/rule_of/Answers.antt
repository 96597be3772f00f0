use Rattle.std.proofs.Common.{ap, subst, sym}
use Rattle.std.proofs.lemmas.Result.{IfOk-weaker}
use Rattle.sva_program.specs.Run.{RulesOf, WhereKnown}
use Rattle.sva_program.proofs.RunLemmas.{caused, reported}
use Rattle.sva_variants.specs.Questions.{TellsVaried}
use Rattle.sva_program.proofs.run.rule_of.Goals as goal

pub returns-in-Some-clause-ruled : goal.returns-in-Some-clause-ruled
returns-in-Some-clause-ruled g c =
    let input = g.R.Read.remaining c.args.reader.now.inner in
    let old = g.W.Write.contents c.args.writer.now.inner in
    let new = g.W.Write.contents c.vary.new.writer.inner in
    subst (λ q. WhereKnown (λ text. RulesOf c.args.in_order q c.args.wanted text old new c.vary.result) input old new c.vary.result)
    (sym c.in-Some.is)
    (reported (λ text. TellsVaried c.in-Some.question text c.args.wanted.most old new c.vary.result) input old new c.vary.result
    c.vary.ensures.varied (λ read. ap (λ told. g.W.Write.contents told.inner) (c.vary.ensures.read read).0))

pub returns-in-Some-clause-cause : goal.returns-in-Some-clause-cause
returns-in-Some-clause-cause g c =
    let none = IfOk-weaker c.vary.result _ _ (λ _ e. (e.0, e.2)) c.vary.ensures.end in
    caused c.vary.new.reader c.vary.new.writer c.vary.result none (λ read. (c.vary.ensures.read read).1) c.vary.ensures.write
    c.vary.ensures.memory
