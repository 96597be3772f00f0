use Rattle.std.proofs.Common.{IfSome, subst}
use Rattle.std.proofs.lemmas.List.Elements.{All-pop}
use Rattle.sva_several.specs.Sharing.{IsAnswer}
use Rattle.sva_several.proofs.working.put_all.Goals as goal

pub put_one-requires-clause-answer : goal.put_one-requires-clause-answer
put_one-requires-clause-answer c =
    let Is = IsAnswer c.args.search c.args.jobs c.args.texts.now in
    let popped = All-pop Is _ _ c.pop.result c.pop.ensures.items c.loop-answer.invariant.answers in
    subst (λ one. IfSome one Is) c.in-Some.is popped.1

pub loop-answer-preserved : goal.loop-answer-preserved
loop-answer-preserved c =
    let popped = All-pop (IsAnswer c.args.search c.args.jobs c.args.texts.now) _ _ c.pop.result c.pop.ensures.items c.loop-answer.invariant.answers in
    record { answers = popped.0; slots = c.put_one.ensures }
