use Rattle.std.proofs.Common.{IfSome, subst}
use Rattle.std.proofs.lemmas.List.Elements.{All-pop}
use Rattle.sva_several.specs.Sharing.{AreAnswers}
use Rattle.sva_several.proofs.Slots.{none_made}
use Rattle.sva_several.proofs.working.begin_all.Goals as goal

pub loop-answers-init : goal.loop-answers-init
loop-answers-init g c = record {
  parts = c.in_ok-parts.ensures;
  slots = none_made c.args.search c.args.jobs c.args.texts.now c.in_ok-slots.slots.items c.in_ok-slots.ensures;
}

pub put_all-requires-clause-answers : goal.put_all-requires-clause-answers
put_all-requires-clause-answers g c =
    let Are = AreAnswers c.args.search c.args.jobs c.args.texts.now in
    let popped = All-pop Are _ _ c.pop.result c.pop.ensures.items c.loop-answers.invariant.parts in
    subst (λ one. IfSome one Are) c.in-Some.is popped.1
