use Rattle.std.proofs.Common.{refl, ap}
use Rattle.std.specs.Prelude.{Ok}
use Rattle.sva_step.specs.declared.answers.Answer.{Answer}
use Rattle.sva_step.specs.declared.steps.Step.TheVariants as step
use Rattle.sva_core.specs.Books.{TokenCounts}
use Rattle.sva_fabric.specs.Tokens.{IsFault}
use Rattle.sva_fabric.proofs.Calls.{of_step, of_reply, fault_of, passed_on, passed_by}
use Rattle.sva_fabric.proofs.fabric.Fabric.begin.Goals as goal

pub answer-requires : goal.answer-requires
answer-requires g c = record { held = ap (λ (h : TokenCounts). h.uses) c.none-held.ensures }

pub returns-in_err-answer-clause-begun : goal.returns-in_err-answer-clause-begun
returns-in_err-answer-clause-begun g c = passed_by c.from_residual.result c.in_err-answer.field-0.0 _ c.from_residual.ensures

pub returns-in_err-answer-clause-fault : goal.returns-in_err-answer-clause-fault
returns-in_err-answer-clause-fault g c =
    passed_on c.from_residual.result c.in_err-answer.field-0.0
    (λ f. IsFault g.C.Ledgers.config c.args.port.now c.answer.new.port
    (step.BeginUse c.args.endpoint c.args.pasid c.args.page c.args.write) f)
    c.from_residual.ensures
    (fault_of g.C.Ledgers.config c.args.port.now c.answer.new.port c.in_err-answer.field-0.0 c.in_err-answer.ensures.fault refl)

pub unreachable-requires : goal.unreachable-requires
unreachable-requires g c = c.in_default.ensures.none c.in_ok-answer.ensures.suits

pub returns-clause-begun : goal.returns-clause-begun
returns-clause-begun g c = of_step (of_reply c.in_ok-answer.ensures.called (ap (λ (a : Answer). Ok a) c.in-Some.ensures.some)) refl
