use Rattle.std.proofs.Common.{is_some, ap, sym, subst}
use Rattle.sva_step.specs.declared.steps.Step.TheVariants.{Reply}
use Rattle.sva_fabric.specs.Asks.{IsAsked}
use Rattle.sva_fabric.specs.Jobs.{IsJobTurn}
use Rattle.sva_fabric.proofs.Ending.{asked_turn}
use Rattle.sva_fabric.proofs.Working.{job_asked}
use Rattle.sva_fabric.proofs.loops.paging.take_turn.Goals as goal

pub returns : goal.returns
returns g c =
    let line = Reply c.args.worker c.in-Some.verdict in
    let asked = subst (λ turn. IsAsked g.C.Ledgers.config line c.args.port.now c.step.new.port turn) (sym c.turn_of-ended.ensures)
    (asked_turn g.C.Ledgers.config line c.args.port.now c.step.new.port c.step.result c.step.ensures.answered c.step.ensures.kept c.step.ensures.err
    c.step.ensures.fault) in
    let held = is_some c.left_to_answer.result in
    subst (λ holds. IsJobTurn g.C.Ledgers.config c.args.worker c.args.port.now c.step.new.port holds held c.turn_of-ended.result)
    (ap is_some (sym c.in-Some.is))
    (job_asked g.C.Ledgers.config c.args.worker c.in-Some.verdict c.args.port.now c.step.new.port held c.turn_of-ended.result asked
    c.left_to_answer.ensures.left)
