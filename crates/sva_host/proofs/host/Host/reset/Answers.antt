use Rattle.sva_step.specs.declared.steps.Step.TheVariants as step
use Rattle.sva_host_state.proofs.Devices.{went}
use Rattle.sva_host.specs.Inner.{wire_of}
use Rattle.sva_host.proofs.Hosting.{refused_still}
use Rattle.sva_host.proofs.Resetting.{reset_refused, reset_done, reset_still}
use Rattle.sva_host.proofs.host.Host.reset.Goals as goal

pub invariant_of-self : goal.invariant_of-self
invariant_of-self c = refused_still c.self.inside _ (step.Reset c.args.endpoint) _ c.self.invariant c.in_err-answer.ensures

pub returns-in_err-answer : goal.returns-in_err-answer
returns-in_err-answer c =
    went (wire_of c.self.inside) _ _ (step.Reset c.args.endpoint) _ _ c.self.view_is c.from_residual.ensures
    (reset_refused c.self.inside c.args.endpoint _ _ c.in_err-answer.ensures)

pub invariant_of-self-2 : goal.invariant_of-self-2
invariant_of-self-2 c = reset_still c.self.inside c.args.endpoint c.in_ok-answer.answer _ _ c.self.invariant c.in_ok-answer.ensures c.drop_unit.ensures

pub returns : goal.returns
returns c = reset_done c.self.inside _ c.args.endpoint c.in_ok-answer.answer _ _ c.self.view_is c.in_ok-answer.ensures c.drop_unit.ensures
