use Rattle.std.proofs.Common.{ℕ, refl, ap}
use Rattle.sva_step.specs.declared.steps.Step.TheVariants as step
use Rattle.sva_fabric.specs.TokenNumbers.{LeaseNumbers}
use Rattle.sva_fabric.proofs.Calls.{of_step, fault_of}
use Rattle.sva_fabric.proofs.fabric.Fabric.unbind.Goals as goal

pub returns-in-Ok-clause-leaving : goal.returns-in-Ok-clause-leaving
returns-in-Ok-clause-leaving g c = (
  ap (λ (n : LeaseNumbers). n.binding) c.lease.view_is,
  record {
    said = c.in-Ok.field-0;
    suits = c.in-Ok.ensures.suits;
    called = of_step c.in-Ok.ensures.called (ap (λ (n : ℕ). step.Unbind n) c.binding-binding.ensures);
  },
)

pub returns-in-Ok-clause-fault : goal.returns-in-Ok-clause-fault
returns-in-Ok-clause-fault g c = tt

pub returns-clause-leaving : goal.returns-clause-leaving
returns-clause-leaving g c = tt

pub returns-clause-fault : goal.returns-clause-fault
returns-clause-fault g c = (
  refl,
  fault_of g.C.Ledgers.config c.args.port.now c.answer.new.port c.in-Err.fault c.in-Err.ensures.fault
      (ap (λ (n : ℕ). step.Unbind n) c.binding-binding.ensures),
)
