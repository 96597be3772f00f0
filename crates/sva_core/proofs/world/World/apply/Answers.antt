use Rattle.sva_refinement.proofs.Said.{every_step}
use Rattle.std.proofs.Common.{subst}
use Rattle.sva_host.specs.Steps.{ByLabels}
use Rattle.sva_core.specs.Reached.{IsReached}
use Rattle.sva_core.proofs.Agreed.{agreed}
use Rattle.sva_core.proofs.Reaching.{follows, reached, refused, follows_on, memory_on, sound_reached, spaces_reached}
use Rattle.sva_core.proofs.world.World.apply.Goals as goal

pub apply-requires-clause-sound : goal.apply-requires-clause-sound
apply-requires-clause-sound c = sound_reached c.self.inside.host c.self.invariant

pub apply-requires-clause-spaces : goal.apply-requires-clause-spaces
apply-requires-clause-spaces c = spaces_reached c.self.inside.host c.self.invariant

pub returns-clause-step : goal.returns-clause-step
returns-clause-step c =
    follows_on c.self.inside.host c.args.self.now c.args.step.now c.apply.result c.apply.new.self c.self.view_is
    (follows every_step c.self.inside.host c.args.step.now c.apply.result c.apply.new.self c.apply.ensures.step)

pub returns-clause-labels : goal.returns-clause-labels
returns-clause-labels c =
    subst (λ seen. ByLabels seen c.args.step.now c.apply.result c.apply.new.self) c.self.view_is c.apply.ensures.step

pub returns-clause-refused : goal.returns-clause-refused
returns-clause-refused c =
    refused c.args.self.now c.args.step.now c.apply.result c.apply.new.self (subst IsReached c.self.view_is c.self.invariant)
    (follows_on c.self.inside.host c.args.self.now c.args.step.now c.apply.result c.apply.new.self c.self.view_is
    (follows every_step c.self.inside.host c.args.step.now c.apply.result c.apply.new.self c.apply.ensures.step))

pub returns-clause-agreed : goal.returns-clause-agreed
returns-clause-agreed c = λ at. agreed c.apply.new.self at

pub invariant_of-self : goal.invariant_of-self
invariant_of-self c =
    reached c.self.inside.host c.args.step.now c.apply.result c.apply.new.self c.self.invariant
    (follows every_step c.self.inside.host c.args.step.now c.apply.result c.apply.new.self c.apply.ensures.step)

pub returns-clause-reached : goal.returns-clause-reached
returns-clause-reached c =
    reached c.self.inside.host c.args.step.now c.apply.result c.apply.new.self c.self.invariant
    (follows every_step c.self.inside.host c.args.step.now c.apply.result c.apply.new.self c.apply.ensures.step)

pub returns-clause-memory : goal.returns-clause-memory
returns-clause-memory c = memory_on c.self.inside.host c.args.self.now c.args.step.now c.apply.result c.self.view_is c.apply.ensures.memory
