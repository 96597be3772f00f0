use Rattle.std.proofs.Common.{◌≡◌, ◌≤◌, ◌+◌, length, vec_len, arith}
use Rattle.std.specs.Prelude.{vec_capacity}
use Rattle.sva_step.specs.declared.steps.Step.TheVariants as step
use Rattle.sva_core.proofs.Agreed.{whole_run_agrees}
use Rattle.sva_core.proofs.Reaching.{ran_next}
use Rattle.sva_core.proofs.whole_run.run.Goals as goal

pub loop-step-preserved : goal.loop-step-preserved
loop-step-preserved c =
    let more : vec_len c.push_reserved.new.self ≡ c.loop-step.step-index + 1 = omega (arith, c.push_reserved.ensures.len, c.loop-step.invariant.1) in
    let room : length c.args.steps.now ≤ vec_capacity c.push_reserved.new.self = omega (arith, c.push_reserved.ensures.capacity, c.loop-step.invariant.2) in (
      ran_next c.args.config c.args.steps.now c.loop-step.step-index step.Space c.loop-step.answers.items c.push_reserved.new.self.items
          c.apply.result c.loop-step.world c.apply.new.self
          c.in_ok-world.ensures.ok.0 c.loop-step-test.true c.loop-step.invariant.0 c.apply.ensures.step c.apply.ensures.memory c.push_reserved.ensures.items,
      more,
      room,
    )

pub returns-clause-agreed : goal.returns-clause-agreed
returns-clause-agreed c =
    whole_run_agrees c.args.config c.args.steps.now c.loop-step.step-index c.loop-step.answers.items c.loop-step.world c.in_ok-world.ensures.ok.0
    (omega (arith, c.loop-step-test.false)) c.loop-step.invariant.0
