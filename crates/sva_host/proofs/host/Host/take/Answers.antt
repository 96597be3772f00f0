use Rattle.std.proofs.Common.{sym, ap, ◌∙◌, ◌<◌, arith}
use Rattle.std.specs.Prelude.{length}
use Rattle.sva_host.proofs.Takes.{none_held, take_done, take_sound}
use Rattle.sva_host.proofs.host.Host.take.Goals as goal

pub invariant_of-self : goal.invariant_of-self
invariant_of-self c =
    let there : c.args.worker < c.self.inside.workers = omega (arith, c.if-worker-self.false) in
    take_sound c.self.inside c.args.worker c.take.new.self c.self.invariant there
    (none_held c.held.result _ c.held.ensures (sym c.is_some.ensures ∙ c.if-is_some.false)) c.take.ensures

pub returns-clause-step : goal.returns-clause-step
returns-clause-step c =
    let there : c.args.worker < c.self.inside.workers = omega (arith, c.if-worker-self.false) in
    take_done c.self.inside _ c.args.worker _ _ _ c.in-Some.job.now c.take.new.self c.self.view_is c.self.invariant there
    (none_held c.held.result _ c.held.ensures (sym c.is_some.ensures ∙ c.if-is_some.false)) c.take.ensures c.in-Some.ensures c.binding.ensures
    c.index.ensures (ap length c.asks.ensures.asks)
