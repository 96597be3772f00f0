use Rattle.std.proofs.Common.{subst, Bool}
use Rattle.sva_host_state.specs.Advancing.{AdvancesBy}
use Rattle.sva_host.proofs.Advances.{advanced, advance_still}
use Rattle.sva_host.proofs.Sounds.{host_sound}
use Rattle.sva_host.proofs.host.Host.advance.Goals as goal

pub advance-requires : goal.advance-requires
advance-requires c = host_sound c.self.inside _ c.self.view_is c.self.invariant c.requires

pub invariant_of-self : goal.invariant_of-self
invariant_of-self c =
    advance_still c.self.inside _ c.args.binding c.advance.result c.advance.new.host c.self.view_is c.self.invariant c.requires
    (subst (λ (g : Bool). AdvancesBy c.self.inside.state g c.args.binding c.advance.result c.advance.new.host) c.open_of-groups_open.ensures
    c.advance.ensures.step)

pub returns-clause-step : goal.returns-clause-step
returns-clause-step c =
    advanced c.self.inside _ c.args.binding c.advance.result c.advance.new.host c.self.view_is c.self.invariant c.requires
    (subst (λ (g : Bool). AdvancesBy c.self.inside.state g c.args.binding c.advance.result c.advance.new.host) c.open_of-groups_open.ensures
    c.advance.ensures.step)
