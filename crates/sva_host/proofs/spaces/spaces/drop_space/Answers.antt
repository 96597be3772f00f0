use Rattle.std.proofs.Common.{sym, ◌∙◌}
use Rattle.sva_host_state.proofs.SpaceSteps.{still_bound, dropped}
use Rattle.sva_host.proofs.spaces.spaces.drop_space.Goals as goal

pub returns-then-is_bound-clause-step : goal.returns-then-is_bound-clause-step
returns-then-is_bound-clause-step c =
    still_bound c.host.inside _ c.args.space c.host.view_is (sym c.has_space.ensures ∙ c.if-not-has_space.false)
    (sym c.is_bound.ensures ∙ c.if-is_bound.true)

pub returns-clause-step : goal.returns-clause-step
returns-clause-step c =
    dropped c.host.inside _ c.args.space _ c.host.view_is (sym c.has_space.ensures ∙ c.if-not-has_space.false)
    (sym c.is_bound.ensures ∙ c.if-is_bound.false)
    c.drop_space.ensures
