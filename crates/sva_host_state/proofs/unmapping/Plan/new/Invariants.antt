use Rattle.sva_host_state.specs.Unmapping.{IsPlanned}
use Rattle.sva_host_state.proofs.unmapping.Plan.new.Given as goal

-- the plan, of the units so far
abbrev pub invariant-loop-endpoint : goal.invariant-loop-endpoint
invariant-loop-endpoint l = IsPlanned l.host l.space l.descriptors l.endpoint l.plan
