use Rattle.std.proofs.Common.{◌≡◌, ℕ, suc}
use Rattle.sva_host_state.specs.Inner.{wire_of, IsHostState}
use Rattle.sva_host_state.specs.Unmapping.{IsPlan, submitted_to}
use Rattle.sva_host_state.proofs.unmapping.Plan.submit.Given as goal

-- the units so far have got their descriptors, of whichever space the plan is
abbrev pub invariant-loop-endpoint : goal.invariant-loop-endpoint
invariant-loop-endpoint l =
    ((space : ℕ) → IsPlan l.fn.host space (suc l.count) l.self → wire_of l.host-inside ≡ submitted_to l.fn.host space l.page l.count l.order l.endpoint)
    × IsHostState l.host-inside
