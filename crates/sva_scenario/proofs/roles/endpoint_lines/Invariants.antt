use Rattle.std.proofs.Common.{◌≡◌, vec_len}
use Rattle.sva_scenario.specs.Lines.{lines_of_endpoints}
use Rattle.sva_scenario.proofs.roles.endpoint_lines.Given as goal

-- the lines of the endpoints so far
abbrev pub invariant-loop-endpoint : goal.invariant-loop-endpoint
invariant-loop-endpoint l = (l.all.items ≡ lines_of_endpoints l.steps l.endpoint) × (vec_len l.all ≡ l.endpoint)
