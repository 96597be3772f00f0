use Rattle.std.proofs.Common.{◌≡◌, replicate}
use Rattle.sva_host_state.specs.Inner.{new_port}
use Rattle.sva_host_state.proofs.host_state.new_ports.Given as goal

abbrev pub invariant-loop-number : goal.invariant-loop-number
invariant-loop-number l = l.ports.items ≡ replicate l._number new_port
