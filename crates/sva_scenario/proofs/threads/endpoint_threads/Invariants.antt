use Rattle.std.proofs.Common.{◌≡◌, ◌+◌, ◌≤◌, vec_len, vec_capacity}
use Rattle.sva_fabric.specs.Receipts.{new_ports_from}
use Rattle.sva_scenario.specs.Lines.{lines_of_endpoints}
use Rattle.sva_scenario.proofs.threads.endpoint_threads.Given as goal

-- the ports, the lines and the devices of the endpoints that are left, and a thread for each of the others
abbrev pub invariant-loop-port : goal.invariant-loop-port
invariant-loop-port g l = record {
  ports : l.ports.items ≡ new_ports_from 3 (vec_len l.ports);
  lines : l.lines.items ≡ lines_of_endpoints g.S.Plan.steps (vec_len l.ports);
  line_count : vec_len l.lines ≡ vec_len l.ports;
  devices : vec_len l.devices ≡ vec_len l.ports;
  threads : vec_len l.threads + vec_len l.ports ≡ vec_len l.fn.ports;
  room : vec_len l.fn.ports ≤ vec_capacity l.threads;
  port_room : vec_len l.fn.ports ≤ vec_capacity l.ports;
}

abbrev pub decreases-loop-port : goal.decreases-loop-port
decreases-loop-port g l = vec_len l.ports
