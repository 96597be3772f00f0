use Rattle.std.proofs.Common.{◌≡◌, ◌+◌, ◌≤◌, vec_len, vec_capacity}
use Rattle.sva_fabric.specs.Receipts.{new_ports_from}
use Rattle.sva_scenario.proofs.threads.worker_threads.Given as goal

-- the ports and the pagers of the workers that are left, and a thread for each of the others
abbrev pub invariant-loop-port : goal.invariant-loop-port
invariant-loop-port g l = record {
  ports : l.ports.items ≡ new_ports_from (3 + g.C.Ledgers.config.endpoints) (vec_len l.ports);
  pagers : vec_len l.pagers ≡ vec_len l.ports;
  threads : vec_len l.threads + vec_len l.ports ≡ vec_len l.fn.ports;
  room : vec_len l.fn.ports ≤ vec_capacity l.threads;
  port_room : vec_len l.fn.ports ≤ vec_capacity l.ports;
}

abbrev pub decreases-loop-port : goal.decreases-loop-port
decreases-loop-port g l = vec_len l.ports
