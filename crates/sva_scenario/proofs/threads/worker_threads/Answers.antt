use Rattle.std.proofs.Common.{◌≡◌, ◌∙◌, ◌+◌, vec_len, ap, sym, arith}
use Rattle.sva_fabric.specs.Receipts.{new_port, new_ports_from}
use Rattle.sva_scenario.proofs.Rows.{last_port}
use Rattle.sva_scenario.proofs.threads.worker_threads.Goals as goal

pub new-requires-clause-port : goal.new-requires-clause-port
new-requires-clause-port g c =
    let first = 3 + g.C.Ledgers.config.endpoints in
    let one : vec_len c.loop-port.ports ≡ vec_len c.pop.new.self + 1 = omega (arith, c.in-Some.ensures.len) in
    let last = last_port first (vec_len c.pop.new.self) c.loop-port.ports.items c.pop.new.self.items c.in-Some.port c.in-Some.ensures.items
    (c.loop-port.invariant.ports ∙ ap (new_ports_from first) one) in
    last.1 ∙ ap (λ n. new_port (first + n)) (sym c.len-worker.ensures)

pub loop-port-preserved : goal.loop-port-preserved
loop-port-preserved g c =
    let first = 3 + g.C.Ledgers.config.endpoints in
    let one : vec_len c.loop-port.ports ≡ vec_len c.pop.new.self + 1 = omega (arith, c.in-Some.ensures.len) in
    let port = last_port first (vec_len c.pop.new.self) c.loop-port.ports.items c.pop.new.self.items c.in-Some.port c.in-Some.ensures.items
    (c.loop-port.invariant.ports ∙ ap (new_ports_from first) one) in
    let kept = c.loop-port.invariant in
    record {
      ports = port.0;
      pagers = omega (arith, one, c.in-Some-pop.ensures.len, kept.pagers);
      threads = omega (arith, one, c.push_reserved.ensures.len, kept.threads);
      room = omega (arith, c.push_reserved.ensures.capacity, kept.room);
      port_room = omega (arith, c.in-Some.ensures.capacity, kept.port_room);
    }
