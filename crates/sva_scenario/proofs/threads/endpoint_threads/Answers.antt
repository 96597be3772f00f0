use Rattle.std.proofs.Common.{◌≡◌, ◌∙◌, ◌+◌, vec_len, ap, sym, arith}
use Rattle.sva_fabric.specs.Receipts.{new_port, new_ports_from}
use Rattle.sva_scenario.specs.Lines.{lines_of_owner, lines_of_endpoints}
use Rattle.sva_scenario.specs.declared.lines.Owner.TheVariants as owner
use Rattle.sva_scenario.proofs.Rows.{last_port, last_lines}
use Rattle.sva_scenario.proofs.threads.endpoint_threads.Goals as goal

pub new-requires-clause-port : goal.new-requires-clause-port
new-requires-clause-port g c =
    let one : vec_len c.loop-port.ports ≡ vec_len c.pop.new.self + 1 = omega (arith, c.in-Some.ensures.len) in
    let last = last_port 3 (vec_len c.pop.new.self) c.loop-port.ports.items c.pop.new.self.items c.in-Some.port c.in-Some.ensures.items
    (c.loop-port.invariant.ports ∙ ap (new_ports_from 3) one) in
    last.1 ∙ ap (λ n. new_port (3 + n)) (sym c.len-endpoint.ensures)

pub new-requires-clause-lines : goal.new-requires-clause-lines
new-requires-clause-lines g c =
    let one : vec_len c.loop-port.ports ≡ vec_len c.pop.new.self + 1 = omega (arith, c.in-Some.ensures.len) in
    let last = last_lines g.S.Plan.steps (vec_len c.pop.new.self) c.loop-port.lines.items c.pop-in-Some.new.self.items c.in-Some-Some.own
    c.in-Some-Some.ensures.items (c.loop-port.invariant.lines ∙ ap (lines_of_endpoints g.S.Plan.steps) one) in
    last.1 ∙ ap (λ n. lines_of_owner (owner.Endpoint n) g.S.Plan.steps) (sym c.len-endpoint.ensures)

pub loop-port-preserved : goal.loop-port-preserved
loop-port-preserved g c =
    let one : vec_len c.loop-port.ports ≡ vec_len c.pop.new.self + 1 = omega (arith, c.in-Some.ensures.len) in
    let port = last_port 3 (vec_len c.pop.new.self) c.loop-port.ports.items c.pop.new.self.items c.in-Some.port c.in-Some.ensures.items
    (c.loop-port.invariant.ports ∙ ap (new_ports_from 3) one) in
    let lines = last_lines g.S.Plan.steps (vec_len c.pop.new.self) c.loop-port.lines.items c.pop-in-Some.new.self.items c.in-Some-Some.own
    c.in-Some-Some.ensures.items (c.loop-port.invariant.lines ∙ ap (lines_of_endpoints g.S.Plan.steps) one) in
    let kept = c.loop-port.invariant in
    record {
      ports = port.0;
      lines = lines.0;
      line_count = omega (arith, one, c.in-Some-Some.ensures.len, kept.line_count);
      devices = omega (arith, one, c.in-Some-Some.ensures'.len, kept.devices);
      threads = omega (arith, one, c.push_reserved.ensures.len, kept.threads);
      room = omega (arith, c.push_reserved.ensures.capacity, kept.room);
      port_room = omega (arith, c.in-Some.ensures.capacity, kept.port_room);
    }
