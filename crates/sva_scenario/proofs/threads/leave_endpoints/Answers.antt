use Rattle.std.proofs.Common.{◌≡◌, ◌∙◌, ◌++◌, ap, sym, subst, arith, List, length, take, drop}
use Rattle.std.proofs.Math.Seq.{take-append_seam}
use Rattle.std.proofs.lemmas.Bool.{or_parts}
use Rattle.sva_fabric.specs.Receipts.{PortState}
use Rattle.sva_scenario.specs.Lacks.{one_lacks}
use Rattle.sva_scenario.specs.Played.{AreEach, IsOfEndpoint}
use Rattle.sva_scenario.proofs.Rows.{each_more, each_reversed, lacks_moved}
use Rattle.sva_scenario.proofs.threads.leave_endpoints.Goals as goal

pub loop-thread-preserved : goal.loop-thread-preserved
loop-thread-preserved g c =
    let kept = c.loop-thread.invariant in
    record {
      lacking = lacks_moved c.loop-thread.lacking c.leave-port.result.1 c.loop-thread.threads.items c.pop.new.self.items c.in-Some.thread
          (one_lacks c.args.threads.items) c.in-Some.ensures.items c.leave-port.ensures.lacking kept.lacking;
      played = λ none.
          let both = or_parts c.loop-thread.lacking c.leave-port.result.1 none in
          subst (λ (ports : List PortState). AreEach (IsOfEndpoint g.C.Ledgers.config g.S.Plan.steps g.S.Plan.turns) ports) (sym c.push_reserved.ensures.items)
          (each_more (IsOfEndpoint g.C.Ledgers.config g.S.Plan.steps g.S.Plan.turns) c.loop-thread.ports.items c.leave-port.result.0
          (kept.played both.0) (c.leave-port.ensures.played both.1));
      ports = omega (arith, c.in-Some.ensures.len, c.push_reserved.ensures.len, kept.ports);
      room = omega (arith, c.push_reserved.ensures.capacity, kept.room);
      tickets = omega (arith, c.leave-port.ensures.len, c.leave-port.ensures.capacity, c.in-Some.ensures.len, kept.tickets);
    }

pub returns-clause-played : goal.returns-clause-played
returns-clause-played g c none =
    let Is = IsOfEndpoint g.C.Ledgers.config g.S.Plan.steps g.S.Plan.turns in
    let turned = c.reverse.new.self in
    let rest = drop (length turned) c.loop-thread.ports.items in
    let count : c.loop-thread.ports.len ≡ length turned = sym (c.reverse.ensures.len ∙ c.as_mut_slice.ensures.len) in
    let items : take c.loop-thread.ports.len (turned ++ rest) ≡ turned = ap (λ n. take n (turned ++ rest)) count ∙ take-append_seam turned rest in
    let played = subst (λ (ports : List PortState). AreEach Is ports) (sym c.as_mut_slice.ensures.value) (c.loop-thread.invariant.played none) in
    subst (λ (ports : List PortState). AreEach Is ports) (sym items)
    (subst (λ (ports : List PortState). AreEach Is ports) (sym c.reverse.ensures.after) (each_reversed Is _ played))
