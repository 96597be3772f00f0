use Rattle.std.proofs.Common.{sym, subst, arith, List}
use Rattle.std.proofs.lemmas.Bool.{or_parts}
use Rattle.sva_fabric.specs.Receipts.{PortState}
use Rattle.sva_scenario.specs.Lacks.{one_lacks}
use Rattle.sva_scenario.specs.Played.{AreEach, IsOfWorker}
use Rattle.sva_scenario.proofs.Rows.{each_more, lacks_moved}
use Rattle.sva_scenario.proofs.threads.leave_workers.Goals as goal

pub loop-thread-preserved : goal.loop-thread-preserved
loop-thread-preserved g c =
    let kept = c.loop-thread.invariant in
    record {
      lacking = lacks_moved c.loop-thread.lacking c.leave-port.result.1 c.loop-thread.threads.items c.pop.new.self.items c.in-Some.thread
          (one_lacks c.args.threads.items) c.in-Some.ensures.items c.leave-port.ensures.lacking kept.lacking;
      played = λ none.
          let both = or_parts c.loop-thread.lacking c.leave-port.result.1 none in
          subst (λ (ports : List PortState). AreEach (IsOfWorker g.C.Ledgers.config g.S.Plan.turns) ports) (sym c.push_reserved.ensures.items)
          (each_more (IsOfWorker g.C.Ledgers.config g.S.Plan.turns) c.loop-thread.ports.items c.leave-port.result.0
          (kept.played both.0) (c.leave-port.ensures.played both.1));
      ports = omega (arith, c.in-Some.ensures.len, c.push_reserved.ensures.len, kept.ports);
      room = omega (arith, c.push_reserved.ensures.capacity, kept.room);
    }
