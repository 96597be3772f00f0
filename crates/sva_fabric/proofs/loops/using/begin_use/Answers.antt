use Rattle.std.proofs.Common.{◌≡◌, ◌+◌, inl, inr, sym, subst, refl, arith, length}
use Rattle.sva_step.specs.declared.steps.Step.TheVariants.{BeginUse}
use Rattle.sva_fabric.specs.Plays.{IsTry}
use Rattle.sva_fabric.proofs.Turns.{accepted_once, fault_try, full_tickets, room_for_ticket}
use Rattle.sva_fabric.proofs.loops.using.begin_use.Goals as goal

pub returns-then-len-ge-MOST_TICKETS-clause-turn : goal.returns-then-len-ge-MOST_TICKETS-clause-turn
returns-then-len-ge-MOST_TICKETS-clause-turn g c =
    inl (full_tickets (length c.args.tickets.now.items) (omega (arith, c.args.tickets.now.ok.0)), refl, refl, refl)

pub returns-in-Ok-clause-turn : goal.returns-in-Ok-clause-turn
returns-in-Ok-clause-turn g c =
    inr (
      room_for_ticket (length c.args.tickets.now.items) (omega (arith, c.args.tickets.now.ok.0)),
      accepted_once _ _ _ _ _ _ _ _ c.in-Ok.ensures.begun refl
          (omega (arith, c.push_reserved.ensures.len, c.args.tickets.now.ok.0, c.push_reserved.new.self.ok.0)),
    )

pub returns-in-Err-clause-turn : goal.returns-in-Err-clause-turn
returns-in-Err-clause-turn g c =
    let line = BeginUse c.args.endpoint c.args.pasid c.args.page c.args.write in
    let count = length c.args.tickets.now.items in
    inr (
      room_for_ticket count (omega (arith, c.args.tickets.now.ok.0)),
      subst (λ turn. IsTry g.C.Ledgers.config line c.args.port.now c.begin.new.port count count turn) (sym c.turn_after.ensures)
          (fault_try g.C.Ledgers.config c.args.port.now c.begin.new.port line line c.in-Err.fault count count c.in-Err.ensures.fault refl refl),
    )
