use Rattle.std.proofs.Common.{◌≡◌, ◌∙◌, List, rules, not, inr, ap, sym, subst, arith, length}
use Rattle.sva_step.specs.declared.steps.Step.TheVariants.{EndUse}
use Rattle.sva_fabric.specs.TokenNumbers.{TicketNumbers}
use Rattle.sva_fabric.specs.LoopTokens.{has_ticket}
use Rattle.sva_fabric.specs.Plays.{IsTry}
use Rattle.sva_fabric.proofs.Turns.{same_ticket, ended_once, fault_try}
use Rattle.sva_fabric.proofs.loops.using.end_use.Goals as goal

pub returns-in-Ok-clause-turn : goal.returns-in-Ok-clause-turn
returns-in-Ok-clause-turn g c =
    let same = same_ticket c.args.tickets.now.items c.in-Some.place c.args.endpoint c.args.slot c.swap_remove-ticket.result
    (search rules) c.swap_remove-ticket.ensures.value (search rules) in
    inr (
      ap not (sym (c.in-Some.ensures.is_there
          ∙ ap (λ (l : List TicketNumbers). has_ticket c.args.endpoint c.args.slot l) c.as_slice.ensures.value)),
      ended_once _ _ _ _ _ _ _ _ _ _ c.in-Ok.ensures.ended same.0 same.1
          (omega (arith, c.swap_remove-ticket.ensures.len, c.args.tickets.now.ok.0, c.swap_remove-ticket.new.self.ok.0)),
    )

pub returns-in-Err-clause-turn : goal.returns-in-Err-clause-turn
returns-in-Err-clause-turn g c =
    let same = same_ticket c.args.tickets.now.items c.in-Some.place c.args.endpoint c.args.slot c.swap_remove-ticket.result
    (search rules) c.swap_remove-ticket.ensures.value (search rules) in
    let t = length c.args.tickets.now.items in
    let u = length c.push_reserved.new.self.items in
    inr (
      ap not (sym (c.in-Some.ensures.is_there
          ∙ ap (λ (l : List TicketNumbers). has_ticket c.args.endpoint c.args.slot l) c.as_slice.ensures.value)),
      subst (λ turn. IsTry g.C.Ledgers.config (EndUse c.args.endpoint c.args.slot) c.args.port.now c.end.new.port t u turn) (sym c.turn_after.ensures)
          (fault_try g.C.Ledgers.config c.args.port.now c.end.new.port (EndUse c.swap_remove-ticket.result.endpoint c.swap_remove-ticket.result.slot)
          (EndUse c.args.endpoint c.args.slot) c.in-Err.fault t u (search rules)
          (λ k. EndUse (same.0 k) (same.1 k))
          (omega (arith, c.swap_remove-ticket.ensures.len, c.push_reserved.ensures.len, c.args.tickets.now.ok.0, c.push_reserved.new.self.ok.0))),
    )
