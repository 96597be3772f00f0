use Rattle.std.proofs.Common.{ap}
use Rattle.sva_fabric.specs.TokenNumbers.{TicketNumbers}
use Rattle.sva_fabric.proofs.tokens.UseTicket.slot.Goals as goal

pub returns : goal.returns
returns g c = ap (λ (n : TicketNumbers). n.slot) c.self.view_is
