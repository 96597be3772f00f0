-- Which tokens are in hand, and which lines can't be asked with them.
use Rattle.std.specs.Prelude.{ℕ, ◌==◌, ◌&&◌, ◌||◌, nat_le, Bool, false, not, List, [], ◌∷◌, length}
use Rattle.sva_step.specs.Steps.{is_plain}
use Rattle.sva_step.specs.declared.steps.Step.{Step}
use Rattle.sva_step.specs.declared.steps.Step.TheVariants.{Bind, Unbind, Advance, BeginUse, EndUse}
use Rattle.sva_fabric.specs.TokenNumbers.{LeaseNumbers, TicketNumbers}

-- does one of them pass the test?
abbrev pub one_passes : {X : Type 0} → (X → Bool) → List X → Bool
one_passes test [] = false
one_passes test (item ∷ items) = test item || one_passes test items

-- is the lease of the binding in hand, so that it can be unbound?
abbrev pub has_lease : (binding : ℕ) → List LeaseNumbers → Bool
has_lease binding leases = one_passes (λ (lease : LeaseNumbers). lease.binding == binding) leases

-- is the leaving of the binding in hand, so that it can be advanced?
abbrev pub has_leaving : (binding : ℕ) → (leavings : List ℕ) → Bool
has_leaving binding leavings = one_passes (λ (leaving : ℕ). leaving == binding) leavings

-- is the ticket of the use in the endpoint's slot in hand, so that it can be ended?
abbrev pub has_ticket : (endpoint slot : ℕ) → List TicketNumbers → Bool
has_ticket endpoint slot tickets = one_passes (λ (ticket : TicketNumbers). (ticket.endpoint == endpoint) && (ticket.slot == slot)) tickets

-- What a loop has in hand: which lines it passes over without a call, since they can't be asked with that, and how many tickets there are.
pub record LoopTokens : Type 0 where
  pub passes : Step → Bool
  pub tickets : ℕ

-- An endpoint passes over a use with 16 tickets in hand, the end of a use whose ticket isn't there, and what binds, unbinds or advances.
abbrev pub passes_with_tickets : List TicketNumbers → Step → Bool
passes_with_tickets tickets (BeginUse endpoint pasid page write) = nat_le 16 (length tickets)
passes_with_tickets tickets (EndUse endpoint slot) = not (has_ticket endpoint slot tickets)
passes_with_tickets tickets line = not (is_plain line)

-- what a loop of an endpoint has in hand: tickets of uses
abbrev pub tokens_of_tickets : List TicketNumbers → LoopTokens
tokens_of_tickets tickets = record { passes = passes_with_tickets tickets; tickets = length tickets }

-- The host passes over an unbind whose lease isn't there, an advance whose leaving isn't there, and uses.
abbrev pub passes_with_bindings : List LeaseNumbers → (leavings : List ℕ) → Step → Bool
passes_with_bindings leases leavings (Bind endpoint space) = false
passes_with_bindings leases leavings (Unbind binding) = not (has_lease binding leases)
passes_with_bindings leases leavings (Advance binding) = not (has_leaving binding leavings)
passes_with_bindings leases leavings line = not (is_plain line)

-- what the host has in hand: leases and leavings of bindings, and no ticket
abbrev pub tokens_of_bindings : List LeaseNumbers → (leavings : List ℕ) → LoopTokens
tokens_of_bindings leases leavings = record { passes = passes_with_bindings leases leavings; tickets = 0 }
