-- What becomes of a turn by the call that it made.
use Rattle.std.proofs.Common.{◌≡◌, ◌∙◌, ◌<◌, ◌≤◌, nat_le, ℕ, ◌+◌, Bool, true, false, not, List, [], ◌∷◌, ◌++◌, length}
use Rattle.std.proofs.Common.{slice_get, slice_index_or, Some, IfSome, Ok, Err, ap, sym, subst, arith, refl}
use Rattle.std.proofs.lemmas.Bool.Decides.{nat_tests}
use Rattle.std.proofs.lemmas.Option.{slice_get_read}
use Rattle.sva_step.specs.declared.answers.Answer.{Answer}
use Rattle.sva_step.specs.declared.limits.Config.{Config}
use Rattle.sva_step.specs.declared.steps.Step.{Step}
use Rattle.sva_step.specs.declared.steps.Step.TheVariants.{Bind, Unbind, Advance, BeginUse, EndUse}
use Rattle.sva_step.specs.Steps.{is_plain}
use Rattle.sva_fabric.specs.declared.faults.Fault.{Fault}
use Rattle.sva_fabric.specs.declared.faults.Fault.TheVariants as fault
use Rattle.sva_core.specs.declared.running.StepFault.TheVariants as step_fault
use Rattle.sva_fabric.specs.Receipts.{PortState}
use Rattle.sva_fabric.specs.TokenNumbers.{LeaseNumbers, TicketNumbers}
use Rattle.sva_fabric.specs.Tokens.{HasCalled, IsFault}
use Rattle.sva_fabric.specs.declared.loops.endings.Turn.{Turn}
use Rattle.sva_fabric.specs.declared.loops.endings.Turn.TheVariants.{Accepted, Again, Memory, Strayed}
use Rattle.sva_fabric.specs.Asks.{IsAsked}
use Rattle.sva_fabric.specs.Ends.{HasStrayed}
use Rattle.sva_fabric.specs.LoopTokens.{passes_with_tickets, passes_with_bindings}
use Rattle.sva_fabric.specs.Plays.{is_accepted, begins, ends, HasCalledOnce, IsTry, turn_after_fault}

-- the token that was taken from its place is the one that was found there
pub taken_is : {X : Type 0} (xs : List X) (place : ℕ) (x : X) (P : X → Type 0) → place < length xs → x ≡ slice_index_or xs place x
    → IfSome (slice_get xs place) P → P x
taken_is xs place x P within value found = subst (λ o. IfSome o P) (slice_get_read xs (length xs) place x refl within value) found

pub same_ticket : (tickets : List TicketNumbers) (place e s : ℕ) (t : TicketNumbers) → place < length tickets → t ≡ slice_index_or tickets place t
    → IfSome (slice_get tickets place) (λ (found : TicketNumbers). (found.endpoint ≡ e) × (found.slot ≡ s))
    → (t.endpoint ≡ e) × (t.slot ≡ s)
same_ticket tickets place e s t = taken_is tickets place t (λ (found : TicketNumbers). (found.endpoint ≡ e) × (found.slot ≡ s))

-- a call that was accepted
pub accepted_once : (config : Config) (before after : PortState) (step line : Step) (t u : ℕ) (a : Answer)
    → HasCalled config before after step (Ok a) → step ≡ line → u + ends line ≡ t + begins line → HasCalledOnce line before after true t u
accepted_once config before after step line t u a h i tokens = record {
  receipt = h.receipt;
  kept = h.kept;
  of_line = h.answered.step_is ∙ i;
  answered = ap is_accepted h.says;
  tickets = tokens;
}

-- a use that ended
pub ended_once : (config : Config) (before after : PortState) (e s d r t u : ℕ) (a : Answer)
    → HasCalled config before after (EndUse d r) (Ok a) → d ≡ e → r ≡ s → u + 1 ≡ t
    → HasCalledOnce (EndUse e s) before after true t u
ended_once config before after e s d r t u a h i j less = record {
  receipt = h.receipt;
  kept = h.kept;
  of_line = h.answered.step_is ∙ (λ k. EndUse (i k) (j k));
  answered = ap is_accepted h.says;
  tickets = omega arith;
}

-- a call that made, moved or spent no token
pub fault_try : (config : Config) (before after : PortState) (step line : Step) (f : Fault) (t u : ℕ)
    → IsFault config before after step f → step ≡ line → u ≡ t → IsTry config line before after t u (turn_after_fault f)
fault_try config before after step line (fault.Refused refusal) t u h i same = record {
  receipt = h.receipt;
  kept = h.kept;
  of_line = h.answered.step_is ∙ i;
  answered = ap is_accepted h.says;
  tickets = omega arith;
}
fault_try config before after step line fault.Memory t u h i same = (h, same)
fault_try config before after step line (fault.Strayed strayed) t u h i same =
    (h.0, same, record { fault = step_fault.Strayed strayed; of_receipt = tt; refused = h.1 })

-- a plain step begins no use, and ends none
begins_none : (line : Step) → is_plain line ≡ true → begins line ≡ 0
begins_none (BeginUse endpoint pasid page write) plain = absurd (cc plain)
begins_none line plain = refl

ends_none : (line : Step) → is_plain line ≡ true → ends line ≡ 0
ends_none (EndUse endpoint slot) plain = absurd (cc plain)
ends_none line plain = refl

-- a plain line that was asked
pub plain_try : (config : Config) (line : Step) (before after : PortState) (t : ℕ) (o : Turn)
    → is_plain line ≡ true → IsAsked config line before after o → IsTry config line before after t t o
plain_try config line before after t Accepted plain h =
    let begun = begins_none line plain in
    let ended = ends_none line plain in
    record { receipt = h.receipt; kept = h.kept; of_line = h.of_step; answered = h.answered; tickets = omega arith }
plain_try config line before after t Again plain h =
    record { receipt = h.receipt; kept = h.kept; of_line = h.of_step; answered = h.answered; tickets = refl }
plain_try config line before after t Memory plain h = (h, refl)
plain_try config line before after t Strayed plain h = (h.0, refl, h.1)

-- which lines are passed over
pub plain_not_passed : (tickets : List TicketNumbers) (line : Step) → is_plain line ≡ true → passes_with_tickets tickets line ≡ false
plain_not_passed tickets (BeginUse endpoint pasid page write) plain = absurd (cc plain)
plain_not_passed tickets (EndUse endpoint slot) plain = absurd (cc plain)
plain_not_passed tickets line plain = ap not plain

pub others_passed : (tickets : List TicketNumbers) (line : Step) → is_plain line ≡ false
    → ((endpoint pasid page : ℕ) (write : Bool) → line ≡ BeginUse endpoint pasid page write → ⊥)
    → ((endpoint slot : ℕ) → line ≡ EndUse endpoint slot → ⊥)
    → passes_with_tickets tickets line ≡ true
others_passed tickets (BeginUse endpoint pasid page write) kind begin end = absurd (begin endpoint pasid page write refl)
others_passed tickets (EndUse endpoint slot) kind begin end = absurd (end endpoint slot refl)
others_passed tickets line kind begin end = ap not kind

pub plain_not_passed_by_host : (leases : List LeaseNumbers) (leavings : List ℕ) (line : Step) → is_plain line ≡ true
    → passes_with_bindings leases leavings line ≡ false
plain_not_passed_by_host leases leavings (Bind endpoint space) plain = refl
plain_not_passed_by_host leases leavings (Unbind binding) plain = absurd (cc plain)
plain_not_passed_by_host leases leavings (Advance binding) plain = absurd (cc plain)
plain_not_passed_by_host leases leavings line plain = ap not plain

pub others_passed_by_host : (leases : List LeaseNumbers) (leavings : List ℕ) (line : Step) → is_plain line ≡ false
    → ((endpoint space : ℕ) → line ≡ Bind endpoint space → ⊥)
    → ((binding : ℕ) → line ≡ Unbind binding → ⊥)
    → ((binding : ℕ) → line ≡ Advance binding → ⊥)
    → passes_with_bindings leases leavings line ≡ true
others_passed_by_host leases leavings (Bind endpoint space) kind bind unbind advance = absurd (bind endpoint space refl)
others_passed_by_host leases leavings (Unbind binding) kind bind unbind advance = absurd (unbind binding refl)
others_passed_by_host leases leavings (Advance binding) kind bind unbind advance = absurd (advance binding refl)
others_passed_by_host leases leavings line kind bind unbind advance = ap not kind

-- 16 tickets or more, and fewer
pub full_tickets : (count : ℕ) → 16 ≤ count → nat_le 16 count ≡ true
full_tickets count h = grind (arith, nat_tests)

pub room_for_ticket : (count : ℕ) → count < 16 → nat_le 16 count ≡ false
room_for_ticket count h = grind (arith, nat_tests)
