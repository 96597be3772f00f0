-- The sending of messages, seen.
use Rattle.std.proofs.Common.{◌≡◌, refl, ap, sym, subst, ℕ, Bool}
use Rattle.std.specs.Prelude.{Ok, Err, [], ◌∷◌, ◌++◌, if◌then◌else◌}
use Rattle.std.proofs.lemmas.List.{map-append}
use Rattle.sva_step.specs.declared.refusals.Refusal.{Refusal}
use Rattle.sva_step.specs.declared.refusals.Refusal.TheVariants as refusal
use Rattle.sva_model.specs.Wire.{Wire}
use Rattle.sva_msg.specs.declared.messages.Kind.{Kind}
use Rattle.sva_msg.specs.declared.messages.Message.{Message}
use Rattle.sva_msg.specs.Bag.{InFlight, with_sent, copies_of}
use Rattle.sva_labels.specs.Causes.{numbers_spent}
use Rattle.sva_labels.specs.Host.{checked}
use Rattle.sva_labels.specs.Outcomes as outcomes
use Rattle.sva_host_state.specs.Steps.{Does, Sends}
use Rattle.sva_parts_by_labels.specs.Flights.{flight_seen, flights_seen}

-- one message more
pub sent_seen : (bag : InFlight) (message : Message)
    → flights_seen (with_sent bag message 1) ≡ flights_seen bag ++ flight_seen (bag.next, message) ∷ []
sent_seen bag message = map-append flight_seen bag.messages (copies_of message bag.next 1)

-- what wasn't sent changed nothing
pub unsent_same : (bag after : InFlight) (e : ℕ) (kind : Kind) (copies : ℕ) (x : Refusal) → Sends bag e kind copies (Err x) after → after ≡ bag
unsent_same bag after e kind copies refusal.NumbersSpent is = is.1
unsent_same bag after e kind copies refusal.OutOfMemory is = is.1
unsent_same bag after e kind copies _ is = absurd is

-- and the step is refused by the last of its causes, or would have been accepted
pub unsent : (bag after : InFlight) (e : ℕ) (kind : Kind) (copies : ℕ) (x : Refusal) (w : Wire) (r : outcomes.Result) → Sends bag e kind copies (Err x) after
    → Does (checked (numbers_spent bag.next copies ∷ []) r) w (Err x) w
unsent bag after e kind copies refusal.NumbersSpent w r is =
    subst (λ (b : Bool). Does (if b then record { reply = Err refusal.NumbersSpent; moves = [] } else record {
      reply = Ok r.answer;
      moves =
          r.moves;
    }) w (Err refusal.NumbersSpent) w)
    (sym is.0) (refl, refl)
unsent bag after e kind copies refusal.OutOfMemory w r is =
    subst (λ (b : Bool). Does (if b then record { reply = Err refusal.NumbersSpent; moves = [] } else record {
      reply = Ok r.answer;
      moves =
          r.moves;
    }) w (Err refusal.OutOfMemory) w)
    (sym is.0) (refl, refl)
unsent bag after e kind copies _ w r is = absurd is

-- where it was sent nothing refuses the step
pub sent_decided : (bag after : InFlight) (e : ℕ) (kind : Kind) (copies : ℕ) (r : outcomes.Result) → Sends bag e kind copies (Ok tt) after
    → checked (numbers_spent bag.next copies ∷ []) r ≡ record { reply = Ok r.answer; moves = r.moves }
sent_decided bag after e kind copies r is =
    ap (λ (b : Bool). if b then record { reply = Err refusal.NumbersSpent; moves = [] } else record { reply = Ok r.answer; moves = r.moves }) is.0
