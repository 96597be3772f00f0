-- The calls of a bag, and what a list of them does.
use Rattle.std.specs.Prelude.{ℕ, ◌+◌, ◌≤◌, ◌^◌, List, [], ◌∷◌, ◌++◌, Option, None, Some}
use Rattle.sva_msg.specs.Bag.{InFlight, MayDeliver, message_at, copies_of, with_sent, without}
use Rattle.sva_msg.specs.declared.messages.Message.{Message}

-- a call of a bag; a `Send` that is refused memory changes nothing and is left out
pub data Call : Type 0 where
  Left : Call
  Send : (message : Message) → (copies : ℕ) → Call
  Get : (number : ℕ) → Call
  AskMayDeliver : (number : ℕ) → Call
  Deliver : (number : ℕ) → Call

-- the condition of a call
abbrev pub IsPermitted : InFlight → Call → Type 0
IsPermitted bag (Send message copies) = (1 ≤ copies) × (copies ≤ 8) × (bag.next + copies ≤ 2 ^ 63)
IsPermitted bag (Deliver number) = MayDeliver bag number
IsPermitted bag _ = Unit {0}

-- the bag after a call
abbrev pub after : InFlight → Call → InFlight
after bag (Send message copies) = with_sent bag message copies
after bag (Deliver number) = without bag number
after bag _ = bag

-- the messages that a call puts in flight, with their numbers
abbrev pub sent_by : InFlight → Call → List (ℕ × Message)
sent_by bag (Send message copies) = copies_of message bag.next copies
sent_by bag _ = []

-- the message that was found under a number, with that number; nothing where none was found
abbrev pub numbered : ℕ → Option Message → List (ℕ × Message)
numbered number None = []
numbered number (Some message) = (number, message) ∷ []

-- the message that a call takes out of the bag, with its number
abbrev pub delivered_by : InFlight → Call → List (ℕ × Message)
delivered_by bag (Deliver number) = numbered number (message_at bag number)
delivered_by bag _ = []

-- each call of the list is permitted where it is made
abbrev pub ArePermitted : InFlight → List Call → Type 0
ArePermitted bag [] = Unit {0}
ArePermitted bag (call ∷ calls) = IsPermitted bag call × ArePermitted (after bag call) calls

-- the bag after all calls of the list
abbrev pub after_all : InFlight → List Call → InFlight
after_all bag [] = bag
after_all bag (call ∷ calls) = after_all (after bag call) calls

-- all messages that the calls put in flight, in the order of the calls
abbrev pub sent : InFlight → List Call → List (ℕ × Message)
sent bag [] = []
sent bag (call ∷ calls) = sent_by bag call ++ sent (after bag call) calls

-- all messages that the calls took out, in the order of the calls
abbrev pub delivered : InFlight → List Call → List (ℕ × Message)
delivered bag [] = []
delivered bag (call ∷ calls) = delivered_by bag call ++ delivered (after bag call) calls
