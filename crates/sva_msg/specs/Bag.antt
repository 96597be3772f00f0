-- The messages in flight, as a bag of them is seen.
use Rattle.std.specs.Prelude.{◌≡◌, ℕ, ◌+◌, ◌<◌, ◌≤◌, ◌^◌, Bool, false, ◌&&◌, nat_eq, List, [], ◌∷◌, ◌++◌, map, Option, Some}
use Rattle.std.specs.List.{range_with_len}
use Rattle.indexmap.specs.IndexMap.{shift_remove_entry}
use Rattle.std.specs.Map.{lookup}
use Rattle.sva_model.specs.LinkOrder.{stays_behind}
use Rattle.sva_msg.specs.Kind.{kind_of}
use Rattle.sva_msg.specs.declared.messages.Message.{Message}

-- the messages in flight, each with its number, oldest first, and the number that the next one gets
pub record InFlight : Type 0 where
  pub messages : List (ℕ × Message)
  pub next : ℕ

-- no message is in flight, and the next one gets the number `first`
abbrev pub opened : ℕ → InFlight
opened first = record { messages = []; next = first }

-- the numbers of the messages rise; each is at least `low` and below `high`
abbrev pub AreNumbered : ℕ → ℕ → List (ℕ × Message) → Type 0
AreNumbered low high [] = low ≤ high
AreNumbered low high (entry ∷ entries) = (low ≤ entry.0) × AreNumbered (entry.0 + 1) high entries

-- the messages stand in rising order of their numbers, which lie below the next one, and that is at most 2^63
abbrev pub IsNumbered : InFlight → Type 0
IsNumbered bag = AreNumbered 0 bag.next bag.messages × (bag.next ≤ 2 ^ 63)

-- the message in flight with this number
abbrev pub message_at : InFlight → ℕ → Option Message
message_at bag number = lookup (nat_eq number) bag.messages

-- this message so many times, numbered from `first` on
abbrev pub copies_of : Message → ℕ → ℕ → List (ℕ × Message)
copies_of message first copies = map (λ number. (number, message)) (range_with_len first copies)

-- the bag after so many copies of the message are sent
abbrev pub with_sent : InFlight → Message → ℕ → InFlight
with_sent bag message copies = record { messages = bag.messages ++ copies_of message bag.next copies; next = bag.next + copies }

-- the bag after the message with this number has left it; the others keep their order
abbrev pub without : InFlight → ℕ → InFlight
without bag number = record bag { messages = shift_remove_entry (nat_eq number) bag.messages }

-- must the newer message not overtake the older one? Two messages are ordered only if they have one endpoint.
abbrev pub must_follow : Message → Message → Bool
must_follow newer older = nat_eq newer.endpoint older.endpoint && stays_behind (kind_of newer.kind) (kind_of older.kind)

-- The message with this number may be delivered now: it is in flight, and there is no older message in flight that it
-- must not overtake.
abbrev pub MayDeliver : InFlight → ℕ → Type 0
MayDeliver bag number =
    (message : Message) × (message_at bag number ≡ Some message)
    × ((earlier : ℕ) (older : Message) → earlier < number → message_at bag earlier ≡ Some older → must_follow message older ≡ false)
