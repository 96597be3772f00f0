-- What holds of a bag after every list of its calls.
use Rattle.std.specs.Prelude.{◌≡◌, ℕ, ◌<◌, ◌≤◌, ◌^◌, false, List, ◌++◌, map, All, AllPairs, IsPermutation, IfSome, slice_get}
use Rattle.std.specs.List.Sorted.{IsStrictlyIncreasing}
use Rattle.sva_msg.specs.Bag.{InFlight, MayDeliver, opened, must_follow}
use Rattle.sva_msg.specs.Calls.{Call, ArePermitted, after_all, sent, delivered}
use Rattle.sva_msg.specs.declared.messages.Message.{Message}

-- a fact of each new bag and each list of permitted calls of it
abbrev pub Always : (InFlight → List Call → Type 0) → Type 0
Always P = (first : ℕ) → first ≤ 2 ^ 63 → (calls : List Call) → ArePermitted (opened first) calls → P (opened first) calls

-- the numbers of messages
abbrev pub numbers : List (ℕ × Message) → List ℕ
numbers = map (λ entry. entry.0)

-- the numbers given rise strictly, so none is given twice; each is at least the first and below 2^63
abbrev pub GivesNumbersOnce : InFlight → List Call → Type 0
GivesNumbersOnce bag calls =
    IsStrictlyIncreasing (numbers (sent bag calls)) × All (λ number. (bag.next ≤ number) × (number < 2 ^ 63)) (numbers (sent bag calls))

-- each message that was sent was delivered or is in flight, once and not both, and no other was delivered or is in flight
abbrev pub LosesNone : InFlight → List Call → Type 0
LosesNone bag calls = IsPermutation (sent bag calls) (delivered bag calls ++ (after_all bag calls).messages)

-- the first message need not wait for the second: that is newer, or the first may overtake it
abbrev pub MayPrecede : ℕ × Message → ℕ × Message → Type 0
MayPrecede first second = second.0 < first.0 → must_follow first.1 second.1 ≡ false

-- no message was delivered before an older one that it must not overtake, be that delivered later or still in flight
abbrev pub KeepsOrder : InFlight → List Call → Type 0
KeepsOrder bag calls = AllPairs MayPrecede (delivered bag calls ++ (after_all bag calls).messages)

-- the oldest message in flight may be delivered
abbrev pub NeverStops : InFlight → List Call → Type 0
NeverStops bag calls =
    let end = after_all bag calls in IfSome (slice_get end.messages 0) (λ oldest. MayDeliver end oldest.0)
