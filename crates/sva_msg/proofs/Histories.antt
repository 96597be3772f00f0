-- What holds after every list of calls.
use Rattle.std.proofs.Common.{◌≡◌, ℕ, zero, suc, ◌+◌, ◌<◌, ◌≤◌, ◌^◌, List, [], ◌∷◌, ◌++◌, true, IfSome, slice_get, All, IsPermutation, nat_eq, refl, arith}
use Rattle.std.proofs.Common.{append_assoc}
use Rattle.std.proofs.lemmas.Bool.Decides.{nat_tests}
use Rattle.std.proofs.lemmas.List.{append-nil}
use Rattle.std.proofs.lemmas.List.Elements.{All-from_recursion, recursion_from_All, All-map, All-weaker}
use Rattle.std.proofs.lemmas.List.Sorted.{IsPermutation-refl, IsPermutation-append_left, IsPermutation-pop_more, All-permutation}
use Rattle.std.specs.List.{AllByRecursion}
use Rattle.std.specs.List.Sorted.{IsStrictlyIncreasing}
use Rattle.sva_msg.specs.Bag.{InFlight, AreNumbered, IsNumbered, MayDeliver, opened, copies_of, with_sent, without}
use Rattle.sva_msg.specs.Calls.{Call, Left, Send, Get, AskMayDeliver, Deliver, IsPermitted, ArePermitted, after, after_all, sent, sent_by, delivered}
use Rattle.sva_msg.specs.Calls.{delivered_by}
use Rattle.sva_msg.specs.Laws.{Always, GivesNumbersOnce, LosesNone, KeepsOrder, NeverStops, MayPrecede, numbers}
use Rattle.sva_msg.specs.declared.messages.Message.{Message}
use Rattle.sva_msg.proofs.Numbered.{bounds_in_order, AreNumbered-copies_of, AreNumbered-sent, AreNumbered-remove, lookup-below}
use Rattle.sva_msg.proofs.Ordered.{Pairs, AllPairs-from_Pairs, Pairs-sent, Pairs-delivered, IsPermutation-taken}

all_between : (low high : ℕ) (es : List (ℕ × Message)) → AreNumbered low high es → AllByRecursion (λ p. (low ≤ p.0) × (p.0 < high)) es
all_between low high [] h = tt
all_between low high (p ∷ ps) h =
    let rest = bounds_in_order (p.0 + 1) high ps h.1 in
    ((h.0, omega arith), weaker (p.0 + 1) ps (all_between (p.0 + 1) high ps h.1) (omega arith))
  where
    weaker : (from : ℕ) (qs : List (ℕ × Message)) → AllByRecursion (λ q. (from ≤ q.0) × (q.0 < high)) qs → low ≤ from
        → AllByRecursion (λ q. (low ≤ q.0) × (q.0 < high)) qs
    weaker from [] a le = tt
    weaker from (q ∷ qs) a le = let first : from ≤ q.0 = a.0.0 in ((omega arith, a.0.1), weaker from qs a.1 le)

IsStrictlyIncreasing-numbers : (low high : ℕ) (es : List (ℕ × Message)) → AreNumbered low high es → IsStrictlyIncreasing (numbers es)
IsStrictlyIncreasing-numbers low high [] h k l = absurd (omega arith)
IsStrictlyIncreasing-numbers low high (p ∷ []) h k l = absurd (omega arith)
IsStrictlyIncreasing-numbers low high (p ∷ q ∷ qs) h zero l = let up : p.0 + 1 ≤ q.0 = h.1.0 in omega arith
IsStrictlyIncreasing-numbers low high (p ∷ q ∷ qs) h (suc k) l =
    let place : suc k + 1 ≡ suc (k + 1) = omega arith in
    rw place (IsStrictlyIncreasing-numbers (p.0 + 1) high (q ∷ qs) h.1 k (omega arith))

-- what all messages sent and delivered so far have to do with the bag
record IsHistory (first : ℕ) (given done : List (ℕ × Message)) (bag : InFlight) : Type 0 where
  given_numbered : AreNumbered first bag.next given
  bag_numbered : IsNumbered bag
  whole : IsPermutation given (done ++ bag.messages)
  ordered : Pairs MayPrecede (done ++ bag.messages)

IsHistory-opened : (first : ℕ) → first ≤ 2 ^ 63 → IsHistory first [] [] (opened first)
IsHistory-opened first le = record {
  given_numbered = omega arith;
  bag_numbered = (omega arith, le);
  whole = IsPermutation-refl [];
  ordered = tt;
}

module _ (first : ℕ) (given done : List (ℕ × Message)) (bag : InFlight) (h : IsHistory first given done bag) where
  IsHistory-same : IsHistory first (given ++ []) (done ++ []) bag
  IsHistory-same = rw (append-nil given, append-nil done) h

  all_older : AllByRecursion (λ p. p.0 < bag.next) (done ++ bag.messages)
  all_older =
      let Between : ℕ × Message → Type 0 = λ p. (first ≤ p.0) × (p.0 < bag.next) in
      let below : All Between given = All-from_recursion Between given (all_between first bag.next given h.given_numbered) in
      recursion_from_All (λ p. p.0 < bag.next) (done ++ bag.messages)
      (All-weaker Between (λ p. p.0 < bag.next) (λ p b. b.1) (done ++ bag.messages) (All-permutation Between given (done ++ bag.messages) h.whole below))

  IsHistory-sent : (m : Message) (copies : ℕ) → bag.next + copies ≤ 2 ^ 63
      → IsHistory first (given ++ copies_of m bag.next copies) (done ++ []) (with_sent bag m copies)
  IsHistory-sent m copies le =
      let new = copies_of m bag.next copies in
      rw (append-nil done) (record {
        given_numbered = AreNumbered-sent first bag.next copies given m h.given_numbered;
        bag_numbered = (AreNumbered-sent 0 bag.next copies bag.messages m h.bag_numbered.0, le);
        whole = rw (← append_assoc done bag.messages new) (IsPermutation-append_left new given (done ++ bag.messages) h.whole);
        ordered = rw (← append_assoc done bag.messages new)
            (Pairs-sent bag.next (bag.next + copies) (done ++ bag.messages) new all_older h.ordered
            (AreNumbered-copies_of m bag.next bag.next copies (omega arith)));
      })

  IsHistory-delivered : (n : ℕ) → IsPermitted bag (Deliver n) → IsHistory first (given ++ []) (done ++ delivered_by bag (Deliver n)) (without bag n)
  IsHistory-delivered n may =
      let m = may.0 in
      rw (append-nil given, may.1) (record {
        given_numbered = h.given_numbered;
        bag_numbered = (AreNumbered-remove 0 bag.next n bag.messages h.bag_numbered.0, h.bag_numbered.1);
        whole = IsPermutation-pop_more given done bag.messages (without bag n).messages (n, m) h.whole (IsPermutation-taken n m bag.messages may.1);
        ordered = Pairs-delivered n m 0 bag.next done bag.messages h.bag_numbered.0 may.1 may.2 h.ordered;
      })

  IsHistory-call : (call : Call) → IsPermitted bag call → IsHistory first (given ++ sent_by bag call) (done ++ delivered_by bag call) (after bag call)
  IsHistory-call Left may = IsHistory-same
  IsHistory-call (Send m copies) may = IsHistory-sent m copies may.2
  IsHistory-call (Get n) may = IsHistory-same
  IsHistory-call (AskMayDeliver n) may = IsHistory-same
  IsHistory-call (Deliver n) may = IsHistory-delivered n may

IsHistory-calls : (first : ℕ) (given done : List (ℕ × Message)) (bag : InFlight) → IsHistory first given done bag → (calls : List Call)
    → ArePermitted bag calls
    → IsHistory first (given ++ sent bag calls) (done ++ delivered bag calls) (after_all bag calls)
IsHistory-calls first given done bag h [] may = IsHistory-same first given done bag h
IsHistory-calls first given done bag h (call ∷ calls) may =
    let next = IsHistory-call first given done bag h call may.0 in
    rw (← append_assoc given (sent_by bag call) (sent (after bag call) calls), ← append_assoc done (delivered_by bag call) (delivered (after bag call) calls))
    (IsHistory-calls first (given ++ sent_by bag call) (done ++ delivered_by bag call) (after bag call) next calls may.1)

history : (first : ℕ) → first ≤ 2 ^ 63 → (calls : List Call) → ArePermitted (opened first) calls
    → IsHistory first (sent (opened first) calls) (delivered (opened first) calls) (after_all (opened first) calls)
history first le calls may = IsHistory-calls first [] [] (opened first) (IsHistory-opened first le) calls may

pub gives_numbers_once : Always GivesNumbersOnce
gives_numbers_once first le calls may =
    let h = history first le calls may in
    let given = sent (opened first) calls in
    let end = (after_all (opened first) calls).next in
    let limit : end ≤ 2 ^ 63 = h.bag_numbered.1 in
    let Between : ℕ × Message → Type 0 = λ p. (first ≤ p.0) × (p.0 < end) in (
      IsStrictlyIncreasing-numbers first end given h.given_numbered,
      All-map (λ n. (first ≤ n) × (n < 2 ^ 63)) (λ p. p.0) given
          (All-weaker Between (λ p. (first ≤ p.0) × (p.0 < 2 ^ 63)) (λ p b. (b.0, omega arith)) given
          (All-from_recursion Between given (all_between first end given h.given_numbered))),
    )

-- the first message of a bag may be delivered, since no message is older
oldest_may : (next : ℕ) (es : List (ℕ × Message)) → AreNumbered 0 next es
    → IfSome (slice_get es 0) (λ oldest. MayDeliver (record { messages = es; next = next }) oldest.0)
oldest_may next [] h = tt
oldest_may next (p ∷ ps) h =
    let itself : nat_eq p.0 p.0 ≡ true = grind (arith, nat_tests) in
    (p.1, rw itself refl, λ k older lt found. absurd (let none = lookup-below p.0 next k (p ∷ ps) lt (omega arith, h.1) in cc))

pub never_stops : Always NeverStops
never_stops first le calls may =
    let end = after_all (opened first) calls in
    oldest_may end.next end.messages (history first le calls may).bag_numbered.0

pub loses_none : Always LosesNone
loses_none first le calls may = (history first le calls may).whole

pub keeps_order : Always KeepsOrder
keeps_order first le calls may =
    AllPairs-from_Pairs MayPrecede (delivered (opened first) calls ++ (after_all (opened first) calls).messages) (history first le calls may).ordered
