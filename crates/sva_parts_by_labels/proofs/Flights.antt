-- Messages in flight, seen.
use Rattle.std.proofs.Common.{◌≡◌, ◌↔◌, refl, ap, sym, ◌∙◌, ℕ, zero, suc, ◌+◌, ◌<◌, Bool, true, false, arith}
use Rattle.std.specs.Prelude.{cond, IsTrue, nat_eq, nat_lt, ◌==◌, ◌&&◌, ◌||◌, not, Some, List, [], ◌∷◌, ◌++◌, map, filter, find}
use Rattle.std.specs.List.{list_any, range_with_len}
use Rattle.std.specs.Map.{lookup, remove_entry}
use Rattle.std.proofs.lemmas.List.{map-append}
use Rattle.std.proofs.lemmas.Bool.Decides.{nat_tests}
use Rattle.sva_labels.proofs.Tests.{one_shifted}
use Rattle.sva_model.specs.Words.{tabulate}
use Rattle.sva_model.specs.LinkOrder.{stays_behind}
use Rattle.sva_model.specs.Wire.{FlightWire}
use Rattle.sva_labels.specs.Finding as finding
use Rattle.sva_msg.specs.declared.messages.Message.{Message}
use Rattle.sva_msg.specs.declared.messages.Kind.{Kind}
use Rattle.sva_msg.specs.declared.messages.Kind.TheVariants.{Start, Stop, Reset, Completion, Invalidate, Response, Request, Invalidated, PageRequest}
use Rattle.sva_msg.specs.declared.messages.Kind.TheVariants.{Marker, ResetDone}
use Rattle.sva_msg.specs.Kind.{kind_of}
use Rattle.sva_msg.specs.Bag.{InFlight, AreNumbered, MayDeliver, copies_of, must_follow}
use Rattle.sva_msg.proofs.Deliverable.{any_older, may_deliver-is}
use Rattle.sva_labels.proofs.Lists.{tabulate_same}
use Rattle.sva_parts_by_labels.specs.Flights.{kind_seen, flight_seen, flights_seen, flight_at, FlightLaws}
use Rattle.sva_labels.proofs.Lists.{tabulate_first}
use Rattle.sva_parts_by_labels.proofs.Tables.{map_twice}

abbrev Entry : Type 0
Entry = ℕ × Message

abbrev seen : List Entry → List FlightWire
seen entries = map flight_seen entries

flipped : (n k : ℕ) → (k == n) ≡ nat_eq n k
flipped n k = grind (arith, nat_tests)

same_of : (n k : ℕ) → nat_eq n k ≡ true → k ≡ n
same_of n k h = grind (arith, nat_tests)

-- A message by its number.

found_in : (n : ℕ) (es : List Entry) → find (λ f. f.number == n) (seen es) ≡ flight_at n (lookup (nat_eq n) es)
found_in n [] = refl
found_in n (e ∷ es) = ap (λ b. cond b (Some (flight_seen e)) (find (λ f. f.number == n) (seen es))) (flipped n e.0) ∙ go (nat_eq n e.0) refl (found_in n es)
  where
    go : (b : Bool) → nat_eq n e.0 ≡ b → find (λ f. f.number == n) (seen es) ≡ flight_at n (lookup (nat_eq n) es)
        → cond b (Some (flight_seen e)) (find (λ f. f.number == n) (seen es)) ≡ flight_at n (cond b (Some e.1) (lookup (nat_eq n) es))
    go true h rest = ap (λ k. Some (flight_seen (k, e.1))) (same_of n e.0 h)
    go false h rest = rest

-- A message that has to stay behind another.

kind_kept : (kind : Kind) → finding.kind_of (kind_seen kind) ≡ kind_of kind
kind_kept (Start pasid) = refl
kind_kept (Stop pasid) = refl
kind_kept Reset = refl
kind_kept (Completion tag frame read write) = refl
kind_kept (Invalidate itag pasid scope) = refl
kind_kept (Response pasid index code) = refl
kind_kept (Request tag pasid page) = refl
kind_kept (Invalidated vector count) = refl
kind_kept (PageRequest r) = refl
kind_kept (Marker pasid) = refl
kind_kept ResetDone = refl

held_seen : (n : ℕ) (sent : Message) (e : Entry) → finding.holds_back (flight_seen (n, sent)) (flight_seen e) ≡ (nat_lt e.0 n && must_follow sent e.1)
held_seen n sent e =
    (λ i. (nat_lt e.0 n && flipped sent.endpoint e.1.endpoint i) && stays_behind (kind_kept sent.kind i) (kind_kept e.1.kind i))
    ∙ in_turn (nat_lt e.0 n) (nat_eq sent.endpoint e.1.endpoint) (stays_behind (kind_of sent.kind) (kind_of e.1.kind))
  where
    in_turn : (a b c : Bool) → ((a && b) && c) ≡ (a && (b && c))
    in_turn true b c = refl
    in_turn false b c = refl

any_seen : (n : ℕ) (sent : Message) (es : List Entry) → list_any (finding.holds_back (flight_seen (n, sent))) (seen es) ≡ any_older (must_follow sent) n es
any_seen n sent [] = refl
any_seen n sent (e ∷ es) = λ i. held_seen n sent e i || any_seen n sent es i

may_by : (bag : InFlight) (n : ℕ) (r s : Bool) → r ≡ s → (IsTrue (not s) ↔ MayDeliver bag n) → (r ≡ false) ↔ MayDeliver bag n
may_by bag n true true h k = (λ e. absurd (cc (e)), λ m. absurd (cc (k.1 m)))
may_by bag n false false h k = (λ e. k.0 refl, λ m. refl)
may_by bag n true false h k = absurd (cc (h))
may_by bag n false true h k = absurd (cc (h))

-- Messages that are sent.

row_mapped : {A : Type 0} (f : ℕ → A) (first n : ℕ) → map f (range_with_len first n) ≡ tabulate n (λ j. f (first + j))
unfolding tabulate
row_mapped f first zero = refl
row_mapped f first (suc n) =
    let here : first ≡ first + 0 = omega arith in
    (λ i. f (here i) ∷ row_mapped f (first + 1) n i)
    ∙ ap (λ l. f (first + 0) ∷ l) (tabulate_same n (λ j. f (first + 1 + j)) (λ j. f (first + suc j)) (λ j l. ap f (one_shifted first j)))
    ∙ sym (tabulate_first n (λ j. f (first + j)))

-- A message that is delivered.

none_of : (n low high : ℕ) (es : List Entry) → n < low → AreNumbered low high es → filter (λ f. not (f.number == n)) (seen es) ≡ seen es
none_of n low high [] l h = refl
none_of n low high (e ∷ es) l h =
    let other : (e.0 == n) ≡ false = grind (arith, nat_tests, l, h.0) in
    ap (λ (b : Bool). cond (not b) (flight_seen e ∷ filter (λ f. not (f.number == n)) (seen es)) (filter (λ f. not (f.number == n)) (seen es))) other
    ∙ ap (λ l. flight_seen e ∷ l) (none_of n (e.0 + 1) high es (omega (arith, l, h.0)) h.1)

left_in : (n low high : ℕ) (es : List Entry) → AreNumbered low high es → seen (remove_entry (nat_eq n) es) ≡ filter (λ f. not (f.number == n)) (seen es)
left_in n low high [] h = refl
left_in n low high (e ∷ es) h =
    go (nat_eq n e.0) refl (left_in n (e.0 + 1) high es h.1)
    ∙ ap (λ (b : Bool). cond (not b) (flight_seen e ∷ filter (λ f. not (f.number == n)) (seen es)) (filter (λ f. not (f.number == n)) (seen es)))
    (sym (flipped n e.0))
  where
    above : nat_eq n e.0 ≡ true → n < e.0 + 1
    above k = let same : e.0 ≡ n = same_of n e.0 k in omega (arith, same)

    go : (b : Bool) → nat_eq n e.0 ≡ b → seen (remove_entry (nat_eq n) es) ≡ filter (λ f. not (f.number == n)) (seen es)
        → seen (cond b es (e ∷ remove_entry (nat_eq n) es))
        ≡ cond (not b) (flight_seen e ∷ filter (λ f. not (f.number == n)) (seen es)) (filter (λ f. not (f.number == n)) (seen es))
    go true k rest = sym (none_of n (e.0 + 1) high es (above k) h.1)
    go false k rest = ap (λ l. flight_seen e ∷ l) rest

pub flight_laws : FlightLaws
flight_laws bag h =
    record {
      by_number = λ n. found_in n bag.messages;
      may_deliver = λ n sent there.
          may_by bag n (list_any (finding.holds_back (flight_seen (n, sent))) (flights_seen bag)) (any_older (must_follow sent) n bag.messages)
          (any_seen n sent bag.messages) (may_deliver-is bag n sent (any_older (must_follow sent) n bag.messages) h there refl);
      one_sent = λ sent. map-append flight_seen bag.messages (copies_of sent bag.next 1);
      copies_sent = λ sent copies.
          map-append flight_seen bag.messages (copies_of sent bag.next copies)
          ∙ ap (λ l. flights_seen bag ++ l)
          (map_twice (λ number. (number, sent)) flight_seen (range_with_len bag.next copies)
          ∙ row_mapped (λ number. flight_seen (number, sent)) bag.next copies);
      delivered = λ n. left_in n 0 bag.next bag.messages h.0;
    }
