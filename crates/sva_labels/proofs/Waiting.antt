-- Page requests that wait to be filed, in flight and in the page request queues: what each move leaves of them.
use Rattle.std.proofs.Common.{◌≡◌, ◌⊎◌, inl, inr, refl, ap, sym, ◌∙◌, ℕ, zero, suc, ◌+◌, ◌<◌, ◌≤◌, Bool, true, false, arith, get_or}
use Rattle.std.specs.Prelude.{cond, ◌||◌, ◌==◌, not, if◌then◌else◌, Some, List, [], ◌∷◌, ◌++◌, length, take, drop, filter, slice_set}
use Rattle.std.specs.List.{count_by, sum_by, find, list_any}
use Rattle.std.proofs.lemmas.List.{take_all}
use Rattle.std.proofs.lemmas.List.Sums.{sum_by-cons, sum_by-append, sum_by_more}
use Rattle.std.proofs.lemmas.Bool.{eqb-true}
use Rattle.sva_model.specs.Words.{tabulate}
use Rattle.sva_model.specs.Message.{Message}
use Rattle.sva_model.specs.Message.Message.{StartMessage, StopMessage, ResetMessage, InvalidateMessage, ResponseMessage, RequestMessage}
use Rattle.sva_model.specs.Message.Message.{InvalidatedMessage, PageRequestMessage, MarkerMessage, ResetDoneMessage}
use Rattle.sva_model.specs.StateChanges.{count_field, scope_of}
use Rattle.sva_model.specs.Wire.{Wire, EndpointWire, FlightWire, DeviceWire, UnitWire, PageRequestWire}
use Rattle.sva_labels.specs.Finding.{idle, part_of, submits, flight_of}
use Rattle.sva_labels.specs.Moves.{Move, moved, all_moved, with_part, with_device, with_unit, part_unmapped, sent, sent_copies, delivered, filed}
use Rattle.sva_labels.specs.Waiting.{is_page_request, waiting}

-- In flight.

abbrev asks : FlightWire → Bool
asks f = is_page_request f.message

count_cons : (f : FlightWire) (fs : List FlightWire) → count_by asks (f ∷ fs) ≡ (if asks f then 1 else 0) + count_by asks fs
count_cons f fs = sum_by-cons (λ (x : FlightWire). cond (asks x) 1 0) f fs

count_both : (fs gs : List FlightWire) → count_by asks (fs ++ gs) ≡ count_by asks fs + count_by asks gs
count_both fs gs = sum_by-append (λ (x : FlightWire). cond (asks x) 1 0) fs gs

count_one : (f : FlightWire) → count_by asks (f ∷ []) ≤ 1
count_one f = go (asks f)
  where
    go : (b : Bool) → 0 + cond b 1 0 ≤ 1
    go true = omega arith
    go false = omega arith

count_copies : (n : ℕ) (f : ℕ → FlightWire) → ((k : ℕ) → asks (f k) ≡ false) → count_by asks (tabulate n f) ≡ 0
unfolding tabulate
count_copies zero f h = refl
count_copies (suc n) f h =
    let rest = count_copies n f h in
    let both = count_both (tabulate n f) (f n ∷ []) in
    let last = count_cons (f n) [] in
    let none : ◌≡◌ {A = ℕ} (if asks (f n) then 1 else 0) 0 = ap (λ b. if b then 1 else 0) (h n) in
    omega (arith, rest, both, last, none)

count_left : (q : FlightWire → Bool) (fs : List FlightWire) → count_by asks (filter q fs) ≤ count_by asks fs
count_left q [] = omega arith
count_left q (f ∷ fs) = go (q f) (count_left q fs)
  where
    go : (b : Bool) → count_by asks (filter q fs) ≤ count_by asks fs → count_by asks (cond b (f ∷ filter q fs) (filter q fs)) ≤ count_by asks (f ∷ fs)
    go true rest = let both = count_cons f (filter q fs) in let one = count_cons f fs in omega (arith, rest, both, one)
    go false rest = let one = count_cons f fs in omega (arith, rest, one)

-- a page request that is found by its number is one fewer once it is delivered
count_found :
    (fs : List FlightWire) (n : ℕ) (f : FlightWire) → find (λ (g : FlightWire). g.number == n) fs ≡ Some f → asks f ≡ true
    → count_by asks (filter (λ (g : FlightWire). not (g.number == n)) fs) + 1 ≤ count_by asks fs
count_found [] n f h t = absurd (cc (h))
count_found (g ∷ fs) n f h t = go (g.number == n) (λ k. count_found fs n f k t) h
  where
    one : (a b : FlightWire) → Some a ≡ Some b → a ≡ b
    one a b e = cc

    go :
        (b : Bool)
        → (find (λ (x : FlightWire). x.number == n) fs ≡ Some f
        → count_by asks (filter (λ (x : FlightWire). not (x.number == n)) fs) + 1 ≤ count_by asks fs)
        → (if b then Some g else find (λ (x : FlightWire). x.number == n) fs) ≡ Some f
        → count_by asks (cond (not b) (g ∷ filter (λ (x : FlightWire). not (x.number == n)) fs) (filter (λ (x : FlightWire). not (x.number == n)) fs)) + 1
        ≤ count_by asks (g ∷ fs)
    go true rest k =
        let left = count_left (λ (x : FlightWire). not (x.number == n)) fs in
        let first = count_cons g fs in
        let its : ◌≡◌ {A = ℕ} (if asks g then 1 else 0) 1 = ap (λ b. if b then 1 else 0) (ap asks (one g f k) ∙ t) in
        omega (arith, left, first, its)
    go false rest k =
        let less = rest k in
        let first = count_cons g fs in
        let both = count_cons g (filter (λ (x : FlightWire). not (x.number == n)) fs) in
        omega (arith, less, first, both)

found_number : (fs : List FlightWire) (n : ℕ) (f : FlightWire) → find (λ (g : FlightWire). g.number == n) fs ≡ Some f → f.number ≡ n
found_number [] n f h = absurd (cc (h))
found_number (g ∷ fs) n f h = go (g.number == n) refl (λ k. found_number fs n f k) h
  where
    one : (a b : FlightWire) → Some a ≡ Some b → a ≡ b
    one a b e = cc

    go :
        (b : Bool) → (g.number == n) ≡ b → (find (λ (x : FlightWire). x.number == n) fs ≡ Some f → f.number ≡ n)
        → (if b then Some g else find (λ (x : FlightWire). x.number == n) fs) ≡ Some f
        → f.number ≡ n
    go true e rest k = sym (ap (λ x. x.number) (one g f k)) ∙ eqb-true g.number n e
    go false e rest k = rest k

-- In the page request queues.

abbrev pub queue : EndpointWire → ℕ
queue p = length p.page_queue

-- one endpoint's queue changes
queue_set :
    (ps : List EndpointWire) (e : ℕ) (q : EndpointWire) (a b : ℕ) → (e < length ps) ⊎ (a ≤ b) → queue q + a ≤ queue (get_or ps e idle) + b
    → sum_by queue (slice_set ps e q) + a ≤ sum_by queue ps + b
queue_set [] e q a b (inl l) h = absurd (omega (arith, l))
queue_set [] e q a b (inr l) h = omega (arith, l)
queue_set (p ∷ ps) zero q a b l h =
    let before = sum_by-cons queue p ps in
    let later = sum_by-cons queue q ps in
    omega (arith, h, before, later)
queue_set (p ∷ ps) (suc e) q a b l h =
    let rest = queue_set ps e q a b (go l) h in
    let before = sum_by-cons queue p ps in
    let later = sum_by-cons queue p (slice_set ps e q) in
    omega (arith, rest, before, later)
  where
    go : (suc e < suc (length ps)) ⊎ (a ≤ b) → (e < length ps) ⊎ (a ≤ b)
    go (inl m) = inl (omega (arith, m))
    go (inr m) = inr m

-- each stays as long as it was
queue_table :
    (n : ℕ) (ps : List EndpointWire) (f : ℕ → EndpointWire) → n ≤ length ps → ((e : ℕ) → queue (f e) ≡ queue (get_or ps e idle))
    → sum_by queue (tabulate n f) ≡ sum_by queue (take n ps)
unfolding tabulate
queue_table zero ps f l h = refl
queue_table (suc n) ps f l h =
    let rest = queue_table n ps f (omega (arith, l)) h in
    let both = sum_by-append queue (tabulate n f) (f n ∷ []) in
    let last = sum_by-cons queue (f n) [] in
    let same = h n in
    let more = sum_by_more queue ps n idle (omega (arith, l)) in
    let next : n + 1 ≡ suc n = omega arith in
    let taken : sum_by queue (take (n + 1) ps) ≡ sum_by queue (take (suc n) ps) = ap (λ k. sum_by queue (take k ps)) next in
    omega (arith, rest, both, last, same, more, taken)

-- Both.

-- so many are filed, and the rest wait, or took a number
abbrev pub IsInTurn : (before after : Wire) (filed : ℕ) → Type 0
IsInTurn w v k = waiting v + k + w.next_message ≤ waiting w + v.next_message

pub unchanged : (w : Wire) → IsInTurn w w 0
unchanged w = omega arith

pub after_both : (w v u : Wire) (j k : ℕ) → IsInTurn w v j → IsInTurn v u k → IsInTurn w u (j + k)
after_both w v u j k a b = omega (arith, a, b)

part_kept : (w : Wire) (e : ℕ) (q : EndpointWire) → queue q ≤ queue (part_of w e) → IsInTurn w (with_part w e q) 0
part_kept w e q h =
    let least : 0 ≤ 0 = omega arith in
    let set = queue_set w.parts e q 0 0 (inr least) (omega (arith, h)) in
    omega (arith, set)

device_kept : (w : Wire) (e : ℕ) (d : DeviceWire) → IsInTurn w (with_device w e d) 0
device_kept w e d = part_kept w e (record (part_of w e) { device = d }) (omega arith)

unit_kept : (w : Wire) (e : ℕ) (u : UnitWire) → IsInTurn w (with_unit w e u) 0
unit_kept w e u = part_kept w e (record (part_of w e) { unit = u }) (omega arith)

sent_kept : (w v : Wire) (e : ℕ) (m : Message) → IsInTurn w v 0 → IsInTurn w (sent e m v) 0
sent_kept w v e m h =
    let both = count_both v.in_flight (record { number = v.next_message; endpoint = e; message = m } ∷ []) in
    let one = count_one (record { number = v.next_message; endpoint = e; message = m }) in
    omega (arith, h, both, one)

copies_kept : (w v : Wire) (count e : ℕ) (m : Message) → is_page_request m ≡ false → IsInTurn w v 0 → IsInTurn w (sent_copies count e m v) 0
copies_kept w v count e m t h =
    let both = count_both v.in_flight (tabulate count (λ j. record { number = v.next_message + j; endpoint = e; message = m })) in
    let none = count_copies count (λ j. record { number = v.next_message + j; endpoint = e; message = m }) (λ j. t) in
    omega (arith, h, both, none)

delivered_kept : (w v : Wire) (n : ℕ) → IsInTurn w v 0 → IsInTurn w (delivered n v) 0
delivered_kept w v n h =
    let left = count_left (λ (f : FlightWire). not (f.number == n)) v.in_flight in
    omega (arith, h, left)

queue_either : (b : Bool) (p q : EndpointWire) → queue q ≡ queue p → queue (if b then q else p) ≡ queue p
queue_either true p q h = h
queue_either false p q h = refl

unmapped_kept : (w : Wire) (n q count order : ℕ) → IsInTurn w (moved w (Move.Unmap n q count order)) 0
unmapped_kept w n q count order =
    let table =
    queue_table (length w.parts) w.parts (part_unmapped w n q count order) (omega arith) (λ e. queue_either (submits w n e) (part_of w e) _ refl) in
    let all : sum_by queue (take (length w.parts) w.parts) ≡ sum_by queue w.parts = ap (sum_by queue) (take_all (length w.parts) w.parts (omega arith)) in
    omega (arith, table, all)

-- Each move. A page request arrives only where it is in flight.

abbrev pub arrives : Move → Bool
arrives (Move.Arrive e n r) = true
arrives _ = false

drop_less : {A : Type 0} (xs : List A) → length (drop 1 xs) ≤ length xs
drop_less [] = omega arith
drop_less (x ∷ xs) = omega arith

file_kept : (w : Wire) (e b : ℕ) (r : PageRequestWire) → IsInTurn w (moved w (Move.File e b r)) 0
file_kept w e b r = part_kept w e _ (drop_less (part_of w e).page_queue)

pub move_kept : (w : Wire) (m : Move) → arrives m ≡ false → IsInTurn w (moved w m) 0
move_kept w Move.NewSpace h = unchanged w
move_kept w (Move.DropSpace n) h = unchanged w
move_kept w (Move.Map n q f x) h = unchanged w
move_kept w (Move.Unmap n q count order) h = unmapped_kept w n q count order
move_kept w Move.NewBinding h = unchanged w
move_kept w (Move.Bind e n b t) h = sent_kept w w e (StartMessage t) (unchanged w)
move_kept w (Move.Stop e b t) h = sent_kept w w e (StopMessage t) (unchanged w)
move_kept w (Move.Drain e b) h = unit_kept w e _
move_kept w (Move.Invalidate e b t) h = unit_kept w e _
move_kept w (Move.Quieten b) h = unchanged w
move_kept w (Move.Release b) h = unchanged w
move_kept w (Move.Send e t pasid extent) h = sent_kept w (with_unit w e _) e (InvalidateMessage t pasid (scope_of extent)) (unit_kept w e _)
move_kept w (Move.Pass e cookie) h = unit_kept w e _
move_kept w (Move.File e b r) h = file_kept w e b r
move_kept w (Move.NewJob job) h = unchanged w
move_kept w (Move.Reset e) h = sent_kept w (with_part w e _) e ResetMessage (part_kept w e _ (omega arith))
move_kept w Move.Hand h = unchanged w
move_kept w (Move.Hold x job) h = unchanged w
move_kept w (Move.LetGo x) h = unchanged w
move_kept w (Move.Respond job t code) h =
    sent_kept w (with_part w job.endpoint _) job.endpoint (ResponseMessage t job.index code) (part_kept w job.endpoint _ (omega arith))
move_kept w Move.Discard h = unchanged w
move_kept w (Move.Ask e t q tag) h = sent_kept w (with_device w e _) e (RequestMessage tag t q) (device_kept w e _)
move_kept w (Move.Begin e slot x) h = device_kept w e _
move_kept w (Move.End e slot) h = device_kept w e _
move_kept w (Move.Evict e t q) h = device_kept w e _
move_kept w (Move.Group e t i q r x l) h = sent_kept w (with_device w e _) e (PageRequestMessage t i q r x l) (device_kept w e _)
move_kept w (Move.Request e t i q r x l) h = sent_kept w (with_device w e _) e (PageRequestMessage t i q r x l) (device_kept w e _)
move_kept w (Move.Finish e vector count) h =
    copies_kept w (with_device w e _) count e (InvalidatedMessage vector (count_field count)) refl (device_kept w e _)
move_kept w (Move.Quit e t) h = sent_kept w (with_device w e _) e (MarkerMessage t) (device_kept w e _)
move_kept w (Move.StartArrives e n t) h = delivered_kept w (with_device w e _) n (device_kept w e _)
move_kept w (Move.StopArrives e n t) h = delivered_kept w (with_device w e _) n (device_kept w e _)
move_kept w (Move.ResetArrives e n) h =
    sent_kept w (delivered n (with_device w e _)) e ResetDoneMessage (delivered_kept w (with_device w e _) n (device_kept w e _))
move_kept w (Move.Keep e n tag x) h = delivered_kept w (with_device w e _) n (device_kept w e _)
move_kept w (Move.Forget e n tag) h = delivered_kept w (with_device w e _) n (device_kept w e _)
move_kept w (Move.Take e n itag t extent) h = delivered_kept w (with_device w e _) n (device_kept w e _)
move_kept w (Move.Answered e n i code) h = delivered_kept w (with_device w e _) n (device_kept w e _)
move_kept w (Move.Complete e n answer) h = sent_kept w (delivered n w) e answer (delivered_kept w w n (unchanged w))
move_kept w (Move.Count e n vector count) h = delivered_kept w (with_unit w e _) n (unit_kept w e _)
move_kept w (Move.Arrive e n r) h = absurd (cc (h))
move_kept w (Move.Mark e n b) h = delivered_kept w w n (unchanged w)
move_kept w (Move.Ignore n) h = delivered_kept w w n (unchanged w)
move_kept w (Move.Reopen e n) h = delivered_kept w (with_unit w e _) n (unit_kept w e _)

pub moves_kept : (ms : List Move) (w : Wire) → list_any arrives ms ≡ false → IsInTurn w (all_moved w ms) 0
moves_kept [] w h = unchanged w
moves_kept (m ∷ ms) w h = go (arrives m) refl (λ k. moves_kept ms (moved w m) k) h
  where
    go :
        (b : Bool) → arrives m ≡ b → (list_any arrives ms ≡ false → IsInTurn (moved w m) (all_moved (moved w m) ms) 0)
        → (b || list_any arrives ms) ≡ false
        → IsInTurn w (all_moved (moved w m) ms) 0
    go true e rest k = absurd (cc (k))
    go false e rest k = after_both w (moved w m) (all_moved (moved w m) ms) 0 0 (move_kept w m e) (rest k)

-- one that is in flight
pub arrived_kept :
    (w : Wire) (f : FlightWire) (n : ℕ) (r : PageRequestWire) → flight_of w n ≡ Some f → is_page_request f.message ≡ true
    → IsInTurn w (moved w (Move.Arrive f.endpoint f.number r)) 0
arrived_kept w f n r h t =
    let same = found_number w.in_flight n f h in
    let found = count_found w.in_flight f.number f (ap (λ k. find (λ (g : FlightWire). g.number == k) w.in_flight) same ∙ h) t in
    let least : 0 ≤ 1 = omega arith in
    let longer = push_length (part_of w f.endpoint).page_queue r in
    let set =
    queue_set w.parts f.endpoint (record (part_of w f.endpoint) { page_queue = (part_of w f.endpoint).page_queue ++ r ∷ [] }) 0 1 (inr least)
    (omega (arith, longer)) in
    omega (arith, found, set)
  where
    push_length : (rs : List PageRequestWire) (r : PageRequestWire) → length (rs ++ r ∷ []) ≡ length rs + 1
    push_length [] r = refl
    push_length (x ∷ rs) r = let rest = push_length rs r in omega (arith, rest)

-- the head of a queue is filed
pub file_counted :
    (w : Wire) (e b : ℕ) (r : PageRequestWire) (rs : List PageRequestWire) → e < length w.parts → (part_of w e).page_queue ≡ r ∷ rs
    → IsInTurn w (moved w (Move.File e b r)) 1
file_counted w e b r rs l h =
    let less : length (drop 1 (part_of w e).page_queue) + 1 ≡ length (part_of w e).page_queue = shorter (part_of w e).page_queue h in
    let set =
    queue_set w.parts e (record (part_of w e) { page_queue = drop 1 (part_of w e).page_queue; host_groups = filed b r (part_of w e).host_groups }) 1 0 (inl l)
    (omega (arith, less)) in
    omega (arith, set)
  where
    shorter : (qs : List PageRequestWire) → qs ≡ r ∷ rs → length (drop 1 qs) + 1 ≡ length qs
    shorter [] k = absurd (cc (k))
    shorter (q ∷ qs) k = omega arith
