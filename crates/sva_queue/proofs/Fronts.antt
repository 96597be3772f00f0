-- Which waits the front tells to be done.
use Rattle.std.proofs.Common.{◌≡◌, ℕ, ◌+◌, ◌<◌, ◌≤◌, ◌⊎◌, inl, inr, Bool, true, false, List, [], ◌∷◌, ◌++◌, length, nat_le, if◌then◌else◌, refl, ap, sym}
use Rattle.std.proofs.Common.{◌∙◌, subst, append_assoc, append-nil, arith}
use Rattle.std.specs.Prelude.{Contains}
use Rattle.std.specs.List.{list_any}
use Rattle.std.proofs.lemmas.List.Elements.{Contains-append_left, Contains-append_right, Contains-append_cases}
use Rattle.sva_itags.specs.Tags.{lowest_free}
use Rattle.sva_queue.specs.declared.descriptors.Descriptor.{Descriptor}
use Rattle.sva_queue.specs.declared.descriptors.Descriptor.TheVariants.{Range, Pasid, Wait}
use Rattle.sva_queue.specs.declared.descriptors.Pumped.{Pumped}
use Rattle.sva_queue.specs.declared.descriptors.Pumped.TheVariants.{Issued, Done, Blocked, Idle}
use Rattle.sva_queue.specs.Cookies.{cookies_of, number_after}
use Rattle.sva_queue.specs.Queue.{Queue, InOrder, empty, with_more, submitted, next_of, after_answer, answer_at, is_complete, reset_begun, reset_ended}
use Rattle.sva_queue.specs.Calls.{Call, after, after_all, entering, all_entering, taken_off, leaving, ArePermitted}
use Rattle.sva_queue.specs.Calls.Call.{Submit, Pump, Arrived, BeginReset, EndReset}
use Rattle.sva_queue.specs.Fronts.{cookie_done, done_by, all_done, voided_by, all_voided, ends_reset, void_in_reset, PendingFromFront, DoneBelowFront}
use Rattle.sva_queue.specs.Fronts.{AlwaysInOrder}
use Rattle.sva_queue.proofs.Cookies.{contains_none, contains_one, cookies-append, rising-within}
use Rattle.sva_queue.proofs.InTurn.{one_step}
use Rattle.sva_queue.proofs.Kept.{issued_not_done, wait_not_issued, wait_done, done-cookies, empty-idle, call-in_order, all-in_order, empty-in_order}

pub always_in_order : AlwaysInOrder
always_in_order calls p = all-in_order calls empty p empty-in_order

-- ---- the front never falls
pump-front : (answer : Pumped) (queue : Queue) (e : Bool) → next_of queue e ≡ answer → InOrder queue → queue.front ≤ (after_answer answer queue).front
pump-front (Issued tag) queue e is o = omega arith
pump-front (Done cookie) queue e is o =
    let (rising, number, _) = done-cookies queue e cookie queue.front queue.descriptors is in
    omega (arith, (rising o.rising).0)
pump-front Blocked queue e is o = omega arith
pump-front Idle queue e is o = omega arith

submit-front : (queue : Queue) (more : List Descriptor) (fits : Bool) → (if fits then with_more more queue else queue).front ≡ queue.front
submit-front queue more true = refl
submit-front queue more false = refl

ended-front : (b : Bool) (front back : ℕ) → front ≤ back → front ≤ (if b then front else back)
ended-front true front back h = omega arith
ended-front false front back h = h

call-front : (call : Call) (queue : Queue) → InOrder queue → queue.front ≤ (after queue call).front
call-front (Submit more) queue o = omega (arith, submit-front queue more (nat_le (length queue.descriptors + length more) 64))
call-front (Pump e) queue o = pump-front (next_of queue e) queue e refl o
call-front (Arrived v n) queue o = omega arith
call-front BeginReset queue o = omega arith
call-front EndReset queue o = ended-front queue.is_open queue.front queue.back o.reached

all-front : (calls : List Call) (queue : Queue) → ArePermitted queue calls → InOrder queue → queue.front ≤ (after_all queue calls).front
all-front [] queue p o = omega arith
all-front (call ∷ calls) queue p o =
    omega (arith, call-front call queue o, all-front calls (after queue call) p.1 (call-in_order call queue p.0 o))

-- a cookie that is queued is below the back
below-back : (queue : Queue) → InOrder queue → (cookie : ℕ) → Contains (cookies_of queue.descriptors) cookie → cookie < queue.back
below-back queue o cookie h = by queue.is_open refl
  where
    by : (b : Bool) → b ≡ queue.is_open → cookie < queue.back
    by true opened =
        let within : (queue.front ≤ cookie) × (cookie < number_after queue.front queue.descriptors) =
        rising-within queue.descriptors queue.front cookie o.rising h in
        omega (arith, within.1, o.at_open (sym opened))
    by false closed = absurd (contains_none cookie (subst (λ ds. Contains (cookies_of ds) cookie) (o.in_reset (sym closed)) h))

-- ---- a unit in reset
-- The calls at a unit in reset, up to the end of the reset, leave the front; and its end raises it to the back.
record InReset (ends : Bool) (front back front_then : ℕ) : Type 0 where
  pub stays : ends ≡ false → front_then ≡ front
  pub raised : ends ≡ true → back ≤ front_then

idle-same : (answer : Pumped) (queue : Queue) → answer ≡ Idle → after_answer answer queue ≡ queue
idle-same (Issued tag) queue h = absurd (cc)
idle-same (Done cookie) queue h = absurd (cc)
idle-same Blocked queue h = refl
idle-same Idle queue h = refl

in_reset : (calls : List Call) (queue : Queue) → ArePermitted queue calls → InOrder queue → queue.is_open ≡ false
    → InReset (list_any ends_reset calls) queue.front queue.back (after_all queue calls).front
in_reset [] queue p o closed = record { stays = λ _. refl; raised = λ k. absurd (cc) }
in_reset (Submit more ∷ calls) queue p o closed = absurd (cc p.0.opened)
in_reset (Pump e ∷ calls) queue p o closed =
    let idle : next_of queue e ≡ Idle = empty-idle queue e queue.descriptors (o.in_reset closed) in
    let same : after queue (Pump e) ≡ queue = idle-same (next_of queue e) queue idle in
    let alike : (after_all queue calls).front ≡ (after_all (after queue (Pump e)) calls).front = ap (λ (q : Queue). (after_all q calls).front) (sym same) in
    subst (λ n. InReset (list_any ends_reset calls) queue.front queue.back n) alike
    (in_reset calls queue (subst (λ q. ArePermitted q calls) same p.1) o closed)
in_reset (Arrived v n ∷ calls) queue p o closed = in_reset calls (after queue (Arrived v n)) p.1 (call-in_order (Arrived v n) queue p.0 o) closed
in_reset (BeginReset ∷ calls) queue p o closed = in_reset calls (reset_begun queue) p.1 (call-in_order BeginReset queue p.0 o) refl
in_reset (EndReset ∷ calls) queue p o closed =
    let later : (reset_ended queue).front ≤ (after_all (reset_ended queue) calls).front =
    all-front calls (reset_ended queue) p.1 (call-in_order EndReset queue p.0 o) in
    let raised : (reset_ended queue).front ≡ queue.back = ap (λ (b : Bool). if b then queue.front else queue.back) closed in
    record { stays = λ k. absurd (cc); raised = λ _. omega (arith, later, raised) }

-- ---- what is pending isn't below the front
begun-from_front : (ends : Bool) (calls : List Call) (queue : Queue) → ends ≡ list_any ends_reset calls → ArePermitted (reset_begun queue) calls
    → InOrder queue → (cookie : ℕ)
    → (Contains (void_in_reset (reset_begun queue) calls) cookie → (after_all (reset_begun queue) calls).front ≤ cookie)
    → Contains ((if ends then [] else cookies_of queue.descriptors) ++ void_in_reset (reset_begun queue) calls) cookie
    → (after_all (reset_begun queue) calls).front ≤ cookie
begun-from_front true calls queue is p o cookie rest h = rest h
begun-from_front false calls queue is p o cookie rest h =
    elim (Contains-append_cases (cookies_of queue.descriptors) (void_in_reset (reset_begun queue) calls) cookie h) [
      | inl here ↦
          let stays : (after_all (reset_begun queue) calls).front ≡ queue.front =
          (in_reset calls (reset_begun queue) p (call-in_order BeginReset queue tt o) refl).stays (sym is) in
          let within : (queue.front ≤ cookie) × (cookie < number_after queue.front queue.descriptors) =
          rising-within queue.descriptors queue.front cookie o.rising here in
          omega (arith, stays, within.0)
      | inr there ↦ rest there
    ]

-- a call that makes nothing void
none_then : (b : Bool) (ns : List ℕ) (n : ℕ) → Contains ((if b then [] else []) ++ ns) n → Contains ns n
none_then true ns n h = h
none_then false ns n h = h

void-from_front : (calls : List Call) (queue : Queue) → ArePermitted queue calls → InOrder queue → (cookie : ℕ)
    → Contains (void_in_reset queue calls) cookie → (after_all queue calls).front ≤ cookie
void-from_front [] queue p o cookie h = absurd (contains_none cookie h)
void-from_front (Submit more ∷ calls) queue p o cookie h =
    void-from_front calls (after queue (Submit more)) p.1 (call-in_order (Submit more) queue p.0 o) cookie (none_then (list_any ends_reset calls) _ cookie h)
void-from_front (Pump e ∷ calls) queue p o cookie h =
    void-from_front calls (after queue (Pump e)) p.1 (call-in_order (Pump e) queue p.0 o) cookie (none_then (list_any ends_reset calls) _ cookie h)
void-from_front (Arrived v n ∷ calls) queue p o cookie h =
    void-from_front calls (after queue (Arrived v n)) p.1 (call-in_order (Arrived v n) queue p.0 o) cookie (none_then (list_any ends_reset calls) _ cookie h)
void-from_front (BeginReset ∷ calls) queue p o cookie h =
    begun-from_front (list_any ends_reset calls) calls queue refl p.1 o cookie
    (void-from_front calls (reset_begun queue) p.1 (call-in_order BeginReset queue p.0 o) cookie) h
void-from_front (EndReset ∷ calls) queue p o cookie h =
    void-from_front calls (after queue EndReset) p.1 (call-in_order EndReset queue p.0 o) cookie (none_then (list_any ends_reset calls) _ cookie h)

-- ---- what is done is below the front
cookie_done-front : (answer : Pumped) (queue : Queue) (cookie : ℕ) → Contains (cookie_done answer) cookie → cookie < (after_answer answer queue).front
cookie_done-front (Issued tag) queue cookie h = absurd (contains_none cookie h)
cookie_done-front (Done c) queue cookie h = omega (arith, contains_one c cookie h)
cookie_done-front Blocked queue cookie h = absurd (contains_none cookie h)
cookie_done-front Idle queue cookie h = absurd (contains_none cookie h)

done_by-front : (call : Call) (queue : Queue) (cookie : ℕ) → Contains (done_by queue call) cookie → cookie < (after queue call).front
done_by-front (Submit more) queue cookie h = absurd (contains_none cookie h)
done_by-front (Pump e) queue cookie h = cookie_done-front (next_of queue e) queue cookie h
done_by-front (Arrived v n) queue cookie h = absurd (contains_none cookie h)
done_by-front BeginReset queue cookie h = absurd (contains_none cookie h)
done_by-front EndReset queue cookie h = absurd (contains_none cookie h)

done-below : (calls : List Call) (queue : Queue) → ArePermitted queue calls → InOrder queue → (cookie : ℕ) → Contains (all_done queue calls) cookie
    → cookie < (after_all queue calls).front
done-below [] queue p o cookie h = absurd (contains_none cookie h)
done-below (call ∷ calls) queue p o cookie h =
    elim (Contains-append_cases (done_by queue call) (all_done (after queue call) calls) cookie h) [
      | inl here ↦ omega (arith, done_by-front call queue cookie here, all-front calls (after queue call) p.1 (call-in_order call queue p.0 o))
      | inr there ↦ done-below calls (after queue call) p.1 (call-in_order call queue p.0 o) cookie there
    ]

-- ---- what was submitted is queued, done or void
-- where a cookie is after a list of calls
data IsAt (queue : Queue) (calls : List Call) (cookie : ℕ) : Type 0 where
  Queued : Contains (cookies_of (after_all queue calls).descriptors) cookie → IsAt queue calls cookie
  Void : Contains (void_in_reset queue calls) cookie → Contains (all_voided queue calls) cookie → IsAt queue calls cookie
  Taken : Contains (all_done queue calls) cookie → IsAt queue calls cookie
  Ended : Contains (all_voided queue calls) cookie → cookie < (after_all queue calls).front → IsAt queue calls cookie

-- one call more, at the beginning
later : (call : Call) (calls : List Call) (queue : Queue) (cookie : ℕ) → IsAt (after queue call) calls cookie → IsAt queue (call ∷ calls) cookie
later call calls queue cookie (Queued h) = Queued h
later call calls queue cookie (Void h v) =
    Void (Contains-append_right (if list_any ends_reset calls then [] else voided_by queue call) (void_in_reset (after queue call) calls) cookie h)
    (Contains-append_right (voided_by queue call) (all_voided (after queue call) calls) cookie v)
later call calls queue cookie (Taken h) = Taken (Contains-append_right (done_by queue call) (all_done (after queue call) calls) cookie h)
later call calls queue cookie (Ended v h) = Ended (Contains-append_right (voided_by queue call) (all_voided (after queue call) calls) cookie v) h

-- the cookies that a pump takes off are those that it answers
cookies-taken_off : (answer : Pumped) (queue : Queue) (e : Bool) (ds : List Descriptor) → answer_at queue e ds ≡ answer
    → cookies_of (taken_off answer ds) ≡ cookie_done answer
cookies-taken_off (Issued tag) queue e [] is = refl
cookies-taken_off (Issued tag) queue e (Range pasid range ∷ ds) is = refl
cookies-taken_off (Issued tag) queue e (Pasid pasid ∷ ds) is = refl
cookies-taken_off (Issued tag) queue e (Wait c drain ∷ ds) is = absurd (wait_not_issued (is_complete queue e drain) c tag is)
cookies-taken_off (Done cookie) queue e [] is = absurd (cc)
cookies-taken_off (Done cookie) queue e (Range pasid range ∷ ds) is = absurd (issued_not_done (lowest_free queue.tags) cookie is)
cookies-taken_off (Done cookie) queue e (Pasid pasid ∷ ds) is = absurd (issued_not_done (lowest_free queue.tags) cookie is)
cookies-taken_off (Done cookie) queue e (Wait c drain ∷ ds) is = ap (λ k. k ∷ []) (wait_done (is_complete queue e drain) c cookie is)
cookies-taken_off Blocked queue e ds is = refl
cookies-taken_off Idle queue e ds is = refl

begun-at : (ends : Bool) (calls : List Call) (queue : Queue) → ends ≡ list_any ends_reset calls → ArePermitted (reset_begun queue) calls
    → InOrder queue → (cookie : ℕ) → Contains (cookies_of queue.descriptors) cookie → IsAt queue (BeginReset ∷ calls) cookie
begun-at true calls queue is p o cookie h =
    let raised : queue.back ≤ (after_all (reset_begun queue) calls).front =
    (in_reset calls (reset_begun queue) p (call-in_order BeginReset queue tt o) refl).raised (sym is) in
    Ended (Contains-append_left (cookies_of queue.descriptors) (all_voided (reset_begun queue) calls) cookie h)
    (omega (arith, raised, below-back queue o cookie h))
begun-at false calls queue is p o cookie h =
    Void (subst (λ b. Contains ((if b then [] else cookies_of queue.descriptors) ++ void_in_reset (reset_begun queue) calls) cookie) is
    (Contains-append_left (cookies_of queue.descriptors) (void_in_reset (reset_begun queue) calls) cookie h))
    (Contains-append_left (cookies_of queue.descriptors) (all_voided (reset_begun queue) calls) cookie h)

-- where a wait is that leaves by the first call
leaves : (call : Call) (calls : List Call) (queue : Queue) → ArePermitted queue (call ∷ calls) → InOrder queue → (cookie : ℕ)
    → Contains (cookies_of (leaving queue call)) cookie → IsAt queue (call ∷ calls) cookie
leaves (Submit more) calls queue p o cookie h = absurd (contains_none cookie h)
leaves (Pump e) calls queue p o cookie h =
    Taken (Contains-append_left (cookie_done (next_of queue e)) (all_done (after queue (Pump e)) calls) cookie
    (subst (λ ns. Contains ns cookie) (cookies-taken_off (next_of queue e) queue e queue.descriptors refl) h))
leaves (Arrived v n) calls queue p o cookie h = absurd (contains_none cookie h)
leaves BeginReset calls queue p o cookie h = begun-at (list_any ends_reset calls) calls queue refl p.1 o cookie h
leaves EndReset calls queue p o cookie h = absurd (contains_none cookie h)

is_at : (calls : List Call) (queue : Queue) → ArePermitted queue calls → InOrder queue → (cookie : ℕ)
    → Contains (cookies_of (queue.descriptors ++ all_entering queue calls)) cookie → IsAt queue calls cookie
is_at [] queue p o cookie h = Queued (subst (λ ds. Contains (cookies_of ds) cookie) (append-nil queue.descriptors) h)
is_at (call ∷ calls) queue p o cookie h =
    let rest = all_entering (after queue call) calls in
    let split : queue.descriptors ++ (entering queue call ++ rest) ≡ leaving queue call ++ ((after queue call).descriptors ++ rest) =
    sym (append_assoc queue.descriptors (entering queue call) rest)
    ∙ ap (λ ds. ds ++ rest) (one_step call queue)
    ∙ append_assoc (leaving queue call) (after queue call).descriptors rest in
    let parts : Contains (cookies_of (leaving queue call) ++ cookies_of ((after queue call).descriptors ++ rest)) cookie =
    subst (λ ns. Contains ns cookie) (ap cookies_of split ∙ cookies-append (leaving queue call) ((after queue call).descriptors ++ rest)) h in
    elim (Contains-append_cases (cookies_of (leaving queue call)) (cookies_of ((after queue call).descriptors ++ rest)) cookie parts) [
      | inl here ↦ leaves call calls queue p o cookie here
      | inr there ↦ later call calls queue cookie (is_at calls (after queue call) p.1 (call-in_order call queue p.0 o) cookie there)
    ]

-- ---- the two laws
module _ (calls : List Call) (p : ArePermitted empty calls) (cookie : ℕ) where
  queued-from_front : Contains (cookies_of (after_all empty calls).descriptors) cookie → (after_all empty calls).front ≤ cookie
  queued-from_front h =
      (rising-within (after_all empty calls).descriptors (after_all empty calls).front cookie (all-in_order calls empty p empty-in_order).rising h).0

  pending-at : IsAt empty calls cookie → (after_all empty calls).front ≤ cookie → Contains (cookies_of (after_all empty calls).descriptors) cookie
      ⊎ Contains (void_in_reset empty calls) cookie
  pending-at (Queued h) from = inl h
  pending-at (Void h v) from = inr h
  pending-at (Taken h) from = absurd (omega (arith, done-below calls empty p empty-in_order cookie h))
  pending-at (Ended v below) from = absurd (omega arith)

  done-at : IsAt empty calls cookie → ¬ Contains (all_voided empty calls) cookie → cookie < (after_all empty calls).front
      → Contains (all_done empty calls) cookie
  done-at (Queued h) not below = absurd (omega (arith, queued-from_front h))
  done-at (Void h v) not below = absurd (not v)
  done-at (Taken h) not below = h
  done-at (Ended v _) not below = absurd (not v)

pub pending_from_front : PendingFromFront
pending_from_front calls p cookie submitted = (
  λ pending. elim pending [
    | inl queued ↦ queued-from_front calls p cookie queued
    | inr void ↦ void-from_front calls empty p empty-in_order cookie void
  ],
  λ from. pending-at calls p cookie (is_at calls empty p empty-in_order cookie submitted) from,
)

pub done_below_front : DoneBelowFront
done_below_front calls p cookie submitted not = (
  λ done. done-below calls empty p empty-in_order cookie done,
  λ below. done-at calls p cookie (is_at calls empty p empty-in_order cookie submitted) not below,
)
