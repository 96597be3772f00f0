-- The unit, where an act changes only the states of orders: a reset empties its queue, and its end leaves no ITag busy; what
-- the endpoint takes, has taken or lets lapse is as fresh as it was.
use Rattle.std.proofs.Common.{◌≡◌, ◌≢◌, ◌⊎◌, inl, inr, refl, ap, sym, ◌∙◌, ℕ, zero, suc, Bool, true, false, arith}
use Rattle.std.proofs.lemmas.List.{map-append}
use Rattle.std.specs.Prelude.{◌-◌, if◌then◌else◌, Option, None, option_map, [], ◌∷◌, ◌++◌, map}
use Rattle.sva_model.specs.Words.{put, select, tabulate}
use Rattle.sva_model.specs.State.{Mappings, OrderState, Endpoint}
use Rattle.sva_model.specs.State.OrderState.{Queued, Sent, Taken, Lapsed, Completing, Done, Void}
use Rattle.sva_model.specs.States.{is_open, is_queued, is_taken}
use Rattle.sva_model.specs.StateChanges.{void_queued, void_undone, lapse, completing_if}
use Rattle.sva_model.specs.Acts.{LocalAct, act_alone}
use Rattle.sva_model.specs.Wire.{end_number, descriptor, busy_wire, unit_wire, BusyWire}
use Rattle.sva_model.specs.Wire.BusyWire.{Fresh}
use Rattle.sva_labels.proofs.Words.{put-same, put-other, ℕ_cases}
use Rattle.sva_laws.proofs.Legal.{LegalLocalAct}
use Rattle.sva_laws.proofs.Resets.{Resets}
use Rattle.sva_laws.proofs.Labels.{Labels}
use Rattle.sva_laws.proofs.Orders.{not_queued}
use Rattle.sva_labels.proofs.Tests.{is_itself}
use Rattle.sva_refinement.proofs.Kept.{unit_moved}
use Rattle.sva_refinement.proofs.Named.{own_move}
use Rattle.sva_refinement.proofs.Picked.{picked_same, picked_none}
use Rattle.sva_refinement.proofs.UnitSubmitted.{unit_same, borne_same}
use Rattle.sva_refinement.proofs.UnitQueue.{queue_of, busy_of, units_same}

-- other states, by which the same orders are queued and the same ITags are as busy
pub states_queue :
    (first : ℕ) (p : Endpoint) (s : ℕ → OrderState) → ((k : ℕ) → is_queued (s k) ≡ is_queued (p.order_state k))
    → map (λ k. descriptor first p (p.order k)) (select p.orders (λ k. is_queued (s k))) ≡ queue_of first p
states_queue first p s h =
    picked_same p.orders (λ k. descriptor first p (p.order k)) (λ k. descriptor first p (p.order k)) (λ k. is_queued (s k))
    (λ k. is_queued (p.order_state k)) (λ k l. h k) (λ k l x. refl)

pub states_busy :
    (p : Endpoint) (s : ℕ → OrderState) → ((k : ℕ) → busy_wire (s k) ≡ busy_wire (p.order_state k))
    → tabulate 32 (λ t. option_map (λ k. busy_wire (s k)) (p.at_itag t)) ≡ busy_of p
states_busy p s h = borne_same 32 p.at_itag (λ k. busy_wire (s k)) (λ k. busy_wire (p.order_state k)) (λ t k m. h k)

no_queue :
    (first : ℕ) (p : Endpoint) (s : ℕ → OrderState) → ((k : ℕ) → is_queued (s k) ≡ false)
    → map (λ k. descriptor first p (p.order k)) (select p.orders (λ k. is_queued (s k))) ≡ []
no_queue first p s h = picked_none p.orders (λ k. descriptor first p (p.order k)) (λ k. is_queued (s k)) (λ k l. h k)

-- a reset begins

void_not_queued : (s : OrderState) → is_queued (void_queued s) ≡ false
void_not_queued s = grind arith

void_busy : (s : OrderState) → busy_wire (void_queued s) ≡ busy_wire s
void_busy Queued = refl
void_busy Sent = refl
void_busy (Taken u) = refl
void_busy Lapsed = refl
void_busy (Completing c l) = refl
void_busy Done = refl
void_busy Void = refl

pub unit_reset :
    (ms : Mappings) (first n next e : ℕ) (p : Endpoint)
    → unit_wire first (act_alone p n LocalAct.Reset) ≡ unit_moved next (unit_wire first p) (own_move first e ms p LocalAct.Reset)
unit_reset ms first n next e p =
    unit_same false (map (λ k. descriptor first p (p.order k)) (select p.orders (λ k. is_queued (void_queued (p.order_state k))))) []
    (tabulate 32 (λ t. option_map (λ k. busy_wire (void_queued (p.order_state k))) (p.at_itag t)))
    (busy_of p)
    (end_number first p.front)
    (end_number first p.front)
    (end_number first p.waits_end)
    (end_number first p.waits_end)
    (no_queue first p (λ k. void_queued (p.order_state k)) (λ k. void_not_queued (p.order_state k)))
    (states_busy p (λ k. void_queued (p.order_state k)) (λ k. void_busy (p.order_state k)))
    refl
    refl

-- an endpoint that resets itself lets what it has taken lapse

lapse_queued : (s : OrderState) → is_queued (lapse s) ≡ is_queued s
lapse_queued s = grind arith

lapse_busy : (s : OrderState) → busy_wire (lapse s) ≡ busy_wire s
lapse_busy Queued = refl
lapse_busy Sent = refl
lapse_busy (Taken u) = refl
lapse_busy Lapsed = refl
lapse_busy (Completing c l) = refl
lapse_busy Done = refl
lapse_busy Void = refl

pub unit_reset_arrives :
    (ms : Mappings) (g first n next e : ℕ) (p : Endpoint) (c : ℕ) → LegalLocalAct ms g p (LocalAct.Reset_arrives c) → Resets n p
    → unit_wire first (act_alone p n (LocalAct.Reset_arrives c)) ≡ unit_moved next (unit_wire first p) (own_move first e ms p (LocalAct.Reset_arrives c))
unit_reset_arrives ms g first n next e p c l re =
    units_same first p (act_alone p n (LocalAct.Reset_arrives c)) (queue_of first p) (busy_of p) (end_number first p.front) (end_number first p.waits_end)
    (sym (ap is_open (re.down c l.0)))
    (states_queue first p (λ k. lapse (p.order_state k)) (λ k. lapse_queued (p.order_state k)))
    (states_busy p (λ k. lapse (p.order_state k)) (λ k. lapse_busy (p.order_state k)))
    refl
    refl

-- an invalidation is taken

put_queued : (f : ℕ → OrderState) (i k : ℕ) (s : OrderState) → is_queued (f i) ≡ is_queued s → is_queued (put f i s k) ≡ is_queued (f k)
put_queued f i k s h = go (ℕ_cases k i)
  where
    go : (k ≡ i) ⊎ (k ≢ i) → is_queued (put f i s k) ≡ is_queued (f k)
    go (inl e) = ap (λ z. is_queued (put f i s z)) e ∙ ap is_queued (put-same f i s) ∙ sym h ∙ sym (ap (λ z. is_queued (f z)) e)
    go (inr ne) = ap is_queued (put-other f i s k ne)

put_busy : (f : ℕ → OrderState) (i k : ℕ) (s : OrderState) → busy_wire (f i) ≡ busy_wire s → busy_wire (put f i s k) ≡ busy_wire (f k)
put_busy f i k s h = go (ℕ_cases k i)
  where
    go : (k ≡ i) ⊎ (k ≢ i) → busy_wire (put f i s k) ≡ busy_wire (f k)
    go (inl e) = ap (λ z. busy_wire (put f i s z)) e ∙ ap busy_wire (put-same f i s) ∙ sym h ∙ sym (ap (λ z. busy_wire (f z)) e)
    go (inr ne) = ap busy_wire (put-other f i s k ne)

pub unit_take :
    (ms : Mappings) (g first n next e : ℕ) (p : Endpoint) (c k : ℕ) → LegalLocalAct ms g p (LocalAct.Take c k) → Labels p
    → unit_wire first (act_alone p n (LocalAct.Take c k)) ≡ unit_moved next (unit_wire first p) (own_move first e ms p (LocalAct.Take c k))
unit_take ms g first n next e p c k l la =
    units_same first p (act_alone p n (LocalAct.Take c k)) (queue_of first p) (busy_of p) (end_number first p.front) (end_number first p.waits_end) refl
    (states_queue first p (put p.order_state k (Taken p.uses)) (λ j. put_queued p.order_state k j (Taken p.uses) (ap is_queued (la.sent c k l))))
    (states_busy p (put p.order_state k (Taken p.uses)) (λ j. put_busy p.order_state k j (Taken p.uses) (ap busy_wire (la.sent c k l))))
    refl
    refl

-- the endpoint finishes invalidations: none of their completions has come

owe_queued : (b : Bool) (count : ℕ) (s : OrderState) → (b ≡ true → is_taken s ≡ true) → is_queued (completing_if b count s) ≡ is_queued s
owe_queued b count s h = grind arith

owe_busy : (b : Bool) (count : ℕ) (s : OrderState) → (b ≡ true → is_taken s ≡ true) → busy_wire (completing_if b count s) ≡ busy_wire s
owe_busy false count s h = refl
owe_busy true count (Taken u) h = ap (λ z. if z then Fresh else BusyWire.Counting count (count - count)) (is_itself count)
owe_busy true count Queued h = absurd (let z = h refl in cc)
owe_busy true count Sent h = absurd (let z = h refl in cc)
owe_busy true count Lapsed h = absurd (let z = h refl in cc)
owe_busy true count (Completing c l) h = absurd (let z = h refl in cc)
owe_busy true count Done h = absurd (let z = h refl in cc)
owe_busy true count Void h = absurd (let z = h refl in cc)

pub unit_finish :
    (ms : Mappings) (g first n next e : ℕ) (p : Endpoint) (names : ℕ → Bool) (vector count : ℕ)
    → LegalLocalAct ms g p (LocalAct.Finish names vector count)
    → unit_wire first (act_alone p n (LocalAct.Finish names vector count))
    ≡ unit_moved next (unit_wire first p) (own_move first e ms p (LocalAct.Finish names vector count))
unit_finish ms g first n next e p names vector count l =
    units_same first p (act_alone p n (LocalAct.Finish names vector count)) (queue_of first p) (busy_of p) (end_number first p.front)
    (end_number first p.waits_end) refl
    (states_queue first p (λ k. completing_if (names k) count (p.order_state k)) (λ k. owe_queued (names k) count (p.order_state k) (l.1 k)))
    (states_busy p (λ k. completing_if (names k) count (p.order_state k)) (λ k. owe_busy (names k) count (p.order_state k) (l.1 k)))
    refl
    refl

-- a reset ends

undone_not_queued : (s : OrderState) → is_queued (void_undone s) ≡ false
undone_not_queued s = grind arith

pub map_tabulate : {A B : Type 0} (n : ℕ) (f : ℕ → A) (h : A → B) → map h (tabulate n f) ≡ tabulate n (λ k. h (f k))
unfolding tabulate
map_tabulate zero f h = refl
map_tabulate (suc n) f h = map-append h (tabulate n f) (f n ∷ []) ∙ ap (λ xs. xs ++ h (f n) ∷ []) (map_tabulate n f h)

pub unit_reopen :
    (ms : Mappings) (g first n next e : ℕ) (p : Endpoint) (c : ℕ) → LegalLocalAct ms g p (LocalAct.Reopen c) → Resets n p
    → unit_wire first (act_alone p n (LocalAct.Reopen c)) ≡ unit_moved next (unit_wire first p) (own_move first e ms p (LocalAct.Reopen c))
unit_reopen ms g first n next e p c l re =
    unit_same true (map (λ k. descriptor first p (p.order k)) (select p.orders (λ k. is_queued (void_undone (p.order_state k))))) (queue_of first p)
    (tabulate 32 (λ t. option_map (λ k. busy_wire (void_undone (p.order_state k))) None))
    (map (λ (tag : Option BusyWire). None) (busy_of p))
    (end_number first p.waits_end)
    (end_number first p.waits_end)
    (end_number first p.waits_end)
    (end_number first p.waits_end)
    (
    no_queue first p (λ k. void_undone (p.order_state k)) (λ k. undone_not_queued (p.order_state k))
    ∙ sym (no_queue first p p.order_state (λ k. not_queued (p.order_state k) (re.unqueued k (ap is_open (re.up c l.0)))))
    )
    (sym (map_tabulate 32 (λ t. option_map (λ k. busy_wire (p.order_state k)) (p.at_itag t)) (λ (tag : Option BusyWire). None)))
    refl
    refl
