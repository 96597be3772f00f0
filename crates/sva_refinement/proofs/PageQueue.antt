-- Each act of one endpoint leaves the page request queue of its unit as the move does that it is.
use Rattle.std.proofs.Common.{◌≡◌, ◌≢◌, refl, ap, ap₂, sym, ◌∙◌, ℕ, ◌<◌, Bool, true, false, arith}
use Rattle.std.specs.Prelude.{Some, List, [], ◌∷◌, ◌++◌, map, drop}
use Rattle.sva_model.specs.Words.{put, select}
use Rattle.sva_model.specs.Message.{Message}
use Rattle.sva_model.specs.Message.Message.{InvalidatedMessage}
use Rattle.sva_model.specs.State.{Mappings, PageRequestState, Endpoint, Stage}
use Rattle.sva_model.specs.State.PageRequestState.{InFlight, Arrived, Filed, Dropped}
use Rattle.sva_model.specs.State.Subject.{PageRequestOf}
use Rattle.sva_model.specs.State.Stage.{Unbound}
use Rattle.sva_model.specs.States.{is_arrived, is_before_invalidating}
use Rattle.sva_model.specs.StateChanges.{dropped_arrived}
use Rattle.sva_model.specs.Acts.{LocalAct, act_alone}
use Rattle.sva_model.specs.Labels.{is_waiting}
use Rattle.sva_model.specs.Wire.{page_request_wire, page_queue_wire, PageRequestWire}
use Rattle.sva_labels.proofs.Words.{put-same, put-other}
use Rattle.sva_laws.proofs.Legal.{LegalLocalAct}
use Rattle.sva_laws.proofs.Bounds.{Bounds}
use Rattle.sva_laws.proofs.PageRequests.{Queued, arrived_is}
use Rattle.sva_laws.proofs.Groups.{Groups}
use Rattle.sva_laws.proofs.Invariant.{PartInvariant}
use Rattle.sva_refinement.proofs.Kept.{page_queue_moved}
use Rattle.sva_refinement.proofs.Named.{own_move, count_move}
use Rattle.sva_refinement.proofs.Picked.{picked_same, picked_none, picked_one_more, picked_drop}
use Rattle.sva_refinement.proofs.UnitQueue.{old_put}

-- a page request by its fields
abbrev pub asked_of : (pasid index page : ℕ) → (read write last : Bool) → PageRequestWire
asked_of t i q r x l = record { pasid = t; index = i; ask = record { page = q; read = r; write = x }; last = l }

-- the queue of a part is that of another, where the same wait and look the same
pub queue_same :
    (p q : Endpoint) → q.arrivals ≡ p.arrivals → ((k : ℕ) → k < p.arrivals → q.arrival k ≡ p.arrival k)
    → ((k : ℕ) → k < p.arrivals → is_arrived (q.page_request (p.arrival k)) ≡ is_arrived (p.page_request (p.arrival k)))
    → ((k : ℕ) → k < p.arrivals → is_arrived (p.page_request (p.arrival k)) ≡ true → page_request_wire q (p.arrival k) ≡ page_request_wire p (p.arrival k))
    → page_queue_wire q ≡ page_queue_wire p
queue_same p q n h s w =
    ap (λ z. map (λ k. page_request_wire q (q.arrival k)) (select z (is_waiting q))) n
    ∙ picked_same p.arrivals (λ k. page_request_wire q (q.arrival k)) (λ k. page_request_wire p (p.arrival k)) (is_waiting q) (is_waiting p)
    (λ k l. ap (λ r. is_arrived (q.page_request r)) (h k l) ∙ s k l)
    (λ k l a. ap (page_request_wire q) (h k l) ∙ w k l (sym (s k l) ∙ ap (λ r. is_arrived (q.page_request r)) (sym (h k l)) ∙ a))

not_arrived : (s : PageRequestState) → s ≢ Arrived → is_arrived s ≡ false
not_arrived s h = grind arith

-- a binding begins: no page request that has arrived is of it

before_bound : (s : Stage) → is_before_invalidating s ≡ true → s ≢ Unbound
before_bound s h e = absurd (cc (sym (ap is_before_invalidating e) ∙ h))

queue_bind :
    (ms : Mappings) (g n : ℕ) (p : Endpoint) (b s t : ℕ) → LegalLocalAct ms g p (LocalAct.Bind b s t) → Groups p
    → page_queue_wire (act_alone p n (LocalAct.Bind b s t)) ≡ page_queue_wire p
queue_bind ms g n p b s t l gr =
    queue_same p (act_alone p n (LocalAct.Bind b s t)) refl (λ k m. refl) (λ k m. refl)
    (λ k m a. ap
    (λ z. asked_of z (p.index (p.group_of (p.arrival k))) (p.asked_page (p.arrival k)) (p.asks_read (p.arrival k)) (p.asks_write (p.arrival k))
    (p.is_last (p.arrival k)))
    (put-other p.pasid b t (p.asker (p.group_of (p.arrival k))) (apart (p.arrival k) (arrived_is (p.page_request (p.arrival k)) a))))
  where
    apart : (r : ℕ) → p.page_request r ≡ Arrived → p.asker (p.group_of r) ≢ b
    apart r a e = before_bound (p.stage (p.asker (p.group_of r))) (gr.arrived_stage r a) (ap p.stage e ∙ l.2)

-- a page request more at the endpoint: none that has arrived is it

queue_group : (g n : ℕ) (p : Endpoint) (b i q : ℕ) (r x l : Bool) → Bounds g p → Queued p → page_queue_wire (act_alone p n (LocalAct.Group b i q r x l))
    ≡ page_queue_wire p
queue_group g n p b i q r x l bo qu =
    queue_same p new refl (λ k m. refl)
    (λ k m. ap is_arrived (old_put p.page_request p.page_requests (p.arrival k) InFlight (qu.arrival k m).1))
    (λ k m a. same (p.arrival k) (qu.arrival k m).1)
  where
    new : Endpoint
    new = act_alone p n (LocalAct.Group b i q r x l)

    same : (y : ℕ) → y < p.page_requests → page_request_wire new y ≡ page_request_wire p y
    same y m =
        ap (λ z. asked_of (p.pasid (new.asker z)) (new.index z) (new.asked_page y) (new.asks_read y) (new.asks_write y) (new.is_last y))
        (old_put p.group_of p.page_requests y p.groups m)
        ∙ (λ j. asked_of (p.pasid (old_put p.asker p.groups (p.group_of y) b (bo.group_of y m) j))
        (old_put p.index p.groups (p.group_of y) i (bo.group_of y m) j) (old_put p.asked_page p.page_requests y q m j)
        (old_put p.asks_read p.page_requests y r m j) (old_put p.asks_write p.page_requests y x m j) (old_put p.is_last p.page_requests y l m j))

queue_request : (g n : ℕ) (p : Endpoint) (w q : ℕ) (r x l : Bool) → Queued p → page_queue_wire (act_alone p n (LocalAct.Request w q r x l)) ≡ page_queue_wire p
queue_request g n p w q r x l qu =
    queue_same p new refl (λ k m. refl)
    (λ k m. ap is_arrived (old_put p.page_request p.page_requests (p.arrival k) InFlight (qu.arrival k m).1))
    (λ k m a. same (p.arrival k) (qu.arrival k m).1)
  where
    new : Endpoint
    new = act_alone p n (LocalAct.Request w q r x l)

    same : (y : ℕ) → y < p.page_requests → page_request_wire new y ≡ page_request_wire p y
    same y m =
        λ j.
        asked_of (p.pasid (p.asker (old_put p.group_of p.page_requests y w m j))) (p.index (old_put p.group_of p.page_requests y w m j))
        (old_put p.asked_page p.page_requests y q m j) (old_put p.asks_read p.page_requests y r m j) (old_put p.asks_write p.page_requests y x m j)
        (old_put p.is_last p.page_requests y l m j)

-- the oldest in the queue is filed

queue_file :
    (ms : Mappings) (g first n e : ℕ) (p : Endpoint) (r : ℕ) → LegalLocalAct ms g p (LocalAct.File r) → Queued p
    → page_queue_wire (act_alone p n (LocalAct.File r)) ≡ drop 1 (page_queue_wire p)
queue_file ms g first n e p r l qu =
    picked_drop p.arrivals (p.arrived_as r) (λ k. page_request_wire p (p.arrival k)) (λ k. page_request_wire p (p.arrival k)) (is_waiting p)
    (is_waiting (act_alone p n (LocalAct.File r)))
    (qu.arrived r l.1).0
    (ap (λ z. is_arrived (p.page_request z)) (qu.arrived r l.1).1 ∙ ap is_arrived l.1)
    older
    (ap (λ z. is_arrived (put p.page_request r Filed z)) (qu.arrived r l.1).1 ∙ ap is_arrived (put-same p.page_request r Filed))
    (λ k m ne. ap is_arrived (put-other p.page_request r Filed (p.arrival k) (λ x. absurd (ne (sym (qu.arrival k m).0 ∙ ap p.arrived_as x)))))
    (λ k m a. refl)
  where
    older : (k : ℕ) → k < p.arrived_as r → is_arrived (p.page_request (p.arrival k)) ≡ false
    older k m =
        let at = qu.arrived r l.1 in
        let back = qu.arrival k (omega (arith, m, at.0)) in
        not_arrived (p.page_request (p.arrival k)) (λ a. let x = l.2 (p.arrival k) a in absurd (omega (arith, x, back.0, m)))

-- one arrives, or is lost to a reset

landed : (c r : ℕ) (p : Endpoint) → p.message c ≡ Some (PageRequestOf r) → Queued p → (k : ℕ) → k < p.arrivals → p.arrival k ≢ r
landed c r p h qu k l e = qu.landed k l (ap p.page_request e ∙ (qu.in_flight c r h).0)

queue_miss :
    (ms : Mappings) (g n : ℕ) (p : Endpoint) (c r : ℕ) → LegalLocalAct ms g p (LocalAct.Miss c r) → Queued p
    → page_queue_wire (act_alone p n (LocalAct.Miss c r)) ≡ page_queue_wire p
queue_miss ms g n p c r l qu =
    queue_same p (act_alone p n (LocalAct.Miss c r)) refl (λ k m. refl)
    (λ k m. ap is_arrived (put-other p.page_request r Dropped (p.arrival k) (landed c r p l.0 qu k m)))
    (λ k m a. refl)

queue_arrive :
    (ms : Mappings) (g n : ℕ) (p : Endpoint) (c r : ℕ) → LegalLocalAct ms g p (LocalAct.Arrive c r) → Queued p
    → page_queue_wire (act_alone p n (LocalAct.Arrive c r)) ≡ page_queue_wire p ++ page_request_wire p r ∷ []
queue_arrive ms g n p c r l qu =
    picked_one_more p.arrivals (λ k. page_request_wire p (put p.arrival p.arrivals r k))
    (λ k. is_arrived (put p.page_request r Arrived (put p.arrival p.arrivals r k)))
    (ap (λ z. is_arrived (put p.page_request r Arrived z)) (put-same p.arrival p.arrivals r) ∙ ap is_arrived (put-same p.page_request r Arrived))
    ∙ ap₂ (λ xs x. xs ++ x ∷ [])
    (
    picked_same p.arrivals (λ k. page_request_wire p (put p.arrival p.arrivals r k)) (λ k. page_request_wire p (p.arrival k))
    (λ k. is_arrived (put p.page_request r Arrived (put p.arrival p.arrivals r k))) (is_waiting p)
    (λ k m. ap (λ z. is_arrived (put p.page_request r Arrived z)) (old_put p.arrival p.arrivals k r m)
    ∙ ap is_arrived (put-other p.page_request r Arrived (p.arrival k) (landed c r p l.0 qu k m)))
    (λ k m a. ap (page_request_wire p) (old_put p.arrival p.arrivals k r m))
    )
    (ap (page_request_wire p) (put-same p.arrival p.arrivals r))

-- a reset drops what has arrived

dropped : (s : PageRequestState) → is_arrived (dropped_arrived s) ≡ false
dropped s = grind arith

queue_reset : (n : ℕ) (p : Endpoint) → page_queue_wire (act_alone p n LocalAct.Reset) ≡ []
queue_reset n p =
    picked_none p.arrivals (λ k. page_request_wire p (p.arrival k)) (λ k. is_arrived (dropped_arrived (p.page_request (p.arrival k))))
    (λ k l. dropped (p.page_request (p.arrival k)))

-- a completion of invalidations leaves it
count_same : (first e c : ℕ) (m : Message) (queue : List PageRequestWire) → queue ≡ page_queue_moved queue (count_move first e c m)
count_same first e c (InvalidatedMessage v f) queue = refl
count_same first e c _ queue = refl

pub page_queue_acts :
    (ms : Mappings) (x g n e first : ℕ) (p : Endpoint) (o : LocalAct) → LegalLocalAct ms g p o → PartInvariant ms x g n e p
    → page_queue_wire (act_alone p n o) ≡ page_queue_moved (page_queue_wire p) (own_move first e ms p o)
page_queue_acts ms x g n e first p (LocalAct.Bind b s t) l i = queue_bind ms g n p b s t l i.groups
page_queue_acts ms x g n e first p (LocalAct.Stop b) l i = refl
page_queue_acts ms x g n e first p (LocalAct.Drain b cookie) l i = refl
page_queue_acts ms x g n e first p (LocalAct.Invalidate b cookie) l i = refl
page_queue_acts ms x g n e first p (LocalAct.Quieten b) l i = refl
page_queue_acts ms x g n e first p (LocalAct.Release b) l i = refl
page_queue_acts ms x g n e first p (LocalAct.Send k t) l i = refl
page_queue_acts ms x g n e first p (LocalAct.Pass k) l i = refl
page_queue_acts ms x g n e first p (LocalAct.File r) l i = queue_file ms g first n e p r l i.queued
page_queue_acts ms x g n e first p LocalAct.Reset l i = queue_reset n p
page_queue_acts ms x g n e first p (LocalAct.Hand y w) l i = refl
page_queue_acts ms x g n e first p (LocalAct.Respond y code) l i = refl
page_queue_acts ms x g n e first p (LocalAct.Discard y) l i = refl
page_queue_acts ms x g n e first p (LocalAct.Ask b q t) l i = refl
page_queue_acts ms x g n e first p (LocalAct.Begin r m t) l i = refl
page_queue_acts ms x g n e first p (LocalAct.End u) l i = refl
page_queue_acts ms x g n e first p (LocalAct.Evict r) l i = refl
page_queue_acts ms x g n e first p (LocalAct.Group b y q r w z) l i = queue_group g n p b y q r w z i.bounds i.queued
page_queue_acts ms x g n e first p (LocalAct.Request y q r w z) l i = queue_request g n p y q r w z i.queued
page_queue_acts ms x g n e first p (LocalAct.Finish names vector count) l i = refl
page_queue_acts ms x g n e first p (LocalAct.Quit b) l i = refl
page_queue_acts ms x g n e first p (LocalAct.Start_arrives m b) l i = refl
page_queue_acts ms x g n e first p (LocalAct.Stop_arrives m b) l i = refl
page_queue_acts ms x g n e first p (LocalAct.Reset_arrives m) l i = refl
page_queue_acts ms x g n e first p (LocalAct.Keep m r y) l i = refl
page_queue_acts ms x g n e first p (LocalAct.Forget m r) l i = refl
page_queue_acts ms x g n e first p (LocalAct.Take m k) l i = refl
page_queue_acts ms x g n e first p (LocalAct.Answered m y code) l i = refl
page_queue_acts ms x g n e first p (LocalAct.Complete m r found answer) l i = refl
page_queue_acts ms x g n e first p (LocalAct.Count m names) l i = count_same first e m (p.carried m) (page_queue_wire p)
page_queue_acts ms x g n e first p (LocalAct.Arrive m r) l i = queue_arrive ms g n p m r l i.queued
page_queue_acts ms x g n e first p (LocalAct.Miss m r) l i = queue_miss ms g n p m r l i.queued
page_queue_acts ms x g n e first p (LocalAct.Mark m b) l i = refl
page_queue_acts ms x g n e first p (LocalAct.Ignore m) l i = refl
page_queue_acts ms x g n e first p (LocalAct.Reopen m) l i = refl
