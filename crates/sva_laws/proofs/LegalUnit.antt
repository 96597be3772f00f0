-- What the steps at a unit have tested: pump, serve, reset, and a worker's take.
use Rattle.std.proofs.Common.{◌≡◌, ◌≢◌, refl, ap, sym, ◌∙◌, ℕ, ◌<◌, ◌≤◌, Bool, true, false, arith}
use Rattle.std.specs.Prelude.{◌||◌, not, ◌==◌, [], ◌∷◌}
use Rattle.std.proofs.lemmas.Bool.{not-false, not-true}
use Rattle.sva_step.specs.declared.steps.Step.TheVariants as step
use Rattle.sva_model.specs.Words.{put, lowest, any_below}
use Rattle.sva_model.specs.State.{Endpoint, World, Order, OrderState, HostGroupState}
use Rattle.sva_model.specs.State.PageRequestState.{Arrived}
use Rattle.sva_model.specs.State.HostGroupState.{Job, InHand}
use Rattle.sva_model.specs.State.Order.{RangeOf, PasidOf, Wait}
use Rattle.sva_model.specs.State.OrderState.{Queued}
use Rattle.sva_model.specs.State.Phase.{Open}
use Rattle.sva_model.specs.States.{is_queued, is_busy, is_arrived, is_job, is_wait, drains}
use Rattle.sva_model.specs.Acts.{LocalAct, act_alone}
use Rattle.sva_model.specs.Acts.Act.{AtEndpoint, Hold}
use Rattle.sva_model.specs.Refusals.{refusals}
use Rattle.sva_model.specs.Outcomes.{outcome, pump_outcome, head_outcome, wait_outcome, send_outcome, may_pass, serve_outcome, file_outcome}
use Rattle.sva_model.specs.Labels
use Rattle.sva_labels.proofs.Words.{put-same, lowest_below, any_below-false, any_below-true}
use Rattle.sva_laws.proofs.Bounds.{Bounds}
use Rattle.sva_laws.proofs.PageRequests.{Queued as QueuedRequests, arrived_is}
use Rattle.sva_laws.proofs.Invariant.{Invariant}
use Rattle.sva_laws.proofs.Passed.{Passed, LegalAll, opened_is, label_low, label_free}
use Rattle.sva_laws.proofs.Orders.{queued_not}
use Rattle.sva_labels.proofs.Tests.{first_holds, is_less, second_holds}

-- Pump: the head is the lowest order that is queued.
pub record Head (p : Endpoint) : Type 0 where
  pub queued : p.order_state (Labels.head p) ≡ Queued
  pub lowest : (j : ℕ) → j < Labels.head p → p.order_state j ≢ Queued

pub head_is : (p : Endpoint) → not (any_below p.orders (λ k. is_queued (p.order_state k))) ≡ false → Head p
head_is p h =
    let some = any_below-true p.orders (λ k. is_queued (p.order_state k)) (not-false (any_below p.orders (λ k. is_queued (p.order_state k))) h) in
    let low = lowest_below p.orders (λ k. is_queued (p.order_state k)) some.0 some.1 some.2 in
    record { queued = queued_is (p.order_state (Labels.head p)) low.1; lowest = λ j l. queued_not (p.order_state j) (low.2 j l) }
  where
    queued_is : (s : OrderState) → is_queued s ≡ true → s ≡ Queued
    queued_is s k = grind arith

-- no order bears an ITag: those not made yet don't either
idle : (g : ℕ) (p : Endpoint) → Bounds g p → Labels.is_some_busy p ≡ false → (j : ℕ) → is_busy (p.order_state j) ≡ false
idle g p bo h j =
    let f : j < p.orders → is_busy (p.order_state j) ≡ false = any_below-false p.orders (λ k. is_busy (p.order_state k)) h j in
    grind (arith, f, bo.order_state j)

-- the page request queue is empty: nothing has arrived and isn't filed
none_arrived : (p : Endpoint) → QueuedRequests p → Labels.is_page_queue_empty p ≡ true → (r : ℕ) → p.page_request r ≢ Arrived
none_arrived p qu h r a =
    let place = qu.arrived r a in
    let f = any_below-false p.arrivals (Labels.is_waiting p) (not-true (any_below p.arrivals (Labels.is_waiting p)) h) (p.arrived_as r) place.0 in
    let back : is_arrived (p.page_request (p.arrival (p.arrived_as r))) ≡ is_arrived (p.page_request r) = ap (λ z. is_arrived (p.page_request z)) place.1 in
    absurd (cc (sym f ∙ back ∙ ap is_arrived a))

pub wait_legal : (w : World) (e cookie : ℕ) (drain t : Bool) → Invariant w → e < w.config.endpoints → (w.part e).phase ≡ Open → Head (w.part e)
    → (w.part e).order (Labels.head (w.part e)) ≡ Wait cookie drain → may_pass (w.part e) drain ≡ t
    → LegalAll w (wait_outcome e (Labels.head (w.part e)) t).acts
wait_legal w e cookie drain false i l ph hd o m = tt
wait_legal w e cookie drain true i l ph hd o m = (
  (
    l,
    (
      (
        ph,
        hd.queued,
        ap is_wait o,
        hd.lowest,
        idle w.bindings (w.part e) (i.parts e).bounds quiet,
        λ r d. none_arrived (w.part e) (i.parts e).queued (empty (sym (ap drains o) ∙ d)) r,
      ),
      tt,
    ),
    tt,
  ),
  tt,
)
  where
    quiet : Labels.is_some_busy (w.part e) ≡ false
    quiet = not-true (Labels.is_some_busy (w.part e))
        (first_holds (not (Labels.is_some_busy (w.part e))) (not drain || Labels.is_page_queue_empty (w.part e)) m)

    empty : drain ≡ true → Labels.is_page_queue_empty (w.part e) ≡ true
    empty d = or_drain drain (Labels.is_page_queue_empty (w.part e)) d
        (second_holds (not (Labels.is_some_busy (w.part e))) (not drain || Labels.is_page_queue_empty (w.part e)) m)
      where
        or_drain : (a b : Bool) → a ≡ true → (not a || b) ≡ true → b ≡ true
        or_drain a b x y = grind arith

send_legal : (w : World) (e : ℕ) (t : Bool) → e < w.config.endpoints → (w.part e).phase ≡ Open → Head (w.part e)
    → is_wait ((w.part e).order (Labels.head (w.part e))) ≡ false → not (Labels.lowest_label 32 (w.part e).at_itag == 32) ≡ t
    → LegalAll w (send_outcome e (Labels.head (w.part e)) (Labels.lowest_label 32 (w.part e).at_itag) t).acts
send_legal w e false l ph hd o m = tt
send_legal w e true l ph hd o m =
    let some = not-true (Labels.lowest_label 32 (w.part e).at_itag == 32) m in
    ((l, ((ph, hd.queued, o, label_free 32 (w.part e).at_itag some, label_low 32 (w.part e).at_itag some), tt), tt), tt)

head_legal : (w : World) (e : ℕ) (o : Order) → Invariant w → e < w.config.endpoints → (w.part e).phase ≡ Open → Head (w.part e)
    → (w.part e).order (Labels.head (w.part e)) ≡ o → LegalAll w (head_outcome (w.part e) e (Labels.head (w.part e)) o).acts
head_legal w e (Wait cookie drain) i l ph hd f = wait_legal w e cookie drain (may_pass (w.part e) drain) i l ph hd f refl
head_legal w e (RangeOf b q) i l ph hd f = send_legal w e (not (Labels.lowest_label 32 (w.part e).at_itag == 32)) l ph hd (ap is_wait f) refl
head_legal w e (PasidOf b) i l ph hd f = send_legal w e (not (Labels.lowest_label 32 (w.part e).at_itag == 32)) l ph hd (ap is_wait f) refl

pump_at : (w : World) (e : ℕ) (b : Bool) → Invariant w → e < w.config.endpoints → (w.part e).phase ≡ Open → Labels.is_queue_empty (w.part e) ≡ b
    → LegalAll w (pump_outcome (w.part e) e b).acts
pump_at w e true i l ph f = tt
pump_at w e false i l ph f = head_legal w e ((w.part e).order (Labels.head (w.part e))) i l ph (head_is (w.part e) f) refl

pub pump : (w : World) (e : ℕ) → Invariant w → Passed (refusals w (step.Pump e)) → LegalAll w (outcome w (step.Pump e)).acts
pump w e i h = pump_at w e (Labels.is_queue_empty (w.part e)) i (is_less e w.config.endpoints h.0) (opened_is (w.part e) h.1.0) refl

-- Serve: the oldest page request that arrived is filed.
record Oldest (p : Endpoint) : Type 0 where
  arrived : p.page_request (Labels.oldest_arrived p) ≡ Arrived
  first : (x : ℕ) → p.page_request x ≡ Arrived → p.arrived_as (Labels.oldest_arrived p) ≤ p.arrived_as x

oldest_is : (p : Endpoint) → QueuedRequests p → Labels.is_page_queue_empty p ≡ false → Oldest p
oldest_is p qu h =
    let some = any_below-true p.arrivals (Labels.is_waiting p) (not-false (any_below p.arrivals (Labels.is_waiting p)) h) in
    let low = lowest_below p.arrivals (Labels.is_waiting p) some.0 some.1 some.2 in
    let back = qu.arrival (lowest p.arrivals (Labels.is_waiting p)) low.0 in
    record {
      arrived = arrived_is (p.page_request (Labels.oldest_arrived p)) low.1;
      first = λ x a. no_earlier (lowest p.arrivals (Labels.is_waiting p)) x back.0 low.2 a (qu.arrived x a);
    }
  where
    no_earlier : (k x : ℕ) → p.arrived_as (p.arrival k) ≡ k → ((i : ℕ) → i < k → Labels.is_waiting p i ≡ false) → p.page_request x ≡ Arrived
        → (p.arrived_as x < p.arrivals) × (p.arrival (p.arrived_as x) ≡ x) → p.arrived_as (p.arrival k) ≤ p.arrived_as x
    no_earlier k x b none a place =
        let waits : is_arrived (p.page_request (p.arrival (p.arrived_as x))) ≡ true = ap (λ z. is_arrived (p.page_request z)) place.1 ∙ ap is_arrived a in
        grind (arith, none (p.arrived_as x))

file_legal : (w : World) (e : ℕ) (t : Bool) → Invariant w → e < w.config.endpoints → (w.part e).phase ≡ Open → Oldest (w.part e)
    → LegalAll w (file_outcome e (Labels.oldest_arrived (w.part e)) ((w.part e).group_of (Labels.oldest_arrived (w.part e))) t).acts
file_legal w e true i l ph od = ((l, ((ph, od.arrived, od.first), tt), tt), (tt, tt))
file_legal w e false i l ph od = ((l, ((ph, od.arrived, od.first), tt), tt), tt)

serve_at : (w : World) (e : ℕ) (b : Bool) → Invariant w → e < w.config.endpoints → (w.part e).phase ≡ Open → Labels.is_page_queue_empty (w.part e)
    ≡ b → LegalAll w (serve_outcome (w.part e) e b).acts
serve_at w e true i l ph f = tt
serve_at w e false i l ph f = file_legal w e ((w.part e).is_last (Labels.oldest_arrived (w.part e))) i l ph (oldest_is (w.part e) (i.parts e).queued f)

pub serve : (w : World) (e : ℕ) → Invariant w → Passed (refusals w (step.Serve e)) → LegalAll w (outcome w (step.Serve e)).acts
serve w e i h = serve_at w e (Labels.is_page_queue_empty (w.part e)) i (is_less e w.config.endpoints h.0) (opened_is (w.part e) h.1.0) refl

pub reset : (w : World) (e : ℕ) → Invariant w → Passed (refusals w (step.Reset e)) → LegalAll w (outcome w (step.Reset e)).acts
reset w e i h = ((is_less e w.config.endpoints h.0, (opened_is (w.part e) h.1.0, tt), tt), tt)

-- Take: the oldest group with a job.
-- a group that the host knows is at an endpoint
pub group_there : (w : World) (e x : ℕ) → Invariant w → x < (w.part e).groups → e < w.config.endpoints
group_there w e x i l = (i.parts e).there ((w.part e).asker x) ((i.parts e).groups.asker_bound x l)

take_at : (w : World) (x j : ℕ) → Invariant w → j < w.jobs → Labels.is_queued_job w j ≡ true
    → LegalAll w (AtEndpoint (w.job j).endpoint (LocalAct.Hand (w.job j).group x) ∷ Hold x j ∷ [])
take_at w x j i l h =
    let e = (w.job j).endpoint in
    let g = (w.job j).group in
    let job = job_is ((w.part e).host_group g) h in (
      (group_there w e g i (made e g (ap is_job job)), (job, tt), tt),
      ((l, held e g), tt),
    )
  where
    job_is : (s : HostGroupState) → is_job s ≡ true → s ≡ Job
    job_is s k = grind arith

    made : (e g : ℕ) → is_job ((w.part e).host_group g) ≡ true → g < (w.part e).groups
    made e g k = grind (arith, (i.parts e).bounds.host_group g)

    held : (e g : ℕ) → (put w.part e (act_alone (w.part e) w.messages (LocalAct.Hand g x)) e).host_group g ≡ InHand x
    held e g = ap (λ p. p.host_group g) (put-same w.part e (act_alone (w.part e) w.messages (LocalAct.Hand g x))) ∙ put-same (w.part e).host_group g (InHand x)

pub take : (w : World) (x : ℕ) → Invariant w → Passed (refusals w (step.Take x)) → LegalAll w (outcome w (step.Take x)).acts
take w x i h =
    let some = any_below-true w.jobs (Labels.is_queued_job w) (not-false (any_below w.jobs (Labels.is_queued_job w)) h.1.1.0) in
    let low = lowest_below w.jobs (Labels.is_queued_job w) some.0 some.1 some.2 in
    take_at w x (lowest w.jobs (Labels.is_queued_job w)) i low.0 low.1
