-- From the invariant to what labels find and what can't occur.
use Rattle.std.proofs.Common.{◌≡◌, ◌≢◌, ◌⊎◌, inl, inr, refl, ap, sym, subst, ◌∙◌, ℕ, ◌<◌, true, false, arith}
use Rattle.std.specs.Prelude.{Option, Some, None}
use Rattle.std.proofs.lemmas.Bool.Decides.{nat_tests}
use Rattle.std.proofs.lemmas.Bool.{eqb-true}
use Rattle.sva_model.specs.Message.{Code}
use Rattle.sva_model.specs.State.{Subject, PasidState, GroupState, HostGroupState, Endpoint, World, Stage, UseState, Phase, OrderState}
use Rattle.sva_model.specs.State.Subject.{StartOf, StopOf, FunctionReset, CompletionOf, InvalidateOf, ResponseOf, RequestOf, InvalidatedOf, PageRequestOf}
use Rattle.sva_model.specs.State.Subject.{MarkerOf, ResetDone}
use Rattle.sva_model.specs.State.Stage.{Stopping, Invalidating}
use Rattle.sva_model.specs.State.PasidState.{Off, On, Ending}
use Rattle.sva_model.specs.State.GroupState.{Collecting, Awaiting}
use Rattle.sva_model.specs.State.UseState.{Ended}
use Rattle.sva_model.specs.State.OrderState.{Sent, Queued, Taken, Lapsed, Completing, Done, Void}
use Rattle.sva_model.specs.State.PageRequestState.{InFlight, Arrived, Filed, Dropped}
use Rattle.sva_model.specs.State.HostGroupState.{NotFiled, PartFiled, Job, InHand, Replied, Discarded, InHandDiscarded}
use Rattle.sva_model.specs.State.Phase.{Open, ResetSent, Cleared}
use Rattle.sva_model.specs.States.{is_unreleased, is_busy, is_off, is_open, is_outstanding, is_open_group, is_before_invalidating}
use Rattle.sva_model.specs.Claims.{IsBearer}
use Rattle.sva_model.specs.StateChanges.{binding_of}
use Rattle.sva_laws.specs.LabelLaws.{IsLabelled, IsFound}
use Rattle.sva_laws.specs.UnderWay.{IsOnItsWay, IsUnderWay, NeverOccurs, HoldsJobs, is_answerable}
use Rattle.sva_laws.specs.UnderWay.IsOnItsWay.{asked, is_job, in_hand, answered}
use Rattle.sva_laws.proofs.Bindings.{Bindings, is_unmarked, unmarked_unreleased}
use Rattle.sva_laws.proofs.Labels.{Labels, has_slot}
use Rattle.sva_laws.proofs.Orders.{is_undone, is_active, active_unreleased}
use Rattle.sva_laws.proofs.Requests.{is_cleared}
use Rattle.sva_laws.proofs.Invariant.{Invariant, IsHeldBy}
use Rattle.sva_laws.proofs.PageRequests.{is_whole}
use Rattle.sva_laws.proofs.Groups.{Groups, is_alive_group}
use Rattle.sva_laws.proofs.OnTheWay.{OnTheWay}
use Rattle.sva_laws.proofs.Ways.{Ways, is_of_request, is_response_to}
use Rattle.sva_laws.proofs.Jobs.{Jobs}
use Rattle.sva_laws.proofs.Completions.{Owed}
use Rattle.sva_laws.proofs.Agreement.{bearer}
use Rattle.sva_laws.proofs.Groups.{answerable_outstanding}
use Rattle.sva_laws.proofs.Groups.{not_active as not_before}

taken_slot : (u : UseState) → u ≢ Ended → has_slot u ≡ true
taken_slot u h = grind arith

slot_taken : (u : UseState) → has_slot u ≡ true → u ≢ Ended
slot_taken u h e = grind arith

pub labelled : (w : World) (e : ℕ) → Invariant w → IsLabelled (w.part e)
labelled w e i =
    let p = w.part e in
    let la = (i.parts e).labels in
    let gr = (i.parts e).groups in
    record {
      pasid = λ t b. ((λ h. ((la.pasid_bears t b h).1, (la.pasid_bears t b h).0)), (λ h. subst (λ k. p.at_pasid k ≡ Some b) h.1 (la.bears_pasid b h.0)));
      tag = λ t r. ((λ h. ((la.tag_bears t r h).1, (la.tag_bears t r h).0)), (λ h. subst (λ k. p.at_tag k ≡ Some r) h.1 (la.bears_tag r h.0)));
      slot = λ t u. (
        (λ h. (slot_taken (p.use_state u) (la.slot_bears t u h).1, (la.slot_bears t u h).0)),
        (λ h. subst (λ k. p.at_slot k ≡ Some u) h.1 (la.bears_slot u (taken_slot (p.use_state u) h.0))),
      );
      itag = λ t k. ((λ h. ((la.itag_bears t k h).1, (la.itag_bears t k h).0)), (λ h. subst (λ z. p.at_itag z ≡ Some k) h.1 (la.bears_itag k h.0)));
      index = λ t g. ((λ h. ((gr.index_bears t g h).1, (gr.index_bears t g h).0)), (λ h. subst (λ z. p.at_index z ≡ Some g) h.1 (gr.bears_index g h.0)));
      pasid_low = λ b h. la.pasid_low (p.pasid b) b (la.bears_pasid b h);
      tag_low = λ r h. la.tag_low (p.request_tag r) r (la.bears_tag r h);
      slot_low = λ u h. la.slot_low (p.use_slot u) u (la.bears_slot u (taken_slot (p.use_state u) h));
      itag_low = λ k h. la.itag_low (p.itag k) k (la.bears_itag k h);
      index_low = λ g h. gr.index_low (p.index g) g (gr.bears_index g h);
      one_space = λ b d u v same. la.one_space b d u v same;
    }

not_cleared : (x : Phase) → x ≡ Open → is_cleared x ≡ false
not_cleared x h = grind arith

-- a PASID that is on or ending is of an unreleased binding
alive_stage : (p : Endpoint) (b : ℕ) → (p.pasid_state b ≡ On → is_unmarked (p.stage b) ≡ true) → (p.pasid_state b ≡ Ending → p.stage b ≡ Stopping false)
    → is_off (p.pasid_state b) ≡ false → is_unreleased (p.stage b) ≡ true
alive_stage p b on ending h = grind arith

pub sent_undone : (x : OrderState) → x ≡ Sent → is_undone x ≡ true
sent_undone x h = grind arith

pub sent_busy : (x : OrderState) → x ≡ Sent → is_busy x ≡ true
sent_busy x h = grind arith

isnt_cleared : (x : Phase) → ((d : ℕ) → x ≢ Cleared d) → is_cleared x ≡ false
isnt_cleared Open h = refl
isnt_cleared (ResetSent c) h = refl
isnt_cleared (Cleared c) h = absurd (h c refl)

isnt_off : (s : PasidState) → is_off s ≡ false → s ≢ Off
isnt_off s h e = absurd (cc)

off_not : (s : PasidState) → s ≢ Off → is_off s ≡ false
off_not s h = grind arith

not_undone : (s : OrderState) → is_undone s ≡ false → (s ≡ Done) ⊎ (s ≡ Void)
not_undone Done h = inl refl
not_undone Void h = inr refl
not_undone Queued h = absurd (cc)
not_undone Sent h = absurd (cc)
not_undone (Taken u) h = absurd (cc)
not_undone Lapsed h = absurd (cc)
not_undone (Completing c l) h = absurd (cc)

alive_group : (s : GroupState) → (s ≡ Collecting) ⊎ (s ≡ Awaiting) → is_alive_group s ≡ true
alive_group s (inl h) = ap is_alive_group h
alive_group s (inr h) = ap is_alive_group h

-- a binding whose PASID isn't off bears it
started : (p : Endpoint) (b : ℕ) → Labels p → Bindings p → is_off (p.pasid_state b) ≡ false → (IsBearer p b) × (p.pasid_state b ≢ Off)
started p b la bi h = (bearer p b la (alive_stage p b (bi.on_stage b) (bi.ending_stage b) h), isnt_off (p.pasid_state b) h)

-- an open group at an open unit is outstanding at the endpoint
open_at : (p : Endpoint) → Groups p → (g : ℕ) → p.phase ≡ Open → is_open_group (p.host_group g) ≡ true → p.at_index (p.index g) ≡ Some g
open_at p gr g ph h = gr.bears_index g (gr.open_group g ph h).0

one_index : (p : Endpoint) (g h : ℕ) → p.at_index (p.index g) ≡ Some g → p.at_index (p.index h) ≡ Some h → p.index g ≡ p.index h → g ≡ h
one_index p g h a b same = let z : p.at_index (p.index g) ≡ p.at_index (p.index h) = ap p.at_index same in cc

pub found : (w : World) (e : ℕ) → Invariant w → IsFound (w.part e)
found w e i =
    let p = w.part e in
    let la = (i.parts e).labels in
    let bi = (i.parts e).bindings in
    let ra = (i.parts e).requests in
    let or = (i.parts e).orders in
    let ow = (i.parts e).owners in
    let re = (i.parts e).resets in
    let gr = (i.parts e).groups in
    record {
      start = λ c b h. bearer p b la (unmarked_unreleased (p.stage b) (bi.start_stage c b h));
      stop = λ c b h. bearer p b la (ap is_unreleased (bi.stop_stage c b h));
      request = λ c r ph h. let out =
          ra.ask_out c r h (not_cleared p.phase ph) in (
            bearer p (p.request_binding r) la
                (alive_stage p (p.request_binding r) (bi.on_stage (p.request_binding r)) (bi.ending_stage (p.request_binding r)) (ra.alive r out)),
            la.bears_tag r out,
          );
      completion = λ c r f ph h. la.bears_tag r (ra.answer_out c r f h (isnt_cleared p.phase ph));
      none_out = λ c r h. re.over c r h;
      out = λ r h. started p (p.request_binding r) la bi (ra.alive r h);
      started = λ b h. (started p b la bi (off_not (p.pasid_state b) h)).0;
      asker = λ g h. started p (p.asker g) la bi (gr.alive g (alive_group (p.group g) h));
      invalidate = λ c k h. let s =
          la.sent c k h in (
            s,
            la.bears_itag k (sent_busy (p.order_state k) s),
            bearer p (binding_of (p.order k)) la
                (active_unreleased (p.stage (binding_of (p.order k)))
                (or.undone_stage k (sent_undone (p.order_state k) s) (or.no_wait k (sent_busy (p.order_state k) s)))),
          );
      cached = λ r m h. bearer p (p.request_binding r) la (active_unreleased (p.stage (p.request_binding r)) (ow.held r m h));
      one_held = ra.one_held;
      in_use = λ u h. bearer p (p.use_binding u) la (active_unreleased (p.stage (p.use_binding u)) (ow.running u h));
      page_request = λ r ph h. gr.bears_index (p.group_of r) ((i.parts e).lasts.out r ph h);
      open_group = λ g ph h. open_at p gr g ph h;
      one_group = λ g h ph x y same. one_index p g h (open_at p gr g ph x) (open_at p gr h ph y) same;
      request_once = ra.ask_once;
      completion_once = ra.answer_once;
      there_or_back = ra.not_both;
      invalidate_once = la.sent_once;
    }

before_not : (s : Stage) (k x : ℕ) → is_before_invalidating s ≡ true → s ≢ Invalidating k x
before_not s k x h e = absurd (cc (sym (ap is_before_invalidating e) ∙ h))

inactive_not : (s : Stage) (k x : ℕ) → is_active s ≡ false → s ≢ Invalidating k x
inactive_not s k x h e = absurd (cc (sym (ap is_active e) ∙ h))

pub never : (w : World) (e : ℕ) → Invariant w → NeverOccurs (w.part e)
never w e i =
    let p = w.part e in
    let re = (i.parts e).resets in
    let gr = (i.parts e).groups in
    record {
      reset = λ c ph h. absurd (cc (sym ph ∙ re.down c h));
      reset_done = λ c ph h. absurd (cc (sym ph ∙ re.up c h));
      start = re.no_start;
      stop = re.no_stop;
      invalidate = re.no_invalidate;
      response = re.no_response;
      marker = (i.parts e).bindings.marker_stage;
      open_group = λ g ph h. (gr.open_group g ph h).1;
      arrived = gr.arrived_stage;
      reply = λ g v k x ph h. replies g v k x ph h;
      discarded = λ g v ph h. not_before (p.stage (p.filed_under g)) (gr.discarded g v ph h);
    }
  where
    replies : (g v k x : ℕ) → (w.part e).phase ≡ Open → ((w.part e).host_group g ≡ InHand v) ⊎ ((w.part e).host_group g ≡ InHandDiscarded v)
        → (w.part e).stage ((w.part e).filed_under g) ≢ Invalidating k x
    replies g v k x ph (inl h) = before_not ((w.part e).stage ((w.part e).filed_under g)) k x ((i.parts e).groups.open_group g ph (ap is_open_group h)).1
    replies g v k x ph (inr h) = inactive_not ((w.part e).stage ((w.part e).filed_under g)) k x ((i.parts e).groups.discarded g v ph h)

-- what is awaited is on its way
request_there : (r : ℕ) (m : Option Subject) → is_of_request r m ≡ true → (m ≡ Some (RequestOf r)) ⊎ ((found : Option ℕ) × (m ≡ Some (CompletionOf r found)))
request_there r (Some (RequestOf x)) h = inl (ap (λ y. Some (RequestOf y)) (eqb-true x r h))
request_there r (Some (CompletionOf x f)) h = inr (f, ap (λ y. Some (CompletionOf y f)) (eqb-true x r h))
request_there r None h = absurd (cc)
request_there r (Some (StartOf b)) h = absurd (cc)
request_there r (Some (StopOf b)) h = absurd (cc)
request_there r (Some FunctionReset) h = absurd (cc)
request_there r (Some (InvalidateOf k)) h = absurd (cc)
request_there r (Some (ResponseOf g code)) h = absurd (cc)
request_there r (Some (InvalidatedOf names)) h = absurd (cc)
request_there r (Some (PageRequestOf x)) h = absurd (cc)
request_there r (Some (MarkerOf b)) h = absurd (cc)
request_there r (Some ResetDone) h = absurd (cc)

response_there : (g : ℕ) (m : Option Subject) → is_response_to g m ≡ true → (code : Code) × (m ≡ Some (ResponseOf g code))
response_there g (Some (ResponseOf x code)) h = (code, ap (λ y. Some (ResponseOf y code)) (eqb-true x g h))
response_there g None h = absurd (cc)
response_there g (Some (RequestOf x)) h = absurd (cc)
response_there g (Some (CompletionOf x f)) h = absurd (cc)
response_there g (Some (StartOf b)) h = absurd (cc)
response_there g (Some (StopOf b)) h = absurd (cc)
response_there g (Some FunctionReset) h = absurd (cc)
response_there g (Some (InvalidateOf k)) h = absurd (cc)
response_there g (Some (InvalidatedOf names)) h = absurd (cc)
response_there g (Some (PageRequestOf x)) h = absurd (cc)
response_there g (Some (MarkerOf b)) h = absurd (cc)
response_there g (Some ResetDone) h = absurd (cc)

is_closed : (x : Phase) → is_open x ≡ false → x ≡ Open → ⊥
is_closed x h e = grind arith

-- the last request of a group that isn't whole at the host is in flight or arrived
asked_last : (p : Endpoint) (g r : ℕ) → p.group_of r ≡ g → is_whole (p.host_group g) ≡ false → p.page_request r ≢ Dropped
    → (p.page_request r ≡ Filed → is_whole (p.host_group (p.group_of r)) ≡ true) → (p.page_request r ≡ InFlight) ⊎ (p.page_request r ≡ Arrived)
asked_last p g r e part kept filed = grind arith

-- a group that is answerable at an open unit isn't discarded at the host
link_of : (w : World) (e : ℕ) → Invariant w → Ways (w.part e) → OnTheWay (w.part e) → (g : ℕ) → (w.part e).phase ≡ Open
    → is_answerable ((w.part e).group g) ≡ true → IsOnItsWay (w.part e) g
link_of w e i wa on g ph a = go (p.host_group g) refl
  where
    p : Endpoint
    p = w.part e

    out : is_outstanding (p.group g) ≡ true
    out = answerable_outstanding (p.group g) a

    x : (r : ℕ) × (r < p.page_requests) × (p.group_of r ≡ g) × (p.is_last r ≡ true)
    x = on.last g a

    out_last : is_outstanding (p.group (p.group_of x.0)) ≡ true
    out_last = ap (λ z. is_outstanding (p.group z)) x.2 ∙ out

    last_is : is_whole (p.host_group g) ≡ false → (p.page_request x.0 ≡ InFlight) ⊎ (p.page_request x.0 ≡ Arrived)
    last_is h = asked_last p g x.0 x.2 h ((i.parts e).lasts.kept x.0 ph x.1 out_last) (λ f. on.filed_last x.0 ph x.1 x.3 f out_last)

    go : (s : HostGroupState) → p.host_group g ≡ s → IsOnItsWay p g
    go NotFiled h = asked x.0 x.2 x.3 (last_is (ap is_whole h)) (inl h)
    go PartFiled h = asked x.0 x.2 x.3 (last_is (ap is_whole h)) (inr h)
    go Job h = is_job h
    go (InHand v) h = in_hand v h
    go Replied h = let y = response_there g (p.message (p.response_message g)) (wa.response g ph a h) in answered (p.response_message g) y.0 y.1 h
    go Discarded h = absurd (cc (sym out ∙ on.discarded g ph h))
    go (InHandDiscarded v) h = absurd (cc (sym out ∙ (i.parts e).groups.discarded_over g v ph h))

pub under_way : (w : World) (e : ℕ) → Invariant w → Ways (w.part e) → OnTheWay (w.part e) → Owed w.messages (w.part e) → IsUnderWay w.messages (w.part e)
under_way w e i wa on ow =
    let p = w.part e in
    let re = (i.parts e).resets in
    let gr = (i.parts e).groups in
    let qu = (i.parts e).queued in
    record {
      sent = wa.sent;
      sent_only = (i.parts e).labels.sent;
      owed = ow.owed;
      completing = ow.completing;
      never_lapsed = λ k ph h. is_closed p.phase (re.lapsed k h) ph;
      request = λ r ph h. (p.request_message r, request_there r (p.message (p.request_message r)) (wa.out r ph h));
      asked = λ r. ((λ h. (p.page_request_message r, qu.message r h)), (λ x. (qu.in_flight x.0 r x.1).0));
      asked_once = λ c d r h k. sym (qu.in_flight c r h).1 ∙ (qu.in_flight d r k).1;
      group = λ g ph a. link_of w e i wa on g ph a;
      responded = λ c g code h. ((gr.response c g code h).0, (gr.response c g code h).1);
      one_last = (i.parts e).lasts.last_once;
      unfiled = λ r ph h. not_filed r ph (made_of r h) h (p.host_group (p.group_of r)) refl;
      void = λ k lt v. voided p.phase (λ ph. (i.parts e).orders.void k lt v ph);
      ahead = λ k j wt d lt. not_undone (p.order_state j) ((i.parts e).orders.ahead k j d wt lt);
      response_once = λ c d g code other h k. sym (gr.response c g code h).2 ∙ (gr.response d g other k).2;
    }
  where
    voided : (x : Phase) → (x ≡ Open → 0 < (w.part e).resets) → (x ≢ Open) ⊎ (0 < (w.part e).resets)
    voided Open h = inr (h refl)
    voided (ResetSent c) h = inl (λ k. absurd (cc k))
    voided (Cleared c) h = inl (λ k. absurd (cc k))

    made_of : (r : ℕ) → ((w.part e).page_request r ≡ InFlight) ⊎ ((w.part e).page_request r ≡ Arrived) → r < (w.part e).page_requests
    made_of r h = grind (arith, nat_tests, (i.parts e).bounds.page_request r)

    not_filed : (r : ℕ) → (w.part e).phase ≡ Open → r < (w.part e).page_requests → ((w.part e).page_request r ≡ InFlight)
        ⊎ ((w.part e).page_request r ≡ Arrived) → (s : HostGroupState) → (w.part e).host_group ((w.part e).group_of r) ≡ s
        → ((w.part e).host_group ((w.part e).group_of r) ≡ NotFiled) ⊎ ((w.part e).host_group ((w.part e).group_of r) ≡ PartFiled)
    not_filed r ph lt h NotFiled x = inl x
    not_filed r ph lt h PartFiled x = inr x
    not_filed r ph lt h Job x = let z = (i.parts e).lasts.whole r (ap is_whole x) lt in grind arith
    not_filed r ph lt h (InHand v) x = let z = (i.parts e).lasts.whole r (ap is_whole x) lt in grind arith
    not_filed r ph lt h Replied x = let z = (i.parts e).lasts.whole r (ap is_whole x) lt in grind arith
    not_filed r ph lt h Discarded x = absurd (cc (sym ((i.parts e).lasts.out r ph h) ∙ on.discarded ((w.part e).group_of r) ph x))
    not_filed r ph lt h (InHandDiscarded v) x =
        absurd (cc (sym ((i.parts e).lasts.out r ph h) ∙ (i.parts e).groups.discarded_over ((w.part e).group_of r) v ph x))

-- a group is in one hand
one_worker : (s : HostGroupState) (x y : ℕ) → IsHeldBy s x → IsHeldBy s y → x ≡ y
one_worker s x y a b = grind arith

pub holds_jobs : (w : World) → Invariant w → Jobs w.jobs w.job w.hand (λ e. (w.part e).host_group) → HoldsJobs w
holds_jobs w i js =
    record {
      made = i.hands.made;
      in_hand = i.hands.held;
      one_hand = λ x y j k a b e g. one_worker ((w.part (w.job k).endpoint).host_group (w.job k).group) x y (moved x j k e g (i.hands.held x j a))
          (i.hands.held y k b);
      held = js.held;
      queued = js.queued;
      one_job = js.once;
    }
  where
    moved : (x j k : ℕ) → (w.job j).endpoint ≡ (w.job k).endpoint → (w.job j).group ≡ (w.job k).group
        → IsHeldBy ((w.part (w.job j).endpoint).host_group (w.job j).group) x → IsHeldBy ((w.part (w.job k).endpoint).host_group (w.job k).group) x
    moved x j k e g h = subst (λ z. IsHeldBy ((w.part z).host_group (w.job k).group) x) e
        (subst (λ z. IsHeldBy ((w.part (w.job j).endpoint).host_group z) x) g h)
