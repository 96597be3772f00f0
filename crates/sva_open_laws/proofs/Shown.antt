-- The open world shows all that its safety speaks of.
use Rattle.std.proofs.Common.{◌≡◌, ◌≢◌, refl, ap, sym, subst, ◌∙◌, ℕ, ◌<◌, Bool, true, arith}
use Rattle.std.specs.Prelude.{not, List, Some, option_map, Contains, slice_get, IfSome}
use Rattle.sva_model.specs.State.{Stage, PasidState, Subject, Endpoint, World}
use Rattle.sva_model.specs.State.Stage.{Unbound, Live, Stopping}
use Rattle.sva_model.specs.State.PasidState.{Off}
use Rattle.sva_model.specs.State.PageRequestState.{Arrived}
use Rattle.sva_model.specs.State.HostGroupState.{PartFiled}
use Rattle.sva_model.specs.State.Subject.{StartOf, StopOf, FunctionReset, CompletionOf, InvalidateOf, ResponseOf, RequestOf, InvalidatedOf}
use Rattle.sva_model.specs.State.Subject.{PageRequestOf, MarkerOf, ResetDone}
use Rattle.sva_model.specs.Words.{lowest, is_some}
use Rattle.sva_model.specs.States.{is_unreleased, is_out, is_live_stage, is_off, is_arrived, is_open_group}
use Rattle.sva_model.specs.Labels.{is_waiting, oldest_arrived}
use Rattle.sva_labels.proofs.Words.{lowest_below}
use Rattle.sva_laws.specs.LabelLaws.{FindsMappings}
use Rattle.sva_laws.proofs.Invariant.{Invariant}
use Rattle.sva_laws.proofs.Agreement.{bearer, distinct, owner}
use Rattle.sva_laws.proofs.Found.{labelled, found}
use Rattle.sva_laws.proofs.Groups.{filed_made, is_filed_group}
use Rattle.sva_laws.proofs.PageRequests.{arrived_made}
use Rattle.sva_laws.proofs.Passed.{unreleased_bound}
use Rattle.sva_open.specs.declared.messages.Sent.{Sent as Flying}
use Rattle.sva_open.specs.declared.descriptors.Arrived.{Arrived as Come}
use Rattle.sva_open_laws.specs.AsOpen.{where_so, is_bound, is_marked, first_of, entered_of, marked_of, user_of, request_of, sent_of, flying_of}
use Rattle.sva_open_laws.specs.AsOpen.{arrived_of, filed_of, part_of}
use Rattle.sva_open_laws.specs.Shown.{IsOfOne, IsInRow, ShowsAll, named_in}
use Rattle.sva_open_laws.proofs.Gathered.{in_gather, in_one, tabulate_get, first_gathered, first_there}
use Rattle.sva_open_laws.proofs.Safety.{bearer_owned, live_is, marked_is, started_is}
use Rattle.sva_open_laws.proofs.Usable.{last_of, current_by, near, made, bound_by, bound_low, shown_at, sent_low, unreleased_of}

-- ---- what else is of a binding

bound_of : (s : Stage) → s ≢ Unbound → is_bound s ≡ true
bound_of s h = grind arith

one_of : (w : World) (e b : ℕ) → Invariant w → (w.part e).stage b ≢ Unbound → IsOfOne w e b
one_of w e b i h = ((i.parts e).there b h, bound_of ((w.part e).stage b) h)

unreleased_one : (w : World) (e b : ℕ) → Invariant w → is_unreleased ((w.part e).stage b) ≡ true → IsOfOne w e b
unreleased_one w e b i u = one_of w e b i (unreleased_bound (w.part e) b u)

-- of the bindings of a PASID the first that is unreleased is the one
in_row : (w : World) (e b : ℕ) (f : ℕ → Bool) → Invariant w → is_unreleased ((w.part e).stage b) ≡ true → f b ≡ true
    → ((d : ℕ) → f d ≡ true → is_unreleased ((w.part e).stage d) ≡ true)
    → IsInRow w e b (first_of w.bindings (w.part e) ((w.part e).pasid b) f)
in_row w e b f i u h all =
    let x = first_there w.bindings p (p.pasid b) f b (bound_low w e b i (unreleased_bound p b u)) h refl in
    let same : x.0 ≡ b = distinct w e x.0 b i (all x.0 x.2) u x.3 in
    (unreleased_one w e b i u, ((labelled w e i).pasid_low b u).1, x.1 ∙ ap Some same)
  where
    p : Endpoint
    p = w.part e

live_true : (s : Stage) → s ≡ Live → is_live_stage s ≡ true
live_true s h = ap is_live_stage h

started_true : (s : PasidState) → s ≢ Off → not (is_off s) ≡ true
started_true s h = grind arith

live_in_row : (w : World) (e b : ℕ) → Invariant w → (w.part e).stage b ≡ Live
    → IsInRow w e b (entered_of w.bindings (w.part e) ((w.part e).pasid b)) × ((w.part e).space b < w.spaces)
live_in_row w e b i h =
    let p = w.part e in
    let u = live_is (p.stage b) (ap is_live_stage h) in (
      in_row w e b (λ x. is_live_stage (p.stage x)) i u (ap is_live_stage h) (λ d k. live_is (p.stage d) k),
      i.mapped.live (p.space b) (i.mapped.bound_live e b u),
    )

noted_in_row : (w : World) (e b : ℕ) → Invariant w → (w.part e).stage b ≡ Stopping true
    → IsInRow w e b (marked_of w.bindings (w.part e) ((w.part e).pasid b))
noted_in_row w e b i h =
    let p = w.part e in
    in_row w e b (λ x. is_marked (p.stage x)) i (ap is_unreleased h) (ap is_marked h) (λ d k. marked_is (p.stage d) k)

pub started_in_row : (w : World) (e b : ℕ) → Invariant w → (w.part e).pasid_state b ≢ Off
    → IsInRow w e b (user_of w.bindings (w.part e) ((w.part e).pasid b))
started_in_row w e b i h =
    let p = w.part e in
    in_row w e b (λ x. not (is_off (p.pasid_state x))) i ((found w e i).started b h).unreleased (started_true (p.pasid_state b) h)
    (λ d k. ((found w e i).started d (started_is (p.pasid_state d) k)).unreleased)

out_shown : (w : World) (e r : ℕ) → Invariant w → is_out ((w.part e).request r) ≡ true
    → IsOfOne w e ((w.part e).request_binding r)
    × (slice_get (part_of w e (w.part e)).requests ((w.part e).request_tag r) ≡ Some (Some (request_of (w.part e) r)))
out_shown w e r i h =
    let p = w.part e in
    let at = ((labelled w e i).tag (p.request_tag r) r).1 (h, refl) in (
      unreleased_one w e (p.request_binding r) i ((found w e i).out r h).0.unreleased,
      tabulate_get 32 (λ t. option_map (request_of p) (p.at_tag t)) (p.request_tag r) ((labelled w e i).tag_low r h)
          ∙ ap (λ z. Some (option_map (request_of p) z)) at,
    )

-- ---- messages

asker_one : (w : World) (e r : ℕ) → Invariant w → r < (w.part e).page_requests → IsOfOne w e ((w.part e).asker ((w.part e).group_of r))
asker_one w e r i l =
    let p = w.part e in
    one_of w e (p.asker (p.group_of r)) i ((i.parts e).groups.asker_bound (p.group_of r) ((i.parts e).bounds.group_of r l))

named_one : (w : World) (e c : ℕ) (s : Subject) → Invariant w → (w.part e).message c ≡ Some s → IfSome (named_in (w.part e) s) (IsOfOne w e)
named_one w e c (StartOf b) i h = unreleased_one w e b i ((found w e i).start c b h).unreleased
named_one w e c (StopOf b) i h = unreleased_one w e b i ((found w e i).stop c b h).unreleased
named_one w e c FunctionReset i h = tt
named_one w e c (CompletionOf r o) i h = tt
named_one w e c (InvalidateOf k) i h = tt
named_one w e c (ResponseOf g code) i h = tt
named_one w e c (RequestOf r) i h = tt
named_one w e c (InvalidatedOf names) i h = tt
named_one w e c (PageRequestOf r) i h = asker_one w e r i ((i.parts e).bounds.requested c r h)
named_one w e c (MarkerOf b) i h = unreleased_one w e b i (ap is_unreleased ((i.parts e).bindings.marker_stage c b h))
named_one w e c ResetDone i h = tt

flies : (w : World) (e c : ℕ) (s : Subject) → Invariant w → (w.part e).message c ≡ Some s → (one : Flying)
    → Contains (sent_of w.mappings (w.part e) s) one → Contains (part_of w e (w.part e)).flight one
flies w e c s i h one k =
    let p = w.part e in
    in_gather w.messages (λ x. flying_of w.mappings p (p.message x)) c one (sent_low w.messages p c s ((i.parts e).resets.unsent c) h)
    (subst (λ z. Contains (flying_of w.mappings p z) one) (sym h) k)

-- ---- page requests

abbrev arrivals_at : (e : ℕ) → Endpoint → ℕ → List Come
arrivals_at e p k = where_so (is_arrived (p.page_request (p.arrival k))) (arrived_of e p (p.arrival k))

has_arrived : (w : World) (e r : ℕ) → Invariant w → (w.part e).page_request r ≡ Arrived
    → IsOfOne w e ((w.part e).asker ((w.part e).group_of r)) × Contains (part_of w e (w.part e)).arrived (arrived_of e (w.part e) r)
has_arrived w e r i h =
    let p = w.part e in
    let x = (i.parts e).queued.arrived r h in (
      asker_one w e r i (arrived_made w.bindings p (i.parts e).bounds r h),
      in_gather p.arrivals (arrivals_at e p) (p.arrived_as r) (arrived_of e p r) x.0
          (subst (λ z. Contains (where_so (is_arrived (p.page_request z)) (arrived_of e p z)) (arrived_of e p r)) (sym x.1)
          (subst (λ z. Contains (where_so (is_arrived z) (arrived_of e p r)) (arrived_of e p r)) (sym h) (in_one (arrived_of e p r)))),
    )

oldest_first : (w : World) (e : ℕ) → Invariant w → (w.part e).page_request (oldest_arrived (w.part e)) ≡ Arrived
    → slice_get (part_of w e (w.part e)).arrived 0 ≡ Some (arrived_of e (w.part e) (oldest_arrived (w.part e)))
oldest_first w e i h =
    let p = w.part e in
    let r = oldest_arrived p in
    let x = (i.parts e).queued.arrived r h in
    let waits : is_waiting p (p.arrived_as r) ≡ true = ap (λ z. is_arrived (p.page_request z)) x.1 ∙ ap is_arrived h in
    let y = lowest_below p.arrivals (is_waiting p) (p.arrived_as r) x.0 waits in
    first_gathered p.arrivals (arrivals_at e p) (lowest p.arrivals (is_waiting p)) (arrived_of e p r) y.0
    (λ j l. ap (λ z. where_so z (arrived_of e p (p.arrival j))) (y.2 j l))
    (ap (λ z. where_so z (arrived_of e p r)) y.1)

part_filed : (w : World) (e g : ℕ) → Invariant w → (w.part e).host_group g ≡ PartFiled
    → Contains (part_of w e (w.part e)).filed (filed_of (w.part e) g)
part_filed w e g i h =
    let p = w.part e in
    in_gather p.groups (λ z. where_so (is_open_group (p.host_group z)) (filed_of p z)) g (filed_of p g)
    (filed_made w.bindings p (i.parts e).bounds g (ap is_filed_group h))
    (subst (λ z. Contains (where_so z (filed_of p g)) (filed_of p g)) (sym (ap is_open_group h)) (in_one (filed_of p g)))

pub shows : (w : World) → Invariant w → FindsMappings w.mappings → ShowsAll w
shows w i fi =
    record {
      part = λ e l. tabulate_get w.config.endpoints (λ x. part_of w x (w.part x)) e l;
      usable = λ e b q m u. (
        (near w e b q m i u, bound_by ((w.part e).stage b) (owner w e b q m i u)),
        made w e b q m i u,
        shown_at w e b q m i u,
      );
      current = λ m made. (last_of w m i fi made, λ h. current_by w m i made h.0 h.1);
      owner = λ e b bo. (
        (λ h. bearer (w.part e) b (i.parts e).labels (unreleased_of w e b i bo h)),
        (λ is. bearer_owned w e b i is),
      );
      entered = λ e b h. live_in_row w e b i h;
      noted = λ e b h. noted_in_row w e b i h;
      started = λ e b h. started_in_row w e b i h;
      out = λ e r h. out_shown w e r i h;
      flight = λ e c s h. ((i.parts e).near c (ap is_some h), named_one w e c s i h, λ one k. flies w e c s i h one k);
      arrived = λ e r h. has_arrived w e r i h;
      oldest = λ e h. oldest_first w e i h;
      filed = λ e g h. part_filed w e g i h;
    }
