-- A response that comes to its endpoint is an act of the open world: its delivery.
use Rattle.std.proofs.Common.{◌≡◌, ◌≢◌, refl, ap, ap₂, sym, ◌∙◌, ℕ, suc, ◌+◌, ◌<◌, Bool, true, false, arith}
use Rattle.std.specs.Prelude.{◌&&◌, ◌||◌, not, List, [], ◌∷◌, ◌++◌, Option, Some, None, option_map, remove, slice_set}
use Rattle.sva_step.specs.Limits
use Rattle.sva_model.specs.Words.{tabulate}
use Rattle.sva_model.specs.Message.{Code}
use Rattle.sva_model.specs.Message.Code.{SuccessCode, InvalidCode, FailureCode}
use Rattle.sva_model.specs.State.{Mappings, Order, OrderState, Subject, Endpoint, World}
use Rattle.sva_model.specs.State.GroupState.{Closed}
use Rattle.sva_model.specs.State.Order.{RangeOf, PasidOf, Wait}
use Rattle.sva_model.specs.State.OrderState.{Queued, Sent, Taken, Lapsed, Completing, Done, Void}
use Rattle.sva_model.specs.State.Subject.{StartOf, StopOf, FunctionReset, CompletionOf, InvalidateOf, ResponseOf, RequestOf, InvalidatedOf}
use Rattle.sva_model.specs.State.Subject.{PageRequestOf, MarkerOf, ResetDone}
use Rattle.sva_model.specs.StateChanges.{disables}
use Rattle.sva_model.specs.States.{is_collecting, is_queued, is_running}
use Rattle.sva_model.specs.Acts.{LocalAct, act, act_alone}
use Rattle.sva_model.specs.Acts.Act.{AtEndpoint}
use Rattle.sva_model.specs.Labels.{is_permitted}
use Rattle.sva_labels.proofs.Lists.{tabulate_same, tabulate_set}
use Rattle.sva_labels.proofs.Words.{put-same, put-other}
use Rattle.sva_laws.proofs.Invariant.{Invariant}
use Rattle.sva_open.specs.declared.acts.Act.TheVariants as doing
use Rattle.sva_open.specs.declared.acts.LocalAct.TheVariants as local
use Rattle.sva_open.specs.declared.messages.Message.TheVariants as message
use Rattle.sva_open.specs.declared.messages.Sent.{Sent as Flying}
use Rattle.sva_open.specs.declared.scopes.Scope.{Scope}
use Rattle.sva_open.specs.declared.works.Work.{Work}
use Rattle.sva_open.specs.declared.works.Work.TheVariants.{Taken as Busy}
use Rattle.sva_open.specs.World.{Part, if_so}
use Rattle.sva_open.specs.Acts.{next_open}
use Rattle.sva_open.specs.Links.{deliver, taken_in, without_sent}
use Rattle.sva_open_laws.specs.AsOpen.{descriptor_of, ended_of, flying_of, gather, group_of, is_failure, is_filed, one, open_of, owner_by, part_of, row_at}
use Rattle.sva_open_laws.specs.AsOpen.{scope_of, state_of, taken_of, use_of, user_by, user_of, where_so}
use Rattle.sva_open_laws.specs.LinkOrders.{IsDeliveredAlike, place_of_message}
use Rattle.sva_open_laws.proofs.ActParts.{at_one_endpoint}
use Rattle.sva_open_laws.proofs.DeviceActs.{calm}
use Rattle.sva_open_laws.proofs.GatherLists.{Split, gather_more, gather_same, remove_at, split}
use Rattle.sva_open_laws.proofs.LinkLists.{delivered_alike}
use Rattle.sva_open_laws.proofs.Usable.{sent_low}

-- ---- An endpoint with the groups that another one has begun
abbrev answering : Endpoint → Endpoint → Endpoint
answering p q = record p { group = q.group; at_index = q.at_index; is_disabled = q.is_disabled; message = q.message; carried = q.carried }

row_same : (g : ℕ) (p q : Endpoint) (t : ℕ) → row_at g (answering p q) t ≡ row_at g p t
row_same g p q t =
    ap (λ n. record (row_at g (answering p q) t) { owner = n }) (owner_same (p.at_pasid t))
    ∙ ap₂ (λ s n. record (row_at g (answering p q) t) { owner = owner_by g p t (p.at_pasid t); state = s; user = n }) (state_same (user_of g p t))
    (user_same (user_of g p t))
  where
    owner_same : (o : Option ℕ) → owner_by g (answering p q) t o ≡ owner_by g p t o
    owner_same None = refl
    owner_same (Some b) = refl

    state_same : (o : Option ℕ) → state_of (answering p q) o ≡ state_of p o
    state_same None = refl
    state_same (Some b) = refl

    user_same : (o : Option ℕ) → user_by (answering p q) o ≡ user_by p o
    user_same None = refl
    user_same (Some b) = refl

-- and with the states of its PASIDs too
abbrev pub light : Endpoint → Endpoint → Endpoint
light p q =
    record p {
      pasid_state = q.pasid_state;
      group = q.group;
      at_index = q.at_index;
      is_disabled = q.is_disabled;
      message = q.message;
      carried = q.carried;
    }

scope_same : (p q : Endpoint) (x : Order) → scope_of (light p q) x ≡ scope_of p x
scope_same p q (RangeOf b range) = refl
scope_same p q (PasidOf b) = refl
scope_same p q (Wait cookie drain) = refl

descriptor_same : (e : ℕ) (p q : Endpoint) (x : Order) → descriptor_of e (light p q) x ≡ descriptor_of e p x
descriptor_same e p q (RangeOf b range) = refl
descriptor_same e p q (PasidOf b) = refl
descriptor_same e p q (Wait cookie drain) = refl

taken_same : (p q : Endpoint) (s : OrderState) (k : ℕ) → taken_of (light p q) s k ≡ taken_of p s k
taken_same p q Queued k = refl
taken_same p q Sent k = refl
taken_same p q (Taken uses) k = ap busy (scope_same p q (p.order k))
  where
    busy : Scope → List Work
    busy x = Busy (p.itag k) x ∷ []
taken_same p q Lapsed k = refl
taken_same p q (Completing count left) k = refl
taken_same p q Done k = refl
taken_same p q Void k = refl

pub flying_same : (ms : Mappings) (p q : Endpoint) (o : Option Subject) → flying_of ms (light p q) o ≡ flying_of ms p o
flying_same ms p q None = refl
flying_same ms p q (Some (StartOf b)) = refl
flying_same ms p q (Some (StopOf b)) = refl
flying_same ms p q (Some FunctionReset) = refl
flying_same ms p q (Some (CompletionOf r found)) = refl
flying_same ms p q (Some (InvalidateOf k)) = ap (λ s. one 0 p.resets (message.Invalidate (p.itag k) s)) (scope_same p q (p.order k))
flying_same ms p q (Some (ResponseOf g code)) = refl
flying_same ms p q (Some (RequestOf r)) = refl
flying_same ms p q (Some (InvalidatedOf names)) =
    gather_same p.orders (λ k. ended_of (light p q) (names k) k) (λ k. ended_of p (names k) k) (λ k l. ended_same (names k) k)
  where
    ended_same : (b : Bool) (k : ℕ) → ended_of (light p q) b k ≡ ended_of p b k
    ended_same true k = refl
    ended_same false k = refl
flying_same ms p q (Some (PageRequestOf r)) = refl
flying_same ms p q (Some (MarkerOf b)) = refl
flying_same ms p q (Some ResetDone) = refl

pub seen : (w : World) (e m : ℕ) (p q : Endpoint)
    → part_of (record w { messages = m }) e (light p q) ≡ record (part_of w e p) {
      rows = tabulate (suc Limits.pasids) (row_at w.bindings (light p q));
      groups = tabulate Limits.groups (λ t. option_map (group_of (light p q)) (q.at_index t));
      is_enabled = not q.is_disabled;
      flight = gather m (λ c. flying_of w.mappings (light p q) (q.message c));
    }
seen w e m p q =
    ap₂ (λ taken queue. record (part_of (record w { messages = m }) e (light p q)) {
      works = gather p.uses (λ u. where_so (is_running (p.use_state u)) (use_of w.mappings p u)) ++ taken;
      queue = queue;
    })
    (gather_same p.orders (λ k. taken_of (light p q) (p.order_state k) k) (λ k. taken_of p (p.order_state k) k)
    (λ k l. taken_same p q (p.order_state k) k))
    (gather_same p.orders (λ k. where_so (is_queued (p.order_state k)) (descriptor_of e (light p q) (p.order k)))
    (λ k. where_so (is_queued (p.order_state k)) (descriptor_of e p (p.order k)))
    (λ k l. ap (where_so (is_queued (p.order_state k))) (descriptor_same e p q (p.order k))))

-- ---- A response

fails_alike : (b : Bool) (code : Code) → not (b || disables code) ≡ (not b && not (is_failure code))
fails_alike true SuccessCode = refl
fails_alike true InvalidCode = refl
fails_alike true FailureCode = refl
fails_alike false SuccessCode = refl
fails_alike false InvalidCode = refl
fails_alike false FailureCode = refl

module _ (w : World) (e c g : ℕ) (code : Code) (i : Invariant w) (low : e < w.config.endpoints)
    (speaks : (w.part e).message c ≡ Some (ResponseOf g code)) (permitted : is_permitted (w.part e) c (ResponseOf g code) ≡ true) where
  abbrev p : Endpoint
  p = w.part e

  abbrev answered : Endpoint
  answered = act_alone (w.part e) w.messages (LocalAct.Answered c g code)

  abbrev its : Flying
  its =
      record {
        message = message.Response ((w.part e).index g) (is_failure code) (is_filed ((w.part e).host_group g));
        owner = 0;
        number = g;
      }

  abbrev place : ℕ
  place = place_of_message w.mappings (w.part e) c

  alike : IsDeliveredAlike w e c (ResponseOf g code) its
  alike = delivered_alike w e c (ResponseOf g code) its i speaks (λ k. absurd (cc)) refl

  sent_before : c < w.messages
  sent_before = sent_low w.messages p c (ResponseOf g code) ((i.parts e).resets.unsent c) speaks

  flying : ℕ → List Flying
  flying d = flying_of w.mappings (w.part e) ((w.part e).message d)

  left : ℕ → List Flying
  left d = flying_of w.mappings answered (answered.message d)

  others : (d : ℕ) → d ≢ c → left d ≡ flying d
  unfolding left flying
  others d ne = ap (flying_of w.mappings answered) (put-other p.message c None d ne) ∙ flying_same w.mappings p answered (p.message d)

  parted : Split w.messages flying left c its
  unfolding left flying
  parted =
      split w.messages flying left c its sent_before (ap (flying_of w.mappings p) speaks) (ap (flying_of w.mappings answered) (put-same p.message c None))
      others

  flight : gather (w.messages + 0) (λ d. flying_of w.mappings answered (answered.message d)) ≡ remove (part_of w e p).flight place
  unfolding left flying
  flight =
      gather_more w.messages 0 left
      (λ d l. others d (λ same. absurd (omega (arith, same, l, sent_before))) ∙ ap (flying_of w.mappings p) ((i.parts e).resets.unsent d l))
      ∙ parted.rest
      ∙ sym (ap (λ z. remove z place) parted.whole ∙ remove_at (gather c flying) its parted.behind)

  groups : tabulate 32 (λ t. option_map (group_of answered) (answered.at_index t)) ≡ slice_set (part_of w e p).groups (p.index g) None
  groups =
      tabulate_set 32 (λ t. option_map (group_of p) (p.at_index t)) (λ t. option_map (group_of answered) (answered.at_index t)) (p.index g) None
      (ap (option_map (group_of answered)) (put-same p.at_index (p.index g) None))
      (λ t ne. ap (option_map (group_of answered)) (put-other p.at_index (p.index g) None t ne) ∙ other t ne (p.at_index t) refl)
    where
      other : (t : ℕ) → t ≢ p.index g → (o : Option ℕ) → p.at_index t ≡ o → option_map (group_of answered) o ≡ option_map (group_of p) o
      other t ne None h = refl
      other t ne (Some x) h =
          ap (λ s. Some (record (group_of p x) { is_finished = not (is_collecting s) }))
          (put-other p.group g Closed x (λ same. ne (sym ((i.parts e).groups.index_bears t x h).0 ∙ ap p.index same)))

  abbrev part_now : Part
  part_now =
      record (part_of w e (w.part e)) {
        groups = slice_set (part_of w e (w.part e)).groups ((w.part e).index g) None;
        is_enabled = not (w.part e).is_disabled && not (is_failure code);
        flight = remove (part_of w e (w.part e)).flight place;
      }

  sees : part_of (act w (AtEndpoint e (LocalAct.Answered c g code))) e answered ≡ part_now
  sees =
      seen w e (w.messages + 0) p answered
      ∙ ap (λ rows. record (part_of w e p) {
        rows = rows;
        groups = tabulate 32 (λ t. option_map (group_of answered) (answered.at_index t));
        is_enabled = not answered.is_disabled;
        flight = gather (w.messages + 0) (λ d. flying_of w.mappings answered (answered.message d));
      }) (tabulate_same 33 (row_at w.bindings answered) (row_at w.bindings p) (λ t l. row_same w.bindings p answered t))
      ∙ ap₂ (λ gs b. record (part_of w e p) {
        groups = gs;
        is_enabled = b;
        flight = gather (w.messages + 0) (λ d. flying_of w.mappings answered (answered.message d));
      }) groups (fails_alike p.is_disabled code)
      ∙ ap (λ fs. record (part_of w e p) {
        groups = slice_set (part_of w e p).groups (p.index g) None;
        is_enabled = not p.is_disabled && not (is_failure code);
        flight = fs;
      }) flight

  pub answers : next_open (open_of w) (doing.At e (local.Deliver (place_of_message w.mappings (w.part e) c)))
      ≡ Some (open_of (act w (AtEndpoint e (LocalAct.Answered c g code))))
  answers =
      at_one_endpoint w e (LocalAct.Answered c g code) i low (calm p w.messages (LocalAct.Answered c g code) refl refl) (local.Deliver place) part_now sees
      (ap (deliver (open_of w).settings (open_of w).mappings (part_of w e p) place) alike.stands
      ∙ ap (λ b. if_so b (taken_in (open_of w).settings (open_of w).mappings (without_sent (part_of w e p) place) its)) (alike.permitted ∙ permitted))
