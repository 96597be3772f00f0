-- What a binding more leaves of what else is at its endpoint: nothing of that is of it.
use Rattle.std.proofs.Common.{◌≡◌, ◌≢◌, refl, ap, ap₂, sym, subst, ◌∙◌, ℕ, ◌<◌, ◌≤◌, Bool, true, false, arith}
use Rattle.std.specs.Prelude.{◌==◌, ◌&&◌, List, [], ◌∷◌, Option, Some, None, option_map}
use Rattle.sva_model.specs.Words.{put}
use Rattle.sva_model.specs.Range.{pages_in}
use Rattle.sva_model.specs.State.{Order, OrderState, Stage, Subject, Endpoint, World}
use Rattle.sva_model.specs.State.Order.{RangeOf, PasidOf, Wait}
use Rattle.sva_model.specs.State.OrderState.{Queued, Sent, Taken, Lapsed, Completing, Done, Void}
use Rattle.sva_model.specs.State.GroupState.{Closed}
use Rattle.sva_model.specs.State.Stage.{Unbound, Live}
use Rattle.sva_model.specs.State.Subject.{StartOf, StopOf, FunctionReset, CompletionOf, InvalidateOf, ResponseOf, RequestOf, InvalidatedOf}
use Rattle.sva_model.specs.State.Subject.{PageRequestOf, MarkerOf, ResetDone}
use Rattle.sva_model.specs.StateChanges.{binding_of}
use Rattle.sva_model.specs.States.{is_arrived, is_wait, is_open_group, is_outstanding, is_queued, is_running}
use Rattle.sva_model.specs.Acts.{LocalAct, act_alone}
use Rattle.sva_labels.proofs.Counting.{count_same}
use Rattle.sva_labels.proofs.Words.{put-other}
use Rattle.sva_laws.proofs.Bindings.{is_unmarked}
use Rattle.sva_laws.proofs.Groups.{filed_made, open_filed}
use Rattle.sva_laws.proofs.Invariant.{Invariant}
use Rattle.sva_laws.proofs.Orders.{is_active, is_undone}
use Rattle.sva_laws.proofs.PageRequests.{arrived_is, arrived_made}
use Rattle.sva_open.specs.declared.descriptors.Descriptor.TheVariants as descriptor
use Rattle.sva_open.specs.declared.frames.Translation.{Translation}
use Rattle.sva_open.specs.declared.messages.Message.{Message}
use Rattle.sva_open.specs.declared.messages.Message.TheVariants as message
use Rattle.sva_open.specs.declared.scopes.Scope.{Scope}
use Rattle.sva_open.specs.declared.scopes.Scope.TheVariants as scope
use Rattle.sva_open.specs.declared.works.Work.{Work}
use Rattle.sva_open.specs.declared.works.Work.TheVariants.{Use, Taken as Busy}
use Rattle.sva_open_laws.specs.AsOpen.{arrived_of, asked_of, descriptor_of, ended_of, filed_of, flying_of, group_of, had_before, if_there}
use Rattle.sva_open_laws.specs.AsOpen.{is_bound, one, owner_of, request_of, scope_of, taken_of, target_of, translation_of, use_of, where_so}
use Rattle.sva_open_laws.proofs.DeviceActs.{held_at, uses_at}
use Rattle.sva_open_laws.proofs.GatherLists.{gather_same}
use Rattle.sva_open_laws.proofs.Safety.{running_is}
use Rattle.sva_open_laws.proofs.Usable.{bound_low, out_low}

-- of a stage that says more than that there is a binding
active_bound : (x : Stage) → is_active x ≡ true → x ≢ Unbound
active_bound x h e = absurd (cc (sym h ∙ ap is_active e))

unmarked_bound : (x : Stage) → is_unmarked x ≡ true → x ≢ Unbound
unmarked_bound x h e = absurd (cc (sym h ∙ ap is_unmarked e))

module _ (w : World) (e s t : ℕ) (i : Invariant w) where
  abbrev p : Endpoint
  p = w.part e

  abbrev g : ℕ
  g = w.bindings

  abbrev bound : Endpoint
  bound = act_alone (w.part e) w.messages (LocalAct.Bind w.bindings s t)

  made : (b : ℕ) → (w.part e).stage b ≢ Unbound → b < w.bindings
  made b h = bound_low w e b i h

  not_new : (b : ℕ) → b < g → b ≢ g
  not_new b l same = absurd (omega (arith, same, l))

  pub pasid_old : (b : ℕ) → b < w.bindings → put (w.part e).pasid w.bindings t b ≡ (w.part e).pasid b
  pasid_old b l = put-other p.pasid g t b (not_new b l)

  pub space_old : (b : ℕ) → b < w.bindings → put (w.part e).space w.bindings s b ≡ (w.part e).space b
  space_old b l = put-other p.space g s b (not_new b l)

  pub had_same : (pasid n : ℕ) → n ≤ w.bindings
      → had_before (act_alone (w.part e) w.messages (LocalAct.Bind w.bindings s t)) pasid n ≡ had_before (w.part e) pasid n
  had_same pasid n l =
      count_same n (λ b. is_bound (bound.stage b) && (bound.pasid b == pasid)) (λ b. is_bound (p.stage b) && (p.pasid b == pasid))
      (λ b k. ap₂ (λ x y. is_bound x && (y == pasid)) (put-other p.stage g Live b (not_new b (omega (arith, k, l))))
      (pasid_old b (omega (arith, k, l))))

  pub owner_old : (b : ℕ) → b < w.bindings
      → owner_of (act_alone (w.part e) w.messages (LocalAct.Bind w.bindings s t)) b ≡ owner_of (w.part e) b
  owner_old b l = ap (λ z. had_before bound z b) (pasid_old b l) ∙ had_same (p.pasid b) b (omega (arith, l))

  -- ---- Translations

  translation_old : (b y m : ℕ) → b < g → translation_of w.mappings bound b y m ≡ translation_of w.mappings p b y m
  translation_old b y m l = ap₂ (λ d o. record (translation_of w.mappings p b y m) { pasid = d; owner = o }) (pasid_old b l) (owner_old b l)

  pub held_old : (r : ℕ) → r < (w.part e).requests
      → held_at w.mappings (act_alone (w.part e) w.messages (LocalAct.Bind w.bindings s t)) r ≡ held_at w.mappings (w.part e) r
  held_old r l = go (p.held r)
    where
      go : (o : Option ℕ) → if_there (option_map (translation_of w.mappings bound (p.request_binding r) (p.request_page r)) o)
          ≡ if_there (option_map (translation_of w.mappings p (p.request_binding r) (p.request_page r)) o)
      go None = refl
      go (Some m) =
          ap (λ x. if_there (Some x))
          (translation_old (p.request_binding r) (p.request_page r) m (made (p.request_binding r) ((i.parts e).requests.bound r l)))

  pub use_old : (u : ℕ) → uses_at w.mappings (act_alone (w.part e) w.messages (LocalAct.Bind w.bindings s t)) u ≡ uses_at w.mappings (w.part e) u
  use_old u = go (is_running (p.use_state u)) refl
    where
      used : Translation → List Work
      used x = Use x ∷ []

      go : (b : Bool) → is_running (p.use_state u) ≡ b → where_so b (use_of w.mappings bound u) ≡ where_so b (use_of w.mappings p u)
      go false h = refl
      go true h =
          ap used
          (translation_old (p.use_binding u) (w.mappings.page (p.use_mapping u)) (p.use_mapping u)
          (made (p.use_binding u)
          (active_bound (p.stage (p.use_binding u)) ((i.parts e).owners.running u (running_is (p.use_state u) h)))))

  -- ---- Orders

  scope_old : (k : ℕ) (x : Order) → p.order k ≡ x → is_undone (p.order_state k) ≡ true → scope_of bound x ≡ scope_of p x
  scope_old k (RangeOf b range) is undone =
      ap (λ z. scope.Pages z range.base (pages_in range)) (pasid_old b (made b (active_bound (p.stage b) (there is))))
    where
      there : p.order k ≡ RangeOf b range → is_active (p.stage b) ≡ true
      there h = subst (λ z. is_active (p.stage (binding_of z)) ≡ true) h ((i.parts e).orders.undone_stage k undone (ap is_wait h))
  scope_old k (PasidOf b) is undone = ap scope.Pasid (pasid_old b (made b (active_bound (p.stage b) (there is))))
    where
      there : p.order k ≡ PasidOf b → is_active (p.stage b) ≡ true
      there h = subst (λ z. is_active (p.stage (binding_of z)) ≡ true) h ((i.parts e).orders.undone_stage k undone (ap is_wait h))
  scope_old k (Wait cookie drain) is undone = refl

  pub taken_old : (k : ℕ) → taken_of (act_alone (w.part e) w.messages (LocalAct.Bind w.bindings s t)) ((w.part e).order_state k) k
      ≡ taken_of (w.part e) ((w.part e).order_state k) k
  taken_old k = go (p.order_state k) refl
    where
      busy : Scope → List Work
      busy x = Busy (p.itag k) x ∷ []

      go : (x : OrderState) → p.order_state k ≡ x → taken_of bound x k ≡ taken_of p x k
      go Queued h = refl
      go Sent h = refl
      go (Taken uses) h = ap busy (scope_old k (p.order k) refl (ap is_undone h))
      go Lapsed h = refl
      go (Completing count left) h = refl
      go Done h = refl
      go Void h = refl

  pub queued_old : (k : ℕ)
      → where_so (is_queued ((w.part e).order_state k))
      (descriptor_of e (act_alone (w.part e) w.messages (LocalAct.Bind w.bindings s t)) ((w.part e).order k))
      ≡ where_so (is_queued ((w.part e).order_state k)) (descriptor_of e (w.part e) ((w.part e).order k))
  queued_old k = go (p.order_state k) refl
    where
      by_order : (x : Order) → p.order k ≡ x → is_undone (p.order_state k) ≡ true → descriptor_of e bound x ≡ descriptor_of e p x
      by_order (RangeOf b range) is undone = ap (descriptor.Device e) (scope_old k (RangeOf b range) is undone)
      by_order (PasidOf b) is undone = ap (descriptor.Device e) (scope_old k (PasidOf b) is undone)
      by_order (Wait cookie drain) is undone = refl

      go : (x : OrderState) → p.order_state k ≡ x
          → where_so (is_queued x) (descriptor_of e bound (p.order k)) ≡ where_so (is_queued x) (descriptor_of e p (p.order k))
      go Queued h = ap (where_so true) (by_order (p.order k) refl (ap is_undone h))
      go Sent h = refl
      go (Taken uses) h = refl
      go Lapsed h = refl
      go (Completing count left) h = refl
      go Done h = refl
      go Void h = refl

  -- ---- Requests and groups

  pub request_old : (tag : ℕ)
      → option_map (request_of (act_alone (w.part e) w.messages (LocalAct.Bind w.bindings s t))) ((w.part e).at_tag tag)
      ≡ option_map (request_of (w.part e)) ((w.part e).at_tag tag)
  request_old tag = go (p.at_tag tag) refl
    where
      go : (o : Option ℕ) → p.at_tag tag ≡ o → option_map (request_of bound) o ≡ option_map (request_of p) o
      go None h = refl
      go (Some r) h =
          let b = p.request_binding r in
          let low = made b ((i.parts e).requests.bound r (out_low p r ((i.parts e).bounds.request r) ((i.parts e).labels.tag_bears tag r h).1)) in
          ap₂ (λ d o. Some (record (request_of p r) { pasid = d; owner = o })) (pasid_old b low) (owner_old b low)

  outstanding_low : (x : ℕ) → is_outstanding (p.group x) ≡ true → x < p.groups
  outstanding_low x h = by ((i.parts e).bounds.group x)
    where
      by : (p.groups ≤ x → p.group x ≡ Closed) → x < p.groups
      by low = grind (arith, h, low)

  pub group_old : (index : ℕ)
      → option_map (group_of (act_alone (w.part e) w.messages (LocalAct.Bind w.bindings s t))) ((w.part e).at_index index)
      ≡ option_map (group_of (w.part e)) ((w.part e).at_index index)
  group_old index = go (p.at_index index) refl
    where
      go : (o : Option ℕ) → p.at_index index ≡ o → option_map (group_of bound) o ≡ option_map (group_of p) o
      go None h = refl
      go (Some x) h =
          let b = p.asker x in
          let low = made b ((i.parts e).groups.asker_bound x (outstanding_low x ((i.parts e).groups.index_bears index x h).1)) in
          ap₂ (λ d o. Some (record (group_of p x) { pasid = d; owner = o })) (pasid_old b low) (owner_old b low)

  asker_low : (r : ℕ) → r < p.page_requests → p.asker (p.group_of r) < g
  asker_low r l = made (p.asker (p.group_of r)) ((i.parts e).groups.asker_bound (p.group_of r) ((i.parts e).bounds.group_of r l))

  pub arrived_old : (k : ℕ)
      → where_so (is_arrived ((w.part e).page_request ((w.part e).arrival k)))
      (arrived_of e (act_alone (w.part e) w.messages (LocalAct.Bind w.bindings s t)) ((w.part e).arrival k))
      ≡ where_so (is_arrived ((w.part e).page_request ((w.part e).arrival k))) (arrived_of e (w.part e) ((w.part e).arrival k))
  arrived_old k = go (is_arrived (p.page_request r)) refl
    where
      r : ℕ
      r = (w.part e).arrival k

      go : (b : Bool) → is_arrived (p.page_request r) ≡ b → where_so b (arrived_of e bound r) ≡ where_so b (arrived_of e p r)
      go false h = refl
      go true h =
          let low = asker_low r (arrived_made g p (i.parts e).bounds r (arrived_is (p.page_request r) h)) in
          ap₂ (λ d o. where_so true (record (arrived_of e p r) { request = record (asked_of p r) { pasid = d }; owner = o }))
          (pasid_old (p.asker (p.group_of r)) low) (owner_old (p.asker (p.group_of r)) low)

  pub filed_old : (x : ℕ)
      → where_so (is_open_group ((w.part e).host_group x)) (filed_of (act_alone (w.part e) w.messages (LocalAct.Bind w.bindings s t)) x)
      ≡ where_so (is_open_group ((w.part e).host_group x)) (filed_of (w.part e) x)
  filed_old x = go (is_open_group (p.host_group x)) refl
    where
      go : (b : Bool) → is_open_group (p.host_group x) ≡ b → where_so b (filed_of bound x) ≡ where_so b (filed_of p x)
      go false h = refl
      go true h =
          let filed = open_filed (p.host_group x) h in
          let low = made (p.asker x) ((i.parts e).groups.asker_bound x (filed_made g p (i.parts e).bounds x filed)) in
          let under = subst (λ z. z < g) (sym ((i.parts e).groups.under x filed)) low in
          ap₂ (λ d o. where_so true (record (filed_of bound x) { pasid = d; owner = o })) (pasid_old (p.filed_under x) under) (owner_old (p.asker x) low)
          ∙ ap (λ z. where_so true (record (filed_of p x) { space = Some z })) (space_old (p.filed_under x) under)

  -- ---- Messages in flight

  pub flight_old : (c : ℕ)
      → flying_of w.mappings (act_alone (w.part e) w.messages (LocalAct.Bind w.bindings s t)) ((w.part e).message c)
      ≡ flying_of w.mappings (w.part e) ((w.part e).message c)
  flight_old c = go (p.message c) refl
    where
      of_binding : (b : ℕ) (its : ℕ → Message) → p.stage b ≢ Unbound
          → one (owner_of bound b) p.resets (its (bound.pasid b)) ≡ one (owner_of p b) p.resets (its (p.pasid b))
      of_binding b its there = ap₂ (λ o d. one o p.resets (its d)) (owner_old b (made b there)) (pasid_old b (made b there))

      ended_old : (b : Bool) (k : ℕ) → ended_of bound b k ≡ ended_of p b k
      ended_old true k = refl
      ended_old false k = refl

      go : (o : Option Subject) → p.message c ≡ o → flying_of w.mappings bound o ≡ flying_of w.mappings p o
      go None h = refl
      go (Some (StartOf b)) h = of_binding b message.Start (unmarked_bound (p.stage b) ((i.parts e).bindings.start_stage c b h))
      go (Some (StopOf b)) h = of_binding b message.Stop (λ x. absurd (cc (sym x ∙ (i.parts e).bindings.stop_stage c b h)))
      go (Some FunctionReset) h = refl
      go (Some (CompletionOf r found)) h =
          ap (λ o. one o p.resets (message.Completion (p.request_tag r) (p.request_page r) (option_map (target_of w.mappings) found)))
          (owner_old (p.request_binding r)
          (made (p.request_binding r) ((i.parts e).requests.bound r ((i.parts e).bounds.answered c r found h))))
      go (Some (InvalidateOf k)) h =
          ap (λ x. one 0 p.resets (message.Invalidate (p.itag k) x)) (scope_old k (p.order k) refl (ap is_undone ((i.parts e).labels.sent c k h)))
      go (Some (ResponseOf x code)) h = refl
      go (Some (RequestOf r)) h =
          of_binding (p.request_binding r) (λ d. message.Request (p.request_tag r) d (p.request_page r))
          ((i.parts e).requests.bound r ((i.parts e).bounds.asked c r h))
      go (Some (InvalidatedOf names)) h =
          gather_same p.orders (λ k. ended_of bound (names k) k) (λ k. ended_of p (names k) k) (λ k l. ended_old (names k) k)
      go (Some (PageRequestOf r)) h =
          let low = asker_low r ((i.parts e).bounds.requested c r h) in
          ap₂ (λ o d. one o (p.group_of r) (message.PageRequest (record (asked_of p r) { pasid = d }))) (owner_old (p.asker (p.group_of r)) low)
          (pasid_old (p.asker (p.group_of r)) low)
      go (Some (MarkerOf b)) h = of_binding b message.Marker (λ x. absurd (cc (sym x ∙ (i.parts e).bindings.marker_stage c b h)))
      go (Some ResetDone) h = refl
