-- What an act of one endpoint changes of the open world that its world is seen as.
use Rattle.std.proofs.Common.{◌≡◌, refl, ap, ap₂, sym, ◌∙◌, ℕ, ◌+◌, ◌<◌, ◌≤◌, Bool, true, false}
use Rattle.std.specs.Prelude.{List, [], ◌∷◌, ◌++◌, Option, Some, None, option_map, slice_set}
use Rattle.sva_step.specs.Limits
use Rattle.sva_model.specs.Words.{tabulate}
use Rattle.sva_model.specs.State.{Owed, MappingState, Mappings, Order, OrderState, Subject, Endpoint, World}
use Rattle.sva_model.specs.State.MappingState.{Unmade, Present, Gone}
use Rattle.sva_model.specs.State.Order.{RangeOf, PasidOf, Wait}
use Rattle.sva_model.specs.State.OrderState.{Queued, Sent, Taken, Lapsed, Completing, Done, Void}
use Rattle.sva_model.specs.State.Subject.{StartOf, StopOf, FunctionReset, CompletionOf, InvalidateOf, ResponseOf, RequestOf, InvalidatedOf}
use Rattle.sva_model.specs.State.Subject.{PageRequestOf, MarkerOf, ResetDone}
use Rattle.sva_model.specs.States.{answered, is_free_place, is_queued, is_running, place_at, place_by, place_of_gone}
use Rattle.sva_model.specs.Acts.{LocalAct, act, act_alone, sends}
use Rattle.sva_model.specs.Acts.Act.{AtEndpoint}
use Rattle.sva_labels.proofs.Lists.{all_same, tabulate_same, tabulate_set}
use Rattle.sva_labels.proofs.Words.{put-same, put-other}
use Rattle.sva_laws.proofs.Invariant.{Invariant}
use Rattle.sva_laws.proofs.Keeps.{put_keeps}
use Rattle.sva_open.specs.declared.acts.Act.TheVariants as doing
use Rattle.sva_open.specs.declared.acts.LocalAct.{LocalAct as Doing}
use Rattle.sva_open.specs.declared.messages.Message.TheVariants as message
use Rattle.sva_open.specs.declared.scopes.Scope.{Scope}
use Rattle.sva_open.specs.declared.works.Work.{Work}
use Rattle.sva_open.specs.declared.works.Work.TheVariants.{Taken as Busy}
use Rattle.sva_open.specs.World.{Part}
use Rattle.sva_open.specs.Acts.{next_open, next_part, parts_after, with_parts}
use Rattle.sva_open_laws.specs.AsOpen.{descriptor_of, ended_of, flying_of, gather, given_at, given_before, given_by}
use Rattle.sva_open_laws.specs.AsOpen.{held_of, if_there, one, open_of, owner_by, owner_of, part_of, request_of, row_at}
use Rattle.sva_open_laws.specs.AsOpen.{scope_of, state_of, taken_of, target_of, tenure_of, use_of, user_by, user_of, where_so}
use Rattle.sva_open_laws.proofs.Gathered.{tabulate_get}
use Rattle.sva_open_laws.proofs.GatherLists.{gather_more, gather_same}

-- ---- An endpoint with what another one has asked for, holds and uses

abbrev pub device : Endpoint → Endpoint → Endpoint
device p q =
    record p {
      requests = q.requests;
      request_binding = q.request_binding;
      request_page = q.request_page;
      request_tag = q.request_tag;
      request = q.request;
      request_message = q.request_message;
      at_tag = q.at_tag;
      held = q.held;
      uses = q.uses;
      use_binding = q.use_binding;
      use_mapping = q.use_mapping;
      use_slot = q.use_slot;
      use_state = q.use_state;
      at_slot = q.at_slot;
      message = q.message;
      carried = q.carried;
    }

row_same : (g : ℕ) (p q : Endpoint) (t : ℕ) → row_at g (device p q) t ≡ row_at g p t
row_same g p q t =
    ap (λ n. record (row_at g (device p q) t) { owner = n }) (owner_same (p.at_pasid t))
    ∙ ap₂ (λ s n. record (row_at g (device p q) t) { owner = owner_by g p t (p.at_pasid t); state = s; user = n }) (state_same (user_of g p t))
    (user_same (user_of g p t))
  where
    owner_same : (o : Option ℕ) → owner_by g (device p q) t o ≡ owner_by g p t o
    owner_same None = refl
    owner_same (Some b) = refl

    state_same : (o : Option ℕ) → state_of (device p q) o ≡ state_of p o
    state_same None = refl
    state_same (Some b) = refl

    user_same : (o : Option ℕ) → user_by (device p q) o ≡ user_by p o
    user_same None = refl
    user_same (Some b) = refl

scope_same : (p q : Endpoint) (x : Order) → scope_of (device p q) x ≡ scope_of p x
scope_same p q (RangeOf b range) = refl
scope_same p q (PasidOf b) = refl
scope_same p q (Wait cookie drain) = refl

descriptor_same : (e : ℕ) (p q : Endpoint) (x : Order) → descriptor_of e (device p q) x ≡ descriptor_of e p x
descriptor_same e p q (RangeOf b range) = refl
descriptor_same e p q (PasidOf b) = refl
descriptor_same e p q (Wait cookie drain) = refl

taken_same : (p q : Endpoint) (s : OrderState) (k : ℕ) → taken_of (device p q) s k ≡ taken_of p s k
taken_same p q Queued k = refl
taken_same p q Sent k = refl
taken_same p q (Taken uses) k = ap (λ x. taken_by x) (scope_same p q (p.order k))
  where
    taken_by : Scope → List Work
    taken_by x = Busy (p.itag k) x ∷ []
taken_same p q Lapsed k = refl
taken_same p q (Completing count left) k = refl
taken_same p q Done k = refl
taken_same p q Void k = refl

pub seen : (w : World) (e m : ℕ) (p q : Endpoint)
    → part_of (record w { messages = m }) e (device p q) ≡ record (part_of w e p) {
      requests = tabulate Limits.request_tags (λ t. option_map (request_of (device p q)) (q.at_tag t));
      held = gather q.requests (λ r. if_there (held_of w.mappings (device p q) r));
      works = gather q.uses (λ u. where_so (is_running (q.use_state u)) (use_of w.mappings (device p q) u))
          ++ gather p.orders (λ k. taken_of p (p.order_state k) k);
      flight = gather m (λ c. flying_of w.mappings (device p q) (q.message c));
    }
seen w e m p q =
    ap (λ rows. record (part_of (record w { messages = m }) e (device p q)) { rows = rows })
    (tabulate_same 33 (row_at w.bindings (device p q)) (row_at w.bindings p) (λ t l. row_same w.bindings p q t))
    ∙ ap (λ taken. record (part_of (record w { messages = m }) e (device p q)) { rows = tabulate 33 (row_at w.bindings p); works = uses ++ taken })
    (gather_same p.orders (λ k. taken_of (device p q) (p.order_state k) k) (λ k. taken_of p (p.order_state k) k) (λ k l. taken_same p q (p.order_state k) k))
    ∙ ap (λ queue. record (part_of (record w { messages = m }) e (device p q)) {
      rows = tabulate 33 (row_at w.bindings p);
      works = uses ++ gather p.orders (λ k. taken_of p (p.order_state k) k);
      queue = queue;
    })
    (gather_same p.orders (λ k. where_so (is_queued (p.order_state k)) (descriptor_of e (device p q) (p.order k)))
    (λ k. where_so (is_queued (p.order_state k)) (descriptor_of e p (p.order k)))
    (λ k l. ap (where_so (is_queued (p.order_state k))) (descriptor_same e p q (p.order k))))
  where
    uses : List Work
    uses = gather q.uses (λ u. where_so (is_running (q.use_state u)) (use_of w.mappings (device p q) u))

-- ---- Messages in flight

-- of the translation request that a message speaks of, if it speaks of one
abbrev pub OfRequest : (ℕ → Type 0) → Option Subject → Type 0
OfRequest P (Some (CompletionOf r found)) = P r
OfRequest P (Some (RequestOf r)) = P r
OfRequest P _ = Unit {0}

abbrev pub IsSameRequest : (p q : Endpoint) → (r : ℕ) → Type 0
IsSameRequest p q r =
    (q.request_binding r ≡ p.request_binding r) × (q.request_page r ≡ p.request_page r) × (q.request_tag r ≡ p.request_tag r)

pub flying_same : (ms : Mappings) (p q : Endpoint) (o : Option Subject) → OfRequest (IsSameRequest p q) o
    → flying_of ms (device p q) o ≡ flying_of ms p o
flying_same ms p q None h = refl
flying_same ms p q (Some (StartOf b)) h = refl
flying_same ms p q (Some (StopOf b)) h = refl
flying_same ms p q (Some FunctionReset) h = refl
flying_same ms p q (Some (CompletionOf r found)) h =
    ap (λ b. one (owner_of p b) p.resets (message.Completion (q.request_tag r) (q.request_page r) (option_map (target_of ms) found))) h.0
    ∙ ap₂ (λ t y. one (owner_of p (p.request_binding r)) p.resets (message.Completion t y (option_map (target_of ms) found))) h.2 h.1
flying_same ms p q (Some (InvalidateOf k)) h = ap (λ s. one 0 p.resets (message.Invalidate (p.itag k) s)) (scope_same p q (p.order k))
flying_same ms p q (Some (ResponseOf g code)) h = refl
flying_same ms p q (Some (RequestOf r)) h =
    ap (λ b. one (owner_of p b) p.resets (message.Request (q.request_tag r) (p.pasid b) (q.request_page r))) h.0
    ∙ ap₂ (λ t y. one (owner_of p (p.request_binding r)) p.resets (message.Request t (p.pasid (p.request_binding r)) y)) h.2 h.1
flying_same ms p q (Some (InvalidatedOf names)) h =
    gather_same p.orders (λ k. ended_of (device p q) (names k) k) (λ k. ended_of p (names k) k) (λ k l. ended_same (names k) k)
  where
    ended_same : (b : Bool) (k : ℕ) → ended_of (device p q) b k ≡ ended_of p b k
    ended_same true k = refl
    ended_same false k = refl
flying_same ms p q (Some (PageRequestOf r)) h = refl
flying_same ms p q (Some (MarkerOf b)) h = refl
flying_same ms p q (Some ResetDone) h = refl

pub none_sent : (w : World) (p : Endpoint) (k : ℕ) → ((c : ℕ) → w.messages ≤ c → p.message c ≡ None)
    → gather (w.messages + k) (λ c. flying_of w.mappings p (p.message c)) ≡ gather w.messages (λ c. flying_of w.mappings p (p.message c))
none_sent w p k unsent = gather_more w.messages k (λ c. flying_of w.mappings p (p.message c)) (λ c l. ap (flying_of w.mappings p) (unsent c l))

-- ---- Frames

-- another world with the config and the mappings of one
abbrev pub aside : World → World → World
aside w v = record v { config = w.config; mappings = w.mappings }

-- where endpoints have answered the same, the same frames are free
pub frames_same : (w v : World) → ((e : ℕ) → (x : Owed) → answered (v.part e) x ≡ answered (w.part e) x)
    → tabulate w.config.frames (tenure_of (aside w v)) ≡ tabulate w.config.frames (tenure_of w)
frames_same w v same =
    tabulate_same w.config.frames (tenure_of (aside w v)) (tenure_of w)
    (λ f l. ap (λ n. record (tenure_of w f) { given = n }) (given_same f (w.mappings.latest f)))
  where
    by_state : (s : MappingState) → place_by (aside w v) s ≡ place_by w s
    by_state Unmade = refl
    by_state Present = refl
    by_state (Gone owed) =
        ap place_of_gone
        (all_same w.config.endpoints (λ e. answered (v.part e) (owed e)) (λ e. answered (w.part e) (owed e)) (λ e l. same e (owed e)))

    at : (o : Option ℕ) → place_at (aside w v) o ≡ place_at w o
    at None = refl
    at (Some m) = by_state (w.mappings.state m)

    given_same : (f : ℕ) (o : Option ℕ) → given_at (aside w v) f o ≡ given_at w f o
    given_same f None = refl
    given_same f (Some m) = ap (λ x. given_by (is_free_place x) (given_before w.mappings f m)) (at (w.mappings.latest f))

-- ---- An act of an endpoint

module _ (w : World) (e : ℕ) (o : LocalAct) (i : Invariant w) (low : e < w.config.endpoints) where
  abbrev parts : List Part
  parts = tabulate w.config.endpoints (λ x. part_of w x (w.part x))

  other_same : (k : ℕ) → part_of (act w (AtEndpoint e o)) k (w.part k) ≡ part_of w k (w.part k)
  other_same k =
      ap (λ flight. record (part_of w k (w.part k)) { flight = flight }) (none_sent w (w.part k) (sends o) (λ c l. (i.parts k).resets.unsent c l))

  parts_now : (v : Part) → part_of (act w (AtEndpoint e o)) e (act_alone (w.part e) w.messages o) ≡ v
      → tabulate w.config.endpoints (λ x. part_of (act w (AtEndpoint e o)) x ((act w (AtEndpoint e o)).part x)) ≡ slice_set parts e v
  parts_now v is =
      tabulate_set w.config.endpoints (λ x. part_of w x (w.part x)) (λ x. part_of (act w (AtEndpoint e o)) x ((act w (AtEndpoint e o)).part x)) e v
      (ap (part_of (act w (AtEndpoint e o)) e) (put-same w.part e (act_alone (w.part e) w.messages o)) ∙ is)
      (λ k ne. ap (part_of (act w (AtEndpoint e o)) k) (put-other w.part e (act_alone (w.part e) w.messages o) k ne) ∙ other_same k)

  -- where the open act leaves of the part what the act leaves, so it is of the world, but for the frames that the act frees
  pub but_frames : (its : Doing) (v : Part) → part_of (act w (AtEndpoint e o)) e (act_alone (w.part e) w.messages o) ≡ v
      → next_part (open_of w).settings (open_of w).mappings (part_of w e (w.part e)) its ≡ Some v
      → next_open (open_of w) (doing.At e its) ≡ Some (record (open_of (act w (AtEndpoint e o))) { frames = tabulate w.config.frames (tenure_of w) })
  but_frames its v is leads =
      ap (λ p. option_map (with_parts (open_of w)) (parts_after (open_of w).settings (open_of w).mappings parts e its p))
      (tabulate_get w.config.endpoints (λ x. part_of w x (w.part x)) e low)
      ∙ ap (λ p. option_map (with_parts (open_of w)) (option_map (slice_set parts e) p)) leads
      ∙ ap (λ ps. Some (record (open_of w) { parts = ps })) (sym (parts_now v is))

module _ (w : World) (e : ℕ) (o : LocalAct) (i : Invariant w) (low : e < w.config.endpoints)
    (calm : (x : Owed) → answered (act_alone (w.part e) w.messages o) x ≡ answered (w.part e) x) where
  frames : tabulate w.config.frames (tenure_of (act w (AtEndpoint e o))) ≡ tabulate w.config.frames (tenure_of w)
  frames =
      frames_same w (act w (AtEndpoint e o))
      (put_keeps (λ k p. (x : Owed) → answered p x ≡ answered (w.part k) x) w.part e (act_alone (w.part e) w.messages o) calm (λ k x. refl))

  pub at_one_endpoint : (its : Doing) (v : Part) → part_of (act w (AtEndpoint e o)) e (act_alone (w.part e) w.messages o) ≡ v
      → next_part (open_of w).settings (open_of w).mappings (part_of w e (w.part e)) its ≡ Some v
      → next_open (open_of w) (doing.At e its) ≡ Some (open_of (act w (AtEndpoint e o)))
  at_one_endpoint its v is leads =
      but_frames w e o i low its v is leads ∙ ap (λ fs. Some (record (open_of (act w (AtEndpoint e o))) { frames = fs })) (sym frames)

  -- where it leaves the part as it was, the world is as it was
  pub unseen : part_of (act w (AtEndpoint e o)) e (act_alone (w.part e) w.messages o) ≡ part_of w e (w.part e)
      → open_of w ≡ open_of (act w (AtEndpoint e o))
  unseen is =
      sym (ap₂ (λ fs ps. record (open_of w) { frames = fs; parts = ps }) frames
      (tabulate_same w.config.endpoints (λ x. part_of (act w (AtEndpoint e o)) x ((act w (AtEndpoint e o)).part x)) (λ x. part_of w x (w.part x))
      (λ k l. put_keeps (λ x p. part_of (act w (AtEndpoint e o)) x p ≡ part_of w x (w.part x)) w.part e (act_alone (w.part e) w.messages o) is
      (other_same w e o i low) k)))
