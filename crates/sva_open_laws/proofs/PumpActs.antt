-- What a unit takes from its queue is taken so in the open world.
use Rattle.std.proofs.Common.{◌≡◌, ◌≢◌, ◌⊎◌, inl, inr, refl, ap, ap₂, sym, subst, ◌∙◌, ℕ, ◌+◌, ◌<◌, ◌≤◌, Bool, true, false, arith}
use Rattle.std.specs.Prelude.{◌==◌, ◌&&◌, ◌||◌, not, if◌then◌else◌, List, [], ◌∷◌, ◌++◌, Option, Some, None, length, nat_le, nat_lt, remove, slice_get}
use Rattle.std.proofs.lemmas.Bool.{cases_lt, not-true}
use Rattle.std.proofs.lemmas.Bool.Decides.{nat_tests}
use Rattle.sva_model.specs.Words.{any_below, put}
use Rattle.sva_model.specs.State.{Endpoint, Order, OrderState, Subject, World}
use Rattle.sva_model.specs.State.Order.{RangeOf, PasidOf, Wait}
use Rattle.sva_model.specs.State.OrderState.{Queued, Sent, Done}
use Rattle.sva_model.specs.State.Phase.{Open}
use Rattle.sva_model.specs.State.Subject.{StartOf, StopOf, FunctionReset, CompletionOf, InvalidateOf, ResponseOf, RequestOf, InvalidatedOf}
use Rattle.sva_model.specs.State.Subject.{PageRequestOf, MarkerOf, ResetDone}
use Rattle.sva_model.specs.States.{is_busy, is_open, is_queued, is_running, is_wait}
use Rattle.sva_model.specs.Acts.{LocalAct, act, act_alone}
use Rattle.sva_model.specs.Acts.Act.{AtEndpoint}
use Rattle.sva_model.specs.Labels
use Rattle.sva_model.specs.Outcomes as model
use Rattle.sva_model.specs.Refusals.{is_queue_short}
use Rattle.sva_laws.specs.UnderWay.{completions, left_of, names_order}
use Rattle.sva_labels.proofs.Words.{ℕ_cases, any_below-false, put-same, put-other}
use Rattle.sva_labels.proofs.Tests.{first_holds}
use Rattle.sva_laws.proofs.Completions.{Owed}
use Rattle.sva_laws.proofs.Invariant.{Invariant}
use Rattle.sva_laws.proofs.LegalUnit.{Head}
use Rattle.sva_laws.proofs.Orders.{not_queued}
use Rattle.sva_open.specs.declared.descriptors.Descriptor.{Descriptor}
use Rattle.sva_open.specs.declared.descriptors.Descriptor.TheVariants as descriptor
use Rattle.sva_open.specs.declared.descriptors.Issued.{Issued}
use Rattle.sva_open.specs.declared.descriptors.Issued.TheVariants as issued
use Rattle.sva_open.specs.declared.messages.Message.TheVariants as message
use Rattle.sva_open.specs.Host.{may_submit}
use Rattle.sva_open.specs.World.{Part, if_so}
use Rattle.sva_open.specs.Units.{free_itag, is_out_before, issue, may_pass, pass, pump, pump_head, shifted, waited}
use Rattle.sva_open_laws.specs.AsOpen.{arrived_of, descriptor_of, flying_of, gather, one, open_of, part_of, scope_of, taken_of, time_by}
use Rattle.sva_open_laws.specs.AsOpen.{use_of, where_so}
use Rattle.sva_open_laws.specs.Queues.{shown}
use Rattle.sva_open_laws.proofs.ActParts.{none_sent}
use Rattle.sva_open_laws.proofs.DeviceActs.{never}
use Rattle.sva_open_laws.proofs.Gathered.{count_rises, first_gathered}
use Rattle.sva_open_laws.proofs.GatherLists.{Split, gather_none, gather_one_more, gather_same, length_so, split}
use Rattle.sva_open_laws.proofs.QueueOrder.{InOrder}
use Rattle.sva_open_laws.proofs.UnitLists.{gather_end, none_counted}
use Rattle.sva_open_laws.proofs.UnitParts.{OfOrders, flying_same, scope_same, seen, taken_same}

-- ---- The queue, behind its head

abbrev pub queued_at : (e : ℕ) → Endpoint → (ℕ → OrderState) → ℕ → List Descriptor
queued_at e p states j = where_so (is_queued (states j)) (descriptor_of e p (p.order j))

abbrev pub busy_at : (e : ℕ) → (itags : ℕ → ℕ) → (ℕ → OrderState) → ℕ → List Issued
busy_at e itags states j = where_so (is_busy (states j)) (issued.Sent e (itags j))

module _ (e : ℕ) (p : Endpoint) (made : Labels.head p < p.orders) (hd : Head p) where
  none_before : (j : ℕ) → j < Labels.head p → queued_at e p p.order_state j ≡ []
  none_before j l = ap (λ b. where_so b (descriptor_of e p (p.order j))) (not_queued (p.order_state j) (hd.lowest j l))

  its_own : queued_at e p p.order_state (Labels.head p) ≡ descriptor_of e p (p.order (Labels.head p)) ∷ []
  its_own = ap (λ x. where_so (is_queued x) (descriptor_of e p (p.order (Labels.head p)))) hd.queued

  pub at_head : slice_get (gather p.orders (queued_at e p p.order_state)) 0 ≡ Some (descriptor_of e p (p.order (Labels.head p)))
  at_head =
      first_gathered p.orders (queued_at e p p.order_state) (Labels.head p) (descriptor_of e p (p.order (Labels.head p))) made none_before its_own

  -- once it has another state
  pub behind_head : (x : OrderState) → is_queued x ≡ false
      → gather p.orders (queued_at e p (put p.order_state (Labels.head p) x)) ≡ remove (gather p.orders (queued_at e p p.order_state)) 0
  behind_head x h =
      s.rest ∙ ap (λ xs. xs ++ s.behind) empty
      ∙ sym (ap (λ xs. remove xs 0) (s.whole ∙ ap (λ xs. xs ++ descriptor_of e p (p.order (Labels.head p)) ∷ s.behind) empty))
    where
      s : Split p.orders (queued_at e p p.order_state) (queued_at e p (put p.order_state (Labels.head p) x)) (Labels.head p)
          (descriptor_of e p (p.order (Labels.head p)))
      s =
          split p.orders (queued_at e p p.order_state) (queued_at e p (put p.order_state (Labels.head p) x)) (Labels.head p)
          (descriptor_of e p (p.order (Labels.head p))) made its_own
          (ap (λ b. where_so b (descriptor_of e p (p.order (Labels.head p)))) (ap is_queued (put-same p.order_state (Labels.head p) x) ∙ h))
          (λ j ne. ap (λ y. where_so (is_queued y) (descriptor_of e p (p.order j))) (put-other p.order_state (Labels.head p) x j ne))

      empty : gather (Labels.head p) (queued_at e p p.order_state) ≡ []
      empty = gather_none (Labels.head p) (queued_at e p p.order_state) none_before

-- an order that no message in flight names
none_named : (n : ℕ) (p : Endpoint) (k c : ℕ) → completions n p k ≡ 0 → (n ≤ c → p.message c ≡ None) → names_order k (p.message c) ≡ false
none_named n p k c none unsent = go (cases_lt c n)
  where
    go : (c < n) ⊎ (n ≤ c) → names_order k (p.message c) ≡ false
    go (inl l) =
        never (names_order k (p.message c))
        (λ h. let more = count_rises n (λ d. names_order k (p.message d)) c l h in omega (arith, none, more))
    go (inr m) = ap (names_order k) (unsent m)

-- whether a wait may leave the queue
pub may_alike : (w : World) (e : ℕ) (drain fence : Bool)
    → may_pass (open_of w).settings (shown w e) drain fence ≡ model.may_pass (w.part e) drain
may_alike w e drain fence =
    ap₂ (λ a b. a && (not drain || b))
    (ap (λ n. n == 0) (length_so p.orders (λ j. is_busy (p.order_state j)) (λ j. issued.Sent e (p.itag j)))
    ∙ none_counted p.orders (λ j. is_busy (p.order_state j)))
    (ap (λ n. n == 0) (length_so p.arrivals (Labels.is_waiting p) (λ j. arrived_of e p (p.arrival j)))
    ∙ none_counted p.arrivals (Labels.is_waiting p))
  where
    p : Endpoint
    p = w.part e

-- whether there is room for more
pub room_alike : (w : World) (e : ℕ) (descriptors : List Descriptor)
    → may_submit (shown w e) descriptors ≡ (is_open (w.part e).phase && not (is_queue_short (w.part e) (length descriptors)))
room_alike w e descriptors =
    ap (λ b. is_open (w.part e).phase && b)
    (ap (λ n. nat_le (n + length descriptors) 64)
    (length_so (w.part e).orders (λ j. is_queued ((w.part e).order_state j)) (λ j. descriptor_of e (w.part e) ((w.part e).order j)))
    ∙ turned (Labels.queue_length (w.part e)) (length descriptors))
  where
    turned : (n m : ℕ) → nat_le (n + m) 64 ≡ not (nat_lt 64 (n + m))
    turned n m = grind (arith, nat_tests)

-- the head of an open unit's queue
pub by_head : (w : World) (e : ℕ) → (w.part e).phase ≡ Open
    → pump (open_of w).settings (shown w e) ≡ pump_head (open_of w).settings (shown w e) (slice_get (shown w e).queue 0)
by_head w e phase =
    ap (λ x. if is_open x && not false then pump_head (open_of w).settings (shown w e) (slice_get (shown w e).queue 0) else None) phase

-- ---- An invalidation is sent

device_of : (e : ℕ) (p : Endpoint) (x : Order) → is_wait x ≡ false → descriptor_of e p x ≡ descriptor.Device e (scope_of p x)
device_of e p (RangeOf b range) h = refl
device_of e p (PasidOf b) h = refl
device_of e p (Wait cookie drain) h = absurd (cc)

module _ (w : World) (e t : ℕ) (i : Invariant w) (ordered : InOrder (w.part e)) (owed : Owed w.messages (w.part e))
    (made : Labels.head (w.part e) < (w.part e).orders) (hd : Head (w.part e)) (phase : (w.part e).phase ≡ Open) where
  abbrev p : Endpoint
  p = w.part e

  abbrev k : ℕ
  k = Labels.head (w.part e)

  abbrev sent : Endpoint
  sent = act_alone (w.part e) w.messages (LocalAct.Send (Labels.head (w.part e)) t)

  -- what is behind it in the queue is sent later
  none_behind : (j : ℕ) → k < j → j < p.orders → busy_at e p.itag p.order_state j ≡ []
  none_behind j l m = ap (λ x. where_so (is_busy x) (issued.Sent e (p.itag j))) (ordered.behind k j l m hd.queued)

  older : (j : ℕ) → j ≢ k → busy_at e sent.itag sent.order_state j ≡ busy_at e p.itag p.order_state j
  older j ne = ap₂ (λ x y. where_so (is_busy x) (issued.Sent e y)) (put-other p.order_state k Sent j ne) (put-other p.itag k t j ne)

  issued_now : gather p.orders (busy_at e sent.itag sent.order_state) ≡ gather p.orders (busy_at e p.itag p.order_state) ++ issued.Sent e t ∷ []
  issued_now =
      gather_end p.orders (busy_at e p.itag p.order_state) (busy_at e sent.itag sent.order_state) k (issued.Sent e t) made
      (ap (λ x. where_so (is_busy x) (issued.Sent e (p.itag k))) hd.queued)
      (ap₂ (λ x y. where_so (is_busy x) (issued.Sent e y)) (put-same p.order_state k Sent) (put-same p.itag k t))
      (λ j l. older j (λ same. absurd (omega (arith, same, l))))
      none_behind
      (λ j l m. older j (λ same. absurd (omega (arith, same, l))) ∙ none_behind j l m)

  taken_now : (j : ℕ) → taken_of sent (sent.order_state j) j ≡ taken_of p (p.order_state j) j
  taken_now j = go (ℕ_cases j k)
    where
      go : (j ≡ k) ⊎ (j ≢ k) → taken_of sent (sent.order_state j) j ≡ taken_of p (p.order_state j) j
      go (inl same) =
          ap (λ x. taken_of sent x j) (ap sent.order_state same ∙ put-same p.order_state k Sent)
          ∙ sym (ap (λ x. taken_of p x j) (ap p.order_state same ∙ hd.queued))
      go (inr ne) =
          ap (λ x. taken_of sent x j) (put-other p.order_state k Sent j ne) ∙ taken_same p sent (p.order_state j) j (put-other p.itag k t j ne)

  -- no message in flight speaks of an order that is queued
  speaks_of_older : (c : ℕ) → OfOrders (λ j. sent.itag j ≡ p.itag j) (p.message c)
  speaks_of_older c = go (p.message c) refl
    where
      named_not : (names : ℕ → Bool) (j : ℕ) → p.message c ≡ Some (InvalidatedOf names) → names j ≡ true → j ≢ k
      named_not names j h is same = absurd (cc (sym is ∙ ap names same ∙ sym (ap (names_order k) h) ∙ never_named))
        where
          never_named : names_order k (p.message c) ≡ false
          never_named = none_named w.messages p k c (owed.owed k phase ∙ ap left_of hd.queued) ((i.parts e).resets.unsent c)

      go : (o : Option Subject) → p.message c ≡ o → OfOrders (λ j. sent.itag j ≡ p.itag j) o
      go None h = tt
      go (Some (StartOf b)) h = tt
      go (Some (StopOf b)) h = tt
      go (Some FunctionReset) h = tt
      go (Some (CompletionOf r found)) h = tt
      go (Some (InvalidateOf j)) h =
          put-other p.itag k t j (λ same. absurd (cc (sym ((i.parts e).labels.sent c j h) ∙ ap p.order_state same ∙ hd.queued)))
      go (Some (ResponseOf x code)) h = tt
      go (Some (RequestOf r)) h = tt
      go (Some (InvalidatedOf names)) h = λ j is. put-other p.itag k t j (named_not names j h is)
      go (Some (PageRequestOf r)) h = tt
      go (Some (MarkerOf b)) h = tt
      go (Some ResetDone) h = tt

  flight_now : gather (w.messages + 1) (λ c. flying_of w.mappings sent (sent.message c))
      ≡ (part_of w e p).flight ++ one 0 p.resets (message.Invalidate t (scope_of p (p.order k)))
  flight_now =
      gather_one_more w.messages (λ c. flying_of w.mappings sent (sent.message c))
      ∙ ap₂ (λ xs ys. xs ++ ys)
      (gather_same w.messages (λ c. flying_of w.mappings sent (sent.message c)) (λ c. flying_of w.mappings p (p.message c))
      (λ c l.
      ap (flying_of w.mappings sent) (put-other p.message w.messages (Some (InvalidateOf k)) c (λ same. absurd (omega (arith, same, l))))
      ∙ flying_same w.mappings p sent (p.message c) (speaks_of_older c)))
      (ap (flying_of w.mappings sent) (put-same p.message w.messages (Some (InvalidateOf k)))
      ∙ ap₂ (λ y x. one 0 p.resets (message.Invalidate y x)) (put-same p.itag k t) (scope_same p sent (p.order k)))

  abbrev pub part_now : Part
  part_now =
      record (part_of w e (w.part e)) {
        queue = remove (part_of w e (w.part e)).queue 0;
        issued = (part_of w e (w.part e)).issued ++ issued.Sent e t ∷ [];
        flight = (part_of w e (w.part e)).flight
            ++ one 0 (w.part e).resets (message.Invalidate t (scope_of (w.part e) ((w.part e).order (Labels.head (w.part e)))));
      }

  pub sent_seen : part_of (act w (AtEndpoint e (LocalAct.Send (Labels.head (w.part e)) t))) e sent ≡ part_now
  sent_seen =
      seen w e (w.messages + 1) p sent
      ∙ ap₂ (λ qs ys. record (part_of w e p) {
        works = gather p.uses (λ u. where_so (is_running (p.use_state u)) (use_of w.mappings p u))
            ++ gather p.orders (λ j. taken_of sent (sent.order_state j) j);
        queue = qs;
        issued = ys;
        flight = gather (w.messages + 1) (λ c. flying_of w.mappings sent (sent.message c));
      }) (behind_head e p made hd Sent refl) issued_now
      ∙ ap₂ (λ ts fs. record (part_of w e p) {
        works = gather p.uses (λ u. where_so (is_running (p.use_state u)) (use_of w.mappings p u)) ++ ts;
        queue = remove (part_of w e p).queue 0;
        issued = (part_of w e p).issued ++ issued.Sent e t ∷ [];
        flight = fs;
      })
      (gather_same p.orders (λ j. taken_of sent (sent.order_state j) j) (λ j. taken_of p (p.order_state j) j) (λ j l. taken_now j)) flight_now

  pub sends : is_wait ((w.part e).order (Labels.head (w.part e))) ≡ false → free_itag (shown w e).issued 32 0 ≡ Some t
      → pump (open_of w).settings (shown w e) ≡ Some part_now
  sends no_wait free =
      by_head w e phase
      ∙ ap (pump_head (open_of w).settings (shown w e)) (at_head e p made hd)
      ∙ ap (λ d. pump_head (open_of w).settings (shown w e) (Some d)) (device_of e p (p.order k) no_wait)
      ∙ ap (issue (shown w e) (scope_of p (p.order k))) free
      ∙ ap (λ x. Some (record (part_of w e p) {
        queue = remove (part_of w e p).queue 0;
        issued = (part_of w e p).issued ++ issued.Sent e t ∷ [];
        flight = (part_of w e p).flight ++ one 0 (time_by x p.resets) (message.Invalidate t (scope_of p (p.order k)));
      })) phase

-- where none is free
pub sends_none : (w : World) (e : ℕ) → Labels.head (w.part e) < (w.part e).orders → Head (w.part e) → (w.part e).phase ≡ Open
    → is_wait ((w.part e).order (Labels.head (w.part e))) ≡ false → free_itag (shown w e).issued 32 0 ≡ None
    → pump (open_of w).settings (shown w e) ≡ None
sends_none w e made hd phase no_wait free =
    let p = w.part e in
    by_head w e phase
    ∙ ap (pump_head (open_of w).settings (shown w e)) (at_head e p made hd)
    ∙ ap (λ d. pump_head (open_of w).settings (shown w e) (Some d)) (device_of e p (p.order (Labels.head p)) no_wait)
    ∙ ap (issue (shown w e) (scope_of p (p.order (Labels.head p)))) free

-- ---- A wait is done

pub its_itags : (p : Endpoint) (o : Option Subject) → OfOrders (λ j. p.itag j ≡ p.itag j) o
its_itags p None = tt
its_itags p (Some (StartOf b)) = tt
its_itags p (Some (StopOf b)) = tt
its_itags p (Some FunctionReset) = tt
its_itags p (Some (CompletionOf r found)) = tt
its_itags p (Some (InvalidateOf j)) = refl
its_itags p (Some (ResponseOf x code)) = tt
its_itags p (Some (RequestOf r)) = tt
its_itags p (Some (InvalidatedOf names)) = λ j is. refl
its_itags p (Some (PageRequestOf r)) = tt
its_itags p (Some (MarkerOf b)) = tt
its_itags p (Some ResetDone) = tt

module _ (w : World) (e : ℕ) (i : Invariant w) (made : Labels.head (w.part e) < (w.part e).orders) (hd : Head (w.part e))
    (phase : (w.part e).phase ≡ Open) where
  abbrev q : Endpoint
  q = w.part e

  abbrev passed : Endpoint
  passed = act_alone (w.part e) w.messages (LocalAct.Pass (Labels.head (w.part e)))

  -- what is neither busy nor taken, before and after
  still : {A : Type 0} (f : OrderState → ℕ → List A) → f Queued (Labels.head q) ≡ f Done (Labels.head q) → (j : ℕ)
      → f (passed.order_state j) j ≡ f (q.order_state j) j
  still f same j = go (ℕ_cases j (Labels.head q))
    where
      go : (j ≡ Labels.head q) ⊎ (j ≢ Labels.head q) → f (passed.order_state j) j ≡ f (q.order_state j) j
      go (inl is) =
          subst (λ z. f (passed.order_state z) z ≡ f (q.order_state z) z) (sym is)
          (ap (λ x. f x (Labels.head q)) (put-same q.order_state (Labels.head q) Done) ∙ sym same
          ∙ sym (ap (λ x. f x (Labels.head q)) hd.queued))
      go (inr ne) = ap (λ x. f x j) (put-other q.order_state (Labels.head q) Done j ne)

  pub passed_seen : part_of (act w (AtEndpoint e (LocalAct.Pass (Labels.head (w.part e))))) e passed ≡ shifted (shown w e)
  passed_seen =
      seen w e (w.messages + 0) q passed
      ∙ ap₂ (λ qs ys. record (part_of w e q) {
        works = gather q.uses (λ u. where_so (is_running (q.use_state u)) (use_of w.mappings q u))
            ++ gather q.orders (λ j. taken_of passed (passed.order_state j) j);
        queue = qs;
        issued = ys;
        flight = gather (w.messages + 0) (λ c. flying_of w.mappings passed (q.message c));
      }) (behind_head e q made hd Done refl)
      (gather_same q.orders (busy_at e q.itag passed.order_state) (busy_at e q.itag q.order_state)
      (λ j l. still (λ x z. where_so (is_busy x) (issued.Sent e (q.itag z))) refl j))
      ∙ ap₂ (λ ts fs. record (part_of w e q) {
        works = gather q.uses (λ u. where_so (is_running (q.use_state u)) (use_of w.mappings q u)) ++ ts;
        queue = remove (part_of w e q).queue 0;
        flight = fs;
      })
      (gather_same q.orders (λ j. taken_of passed (passed.order_state j) j) (λ j. taken_of q (q.order_state j) j)
      (λ j l. taken_same q passed (passed.order_state j) j refl ∙ still (λ x z. taken_of q x z) refl j))
      (gather_same (w.messages + 0) (λ c. flying_of w.mappings passed (q.message c)) (λ c. flying_of w.mappings q (q.message c))
      (λ c l. flying_same w.mappings q passed (q.message c) (its_itags q (q.message c)))
      ∙ none_sent w q 0 (λ c l. (i.parts e).resets.unsent c l))

  -- by what it is
  at_wait : (cookie : ℕ) (drain : Bool) → (w.part e).order (Labels.head (w.part e)) ≡ Wait cookie drain → (may : Bool)
      → model.may_pass (w.part e) drain ≡ may
      → pump (open_of w).settings (shown w e) ≡ if_so may (pass (shown w e) cookie drain)
  at_wait cookie drain is may so =
      by_head w e phase
      ∙ ap (pump_head (open_of w).settings (shown w e)) (at_head e q made hd)
      ∙ ap (λ x. pump_head (open_of w).settings (shown w e) (Some (descriptor_of e q x))) is
      ∙ ap (λ b. if_so b (pass (shown w e) cookie drain)) (may_alike w e drain true ∙ so)

  waited_none : (cookie : ℕ) (drain : Bool) → waited (shifted (shown w e)) cookie drain ≡ shifted (shown w e)
  waited_none cookie true = refl
  waited_none cookie false = refl

  pub passes : (cookie : ℕ) (drain : Bool) → (w.part e).order (Labels.head (w.part e)) ≡ Wait cookie drain
      → model.may_pass (w.part e) drain ≡ true → pump (open_of w).settings (shown w e) ≡ Some (shifted (shown w e))
  passes cookie drain is may =
      at_wait cookie drain is true may
      ∙ ap (λ xs. Some (if is_out_before xs (length xs)
      then record (shifted (shown w e)) { issued = (shown w e).issued ++ issued.Waiting cookie drain ∷ [] }
      else waited (shifted (shown w e)) cookie drain)) none_out
      ∙ ap Some (waited_none cookie drain)
    where
      quiet : any_below q.orders (λ j. is_busy (q.order_state j)) ≡ false
      quiet = not-true (any_below q.orders (λ j. is_busy (q.order_state j)))
          (first_holds (not (Labels.is_some_busy q)) (not drain || Labels.is_page_queue_empty q) may)

      none_out : (shown w e).issued ≡ []
      none_out =
          gather_none q.orders (busy_at e q.itag q.order_state)
          (λ j l. ap (λ b. where_so b (issued.Sent e (q.itag j))) (any_below-false q.orders (λ z. is_busy (q.order_state z)) quiet j l))

  pub passes_none : (cookie : ℕ) (drain : Bool) → (w.part e).order (Labels.head (w.part e)) ≡ Wait cookie drain
      → model.may_pass (w.part e) drain ≡ false → pump (open_of w).settings (shown w e) ≡ None
  passes_none cookie drain is may = at_wait cookie drain is false may
