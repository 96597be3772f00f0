-- An invalidation that comes to its endpoint is an act of the open world: its delivery.
use Rattle.std.proofs.Common.{◌≡◌, ◌≢◌, ◌⊎◌, inl, inr, refl, ap, ap₂, sym, subst, ◌∙◌, ℕ, ◌+◌, ◌<◌, true, false, arith}
use Rattle.std.specs.Prelude.{List, [], ◌∷◌, ◌++◌, Some, None, map, option_map, remove}
use Rattle.std.proofs.lemmas.List.{append_assoc}
use Rattle.sva_model.specs.Words.{tabulate}
use Rattle.sva_model.specs.State.{Endpoint, OrderState, Subject, World}
use Rattle.sva_model.specs.State.OrderState.{Queued, Sent, Taken, Lapsed, Completing, Done, Void}
use Rattle.sva_model.specs.State.Subject.{InvalidateOf}
use Rattle.sva_model.specs.States.{is_busy, is_done, is_queued, is_running, is_taken}
use Rattle.sva_model.specs.Acts.{LocalAct, act, act_alone}
use Rattle.sva_model.specs.Acts.Act.{AtEndpoint}
use Rattle.sva_model.specs.Labels.{is_permitted}
use Rattle.sva_labels.proofs.Words.{ℕ_cases, put-same, put-other}
use Rattle.sva_laws.proofs.Invariant.{Invariant}
use Rattle.sva_open.specs.declared.acts.Act.TheVariants as doing
use Rattle.sva_open.specs.declared.acts.LocalAct.TheVariants as local
use Rattle.sva_open.specs.declared.descriptors.Issued.TheVariants as issued
use Rattle.sva_open.specs.declared.messages.Message.TheVariants as message
use Rattle.sva_open.specs.declared.messages.Sent.{Sent as Flying}
use Rattle.sva_open.specs.declared.scopes.Scope.{Scope}
use Rattle.sva_open.specs.declared.works.Work.{Work}
use Rattle.sva_open.specs.declared.works.Work.TheVariants.{Taken as Busy}
use Rattle.sva_open.specs.World.{Part, if_so, without_covered}
use Rattle.sva_open.specs.Acts.{next_open}
use Rattle.sva_open.specs.Devices.{doomed}
use Rattle.sva_open.specs.Links.{deliver, taken_in, without_sent}
use Rattle.sva_open_laws.specs.AsOpen.{descriptor_of, flying_of, gather, held_of, if_there, open_of, part_of, request_of, scope_of, sent_of}
use Rattle.sva_open_laws.specs.AsOpen.{taken_of, use_of, where_so}
use Rattle.sva_open_laws.specs.LinkOrders.{IsDeliveredAlike, place_of_message}
use Rattle.sva_open_laws.specs.Queues.{shown}
use Rattle.sva_open_laws.proofs.ActParts.{at_one_endpoint}
use Rattle.sva_open_laws.proofs.GatherLists.{Split, gather_more, gather_same, remove_at, split}
use Rattle.sva_open_laws.proofs.LinkLists.{delivered_alike}
use Rattle.sva_open_laws.proofs.PumpActs.{busy_at, its_itags, queued_at}
use Rattle.sva_open_laws.proofs.StrikeActs.{asked_now, held_now, was_sent}
use Rattle.sva_open_laws.proofs.UnitLists.{gather_end}
use Rattle.sva_open_laws.proofs.UnitParts.{answers_same, flying_same, scope_same, seen, taken_same}
use Rattle.sva_open_laws.proofs.Usable.{sent_low}

-- ---- A message that leaves the link

-- where all others are shown as before
pub flight_left : (w : World) (e c : ℕ) (q : Endpoint) (x : Subject) (its : Flying) → Invariant w → (w.part e).message c ≡ Some x
    → sent_of w.mappings (w.part e) x ≡ its ∷ []
    → ((d : ℕ) → flying_of w.mappings q ((w.part e).message d) ≡ flying_of w.mappings (w.part e) ((w.part e).message d))
    → ((d : ℕ) → d ≢ c → q.message d ≡ (w.part e).message d) → q.message c ≡ None
    → gather (w.messages + 0) (λ d. flying_of w.mappings q (q.message d))
    ≡ remove (shown w e).flight (place_of_message w.mappings (w.part e) c)
flight_left w e c q x its i speaks is same old gone =
    gather_more w.messages 0 left
    (λ d l. others d (λ at. absurd (omega (arith, at, l, low))) ∙ ap (flying_of w.mappings p) ((i.parts e).resets.unsent d l))
    ∙ s.rest
    ∙ sym (ap (λ z. remove z (place_of_message w.mappings p c)) s.whole ∙ remove_at (gather c flying) its s.behind)
  where
    p : Endpoint
    p = w.part e

    flying : ℕ → List Flying
    flying d = flying_of w.mappings (w.part e) ((w.part e).message d)

    left : ℕ → List Flying
    left d = flying_of w.mappings q (q.message d)

    low : c < w.messages
    low = sent_low w.messages p c x ((i.parts e).resets.unsent c) speaks

    others : (d : ℕ) → d ≢ c → left d ≡ flying d
    others d ne = ap (flying_of w.mappings q) (old d ne) ∙ same d

    s : Split w.messages flying left c its
    s = split w.messages flying left c its low (ap (flying_of w.mappings p) speaks ∙ is) (ap (flying_of w.mappings q) gone) others

-- ---- The invalidation

taken_not : (p : Endpoint) (s : OrderState) (k : ℕ) → is_taken s ≡ false → taken_of p s k ≡ []
taken_not p Queued k h = refl
taken_not p Sent k h = refl
taken_not p (Taken uses) k h = absurd (cc)
taken_not p Lapsed k h = refl
taken_not p (Completing count left) k h = refl
taken_not p Done k h = refl
taken_not p Void k h = refl

module _ (w : World) (e c k : ℕ) (i : Invariant w) (low : e < w.config.endpoints) (speaks : (w.part e).message c ≡ Some (InvalidateOf k))
    (permitted : is_permitted (w.part e) c (InvalidateOf k) ≡ true)
    (none_newer : (j : ℕ) → k < j → j < (w.part e).orders → is_taken ((w.part e).order_state j) ≡ false) where
  abbrev p : Endpoint
  p = w.part e

  abbrev struck : Endpoint
  struck = act_alone (w.part e) w.messages (LocalAct.Take c k)

  abbrev scope : Scope
  scope = scope_of (w.part e) ((w.part e).order k)

  abbrev place : ℕ
  place = place_of_message w.mappings (w.part e) c

  abbrev its : Flying
  its = record { message = message.Invalidate ((w.part e).itag k) scope; owner = 0; number = (w.part e).resets }

  alike : IsDeliveredAlike w e c (InvalidateOf k) its
  alike = delivered_alike w e c (InvalidateOf k) its i speaks (λ h. absurd (cc)) refl

  sent_now : p.order_state k ≡ Sent
  sent_now = was_sent w e c k i speaks

  old : (j : ℕ) → j ≢ k → struck.order_state j ≡ p.order_state j
  old j ne = put-other p.order_state k (Taken p.uses) j ne

  -- what is the same of one that is sent and one that is taken
  still : {A : Type 0} (f : OrderState → ℕ → A) → f Sent k ≡ f (Taken p.uses) k → (j : ℕ) → f (struck.order_state j) j ≡ f (p.order_state j) j
  still f same j = go (ℕ_cases j k)
    where
      go : (j ≡ k) ⊎ (j ≢ k) → f (struck.order_state j) j ≡ f (p.order_state j) j
      go (inl is) =
          subst (λ z. f (struck.order_state z) z ≡ f (p.order_state z) z) (sym is)
          (ap (λ x. f x k) (put-same p.order_state k (Taken p.uses)) ∙ sym same ∙ sym (ap (λ x. f x k) sent_now))
      go (inr ne) = ap (λ x. f x j) (old j ne)

  taken_now : gather p.orders (λ j. taken_of struck (struck.order_state j) j)
      ≡ gather p.orders (λ j. taken_of p (p.order_state j) j) ++ Busy (p.itag k) scope ∷ []
  taken_now =
      gather_end p.orders (λ j. taken_of p (p.order_state j) j) (λ j. taken_of struck (struck.order_state j) j) k (Busy (p.itag k) scope)
      ((i.parts e).bounds.sent c k speaks) (ap (λ x. taken_of p x k) sent_now)
      (ap (λ x. taken_of struck x k) (put-same p.order_state k (Taken p.uses)) ∙ ap busy (scope_same p struck (p.order k)))
      (λ j l. ap (λ x. taken_of struck x j) (old j (λ same. absurd (omega (arith, same, l)))) ∙ taken_same p struck (p.order_state j) j refl)
      (λ j l m. taken_not p (p.order_state j) j (none_newer j l m))
      (λ j l m. ap (λ x. taken_of struck x j) (old j (λ same. absurd (omega (arith, same, l)))) ∙ taken_not struck (p.order_state j) j (none_newer j l m))
    where
      busy : Scope → List Work
      busy x = Busy (p.itag k) x ∷ []

  abbrev part_now : Part
  part_now =
      record (shown w e) {
        requests = map (doomed scope) (shown w e).requests;
        held = without_covered scope (shown w e).held;
        works = (shown w e).works ++ Busy ((w.part e).itag k) scope ∷ [];
        flight = remove (shown w e).flight place;
      }

  sees : part_of (act w (AtEndpoint e (LocalAct.Take c k))) e struck ≡ part_now
  sees =
      seen w e (w.messages + 0) p struck
      ∙ ap₂ (λ qs ys. record (shown w e) {
        requests = tabulate 32 (λ t. option_map (request_of struck) (p.at_tag t));
        held = gather p.requests (λ r. if_there (held_of w.mappings struck r));
        works = gather p.uses (λ u. where_so (is_running (p.use_state u)) (use_of w.mappings p u))
            ++ gather p.orders (λ j. taken_of struck (struck.order_state j) j);
        queue = qs;
        issued = ys;
        flight = gather (w.messages + 0) (λ d. flying_of w.mappings struck (struck.message d));
      })
      (gather_same p.orders (queued_at e p struck.order_state) (queued_at e p p.order_state)
      (λ j l. still (λ x z. where_so (is_queued x) (descriptor_of e p (p.order z))) refl j))
      (gather_same p.orders (busy_at e p.itag struck.order_state) (busy_at e p.itag p.order_state)
      (λ j l. still (λ x z. where_so (is_busy x) (issued.Sent e (p.itag z))) refl j))
      ∙ ap₂ (λ rs hs. record (shown w e) {
        requests = rs;
        held = hs;
        works = gather p.uses (λ u. where_so (is_running (p.use_state u)) (use_of w.mappings p u))
            ++ gather p.orders (λ j. taken_of struck (struck.order_state j) j);
        flight = gather (w.messages + 0) (λ d. flying_of w.mappings struck (struck.message d));
      }) (asked_now w e c k i speaks) (held_now w e c k i speaks)
      ∙ ap₂ (λ ws fs. record (shown w e) {
        requests = map (doomed scope) (shown w e).requests;
        held = without_covered scope (shown w e).held;
        works = ws;
        flight = fs;
      })
      (ap (λ ts. gather p.uses (λ u. where_so (is_running (p.use_state u)) (use_of w.mappings p u)) ++ ts) taken_now
      ∙ sym (append_assoc (gather p.uses (λ u. where_so (is_running (p.use_state u)) (use_of w.mappings p u)))
      (gather p.orders (λ j. taken_of p (p.order_state j) j)) (Busy (p.itag k) scope ∷ [])))
      (flight_left w e c struck (InvalidateOf k) its i speaks refl (λ d. flying_same w.mappings p struck (p.message d) (its_itags p (p.message d)))
      (λ d ne. put-other p.message c None d ne) (put-same p.message c None))

  pub takes : next_open (open_of w) (doing.At e (local.Deliver (place_of_message w.mappings (w.part e) c)))
      ≡ Some (open_of (act w (AtEndpoint e (LocalAct.Take c k))))
  takes =
      at_one_endpoint w e (LocalAct.Take c k) i low
      (answers_same p struck (λ j. still (λ x z. is_done x) refl j) refl) (local.Deliver place) part_now sees
      (ap (deliver (open_of w).settings (open_of w).mappings (shown w e) place) alike.stands
      ∙ ap (λ b. if_so b (taken_in (open_of w).settings (open_of w).mappings (without_sent (shown w e) place) its)) (alike.permitted ∙ permitted))
