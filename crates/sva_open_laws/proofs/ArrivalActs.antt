-- A page request that comes to its unit is an act of the open world: its delivery.
use Rattle.std.proofs.Common.{◌≡◌, ◌≢◌, refl, ap, ap₂, ◌∙◌, ℕ, suc, ◌+◌, ◌<◌, Bool, true, false, arith}
use Rattle.std.specs.Prelude.{if◌then◌else◌, List, [], ◌∷◌, ◌++◌, Some, None, remove}
use Rattle.sva_model.specs.State.{Endpoint, World}
use Rattle.sva_model.specs.State.PageRequestState.{Arrived, Dropped}
use Rattle.sva_model.specs.State.Subject.{PageRequestOf}
use Rattle.sva_model.specs.States.{is_arrived, is_open, is_running}
use Rattle.sva_model.specs.Acts.{LocalAct, act, act_alone}
use Rattle.sva_model.specs.Acts.Act.{AtEndpoint}
use Rattle.sva_model.specs.Labels.{is_permitted}
use Rattle.sva_labels.proofs.Words.{put-same, put-other}
use Rattle.sva_laws.proofs.Invariant.{Invariant}
use Rattle.sva_open.specs.declared.acts.Act.TheVariants as doing
use Rattle.sva_open.specs.declared.acts.LocalAct.TheVariants as local
use Rattle.sva_open.specs.declared.descriptors.Arrived.{Arrived as Come}
use Rattle.sva_open.specs.declared.messages.Message.TheVariants as message
use Rattle.sva_open.specs.declared.messages.Sent.{Sent as Flying}
use Rattle.sva_open.specs.World.{Part, if_so}
use Rattle.sva_open.specs.Acts.{next_open}
use Rattle.sva_open.specs.Links.{arrive, deliver, taken_in, without_sent}
use Rattle.sva_open_laws.specs.AsOpen.{arrived_of, asked_of, flying_of, gather, open_of, owner_of, part_of, taken_of, use_of, where_so}
use Rattle.sva_open_laws.specs.LinkOrders.{IsDeliveredAlike, place_of_message}
use Rattle.sva_open_laws.specs.Queues.{shown}
use Rattle.sva_open_laws.proofs.ActParts.{at_one_endpoint}
use Rattle.sva_open_laws.proofs.DeviceActs.{calm}
use Rattle.sva_open_laws.proofs.GatherLists.{gather_next, gather_same}
use Rattle.sva_open_laws.proofs.LinkLists.{delivered_alike}
use Rattle.sva_open_laws.proofs.PumpActs.{its_itags}
use Rattle.sva_open_laws.proofs.TakeActs.{flight_left}
use Rattle.sva_open_laws.proofs.UnitParts.{flying_same, seen, taken_same}

module _ (w : World) (e c r : ℕ) (i : Invariant w) (low : e < w.config.endpoints) (speaks : (w.part e).message c ≡ Some (PageRequestOf r))
    (permitted : is_permitted (w.part e) c (PageRequestOf r) ≡ true) where
  abbrev p : Endpoint
  p = w.part e

  abbrev its : Flying
  its =
      record {
        message = message.PageRequest (asked_of (w.part e) r);
        owner = owner_of (w.part e) ((w.part e).asker ((w.part e).group_of r));
        number = (w.part e).group_of r;
      }

  abbrev place : ℕ
  place = place_of_message w.mappings (w.part e) c

  abbrev without_it : Part
  without_it = without_sent (shown w e) place

  alike : IsDeliveredAlike w e c (PageRequestOf r) its
  alike = delivered_alike w e c (PageRequestOf r) its i speaks (λ h. absurd (cc)) refl

  -- it hasn't arrived before
  new : (k : ℕ) → k < p.arrivals → p.arrival k ≢ r
  new k l same = (i.parts e).queued.landed k l (ap p.page_request same ∙ ((i.parts e).queued.in_flight c r speaks).0)

  abbrev come_at : Endpoint → ℕ → List Come
  come_at q k = where_so (is_arrived (q.page_request (q.arrival k))) (arrived_of e (w.part e) (q.arrival k))

  -- what is the same of both ways
  leaves : (o : LocalAct) (come : List Come) → (act_alone p w.messages o).order_state ≡ p.order_state
      → (act_alone p w.messages o).resets ≡ p.resets
      → part_of (act w (AtEndpoint e o)) e (act_alone p w.messages o) ≡ record (shown w e) { arrived = come; flight = remove (shown w e).flight place }
      → taken_in (open_of w).settings (open_of w).mappings without_it its
      ≡ record (shown w e) { arrived = come; flight = remove (shown w e).flight place }
      → next_open (open_of w) (doing.At e (local.Deliver place)) ≡ Some (open_of (act w (AtEndpoint e o)))
  leaves o come states resets sees is =
      at_one_endpoint w e o i low (calm p w.messages o states resets) (local.Deliver place)
      (record (shown w e) { arrived = come; flight = remove (shown w e).flight place }) sees
      (ap (deliver (open_of w).settings (open_of w).mappings (shown w e) place) alike.stands
      ∙ ap (λ x. if_so x (taken_in (open_of w).settings (open_of w).mappings without_it its)) (alike.permitted ∙ permitted)
      ∙ ap Some is)

  pub arrives : is_open (w.part e).phase ≡ true
      → next_open (open_of w) (doing.At e (local.Deliver (place_of_message w.mappings (w.part e) c)))
      ≡ Some (open_of (act w (AtEndpoint e (LocalAct.Arrive c r))))
  arrives opened =
      leaves (LocalAct.Arrive c r) ((shown w e).arrived ++ arrived_of e p r ∷ []) refl refl
      (seen w e (w.messages + 0) p arrived
      ∙ ap₂ (λ ts ys. record (shown w e) {
        works = gather p.uses (λ u. where_so (is_running (p.use_state u)) (use_of w.mappings p u)) ++ ts;
        arrived = ys;
        flight = gather (w.messages + 0) (λ d. flying_of w.mappings arrived (arrived.message d));
      })
      (gather_same p.orders (λ k. taken_of arrived (p.order_state k) k) (λ k. taken_of p (p.order_state k) k)
      (λ k l. taken_same p arrived (p.order_state k) k refl)) come
      ∙ ap (λ fs. record (shown w e) { arrived = (shown w e).arrived ++ arrived_of e p r ∷ []; flight = fs })
      (flight_left w e c arrived (PageRequestOf r) its i speaks refl
      (λ d. flying_same w.mappings p arrived (p.message d) (its_itags p (p.message d)))
      (λ d ne. put-other p.message c None d ne) (put-same p.message c None)))
      (ap (λ (x : Bool). if x then arrive (open_of w).settings without_it its (asked_of p r) else without_it) opened)
    where
      arrived : Endpoint
      arrived = act_alone (w.part e) w.messages (LocalAct.Arrive c r)

      come : gather (suc p.arrivals) (come_at arrived) ≡ gather p.arrivals (come_at p) ++ arrived_of e p r ∷ []
      come =
          gather_next p.arrivals (come_at arrived)
          ∙ ap₂ (λ xs ys. xs ++ ys)
          (gather_same p.arrivals (come_at arrived) (come_at p)
          (λ k l.
          ap (λ z. where_so (is_arrived (arrived.page_request z)) (arrived_of e p z))
          (put-other p.arrival p.arrivals r k (λ same. absurd (omega (arith, same, l))))
          ∙ ap (λ s. where_so (is_arrived s) (arrived_of e p (p.arrival k))) (put-other p.page_request r Arrived (p.arrival k) (new k l))))
          (ap (λ z. where_so (is_arrived (arrived.page_request z)) (arrived_of e p z)) (put-same p.arrival p.arrivals r)
          ∙ ap (λ s. where_so (is_arrived s) (arrived_of e p r)) (put-same p.page_request r Arrived))

  -- at a unit in reset it is dropped
  pub misses : is_open (w.part e).phase ≡ false
      → next_open (open_of w) (doing.At e (local.Deliver (place_of_message w.mappings (w.part e) c)))
      ≡ Some (open_of (act w (AtEndpoint e (LocalAct.Miss c r))))
  misses closed =
      leaves (LocalAct.Miss c r) (shown w e).arrived refl refl
      (seen w e (w.messages + 0) p missed
      ∙ ap₂ (λ ts ys. record (shown w e) {
        works = gather p.uses (λ u. where_so (is_running (p.use_state u)) (use_of w.mappings p u)) ++ ts;
        arrived = ys;
        flight = gather (w.messages + 0) (λ d. flying_of w.mappings missed (missed.message d));
      })
      (gather_same p.orders (λ k. taken_of missed (p.order_state k) k) (λ k. taken_of p (p.order_state k) k)
      (λ k l. taken_same p missed (p.order_state k) k refl))
      (gather_same p.arrivals (come_at missed) (come_at p)
      (λ k l. ap (λ s. where_so (is_arrived s) (arrived_of e p (p.arrival k))) (put-other p.page_request r Dropped (p.arrival k) (new k l))))
      ∙ ap (λ fs. record (shown w e) { flight = fs })
      (flight_left w e c missed (PageRequestOf r) its i speaks refl
      (λ d. flying_same w.mappings p missed (p.message d) (its_itags p (p.message d)))
      (λ d ne. put-other p.message c None d ne) (put-same p.message c None)))
      (ap (λ (x : Bool). if x then arrive (open_of w).settings without_it its (asked_of p r) else without_it) closed)
    where
      missed : Endpoint
      missed = act_alone (w.part e) w.messages (LocalAct.Miss c r)
