-- What the unit keeps after invalidations of ranges and the wait behind them are submitted: their descriptors stand at the
-- end of its queue. The device, the page request queue and the open groups are as they were.
use Rattle.std.proofs.Common.{◌≡◌, refl, ap, ap₂, ◌∙◌, ℕ, suc, ◌+◌, ◌<◌, ◌≤◌, Bool, true, false, arith}
use Rattle.std.specs.Prelude.{◌&&◌, nat_lt, Option, Some, None, option_map, List, [], ◌∷◌, ◌++◌, map}
use Rattle.std.proofs.lemmas.Bool.Decides.{nat_tests}
use Rattle.sva_model.specs.Words.{put_range, select, tabulate, holds_of}
use Rattle.sva_model.specs.State.{Mappings, Order, OrderState, Endpoint}
use Rattle.sva_model.specs.State.Order.{RangeOf, Wait}
use Rattle.sva_model.specs.State.OrderState.{Queued, Sent, Taken, Lapsed, Completing, Done, Void}
use Rattle.sva_model.specs.States.{is_open, is_queued, is_busy, is_running, covers}
use Rattle.sva_model.specs.Unmappings.{submitted, range_at}
use Rattle.sva_model.specs.StateChanges.{binding_of, extent_of}
use Rattle.sva_model.specs.Wire.{number, end_number, descriptor, busy_wire, taken_by, chain, unit_wire, device_wire, page_queue_wire, host_groups_wire}
use Rattle.sva_model.specs.Wire.{UnitWire, BusyWire, TakenWire, Descriptor}
use Rattle.sva_model.specs.Wire.Descriptor.{RangeDescriptor}
use Rattle.sva_labels.proofs.Lists.{tabulate_same}
use Rattle.sva_laws.proofs.Submitted.{old_order, old_state}
use Rattle.sva_labels.proofs.Words.{put-same}
use Rattle.sva_laws.proofs.Bounds.{Bounds}
use Rattle.sva_laws.proofs.Labels.{Labels}
use Rattle.sva_labels.specs.Moves.{descriptors_for, with_descriptors}
use Rattle.sva_refinement.proofs.Picked.{picked_same, picked_more}
use Rattle.sva_laws.proofs.Ranges.{order_at as new_range}

-- a unit by its fields
abbrev pub unit_of : Bool → List Descriptor → List (Option BusyWire) → ℕ → ℕ → UnitWire
unit_of o q b f w = record { is_open = o; queue = q; busy = b; front = f; waits_end = w }

pub unit_same :
    (o : Bool) (q q' : List Descriptor) (b b' : List (Option BusyWire)) (f f' w w' : ℕ) → q ≡ q' → b ≡ b' → f ≡ f' → w ≡ w'
    → unit_of o q b f w ≡ unit_of o q' b' f' w'
unit_same o q q' b b' f f' w w' hq hb hf hw = λ i. unit_of o (hq i) (hb i) (hf i) (hw i)

-- an order that bears an ITag is made
pub borne_made : (g : ℕ) (p : Endpoint) → Bounds g p → Labels p → (t k : ℕ) → p.at_itag t ≡ Some k → k < p.orders
borne_made g p bo la t k h = let b = la.itag_bears t k h in made (bo.order_state k) b.1
  where
    made : (p.orders ≤ k → p.order_state k ≡ Void) → is_busy (p.order_state k) ≡ true → k < p.orders
    made v b = grind (arith)

-- what a table of labels leads to is the same where it is the same for each record that bears one
pub borne_same :
    {A : Type 0} (n : ℕ) (at : ℕ → Option ℕ) (f g : ℕ → A) → ((t k : ℕ) → at t ≡ Some k → f k ≡ g k)
    → tabulate n (λ t. option_map f (at t)) ≡ tabulate n (λ t. option_map g (at t))
borne_same {A = A} n at f g h = tabulate_same n (λ t. option_map f (at t)) (λ t. option_map g (at t)) (λ t l. go (at t) (h t))
  where
    go : (o : Option ℕ) → ((k : ℕ) → o ≡ Some k → f k ≡ g k) → option_map f o ≡ option_map g o
    go None e = refl
    go (Some k) e = ap (λ z. Some z) (e k refl)

pub chained_same :
    {A : Type 0} (n : ℕ) (at : ℕ → Option ℕ) (f g : ℕ → Option A) → ((t k : ℕ) → at t ≡ Some k → f k ≡ g k)
    → tabulate n (λ t. chain f (at t)) ≡ tabulate n (λ t. chain g (at t))
chained_same {A = A} n at f g h = tabulate_same n (λ t. chain f (at t)) (λ t. chain g (at t)) (λ t l. go (at t) (h t))
  where
    go : (o : Option ℕ) → ((k : ℕ) → o ≡ Some k → f k ≡ g k) → chain f o ≡ chain g o
    go None e = refl
    go (Some k) e = e k refl

-- The orders of a submission.

new_state : (p : Endpoint) (b q count order cookie j : ℕ) → j < suc count → (submitted p b q count order cookie).order_state (p.orders + j) ≡ Queued
new_state p b q count order cookie j l = grind (arith, nat_tests)

new_wait : (p : Endpoint) (b q count order cookie : ℕ) → (submitted p b q count order cookie).order (p.orders + count) ≡ Wait cookie false
new_wait p b q count order cookie = put-same (put_range p.order p.orders count (λ j. RangeOf b (range_at q order j))) (p.orders + count) (Wait cookie false)

queue_submitted :
    (first : ℕ) (p : Endpoint) (b q count order cookie : ℕ)
    → map (λ k. descriptor first (submitted p b q count order cookie) ((submitted p b q count order cookie).order k))
    (select (p.orders + suc count) (λ k. is_queued ((submitted p b q count order cookie).order_state k)))
    ≡ map (λ k. descriptor first p (p.order k)) (select p.orders (λ k. is_queued (p.order_state k))) ++ descriptors_for (p.pasid b) q count order
    (number first cookie)
unfolding tabulate
queue_submitted first p b q count order cookie =
    picked_more p.orders (suc count) (λ k. descriptor first (submitted p b q count order cookie) ((submitted p b q count order cookie).order k))
    (λ k. is_queued ((submitted p b q count order cookie).order_state k))
    (λ j l. ap is_queued (new_state p b q count order cookie j l))
    ∙ ap₂ (λ xs ys. xs ++ ys)
    (
    picked_same p.orders (λ k. descriptor first (submitted p b q count order cookie) ((submitted p b q count order cookie).order k))
    (λ k. descriptor first p (p.order k))
    (λ k. is_queued ((submitted p b q count order cookie).order_state k))
    (λ k. is_queued (p.order_state k))
    (λ k l. ap is_queued (old_state p b q count order cookie k l))
    (λ k l h. ap (descriptor first p) (old_order p b q count order cookie k l))
    )
    (
    ap₂ (λ xs x. xs ++ x ∷ [])
    (
    tabulate_same count (λ j. descriptor first (submitted p b q count order cookie) ((submitted p b q count order cookie).order (p.orders + j)))
    (λ j. RangeDescriptor (p.pasid b) (range_at q order j))
    (λ j l. ap (descriptor first p) (new_range p b q count order cookie j l))
    )
    (ap (descriptor first p) (new_wait p b q count order cookie))
    )

-- the number after that of a cookie
pub cookie_end : (first cookie : ℕ) → end_number first (suc cookie) ≡ suc (number first cookie)
cookie_end first cookie = omega arith

pub unit_submitted :
    (g first : ℕ) (p : Endpoint) (b q count order cookie : ℕ) → Bounds g p → Labels p
    → unit_wire first (submitted p b q count order cookie)
    ≡ with_descriptors (unit_wire first p) (descriptors_for (p.pasid b) q count order (number first cookie)) (number first cookie)
unit_submitted g first p b q count order cookie bo la =
    unit_same (is_open p.phase)
    (map (λ k. descriptor first (submitted p b q count order cookie) ((submitted p b q count order cookie).order k))
    (select (p.orders + suc count) (λ k. is_queued ((submitted p b q count order cookie).order_state k))))
    (map (λ k. descriptor first p (p.order k)) (select p.orders (λ k. is_queued (p.order_state k))) ++ descriptors_for (p.pasid b) q count order
    (number first cookie))
    (tabulate 32 (λ t. option_map (λ k. busy_wire ((submitted p b q count order cookie).order_state k)) (p.at_itag t)))
    (tabulate 32 (λ t. option_map (λ k. busy_wire (p.order_state k)) (p.at_itag t)))
    (end_number first p.front)
    (end_number first p.front)
    (end_number first (suc cookie))
    (suc (number first cookie))
    (queue_submitted first p b q count order cookie)
    (
    borne_same 32 p.at_itag (λ k. busy_wire ((submitted p b q count order cookie).order_state k)) (λ k. busy_wire (p.order_state k))
    (λ t k h. ap busy_wire (old_state p b q count order cookie k (borne_made g p bo la t k h)))
    )
    refl
    (cookie_end first cookie)

-- The other keepers don't see it.

-- a taken order as it is seen
abbrev pub taken_as : Mappings → Endpoint → Order → (uses : ℕ) → Option TakenWire
taken_as ms p o uses =
    Some (record {
      pasid = p.pasid (binding_of o);
      extent = extent_of o;
      slots =
          tabulate 16
          (λ t. holds_of (λ u. nat_lt u uses && (is_running (p.use_state u) && covers o (p.use_binding u) (ms.page (p.use_mapping u)))) (p.at_slot t));
    })

pub device_submitted :
    (g : ℕ) (ms : Mappings) (p : Endpoint) (b q count order cookie : ℕ) → Bounds g p → Labels p
    → device_wire ms (submitted p b q count order cookie) ≡ device_wire ms p
device_submitted g ms p b q count order cookie bo la =
    ap (λ (taken : List (Option TakenWire)). record (device_wire ms p) { taken = taken })
    (
    chained_same 32 p.at_itag
    (λ k. taken_by ms (submitted p b q count order cookie) k ((submitted p b q count order cookie).order_state k))
    (λ k. taken_by ms p k (p.order_state k))
    (λ t k h. same k (borne_made g p bo la t k h))
    )
  where
    by_state :
        (k : ℕ) (s : OrderState) → (submitted p b q count order cookie).order k ≡ p.order k
        → taken_by ms (submitted p b q count order cookie) k s ≡ taken_by ms p k s
    by_state k (Taken uses) h = ap (λ o. taken_as ms p o uses) h
    by_state k Queued h = refl
    by_state k Sent h = refl
    by_state k Lapsed h = refl
    by_state k (Completing c left) h = refl
    by_state k Done h = refl
    by_state k Void h = refl

    same :
        (k : ℕ) → k < p.orders
        → taken_by ms (submitted p b q count order cookie) k ((submitted p b q count order cookie).order_state k) ≡ taken_by ms p k (p.order_state k)
    same k l =
        by_state k ((submitted p b q count order cookie).order_state k) (old_order p b q count order cookie k l)
        ∙ ap (taken_by ms p k) (old_state p b q count order cookie k l)

pub page_queue_submitted : (p : Endpoint) (b q count order cookie : ℕ) → page_queue_wire (submitted p b q count order cookie) ≡ page_queue_wire p
page_queue_submitted p b q count order cookie = refl

pub host_groups_submitted :
    (first : ℕ) (p : Endpoint) (b q count order cookie : ℕ)
    → host_groups_wire first (submitted p b q count order cookie) ≡ host_groups_wire first p
host_groups_submitted first p b q count order cookie = refl
