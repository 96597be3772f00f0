-- The invalidations in a device's hands: the acts that change them.
use Rattle.std.proofs.Common.{◌≡◌, ◌≢◌, refl, ap, sym, ◌∙◌, ℕ, ◌<◌, Bool, true, false, arith}
use Rattle.std.specs.Prelude.{Option, Some, None, option_map, ◌&&◌, nat_lt, if◌then◌else◌, map, slice_set, slice_index_or}
use Rattle.std.proofs.lemmas.Bool.Decides.{nat_tests}
use Rattle.sva_model.specs.Words.{tabulate, holds_of}
use Rattle.sva_model.specs.State.{Mappings, OrderState, UseState, Endpoint}
use Rattle.sva_model.specs.State.OrderState.{Queued, Sent, Taken, Lapsed, Completing, Done, Void}
use Rattle.sva_model.specs.State.UseState.{Running, Dead, Ended}
use Rattle.sva_model.specs.States.{is_unreleased, is_busy, is_running, covers}
use Rattle.sva_model.specs.Labels
use Rattle.sva_model.specs.StateChanges.{binding_of, extent_of, completing_if, lapse}
use Rattle.sva_model.specs.Acts.{act_alone, LocalAct}
use Rattle.sva_model.specs.Wire.{chain, taken_by, is_noted, use_wire, translation_wire}
use Rattle.sva_labels.proofs.Words.{put-same, put-other}
use Rattle.sva_laws.proofs.Legal.{LegalLocalAct}
use Rattle.sva_laws.proofs.Bounds.{Bounds}
use Rattle.sva_laws.proofs.Labels.{Labels}
use Rattle.sva_laws.proofs.Orders.{Orders, taken_busy}
use Rattle.sva_laws.proofs.Owners.{Owners}
use Rattle.sva_labels.specs.Moves
use Rattle.sva_labels.specs.Moves.{without_named, unnoted}
use Rattle.sva_refinement.proofs.DeviceRows.{tabulate_map}
use Rattle.sva_refinement.proofs.DeviceTaken.{notes, taken_seen, taken_wire, taken_by_same}
use Rattle.sva_refinement.proofs.DeviceTags.{covers_same}
use Rattle.sva_refinement.proofs.DeviceSlots.{slots_wire, seen_use, other_use, slot_made, running_unreleased}
use Rattle.sva_labels.proofs.Lists.{tabulate_same, tabulate_set, tabulate_at}

-- The ITags of a vector are finished.
pub taken_finished :
    (ms : Mappings) (g n : ℕ) (p : Endpoint) (names : ℕ → Bool) (vector count : ℕ) → LegalLocalAct ms g p (LocalAct.Finish names vector count) → Labels p
    → taken_wire ms (act_alone p n (LocalAct.Finish names vector count)) ≡ without_named vector (taken_wire ms p)
taken_finished ms g n p names vector count l la =
    tabulate_same 32 (λ t. chain (taken_seen ms (act_alone p n (LocalAct.Finish names vector count))) (p.at_itag t))
    (λ t. if Labels.is_set vector t then None else slice_index_or (taken_wire ms p) t None)
    (λ t m. go t m (p.at_itag t) refl (Labels.is_set vector t) refl
    ∙ sym (ap (λ x. if Labels.is_set vector t then None else x) (tabulate_at 32 (λ y. chain (taken_seen ms p) (p.at_itag y)) t None m)))
  where
    -- the order of a bit that is set is named
    named : (t k : ℕ) → t < 32 → p.at_itag t ≡ Some k → Labels.is_set vector t ≡ true → names k ≡ true
    named t k m h b = by_bit (l.5.set t m b)
      where
        same : (j : ℕ) → p.at_itag (p.itag j) ≡ Some j → p.itag j ≡ t → j ≡ k
        same j a e = grind (arith)

        by_bit : (j : ℕ) × (names j ≡ true) × (p.itag j ≡ t) → names k ≡ true
        by_bit (j, n, e) = sym (ap names (same j (la.bears_itag j (taken_busy (p.order_state j) (l.1 j n))) e)) ∙ n

    -- and that of another isn't
    unnamed : (t k : ℕ) → p.at_itag t ≡ Some k → Labels.is_set vector t ≡ false → (b : Bool) → names k ≡ b → b ≡ false
    unnamed t k h b false e = refl
    unnamed t k h b true e = absurd (cc (sym (l.5.named k e) ∙ ap (Labels.is_set vector) (la.itag_bears t k h).0 ∙ b))

    owed : (k : ℕ) (s : OrderState) → taken_by ms (act_alone p n (LocalAct.Finish names vector count)) k (completing_if true count s) ≡ None
    owed k s = refl

    go :
        (t : ℕ) → t < 32 → (o : Option ℕ) → p.at_itag t ≡ o → (b : Bool) → Labels.is_set vector t ≡ b
        → chain (taken_seen ms (act_alone p n (LocalAct.Finish names vector count))) o ≡ (if b then None else chain (taken_seen ms p) o)
    go t m None h true e = refl
    go t m None h false e = refl
    go t m (Some k) h true e =
        ap (λ x. taken_by ms (act_alone p n (LocalAct.Finish names vector count)) k (completing_if x count (p.order_state k))) (named t k m h e)
    go t m (Some k) h false e =
        ap (λ x. taken_by ms (act_alone p n (LocalAct.Finish names vector count)) k (completing_if x count (p.order_state k))) (unnamed t k h e (names k) refl)
        ∙ taken_by_same ms ms p (act_alone p n (LocalAct.Finish names vector count)) k (p.order_state k)
        (λ uses x. record { pasid = refl; extent = refl; slots = λ y. refl })

-- An invalidation is taken: it notes the running uses that it covers.
taken_notes :
    (ms : Mappings) (g n : ℕ) (p : Endpoint) (c k : ℕ) → LegalLocalAct ms g p (LocalAct.Take c k) → Bounds g p → Labels p → Orders p → Owners ms p
    → tabulate 16 (notes ms (act_alone p n (LocalAct.Take c k)) k p.uses)
    ≡ map (Moves.is_noted (p.pasid (binding_of (p.order k))) (extent_of (p.order k))) (slots_wire ms p)
taken_notes ms g n p c k l bo la or ow =
    tabulate_same 16 (notes ms (act_alone p n (LocalAct.Take c k)) k p.uses)
    (λ x. Moves.is_noted (p.pasid (binding_of (p.order k))) (extent_of (p.order k)) (option_map (use_wire ms p) (p.at_slot x)))
    (λ x m. slot x (p.at_slot x) refl)
    ∙ sym (tabulate_map (Moves.is_noted (p.pasid (binding_of (p.order k))) (extent_of (p.order k))) 16 (λ x. option_map (use_wire ms p) (p.at_slot x)))
  where
    early : (u : ℕ) (b : Bool) → u < p.uses → (nat_lt u p.uses && b) ≡ b
    early u b h = grind (arith, nat_tests)

    by_state :
        (u : ℕ) (s : UseState) → (s ≡ Running → is_unreleased (p.stage (p.use_binding u)) ≡ true)
        → (is_running s && covers (p.order k) (p.use_binding u) (ms.page (p.use_mapping u)))
        ≡ Moves.is_noted (p.pasid (binding_of (p.order k))) (extent_of (p.order k))
        (Some (seen_use s (translation_wire ms p (p.use_binding u) (ms.page (p.use_mapping u)) (p.use_mapping u))))
    by_state u Running h = sym (covers_same p k (p.use_binding u) (ms.page (p.use_mapping u)) la or (ap is_busy (la.sent c k l)) (h refl))
    by_state u Dead h = refl
    by_state u Ended h = refl

    slot :
        (x : ℕ) (o : Option ℕ) → p.at_slot x ≡ o
        → holds_of (is_noted ms (act_alone p n (LocalAct.Take c k)) k p.uses) o
        ≡ Moves.is_noted (p.pasid (binding_of (p.order k))) (extent_of (p.order k)) (option_map (use_wire ms p) o)
    slot x None h = refl
    slot x (Some u) h =
        early u (Labels.is_noted_running ms p k u) (slot_made p g u bo (la.slot_bears x u h).1)
        ∙ by_state u (p.use_state u) (running_unreleased ms p u ow)

pub taken_taken :
    (ms : Mappings) (g n : ℕ) (p : Endpoint) (c k : ℕ) → LegalLocalAct ms g p (LocalAct.Take c k) → Bounds g p → Labels p → Orders p → Owners ms p
    → taken_wire ms (act_alone p n (LocalAct.Take c k))
    ≡ slice_set (taken_wire ms p) (p.itag k)
    (Some (record {
      pasid = p.pasid (binding_of (p.order k));
      extent = extent_of (p.order k);
      slots =
          map (Moves.is_noted (p.pasid (binding_of (p.order k))) (extent_of (p.order k))) (slots_wire ms p);
    }))
taken_taken ms g n p c k l bo la or ow =
    tabulate_set 32 (λ t. chain (taken_seen ms p) (p.at_itag t)) (λ t. chain (taken_seen ms (act_alone p n (LocalAct.Take c k))) (p.at_itag t)) (p.itag k)
    (Some (record {
      pasid = p.pasid (binding_of (p.order k));
      extent = extent_of (p.order k);
      slots =
          map (Moves.is_noted (p.pasid (binding_of (p.order k))) (extent_of (p.order k))) (slots_wire ms p);
    }))
    (ap (chain (taken_seen ms (act_alone p n (LocalAct.Take c k)))) (la.bears_itag k (ap is_busy (la.sent c k l)))
    ∙ ap (taken_by ms (act_alone p n (LocalAct.Take c k)) k) (put-same p.order_state k (Taken p.uses))
    ∙ ap (λ xs. Some (record { pasid = p.pasid (binding_of (p.order k)); extent = extent_of (p.order k); slots = xs }))
    (taken_notes ms g n p c k l bo la or ow))
    (λ t ne. go t ne (p.at_itag t) refl)
  where
    other : (t j : ℕ) → t ≢ p.itag k → p.itag j ≡ t → j ≢ k
    other t j ne e x = ne (sym e ∙ ap p.itag x)

    go : (t : ℕ) → t ≢ p.itag k → (o : Option ℕ) → p.at_itag t ≡ o → chain (taken_seen ms (act_alone p n (LocalAct.Take c k))) o ≡ chain (taken_seen ms p) o
    go t ne None h = refl
    go t ne (Some j) h =
        ap (taken_by ms (act_alone p n (LocalAct.Take c k)) j) (put-other p.order_state k (Taken p.uses) j (other t j ne (la.itag_bears t j h).0))
        ∙ taken_by_same ms ms p (act_alone p n (LocalAct.Take c k)) j (p.order_state j) (λ uses x. record { pasid = refl; extent = refl; slots = λ y. refl })

-- A use ends: no invalidation waits for it any more.
pub taken_ended : (ms : Mappings) (n : ℕ) (p : Endpoint) (u : ℕ) → Labels p → taken_wire ms (act_alone p n (LocalAct.End u))
    ≡ map (unnoted (p.use_slot u)) (taken_wire ms p)
taken_ended ms n p u la =
    tabulate_same 32 (λ t. chain (taken_seen ms (act_alone p n (LocalAct.End u))) (p.at_itag t))
    (λ t. unnoted (p.use_slot u) (chain (taken_seen ms p) (p.at_itag t))) (λ t m. go (p.at_itag t))
    ∙ sym (tabulate_map (unnoted (p.use_slot u)) 32 (λ t. chain (taken_seen ms p) (p.at_itag t)))
  where
    old :
        (k uses y : ℕ) → y ≢ p.use_slot u → (o : Option ℕ) → p.at_slot y ≡ o
        → holds_of (is_noted ms (act_alone p n (LocalAct.End u)) k uses) o ≡ holds_of (is_noted ms p k uses) o
    old k uses y ne None h = refl
    old k uses y ne (Some v) h =
        ap (λ s. nat_lt v uses && (is_running s && covers (p.order k) (p.use_binding v) (ms.page (p.use_mapping v))))
        (put-other p.use_state u Ended v (other_use p u y v ne (la.slot_bears y v h).0))

    slots : (k uses : ℕ) → tabulate 16 (notes ms (act_alone p n (LocalAct.End u)) k uses) ≡ slice_set (tabulate 16 (notes ms p k uses)) (p.use_slot u) false
    slots k uses =
        tabulate_set 16 (notes ms p k uses) (notes ms (act_alone p n (LocalAct.End u)) k uses) (p.use_slot u) false
        (ap (holds_of (is_noted ms (act_alone p n (LocalAct.End u)) k uses)) (put-same p.at_slot (p.use_slot u) None))
        (λ y ne. ap (holds_of (is_noted ms (act_alone p n (LocalAct.End u)) k uses)) (put-other p.at_slot (p.use_slot u) None y ne)
        ∙ old k uses y ne (p.at_slot y) refl)

    by_state : (k : ℕ) (s : OrderState) → taken_by ms (act_alone p n (LocalAct.End u)) k s ≡ unnoted (p.use_slot u) (taken_by ms p k s)
    by_state k Queued = refl
    by_state k Sent = refl
    by_state k (Taken uses) = ap (λ xs. Some (record { pasid = p.pasid (binding_of (p.order k)); extent = extent_of (p.order k); slots = xs })) (slots k uses)
    by_state k Lapsed = refl
    by_state k (Completing count left) = refl
    by_state k Done = refl
    by_state k Void = refl

    go : (o : Option ℕ) → chain (taken_seen ms (act_alone p n (LocalAct.End u))) o ≡ unnoted (p.use_slot u) (chain (taken_seen ms p) o)
    go None = refl
    go (Some k) = by_state k (p.order_state k)

-- After its own reset the endpoint has nothing in its hands.
pub taken_cleared : (ms : Mappings) (n : ℕ) (p : Endpoint) (c : ℕ)
    → taken_wire ms (act_alone p n (LocalAct.Reset_arrives c)) ≡ map (λ taken. None) (taken_wire ms p)
taken_cleared ms n p c =
    tabulate_same 32 (λ t. chain (taken_seen ms (act_alone p n (LocalAct.Reset_arrives c))) (p.at_itag t)) (λ t. None) (λ t m. go (p.at_itag t))
    ∙ sym (tabulate_map (λ taken. None) 32 (λ t. chain (taken_seen ms p) (p.at_itag t)))
  where
    by_state : (k : ℕ) (s : OrderState) → taken_by ms (act_alone p n (LocalAct.Reset_arrives c)) k (lapse s) ≡ None
    by_state k Queued = refl
    by_state k Sent = refl
    by_state k (Taken uses) = refl
    by_state k Lapsed = refl
    by_state k (Completing count left) = refl
    by_state k Done = refl
    by_state k Void = refl

    go : (o : Option ℕ) → chain (taken_seen ms (act_alone p n (LocalAct.Reset_arrives c))) o ≡ None
    go None = refl
    go (Some k) = by_state k (p.order_state k)
