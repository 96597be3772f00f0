-- What frames wait for at a unit is settled by a wait that is done, which takes its own cookie away, and by a reset-done, which
-- takes all away.
use Rattle.std.proofs.Common.{◌≡◌, ◌≢◌, ◌⊎◌, inl, inr, refl, ap, sym, subst, ◌∙◌, ℕ, zero, suc, ◌+◌, ◌<◌, ◌≤◌, Bool, true, false, arith}
use Rattle.std.specs.Prelude.{Some, None, Option, is_none, ◌&&◌, ◌==◌, nat_lt, if◌then◌else◌, List, [], ◌∷◌, slice_set, slice_index_or}
use Rattle.std.specs.List.{list_all}
use Rattle.std.proofs.lemmas.Bool.Decides.{nat_tests}
use Rattle.std.proofs.lemmas.Bool.{cases_lt, eq-eqb, lt-ltb, ne_eqb, or_left, or_right}
use Rattle.sva_model.specs.Words.{put, all_below, tabulate}
use Rattle.sva_model.specs.State.{Owed, Mappings, Endpoint, World, Order}
use Rattle.sva_model.specs.State.Owed.{Nothing, Ranges, Pasid, NextReset}
use Rattle.sva_model.specs.State.MappingState.{Gone}
use Rattle.sva_model.specs.State.Order.{RangeOf, PasidOf, Wait}
use Rattle.sva_model.specs.State.OrderState.{Done}
use Rattle.sva_model.specs.States.{is_done, is_wait, answered}
use Rattle.sva_model.specs.Acts.{act_alone, LocalAct, act}
use Rattle.sva_model.specs.Acts.Act.{AtEndpoint}
use Rattle.sva_model.specs.Wire.{TargetWire, cookie_number, target_of, target_wire, places_wire}
use Rattle.sva_model.specs.Wire.PlaceWire.{FreeWire, WithheldWire}
use Rattle.sva_model.specs.Wire.TargetWire.{Cookie, ResetEnd}
use Rattle.sva_laws.specs.Waits.{FitsDebt}
use Rattle.sva_labels.proofs.Words.{put-same, put-other, ℕ_cases}
use Rattle.sva_laws.proofs.Legal.{LegalLocalAct}
use Rattle.sva_laws.proofs.Bounds.{Bounds}
use Rattle.sva_laws.proofs.Orders.{SentOnly}
use Rattle.sva_laws.proofs.Fronts.{Fronts, AllFronts}
use Rattle.sva_laws.proofs.Answered.{answered_own}
use Rattle.sva_laws.proofs.Debts.{AllDebts, act_debts}
use Rattle.sva_laws.proofs.Invariant.{Invariant}
use Rattle.sva_laws.proofs.Keeps.{Legal}
use Rattle.sva_labels.proofs.Lists.{tabulate_set, tabulate_at}
use Rattle.sva_refinement.proofs.PlacesByNumber.{seen_by}
use Rattle.sva_labels.specs.Moves.{place_for, settled, settled_at, settled_cookie}
use Rattle.sva_refinement.proofs.PlacesOut.{places_changed}
use Rattle.sva_refinement.proofs.PlacesKept.{done_answers, ranges_open, ranges_wait, pasid_open, pasid_waits, both_done}
use Rattle.sva_refinement.proofs.Withholding.{target_at, seen_targets}

-- One unit's target is settled.

none_at : (xs : List (Option TargetWire)) (i : ℕ) → list_all is_none xs ≡ true → slice_index_or xs i None ≡ None
none_at [] i h = refl
none_at (None ∷ xs) zero h = refl
none_at (None ∷ xs) (suc i) h = none_at xs i h
none_at (Some t ∷ xs) i h = absurd (cc (h))

none_set : (xs : List (Option TargetWire)) (i : ℕ) → list_all is_none xs ≡ true → list_all is_none (slice_set xs i None) ≡ true
none_set [] i h = h
none_set (None ∷ xs) zero h = h
none_set (None ∷ xs) (suc i) h = none_set xs i h
none_set (Some t ∷ xs) i h = absurd (cc (h))

settled_place :
    (e : ℕ) (settle : Option TargetWire → Option TargetWire) (targets : List (Option TargetWire)) → settle None ≡ None
    → settled_at e settle (place_for targets) ≡ place_for (slice_set targets e (settle (slice_index_or targets e None)))
settled_place e settle targets h = go (list_all is_none targets) refl
  where
    go :
        (b : Bool) → list_all is_none targets ≡ b
        → settled_at e settle (if b then FreeWire else WithheldWire targets) ≡ place_for (slice_set targets e (settle (slice_index_or targets e None)))
    go false k = refl
    go true k =
        sym (ap (λ b. if b then FreeWire else WithheldWire (slice_set targets e (settle (slice_index_or targets e None))))
        (ap (λ t. list_all is_none (slice_set targets e t)) (ap settle (none_at targets e k) ∙ h) ∙ none_set targets e k))

settled_seen :
    (w : World) (e : ℕ) (o : LocalAct) (settle : Option TargetWire → Option TargetWire) (owed : ℕ → Owed) → settle None ≡ None
    → e < w.config.endpoints → w.config.endpoints ≤ 8
    → target_wire w.config.first (act_alone (w.part e) w.messages o) (owed e) ≡ settle (target_wire w.config.first (w.part e) (owed e))
    → seen_by (act w (AtEndpoint e o)) (Gone owed) ≡ settled_at e settle (seen_by w (Gone owed))
settled_seen w e o settle owed none l low h =
    seen_targets (act w (AtEndpoint e o)) owed low
    ∙ ap place_for (tabulate_set 8 before after e (settle (before e)) here others)
    ∙ sym (ap (λ t. place_for (slice_set (tabulate 8 before) e (settle t))) (tabulate_at 8 before e None (omega (arith, l, low))))
    ∙ sym (settled_place e settle (tabulate 8 before) none)
    ∙ sym (ap (settled_at e settle) (seen_targets w owed low))
  where
    before : ℕ → Option TargetWire
    before x = target_at w.config.first w.config.endpoints w.part owed x

    after : ℕ → Option TargetWire
    after x = target_at w.config.first w.config.endpoints (put w.part e (act_alone (w.part e) w.messages o)) owed x

    here : after e ≡ settle (before e)
    here =
        (λ i. if lt-ltb e w.config.endpoints l i then target_wire w.config.first (put-same w.part e (act_alone (w.part e) w.messages o) i) (owed e) else None)
        ∙ h
        ∙ sym (ap (λ b. settle (if b then target_wire w.config.first (w.part e) (owed e) else None)) (lt-ltb e w.config.endpoints l))

    others : (x : ℕ) → x ≢ e → after x ≡ before x
    others x ne =
        ap (λ p. if nat_lt x w.config.endpoints then target_wire w.config.first p (owed x) else None)
        (put-other w.part e (act_alone (w.part e) w.messages o) x ne)

pub settled_places :
    (w : World) (e : ℕ) (o : LocalAct) (settle : Option TargetWire → Option TargetWire) → settle None ≡ None → e < w.config.endpoints
    → w.config.endpoints ≤ 8
    → ((m : ℕ) (owed : ℕ → Owed) → w.mappings.state m ≡ Gone owed → target_wire w.config.first (act_alone (w.part e) w.messages o) (owed e)
    ≡ settle (target_wire w.config.first (w.part e) (owed e)))
    → places_wire (act w (AtEndpoint e o)) ≡ settled e settle (places_wire w)
settled_places w e o settle none l low h =
    places_changed w (act w (AtEndpoint e o)) (settled_at e settle) refl refl refl refl
    (λ m owed gone. settled_seen w e o settle owed none l low (h m owed gone))

-- A wait that is done.

-- the wait of another cookie
other_cookie :
    (cookies first : ℕ) (p : Endpoint) (x k : ℕ) → Fronts cookies p → x < p.orders → k < p.orders → is_wait (p.order x) ≡ true
    → is_wait (p.order k) ≡ true → x ≢ k → (cookie_number first (p.order x) == cookie_number first (p.order k)) ≡ false
other_cookie cookies first p x k f mx mk wx wk ne = go (p.order x) (p.order k) refl refl wx wk
  where
    differ : (c d : ℕ) → (x < k) ⊎ (k ≤ x) → (x < k → c < d) → (k < x → d < c) → first + c ≢ first + d
    differ c d (inl l) a b e = let z = a l in absurd (omega (arith, z, e))
    differ c d (inr l) a b e = let z = b (omega (arith, l, ne)) in absurd (omega (arith, z, e))

    go : (a b : Order) → p.order x ≡ a → p.order k ≡ b → is_wait a ≡ true → is_wait b ≡ true → (cookie_number first a == cookie_number first b) ≡ false
    go (Wait c y) (Wait d z) h i t u =
        ne_eqb (first + c) (first + d) (differ c d (cases_lt x k) (λ l. f.rise x k c d y z l mk h i) (λ l. f.rise k x d c z y l mx i h))
    go (Wait c y) (RangeOf b r) h i t u = absurd (cc (u))
    go (Wait c y) (PasidOf b) h i t u = absurd (cc (u))
    go (RangeOf b r) z h i t u = absurd (cc (t))
    go (PasidOf b) z h i t u = absurd (cc (t))

pub pass_target :
    (ms : Mappings) (g n cookies first : ℕ) (p : Endpoint) (k : ℕ) (v : Owed) → LegalLocalAct ms g p (LocalAct.Pass k) → Bounds g p → SentOnly p
    → Fronts cookies p → FitsDebt p v → FitsDebt (act_alone p n (LocalAct.Pass k)) v
    → target_wire first (act_alone p n (LocalAct.Pass k)) v ≡ settled_cookie (cookie_number first (p.order k)) (target_wire first p v)
pass_target ms g n cookies first p k v l bo sent f before after = go (answered p v) refl
  where
    made : k < p.orders
    made = grind (arith, l.1, bo.order_state k)

    by_cookie :
        (x : ℕ) (b : Bool) → (cookie_number first (p.order x) == cookie_number first (p.order k)) ≡ b
        → settled_cookie (cookie_number first (p.order k)) (Some (Cookie (cookie_number first (p.order x))))
        ≡ (if b then None else Some (Cookie (cookie_number first (p.order x))))
    by_cookie x b h = ap (λ z. if z then None else Some (Cookie (cookie_number first (p.order x)))) h

    now_done : (x : ℕ) → x ≡ k → (act_alone p n (LocalAct.Pass k)).order_state x ≡ Done
    now_done x e = ap (put p.order_state k Done) e ∙ put-same p.order_state k Done

    not_yet : (x : ℕ) → x ≢ k → p.order_state x ≢ Done → (act_alone p n (LocalAct.Pass k)).order_state x ≢ Done
    not_yet x ne nd h = nd (sym (put-other p.order_state k Done x ne) ∙ h)

    silent :
        (v : Owed) → FitsDebt p v → FitsDebt (act_alone p n (LocalAct.Pass k)) v → answered p v ≡ false
        → target_wire first (act_alone p n (LocalAct.Pass k)) v ≡ settled_cookie (cookie_number first (p.order k)) (Some (target_of first p v))
    silent Nothing d a h = absurd (cc (h))
    silent (Ranges range count resets) d a h = which (ℕ_cases (range + count) k) (ranges_open p range count resets d.1 h)
      where
        which :
            (range + count ≡ k) ⊎ (range + count ≢ k) → (resets ≡ p.resets) × (p.order_state (range + count) ≢ Done)
            → target_wire first (act_alone p n (LocalAct.Pass k)) (Ranges range count resets)
            ≡ settled_cookie (cookie_number first (p.order k)) (Some (Cookie (cookie_number first (p.order (range + count)))))
        which (inl e) z =
            ap (λ b. if b then None else Some (Cookie (cookie_number first (p.order (range + count)))))
            (or_left (all_below (suc count) (λ j. is_done ((act_alone p n (LocalAct.Pass k)).order_state (range + j)))) (nat_lt resets p.resets)
            (done_answers (act_alone p n (LocalAct.Pass k)) range count resets a.1 z.0 (now_done (range + count) e)))
            ∙ sym (by_cookie (range + count) true
            (eq-eqb (cookie_number first (p.order (range + count))) (cookie_number first (p.order k)) (ap (λ y. cookie_number first (p.order y)) e)))
        which (inr ne) z =
            ap (λ b. if b then None else Some (Cookie (cookie_number first (p.order (range + count)))))
            (ranges_wait (act_alone p n (LocalAct.Pass k)) range count resets z.0 (not_yet (range + count) ne z.1))
            ∙ sym (by_cookie (range + count) false (other_cookie cookies first p (range + count) k f d.1.made made d.1.is_a_wait l.2 ne))
    silent (Pasid j x resets true) d a h = absurd (d.2 refl (pasid_open p j x resets true d.1 h).0 l.0)
    silent (Pasid j x resets false) d a h = which (ℕ_cases x k) (pasid_open p j x resets false d.1 h)
      where
        which :
            (x ≡ k) ⊎ (x ≢ k) → (resets ≡ p.resets) × (p.order_state x ≢ Done)
            → target_wire first (act_alone p n (LocalAct.Pass k)) (Pasid j x resets false)
            ≡ settled_cookie (cookie_number first (p.order k)) (Some (Cookie (cookie_number first (p.order x))))
        which (inl e) z =
            ap (λ b. if b then None else Some (Cookie (cookie_number first (p.order x))))
            (or_left (is_done ((act_alone p n (LocalAct.Pass k)).order_state j) && is_done ((act_alone p n (LocalAct.Pass k)).order_state x))
            (nat_lt resets p.resets)
            (both_done ((act_alone p n (LocalAct.Pass k)).order_state j) ((act_alone p n (LocalAct.Pass k)).order_state x)
            (a.1.done z.0 (now_done x e) j (omega arith) a.1.low) (now_done x e)))
            ∙ sym (by_cookie x true
            (eq-eqb (cookie_number first (p.order x)) (cookie_number first (p.order k)) (ap (λ y. cookie_number first (p.order y)) e)))
        which (inr ne) z =
            ap (λ b. if b then None else Some (Cookie (cookie_number first (p.order x))))
            (pasid_waits (act_alone p n (LocalAct.Pass k)) j x resets false z.0 (not_yet x ne z.1))
            ∙ sym (by_cookie x false (other_cookie cookies first p x k f d.1.made made d.1.is_a_wait l.2 ne))
    silent (NextReset resets) d a h = ap (λ b. if b then None else Some ResetEnd) h

    go :
        (b : Bool) → answered p v ≡ b
        → target_wire first (act_alone p n (LocalAct.Pass k)) v
        ≡ settled_cookie (cookie_number first (p.order k)) (if b then None else Some (target_of first p v))
    go true h = ap (λ b. if b then None else Some (target_of first (act_alone p n (LocalAct.Pass k)) v)) (answered_own ms g n p (LocalAct.Pass k) l sent bo v h)
    go false h = silent v before after h

pub places_passed :
    (w : World) (e k : ℕ) → Legal w (AtEndpoint e (LocalAct.Pass k)) → Invariant w → AllFronts w → AllDebts w → w.config.endpoints ≤ 8
    → places_wire (act w (AtEndpoint e (LocalAct.Pass k))) ≡ settled e (settled_cookie (cookie_number w.config.first ((w.part e).order k))) (places_wire w)
places_passed w e k l i fronts debts low =
    settled_places w e (LocalAct.Pass k) (settled_cookie (cookie_number w.config.first ((w.part e).order k))) refl l.0 low
    (λ m owed gone.
    pass_target w.mappings w.bindings w.messages w.cookies w.config.first (w.part e) k (owed e) l.1.0 (i.parts e).bounds (i.parts e).labels.sent
    (fronts e) (debts m e owed gone)
    (subst (λ p. FitsDebt p (owed e)) (put-same w.part e (act_alone (w.part e) w.messages (LocalAct.Pass k)))
    (act_debts w (AtEndpoint e (LocalAct.Pass k)) l i fronts debts m e owed gone)))

-- A reset-done.

later : (a b : ℕ) → a ≤ b → nat_lt a (suc b) ≡ true
later a b l = grind (arith, nat_tests)

reopen_answers : (n : ℕ) (p : Endpoint) (c : ℕ) (v : Owed) → FitsDebt p v → answered (act_alone p n (LocalAct.Reopen c)) v ≡ true
reopen_answers n p c Nothing d = refl
reopen_answers n p c (Ranges range count resets) d =
    or_right (all_below (suc count) (λ j. is_done ((act_alone p n (LocalAct.Reopen c)).order_state (range + j)))) (nat_lt resets (suc p.resets))
    (later resets p.resets d.1.counted)
reopen_answers n p c (Pasid k x resets in_reset) d =
    or_right (is_done ((act_alone p n (LocalAct.Reopen c)).order_state k) && is_done ((act_alone p n (LocalAct.Reopen c)).order_state x))
    (nat_lt resets (suc p.resets))
    (later resets p.resets d.1.counted)
reopen_answers n p c (NextReset resets) d = later resets p.resets d.0

pub places_reopened :
    (w : World) (e c : ℕ) → Legal w (AtEndpoint e (LocalAct.Reopen c)) → Invariant w → AllDebts w → w.config.endpoints ≤ 8
    → places_wire (act w (AtEndpoint e (LocalAct.Reopen c))) ≡ settled e (λ target. None) (places_wire w)
places_reopened w e c l i debts low =
    settled_places w e (LocalAct.Reopen c) (λ target. None) refl l.0 low
    (λ m owed gone. ap (λ b. if b then None else Some (target_of w.config.first (act_alone (w.part e) w.messages (LocalAct.Reopen c)) (owed e)))
    (reopen_answers w.messages (w.part e) c (owed e) (debts m e owed gone)))
