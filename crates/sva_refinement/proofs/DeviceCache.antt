-- The translations that a device caches, in rising order of PASID and page: what each act that touches them leaves.
use Rattle.std.proofs.Common.{◌≡◌, ◌≢◌, ◌⊎◌, inl, inr, refl, ap, ap₂, sym, ◌∙◌, ℕ, ◌<◌, Bool, true, false, arith, append-nil}
use Rattle.std.specs.Prelude.{Option, Some, None, ◌&&◌, ◌||◌, not, ◌==◌, nat_lt, if◌then◌else◌, [], ◌∷◌, ◌++◌, map, filter}
use Rattle.std.proofs.lemmas.Bool.Decides.{nat_tests}
use Rattle.sva_model.specs.Words.{put, select, is_some, the}
use Rattle.sva_model.specs.State.{Mappings, Endpoint}
use Rattle.sva_model.specs.States.{is_unreleased, is_out, is_busy, covers}
use Rattle.sva_model.specs.StateChanges.{none_if, is_replaced, binding_of, extent_of}
use Rattle.sva_model.specs.Acts.{act_alone, LocalAct}
use Rattle.sva_model.specs.Wire.{TranslationWire, sorted_by, insert_by, is_before, cached_wire, cache_wire, translation_wire}
use Rattle.sva_labels.proofs.Words.{put-same, put-other, ℕ_cases}
use Rattle.sva_laws.proofs.Legal.{LegalLocalAct}
use Rattle.sva_laws.proofs.Bounds.{Bounds}
use Rattle.sva_laws.proofs.Bindings.{Bindings}
use Rattle.sva_laws.proofs.Labels.{Labels}
use Rattle.sva_laws.proofs.Requests.{Requests}
use Rattle.sva_laws.proofs.Orders.{Orders, active_unreleased}
use Rattle.sva_laws.proofs.Owners.{Owners}
use Rattle.sva_labels.specs.Finding
use Rattle.sva_labels.specs.Finding.{is_at_page}
use Rattle.sva_labels.specs.Moves.{kept}
use Rattle.sva_refinement.proofs.DeviceRows.{select_seen}
use Rattle.sva_refinement.proofs.DeviceSorted.{IsOrder, AreApart, sorted_with, filter_sorted, filter_select, none_selected}
use Rattle.sva_refinement.proofs.DeviceTags.{out_unreleased, pasids_differ, covers_same}

-- The order by PASID and page.

abbrev comes : (t q u r : ℕ) → Bool
comes t q u r = nat_lt t u || (t == u && nat_lt q r)

comes_one_way : (t q u r : ℕ) → comes t q u r ≡ true → comes u r t q ≡ false
comes_one_way t q u r h = grind (arith, nat_tests)

comes_between : (t q u r v s : ℕ) → comes t q u r ≡ false → comes u r v s ≡ false → comes t q v s ≡ false
comes_between t q u r v s h i = grind (arith, nat_tests)

comes_apart : (t q u r : ℕ) → (u == t && r == q) ≡ false → comes t q u r ≡ not (comes u r t q)
comes_apart t q u r h = grind (arith, nat_tests)

pub is_order : IsOrder is_before
is_order =
    record {
      one_way = λ a b h. comes_one_way a.pasid a.page b.pasid b.page h;
      between = λ a b c h i. comes_between a.pasid a.page b.pasid b.page c.pasid c.page h i;
    }

-- What is cached.

held_unreleased : (ms : Mappings) (p : Endpoint) (r m : ℕ) → Owners ms p → p.held r ≡ Some m → is_unreleased (p.stage (p.request_binding r)) ≡ true
held_unreleased ms p r m ow h = active_unreleased (p.stage (p.request_binding r)) (ow.held r m h)

held_made : (p : Endpoint) (g r m : ℕ) → Bounds g p → p.held r ≡ Some m → r < p.requests
held_made p g r m bo h = grind (arith, bo.held r)

-- a new binding isn't that of a request
pub cache_bound :
    (ms : Mappings) (g n : ℕ) (p : Endpoint) (b s t : ℕ) → LegalLocalAct ms g p (LocalAct.Bind b s t) → Requests p
    → cache_wire ms (act_alone p n (LocalAct.Bind b s t)) ≡ cache_wire ms p
cache_bound ms g n p b s t l ra =
    ap (sorted_by is_before)
    (select_seen p.requests (λ r. is_some (p.held r)) (λ r. is_some (p.held r)) (cached_wire ms p) (cached_wire ms (act_alone p n (LocalAct.Bind b s t)))
    (λ r m. refl)
    (λ r m h. ap (λ x. record { pasid = x; page = p.request_page r; frame = ms.frame (the (p.held r)); write = ms.write (the (p.held r)) })
    (put-other p.pasid b t (p.request_binding r) (other r m))))
  where
    other : (r : ℕ) → r < p.requests → p.request_binding r ≢ b
    other r m e = ra.bound r m (ap p.stage e ∙ l.2)

-- a request more has no answer yet
pub cache_asked : (ms : Mappings) (g n : ℕ) (p : Endpoint) (b q t : ℕ) → Bounds g p → cache_wire ms (act_alone p n (LocalAct.Ask b q t)) ≡ cache_wire ms p
unfolding select
cache_asked ms g n p b q t bo =
    ap (λ o. sorted_by is_before
    (map (cached_wire ms (act_alone p n (LocalAct.Ask b q t))) (select p.requests (λ r. is_some (p.held r)) ++ (if is_some o then p.requests ∷ [] else []))))
    (bo.held p.requests (omega arith))
    ∙ ap (λ xs. sorted_by is_before (map (cached_wire ms (act_alone p n (LocalAct.Ask b q t))) xs)) (append-nil (select p.requests (λ r. is_some (p.held r))))
    ∙ ap (sorted_by is_before)
    (select_seen p.requests (λ r. is_some (p.held r)) (λ r. is_some (p.held r)) (cached_wire ms p) (cached_wire ms (act_alone p n (LocalAct.Ask b q t)))
    (λ r l. refl)
    (λ r l h. ap₂ (λ x y. translation_wire ms p x y (the (p.held r))) (put-other p.request_binding p.requests b r (omega arith))
    (put-other p.request_page p.requests q r (omega arith))))

-- Translations that go.

-- the answers that are kept where those go that don't pass
pub cache_filtered :
    (ms : Mappings) (p : Endpoint) (held : ℕ → Option ℕ) (keeps : TranslationWire → Bool)
    → ((r : ℕ) → r < p.requests → p.held r ≡ None → held r ≡ None)
    → ((r m : ℕ) → r < p.requests → p.held r ≡ Some m → held r ≡ (if keeps (cached_wire ms p r) then Some m else None))
    → cache_wire ms (record p { held = held }) ≡ filter keeps (cache_wire ms p)
cache_filtered ms p held keeps none some =
    ap (sorted_by is_before)
    (select_seen p.requests (λ r. is_some (p.held r) && keeps (cached_wire ms p r)) (λ r. is_some (held r)) (cached_wire ms p)
    (cached_wire ms (record p { held = held }))
    (λ r l. passes r (p.held r) (held r) (keeps (cached_wire ms p r)) (none r l) (λ m. some r m l))
    (λ r l h. ap (λ m. translation_wire ms p (p.request_binding r) (p.request_page r) m)
    (same r (p.held r) (held r) (keeps (cached_wire ms p r)) (λ m. some r m l) h)))
    ∙ sym (ap (sorted_by is_before) (filter_select keeps (cached_wire ms p) p.requests (λ r. is_some (p.held r))))
    ∙ sym (filter_sorted is_before is_order keeps (map (cached_wire ms p) (select p.requests (λ r. is_some (p.held r)))))
  where
    passes :
        (r : ℕ) (o new : Option ℕ) (b : Bool) → (o ≡ None → new ≡ None) → ((m : ℕ) → o ≡ Some m → new ≡ (if b then Some m else None))
        → is_some new ≡ (is_some o && b)
    passes r None new b h i = ap (λ x. is_some x) (h refl)
    passes r (Some m) new true h i = ap (λ x. is_some x) (i m refl)
    passes r (Some m) new false h i = ap (λ x. is_some x) (i m refl)

    same : (r : ℕ) (o new : Option ℕ) (b : Bool) → ((m : ℕ) → o ≡ Some m → new ≡ (if b then Some m else None)) → (is_some o && b) ≡ true → the new ≡ the o
    same r None new b i h = absurd (cc)
    same r (Some m) new true i h = ap the (i m refl)
    same r (Some m) new false i h = absurd (cc)

-- a translation is of the PASID and page of another where it is of that binding and page
at_page_same :
    (ms : Mappings) (p : Endpoint) (b q r m : ℕ) → Labels p → Owners ms p → is_unreleased (p.stage b) ≡ true → p.held r ≡ Some m
    → is_at_page (p.pasid b) q (cached_wire ms p r) ≡ (p.request_binding r == b && p.request_page r == q)
at_page_same ms p b q r m la ow un h = ap (λ x. x && p.request_page r == q) (pasids_differ p b (p.request_binding r) la un (held_unreleased ms p r m ow h))

pub cache_evicted :
    (ms : Mappings) (g n : ℕ) (p : Endpoint) (r : ℕ) → LegalLocalAct ms g p (LocalAct.Evict r) → Labels p → Requests p → Owners ms p
    → cache_wire ms (act_alone p n (LocalAct.Evict r)) ≡ filter (λ x. not (is_at_page (p.pasid (p.request_binding r)) (p.request_page r) x)) (cache_wire ms p)
cache_evicted ms g n p r l la ra ow =
    cache_filtered ms p (put p.held r None) (λ x. not (is_at_page (p.pasid (p.request_binding r)) (p.request_page r) x))
    (λ k lt h. none k h (ℕ_cases k r)) (λ k m lt h. some k m h (ℕ_cases k r))
  where
    none : (k : ℕ) → p.held k ≡ None → (k ≡ r) ⊎ (k ≢ r) → put p.held r None k ≡ None
    none k h (inl e) = ap (put p.held r None) e ∙ put-same p.held r None
    none k h (inr ne) = put-other p.held r None k ne ∙ h

    self : (b q : ℕ) → (b == b && q == q) ≡ true
    self b q = grind (arith, nat_tests)

    apart : (k m : ℕ) → p.held k ≡ Some m → k ≢ r → (p.request_binding k == p.request_binding r && p.request_page k == p.request_page r) ≡ false
    apart k m h ne = differ (p.request_binding k) (p.request_binding r) (p.request_page k) (p.request_page r) (λ e f. ne (ra.one_held k r m l.0 h l.1 e f))
      where
        differ : (b c q s : ℕ) → (b ≡ c → q ≡ s → ⊥) → (b == c && q == s) ≡ false
        differ b c q s h = grind (arith, nat_tests)

    at_page :
        (k m : ℕ) → p.held k ≡ Some m
        → is_at_page (p.pasid (p.request_binding r)) (p.request_page r) (cached_wire ms p k)
        ≡ (p.request_binding k == p.request_binding r && p.request_page k == p.request_page r)
    at_page k m h = at_page_same ms p (p.request_binding r) (p.request_page r) k m la ow (held_unreleased ms p r l.0 ow l.1) h

    some :
        (k m : ℕ) → p.held k ≡ Some m → (k ≡ r) ⊎ (k ≢ r)
        → put p.held r None k ≡ (if not (is_at_page (p.pasid (p.request_binding r)) (p.request_page r) (cached_wire ms p k)) then Some m else None)
    some k m h (inl e) =
        ap (put p.held r None) e ∙ put-same p.held r None
        ∙ sym (ap (λ b. if not b then Some m else None)
        (at_page k m h ∙ ap (λ z. p.request_binding z == p.request_binding r && p.request_page z == p.request_page r) e
        ∙ self (p.request_binding r) (p.request_page r)))
    some k m h (inr ne) =
        put-other p.held r None k ne ∙ h ∙ sym (ap (λ b. if not b then Some m else None) (at_page k m h ∙ apart k m h ne))

-- what an invalidation covers goes as it is taken
pub cache_taken :
    (ms : Mappings) (g n : ℕ) (p : Endpoint) (c k : ℕ) → LegalLocalAct ms g p (LocalAct.Take c k) → Labels p → Orders p → Owners ms p
    → cache_wire ms (act_alone p n (LocalAct.Take c k))
    ≡ filter (λ x. not (Finding.covers (p.pasid (binding_of (p.order k))) (extent_of (p.order k)) x.pasid x.page)) (cache_wire ms p)
cache_taken ms g n p c k l la or ow =
    cache_filtered ms p (λ r. none_if (covers (p.order k) (p.request_binding r) (p.request_page r)) (p.held r))
    (λ x. not (Finding.covers (p.pasid (binding_of (p.order k))) (extent_of (p.order k)) x.pasid x.page))
    (λ r lt h. ap (none_if (covers (p.order k) (p.request_binding r) (p.request_page r))) h
    ∙ nothing (covers (p.order k) (p.request_binding r) (p.request_page r)))
    (λ r m lt h.
    ap (none_if (covers (p.order k) (p.request_binding r) (p.request_page r))) h ∙ either m (covers (p.order k) (p.request_binding r) (p.request_page r))
    ∙ sym (ap (λ b. if not b then Some m else None)
    (covers_same p k (p.request_binding r) (p.request_page r) la or (ap is_busy (la.sent c k l)) (held_unreleased ms p r m ow h))))
  where
    nothing : (b : Bool) → none_if b None ≡ None
    nothing true = refl
    nothing false = refl

    either : (m : ℕ) (b : Bool) → none_if b (Some m) ≡ (if not b then Some m else None)
    either m true = refl
    either m false = refl

pub cache_cleared : (ms : Mappings) (n : ℕ) (p : Endpoint) (c : ℕ) → cache_wire ms (act_alone p n (LocalAct.Reset_arrives c)) ≡ []
cache_cleared ms n p c = ap (λ xs. sorted_by is_before (map (cached_wire ms (act_alone p n (LocalAct.Reset_arrives c))) xs)) (nothing p.requests)
  where
    nothing : (k : ℕ) → select k (λ r. false) ≡ []
    nothing k = none_selected k (λ r. false) (λ r l. refl)

-- A translation in place of an older one.
pub cache_kept :
    (ms : Mappings) (g n : ℕ) (p : Endpoint) (c r m : ℕ) → LegalLocalAct ms g p (LocalAct.Keep c r m) → Bounds g p → Bindings p → Labels p → Requests p
    → Owners ms p
    → cache_wire ms (act_alone p n (LocalAct.Keep c r m)) ≡ kept (translation_wire ms p (p.request_binding r) (p.request_page r) m) (cache_wire ms p)
cache_kept ms g n p c r m l bo bi la ra ow =
    sorted_with is_before is_order (cached_wire ms (act_alone p n (LocalAct.Keep c r m))) p.requests r (λ k. is_some (rest k))
    (λ k. is_some (put rest r (Some m) k)) made
    (ap (λ b. is_some (none_if b (p.held r))) self ∙ gone (p.held r))
    (ap (λ o. is_some o) (put-same rest r (Some m)))
    (λ k lt ne. ap (λ o. is_some o) (put-other rest r (Some m) k ne))
    (λ k lt h. apart k h)
    ∙ ap₂ (λ x xs. insert_by is_before x xs) new
    (ap (sorted_by is_before) others ∙ cache_filtered ms p rest (λ x. not (is_at_page (p.pasid (p.request_binding r)) (p.request_page r) x)) none some)
  where
    rest : ℕ → Option ℕ
    rest k = none_if (is_replaced p r k) (p.held k)

    out : is_out (p.request r) ≡ true
    out = ap is_out l.1

    made : r < p.requests
    made = grind (arith, bo.request r, l.1)

    self : is_replaced p r r ≡ true
    self = grind (arith, nat_tests)

    gone : (o : Option ℕ) → is_some (none_if true o) ≡ false
    gone o = refl

    new : cached_wire ms (act_alone p n (LocalAct.Keep c r m)) r ≡ translation_wire ms p (p.request_binding r) (p.request_page r) m
    new = ap (λ o. translation_wire ms p (p.request_binding r) (p.request_page r) (the o)) (put-same rest r (Some m))

    others :
        map (cached_wire ms (act_alone p n (LocalAct.Keep c r m))) (select p.requests (λ k. is_some (rest k)))
        ≡ map (cached_wire ms (record p { held = rest })) (select p.requests (λ k. is_some (rest k)))
    others =
        select_seen p.requests (λ k. is_some (rest k)) (λ k. is_some (rest k)) (cached_wire ms (record p { held = rest }))
        (cached_wire ms (act_alone p n (LocalAct.Keep c r m))) (λ k lt. refl)
        (λ k lt h. ap (λ o. translation_wire ms p (p.request_binding k) (p.request_page k) (the o)) (put-other rest r (Some m) k (differ k h)))
      where
        differ : (k : ℕ) → is_some (rest k) ≡ true → k ≢ r
        differ k h e = absurd (cc (sym h ∙ ap (λ z. is_some (rest z)) e ∙ ap (λ b. is_some (none_if b (p.held r))) self))

    at_page : (k j : ℕ) → p.held k ≡ Some j → is_at_page (p.pasid (p.request_binding r)) (p.request_page r) (cached_wire ms p k) ≡ is_replaced p r k
    at_page k j h = at_page_same ms p (p.request_binding r) (p.request_page r) k j la ow (out_unreleased p r bi ra out) h

    none : (k : ℕ) → k < p.requests → p.held k ≡ None → rest k ≡ None
    none k lt h = ap (none_if (is_replaced p r k)) h ∙ either (is_replaced p r k)
      where
        either : (b : Bool) → none_if b None ≡ None
        either true = refl
        either false = refl

    some :
        (k j : ℕ) → k < p.requests → p.held k ≡ Some j
        → rest k ≡ (if not (is_at_page (p.pasid (p.request_binding r)) (p.request_page r) (cached_wire ms p k)) then Some j else None)
    some k j lt h = ap (none_if (is_replaced p r k)) h ∙ either (is_replaced p r k) ∙ sym (ap (λ b. if not b then Some j else None) (at_page k j h))
      where
        either : (b : Bool) → none_if b (Some j) ≡ (if not b then Some j else None)
        either true = refl
        either false = refl

    apart : (k : ℕ) → is_some (rest k) ≡ true
        → AreApart is_before (cached_wire ms (act_alone p n (LocalAct.Keep c r m)) r) (cached_wire ms (act_alone p n (LocalAct.Keep c r m)) k)
    apart k h =
        comes_apart (p.pasid (p.request_binding r)) (p.request_page r) (p.pasid (p.request_binding k)) (p.request_page k)
        (by_held (p.held k) refl (is_replaced p r k) refl h)
      where
        by_held :
            (o : Option ℕ) → p.held k ≡ o → (b : Bool) → is_replaced p r k ≡ b → is_some (none_if b o) ≡ true
            → is_at_page (p.pasid (p.request_binding r)) (p.request_page r) (cached_wire ms p k) ≡ false
        by_held None e true f i = absurd (cc)
        by_held None e false f i = absurd (cc)
        by_held (Some j) e true f i = absurd (cc)
        by_held (Some j) e false f i = at_page k j e ∙ f
