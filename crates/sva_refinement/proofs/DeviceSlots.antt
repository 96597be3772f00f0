-- The use slots of a device: what each act that touches one leaves of them.
use Rattle.std.proofs.Common.{◌≡◌, ◌≢◌, refl, ap, sym, ◌∙◌, ℕ, ◌<◌, true, arith}
use Rattle.std.specs.Prelude.{Option, Some, None, option_map, if◌then◌else◌, List, map, slice_set}
use Rattle.sva_model.specs.Words.{put, tabulate}
use Rattle.sva_model.specs.State.{Mappings, UseState, Endpoint}
use Rattle.sva_model.specs.State.UseState.{Running, Dead, Ended}
use Rattle.sva_model.specs.States.{is_unreleased, is_running}
use Rattle.sva_model.specs.StateChanges
use Rattle.sva_model.specs.Acts.{act_alone, LocalAct}
use Rattle.sva_model.specs.Wire.{UseWire, TranslationWire, use_wire, translation_wire}
use Rattle.sva_model.specs.Wire.UseWire.{RunningWire, DeadWire}
use Rattle.sva_labels.proofs.Words.{put-same, put-other}
use Rattle.sva_laws.proofs.Legal.{LegalLocalAct}
use Rattle.sva_laws.proofs.Bounds.{Bounds}
use Rattle.sva_laws.proofs.Labels.{Labels, has_slot}
use Rattle.sva_laws.proofs.Orders.{is_active, active_unreleased}
use Rattle.sva_laws.proofs.Owners.{Owners}
use Rattle.sva_labels.specs.Moves.{killed}
use Rattle.sva_refinement.proofs.DeviceRows.{row_same, row_set, row_map}

abbrev pub slots_wire : Mappings → Endpoint → List (Option UseWire)
slots_wire ms p = tabulate 16 (λ t. option_map (use_wire ms p) (p.at_slot t))

-- a use in its state
abbrev pub seen_use : UseState → TranslationWire → UseWire
seen_use s x = if is_running s then RunningWire x else DeadWire

-- a use that has a slot was begun
pub slot_made : (p : Endpoint) (g u : ℕ) → Bounds g p → has_slot (p.use_state u) ≡ true → u < p.uses
slot_made p g u bo h = grind (arith, bo.use_state u)

-- a running use is of a binding that isn't released
pub running_unreleased : (ms : Mappings) (p : Endpoint) (u : ℕ) → Owners ms p → p.use_state u ≡ Running → is_unreleased (p.stage (p.use_binding u)) ≡ true
running_unreleased ms p u ow h = active_unreleased (p.stage (p.use_binding u)) (ow.running u h)

-- a new binding isn't that of a running use
pub slots_bound :
    (ms : Mappings) (g n : ℕ) (p : Endpoint) (b s t : ℕ) → LegalLocalAct ms g p (LocalAct.Bind b s t) → Owners ms p
    → slots_wire ms (act_alone p n (LocalAct.Bind b s t)) ≡ slots_wire ms p
slots_bound ms g n p b s t l ow =
    row_same 16 p.at_slot (use_wire ms p) (use_wire ms (act_alone p n (LocalAct.Bind b s t)))
    (λ x u h. by_state u (p.use_state u) (λ e. other u (ow.running u e)))
  where
    other : (u : ℕ) → is_active (p.stage (p.use_binding u)) ≡ true → p.use_binding u ≢ b
    other u a e = absurd (cc (sym a ∙ ap (λ c. is_active (p.stage c)) e ∙ ap is_active l.2))

    by_state :
        (u : ℕ) (state : UseState) → (state ≡ Running → p.use_binding u ≢ b)
        → seen_use state (translation_wire ms (act_alone p n (LocalAct.Bind b s t)) (p.use_binding u) (ms.page (p.use_mapping u)) (p.use_mapping u))
        ≡ seen_use state (translation_wire ms p (p.use_binding u) (ms.page (p.use_mapping u)) (p.use_mapping u))
    by_state u Running h =
        ap (λ x. RunningWire
        (record { pasid = x; page = ms.page (p.use_mapping u); frame = ms.frame (p.use_mapping u); write = ms.write (p.use_mapping u) }))
        (put-other p.pasid b t (p.use_binding u) (h refl))
    by_state u Dead h = refl
    by_state u Ended h = refl

-- a use begins with the translation that the answer to a request left in the cache
pub slots_begun :
    (ms : Mappings) (g n : ℕ) (p : Endpoint) (r m t : ℕ) → LegalLocalAct ms g p (LocalAct.Begin r m t) → Bounds g p → Labels p → Owners ms p
    → slots_wire ms (act_alone p n (LocalAct.Begin r m t))
    ≡ slice_set (slots_wire ms p) t (Some (RunningWire (translation_wire ms p (p.request_binding r) (p.request_page r) m)))
slots_begun ms g n p r m t l bo la ow =
    row_set 16 t p.at_slot (put p.at_slot t (Some p.uses)) (use_wire ms p) (use_wire ms (act_alone p n (LocalAct.Begin r m t)))
    (Some (RunningWire (translation_wire ms p (p.request_binding r) (p.request_page r) m)))
    (ap (option_map (use_wire ms (act_alone p n (LocalAct.Begin r m t)))) (put-same p.at_slot t (Some p.uses)) ∙ ap (λ x. Some x) fresh)
    (λ x ne. put-other p.at_slot t (Some p.uses) x ne)
    (λ x u ne h. old u (slot_made p g u bo (la.slot_bears x u h).1))
  where
    fresh : use_wire ms (act_alone p n (LocalAct.Begin r m t)) p.uses ≡ RunningWire (translation_wire ms p (p.request_binding r) (p.request_page r) m)
    fresh =
        let binding = put-same p.use_binding p.uses (p.request_binding r) in
        let mapping = put-same p.use_mapping p.uses m in
        let state = put-same p.use_state p.uses Running in
        (λ i. seen_use (state i) (translation_wire ms p (binding i) (ms.page (mapping i)) (mapping i)))
        ∙ ap (λ q. RunningWire (translation_wire ms p (p.request_binding r) q m)) (ow.held_page r m l.1)

    old : (u : ℕ) → u < p.uses → use_wire ms (act_alone p n (LocalAct.Begin r m t)) u ≡ use_wire ms p u
    old u lt =
        let binding = put-other p.use_binding p.uses (p.request_binding r) u (omega arith) in
        let mapping = put-other p.use_mapping p.uses m u (omega arith) in
        let state = put-other p.use_state p.uses Running u (omega arith) in
        λ i. seen_use (state i) (translation_wire ms p (binding i) (ms.page (mapping i)) (mapping i))

-- a use of another slot is another use
pub other_use : (p : Endpoint) (u x y : ℕ) → x ≢ p.use_slot u → p.use_slot y ≡ x → y ≢ u
other_use p u x y ne e k = ne (sym e ∙ ap p.use_slot k)

pub slots_ended : (ms : Mappings) (n : ℕ) (p : Endpoint) (u : ℕ) → Labels p → slots_wire ms (act_alone p n (LocalAct.End u))
    ≡ slice_set (slots_wire ms p) (p.use_slot u) None
slots_ended ms n p u la =
    row_set 16 (p.use_slot u) p.at_slot (put p.at_slot (p.use_slot u) None) (use_wire ms p) (use_wire ms (act_alone p n (LocalAct.End u))) None
    (ap (option_map (use_wire ms (act_alone p n (LocalAct.End u)))) (put-same p.at_slot (p.use_slot u) None))
    (λ x ne. put-other p.at_slot (p.use_slot u) None x ne)
    (λ x y ne h.
    ap (λ s. seen_use s (translation_wire ms p (p.use_binding y) (ms.page (p.use_mapping y)) (p.use_mapping y)))
    (put-other p.use_state u Ended y (other_use p u x y ne (la.slot_bears x y h).0)))

-- a reset ends the uses that run, and their slots are taken yet
pub slots_cleared : (ms : Mappings) (n : ℕ) (p : Endpoint) (c : ℕ) → slots_wire ms (act_alone p n (LocalAct.Reset_arrives c)) ≡ map killed (slots_wire ms p)
slots_cleared ms n p c =
    row_map 16 p.at_slot (use_wire ms p) (use_wire ms (act_alone p n (LocalAct.Reset_arrives c))) killed refl
    (λ t u h. by_state (p.use_state u) (translation_wire ms p (p.use_binding u) (ms.page (p.use_mapping u)) (p.use_mapping u)))
  where
    by_state : (s : UseState) (x : TranslationWire) → Some (seen_use (StateChanges.killed s) x) ≡ Some DeadWire
    by_state Running x = refl
    by_state Dead x = refl
    by_state Ended x = refl
