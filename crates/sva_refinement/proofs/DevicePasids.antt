-- The PASIDs of a device: what each act that touches one leaves of their states.
use Rattle.std.proofs.Common.{◌≡◌, ◌≢◌, ◌⊎◌, inl, inr, refl, ap, sym, ◌∙◌, ℕ, zero, suc, ◌<◌, true, false, arith}
use Rattle.std.specs.Prelude.{Option, Some, None, List, map, slice_set}
use Rattle.sva_model.specs.Words.{put, tabulate}
use Rattle.sva_model.specs.State.{Mappings, PasidState, Endpoint}
use Rattle.sva_model.specs.State.PasidState.{Off}
use Rattle.sva_model.specs.States.{is_unreleased, is_off}
use Rattle.sva_model.specs.Acts.{act_alone, LocalAct}
use Rattle.sva_model.specs.Wire.{DeviceWire, state_of_pasid}
use Rattle.sva_labels.proofs.Words.{put-same, put-other, ℕ_cases}
use Rattle.sva_laws.proofs.Legal.{LegalLocalAct}
use Rattle.sva_laws.proofs.Bindings.{Bindings, is_unmarked}
use Rattle.sva_laws.proofs.Labels.{Labels}
use Rattle.sva_labels.specs.Moves.{with_pasid}
use Rattle.sva_refinement.proofs.DeviceRows.{tabulate_map}
use Rattle.sva_labels.proofs.Lists.{tabulate_same, tabulate_set}

abbrev pub pasids_wire : Endpoint → List PasidState
pasids_wire p = tabulate 32 (λ t. state_of_pasid p (p.at_pasid (suc t)))

-- a binding that isn't Live or Stopping is off at its endpoint
pub off_unless : (p : Endpoint) (b : ℕ) → Bindings p → is_unmarked (p.stage b) ≡ false → p.pasid_state b ≡ Off
off_unless p b bi h = grind (arith, bi.on_stage b, bi.ending_stage b)

-- one that isn't off there isn't released
pub unreleased_unless : (p : Endpoint) (b : ℕ) → Bindings p → is_off (p.pasid_state b) ≡ false → is_unreleased (p.stage b) ≡ true
unreleased_unless p b bi h = grind (arith, bi.on_stage b, bi.ending_stage b)

-- a PASID that nobody bore and one that is off read alike
pub pasids_bound :
    (ms : Mappings) (g n : ℕ) (p : Endpoint) (b s t : ℕ) → LegalLocalAct ms g p (LocalAct.Bind b s t) → Bindings p
    → pasids_wire (act_alone p n (LocalAct.Bind b s t)) ≡ pasids_wire p
pasids_bound ms g n p b s t l bi =
    tabulate_same 32 (λ x. state_of_pasid (act_alone p n (LocalAct.Bind b s t)) (put p.at_pasid t (Some b) (suc x)))
    (λ x. state_of_pasid p (p.at_pasid (suc x)))
    (λ x m. go (suc x) (ℕ_cases (suc x) t))
  where
    go : (x : ℕ) → (x ≡ t) ⊎ (x ≢ t) → state_of_pasid p (put p.at_pasid t (Some b) x) ≡ state_of_pasid p (p.at_pasid x)
    go x (inl e) =
        ap (λ y. state_of_pasid p (put p.at_pasid t (Some b) y)) e
        ∙ ap (state_of_pasid p) (put-same p.at_pasid t (Some b))
        ∙ off_unless p b bi (ap is_unmarked l.2)
        ∙ sym (ap (state_of_pasid p) l.3) ∙ sym (ap (λ y. state_of_pasid p (p.at_pasid y)) e)
    go x (inr ne) = ap (state_of_pasid p) (put-other p.at_pasid t (Some b) x ne)

pub pasids_released :
    (ms : Mappings) (g n : ℕ) (p : Endpoint) (b : ℕ) → LegalLocalAct ms g p (LocalAct.Release b) → Bindings p → Labels p
    → pasids_wire (act_alone p n (LocalAct.Release b)) ≡ pasids_wire p
pasids_released ms g n p b l bi la =
    tabulate_same 32 (λ x. state_of_pasid (act_alone p n (LocalAct.Release b)) (put p.at_pasid (p.pasid b) None (suc x)))
    (λ x. state_of_pasid p (p.at_pasid (suc x))) (λ x m. go (suc x) (ℕ_cases (suc x) (p.pasid b)))
  where
    go : (x : ℕ) → (x ≡ p.pasid b) ⊎ (x ≢ p.pasid b) → state_of_pasid p (put p.at_pasid (p.pasid b) None x) ≡ state_of_pasid p (p.at_pasid x)
    go x (inl e) =
        ap (λ y. state_of_pasid p (put p.at_pasid (p.pasid b) None y)) e
        ∙ ap (state_of_pasid p) (put-same p.at_pasid (p.pasid b) None)
        ∙ sym (off_unless p b bi (ap is_unmarked l))
        ∙ sym (ap (state_of_pasid p) (la.bears_pasid b (ap is_unreleased l))) ∙ sym (ap (λ y. state_of_pasid p (p.at_pasid y)) e)
    go x (inr ne) = ap (state_of_pasid p) (put-other p.at_pasid (p.pasid b) None x ne)

-- the bearer of a PASID gets another state
pub pasids_put :
    (p : Endpoint) (b : ℕ) (state : PasidState) (d : DeviceWire) → Labels p → is_unreleased (p.stage b) ≡ true → d.pasids ≡ pasids_wire p
    → with_pasid (p.pasid b) state d ≡ record d { pasids = pasids_wire (record p { pasid_state = put p.pasid_state b state }) }
pasids_put p b state d la un same = go (p.pasid b) (la.bears_pasid b un) (la.pasid_low (p.pasid b) b (la.bears_pasid b un)).0
  where
    other :
        (t x : ℕ) (o : Option ℕ) → x ≢ t → p.at_pasid (suc t) ≡ Some b → p.at_pasid (suc x) ≡ o
        → state_of_pasid (record p { pasid_state = put p.pasid_state b state }) o ≡ state_of_pasid p o
    other t x None ne h k = refl
    other t x (Some c) ne h k = put-other p.pasid_state b state c (λ e. ne (differ t x c e h k))
      where
        differ : (t x c : ℕ) → c ≡ b → p.at_pasid (suc t) ≡ Some b → p.at_pasid (suc x) ≡ Some c → x ≡ t
        differ t x c e h k = grind (arith, la.pasid_bears (suc t) b, la.pasid_bears (suc x) c)

    go :
        (t : ℕ) → p.at_pasid t ≡ Some b → 0 < t
        → with_pasid t state d ≡ record d { pasids = pasids_wire (record p { pasid_state = put p.pasid_state b state }) }
    go zero h l = absurd (omega arith)
    go (suc t) h l =
        ap (λ xs. record d { pasids = slice_set xs t state }) same
        ∙ sym (ap (λ xs. record d { pasids = xs })
        (tabulate_set 32 (λ x. state_of_pasid p (p.at_pasid (suc x)))
        (λ x. state_of_pasid (record p { pasid_state = put p.pasid_state b state }) (p.at_pasid (suc x))) t state
        (ap (state_of_pasid (record p { pasid_state = put p.pasid_state b state })) h ∙ put-same p.pasid_state b state)
        (λ x ne. other t x (p.at_pasid (suc x)) ne h refl)))

-- after its own reset each is off
pub pasids_cleared : (n : ℕ) (p : Endpoint) (c : ℕ) → pasids_wire (act_alone p n (LocalAct.Reset_arrives c)) ≡ map (λ state. Off) (pasids_wire p)
pasids_cleared n p c =
    tabulate_same 32 (λ x. state_of_pasid (act_alone p n (LocalAct.Reset_arrives c)) (p.at_pasid (suc x))) (λ x. Off) (λ x l. go (p.at_pasid (suc x)))
    ∙ sym (tabulate_map (λ state. Off) 32 (λ x. state_of_pasid p (p.at_pasid (suc x))))
  where
    go : (o : Option ℕ) → state_of_pasid (act_alone p n (LocalAct.Reset_arrives c)) o ≡ Off
    go None = refl
    go (Some b) = refl
