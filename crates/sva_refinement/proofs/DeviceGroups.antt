-- The groups of page requests of a device, by index: what each act that touches one leaves of them.
use Rattle.std.proofs.Common.{◌≡◌, ◌≢◌, refl, ap, sym, ◌∙◌, ℕ, suc, ◌<◌, Bool, true, false, arith}
use Rattle.std.specs.Prelude.{Option, Some, None, option_map, ◌==◌, if◌then◌else◌, List, map, slice_set, slice_index_or}
use Rattle.std.proofs.lemmas.Bool.{eq-eqb, ne_eqb}
use Rattle.sva_model.specs.Words.{put, tabulate, count_below}
use Rattle.sva_model.specs.Message.{Code}
use Rattle.sva_model.specs.State.{Mappings, GroupState, Endpoint}
use Rattle.sva_model.specs.State.GroupState.{Collecting, Awaiting, Stale, Closed}
use Rattle.sva_model.specs.States.{is_off, is_outstanding}
use Rattle.sva_model.specs.StateChanges.{sent_as, stale_if}
use Rattle.sva_model.specs.Acts.{act_alone, LocalAct}
use Rattle.sva_model.specs.Wire.{GroupWire, group_wire}
use Rattle.sva_labels.proofs.Words.{put-same, put-other}
use Rattle.sva_labels.proofs.Counting.{count_same, count_zero}
use Rattle.sva_laws.proofs.Legal.{LegalLocalAct}
use Rattle.sva_laws.proofs.Bounds.{Bounds}
use Rattle.sva_laws.proofs.Bindings.{Bindings}
use Rattle.sva_laws.proofs.Labels.{Labels}
use Rattle.sva_laws.proofs.Groups.{Groups, is_alive_group}
use Rattle.sva_labels.specs.Moves.{with_request, stale_of}
use Rattle.sva_refinement.proofs.DevicePasids.{unreleased_unless}
use Rattle.sva_refinement.proofs.DeviceTags.{pasids_differ}
use Rattle.sva_refinement.proofs.DeviceRows.{tabulate_map, row_same, row_set, row_map}
use Rattle.sva_labels.proofs.Lists.{tabulate_at}

abbrev pub groups_wire : Endpoint → List (Option GroupWire)
groups_wire p = tabulate 32 (λ i. option_map (group_wire p) (p.at_index i))

-- an outstanding group was made
group_made : (p : Endpoint) (g x : ℕ) → Bounds g p → is_outstanding (p.group x) ≡ true → x < p.groups
group_made p g x bo h = grind (arith, bo.group x)

-- a new binding isn't the asker of a group
pub groups_bound :
    (ms : Mappings) (g n : ℕ) (p : Endpoint) (b s t : ℕ) → LegalLocalAct ms g p (LocalAct.Bind b s t) → Bounds g p → Groups p
    → groups_wire (act_alone p n (LocalAct.Bind b s t)) ≡ groups_wire p
groups_bound ms g n p b s t l bo gr =
    row_same 32 p.at_index (group_wire p) (group_wire (act_alone p n (LocalAct.Bind b s t)))
    (λ i x h. ap (λ y. record { pasid = y; state = p.group x; requests = count_below p.page_requests (λ r. p.group_of r == x) })
    (put-other p.pasid b t (p.asker x) (other x (group_made p g x bo (gr.index_bears i x h).1))))
  where
    other : (x : ℕ) → x < p.groups → p.asker x ≢ b
    other x m e = gr.asker_bound x m (ap p.stage e ∙ l.2)

-- The page requests of a group, with one more at the endpoint.

pub count_more :
    (p : Endpoint) (y x : ℕ)
    → count_below (suc p.page_requests) (λ r. put p.group_of p.page_requests y r == x)
    ≡ (if y == x then suc (count_below p.page_requests (λ r. p.group_of r == x)) else count_below p.page_requests (λ r. p.group_of r == x))
unfolding count_below
count_more p y x =
    let rest : count_below p.page_requests (λ r. put p.group_of p.page_requests y r == x) ≡ count_below p.page_requests (λ r. p.group_of r == x) =
    count_same p.page_requests (λ r. put p.group_of p.page_requests y r == x) (λ r. p.group_of r == x)
    (λ r l. ap (λ z. z == x) (put-other p.group_of p.page_requests y r (omega arith)))
    in
    let last = put-same p.group_of p.page_requests y in
    λ i. if last i == x then suc (rest i) else rest i

-- a new group has one request
count_first : (p : Endpoint) (g : ℕ) → Bounds g p → count_below (suc p.page_requests) (λ r. put p.group_of p.page_requests p.groups r == p.groups) ≡ 1
count_first p g bo =
    count_more p p.groups p.groups
    ∙ ap (λ b. if b then suc (count_below p.page_requests (λ r. p.group_of r == p.groups)) else count_below p.page_requests
    (λ r. p.group_of r == p.groups)) (eq-eqb p.groups p.groups refl)
    ∙ ap (λ k. suc k)
    (count_zero p.page_requests (λ r. p.group_of r == p.groups) (λ r l. ne_eqb (p.group_of r) p.groups (less (p.group_of r) p.groups (bo.group_of r l))))
  where
    less : (x y : ℕ) → x < y → x ≢ y
    less x y l = omega arith

-- the requests of another group are as many
count_other :
    (p : Endpoint) (y x : ℕ) → x ≢ y
    → count_below (suc p.page_requests) (λ r. put p.group_of p.page_requests y r == x) ≡ count_below p.page_requests (λ r. p.group_of r == x)
count_other p y x ne =
    count_more p y x
    ∙ ap (λ b. if b then suc (count_below p.page_requests (λ r. p.group_of r == x)) else count_below p.page_requests (λ r. p.group_of r == x))
    (ne_eqb y x (λ e. ne (sym e)))

pub groups_opened :
    (ms : Mappings) (g n : ℕ) (p : Endpoint) (b i q : ℕ) (r x l : Bool) → Bounds g p → Groups p
    → groups_wire (act_alone p n (LocalAct.Group b i q r x l))
    ≡ slice_set (groups_wire p) i (Some (record { pasid = p.pasid b; state = sent_as l; requests = 1 }))
groups_opened ms g n p b i q r x l bo gr =
    row_set 32 i p.at_index (put p.at_index i (Some p.groups)) (group_wire p) (group_wire (act_alone p n (LocalAct.Group b i q r x l)))
    (Some (record { pasid = p.pasid b; state = sent_as l; requests = 1 }))
    (ap (option_map (group_wire (act_alone p n (LocalAct.Group b i q r x l)))) (put-same p.at_index i (Some p.groups)) ∙ ap (λ z. Some z) fresh)
    (λ j ne. put-other p.at_index i (Some p.groups) j ne)
    (λ j y ne h. old y (group_made p g y bo (gr.index_bears j y h).1))
  where
    fresh : group_wire (act_alone p n (LocalAct.Group b i q r x l)) p.groups ≡ record { pasid = p.pasid b; state = sent_as l; requests = 1 }
    fresh =
        let asker = put-same p.asker p.groups b in
        let state = put-same p.group p.groups (sent_as l) in
        let count = count_first p g bo in
        λ j. record { pasid = p.pasid (asker j); state = state j; requests = count j }

    old : (y : ℕ) → y < p.groups → group_wire (act_alone p n (LocalAct.Group b i q r x l)) y ≡ group_wire p y
    old y lt =
        let asker = put-other p.asker p.groups b y (omega arith) in
        let state = put-other p.group p.groups (sent_as l) y (omega arith) in
        let count = count_other p p.groups y (omega arith) in
        λ j. record { pasid = p.pasid (asker j); state = state j; requests = count j }

pub groups_requested :
    (ms : Mappings) (g n : ℕ) (p : Endpoint) (y q : ℕ) (r x l : Bool) → LegalLocalAct ms g p (LocalAct.Request y q r x l) → Groups p
    → groups_wire (act_alone p n (LocalAct.Request y q r x l))
    ≡ slice_set (groups_wire p) (p.index y) (with_request l (slice_index_or (groups_wire p) (p.index y) None))
groups_requested ms g n p y q r x l le gr =
    row_set 32 (p.index y) p.at_index p.at_index (group_wire p) (group_wire (act_alone p n (LocalAct.Request y q r x l)))
    (with_request l (slice_index_or (groups_wire p) (p.index y) None))
    (ap (option_map (group_wire (act_alone p n (LocalAct.Request y q r x l)))) there ∙ ap (λ z. Some z) changed ∙ sym (ap (with_request l) found))
    (λ j ne. refl)
    (λ j z ne h. old z (other j z ne (gr.index_bears j z h).0))
  where
    there : p.at_index (p.index y) ≡ Some y
    there = gr.bears_index y (ap is_outstanding le.0)

    found : slice_index_or (groups_wire p) (p.index y) None ≡ Some (group_wire p y)
    found =
        tabulate_at 32 (λ i. option_map (group_wire p) (p.at_index i)) (p.index y) None (gr.index_low (p.index y) y there)
        ∙ ap (option_map (group_wire p)) there

    changed :
        group_wire (act_alone p n (LocalAct.Request y q r x l)) y
        ≡ record { pasid = p.pasid (p.asker y); state = sent_as l; requests = suc (count_below p.page_requests (λ k. p.group_of k == y)) }
    changed =
        let state = put-same p.group y (sent_as l) in
        let count =
        count_more p y y
        ∙ ap (λ b. if b then suc (count_below p.page_requests (λ k. p.group_of k == y)) else count_below p.page_requests (λ k. p.group_of k == y))
        (eq-eqb y y refl) in
        λ j. record { pasid = p.pasid (p.asker y); state = state j; requests = count j }

    other : (j z : ℕ) → j ≢ p.index y → p.index z ≡ j → z ≢ y
    other j z ne e k = ne (sym e ∙ ap p.index k)

    old : (z : ℕ) → z ≢ y → group_wire (act_alone p n (LocalAct.Request y q r x l)) z ≡ group_wire p z
    old z ne =
        let state = put-other p.group y (sent_as l) z ne in
        let count = count_other p y z ne in
        λ j. record { pasid = p.pasid (p.asker z); state = state j; requests = count j }

-- where a PASID is quit, its groups that await their response are stale
pub groups_quit :
    (ms : Mappings) (g n : ℕ) (p : Endpoint) (b : ℕ) → LegalLocalAct ms g p (LocalAct.Quit b) → Bindings p → Labels p → Groups p
    → groups_wire (act_alone p n (LocalAct.Quit b)) ≡ map (stale_of (p.pasid b)) (groups_wire p)
groups_quit ms g n p b l bi la gr =
    row_map 32 p.at_index (group_wire p) (group_wire (act_alone p n (LocalAct.Quit b))) (stale_of (p.pasid b)) refl
    (λ i x h. ap (λ s. Some (record { pasid = p.pasid (p.asker x); state = s; requests = count_below p.page_requests (λ r. p.group_of r == x) }))
    (by_state x (p.group x) (gr.alive x)))
  where
    by_state :
        (x : ℕ) (s : GroupState) → (is_alive_group s ≡ true → is_off (p.pasid_state (p.asker x)) ≡ false)
        → stale_if (p.asker x == b) s ≡ stale_if (p.pasid (p.asker x) == p.pasid b) s
    by_state x Awaiting h =
        ap (λ t. stale_if t Awaiting)
        (sym (pasids_differ p b (p.asker x) la (unreleased_unless p b bi (ap is_off l.0)) (unreleased_unless p (p.asker x) bi (h refl))))
    by_state x Collecting h = none (p.asker x == b) (p.pasid (p.asker x) == p.pasid b)
      where
        none : (t u : Bool) → stale_if t Collecting ≡ stale_if u Collecting
        none true true = refl
        none true false = refl
        none false true = refl
        none false false = refl
    by_state x Stale h = none (p.asker x == b) (p.pasid (p.asker x) == p.pasid b)
      where
        none : (t u : Bool) → stale_if t Stale ≡ stale_if u Stale
        none true true = refl
        none true false = refl
        none false true = refl
        none false false = refl
    by_state x Closed h = none (p.asker x == b) (p.pasid (p.asker x) == p.pasid b)
      where
        none : (t u : Bool) → stale_if t Closed ≡ stale_if u Closed
        none true true = refl
        none true false = refl
        none false true = refl
        none false false = refl

pub groups_answered :
    (n : ℕ) (p : Endpoint) (c x : ℕ) (code : Code) → Groups p
    → groups_wire (act_alone p n (LocalAct.Answered c x code)) ≡ slice_set (groups_wire p) (p.index x) None
groups_answered n p c x code gr =
    row_set 32 (p.index x) p.at_index (put p.at_index (p.index x) None) (group_wire p) (group_wire (act_alone p n (LocalAct.Answered c x code))) None
    (ap (option_map (group_wire (act_alone p n (LocalAct.Answered c x code)))) (put-same p.at_index (p.index x) None))
    (λ j ne. put-other p.at_index (p.index x) None j ne)
    (λ j z ne h.
    ap (λ s. record { pasid = p.pasid (p.asker z); state = s; requests = count_below p.page_requests (λ r. p.group_of r == z) })
    (put-other p.group x Closed z (other j z ne (gr.index_bears j z h).0)))
  where
    other : (j z : ℕ) → j ≢ p.index x → p.index z ≡ j → z ≢ x
    other j z ne e k = ne (sym e ∙ ap p.index k)

pub groups_cleared : (n : ℕ) (p : Endpoint) (c : ℕ) → groups_wire (act_alone p n (LocalAct.Reset_arrives c)) ≡ map (λ group. None) (groups_wire p)
groups_cleared n p c = sym (tabulate_map (λ group. None) 32 (λ t. option_map (group_wire p) (p.at_index t)))
