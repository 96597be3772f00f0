-- A page request that is to arrive at an open unit finds a place in the page request queue; and one that is to be filed finds
-- fewer than 32 in its group. For each of them is outstanding, and no more than 32 are.
use Rattle.std.proofs.Common.{◌≡◌, ◌≢◌, inl, inr, refl, ap, sym, subst, ◌∙◌, ℕ, suc, ◌<◌, ◌≤◌, Bool, true, false, arith}
use Rattle.std.specs.Prelude.{Some, ◌&&◌, not, ◌==◌, length}
use Rattle.std.proofs.lemmas.Bool.{and_from, eq-eqb, eqb-true, ne_eqb}
use Rattle.sva_model.specs.Words.{count_below}
use Rattle.sva_model.specs.State.{Mappings, Endpoint, PageRequestState}
use Rattle.sva_model.specs.State.PageRequestState.{InFlight, Arrived, Filed}
use Rattle.sva_model.specs.State.Subject.{PageRequestOf}
use Rattle.sva_model.specs.State.Phase.{Open}
use Rattle.sva_model.specs.States.{is_outstanding}
use Rattle.sva_model.specs.Labels.{outstanding, is_waiting}
use Rattle.sva_model.specs.Wire.{page_request_wire, page_queue_wire, ask_wire, asks_wire}
use Rattle.sva_labels.proofs.Counting.{count_off, count_placed}
use Rattle.sva_laws.proofs.PageRequests.{arrived_is, arrival_once}
use Rattle.sva_laws.proofs.Invariant.{PartInvariant}
use Rattle.sva_laws.proofs.Filed.{FiledOnce, filed_made}
use Rattle.sva_refinement.proofs.HostGroupsAct.{filed_group, asks_seen}
use Rattle.sva_refinement.proofs.LookedLists.{length_seen}

-- Outstanding ones but for one of them are fewer than 32.

abbrev is_out : Endpoint → ℕ → Bool
is_out p x = is_outstanding (p.group (p.group_of x))

abbrev others_out : Endpoint → (page_request : ℕ) → ℕ → Bool
others_out p r x = is_out p x && not (x == r)

fewer : (p : Endpoint) (r : ℕ) → r < p.page_requests → is_out p r ≡ true → outstanding p ≤ 32 → count_below p.page_requests (others_out p r) < 32
fewer p r l out most =
    let off : outstanding p ≡ suc (count_below p.page_requests (others_out p r)) =
    count_off p.page_requests (is_out p) (others_out p r) r l out (itself (is_out p r) (r == r) (eq-eqb r r refl))
    (λ d ne. other (is_out p d) (d == r) (ne_eqb d r ne)) in
    omega (arith, off, most)
  where
    itself : (a b : Bool) → b ≡ true → (a && not b) ≡ false
    itself true true h = refl
    itself false true h = refl
    itself a false h = absurd (cc (h))

    other : (a b : Bool) → b ≡ false → a ≡ (a && not b)
    other true false h = refl
    other false false h = refl
    other a true h = absurd (cc (h))

differs : (a b : ℕ) → a ≢ b → not (a == b) ≡ true
differs a b ne = ap not (ne_eqb a b ne)

flying_apart : (s : PageRequestState) → s ≡ InFlight → s ≡ Arrived → ⊥
flying_apart s h k = absurd (cc (sym h ∙ k))

filed_apart : (s : PageRequestState) → s ≡ Filed → s ≡ Arrived → ⊥
filed_apart s h k = absurd (cc (sym h ∙ k))

-- one that is to arrive
pub arrival_short :
    (ms : Mappings) (x g n e : ℕ) (p : Endpoint) (c r : ℕ) → PartInvariant ms x g n e p → outstanding p ≤ 32 → p.phase ≡ Open
    → p.message c ≡ Some (PageRequestOf r)
    → length (page_queue_wire p) < 32
arrival_short ms x g n e p c r i most ph h =
    subst (λ k. k < 32) (sym (length_seen (λ k. page_request_wire p (p.arrival k)) p.arrivals (is_waiting p)))
    (let few = fewer p r (i.queued.made r flying) (i.lasts.out r ph (inl flying)) most in omega (arith, placed, few))
  where
    flying : p.page_request r ≡ InFlight
    flying = (i.queued.in_flight c r h).0

    apart : (k : ℕ) → is_waiting p k ≡ true → p.arrival k ≢ r
    apart k t s = absurd (flying_apart (p.page_request r) flying (sym (ap p.page_request s) ∙ arrived_is (p.page_request (p.arrival k)) t))

    placed : count_below p.arrivals (is_waiting p) ≤ count_below p.page_requests (others_out p r)
    placed =
        count_placed p.arrivals p.page_requests (is_waiting p) (others_out p r) p.arrival (λ k a t. (i.queued.arrival k a).1)
        (λ k a t. and_from (is_out p (p.arrival k)) (not (p.arrival k == r))
        (i.lasts.out (p.arrival k) ph (inr (arrived_is (p.page_request (p.arrival k)) t))) (differs (p.arrival k) r (apart k t)))
        (arrival_once p i.queued)

-- one that is to be filed
pub filing_short :
    (ms : Mappings) (x g n e : ℕ) (p : Endpoint) (r : ℕ) → PartInvariant ms x g n e p → FiledOnce p → outstanding p ≤ 32 → p.phase ≡ Open
    → p.page_request r ≡ Arrived
    → length (asks_wire p (p.group_of r)) < 32
filing_short ms x g n e p r i fi most ph ar =
    subst (λ k. k < 32) (sym (ap length (asks_seen p (p.group_of r))
    ∙ length_seen (λ k. ask_wire p (p.filing k)) p.filings (λ k. filed_group p k == p.group_of r)))
    (let few = fewer p r made out most in omega (arith, placed, few))
  where
    made : r < p.page_requests
    made = grind (arith, i.bounds.page_request r)

    out : is_out p r ≡ true
    out = i.lasts.out r ph (inr ar)

    apart : (k : ℕ) → k < p.filings → p.filing k ≢ r
    apart k l s = absurd (filed_apart (p.page_request r) (sym (ap p.page_request s) ∙ fi.filed k l) ar)

    placed : count_below p.filings (λ k. filed_group p k == p.group_of r) ≤ count_below p.page_requests (others_out p r)
    placed =
        count_placed p.filings p.page_requests (λ k. filed_group p k == p.group_of r) (others_out p r) p.filing
        (λ k l t. filed_made g p i.bounds (p.filing k) (fi.filed k l))
        (λ k l t. and_from (is_out p (p.filing k)) (not (p.filing k == r))
        (ap (λ z. is_outstanding (p.group z)) (eqb-true (filed_group p k) (p.group_of r) t) ∙ out) (differs (p.filing k) r (apart k l)))
        fi.once
