-- The request tags of a device: what each act that touches one leaves of them.
use Rattle.std.proofs.Common.{◌≡◌, ◌≢◌, ◌⊎◌, inl, inr, refl, ap, sym, ◌∙◌, ℕ, ◌<◌, Bool, true, false, arith}
use Rattle.std.specs.Prelude.{Option, Some, None, option_map, ◌&&◌, ◌||◌, ◌==◌, List, map, slice_set}
use Rattle.std.proofs.lemmas.Bool.{eq-eqb, ne_eqb}
use Rattle.sva_model.specs.Words.{put, tabulate}
use Rattle.sva_model.specs.State.{Mappings, RequestState, Order, Endpoint}
use Rattle.sva_model.specs.State.RequestState.{Out, Doomed, Over}
use Rattle.sva_model.specs.State.Order.{RangeOf, PasidOf, Wait}
use Rattle.sva_model.specs.States.{is_unreleased, is_out, is_busy, is_wait, is_within, covers}
use Rattle.sva_model.specs.States.Extent.{Pages, AllPages}
use Rattle.sva_model.specs.StateChanges.{doom_if, binding_of, extent_of}
use Rattle.sva_model.specs.Acts.{act_alone, LocalAct}
use Rattle.sva_model.specs.Wire.{RequestWire, request_wire, is_doomed}
use Rattle.sva_labels.proofs.Words.{put-same, put-other, ℕ_cases}
use Rattle.sva_laws.proofs.Legal.{LegalLocalAct}
use Rattle.sva_laws.proofs.Bounds.{Bounds}
use Rattle.sva_laws.proofs.Bindings.{Bindings}
use Rattle.sva_laws.proofs.Labels.{Labels}
use Rattle.sva_laws.proofs.Requests.{Requests}
use Rattle.sva_laws.proofs.Orders.{Orders, is_undone, active_unreleased}
use Rattle.sva_labels.proofs.Tests.{same_inside, turned}
use Rattle.sva_labels.specs.Finding
use Rattle.sva_labels.specs.Moves.{doomed}
use Rattle.sva_refinement.proofs.DevicePasids.{unreleased_unless}
use Rattle.sva_refinement.proofs.DeviceRows.{tabulate_map, row_same, row_set, row_map}

abbrev pub tags_wire : Endpoint → List (Option RequestWire)
tags_wire p = tabulate 32 (λ t. option_map (request_wire p) (p.at_tag t))

-- a request that is out was made, and is of a binding that isn't released
out_made : (p : Endpoint) (g r : ℕ) → Bounds g p → is_out (p.request r) ≡ true → r < p.requests
out_made p g r bo h = grind (arith, bo.request r)

pub out_unreleased : (p : Endpoint) (r : ℕ) → Bindings p → Requests p → is_out (p.request r) ≡ true → is_unreleased (p.stage (p.request_binding r)) ≡ true
out_unreleased p r bi ra h = unreleased_unless p (p.request_binding r) bi (ra.alive r h)

-- a new binding isn't that of a request
pub tags_bound :
    (ms : Mappings) (g n : ℕ) (p : Endpoint) (b s t : ℕ) → LegalLocalAct ms g p (LocalAct.Bind b s t) → Bounds g p → Labels p → Requests p
    → tags_wire (act_alone p n (LocalAct.Bind b s t)) ≡ tags_wire p
tags_bound ms g n p b s t l bo la ra =
    row_same 32 p.at_tag (request_wire p) (request_wire (act_alone p n (LocalAct.Bind b s t)))
    (λ x r h. let pasid = put-other p.pasid b t (p.request_binding r) (other r (out_made p g r bo (la.tag_bears x r h).1)) in
    λ i. record { pasid = pasid i; page = p.request_page r; is_doomed = is_doomed (p.request r) })
  where
    other : (r : ℕ) → r < p.requests → p.request_binding r ≢ b
    other r m e = ra.bound r m (ap p.stage e ∙ l.2)

pub tags_asked :
    (n : ℕ) (p : Endpoint) (g b q t : ℕ) → Bounds g p → Labels p
    → tags_wire (act_alone p n (LocalAct.Ask b q t)) ≡ slice_set (tags_wire p) t (Some (record { pasid = p.pasid b; page = q; is_doomed = false }))
tags_asked n p g b q t bo la =
    row_set 32 t p.at_tag (put p.at_tag t (Some p.requests)) (request_wire p) (request_wire (act_alone p n (LocalAct.Ask b q t)))
    (Some (record { pasid = p.pasid b; page = q; is_doomed = false }))
    (ap (option_map (request_wire (act_alone p n (LocalAct.Ask b q t)))) (put-same p.at_tag t (Some p.requests)) ∙ ap (λ r. Some r) fresh)
    (λ x ne. put-other p.at_tag t (Some p.requests) x ne)
    (λ x r ne h. old r (out_made p g r bo (la.tag_bears x r h).1))
  where
    fresh : request_wire (act_alone p n (LocalAct.Ask b q t)) p.requests ≡ record { pasid = p.pasid b; page = q; is_doomed = false }
    fresh =
        λ i.
        record {
          pasid = p.pasid (put-same p.request_binding p.requests b i);
          page = put-same p.request_page p.requests q i;
          is_doomed = is_doomed (put-same p.request p.requests Out i);
        }

    old : (r : ℕ) → r < p.requests → request_wire (act_alone p n (LocalAct.Ask b q t)) r ≡ request_wire p r
    old r l =
        λ i.
        record {
          pasid = p.pasid (put-other p.request_binding p.requests b r (omega arith) i);
          page = put-other p.request_page p.requests q r (omega arith) i;
          is_doomed = is_doomed (put-other p.request p.requests Out r (omega arith) i);
        }

-- the request of a tag is over
tags_over :
    (p : Endpoint) (r : ℕ) → Labels p → is_out (p.request r) ≡ true
    → tabulate 32 (λ t. option_map (request_wire (record p { request = put p.request r Over })) (put p.at_tag (p.request_tag r) None t))
    ≡ slice_set (tags_wire p) (p.request_tag r) None
tags_over p r la h =
    row_set 32 (p.request_tag r) p.at_tag (put p.at_tag (p.request_tag r) None) (request_wire p)
    (request_wire (record p { request = put p.request r Over })) None
    (ap (option_map (request_wire (record p { request = put p.request r Over }))) (put-same p.at_tag (p.request_tag r) None))
    (λ x ne. put-other p.at_tag (p.request_tag r) None x ne)
    (λ x y ne k. ap (λ state. record { pasid = p.pasid (p.request_binding y); page = p.request_page y; is_doomed = is_doomed state })
    (put-other p.request r Over y (other x y ne (la.tag_bears x y k).0)))
  where
    other : (x y : ℕ) → x ≢ p.request_tag r → p.request_tag y ≡ x → y ≢ r
    other x y ne e k = ne (sym e ∙ ap p.request_tag k)

pub tags_kept :
    (ms : Mappings) (g n : ℕ) (p : Endpoint) (c r m : ℕ) → LegalLocalAct ms g p (LocalAct.Keep c r m) → Labels p
    → tags_wire (act_alone p n (LocalAct.Keep c r m)) ≡ slice_set (tags_wire p) (p.request_tag r) None
tags_kept ms g n p c r m l la = tags_over p r la (ap is_out l.1)

pub tags_forgotten :
    (ms : Mappings) (g n : ℕ) (p : Endpoint) (c r : ℕ) → LegalLocalAct ms g p (LocalAct.Forget c r) → Labels p
    → tags_wire (act_alone p n (LocalAct.Forget c r)) ≡ slice_set (tags_wire p) (p.request_tag r) None
tags_forgotten ms g n p c r l la = tags_over p r la l.2

pub tags_cleared : (n : ℕ) (p : Endpoint) (c : ℕ) → tags_wire (act_alone p n (LocalAct.Reset_arrives c)) ≡ map (λ tag. None) (tags_wire p)
tags_cleared n p c = sym (tabulate_map (λ tag. None) 32 (λ t. option_map (request_wire p) (p.at_tag t)))

-- An order that isn't done covers by its PASID and extent the pages that it covers by its binding.

-- the binding of an order in the endpoint's hands isn't released
pub busy_unreleased : (p : Endpoint) (k : ℕ) → Orders p → is_busy (p.order_state k) ≡ true → is_unreleased (p.stage (binding_of (p.order k))) ≡ true
busy_unreleased p k or h = active_unreleased (p.stage (binding_of (p.order k))) (or.undone_stage k (undone h) (or.no_wait k h))
  where
    undone : is_busy (p.order_state k) ≡ true → is_undone (p.order_state k) ≡ true
    undone h = grind arith

-- unreleased bindings differ in their PASIDs
pub pasids_differ : (p : Endpoint) (b d : ℕ) → Labels p → is_unreleased (p.stage b) ≡ true → is_unreleased (p.stage d) ≡ true → (p.pasid d == p.pasid b)
    ≡ (d == b)
pasids_differ p b d la h k = go (ℕ_cases d b)
  where
    one : p.pasid d ≡ p.pasid b → d ≡ b
    one e = same_inside (sym (la.bears_pasid d k) ∙ ap p.at_pasid e ∙ la.bears_pasid b h)

    go : (d ≡ b) ⊎ (d ≢ b) → (p.pasid d == p.pasid b) ≡ (d == b)
    go (inl e) = eq-eqb (p.pasid d) (p.pasid b) (ap p.pasid e) ∙ sym (eq-eqb d b e)
    go (inr ne) = ne_eqb (p.pasid d) (p.pasid b) (λ e. ne (one e)) ∙ sym (ne_eqb d b ne)

pub covers_same :
    (p : Endpoint) (k b q : ℕ) → Labels p → Orders p → is_busy (p.order_state k) ≡ true → is_unreleased (p.stage b) ≡ true
    → Finding.covers (p.pasid (binding_of (p.order k))) (extent_of (p.order k)) (p.pasid b) q ≡ covers (p.order k) b q
covers_same p k b q la or h un =
    ap (λ x. x && is_within (extent_of (p.order k)) q) (pasids_differ p (binding_of (p.order k)) b la (busy_unreleased p k or h) un)
    ∙ by_order (p.order k) (or.no_wait k h)
  where
    by_order : (o : Order) → is_wait o ≡ false → ((b == binding_of o) && is_within (extent_of o) q) ≡ covers o b q
    by_order (RangeOf c range) h = ap (λ x. x && is_within (Pages range) q) (turned b c)
    by_order (PasidOf c) h = ap (λ x. x && is_within AllPages q) (turned b c)
    by_order (Wait c d) h = absurd (cc)

-- an invalidation that is taken dooms the requests that it covers
pub tags_taken :
    (ms : Mappings) (g n : ℕ) (p : Endpoint) (c k : ℕ) → LegalLocalAct ms g p (LocalAct.Take c k) → Bindings p → Labels p → Requests p → Orders p
    → tags_wire (act_alone p n (LocalAct.Take c k)) ≡ map (doomed (p.pasid (binding_of (p.order k))) (extent_of (p.order k))) (tags_wire p)
tags_taken ms g n p c k l bi la ra or =
    row_map 32 p.at_tag (request_wire p) (request_wire (act_alone p n (LocalAct.Take c k))) (doomed (p.pasid (binding_of (p.order k))) (extent_of (p.order k)))
    refl
    (λ t r h.
    ap (λ d. Some (record { pasid = p.pasid (p.request_binding r); page = p.request_page r; is_doomed = d }))
    (by_state (p.request r) (la.tag_bears t r h).1 (covers (p.order k) (p.request_binding r) (p.request_page r))
    ∙ sym (ap (λ x. is_doomed (p.request r) || x)
    (covers_same p k (p.request_binding r) (p.request_page r) la or (ap is_busy (la.sent c k l)) (out_unreleased p r bi ra (la.tag_bears t r h).1)))))
  where
    by_state : (s : RequestState) → is_out s ≡ true → (x : Bool) → is_doomed (doom_if x s) ≡ (is_doomed s || x)
    by_state Out h true = refl
    by_state Out h false = refl
    by_state Doomed h true = refl
    by_state Doomed h false = refl
    by_state Over h x = absurd (cc)
