-- What is in flight finds what its receiver needs; and so does a page request that is to be filed.
use Rattle.std.proofs.Common.{◌≡◌, ◌⊎◌, inl, inr, refl, ap, sym, subst, ◌∙◌, ℕ, ◌<◌, ◌≤◌, true, false}
use Rattle.std.specs.Prelude.{Option, Some, None, option_map, length, slice_get}
use Rattle.std.specs.Prelude.{is_some}
use Rattle.std.specs.List.{find}
use Rattle.sva_model.specs.Words as words
use Rattle.sva_model.specs.State.{World, Phase, Subject}
use Rattle.sva_model.specs.State.Phase.{Open, ResetSent, Cleared}
use Rattle.sva_model.specs.State.PageRequestState.{Arrived}
use Rattle.sva_model.specs.State.Subject.{StartOf, StopOf, FunctionReset, CompletionOf, InvalidateOf, ResponseOf, RequestOf, InvalidatedOf, PageRequestOf}
use Rattle.sva_model.specs.State.Subject.{MarkerOf, ResetDone}
use Rattle.sva_model.specs.States.{is_open, is_unreleased}
use Rattle.sva_model.specs.StateChanges.{binding_of}
use Rattle.sva_model.specs.Labels.{outstanding, is_waiting}
use Rattle.sva_model.specs.Wire.{BindingWire, FlightWire, PageRequestWire, number, flight_wire, binding_wire, page_request_wire, stage_wire}
use Rattle.sva_model.specs.Wire.{host_groups_wire, wire}
use Rattle.sva_laws.specs.LabelLaws.{IsCarried}
use Rattle.sva_laws.proofs.Bindings.{before_unreleased, unmarked_unreleased}
use Rattle.sva_laws.proofs.Found.{found}
use Rattle.sva_laws.proofs.Invariant.{Invariant}
use Rattle.sva_laws.proofs.OnTheWay.{OnTheWay}
use Rattle.sva_labels.specs.Finding.{part_of, unit_of, bearer}
use Rattle.sva_labels.specs.Moves.{is_begun}
use Rattle.sva_labels.specs.Outcomes.{asks_of}
use Rattle.sva_labels.specs.Sound.{IsBorne, Suits}
use Rattle.sva_refinement.proofs.EndpointViews.{endpoints_seen, part_seen, unit_seen}
use Rattle.sva_refinement.proofs.HostGroupsFiled.{Filings}
use Rattle.sva_refinement.proofs.LookedBindings.{bearer_is}
use Rattle.sva_refinement.proofs.LookedFilings.{asks_there}
use Rattle.sva_refinement.proofs.SoundLists.{IsSeen, seen_get}
use Rattle.sva_laws.proofs.Filed.{FiledOnce}
use Rattle.sva_refinement.proofs.SoundRequests.{arrival_short, filing_short}
use Rattle.sva_laws.proofs.Groups.{answerable_outstanding as answerable_out}
use Rattle.sva_laws.proofs.Resets.{open_is as opened_is}
use Rattle.sva_laws.proofs.PageRequests.{arrived_is}

-- an unreleased binding is found by its PASID
pub bearer_found :
    (w : World) (e b : ℕ) → Invariant w → is_unreleased ((w.part e).stage b) ≡ true
    → bearer (wire w) e ((w.part e).pasid b) ≡ Some (binding_wire w.config.first e (w.part e) b)
bearer_found w e b i u = bearer_is w e ((w.part e).pasid b) i
    ∙ ap (option_map (binding_wire w.config.first e (w.part e))) ((i.parts e).labels.bears_pasid b u)

borne : (w : World) (e b : ℕ) → Invariant w → is_unreleased ((w.part e).stage b) ≡ true → IsBorne (wire w) e ((w.part e).pasid b)
borne w e b i u = ap is_some (bearer_found w e b i u)

open_here : (w : World) (e : ℕ) → e < w.config.endpoints → (unit_of (wire w) e).is_open ≡ true → (w.part e).phase ≡ Open
open_here w e l op = opened_is (w.part e) (sym (ap (λ u. u.is_open) (unit_seen w e l)) ∙ op)

shut_here : (w : World) (e : ℕ) → e < w.config.endpoints → is_open (w.part e).phase ≡ false → (unit_of (wire w) e).is_open ≡ false
shut_here w e l h = ap (λ u. u.is_open) (unit_seen w e l) ∙ h

-- What is in flight.

suits :
    (w : World) (e c : ℕ) → Invariant w → IsCarried w.mappings (w.part e) → outstanding (w.part e) ≤ 32 → e < w.config.endpoints → (a : Subject)
    → (w.part e).message c ≡ Some a
    → Suits (wire w) e ((w.part e).carried c)
suits w e c i ca most l (StartOf b) h =
    subst (Suits (wire w) e) (sym (ca.start c b h)) (borne w e b i (unmarked_unreleased ((w.part e).stage b) ((i.parts e).bindings.start_stage c b h)))
suits w e c i ca most l (StopOf b) h =
    subst (Suits (wire w) e) (sym (ca.stop c b h)) (borne w e b i (ap is_unreleased ((i.parts e).bindings.stop_stage c b h)))
suits w e c i ca most l FunctionReset h = subst (Suits (wire w) e) (sym (ca.reset c h)) (shut_here w e l (ap is_open ((i.parts e).resets.down c h)))
suits w e c i ca most l (CompletionOf r (Some m)) h = subst (Suits (wire w) e) (sym (ca.completion c r m h)) tt
suits w e c i ca most l (CompletionOf r None) h = subst (Suits (wire w) e) (sym (ca.no_translation c r h)) tt
suits w e c i ca most l (InvalidateOf k) h =
    let f = (found w e i).invalidate c k h in
    subst (Suits (wire w) e) (sym (ca.invalidate c k h)) (
      (i.parts e).labels.itag_low ((w.part e).itag k) k f.1,
      borne w e (binding_of ((w.part e).order k)) i f.2.unreleased,
    )
suits w e c i ca most l (ResponseOf g code) h =
    let out = answerable_out ((w.part e).group g) ((i.parts e).groups.response c g code h).0 in
    subst (Suits (wire w) e) (sym (ca.response c g code h)) ((i.parts e).groups.index_low ((w.part e).index g) g ((i.parts e).groups.bears_index g out))
suits w e c i ca most l (RequestOf r) h =
    subst (Suits (wire w) e) (sym (ca.request c r h))
    (λ op.
    let f = (found w e i).request c r (open_here w e l op) h in
    ((i.parts e).labels.tag_low ((w.part e).request_tag r) r f.1, borne w e ((w.part e).request_binding r) i f.0.unreleased))
suits w e c i ca most l (InvalidatedOf names) h = let x = ca.invalidated c names h in subst (Suits (wire w) e) (sym x.2) x.3
suits w e c i ca most l (PageRequestOf r) h =
    subst (Suits (wire w) e) (sym (ca.page_request c r h))
    (λ op.
    let ph = open_here w e l op in (
      subst (λ p. length p.page_queue < 32) (sym (part_seen w e l))
          (arrival_short w.mappings w.config.endpoints w.bindings w.messages e (w.part e) c r (i.parts e) most ph h),
      borne w e ((w.part e).asker ((w.part e).group_of r)) i
          (unmarked_unreleased ((w.part e).stage ((w.part e).asker ((w.part e).group_of r))) ((i.parts e).groups.flight_stage c r ph h)),
    ))
suits w e c i ca most l (MarkerOf b) h =
    let st = (i.parts e).bindings.marker_stage c b h in
    subst (Suits (wire w) e) (sym (ca.marker c b h))
    (λ op.
    record {
      binding = binding_wire w.config.first e (w.part e) b;
      found = bearer_found w e b i (ap is_unreleased st);
      stopping = ap (stage_wire w.config.first (w.part e)) st;
    })
suits w e c i ca most l ResetDone h = subst (Suits (wire w) e) (sym (ca.reset_done c h)) (shut_here w e l (ap is_open ((i.parts e).resets.up c h)))

abbrev pub IsFlyingAt : World → (k : ℕ) → FlightWire → Type 0
IsFlyingAt w k f = IsSeen w.messages (λ c. words.is_some ((w.part (w.link_of c)).message c)) (flight_wire w) k f

pub flying_at : (w : World) (k : ℕ) (f : FlightWire) → slice_get (wire w).in_flight k ≡ Some f → IsFlyingAt w k f
flying_at w k f h = seen_get w.messages (λ c. words.is_some ((w.part (w.link_of c)).message c)) (flight_wire w) k f h

pub flight_near : (w : World) → Invariant w → (k : ℕ) (f : FlightWire) → IsFlyingAt w k f → f.endpoint < length (wire w).parts
flight_near w i k f x =
    let l : w.link_of x.of < w.config.endpoints = (i.parts (w.link_of x.of)).near x.of x.passes in
    subst (λ n. f.endpoint < n) (sym (endpoints_seen w)) (subst (λ e. e < w.config.endpoints) (sym (ap (λ z. z.endpoint) x.seen)) l)

pub flight_suited :
    (w : World) → Invariant w → ((e : ℕ) → IsCarried w.mappings (w.part e)) → ((e : ℕ) → outstanding (w.part e) ≤ 32) → (k : ℕ) (f : FlightWire)
    → IsFlyingAt w k f
    → Suits (wire w) f.endpoint f.message
flight_suited w i ca most k f x =
    subst (λ z. Suits (wire w) z.endpoint z.message) (sym x.seen) (go ((w.part e).message x.of) refl x.passes)
  where
    e : ℕ
    e = w.link_of x.of

    go : (o : Option Subject) → (w.part e).message x.of ≡ o → words.is_some o ≡ true → Suits (wire w) e ((w.part e).carried x.of)
    go None h s = absurd (cc (s))
    go (Some a) h s = suits w e x.of i (ca e) (most e) ((i.parts e).near x.of (ap words.is_some h)) a h

-- What waits to be filed.

abbrev pub IsWaitingAt : World → (e k : ℕ) → PageRequestWire → Type 0
IsWaitingAt w e k r = IsSeen (w.part e).arrivals (is_waiting (w.part e)) (λ j. page_request_wire (w.part e) ((w.part e).arrival j)) k r

pub waiting_at : (w : World) (e k : ℕ) (r : PageRequestWire) → e < w.config.endpoints → slice_get (part_of (wire w) e).page_queue k ≡ Some r
    → IsWaitingAt w e k r
waiting_at w e k r l h =
    seen_get (w.part e).arrivals (is_waiting (w.part e)) (λ j. page_request_wire (w.part e) ((w.part e).arrival j)) k r
    (sym (ap (λ p. slice_get p.page_queue k) (part_seen w e l)) ∙ h)

-- a page request waits at an open unit only
open_or_not : (p : Phase) → (is_open p ≡ false) ⊎ (p ≡ Open)
open_or_not Open = inr refl
open_or_not (ResetSent c) = inl refl
open_or_not (Cleared c) = inl refl

pub waiting_found :
    (w : World) → Invariant w → (e k : ℕ) (r : PageRequestWire) → e < w.config.endpoints → slice_get (part_of (wire w) e).page_queue k ≡ Some r
    → IsBorne (wire w) e r.pasid
waiting_found w i e k r l h =
    let x = waiting_at w e k r l h in
    let y = (w.part e).arrival x.of in
    let d = (w.part e).asker ((w.part e).group_of y) in
    subst (λ t. IsBorne (wire w) e t) (sym (ap (λ z. z.pasid) x.seen))
    (borne w e d i (before_unreleased ((w.part e).stage d) ((i.parts e).groups.arrived_stage y (arrived_is ((w.part e).page_request y) x.passes))))

pub filing_placed :
    (w : World) → Invariant w → ((e : ℕ) → OnTheWay (w.part e)) → ((e : ℕ) → Filings (w.part e)) → ((e : ℕ) → FiledOnce (w.part e))
    → ((e : ℕ) → outstanding (w.part e) ≤ 32)
    → (e k : ℕ) (r : PageRequestWire) (b : BindingWire)
    → e < w.config.endpoints
    → slice_get (part_of (wire w) e).page_queue k ≡ Some r
    → bearer (wire w) e r.pasid ≡ Some b
    → length (asks_of (find (is_begun b.binding r.index) (part_of (wire w) e).host_groups)) < 32
filing_placed w i on fi once most e k r b l h f = go (open_or_not (w.part e).phase)
  where
    x : IsWaitingAt w e k r
    x = waiting_at w e k r l h

    y : ℕ
    y = (w.part e).arrival x.of

    d : ℕ
    d = (w.part e).asker ((w.part e).group_of y)

    arrived : (w.part e).page_request y ≡ Arrived
    arrived = arrived_is ((w.part e).page_request y) x.passes

    index : r.index ≡ (w.part e).index ((w.part e).group_of y)
    index = ap (λ z. z.index) x.seen

    one : (a c : BindingWire) → Some a ≡ Some c → a ≡ c
    one a c g = cc

    bears : bearer (wire w) e r.pasid ≡ Some (binding_wire w.config.first e (w.part e) d)
    bears = ap (λ z. bearer (wire w) e z.pasid) x.seen
        ∙ bearer_found w e d i (before_unreleased ((w.part e).stage d) ((i.parts e).groups.arrived_stage y arrived))

    its : b.binding ≡ number w.config.first d
    its = ap (λ z. z.binding) (one b (binding_wire w.config.first e (w.part e) d) (sym f ∙ bears))

    same : asks_of (find (is_begun b.binding r.index) (part_of (wire w) e).host_groups)
        ≡ asks_of (find (is_begun (number w.config.first d) ((w.part e).index ((w.part e).group_of y))) (host_groups_wire w.config.first (w.part e)))
    same = λ j. asks_of (find (is_begun (its j) (index j)) (part_seen w e l j).host_groups)

    go :
        (is_open (w.part e).phase ≡ false) ⊎ ((w.part e).phase ≡ Open)
        → length (asks_of (find (is_begun b.binding r.index) (part_of (wire w) e).host_groups)) < 32
    go (inl shut) = absurd ((i.parts e).resets.unarrived y shut arrived)
    go (inr ph) =
        subst (λ xs. length xs < 32)
        (sym (same ∙ asks_there w.mappings w.config.endpoints w.bindings w.messages e w.config.first (w.part e) y (i.parts e) (on e) (fi e) ph arrived))
        (filing_short w.mappings w.config.endpoints w.bindings w.messages e (w.part e) y (i.parts e) (once e) (most e) ph arrived)
