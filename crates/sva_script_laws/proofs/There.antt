-- What is kept of a world says that a frame is usable: so it is by names.
use Rattle.std.proofs.Common.{◌≡◌, ◌⊎◌, inl, inr, refl, ap, sym, subst, ◌∙◌, ℕ, ◌<◌, Bool, true, false, arith}
use Rattle.std.specs.Prelude.{if◌then◌else◌, ◌==◌, ◌&&◌, not, List, map, Option, Some, None, option_map, slice_get}
use Rattle.std.specs.List.{list_any}
use Rattle.std.specs.Option.{option_map_or}
use Rattle.std.proofs.lemmas.Bool.{eqb-true}
use Rattle.std.proofs.lemmas.Option.{slice_get_within}
use Rattle.sva_model.specs.Message.{Message}
use Rattle.sva_model.specs.Message.Message.{CompletionMessage}
use Rattle.sva_model.specs.Words.{any_below, is_some, select, the}
use Rattle.sva_model.specs.State.{Mappings, RequestState, UseState, Subject, Endpoint, World}
use Rattle.sva_model.specs.State.RequestState.{Out}
use Rattle.sva_model.specs.State.UseState.{Running}
use Rattle.sva_model.specs.State.Phase.{Cleared}
use Rattle.sva_model.specs.State.Subject.{StartOf, StopOf, FunctionReset, CompletionOf, InvalidateOf, ResponseOf, RequestOf, InvalidatedOf}
use Rattle.sva_model.specs.State.Subject.{PageRequestOf, MarkerOf, ResetDone}
use Rattle.sva_model.specs.States.{is_running}
use Rattle.sva_model.specs.States.{is_out as is_out_at}
use Rattle.sva_model.specs.Wire.{EndpointWire, FlightWire, TranslationWire, wire, part_wire, device_wire, cache_wire, cached_wire, use_wire, flight_wire}
use Rattle.sva_model.specs.Wire.{request_wire, is_before, is_doomed, translation_wire}
use Rattle.sva_model.specs.Wire.UseWire.{RunningWire, DeadWire}
use Rattle.sva_model.specs.Claims.Usable.{cached, in_use, under_way}
use Rattle.sva_labels.proofs.Tests.{first_holds, second_holds}
use Rattle.sva_labels.proofs.Words.{any_below-true, some_the}
use Rattle.sva_labels.proofs.Lists.{tabulate_length}
use Rattle.sva_labels.specs.Finding.{tag_at}
use Rattle.sva_laws.proofs.Found.{found, labelled}
use Rattle.sva_refinement.proofs.Lookups.{any_seen, any_table}
use Rattle.sva_refinement.proofs.EndpointLookups.{tag_seen}
use Rattle.sva_refinement.proofs.Reached.{IsReached}
use Rattle.sva_race_parts.specs.Usable.{is_to, is_use_to, is_out, carries, brings, is_usable_by, is_usable_at}
use Rattle.sva_script_laws.specs.ByNames.{MayUse}
use Rattle.sva_script_laws.proofs.Lists.{any_sorted, tabulate_get, three}

-- ---- what is cached

pub cached_is : (ms : Mappings) (p : Endpoint) (f : ℕ) → list_any (is_to f) (cache_wire ms p)
    ≡ any_below p.requests (λ r. is_some (p.held r) && (ms.frame (the (p.held r)) == f))
cached_is ms p f =
    any_sorted (is_to f) is_before (map (cached_wire ms p) (select p.requests (λ r. is_some (p.held r))))
    ∙ any_seen p.requests (λ r. is_some (p.held r)) (cached_wire ms p) (is_to f)

cached_there : (w : World) (e f : ℕ) → list_any (is_to f) (cache_wire w.mappings (w.part e)) ≡ true → MayUse w e f
cached_there w e f h =
    let p = w.part e in
    let x = any_below-true p.requests (λ r. is_some (p.held r) && (w.mappings.frame (the (p.held r)) == f)) (sym (cached_is w.mappings p f) ∙ h) in
    let it = first_holds (is_some (p.held x.0)) (w.mappings.frame (the (p.held x.0)) == f) x.2 in
    record {
      binding = p.request_binding x.0;
      page = p.request_page x.0;
      mapping = the (p.held x.0);
      usable = cached x.0 (the (p.held x.0)) (some_the (p.held x.0) it);
      leads = eqb-true (w.mappings.frame (the (p.held x.0))) f (second_holds (is_some (p.held x.0)) (w.mappings.frame (the (p.held x.0)) == f) x.2);
    }

-- ---- what is used

pub used_is : (ms : Mappings) (p : Endpoint) (f : ℕ) → list_any (is_use_to f) (device_wire ms p).slots
    ≡ any_below 16 (λ t. is_use_to f (option_map (use_wire ms p) (p.at_slot t)))
used_is ms p f = any_table 16 (λ t. option_map (use_wire ms p) (p.at_slot t)) (is_use_to f)

runs : (s : UseState) → is_running s ≡ true → s ≡ Running
runs s h = grind arith

use_to : (b : Bool) (f : ℕ) (t : TranslationWire) → is_use_to f (Some (if b then RunningWire t else DeadWire)) ≡ true → (b ≡ true) × ((t.frame == f) ≡ true)
use_to true f t h = (refl, h)
use_to false f t h = absurd (cc)

used_there : (w : World) (e f : ℕ) → list_any (is_use_to f) (device_wire w.mappings (w.part e)).slots ≡ true → MayUse w e f
used_there w e f h =
    let p = w.part e in
    let x = any_below-true 16 (λ t. is_use_to f (option_map (use_wire w.mappings p) (p.at_slot t))) (sym (used_is w.mappings p f) ∙ h) in
    go (p.at_slot x.0) x.2
  where
    go : (o : Option ℕ) → is_use_to f (option_map (use_wire w.mappings (w.part e)) o) ≡ true → MayUse w e f
    go None h = absurd (cc)
    go (Some u) h =
        let p = w.part e in
        let y = use_to (is_running (p.use_state u)) f
        (translation_wire w.mappings p (p.use_binding u) (w.mappings.page (p.use_mapping u)) (p.use_mapping u)) h in
        record {
          binding = p.use_binding u;
          page = w.mappings.page (p.use_mapping u);
          mapping = p.use_mapping u;
          usable = in_use u (runs (p.use_state u) y.0);
          leads = eqb-true (w.mappings.frame (p.use_mapping u)) f y.1;
        }

-- ---- what is on its way

pub coming_is : (w : World) (e f : ℕ) → list_any (brings (device_wire w.mappings (w.part e)) e f) (wire w).in_flight
    ≡ any_below w.messages (λ c. is_some ((w.part (w.link_of c)).message c) && brings (device_wire w.mappings (w.part e)) e f (flight_wire w c))
coming_is w e f =
    any_seen w.messages (λ c. is_some ((w.part (w.link_of c)).message c)) (flight_wire w) (brings (device_wire w.mappings (w.part e)) e f)

out_by : (s : RequestState) → is_out_at s ≡ true → not (is_doomed s) ≡ true → s ≡ Out
out_by s h k = grind arith

-- the request that has the tag is the one that is answered, and isn't doomed
asked_there : (w : World) (e c r : ℕ) (o : Option ℕ) → IsReached w → (w.part e).message c ≡ Some (CompletionOf r o)
    → is_out (tag_at (device_wire w.mappings (w.part e)) ((w.part e).request_tag r)) ≡ true → (w.part e).request r ≡ Out
asked_there w e c r o i h out =
    go (p.at_tag (p.request_tag r)) refl (sym (ap is_out (tag_seen w.mappings p (i.invariant.parts e).labels (p.request_tag r))) ∙ out)
  where
    p : Endpoint
    p = w.part e

    go : (k : Option ℕ) → p.at_tag (p.request_tag r) ≡ k → is_out (option_map (request_wire p) k) ≡ true → p.request r ≡ Out
    go None at t = absurd (cc)
    go (Some x) at t =
        let is_there = (((labelled w e i.invariant).tag (p.request_tag r) x).0 at).0 in
        let its = (found w e i.invariant).completion c r o (λ d k. cleared d k is_there) h in
        let same : r ≡ x = inside (sym its ∙ at) in
        out_by (p.request r) (ap (λ z. is_out_at (p.request z)) same ∙ is_there) (ap (λ z. not (is_doomed (p.request z))) same ∙ t)
      where
        inside : {a b : ℕ} → Some a ≡ Some b → a ≡ b
        inside e = cc

        cleared : (d : ℕ) → p.phase ≡ Cleared d → is_out_at (p.request x) ≡ true → ⊥
        cleared d k is_there = let z = (found w e i.invariant).none_out d x k in absurd (cc (sym is_there ∙ z))

carries_not : (w : World) (e f c : ℕ) (m : Message) → (w.part e).carried c ≡ m → carries (device_wire w.mappings (w.part e)) f m ≡ false
    → carries (device_wire w.mappings (w.part e)) f ((w.part e).carried c) ≡ true → MayUse w e f
carries_not w e f c m is none h = absurd (cc (sym h ∙ (ap (carries (device_wire w.mappings (w.part e)) f) is ∙ none)))

completion_there : (w : World) (e f c r m : ℕ) → IsReached w → (w.part e).message c ≡ Some (CompletionOf r (Some m))
    → carries (device_wire w.mappings (w.part e)) f (CompletionMessage ((w.part e).request_tag r) (w.mappings.frame m) true (w.mappings.write m)) ≡ true
    → MayUse w e f
completion_there w e f c r m i h k =
    let p = w.part e in
    let to = w.mappings.frame m == f in
    let out = is_out (tag_at (device_wire w.mappings p) (p.request_tag r)) in
    record {
      binding = p.request_binding r;
      page = p.request_page r;
      mapping = m;
      usable = under_way c r m h (asked_there w e c r (Some m) i h (second_holds to out k));
      leads = eqb-true (w.mappings.frame m) f (first_holds to out k);
    }

carried_there : (w : World) (e f c : ℕ) (s : Subject) → IsReached w → (w.part e).message c ≡ Some s
    → carries (device_wire w.mappings (w.part e)) f ((w.part e).carried c) ≡ true → MayUse w e f
carried_there w e f c (StartOf b) i h k = carries_not w e f c _ ((i.carried e).start c b h) refl k
carried_there w e f c (StopOf b) i h k = carries_not w e f c _ ((i.carried e).stop c b h) refl k
carried_there w e f c FunctionReset i h k = carries_not w e f c _ ((i.carried e).reset c h) refl k
carried_there w e f c (CompletionOf r None) i h k = carries_not w e f c _ ((i.carried e).no_translation c r h) refl k
carried_there w e f c (CompletionOf r (Some m)) i h k =
    completion_there w e f c r m i h (sym (ap (carries (device_wire w.mappings (w.part e)) f) ((i.carried e).completion c r m h)) ∙ k)
carried_there w e f c (InvalidateOf o) i h k = carries_not w e f c _ ((i.carried e).invalidate c o h) refl k
carried_there w e f c (ResponseOf g code) i h k = carries_not w e f c _ ((i.carried e).response c g code h) refl k
carried_there w e f c (RequestOf r) i h k = carries_not w e f c _ ((i.carried e).request c r h) refl k
carried_there w e f c (InvalidatedOf names) i h k = let x = (i.carried e).invalidated c names h in carries_not w e f c _ x.2 refl k
carried_there w e f c (PageRequestOf r) i h k = carries_not w e f c _ ((i.carried e).page_request c r h) refl k
carried_there w e f c (MarkerOf b) i h k = carries_not w e f c _ ((i.carried e).marker c b h) refl k
carried_there w e f c ResetDone i h k = carries_not w e f c _ ((i.carried e).reset_done c h) refl k

coming_there : (w : World) (e f : ℕ) → IsReached w → list_any (brings (device_wire w.mappings (w.part e)) e f) (wire w).in_flight ≡ true → MayUse w e f
coming_there w e f i h =
    let p = w.part e in
    let x = any_below-true w.messages (λ c. is_some ((w.part (w.link_of c)).message c) && brings (device_wire w.mappings p) e f (flight_wire w c))
    (sym (coming_is w e f) ∙ h) in
    let there = first_holds (is_some ((w.part (w.link_of x.0)).message x.0)) (brings (device_wire w.mappings p) e f (flight_wire w x.0)) x.2 in
    let brought = second_holds (is_some ((w.part (w.link_of x.0)).message x.0)) (brings (device_wire w.mappings p) e f (flight_wire w x.0)) x.2 in
    let way = w.link_of x.0 == e in
    let its = carries (device_wire w.mappings p) f ((w.part (w.link_of x.0)).carried x.0) in
    let link = eqb-true (w.link_of x.0) e (first_holds way its brought) in
    by x.0 (p.message x.0) refl (subst (λ z. is_some ((w.part z).message x.0) ≡ true) link there)
    (subst (λ z. carries (device_wire w.mappings p) f ((w.part z).carried x.0) ≡ true) link (second_holds way its brought))
  where
    by : (c : ℕ) (o : Option Subject) → (w.part e).message c ≡ o → is_some ((w.part e).message c) ≡ true
        → carries (device_wire w.mappings (w.part e)) f ((w.part e).carried c) ≡ true → MayUse w e f
    by c None at there k = absurd (cc (sym there ∙ ap is_some at))
    by c (Some s) at there k = carried_there w e f c s i at k

-- ---- an endpoint

by_there : (w : World) (e f : ℕ) → IsReached w → is_usable_by (device_wire w.mappings (w.part e)) e f (wire w).in_flight ≡ true → MayUse w e f
by_there w e f i h =
    go (three (list_any (is_to f) (device_wire w.mappings (w.part e)).cache) (list_any (is_use_to f) (device_wire w.mappings (w.part e)).slots)
    (list_any (brings (device_wire w.mappings (w.part e)) e f) (wire w).in_flight) h)
  where
    go : (list_any (is_to f) (device_wire w.mappings (w.part e)).cache ≡ true)
        ⊎ ((list_any (is_use_to f) (device_wire w.mappings (w.part e)).slots ≡ true)
        ⊎ (list_any (brings (device_wire w.mappings (w.part e)) e f) (wire w).in_flight ≡ true)) → MayUse w e f
    go (inl k) = cached_there w e f k
    go (inr (inl k)) = used_there w e f k
    go (inr (inr k)) = coming_there w e f i k

-- what is said of an endpoint that is there, or isn't
abbrev usable_in : (e f : ℕ) → List FlightWire → Option EndpointWire → Bool
usable_in e f flights part = option_map_or (λ (it : EndpointWire). is_usable_by it.device e f flights) part false

pub usable_at : (w : World) (e f : ℕ) → e < w.config.endpoints
    → is_usable_at (wire w) e f ≡ is_usable_by (device_wire w.mappings (w.part e)) e f (wire w).in_flight
usable_at w e f low =
    ap (usable_in e f (wire w).in_flight) (tabulate_get w.config.endpoints (λ x. part_wire w.config.first w.mappings (w.part x)) e low)

pub may_use : (w : World) (e f : ℕ) → IsReached w → is_usable_at (wire w) e f ≡ true → MayUse w e f
may_use w e f i h = go (slice_get (wire w).parts e) refl
  where
    parts : ℕ → EndpointWire
    parts x = part_wire w.config.first w.mappings (w.part x)

    go : (o : Option EndpointWire) → slice_get (wire w).parts e ≡ o → MayUse w e f
    go None at = absurd (cc (sym h ∙ ap (usable_in e f (wire w).in_flight) at))
    go (Some x) at =
        let low : e < w.config.endpoints = subst (λ z. e < z) (tabulate_length w.config.endpoints parts) (slice_get_within (wire w).parts e x at) in
        by_there w e f i (sym (usable_at w e f low) ∙ h)
