-- A translation is usable by names: so what is kept of the world says.
use Rattle.std.proofs.Common.{◌≡◌, ◌≢◌, refl, ap, sym, subst, ◌∙◌, ℕ, ◌<◌, ◌≤◌, Bool, true, false, arith}
use Rattle.std.specs.Prelude.{if◌then◌else◌, ◌==◌, ◌&&◌, not, Some, None, option_map}
use Rattle.std.specs.List.{list_any}
use Rattle.std.proofs.lemmas.Bool.{and_from, eq-eqb}
use Rattle.sva_model.specs.Words.{is_some, the}
use Rattle.sva_model.specs.State.{UseState, Endpoint, World}
use Rattle.sva_model.specs.State.RequestState.{Out}
use Rattle.sva_model.specs.State.UseState.{Running, Ended}
use Rattle.sva_model.specs.State.Subject.{CompletionOf}
use Rattle.sva_model.specs.States.{is_running}
use Rattle.sva_model.specs.States.{is_out as is_out_at}
use Rattle.sva_model.specs.Wire.{TranslationWire, wire, device_wire, cache_wire, use_wire, flight_wire, request_wire, is_doomed, translation_wire}
use Rattle.sva_model.specs.Wire.UseWire.{RunningWire, DeadWire}
use Rattle.sva_model.specs.Claims.{Usable}
use Rattle.sva_model.specs.Claims.Usable.{cached, in_use, under_way}
use Rattle.sva_labels.proofs.Words.{any_below-intro}
use Rattle.sva_labels.specs.Finding.{tag_at}
use Rattle.sva_laws.proofs.Invariant.{Invariant}
use Rattle.sva_laws.proofs.Agreement.{owner}
use Rattle.sva_laws.proofs.Found.{labelled}
use Rattle.sva_laws.proofs.Passed.{unreleased_bound}
use Rattle.sva_refinement.proofs.EndpointLookups.{tag_seen}
use Rattle.sva_refinement.proofs.Reached.{IsReached}
use Rattle.sva_refinement.proofs.SentTo.{was_sent}
use Rattle.sva_race_parts.specs.Usable.{is_to, is_use_to, is_out, carries, brings, is_usable_by, is_usable_at}
use Rattle.sva_script_laws.specs.ByNames.{MayUse}
use Rattle.sva_script_laws.proofs.Lists.{first_of_three, second_of_three, third_of_three}
use Rattle.sva_script_laws.proofs.There.{cached_is, used_is, coming_is, usable_at}

held_low : (p : Endpoint) (r m : ℕ) → (p.requests ≤ r → p.held r ≡ None) → p.held r ≡ Some m → r < p.requests
held_low p r m h k = grind (arith, h)

cached_back : (w : World) (e r m : ℕ) → IsReached w → (w.part e).held r ≡ Some m
    → list_any (is_to (w.mappings.frame m)) (cache_wire w.mappings (w.part e)) ≡ true
cached_back w e r m i h =
    let p = w.part e in
    let f = w.mappings.frame m in
    cached_is w.mappings p f
    ∙ any_below-intro p.requests (λ x. is_some (p.held x) && (w.mappings.frame (the (p.held x)) == f)) r
    (held_low p r m ((i.invariant.parts e).bounds.held r) h)
    (and_from (is_some (p.held r)) (w.mappings.frame (the (p.held r)) == f) (ap is_some h)
    (eq-eqb (w.mappings.frame (the (p.held r))) f (ap (λ z. w.mappings.frame (the z)) h)))

not_ended : (s : UseState) → s ≡ Running → s ≢ Ended
not_ended s h k = absurd (cc)

runs_to : (b : Bool) (f : ℕ) (t : TranslationWire) → b ≡ true → t.frame ≡ f → is_use_to f (Some (if b then RunningWire t else DeadWire)) ≡ true
runs_to true f t h same = eq-eqb t.frame f same
runs_to false f t h same = absurd (cc)

used_back : (w : World) (e u : ℕ) → IsReached w → (w.part e).use_state u ≡ Running
    → list_any (is_use_to (w.mappings.frame ((w.part e).use_mapping u))) (device_wire w.mappings (w.part e)).slots ≡ true
used_back w e u i h =
    let p = w.part e in
    let f = w.mappings.frame (p.use_mapping u) in
    let la = labelled w e i.invariant in
    let at = (la.slot (p.use_slot u) u).1 (not_ended (p.use_state u) h, refl) in
    used_is w.mappings p f
    ∙ any_below-intro 16 (λ t. is_use_to f (option_map (use_wire w.mappings p) (p.at_slot t))) (p.use_slot u)
    (la.slot_low u (not_ended (p.use_state u) h))
    (ap (λ z. is_use_to f (option_map (use_wire w.mappings p) z)) at
    ∙ runs_to (is_running (p.use_state u)) f (translation_wire w.mappings p (p.use_binding u) (w.mappings.page (p.use_mapping u)) (p.use_mapping u))
    (ap is_running h) refl)

coming_back : (w : World) (e c r m : ℕ) → IsReached w → (w.part e).message c ≡ Some (CompletionOf r (Some m)) → (w.part e).request r ≡ Out
    → list_any (brings (device_wire w.mappings (w.part e)) e (w.mappings.frame m)) (wire w).in_flight ≡ true
coming_back w e c r m i h o =
    coming_is w e f
    ∙ any_below-intro w.messages (λ x. is_some ((w.part (w.link_of x)).message x) && brings (device_wire w.mappings p) e f (flight_wire w x)) c
    (was_sent w.messages p (i.invariant.parts e).resets c there)
    (and_from (is_some ((w.part (w.link_of c)).message c)) (brings (device_wire w.mappings p) e f (flight_wire w c))
    (subst (λ z. is_some ((w.part z).message c) ≡ true) (sym link) there)
    (and_from (w.link_of c == e) (carries (device_wire w.mappings p) f ((w.part (w.link_of c)).carried c)) (eq-eqb (w.link_of c) e link)
    (subst (λ z. carries (device_wire w.mappings p) f ((w.part z).carried c) ≡ true) (sym link) its)))
  where
    p : Endpoint
    p = w.part e

    f : ℕ
    f = w.mappings.frame m

    there : is_some (p.message c) ≡ true
    there = ap is_some h

    link : w.link_of c ≡ e
    link = i.sent e c there

    at : p.at_tag (p.request_tag r) ≡ Some r
    at = ((labelled w e i.invariant).tag (p.request_tag r) r).1 (ap is_out_at o, refl)

    out : is_out (tag_at (device_wire w.mappings p) (p.request_tag r)) ≡ true
    out =
        ap is_out (tag_seen w.mappings p (i.invariant.parts e).labels (p.request_tag r) ∙ ap (option_map (request_wire p)) at)
        ∙ ap (λ z. not (is_doomed z)) o

    its : carries (device_wire w.mappings p) f (p.carried c) ≡ true
    its =
        ap (carries (device_wire w.mappings p) f) ((i.carried e).completion c r m h)
        ∙ and_from (f == f) (is_out (tag_at (device_wire w.mappings p) (p.request_tag r))) (eq-eqb f f refl) out

by_back : (w : World) (e b q m : ℕ) → IsReached w → Usable w e b q m
    → is_usable_by (device_wire w.mappings (w.part e)) e (w.mappings.frame m) (wire w).in_flight ≡ true
by_back w e b q m i (cached r k h) =
    first_of_three (list_any (is_to (w.mappings.frame k)) (device_wire w.mappings (w.part e)).cache)
    (list_any (is_use_to (w.mappings.frame k)) (device_wire w.mappings (w.part e)).slots)
    (list_any (brings (device_wire w.mappings (w.part e)) e (w.mappings.frame k)) (wire w).in_flight) (cached_back w e r k i h)
by_back w e b q m i (in_use u h) =
    let f = w.mappings.frame ((w.part e).use_mapping u) in
    second_of_three (list_any (is_to f) (device_wire w.mappings (w.part e)).cache) (list_any (is_use_to f) (device_wire w.mappings (w.part e)).slots)
    (list_any (brings (device_wire w.mappings (w.part e)) e f) (wire w).in_flight) (used_back w e u i h)
by_back w e b q m i (under_way c r k h o) =
    third_of_three (list_any (is_to (w.mappings.frame k)) (device_wire w.mappings (w.part e)).cache)
    (list_any (is_use_to (w.mappings.frame k)) (device_wire w.mappings (w.part e)).slots)
    (list_any (brings (device_wire w.mappings (w.part e)) e (w.mappings.frame k)) (wire w).in_flight) (coming_back w e c r k i h o)

near : (w : World) (e b q m : ℕ) → Invariant w → Usable w e b q m → e < w.config.endpoints
near w e b q m i u = (i.parts e).there b (unreleased_bound (w.part e) b (owner w e b q m i u))

pub is_seen : (w : World) (e f : ℕ) → IsReached w → MayUse w e f → is_usable_at (wire w) e f ≡ true
is_seen w e f i x =
    subst (λ z. is_usable_at (wire w) e z ≡ true) x.leads
    (usable_at w e (w.mappings.frame x.mapping) (near w e x.binding x.page x.mapping i.invariant x.usable)
    ∙ by_back w e x.binding x.page x.mapping i x.usable)
