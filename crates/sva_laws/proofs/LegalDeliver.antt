-- What a delivery has tested: the message is in flight, and overtakes nothing that it must not.
use Rattle.std.proofs.Common.{◌≡◌, ◌≢◌, refl, ap, sym, ◌∙◌, ℕ, ◌<◌, Bool, true, false, arith}
use Rattle.std.specs.Prelude.{Option, Some, None, if◌then◌else◌, [], ◌∷◌}
use Rattle.std.proofs.lemmas.Bool.{not-false, not-true}
use Rattle.sva_step.specs.declared.steps.Step.TheVariants as step
use Rattle.sva_model.specs.Words.{any_below, is_some}
use Rattle.sva_model.specs.LinkOrder.{MessageKind, stays_behind}
use Rattle.sva_model.specs.LinkOrder.MessageKind.{StartKind, StopKind, ResetKind, MarkerKind, PageRequestKind, ResetDoneKind}
use Rattle.sva_model.specs.State.{Endpoint, World, Subject, RequestState, Stage}
use Rattle.sva_model.specs.State.Stage.{Live}
use Rattle.sva_model.specs.State.RequestState.{Out, Doomed, Over}
use Rattle.sva_model.specs.State.Subject.{StartOf, StopOf, FunctionReset, CompletionOf, InvalidateOf, ResponseOf, RequestOf, InvalidatedOf, PageRequestOf}
use Rattle.sva_model.specs.State.Subject.{MarkerOf, ResetDone}
use Rattle.sva_model.specs.States.{is_open, is_live_stage, is_out}
use Rattle.sva_model.specs.Acts.{Act, LocalAct}
use Rattle.sva_model.specs.Refusals.{refusals}
use Rattle.sva_model.specs.Outcomes.{outcome, subject_outcome, deliver_outcome, completion_outcome, keep_outcome, is_full, request_outcome, found_for}
use Rattle.sva_model.specs.Outcomes.{completion_message, count_outcome, page_request_outcome, marker_outcome}
use Rattle.sva_model.specs.Labels
use Rattle.sva_labels.proofs.Words.{any_below-false}
use Rattle.sva_laws.proofs.Legal.{NoOlderDown, NoOlderPageRequest}
use Rattle.sva_laws.proofs.Invariant.{Invariant}
use Rattle.sva_laws.proofs.Passed.{Passed, LegalAll}
use Rattle.sva_laws.proofs.Resets.{open_is}

-- what is permitted stays behind nothing that is older
nothing_held : (p : Endpoint) (c : ℕ) (subject : Subject) → Labels.is_permitted p c subject ≡ true → (d : ℕ) → d < c
    → Labels.holds_back p (Labels.kind_of p subject) (p.message d) ≡ false
nothing_held p c subject h d l =
    any_below-false c (λ d. Labels.holds_back p (Labels.kind_of p subject) (p.message d))
    (not-true (any_below c (λ d. Labels.holds_back p (Labels.kind_of p subject) (p.message d))) h) d l

not_held : (p : Endpoint) (s : MessageKind) (d : ℕ) (older : Subject) → Labels.holds_back p s (p.message d) ≡ false → stays_behind s (Labels.kind_of p older)
    ≡ true → p.message d ≢ Some older
not_held p s d older h b e = absurd (cc (sym h ∙ ap (Labels.holds_back p s) e ∙ b))

-- a start, a stop or a reset
order_down : (p : Endpoint) (c : ℕ) (s : MessageKind) → ((older : MessageKind) → stays_behind s older ≡ stays_behind ResetKind older)
    → ((d : ℕ) → d < c → Labels.holds_back p s (p.message d) ≡ false) → NoOlderDown p c
order_down p c s alike h =
    record {
      no_start = λ d b l. not_held p s d (StartOf b) (h d l) (alike StartKind);
      no_stop = λ d b l. not_held p s d (StopOf b) (h d l) (alike StopKind);
      no_reset = λ d l. not_held p s d FunctionReset (h d l) (alike ResetKind);
      no_invalidate = λ d k l. not_held p s d (InvalidateOf k) (h d l) (alike (Labels.kind_of p (InvalidateOf k)));
      no_response = λ d g code l. not_held p s d (ResponseOf g code) (h d l) (alike (Labels.kind_of p (ResponseOf g code)));
    }

marker_behind : (p : Endpoint) (c : ℕ) → ((d : ℕ) → d < c → Labels.holds_back p MarkerKind (p.message d) ≡ false) → NoOlderPageRequest p c
marker_behind p c h d r l = not_held p MarkerKind d (PageRequestOf r) (h d l) refl

last_behind : (p : Endpoint) (c r : ℕ) → ((d : ℕ) → d < c → Labels.holds_back p (PageRequestKind (p.is_last r)) (p.message d) ≡ false) → p.is_last r
    ≡ true → NoOlderPageRequest p c
last_behind p c r h last d x l =
    not_held p (PageRequestKind (p.is_last r)) d (PageRequestOf x) (h d l) (ap (λ b. stays_behind (PageRequestKind b) (PageRequestKind (p.is_last x))) last)

done_behind : (p : Endpoint) (c : ℕ) → ((d : ℕ) → d < c → Labels.holds_back p ResetDoneKind (p.message d) ≡ false) → (d : ℕ) → d < c → p.message d ≡ None
done_behind p c h d l = go (p.message d) (h d l)
  where
    go : (o : Option Subject) → Labels.holds_back p ResetDoneKind o ≡ false → o ≡ None
    go None k = refl
    go (Some a) k = absurd (cc)

keep_legal : (w : World) (e c r m : ℕ) (b : Bool) → e < w.config.endpoints → (w.part e).message c ≡ Some (CompletionOf r (Some m))
    → (w.part e).request r ≡ Out → LegalAll w (keep_outcome e c r m b).acts
keep_legal w e c r m true l h o = ((l, ((Some m, h, ap is_out o), tt), tt), tt)
keep_legal w e c r m false l h o = ((l, ((h, o), tt), tt), tt)

completion_legal : (w : World) (e c r : ℕ) (found : Option ℕ) (s : RequestState) → e < w.config.endpoints → (w.part e).message c
    ≡ Some (CompletionOf r found) → (w.part e).request r ≡ s → LegalAll w (completion_outcome (w.part e) e c r found s).acts
completion_legal w e c r (Some m) Out l h o = keep_legal w e c r m (is_full (w.part e) r) l h o
completion_legal w e c r None Out l h o = ((l, ((None, h, ap is_out o), tt), tt), tt)
completion_legal w e c r (Some m) Doomed l h o = ((l, ((Some m, h, ap is_out o), tt), tt), tt)
completion_legal w e c r None Doomed l h o = ((l, ((None, h, ap is_out o), tt), tt), tt)
completion_legal w e c r (Some m) Over l h o = ((l, ((CompletionOf r (Some m), h, ap is_out o), tt), tt), tt)
completion_legal w e c r None Over l h o = ((l, ((CompletionOf r None, h, ap is_out o), tt), tt), tt)

request_legal : (w : World) (e c r : ℕ) (b : Bool) → e < w.config.endpoints → (w.part e).message c ≡ Some (RequestOf r) → is_open (w.part e).phase
    ≡ b → LegalAll w (request_outcome w (w.part e) e c r b).acts
request_legal w e c r false l h o = ((l, ((RequestOf r, h, o), tt), tt), tt)
request_legal w e c r true l h o = go (found_for w (w.part e) r) refl
  where
    live : (b : Bool) (x : Option ℕ) (m : ℕ) → (if b then x else None) ≡ Some m → (b ≡ true) × (x ≡ Some m)
    live true x m k = (refl, k)
    live false x m k = absurd (cc)

    live_is : (s : Stage) → is_live_stage s ≡ true → s ≡ Live
    live_is s k = grind arith

    go : (x : Option ℕ) → found_for w (w.part e) r ≡ x
        → LegalAll w (Act.AtEndpoint e (LocalAct.Complete c r x (completion_message w ((w.part e).request_tag r) x)) ∷ [])
    go None f = ((l, ((h, open_is (w.part e) o, refl), tt), tt), tt)
    go (Some m) f =
        let there = live (is_live_stage ((w.part e).stage ((w.part e).request_binding r)))
        (w.mappings.at ((w.part e).space ((w.part e).request_binding r)) ((w.part e).request_page r)) m f in
        ((l, ((h, open_is (w.part e) o, live_is ((w.part e).stage ((w.part e).request_binding r)) there.0, there.1, refl), tt), tt), tt)

count_legal : (w : World) (e c : ℕ) (names : ℕ → Bool) (b : Bool) → e < w.config.endpoints → (w.part e).message c ≡ Some (InvalidatedOf names)
    → is_open (w.part e).phase ≡ b → LegalAll w (count_outcome (w.part e) e c names b).acts
count_legal w e c names true l h o = ((l, ((h, open_is (w.part e) o), tt), tt), tt)
count_legal w e c names false l h o = ((l, ((InvalidatedOf names, h, o), tt), tt), tt)

page_request_legal : (w : World) (e c r : ℕ) (b : Bool) → e < w.config.endpoints → (w.part e).message c ≡ Some (PageRequestOf r)
    → ((w.part e).is_last r ≡ true → NoOlderPageRequest (w.part e) c) → is_open (w.part e).phase ≡ b → LegalAll w (page_request_outcome e c r b).acts
page_request_legal w e c r true l h n o = ((l, ((h, open_is (w.part e) o, n), tt), tt), tt)
page_request_legal w e c r false l h n o = ((l, ((h, o), tt), tt), tt)

marker_legal : (w : World) (e c d : ℕ) (b : Bool) → e < w.config.endpoints → (w.part e).message c ≡ Some (MarkerOf d)
    → NoOlderPageRequest (w.part e) c → is_open (w.part e).phase ≡ b → LegalAll w (marker_outcome e c d b).acts
marker_legal w e c d true l h n o = ((l, ((h, open_is (w.part e) o, n), tt), tt), tt)
marker_legal w e c d false l h n o = ((l, ((MarkerOf d, h, o), tt), tt), tt)

subject_legal : (w : World) (e c : ℕ) (a : Subject) → e < w.config.endpoints → (w.part e).message c ≡ Some a → Labels.is_permitted (w.part e) c a ≡ true
    → LegalAll w (subject_outcome w (w.part e) e c a).acts
subject_legal w e c (StartOf b) l h p = ((l, ((h, order_down (w.part e) c StartKind (λ s. refl) (nothing_held (w.part e) c (StartOf b) p)), tt), tt), tt)
subject_legal w e c (StopOf b) l h p = ((l, ((h, order_down (w.part e) c StopKind (λ s. refl) (nothing_held (w.part e) c (StopOf b) p)), tt), tt), tt)
subject_legal w e c FunctionReset l h p = ((l, ((h, order_down (w.part e) c ResetKind (λ s. refl) (nothing_held (w.part e) c FunctionReset p)), tt), tt), tt)
subject_legal w e c (CompletionOf r found) l h p = completion_legal w e c r found ((w.part e).request r) l h refl
subject_legal w e c (InvalidateOf k) l h p = ((l, (h, tt), tt), tt)
subject_legal w e c (ResponseOf g code) l h p = ((l, (h, tt), tt), tt)
subject_legal w e c (RequestOf r) l h p = request_legal w e c r (is_open (w.part e).phase) l h refl
subject_legal w e c (InvalidatedOf names) l h p = count_legal w e c names (is_open (w.part e).phase) l h refl
subject_legal w e c (PageRequestOf r) l h p =
    page_request_legal w e c r (is_open (w.part e).phase) l h (last_behind (w.part e) c r (nothing_held (w.part e) c (PageRequestOf r) p)) refl
subject_legal w e c (MarkerOf b) l h p =
    marker_legal w e c b (is_open (w.part e).phase) l h (marker_behind (w.part e) c (nothing_held (w.part e) c (MarkerOf b) p)) refl
subject_legal w e c ResetDone l h p = ((l, ((h, done_behind (w.part e) c (nothing_held (w.part e) c ResetDone p)), tt), tt), tt)

message_legal : (w : World) (e c : ℕ) (o : Option Subject) → Invariant w → (w.part e).message c ≡ o → Labels.is_permitted_now (w.part e) c o ≡ true
    → LegalAll w (deliver_outcome w (w.part e) e c o).acts
message_legal w e c None i h p = tt
message_legal w e c (Some a) i h p = subject_legal w e c a ((i.parts e).near c (ap is_some h)) h p

pub deliver : (w : World) (n : ℕ) → Invariant w → Passed (refusals w (step.Deliver n)) → LegalAll w (outcome w (step.Deliver n)).acts
deliver w n i h =
    let c = Labels.name w n in
    let e = w.link_of c in
    message_legal w e c ((w.part e).message c) i refl (not-false (Labels.is_permitted_now (w.part e) c ((w.part e).message c)) h.1.0)
