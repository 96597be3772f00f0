-- Steps of this project's own host are acts of the open world.
use Rattle.std.proofs.Common.{◌≡◌, inl, inr, refl, ap, sym, subst, ◌∙◌, ℕ, ◌<◌, ◌≤◌, Bool, true, false, arith}
use Rattle.std.specs.Prelude.{◌&&◌, ◌||◌, nat_lt, List, [], ◌∷◌, Some, None, option_and_then, Ok, Option}
use Rattle.std.proofs.lemmas.Bool.{not-false}
use Rattle.std.proofs.lemmas.Bool.Decides.{nat_tests}
use Rattle.std.proofs.lemmas.Option.{same_Some}
use Rattle.sva_step.specs.declared.answers.Answer.{Answer}
use Rattle.sva_step.specs.declared.limits.Config.{Config}
use Rattle.sva_step.specs.declared.steps.Step.{Step}
use Rattle.sva_step.specs.declared.steps.Step.TheVariants as step
use Rattle.sva_model.specs.Words.{any_below, is_some, the}
use Rattle.sva_model.specs.State.{PasidRule, PasidState, RequestState, Subject, UseState, World}
use Rattle.sva_model.specs.State.RequestState.{Out, Doomed, Over}
use Rattle.sva_model.specs.State.Subject.{CompletionOf, InvalidateOf, PageRequestOf, RequestOf, ResponseOf, StartOf}
use Rattle.sva_model.specs.State.PasidState.{On}
use Rattle.sva_model.specs.State.UseState.{Running, Dead, Ended}
use Rattle.sva_model.specs.States.{is_free, is_on, is_open, is_out, is_running, is_taken}
use Rattle.sva_model.specs.Acts.{Act, LocalAct, act}
use Rattle.sva_model.specs.Acts.Act.{AtEndpoint, Map, NewSpace}
use Rattle.sva_model.specs.Labels
use Rattle.sva_model.specs.Refusals.{refusals}
use Rattle.sva_model.specs.Outcomes.{completion_message, completion_outcome, deliver_outcome, found_for, is_full, keep_outcome, outcome}
use Rattle.sva_model.specs.Outcomes.{page_request_outcome, request_outcome}
use Rattle.sva_model.specs.Steps.{after_acts, decide, next, reply, world_after}
use Rattle.sva_labels.proofs.Tests.{first_fails, is_less, second_fails}
use Rattle.sva_labels.proofs.Words.{any_below-false, lowest_passes, none_is}
use Rattle.sva_laws.specs.LabelLaws.{FindsMappings}
use Rattle.sva_laws.proofs.Completions.{Owed, always_owed}
use Rattle.sva_laws.proofs.Invariant.{Invariant}
use Rattle.sva_laws.proofs.Latest.{always_finds}
use Rattle.sva_laws.proofs.LegalEndpoint.{cached_is}
use Rattle.sva_laws.proofs.LegalHost.{bind}
use Rattle.sva_laws.proofs.Lookback.{after_one}
use Rattle.sva_laws.proofs.Passed.{Passed, bearer_of, label_free, label_low, opened_is}
use Rattle.sva_laws.proofs.Runs.{always}
use Rattle.sva_laws.proofs.Told.{accepted}
use Rattle.sva_open.specs.declared.acts.Act.{Act as Doing}
use Rattle.sva_open.specs.declared.acts.Act.TheVariants as doing
use Rattle.sva_open.specs.declared.acts.LocalAct.TheVariants as local
use Rattle.sva_open.specs.World.{Open}
use Rattle.sva_open.specs.Acts.{next_open}
use Rattle.sva_open_laws.specs.AsActs.{StepsAreActs, acted, acts_of, begin_acts, bind_acts, comes_late, deliver_acts, end_acts, freed_by}
use Rattle.sva_open_laws.specs.AsActs.{has_taken, is_kept_late, is_left_open, place_of_use, pump_acts, unless_so}
use Rattle.sva_open_laws.specs.AsOpen.{is_doomed, open_of}
use Rattle.sva_open_laws.specs.LinkOrders.{place_of_message}
use Rattle.sva_open_laws.proofs.AnswerActs.{forgets, ignores}
use Rattle.sva_open_laws.proofs.ArrivalActs.{arrives, misses}
use Rattle.sva_open_laws.proofs.ArriveActs.{answers}
use Rattle.sva_open_laws.proofs.AskActs.{asks, ends, ends_none}
use Rattle.sva_open_laws.proofs.BindActs.{binds_open}
use Rattle.sva_open_laws.proofs.DeviceActs.{begins, evicts}
use Rattle.sva_open_laws.proofs.KeepActs.{keeps}
use Rattle.sva_open_laws.proofs.MapActs.{makes_space, maps}
use Rattle.sva_open_laws.proofs.PumpSteps.{pumps_acted}
use Rattle.sva_open_laws.proofs.QueueOrder.{InOrder, always_in_order}
use Rattle.sva_open_laws.proofs.RequestActs.{drops, requests_answered}
use Rattle.sva_open_laws.proofs.StartActs.{starts}
use Rattle.sva_open_laws.proofs.TakeActs.{takes}

-- ---- Acts, one after another

none_acted : (now after : Open) → now ≡ after → acted [] now ≡ Some after
unfolding acted
none_acted now after is = ap Some is

one_acted : (its : Doing) (now after : Open) → next_open now its ≡ Some after → acted (its ∷ []) now ≡ Some after
unfolding acted
one_acted its now after is = ap (option_and_then (λ x. Some x)) is

-- ---- Each step

-- so it is of a world and its step
abbrev IsActed : World → Step → List Doing → Type 0
IsActed w s acts = acted acts (open_of w) ≡ Some (open_of (next w s))

-- what the step leaves, by its one act
by_act : (w : World) (s : Step) (a : Act) (acts : List Doing) → (decide w s).acts ≡ a ∷ [] → acted acts (open_of w) ≡ Some (open_of (act w a))
    → IsActed w s acts
by_act w s a acts is so = subst (λ l. acted acts (open_of w) ≡ Some (open_of (after_acts w l))) (sym is) so

idle : (w : World) (s : Step) → (decide w s).acts ≡ [] → IsActed w s []
idle w s is = none_acted (open_of w) (open_of (next w s)) (ap (λ l. open_of (after_acts w l)) (sym is))

on_is : (s : PasidState) → is_on s ≡ true → s ≡ On
on_is s h = grind arith

below_33 : (t : ℕ) → t ≤ 32 → t < 33
below_33 t h = omega (arith, h)

started : (w : World) (e t : ℕ) → Labels.is_started (w.part e) t ≡ true
    → ((w.part e).at_pasid t ≡ Some (Labels.bearer (w.part e) t)) × (is_on ((w.part e).pasid_state (Labels.bearer (w.part e) t)) ≡ true)
started w e t h = bearer_of (w.part e) t (λ b. is_on ((w.part e).pasid_state b)) h

bears : (w : World) (e t q : ℕ) → Labels.is_cached (w.part e) t q ≡ true → (w.part e).at_pasid t ≡ Some (Labels.bearer (w.part e) t)
bears w e t q h = (bearer_of (w.part e) t (λ b. any_below (w.part e).requests (Labels.is_held_at (w.part e) b q)) h).0

ended : (w : World) (e u : ℕ) (i : Invariant w) → e < w.config.endpoints → (x : UseState) → (w.part e).use_state u ≡ x
    → acted (end_acts (w.part e) e u x) (open_of w) ≡ Some (open_of (act w (AtEndpoint e (LocalAct.End u))))
ended w e u i low Running h =
    one_acted (doing.At e (local.End (place_of_use (w.part e) u))) (open_of w) (open_of (act w (AtEndpoint e (LocalAct.End u)))) (ends w e u i low h)
ended w e u i low Dead h =
    none_acted (open_of w) (open_of (act w (AtEndpoint e (LocalAct.End u)))) (ends_none w e u i low (ap is_running h))
ended w e u i low Ended h =
    none_acted (open_of w) (open_of (act w (AtEndpoint e (LocalAct.End u)))) (ends_none w e u i low (ap is_running h))

begun : (w : World) (e t q : ℕ) (x : Bool) (i : Invariant w) (acts : List Doing) → Passed (refusals w (step.BeginUse e t q x))
    → (taken : Bool) → has_taken (w.part e) ≡ taken → begin_acts taken e t q ≡ Some acts
    → acted acts (open_of w)
    ≡ Some (open_of (act w (AtEndpoint e (LocalAct.Begin (Labels.cached (w.part e) (Labels.bearer (w.part e) t) q)
    (the ((w.part e).held (Labels.cached (w.part e) (Labels.bearer (w.part e) t) q))) (Labels.lowest_label 16 (w.part e).at_slot)))))
begun w e t q x i acts h true taken is = absurd (cc)
begun w e t q x i acts h false taken is =
    let p = w.part e in
    let cached = not-false (Labels.is_cached p t q) h.1.1.1.0 in
    let on = started w e t (not-false (Labels.is_started p t) h.1.1.0) in
    let r = Labels.cached p (Labels.bearer p t) q in
    let slot = Labels.lowest_label 16 p.at_slot in
    subst (λ l. acted l (open_of w) ≡ Some (open_of (act w (AtEndpoint e (LocalAct.Begin r (the (p.held r)) slot)))))
    (same_Some (doing.At e (local.Use t q) ∷ []) acts is)
    (one_acted (doing.At e (local.Use t q)) (open_of w) (open_of (act w (AtEndpoint e (LocalAct.Begin r (the (p.held r)) slot))))
    (begins w e t q i (cached_is p t q cached) on.0 slot (is_less e w.config.endpoints h.0) (on_is (p.pasid_state (Labels.bearer p t)) on.1) taken))

-- what is said only where a test fails
unless_is : (b : Bool) (its acts : List Doing) → unless_so b its ≡ Some acts → (b ≡ false) × (its ≡ acts)
unless_is true its acts h = absurd (cc)
unless_is false its acts h = (refl, same_Some its acts h)

none_newer : (k n : ℕ) (f : ℕ → Bool) → any_below n (λ j. nat_lt k j && f j) ≡ false → (j : ℕ) → k < j → j < n → f j ≡ false
none_newer k n f h j l m = by (f j) (any_below-false n (λ x. nat_lt k x && f x) h j m)
  where
    by : (b : Bool) → (nat_lt k j && b) ≡ false → b ≡ false
    by b none = grind (arith, nat_tests)

-- the answer to a request, by what was found and the state of the request
answered : (w : World) (n r : ℕ) (acts : List Doing) → Invariant w → (o : Option ℕ) (s : RequestState)
    → (w.part (w.link_of (Labels.name w n))).request r ≡ s
    → (w.part (w.link_of (Labels.name w n))).message (Labels.name w n) ≡ Some (CompletionOf r o)
    → Labels.is_permitted (w.part (w.link_of (Labels.name w n))) (Labels.name w n) (CompletionOf r o) ≡ true
    → (decide w (step.Deliver n)).acts
    ≡ (completion_outcome (w.part (w.link_of (Labels.name w n))) (w.link_of (Labels.name w n)) (Labels.name w n) r o
    ((w.part (w.link_of (Labels.name w n))).request r)).acts
    → unless_so (is_left_open (w.part (w.link_of (Labels.name w n))) r o ((w.part (w.link_of (Labels.name w n))).request r))
    (doing.At (w.link_of (Labels.name w n))
    (local.Deliver (place_of_message w.mappings (w.part (w.link_of (Labels.name w n))) (Labels.name w n))) ∷ []) ≡ Some acts
    → IsActed w (step.Deliver n) acts
answered w n r acts i o s state speaks permitted does is =
    go o s state speaks permitted (does ∙ ap (λ z. (completion_outcome (w.part e) e c r o z).acts) state)
    (ap (λ z. unless_so (is_left_open (w.part e) r o z) (its ∷ [])) (sym state) ∙ is)
  where
    c : ℕ
    c = Labels.name w n

    e : ℕ
    e = w.link_of (Labels.name w n)

    its : Doing
    its = doing.At e (local.Deliver (place_of_message w.mappings (w.part e) c))

    low : (found : Option ℕ) → (w.part e).message c ≡ Some (CompletionOf r found) → e < w.config.endpoints
    low found h = (i.parts e).near c (ap is_some h)

    by : (a : LocalAct) → its ∷ [] ≡ acts → (decide w (step.Deliver n)).acts ≡ AtEndpoint e a ∷ []
        → next_open (open_of w) its ≡ Some (open_of (act w (AtEndpoint e a))) → IsActed w (step.Deliver n) acts
    by a same does leads =
        subst (IsActed w (step.Deliver n)) same
        (by_act w (step.Deliver n) (AtEndpoint e a) (its ∷ []) does (one_acted its (open_of w) (open_of (act w (AtEndpoint e a))) leads))

    go : (found : Option ℕ) (x : RequestState) → (w.part e).request r ≡ x → (w.part e).message c ≡ Some (CompletionOf r found)
        → Labels.is_permitted (w.part e) c (CompletionOf r found) ≡ true
        → (decide w (step.Deliver n)).acts ≡ (completion_outcome (w.part e) e c r found x).acts
        → unless_so (is_left_open (w.part e) r found x) (its ∷ []) ≡ Some acts → IsActed w (step.Deliver n) acts
    go (Some m) Out h sp pe does is =
        let early = unless_is (is_full (w.part e) r || is_kept_late (w.part e) r) (its ∷ []) acts is in
        by (LocalAct.Keep c r m) early.1
        (does ∙ ap (λ b. (keep_outcome e c r m b).acts) (first_fails (is_full (w.part e) r) (is_kept_late (w.part e) r) early.0))
        (keeps w e c r m i (low (Some m) sp) sp pe h
        (none_newer r (w.part e).requests (λ x. is_some ((w.part e).held x))
        (second_fails (is_full (w.part e) r) (is_kept_late (w.part e) r) early.0)))
    go None Out h sp pe does is =
        by (LocalAct.Forget c r) (same_Some (its ∷ []) acts is) does (forgets w e c r None i (low None sp) sp pe (ap is_out h) (inr refl))
    go (Some m) Doomed h sp pe does is =
        by (LocalAct.Forget c r) (same_Some (its ∷ []) acts is) does
        (forgets w e c r (Some m) i (low (Some m) sp) sp pe (ap is_out h) (inl (ap is_doomed h)))
    go None Doomed h sp pe does is =
        by (LocalAct.Forget c r) (same_Some (its ∷ []) acts is) does (forgets w e c r None i (low None sp) sp pe (ap is_out h) (inr refl))
    go (Some m) Over h sp pe does is =
        by (LocalAct.Ignore c) (same_Some (its ∷ []) acts is) does (ignores w e c r (Some m) i (low (Some m) sp) sp pe h)
    go None Over h sp pe does is =
        by (LocalAct.Ignore c) (same_Some (its ∷ []) acts is) does (ignores w e c r None i (low None sp) sp pe h)

-- a delivery, by what the message speaks of
delivers : (w : World) (n : ℕ) (acts : List Doing) → Invariant w → FindsMappings w.mappings → (o : Option Subject)
    → (w.part (w.link_of (Labels.name w n))).message (Labels.name w n) ≡ o
    → Labels.is_permitted_now (w.part (w.link_of (Labels.name w n))) (Labels.name w n) o ≡ true
    → (decide w (step.Deliver n)).acts
    ≡ (deliver_outcome w (w.part (w.link_of (Labels.name w n))) (w.link_of (Labels.name w n)) (Labels.name w n)
    ((w.part (w.link_of (Labels.name w n))).message (Labels.name w n))).acts
    → deliver_acts (w.part (w.link_of (Labels.name w n))) (w.link_of (Labels.name w n))
    (place_of_message w.mappings (w.part (w.link_of (Labels.name w n))) (Labels.name w n)) o ≡ Some acts
    → IsActed w (step.Deliver n) acts
delivers w n acts i fi (Some (StartOf b)) speaks permitted does is =
    let c = Labels.name w n in
    let e = w.link_of c in
    let its = doing.At e (local.Deliver (place_of_message w.mappings (w.part e) c)) in
    let a = AtEndpoint e (LocalAct.Start_arrives c b) in
    subst (IsActed w (step.Deliver n)) (same_Some (its ∷ []) acts is)
    (by_act w (step.Deliver n) a (its ∷ []) (does ∙ ap (λ z. (deliver_outcome w (w.part e) e c z).acts) speaks)
    (one_acted its (open_of w) (open_of (act w a)) (starts w e c b i ((i.parts e).near c (ap is_some speaks)) speaks permitted)))
delivers w n acts i fi (Some (ResponseOf g code)) speaks permitted does is =
    let c = Labels.name w n in
    let e = w.link_of c in
    let its = doing.At e (local.Deliver (place_of_message w.mappings (w.part e) c)) in
    let a = AtEndpoint e (LocalAct.Answered c g code) in
    subst (IsActed w (step.Deliver n)) (same_Some (its ∷ []) acts is)
    (by_act w (step.Deliver n) a (its ∷ []) (does ∙ ap (λ z. (deliver_outcome w (w.part e) e c z).acts) speaks)
    (one_acted its (open_of w) (open_of (act w a))
    (answers w e c g code i ((i.parts e).near c (ap is_some speaks)) speaks permitted)))
delivers w n acts i fi (Some (InvalidateOf k)) speaks permitted does is =
    let c = Labels.name w n in
    let e = w.link_of c in
    let its = doing.At e (local.Deliver (place_of_message w.mappings (w.part e) c)) in
    let a = AtEndpoint e (LocalAct.Take c k) in
    let early = unless_is (comes_late (w.part e) k) (its ∷ []) acts is in
    subst (IsActed w (step.Deliver n)) early.1
    (by_act w (step.Deliver n) a (its ∷ []) (does ∙ ap (λ z. (deliver_outcome w (w.part e) e c z).acts) speaks)
    (one_acted its (open_of w) (open_of (act w a))
    (takes w e c k i ((i.parts e).near c (ap is_some speaks)) speaks permitted
    (none_newer k (w.part e).orders (λ x. is_taken ((w.part e).order_state x)) early.0))))
delivers w n acts i fi (Some (RequestOf r)) speaks permitted does is =
    by_unit (is_open (w.part e).phase) refl (does ∙ ap (λ z. (deliver_outcome w (w.part e) e c z).acts) speaks)
  where
    c : ℕ
    c = Labels.name w n

    e : ℕ
    e = w.link_of (Labels.name w n)

    its : Doing
    its = doing.At e (local.Deliver (place_of_message w.mappings (w.part e) c))

    by : (a : LocalAct) → (decide w (step.Deliver n)).acts ≡ AtEndpoint e a ∷ []
        → next_open (open_of w) its ≡ Some (open_of (act w (AtEndpoint e a))) → IsActed w (step.Deliver n) acts
    by a does leads =
        subst (IsActed w (step.Deliver n)) (same_Some (its ∷ []) acts is)
        (by_act w (step.Deliver n) (AtEndpoint e a) (its ∷ []) does (one_acted its (open_of w) (open_of (act w (AtEndpoint e a))) leads))

    by_unit : (x : Bool) → is_open (w.part e).phase ≡ x
        → (decide w (step.Deliver n)).acts ≡ (request_outcome w (w.part e) e c r (is_open (w.part e).phase)).acts → IsActed w (step.Deliver n) acts
    by_unit true h does =
        let answer = completion_message w ((w.part e).request_tag r) (found_for w (w.part e) r) in
        by (LocalAct.Complete c r (found_for w (w.part e) r) answer) (does ∙ ap (λ x. (request_outcome w (w.part e) e c r x).acts) h)
        (requests_answered w e c r i ((i.parts e).near c (ap is_some speaks)) speaks permitted fi h answer)
    by_unit false h does =
        by (LocalAct.Ignore c) (does ∙ ap (λ x. (request_outcome w (w.part e) e c r x).acts) h)
        (drops w e c r i ((i.parts e).near c (ap is_some speaks)) speaks permitted h)
delivers w n acts i fi (Some (PageRequestOf r)) speaks permitted does is =
    by_unit (is_open (w.part e).phase) refl (does ∙ ap (λ z. (deliver_outcome w (w.part e) e c z).acts) speaks)
  where
    c : ℕ
    c = Labels.name w n

    e : ℕ
    e = w.link_of (Labels.name w n)

    its : Doing
    its = doing.At e (local.Deliver (place_of_message w.mappings (w.part e) c))

    by : (a : LocalAct) → (decide w (step.Deliver n)).acts ≡ AtEndpoint e a ∷ []
        → next_open (open_of w) its ≡ Some (open_of (act w (AtEndpoint e a))) → IsActed w (step.Deliver n) acts
    by a does leads =
        subst (IsActed w (step.Deliver n)) (same_Some (its ∷ []) acts is)
        (by_act w (step.Deliver n) (AtEndpoint e a) (its ∷ []) does (one_acted its (open_of w) (open_of (act w (AtEndpoint e a))) leads))

    by_unit : (x : Bool) → is_open (w.part e).phase ≡ x
        → (decide w (step.Deliver n)).acts ≡ (page_request_outcome e c r (is_open (w.part e).phase)).acts → IsActed w (step.Deliver n) acts
    by_unit true h does =
        by (LocalAct.Arrive c r) (does ∙ ap (λ x. (page_request_outcome e c r x).acts) h)
        (arrives w e c r i ((i.parts e).near c (ap is_some speaks)) speaks permitted h)
    by_unit false h does =
        by (LocalAct.Miss c r) (does ∙ ap (λ x. (page_request_outcome e c r x).acts) h)
        (misses w e c r i ((i.parts e).near c (ap is_some speaks)) speaks permitted h)
delivers w n acts i fi (Some (CompletionOf r found)) speaks permitted does is =
    let c = Labels.name w n in
    let e = w.link_of c in
    answered w n r acts i found ((w.part e).request r) refl speaks permitted
    (does ∙ ap (λ z. (deliver_outcome w (w.part e) e c z).acts) speaks) is
delivers w n acts i fi o speaks permitted does is = absurd (grind arith)

-- what holds after every list of steps
record Stands (w : World) : Type 0 where
  ordered : (e : ℕ) → InOrder (w.part e)
  owed : (e : ℕ) → Owed w.messages (w.part e)

steps : (w : World) (s : Step) (said : Answer) (acts : List Doing) → Invariant w → FindsMappings w.mappings → Stands w → reply w s ≡ Ok said
    → acts_of w s ≡ Some acts → IsActed w s acts
steps w step.Space said acts i fi st h is =
    let yes = accepted (refusals w step.Space) (outcome w step.Space) said h in
    subst (IsActed w step.Space) (same_Some [] acts is)
    (by_act w step.Space NewSpace [] yes.2 (none_acted (open_of w) (open_of (act w NewSpace)) (makes_space w)))
steps w (step.Map n q x) said acts i fi st h is =
    let yes = accepted (refusals w (step.Map n q x)) (outcome w (step.Map n q x)) said h in
    let s = Labels.name w n in
    let f = Labels.lowest_frame w in
    let free = lowest_passes w.config.frames (is_free w) yes.0.1.1.1.1.0 in
    subst (IsActed w (step.Map n q x)) (same_Some (doing.SetPage s q f x ∷ []) acts is)
    (by_act w (step.Map n q x) (Map s q f x) (doing.SetPage s q f x ∷ []) yes.2
    (one_acted (doing.SetPage s q f x) (open_of w) (open_of (act w (Map s q f x)))
    (maps w s q f x i fi free.1 free.0 (none_is (w.mappings.at s q) yes.0.1.1.0))))
steps w (step.Bind e n) said acts i fi st h is =
    let yes = accepted (refusals w (step.Bind e n)) (outcome w (step.Bind e n)) said h in
    let s = Labels.name w n in
    let t = the (Labels.pasid_for w e s) in
    let legal = (bind w e n i yes.0).1.0 in
    subst (IsActed w (step.Bind e n)) (same_Some (bind_acts e s t) acts is)
    (subst (λ l. acted (bind_acts e s t) (open_of w) ≡ Some (open_of (after_acts w l))) (sym yes.2)
    (binds_open w i e s t legal.1.0.3 legal.0 (below_33 t legal.1.0.5) legal.1.0.1))
steps w (step.Ask e t q) said acts i fi st h is =
    let yes = accepted (refusals w (step.Ask e t q)) (outcome w (step.Ask e t q)) said h in
    let p = w.part e in
    let on = started w e t (not-false (Labels.is_started p t) yes.0.1.1.0) in
    let o = LocalAct.Ask (Labels.bearer p t) q (Labels.lowest_label 32 p.at_tag) in
    subst (IsActed w (step.Ask e t q)) (same_Some (doing.At e (local.Ask t q) ∷ []) acts is)
    (by_act w (step.Ask e t q) (AtEndpoint e o) (doing.At e (local.Ask t q) ∷ []) yes.2
    (one_acted (doing.At e (local.Ask t q)) (open_of w) (open_of (act w (AtEndpoint e o)))
    (asks w e t q i (is_less e w.config.endpoints yes.0.0) on.0 (on_is (p.pasid_state (Labels.bearer p t)) on.1)
    (label_free 32 p.at_tag yes.0.1.1.1.0) (label_low 32 p.at_tag yes.0.1.1.1.0))))
steps w (step.BeginUse e t q x) said acts i fi st h is =
    let yes = accepted (refusals w (step.BeginUse e t q x)) (outcome w (step.BeginUse e t q x)) said h in
    let p = w.part e in
    let r = Labels.cached p (Labels.bearer p t) q in
    by_act w (step.BeginUse e t q x) (AtEndpoint e (LocalAct.Begin r (the (p.held r)) (Labels.lowest_label 16 p.at_slot))) acts yes.2
    (begun w e t q x i acts yes.0 (has_taken p) refl is)
steps w (step.EndUse e t) said acts i fi st h is =
    let yes = accepted (refusals w (step.EndUse e t)) (outcome w (step.EndUse e t)) said h in
    let u = the ((w.part e).at_slot t) in
    subst (IsActed w (step.EndUse e t)) (same_Some (end_acts (w.part e) e u ((w.part e).use_state u)) acts is)
    (by_act w (step.EndUse e t) (AtEndpoint e (LocalAct.End u)) (end_acts (w.part e) e u ((w.part e).use_state u)) yes.2
    (ended w e u i (is_less e w.config.endpoints yes.0.0) ((w.part e).use_state u) refl))
steps w (step.Evict e t q) said acts i fi st h is =
    let yes = accepted (refusals w (step.Evict e t q)) (outcome w (step.Evict e t q)) said h in
    let p = w.part e in
    let cached = not-false (Labels.is_cached p t q) yes.0.1.1.0 in
    let o = LocalAct.Evict (Labels.cached p (Labels.bearer p t) q) in
    subst (IsActed w (step.Evict e t q)) (same_Some (doing.At e (local.Evict t q) ∷ []) acts is)
    (by_act w (step.Evict e t q) (AtEndpoint e o) (doing.At e (local.Evict t q) ∷ []) yes.2
    (one_acted (doing.At e (local.Evict t q)) (open_of w) (open_of (act w (AtEndpoint e o)))
    (evicts w e t q i (cached_is p t q cached) (bears w e t q cached) (is_less e w.config.endpoints yes.0.0))))
steps w (step.Deliver n) said acts i fi st h is =
    let yes = accepted (refusals w (step.Deliver n)) (outcome w (step.Deliver n)) said h in
    let p = w.part (w.link_of (Labels.name w n)) in
    delivers w n acts i fi (p.message (Labels.name w n)) refl (not-false (Labels.is_permitted_now p (Labels.name w n) (p.message (Labels.name w n))) yes.0.1.0)
    yes.2 is
steps w (step.Pump e) said acts i fi st h is =
    let yes = accepted (refusals w (step.Pump e)) (outcome w (step.Pump e)) said h in
    let freed = freed_by w (next w (step.Pump e)) in
    subst (IsActed w (step.Pump e))
    (same_Some (pump_acts e freed (Ok said)) acts (ap (λ z. Some (pump_acts e freed z)) (sym h) ∙ is))
    (pumps_acted w e i (st.ordered e) (st.owed e) (opened_is (w.part e) yes.0.1.0) (is_less e w.config.endpoints yes.0.0) said yes.1 yes.2)
steps w (step.Look f) said acts i fi st h is =
    subst (IsActed w (step.Look f)) (same_Some [] acts is)
    (idle w (step.Look f) (accepted (refusals w (step.Look f)) (outcome w (step.Look f)) said h).2)
steps w (step.Bearer t) said acts i fi st h is =
    subst (IsActed w (step.Bearer t)) (same_Some [] acts is)
    (idle w (step.Bearer t) (accepted (refusals w (step.Bearer t)) (outcome w (step.Bearer t)) said h).2)
steps w s said acts i fi st h is = absurd (grind arith)

stands : (rule : PasidRule) (config : Config) (ss : List Step) → Stands (world_after rule config ss)
stands rule config ss = record { ordered = always_in_order rule config ss; owed = always_owed rule config ss }

pub steps_are_acts : StepsAreActs
steps_are_acts rule config ss s said acts fits h is =
    let w = world_after rule config ss in
    steps w s said acts (always rule config ss) (always_finds rule config ss) (stands rule config ss) h is
    ∙ ap (λ v. Some (open_of v)) (sym (after_one rule config ss s))
