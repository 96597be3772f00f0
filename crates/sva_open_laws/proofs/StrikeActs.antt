-- What an invalidation that comes strikes, and what becomes of a request that was doomed, is so in the open world.
use Rattle.std.proofs.Common.{◌≡◌, refl, ap, sym, ◌∙◌, ℕ, zero, suc, Bool, true, false}
use Rattle.std.specs.Prelude.{◌||◌, not, if◌then◌else◌, List, [], ◌∷◌, ◌++◌, Option, Some, None, option_map, filter, map}
use Rattle.std.proofs.lemmas.List.{map_push}
use Rattle.std.proofs.lemmas.List.Elements.{filter-append}
use Rattle.sva_step.specs.declared.steps.Step.{Step}
use Rattle.sva_model.specs.Words.{tabulate}
use Rattle.sva_model.specs.State.{Endpoint, RequestState, World}
use Rattle.sva_model.specs.State.OrderState.{Sent}
use Rattle.sva_model.specs.State.RequestState.{Out, Doomed, Over}
use Rattle.sva_model.specs.State.Subject.{InvalidateOf}
use Rattle.sva_model.specs.StateChanges.{doom_if, none_if}
use Rattle.sva_model.specs.States.{is_busy, is_out, is_queued, is_running, is_taken, is_unreleased, is_wait}
use Rattle.sva_model.specs.States as model
use Rattle.sva_model.specs.Acts.{LocalAct, act_alone}
use Rattle.sva_model.specs.Labels.{name}
use Rattle.sva_model.specs.Steps.{next, world_after}
use Rattle.sva_labels.proofs.Lists.{tabulate_same}
use Rattle.sva_laws.specs.UnitSteps.{Delivers}
use Rattle.sva_laws.proofs.Found.{found, sent_busy}
use Rattle.sva_laws.proofs.Invariant.{Invariant}
use Rattle.sva_laws.proofs.Runs.{always}
use Rattle.sva_laws.proofs.UnitSteps.{delivered}
use Rattle.sva_open.specs.declared.frames.Translation.{Translation}
use Rattle.sva_open.specs.declared.scopes.Scope.{Scope}
use Rattle.sva_open.specs.World.{covers, is_left, without_covered}
use Rattle.sva_open.specs.Devices.{doomed}
use Rattle.sva_open_laws.specs.AsOpen.{gather, held_of, if_there, is_doomed, request_of, scope_of, translation_of}
use Rattle.sva_open_laws.specs.Queues.{IsStruckAlike, StrikesAreOne, shown}
use Rattle.sva_open_laws.proofs.Covered.{covered}
use Rattle.sva_open_laws.proofs.GatherLists.{gather_same}
use Rattle.sva_open_laws.proofs.QueueSteps.{shown_after}

-- ---- Lists by names, through a filter and through a function

pub filter_gather : {A : Type 0} (q : A → Bool) (n : ℕ) (f : ℕ → List A) → filter q (gather n f) ≡ gather n (λ k. filter q (f k))
unfolding gather
filter_gather q zero f = refl
filter_gather q (suc n) f = filter-append q (gather n f) (f n) ∙ ap (λ xs. xs ++ filter q (f n)) (filter_gather q n f)

pub map_tabulate : {A B : Type 0} (h : A → B) (n : ℕ) (f : ℕ → A) → map h (tabulate n f) ≡ tabulate n (λ k. h (f k))
unfolding tabulate
map_tabulate h zero f = refl
map_tabulate h (suc n) f = map_push h (tabulate n f) (f n) ∙ ap (λ xs. xs ++ h (f n) ∷ []) (map_tabulate h n f)

-- ---- What is struck

module _ (w : World) (e c k : ℕ) (i : Invariant w) (speaks : (w.part e).message c ≡ Some (InvalidateOf k)) where
  abbrev p : Endpoint
  p = w.part e

  abbrev struck : Endpoint
  struck = act_alone (w.part e) w.messages (LocalAct.Take c k)

  abbrev scope : Scope
  scope = scope_of (w.part e) ((w.part e).order k)

  pub was_sent : (w.part e).order_state k ≡ Sent
  was_sent = ((found w e i).invalidate c k speaks).0

  -- of what an unreleased binding has
  same_cover : (b q : ℕ) → is_unreleased (p.stage b) ≡ true → covers scope (p.pasid b) q ≡ model.covers (p.order k) b q
  same_cover b q unreleased =
      covered w e b q i unreleased (p.order k) ((i.parts e).orders.no_wait k (sent_busy (p.order_state k) was_sent))
      ((found w e i).invalidate c k speaks).2.unreleased

  held_one : (r : ℕ) (o : Option ℕ) → p.held r ≡ o
      → filter (is_left scope) (if_there (option_map (translation_of w.mappings p (p.request_binding r) (p.request_page r)) o))
      ≡ if_there
      (option_map (translation_of w.mappings p (p.request_binding r) (p.request_page r))
      (none_if (model.covers (p.order k) (p.request_binding r) (p.request_page r)) o))
  held_one r None h = by (model.covers (p.order k) (p.request_binding r) (p.request_page r))
    where
      by : (b : Bool)
          → [] ≡ if_there (option_map (translation_of w.mappings p (p.request_binding r) (p.request_page r)) (none_if b None))
      by true = refl
      by false = refl
  held_one r (Some m) h =
      let same = same_cover (p.request_binding r) (p.request_page r) ((found w e i).cached r m h).unreleased in
      ap (λ (b : Bool). if not b then t ∷ [] else []) same ∙ by (model.covers (p.order k) (p.request_binding r) (p.request_page r))
    where
      t : Translation
      t = translation_of w.mappings p (p.request_binding r) (p.request_page r) m

      by : (b : Bool) → (if not b then t ∷ [] else [])
          ≡ if_there (option_map (translation_of w.mappings p (p.request_binding r) (p.request_page r)) (none_if b (Some m)))
      by true = refl
      by false = refl

  pub held_now : gather (w.part e).requests (λ r. if_there (held_of w.mappings struck r)) ≡ without_covered scope (shown w e).held
  held_now =
      sym
      (filter_gather (is_left scope) p.requests (λ r. if_there (held_of w.mappings p r))
      ∙ gather_same p.requests (λ r. filter (is_left scope) (if_there (held_of w.mappings p r))) (λ r. if_there (held_of w.mappings struck r))
      (λ r l. held_one r (p.held r) refl))

  asked_one : (t : ℕ) (o : Option ℕ) → p.at_tag t ≡ o → doomed scope (option_map (request_of p) o) ≡ option_map (request_of struck) o
  asked_one t None h = refl
  asked_one t (Some r) h =
      let b = p.request_binding r in
      let out = ((i.parts e).labels.tag_bears t r h).1 in
      let same = same_cover b (p.request_page r) ((found w e i).out r out).0.unreleased in
      ap (λ x. Some (record (request_of p r) { is_doomed = is_doomed (p.request r) || x })) same
      ∙ ap (λ x. Some (record (request_of p r) { is_doomed = x })) (by (p.request r) (model.covers (p.order k) b (p.request_page r)) out)
    where
      by : (s : RequestState) (x : Bool) → is_out s ≡ true → (is_doomed s || x) ≡ is_doomed (doom_if x s)
      by Out true h = refl
      by Out false h = refl
      by Doomed true h = refl
      by Doomed false h = refl
      by Over x h = absurd (cc)

  pub asked_now : tabulate 32 (λ t. option_map (request_of struck) ((w.part e).at_tag t)) ≡ map (doomed scope) (shown w e).requests
  asked_now =
      sym
      (map_tabulate (doomed scope) 32 (λ t. option_map (request_of p) (p.at_tag t))
      ∙ tabulate_same 32 (λ t. doomed scope (option_map (request_of p) (p.at_tag t))) (λ t. option_map (request_of struck) (p.at_tag t))
      (λ t l. asked_one t (p.at_tag t) refl))

strikes : (w : World) (s : Step) (e k : ℕ) → Invariant w → (d : Delivers w s e (InvalidateOf k))
    → IsStruckAlike (shown w e) (shown (next w s) e) ((w.part e).itag k) (scope_of (w.part e) ((w.part e).order k))
strikes w s e k i d =
    let c = name w d.number in
    let after = shown_after w s e (LocalAct.Take c k) (delivered w s e (InvalidateOf k) d) in
    record {
      held = ap (λ v. v.held) after ∙ held_now w e c k i d.speaks;
      requests = ap (λ v. v.requests) after ∙ asked_now w e c k i d.speaks;
    }

pub strikes_are_one : StrikesAreOne
strikes_are_one rule config ss s e k d = strikes (world_after rule config ss) s e k (always rule config ss) d
