-- What an endpoint does itself is an act of the open world: to ask, to use, to end a use, and to evict.
use Rattle.std.proofs.Common.{◌≡◌, ◌≢◌, refl, ap, ap₂, sym, subst, ◌∙◌, ℕ, suc, ◌+◌, ◌<◌, ◌≤◌, Bool, true, false, arith}
use Rattle.std.specs.Prelude.{if◌then◌else◌, ◌==◌, ◌&&◌, List, [], ◌∷◌, ◌++◌, Option, Some, None, option_map, Contains, find, length}
use Rattle.std.specs.Prelude.{position, remove, slice_get}
use Rattle.std.proofs.lemmas.Bool.{and_from, eqb-true, eq-eqb}
use Rattle.std.proofs.lemmas.List.{append-nil}
use Rattle.sva_model.specs.Words.{any_below, the}
use Rattle.sva_model.specs.State.{Owed, Mappings, OrderState, Subject, Endpoint, World}
use Rattle.sva_model.specs.State.Owed.{Nothing, Ranges, Pasid, NextReset}
use Rattle.sva_model.specs.State.OrderState.{Queued, Sent, Taken, Lapsed, Completing, Done, Void}
use Rattle.sva_model.specs.State.PasidState.{On}
use Rattle.sva_model.specs.State.UseState.{Running}
use Rattle.sva_model.specs.State.Subject.{StartOf, StopOf, FunctionReset, CompletionOf, InvalidateOf, ResponseOf, RequestOf, InvalidatedOf}
use Rattle.sva_model.specs.State.Subject.{PageRequestOf, MarkerOf, ResetDone}
use Rattle.sva_model.specs.States.{answered, is_running, is_taken}
use Rattle.sva_model.specs.Acts.{LocalAct, act, act_alone}
use Rattle.sva_model.specs.Acts.Act.{AtEndpoint}
use Rattle.sva_model.specs.Labels
use Rattle.sva_labels.proofs.Tests.{first_holds, second_holds}
use Rattle.sva_labels.proofs.Words.{put-same, put-other, any_below-false}
use Rattle.sva_laws.proofs.Found.{found}
use Rattle.sva_laws.proofs.Invariant.{Invariant}
use Rattle.sva_laws.proofs.LegalEndpoint.{Cached}
use Rattle.sva_open.specs.declared.acts.Act.TheVariants as doing
use Rattle.sva_open.specs.declared.acts.LocalAct.TheVariants as local
use Rattle.sva_open.specs.declared.frames.Translation.{Translation}
use Rattle.sva_open.specs.declared.rows.State.TheVariants as row_state
use Rattle.sva_open.specs.declared.works.Work.{Work}
use Rattle.sva_open.specs.declared.works.Work.TheVariants.{Use}
use Rattle.sva_open.specs.World.{if_so, is_of, is_used}
use Rattle.sva_open.specs.Acts.{next_open}
use Rattle.sva_open.specs.Devices as device_acts
use Rattle.sva_open_laws.specs.AsOpen.{flying_of, gather, held_of, if_there, open_of, part_of, row_at, state_of, taken_of}
use Rattle.sva_open_laws.specs.AsOpen.{translation_of, use_of, user_of, where_so, state_by}
use Rattle.sva_open_laws.proofs.ActParts.{IsSameRequest, OfRequest, at_one_endpoint, flying_same, none_sent, seen}
use Rattle.sva_open_laws.proofs.Gathered.{gathered, inside, mapped_some, tabulate_get, there_in}
use Rattle.sva_open_laws.proofs.GatherLists.{Split, find_at, gather_next, gather_none, gather_same, place_at}
use Rattle.sva_open_laws.proofs.GatherLists.{remove_at, split}
use Rattle.sva_open_laws.proofs.Shown.{started_in_row}
use Rattle.sva_open_laws.proofs.Usable.{held_low}

-- ---- Acts that send nothing, and ask for nothing

abbrev pub working : Endpoint → Endpoint → Endpoint
working p q =
    record p {
      held = q.held;
      uses = q.uses;
      use_binding = q.use_binding;
      use_mapping = q.use_mapping;
      use_slot = q.use_slot;
      use_state = q.use_state;
      at_slot = q.at_slot;
    }

abbrev pub uses_at : Mappings → Endpoint → ℕ → List Work
uses_at ms p u = where_so (is_running (p.use_state u)) (use_of ms p u)

abbrev pub held_at : Mappings → Endpoint → ℕ → List Translation
held_at ms p r = if_there (held_of ms p r)

abbrev pub all_taken : Endpoint → List Work
all_taken p = gather p.orders (λ k. taken_of p (p.order_state k) k)

pub quiet : (w : World) (e : ℕ) (p q : Endpoint) → ((c : ℕ) → w.messages ≤ c → p.message c ≡ None)
    → part_of (record w { messages = w.messages + 0 }) e (working p q) ≡ record (part_of w e p) {
      held = gather p.requests (held_at w.mappings (working p q));
      works = gather q.uses (uses_at w.mappings (working p q)) ++ all_taken p;
    }
quiet w e p q unsent =
    seen w e (w.messages + 0) p (working p q)
    ∙ ap (λ flight. record (part_of w e p) {
      held = gather p.requests (held_at w.mappings (working p q));
      works = gather q.uses (uses_at w.mappings (working p q)) ++ all_taken p;
      flight = flight;
    })
    (gather_same (w.messages + 0) (λ c. flying_of w.mappings (working p q) (p.message c)) (λ c. flying_of w.mappings p (p.message c))
    (λ c l. flying_same w.mappings p (working p q) (p.message c) (same (p.message c)))
    ∙ none_sent w p 0 unsent)
  where
    same : (o : Option Subject) → OfRequest (IsSameRequest p (working p q)) o
    same None = tt
    same (Some (StartOf b)) = tt
    same (Some (StopOf b)) = tt
    same (Some FunctionReset) = tt
    same (Some (CompletionOf r o)) = (refl, refl, refl)
    same (Some (InvalidateOf k)) = tt
    same (Some (ResponseOf g code)) = tt
    same (Some (RequestOf r)) = (refl, refl, refl)
    same (Some (InvalidatedOf names)) = tt
    same (Some (PageRequestOf r)) = tt
    same (Some (MarkerOf b)) = tt
    same (Some ResetDone) = tt

pub calm : (p : Endpoint) (n : ℕ) (o : LocalAct) → (act_alone p n o).order_state ≡ p.order_state → (act_alone p n o).resets ≡ p.resets
    → (x : Owed) → answered (act_alone p n o) x ≡ answered p x
calm p n o states resets Nothing = refl
calm p n o states resets (Ranges first count before) =
    ap₂ (λ s k. answered (record p { order_state = s; resets = k }) (Ranges first count before)) states resets
calm p n o states resets (Pasid invalidation wait before in_reset) =
    ap₂ (λ s k. answered (record p { order_state = s; resets = k }) (Pasid invalidation wait before in_reset)) states resets
calm p n o states resets (NextReset before) = ap (λ k. answered (record p { resets = k }) (NextReset before)) resets

pub never : (b : Bool) → (b ≡ true → ⊥) → b ≡ false
never true h = absurd (h refl)
never false h = refl

-- ---- What is cached for a PASID and a page

-- a PASID that is on is in use for the binding that bears it
module _ (w : World) (e t : ℕ) (i : Invariant w) (bears : (w.part e).at_pasid t ≡ Some (Labels.bearer (w.part e) t))
    (on : (w.part e).pasid_state (Labels.bearer (w.part e) t) ≡ On) where
  pub user_is : user_of w.bindings (w.part e) t ≡ Some (Labels.bearer (w.part e) t)
  user_is =
      let b = Labels.bearer (w.part e) t in
      let shown = started_in_row w e b i (λ h. absurd (cc (sym on ∙ h))) in
      ap (λ z. user_of w.bindings (w.part e) z) (sym ((i.parts e).labels.pasid_bears t b bears).0) ∙ shown.2

  pub state_is : state_of (w.part e) (user_of w.bindings (w.part e) t) ≡ row_state.On
  state_is = ap (state_of (w.part e)) user_is ∙ ap state_by on

  pub row_there : slice_get (part_of w e (w.part e)).rows t ≡ Some (row_at w.bindings (w.part e) t)
  row_there =
      let low = ((i.parts e).labels.pasid_low t (Labels.bearer (w.part e) t) bears).1 in
      tabulate_get 33 (row_at w.bindings (w.part e)) t (omega (arith, low))

module _ (w : World) (e t q : ℕ) (i : Invariant w) (c : Cached (w.part e) t q)
    (bears : (w.part e).at_pasid t ≡ Some (Labels.bearer (w.part e) t)) where
  abbrev at_it : ℕ
  at_it = Labels.cached (w.part e) (Labels.bearer (w.part e) t) q

  abbrev it : Translation
  it =
      translation_of w.mappings (w.part e) ((w.part e).request_binding at_it) ((w.part e).request_page at_it) (the ((w.part e).held at_it))

  its_low : at_it < (w.part e).requests
  its_low = held_low 0 (w.part e) at_it (the ((w.part e).held at_it)) ((i.parts e).bounds.held at_it) c.held

  its_own : held_at w.mappings (w.part e) at_it ≡ it ∷ []
  its_own =
      ap (λ o. if_there (option_map (translation_of w.mappings (w.part e) ((w.part e).request_binding at_it) ((w.part e).request_page at_it)) o)) c.held

  its_pasid : (w.part e).pasid ((w.part e).request_binding at_it) ≡ t
  its_pasid = ap (w.part e).pasid c.binding ∙ ((i.parts e).labels.pasid_bears t (Labels.bearer (w.part e) t) bears).0

  is_it : is_of t q it ≡ true
  is_it =
      and_from ((w.part e).pasid ((w.part e).request_binding at_it) == t) ((w.part e).request_page at_it == q)
      (eq-eqb ((w.part e).pasid ((w.part e).request_binding at_it)) t its_pasid) (eq-eqb ((w.part e).request_page at_it) q c.page)

  -- no older one is of the PASID and page
  none_before : (y : Translation) → Contains (gather at_it (held_at w.mappings (w.part e))) y → is_of t q y ≡ false
  none_before y h =
      let x = gathered at_it (held_at w.mappings (w.part e)) y h in
      let m = mapped_some (translation_of w.mappings (w.part e) ((w.part e).request_binding x.0) ((w.part e).request_page x.0)) ((w.part e).held x.0) y
      (there_in (held_of w.mappings (w.part e) x.0) y x.2) in
      never (is_of t q y) (λ k. no_other x.0 m.0 x.1 m.1 (subst (λ z. is_of t q z ≡ true) (sym m.2) k))
    where
      no_other : (k m : ℕ) → k < at_it → (w.part e).held k ≡ Some m
          → is_of t q (translation_of w.mappings (w.part e) ((w.part e).request_binding k) ((w.part e).request_page k) m) ≡ true → ⊥
      no_other k m l held passes =
          let p = w.part e in
          let b = p.request_binding k in
          let pasid = eqb-true (p.pasid b) t (first_holds (p.pasid b == t) (p.request_page k == q) passes) in
          let page = eqb-true (p.request_page k) q (second_holds (p.pasid b == t) (p.request_page k == q) passes) in
          let is = (found w e i).cached k m held in
          let its = inside (sym (ap p.at_pasid (sym pasid) ∙ is.bears) ∙ bears) in
          let same = (i.parts e).requests.one_held k at_it m (the (p.held at_it)) held c.held (its ∙ sym c.binding) (page ∙ sym c.page) in
          absurd (omega (arith, same, l))

  cached_split : (g : ℕ → List Translation) → g at_it ≡ [] → ((k : ℕ) → k ≢ at_it → g k ≡ held_at w.mappings (w.part e) k)
      → Split (w.part e).requests (held_at w.mappings (w.part e)) g at_it it
  cached_split g gone others = split (w.part e).requests (held_at w.mappings (w.part e)) g at_it it its_low its_own gone others

  pub evicts : e < w.config.endpoints
      → next_open (open_of w) (doing.At e (local.Evict t q)) ≡ Some (open_of (act w (AtEndpoint e (LocalAct.Evict at_it))))
  evicts low =
      at_one_endpoint w e (LocalAct.Evict at_it) i low (calm p w.messages (LocalAct.Evict at_it) refl refl) (local.Evict t q)
      (record (part_of w e p) { held = gather p.requests (held_at w.mappings left) }) (quiet w e p left (λ k l. (i.parts e).resets.unsent k l))
      (ap (device_acts.evict (part_of w e p)) there
      ∙ ap (λ h. Some (record (part_of w e p) { held = h }))
      (ap (λ z. remove z (length (gather at_it (held_at w.mappings p)))) s.whole
      ∙ remove_at (gather at_it (held_at w.mappings p)) it s.behind ∙ sym s.rest))
    where
      p : Endpoint
      p = w.part e

      left : Endpoint
      left = act_alone (w.part e) w.messages (LocalAct.Evict at_it)

      s : Split p.requests (held_at w.mappings p) (held_at w.mappings left) at_it it
      s =
          cached_split (held_at w.mappings left)
          (ap (λ o. if_there (option_map (translation_of w.mappings p (p.request_binding at_it) (p.request_page at_it)) o)) (put-same p.held at_it None))
          (λ k ne. ap (λ o. if_there (option_map (translation_of w.mappings p (p.request_binding k) (p.request_page k)) o)) (put-other p.held at_it None k ne))

      there : position (is_of t q) (part_of w e p).held ≡ Some (length (gather at_it (held_at w.mappings p)))
      there =
          ap (position (is_of t q)) s.whole
          ∙ place_at (is_of t q) (gather at_it (held_at w.mappings p)) it s.behind none_before is_it

  -- a use that begins where no invalidation is taken
  pub begins : (slot : ℕ) → e < w.config.endpoints → (w.part e).pasid_state (Labels.bearer (w.part e) t) ≡ On
      → any_below (w.part e).orders (λ k. is_taken ((w.part e).order_state k)) ≡ false
      → next_open (open_of w) (doing.At e (local.Use t q))
      ≡ Some (open_of (act w (AtEndpoint e (LocalAct.Begin at_it (the ((w.part e).held at_it)) slot))))
  begins slot low on untaken =
      at_one_endpoint w e (LocalAct.Begin at_it m slot) i low (calm p w.messages (LocalAct.Begin at_it m slot) refl refl) (local.Use t q)
      (record (part_of w e p) { works = (part_of w e p).works ++ Use it ∷ [] })
      (quiet w e p begun (λ k l. (i.parts e).resets.unsent k l) ∙ ap (λ z. record (part_of w e p) { works = z }) works)
      (ap (λ r. device_acts.begin_use (part_of w e p) r (find (is_of t q) (part_of w e p).held)) (row_there w e t i bears on)
      ∙ ap (device_acts.begin_use (part_of w e p) (Some (row_at w.bindings p t))) there
      ∙ ap (λ x. if_so (is_used x && (true && true)) (record (part_of w e p) { works = (part_of w e p).works ++ Use it ∷ [] })) (state_is w e t i bears on))
    where
      p : Endpoint
      p = w.part e

      m : ℕ
      m = the ((w.part e).held at_it)

      begun : Endpoint
      begun = act_alone (w.part e) w.messages (LocalAct.Begin at_it (the ((w.part e).held at_it)) slot)

      s : Split p.requests (held_at w.mappings p) (λ k. if k == at_it then [] else held_at w.mappings p k) at_it it
      s = cached_split (λ k. if k == at_it then [] else held_at w.mappings p k) (first at_it) other
        where
          first : (k : ℕ) → (if k == k then [] else held_at w.mappings p k) ≡ []
          first k = ap (λ (b : Bool). if b then [] else held_at w.mappings p k) (eq-eqb k k refl)

          other : (k : ℕ) → k ≢ at_it → (if k == at_it then [] else held_at w.mappings p k) ≡ held_at w.mappings p k
          other k ne = ap (λ (b : Bool). if b then [] else held_at w.mappings p k) (never (k == at_it) (λ h. ne (eqb-true k at_it h)))

      there : find (is_of t q) (part_of w e p).held ≡ Some it
      there = ap (find (is_of t q)) s.whole ∙ find_at (is_of t q) (gather at_it (held_at w.mappings p)) it s.behind none_before is_it

      none_taken : all_taken p ≡ []
      none_taken = gather_none p.orders (λ k. taken_of p (p.order_state k) k)
          (λ k l. none_of (p.order_state k) k (any_below-false p.orders (λ j. is_taken (p.order_state j)) untaken k l))
        where
          none_of : (x : OrderState) (k : ℕ) → is_taken x ≡ false → taken_of p x k ≡ []
          none_of Queued k h = refl
          none_of Sent k h = refl
          none_of (Taken uses) k h = absurd (cc)
          none_of Lapsed k h = refl
          none_of (Completing count left) k h = refl
          none_of Done k h = refl
          none_of Void k h = refl

      old : (k : ℕ) → k < p.uses → uses_at w.mappings begun k ≡ uses_at w.mappings p k
      old k l =
          let ne : k ≢ p.uses = λ same. absurd (omega (arith, same, l)) in
          ap (λ x. where_so (is_running x) (use_of w.mappings begun k)) (put-other p.use_state p.uses Running k ne)
          ∙ ap₂ (λ b x. where_so (is_running (p.use_state k)) (Use (translation_of w.mappings p b (w.mappings.page x) x)))
          (put-other p.use_binding p.uses (p.request_binding at_it) k ne) (put-other p.use_mapping p.uses m k ne)

      new : uses_at w.mappings begun p.uses ≡ Use it ∷ []
      new =
          ap (λ x. where_so (is_running x) (use_of w.mappings begun p.uses)) (put-same p.use_state p.uses Running)
          ∙ ap₂ (λ b x. one_use (translation_of w.mappings p b (w.mappings.page x) x)) (put-same p.use_binding p.uses (p.request_binding at_it))
          (put-same p.use_mapping p.uses m)
          ∙ ap (λ y. one_use (translation_of w.mappings p (p.request_binding at_it) y m)) ((i.parts e).owners.held_page at_it m c.held)
        where
          one_use : Translation → List Work
          one_use x = Use x ∷ []

      works : gather (suc p.uses) (uses_at w.mappings begun) ++ all_taken p ≡ (gather p.uses (uses_at w.mappings p) ++ all_taken p) ++ Use it ∷ []
      works =
          ap (λ z. gather (suc p.uses) (uses_at w.mappings begun) ++ z) none_taken
          ∙ append-nil (gather (suc p.uses) (uses_at w.mappings begun))
          ∙ gather_next p.uses (uses_at w.mappings begun)
          ∙ ap₂ (λ xs ys. xs ++ ys) (gather_same p.uses (uses_at w.mappings begun) (uses_at w.mappings p) old) new
          ∙ ap (λ z. z ++ Use it ∷ []) (sym (append-nil (gather p.uses (uses_at w.mappings p))))
          ∙ ap (λ z. (gather p.uses (uses_at w.mappings p) ++ z) ++ Use it ∷ []) (sym none_taken)
