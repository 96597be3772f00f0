-- Each usable translation is present, or its mapping is gone and the endpoint hasn't answered for it: an order ahead of
-- the wait will strike it first.
use Rattle.sva_labels.proofs.Words.{put-same}
use Rattle.std.proofs.Common.{sym, subst, ◌≡◌, ◌≢◌, ◌⊎◌, inl, inr, ℕ, ◌+◌, ◌<◌, ◌≤◌, Bool, true, false, arith}
use Rattle.std.specs.Prelude.{Some, None}
use Rattle.std.proofs.lemmas.Bool.Decides.{nat_tests}
use Rattle.sva_model.specs.State.{Owed, MappingState, Mappings, Endpoint}
use Rattle.sva_model.specs.State.Owed.{Nothing, Ranges, Pasid, NextReset}
use Rattle.sva_model.specs.State.MappingState.{Unmade, Present, Gone}
use Rattle.sva_model.specs.State.Stage.{Invalidating}
use Rattle.sva_model.specs.State.RequestState.{Out}
use Rattle.sva_model.specs.State.UseState.{Running}
use Rattle.sva_model.specs.State.OrderState.{Queued, Done, Void, Taken}
use Rattle.sva_model.specs.State.Subject.{CompletionOf, ResetDone}
use Rattle.sva_model.specs.State.Phase.{Open}
use Rattle.sva_model.specs.States.{is_open, is_out, is_wait, covers}
use Rattle.sva_model.specs.Acts.{act_alone, LocalAct}
use Rattle.sva_model.specs.Acts.LocalAct.{Keep, Begin, Complete}
use Rattle.sva_laws.proofs.Legal.{LegalLocalAct}
use Rattle.sva_laws.proofs.Resets.{Resets}
use Rattle.sva_laws.proofs.Bounds.{Bounds}
use Rattle.sva_laws.proofs.Bindings.{Bindings, unmarked_not_invalidating}
use Rattle.sva_laws.proofs.Labels.{Labels}
use Rattle.sva_laws.proofs.Requests.{Requests}
use Rattle.sva_laws.proofs.Orders.{Orders, SentOnly}
use Rattle.sva_laws.proofs.Owners.{Owners, NoneLeft, none_left, blocks, finishes, spares, held_quiet, running_quiet, asker_stage}

-- what an endpoint owes for a mapping
abbrev pub owed_of : MappingState → ℕ → Owed
owed_of (Gone owed) e = owed e
owed_of Present e = Nothing
owed_of Unmade e = Nothing

-- of the orders from `first` on, of which there are `count` and a wait behind them, order k covers the page q of binding b; and
-- the unit is in reset, where the wait is void, or open, where order k will strike what is of this age ahead of the wait
abbrev pub StrikesFirst : Endpoint → (b q age first count resets k : ℕ) → Type 0
StrikesFirst p b q age first count resets k =
    (resets ≡ p.resets) × (first ≤ k) × (k < first + count) × (covers (p.order k) b q ≡ true)
    × (is_wait (p.order (first + count)) ≡ true)
    × (first + count < p.orders)
    × (((is_open p.phase ≡ false) × (p.order_state (first + count) ≡ Void))
    ⊎ ((p.phase ≡ Open) × (p.order_state (first + count) ≡ Queued) × (blocks (p.order_state k) age ≡ true)))

-- the endpoint hasn't answered for the page q of binding b, and will strike what is of this age first
abbrev pub Pending : Endpoint → (b q age : ℕ) → Owed → Type 0
Pending p b q age Nothing = ⊥
Pending p b q age (NextReset resets) = (resets ≡ p.resets) × (is_open p.phase ≡ false)
Pending p b q age (Ranges first count resets) = (k : ℕ) × StrikesFirst p b q age first count resets k
Pending p b q age (Pasid k w resets c0) = (resets ≡ p.resets) × (p.stage b ≡ Invalidating k w)

pub record Safe (ms : Mappings) (e : ℕ) (p : Endpoint) : Type 0 where
  pub held : (r m : ℕ) → p.held r ≡ Some m → (ms.state m ≡ Present) ⊎ Pending p (p.request_binding r) (ms.page m) p.uses (owed_of (ms.state m) e)
  pub flying : (c r m : ℕ) → p.message c ≡ Some (CompletionOf r (Some m)) → p.request r ≡ Out → (ms.state m ≡ Present)
      ⊎ Pending p (p.request_binding r) (ms.page m) p.uses (owed_of (ms.state m) e)
  pub running : (u : ℕ) → p.use_state u ≡ Running → (ms.state (p.use_mapping u) ≡ Present)
      ⊎ Pending p (p.use_binding u) (ms.page (p.use_mapping u)) u (owed_of (ms.state (p.use_mapping u)) e)

-- what is held stays pending
held_ahead : (ms : Mappings) (g n : ℕ) (p : Endpoint) (o : LocalAct) → LegalLocalAct ms g p o → NoneLeft p → SentOnly p → (r m first count resets k : ℕ)
    → (p.requests ≤ r → p.held r ≡ None) → p.held r ≡ Some m → (act_alone p n o).held r ≡ Some m → ms.page m ≡ p.request_page r
    → ((k x : ℕ) → p.order_state k ≡ Taken x → x ≤ p.uses) → StrikesFirst p (p.request_binding r) (ms.page m) p.uses first count resets k
    → StrikesFirst (act_alone p n o) (p.request_binding r) (ms.page m) (act_alone p n o).uses first count resets k
held_ahead ms g n p o l left sent r m first count resets k b h h' pg noted pe = grind (arith, nat_tests, left.up, left.empty, noted k)

running_ahead : (ms : Mappings) (g n : ℕ) (p : Endpoint) (o : LocalAct) → LegalLocalAct ms g p o → NoneLeft p → SentOnly p → (u first count resets k : ℕ)
    → p.use_state u ≡ Running → (act_alone p n o).use_state u ≡ Running → u < p.uses
    → (covers (p.order k) (p.use_binding u) (ms.page (p.use_mapping u)) ≡ true → blocks (p.order_state k) u ≡ true → finishes o k ≡ false)
    → StrikesFirst p (p.use_binding u) (ms.page (p.use_mapping u)) u first count resets k
    → StrikesFirst (act_alone p n o) (p.use_binding u) (ms.page (p.use_mapping u)) u first count resets k
running_ahead ms g n p o l left sent u first count resets k h h' b spared pe = grind (arith, nat_tests, left.up, left.dead)

flying_ahead : (ms : Mappings) (g n : ℕ) (p : Endpoint) (o : LocalAct) → LegalLocalAct ms g p o → SentOnly p → (r m first count resets k : ℕ) → r < p.requests
    → p.request r ≡ Out → (act_alone p n o).request r ≡ Out → ((c : ℕ) → p.message c ≡ Some ResetDone → is_out (p.request r) ≡ false) → ms.page m
    ≡ p.request_page r → ((k x : ℕ) → p.order_state k ≡ Taken x → x ≤ p.uses)
    → StrikesFirst p (p.request_binding r) (ms.page m) p.uses first count resets k
    → StrikesFirst (act_alone p n o) (p.request_binding r) (ms.page m) (act_alone p n o).uses first count resets k
flying_ahead ms g n p o l sent r m first count resets k b h h' over pg noted pe = grind (arith, nat_tests, noted k)

-- what waits for a reset-done, or for its PASID's invalidation
reset_pending : (ms : Mappings) (g n : ℕ) (p : Endpoint) (o : LocalAct) → LegalLocalAct ms g p o → (b q age age' resets : ℕ)
    → ((c : ℕ) → p.message c ≢ Some ResetDone) ⊎ ((act_alone p n o).resets ≡ p.resets) → Pending p b q age (NextReset resets)
    → Pending (act_alone p n o) b q age' (NextReset resets)
reset_pending ms g n p o l b q age age' resets nr pe = grind (arith, nat_tests)

pasid_pending : (ms : Mappings) (g n : ℕ) (p : Endpoint) (o : LocalAct) → LegalLocalAct ms g p o → (b q age age' k w resets : ℕ) (c0 : Bool)
    → ((c : ℕ) → p.message c ≢ Some ResetDone) ⊎ ((act_alone p n o).resets ≡ p.resets) → (p.phase ≡ Open → p.order_state w ≢ Done)
    → Pending p b q age (Pasid k w resets c0) → Pending (act_alone p n o) b q age' (Pasid k w resets c0)
pasid_pending ms g n p o l b q age age' k w resets c0 nr nd pe = grind (arith, nat_tests)

-- whatever is usable, no reset-done arrives
held_resets : (ms : Mappings) (g n : ℕ) (p : Endpoint) (o : LocalAct) → LegalLocalAct ms g p o → NoneLeft p → (r m : ℕ) → p.held r ≡ Some m
    → (act_alone p n o).resets ≡ p.resets
held_resets ms g n p o l left r m h = grind (arith, nat_tests, left.up, left.empty)

running_resets : (ms : Mappings) (g n : ℕ) (p : Endpoint) (o : LocalAct) → LegalLocalAct ms g p o → NoneLeft p → (u : ℕ) → p.use_state u ≡ Running
    → (act_alone p n o).resets ≡ p.resets
running_resets ms g n p o l left u h = grind (arith, nat_tests, left.up, left.dead)

flying_resets : (ms : Mappings) (g n : ℕ) (p : Endpoint) (o : LocalAct) → LegalLocalAct ms g p o → (r : ℕ)
    → ((c : ℕ) → p.message c ≡ Some ResetDone → is_out (p.request r) ≡ false) → p.request r ≡ Out → (act_alone p n o).resets ≡ p.resets
flying_resets ms g n p o l r over h = grind (arith, nat_tests)

over_at : (n : ℕ) (p : Endpoint) → Resets n p → (r c : ℕ) → p.message c ≡ Some ResetDone → is_out (p.request r) ≡ false
over_at n p re r c h = re.over c r (re.up c h)

running_made : (g : ℕ) (p : Endpoint) → Bounds g p → (u : ℕ) → p.use_state u ≡ Running → u < p.uses
running_made g p bo u h = grind (arith, bo.use_state u)

-- the three kinds, over whatever is owed
held_pending : (ms : Mappings) (g n : ℕ) (p : Endpoint) (o : LocalAct) → LegalLocalAct ms g p o → Resets n p → Bounds g p → Labels p → Orders p → Owners ms p
    → (r m : ℕ) → p.held r ≡ Some m → (act_alone p n o).held r ≡ Some m → (v : Owed) → Pending p (p.request_binding r) (ms.page m) p.uses v
    → Pending (act_alone p n o) (p.request_binding r) (ms.page m) (act_alone p n o).uses v
held_pending ms g n p o l re bo la or ow r m h h' Nothing pe = pe
held_pending ms g n p o l re bo la or ow r m h h' (Ranges first count resets) pe =
    (pe.0, held_ahead ms g n p o l (none_left n p re) la.sent r m first count resets pe.0 (bo.held r) h h' (ow.held_page r m h) bo.noted pe.1)
held_pending ms g n p o l re bo la or ow r m h h' (Pasid k w resets c0) pe =
    pasid_pending ms g n p o l (p.request_binding r) (ms.page m) p.uses (act_alone p n o).uses k w resets c0
    (inr (held_resets ms g n p o l (none_left n p re) r m h))
    (λ ph d. held_quiet ms p or ow r m k w ph pe.1 d h) pe
held_pending ms g n p o l re bo la or ow r m h h' (NextReset resets) pe =
    reset_pending ms g n p o l (p.request_binding r) (ms.page m) p.uses (act_alone p n o).uses resets (inr (held_resets ms g n p o l (none_left n p re) r m h))
    pe

running_pending : (ms : Mappings) (g n : ℕ) (p : Endpoint) (o : LocalAct) → LegalLocalAct ms g p o → Resets n p → Bounds g p → Labels p → Orders p → Owners ms p
    → (u : ℕ) → p.use_state u ≡ Running → (act_alone p n o).use_state u ≡ Running → (v : Owed)
    → Pending p (p.use_binding u) (ms.page (p.use_mapping u)) u v → Pending (act_alone p n o) (p.use_binding u) (ms.page (p.use_mapping u)) u v
running_pending ms g n p o l re bo la or ow u h h' Nothing pe = pe
running_pending ms g n p o l re bo la or ow u h h' (Ranges first count resets) pe = (
  pe.0,
  running_ahead ms g n p o l (none_left n p re) la.sent u first count resets pe.0 h h' (running_made g p bo u h)
      (spares ms g p o l pe.0 u h) pe.1,
)
running_pending ms g n p o l re bo la or ow u h h' (Pasid k w resets c0) pe =
    pasid_pending ms g n p o l (p.use_binding u) (ms.page (p.use_mapping u)) u u k w resets c0
    (inr (running_resets ms g n p o l (none_left n p re) u h))
    (λ ph d. running_quiet ms p or ow u k w ph pe.1 d h) pe
running_pending ms g n p o l re bo la or ow u h h' (NextReset resets) pe =
    reset_pending ms g n p o l (p.use_binding u) (ms.page (p.use_mapping u)) u u resets (inr (running_resets ms g n p o l (none_left n p re) u h)) pe

flying_pending : (ms : Mappings) (g n : ℕ) (p : Endpoint) (o : LocalAct) → LegalLocalAct ms g p o → Resets n p → Bounds g p → Bindings p → Labels p → Requests p
    → Owners ms p → (c r m : ℕ) → p.message c ≡ Some (CompletionOf r (Some m)) → p.request r ≡ Out → (act_alone p n o).request r ≡ Out → (v : Owed)
    → Pending p (p.request_binding r) (ms.page m) p.uses v → Pending (act_alone p n o) (p.request_binding r) (ms.page m) (act_alone p n o).uses v
flying_pending ms g n p o l re bo bi la ra ow c r m h q q' Nothing pe = pe
flying_pending ms g n p o l re bo bi la ra ow c r m h q q' (Ranges first count resets) pe = (
  pe.0,
  flying_ahead ms g n p o l la.sent r m first count resets pe.0 (bo.answered c r (Some m) h) q q' (over_at n p re r) (ow.flying_page c r m h) bo.noted pe.1,
)
flying_pending ms g n p o l re bo bi la ra ow c r m h q q' (Pasid k w resets c0) pe =
    absurd (unmarked_not_invalidating (p.stage (p.request_binding r)) k w (asker_stage p r bi ra q) pe.1)
flying_pending ms g n p o l re bo bi la ra ow c r m h q q' (NextReset resets) pe =
    reset_pending ms g n p o l (p.request_binding r) (ms.page m) p.uses (act_alone p n o).uses resets (inr (flying_resets ms g n p o l r (over_at n p re r) q))
    pe

-- what is usable now was usable before, or is made so by this act
abbrev pub keeps : LocalAct → (r m : ℕ) → Type 0
keeps (Keep c x y) r m = (x ≡ r) × (y ≡ m)
keeps _ r m = ⊥

held_from : (ms : Mappings) (g n : ℕ) (p : Endpoint) (o : LocalAct) → LegalLocalAct ms g p o → (r m : ℕ) → (act_alone p n o).held r ≡ Some m
    → (p.held r ≡ Some m) ⊎ keeps o r m
held_from ms g n p o l r m h = grind (arith, nat_tests)

abbrev pub begins : Endpoint → LocalAct → (u : ℕ) → Type 0
begins p (Begin r m t) u = u ≡ p.uses
begins p _ u = ⊥

running_from : (ms : Mappings) (g n : ℕ) (p : Endpoint) (o : LocalAct) → LegalLocalAct ms g p o → (u : ℕ) → (act_alone p n o).use_state u ≡ Running
    → (p.use_state u ≡ Running) ⊎ begins p o u
running_from ms g n p o l u h = grind (arith, nat_tests)

abbrev pub completes : (n : ℕ) → LocalAct → (c r m : ℕ) → Type 0
completes n (Complete d x (Some y) answer) c r m = (c ≡ n) × (x ≡ r) × (y ≡ m)
completes n _ c r m = ⊥

flying_from : (ms : Mappings) (g n : ℕ) (p : Endpoint) (o : LocalAct) → LegalLocalAct ms g p o → (c r m : ℕ)
    → (p.message c ≡ Some (CompletionOf r (Some m)) → r < p.requests) → (act_alone p n o).message c ≡ Some (CompletionOf r (Some m))
    → (act_alone p n o).request r ≡ Out → ((p.message c ≡ Some (CompletionOf r (Some m))) × (p.request r ≡ Out)) ⊎ completes n o c r m
flying_from ms g n p o l c r m made h i = grind (arith, nat_tests)

same_binding : (ms : Mappings) (g n : ℕ) (p : Endpoint) (o : LocalAct) → (r : ℕ) → r < p.requests → (act_alone p n o).request_binding r ≡ p.request_binding r
same_binding ms g n p o r b = grind (arith, nat_tests)

same_use : (ms : Mappings) (g n : ℕ) (p : Endpoint) (o : LocalAct) → (u : ℕ) → u < p.uses → ((act_alone p n o).use_binding u ≡ p.use_binding u)
    × ((act_alone p n o).use_mapping u ≡ p.use_mapping u)
same_use ms g n p o u b = grind (arith, nat_tests)

held_made : (g : ℕ) (p : Endpoint) → Bounds g p → (r m : ℕ) → p.held r ≡ Some m → r < p.requests
held_made g p bo r m h = grind (arith, bo.held r)

-- a present mapping is safe whatever happens at an endpoint
abbrev pub IsSafe : Mappings → ℕ → Endpoint → (b m age : ℕ) → Type 0
IsSafe ms e p b m age = (ms.state m ≡ Present) ⊎ Pending p b (ms.page m) age (owed_of (ms.state m) e)

keep_same : (p : Endpoint) (n c x y b q age : ℕ) (v : Owed) → Pending p b q age v → Pending (act_alone p n (Keep c x y)) b q age v
keep_same p n c x y b q age Nothing h = h
keep_same p n c x y b q age (Ranges first count resets) h = h
keep_same p n c x y b q age (Pasid k w resets c0) h = h
keep_same p n c x y b q age (NextReset resets) h = h

-- the age of what is cached grows, and that of a use is what it was when it began
begin_same : (p : Endpoint) (n r m t b q : ℕ) (v : Owed) → Pending p b q p.uses v → Pending (act_alone p n (Begin r m t)) b q p.uses v
begin_same p n r m t b q Nothing h = h
begin_same p n r m t b q (Ranges first count resets) h = h
begin_same p n r m t b q (Pasid k w resets c0) h = h
begin_same p n r m t b q (NextReset resets) h = h

kept_safe : (ms : Mappings) (g n e : ℕ) (p : Endpoint) (o : LocalAct) → LegalLocalAct ms g p o → Safe ms e p → (r m : ℕ) → keeps o r m
    → IsSafe ms e (act_alone p n o) ((act_alone p n o).request_binding r) m (act_alone p n o).uses
kept_safe ms g n e p (Keep c x y) l sa r m (a, b) =
    let c' : p.message c ≡ Some (CompletionOf r (Some m)) = cc in
    let q : p.request r ≡ Out = cc in
    elim (sa.flying c r m c' q) [
      | inl h ↦ inl h
      | inr h ↦ inr (keep_same p n c x y (p.request_binding r) (ms.page m) p.uses (owed_of (ms.state m) e) h)
    ]
kept_safe ms g n e p _ l sa r m k = absurd k

held_safe : (ms : Mappings) (g n e : ℕ) (p : Endpoint) (o : LocalAct) → LegalLocalAct ms g p o → Resets n p → Bounds g p → Labels p → Orders p → Owners ms p
    → Safe ms e p → (r m : ℕ) → (act_alone p n o).held r ≡ Some m → IsSafe ms e (act_alone p n o) ((act_alone p n o).request_binding r) m (act_alone p n o).uses
held_safe ms g n e p o l re bo la or ow sa r m h = go (held_from ms g n p o l r m h)
  where
    still : p.held r ≡ Some m → IsSafe ms e p (p.request_binding r) m p.uses → IsSafe ms e (act_alone p n o) (p.request_binding r) m (act_alone p n o).uses
    still old (inl x) = inl x
    still old (inr x) = inr (held_pending ms g n p o l re bo la or ow r m old h (owed_of (ms.state m) e) x)

    go : (p.held r ≡ Some m) ⊎ keeps o r m → IsSafe ms e (act_alone p n o) ((act_alone p n o).request_binding r) m (act_alone p n o).uses
    go (inl old) =
        subst (λ b. IsSafe ms e (act_alone p n o) b m (act_alone p n o).uses) (sym (same_binding ms g n p o r (held_made g p bo r m old)))
        (still old (sa.held r m old))
    go (inr k) = kept_safe ms g n e p o l sa r m k

completed_safe : (ms : Mappings) (g n e : ℕ) (p : Endpoint) (o : LocalAct) → LegalLocalAct ms g p o → ((s q m : ℕ) → ms.at s q ≡ Some m → ms.state m ≡ Present)
    → (c r m : ℕ) → completes n o c r m → ms.state m ≡ Present
completed_safe ms g n e p (Complete d x (Some y) answer) l pr c r m k =
    let y' : ms.at (p.space (p.request_binding x)) (p.request_page x) ≡ Some m = cc in
    pr (p.space (p.request_binding x)) (p.request_page x) m y'
completed_safe ms g n e p _ l pr c r m k = absurd k

flying_safe : (ms : Mappings) (g n e : ℕ) (p : Endpoint) (o : LocalAct) → LegalLocalAct ms g p o → ((s q m : ℕ) → ms.at s q ≡ Some m → ms.state m ≡ Present)
    → Resets n p → Bounds g p → Bindings p → Labels p → Requests p → Owners ms p → Safe ms e p → (c r m : ℕ) → (act_alone p n o).message c
    ≡ Some (CompletionOf r (Some m)) → (act_alone p n o).request r ≡ Out
    → IsSafe ms e (act_alone p n o) ((act_alone p n o).request_binding r) m (act_alone p n o).uses
flying_safe ms g n e p o l pr re bo bi la ra ow sa c r m h i = go (flying_from ms g n p o l c r m (bo.answered c r (Some m)) h i)
  where
    still : p.message c ≡ Some (CompletionOf r (Some m)) → p.request r ≡ Out → IsSafe ms e p (p.request_binding r) m p.uses
        → IsSafe ms e (act_alone p n o) (p.request_binding r) m (act_alone p n o).uses
    still old q (inl x) = inl x
    still old q (inr x) = inr (flying_pending ms g n p o l re bo bi la ra ow c r m old q i (owed_of (ms.state m) e) x)

    go : ((p.message c ≡ Some (CompletionOf r (Some m))) × (p.request r ≡ Out)) ⊎ completes n o c r m
        → IsSafe ms e (act_alone p n o) ((act_alone p n o).request_binding r) m (act_alone p n o).uses
    go (inl (old, q)) =
        subst (λ b. IsSafe ms e (act_alone p n o) b m (act_alone p n o).uses) (sym (same_binding ms g n p o r (bo.answered c r (Some m) old)))
        (still old q (sa.flying c r m old q))
    go (inr k) = inl (completed_safe ms g n e p o l pr c r m k)

begun_safe : (ms : Mappings) (g n e : ℕ) (p : Endpoint) (o : LocalAct) → LegalLocalAct ms g p o → Safe ms e p → (u : ℕ) → begins p o u
    → IsSafe ms e (act_alone p n o) ((act_alone p n o).use_binding u) ((act_alone p n o).use_mapping u) u
begun_safe ms g n e p (Begin r m t) l sa u k =
    subst (λ z. IsSafe ms e (act_alone p n (Begin r m t)) ((act_alone p n (Begin r m t)).use_binding z) ((act_alone p n (Begin r m t)).use_mapping z) z) (sym k)
    (subst (λ b. IsSafe ms e (act_alone p n (Begin r m t)) b ((act_alone p n (Begin r m t)).use_mapping p.uses) p.uses)
    (sym (put-same p.use_binding p.uses (p.request_binding r)))
    (subst (λ y. IsSafe ms e (act_alone p n (Begin r m t)) (p.request_binding r) y p.uses) (sym (put-same p.use_mapping p.uses m)) (go (sa.held r m l.1))))
  where
    go : IsSafe ms e p (p.request_binding r) m p.uses → IsSafe ms e (act_alone p n (Begin r m t)) (p.request_binding r) m p.uses
    go (inl x) = inl x
    go (inr x) = inr (begin_same p n r m t (p.request_binding r) (ms.page m) (owed_of (ms.state m) e) x)
begun_safe ms g n e p _ l sa u k = absurd k

running_safe : (ms : Mappings) (g n e : ℕ) (p : Endpoint) (o : LocalAct) → LegalLocalAct ms g p o → Resets n p → Bounds g p → Labels p → Orders p → Owners ms p
    → Safe ms e p → (u : ℕ) → (act_alone p n o).use_state u ≡ Running
    → IsSafe ms e (act_alone p n o) ((act_alone p n o).use_binding u) ((act_alone p n o).use_mapping u) u
running_safe ms g n e p o l re bo la or ow sa u h = go (running_from ms g n p o l u h)
  where
    still : p.use_state u ≡ Running → IsSafe ms e p (p.use_binding u) (p.use_mapping u) u → IsSafe ms e (act_alone p n o) (p.use_binding u) (p.use_mapping u) u
    still old (inl x) = inl x
    still old (inr x) = inr (running_pending ms g n p o l re bo la or ow u old h (owed_of (ms.state (p.use_mapping u)) e) x)

    go : (p.use_state u ≡ Running) ⊎ begins p o u → IsSafe ms e (act_alone p n o) ((act_alone p n o).use_binding u) ((act_alone p n o).use_mapping u) u
    go (inl old) =
        let s = same_use ms g n p o u (running_made g p bo u old) in
        subst (λ b. IsSafe ms e (act_alone p n o) b ((act_alone p n o).use_mapping u) u) (sym s.0)
        (subst (λ m. IsSafe ms e (act_alone p n o) (p.use_binding u) m u) (sym s.1) (still old (sa.running u old)))
    go (inr k) = begun_safe ms g n e p o l sa u k

pub every : (ms : Mappings) (g n e : ℕ) (p : Endpoint) (o : LocalAct) → LegalLocalAct ms g p o → ((s q m : ℕ) → ms.at s q ≡ Some m → ms.state m ≡ Present)
    → Resets n p → Bounds g p → Bindings p → Labels p → Requests p → Orders p → Owners ms p → Safe ms e p → Safe ms e (act_alone p n o)
every ms g n e p o l pr re bo bi la ra or ow sa =
    record {
      held = λ r m h. held_safe ms g n e p o l re bo la or ow sa r m h;
      flying = λ c r m h i. flying_safe ms g n e p o l pr re bo bi la ra ow sa c r m h i;
      running = λ u h. running_safe ms g n e p o l re bo la or ow sa u h;
    }
