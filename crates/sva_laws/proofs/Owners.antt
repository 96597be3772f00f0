-- Whose translations are: the owner of each is Live, Stopping, Draining or Invalidating, its mapping is of that page of
-- the owner's space, and while the owner is Invalidating, its PASID's invalidation is yet to strike it.
use Rattle.std.proofs.Common.{ap, refl, ◌≡◌, ◌≢◌, ℕ, ◌<◌, ◌≤◌, Bool, true, false, arith}
use Rattle.std.specs.Prelude.{Some, None, nat_lt}
use Rattle.std.proofs.lemmas.Bool.Decides.{nat_tests}
use Rattle.sva_model.specs.State.{Mappings, Endpoint, OrderState}
use Rattle.sva_model.specs.State.Stage.{Unbound, Invalidating}
use Rattle.sva_model.specs.State.RequestState.{Out}
use Rattle.sva_model.specs.State.PasidState.{On}
use Rattle.sva_model.specs.State.Order.{PasidOf}
use Rattle.sva_model.specs.State.UseState.{Running, Ended}
use Rattle.sva_model.specs.State.OrderState.{Queued, Sent, Taken, Done}
use Rattle.sva_model.specs.State.Subject.{CompletionOf, ResetDone}
use Rattle.sva_model.specs.State.Phase.{Open, Cleared}
use Rattle.sva_model.specs.States.{is_open, is_wait, is_taken, uses_noted, covers}
use Rattle.sva_model.specs.StateChanges.{binding_of}
use Rattle.sva_model.specs.Acts.{act_alone, LocalAct}
use Rattle.sva_model.specs.Acts.LocalAct.{Finish}
use Rattle.sva_laws.proofs.Legal.{LegalLocalAct}
use Rattle.sva_laws.proofs.Resets.{Resets}
use Rattle.sva_laws.proofs.Bounds.{Bounds}
use Rattle.sva_laws.proofs.Bindings.{Bindings, is_unmarked}
use Rattle.sva_laws.proofs.Labels.{Labels}
use Rattle.sva_laws.proofs.Requests.{Requests}
use Rattle.sva_laws.proofs.Orders.{Orders, SentOnly, is_active, is_undone, quiet_now}

-- is it yet to strike what is of this age? A use is as old as its name; what is cached or in flight has no age.
abbrev pub blocks : OrderState → (age : ℕ) → Bool
blocks Queued age = true
blocks Sent age = true
blocks (Taken uses) age = nat_lt age uses
blocks _ age = false

pub record Owners (ms : Mappings) (p : Endpoint) : Type 0 where
  pub held : (r m : ℕ) → p.held r ≡ Some m → is_active (p.stage (p.request_binding r)) ≡ true
  pub running : (u : ℕ) → p.use_state u ≡ Running → is_active (p.stage (p.use_binding u)) ≡ true
  pub held_space : (r m : ℕ) → p.held r ≡ Some m → ms.space m ≡ p.space (p.request_binding r)
  pub held_page : (r m : ℕ) → p.held r ≡ Some m → ms.page m ≡ p.request_page r
  pub flying_space : (c r m : ℕ) → p.message c ≡ Some (CompletionOf r (Some m)) → ms.space m ≡ p.space (p.request_binding r)
  pub flying_page : (c r m : ℕ) → p.message c ≡ Some (CompletionOf r (Some m)) → ms.page m ≡ p.request_page r
  pub running_space : (u : ℕ) → p.use_state u ≡ Running → ms.space (p.use_mapping u) ≡ p.space (p.use_binding u)
  pub held_made : (r m : ℕ) → p.held r ≡ Some m → m < ms.made
  pub flying_made : (c r m : ℕ) → p.message c ≡ Some (CompletionOf r (Some m)) → m < ms.made
  pub running_made : (u : ℕ) → p.use_state u ≡ Running → p.use_mapping u < ms.made
  pub held_open : (r m k w : ℕ) → p.held r ≡ Some m → p.stage (p.request_binding r) ≡ Invalidating k w → p.phase ≡ Open
      → blocks (p.order_state k) p.uses ≡ true
  pub held_closed : (r m k w : ℕ) → p.held r ≡ Some m → p.stage (p.request_binding r) ≡ Invalidating k w → is_open p.phase ≡ false → p.order_state k ≢ Done
  pub running_open : (u k w : ℕ) → p.use_state u ≡ Running → p.stage (p.use_binding u) ≡ Invalidating k w → p.phase ≡ Open → blocks (p.order_state k) u ≡ true
  pub running_closed : (u k w : ℕ) → p.use_state u ≡ Running → p.stage (p.use_binding u) ≡ Invalidating k w → is_open p.phase ≡ false → p.order_state k ≢ Done

-- what is asked for is asked for by a binding that is Live or Stopping
pub asker_stage : (p : Endpoint) (r : ℕ) → Bindings p → Requests p → p.request r ≡ Out → is_unmarked (p.stage (p.request_binding r)) ≡ true
asker_stage p r bi ra h = grind (arith, ra.alive r, bi.on_stage (p.request_binding r), bi.ending_stage (p.request_binding r))

-- the facts of a reset that what is usable rests on
pub record NoneLeft (p : Endpoint) : Type 0 where
  pub up : (c : ℕ) → p.message c ≡ Some ResetDone → p.phase ≡ Cleared c
  pub empty : (c r : ℕ) → p.phase ≡ Cleared c → p.held r ≡ None
  pub dead : (c u : ℕ) → p.phase ≡ Cleared c → p.use_state u ≢ Running

pub none_left : (n : ℕ) (p : Endpoint) → Resets n p → NoneLeft p
none_left n p re = record { up = re.up; empty = re.empty; dead = re.dead }

held_kept : (ms : Mappings) (g n : ℕ) (p : Endpoint) (o : LocalAct) → LegalLocalAct ms g p o → NoneLeft p
    → ((r : ℕ) → p.request r ≡ Out → is_unmarked (p.stage (p.request_binding r)) ≡ true) → (r m : ℕ)
    → (p.held r ≡ Some m → is_active (p.stage (p.request_binding r)) ≡ true) → ((r : ℕ) → p.requests ≤ r → p.held r ≡ None)
    → ((k w : ℕ) → p.phase ≡ Open → p.stage (p.request_binding r) ≡ Invalidating k w → p.order_state w ≡ Done → p.held r ≢ Some m)
    → (act_alone p n o).held r ≡ Some m → is_active ((act_alone p n o).stage ((act_alone p n o).request_binding r)) ≡ true
held_kept ms g n p o l left asker r m old bound quiet h = grind (arith, nat_tests, bound r, left.up, left.empty)

running_kept : (ms : Mappings) (g n : ℕ) (p : Endpoint) (o : LocalAct) → LegalLocalAct ms g p o
    → ((r m : ℕ) → p.held r ≡ Some m → is_active (p.stage (p.request_binding r)) ≡ true) → NoneLeft p → (u : ℕ)
    → (p.use_state u ≡ Running → is_active (p.stage (p.use_binding u)) ≡ true)
    → ((k w : ℕ) → p.phase ≡ Open → p.stage (p.use_binding u) ≡ Invalidating k w → p.order_state w ≡ Done → p.use_state u ≢ Running)
    → (act_alone p n o).use_state u ≡ Running → is_active ((act_alone p n o).stage ((act_alone p n o).use_binding u)) ≡ true
running_kept ms g n p o l held left u old quiet h = grind (arith, nat_tests, left.up, left.dead)

blocks_undone : (s : OrderState) (age : ℕ) → blocks s age ≡ true → is_undone s ≡ true
blocks_undone s age h = grind (arith, nat_tests)

-- when its wait is done, nothing of an invalidating binding is cached or in use
pub held_quiet : (ms : Mappings) (p : Endpoint) → Orders p → Owners ms p → (r m k w : ℕ) → p.phase ≡ Open → p.stage (p.request_binding r)
    ≡ Invalidating k w → p.order_state w ≡ Done → p.held r ≢ Some m
held_quiet ms p or ow r m k w ph st d h =
    let i = or.invalidating (p.request_binding r) k w st in
    quiet_now p or (p.request_binding r) k w k st d (blocks_undone (p.order_state k) p.uses (ow.held_open r m k w h st ph)) (ap is_wait i.1)
    (ap binding_of i.1)

pub running_quiet : (ms : Mappings) (p : Endpoint) → Orders p → Owners ms p → (u k w : ℕ) → p.phase ≡ Open → p.stage (p.use_binding u) ≡ Invalidating k w
    → p.order_state w ≡ Done → p.use_state u ≢ Running
running_quiet ms p or ow u k w ph st d h =
    let i = or.invalidating (p.use_binding u) k w st in
    quiet_now p or (p.use_binding u) k w k st d (blocks_undone (p.order_state k) u (ow.running_open u k w h st ph)) (ap is_wait i.1) (ap binding_of i.1)

held_space_kept : (ms : Mappings) (g n : ℕ) (p : Endpoint) (o : LocalAct) → LegalLocalAct ms g p o → (r m : ℕ) → (p.requests ≤ r → p.held r ≡ None)
    → (p.held r ≡ Some m → ms.space m ≡ p.space (p.request_binding r)) → (p.held r ≡ Some m → is_active (p.stage (p.request_binding r)) ≡ true)
    → ((c : ℕ) → p.message c ≡ Some (CompletionOf r (Some m)) → ms.space m ≡ p.space (p.request_binding r)) → (act_alone p n o).held r ≡ Some m
    → ms.space m ≡ (act_alone p n o).space ((act_alone p n o).request_binding r)
held_space_kept ms g n p o l r m bound old act flying h = grind (arith, nat_tests)

held_page_kept : (ms : Mappings) (g n : ℕ) (p : Endpoint) (o : LocalAct) → LegalLocalAct ms g p o → (r m : ℕ) → (p.requests ≤ r → p.held r ≡ None)
    → (p.held r ≡ Some m → ms.page m ≡ p.request_page r) → ((c : ℕ) → p.message c ≡ Some (CompletionOf r (Some m)) → ms.page m ≡ p.request_page r)
    → (act_alone p n o).held r ≡ Some m → ms.page m ≡ (act_alone p n o).request_page r
held_page_kept ms g n p o l r m bound old flying h = grind (arith, nat_tests)

-- the mapping that a page of a space leads to is of that space and page
abbrev pub Leads : Mappings → Type 0
Leads ms = (s q m : ℕ) → ms.at s q ≡ Some m → (ms.space m ≡ s) × (ms.page m ≡ q) × (m < ms.made)

flying_space_kept : (ms : Mappings) (g n : ℕ) (p : Endpoint) (o : LocalAct) → LegalLocalAct ms g p o → Leads ms → (c r m : ℕ)
    → (p.message c ≡ Some (CompletionOf r (Some m)) → r < p.requests) → (r < p.requests → p.stage (p.request_binding r) ≢ Unbound)
    → (p.message c ≡ Some (CompletionOf r (Some m)) → ms.space m ≡ p.space (p.request_binding r)) → (act_alone p n o).message c
    ≡ Some (CompletionOf r (Some m)) → ms.space m ≡ (act_alone p n o).space ((act_alone p n o).request_binding r)
flying_space_kept ms g n p o l le c r m bound made old h = grind (arith, nat_tests, le (p.space (p.request_binding r)) (p.request_page r) m)

flying_page_kept : (ms : Mappings) (g n : ℕ) (p : Endpoint) (o : LocalAct) → LegalLocalAct ms g p o → Leads ms → (c r m : ℕ)
    → (p.message c ≡ Some (CompletionOf r (Some m)) → r < p.requests) → (p.message c ≡ Some (CompletionOf r (Some m)) → ms.page m ≡ p.request_page r)
    → (act_alone p n o).message c ≡ Some (CompletionOf r (Some m)) → ms.page m ≡ (act_alone p n o).request_page r
flying_page_kept ms g n p o l le c r m bound old h = grind (arith, nat_tests, le (p.space (p.request_binding r)) (p.request_page r) m)

held_made_kept : (ms : Mappings) (g n : ℕ) (p : Endpoint) (o : LocalAct) → LegalLocalAct ms g p o → (r m : ℕ) → (p.held r ≡ Some m → m < ms.made)
    → ((c : ℕ) → p.message c ≡ Some (CompletionOf r (Some m)) → m < ms.made) → (act_alone p n o).held r ≡ Some m → m < ms.made
held_made_kept ms g n p o l r m old flying h = grind (arith, nat_tests)

flying_made_kept : (ms : Mappings) (g n : ℕ) (p : Endpoint) (o : LocalAct) → LegalLocalAct ms g p o → Leads ms → (c r m : ℕ)
    → (p.message c ≡ Some (CompletionOf r (Some m)) → m < ms.made) → (act_alone p n o).message c ≡ Some (CompletionOf r (Some m)) → m < ms.made
flying_made_kept ms g n p o l le c r m old h = grind (arith, nat_tests, le (p.space (p.request_binding r)) (p.request_page r) m)

running_made_kept : (ms : Mappings) (g n : ℕ) (p : Endpoint) (o : LocalAct) → LegalLocalAct ms g p o → (u : ℕ) → ((r m : ℕ) → p.held r ≡ Some m → m < ms.made)
    → (p.uses ≤ u → p.use_state u ≡ Ended) → (p.use_state u ≡ Running → p.use_mapping u < ms.made) → (act_alone p n o).use_state u ≡ Running
    → (act_alone p n o).use_mapping u < ms.made
running_made_kept ms g n p o l u held bound old h = grind (arith, nat_tests)

running_space_kept : (ms : Mappings) (g n : ℕ) (p : Endpoint) (o : LocalAct) → LegalLocalAct ms g p o
    → ((r m : ℕ) → p.held r ≡ Some m → ms.space m ≡ p.space (p.request_binding r)) → (u : ℕ) → (p.uses ≤ u → p.use_state u ≡ Ended)
    → (p.use_state u ≡ Running → is_active (p.stage (p.use_binding u)) ≡ true)
    → (p.use_state u ≡ Running → ms.space (p.use_mapping u) ≡ p.space (p.use_binding u)) → (act_alone p n o).use_state u ≡ Running
    → ms.space ((act_alone p n o).use_mapping u) ≡ (act_alone p n o).space ((act_alone p n o).use_binding u)
running_space_kept ms g n p o l held u bound act old h = grind (arith, nat_tests)

held_open_kept : (ms : Mappings) (g n : ℕ) (p : Endpoint) (o : LocalAct) → LegalLocalAct ms g p o → NoneLeft p → SentOnly p
    → ((r : ℕ) → p.request r ≡ Out → is_unmarked (p.stage (p.request_binding r)) ≡ true) → (r m k w : ℕ) → (p.requests ≤ r → p.held r ≡ None)
    → (p.stage (p.request_binding r) ≡ Invalidating k w → (k < p.orders) × (p.order k ≡ PasidOf (p.request_binding r)))
    → ((x : ℕ) → p.order_state k ≡ Taken x → x ≤ p.uses)
    → (p.held r ≡ Some m → p.stage (p.request_binding r) ≡ Invalidating k w → p.phase ≡ Open → blocks (p.order_state k) p.uses ≡ true)
    → (act_alone p n o).held r ≡ Some m → (act_alone p n o).stage ((act_alone p n o).request_binding r) ≡ Invalidating k w → (act_alone p n o).phase ≡ Open
    → blocks ((act_alone p n o).order_state k) (act_alone p n o).uses ≡ true
held_open_kept ms g n p o l left sent asker r m k w bound inv noted old h i j = grind (arith, nat_tests, left.up, left.empty)

held_closed_kept : (ms : Mappings) (g n : ℕ) (p : Endpoint) (o : LocalAct) → LegalLocalAct ms g p o → NoneLeft p → SentOnly p
    → ((r : ℕ) → p.request r ≡ Out → is_unmarked (p.stage (p.request_binding r)) ≡ true) → (r m k w : ℕ) → (p.requests ≤ r → p.held r ≡ None)
    → (p.held r ≡ Some m → p.stage (p.request_binding r) ≡ Invalidating k w → p.phase ≡ Open → blocks (p.order_state k) p.uses ≡ true)
    → (p.held r ≡ Some m → p.stage (p.request_binding r) ≡ Invalidating k w → is_open p.phase ≡ false → p.order_state k ≢ Done) → (act_alone p n o).held r
    ≡ Some m → (act_alone p n o).stage ((act_alone p n o).request_binding r) ≡ Invalidating k w → is_open (act_alone p n o).phase ≡ false
    → (act_alone p n o).order_state k ≢ Done
held_closed_kept ms g n p o l left sent asker r m k w bound opened old h i j d = grind (arith, nat_tests, left.up, left.empty)

-- does the act finish the order?
abbrev pub finishes : LocalAct → ℕ → Bool
finishes (Finish names vector count) k = names k
finishes _ k = false

-- an order that has noted a running use isn't finished
finish_spares : (ms : Mappings) (p : Endpoint) (names : ℕ → Bool) (k u : ℕ) → (names k ≡ true → is_taken (p.order_state k) ≡ true)
    → (names k ≡ true → u < uses_noted (p.order_state k) → p.use_state u ≡ Running → covers (p.order k) (p.use_binding u) (ms.page (p.use_mapping u))
    ≡ false) → p.use_state u ≡ Running → covers (p.order k) (p.use_binding u) (ms.page (p.use_mapping u)) ≡ true → blocks (p.order_state k) u ≡ true
    → names k ≡ false
finish_spares ms p names k u taken spares h c b = grind (arith, nat_tests)

pub spares : (ms : Mappings) (g : ℕ) (p : Endpoint) (o : LocalAct) → LegalLocalAct ms g p o → (k u : ℕ) → p.use_state u ≡ Running
    → covers (p.order k) (p.use_binding u) (ms.page (p.use_mapping u)) ≡ true → blocks (p.order_state k) u ≡ true → finishes o k ≡ false
spares ms g p (Finish names vector count) l k u h c b = finish_spares ms p names k u (l.1 k) (l.2 k u) h c b
spares ms g p _ l k u h c b = refl

running_open_kept : (ms : Mappings) (g n : ℕ) (p : Endpoint) (o : LocalAct) → LegalLocalAct ms g p o → NoneLeft p → SentOnly p
    → ((r : ℕ) → p.pasid_state r ≡ On → is_unmarked (p.stage r) ≡ true) → (u k w : ℕ) → (p.uses ≤ u → p.use_state u ≡ Ended)
    → (p.stage (p.use_binding u) ≡ Invalidating k w → (k < p.orders) × (p.order k ≡ PasidOf (p.use_binding u)))
    → (p.use_state u ≡ Running → covers (p.order k) (p.use_binding u) (ms.page (p.use_mapping u)) ≡ true → blocks (p.order_state k) u ≡ true
    → finishes o k ≡ false) → (p.use_state u ≡ Running → p.stage (p.use_binding u) ≡ Invalidating k w → p.phase ≡ Open → blocks (p.order_state k) u
    ≡ true) → (act_alone p n o).use_state u ≡ Running → (act_alone p n o).stage ((act_alone p n o).use_binding u) ≡ Invalidating k w
    → (act_alone p n o).phase ≡ Open
    → blocks ((act_alone p n o).order_state k) u ≡ true
running_open_kept ms g n p o l left sent on u k w bound inv spared old h i j = grind (arith, nat_tests, left.up, left.dead)

running_closed_kept : (ms : Mappings) (g n : ℕ) (p : Endpoint) (o : LocalAct) → LegalLocalAct ms g p o → NoneLeft p → SentOnly p
    → ((r : ℕ) → p.pasid_state r ≡ On → is_unmarked (p.stage r) ≡ true) → (u k w : ℕ) → (p.uses ≤ u → p.use_state u ≡ Ended)
    → (p.use_state u ≡ Running → p.stage (p.use_binding u) ≡ Invalidating k w → p.phase ≡ Open → blocks (p.order_state k) u ≡ true)
    → (p.use_state u ≡ Running → p.stage (p.use_binding u) ≡ Invalidating k w → is_open p.phase ≡ false → p.order_state k ≢ Done)
    → (act_alone p n o).use_state u ≡ Running → (act_alone p n o).stage ((act_alone p n o).use_binding u) ≡ Invalidating k w
    → is_open (act_alone p n o).phase ≡ false
    → (act_alone p n o).order_state k ≢ Done
running_closed_kept ms g n p o l left sent on u k w bound opened old h i j d = grind (arith, nat_tests, left.up, left.dead)

invalidating_order : (p : Endpoint) → Orders p → (b k w : ℕ) → p.stage b ≡ Invalidating k w → (k < p.orders) × (p.order k ≡ PasidOf b)
invalidating_order p or b k w h = let i = or.invalidating b k w h in (omega (arith, i), i.1)

pub every : (ms : Mappings) (g n : ℕ) (p : Endpoint) (o : LocalAct) → LegalLocalAct ms g p o → Leads ms → Resets n p → Bounds g p → Bindings p → Labels p
    → Requests p → Orders p → Owners ms p → Owners ms (act_alone p n o)
every ms g n p o l le re bo bi la ra or ow =
    record {
      held = λ r m h. held_kept ms g n p o l (none_left n p re) (λ x. asker_stage p x bi ra) r m (ow.held r m) bo.held
          (λ k w. held_quiet ms p or ow r m k w) h;
      running = λ u h. running_kept ms g n p o l ow.held (none_left n p re) u (ow.running u) (λ k w. running_quiet ms p or ow u k w) h;
      held_space = λ r m h. held_space_kept ms g n p o l r m (bo.held r) (ow.held_space r m) (ow.held r m) (λ c. ow.flying_space c r m) h;
      held_page = λ r m h. held_page_kept ms g n p o l r m (bo.held r) (ow.held_page r m) (λ c. ow.flying_page c r m) h;
      flying_space = λ c r m h. flying_space_kept ms g n p o l le c r m (bo.answered c r (Some m)) (ra.bound r) (ow.flying_space c r m) h;
      flying_page = λ c r m h. flying_page_kept ms g n p o l le c r m (bo.answered c r (Some m)) (ow.flying_page c r m) h;
      running_space = λ u h. running_space_kept ms g n p o l ow.held_space u (bo.use_state u) (ow.running u) (ow.running_space u) h;
      held_made = λ r m h. held_made_kept ms g n p o l r m (ow.held_made r m) (λ c. ow.flying_made c r m) h;
      flying_made = λ c r m h. flying_made_kept ms g n p o l le c r m (ow.flying_made c r m) h;
      running_made = λ u h. running_made_kept ms g n p o l u ow.held_made (bo.use_state u) (ow.running_made u) h;
      held_open = λ r m k w h i j. held_open_kept ms g n p o l (none_left n p re) la.sent (λ x. asker_stage p x bi ra) r m k w (bo.held r)
          (invalidating_order p or (p.request_binding r) k w) (bo.noted k) (ow.held_open r m k w) h i j;
      held_closed = λ r m k w h i j. held_closed_kept ms g n p o l (none_left n p re) la.sent (λ x. asker_stage p x bi ra) r m k w (bo.held r)
          (ow.held_open r m k w) (ow.held_closed r m k w) h i j;
      running_open = λ u k w h i j. running_open_kept ms g n p o l (none_left n p re) la.sent bi.on_stage u k w (bo.use_state u)
          (invalidating_order p or (p.use_binding u) k w) (spares ms g p o l k u) (ow.running_open u k w) h i j;
      running_closed = λ u k w h i j. running_closed_kept ms g n p o l (none_left n p re) la.sent bi.on_stage u k w (bo.use_state u)
          (ow.running_open u k w) (ow.running_closed u k w) h i j;
    }
