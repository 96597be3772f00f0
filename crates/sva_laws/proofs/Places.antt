-- A unit's queue never has more than 64 descriptors, and an endpoint never caches more than 64 translations.
use Rattle.std.proofs.Common.{◌≡◌, ◌≢◌, ◌⊎◌, inl, inr, refl, ap, sym, subst, ◌∙◌, ℕ, zero, suc, ◌+◌, ◌<◌, ◌≤◌, Bool, true, false, arith}
use Rattle.std.specs.Prelude.{Option, Some, None, ◌&&◌, not, if◌then◌else◌, List, [], ◌∷◌}
use Rattle.std.proofs.lemmas.Bool.Decides.{nat_tests}
use Rattle.std.proofs.lemmas.Bool.{ltb-false}
use Rattle.sva_step.specs.declared.answers.Answer.{Answer}
use Rattle.sva_step.specs.declared.limits.Config.{Config}
use Rattle.sva_step.specs.declared.steps.Step.{Step}
use Rattle.sva_step.specs.declared.steps.Step.TheVariants as step
use Rattle.sva_model.specs.Words.{put, any_below, count_below, is_some}
use Rattle.sva_model.specs.State.{PasidRule, Mappings, Endpoint, World, opened}
use Rattle.sva_model.specs.States.{is_queued}
use Rattle.sva_model.specs.Unmappings.{submitted, submitted_if, submits, bound, cookie_of}
use Rattle.sva_model.specs.StateChanges.{is_replaced, none_if}
use Rattle.sva_model.specs.Acts.{Act, LocalAct, act, act_alone}
use Rattle.sva_model.specs.Acts.Act.{NewSpace, DropSpace, Map, Unmap, NewBinding, NewJob, Hold, LetGo, AtEndpoint}
use Rattle.sva_model.specs.Labels.{name, queue_length}
use Rattle.sva_model.specs.Refusals.{refusals, is_queue_short}
use Rattle.sva_model.specs.Outcomes.{outcome, is_full}
use Rattle.sva_model.specs.Steps.{decide, next, run, after_acts, world_after}
use Rattle.sva_laws.specs.LimitLaws.{cached_translations}
use Rattle.sva_laws.specs.Steps.{takes_out}
use Rattle.sva_labels.proofs.Words.{put-other, ℕ_cases, any_below-false}
use Rattle.sva_labels.proofs.Tests.{other_fails}
use Rattle.sva_labels.proofs.Counting.{bit_most, bit_less, count_next, count_less, count_more}
use Rattle.sva_laws.proofs.Legal.{LegalLocalAct}
use Rattle.sva_laws.proofs.Bounds.{Bounds}
use Rattle.sva_laws.proofs.Invariant.{Invariant}
use Rattle.sva_laws.proofs.Keeps.{Legal, act_keeps, put_keeps}
use Rattle.sva_laws.proofs.Passed.{LegalAll}
use Rattle.sva_laws.proofs.Cookies.{submits_there}
use Rattle.sva_laws.proofs.Runs.{step_legal, next_keeps, opened_invariant}
use Rattle.sva_laws.proofs.Rooms.{by_passed}
use Rattle.sva_laws.proofs.StepActs.{may, AllMay, step_may}
use Rattle.sva_laws.proofs.StepKinds.{IsBy, Kind, is_calm, is_calm_own, are_calm, step_kind}
use Rattle.sva_laws.proofs.StepKinds.Kind.{calm, single, unmapping}

-- The queue of a unit.

-- where some more may pass
count_added : (n s : ℕ) (f g : ℕ → Bool) → ((k : ℕ) → k < n → f k ≡ true → g k ≡ true) → count_below (n + s) f ≤ count_below n g + s
count_added n zero f g h =
    let same : n + 0 ≡ n = omega arith in
    let less = count_less n f g h in
    let e : count_below (n + 0) f ≡ count_below n f = ap (λ z. count_below z f) same in
    omega (arith, less, e)
count_added n (suc s) f g h =
    let rest = count_added n s f g h in
    let same : n + suc s ≡ suc (n + s) = omega arith in
    let e : count_below (n + suc s) f ≡ count_below (suc (n + s)) f = ap (λ z. count_below z f) same in
    omega (arith, rest, e, count_next (n + s) f, bit_most (f (n + s)))

-- how many descriptors an act of an endpoint submits
abbrev added : LocalAct → ℕ
added (LocalAct.Drain b cookie) = 1
added (LocalAct.Invalidate b cookie) = 2
added _ = 0

queued_before : (ms : Mappings) (g n : ℕ) (p : Endpoint) (o : LocalAct) → LegalLocalAct ms g p o → (k : ℕ) → k < p.orders
    → is_queued ((act_alone p n o).order_state k) ≡ true → is_queued (p.order_state k) ≡ true
queued_before ms g n p o l k lt h = grind (arith, nat_tests)

orders_after : (p : Endpoint) (n : ℕ) (o : LocalAct) → (act_alone p n o).orders ≡ p.orders + added o
orders_after p n (LocalAct.Drain b cookie) = omega arith
orders_after p n (LocalAct.Invalidate b cookie) = omega arith
orders_after p n o = grind arith

has_place : (ms : Mappings) (g : ℕ) (p : Endpoint) (o : LocalAct) → LegalLocalAct ms g p o → queue_length p ≤ 64 → queue_length p + added o ≤ 64
has_place ms g p (LocalAct.Drain b cookie) l h = let r = l.2 in omega (arith, r)
has_place ms g p (LocalAct.Invalidate b cookie) l h = let r = l.2 in omega (arith, r)
has_place ms g p o l h = grind arith

own_short : (ms : Mappings) (g n : ℕ) (p : Endpoint) (o : LocalAct) → LegalLocalAct ms g p o → queue_length p ≤ 64 → queue_length (act_alone p n o) ≤ 64
own_short ms g n p o l h =
    subst (λ k. count_below k (λ j. is_queued ((act_alone p n o).order_state j)) ≤ 64) (sym (orders_after p n o))
    (let m = count_added p.orders (added o) (λ j. is_queued ((act_alone p n o).order_state j)) (λ j. is_queued (p.order_state j))
    (λ k lt t. queued_before ms g n p o l k lt t) in
    let r = has_place ms g p o l h in
    omega (arith, m, r))

submitted_before : (p : Endpoint) (b q count order cookie k : ℕ) → k < p.orders → is_queued ((submitted p b q count order cookie).order_state k) ≡ true
    → is_queued (p.order_state k) ≡ true
submitted_before p b q count order cookie k lt h = grind (arith, nat_tests)

submitted_short : (t : Bool) (p : Endpoint) (o : Option ℕ) (q count order cookie : ℕ) → (t ≡ true → queue_length p + suc count ≤ 64)
    → queue_length p ≤ 64 → queue_length (submitted_if t p o q count order cookie) ≤ 64
submitted_short true p (Some b) q count order cookie room h =
    let m = count_added p.orders (suc count) (λ j. is_queued ((submitted p b q count order cookie).order_state j)) (λ j. is_queued (p.order_state j))
    (λ k lt t. submitted_before p b q count order cookie k lt t) in
    let r = room refl in
    omega (arith, m, r)
submitted_short true p None q count order cookie room h = h
submitted_short false p o q count order cookie room h = h

abbrev pub AllShort : World → Type 0
AllShort w = (e : ℕ) → queue_length (w.part e) ≤ 64

-- a step that takes no pages out
act_short : (w : World) (z : Step) (a : Act) → takes_out z ≡ false → may a z ≡ true → Legal w a → AllShort w → AllShort (act w a)
act_short w z NewSpace t m l h = h
act_short w z (DropSpace s) t m l h = h
act_short w z (Map s q f x) t m l h = h
act_short w z (Unmap s q count order) t m l h = absurd (cc)
act_short w z (NewBinding e) t m l h = h
act_short w z (NewJob e y) t m l h = h
act_short w z (Hold x j) t m l h = h
act_short w z (LetGo x) t m l h = h
act_short w z (AtEndpoint e o) t m l h =
    put_keeps (λ k p. queue_length p ≤ 64) w.part e (act_alone (w.part e) w.messages o) (own_short w.mappings w.bindings w.messages (w.part e) o l.1.0 (h e)) h

acts_short : (z : Step) (acts : List Act) (w : World) → takes_out z ≡ false → AllMay z acts → LegalAll w acts → AllShort w → AllShort (after_acts w acts)
acts_short z [] w t m l h = h
acts_short z (a ∷ acts) w t m l h = acts_short z acts (act w a) t m.1 l.1 (act_short w z a t m.0 l.0 h)

-- a step that does
no_room_short : (p : Endpoint) (n : ℕ) → is_queue_short p n ≡ false → queue_length p + n ≤ 64
no_room_short p n h = ltb-false 64 (queue_length p + n) h

unmap_short : (w : World) (s q count order n : ℕ) → n ≡ suc count → any_below w.config.endpoints (λ e. submits w s e && is_queue_short (w.part e) n) ≡ false
    → Invariant w → AllShort w → AllShort (act w (Unmap s q count order))
unmap_short w s q count order n same full i h =
    λ e. submitted_short (submits w s e) (w.part e) (bound w e s) q count order (cookie_of w s e) (λ t. room e t) (h e)
  where
    room : (e : ℕ) → submits w s e ≡ true → queue_length (w.part e) + suc count ≤ 64
    room e t =
        let f : (submits w s e && is_queue_short (w.part e) n) ≡ false =
        any_below-false w.config.endpoints (λ x. submits w s x && is_queue_short (w.part x) n) full e (submits_there w s e i t) in
        let k : queue_length (w.part e) + n ≤ 64 = no_room_short (w.part e) n (other_fails (submits w s e) (is_queue_short (w.part e) n) f t) in
        omega (arith, k, same)

next_short : (w : World) (s : Step) → Invariant w → AllShort w → AllShort (next w s)
next_short w s i h = go s (takes_out s) refl
  where
    go : (z : Step) (b : Bool) → takes_out z ≡ b → AllShort (next w z)
    go (step.Unmap n q count) b y =
        by_passed (λ acts. AllShort (after_acts w acts)) (refusals w (step.Unmap n q count)) (outcome w (step.Unmap n q count)) h
        (λ k. unmap_short w (name w n) q count 0 (count + 1) (omega arith) k.1.1.1.1.0 i h)
    go (step.UnmapRange n q order) b y =
        by_passed (λ acts. AllShort (after_acts w acts)) (refusals w (step.UnmapRange n q order)) (outcome w (step.UnmapRange n q order)) h
        (λ k. unmap_short w (name w n) q 1 order 2 (omega arith) k.1.1.1.1.1.0 i h)
    go z false y = acts_short z (decide w z).acts w y (step_may w z) (step_legal w z i) h
    go z true y = absurd (grind arith)

run_short : (ss : List Step) (w : World) → Invariant w → AllShort w → AllShort (run w ss)
run_short [] w i h = h
run_short (s ∷ ss) w i h = run_short ss (next w s) (next_keeps w s i) (next_short w s i h)

opened_short : (rule : PasidRule) (c : Config) → AllShort (opened rule c)
unfolding count_below
opened_short rule c e = omega arith

pub always_short : (rule : PasidRule) (config : Config) (steps : List Step) → AllShort (world_after rule config steps)
always_short rule config steps = run_short steps (opened rule config) (opened_invariant rule config) (opened_short rule config)

-- The cache of an endpoint.

-- one may pass beside those of another table
one_beside : (n c : ℕ) (f g : ℕ → Bool) → ((d : ℕ) → d ≢ c → f d ≡ true → g d ≡ true) → count_below n f ≤ suc (count_below n g)
unfolding count_below
one_beside zero c f g h = omega arith
one_beside (suc n) c f g h = go (ℕ_cases n c) (one_beside n c f g h)
  where
    go : (n ≡ c) ⊎ (n ≢ c) → count_below n f ≤ suc (count_below n g) → count_below (suc n) f ≤ suc (count_below (suc n) g)
    go (inl e) rest =
        let few = count_less n f g (λ d l t. h d (λ s. absurd (omega (arith, l, s, e))) t) in
        omega (arith, few, count_next n f, count_next n g, bit_most (f n))
    go (inr ne) rest =
        let same = bit_less (f n) (g n) (h n ne) in
        omega (arith, rest, count_next n f, count_next n g, same)

abbrev keeps : LocalAct → Bool
keeps (LocalAct.Keep c r m) = true
keeps _ = false

abbrev asked : LocalAct → ℕ
asked (LocalAct.Ask b q t) = 1
asked _ = 0

-- what is kept finds room
abbrev FindsRoom : Endpoint → LocalAct → Type 0
FindsRoom p (LocalAct.Keep c r m) = is_full p r ≡ false
FindsRoom p _ = Unit {0}

requests_after : (p : Endpoint) (n : ℕ) (o : LocalAct) → (act_alone p n o).requests ≡ p.requests + asked o
requests_after p n (LocalAct.Ask b q t) = omega arith
requests_after p n o = grind arith

held_before : (p : Endpoint) (n : ℕ) (o : LocalAct) → keeps o ≡ false → (r : ℕ) → is_some ((act_alone p n o).held r) ≡ true → is_some (p.held r) ≡ true
held_before p n o k r h = grind (arith, nat_tests)

unmade_none : (o : Option ℕ) → o ≡ None → is_some o ≡ false
unmade_none o h = ap is_some h

not_full : (p : Endpoint) (r : ℕ) → is_full p r ≡ false → count_below p.requests (λ x. is_some (p.held x) && not (is_replaced p r x)) < 64
not_full p r h = grind (arith, nat_tests)

kept_before : (p : Endpoint) (r m x : ℕ) → x ≢ r → is_some (put (λ y. none_if (is_replaced p r y) (p.held y)) r (Some m) x) ≡ true
    → (is_some (p.held x) && not (is_replaced p r x)) ≡ true
kept_before p r m x ne h = go (is_replaced p r x) (p.held x) (sym (ap is_some (put-other (λ y. none_if (is_replaced p r y) (p.held y)) r (Some m) x ne)) ∙ h)
  where
    go : (b : Bool) (o : Option ℕ) → is_some (none_if b o) ≡ true → (is_some o && not b) ≡ true
    go true o k = absurd (cc (k))
    go false (Some y) k = refl
    go false None k = absurd (cc (k))

own_cached : (g n : ℕ) (p : Endpoint) (o : LocalAct) (b : Bool) → keeps o ≡ b → FindsRoom p o → Bounds g p → cached_translations p ≤ 64
    → cached_translations (act_alone p n o) ≤ 64
own_cached g n p (LocalAct.Keep c r m) true k room bo h =
    let few = one_beside p.requests r (λ x. is_some (put (λ y. none_if (is_replaced p r y) (p.held y)) r (Some m) x))
    (λ x. is_some (p.held x) && not (is_replaced p r x)) (λ x ne t. kept_before p r m x ne t) in
    let less = not_full p r room in
    omega (arith, few, less)
own_cached g n p o true k room bo h = absurd (grind arith)
own_cached g n p o false k room bo h =
    subst (λ z. count_below z (λ r. is_some ((act_alone p n o).held r)) ≤ 64) (sym (requests_after p n o))
    (let less = count_less (p.requests + asked o) (λ r. is_some ((act_alone p n o).held r)) (λ r. is_some (p.held r)) (λ r l t. held_before p n o k r t) in
    let same = count_more p.requests (asked o) (λ r. is_some (p.held r)) (λ r l m. unmade_none (p.held r) (bo.held r l)) in
    omega (arith, less, same, h))

submitted_cached : (t : Bool) (p : Endpoint) (o : Option ℕ) (q count order cookie : ℕ) → cached_translations p ≤ 64
    → cached_translations (submitted_if t p o q count order cookie) ≤ 64
submitted_cached true p (Some b) q count order cookie h = h
submitted_cached true p None q count order cookie h = h
submitted_cached false p o q count order cookie h = h

abbrev pub AllCached : World → Type 0
AllCached w = (e : ℕ) → cached_translations (w.part e) ≤ 64

at_cached : (w : World) (e : ℕ) (o : LocalAct) → FindsRoom (w.part e) o → Invariant w → AllCached w → AllCached (act w (AtEndpoint e o))
at_cached w e o room i h =
    put_keeps (λ k p. cached_translations p ≤ 64) w.part e (act_alone (w.part e) w.messages o)
    (own_cached w.bindings w.messages (w.part e) o (keeps o) refl room (i.parts e).bounds (h e)) h

calm_room : (p : Endpoint) (o : LocalAct) → is_calm_own o ≡ true → FindsRoom p o
calm_room p (LocalAct.Keep c r m) h = absurd (cc)
calm_room p _ h = tt

calm_cached : (w : World) (a : Act) → is_calm a ≡ true → Invariant w → AllCached w → AllCached (act w a)
calm_cached w NewSpace c i h = h
calm_cached w (DropSpace s) c i h = h
calm_cached w (Map s q f x) c i h = h
calm_cached w (Unmap s q count order) c i h = absurd (cc)
calm_cached w (NewBinding e) c i h = h
calm_cached w (NewJob e y) c i h = h
calm_cached w (Hold x j) c i h = h
calm_cached w (LetGo x) c i h = h
calm_cached w (AtEndpoint e o) c i h = at_cached w e o (calm_room (w.part e) o c) i h

calms_cached : (acts : List Act) (w : World) → are_calm acts ≡ true → LegalAll w acts → Invariant w → AllCached w → AllCached (after_acts w acts)
calms_cached [] w c l i h = h
calms_cached (a ∷ acts) w c l i h = go (is_calm a) refl c (λ k z. calms_cached acts (act w a) k l.1 (act_keeps w a l.0 i) z)
  where
    go : (b : Bool) → is_calm a ≡ b → (if b then are_calm acts else false) ≡ true
        → (are_calm acts ≡ true → AllCached (act w a) → AllCached (after_acts (act w a) acts)) → AllCached (after_acts (act w a) acts)
    go true d k rest = rest k (calm_cached w a d i h)
    go false d k rest = absurd (cc)

by_room : (w : World) (s : Step) (e : ℕ) (o : LocalAct) (a : Answer) → IsBy w s e o a → FindsRoom (w.part e) o
by_room w s e (LocalAct.Keep c r m) a by = by
by_room w s e _ a by = tt

next_cached : (w : World) (s : Step) → Invariant w → AllCached w → AllCached (next w s)
next_cached w s i h = go (step_kind w s)
  where
    go : Kind w s (decide w s) → AllCached (next w s)
    go (calm c) = calms_cached (decide w s).acts w c (step_legal w s i) i h
    go (single d o a x r by) = subst (λ z. AllCached (after_acts w z)) (sym x) (at_cached w d o (by_room w s d o a by) i h)
    go (unmapping t q count order x) =
        subst (λ z. AllCached (after_acts w z)) (sym x)
        (λ e. submitted_cached (submits w t e) (w.part e) (bound w e t) q count order (cookie_of w t e) (h e))

run_cached : (ss : List Step) (w : World) → Invariant w → AllCached w → AllCached (run w ss)
run_cached [] w i h = h
run_cached (s ∷ ss) w i h = run_cached ss (next w s) (next_keeps w s i) (next_cached w s i h)

opened_cached : (rule : PasidRule) (c : Config) → AllCached (opened rule c)
unfolding count_below
opened_cached rule c e = omega arith

pub always_cached : (rule : PasidRule) (config : Config) (steps : List Step) → AllCached (world_after rule config steps)
always_cached rule config steps = run_cached steps (opened rule config) (opened_invariant rule config) (opened_cached rule config)
