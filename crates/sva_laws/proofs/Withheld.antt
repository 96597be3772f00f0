-- A frame's place is Withheld exactly where the look back over the list of steps says so.
use Rattle.sva_model.specs.State.{PasidRule}
use Rattle.std.proofs.Common.{◌≡◌, ◌≢◌, ◌⊎◌, inl, inr, refl, ap, sym, subst, ◌∙◌, ℕ, suc, ◌+◌, ◌-◌, ◌*◌, ◌^◌, ◌<◌, ◌≤◌, Bool, true, false, arith}
use Rattle.std.proofs.Common.{append_assoc}
use Rattle.std.specs.Prelude.{Option, Some, None, ◌&&◌, ◌==◌, nat_lt, List, [], ◌∷◌, ◌++◌}
use Rattle.std.proofs.lemmas.Bool.Decides.{nat_tests}
use Rattle.std.proofs.lemmas.Bool.{and_from, false_from_ne_true, ltb-true, or_left}
use Rattle.std.proofs.lemmas.List.{append-nil}
use Rattle.sva_step.specs.declared.limits.Config.{Config}
use Rattle.sva_step.specs.declared.steps.Step.{Step}
use Rattle.sva_model.specs.Words.{all_below, put_range}
use Rattle.sva_model.specs.State.{Owed, OrderState, MappingState, Endpoint, World, Stage, opened}
use Rattle.sva_model.specs.State.Owed.{Ranges}
use Rattle.sva_model.specs.State.MappingState.{Unmade, Present, Gone}
use Rattle.sva_model.specs.State.Stage.{Unbound, Live, Stopping, Draining, Invalidating, Quiet, Lost, Released}
use Rattle.sva_model.specs.State.Order.{RangeOf, Wait}
use Rattle.sva_model.specs.State.OrderState.{Done}
use Rattle.sva_model.specs.State.Phase.{Open}
use Rattle.sva_model.specs.States.{is_unreleased, is_open, is_done, is_wait, answered, place, place_at, place_by, place_of_gone}
use Rattle.sva_model.specs.States.Place.{Free, Withheld}
use Rattle.sva_model.specs.Unmappings.{bound, submits_at, owed_by, owed_by_unit, owed_by_stage, submitted, submitted_if, range_at, cookie_of}
use Rattle.sva_model.specs.Unmappings.{in_range}
use Rattle.sva_model.specs.Acts.{Act, act}
use Rattle.sva_model.specs.Acts.Act.{Unmap}
use Rattle.sva_model.specs.Steps.{next, run, after_acts, decide, world_after}
use Rattle.sva_model.specs.Claims.{IsAt, IsMapped, IsBeforeInvalidating, HasSubmitted, AreDone, HasAnswered, IsWithheld}
use Rattle.sva_model.specs.Claims.HasAnswered.{was_done, orders_done, pasid_done, was_reset}
use Rattle.sva_labels.proofs.Words.{put-same, find_passes, all_below-true, all_below_cases}
use Rattle.sva_labels.proofs.Words.{all_below-intro}
use Rattle.sva_laws.proofs.Invariant.{Invariant}
use Rattle.sva_laws.proofs.Ranges.{range_of, order_of, order_covers}
use Rattle.sva_laws.proofs.Resets.{open_is}
use Rattle.sva_laws.proofs.Unmap.{bound_is}
use Rattle.sva_laws.proofs.Runs.{always, next_keeps}
use Rattle.sva_laws.proofs.Agreement.{withheld_at}
use Rattle.sva_laws.proofs.Lookback.{Goes, Later, moves, later, went, run_append, after_one, one_more}
use Rattle.sva_laws.proofs.Lookback.Goes.{unmapped, dropped}
use Rattle.sva_labels.proofs.Tests.{first_holds, one_holds, same_inside, second_holds}

-- What an endpoint owes for an unmapping is answered, exactly where it has answered for its binding.

done_is : (x : OrderState) → is_done x ≡ true → x ≡ Done
done_is x h = grind arith

is_done_of : (x : OrderState) → x ≡ Done → is_done x ≡ true
is_done_of x h = ap is_done h

resets_same : (t : Bool) (p : Endpoint) (b q count order cookie : ℕ) → (submitted_if t p (Some b) q count order cookie).resets ≡ p.resets
resets_same true p b q count order cookie = refl
resets_same false p b q count order cookie = refl

orders_more : (t : Bool) (p : Endpoint) (b q count order cookie : ℕ) → t ≡ true → (submitted_if t p (Some b) q count order cookie).orders ≡ p.orders + suc count
orders_more true p b q count order cookie h = refl
orders_more false p b q count order cookie h = absurd (cc)

stage_by_reset : (was now : Endpoint) (count : ℕ) (s : Stage) (o : Bool) → is_open was.phase ≡ o → was.resets < now.resets
    → answered now (owed_by_stage was count s) ≡ true
stage_by_reset was now count Unbound o e l = refl
stage_by_reset was now count Live o e l = grind (arith, nat_tests)
stage_by_reset was now count (Stopping marked) o e l = grind (arith, nat_tests)
stage_by_reset was now count (Draining wait) o e l = grind (arith, nat_tests)
stage_by_reset was now count (Invalidating i w) o e l = grind (arith, nat_tests)
stage_by_reset was now count Quiet o e l = refl
stage_by_reset was now count Lost o e l = refl
stage_by_reset was now count Released o e l = refl

range_done : (now : Endpoint) (from count : ℕ) → AreDone now from (from + suc count) → all_below (suc count) (λ j. is_done (now.order_state (from + j))) ≡ true
range_done now from count dn =
    all_below-intro (suc count) (λ j. is_done (now.order_state (from + j)))
    (λ j l. is_done_of (now.order_state (from + j)) (dn (from + j) (omega arith) (omega arith)))

done_range : (now : Endpoint) (from count : ℕ) → all_below (suc count) (λ j. is_done (now.order_state (from + j))) ≡ true → AreDone now from (from + suc count)
done_range now from count all k l h =
    subst (λ z. now.order_state z ≡ Done) sum
    (done_is (now.order_state (from + (k - from))) (all_below-true (suc count) (λ j. is_done (now.order_state (from + j))) all (k - from) (omega arith)))
  where
    sum : from + (k - from) ≡ k
    sum = omega arith

-- what the unit submits for the binding is done: so all that it owes
ranges_done : (was now : Endpoint) (count : ℕ) → AreDone now was.orders (was.orders + suc count) → answered now (Ranges was.orders count was.resets) ≡ true
ranges_done was now count dn =
    or_left (all_below (suc count) (λ j. is_done (now.order_state (was.orders + j)))) (nat_lt was.resets now.resets) (range_done now was.orders count dn)

before_submits : (was : Endpoint) (b : ℕ) → was.phase ≡ Open → IsBeforeInvalidating was b → submits_at was (Some b) ≡ true
before_submits was b ph (inl h) = grind arith
before_submits was b ph (inr (inl h)) = let e = h.1 in grind arith
before_submits was b ph (inr (inr h)) = let e = h.1 in grind arith

before_owes : (was : Endpoint) (b count : ℕ) → was.phase ≡ Open → IsBeforeInvalidating was b → owed_by was count (Some b) ≡ Ranges was.orders count was.resets
before_owes was b count ph (inl h) = grind arith
before_owes was b count ph (inr (inl h)) = let e = h.1 in grind arith
before_owes was b count ph (inr (inr h)) = let e = h.1 in grind arith

pub answered_if : (was now then : Endpoint) (b page q count order cookie : ℕ)
    → then ≡ submitted_if (submits_at was (Some b)) was (Some b) q count order cookie → HasAnswered was then now b page
    → answered now (owed_by was count (Some b)) ≡ true
answered_if was now then b page q count order cookie e (was_done (inl h)) = ap (λ s. answered now (owed_by_stage was count s)) h
answered_if was now then b page q count order cookie e (was_done (inr h)) = ap (λ s. answered now (owed_by_stage was count s)) h
answered_if was now then b page q count order cookie e (orders_done ph st su dn) =
    ap (answered now) (before_owes was b count ph st) ∙ ranges_done was now count (subst (λ z. AreDone now was.orders z) sum dn)
  where
    sum : then.orders ≡ was.orders + suc count
    sum = ap (λ p. p.orders) e ∙ orders_more (submits_at was (Some b)) was b q count order cookie (before_submits was b ph st)
answered_if was now then b page q count order cookie e (pasid_done i w st x y) =
    ap (λ s. answered now (owed_by_stage was count s)) st
    ∙ or_left (is_done (now.order_state i) && is_done (now.order_state w)) (nat_lt was.resets now.resets)
    (and_from (is_done (now.order_state i)) (is_done (now.order_state w)) (is_done_of (now.order_state i) x) (is_done_of (now.order_state w) y))
answered_if was now then b page q count order cookie e (was_reset l) =
    stage_by_reset was now count (was.stage b) (is_open was.phase) refl
    (subst (λ z. z < now.resets) (ap (λ p. p.resets) e ∙ resets_same (submits_at was (Some b)) was b q count order cookie) l)

then_resets : (was now then : Endpoint) (b page q count order cookie : ℕ)
    → then ≡ submitted_if (submits_at was (Some b)) was (Some b) q count order cookie → nat_lt was.resets now.resets ≡ true → HasAnswered was then now b page
then_resets was now then b page q count order cookie e h =
    was_reset (subst (λ z. z < now.resets) (sym (ap (λ p. p.resets) e ∙ resets_same (submits_at was (Some b)) was b q count order cookie))
    (ltb-true was.resets now.resets h))

-- what is submitted for the binding: its page invalidations, and the wait behind them
submits_wait : (was : Endpoint) (b page q count order cookie : ℕ) → in_range q (count * 2 ^ order) page ≡ true
    → HasSubmitted was (submitted was b q count order cookie) b page
submits_wait was b page q count order cookie inside =
    let x = range_of q order count page inside in
    record {
      wait = was.orders + count;
      is_new = omega arith;
      is_last = omega arith;
      is_a_wait = ap is_wait (put-same (put_range was.order was.orders count (λ j. RangeOf b (range_at q order j))) (was.orders + count) (Wait cookie false));
      ranges = λ k at_least below. (range_at q order (k - was.orders), order_of was b q count order cookie k at_least below);
      its_own = was.orders + x.0;
      own_is_new = omega arith;
      own_is_ahead = omega (arith, x.1);
      own_covers = order_covers was b q count order cookie page x.0 x.1 x.2;
    }

unit_answers : (was now then : Endpoint) (b page q count order cookie : ℕ) (o : Bool) → in_range q (count * 2 ^ order) page ≡ true → is_open was.phase
    ≡ o → IsBeforeInvalidating was b → owed_by was count (Some b) ≡ owed_by_unit was count o
    → then ≡ submitted_if (submits_at was (Some b)) was (Some b) q count order cookie → answered now (owed_by was count (Some b)) ≡ true
    → HasAnswered was then now b page
unit_answers was now then b page q count order cookie false r op st ow e h =
    then_resets was now then b page q count order cookie e (sym (ap (answered now) ow) ∙ h)
unit_answers was now then b page q count order cookie true r op st ow e h =
    by (one_holds (all_below (suc count) (λ j. is_done (now.order_state (was.orders + j)))) (nat_lt was.resets now.resets) (sym (ap (answered now) ow) ∙ h))
  where
    sum : then.orders ≡ was.orders + suc count
    sum = ap (λ p. p.orders) e ∙ orders_more (submits_at was (Some b)) was b q count order cookie (before_submits was b (open_is was op) st)

    by : (all_below (suc count) (λ j. is_done (now.order_state (was.orders + j))) ≡ true) ⊎ (nat_lt was.resets now.resets ≡ true)
        → HasAnswered was then now b page
    by (inl x) = orders_done (open_is was op) st
        (subst (λ z. HasSubmitted was z b page)
        (sym (e ∙ ap (λ t. submitted_if t was (Some b) q count order cookie) (before_submits was b (open_is was op) st)))
        (submits_wait was b page q count order cookie r)) (subst (λ z. AreDone now was.orders z) (sym sum) (done_range now was.orders count x))
    by (inr x) = then_resets was now then b page q count order cookie e x

pub answers_if : (was now then : Endpoint) (b page q count order cookie : ℕ) → in_range q (count * 2 ^ order) page ≡ true → is_unreleased (was.stage b)
    ≡ true → then ≡ submitted_if (submits_at was (Some b)) was (Some b) q count order cookie → answered now (owed_by was count (Some b)) ≡ true
    → HasAnswered was then now b page
answers_if was now then b page q count order cookie r u e h = go (was.stage b) refl
  where
    go : (s : Stage) → was.stage b ≡ s → HasAnswered was then now b page
    go Unbound st = absurd (cc (sym u ∙ ap is_unreleased st))
    go Released st = absurd (cc (sym u ∙ ap is_unreleased st))
    go Quiet st = was_done (inl st)
    go Lost st = was_done (inr st)
    go Live st = unit_answers was now then b page q count order cookie (is_open was.phase) r refl (inl st) (ap (owed_by_stage was count) st) e h
    go (Stopping marked) st =
        unit_answers was now then b page q count order cookie (is_open was.phase) r refl (inr (inl (marked, st))) (ap (owed_by_stage was count) st) e h
    go (Draining wait) st =
        unit_answers was now then b page q count order cookie (is_open was.phase) r refl (inr (inr (wait, st))) (ap (owed_by_stage was count) st) e h
    go (Invalidating i w) st =
        by (one_holds (is_done (now.order_state i) && is_done (now.order_state w)) (nat_lt was.resets now.resets)
        (sym (ap (λ s. answered now (owed_by_stage was count s)) st) ∙ h))
      where
        by : ((is_done (now.order_state i) && is_done (now.order_state w)) ≡ true) ⊎ (nat_lt was.resets now.resets ≡ true) → HasAnswered was then now b page
        by (inl x) = pasid_done i w st (done_is (now.order_state i) (first_holds (is_done (now.order_state i)) (is_done (now.order_state w)) x))
            (done_is (now.order_state w) (second_holds (is_done (now.order_state i)) (is_done (now.order_state w)) x))
        by (inr x) = then_resets was now then b page q count order cookie e x

-- The config stays.

config_act : (w : World) (a : Act) → (act w a).config ≡ w.config
config_act w a = grind arith

config_acts : (acts : List Act) (w : World) → (after_acts w acts).config ≡ w.config
config_acts [] w = refl
config_acts (a ∷ acts) w = config_acts acts (act w a) ∙ config_act w a

config_run : (ss : List Step) (w : World) → (run w ss).config ≡ w.config
config_run [] w = refl
config_run (s ∷ ss) w = config_run ss (next w s) ∙ config_acts (decide w s).acts w

pub config_kept : (rule : PasidRule) (c : Config) (ss : List Step) → (world_after rule c ss).config ≡ c
config_kept rule c ss = config_run ss (opened rule c)

-- The rule of PASIDs stays.

rule_acts : (acts : List Act) (w : World) → (after_acts w acts).rule ≡ w.rule
rule_acts [] w = refl
rule_acts (a ∷ acts) w = rule_acts acts (act w a) ∙ rule_act w a
  where
    rule_act : (w : World) (a : Act) → (act w a).rule ≡ w.rule
    rule_act w a = grind arith

pub rule_next : (w : World) (s : Step) → (next w s).rule ≡ w.rule
rule_next w s = rule_acts (decide w s).acts w

pub config_next : (w : World) (s : Step) → (next w s).config ≡ w.config
config_next w s = config_acts (decide w s).acts w

rule_run : (ss : List Step) (w : World) → (run w ss).rule ≡ w.rule
rule_run [] w = refl
rule_run (s ∷ ss) w = rule_run ss (next w s) ∙ rule_acts (decide w s).acts w

pub rule_kept : (rule : PasidRule) (c : Config) (ss : List Step) → (world_after rule c ss).rule ≡ rule
rule_kept rule c ss = rule_run ss (opened rule c)

-- From one list of steps to a longer one.

later_by : (rule : PasidRule) (c : Config) (before rest : List Step) → Later (world_after rule c before) (world_after rule c (before ++ rest))
later_by rule c before rest =
    subst (λ v. Later (world_after rule c before) v) (sym (run_append before rest (opened rule c)))
    (later rest (world_after rule c before) (always rule c before))

later_from_next : (rule : PasidRule) (c : Config) (before : List Step) (s : Step) (rest : List Step)
    → Later (next (world_after rule c before) s) (world_after rule c (before ++ s ∷ rest))
later_from_next rule c before s rest =
    subst (λ v. Later (next (world_after rule c before) s) v) (sym (run_append before (s ∷ rest) (opened rule c)))
    (later rest (next (world_after rule c before) s) (next_keeps (world_after rule c before) s (always rule c before)))

longer : (before : List Step) (s : Step) (some rest : List Step) → (before ++ s ∷ some) ++ rest ≡ before ++ s ∷ (some ++ rest)
longer before s some rest = append_assoc before (s ∷ some) rest

-- what is mapped is the latest mapping of its frame, and present
mapped_latest : (w : World) (f : ℕ) → Invariant w → IsMapped w f → (k : ℕ) × (w.mappings.latest f ≡ Some k) × (w.mappings.state k ≡ Present)
mapped_latest w f i a =
    let x = i.mapped.at_present a.space a.page a.is_at.mapping a.is_at.maps in
    (a.is_at.mapping, subst (λ z. w.mappings.latest z ≡ Some a.is_at.mapping) a.is_at.leads (i.mapped.latest a.is_at.mapping x.0), x.0)

present_mapped : (w : World) (f k : ℕ) → Invariant w → w.mappings.latest f ≡ Some k → w.mappings.state k ≡ Present → IsMapped w f
present_mapped w f k i la g =
    let at = i.mapped.present_at k g in
    record {
      space = w.mappings.space k;
      page = w.mappings.page k;
      is_at = record {
        live = (i.mapped.at_present (w.mappings.space k) (w.mappings.page k) k at).3;
        mapping = k;
        maps = at;
        leads =
            (i.mapped.named f k la).0;
      };
    }

-- where the latest mapping of a frame is gone and stays the latest, the frame wasn't mapped in between
not_between : (w u v : World) (f m : ℕ) (owed : ℕ → Owed) → Invariant u → Later w u → Later u v → w.mappings.latest f ≡ Some m → u.mappings.state m
    ≡ Gone owed → v.mappings.latest f ≡ Some m → IsMapped u f → ⊥
not_between w u v f m owed i a b la g lv is =
    let x = mapped_latest u f i is in
    let y = a.latest_grows f m la in
    let z = b.latest_grows f x.0 x.1 in
    let low : m ≤ x.0 = subst (λ k. m ≤ k) (same_inside (sym y.1 ∙ x.1)) y.2 in
    let high : x.0 ≤ m = subst (λ k. x.0 ≤ k) (same_inside (sym z.1 ∙ lv)) z.2 in
    let same : x.0 ≡ m = omega (arith, low, high) in
    apart (sym (subst (λ k. u.mappings.state k ≡ Present) same x.2) ∙ g)
  where
    apart : Present ≡ Gone owed → ⊥
    apart h = absurd (cc)

pub then_part : (rule : PasidRule) (c : Config) (before : List Step) (step : Step) (e s q count order b : ℕ) → next (world_after rule c before) step
    ≡ act (world_after rule c before) (Unmap s q count order) → bound (world_after rule c before) e s ≡ Some b
    → ((world_after rule c (before ++ step ∷ [])).part e)
    ≡ submitted_if (submits_at ((world_after rule c before).part e) (Some b)) ((world_after rule c before).part e) (Some b) q count order
    (cookie_of (world_after rule c before) s e)
then_part rule c before step e s q count order b nx bo =
    ap (λ w. w.part e) (after_one rule c before step ∙ nx)
    ∙ ap (λ o. submitted_if (submits_at ((world_after rule c before).part e) o) ((world_after rule c before).part e) o q count order
    (cookie_of (world_after rule c before) s e)) bo

both : {t : Bool} → t ≡ true → t ≡ false → ⊥
both h k = absurd (cc)

-- An endpoint that owes for the latest mapping of a frame: then the frame is withheld by the look back.
record Owes (rule : PasidRule) (c : Config) (before : List Step) (step : Step) (since : List Step) (f m e : ℕ) (owed : ℕ → Owed) : Type 0 where
  is_endpoint : e < c.endpoints
  present : (world_after rule c before).mappings.state m ≡ Present
  gone : (next (world_after rule c before) step).mappings.state m ≡ Gone owed
  latest : (world_after rule c (before ++ step ∷ since)).mappings.latest f ≡ Some m
  unanswered : answered ((world_after rule c (before ++ step ∷ since)).part e) (owed e) ≡ false

was_at : (rule : PasidRule) (c : Config) (before : List Step) (step : Step) (since : List Step) (f m e : ℕ) (owed : ℕ → Owed)
    → Owes rule c before step since f m e owed → (world_after rule c before).mappings.frame m ≡ f
was_at rule c before step since f m e owed o =
    let l = later_by rule c before (step ∷ since) in
    let made : (world_after rule c before).mappings.state m ≢ Unmade = made_of o.present in
    sym (l.frame_on m made) ∙ ((always rule c (before ++ step ∷ since)).mapped.named f m o.latest).0
  where
    made_of : {z : MappingState} → z ≡ Present → z ≢ Unmade
    made_of h k = absurd (cc)

withheld_by : (rule : PasidRule) (c : Config) (before : List Step) (step : Step) (since : List Step) (f m e : ℕ) (owed : ℕ → Owed)
    (s q count order b : ℕ) → Owes rule c before step since f m e owed → next (world_after rule c before) step
    ≡ act (world_after rule c before) (Unmap s q count order) → (world_after rule c before).mappings.space m ≡ s → owed
    ≡ (λ x. owed_by ((world_after rule c before).part x) count (bound (world_after rule c before) x s)) → bound (world_after rule c before) e s
    ≡ Some b → IsWithheld rule c (before ++ step ∷ since) f
withheld_by rule c before step since f m e owed s q count order b o nx sp ow bo =
    let w = world_after rule c before in
    let i = always rule c before in
    let at = i.mapped.present_at m o.present in
    let found = find_passes w.bindings (λ d. is_unreleased ((w.part e).stage d) && (w.part e).space d == s) b bo in
    record {
      before = before;
      step = step;
      since = since;
      steps_are = refl;
      space = s;
      page = w.mappings.page m;
      was_there = record {
        live = subst (λ z. w.is_live z ≡ true) sp (i.mapped.at_present (w.mappings.space m) (w.mappings.page m) m at).3;
        mapping = m;
        maps = subst (λ z. w.mappings.at z (w.mappings.page m) ≡ Some m) sp at;
        leads = frame;
      };
      not_mapped_since = λ some rest e. between some rest e;
      endpoint = e;
      is_endpoint = o.is_endpoint;
      binding = b;
      unreleased = first_holds (is_unreleased ((w.part e).stage b)) ((w.part e).space b == s) found.1;
      of_space = space_is (second_holds (is_unreleased ((w.part e).stage b)) ((w.part e).space b == s) found.1);
      silent = λ h. silent h;
    }
  where
    frame : (world_after rule c before).mappings.frame m ≡ f
    frame = was_at rule c before step since f m e owed o

    space_is : ((((world_after rule c before).part e).space b) == s) ≡ true → ((world_after rule c before).part e).space b ≡ s
    space_is h = grind (arith, nat_tests)

    between : (some rest : List Step) → some ++ rest ≡ since → IsMapped (world_after rule c (before ++ step ∷ some)) f → ⊥
    between some rest sum is =
        not_between (world_after rule c before) (world_after rule c (before ++ step ∷ some)) (world_after rule c (before ++ step ∷ since)) f m owed
        (always rule c (before ++ step ∷ some))
        (later_by rule c before (step ∷ some))
        (subst (λ z. Later (world_after rule c (before ++ step ∷ some)) (world_after rule c z)) (longer before step some rest
        ∙ ap (λ z. before ++ step ∷ z) sum) (later_by rule c (before ++ step ∷ some) rest))
        (subst (λ z. (world_after rule c before).mappings.latest z ≡ Some m) frame ((always rule c before).mapped.latest m o.present))
        ((later_from_next rule c before step some).gone_on m owed o.gone)
        o.latest is

    silent : HasAnswered ((world_after rule c before).part e) ((world_after rule c (before ++ step ∷ [])).part e)
        ((world_after rule c (before ++ step ∷ since)).part e) b ((world_after rule c before).mappings.page m) → ⊥
    silent h =
        let yes = answered_if ((world_after rule c before).part e) ((world_after rule c (before ++ step ∷ since)).part e)
        ((world_after rule c (before ++ step ∷ [])).part e) b ((world_after rule c before).mappings.page m) q count order
        (cookie_of (world_after rule c before) s e) (then_part rule c before step e s q count order b nx bo) h in
        let owes : owed e ≡ owed_by ((world_after rule c before).part e) count (Some b) =
        ap (λ v. v e) ow ∙ ap (owed_by ((world_after rule c before).part e) count) bo in
        both (ap (answered ((world_after rule c (before ++ step ∷ since)).part e)) owes ∙ yes) o.unanswered

owed_withheld : (rule : PasidRule) (c : Config) (before : List Step) (step : Step) (since : List Step) (f m e : ℕ) (owed : ℕ → Owed)
    → Owes rule c before step since f m e owed → Goes (world_after rule c before) (next (world_after rule c before) step) m owed
    → IsWithheld rule c (before ++ step ∷ since) f
owed_withheld rule c before step since f m e owed o (dropped s sp none ow) =
    absurd (cc (sym o.unanswered ∙ ap (λ v. answered ((world_after rule c (before ++ step ∷ since)).part e) (v e)) ow))
owed_withheld rule c before step since f m e owed o (unmapped s q count order nx sp r ow) = go (bound (world_after rule c before) e s) refl
  where
    nothing : bound (world_after rule c before) e s ≡ None → answered ((world_after rule c (before ++ step ∷ since)).part e) (owed e) ≡ true
    nothing bo = ap (λ v. answered ((world_after rule c (before ++ step ∷ since)).part e) (v e)) ow
        ∙ ap (λ x. answered ((world_after rule c (before ++ step ∷ since)).part e) (owed_by ((world_after rule c before).part e) count x)) bo

    go : (x : Option ℕ) → bound (world_after rule c before) e s ≡ x → IsWithheld rule c (before ++ step ∷ since) f
    go None bo = absurd (cc (sym o.unanswered ∙ nothing bo))
    go (Some b) bo = withheld_by rule c before step since f m e owed s q count order b o nx sp ow bo

gone_withheld : (rule : PasidRule) (c : Config) (steps : List Step) (f m e : ℕ) (owed : ℕ → Owed) → e < c.endpoints
    → (world_after rule c steps).mappings.latest f ≡ Some m → (world_after rule c steps).mappings.state m ≡ Gone owed
    → answered ((world_after rule c steps).part e) (owed e) ≡ false → IsWithheld rule c steps f
gone_withheld rule c steps f m e owed lt la g un =
    let x = went rule c steps m owed g in
    subst (λ z. IsWithheld rule c z f) (sym x.steps_are)
    (owed_withheld rule c x.before x.step x.since f m e owed
    (record {
      is_endpoint = lt;
      present = x.present;
      gone = x.gone;
      latest =
          subst (λ z. (world_after rule c z).mappings.latest f ≡ Some m) x.steps_are la;
      unanswered =
          subst (λ z. answered ((world_after rule c z).part e) (owed e) ≡ false) x.steps_are un;
    })
    x.goes)

pub is_withheld : (rule : PasidRule) (c : Config) (steps : List Step) (f : ℕ) → place (world_after rule c steps) f ≡ Withheld → IsWithheld rule c steps f
is_withheld rule c steps f h = go ((world_after rule c steps).mappings.latest f) refl h
  where
    go : (o : Option ℕ) → (world_after rule c steps).mappings.latest f ≡ o → place_at (world_after rule c steps) o ≡ Withheld → IsWithheld rule c steps f
    go None la h = absurd (cc)
    go (Some m) la h = by ((world_after rule c steps).mappings.state m) refl h
      where
        by : (z : MappingState) → (world_after rule c steps).mappings.state m ≡ z → place_by (world_after rule c steps) z ≡ Withheld
            → IsWithheld rule c steps f
        by Unmade g h = absurd (cc)
        by Present g h = absurd (cc)
        by (Gone owed) g h = some (all_below_cases (world_after rule c steps).config.endpoints (λ x. answered ((world_after rule c steps).part x) (owed x)))
          where
            free : all_below (world_after rule c steps).config.endpoints (λ x. answered ((world_after rule c steps).part x) (owed x)) ≡ true → Free ≡ Withheld
            free a = sym (ap place_of_gone a) ∙ h

            some : (all_below (world_after rule c steps).config.endpoints (λ x. answered ((world_after rule c steps).part x) (owed x)) ≡ true)
                ⊎ ((j : ℕ) × (j < (world_after rule c steps).config.endpoints) × (answered ((world_after rule c steps).part j) (owed j) ≡ false))
                → IsWithheld rule c steps f
            some (inl a) = absurd (cc (free a))
            some (inr x) = gone_withheld rule c steps f m x.0 owed (subst (λ k. x.0 < k.endpoints) (config_kept rule c steps) x.1) la g x.2

-- And back: what is withheld by the look back is owed for.

mapped_latest_at : (rule : PasidRule) (c : Config) (steps : List Step) (f k : ℕ) → (world_after rule c steps).mappings.latest f ≡ Some k
    → (world_after rule c steps).mappings.state k ≡ Present → IsMapped (world_after rule c steps) f
mapped_latest_at rule c steps f k la g = present_mapped (world_after rule c steps) f k (always rule c steps) la g

-- while the frame isn't mapped, its latest mapping stays
latest_stays : (rule : PasidRule) (c : Config) (before : List Step) (step : Step) (since : List Step) (f m : ℕ)
    → ((some rest : List Step) → some ++ rest ≡ since → IsMapped (world_after rule c (before ++ step ∷ some)) f → ⊥) → (rest some : List Step) → some
    ++ rest ≡ since → (world_after rule c (before ++ step ∷ some)).mappings.latest f ≡ Some m
    → (world_after rule c (before ++ step ∷ since)).mappings.latest f ≡ Some m
latest_stays rule c before step since f m un [] some sum la =
    subst (λ z. (world_after rule c (before ++ step ∷ z)).mappings.latest f ≡ Some m) (sym (append-nil some) ∙ sum) la
latest_stays rule c before step since f m un (s ∷ rest) some sum la =
    latest_stays rule c before step since f m un rest (some ++ s ∷ []) (append_assoc some (s ∷ []) rest ∙ sum)
    (go ((moves u s (always rule c (before ++ step ∷ some))).latest_new f))
  where
    u : World
    u = world_after rule c (before ++ step ∷ some)

    after : world_after rule c (before ++ step ∷ (some ++ s ∷ [])) ≡ next u s
    after = ap (world_after rule c) (one_more before step some s) ∙ after_one rule c (before ++ step ∷ some) s

    go : ((next u s).mappings.latest f ≡ u.mappings.latest f)
        ⊎ ((z : ℕ) × ((next u s).mappings.latest f ≡ Some z) × ((next u s).mappings.state z ≡ Present))
        → (world_after rule c (before ++ step ∷ (some ++ s ∷ []))).mappings.latest f ≡ Some m
    go (inl x) = ap (λ w. w.mappings.latest f) after ∙ x ∙ la
    go (inr x) =
        absurd (un (some ++ s ∷ []) rest (append_assoc some (s ∷ []) rest ∙ sum)
        (mapped_latest_at rule c (before ++ step ∷ (some ++ s ∷ [])) f x.0 (ap (λ w. w.mappings.latest f) after ∙ x.1)
        (ap (λ w. w.mappings.state x.0) after ∙ x.2)))

-- an endpoint with an unreleased binding of the space, which hasn't answered for it, hasn't answered what it owes
not_answered : (rule : PasidRule) (c : Config) (before : List Step) (step : Step) (since : List Step) (m e b t page : ℕ) (owed : ℕ → Owed)
    → (world_after rule c before).mappings.space m ≡ t → (world_after rule c before).mappings.page m ≡ page
    → is_unreleased (((world_after rule c before).part e).stage b) ≡ true → ((world_after rule c before).part e).space b ≡ t
    → (HasAnswered ((world_after rule c before).part e) ((world_after rule c (before ++ step ∷ [])).part e)
    ((world_after rule c (before ++ step ∷ since)).part e) b page → ⊥)
    → Goes (world_after rule c before) (next (world_after rule c before) step) m owed
    → answered ((world_after rule c (before ++ step ∷ since)).part e) (owed e) ≡ true → ⊥
not_answered rule c before step since m e b t page owed mt mp u bt silent (dropped s sp none ow) h = none e b u (bt ∙ sym mt ∙ sp)
not_answered rule c before step since m e b t page owed mt mp u bt silent (unmapped s q count order nx sp r ow) h =
    silent (answers_if ((world_after rule c before).part e) ((world_after rule c (before ++ step ∷ since)).part e)
    ((world_after rule c (before ++ step ∷ [])).part e) b page q count order (cookie_of (world_after rule c before) s e)
    (subst (λ z. in_range q (count * 2 ^ order) z ≡ true) mp r) u
    (then_part rule c before step e s q count order b nx bo)
    (ap (answered ((world_after rule c (before ++ step ∷ since)).part e)) (sym owes) ∙ h))
  where
    bo : bound (world_after rule c before) e s ≡ Some b
    bo = bound_is (world_after rule c before) e b s (always rule c before) u (bt ∙ sym mt ∙ sp)

    owes : owed e ≡ owed_by ((world_after rule c before).part e) count (Some b)
    owes = ap (λ v. v e) ow ∙ ap (owed_by ((world_after rule c before).part e) count) bo

withheld_after : (rule : PasidRule) (c : Config) (before : List Step) (step : Step) (since : List Step) (f t q e b : ℕ)
    → IsAt (world_after rule c before) f t q
    → ((some rest : List Step) → some ++ rest ≡ since → IsMapped (world_after rule c (before ++ step ∷ some)) f → ⊥) → e < c.endpoints
    → is_unreleased (((world_after rule c before).part e).stage b) ≡ true → ((world_after rule c before).part e).space b ≡ t
    → (HasAnswered ((world_after rule c before).part e) ((world_after rule c (before ++ step ∷ [])).part e)
    ((world_after rule c (before ++ step ∷ since)).part e) b q → ⊥) → place (world_after rule c (before ++ step ∷ since)) f ≡ Withheld
withheld_after rule c before step since f t q e b is un lt u bt silent =
    by ((moves w step i).present_on m (at.0))
  where
    w : World
    w = world_after rule c before

    i : Invariant w
    i = always rule c before

    m : ℕ
    m = is.mapping

    at : (w.mappings.state m ≡ Present) × (w.mappings.space m ≡ t) × (w.mappings.page m ≡ q) × (w.is_live t ≡ true)
    at = i.mapped.at_present t q m is.maps

    la : w.mappings.latest f ≡ Some m
    la = subst (λ z. w.mappings.latest z ≡ Some m) is.leads (i.mapped.latest m at.0)

    first : world_after rule c (before ++ step ∷ []) ≡ next w step
    first = after_one rule c before step

    not_new : (k : ℕ) → (next w step).mappings.latest f ≡ Some k → (next w step).mappings.state k ≡ Present → ⊥
    not_new k la g = un [] since refl
        (mapped_latest_at rule c (before ++ step ∷ []) f k (ap (λ v. v.mappings.latest f) first ∙ la) (ap (λ v. v.mappings.state k) first ∙ g))

    stays : ((next w step).mappings.latest f ≡ w.mappings.latest f)
        ⊎ ((z : ℕ) × ((next w step).mappings.latest f ≡ Some z) × ((next w step).mappings.state z ≡ Present)) → (next w step).mappings.latest f ≡ Some m
    stays (inl x) = x ∙ la
    stays (inr x) = absurd (not_new x.0 x.1 x.2)

    latest : (next w step).mappings.latest f ≡ Some m
    latest = stays ((moves w step i).latest_new f)

    end : (world_after rule c (before ++ step ∷ since)).mappings.latest f ≡ Some m
    end = latest_stays rule c before step since f m un since [] refl (ap (λ v. v.mappings.latest f) first ∙ latest)

    by : ((next w step).mappings.state m ≡ Present)
        ⊎ ((owed : ℕ → Owed) × ((next w step).mappings.state m ≡ Gone owed) × Goes w (next w step) m owed)
        → place (world_after rule c (before ++ step ∷ since)) f ≡ Withheld
    by (inl g) = absurd (not_new m latest g)
    by (inr x) =
        withheld_at (world_after rule c (before ++ step ∷ since)) f m e x.0 end
        ((later_from_next rule c before step since).gone_on m x.0 x.1)
        (subst (λ k. e < k.endpoints) (sym (config_kept rule c (before ++ step ∷ since))) lt)
        (false_from_ne_true (answered ((world_after rule c (before ++ step ∷ since)).part e) (x.0 e))
        (λ h. not_answered rule c before step since m e b t q x.0 at.1 at.2 u bt silent x.2 h))

pub place_withheld : (rule : PasidRule) (c : Config) (steps : List Step) (f : ℕ) → IsWithheld rule c steps f → place (world_after rule c steps) f ≡ Withheld
place_withheld rule c steps f x =
    subst (λ z. place (world_after rule c z) f ≡ Withheld) (sym x.steps_are)
    (withheld_after rule c x.before x.step x.since f x.space x.page x.endpoint x.binding x.was_there x.not_mapped_since x.is_endpoint x.unreleased x.of_space
    (subst (λ z. HasAnswered ((world_after rule c x.before).part x.endpoint) ((world_after rule c (x.before ++ x.step ∷ [])).part x.endpoint)
    ((world_after rule c z).part x.endpoint) x.binding x.page → ⊥) x.steps_are x.silent))
