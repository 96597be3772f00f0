-- A cookie is given out once: no two waits have the same, over all units.
use Rattle.sva_model.specs.State.{PasidRule}
use Rattle.std.proofs.Common.{◌≡◌, ◌⊎◌, inl, inr, refl, ap, sym, subst, ◌∙◌, ℕ, suc, ◌+◌, ◌<◌, ◌≤◌, Bool, true, false, arith}
use Rattle.std.specs.Prelude.{Option, Some, None, ◌&&◌, ◌==◌, List, [], ◌∷◌, if◌then◌else◌}
use Rattle.std.proofs.lemmas.Bool.Decides.{nat_tests}
use Rattle.std.proofs.lemmas.Bool.{cases_lt}
use Rattle.sva_step.specs.declared.answers.Answer.{Answer}
use Rattle.sva_step.specs.declared.limits.Config.{Config}
use Rattle.sva_step.specs.declared.steps.Step.{Step}
use Rattle.sva_model.specs.State.{Endpoint, World, opened}
use Rattle.sva_model.specs.State.Order.{Wait}
use Rattle.sva_model.specs.States.{is_unreleased}
use Rattle.sva_model.specs.Unmappings.{submitted, submitted_if, submits, submits_at, bound, cookie_of}
use Rattle.sva_model.specs.Acts.{Act, LocalAct, act, act_alone, cookies_of}
use Rattle.sva_model.specs.Acts.Act.{NewSpace, DropSpace, Map, Unmap, NewBinding, NewJob, Hold, LetGo, AtEndpoint}
use Rattle.sva_model.specs.Steps.{decide, next, run, after_acts, world_after}
use Rattle.sva_laws.specs.UnitSteps.{GivesCookies}
use Rattle.sva_labels.proofs.Words.{find_passes}
pub use Rattle.sva_labels.proofs.Counting.{count_up, count_strict}
use Rattle.sva_laws.proofs.Invariant.{Invariant}
use Rattle.sva_laws.proofs.Submitted.{old_order}
use Rattle.sva_laws.proofs.Keeps.{put_keeps}
use Rattle.sva_laws.proofs.Passed.{unreleased_bound}
use Rattle.sva_laws.proofs.Runs.{next_keeps, opened_invariant}
use Rattle.sva_laws.proofs.StepKinds.{IsBy, Kind, is_calm, is_calm_own, are_calm, step_kind}
use Rattle.sva_laws.proofs.StepKinds.Kind.{calm, single, unmapping}
use Rattle.sva_labels.proofs.Tests.{first_holds}

-- What a step does to the waits of an endpoint: if it gives a cookie, there is one wait more, which has that.
record PartWaits (Gets : Type 0) (given : ℕ) (p q : Endpoint) : Type 0 where
  old : (k : ℕ) → k < p.orders → q.order k ≡ p.order k
  new : (k c : ℕ) (x : Bool) → p.orders ≤ k → k < q.orders → q.order k ≡ Wait c x → Gets × (c ≡ given)
  once : (k j c : ℕ) (x y : Bool) → p.orders ≤ k → k < q.orders → p.orders ≤ j → j < q.orders → q.order k ≡ Wait c x → q.order j ≡ Wait c y → k ≡ j

same_waits : (Gets : Type 0) (given : ℕ) (p q : Endpoint) → q.orders ≡ p.orders → ((k : ℕ) → q.order k ≡ p.order k) → PartWaits Gets given p q
same_waits Gets given p q o s =
    record {
      old = λ k l. s k;
      new = λ k c x low high h. absurd (omega (arith, o, low, high));
      once = λ k j c x y low high b d h i. absurd (omega (arith, o, low, high));
    }

more_waits : (w v : World) (Gets : ℕ → Type 0) (given : ℕ → ℕ) → w.cookies ≤ v.cookies
    → ((e : ℕ) → PartWaits (Gets e) (given e) (w.part e) (v.part e)) → ((e : ℕ) → Gets e → (w.cookies ≤ given e) × (given e < v.cookies))
    → ((e f : ℕ) → Gets e → Gets f → given e ≡ given f → e ≡ f) → GivesCookies w → GivesCookies v
more_waits w v Gets given up parts range apart co =
    record {
      low = λ e k c x l h. low e k c x l h (cases_lt k (w.part e).orders);
      once = λ e f k j c x y l m h i. once e f k j c x y l m h i (cases_lt k (w.part e).orders) (cases_lt j (w.part f).orders);
    }
  where
    low_old : (e k c : ℕ) (x : Bool) → k < (w.part e).orders → (v.part e).order k ≡ Wait c x → c < w.cookies
    low_old e k c x a h = co.low e k c x a (sym ((parts e).old k a) ∙ h)

    low_new : (e k c : ℕ) (x : Bool) → (w.part e).orders ≤ k → k < (v.part e).orders → (v.part e).order k ≡ Wait c x → (w.cookies ≤ c) × (c < v.cookies)
    low_new e k c x a l h =
        let g = (parts e).new k c x a l h in
        let r = range e g.0 in
        (omega (arith, g.1, r.0), omega (arith, g.1, r.1))

    low : (e k c : ℕ) (x : Bool) → k < (v.part e).orders → (v.part e).order k ≡ Wait c x → (k < (w.part e).orders) ⊎ ((w.part e).orders ≤ k) → c < v.cookies
    low e k c x l h (inl a) = let b = low_old e k c x a h in omega (arith, b, up)
    low e k c x l h (inr a) = (low_new e k c x a l h).1

    both_new : (e f k j c : ℕ) (x y : Bool) → k < (v.part e).orders → j < (v.part f).orders → (v.part e).order k ≡ Wait c x → (v.part f).order j
        ≡ Wait c y → (w.part e).orders ≤ k → (w.part f).orders ≤ j → e ≡ f → (e ≡ f) × (k ≡ j)
    both_new e f k j c x y l m h i a b s = (
      s,
      (parts f).once k j c x y
          (subst (λ z. (w.part z).orders ≤ k) s a) (subst (λ z. k < (v.part z).orders) s l) b m (subst (λ z. (v.part z).order k ≡ Wait c x) s h) i,
    )

    once : (e f k j c : ℕ) (x y : Bool) → k < (v.part e).orders → j < (v.part f).orders → (v.part e).order k ≡ Wait c x → (v.part f).order j
        ≡ Wait c y → (k < (w.part e).orders) ⊎ ((w.part e).orders ≤ k) → (j < (w.part f).orders) ⊎ ((w.part f).orders ≤ j) → (e ≡ f) × (k ≡ j)
    once e f k j c x y l m h i (inl a) (inl b) = co.once e f k j c x y a b (sym ((parts e).old k a) ∙ h) (sym ((parts f).old j b) ∙ i)
    once e f k j c x y l m h i (inl a) (inr b) = let r = low_old e k c x a h in let z = low_new f j c y b m i in absurd (omega (arith, r, z.0))
    once e f k j c x y l m h i (inr a) (inl b) = let r = low_old f j c y b i in let z = low_new e k c x a l h in absurd (omega (arith, r, z.0))
    once e f k j c x y l m h i (inr a) (inr b) =
        let g = (parts e).new k c x a l h in
        let d = (parts f).new j c y b m i in
        both_new e f k j c x y l m h i a b (apart e f g.0 d.0 (sym g.1 ∙ d.1))

-- Calm acts.

calm_own : (p : Endpoint) (n : ℕ) (o : LocalAct) → is_calm_own o ≡ true → ((act_alone p n o).orders ≡ p.orders)
    × (((k : ℕ) → (act_alone p n o).order k ≡ p.order k) × (cookies_of o ≡ 0))
calm_own p n o h = (orders_same, (order_same, none))
  where
    orders_same : (act_alone p n o).orders ≡ p.orders
    orders_same = grind (arith, nat_tests)

    order_same : (k : ℕ) → (act_alone p n o).order k ≡ p.order k
    order_same k = grind (arith, nat_tests)

    none : cookies_of o ≡ 0
    none = grind (arith, nat_tests)

-- no wait more, and no cookie
record Calm (w v : World) : Type 0 where
  cookies : v.cookies ≡ w.cookies
  orders : (e : ℕ) → (v.part e).orders ≡ (w.part e).orders
  order : (e k : ℕ) → (v.part e).order k ≡ (w.part e).order k

calm_same : (w v : World) → v.cookies ≡ w.cookies → v.part ≡ w.part → Calm w v
calm_same w v c h = record { cookies = c; orders = λ e. ap (λ f. (f e).orders) h; order = λ e k. ap (λ f. (f e).order k) h }

calm_act : (w : World) (a : Act) → is_calm a ≡ true → Calm w (act w a)
calm_act w NewSpace h = calm_same w (act w NewSpace) refl refl
calm_act w (DropSpace s) h = calm_same w (act w (DropSpace s)) refl refl
calm_act w (Map s q f x) h = calm_same w (act w (Map s q f x)) refl refl
calm_act w (Unmap s q count order) h = absurd (cc)
calm_act w (NewBinding d) h = calm_same w (act w (NewBinding d)) refl refl
calm_act w (NewJob d g) h = calm_same w (act w (NewJob d g)) refl refl
calm_act w (Hold x j) h = calm_same w (act w (Hold x j)) refl refl
calm_act w (LetGo x) h = calm_same w (act w (LetGo x)) refl refl
calm_act w (AtEndpoint d o) h =
    let c = calm_own (w.part d) w.messages o h in
    record {
      cookies = let z = c.1.1 in omega (arith, z);
      orders = put_keeps (λ x q. q.orders ≡ (w.part x).orders) w.part d (act_alone (w.part d) w.messages o) c.0 (λ x. refl);
      order = put_keeps (λ x q. (k : ℕ) → q.order k ≡ (w.part x).order k) w.part d (act_alone (w.part d) w.messages o) c.1.0 (λ x k. refl);
    }

calm_more : (u v w : World) → Calm u v → Calm v w → Calm u w
calm_more u v w a b = record { cookies = b.cookies ∙ a.cookies; orders = λ e. b.orders e ∙ a.orders e; order = λ e k. b.order e k ∙ a.order e k }

calm_acts : (acts : List Act) (w : World) → are_calm acts ≡ true → Calm w (after_acts w acts)
calm_acts [] w h = calm_same w w refl refl
calm_acts (a ∷ acts) w h = go (is_calm a) refl h (λ k. calm_acts acts (act w a) k)
  where
    go : (b : Bool) → is_calm a ≡ b → (if b then are_calm acts else false) ≡ true
        → (are_calm acts ≡ true → Calm (act w a) (after_acts (act w a) acts)) → Calm w (after_acts (act w a) acts)
    go true c h rest = calm_more w (act w a) (after_acts (act w a) acts) (calm_act w a c) (rest h)
    go false c h rest = absurd (cc)

calm_cookies : (w v : World) → Calm w v → GivesCookies w → GivesCookies v
calm_cookies w v c co =
    more_waits w v (λ e. ⊥) (λ e. 0) (let z = c.cookies in omega (arith, z)) (λ e. same_waits ⊥ 0 (w.part e) (v.part e) (c.orders e) (c.order e))
    (λ e g. absurd g) (λ e f g. absurd g) co

-- One act of an endpoint: a drain and an invalidation give the next cookie.

abbrev pub HasCookie : (cookies : ℕ) → LocalAct → Type 0
HasCookie n (LocalAct.Drain b cookie) = cookie ≡ n
HasCookie n (LocalAct.Invalidate b cookie) = cookie ≡ n
HasCookie n _ = Unit {0}

has_cookie : (w : World) (s : Step) (e : ℕ) (o : LocalAct) (a : Answer) → IsBy w s e o a → HasCookie w.cookies o
has_cookie w s e (LocalAct.Drain b cookie) a by = by
has_cookie w s e (LocalAct.Invalidate b cookie) a by = by
has_cookie w s e _ a by = tt

pub own_old : (p : Endpoint) (n : ℕ) (o : LocalAct) (k : ℕ) → k < p.orders → (act_alone p n o).order k ≡ p.order k
own_old p n o k l = grind (arith, nat_tests)

own_new : (cookies : ℕ) (p : Endpoint) (n : ℕ) (o : LocalAct) → HasCookie cookies o → (k c : ℕ) (x : Bool) → p.orders ≤ k → k < (act_alone p n o).orders
    → (act_alone p n o).order k ≡ Wait c x → (cookies_of o ≡ 1) × (c ≡ cookies)
own_new cookies p n o h k c x low high i = grind (arith, nat_tests)

own_once : (p : Endpoint) (n : ℕ) (o : LocalAct) (k j c : ℕ) (x y : Bool) → p.orders ≤ k → k < (act_alone p n o).orders → p.orders ≤ j
    → j < (act_alone p n o).orders
    → (act_alone p n o).order k ≡ Wait c x → (act_alone p n o).order j ≡ Wait c y → k ≡ j
own_once p n o k j c x y low high b d h i = grind (arith, nat_tests)

own_cookies : (w : World) (d : ℕ) (o : LocalAct) → HasCookie w.cookies o → GivesCookies w → GivesCookies (act w (AtEndpoint d o))
own_cookies w d o h co =
    more_waits w (act w (AtEndpoint d o)) (λ e. (e ≡ d) × (cookies_of o ≡ 1)) (λ e. w.cookies) (omega arith)
    (put_keeps (λ e q. PartWaits ((e ≡ d) × (cookies_of o ≡ 1)) w.cookies (w.part e) q) w.part d (act_alone (w.part d) w.messages o)
    (record {
      old = own_old (w.part d) w.messages o;
      new = λ k c x low high i. let g = own_new w.cookies (w.part d) w.messages o h k c x low high i in ((refl, g.0), g.1);
      once = own_once (w.part d) w.messages o;
    })
    (λ e. same_waits ((e ≡ d) × (cookies_of o ≡ 1)) w.cookies (w.part e) (w.part e) refl (λ k. refl)))
    (λ e g. let one = g.1 in (omega arith, omega (arith, one)))
    (λ e f g i same. g.0 ∙ sym i.0)
    co

-- An unmapping: the units to which it submits get cookies in their order.

submitted_waits : (t : Bool) (p : Endpoint) (o : Option ℕ) (q count order cookie : ℕ) → PartWaits (t ≡ true) cookie p (submitted_if t p o q count order cookie)
submitted_waits true p (Some b) q count order cookie =
    record { old = old_order p b q count order cookie; new = λ k c x low high h. (refl, new k c x low high h); once = once }
  where
    new : (k c : ℕ) (x : Bool) → p.orders ≤ k → k < p.orders + suc count → (submitted p b q count order cookie).order k ≡ Wait c x → c ≡ cookie
    new k c x low high h = grind (arith, nat_tests)

    last : (k c : ℕ) (x : Bool) → p.orders ≤ k → k < p.orders + suc count → (submitted p b q count order cookie).order k ≡ Wait c x → k ≡ p.orders + count
    last k c x low high h = grind (arith, nat_tests)

    once : (k j c : ℕ) (x y : Bool) → p.orders ≤ k → k < p.orders + suc count → p.orders ≤ j → j < p.orders + suc count
        → (submitted p b q count order cookie).order k ≡ Wait c x → (submitted p b q count order cookie).order j ≡ Wait c y → k ≡ j
    once k j c x y low high b d h i = last k c x low high h ∙ sym (last j c y b d i)
submitted_waits true p None q count order cookie = same_waits (true ≡ true) cookie p p refl (λ k. refl)
submitted_waits false p o q count order cookie = same_waits (false ≡ true) cookie p p refl (λ k. refl)

pub submits_there : (w : World) (t e : ℕ) → Invariant w → submits w t e ≡ true → e < w.config.endpoints
submits_there w t e i h = go (bound w e t) refl h
  where
    go : (o : Option ℕ) → bound w e t ≡ o → submits_at (w.part e) o ≡ true → e < w.config.endpoints
    go None b h = absurd (cc)
    go (Some b) x h =
        let found = find_passes w.bindings (λ d. is_unreleased ((w.part e).stage d) && (w.part e).space d == t) b x in
        (i.parts e).there b (unreleased_bound (w.part e) b (first_holds (is_unreleased ((w.part e).stage b)) ((w.part e).space b == t) found.1))

unmap_cookies : (w : World) (t q count order : ℕ) → Invariant w → GivesCookies w → GivesCookies (act w (Unmap t q count order))
unmap_cookies w t q count order i co =
    more_waits w (act w (Unmap t q count order)) (λ e. submits w t e ≡ true) (cookie_of w t) (omega arith)
    (λ e. submitted_waits (submits w t e) (w.part e) (bound w e t) q count order (cookie_of w t e))
    (λ e g. let s = count_strict e w.config.endpoints (submits w t) (submits_there w t e i g) g in (omega arith, omega (arith, s)))
    (λ e f g h same. go e f g h same (cases_lt e f) (cases_lt f e))
    co
  where
    go : (e f : ℕ) → submits w t e ≡ true → submits w t f ≡ true → cookie_of w t e ≡ cookie_of w t f → (e < f) ⊎ (f ≤ e) → (f < e) ⊎ (e ≤ f) → e ≡ f
    go e f g h same (inl l) b = let s = count_strict e f (submits w t) l g in absurd (omega (arith, same, s))
    go e f g h same (inr l) (inl b) = let s = count_strict f e (submits w t) b h in absurd (omega (arith, same, s))
    go e f g h same (inr l) (inr b) = omega (arith, l, b)

next_cookies : (w : World) (s : Step) → Invariant w → GivesCookies w → GivesCookies (next w s)
next_cookies w s i co = go (step_kind w s)
  where
    go : Kind w s (decide w s) → GivesCookies (next w s)
    go (calm h) = calm_cookies w (next w s) (calm_acts (decide w s).acts w h) co
    go (single d o a x h by) = subst (λ z. GivesCookies (after_acts w z)) (sym x) (own_cookies w d o (has_cookie w s d o a by) co)
    go (unmapping t q count order x) = subst (λ z. GivesCookies (after_acts w z)) (sym x) (unmap_cookies w t q count order i co)

run_cookies : (ss : List Step) (w : World) → Invariant w → GivesCookies w → GivesCookies (run w ss)
run_cookies [] w i co = co
run_cookies (s ∷ ss) w i co = run_cookies ss (next w s) (next_keeps w s i) (next_cookies w s i co)

pub always_cookies : (rule : PasidRule) (c : Config) (ss : List Step) → GivesCookies (world_after rule c ss)
always_cookies rule c ss =
    run_cookies ss (opened rule c) (opened_invariant rule c) (record {
      low = λ e k x d l h. absurd (omega (arith, l));
      once =
          λ e f k j x d y l m h i. absurd (omega (arith, l));
    })
