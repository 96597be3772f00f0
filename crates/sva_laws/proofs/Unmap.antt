-- Unmapping: what is taken out is either used by nobody, or its endpoint owes an answer, and will strike first.
use Rattle.std.proofs.Common.{◌≡◌, ◌≢◌, ◌⊎◌, inl, inr, refl, ap, sym, subst, ◌∙◌, ℕ, ◌+◌, ◌*◌, ◌^◌, ◌<◌, Bool, true, false, arith}
use Rattle.std.specs.Prelude.{Option, Some, None, ◌&&◌, ◌==◌, not, if◌then◌else◌}
use Rattle.std.proofs.lemmas.Bool.Decides.{nat_tests}
use Rattle.sva_model.specs.State.{Owed, MappingState, Mappings, Endpoint, World, Stage}
use Rattle.sva_model.specs.State.Owed.{Nothing, Ranges, Pasid, NextReset}
use Rattle.sva_model.specs.State.MappingState.{Unmade, Present, Gone}
use Rattle.sva_model.specs.State.Stage.{Unbound, Live, Stopping, Draining, Invalidating, Quiet, Lost, Released}
use Rattle.sva_model.specs.State.Order.{RangeOf, Wait}
use Rattle.sva_model.specs.State.OrderState.{Queued}
use Rattle.sva_model.specs.State.Phase.{Open}
use Rattle.sva_model.specs.Range.{is_in}
use Rattle.sva_model.specs.States.{is_unreleased, is_open, is_wait, is_before_invalidating}
use Rattle.sva_model.specs.Unmappings.{bound, submits_at, submits, owed_by_unit, owed_by_stage, owed_by, submitted, submitted_if, range_at, cookie_of}
use Rattle.sva_model.specs.Unmappings.{part_after_unmap, gone_if, in_range, without_pages}
use Rattle.sva_model.specs.Acts.{act}
use Rattle.sva_model.specs.Acts.Act.{Unmap}
use Rattle.sva_labels.proofs.Words.{put-same, put-other, ℕ_cases, find_passes, find_some}
use Rattle.sva_model.specs.Words.{put_range, unless}
use Rattle.sva_laws.proofs.Bounds.{Bounds}
use Rattle.sva_laws.proofs.Orders.{is_active, active_unreleased}
use Rattle.sva_laws.proofs.Resets.{open_is}
use Rattle.sva_laws.proofs.Owners.{blocks}
use Rattle.sva_laws.proofs.Safe.{StrikesFirst, Pending, IsSafe, owed_of}
use Rattle.sva_laws.proofs.Invariant.{Invariant}
use Rattle.sva_laws.proofs.Ranges.{range_of, order_covers}

-- a translation of a mapping, where some mappings go
pub safe_without : (ms : Mappings) (e : ℕ) (p p' : Endpoint) (b m age : ℕ) (t : Bool) (owed : ℕ → Owed) → IsSafe ms e p b m age
    → ((v : Owed) → Pending p b (ms.page m) age v → Pending p' b (ms.page m) age v)
    → (t ≡ true → ms.state m ≡ Present → Pending p' b (ms.page m) age (owed e)) → (gone_if t owed (ms.state m) ≡ Present)
    ⊎ Pending p' b (ms.page m) age (owed_of (gone_if t owed (ms.state m)) e)
safe_without ms e p p' b m age t owed sa keep new = go (ms.state m) t refl refl sa
  where
    go : (s : MappingState) (x : Bool) → ms.state m ≡ s → t ≡ x → (s ≡ Present) ⊎ Pending p b (ms.page m) age (owed_of s e)
        → (gone_if x owed s ≡ Present) ⊎ Pending p' b (ms.page m) age (owed_of (gone_if x owed s) e)
    go Unmade true a c (inl h) = absurd (cc)
    go Unmade true a c (inr h) = absurd h
    go Unmade false a c (inl h) = absurd (cc)
    go Unmade false a c (inr h) = absurd h
    go Present true a c h = inr (new c a)
    go Present false a c h = inl refl
    go (Gone v) true a c (inl h) = absurd (cc)
    go (Gone v) true a c (inr h) = inr (keep (v e) h)
    go (Gone v) false a c (inl h) = absurd (cc)
    go (Gone v) false a c (inr h) = inr (keep (v e) h)

-- what was pending stays so while orders are submitted
ahead_submitted : (g b' q' count order cookie : ℕ) (p : Endpoint) (b q age first n resets k : ℕ) → StrikesFirst p b q age first n resets k
    → StrikesFirst (submitted p b' q' count order cookie) b q age first n resets k
ahead_submitted g b' q' count order cookie p b q age first n resets k h = grind (arith, nat_tests)

pending_submitted : (g b' q' count order cookie : ℕ) (p : Endpoint) → Bounds g p → (b q age : ℕ) (v : Owed) → Pending p b q age v
    → Pending (submitted p b' q' count order cookie) b q age v
pending_submitted g b' q' count order cookie p bo b q age Nothing h = h
pending_submitted g b' q' count order cookie p bo b q age (Ranges first n resets) h =
    (h.0, ahead_submitted g b' q' count order cookie p b q age first n resets h.0 h.1)
pending_submitted g b' q' count order cookie p bo b q age (Pasid k w resets c0) h = h
pending_submitted g b' q' count order cookie p bo b q age (NextReset resets) h = h

pending_submitted_if : (g : ℕ) (s : Bool) (o : Option ℕ) (q' count order cookie : ℕ) (p : Endpoint) → Bounds g p → (b q age : ℕ) (v : Owed)
    → Pending p b q age v → Pending (submitted_if s p o q' count order cookie) b q age v
pending_submitted_if g true (Some b') q' count order cookie p bo b q age v h = pending_submitted g b' q' count order cookie p bo b q age v h
pending_submitted_if g true None q' count order cookie p bo b q age v h = h
pending_submitted_if g false o q' count order cookie p bo b q age v h = h

-- the unreleased binding of a space at an endpoint is found
pub bound_is : (w : World) (e b s : ℕ) → Invariant w → is_unreleased ((w.part e).stage b) ≡ true → (w.part e).space b ≡ s → bound w e s ≡ Some b
bound_is w e b s i u sp =
    let test : ℕ → Bool = λ d. is_unreleased ((w.part e).stage d) && (w.part e).space d == s in
    let lt : b < w.bindings = made (i.parts e).bounds u in
    let here : (is_unreleased ((w.part e).stage b) && (w.part e).space b == s) ≡ true = grind (arith, nat_tests) in
    let f = find_some w.bindings (λ d. is_unreleased ((w.part e).stage d) && (w.part e).space d == s) b lt here in
    let found = find_passes w.bindings (λ d. is_unreleased ((w.part e).stage d) && (w.part e).space d == s) _ f in
    f ∙ ap (λ x. Some x) (one found.1)
  where
    made : Bounds w.bindings (w.part e) → is_unreleased ((w.part e).stage b) ≡ true → b < w.bindings
    made bo h = grind (arith, nat_tests, bo.stage b)

    one : {k : ℕ} → (is_unreleased ((w.part e).stage k) && (w.part e).space k == s) ≡ true → k ≡ b
    one {k} h = (i.parts e).labels.one_space k b (unreleased h) u (spaces h)
      where
        unreleased : (is_unreleased ((w.part e).stage k) && (w.part e).space k == s) ≡ true → is_unreleased ((w.part e).stage k) ≡ true
        unreleased h = grind (arith, nat_tests)

        spaces : (is_unreleased ((w.part e).stage k) && (w.part e).space k == s) ≡ true → (w.part e).space k ≡ (w.part e).space b
        spaces h = grind (arith, nat_tests)

new_open : (p : Endpoint) (b q page count order age cookie j : ℕ) → p.phase ≡ Open → j < count → is_in (range_at page order j) q ≡ true
    → StrikesFirst (submitted p b page count order cookie) b q age p.orders count p.resets (p.orders + j)
new_open p b q page count order age cookie j ph l h =
    (refl, omega arith, omega (arith, l), order_covers p b page count order cookie q j l h, is_a_wait, omega arith, inr (ph, wait_queued, strikes))
  where
    is_a_wait : is_wait ((submitted p b page count order cookie).order (p.orders + count)) ≡ true
    is_a_wait = ap is_wait (put-same (put_range p.order p.orders count (λ i. RangeOf b (range_at page order i))) (p.orders + count) (Wait cookie false))

    wait_queued : (submitted p b page count order cookie).order_state (p.orders + count) ≡ Queued
    wait_queued = grind (arith, nat_tests)

    own_queued : (submitted p b page count order cookie).order_state (p.orders + j) ≡ Queued
    own_queued = grind (arith, nat_tests)

    strikes : blocks ((submitted p b page count order cookie).order_state (p.orders + j)) age ≡ true
    strikes = ap (λ s. blocks s age) own_queued

-- what an active binding's endpoint owes for a page that is taken out now
new_pending : (p : Endpoint) (b q page count order age cookie : ℕ) → is_active (p.stage b) ≡ true → in_range page (count * 2 ^ order) q ≡ true
    → Pending (submitted_if (submits_at p (Some b)) p (Some b) page count order cookie) b q age (owed_by p count (Some b))
new_pending p b q page count order age cookie act inside =
    subst (λ s. Pending (submitted_if (is_open p.phase && is_before_invalidating s) p (Some b) page count order cookie) b q age
    (owed_by_stage p count s)) refl
    (go (p.stage b) refl act)
  where
    unit : (x : Bool) → is_open p.phase ≡ x → Pending (submitted_if (x && true) p (Some b) page count order cookie) b q age (owed_by_unit p count x)
    unit true h = let x = range_of page order count q inside in (p.orders + x.0, new_open p b q page count order age cookie x.0 (open_is p h) x.1 x.2)
    unit false h = (refl, h)

    either : (s : Stage) → is_before_invalidating s ≡ true → owed_by_stage p count s ≡ owed_by_unit p count (is_open p.phase)
        → Pending (submitted_if (is_open p.phase && is_before_invalidating s) p (Some b) page count order cookie) b q age (owed_by_stage p count s)
    either s h o =
        subst (λ y. Pending (submitted_if (is_open p.phase && y) p (Some b) page count order cookie) b q age (owed_by_stage p count s)) (sym h)
        (subst (λ v. Pending (submitted_if (is_open p.phase && true) p (Some b) page count order cookie) b q age v) (sym o) (unit (is_open p.phase) refl))

    not_both : (x : Bool) (k w : ℕ) → p.stage b ≡ Invalidating k w
        → Pending (submitted_if (x && false) p (Some b) page count order cookie) b q age (Pasid k w p.resets (not (is_open p.phase)))
    not_both true k w h = (refl, h)
    not_both false k w h = (refl, h)

    go : (s : Stage) → p.stage b ≡ s → is_active s ≡ true
        → Pending (submitted_if (is_open p.phase && is_before_invalidating s) p (Some b) page count order cookie) b q age (owed_by_stage p count s)
    go Live h a = either Live refl refl
    go (Stopping m) h a = either (Stopping m) refl refl
    go (Draining w) h a = either (Draining w) refl refl
    go (Invalidating k w) h a = not_both (is_open p.phase) k w h
    go Unbound h a = absurd (cc)
    go Quiet h a = absurd (cc)
    go Lost h a = absurd (cc)
    go Released h a = absurd (cc)

-- a usable translation stays safe when pages are unmapped
pub unmap_safe : (w : World) (s q count order e b m age : ℕ) → Invariant w → is_active ((w.part e).stage b) ≡ true → w.mappings.space m
    ≡ (w.part e).space b → IsSafe w.mappings e (w.part e) b m age
    → IsSafe (act w (Unmap s q count order)).mappings e ((act w (Unmap s q count order)).part e) b m age
unmap_safe w s q count order e b m age i a sp sa =
    safe_without w.mappings e (w.part e) (part_after_unmap w s q count order e) b m age
    (w.mappings.space m == s && in_range q (count * 2 ^ order) (w.mappings.page m)) (λ x. owed_by (w.part x) count (bound w x s)) sa
    (λ v h. pending_submitted_if w.bindings (submits w s e) (bound w e s) q count order (cookie_of w s e) (w.part e) (i.parts e).bounds b
    (w.mappings.page m) age v h)
    (λ t pr. new t)
  where
    same_space : (w.mappings.space m == s && in_range q (count * 2 ^ order) (w.mappings.page m)) ≡ true → w.mappings.space m ≡ s
    same_space t = grind (arith, nat_tests)

    inside : (w.mappings.space m == s && in_range q (count * 2 ^ order) (w.mappings.page m)) ≡ true
        → in_range q (count * 2 ^ order) (w.mappings.page m) ≡ true
    inside t = grind (arith, nat_tests)

    new : (w.mappings.space m == s && in_range q (count * 2 ^ order) (w.mappings.page m)) ≡ true
        → Pending (part_after_unmap w s q count order e) b (w.mappings.page m) age (owed_by (w.part e) count (bound w e s))
    new t =
        let f : bound w e s ≡ Some b = bound_is w e b s i (active_unreleased ((w.part e).stage b) a) (sym sp ∙ same_space t) in
        subst (λ o. Pending (submitted_if (submits_at (w.part e) o) (w.part e) o q count order (cookie_of w s e)) b (w.mappings.page m) age
        (owed_by (w.part e) count o)) (sym f)
        (new_pending (w.part e) b (w.mappings.page m) q count order age (cookie_of w s e) a (inside t))

unless_some : (p : ℕ → Bool) (o : Option ℕ) (m : ℕ) → unless p o ≡ Some m → o ≡ Some m
unless_some p None m h = absurd (cc)
unless_some p (Some k) m h = go (p k) h
  where
    go : (b : Bool) → (if b then None else Some k) ≡ Some m → Some k ≡ Some m
    go true h = absurd (cc)
    go false h = h

-- a mapping that is at a page of a space was there before some mappings went
pub was_at : (ms : Mappings) (s : ℕ) (pages : ℕ → Bool) (owed : ℕ → Owed) (t q m : ℕ) → (without_pages ms s pages owed).at t q ≡ Some m → ms.at t q ≡ Some m
was_at ms s pages owed t q m h = go (ℕ_cases t s)
  where
    go : (t ≡ s) ⊎ (t ≢ s) → ms.at t q ≡ Some m
    go (inl e) =
        let eq : (without_pages ms s pages owed).at s q ≡ unless (λ k. pages q) (ms.at s q) =
        ap (λ g. g q) (put-same ms.at s (λ x. unless (λ k. pages x) (ms.at s x))) in
        let at_s : (without_pages ms s pages owed).at s q ≡ Some m = subst (λ z. (without_pages ms s pages owed).at z q ≡ Some m) e h in
        subst (λ z. ms.at z q ≡ Some m) (sym e) (unless_some (λ k. pages q) (ms.at s q) m (sym eq ∙ at_s))
    go (inr ne) = sym (ap (λ g. g q) (put-other ms.at s (λ x. unless (λ k. pages x) (ms.at s x)) t ne)) ∙ h
