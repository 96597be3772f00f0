-- How many bindings are unreleased and how many slots are taken, act by act, and after a step; and that these are the numbers of
-- what a host keeps.
use Rattle.std.proofs.Common.{◌≡◌, ◌≢◌, ◌⊎◌, inl, inr, refl, ap, sym, subst, ◌∙◌, ℕ, zero, suc, ◌+◌, ◌<◌, Bool, true, false, arith}
use Rattle.std.specs.Prelude.{Option, Some, None, option_map, if◌then◌else◌, List, [], ◌∷◌, ◌++◌, length}
use Rattle.std.proofs.lemmas.Bool.Decides.{nat_tests}
use Rattle.sva_step.specs.declared.limits.Config.{Config}
use Rattle.sva_step.specs.declared.steps.Step.{Step}
use Rattle.sva_model.specs.Words.{put, count_below, is_some, tabulate}
use Rattle.sva_model.specs.State.{PasidRule, Mappings, Endpoint, World}
use Rattle.sva_model.specs.State.Stage.{Unbound, Live, Quiet, Released}
use Rattle.sva_model.specs.States.{is_unreleased}
use Rattle.sva_model.specs.Unmappings.{submits, bound, cookie_of}
use Rattle.sva_model.specs.Acts.{Act, LocalAct, act, act_alone}
use Rattle.sva_model.specs.Acts.Act.{NewSpace, DropSpace, Map, Unmap, NewBinding, NewJob, Hold, LetGo, AtEndpoint}
use Rattle.sva_model.specs.Steps.{decide, next, after_acts, world_after, reply}
use Rattle.sva_model.specs.Wire.{EndpointWire, UseWire, use_wire, part_wire, wire}
use Rattle.sva_labels.proofs.Words.{put-same, put-other, ℕ_cases}
use Rattle.sva_labels.proofs.Counting.{bit, count_next, count_same, count_off}
use Rattle.sva_laws.proofs.Legal.{LegalLocalAct}
use Rattle.sva_laws.proofs.Labels.{Labels}
use Rattle.sva_laws.proofs.Invariant.{Invariant}
use Rattle.sva_laws.proofs.Keeps.{Legal, act_keeps}
use Rattle.sva_laws.proofs.Passed.{LegalAll}
use Rattle.sva_laws.proofs.Runs.{always, step_legal}
use Rattle.sva_refinement.specs.Tallies.{IsTallied, taken_in, slots_in}
use Rattle.sva_refinement.proofs.Bound.{binding_seen}
use Rattle.sva_refinement.proofs.LookedBindings.{is_kept}
use Rattle.sva_refinement.proofs.LookedLists.{length_seen}
use Rattle.sva_refinement.proofs.TalliedSteps.{bound_by, released_by, begun_by, ended_by, total, step_tallied}
use Rattle.sva_laws.proofs.Books.{submitted_stage}
use Rattle.sva_laws.proofs.Books.{submitted_slot}

bit_none : bit false ≡ 0
unfolding bit
bit_none = refl

bit_one : bit true ≡ 1
unfolding bit
bit_one = refl

-- Sums.

unfoldable sum_to : ℕ → (ℕ → ℕ) → ℕ
sum_to zero f = 0
sum_to (suc n) f = f n + sum_to n f

sum_same : (n : ℕ) (f g : ℕ → ℕ) → ((k : ℕ) → k < n → f k ≡ g k) → sum_to n f ≡ sum_to n g
unfolding sum_to
sum_same zero f g h = refl
sum_same (suc n) f g h =
    let a : f n ≡ g n = h n (omega arith) in
    let b = sum_same n f g (λ k l. h k (omega (arith, l))) in
    omega (arith, a, b)

-- one of them changes
sum_changed :
    (n e : ℕ) (f g : ℕ → ℕ) (less more : ℕ) → e < n → ((k : ℕ) → k ≢ e → f k ≡ g k) → f e + less ≡ g e + more
    → sum_to n f + less ≡ sum_to n g + more
unfolding sum_to
sum_changed zero e f g less more l h c = absurd (omega (arith, l))
sum_changed (suc n) e f g less more l h c = go (ℕ_cases n e) (λ m. sum_changed n e f g less more m h c)
  where
    go : (n ≡ e) ⊎ (n ≢ e) → (e < n → sum_to n f + less ≡ sum_to n g + more) → f n + sum_to n f + less ≡ g n + sum_to n g + more
    go (inl s) rest =
        let a : f n + less ≡ g n + more = subst (λ k. f k + less ≡ g k + more) (sym s) c in
        let b = sum_same n f g (λ k m. h k (λ t. absurd (omega (arith, m, s, t)))) in
        omega (arith, a, b)
    go (inr ne) rest =
        let a = h n ne in
        let b = rest (omega (arith, l, ne)) in
        omega (arith, a, b)

-- Bindings.

abbrev kept_count : World → ℕ
kept_count w = count_below w.bindings (is_kept w)

kept_by :
    (w : World) (e : ℕ) (q : Endpoint) (k : ℕ) → (w.endpoint_of k ≡ e → is_unreleased (q.stage k) ≡ is_unreleased ((w.part e).stage k))
    → is_unreleased ((put w.part e q (w.endpoint_of k)).stage k) ≡ is_kept w k
kept_by w e q k h = go (ℕ_cases (w.endpoint_of k) e)
  where
    go : (w.endpoint_of k ≡ e) ⊎ (w.endpoint_of k ≢ e) → is_unreleased ((put w.part e q (w.endpoint_of k)).stage k) ≡ is_kept w k
    go (inl s) =
        ap (λ x. is_unreleased ((put w.part e q x).stage k)) s
        ∙ ap (λ p. is_unreleased (p.stage k)) (put-same w.part e q)
        ∙ h s
        ∙ ap (λ x. is_unreleased ((w.part x).stage k)) (sym s)
    go (inr ne) = ap (λ p. is_unreleased (p.stage k)) (put-other w.part e q (w.endpoint_of k) ne)

-- an act that neither binds nor releases
abbrev binds_or_releases : LocalAct → Bool
binds_or_releases (LocalAct.Bind b s t) = true
binds_or_releases (LocalAct.Release b) = true
binds_or_releases _ = false

stage_same :
    (ms : Mappings) (g n : ℕ) (p : Endpoint) (o : LocalAct) → LegalLocalAct ms g p o → binds_or_releases o ≡ false → (b : ℕ)
    → is_unreleased ((act_alone p n o).stage b) ≡ is_unreleased (p.stage b)
stage_same ms g n p o l k b = grind (arith, nat_tests)

none_bound : (e : ℕ) (o : LocalAct) → binds_or_releases o ≡ false → bound_by (AtEndpoint e o) ≡ released_by (AtEndpoint e o)
none_bound e o h = grind arith

at_bindings :
    (w : World) (e : ℕ) (o : LocalAct) (z : Bool) → binds_or_releases o ≡ z → Legal w (AtEndpoint e o) → Invariant w
    → kept_count (act w (AtEndpoint e o)) + released_by (AtEndpoint e o) ≡ kept_count w + bound_by (AtEndpoint e o)
at_bindings w e o false z l i =
    let same = count_same w.bindings (is_kept (act w (AtEndpoint e o))) (is_kept w)
    (λ k m. kept_by w e (act_alone (w.part e) w.messages o) k (λ s. stage_same w.mappings w.bindings w.messages (w.part e) o l.1.0 z k)) in
    let none = none_bound e o z in
    omega (arith, same, none)
at_bindings w e (LocalAct.Bind b s t) true z l i =
    let one = count_off w.bindings (is_kept (act w (AtEndpoint e (LocalAct.Bind b s t)))) (is_kept w) b l.1.0.0 now before others in
    omega (arith, one)
  where
    endpoint_of : w.endpoint_of b ≡ e
    endpoint_of = l.1.1.2

    unbound : (w.part e).stage b ≡ Unbound
    unbound = l.1.0.2

    now : is_kept (act w (AtEndpoint e (LocalAct.Bind b s t))) b ≡ true
    now =
        ap (λ x. is_unreleased ((put w.part e (act_alone (w.part e) w.messages (LocalAct.Bind b s t)) x).stage b)) endpoint_of
        ∙ ap (λ p. is_unreleased (p.stage b)) (put-same w.part e (act_alone (w.part e) w.messages (LocalAct.Bind b s t)))
        ∙ ap is_unreleased (put-same (w.part e).stage b Live)

    before : is_kept w b ≡ false
    before = ap (λ x. is_unreleased ((w.part x).stage b)) endpoint_of ∙ ap is_unreleased unbound

    others : (d : ℕ) → d ≢ b → is_kept (act w (AtEndpoint e (LocalAct.Bind b s t))) d ≡ is_kept w d
    others d ne = kept_by w e (act_alone (w.part e) w.messages (LocalAct.Bind b s t)) d (λ h. ap is_unreleased (put-other (w.part e).stage b Live d ne))
at_bindings w e (LocalAct.Release b) true z l i =
    let one = count_off w.bindings (is_kept w) (is_kept (act w (AtEndpoint e (LocalAct.Release b)))) b made before now (λ d ne. sym (others d ne)) in
    omega (arith, one)
  where
    quiet : (w.part e).stage b ≡ Quiet
    quiet = l.1.0

    endpoint_of : w.endpoint_of b ≡ e
    endpoint_of = i.one_endpoint e b (λ h. absurd (cc (sym quiet ∙ h)))

    made : b < w.bindings
    made = grind (arith, (i.parts e).bounds.stage b, quiet)

    before : is_kept w b ≡ true
    before = ap (λ x. is_unreleased ((w.part x).stage b)) endpoint_of ∙ ap is_unreleased quiet

    now : is_kept (act w (AtEndpoint e (LocalAct.Release b))) b ≡ false
    now =
        ap (λ x. is_unreleased ((put w.part e (act_alone (w.part e) w.messages (LocalAct.Release b)) x).stage b)) endpoint_of
        ∙ ap (λ p. is_unreleased (p.stage b)) (put-same w.part e (act_alone (w.part e) w.messages (LocalAct.Release b)))
        ∙ ap is_unreleased (put-same (w.part e).stage b Released)

    others : (d : ℕ) → d ≢ b → is_kept (act w (AtEndpoint e (LocalAct.Release b))) d ≡ is_kept w d
    others d ne = kept_by w e (act_alone (w.part e) w.messages (LocalAct.Release b)) d (λ h. ap is_unreleased (put-other (w.part e).stage b Released d ne))
at_bindings w e o true z l i = absurd (grind arith)

new_kept : (w : World) (e : ℕ) → Invariant w → kept_count (act w (NewBinding e)) ≡ kept_count w
new_kept w e i =
    let old = count_same w.bindings (is_kept (act w (NewBinding e))) (is_kept w)
    (λ k l. ap (λ x. is_unreleased ((w.part x).stage k)) (put-other w.endpoint_of w.bindings e k (λ s. absurd (omega (arith, l, s))))) in
    let none : bit (is_kept (act w (NewBinding e)) w.bindings) ≡ 0 =
    ap bit (ap (λ x. is_unreleased ((w.part x).stage w.bindings)) (put-same w.endpoint_of w.bindings e)
    ∙ ap is_unreleased ((i.parts e).bounds.stage w.bindings (omega arith))) ∙ bit_none in
    omega (arith, count_next w.bindings (is_kept (act w (NewBinding e))), old, none)

act_bindings : (w : World) (a : Act) → Legal w a → Invariant w → kept_count (act w a) + released_by a ≡ kept_count w + bound_by a
act_bindings w (AtEndpoint e o) l i = at_bindings w e o (binds_or_releases o) refl l i
act_bindings w (NewBinding e) l i = ap (λ n. n + 0) (new_kept w e i)
act_bindings w (Unmap s q count order) l i =
    ap (λ n. n + 0)
    (count_same w.bindings (is_kept (act w (Unmap s q count order))) (is_kept w)
    (λ k l. ap is_unreleased
    (submitted_stage (submits w s (w.endpoint_of k)) (w.part (w.endpoint_of k)) (bound w (w.endpoint_of k) s) q count order
    (cookie_of w s (w.endpoint_of k)) k)))
act_bindings w NewSpace l i = refl
act_bindings w (DropSpace s) l i = refl
act_bindings w (Map s q f x) l i = refl
act_bindings w (NewJob e g) l i = refl
act_bindings w (Hold x j) l i = refl
act_bindings w (LetGo x) l i = refl

-- Slots.

abbrev taken_at : Endpoint → ℕ
taken_at p = count_below 16 (λ t. is_some (p.at_slot t))

abbrev taken_count : World → ℕ
taken_count w = sum_to w.config.endpoints (λ e. taken_at (w.part e))

abbrev begins_or_ends : LocalAct → Bool
begins_or_ends (LocalAct.Begin r m t) = true
begins_or_ends (LocalAct.End u) = true
begins_or_ends _ = false

slot_same : (p : Endpoint) (n : ℕ) (o : LocalAct) → begins_or_ends o ≡ false → (t : ℕ) → (act_alone p n o).at_slot t ≡ p.at_slot t
slot_same p n o k t = grind arith

none_begun : (e : ℕ) (o : LocalAct) → begins_or_ends o ≡ false → begun_by (AtEndpoint e o) ≡ ended_by (AtEndpoint e o)
none_begun e o h = grind arith

own_slots :
    (ms : Mappings) (g n e : ℕ) (p : Endpoint) (o : LocalAct) (z : Bool) → begins_or_ends o ≡ z → LegalLocalAct ms g p o → Labels p
    → taken_at (act_alone p n o) + ended_by (AtEndpoint e o) ≡ taken_at p + begun_by (AtEndpoint e o)
own_slots ms g n e p o false z l la =
    let same = count_same 16 (λ t. is_some ((act_alone p n o).at_slot t)) (λ t. is_some (p.at_slot t)) (λ t m. ap is_some (slot_same p n o z t)) in
    let none = none_begun e o z in
    omega (arith, same, none)
own_slots ms g n e p (LocalAct.Begin r m t) true z l la =
    let one =
    count_off 16 (λ x. is_some (put p.at_slot t (Some p.uses) x)) (λ x. is_some (p.at_slot x)) t l.3
    (ap is_some (put-same p.at_slot t (Some p.uses))) (ap is_some l.2)
    (λ d ne. ap is_some (put-other p.at_slot t (Some p.uses) d ne))
    in
    omega (arith, one)
own_slots ms g n e p (LocalAct.End u) true z l la =
    let one =
    count_off 16 (λ x. is_some (p.at_slot x)) (λ x. is_some (put p.at_slot (p.use_slot u) None x)) (p.use_slot u) (la.slot_low (p.use_slot u) u l)
    (ap is_some l)
    (ap is_some (put-same p.at_slot (p.use_slot u) None)) (λ d ne. ap is_some (sym (put-other p.at_slot (p.use_slot u) None d ne)))
    in
    omega (arith, one)
own_slots ms g n e p o true z l la = absurd (grind arith)

act_slots : (w : World) (a : Act) → Legal w a → Invariant w → taken_count (act w a) + ended_by a ≡ taken_count w + begun_by a
act_slots w (AtEndpoint e o) l i =
    sum_changed w.config.endpoints e (λ x. taken_at (put w.part e (act_alone (w.part e) w.messages o) x)) (λ x. taken_at (w.part x)) (ended_by (AtEndpoint e o))
    (begun_by (AtEndpoint e o)) l.0
    (λ k ne. ap taken_at (put-other w.part e (act_alone (w.part e) w.messages o) k ne))
    (ap (λ p. taken_at p + ended_by (AtEndpoint e o)) (put-same w.part e (act_alone (w.part e) w.messages o))
    ∙ own_slots w.mappings w.bindings w.messages e (w.part e) o (begins_or_ends o) refl l.1.0 (i.parts e).labels)
act_slots w (Unmap s q count order) l i =
    ap (λ n. n + 0)
    (sum_same w.config.endpoints (λ x. taken_at ((act w (Unmap s q count order)).part x)) (λ x. taken_at (w.part x))
    (λ x m.
    count_same 16 (λ t. is_some (((act w (Unmap s q count order)).part x).at_slot t)) (λ t. is_some ((w.part x).at_slot t))
    (λ t o. ap is_some (submitted_slot (submits w s x) (w.part x) (bound w x s) q count order (cookie_of w s x) t))))
act_slots w (NewBinding e) l i = refl
act_slots w NewSpace l i = refl
act_slots w (DropSpace s) l i = refl
act_slots w (Map s q f x) l i = refl
act_slots w (NewJob e g) l i = refl
act_slots w (Hold x j) l i = refl
act_slots w (LetGo x) l i = refl

-- The acts of a step.

acts_bindings :
    (acts : List Act) (w : World) → LegalAll w acts → Invariant w
    → kept_count (after_acts w acts) + total released_by acts ≡ kept_count w + total bound_by acts
acts_bindings [] w l i = refl
acts_bindings (a ∷ acts) w l i =
    let here = act_bindings w a l.0 i in
    let rest = acts_bindings acts (act w a) l.1 (act_keeps w a l.0 i) in
    omega (arith, here, rest)

acts_slots :
    (acts : List Act) (w : World) → LegalAll w acts → Invariant w
    → taken_count (after_acts w acts) + total ended_by acts ≡ taken_count w + total begun_by acts
acts_slots [] w l i = refl
acts_slots (a ∷ acts) w l i =
    let here = act_slots w a l.0 i in
    let rest = acts_slots acts (act w a) l.1 (act_keeps w a l.0 i) in
    omega (arith, here, rest)

-- As a host keeps them.

unreleased_seen : (w : World) → length (wire w).bindings ≡ kept_count w
unreleased_seen w = length_seen (binding_seen w) w.bindings (is_kept w)

taken_push : (xs : List (Option UseWire)) (x : Option UseWire) → taken_in (xs ++ x ∷ []) ≡ taken_in (x ∷ []) + taken_in xs
taken_push [] None = refl
taken_push [] (Some u) = refl
taken_push (None ∷ xs) x = taken_push xs x
taken_push (Some u ∷ xs) x = let r = taken_push xs x in go x r
  where
    go :
        (y : Option UseWire) → taken_in (xs ++ y ∷ []) ≡ taken_in (y ∷ []) + taken_in xs
        → suc (taken_in (xs ++ y ∷ [])) ≡ taken_in (y ∷ []) + suc (taken_in xs)
    go None r = omega (arith, r)
    go (Some v) r = omega (arith, r)

taken_table : (n : ℕ) (f : ℕ → UseWire) (at : ℕ → Option ℕ) → taken_in (tabulate n (λ t. option_map f (at t))) ≡ count_below n (λ t. is_some (at t))
unfolding tabulate count_below
taken_table zero f at = refl
taken_table (suc n) f at = taken_push (tabulate n (λ t. option_map f (at t))) (option_map f (at n)) ∙ go (at n) (taken_table n f at)
  where
    go :
        (o : Option ℕ) → taken_in (tabulate n (λ t. option_map f (at t))) ≡ count_below n (λ t. is_some (at t))
        → taken_in (option_map f o ∷ []) + taken_in (tabulate n (λ t. option_map f (at t)))
        ≡ (if is_some o then suc (count_below n (λ t. is_some (at t))) else count_below n (λ t. is_some (at t)))
    go None r = omega (arith, r)
    go (Some k) r = omega (arith, r)

slots_push : (xs : List EndpointWire) (x : EndpointWire) → slots_in (xs ++ x ∷ []) ≡ taken_in x.device.slots + slots_in xs
slots_push [] x = omega arith
slots_push (y ∷ xs) x = let r = slots_push xs x in omega (arith, r)

slots_table : (n : ℕ) (f : ℕ → EndpointWire) (g : ℕ → ℕ) → ((k : ℕ) → taken_in (f k).device.slots ≡ g k) → slots_in (tabulate n f) ≡ sum_to n g
unfolding tabulate sum_to
slots_table zero f g h = refl
slots_table (suc n) f g h =
    let here = h n in
    let rest = slots_table n f g h in
    slots_push (tabulate n f) (f n) ∙ omega (arith, here, rest)

taken_seen : (w : World) → slots_in (wire w).parts ≡ taken_count w
taken_seen w = slots_table w.config.endpoints (λ e. part_wire w.config.first w.mappings (w.part e)) (λ e. taken_at (w.part e))
    (λ e. taken_table 16 (use_wire w.mappings (w.part e)) (w.part e).at_slot)

-- a step changes them as its answer says
after_step :
    (after before less more minus plus seen_after seen_before : ℕ) → after + less ≡ before + more → less ≡ minus → more ≡ plus → seen_after ≡ after
    → seen_before ≡ before
    → seen_after + minus ≡ seen_before + plus
after_step after before less more minus plus seen_after seen_before h l m a b = omega (arith, h, l, m, a, b)

pub step_counts : (w : World) (s : Step) → Invariant w → IsTallied (wire w) (wire (next w s)) (reply w s)
step_counts w s i =
    let t = step_tallied w s in
    record {
      bindings = after_step _ _ _ _ _ _ _ _ (acts_bindings (decide w s).acts w (step_legal w s i) i) t.released t.bound (unreleased_seen (next w s))
          (unreleased_seen w);
      slots = after_step _ _ _ _ _ _ _ _ (acts_slots (decide w s).acts w (step_legal w s i) i) t.ended t.begun (taken_seen (next w s)) (taken_seen w);
    }

pub always_tallied :
    (rule : PasidRule) (config : Config) (steps : List Step) (s : Step)
    → IsTallied (wire (world_after rule config steps)) (wire (next (world_after rule config steps) s)) (reply (world_after rule config steps) s)
always_tallied rule config steps s = step_counts (world_after rule config steps) s (always rule config steps)
