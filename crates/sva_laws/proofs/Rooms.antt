-- No more than 64 spaces are live, and no space has more than 1024 pages.
use Rattle.std.proofs.Common.{◌≡◌, ◌≢◌, ◌⊎◌, inl, inr, refl, ap, sym, subst, ◌∙◌, ℕ, suc, ◌+◌, ◌≤◌, Bool, true, false, arith}
use Rattle.std.specs.Prelude.{Option, Some, None, ◌&&◌, ◌==◌, nat_lt, if◌then◌else◌, List, [], ◌∷◌, ◌++◌, length, Err}
use Rattle.std.proofs.lemmas.Bool.Decides.{nat_tests}
use Rattle.std.proofs.lemmas.Bool.{leb-false, ltb-false}
use Rattle.sva_step.specs.declared.limits.Config.{Config}
use Rattle.sva_step.specs.declared.steps.Step.{Step}
use Rattle.sva_step.specs.declared.steps.Step.TheVariants as step
use Rattle.sva_step.specs.declared.steps.Verdict.{Verdict}
use Rattle.sva_model.specs.Words.{put, count_below, the}
use Rattle.sva_model.specs.Message.{Code}
use Rattle.sva_model.specs.State.{PasidRule, Owed, MappingState, World, opened}
use Rattle.sva_model.specs.States.{is_present}
use Rattle.sva_model.specs.Unmappings.{gone_if}
use Rattle.sva_model.specs.Acts.{Act, LocalAct, act}
use Rattle.sva_model.specs.Acts.Act.{NewSpace, DropSpace, Map, Unmap, NewBinding, NewJob, Hold, LetGo, AtEndpoint}
use Rattle.sva_model.specs.Labels
use Rattle.sva_model.specs.Refusals.{Cause, refusals}
use Rattle.sva_model.specs.Replies.{maps_to, reply_maps, replies_success, newly_mapped, free_list, is_write_asked, job_space, response_to}
use Rattle.sva_model.specs.Outcomes.{Outcome, outcome, reply_outcome}
use Rattle.sva_model.specs.Steps.{checked, decide, next, run, after_acts, world_after}
use Rattle.sva_laws.specs.Answers.{MapsPages}
use Rattle.sva_labels.proofs.Words.{put-other, ℕ_cases, was_true}
use Rattle.sva_labels.proofs.Counting.{bit_most, count_next, count_same, count_less, count_more}
use Rattle.sva_laws.proofs.Invariant.{Invariant}
use Rattle.sva_laws.proofs.Passed.{Passed, LegalAll}
use Rattle.sva_laws.proofs.Runs.{step_legal, next_keeps, opened_invariant}
use Rattle.sva_laws.proofs.StepActs.{may, AllMay, step_may, is_making, is_mapping}
use Rattle.sva_laws.proofs.Successes.{one_page, all_pages}

-- Live spaces.

act_live : (w : World) (z : Step) (a : Act) → is_making z ≡ false → may a z ≡ true → Labels.live_spaces (act w a) ≤ Labels.live_spaces w
act_live w z NewSpace h m = absurd (cc)
act_live w z (DropSpace s) h m = count_less w.spaces (put w.is_live s false) w.is_live (λ k l t. was_true w.is_live s k t)
act_live w z (Map s q f x) h m = omega arith
act_live w z (Unmap s q count order) h m = omega arith
act_live w z (NewBinding e) h m = omega arith
act_live w z (NewJob e g) h m = omega arith
act_live w z (Hold x j) h m = omega arith
act_live w z (LetGo x) h m = omega arith
act_live w z (AtEndpoint e o) h m = omega arith

acts_live : (z : Step) (acts : List Act) (w : World) → is_making z ≡ false → AllMay z acts → Labels.live_spaces (after_acts w acts) ≤ Labels.live_spaces w
acts_live z [] w h m = omega arith
acts_live z (a ∷ acts) w h m = let one = act_live w z a h m.0 in let rest = acts_live z acts (act w a) h m.1 in omega (arith, one, rest)

one_live : (w : World) → Labels.live_spaces (act w NewSpace) ≤ suc (Labels.live_spaces w)
one_live w =
    let now = put w.is_live w.spaces true in
    let old : count_below w.spaces now ≡ Labels.live_spaces w =
    count_same w.spaces now w.is_live (λ k l. put-other w.is_live w.spaces true k (omega (arith, l))) in
    omega (arith, count_next w.spaces now, bit_most (now w.spaces), old)

-- what holds where nothing is done, and where no cause refuses
pub by_passed : (P : List Act → Type 0) (cs : List Cause) (o : Outcome) → P [] → (Passed cs → P o.acts) → P (checked cs o).acts
by_passed P [] o none some = some tt
by_passed P (c ∷ cs) o none some = go c.0 refl (λ e. by_passed P cs o none (λ k. some (e, k)))
  where
    go : (b : Bool) → c.0 ≡ b → (c.0 ≡ false → P (checked cs o).acts) → P (if b then record { reply = Err c.1; acts = [] } else checked cs o).acts
    go true e rest = none
    go false e rest = rest e

next_live : (w : World) (s : Step) → Labels.live_spaces w ≤ 64 → Labels.live_spaces (next w s) ≤ 64
next_live w s h = go s (is_making s) refl
  where
    go : (z : Step) (b : Bool) → is_making z ≡ b → Labels.live_spaces (next w z) ≤ 64
    go step.Space b x =
        by_passed (λ acts. Labels.live_spaces (after_acts w acts) ≤ 64) (refusals w step.Space) (outcome w step.Space) h
        (λ k. let one = one_live w in let few = leb-false 64 (Labels.live_spaces w) k.0 in omega (arith, one, few))
    go z false x = let less = acts_live z (decide w z).acts w x (step_may w z) in omega (arith, h, less)
    go z true x = absurd (grind arith)

-- Pages.

was_present : (b : Bool) (owed : ℕ → Owed) (z : MappingState) → is_present (gone_if b owed z) ≡ true → is_present z ≡ true
was_present b owed z h = grind arith

was_both : (a b c : Bool) → (a ≡ true → c ≡ true) → (a && b) ≡ true → (c && b) ≡ true
was_both a b c f h = grind arith

act_pages : (w : World) (z : Step) (a : Act) (t : ℕ) → is_mapping z ≡ false → may a z ≡ true → Labels.pages_of (act w a) t ≤ Labels.pages_of w t
act_pages w z NewSpace t h m = omega arith
act_pages w z (DropSpace s) t h m =
    count_less w.mappings.made (λ k. is_present ((act w (DropSpace s)).mappings.state k) && w.mappings.space k == t)
    (λ k. is_present (w.mappings.state k) && w.mappings.space k == t)
    (λ k l. was_both (is_present ((act w (DropSpace s)).mappings.state k)) (w.mappings.space k == t) (is_present (w.mappings.state k))
    (was_present _ _ (w.mappings.state k)))
act_pages w z (Map s q f x) t h m = absurd (cc)
act_pages w z (Unmap s q count order) t h m =
    count_less w.mappings.made (λ k. is_present ((act w (Unmap s q count order)).mappings.state k) && w.mappings.space k == t)
    (λ k. is_present (w.mappings.state k) && w.mappings.space k == t)
    (λ k l. was_both (is_present ((act w (Unmap s q count order)).mappings.state k)) (w.mappings.space k == t) (is_present (w.mappings.state k))
    (was_present _ _ (w.mappings.state k)))
act_pages w z (NewBinding e) t h m = omega arith
act_pages w z (NewJob e g) t h m = omega arith
act_pages w z (Hold x j) t h m = omega arith
act_pages w z (LetGo x) t h m = omega arith
act_pages w z (AtEndpoint e o) t h m = omega arith

acts_pages : (z : Step) (acts : List Act) (w : World) (t : ℕ) → is_mapping z ≡ false → AllMay z acts → Labels.pages_of (after_acts w acts) t
    ≤ Labels.pages_of w t
acts_pages z [] w t h m = omega arith
acts_pages z (a ∷ acts) w t h m = let one = act_pages w z a t h m.0 in let rest = acts_pages z acts (act w a) t h m.1 in omega (arith, one, rest)

other_pages : (w v : World) (s n t : ℕ) → MapsPages w v s n → t ≢ s → Labels.pages_of v t ≡ Labels.pages_of w t
other_pages w v s n t x ne = ap (λ k. count_below k now) x.made ∙ more ∙ same
  where
    now : ℕ → Bool
    now m = is_present (v.mappings.state m) && v.mappings.space m == t

    isnt : (a : ℕ) (b : Bool) → a ≡ s → (b && a == t) ≡ false
    isnt a b h = grind (arith, nat_tests)

    more : count_below (w.mappings.made + n) now ≡ count_below w.mappings.made now
    more = count_more w.mappings.made n now
        (λ m l k. isnt (v.mappings.space m) (is_present (v.mappings.state m)) (x.fresh m l (let e = x.made in omega (arith, k, e))).1)

    same : count_below w.mappings.made now ≡ Labels.pages_of w t
    same = count_same w.mappings.made now (λ m. is_present (w.mappings.state m) && w.mappings.space m == t) (λ m l. alike m (x.kept m l).0 (x.kept m l).1)
      where
        alike : (m : ℕ) → v.mappings.state m ≡ w.mappings.state m → v.mappings.space m ≡ w.mappings.space m → now m
            ≡ (is_present (w.mappings.state m) && w.mappings.space m == t)
        alike m a b = ap (λ z. is_present z && v.mappings.space m == t) a ∙ ap (λ z. is_present (w.mappings.state m) && z == t) b

fits : (w v : World) (s n : ℕ) → MapsPages w v s n → Labels.pages_of w s + n ≤ 1024 → ((t : ℕ) → Labels.pages_of w t ≤ 1024) → (t : ℕ)
    → Labels.pages_of v t ≤ 1024
fits w v s n x room h t = go (ℕ_cases t s)
  where
    go : (t ≡ s) ⊎ (t ≢ s) → Labels.pages_of v t ≤ 1024
    go (inl e) = subst (λ k. Labels.pages_of v k ≤ 1024) (sym e) (let p = x.pages in omega (arith, p, room))
    go (inr ne) = let same = other_pages w v s n t x ne in let k = h t in omega (arith, same, k)

most : (s : ℕ) (write : ℕ → Bool) (qs fs : List ℕ) → length (maps_to s write qs fs) ≤ length qs
most s write [] fs = omega arith
most s write (q ∷ qs) [] = omega arith
most s write (q ∷ qs) (f ∷ fs) = let r = most s write qs fs in omega (arith, r)

abbrev AllFit : World → Type 0
AllFit w = (t : ℕ) → Labels.pages_of w t ≤ 1024

reply_fits : (w : World) (x j : ℕ) (v : Verdict) (o : Option Code)
    → (replies_success w j v && nat_lt 1024 (Labels.pages_of w (job_space w j) + length (newly_mapped w j))) ≡ false → AllFit w
    → LegalAll w (reply_outcome w x j (reply_maps w j v) o).acts → AllFit (after_acts w (reply_outcome w x j (reply_maps w j v) o).acts)
reply_fits w x j v None full h l = h
reply_fits w x j v (Some code) full h l = go (replies_success w j v) refl l
  where
    e : ℕ
    e = (w.job j).endpoint

    r : LocalAct
    r = LocalAct.Respond (w.job j).group code

    maps : List Act
    maps = maps_to (job_space w j) (is_write_asked w j) (newly_mapped w j) (free_list w)

    room : replies_success w j v ≡ true → Labels.pages_of w (job_space w j) + length (newly_mapped w j) ≤ 1024
    room t = ltb-false 1024 (Labels.pages_of w (job_space w j) + length (newly_mapped w j))
        (sym (ap (λ b. b && nat_lt 1024 (Labels.pages_of w (job_space w j) + length (newly_mapped w j))) t) ∙ full)

    go : (b : Bool) → replies_success w j v ≡ b → LegalAll w ((if b then maps else []) ++ LetGo x ∷ AtEndpoint e r ∷ [])
        → AllFit (after_acts w ((if b then maps else []) ++ LetGo x ∷ AtEndpoint e r ∷ []))
    go true t k =
        fits w (after_acts w (maps ++ LetGo x ∷ AtEndpoint e r ∷ [])) (job_space w j) (length maps)
        (all_pages (job_space w j) (is_write_asked w j) (newly_mapped w j) (free_list w) x e r w k)
        (let a = room t in let b = most (job_space w j) (is_write_asked w j) (newly_mapped w j) (free_list w) in omega (arith, a, b))
        h
    go false t k = h

next_fits : (w : World) (s : Step) → Invariant w → AllFit w → AllFit (next w s)
next_fits w s i h = go s (is_mapping s) refl
  where
    go : (z : Step) (b : Bool) → is_mapping z ≡ b → AllFit (next w z)
    go (step.Map n q x) b y =
        by_passed (λ acts. LegalAll w acts → AllFit (after_acts w acts)) (refusals w (step.Map n q x)) (outcome w (step.Map n q x)) (λ l. h)
        (λ k l.
        let few = leb-false 1024 (Labels.pages_of w (Labels.name w n)) k.1.1.1.0 in
        fits w (act w (Map (Labels.name w n) q (Labels.lowest_frame w) x)) (Labels.name w n) 1
        (one_page w (Labels.name w n) q (Labels.lowest_frame w) x l.0.1) (omega (arith, few)) h)
        (step_legal w (step.Map n q x) i)
    go (step.Reply x v) b y =
        by_passed (λ acts. LegalAll w acts → AllFit (after_acts w acts)) (refusals w (step.Reply x v)) (outcome w (step.Reply x v)) (λ l. h)
        (λ k l. reply_fits w x (the (w.hand x)) v (response_to w (the (w.hand x)) v) k.1.1.1.1.0 h l)
        (step_legal w (step.Reply x v) i)
    go z false y = λ t. let less = acts_pages z (decide w z).acts w t y (step_may w z) in let k = h t in omega (arith, less, k)
    go z true y = absurd (grind arith)

record HasRoom (w : World) : Type 0 where
  live : Labels.live_spaces w ≤ 64
  pages : AllFit w

run_room : (ss : List Step) (w : World) → Invariant w → HasRoom w → HasRoom (run w ss)
run_room [] w i h = h
run_room (s ∷ ss) w i h = run_room ss (next w s) (next_keeps w s i) (record { live = next_live w s h.live; pages = next_fits w s i h.pages })

opened_room : (rule : PasidRule) (c : Config) → HasRoom (opened rule c)
unfolding count_below
opened_room rule c = record { live = omega arith; pages = λ t. omega arith }

pub always_live : (rule : PasidRule) (config : Config) (steps : List Step) → Labels.live_spaces (world_after rule config steps) ≤ 64
always_live rule config steps = (run_room steps (opened rule config) (opened_invariant rule config) (opened_room rule config)).live

pub always_pages : (rule : PasidRule) (config : Config) (steps : List Step) (t : ℕ) → Labels.pages_of (world_after rule config steps) t ≤ 1024
always_pages rule config steps = (run_room steps (opened rule config) (opened_invariant rule config) (opened_room rule config)).pages
