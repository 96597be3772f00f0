-- A success of a worker's reply answers how many pages it maps: by so many the space of the job's binding has more.
use Rattle.std.proofs.Common.{◌≡◌, ◌≢◌, ◌⊎◌, inl, inr, refl, ap, sym, subst, ◌∙◌, ℕ, suc, ◌+◌, ◌<◌, ◌≤◌, Bool, true, false, arith}
use Rattle.std.specs.Prelude.{Option, Some, None, ◌&&◌, ◌==◌, List, [], ◌∷◌, ◌++◌, length, if◌then◌else◌, Ok}
use Rattle.std.proofs.lemmas.Bool.Decides.{nat_tests}
use Rattle.std.proofs.lemmas.Bool.{cases_lt, not-false}
use Rattle.sva_step.specs.declared.answers.Answer.TheVariants as answer
use Rattle.sva_step.specs.declared.limits.Config.{Config}
use Rattle.sva_step.specs.declared.steps.Step.{Step}
use Rattle.sva_step.specs.declared.steps.Step.TheVariants as step
use Rattle.sva_step.specs.declared.steps.Verdict.{Verdict}
use Rattle.sva_model.specs.Words.{put, count_below, is_some, the}
use Rattle.sva_model.specs.Message.{Code}
use Rattle.sva_model.specs.Message.Code.{SuccessCode, InvalidCode, FailureCode}
use Rattle.sva_model.specs.State.{PasidRule, World}
use Rattle.sva_model.specs.State.MappingState.{Present}
use Rattle.sva_model.specs.States.{is_present}
use Rattle.sva_model.specs.Acts.{Act, LocalAct, act}
use Rattle.sva_model.specs.Acts.Act.{Map, LetGo, AtEndpoint}
use Rattle.sva_model.specs.Labels.{pages_of}
use Rattle.sva_model.specs.Refusals.{refusals}
use Rattle.sva_model.specs.Replies.{maps_to, reply_maps, replies_success, newly_mapped, free_list, is_write_asked, job_space, response_to}
use Rattle.sva_model.specs.Outcomes.{outcome, reply_outcome}
use Rattle.sva_model.specs.Steps.{reply, after_acts, world_after}
use Rattle.sva_laws.specs.Answers.{MapsPages, Succeeds}
use Rattle.sva_labels.proofs.Words.{put-same, put-other, ℕ_cases, some_the}
use Rattle.sva_labels.proofs.Counting.{bit, count_next, count_same}
use Rattle.sva_laws.proofs.Passed.{LegalAll}
use Rattle.sva_laws.proofs.Runs.{always, step_legal}
use Rattle.sva_laws.proofs.Lookback.{after_one}
use Rattle.sva_laws.proofs.Told.{accepted}

-- One page.

page_counted : (w : World) (s q f : ℕ) (x : Bool) → pages_of (act w (Map s q f x)) s ≡ pages_of w s + 1
unfolding bit
page_counted w s q f x =
    let ms = w.mappings in
    let now : ℕ → Bool = λ m. is_present (put ms.state ms.made Present m) && put ms.space ms.made s m == s in
    let new : bit (now ms.made) ≡ 1 = ap bit (both (put-same ms.state ms.made Present) (put-same ms.space ms.made s)) in
    let old : count_below ms.made now ≡ pages_of w s =
    count_same ms.made now (λ m. is_present (ms.state m) && ms.space m == s) (λ m l. same m (omega (arith, l))) in
    omega (arith, count_next ms.made now, new, old)
  where
    both : put w.mappings.state w.mappings.made Present w.mappings.made ≡ Present → put w.mappings.space w.mappings.made s w.mappings.made ≡ s
        → (is_present (put w.mappings.state w.mappings.made Present w.mappings.made) && put w.mappings.space w.mappings.made s w.mappings.made == s) ≡ true
    both h k = grind (arith, nat_tests)

    same : (m : ℕ) → m ≢ w.mappings.made
        → (is_present (put w.mappings.state w.mappings.made Present m) && put w.mappings.space w.mappings.made s m == s)
        ≡ (is_present (w.mappings.state m) && w.mappings.space m == s)
    same m ne = grind (arith, nat_tests)

pub one_page : (w : World) (s q f : ℕ) (x : Bool) → w.mappings.at s q ≡ None → MapsPages w (act w (Map s q f x)) s 1
one_page w s q f x un =
    record {
      pages = page_counted w s q f x;
      made = omega arith;
      fresh = λ m a b. new m (omega (arith, a, b));
      kept = λ m l. let ne : m ≢ w.mappings.made =
          omega (arith, l) in (
            put-other w.mappings.state w.mappings.made Present m ne,
            put-other w.mappings.space w.mappings.made s m ne,
            put-other w.mappings.page w.mappings.made q m ne,
          );
      mapped = λ r h. old r (ℕ_cases r q) h;
    }
  where
    new : (m : ℕ) → m ≡ w.mappings.made → (put w.mappings.state w.mappings.made Present m ≡ Present) × (put w.mappings.space w.mappings.made s m ≡ s)
        × (w.mappings.at s (put w.mappings.page w.mappings.made q m) ≡ None)
    new m e =
        subst (λ z. (put w.mappings.state w.mappings.made Present z ≡ Present) × (put w.mappings.space w.mappings.made s z ≡ s)
        × (w.mappings.at s (put w.mappings.page w.mappings.made q z) ≡ None)) (sym e) (
          put-same w.mappings.state w.mappings.made Present,
          put-same w.mappings.space w.mappings.made s,
          ap (w.mappings.at s) (put-same w.mappings.page w.mappings.made q) ∙ un,
        )

    row : put w.mappings.at s (put (w.mappings.at s) q (Some w.mappings.made)) s ≡ put (w.mappings.at s) q (Some w.mappings.made)
    row = put-same w.mappings.at s (put (w.mappings.at s) q (Some w.mappings.made))

    old : (r : ℕ) → (r ≡ q) ⊎ (r ≢ q) → (act w (Map s q f x)).mappings.at s r ≡ None → w.mappings.at s r ≡ None
    old r (inl e) h = ap (w.mappings.at s) e ∙ un
    old r (inr ne) h = sym (ap (λ g. g r) row ∙ put-other (w.mappings.at s) q (Some w.mappings.made) r ne) ∙ h

no_page : (w : World) (x e : ℕ) (o : LocalAct) (s : ℕ) → MapsPages w (after_acts w (LetGo x ∷ AtEndpoint e o ∷ [])) s 0
no_page w x e o s =
    record {
      pages = omega arith;
      made = omega arith;
      fresh = λ m a b. absurd (omega (arith, a, b));
      kept = λ m l. (refl, refl, refl);
      mapped = λ r h. h;
    }

more_pages : (u v w : World) (s n : ℕ) → MapsPages u v s 1 → MapsPages v w s n → MapsPages u w s (suc n)
more_pages u v w s n a b =
    record {
      pages = omega (arith, a.pages, b.pages);
      made = omega (arith, a.made, b.made);
      fresh = λ m l k. new m l k (cases_lt m v.mappings.made);
      kept = λ m l. let x = a.kept m l in let y = b.kept m (omega (arith, l, a.made)) in (y.0 ∙ x.0, y.1 ∙ x.1, y.2 ∙ x.2);
      mapped = λ r h. a.mapped r (b.mapped r h);
    }
  where
    new : (m : ℕ) → u.mappings.made ≤ m → m < w.mappings.made → (m < v.mappings.made) ⊎ (v.mappings.made ≤ m) → (w.mappings.state m ≡ Present)
        × (w.mappings.space m ≡ s) × (u.mappings.at s (w.mappings.page m) ≡ None)
    new m l k (inl x) =
        let f = a.fresh m l x in
        let y = b.kept m x in
        (y.0 ∙ f.0, y.1 ∙ f.1, ap (u.mappings.at s) y.2 ∙ f.2)
    new m l k (inr x) = let f = b.fresh m x k in (f.0, f.1, a.mapped (w.mappings.page m) f.2)

-- The pages of a reply, and then the response.

pub all_pages : (s : ℕ) (write : ℕ → Bool) (qs fs : List ℕ) (x e : ℕ) (o : LocalAct) (w : World)
    → LegalAll w (maps_to s write qs fs ++ LetGo x ∷ AtEndpoint e o ∷ [])
    → MapsPages w (after_acts w (maps_to s write qs fs ++ LetGo x ∷ AtEndpoint e o ∷ [])) s (length (maps_to s write qs fs))
all_pages s write [] fs x e o w l = no_page w x e o s
all_pages s write (q ∷ qs) [] x e o w l = no_page w x e o s
all_pages s write (q ∷ qs) (f ∷ fs) x e o w l =
    more_pages w (act w (Map s q f (write q))) (after_acts (act w (Map s q f (write q))) (maps_to s write qs fs ++ LetGo x ∷ AtEndpoint e o ∷ [])) s
    (length (maps_to s write qs fs))
    (one_page w s q f (write q) l.0.1)
    (all_pages s write qs fs x e o (act w (Map s q f (write q))) l.1)

same_count : (a b : ℕ) → answer.Success a ≡ answer.Success b → a ≡ b
same_count a b h = cc

reply_pages : (w : World) (x j : ℕ) (v : Verdict) (o : Option Code) (count : ℕ) → (reply_outcome w x j (reply_maps w j v) o).answer
    ≡ answer.Success count → LegalAll w (reply_outcome w x j (reply_maps w j v) o).acts
    → MapsPages w (after_acts w (reply_outcome w x j (reply_maps w j v) o).acts) (job_space w j) count
reply_pages w x j v None count a l = absurd (cc)
reply_pages w x j v (Some InvalidCode) count a l = absurd (cc)
reply_pages w x j v (Some FailureCode) count a l = absurd (cc)
reply_pages w x j v (Some SuccessCode) count a l =
    subst (λ k. MapsPages w (after_acts w (reply_maps w j v ++ LetGo x ∷ AtEndpoint (w.job j).endpoint (LocalAct.Respond (w.job j).group SuccessCode) ∷ []))
    (job_space w j) k) (same_count (length (reply_maps w j v)) count a)
    (go (replies_success w j v) l)
  where
    e : ℕ
    e = (w.job j).endpoint

    r : LocalAct
    r = LocalAct.Respond (w.job j).group SuccessCode

    maps : List Act
    maps = maps_to (job_space w j) (is_write_asked w j) (newly_mapped w j) (free_list w)

    go : (b : Bool) → LegalAll w ((if b then maps else []) ++ LetGo x ∷ AtEndpoint e r ∷ [])
        → MapsPages w (after_acts w ((if b then maps else []) ++ LetGo x ∷ AtEndpoint e r ∷ [])) (job_space w j) (length (if b then maps else []))
    go true k = all_pages (job_space w j) (is_write_asked w j) (newly_mapped w j) (free_list w) x e r w k
    go false k = no_page w x e r (job_space w j)

pub always_succeeds : (rule : PasidRule) (config : Config) (steps : List Step) (x : ℕ) (v : Verdict) (count : ℕ)
    → reply (world_after rule config steps) (step.Reply x v) ≡ Ok (answer.Success count)
    → Succeeds (world_after rule config steps) (world_after rule config (steps ++ step.Reply x v ∷ [])) x count
always_succeeds rule config steps x v count h =
    let w = world_after rule config steps in
    let s = step.Reply x v in
    let j = the (w.hand x) in
    let yes = accepted (refusals w s) (outcome w s) (answer.Success count) h in
    let legal = subst (LegalAll w) yes.2 (step_legal w s (always rule config steps)) in
    record {
      job = j;
      in_hand = some_the (w.hand x) (not-false (is_some (w.hand x)) yes.0.1.0);
      maps = subst (λ z. MapsPages w z (job_space w j) count) (sym (after_one rule config steps s ∙ ap (after_acts w) yes.2))
          (reply_pages w x j v (response_to w j v) count yes.1 legal);
    }
