-- A message that is in flight at an endpoint was sent on that endpoint's way.
use Rattle.std.proofs.Common.{◌≡◌, ◌≢◌, ◌⊎◌, inl, inr, refl, ap, sym, subst, ◌∙◌, ℕ, ◌+◌, ◌<◌, ◌≤◌, Bool, true, false, arith}
use Rattle.std.specs.Prelude.{Option, Some, None, List, [], ◌∷◌}
use Rattle.std.proofs.lemmas.Bool.Decides.{nat_tests}
use Rattle.sva_step.specs.declared.limits.Config.{Config}
use Rattle.sva_step.specs.declared.steps.Step.{Step}
use Rattle.sva_model.specs.Words.{put, put_range, is_some}
use Rattle.sva_model.specs.State.{PasidRule, Mappings, Endpoint, World, opened}
use Rattle.sva_model.specs.Unmappings.{submitted_if, submits, bound, cookie_of}
use Rattle.sva_model.specs.Acts.{Act, LocalAct, act, act_alone, sends}
use Rattle.sva_model.specs.Acts.Act.{NewSpace, DropSpace, Map, Unmap, NewBinding, NewJob, Hold, LetGo, AtEndpoint}
use Rattle.sva_model.specs.Steps.{decide, next, run, after_acts, world_after}
use Rattle.sva_labels.proofs.Words.{ℕ_cases, put-same, put-other}
use Rattle.sva_laws.proofs.Legal.{LegalLocalAct}
use Rattle.sva_laws.proofs.Resets.{Resets}
use Rattle.sva_laws.proofs.Invariant.{Invariant}
use Rattle.sva_laws.proofs.Keeps.{Legal, act_keeps}
use Rattle.sva_laws.proofs.Passed.{LegalAll}
use Rattle.sva_laws.proofs.Runs.{step_legal, next_keeps, opened_invariant}
use Rattle.sva_refinement.proofs.Flights.{old_way}

abbrev pub AreSentTo : World → Type 0
AreSentTo w = (e c : ℕ) → is_some ((w.part e).message c) ≡ true → w.link_of c ≡ e

-- a message that is in flight after an act was in flight before, or is one that the act sends
message_from :
    (ms : Mappings) (g n : ℕ) (p : Endpoint) (o : LocalAct) → LegalLocalAct ms g p o → (c : ℕ) → is_some ((act_alone p n o).message c) ≡ true
    → (is_some (p.message c) ≡ true) ⊎ ((n ≤ c) × (c < n + sends o))
message_from ms g n p o l c h = grind (arith, nat_tests)

-- one that was in flight has a number that was given
pub was_sent : (n : ℕ) (p : Endpoint) → Resets n p → (c : ℕ) → is_some (p.message c) ≡ true → c < n
was_sent n p re c h = grind (arith, nat_tests, re.unsent c)

new_way : (link_of : ℕ → ℕ) (n count e c : ℕ) → n ≤ c → c < n + count → put_range link_of n count (λ j. e) c ≡ e
new_way link_of n count e c l m = grind (arith, nat_tests)

pub same_message : (b : Bool) (p : Endpoint) (o : Option ℕ) (q count order cookie c : ℕ) → (submitted_if b p o q count order cookie).message c ≡ p.message c
same_message true p (Some b) q count order cookie c = refl
same_message true p None q count order cookie c = refl
same_message false p o q count order cookie c = refl

at_sent : (w : World) (e : ℕ) (o : LocalAct) → LegalLocalAct w.mappings w.bindings (w.part e) o → Invariant w → AreSentTo w → AreSentTo (act w (AtEndpoint e o))
at_sent w e o l i h x c k = go (ℕ_cases x e)
  where
    go : (x ≡ e) ⊎ (x ≢ e) → put_range w.link_of w.messages (sends o) (λ j. e) c ≡ x
    go (inr ne) =
        let old : is_some ((w.part x).message c) ≡ true =
        subst (λ p. is_some (p.message c) ≡ true) (put-other w.part e (act_alone (w.part e) w.messages o) x ne) k in
        old_way w.link_of w.messages (sends o) e c (was_sent w.messages (w.part x) (i.parts x).resets c old) ∙ h x c old
    go (inl same) = here (message_from w.mappings w.bindings w.messages (w.part e) o l c there) ∙ sym same
      where
        there : is_some ((act_alone (w.part e) w.messages o).message c) ≡ true
        there =
            subst (λ p. is_some (p.message c) ≡ true) (ap (put w.part e (act_alone (w.part e) w.messages o)) same
            ∙ put-same w.part e (act_alone (w.part e) w.messages o)) k

        here : (is_some ((w.part e).message c) ≡ true) ⊎ ((w.messages ≤ c) × (c < w.messages + sends o))
            → put_range w.link_of w.messages (sends o) (λ j. e) c ≡ e
        here (inl old) = old_way w.link_of w.messages (sends o) e c (was_sent w.messages (w.part e) (i.parts e).resets c old) ∙ h e c old
        here (inr new) = new_way w.link_of w.messages (sends o) e c new.0 new.1

pub act_sent : (w : World) (a : Act) → Legal w a → Invariant w → AreSentTo w → AreSentTo (act w a)
act_sent w NewSpace l i h = h
act_sent w (DropSpace s) l i h = h
act_sent w (Map s q f x) l i h = h
act_sent w (Unmap s q count order) l i h =
    λ e c k.
    h e c (sym (ap is_some (same_message (submits w s e) (w.part e) (bound w e s) q count order (cookie_of w s e) c)) ∙ k)
act_sent w (NewBinding e) l i h = h
act_sent w (NewJob e g) l i h = h
act_sent w (Hold x j) l i h = h
act_sent w (LetGo x) l i h = h
act_sent w (AtEndpoint e o) l i h = at_sent w e o l.1.0 i h

pub acts_sent : (acts : List Act) (w : World) → LegalAll w acts → Invariant w → AreSentTo w → AreSentTo (after_acts w acts)
acts_sent [] w l i h = h
acts_sent (a ∷ acts) w l i h = acts_sent acts (act w a) l.1 (act_keeps w a l.0 i) (act_sent w a l.0 i h)

run_sent : (ss : List Step) (w : World) → Invariant w → AreSentTo w → AreSentTo (run w ss)
run_sent [] w i h = h
run_sent (s ∷ ss) w i h = run_sent ss (next w s) (next_keeps w s i) (acts_sent (decide w s).acts w (step_legal w s i) i h)

pub always_sent : (rule : PasidRule) (config : Config) (steps : List Step) → AreSentTo (world_after rule config steps)
always_sent rule config steps = run_sent steps (opened rule config) (opened_invariant rule config) (λ e c h. absurd (cc))
