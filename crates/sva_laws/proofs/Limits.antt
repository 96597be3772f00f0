-- No endpoint has more than 32 page requests outstanding, and so no more in its page request queue.
use Rattle.sva_model.specs.State.{PasidRule}
use Rattle.std.proofs.Common.{◌≡◌, ◌≢◌, ◌⊎◌, inl, inr, refl, sym, subst, ℕ, zero, suc, ◌+◌, ◌<◌, ◌≤◌, Bool, true, false, arith}
use Rattle.std.specs.Prelude.{Option, Some, None, List, [], ◌∷◌, length}
use Rattle.std.proofs.lemmas.Bool.Decides.{nat_tests}
use Rattle.sva_step.specs.declared.limits.Config.{Config}
use Rattle.sva_step.specs.declared.steps.Step.{Step}
use Rattle.sva_model.specs.Words.{count_below}
use Rattle.sva_model.specs.State.{Mappings, Endpoint, World, opened}
use Rattle.sva_model.specs.State.PageRequestState.{Arrived}
use Rattle.sva_model.specs.State.Phase.{Open}
use Rattle.sva_model.specs.States.{Place, is_arrived, is_outstanding, is_open, place, is_free_place}
use Rattle.sva_model.specs.States.Place.{Free, Mapped, Withheld}
use Rattle.sva_model.specs.Unmappings.{submitted_if, submits, bound, cookie_of}
use Rattle.sva_model.specs.Acts.{Act, LocalAct, act, act_alone}
use Rattle.sva_model.specs.Acts.Act.{NewSpace, DropSpace, Map, Unmap, NewBinding, NewJob, Hold, LetGo, AtEndpoint}
use Rattle.sva_model.specs.Labels.{outstanding, is_waiting}
use Rattle.sva_model.specs.Steps.{decide, next, run, after_acts, world_after, counts, is_mapped_at, is_withheld_at}
use Rattle.sva_laws.specs.LimitLaws.{page_queue, waiting}
use Rattle.sva_labels.proofs.Counting.{bit, bit_most, count_next, count_less, length_select, count_placed}
use Rattle.sva_laws.proofs.Legal.{LegalLocalAct}
use Rattle.sva_laws.proofs.Bounds.{Bounds}
use Rattle.sva_laws.proofs.PageRequests.{Queued, arrival_once}
use Rattle.sva_laws.proofs.Invariant.{Invariant}
use Rattle.sva_laws.proofs.Keeps.{Legal, act_keeps, put_keeps}
use Rattle.sva_laws.proofs.Passed.{LegalAll}
use Rattle.sva_laws.proofs.Runs.{always, step_legal, next_keeps, opened_invariant}

-- An act of an endpoint: a page request that was outstanding after it was so before, but for the one that is new.

out_before : (ms : Mappings) (g n : ℕ) (p : Endpoint) (o : LocalAct) → LegalLocalAct ms g p o → (r : ℕ) → r < p.page_requests → p.group_of r < p.groups
    → is_outstanding ((act_alone p n o).group ((act_alone p n o).group_of r)) ≡ true → is_outstanding (p.group (p.group_of r)) ≡ true
out_before ms g n p o l r lt made h = grind (arith, nat_tests)

one_more : (ms : Mappings) (g n : ℕ) (p : Endpoint) (o : LocalAct) → LegalLocalAct ms g p o → ((act_alone p n o).page_requests ≡ p.page_requests)
    ⊎ (((act_alone p n o).page_requests ≡ suc p.page_requests) × (outstanding p < 32))
one_more ms g n p (LocalAct.Group b i q r x l) h = inr (refl, h.3)
one_more ms g n p (LocalAct.Request y q r x l) h = inr (refl, h.2)
one_more ms g n p o h = inl (grind arith)

own_limited : (ms : Mappings) (g n : ℕ) (p : Endpoint) (o : LocalAct) → LegalLocalAct ms g p o → Bounds g p → outstanding p ≤ 32
    → outstanding (act_alone p n o) ≤ 32
own_limited ms g n p o l bo h = go (one_more ms g n p o l)
  where
    now : ℕ → Bool
    now r = is_outstanding ((act_alone p n o).group ((act_alone p n o).group_of r))

    less : count_below p.page_requests now ≤ outstanding p
    less = count_less p.page_requests now (λ r. is_outstanding (p.group (p.group_of r))) (λ r lt t. out_before ms g n p o l r lt (bo.group_of r lt) t)

    go : ((act_alone p n o).page_requests ≡ p.page_requests) ⊎ (((act_alone p n o).page_requests ≡ suc p.page_requests) × (outstanding p < 32))
        → outstanding (act_alone p n o) ≤ 32
    go (inl e) = subst (λ k. count_below k now ≤ 32) (sym e) (omega (arith, less, h))
    go (inr x) = subst (λ k. count_below k now ≤ 32) (sym x.0) (omega (arith, less, x.1, count_next p.page_requests now, bit_most (now p.page_requests)))

submitted_limited : (t : Bool) (p : Endpoint) (o : Option ℕ) (q count order cookie : ℕ) → outstanding p ≤ 32
    → outstanding (submitted_if t p o q count order cookie) ≤ 32
submitted_limited true p (Some b) q count order cookie h = h
submitted_limited true p None q count order cookie h = h
submitted_limited false p o q count order cookie h = h

abbrev pub AllLimited : World → Type 0
AllLimited w = (e : ℕ) → outstanding (w.part e) ≤ 32

act_limited : (w : World) (a : Act) → Legal w a → Invariant w → AllLimited w → AllLimited (act w a)
act_limited w NewSpace l i h = h
act_limited w (DropSpace s) l i h = h
act_limited w (Map s q f x) l i h = h
act_limited w (Unmap s q count order) l i h = λ e. submitted_limited (submits w s e) (w.part e) (bound w e s) q count order (cookie_of w s e) (h e)
act_limited w (NewBinding e) l i h = h
act_limited w (NewJob e g) l i h = h
act_limited w (Hold x j) l i h = h
act_limited w (LetGo x) l i h = h
act_limited w (AtEndpoint e o) l i h =
    put_keeps (λ k p. outstanding p ≤ 32) w.part e (act_alone (w.part e) w.messages o)
    (own_limited w.mappings w.bindings w.messages (w.part e) o l.1.0 (i.parts e).bounds (h e)) h

acts_limited : (acts : List Act) (w : World) → LegalAll w acts → Invariant w → AllLimited w → AllLimited (after_acts w acts)
acts_limited [] w l i h = h
acts_limited (a ∷ acts) w l i h = acts_limited acts (act w a) l.1 (act_keeps w a l.0 i) (act_limited w a l.0 i h)

run_limited : (ss : List Step) (w : World) → Invariant w → AllLimited w → AllLimited (run w ss)
run_limited [] w i h = h
run_limited (s ∷ ss) w i h = run_limited ss (next w s) (next_keeps w s i) (acts_limited (decide w s).acts w (step_legal w s i) i h)

opened_limited : (rule : PasidRule) (c : Config) → AllLimited (opened rule c)
unfolding count_below
opened_limited rule c e = omega arith

pub always_outstanding : (rule : PasidRule) (c : Config) (ss : List Step) (e : ℕ) → outstanding ((world_after rule c ss).part e) ≤ 32
always_outstanding rule c ss = run_limited ss (opened rule c) (opened_invariant rule c) (opened_limited rule c)

-- what has arrived is outstanding at an open unit, and at a unit in reset nothing has
pub always_page_queue : (rule : PasidRule) (c : Config) (ss : List Step) (e : ℕ) → page_queue ((world_after rule c ss).part e) ≤ 32
always_page_queue rule c ss e = omega (arith, less, always_outstanding rule c ss e)
  where
    p : Endpoint
    p = (world_after rule c ss).part e

    is : (b : Bool) → is_open p.phase ≡ b → (r : ℕ) → is_arrived (p.page_request r) ≡ true → is_outstanding (p.group (p.group_of r)) ≡ true
    is true o r h = ((always rule c ss).parts e).lasts.out r (open_phase o) (inr (arrived h))
      where
        open_phase : is_open p.phase ≡ true → p.phase ≡ Open
        open_phase o = grind arith

        arrived : is_arrived (p.page_request r) ≡ true → p.page_request r ≡ Arrived
        arrived h = grind arith
    is false o r h = absurd (none (((always rule c ss).parts e).resets.unarrived r o) h)
      where
        none : p.page_request r ≢ Arrived → is_arrived (p.page_request r) ≡ true → ⊥
        none a h = grind arith

    less : page_queue p ≤ outstanding p
    less = count_less p.page_requests (λ r. is_arrived (p.page_request r)) (λ r. is_outstanding (p.group (p.group_of r)))
        (λ r lt h. is (is_open p.phase) refl r h)

-- each that waits is in the list of arrivals once
waiting_placed : (p : Endpoint) → Queued p → length (waiting p) ≤ page_queue p
waiting_placed p qu =
    omega (arith, length_select p.arrivals (is_waiting p), placed)
  where
    placed : count_below p.arrivals (is_waiting p) ≤ page_queue p
    placed = count_placed p.arrivals p.page_requests (is_waiting p) (λ r. is_arrived (p.page_request r)) p.arrival (λ i a t. (qu.arrival i a).1)
        (λ i a t. t) (arrival_once p qu)

pub always_waiting : (rule : PasidRule) (c : Config) (ss : List Step) (e : ℕ) → length (waiting ((world_after rule c ss).part e)) ≤ 32
always_waiting rule c ss e =
    let i = (always rule c ss).parts e in
    omega (arith, waiting_placed ((world_after rule c ss).part e) i.queued, always_page_queue rule c ss e)

-- Free, mapped and withheld frames are all frames.

one_place : (x : Place) → bit (is_free_place x) + bit (is_mapped_at x) + bit (is_withheld_at x) ≡ 1
unfolding bit
one_place Free = refl
one_place Mapped = refl
one_place Withheld = refl

no_places : (at : ℕ → Place) → count_below zero (λ f. is_free_place (at f)) + count_below zero (λ f. is_mapped_at (at f)) + count_below zero
    (λ f. is_withheld_at (at f)) ≡ zero
unfolding count_below
no_places at = refl

places_add_up : (n : ℕ) (at : ℕ → Place) → count_below n (λ f. is_free_place (at f)) + count_below n (λ f. is_mapped_at (at f)) + count_below n
    (λ f. is_withheld_at (at f)) ≡ n
places_add_up zero at = no_places at
places_add_up (suc n) at =
    omega (
      arith,
      places_add_up n at,
      one_place (at n),
      count_next n (λ f. is_free_place (at f)),
      count_next n (λ f. is_mapped_at (at f)),
      count_next n (λ f. is_withheld_at (at f)),
    )

pub adds_up : (w : World) → (counts w).free + (counts w).mapped + (counts w).withheld ≡ w.config.frames
adds_up w = places_add_up w.config.frames (λ f. place w f)
