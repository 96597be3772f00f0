-- A group that is open at the host has no more than 32 page requests filed: each is outstanding, and filed once.
use Rattle.std.proofs.Common.{◌≡◌, refl, ap, sym, ◌∙◌, ℕ, ◌<◌, ◌≤◌, Bool, true, false, arith}
use Rattle.std.specs.Prelude.{Option, Some, None, ◌==◌, List, [], ◌∷◌, length, map}
use Rattle.std.proofs.lemmas.Bool.Decides.{nat_tests}
use Rattle.sva_step.specs.declared.limits.Config.{Config}
use Rattle.sva_step.specs.declared.steps.Step.{Step}
use Rattle.sva_model.specs.Words.{count_below, select}
use Rattle.sva_model.specs.State.{PasidRule, Mappings, Endpoint, World, opened}
use Rattle.sva_model.specs.State.PageRequestState.{Filed, Dropped}
use Rattle.sva_model.specs.State.Phase.{Open}
use Rattle.sva_model.specs.States.{is_open, is_open_group, is_outstanding}
use Rattle.sva_model.specs.Unmappings.{submitted_if, submits, bound, cookie_of}
use Rattle.sva_model.specs.Acts.{Act, LocalAct, act, act_alone}
use Rattle.sva_model.specs.Acts.Act.{NewSpace, DropSpace, Map, Unmap, NewBinding, NewJob, Hold, LetGo, AtEndpoint}
use Rattle.sva_model.specs.Labels.{asks, outstanding}
use Rattle.sva_model.specs.Steps.{decide, next, run, after_acts, world_after}
use Rattle.sva_labels.proofs.Counting.{length_select, count_placed}
use Rattle.sva_laws.proofs.Legal.{LegalLocalAct}
use Rattle.sva_laws.proofs.PageRequests.{Queued}
use Rattle.sva_laws.proofs.Invariant.{PartInvariant, Invariant}
use Rattle.sva_laws.proofs.Keeps.{Legal, act_keeps, put_keeps}
use Rattle.sva_laws.proofs.Passed.{LegalAll}
use Rattle.sva_laws.proofs.Limits.{always_outstanding}
use Rattle.sva_laws.proofs.Runs.{always, step_legal, next_keeps, opened_invariant}
use Rattle.sva_laws.proofs.Bounds.{Bounds}

pub record FiledOnce (p : Endpoint) : Type 0 where
  pub filed : (k : ℕ) → k < p.filings → p.page_request (p.filing k) ≡ Filed
  pub once : (j k : ℕ) → j < p.filings → k < p.filings → p.filing j ≡ p.filing k → j ≡ k

-- what is filed is made
pub filed_made : (g : ℕ) (p : Endpoint) → Bounds g p → (r : ℕ) → p.page_request r ≡ Filed → r < p.page_requests
filed_made g p bo r h = grind (arith, bo.page_request r)

pub filed_kept : (ms : Mappings) (g n : ℕ) (p : Endpoint) (o : LocalAct) → LegalLocalAct ms g p o → Queued p
    → (p.page_requests ≤ p.page_requests → p.page_request p.page_requests ≡ Dropped) → (k : ℕ)
    → (k < p.filings → p.page_request (p.filing k) ≡ Filed) → k < (act_alone p n o).filings
    → (act_alone p n o).page_request ((act_alone p n o).filing k) ≡ Filed
filed_kept ms g n p o l qu un k old h = grind (arith, nat_tests, qu.in_flight)

once_kept : (ms : Mappings) (g n : ℕ) (p : Endpoint) (o : LocalAct) → LegalLocalAct ms g p o → (j k : ℕ) → (j < p.filings → p.page_request (p.filing j) ≡ Filed)
    → (k < p.filings → p.page_request (p.filing k) ≡ Filed) → (j < p.filings → k < p.filings → p.filing j ≡ p.filing k → j ≡ k) → j
    < (act_alone p n o).filings → k < (act_alone p n o).filings → (act_alone p n o).filing j ≡ (act_alone p n o).filing k → j ≡ k
once_kept ms g n p o l j k fj fk old h i e = grind (arith, nat_tests)

own_filed : (ms : Mappings) (x g n e : ℕ) (p : Endpoint) (o : LocalAct) → LegalLocalAct ms g p o → PartInvariant ms x g n e p → FiledOnce p
    → FiledOnce (act_alone p n o)
own_filed ms x g n e p o l i fi =
    record {
      filed = λ k h. filed_kept ms g n p o l i.queued (i.bounds.page_request p.page_requests) k (fi.filed k) h;
      once = λ j k h m s. once_kept ms g n p o l j k (fi.filed j) (fi.filed k) (fi.once j k) h m s;
    }

submitted_filed : (t : Bool) (p : Endpoint) (o : Option ℕ) (q count order cookie : ℕ) → FiledOnce p → FiledOnce (submitted_if t p o q count order cookie)
submitted_filed true p (Some b) q count order cookie fi = record { filed = fi.filed; once = fi.once }
submitted_filed true p None q count order cookie fi = fi
submitted_filed false p o q count order cookie fi = fi

abbrev pub AllFiled : World → Type 0
AllFiled w = (e : ℕ) → FiledOnce (w.part e)

act_filed : (w : World) (a : Act) → Legal w a → Invariant w → AllFiled w → AllFiled (act w a)
act_filed w NewSpace l i h = h
act_filed w (DropSpace s) l i h = h
act_filed w (Map s q f x) l i h = h
act_filed w (Unmap s q count order) l i h = λ e. submitted_filed (submits w s e) (w.part e) (bound w e s) q count order (cookie_of w s e) (h e)
act_filed w (NewBinding e) l i h = h
act_filed w (NewJob e g) l i h = h
act_filed w (Hold x j) l i h = h
act_filed w (LetGo x) l i h = h
act_filed w (AtEndpoint e o) l i h =
    put_keeps (λ k p. FiledOnce p) w.part e (act_alone (w.part e) w.messages o)
    (own_filed w.mappings w.config.endpoints w.bindings w.messages e (w.part e) o l.1.0 (i.parts e) (h e)) h

acts_filed : (acts : List Act) (w : World) → LegalAll w acts → Invariant w → AllFiled w → AllFiled (after_acts w acts)
acts_filed [] w l i h = h
acts_filed (a ∷ acts) w l i h = acts_filed acts (act w a) l.1 (act_keeps w a l.0 i) (act_filed w a l.0 i h)

run_filed : (ss : List Step) (w : World) → Invariant w → AllFiled w → AllFiled (run w ss)
run_filed [] w i h = h
run_filed (s ∷ ss) w i h = run_filed ss (next w s) (next_keeps w s i) (acts_filed (decide w s).acts w (step_legal w s i) i h)

pub always_filed : (rule : PasidRule) (c : Config) (ss : List Step) → AllFiled (world_after rule c ss)
always_filed rule c ss =
    run_filed ss (opened rule c) (opened_invariant rule c) (λ e. record {
      filed = λ k h. absurd (omega (arith, h));
      once =
          λ j k h i e. absurd (omega (arith, h));
    })

length_mapped : (f : ℕ → ℕ) (xs : List ℕ) → length (map f xs) ≡ length xs
length_mapped f [] = refl
length_mapped f (x ∷ xs) = let r = length_mapped f xs in omega (arith, r)

few : (ms : Mappings) (x g n e : ℕ) (p : Endpoint) (y : ℕ) → PartInvariant ms x g n e p → FiledOnce p → outstanding p ≤ 32
    → is_open_group (p.host_group y) ≡ true → length (asks p y) ≤ 32
few ms x g n e p y i fi h op = omega (arith, length_mapped p.filing (select p.filings is_of), length_select p.filings is_of, placed, h)
  where
    is_of : ℕ → Bool
    is_of k = p.group_of (p.filing k) == y

    open_phase : (b : Bool) → is_open p.phase ≡ b → p.phase ≡ Open
    open_phase true k = grind arith
    open_phase false k = absurd (cc (sym op ∙ i.resets.unfiled y k))

    same : (k : ℕ) → is_of k ≡ true → p.group_of (p.filing k) ≡ y
    same k t = grind (arith, nat_tests)

    placed : count_below p.filings is_of ≤ outstanding p
    placed =
        count_placed p.filings p.page_requests is_of (λ r. is_outstanding (p.group (p.group_of r))) p.filing
        (λ k l t. filed_made g p i.bounds (p.filing k) (fi.filed k l))
        (λ k l t. ap (λ z. is_outstanding (p.group z)) (same k t) ∙ (i.groups.open_group y (open_phase (is_open p.phase) refl) op).0)
        fi.once

pub always_few : (rule : PasidRule) (config : Config) (steps : List Step) (e y : ℕ)
    → is_open_group (((world_after rule config steps).part e).host_group y) ≡ true → length (asks ((world_after rule config steps).part e) y) ≤ 32
always_few rule config steps e y h =
    let w = world_after rule config steps in
    few w.mappings w.config.endpoints w.bindings w.messages e (w.part e) y ((always rule config steps).parts e) (always_filed rule config steps e)
    (always_outstanding rule config steps e) h
