-- A group of page requests that awaits its response, or is stale, is in one place on the way to its response: its last
-- request is in flight or arrived, or the host has it whole, or the response is in flight.
use Rattle.sva_model.specs.State.{PasidRule}
use Rattle.std.proofs.Common.{◌≡◌, ◌⊎◌, inl, inr, ap, ◌∙◌, ℕ, ◌<◌, ◌≤◌, Bool, true, false, arith}
use Rattle.std.specs.Prelude.{Option, Some, None, List, [], ◌∷◌}
use Rattle.std.proofs.lemmas.Bool.Decides.{nat_tests}
use Rattle.sva_step.specs.declared.limits.Config.{Config}
use Rattle.sva_step.specs.declared.steps.Step.{Step}
use Rattle.sva_model.specs.State.{HostGroupState, Mappings, Endpoint, World, opened}
use Rattle.sva_model.specs.State.PageRequestState.{Arrived, Filed, Dropped}
use Rattle.sva_model.specs.State.HostGroupState.{NotFiled, InHand, Discarded, InHandDiscarded}
use Rattle.sva_model.specs.State.GroupState.{Closed}
use Rattle.sva_model.specs.State.Subject.{ResetDone}
use Rattle.sva_model.specs.State.Phase.{Open}
use Rattle.sva_model.specs.States.{is_outstanding, is_open_group, is_before_invalidating}
use Rattle.sva_model.specs.Unmappings.{submitted_if, submits, bound, cookie_of}
use Rattle.sva_model.specs.Acts.{Act, LocalAct, act, act_alone}
use Rattle.sva_model.specs.Acts.Act.{NewSpace, DropSpace, Map, Unmap, NewBinding, NewJob, Hold, LetGo, AtEndpoint}
use Rattle.sva_model.specs.Steps.{decide, next, run, after_acts, world_after}
use Rattle.sva_laws.specs.UnderWay.{is_answerable}
use Rattle.sva_laws.proofs.Legal.{LegalLocalAct}
use Rattle.sva_laws.proofs.PageRequests.{is_whole}
use Rattle.sva_laws.proofs.Invariant.{PartInvariant, Invariant}
use Rattle.sva_laws.proofs.Keeps.{Legal, act_keeps, put_keeps}
use Rattle.sva_laws.proofs.Passed.{LegalAll}
use Rattle.sva_laws.proofs.Runs.{step_legal, next_keeps, opened_invariant}

pub record OnTheWay (p : Endpoint) : Type 0 where
  pub last : (g : ℕ) → is_answerable (p.group g) ≡ true → (r : ℕ) × (r < p.page_requests) × (p.group_of r ≡ g) × (p.is_last r ≡ true)
  pub filed_last : (r : ℕ) → p.phase ≡ Open → r < p.page_requests → p.is_last r ≡ true → p.page_request r ≡ Filed
      → is_outstanding (p.group (p.group_of r)) ≡ true → is_whole (p.host_group (p.group_of r)) ≡ true
  pub discarded : (g : ℕ) → p.phase ≡ Open → p.host_group g ≡ Discarded → is_outstanding (p.group g) ≡ false

-- what an act says of a request that was made before
old_last : (ms : Mappings) (g n : ℕ) (p : Endpoint) (o : LocalAct) (r : ℕ) → r < p.page_requests → (r < (act_alone p n o).page_requests)
    × ((act_alone p n o).group_of r ≡ p.group_of r) × ((act_alone p n o).is_last r ≡ p.is_last r)
old_last ms g n p o r lt = grind (arith, nat_tests)

-- a group that awaits its response did so before, or its last request is the one that the act makes
new_last : (ms : Mappings) (g n : ℕ) (p : Endpoint) (o : LocalAct) → LegalLocalAct ms g p o → (x : ℕ) → is_answerable ((act_alone p n o).group x) ≡ true
    → (is_answerable (p.group x) ≡ true)
    ⊎ ((p.page_requests < (act_alone p n o).page_requests)
    × ((act_alone p n o).group_of p.page_requests ≡ x)
    × ((act_alone p n o).is_last p.page_requests ≡ true))
new_last ms g n p o l x h = grind (arith, nat_tests)

filed_last_kept : (ms : Mappings) (g n : ℕ) (p : Endpoint) (o : LocalAct) → LegalLocalAct ms g p o → (r : ℕ)
    → ((x : ℕ) → p.page_request x ≡ Arrived → is_whole (p.host_group (p.group_of x)) ≡ false)
    → ((w : ℕ) → p.phase ≡ Open → p.host_group (p.group_of r) ≡ InHand w → is_before_invalidating (p.stage (p.filed_under (p.group_of r))) ≡ true)
    → (p.page_requests ≤ r → p.page_request r ≡ Dropped) → ((c : ℕ) → p.message c ≡ Some ResetDone → p.group (p.group_of r) ≡ Closed)
    → (r < p.page_requests → p.group_of r < p.groups)
    → (p.phase ≡ Open → r < p.page_requests → p.is_last r ≡ true → p.page_request r ≡ Filed → is_outstanding (p.group (p.group_of r)) ≡ true
    → is_whole (p.host_group (p.group_of r)) ≡ true) → (act_alone p n o).phase ≡ Open → r < (act_alone p n o).page_requests → (act_alone p n o).is_last r ≡ true
    → (act_alone p n o).page_request r ≡ Filed → is_outstanding ((act_alone p n o).group ((act_alone p n o).group_of r)) ≡ true
    → is_whole ((act_alone p n o).host_group ((act_alone p n o).group_of r)) ≡ true
filed_last_kept ms g n p o l r part in_hand un re made old ph lt la fi out = grind (arith, nat_tests)

discarded_kept : (ms : Mappings) (g n : ℕ) (p : Endpoint) (o : LocalAct) → LegalLocalAct ms g p o → (x : ℕ) → (p.groups ≤ x → p.host_group x ≡ NotFiled)
    → ((c : ℕ) → p.message c ≡ Some ResetDone → p.group x ≡ Closed)
    → ((w : ℕ) → p.phase ≡ Open → p.host_group x ≡ InHandDiscarded w → is_outstanding (p.group x) ≡ false)
    → ((w : ℕ) → p.phase ≡ Open → p.host_group x ≡ InHand w → is_before_invalidating (p.stage (p.filed_under x)) ≡ true)
    → (p.phase ≡ Open → p.host_group x ≡ Discarded → is_outstanding (p.group x) ≡ false) → (act_alone p n o).phase ≡ Open → (act_alone p n o).host_group x
    ≡ Discarded → is_outstanding ((act_alone p n o).group x) ≡ false
discarded_kept ms g n p o l x made re hand opened_hand old ph h = grind (arith, nat_tests)

arrived_part : (p : Endpoint) → ((r : ℕ) → is_whole (p.host_group (p.group_of r)) ≡ true → r < p.page_requests → p.page_request r ≡ Filed)
    → ((r : ℕ) → p.page_requests ≤ r → p.page_request r ≡ Dropped) → (x : ℕ) → p.page_request x ≡ Arrived → is_whole (p.host_group (p.group_of x)) ≡ false
arrived_part p whole made x h = grind (arith, nat_tests, whole x, made x)

last_kept : (ms : Mappings) (g n : ℕ) (p : Endpoint) (o : LocalAct) → LegalLocalAct ms g p o → OnTheWay p → (x : ℕ)
    → is_answerable ((act_alone p n o).group x) ≡ true
    → (r : ℕ) × (r < (act_alone p n o).page_requests) × ((act_alone p n o).group_of r ≡ x) × ((act_alone p n o).is_last r ≡ true)
last_kept ms g n p o l w x h = go (new_last ms g n p o l x h)
  where
    go : (is_answerable (p.group x) ≡ true)
        ⊎ ((p.page_requests < (act_alone p n o).page_requests)
        × ((act_alone p n o).group_of p.page_requests ≡ x)
        × ((act_alone p n o).is_last p.page_requests ≡ true))
        → (r : ℕ) × (r < (act_alone p n o).page_requests) × ((act_alone p n o).group_of r ≡ x) × ((act_alone p n o).is_last r ≡ true)
    go (inl a) = let y = w.last x a in let z = old_last ms g n p o y.0 y.1 in (y.0, z.0, z.1 ∙ y.2, z.2 ∙ y.3)
    go (inr y) = (p.page_requests, y.0, y.1, y.2)

pub every : (ms : Mappings) (x g n e : ℕ) (p : Endpoint) (o : LocalAct) → LegalLocalAct ms g p o → PartInvariant ms x g n e p → OnTheWay p
    → OnTheWay (act_alone p n o)
every ms x g n e p o l i w =
    let re = i.resets in
    let bo = i.bounds in
    let gr = i.groups in
    record {
      last = λ y h. last_kept ms g n p o l w y h;
      filed_last = λ r ph lt la fi out. filed_last_kept ms g n p o l r (arrived_part p i.lasts.whole bo.page_request)
          (λ v q h. (gr.open_group (p.group_of r) q (in_hand_open v h)).1) (bo.page_request r) (λ c m. re.finished c (p.group_of r) (re.up c m))
          (bo.group_of r) (w.filed_last r) ph lt la fi out;
      discarded = λ y ph h. discarded_kept ms g n p o l y (bo.host_group y) (λ c m. re.finished c y (re.up c m)) (λ v. gr.discarded_over y v)
          (λ v q k. (gr.open_group y q (in_hand_open v k)).1) (w.discarded y) ph h;
    }
  where
    in_hand_open : {s : HostGroupState} (v : ℕ) → s ≡ InHand v → is_open_group s ≡ true
    in_hand_open v h = ap is_open_group h

submitted_on : (t : Bool) (p : Endpoint) (o : Option ℕ) (q count order cookie : ℕ) → OnTheWay p → OnTheWay (submitted_if t p o q count order cookie)
submitted_on true p (Some b) q count order cookie w = record { last = w.last; filed_last = w.filed_last; discarded = w.discarded }
submitted_on true p None q count order cookie w = w
submitted_on false p o q count order cookie w = w

abbrev pub AllOn : World → Type 0
AllOn w = (e : ℕ) → OnTheWay (w.part e)

act_on : (w : World) (a : Act) → Legal w a → Invariant w → AllOn w → AllOn (act w a)
act_on w NewSpace l i h = h
act_on w (DropSpace s) l i h = h
act_on w (Map s q f x) l i h = h
act_on w (Unmap s q count order) l i h = λ e. submitted_on (submits w s e) (w.part e) (bound w e s) q count order (cookie_of w s e) (h e)
act_on w (NewBinding e) l i h = h
act_on w (NewJob e g) l i h = h
act_on w (Hold x j) l i h = h
act_on w (LetGo x) l i h = h
act_on w (AtEndpoint e o) l i h =
    put_keeps (λ k p. OnTheWay p) w.part e (act_alone (w.part e) w.messages o)
    (every w.mappings w.config.endpoints w.bindings w.messages e (w.part e) o l.1.0 (i.parts e) (h e)) h

pub acts_on : (acts : List Act) (w : World) → LegalAll w acts → Invariant w → AllOn w → AllOn (after_acts w acts)
acts_on [] w l i h = h
acts_on (a ∷ acts) w l i h = acts_on acts (act w a) l.1 (act_keeps w a l.0 i) (act_on w a l.0 i h)

run_on : (ss : List Step) (w : World) → Invariant w → AllOn w → AllOn (run w ss)
run_on [] w i h = h
run_on (s ∷ ss) w i h = run_on ss (next w s) (next_keeps w s i) (acts_on (decide w s).acts w (step_legal w s i) i h)

pub opened_on : (rule : PasidRule) (c : Config) → AllOn (opened rule c)
opened_on rule c e = record { last = grind arith; filed_last = grind arith; discarded = grind arith }

pub always_on_the_way : (rule : PasidRule) (c : Config) (ss : List Step) (e : ℕ) → OnTheWay ((world_after rule c ss).part e)
always_on_the_way rule c ss = run_on ss (opened rule c) (opened_invariant rule c) (opened_on rule c)
