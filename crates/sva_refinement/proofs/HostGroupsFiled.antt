-- What the host has filed: each entry of its filings is of a page request that is filed, and of each group of which something
-- is filed there is an entry.
use Rattle.std.proofs.Common.{◌≡◌, ◌⊎◌, inl, inr, ap, ◌∙◌, ℕ, ◌<◌, ◌≤◌, Bool, true, false, arith}
use Rattle.std.specs.Prelude.{Option, Some, None, List, [], ◌∷◌}
use Rattle.std.proofs.lemmas.Bool.Decides.{nat_tests}
use Rattle.sva_step.specs.declared.limits.Config.{Config}
use Rattle.sva_step.specs.declared.steps.Step.{Step}
use Rattle.sva_model.specs.State.{PasidRule, Mappings, Endpoint, World, opened}
use Rattle.sva_model.specs.State.PageRequestState.{Filed}
use Rattle.sva_model.specs.Unmappings.{submitted_if, submits, bound, cookie_of}
use Rattle.sva_model.specs.Acts.{Act, LocalAct, act, act_alone}
use Rattle.sva_model.specs.Acts.Act.{NewSpace, DropSpace, Map, Unmap, NewBinding, NewJob, Hold, LetGo, AtEndpoint}
use Rattle.sva_model.specs.Steps.{decide, next, run, after_acts, world_after}
use Rattle.sva_laws.proofs.Legal.{LegalLocalAct}
use Rattle.sva_laws.proofs.Bounds.{Bounds}
use Rattle.sva_laws.proofs.Groups.{is_filed_group}
use Rattle.sva_laws.proofs.Invariant.{PartInvariant, Invariant}
use Rattle.sva_laws.proofs.Keeps.{Legal, act_keeps, put_keeps}
use Rattle.sva_laws.proofs.Passed.{LegalAll}
use Rattle.sva_laws.proofs.Runs.{step_legal, next_keeps, opened_invariant}
use Rattle.sva_laws.proofs.Filed.{filed_kept, filed_made as request_made}

pub record Filings (p : Endpoint) : Type 0 where
  pub filed : (k : ℕ) → k < p.filings → p.page_request (p.filing k) ≡ Filed
  pub begun : (g : ℕ) → is_filed_group (p.host_group g) ≡ true → (k : ℕ) × (k < p.filings) × (p.group_of (p.filing k) ≡ g)

-- what is filed is made
pub filed_made : (g : ℕ) (p : Endpoint) → Bounds g p → Filings p → (k : ℕ) → k < p.filings → p.filing k < p.page_requests
filed_made g p bo fi k l = request_made g p bo (p.filing k) (fi.filed k l)

pub filing_same : (p : Endpoint) (n : ℕ) (o : LocalAct) (k : ℕ) → k < p.filings → (act_alone p n o).filing k ≡ p.filing k
filing_same p n o k l = grind (arith, nat_tests)

pub group_of_same : (p : Endpoint) (n : ℕ) (o : LocalAct) (r : ℕ) → r < p.page_requests → (act_alone p n o).group_of r ≡ p.group_of r
group_of_same p n o r l = grind (arith, nat_tests)

more_filings : (p : Endpoint) (n : ℕ) (o : LocalAct) → p.filings ≤ (act_alone p n o).filings
more_filings p n o = grind (arith, nat_tests)

begun_from :
    (ms : Mappings) (g n : ℕ) (p : Endpoint) (o : LocalAct) → LegalLocalAct ms g p o → (x : ℕ) → is_filed_group ((act_alone p n o).host_group x) ≡ true
    → (is_filed_group (p.host_group x) ≡ true)
    ⊎ ((p.filings < (act_alone p n o).filings) × ((act_alone p n o).group_of ((act_alone p n o).filing p.filings) ≡ x))
begun_from ms g n p o l x h = grind (arith, nat_tests)

pub every : (ms : Mappings) (x g n e : ℕ) (p : Endpoint) (o : LocalAct) → LegalLocalAct ms g p o → PartInvariant ms x g n e p → Filings p
    → Filings (act_alone p n o)
every ms x g n e p o l i fi =
    record {
      filed = λ k h. filed_kept ms g n p o l i.queued (i.bounds.page_request p.page_requests) k (fi.filed k) h;
      begun = λ y h. go y (begun_from ms g n p o l y h);
    }
  where
    go :
        (y : ℕ)
        → (is_filed_group (p.host_group y) ≡ true)
        ⊎ ((p.filings < (act_alone p n o).filings) × ((act_alone p n o).group_of ((act_alone p n o).filing p.filings) ≡ y))
        → (k : ℕ) × (k < (act_alone p n o).filings) × ((act_alone p n o).group_of ((act_alone p n o).filing k) ≡ y)
    go y (inl h) =
        let (k, l, e) = fi.begun y h in
        let more = more_filings p n o in (
          k,
          omega (arith, l, more),
          ap (act_alone p n o).group_of (filing_same p n o k l) ∙ group_of_same p n o (p.filing k) (filed_made g p i.bounds fi k l) ∙ e,
        )
    go y (inr h) = (p.filings, h.0, h.1)

submitted_filings : (t : Bool) (p : Endpoint) (o : Option ℕ) (q count order cookie : ℕ) → Filings p → Filings (submitted_if t p o q count order cookie)
submitted_filings true p (Some b) q count order cookie fi = record { filed = fi.filed; begun = fi.begun }
submitted_filings true p None q count order cookie fi = fi
submitted_filings false p o q count order cookie fi = fi

abbrev pub AllFilings : World → Type 0
AllFilings w = (e : ℕ) → Filings (w.part e)

pub act_filings : (w : World) (a : Act) → Legal w a → Invariant w → AllFilings w → AllFilings (act w a)
act_filings w NewSpace l i h = h
act_filings w (DropSpace s) l i h = h
act_filings w (Map s q f x) l i h = h
act_filings w (Unmap s q count order) l i h = λ e. submitted_filings (submits w s e) (w.part e) (bound w e s) q count order (cookie_of w s e) (h e)
act_filings w (NewBinding e) l i h = h
act_filings w (NewJob e g) l i h = h
act_filings w (Hold x j) l i h = h
act_filings w (LetGo x) l i h = h
act_filings w (AtEndpoint e o) l i h =
    put_keeps (λ k p. Filings p) w.part e (act_alone (w.part e) w.messages o)
    (every w.mappings w.config.endpoints w.bindings w.messages e (w.part e) o l.1.0 (i.parts e) (h e)) h

pub acts_filings : (acts : List Act) (w : World) → LegalAll w acts → Invariant w → AllFilings w → AllFilings (after_acts w acts)
acts_filings [] w l i h = h
acts_filings (a ∷ acts) w l i h = acts_filings acts (act w a) l.1 (act_keeps w a l.0 i) (act_filings w a l.0 i h)

run_filings : (ss : List Step) (w : World) → Invariant w → AllFilings w → AllFilings (run w ss)
run_filings [] w i h = h
run_filings (s ∷ ss) w i h = run_filings ss (next w s) (next_keeps w s i) (acts_filings (decide w s).acts w (step_legal w s i) i h)

pub opened_filings : (rule : PasidRule) (c : Config) → AllFilings (opened rule c)
opened_filings rule c e = record { filed = grind arith; begun = grind arith }

pub always_filings : (rule : PasidRule) (c : Config) (ss : List Step) (e : ℕ) → Filings ((world_after rule c ss).part e)
always_filings rule c ss = run_filings ss (opened rule c) (opened_invariant rule c) (opened_filings rule c)
