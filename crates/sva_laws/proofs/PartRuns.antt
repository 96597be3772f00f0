-- What every act keeps of one endpoint with its unit, every list of steps keeps.
use Rattle.std.specs.Prelude.{ℕ, Bool, true, false, Option, Some, None, List, [], ◌∷◌}
use Rattle.sva_step.specs.declared.steps.Step.{Step}
use Rattle.sva_model.specs.State.{Endpoint, World}
use Rattle.sva_model.specs.Unmappings.{submitted, submitted_if, submits, bound, cookie_of}
use Rattle.sva_model.specs.Acts.{Act, LocalAct, act, act_alone}
use Rattle.sva_model.specs.Acts.Act.{NewSpace, DropSpace, Map, Unmap, NewBinding, NewJob, Hold, LetGo, AtEndpoint}
use Rattle.sva_model.specs.Steps.{decide, next, run, after_acts}
use Rattle.sva_laws.proofs.Legal.{LegalLocalAct}
use Rattle.sva_laws.proofs.Invariant.{Invariant, PartInvariant}
use Rattle.sva_laws.proofs.Keeps.{Legal, act_keeps, put_keeps}
use Rattle.sva_laws.proofs.Passed.{LegalAll}
use Rattle.sva_laws.proofs.Fronts.{Fronts, AllFronts, act_fronts, acts_fronts}
use Rattle.sva_laws.proofs.Runs.{step_legal, next_keeps}

-- the acts of the endpoint keep it, and what an unmapping submits does
pub record IsKeptByParts (P : Endpoint → Type 0) : Type 0 where
  pub kept : (w : World) (e : ℕ) (o : LocalAct) → LegalLocalAct w.mappings w.bindings (w.part e) o
      → PartInvariant w.mappings w.config.endpoints w.bindings w.messages e (w.part e) → Fronts w.cookies (w.part e) → P (w.part e)
      → P (act_alone (w.part e) w.messages o)
  pub more : (p : Endpoint) (b q count order cookie : ℕ) → P p → P (submitted p b q count order cookie)

more_if : (P : Endpoint → Type 0) → IsKeptByParts P → (t : Bool) (p : Endpoint) (o : Option ℕ) (q count order cookie : ℕ) → P p
    → P (submitted_if t p o q count order cookie)
more_if P k true p (Some b) q count order cookie h = k.more p b q count order cookie h
more_if P k true p None q count order cookie h = h
more_if P k false p o q count order cookie h = h

act_part : (P : Endpoint → Type 0) → IsKeptByParts P → (w : World) (a : Act) → Legal w a → Invariant w → AllFronts w → (e : ℕ) → P (w.part e)
    → P ((act w a).part e)
act_part P k w NewSpace l i f e h = h
act_part P k w (DropSpace s) l i f e h = h
act_part P k w (Map s q x y) l i f e h = h
act_part P k w (Unmap s q count order) l i f e h = more_if P k (submits w s e) (w.part e) (bound w e s) q count order (cookie_of w s e) h
act_part P k w (NewBinding d) l i f e h = h
act_part P k w (NewJob d g) l i f e h = h
act_part P k w (Hold x j) l i f e h = h
act_part P k w (LetGo x) l i f e h = h
act_part P k w (AtEndpoint d o) l i f e h =
    put_keeps (λ x q. P (w.part x) → P q) w.part d (act_alone (w.part d) w.messages o) (k.kept w d o l.1.0 (i.parts d) (f d)) (λ x z. z) e h

acts_part : (P : Endpoint → Type 0) → IsKeptByParts P → (acts : List Act) (w : World) → LegalAll w acts → Invariant w → AllFronts w → (e : ℕ)
    → P (w.part e) → P ((after_acts w acts).part e)
acts_part P k [] w l i f e h = h
acts_part P k (a ∷ acts) w l i f e h =
    acts_part P k acts (act w a) l.1 (act_keeps w a l.0 i) (act_fronts w a l.0 i f) e (act_part P k w a l.0 i f e h)

pub run_part : (P : Endpoint → Type 0) → IsKeptByParts P → (ss : List Step) (w : World) → Invariant w → AllFronts w → (e : ℕ) → P (w.part e)
    → P ((run w ss).part e)
run_part P k [] w i f e h = h
run_part P k (s ∷ ss) w i f e h =
    run_part P k ss (next w s) (next_keeps w s i) (acts_fronts (decide w s).acts w (step_legal w s i) i f) e
    (acts_part P k (decide w s).acts w (step_legal w s i) i f e h)
