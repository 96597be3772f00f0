-- The invariant holds after every list of steps.
use Rattle.sva_model.specs.State.{PasidRule}
use Rattle.std.proofs.Common.{◌≡◌, ℕ, refl, subst, arith}
use Rattle.std.specs.Prelude.{List, [], ◌∷◌}
use Rattle.sva_step.specs.declared.limits.Config.{Config}
use Rattle.sva_step.specs.declared.steps.Step.{Step}
use Rattle.sva_step.specs.declared.steps.Step.TheVariants as step
use Rattle.sva_model.specs.State.{World, opened}
use Rattle.sva_model.specs.Acts.{LocalAct}
use Rattle.sva_model.specs.Acts.Act.{AtEndpoint}
use Rattle.sva_model.specs.Refusals.{refusals}
use Rattle.sva_model.specs.Outcomes.{outcome}
use Rattle.sva_model.specs.Steps.{decide, next, run, world_after}
use Rattle.sva_laws.proofs.Invariant.{Invariant}
use Rattle.sva_laws.proofs.Keeps.{Legal}
use Rattle.sva_laws.proofs.Passed.{Passed, LegalAll, acts_keep, checked_legal}
use Rattle.sva_laws.proofs.LegalHost as Host
use Rattle.sva_laws.proofs.LegalUnit as Unit_steps
use Rattle.sva_laws.proofs.LegalReply as Reply_step
use Rattle.sva_laws.proofs.LegalEndpoint as Endpoint_steps
use Rattle.sva_laws.proofs.LegalDeliver as Link

outcome_legal : (w : World) (s : Step) → Invariant w → Passed (refusals w s) → LegalAll w (outcome w s).acts
outcome_legal w step.Space i h = (tt, tt)
outcome_legal w (step.DropSpace n) i h = Host.drop w n i h
outcome_legal w (step.Map n q x) i h = Host.map_page w n q x i h
outcome_legal w (step.Unmap n q count) i h = Host.unmap w n q count h
outcome_legal w (step.UnmapRange n q order) i h = (omega arith, tt)
outcome_legal w (step.Bind e n) i h = Host.bind w e n i h
outcome_legal w (step.Unbind n) i h = Host.unbind w n i h
outcome_legal w (step.Advance n) i h = Host.advance w n i h
outcome_legal w (step.Pump e) i h = Unit_steps.pump w e i h
outcome_legal w (step.Serve e) i h = Unit_steps.serve w e i h
outcome_legal w (step.Reset e) i h = Unit_steps.reset w e i h
outcome_legal w (step.Take x) i h = Unit_steps.take w x i h
outcome_legal w (step.Reply x v) i h = Reply_step.reply w x v i h
outcome_legal w (step.Ask e t q) i h = Endpoint_steps.ask w e t q i h
outcome_legal w (step.BeginUse e t q x) i h = Endpoint_steps.begin w e t q x i h
outcome_legal w (step.EndUse e u) i h = Endpoint_steps.end w e u i h
outcome_legal w (step.Evict e t q) i h = Endpoint_steps.evict w e t q i h
outcome_legal w (step.Fault e t q r x group l) i h = Endpoint_steps.fault w e t q r x group l i h
outcome_legal w (step.Finish e vector count) i h = Endpoint_steps.finish w e vector count i h
outcome_legal w (step.Quit e t) i h = Endpoint_steps.quit w e t i h
outcome_legal w (step.Deliver n) i h = Link.deliver w n i h
outcome_legal w (step.Look f) i h = tt
outcome_legal w (step.Bearer t) i h = tt

pub step_legal : (w : World) (s : Step) → Invariant w → LegalAll w (decide w s).acts
step_legal w s i = checked_legal w (refusals w s) (outcome w s) (outcome_legal w s i)

-- the one act of a step
pub act_legal :
    (w : World) (s : Step) (e : ℕ) (o : LocalAct) → Invariant w → (decide w s).acts ≡ AtEndpoint e o ∷ [] → Legal w (AtEndpoint e o)
act_legal w s e o i x = (subst (LegalAll w) x (step_legal w s i)).0

pub next_keeps : (w : World) (s : Step) → Invariant w → Invariant (next w s)
next_keeps w s i = acts_keep (decide w s).acts w (step_legal w s i) i

pub run_keeps : (ss : List Step) (w : World) → Invariant w → Invariant (run w ss)
run_keeps [] w i = i
run_keeps (s ∷ ss) w i = run_keeps ss (next w s) (next_keeps w s i)

pub opened_invariant : (rule : PasidRule) (c : Config) → Invariant (opened rule c)
opened_invariant rule c =
    record {
      hands = record { made = grind arith; held = grind arith };
      shared = λ r. record { same_space = grind arith; same_pasid = grind arith };
      one_endpoint = λ e b h. absurd (h refl);
      mapped =
          record {
            unmade = λ m h. refl;
            made = grind arith;
            present_at = grind arith;
            at_present = grind arith;
            latest = grind arith;
            named = grind arith;
            low = grind arith;
            passed = grind arith;
            live = grind arith;
            bound_live = grind arith;
          };
      parts =
          λ e.
          record {
            there = grind arith;
            near = grind arith;
            resets = grind arith;
            bounds = grind arith;
            bindings = grind arith;
            labels = grind arith;
            requests = grind arith;
            orders = grind arith;
            owners = grind arith;
            safe = grind arith;
            queued = grind arith;
            lasts = grind arith;
            groups = grind arith;
          };
    }

pub always : (rule : PasidRule) (c : Config) (ss : List Step) → Invariant (world_after rule c ss)
always rule c ss = run_keeps ss (opened rule c) (opened_invariant rule c)
