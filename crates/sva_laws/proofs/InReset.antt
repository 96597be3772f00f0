-- What a reset clears, by the family that every act keeps; and what disables page requests until then.
use Rattle.std.proofs.Common.{◌≡◌, ◌≢◌, refl, ap, sym, subst, ◌∙◌, ℕ, Bool, true, false, arith}
use Rattle.std.specs.Prelude.{◌||◌, List, [], ◌∷◌, ◌++◌, Ok}
use Rattle.sva_step.specs.declared.answers.Answer.{Answer}
use Rattle.sva_step.specs.declared.limits.Config.{Config}
use Rattle.sva_step.specs.declared.steps.Step.{Step}
use Rattle.sva_model.specs.State.{PasidRule, RequestState, Phase, Endpoint, World}
use Rattle.sva_model.specs.State.RequestState.{Out, Doomed, Over}
use Rattle.sva_model.specs.State.Subject.{FunctionReset}
use Rattle.sva_model.specs.State.Phase.{Open, ResetSent, Cleared}
use Rattle.sva_model.specs.States.{is_open, is_out}
use Rattle.sva_model.specs.Unmappings.{submits, bound, cookie_of}
use Rattle.sva_model.specs.StateChanges.{disables}
use Rattle.sva_model.specs.Acts.{LocalAct, act_alone}
use Rattle.sva_model.specs.Labels
use Rattle.sva_model.specs.Steps.{reply, decide, next, after_acts, world_after}
use Rattle.sva_laws.specs.UnitSteps.{Delivers}
use Rattle.sva_laws.specs.Untouched.{StaysDisabled}
use Rattle.sva_laws.specs.InReset.{IsInReset}
use Rattle.sva_laws.proofs.Legal.{LegalLocalAct}
use Rattle.sva_laws.proofs.Resets.{closed_is}
use Rattle.sva_laws.proofs.Invariant.{Invariant}
use Rattle.sva_laws.proofs.Keeps.{put_keeps}
use Rattle.sva_laws.proofs.Runs.{always, act_legal}
use Rattle.sva_laws.proofs.StepKinds.{IsBy, Kind, step_kind}
use Rattle.sva_laws.proofs.StepKinds.Kind.{calm, single, unmapping}
use Rattle.sva_laws.proofs.UnitSteps.{delivered, delivers, part_after}
use Rattle.sva_laws.proofs.Untouched.{later_part, calm_acts, same_submitted}

shut : (x : Phase) → x ≢ Open → is_open x ≡ false
shut Open h = absurd (h refl)
shut (ResetSent c) h = refl
shut (Cleared c) h = refl

over_is : (x : RequestState) → is_out x ≡ false → x ≡ Over
over_is Over h = refl
over_is Out h = absurd (cc)
over_is Doomed h = absurd (cc)

pub always_in_reset : (rule : PasidRule) (config : Config) (steps : List Step) (e : ℕ) → IsInReset ((world_after rule config steps).part e)
always_in_reset rule config steps e =
    let p = (world_after rule config steps).part e in
    let re = ((always rule config steps).parts e).resets in
    record {
      down = λ c. (re.down c, re.ordered c);
      up = λ c. (re.up c, re.cleared c);
      newest = λ c d a h m. re.older c d a h m;
      off = re.off;
      emptied = re.empty;
      over = λ c r h. over_is (p.request r) (re.over c r h);
      ended = re.dead;
      closed = re.finished;
      untaken = re.untaken;
      enabled = re.enabled;
      unqueued = λ k h. re.unqueued k (shut p.phase h);
      unarrived = λ r h. re.unarrived r (shut p.phase h);
      unfiled = λ g h. re.unfiled g (shut p.phase h);
      lapsed = λ k h. closed_is p (re.lapsed k h);
    }

-- An interface that is disabled.

abbrev resets_itself : LocalAct → Bool
resets_itself (LocalAct.Reset_arrives c) = true
resets_itself _ = false

other_stays : (p : Endpoint) (n : ℕ) (o : LocalAct) → resets_itself o ≡ false → p.is_disabled ≡ true → (act_alone p n o).is_disabled ≡ true
other_stays p n (LocalAct.Answered c g code) h d = ap (λ b. b || disables code) d
other_stays p n o h d = grind arith

abbrev Stays : World → Step → ℕ → Endpoint → Type 0
Stays w s e q = (w.part e).is_disabled ≡ true → (Delivers w s e FunctionReset → ⊥) → q.is_disabled ≡ true

own_stays : (w : World) (s : Step) (e : ℕ) (o : LocalAct) (a : Answer) (b : Bool) → resets_itself o ≡ b → reply w s ≡ Ok a → IsBy w s e o a
    → LegalLocalAct w.mappings w.bindings (w.part e) o → Stays w s e (act_alone (w.part e) w.messages o)
own_stays w s e o a false z h by l d none = other_stays (w.part e) w.messages o z d
own_stays w s e (LocalAct.Reset_arrives c) a true z h by l d none = absurd (none (delivers w s e c a FunctionReset h by l.0))
own_stays w s e o a true z h by l d none = absurd (grind arith)

step_stays : (w : World) (s : Step) (e : ℕ) → Invariant w → Stays w s e ((next w s).part e)
step_stays w s e i = go (step_kind w s)
  where
    go : Kind w s (decide w s) → Stays w s e ((next w s).part e)
    go (calm h) = λ d none. calm_acts (decide w s).acts w h e ∙ d
    go (single d o a x h by) =
        subst (λ z. Stays w s e ((after_acts w z).part e)) (sym x)
        (put_keeps (λ k q. Stays w s k q) w.part d (act_alone (w.part d) w.messages o)
        (own_stays w s d o a (resets_itself o) refl h by (act_legal w s d o i x).1.0) (λ k y none. y) e)
    go (unmapping t q count order x) =
        subst (λ z. Stays w s e ((after_acts w z).part e)) (sym x)
        (λ d none. same_submitted (submits w t e) (w.part e) (bound w e t) q count order (cookie_of w t e) ∙ d)

pub always_stays_disabled : (rule : PasidRule) (config : Config) (steps : List Step) (s : Step) (e : ℕ)
    → StaysDisabled (world_after rule config steps) s e ((world_after rule config (steps ++ s ∷ [])).part e)
always_stays_disabled rule config steps s e =
    let w = world_after rule config steps in
    later_part rule config steps s e (λ z. StaysDisabled w s e z)
    (record {
      stays = step_stays w s e (always rule config steps);
      enabled =
          λ d.
          ap (λ p. p.is_disabled)
          (part_after w s e (LocalAct.Reset_arrives (Labels.name w d.number)) (delivered w s e FunctionReset d));
    })
