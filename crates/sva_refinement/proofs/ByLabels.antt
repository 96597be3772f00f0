-- At each world that a list of steps leads to, a step whose causes refuse alike, and whose result by labels is its outcome, is by
-- labels what it is by names.
use Rattle.std.proofs.Common.{◌≡◌, ◌≤◌, ap, arith}
use Rattle.std.specs.Prelude.{List}
use Rattle.sva_step.specs.declared.limits.Config.{Config}
use Rattle.sva_step.specs.declared.steps.Step.{Step}
use Rattle.sva_model.specs.State.{World}
use Rattle.sva_model.specs.State.PasidRule.{PerSpace}
use Rattle.sva_model.specs.Steps.{world_after}
use Rattle.sva_model.specs.Claims.{Fits}
use Rattle.sva_laws.proofs.Fronts.{always_fronts}
use Rattle.sva_laws.proofs.Debts.{always_debts}
use Rattle.sva_laws.proofs.Completions.{always_owed}
use Rattle.sva_laws.proofs.OnTheWay.{AllOn, always_on_the_way}
use Rattle.sva_laws.proofs.JobSteps.{JobsOf, always_jobs}
use Rattle.sva_laws.proofs.Runs.{step_legal}
use Rattle.sva_laws.proofs.Withheld.{config_kept, rule_kept}
use Rattle.sva_refinement.specs.Refinement.{LabelsAreNames}
use Rattle.sva_refinement.proofs.Alike.{SaysAlike}
use Rattle.sva_refinement.proofs.HostGroupsFiled.{always_filings}
use Rattle.sva_refinement.proofs.Reached.{IsReached, reached}
use Rattle.sva_refinement.proofs.Assembly.{Stands, AreReady, IsByLabels, decided, step_by_labels}
use Rattle.sva_refinement.proofs.Ready.{outcome_ready}

-- What holds of a world between steps.
pub record IsBetween (w : World) : Type 0 where
  pub reached : IsReached w
  pub stands : Stands w
  pub on : AllOn w
  pub jobs : JobsOf w
  pub rule : w.rule ≡ PerSpace

pub between : (config : Config) (steps : List Step) → Fits config → IsBetween (world_after PerSpace config steps)
between config steps fits =
    let r = reached PerSpace config steps in
    let j = always_jobs PerSpace config steps in
    record {
      reached = r;
      stands =
          record {
            invariant = r.invariant;
            fronts = always_fronts PerSpace config steps;
            debts = always_debts PerSpace config steps;
            owed = always_owed PerSpace config steps;
            carried = r.carried;
            sent = r.sent;
            filings = always_filings PerSpace config steps;
            past = j.past;
            few = few;
          };
      on = always_on_the_way PerSpace config steps;
      jobs = j;
      rule = rule_kept PerSpace config steps;
    }
  where
    few : (world_after PerSpace config steps).config.endpoints ≤ 8
    few =
        let same : (world_after PerSpace config steps).config.endpoints ≡ config.endpoints = ap (λ c. c.endpoints) (config_kept PerSpace config steps) in
        let most = fits.most_endpoints in
        omega (arith, same, most)

pub by_labels : (w : World) (s : Step) → IsBetween w → SaysAlike w s → IsByLabels w s
by_labels w s b says =
    let i = b.reached.invariant in
    step_by_labels w s b.stands says (step_legal w s i) (decided (AreReady w) w s tt (outcome_ready w s i b.on b.jobs))

-- all of it, from what each step says
pub labels_are_names : ((w : World) (s : Step) → IsBetween w → SaysAlike w s) → LabelsAreNames
labels_are_names says config steps s fits =
    let b = between config steps fits in
    by_labels (world_after PerSpace config steps) s b (says (world_after PerSpace config steps) s b)
