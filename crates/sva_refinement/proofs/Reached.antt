-- What a world has that a list of steps leads to, beside the invariant: what is used of it where a step is read by labels.
use Rattle.std.proofs.Common.{ℕ}
use Rattle.std.specs.Prelude.{List}
use Rattle.sva_step.specs.declared.limits.Config.{Config}
use Rattle.sva_step.specs.declared.steps.Step.{Step}
use Rattle.sva_model.specs.State.{PasidRule, World}
use Rattle.sva_model.specs.Steps.{world_after}
use Rattle.sva_laws.specs.LabelLaws.{IsCarried}
use Rattle.sva_laws.specs.UnderWay.{IsUnderWay}
use Rattle.sva_laws.proofs.Invariant.{Invariant}
use Rattle.sva_laws.proofs.Runs.{always}
use Rattle.sva_laws.proofs.Found.{under_way}
use Rattle.sva_laws.proofs.Ways.{always_ways}
use Rattle.sva_laws.proofs.OnTheWay.{always_on_the_way}
use Rattle.sva_laws.proofs.Completions.{always_owed}
use Rattle.sva_laws.proofs.Carried.{always_carried}
use Rattle.sva_refinement.proofs.SentTo.{AreSentTo, always_sent}
use Rattle.sva_refinement.proofs.OrderedRanges.{HaveRanges, always_ranges}

pub record IsReached (w : World) : Type 0 where
  pub invariant : Invariant w
  pub sent : AreSentTo w
  pub carried : (e : ℕ) → IsCarried w.mappings (w.part e)
  pub ranges : HaveRanges w
  pub under_way : (e : ℕ) → IsUnderWay w.messages (w.part e)

pub reached : (rule : PasidRule) (config : Config) (steps : List Step) → IsReached (world_after rule config steps)
reached rule config steps =
    record {
      invariant = always rule config steps;
      sent = always_sent rule config steps;
      carried = always_carried rule config steps;
      ranges = always_ranges rule config steps;
      under_way =
          λ e.
          under_way (world_after rule config steps) e (always rule config steps) (always_ways rule config steps e) (always_on_the_way rule config steps e)
          (always_owed rule config steps e);
    }
