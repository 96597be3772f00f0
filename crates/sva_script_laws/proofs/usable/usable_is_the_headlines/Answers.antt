use Rattle.sva_model.specs.Steps.{world_after}
use Rattle.sva_refinement.proofs.Reached.{reached}
use Rattle.sva_script_laws.proofs.There.{may_use}
use Rattle.sva_script_laws.proofs.Back.{is_seen}
use Rattle.sva_script_laws.proofs.usable.usable_is_the_headlines.Goals as goal

pub returns : goal.returns
returns c =
    λ rule config steps e f fits. (
      (λ h. may_use (world_after rule config steps) e f (reached rule config steps) h),
      (λ x. is_seen (world_after rule config steps) e f (reached rule config steps) x),
    )
