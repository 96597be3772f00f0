-- What a step by labels comes to, and what it delivers, by whether it was accepted.
use Rattle.std.proofs.Common.{◌≡◌, ◌∙◌, ap, refl, true, false, Option, None}
use Rattle.std.specs.Prelude.{Ok, Err, is_ok}
use Rattle.sva_step.specs.declared.answers.Answer.{Answer}
use Rattle.sva_step.specs.declared.refusals.Refusal.TheVariants as refusal
use Rattle.sva_step.specs.declared.steps.Step.{Step}
use Rattle.sva_model.specs.Message.{Message}
use Rattle.sva_model.specs.Steps.{Reply}
use Rattle.sva_model.specs.Wire.{Wire}
use Rattle.sva_labels.specs.Host.{next_of, reply_of}
use Rattle.sva_core.specs.HostSteps.{ByLabels}
use Rattle.sva_script_reading.specs.Messages.{Link}
use Rattle.sva_script_runs.specs.Runs.{delivered_by}

-- where memory isn't wanting
pub had_memory : (before : Wire) (step : Step) (reply : Reply) (after : Wire) → (reply ≡ Err refusal.OutOfMemory → ⊥) → ByLabels before step reply after
    → (reply ≡ reply_of before step) × (after ≡ next_of before step)
had_memory before step (Err refusal.OutOfMemory) after had by = absurd (had refl)
had_memory before step reply after had by = by

pub delivers : (link : Link) (step : Step) (reply : Reply) (kind : Option Message) → is_ok reply ≡ true
    → ((accepted : Answer) → kind ≡ delivered_by link (Ok accepted) step)
    → kind ≡ delivered_by link reply step
delivers link step (Ok accepted) kind ok all = all accepted
delivers link step (Err why) kind ok all = absurd (cc ok)

pub delivers_nothing : (link : Link) (step : Step) (reply : Reply) → is_ok reply ≡ false → None ≡ delivered_by link reply step
delivers_nothing link step (Ok accepted) ok = absurd (cc ok)
delivers_nothing link step (Err why) ok = refl
