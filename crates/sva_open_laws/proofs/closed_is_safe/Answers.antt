use Rattle.sva_model.specs.Steps.{world_after}
use Rattle.sva_laws.proofs.Runs.{always}
use Rattle.sva_laws.proofs.InReset.{always_in_reset}
use Rattle.sva_laws.proofs.Latest.{always_finds}
use Rattle.sva_open_laws.proofs.Safety.{safe}
use Rattle.sva_open_laws.proofs.Shown.{shows}
use Rattle.sva_open_laws.proofs.Enough.{enough}
use Rattle.sva_open_laws.proofs.closed_is_safe.Goals as goal

pub returns-clause-safe : goal.returns-clause-safe
returns-clause-safe c =
    λ rule config steps fits. safe (world_after rule config steps) (always rule config steps) (λ e. always_in_reset rule config steps e)

pub returns-clause-shown : goal.returns-clause-shown
returns-clause-shown c = λ rule config steps fits. shows (world_after rule config steps) (always rule config steps) (always_finds rule config steps)

pub returns-clause-enough : goal.returns-clause-enough
returns-clause-enough c = enough
