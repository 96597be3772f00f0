use Rattle.sva_model.specs.Steps.{world_after}
use Rattle.sva_laws.proofs.Runs.{always}
use Rattle.sva_laws.proofs.Found.{labelled, found, under_way, never}
use Rattle.sva_laws.proofs.Ways.{always_ways}
use Rattle.sva_laws.proofs.OnTheWay.{always_on_the_way}
use Rattle.sva_laws.proofs.Completions.{always_owed}
use Rattle.sva_laws.proofs.Carried.{always_carried}
use Rattle.sva_laws.proofs.Latest.{always_finds}
use Rattle.sva_laws.proofs.labels_and_deliveries.Goals as goal

pub returns-clause-labelled : goal.returns-clause-labelled
returns-clause-labelled c = λ rule config steps e fits. labelled (world_after rule config steps) e (always rule config steps)

pub returns-clause-found : goal.returns-clause-found
returns-clause-found c = λ rule config steps e fits. found (world_after rule config steps) e (always rule config steps)

pub returns-clause-never : goal.returns-clause-never
returns-clause-never c = λ rule config steps e fits. never (world_after rule config steps) e (always rule config steps)

pub returns-clause-under_way : goal.returns-clause-under_way
returns-clause-under_way c =
    λ rule config steps e fits. under_way (world_after rule config steps) e (always rule config steps) (always_ways rule config steps e)
    (always_on_the_way rule config steps e) (always_owed rule config steps e)

pub returns-clause-carried : goal.returns-clause-carried
returns-clause-carried c = λ rule config steps e fits. always_carried rule config steps e

pub returns-clause-mappings : goal.returns-clause-mappings
returns-clause-mappings c = λ rule config steps fits. always_finds rule config steps
