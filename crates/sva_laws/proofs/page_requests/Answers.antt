use Rattle.sva_laws.proofs.Claimed.{always_agrees}
use Rattle.sva_model.specs.Steps.{world_after}
use Rattle.sva_laws.proofs.Runs.{always}
use Rattle.sva_laws.proofs.Found.{holds_jobs}
use Rattle.sva_laws.proofs.JobSteps.{always_jobs}
use Rattle.sva_laws.proofs.Limits.{always_outstanding, always_page_queue, always_waiting}
use Rattle.sva_laws.proofs.Filed.{always_few}
use Rattle.sva_laws.proofs.Rooms.{always_live, always_pages}
use Rattle.sva_laws.proofs.Places.{always_short, always_cached}
use Rattle.sva_laws.proofs.page_requests.Goals as goal

pub returns-clause-matched : goal.returns-clause-matched
returns-clause-matched c = λ rule config steps e fits. (always_agrees rule config steps fits).matched e

pub returns-clause-limited : goal.returns-clause-limited
returns-clause-limited c =
    λ rule config steps e fits. record {
      outstanding = always_outstanding rule config steps e;
      page_queue =
          always_page_queue rule config steps e;
      waiting = always_waiting rule config steps e;
    }

pub returns-clause-hands : goal.returns-clause-hands
returns-clause-hands c = λ rule config steps fits. holds_jobs (world_after rule config steps) (always rule config steps) (always_jobs rule config steps)

pub returns-clause-limits : goal.returns-clause-limits
returns-clause-limits c =
    λ rule config steps fits. record {
      spaces = always_live rule config steps;
      pages = always_pages rule config steps;
      requests = always_few rule config steps;
      queued = always_short rule config steps;
      cached = always_cached rule config steps;
    }
