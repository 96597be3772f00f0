use Rattle.sva_parts_by_labels.proofs.Requests.{request_is_seen}
use Rattle.sva_parts_by_labels.proofs.Uses.{use_is_seen, end_is_seen, evict_is_seen}
use Rattle.sva_parts_by_labels.proofs.Groups.{fault_is_seen, quit_is_seen}
use Rattle.sva_parts_by_labels.proofs.Completions.{finish_is_seen}
use Rattle.sva_parts_by_labels.proofs.Deliveries.{start_is_seen, stop_is_seen, reset_is_seen, completion_is_seen, invalidation_is_seen, response_is_seen}
use Rattle.sva_parts_by_labels.proofs.device_laws.Goals as goal

pub returns : goal.returns
returns c =
    record {
      requests = request_is_seen;
      uses = record { begun = use_is_seen; ended = end_is_seen; evicted = evict_is_seen };
      groups = record { faulted = fault_is_seen; quit = quit_is_seen };
      completions = finish_is_seen;
      deliveries =
          record {
            started = start_is_seen;
            stopped = stop_is_seen;
            reset = reset_is_seen;
            completed = completion_is_seen;
            taken = invalidation_is_seen;
            answered = response_is_seen;
          };
    }
