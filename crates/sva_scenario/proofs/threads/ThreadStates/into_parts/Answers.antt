use Rattle.std.proofs.lemmas.Bool.{or_parts}
use Rattle.sva_scenario.proofs.threads.ThreadStates.into_parts.Goals as goal

pub returns-clause-played : goal.returns-clause-played
returns-clause-played g c none =
    let all = or_parts _ _ none in
    let most = or_parts _ _ all.0 in
    let three = or_parts _ _ most.0 in
    let two = or_parts _ _ three.0 in
    record {
      host = c.leave-host.ensures.played two.0;
      link = c.leave-link.ensures.played two.1;
      service = c.leave-service.ensures.played three.1;
      endpoints = c.leave_endpoints-endpoint_lacks.ensures.played most.1;
      workers = c.leave_workers-worker_lacks.ensures.played all.1;
    }
