use Rattle.std.proofs.Common.{◌∙◌, ◌+◌, sym}
use Rattle.sva_scenario.specs.Played.{PlaysAsEndpoint}
use Rattle.sva_scenario.proofs.Running.{has_ended}
use Rattle.sva_scenario.proofs.line_threads.EndpointThread.leave.Goals as goal

pub returns-clause-played : goal.returns-clause-played
returns-clause-played g c wanted_none =
    let endpoint = c.self.inside.endpoint in
    let tickets = c.self.inside.tickets.tickets.items in
    record {
      endpoint = endpoint;
      below = c.self.invariant.2;
      tickets = tickets;
      played = has_ended (3 + endpoint) g.S.Plan.turns (PlaysAsEndpoint g.C.Ledgers.config g.S.Plan.steps endpoint tickets) c.self.inside.spent
          c.self.inside.port c.self.invariant.4 (sym c.lacks.ensures ∙ wanted_none);
    }
