use Rattle.std.proofs.Common.{arith}
use Rattle.sva_fabric.specs.Audits.{held_by, used_by}
use Rattle.sva_scenario.proofs.StormLemmas.{has_finished}
use Rattle.sva_scenario.proofs.storming.settle.Goals as goal

pub returns-in-Ok-clause-audit : goal.returns-in-Ok-clause-audit
returns-in-Ok-clause-audit g c =
    let left = c.into_parts-ports in
    has_finished g.C.Ledgers.config g.S.Plan.steps g.S.Plan.turns g.C.Ledger.parts left.result.0 (held_by left.result.1) (used_by left.result.1) _
    c.requires.parts (omega (arith, left.ensures.endpoints, c.requires.endpoints, left.result.0.endpoints.ok.0))
    (omega (arith, left.ensures.workers, c.requires.workers, left.result.0.workers.ok.0)) (left.ensures.played c.if-lacking.false) c.in-Ok.ensures.audit

pub returns-in-Err-clause-bad : goal.returns-in-Err-clause-bad
returns-in-Err-clause-bad g c =
    let left = c.into_parts-ports in
    has_finished g.C.Ledgers.config g.S.Plan.steps g.S.Plan.turns g.C.Ledger.parts left.result.0 (held_by left.result.1) (used_by left.result.1) _
    c.requires.parts (omega (arith, left.ensures.endpoints, c.requires.endpoints, left.result.0.endpoints.ok.0))
    (omega (arith, left.ensures.workers, c.requires.workers, left.result.0.workers.ok.0)) (left.ensures.played c.if-lacking.false) c.in-Err.ensures.audit
