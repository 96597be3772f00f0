use Rattle.sva_snapshot.specs.Shown.{endpoint_shown}
use Rattle.sva_lines.proofs.Lines.{rows_more}
use Rattle.sva_why.specs.Causes.{full_if}
use Rattle.sva_why.proofs.causes.put_full_among.Goals as goal

pub loop-unit-preserved : goal.loop-unit-preserved
loop-unit-preserved c =
    rows_more (full_if c.args.snapshot.now c.args.space c.args.needed) endpoint_shown _ _ _ c.args.endpoints.now c.loop-unit.unit
    c.index-endpoints-unit.result c.loop-unit-test.true c.index-endpoints-unit.is c.loop-unit.invariant c.in_ok-put_full_if.ensures
