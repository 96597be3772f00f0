use Rattle.sva_snapshot.specs.Shown.{endpoint_shown}
use Rattle.sva_lines.specs.Units.{unit_lines}
use Rattle.sva_lines.proofs.Lines.{rows_more}
use Rattle.sva_lines.proofs.units.put_units.Goals as goal

pub loop-number-preserved : goal.loop-number-preserved
loop-number-preserved c =
    rows_more unit_lines endpoint_shown _ _ _ c.args.endpoints.now c.loop-number.number c.index-endpoints-number.result c.loop-number-test.true
    c.index-endpoints-number.is c.loop-number.invariant c.in_ok-put_unit_of.ensures
