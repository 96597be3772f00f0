use Rattle.sva_lines.proofs.Lines.{said_more}
use Rattle.sva_snapshot.specs.Shown.{flight_shown}
use Rattle.sva_explain.specs.Link.{older_if}
use Rattle.sva_explain.proofs.blockers.link.put_older_among.Goals as goal

pub loop-older-preserved : goal.loop-older-preserved
loop-older-preserved c =
    said_more (older_if c.args.snapshot.now (flight_shown c.args.flight.now)) flight_shown _ _ _ c.args.flights.now c.loop-older.older-index
    c.older-item.result c.loop-older-test.true c.older-item.is c.loop-older.invariant c.in_ok-put_older_if.ensures
