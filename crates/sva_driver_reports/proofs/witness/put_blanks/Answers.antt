use Rattle.sva_driver_reports.proofs.Rests.{blank_more}
use Rattle.sva_driver_reports.proofs.witness.put_blanks.Goals as goal

pub loop-column-preserved : goal.loop-column-preserved
loop-column-preserved c =
    blank_more c.args.out.now.items c.loop-column.out.items c.extend_from_slice.new.self.items c.loop-column._column c.loop-column.invariant
    c.in_ok-extend_from_slice.ensures.items
