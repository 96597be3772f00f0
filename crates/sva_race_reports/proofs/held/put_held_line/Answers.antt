use Rattle.std.specs.Prelude.{codes, decimal}
use Rattle.sva_race_reports.proofs.OwnSteps.{numbered_line}
use Rattle.sva_race_reports.proofs.held.put_held_line.Goals as goal

pub returns : goal.returns
returns c =
    numbered_line c.extend_from_slice-2.result c.args.out.now.items c.extend_from_slice.new.self.items c.put_number.new.out.items
    c.extend_from_slice-2.new.self.items (codes "held back in witness ") (decimal c.args.number) (codes ":") c.in_ok-extend_from_slice.ensures.items
    c.in_ok-put_number.ensures c.extend_from_slice-2.ensures.items
