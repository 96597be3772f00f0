use Rattle.sva_lines.proofs.Lines.{both}
use Rattle.sva_race_reports.proofs.ends.put_ends.Goals as goal

pub returns : goal.returns
returns g c =
    both c.put_all_waits.result c.args.out.now.items c.put_ends_line.new.out.items c.put_all_waits.new.out.items _ _ c.in_ok-put_ends_line.ensures
    c.put_all_waits.ensures
