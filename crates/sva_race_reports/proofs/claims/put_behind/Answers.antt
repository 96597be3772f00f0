use Rattle.sva_lines.proofs.Lines.{both}
use Rattle.sva_race_reports.proofs.claims.put_behind.Goals as goal

pub returns : goal.returns
returns g c =
    both c.put_ends.result c.args.out.now.items c.put_held_in.new.out.items c.put_ends.new.out.items _ _ c.in_ok-put_held_in.ensures c.put_ends.ensures
