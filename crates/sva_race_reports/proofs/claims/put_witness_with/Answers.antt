use Rattle.sva_lines.proofs.Lines.{both}
use Rattle.sva_race_reports.proofs.claims.put_witness_with.Goals as goal

pub returns : goal.returns
returns g c =
    both c.put_behind_if.result c.args.out.now.items c.put_witness.new.out.items c.put_behind_if.new.out.items _ _ c.in_ok-put_witness.ensures
    c.put_behind_if.ensures
