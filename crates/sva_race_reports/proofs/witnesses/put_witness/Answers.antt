use Rattle.sva_lines.proofs.Lines.{both}
use Rattle.sva_race_reports.proofs.witnesses.put_witness.Goals as goal

pub returns : goal.returns
returns c =
    both c.put_scenario.result c.args.out.now.items c.put_title.new.out.items c.put_scenario.new.out.items _ _ c.in_ok-put_title.ensures c.put_scenario.ensures
