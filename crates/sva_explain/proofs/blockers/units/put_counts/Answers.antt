use Rattle.sva_lines.proofs.Lines.{both}
use Rattle.sva_explain.proofs.blockers.units.put_counts.Goals as goal

pub returns : goal.returns
returns c =
    both c.put_field.result c.args.out.now.items c.put_queued.new.out.items c.put_field.new.out.items _ _ c.in_ok-put_queued.ensures
    c.put_field.ensures
