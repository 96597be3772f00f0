use Rattle.sva_lines.proofs.Lines.{both}
use Rattle.sva_explain.proofs.limits.tags.put_tags_line.Goals as goal

pub returns : goal.returns
returns c =
    both c.end_line.result c.args.out.now.items c.put_start.new.out.items c.end_line.new.out.items _ _ c.in_ok-put_start.ensures c.end_line.ensures
