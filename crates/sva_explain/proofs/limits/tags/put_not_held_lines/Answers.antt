use Rattle.sva_lines.proofs.Lines.{both}
use Rattle.sva_explain.proofs.limits.tags.put_not_held_lines.Goals as goal

pub returns : goal.returns
returns c =
    both c.put_asked.result c.args.out.now.items c.put_not_held_line.new.out.items c.put_asked.new.out.items _ _ c.in_ok-put_not_held_line.ensures
    c.put_asked.ensures
