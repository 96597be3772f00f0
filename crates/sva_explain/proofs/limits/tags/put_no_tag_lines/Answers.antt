use Rattle.sva_lines.proofs.Lines.{both}
use Rattle.sva_explain.proofs.limits.tags.put_no_tag_lines.Goals as goal

pub returns : goal.returns
returns c =
    both c.put_each_out.result c.args.out.now.items c.put_tags_line.new.out.items c.put_each_out.new.out.items _ _ c.in_ok-put_tags_line.ensures
    c.put_each_out.ensures
