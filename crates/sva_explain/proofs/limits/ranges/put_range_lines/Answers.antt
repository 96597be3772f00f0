use Rattle.sva_lines.proofs.Lines.{both}
use Rattle.sva_explain.proofs.limits.ranges.put_range_lines.Goals as goal

pub returns : goal.returns
returns c =
    both c.put_each_awaited.result c.args.out.now.items c.put_frames_line.new.out.items c.put_each_awaited.new.out.items _ _
    c.in_ok-put_frames_line.ensures c.put_each_awaited.ensures
