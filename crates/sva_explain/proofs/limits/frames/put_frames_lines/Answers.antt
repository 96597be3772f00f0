use Rattle.sva_lines.proofs.Lines.{both}
use Rattle.sva_explain.proofs.Chains.{joined}
use Rattle.sva_explain.proofs.limits.frames.put_frames_lines.Goals as goal

pub returns : goal.returns
returns c =
    let old = c.args.out.now.items in
    let to_1 = joined old c.put_free_places.new.out.items c.put_withheld_lines.new.out.items _ _ c.in_ok-put_free_places.ensures
    c.in_ok-put_withheld_lines.ensures in
    both c.put_each_space.result old c.put_withheld_lines.new.out.items c.put_each_space.new.out.items _ _ to_1 c.put_each_space.ensures
