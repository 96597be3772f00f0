use Rattle.sva_lines.proofs.Lines.{both}
use Rattle.sva_explain.proofs.limits.spaces.put_too_many.Goals as goal

pub returns : goal.returns
returns c =
    let old = c.args.out.now.items in
    both c.put_each_unbound.result old c.put_spaces_line.new.out.items c.put_each_unbound.new.out.items _ _ c.in_ok-put_spaces_line.ensures
    c.put_each_unbound.ensures
