use Rattle.sva_lines.proofs.Lines.{both}
use Rattle.sva_why.proofs.bindings.put_stays.Goals as goal

pub returns : goal.returns
returns c =
    let old = c.args.out.now.items in
    both c.put_going_if.result old c.put_reset_if.new.out.items c.put_going_if.new.out.items _ _ c.in_ok-put_reset_if.ensures c.put_going_if.ensures
