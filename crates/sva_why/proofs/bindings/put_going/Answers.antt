use Rattle.sva_lines.proofs.Lines.{both}
use Rattle.sva_why.proofs.bindings.put_going.Goals as goal

pub returns : goal.returns
returns c =
    let old = c.args.out.now.items in
    both c.put_full.result old c.put_not_yet.new.out.items c.put_full.new.out.items _ _ c.in_ok-put_not_yet.ensures c.put_full.ensures
