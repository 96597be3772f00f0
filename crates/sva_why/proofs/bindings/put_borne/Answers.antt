use Rattle.sva_lines.proofs.Lines.{both}
use Rattle.sva_why.proofs.bindings.put_borne.Goals as goal

pub returns : goal.returns
returns c =
    let old = c.args.out.now.items in
    both c.put_stays_of.result old c.put_bearer.new.out.items c.put_stays_of.new.out.items _ _ c.in_ok-put_bearer.ensures c.put_stays_of.ensures
