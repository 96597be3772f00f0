use Rattle.sva_lines.proofs.Lines.{both}
use Rattle.sva_explain.proofs.limits.pasids.put_no_pasid.Goals as goal

pub returns : goal.returns
returns c =
    both c.put_each_bearer.result c.args.out.now.items c.put_all_borne.new.out.items c.put_each_bearer.new.out.items _ _ c.in_ok-put_all_borne.ensures
    c.put_each_bearer.ensures
