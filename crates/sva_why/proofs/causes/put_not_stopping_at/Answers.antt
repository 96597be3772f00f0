use Rattle.sva_lines.proofs.Lines.{both}
use Rattle.sva_why.proofs.causes.put_not_stopping_at.Goals as goal

pub returns : goal.returns
returns c =
    both c.put_about.result c.args.out.now.items c.put_plain.new.out.items c.put_about.new.out.items _ _ c.in_ok-put_plain.ensures c.put_about.ensures
