use Rattle.sva_lines.proofs.Lines.{both}
use Rattle.sva_lines.proofs.kinds.put_invalidate.Goals as goal

pub returns : goal.returns
returns c = both c.put_scope.result c.args.out.now.items c.put_two.new.out.items c.put_scope.new.out.items _ _ c.in_ok-put_two.ensures c.put_scope.ensures
