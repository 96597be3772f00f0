use Rattle.sva_lines.proofs.Lines.{both}
use Rattle.sva_explain.proofs.Chains.{joined}
use Rattle.sva_explain.proofs.blockers.itags.put_taken_line.Goals as goal

pub returns : goal.returns
returns c =
    let old = c.args.out.now.items in
    let to_1 = joined old c.put_taken_text.new.out.items c.put_finish.new.out.items _ _ c.in_ok-put_taken_text.ensures c.in_ok-put_finish.ensures in
    both c.end_line.result old c.put_finish.new.out.items c.end_line.new.out.items _ _ to_1 c.end_line.ensures
