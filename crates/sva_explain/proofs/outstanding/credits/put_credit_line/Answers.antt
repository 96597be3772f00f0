use Rattle.sva_lines.proofs.Lines.{both}
use Rattle.sva_explain.proofs.Chains.{joined}
use Rattle.sva_explain.proofs.outstanding.credits.put_credit_line.Goals as goal

pub returns : goal.returns
returns c =
    let old = c.args.out.now.items in
    let to_1 = joined old c.put_start.new.out.items c.put_credit_text.new.out.items _ _ c.in_ok-put_start.ensures c.in_ok-put_credit_text.ensures in
    both c.end_line.result old c.put_credit_text.new.out.items c.end_line.new.out.items _ _ to_1 c.end_line.ensures
