use Rattle.sva_lines.proofs.Lines.{both}
use Rattle.sva_explain.proofs.Chains.{joined}
use Rattle.sva_explain.proofs.blockers.itags.put_waits.Goals as goal

pub returns : goal.returns
returns c =
    let old = c.args.out.now.items in
    let to_1 = joined old c.put_start.new.out.items c.put_field.new.out.items _ _ c.in_ok-put_start.ensures c.in_ok-put_field.ensures in
    let to_2 = joined old c.put_field.new.out.items c.put_use_of.new.out.items _ _ to_1 c.in_ok-put_use_of.ensures in
    let to_3 = joined old c.put_use_of.new.out.items c.put_end.new.out.items _ _ to_2 c.in_ok-put_end.ensures in
    both c.end_line.result old c.put_end.new.out.items c.end_line.new.out.items _ _ to_3 c.end_line.ensures
