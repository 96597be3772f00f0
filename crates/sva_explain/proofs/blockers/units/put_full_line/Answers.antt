use Rattle.sva_lines.proofs.Lines.{both}
use Rattle.sva_explain.proofs.Chains.{joined}
use Rattle.sva_explain.proofs.blockers.units.put_full_line.Goals as goal

pub returns : goal.returns
returns c =
    let old = c.args.out.now.items in
    let to_1 = joined old c.put_start.new.out.items c.put_counts.new.out.items _ _ c.in_ok-put_start.ensures c.in_ok-put_counts.ensures in
    let to_2 = joined old c.put_counts.new.out.items c.put_word.new.out.items _ _ to_1 c.in_ok-put_word.ensures in
    let to_3 = joined old c.put_word.new.out.items c.put_pump.new.out.items _ _ to_2 c.in_ok-put_pump.ensures in
    both c.end_line.result old c.put_pump.new.out.items c.end_line.new.out.items _ _ to_3 c.end_line.ensures
