use Rattle.sva_lines.proofs.Lines.{both}
use Rattle.sva_explain.proofs.Chains.{joined}
use Rattle.sva_explain.proofs.limits.tags.put_not_held_line.Goals as goal

pub returns : goal.returns
returns c =
    let old = c.args.out.now.items in
    let to_1 = joined old c.put_indent.new.out.items c.put_field.new.out.items _ _ c.in_ok-put_indent.ensures c.in_ok-put_field.ensures in
    let to_2 = joined old c.put_field.new.out.items c.put_field-2.new.out.items _ _ to_1 c.in_ok-put_field-2.ensures in
    let to_3 = joined old c.put_field-2.new.out.items c.put_field-3.new.out.items _ _ to_2 c.in_ok-put_field-3.ensures in
    let to_4 = joined old c.put_field-3.new.out.items c.put_ask.new.out.items _ _ to_3 c.in_ok-put_ask.ensures in
    both c.end_line.result old c.put_ask.new.out.items c.end_line.new.out.items _ _ to_4 c.end_line.ensures
