use Rattle.sva_lines.proofs.Lines.{both}
use Rattle.sva_explain.proofs.Chains.{joined}
use Rattle.sva_why.proofs.bindings.put_binding.Goals as goal

pub returns : goal.returns
returns c =
    let old = c.args.out.now.items in
    let to_1 = joined old c.put_binding_text.new.out.items c.put_unbind.new.out.items _ _ c.in_ok-put_binding_text.ensures c.in_ok-put_unbind.ensures in
    let to_2 = joined old c.put_unbind.new.out.items c.put_advance.new.out.items _ _ to_1 c.in_ok-put_advance.ensures in
    both c.end_line.result old c.put_advance.new.out.items c.end_line.new.out.items _ _ to_2 c.end_line.ensures
