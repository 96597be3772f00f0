use Rattle.sva_lines.proofs.Lines.{both}
use Rattle.sva_explain.proofs.Chains.{joined}
use Rattle.sva_why.proofs.bindings.put_binding_text.Goals as goal

pub returns : goal.returns
returns c =
    let old = c.args.out.now.items in
    let to_1 = joined old c.put_start.new.out.items c.put_field.new.out.items _ _ c.in_ok-put_start.ensures c.in_ok-put_field.ensures in
    let to_2 = joined old c.put_field.new.out.items c.put_word.new.out.items _ _ to_1 c.in_ok-put_word.ensures in
    both c.put_stage.result old c.put_word.new.out.items c.put_stage.new.out.items _ _ to_2 c.put_stage.ensures
