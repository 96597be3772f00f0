use Rattle.std.proofs.Common.{◌≡◌, ◌++◌, subst}
use Rattle.std.specs.Prelude.{codes}
use Rattle.sva_lines.specs.Pieces.{field}
use Rattle.sva_lines.proofs.Lines.{both}
use Rattle.sva_explain.proofs.Chains.{joined}
use Rattle.sva_explain.proofs.limits.pasids.put_bearer.Goals as goal

pub returns : goal.returns
returns c =
    let old = c.args.out.now.items in
    let to_1 = joined old c.put_start.new.out.items c.put_field.new.out.items _ _ c.in_ok-put_start.ensures
    (subst (λ pasid. c.put_field.new.out.items ≡ c.put_start.new.out.items ++ field (codes " bears pasid ") pasid)
    c.from.ensures c.in_ok-put_field.ensures) in
    let to_2 = joined old c.put_field.new.out.items c.put_field-2.new.out.items _ _ to_1 c.in_ok-put_field-2.ensures in
    let to_3 = joined old c.put_field-2.new.out.items c.put_field-3.new.out.items _ _ to_2 c.in_ok-put_field-3.ensures in
    let to_4 = joined old c.put_field-3.new.out.items c.put_word.new.out.items _ _ to_3 c.in_ok-put_word.ensures in
    let to_5 = joined old c.put_word.new.out.items c.put_stage.new.out.items _ _ to_4 c.in_ok-put_stage.ensures in
    let to_6 = joined old c.put_stage.new.out.items c.put_unbind.new.out.items _ _ to_5 c.in_ok-put_unbind.ensures in
    let to_7 = joined old c.put_unbind.new.out.items c.put_advance.new.out.items _ _ to_6 c.in_ok-put_advance.ensures in
    both c.end_line.result old c.put_advance.new.out.items c.end_line.new.out.items _ _ to_7 c.end_line.ensures
