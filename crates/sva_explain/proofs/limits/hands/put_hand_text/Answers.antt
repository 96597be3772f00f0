use Rattle.std.proofs.Common.{◌≡◌, ◌++◌, subst}
use Rattle.std.specs.Prelude.{codes}
use Rattle.sva_lines.specs.Pieces.{field}
use Rattle.sva_lines.proofs.Lines.{both}
use Rattle.sva_explain.proofs.Chains.{joined}
use Rattle.sva_explain.proofs.limits.hands.put_hand_text.Goals as goal

pub returns : goal.returns
returns c =
    let old = c.args.out.now.items in
    let to_1 = joined old c.put_indent.new.out.items c.put_field.new.out.items _ _ c.in_ok-put_indent.ensures c.in_ok-put_field.ensures in
    let to_2 = joined old c.put_field.new.out.items c.put_field-2.new.out.items _ _ to_1
    (subst (λ index. c.put_field-2.new.out.items ≡ c.put_field.new.out.items ++ field (codes " has group ") index)
    c.from.ensures c.in_ok-put_field-2.ensures) in
    both c.put_field-3.result old c.put_field-2.new.out.items c.put_field-3.new.out.items _ _ to_2 c.put_field-3.ensures
