use Rattle.std.proofs.Common.{◌≡◌, ◌++◌, subst}
use Rattle.std.specs.Prelude.{codes}
use Rattle.sva_lines.specs.Pieces.{field}
use Rattle.sva_lines.proofs.Lines.{both}
use Rattle.sva_explain.proofs.Chains.{joined}
use Rattle.sva_explain.proofs.limits.frames.put_mapped_line.Goals as goal

pub returns : goal.returns
returns c =
    let old = c.args.out.now.items in
    let to_1 = joined old c.put_start.new.out.items c.put_field.new.out.items _ _ c.in_ok-put_start.ensures c.in_ok-put_field.ensures in
    let to_2 = joined old c.put_field.new.out.items c.put_field-2.new.out.items _ _ to_1
    (subst (λ frame. c.put_field-2.new.out.items ≡ c.put_field.new.out.items ++ field (codes " is mapped: frame ") frame)
    c.from.ensures c.in_ok-put_field-2.ensures) in
    let to_3 = joined old c.put_field-2.new.out.items c.put_if.new.out.items _ _ to_2 c.in_ok-put_if.ensures in
    let to_4 = joined old c.put_if.new.out.items c.put_taken_out.new.out.items _ _ to_3 c.in_ok-put_taken_out.ensures in
    both c.end_line.result old c.put_taken_out.new.out.items c.end_line.new.out.items _ _ to_4 c.end_line.ensures
