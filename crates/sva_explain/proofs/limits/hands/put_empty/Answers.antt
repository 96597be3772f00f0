use Rattle.std.proofs.Common.{◌≡◌, ◌++◌, subst}
use Rattle.std.specs.Prelude.{codes}
use Rattle.sva_lines.proofs.Lines.{both}
use Rattle.sva_explain.specs.Lines.{bracket}
use Rattle.sva_explain.proofs.Chains.{joined}
use Rattle.sva_explain.proofs.limits.hands.put_empty.Goals as goal

pub returns : goal.returns
returns c =
    let old = c.args.out.now.items in
    let to_1 = joined old c.put_start.new.out.items c.put_word.new.out.items _ _ c.in_ok-put_start.ensures c.in_ok-put_word.ensures in
    let to_2 = joined old c.put_word.new.out.items c.put_bracket.new.out.items _ _ to_1
    (subst (λ holds. c.put_bracket.new.out.items ≡ c.put_word.new.out.items ++ bracket holds (codes " [take ") c.args.worker)
    c.can_take.ensures c.in_ok-put_bracket.ensures) in
    both c.end_line.result old c.put_bracket.new.out.items c.end_line.new.out.items _ _ to_2 c.end_line.ensures
