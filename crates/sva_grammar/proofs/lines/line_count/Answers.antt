use Rattle.std.proofs.Common.{ap, sym, arith, cond, ℕ}
use Rattle.sva_grammar.proofs.LineLemmas.{lines_are_counted}
use Rattle.sva_grammar.proofs.lines.line_count.Goals as goal

pub returns-then-is_ended : goal.returns-then-is_ended
returns-then-is_ended c =
    let ended = ap {B = ℕ} (λ t. cond t 0 1) (sym (c.if-is_ended.ensures)) in
    omega (arith, c.end_count-ends.ensures.count, ended, lines_are_counted c.args.text.now)

pub returns-else-is_ended : goal.returns-else-is_ended
returns-else-is_ended c =
    let open_end = ap {B = ℕ} (λ t. cond t 0 1) (sym (c.if-is_ended.ensures)) in
    omega (arith, c.end_count-ends.ensures.count, open_end, lines_are_counted c.args.text.now)
