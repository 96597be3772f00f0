use Rattle.std.proofs.Common.{◌≤◌, ap, arith, cond, eqb, length, rules}
use Rattle.std.specs.Prelude.{count_by}
use Rattle.std.proofs.lemmas.List.{length-drop, length-take-le, take_rest}
use Rattle.std.proofs.lemmas.List.Sums.{sum_by-take-drop}
use Rattle.sva_grammar.proofs.lines.end_count.Goals as goal

pub loop-rest-preserved : goal.loop-rest-preserved
loop-rest-preserved c =
    let rest = c.loop-rest.rest.now in
    let len = c.min-len.result in
    let fits : len ≤ length rest = search rules in
    let parts = sum_by-take-drop (λ byte. cond (eqb byte 10) 1 0) rest len in
    let others = ap (count_by (λ byte. eqb byte 10)) (take_rest rest len) in
    let long = ap length (take_rest rest len) in
    record {
      counted = omega (arith, c.loop-rest.invariant.counted, c.from-ends.ensures, c.few_ends.ensures.count, parts, others);
      few = omega (
        arith,
        c.loop-rest.invariant.few,
        c.from-ends.ensures,
        c.few_ends.ensures.few,
        length-take-le len rest fits,
        length-drop len rest,
        long,
      );
    }
