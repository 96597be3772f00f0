use Rattle.std.proofs.Common.{◌≡◌, ◌+◌, arith, length}
use Rattle.sva_grammar.specs.Grammar.{lines_of}
use Rattle.sva_script_reading.proofs.LineLemmas.{one_less}
use Rattle.sva_script_reading.proofs.lines.has_many_lines.Goals as goal

pub loop-line-preserved : goal.loop-line-preserved
loop-line-preserved c =
    let less = one_less (c.loop-line.lines.number + 1) (c.next.new.self.number + 1) c.in-Some._line.0 c.loop-line.lines.rest.now c.next.new.self.rest.now
    c.in-Some._line.1.now c.in-Some.ensures.line in
    let so_far : length (lines_of c.args.text.now) ≡ c.loop-line.lines.number + length (lines_of c.loop-line.lines.rest.now) = c.loop-line.invariant in
    let next : c.next.new.self.number ≡ c.loop-line.lines.number + 1 = c.in-Some.ensures.counted in
    let all : length (lines_of c.args.text.now) ≡ c.next.new.self.number + length (lines_of c.next.new.self.rest.now) = omega (arith, less, so_far, next) in
    all
