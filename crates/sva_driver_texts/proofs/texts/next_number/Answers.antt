use Rattle.std.proofs.Common.{◌≡◌, ◌+◌, ap, arith, length, suc}
use Rattle.sva_script_reading.proofs.BeginLemmas.{no_lines}
use Rattle.sva_script_reading.specs.Begins.{lines_from}
use Rattle.sva_script_reading.specs.declared.lines.Lines.{Lines}
use Rattle.sva_driver_texts.proofs.texts.next_number.Goals as goal

pub loop-line-preserved : goal.loop-line-preserved
loop-line-preserved c =
    let less : length (lines_from (c.loop-line.lines.number + 1) c.loop-line.lines.rest.now)
    ≡ suc (length (lines_from (c.next.new.self.number + 1) c.next.new.self.rest.now)) = ap length c.in-Some.ensures.line in
    omega (arith, less, c.loop-line.invariant, c.in-Some.ensures.counted)

pub returns : goal.returns
returns c =
    let none : length (lines_from (c.loop-line.lines.number + 1) c.loop-line.lines.rest.now) ≡ 0 =
    ap length (no_lines (c.loop-line.lines.number + 1) c.loop-line.lines.rest.now c.in_default.ensures.none) in
    let same : c.next.new.self.number ≡ c.loop-line.lines.number = ap (λ (lines : Lines). lines.number) c.in_default.ensures.same in
    omega (arith, none, same, c.loop-line.invariant, c.requires)
