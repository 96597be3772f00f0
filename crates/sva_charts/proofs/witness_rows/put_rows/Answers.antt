use Rattle.std.proofs.Common.{◌≡◌, ◌∙◌, ◌+◌, ◌++◌, ap, arith}
use Rattle.sva_script_reading.proofs.BeginLemmas.{no_lines}
use Rattle.sva_script_reading.specs.Begins.{lines_from}
use Rattle.sva_charts.specs.Witnesses.{row_text}
use Rattle.sva_charts.proofs.WitnessLemmas.{rows_end, rows_next}
use Rattle.sva_charts.proofs.witness_rows.put_rows.Goals as goal

pub loop-number-preserved : goal.loop-number-preserved
loop-number-preserved c = (
  rows_next c.args.rows.now _ (lines_from (c.next.new.self.number + 1) c.next.new.self.rest.now) (c.in-Some._number, c.in-Some.line.now)
      c.in-Some.ensures.line c.loop-number.place c.loop-number.out.items c.put_row.new.out.items _
      (c.in_ok-put_row.ensures ∙ ap (λ drawn. c.loop-number.out.items ++ row_text (c.loop-number.place + 1) c.in-Some.line.now drawn) c.drawn_at.ensures)
      c.loop-number.invariant.0,
  omega (arith, c.loop-number.invariant.1, c.in-Some.ensures.counted),
)

pub returns : goal.returns
returns c =
    rows_end c.args.rows.now c.loop-number.place _ c.loop-number.out.items _
    (no_lines (c.loop-number.lines.number + 1) c.loop-number.lines.rest.now c.in_default.ensures.none) c.loop-number.invariant.0
