use Rattle.std.proofs.Common.{◌∙◌, ◌+◌, ap, sym}
use Rattle.sva_script_reading.proofs.BeginLemmas.{no_lines}
use Rattle.sva_script_reading.specs.Begins.{lines_from}
use Rattle.sva_race_texts.proofs.Lists.{said}
use Rattle.sva_driver_texts.proofs.Written.{written_end, written_next}
use Rattle.sva_driver_texts.proofs.written_out.take_lines.Goals as goal

pub loop-number-preserved : goal.loop-number-preserved
loop-number-preserved c =
    sym (written_next c.loop-number.writing c.take_line.new.self _ (lines_from (c.next.new.self.number + 1) c.next.new.self.rest.now)
    (c.in-Some.number, c.in-Some.line.now) _ c.in-Some.ensures.line
    (ap said c.as_slice.ensures.value ∙ c.in_ok-split.ensures) c.in_ok-take_line.ensures)
    ∙ c.loop-number.invariant

pub returns : goal.returns
returns c =
    sym (written_end c.loop-number.writing _
    (no_lines (c.loop-number.lines.number + 1) c.loop-number.lines.rest.now c.in_default.ensures.none))
    ∙ c.loop-number.invariant
