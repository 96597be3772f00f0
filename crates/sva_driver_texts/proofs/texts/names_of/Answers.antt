use Rattle.std.proofs.Common.{◌∙◌, ◌+◌, ap, sym}
use Rattle.sva_script_reading.proofs.BeginLemmas.{no_lines}
use Rattle.sva_script_reading.specs.Begins.{lines_from}
use Rattle.sva_script.specs.Lines.{parts_of}
use Rattle.sva_race_texts.proofs.Lists.{said}
use Rattle.sva_race_texts.proofs.RunLemmas.{names_end, names_next}
use Rattle.sva_driver_texts.proofs.texts.names_of.Goals as goal

pub loop-number-preserved : goal.loop-number-preserved
loop-number-preserved c =
    sym (names_next c.loop-number.names c.note_name.new.names _ (lines_from (c.next.new.self.number + 1) c.next.new.self.rest.now)
    (c.in-Some.number, c.in-Some.line.now) _ c.in-Some.ensures.line
    (c.name_in.ensures ∙ ap (λ ws. (parts_of (said ws)).name) c.as_slice.ensures.value
    ∙ ap (λ ws. (parts_of ws).name) c.in_ok-split.ensures) c.in_ok-note_name.ensures)
    ∙ c.loop-number.invariant

pub returns : goal.returns
returns c =
    sym (names_end c.loop-number.names _
    (no_lines (c.loop-number.lines.number + 1) c.loop-number.lines.rest.now c.in_default.ensures.none))
    ∙ c.loop-number.invariant
