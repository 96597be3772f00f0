use Rattle.std.proofs.Common.{◌∙◌, ◌+◌, ap}
use Rattle.sva_script.specs.Lines.{parts_of}
use Rattle.sva_script_reading.proofs.BeginLemmas.{no_lines}
use Rattle.sva_script_reading.specs.Begins.{lines_from}
use Rattle.sva_variants.proofs.CutLemmas.{cut_next, cuts_end, said}
use Rattle.sva_variants.proofs.cuts.cuts_in.Goals as goal

pub loop-number-preserved : goal.loop-number-preserved
loop-number-preserved c =
    cut_next _ (lines_from (c.next.new.self.number + 1) c.next.new.self.rest.now) (c.in-Some.number, c.in-Some.line.now) c.in-Some.ensures.line
    _ _ _ _
    (c.act_in.ensures ∙ ap (λ ws. (parts_of (said ws)).step) c.as_slice.ensures.value ∙ ap (λ ws. (parts_of ws).step) c.in_ok-split.ensures)
    c.in_ok-put_cut.ensures c.loop-number.invariant

pub returns : goal.returns
returns c =
    cuts_end _ _ _ (no_lines (c.loop-number.lines.number + 1) c.loop-number.lines.rest.now c.in_default.ensures.none) c.loop-number.invariant
