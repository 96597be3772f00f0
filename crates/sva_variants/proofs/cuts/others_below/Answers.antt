use Rattle.std.proofs.Common.{◌≡◌, ◌∙◌, ◌+◌, ap, sym, true, false, rules}
use Rattle.sva_script.specs.Lines.{parts_of}
use Rattle.sva_script_reading.proofs.BeginLemmas.{no_lines}
use Rattle.sva_script_reading.specs.Begins.{lines_from}
use Rattle.sva_variants.proofs.CutLemmas.{other_last, other_next, others_end, said}
use Rattle.sva_variants.proofs.cuts.others_below.Goals as goal

pub loop-number-preserved : goal.loop-number-preserved
loop-number-preserved c =
    let on : c.ends.result ≡ false = search rules in
    other_next (said c.args.first.now) _ (lines_from (c.next.new.self.number + 1) c.next.new.self.rest.now)
    (c.in-Some.number, c.in-Some.line.now) _ c.in-Some.ensures.line
    (c.act_in-other.ensures ∙ ap (λ ws. (parts_of (said ws)).step) c.as_slice.ensures.value ∙ ap (λ ws. (parts_of ws).step) c.in_ok-split.ensures)
    c.goes_with.result c.loop-number.others.items _ _ c.goes_with.ensures (sym c.ends.ensures ∙ on) c.in_ok-note_if.ensures
    c.loop-number.invariant

pub returns-then-ends : goal.returns-then-ends
returns-then-ends c =
    let over : c.ends.result ≡ true = search rules in
    other_last (said c.args.first.now) _ (lines_from (c.next.new.self.number + 1) c.next.new.self.rest.now)
    (c.in-Some.number, c.in-Some.line.now) _ c.in-Some.ensures.line
    (c.act_in-other.ensures ∙ ap (λ ws. (parts_of (said ws)).step) c.as_slice.ensures.value ∙ ap (λ ws. (parts_of ws).step) c.in_ok-split.ensures)
    c.loop-number.others.items _ (sym c.ends.ensures ∙ over) c.loop-number.invariant

pub returns : goal.returns
returns c =
    others_end (said c.args.first.now) _ c.loop-number.others.items _
    (no_lines (c.loop-number.lines.number + 1) c.loop-number.lines.rest.now c.in_default.ensures.none) c.loop-number.invariant
