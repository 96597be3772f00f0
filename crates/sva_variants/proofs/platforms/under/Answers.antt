use Rattle.std.proofs.Common.{◌∙◌, ◌++◌, ◌+◌, ap}
use Rattle.sva_script_reading.proofs.BeginLemmas.{no_lines}
use Rattle.sva_script_reading.specs.Begins.{lines_from}
use Rattle.sva_variants.specs.Platforms.{line_under, worded_under}
use Rattle.sva_variants.proofs.CutLemmas.{kept_end, kept_next, said}
use Rattle.sva_variants.proofs.platforms.under.Goals as goal

pub loop-number-preserved : goal.loop-number-preserved
loop-number-preserved c =
    kept_next _ (lines_from (c.next.new.self.number + 1) c.next.new.self.rest.now) (c.in-Some._number, c.in-Some.line.now) c.in-Some.ensures.line
    (line_under c.args.settings.now) c.loop-number.out.items _ _
    (c.in_ok-put_under.ensures
    ∙ ap (λ words. c.loop-number.out.items ++ worded_under c.args.settings.now c.in-Some.line.now words)
    (ap said c.as_slice.ensures.value ∙ c.in_ok-split.ensures))
    c.loop-number.invariant

pub returns : goal.returns
returns c =
    kept_end (line_under c.args.settings.now) _ c.loop-number.out.items _
    (no_lines (c.loop-number.lines.number + 1) c.loop-number.lines.rest.now c.in_default.ensures.none) c.loop-number.invariant
