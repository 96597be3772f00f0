use Rattle.std.proofs.Common.{◌≡◌, ◌==◌, ◌+◌, true, false, rules}
use Rattle.sva_script_reading.proofs.BeginLemmas.{no_lines}
use Rattle.sva_script_reading.specs.Begins.{lines_from}
use Rattle.sva_located.proofs.LineLemmas.{line_met, line_passed, no_line}
use Rattle.sva_located.proofs.columns.line_at.Goals as goal

pub returns-then-number-wanted : goal.returns-then-number-wanted
returns-then-number-wanted c =
    let it : (c.in-Some.number == c.args.wanted) ≡ true = search rules in
    line_met c.args.wanted _ (lines_from (c.next.new.self.number + 1) c.next.new.self.rest.now) (c.in-Some.number, c.in-Some.line.now) _
    c.in-Some.ensures.line it
    c.loop-number.invariant

pub loop-number-preserved : goal.loop-number-preserved
loop-number-preserved c =
    let other : (c.in-Some.number == c.args.wanted) ≡ false = search rules in
    line_passed c.args.wanted _ (lines_from (c.next.new.self.number + 1) c.next.new.self.rest.now) (c.in-Some.number, c.in-Some.line.now) _
    c.in-Some.ensures.line other c.loop-number.invariant

pub returns : goal.returns
returns c =
    no_line c.args.wanted _ _ (no_lines (c.loop-number.lines.number + 1) c.loop-number.lines.rest.now c.in_default.ensures.none) c.loop-number.invariant
