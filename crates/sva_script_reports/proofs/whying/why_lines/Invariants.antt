use Rattle.std.proofs.Common.{◌≡◌, ◌+◌, [], true, length}
use Rattle.sva_script_reading.specs.Begins.{lines_from}
use Rattle.sva_script_reports.specs.Whys.{why_from}
use Rattle.sva_script_reports.proofs.whying.why_lines.Given as goal

-- what was written so far and the lines that are left make the whole
abbrev pub invariant-loop-number : goal.invariant-loop-number
invariant-loop-number g l =
    why_from g.E.Explains.explained [] (record { is_config = true; running = l.initial.run }) (lines_from 1 l.text)
    ≡ why_from g.E.Explains.explained l.out.items (record { is_config = l.is_config; running = l.run }) (lines_from (l.lines.number + 1) l.lines.rest.now)

-- what is left gets shorter
abbrev pub decreases-loop-number : goal.decreases-loop-number
decreases-loop-number g l = length l.lines.rest.now
