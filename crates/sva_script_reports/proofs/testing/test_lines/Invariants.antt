use Rattle.std.proofs.Common.{◌≡◌, ◌+◌, ◌<◌, ◌^◌, [], false, true, length}
use Rattle.sva_script_reading.specs.Begins.{lines_from}
use Rattle.sva_script_reports.specs.Scripts.{test_from}
use Rattle.sva_script_reports.proofs.testing.test_lines.Given as goal

-- the answers that were as expected and the lines that are left make the whole; nothing was written, and no line counts twice
abbrev pub invariant-loop-number : goal.invariant-loop-number
invariant-loop-number g l = record {
  whole : test_from g.E.Explains.explained 0 false (record { is_config = true; running = l.initial.run }) (lines_from 1 l.text)
      ≡ test_from g.E.Explains.explained l.count l.is_past (record { is_config = l.is_config; running = l.run })
      (lines_from (l.lines.number + 1) l.lines.rest.now);
  out : l.out.items ≡ [];
  few : l.count + length l.lines.rest.now < 2 ^ 64;
}

-- what is left gets shorter
abbrev pub decreases-loop-number : goal.decreases-loop-number
decreases-loop-number g l = length l.lines.rest.now
