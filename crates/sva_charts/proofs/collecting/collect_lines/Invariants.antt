use Rattle.std.proofs.Common.{◌≡◌, ◌+◌, [], true, length}
use Rattle.sva_script_reading.specs.Begins.{lines_from}
use Rattle.sva_script_reports.specs.Shows.{show_from}
use Rattle.sva_charts.proofs.collecting.collect_lines.Given as goal

-- what is kept behind the lines that are left is kept behind all, and nothing was written
abbrev pub invariant-loop-number : goal.invariant-loop-number
invariant-loop-number l = record {
  whole : show_from (record { is_config = true; running = l.initial.run }) (lines_from 1 l.text)
      ≡ show_from (record { is_config = l.is_config; running = l.run }) (lines_from (l.lines.number + 1) l.lines.rest.now);
  out : l.out.items ≡ [];
}

-- what is left gets shorter
abbrev pub decreases-loop-number : goal.decreases-loop-number
decreases-loop-number l = length l.lines.rest.now
