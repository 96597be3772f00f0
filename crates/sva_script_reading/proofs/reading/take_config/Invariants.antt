use Rattle.std.proofs.Common.{◌≡◌, ◌+◌, length}
use Rattle.sva_script_reading.specs.Begins.{config_in, lines_from}
use Rattle.sva_script_reading.proofs.reading.take_config.Given as goal

-- the config is that of the lines that are left, and nothing was told
abbrev pub invariant-loop-number : goal.invariant-loop-number
invariant-loop-number l = record {
  config : config_in l.initial.lines.number (lines_from (l.initial.lines.number + 1) l.initial.lines.rest.now)
      ≡ config_in l.lines.number (lines_from (l.lines.number + 1) l.lines.rest.now);
  told : l.faults.items ≡ l.initial.faults.items;
}

-- what is left gets shorter
abbrev pub decreases-loop-number : goal.decreases-loop-number
decreases-loop-number l = length l.lines.rest.now
