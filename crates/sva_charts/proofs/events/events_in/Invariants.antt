use Rattle.std.proofs.Common.{◌≡◌, ◌+◌, length}
use Rattle.sva_script_reading.specs.Begins.{lines_from}
use Rattle.sva_charts.specs.Witnesses.{behind_race, events_in}
use Rattle.sva_charts.proofs.events.events_in.Given as goal

-- no line so far is `# race`
abbrev pub invariant-loop-number : goal.invariant-loop-number
invariant-loop-number l = behind_race (lines_from (l.lines.number + 1) l.lines.rest.now) ≡ events_in l.report

-- what is left gets shorter
abbrev pub decreases-loop-number : goal.decreases-loop-number
decreases-loop-number l = length l.lines.rest.now
