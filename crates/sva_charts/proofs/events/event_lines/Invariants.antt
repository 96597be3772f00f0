use Rattle.std.proofs.Common.{length}
use Rattle.sva_charts.proofs.events.event_lines.Given as goal

-- what is left gets shorter
abbrev pub decreases-loop-number : goal.decreases-loop-number
decreases-loop-number l = length l.lines.rest.now
