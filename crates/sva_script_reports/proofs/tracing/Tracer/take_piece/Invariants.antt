use Rattle.std.proofs.Common.{◌+◌, ◌≤◌, length}
use Rattle.sva_script_reports.proofs.TraceLemmas.{TracedSoFar}
use Rattle.sva_script_reports.proofs.tracing.Tracer.take_piece.Given as goal

-- what was said so far, and what is held and left of the piece
abbrev pub invariant-loop-end : goal.invariant-loop-end
invariant-loop-end g l = record {
  so_far : TracedSoFar g.E.Explains.explained l.initial.self l.self l.initial.held.items l.piece l.held.items l.rest l.initial.out.items l.out.items;
  few : l.self.lines + length l.rest ≤ l.initial.self.lines + length l.piece;
}

-- what is left gets shorter
abbrev pub decreases-loop-end : goal.decreases-loop-end
decreases-loop-end g l = length l.rest
