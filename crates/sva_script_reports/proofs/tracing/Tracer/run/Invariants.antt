use Rattle.std.proofs.Common.{◌≡◌, ◌*◌, ◌≤◌}
use Rattle.sva_script_reports.specs.Traces.{NoEnd}
use Rattle.sva_script_reports.proofs.InputLemmas.{TracesInput}
use Rattle.sva_script_reports.proofs.tracing.Tracer.run.Given as goal

-- what was written so far, and what is said of the rest, are the whole; no call failed
abbrev pub invariant-loop-turn : goal.invariant-loop-turn
invariant-loop-turn g l = record {
  traced : TracesInput g.E.Explains.explained l.fn.self.style (g.R.Read.remaining l.fn.reader.inner) (g.R.Read.remaining l.reader.inner)
      (g.W.Write.contents l.fn.writer.inner)
      (g.W.Write.contents l.writer.inner) l.self l.held.items;
  no_end : NoEnd l.held.items;
  lines : l.self.lines ≤ 4096 * l._turn;
  calls : l.reader.calls ≡ l._turn;
  read : l.reader.failures ≡ 0;
  written : l.writer.failures ≡ 0;
}
