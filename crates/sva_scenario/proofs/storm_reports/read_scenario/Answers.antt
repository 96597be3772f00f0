use Rattle.std.proofs.Common.{ap, Err}
use Rattle.sva_scenario.proofs.StormReportLemmas.{judged_unread, kept_judged}
use Rattle.sva_streams.proofs.EndLemmas.{ends_well, ends_not_by_reading, ends_by_writing, ends_for_memory}
use Rattle.sva_scenario.proofs.storm_reports.read_scenario.Goals as goal

pub returns-in_err-text-clause-judged : goal.returns-in_err-text-clause-judged
returns-in_err-text-clause-judged g c =
    judged_unread (g.R.Read.remaining c.args.reader.now.inner) (g.W.Write.contents c.args.writer.now.inner) c.in_err-text.field-0.0
    c.from_residual.result (λ is. c.in_err-text.ensures.write (ap Err is)) c.from_residual.ensures.1

pub returns-clause-judged : goal.returns-clause-judged
returns-clause-judged g c =
    kept_judged _ _ _ c.in_ok-text.text.items c.as_slice.result.now c.judge.result c.as_slice.ensures.value c.in_ok-text.ensures.ok c.judge.ensures.judged

pub returns-clause-end : goal.returns-clause-end
returns-clause-end g c =
    ends_well _ _ c.args.writer.now c.judge.new.writer c.judge.result c.in_ok-text.ensures.end c.requires.writer.1 c.judge.ensures.told

pub returns-clause-read : goal.returns-clause-read
returns-clause-read g c is =
    absurd (ends_not_by_reading c.args.writer.now c.judge.new.writer c.judge.result c.judge.ensures.told is)

pub returns-clause-write : goal.returns-clause-write
returns-clause-write g c is =
    ends_by_writing _ c.args.writer.now c.judge.new.writer c.judge.result c.in_ok-text.ensures.end.0 c.requires.writer.1 c.judge.ensures.told is

pub returns-clause-memory : goal.returns-clause-memory
returns-clause-memory g c is =
    ends_for_memory _ c.args.writer.now c.judge.new.writer c.judge.result c.in_ok-text.ensures.end.0 c.requires.writer.1 c.judge.ensures.told is

pub returns-clause-whole : goal.returns-clause-whole
returns-clause-whole g c is = c.in_ok-text.ensures.end.1
