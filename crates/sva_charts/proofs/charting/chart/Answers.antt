use Rattle.std.proofs.Common.{rules}
use Rattle.sva_streams.proofs.EndLemmas.{ends_well, ends_not_by_reading, ends_by_writing, ends_for_memory}
use Rattle.sva_charts.proofs.ChartLemmas.{kept_chart, unread}
use Rattle.sva_charts.proofs.charting.chart.Goals as goal

pub returns-clause-charted : goal.returns-clause-charted
returns-clause-charted g c =
    kept_chart _ _ _ c.in_ok-text.text.items c.as_slice.result.now c.write_chart.result c.as_slice.ensures.value c.in_ok-text.ensures.ok
    c.write_chart.ensures.charted

pub returns-clause-end : goal.returns-clause-end
returns-clause-end g c =
    ends_well _ _ c.args.writer.now c.write_chart.new.writer c.write_chart.result c.in_ok-text.ensures.end c.requires.writer.1 c.write_chart.ensures.told

pub returns-clause-read : goal.returns-clause-read
returns-clause-read g c is = absurd (ends_not_by_reading c.args.writer.now c.write_chart.new.writer c.write_chart.result c.write_chart.ensures.told is)

pub returns-clause-write : goal.returns-clause-write
returns-clause-write g c is =
    ends_by_writing _ c.args.writer.now c.write_chart.new.writer c.write_chart.result c.in_ok-text.ensures.end.0 c.requires.writer.1
    c.write_chart.ensures.told is

pub returns-clause-memory : goal.returns-clause-memory
returns-clause-memory g c is =
    ends_for_memory _ c.args.writer.now c.write_chart.new.writer c.write_chart.result c.in_ok-text.ensures.end.0 c.requires.writer.1
    c.write_chart.ensures.told is

pub returns-in_err-text-clause-charted : goal.returns-in_err-text-clause-charted
returns-in_err-text-clause-charted g c =
    unread (g.R.Read.remaining c.args.reader.now.inner) (g.W.Write.contents c.args.writer.now.inner) c.from_residual.result (search rules)
