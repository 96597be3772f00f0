use Rattle.sva_streams.proofs.EndLemmas.{ends_well, ends_not_by_reading, ends_by_writing, ends_for_memory}
use Rattle.sva_charts.proofs.WitnessLemmas.{kept_charted}
use Rattle.sva_charts.proofs.driver_charting.chart_driver.Goals as goal

pub returns-clause-charted : goal.returns-clause-charted
returns-clause-charted g c =
    kept_charted _ _ _ c.args.most c.in_ok-text.text.items c.as_slice.result.now c.tell_charted.result c.as_slice.ensures.value
    c.in_ok-text.ensures.ok c.tell_charted.ensures.charted

pub returns-clause-end : goal.returns-clause-end
returns-clause-end g c =
    ends_well _ _ c.args.writer.now c.tell_charted.new.writer c.tell_charted.result c.in_ok-text.ensures.end c.requires.writer.1
    c.tell_charted.ensures.told

pub returns-clause-read : goal.returns-clause-read
returns-clause-read g c is = absurd (ends_not_by_reading c.args.writer.now c.tell_charted.new.writer c.tell_charted.result c.tell_charted.ensures.told is)

pub returns-clause-write : goal.returns-clause-write
returns-clause-write g c is =
    ends_by_writing _ c.args.writer.now c.tell_charted.new.writer c.tell_charted.result c.in_ok-text.ensures.end.0 c.requires.writer.1
    c.tell_charted.ensures.told is

pub returns-clause-memory : goal.returns-clause-memory
returns-clause-memory g c is =
    ends_for_memory _ c.args.writer.now c.tell_charted.new.writer c.tell_charted.result c.in_ok-text.ensures.end.0 c.requires.writer.1
    c.tell_charted.ensures.told is
