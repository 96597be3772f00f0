use Rattle.sva_streams.proofs.EndLemmas.{ends_well, ends_not_by_reading, ends_by_writing, ends_for_memory}
use Rattle.sva_driver_reports.proofs.RunFronts.{kept_judged}
use Rattle.sva_driver_reports.proofs.driving.judge.Goals as goal

pub returns-clause-judged : goal.returns-clause-judged
returns-clause-judged g c =
    kept_judged _ _ _ c.args.wanted c.in_ok-text.text.items c.as_slice.result.now c.tell_judged.result c.as_slice.ensures.value c.in_ok-text.ensures.ok
    c.tell_judged.ensures.judged

pub returns-clause-end : goal.returns-clause-end
returns-clause-end g c =
    ends_well _ _ c.args.writer.now c.tell_judged.new.writer c.tell_judged.result c.in_ok-text.ensures.end c.requires.writer.1 c.tell_judged.ensures.told

pub returns-clause-read : goal.returns-clause-read
returns-clause-read g c is = absurd (ends_not_by_reading c.args.writer.now c.tell_judged.new.writer c.tell_judged.result c.tell_judged.ensures.told is)

pub returns-clause-write : goal.returns-clause-write
returns-clause-write g c is =
    ends_by_writing _ c.args.writer.now c.tell_judged.new.writer c.tell_judged.result c.in_ok-text.ensures.end.0
    c.requires.writer.1 c.tell_judged.ensures.told is

pub returns-clause-memory : goal.returns-clause-memory
returns-clause-memory g c is =
    ends_for_memory _ c.args.writer.now c.tell_judged.new.writer c.tell_judged.result c.in_ok-text.ensures.end.0
    c.requires.writer.1 c.tell_judged.ensures.told is
