use Rattle.sva_streams.proofs.EndLemmas.{ends_well, ends_not_by_reading, ends_by_writing, ends_for_memory}
use Rattle.sva_variants.proofs.Answered.{kept_told}
use Rattle.sva_variants.proofs.driving.vary.Goals as goal

pub returns-clause-varied : goal.returns-clause-varied
returns-clause-varied g c =
    kept_told c.args.question _ _ _ c.args.most c.in_ok-text.text.items c.as_slice.result.now c.tell.result c.as_slice.ensures.value c.in_ok-text.ensures.ok
    c.tell.ensures.varied

pub returns-clause-end : goal.returns-clause-end
returns-clause-end g c =
    ends_well _ _ c.args.writer.now c.tell.new.writer c.tell.result c.in_ok-text.ensures.end c.requires.writer.1 c.tell.ensures.told

pub returns-clause-read : goal.returns-clause-read
returns-clause-read g c is = absurd (ends_not_by_reading c.args.writer.now c.tell.new.writer c.tell.result c.tell.ensures.told is)

pub returns-clause-write : goal.returns-clause-write
returns-clause-write g c is =
    ends_by_writing _ c.args.writer.now c.tell.new.writer c.tell.result c.in_ok-text.ensures.end.0 c.requires.writer.1 c.tell.ensures.told is

pub returns-clause-memory : goal.returns-clause-memory
returns-clause-memory g c is =
    ends_for_memory _ c.args.writer.now c.tell.new.writer c.tell.result c.in_ok-text.ensures.end.0 c.requires.writer.1 c.tell.ensures.told is
