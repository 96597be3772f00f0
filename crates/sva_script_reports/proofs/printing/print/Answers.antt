use Rattle.sva_streams.proofs.EndLemmas.{ends_well, ends_not_by_reading, ends_by_writing, ends_for_memory}
use Rattle.sva_script_reports.proofs.FrontLemmas.{kept_print}
use Rattle.sva_script_reports.proofs.printing.print.Goals as goal

pub returns-clause-printed : goal.returns-clause-printed
returns-clause-printed g c =
    kept_print g.E.Explains.explained c.args.saying _ _ _ c.in_ok-text.text.items c.as_slice.result.now c.print_text.result c.as_slice.ensures.value
    c.in_ok-text.ensures.ok
    c.print_text.ensures.printed

pub returns-clause-end : goal.returns-clause-end
returns-clause-end g c =
    ends_well _ _ c.args.writer.now c.print_text.new.writer c.print_text.result c.in_ok-text.ensures.end c.requires.writer.1 c.print_text.ensures.told

pub returns-clause-read : goal.returns-clause-read
returns-clause-read g c is = absurd (ends_not_by_reading c.args.writer.now c.print_text.new.writer c.print_text.result c.print_text.ensures.told is)

pub returns-clause-write : goal.returns-clause-write
returns-clause-write g c is =
    ends_by_writing _ c.args.writer.now c.print_text.new.writer c.print_text.result c.in_ok-text.ensures.end.0 c.requires.writer.1 c.print_text.ensures.told is

pub returns-clause-memory : goal.returns-clause-memory
returns-clause-memory g c is =
    ends_for_memory _ c.args.writer.now c.print_text.new.writer c.print_text.result c.in_ok-text.ensures.end.0 c.requires.writer.1 c.print_text.ensures.told is

pub returns-clause-whole : goal.returns-clause-whole
returns-clause-whole g c is = c.in_ok-text.ensures.end.1
