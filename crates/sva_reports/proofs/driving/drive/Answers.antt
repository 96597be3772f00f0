use Rattle.sva_reports.specs.Report.{outcome_by, report_by}
use Rattle.sva_reports.proofs.ScriptLemmas.{kept_report, kept_outcome}
use Rattle.sva_streams.proofs.EndLemmas.{ends_well, ends_not_by_reading, ends_by_writing, ends_for_memory}
use Rattle.sva_reports.proofs.driving.drive.Goals as goal

pub returns-clause-report : goal.returns-clause-report
returns-clause-report g c =
    kept_report report_by _ _ _ c.in_ok-text.text.items c.as_slice.result.now c.report_text.result c.as_slice.ensures.value c.in_ok-text.ensures.ok
    c.report_text.ensures.report

pub returns-clause-outcome : goal.returns-clause-outcome
returns-clause-outcome g c =
    kept_outcome outcome_by _ c.in_ok-text.text.items c.as_slice.result.now c.report_text.result c.as_slice.ensures.value c.in_ok-text.ensures.ok
    c.report_text.ensures.outcome

pub returns-clause-end : goal.returns-clause-end
returns-clause-end g c =
    ends_well _ _ c.args.writer.now c.report_text.new.writer c.report_text.result c.in_ok-text.ensures.end c.requires.writer.1 c.report_text.ensures.told

pub returns-clause-read : goal.returns-clause-read
returns-clause-read g c is =
    absurd (ends_not_by_reading c.args.writer.now c.report_text.new.writer c.report_text.result c.report_text.ensures.told is)

pub returns-clause-write : goal.returns-clause-write
returns-clause-write g c is =
    ends_by_writing _ c.args.writer.now c.report_text.new.writer c.report_text.result c.in_ok-text.ensures.end.0 c.requires.writer.1
    c.report_text.ensures.told is

pub returns-clause-memory : goal.returns-clause-memory
returns-clause-memory g c is =
    ends_for_memory _ c.args.writer.now c.report_text.new.writer c.report_text.result c.in_ok-text.ensures.end.0 c.requires.writer.1
    c.report_text.ensures.told is

pub returns-clause-whole : goal.returns-clause-whole
returns-clause-whole g c is = c.in_ok-text.ensures.end.1
