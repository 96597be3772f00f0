use Rattle.std.proofs.Common.{◌∙◌, ◌++◌, ap}
use Rattle.sva_driver_texts.specs.declared.kept.Text.{Text}
use Rattle.sva_driver_reports.specs.Reports.{report_text}
use Rattle.sva_driver_reports.proofs.Told.{told_by}
use Rattle.sva_driver_reports.proofs.judging.judge_read.Goals as goal

pub returns : goal.returns
returns g c =
    told_by c.args.text c.args.wanted c.in_ok-text.verdict c.args.out.now.items c.put_report.new.out.items _ c.in_ok-text.ensures.verdict
    c.in_ok-text.ensures.asked c.requires
    (c.in_ok-put_report.ensures
    ∙ ap (λ (text : Text). c.args.out.now.items ++ report_text text c.args.wanted.lines_alone c.in_ok-text.verdict) c.in_ok-text.ensures.text)
    c.ruling_of.ensures
