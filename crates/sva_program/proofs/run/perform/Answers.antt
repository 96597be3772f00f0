use Rattle.std.proofs.Common.{IfSome, ap, subst, sym}
use Rattle.std.proofs.lemmas.Result.{IfOk-weaker}
use Rattle.sva_reports.specs.Report.{check_of, check_outcome_of, outcome_of, report_of}
use Rattle.sva_scenario.specs.StormReports.{StormsOf}
use Rattle.sva_charts.specs.Charts.{Charts}
use Rattle.sva_script_reading.specs.Said.{Prints}
use Rattle.sva_script_reports.specs.Scripts.{plain_of, test_of}
use Rattle.sva_script_reports.specs.Shows.{show_of}
use Rattle.sva_script_reports.specs.Whys.{whys_of}
use Rattle.sva_script_reports.specs.Traces.{trace_of}
use Rattle.sva_why.specs.Why.{why_of}
use Rattle.sva_race_reports.specs.Explored.{Explores}
use Rattle.sva_driver_reports.specs.declared.wanted.Wanted.{Wanted}
use Rattle.sva_program.specs.Run.{Reports, RulesBy, RulesIf, WhereKnown, wanted_of}
use Rattle.sva_program.proofs.RunLemmas.{caused, caused_exploring, caused_ruling, caused_run, printed, reported, run_reported}
use Rattle.sva_program.proofs.run.perform.Goals as goal

pub returns-in-Replay-clause-report : goal.returns-in-Replay-clause-report
returns-in-Replay-clause-report g c =
    let found = c.drive in
    let input = g.R.Read.remaining c.args.reader.now.inner in
    let old = g.W.Write.contents c.args.writer.now.inner in
    let new = g.W.Write.contents found.new.writer.inner in
    subst (λ a. Reports a input old new c.ran.result) (sym c.in-Replay.is) (
      found.result,
      c.ran.ensures,
      (run_reported report_of outcome_of input old new found.result found.ensures.report found.ensures.outcome
          (λ read. ap (λ told. g.W.Write.contents told.inner) (found.ensures.read read).0)),
    )

pub returns-in-Replay-clause-cause : goal.returns-in-Replay-clause-cause
returns-in-Replay-clause-cause g c =
    let found = c.drive in
    let none = IfOk-weaker found.result _ _ (λ _ e. (e.0, e.2)) found.ensures.end in
    caused_run found.new.reader found.new.writer found.result c.ran.result c.ran.ensures
    (caused found.new.reader found.new.writer found.result none (λ read. (found.ensures.read read).1) found.ensures.write found.ensures.memory)

pub returns-in-Check-clause-report : goal.returns-in-Check-clause-report
returns-in-Check-clause-report g c =
    let found = c.check in
    let input = g.R.Read.remaining c.args.reader.now.inner in
    let old = g.W.Write.contents c.args.writer.now.inner in
    let new = g.W.Write.contents found.new.writer.inner in
    subst (λ a. Reports a input old new c.ran-in-Check.result) (sym c.in-Check.is) (
      found.result,
      c.ran-in-Check.ensures,
      (run_reported check_of check_outcome_of input old new found.result found.ensures.report found.ensures.outcome
          (λ read. ap (λ told. g.W.Write.contents told.inner) (found.ensures.read read).0)),
    )

pub returns-in-Check-clause-cause : goal.returns-in-Check-clause-cause
returns-in-Check-clause-cause g c =
    let found = c.check in
    let none = IfOk-weaker found.result _ _ (λ _ e. (e.0, e.2)) found.ensures.end in
    caused_run found.new.reader found.new.writer found.result c.ran-in-Check.result c.ran-in-Check.ensures
    (caused found.new.reader found.new.writer found.result none (λ read. (found.ensures.read read).1) found.ensures.write found.ensures.memory)

pub returns-in-Storm-clause-report : goal.returns-in-Storm-clause-report
returns-in-Storm-clause-report g c =
    let found = c.drive_storm in
    let input = g.R.Read.remaining c.args.reader.now.inner in
    let old = g.W.Write.contents c.args.writer.now.inner in
    let new = g.W.Write.contents found.new.writer.inner in
    subst (λ a. Reports a input old new c.ran-in-Storm.result) (sym c.in-Storm.is) (
      found.result,
      c.ran-in-Storm.ensures,
      (reported (λ text. StormsOf text c.in-Storm.turns old new found.result) input old new found.result found.ensures.report
          (λ read. ap (λ told. g.W.Write.contents told.inner) (found.ensures.read read).0)),
    )

pub returns-in-Storm-clause-cause : goal.returns-in-Storm-clause-cause
returns-in-Storm-clause-cause g c =
    let found = c.drive_storm in
    let none = IfOk-weaker found.result _ _ (λ _ e. (e.0, e.2)) found.ensures.end in
    caused_run found.new.reader found.new.writer found.result c.ran-in-Storm.result c.ran-in-Storm.ensures
    (caused found.new.reader found.new.writer found.result none (λ read. (found.ensures.read read).1) found.ensures.write found.ensures.memory)

pub returns-in-Plain-clause-report : goal.returns-in-Plain-clause-report
returns-in-Plain-clause-report g c =
    let found = c.print in
    let input = g.R.Read.remaining c.args.reader.now.inner in
    let old = g.W.Write.contents c.args.writer.now.inner in
    let new = g.W.Write.contents found.new.writer.inner in
    subst (λ a. Reports a input old new c.ran-in-Plain.result) (sym c.in-Plain.is) (
      found.result,
      c.ran-in-Plain.ensures,
      (printed plain_of input old new found.result found.ensures.printed
          (λ read. ap (λ told. g.W.Write.contents told.inner) (found.ensures.read read).0)),
    )

pub returns-in-Plain-clause-cause : goal.returns-in-Plain-clause-cause
returns-in-Plain-clause-cause g c =
    let found = c.print in
    let none = IfOk-weaker found.result _ _ (λ _ e. (e.0, e.2)) found.ensures.end in
    caused_run found.new.reader found.new.writer found.result c.ran-in-Plain.result c.ran-in-Plain.ensures
    (caused found.new.reader found.new.writer found.result none (λ read. (found.ensures.read read).1) found.ensures.write found.ensures.memory)

pub returns-in-Test-clause-report : goal.returns-in-Test-clause-report
returns-in-Test-clause-report g c =
    let found = c.print-in-Test in
    let input = g.R.Read.remaining c.args.reader.now.inner in
    let old = g.W.Write.contents c.args.writer.now.inner in
    let new = g.W.Write.contents found.new.writer.inner in
    subst (λ a. Reports a input old new c.ran-in-Test.result) (sym c.in-Test.is) (
      found.result,
      c.ran-in-Test.ensures,
      (printed (test_of why_of) input old new found.result found.ensures.printed
          (λ read. ap (λ told. g.W.Write.contents told.inner) (found.ensures.read read).0)),
    )

pub returns-in-Test-clause-cause : goal.returns-in-Test-clause-cause
returns-in-Test-clause-cause g c =
    let found = c.print-in-Test in
    let none = IfOk-weaker found.result _ _ (λ _ e. (e.0, e.2)) found.ensures.end in
    caused_run found.new.reader found.new.writer found.result c.ran-in-Test.result c.ran-in-Test.ensures
    (caused found.new.reader found.new.writer found.result none (λ read. (found.ensures.read read).1) found.ensures.write found.ensures.memory)

pub returns-in-Show-clause-report : goal.returns-in-Show-clause-report
returns-in-Show-clause-report g c =
    let found = c.print-in-Show in
    let input = g.R.Read.remaining c.args.reader.now.inner in
    let old = g.W.Write.contents c.args.writer.now.inner in
    let new = g.W.Write.contents found.new.writer.inner in
    subst (λ a. Reports a input old new c.ran-in-Show.result) (sym c.in-Show.is) (
      found.result,
      c.ran-in-Show.ensures,
      (printed show_of input old new found.result found.ensures.printed
          (λ read. ap (λ told. g.W.Write.contents told.inner) (found.ensures.read read).0)),
    )

pub returns-in-Show-clause-cause : goal.returns-in-Show-clause-cause
returns-in-Show-clause-cause g c =
    let found = c.print-in-Show in
    let none = IfOk-weaker found.result _ _ (λ _ e. (e.0, e.2)) found.ensures.end in
    caused_run found.new.reader found.new.writer found.result c.ran-in-Show.result c.ran-in-Show.ensures
    (caused found.new.reader found.new.writer found.result none (λ read. (found.ensures.read read).1) found.ensures.write found.ensures.memory)

pub returns-in-Why-clause-report : goal.returns-in-Why-clause-report
returns-in-Why-clause-report g c =
    let found = c.print-in-Why in
    let input = g.R.Read.remaining c.args.reader.now.inner in
    let old = g.W.Write.contents c.args.writer.now.inner in
    let new = g.W.Write.contents found.new.writer.inner in
    subst (λ a. Reports a input old new c.ran-in-Why.result) (sym c.in-Why.is) (
      found.result,
      c.ran-in-Why.ensures,
      (printed (whys_of why_of) input old new found.result found.ensures.printed
          (λ read. ap (λ told. g.W.Write.contents told.inner) (found.ensures.read read).0)),
    )

pub returns-in-Why-clause-cause : goal.returns-in-Why-clause-cause
returns-in-Why-clause-cause g c =
    let found = c.print-in-Why in
    let none = IfOk-weaker found.result _ _ (λ _ e. (e.0, e.2)) found.ensures.end in
    caused_run found.new.reader found.new.writer found.result c.ran-in-Why.result c.ran-in-Why.ensures
    (caused found.new.reader found.new.writer found.result none (λ read. (found.ensures.read read).1) found.ensures.write found.ensures.memory)

pub returns-in-Explore-clause-report : goal.returns-in-Explore-clause-report
returns-in-Explore-clause-report g c =
    let found = c.explore in
    let input = g.R.Read.remaining c.args.reader.now.inner in
    let old = g.W.Write.contents c.args.writer.now.inner in
    let new = g.W.Write.contents found.new.writer.inner in
    subst (λ a. Reports a input old new c.explored.result) (sym c.in-Explore.is) (
      found.result,
      c.explored.ensures,
      (reported (λ text. Explores why_of text (wanted_of c.in-Explore.most c.in-Explore.whys c.in-Explore.few_ends) old new found.result) input old
          new found.result
          (subst (λ wanted. IfSome input (λ text. Explores why_of text wanted old new found.result)) c.wanted_of-wanted.ensures found.ensures.explored)
          (λ read. ap (λ told. g.W.Write.contents told.inner) (found.ensures.read read).0)),
    )

pub returns-in-Explore-clause-cause : goal.returns-in-Explore-clause-cause
returns-in-Explore-clause-cause g c =
    let found = c.explore in
    let none = IfOk-weaker found.result _ _ (λ _ e. (e.0, e.2)) found.ensures.end in
    caused_exploring found.new.reader found.new.writer found.result c.explored.result c.explored.ensures
    (caused found.new.reader found.new.writer found.result none (λ read. (found.ensures.read read).1) found.ensures.write found.ensures.memory)

pub returns-in-Chart-clause-report : goal.returns-in-Chart-clause-report
returns-in-Chart-clause-report g c =
    let found = c.chart in
    let input = g.R.Read.remaining c.args.reader.now.inner in
    let old = g.W.Write.contents c.args.writer.now.inner in
    let new = g.W.Write.contents found.new.writer.inner in
    subst (λ a. Reports a input old new c.ran-in-Chart.result) (sym c.in-Chart.is) (
      found.result,
      c.ran-in-Chart.ensures,
      (reported (λ text. Charts text old new found.result) input old new found.result found.ensures.charted
          (λ read. ap (λ told. g.W.Write.contents told.inner) (found.ensures.read read).0)),
    )

pub returns-in-Chart-clause-cause : goal.returns-in-Chart-clause-cause
returns-in-Chart-clause-cause g c =
    let found = c.chart in
    let none = IfOk-weaker found.result _ _ (λ _ e. (e.0, e.2)) found.ensures.end in
    caused_run found.new.reader found.new.writer found.result c.ran-in-Chart.result c.ran-in-Chart.ensures
    (caused found.new.reader found.new.writer found.result none (λ read. (found.ensures.read read).1) found.ensures.write found.ensures.memory)

pub returns-in-Trace-clause-report : goal.returns-in-Trace-clause-report
returns-in-Trace-clause-report g c =
    let found = c.trace in
    let input = g.R.Read.remaining c.args.reader.now.inner in
    let old = g.W.Write.contents c.args.writer.now.inner in
    let new = g.W.Write.contents found.new.writer.inner in
    subst (λ a. Reports a input old new c.ran-in-Trace.result) (sym c.in-Trace.is) (
      found.result,
      c.ran-in-Trace.ensures,
      (subst (λ style. IfSome input (λ text. Prints (trace_of why_of style text) old new found.result)) c.style_of.ensures found.ensures.printed),
    )

pub returns-in-Trace-clause-cause : goal.returns-in-Trace-clause-cause
returns-in-Trace-clause-cause g c =
    let found = c.trace in
    let none = IfOk-weaker found.result _ _ (λ _ e. (e.0, e.2)) found.ensures.end in
    caused_run found.new.reader found.new.writer found.result c.ran-in-Trace.result c.ran-in-Trace.ensures
    (caused found.new.reader found.new.writer found.result none (λ read. (found.ensures.read read).1) found.ensures.write found.ensures.memory)

pub returns-in-Judge-clause-report : goal.returns-in-Judge-clause-report
returns-in-Judge-clause-report g c =
    let found = c.rule_by in
    let input = g.R.Read.remaining c.args.reader.now.inner in
    let old = g.W.Write.contents c.args.writer.now.inner in
    let new = g.W.Write.contents found.new.writer.inner in
    subst (λ a. Reports a input old new c.ruled.result) (sym c.in-Judge.is) (
      found.result,
      c.ruled.ensures,
      subst (λ (wanted : Wanted). WhereKnown (λ text. RulesBy c.in-Judge.run' c.in-Judge.beside wanted text old new found.result) input old new found.result)
          c.wanted_of_driver-wanted.ensures
          (subst (λ question. WhereKnown (λ text. RulesIf c.in-Judge.beside.chart c.in-Judge.run' question c.wanted_of_driver-wanted.result text old new found.result)
          input old new found.result) c.question_of-question.ensures found.ensures.ruled),
    )

pub returns-in-Judge-clause-cause : goal.returns-in-Judge-clause-cause
returns-in-Judge-clause-cause g c =
    let found = c.rule_by in
    caused_ruling found.new.reader found.new.writer found.result c.ruled.result c.ruled.ensures found.ensures.cause
