use Rattle.std.proofs.Common.{refl, rules, Ok, Err}
use Rattle.sva_charts.specs.Charts.{IsChart}
use Rattle.sva_streams.specs.declared.streams.DriveFault.TheVariants.{Memory}
use Rattle.sva_script_reading.specs.Said.{Prints, Said}
use Rattle.sva_script_reports.specs.Shows.{show_of}
use Rattle.sva_charts.proofs.charting.write_chart.Goals as goal

pub returns-in_err-write_all-in-Ok-clause-charted : goal.returns-in_err-write_all-in-Ok-clause-charted
returns-in_err-write_all-in-Ok-clause-charted g c =
    let said : Said = record { text = c.put_chart.new.out.items; outcome = c.in-Ok.outcome } in
    let is : IsChart (show_of c.args.text.now) said = search rules in
    let prints : Prints said (g.W.Write.contents c.args.writer.now.inner) (g.W.Write.contents c.write_all.new.writer.inner) c.from_residual.result
    = search rules in
    (said, is, prints)

pub returns-in-Ok-clause-charted : goal.returns-in-Ok-clause-charted
returns-in-Ok-clause-charted g c =
    let said : Said = record { text = c.put_chart.new.out.items; outcome = c.in-Ok.outcome } in
    let is : IsChart (show_of c.args.text.now) said = search rules in
    let prints : Prints said (g.W.Write.contents c.args.writer.now.inner) (g.W.Write.contents c.write_all.new.writer.inner) (Ok c.in-Ok.outcome)
    = search rules in
    (said, is, prints)

pub returns-clause-charted : goal.returns-clause-charted
returns-clause-charted g c =
    let shown = show_of c.args.text.now in
    let contents = g.W.Write.contents c.args.writer.now.inner in
    let prints : Prints shown contents contents (Err Memory) = search rules in
    (shown, (refl, λ wrong. refl), prints)
