use Rattle.std.proofs.Common.{◌+◌}
use Rattle.sva_script_reading.specs.Begins.{lines_from}
use Rattle.sva_charts.proofs.WitnessLemmas.{has_chart}
use Rattle.sva_charts.proofs.driver_charting.put_chart.Goals as goal

pub returns-in_ok-put_sketched-in-Some : goal.returns-in_ok-put_sketched-in-Some
returns-in_ok-put_sketched-in-Some c =
    let events = lines_from (c.in-Some.events.number + 1) c.in-Some.events.rest.now in
    has_chart c.args.report.now c.in_ok-sketch-in-Some.sketch events c.args.out.now.items _ c.in-Some.ensures c.requires
    c.in_ok-put_sketched-in-Some.ensures
