use Rattle.std.proofs.Common.{◌∙◌, ◌++◌, ◌+◌, ap}
use Rattle.sva_script_reading.specs.Begins.{lines_from}
use Rattle.sva_charts.specs.Witnesses.{first_line, heads_text, rows_from}
use Rattle.sva_charts.proofs.WitnessLemmas.{placed}
use Rattle.sva_charts.proofs.witness_rows.put_sketched.Goals as goal

pub returns : goal.returns
returns c =
    let events = lines_from (c.args.events.number + 1) c.args.events.rest.now in
    placed c.args.out.now.items c.extend_from_slice.new.self.items c.extend_from_slice-2.new.self.items c.put_heads.new.out.items _
    (first_line c.args.report.now) (heads_text c.args.sketch.now.heads.items) (rows_from c.args.sketch.now.rows.items 0 events)
    (c.in_ok-extend_from_slice.ensures.items ∙ ap (λ l. c.args.out.now.items ++ l) c.first_line.ensures)
    c.in_ok-extend_from_slice-2.ensures.items
    (c.in_ok-put_heads.ensures ∙ ap (λ heads. c.extend_from_slice-2.new.self.items ++ heads_text heads) c.as_slice.ensures.value)
    (c.in_ok-put_rows.ensures ∙ ap (λ rows. c.put_heads.new.out.items ++ rows_from rows 0 events) c.as_slice-2.ensures.value)
