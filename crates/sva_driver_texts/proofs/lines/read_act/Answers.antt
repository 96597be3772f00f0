use Rattle.std.proofs.Common.{List, map, rules, ℕ}
use denote.Ref.{Bor}
use Rattle.sva_script.specs.Lines.{parts_of, step_begins}
use Rattle.sva_driver_texts.specs.Readings.{saying_in}
use Rattle.sva_driver_texts.proofs.Takings.{placed_fails, said_fails}
use Rattle.sva_driver_texts.proofs.lines.read_act.Goals as goal

pub returns-in-Err-saying_in : goal.returns-in-Err-saying_in
returns-in-Err-saying_in c =
    let parts = parts_of (map {A = Bor (List ℕ)} {B = List ℕ} (λ word. word.now) c.args.words.now) in
    said_fails c.args.config.now c.args.reading.now parts c.args.thread.now c.place_stop.result (search rules) (search rules)
    (placed_fails c.parts_of-parts.result.step_at (step_begins parts)
    (saying_in c.args.config.now c.args.reading.now c.args.thread.now (map {A = Bor (List ℕ)} {B = List ℕ} (λ word. word.now) c.parts_of-parts.result.step.now))
    (saying_in c.args.config.now c.args.reading.now c.args.thread.now parts.step) c.in-Err-saying_in.why c.place_stop.result
    (search rules) (search rules) c.in-Err-saying_in.ensures c.place_stop.ensures)
