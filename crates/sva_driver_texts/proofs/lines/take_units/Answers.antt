use Rattle.std.proofs.Common.{◌∙◌, ◌++◌, ◌∷◌, [], List, map, ℕ}
use denote.Ref.{Bor}
use Rattle.sva_driver_texts.proofs.Takings.{unit_fails, unit_right}
use Rattle.sva_driver_texts.proofs.lines.take_units.Goals as goal

pub returns-in-Ok-set_units : goal.returns-in-Ok-set_units
returns-in-Ok-set_units c =
    let words = map {A = Bor (List ℕ)} {B = List ℕ} (λ word. word.now) c.args.words.now in
    unit_right c.args.config.now c.args.reading.now words c.in-Ok.units.items c.set_units.new.self c.in-Ok.ensures
    (c.in-Ok-set_units.ensures
    ∙ (λ i. record c.args.reading.now { units = c.in-Ok.units.items; set = c.args.reading.now.set ++ c.word_at.ensures i ∷ [] }))

pub returns-in-Err : goal.returns-in-Err
returns-in-Err c =
    let words = map {A = Bor (List ℕ)} {B = List ℕ} (λ word. word.now) c.args.words.now in
    unit_fails c.args.config.now c.args.reading.now words c.in-Err.why c.in-Err.ensures
