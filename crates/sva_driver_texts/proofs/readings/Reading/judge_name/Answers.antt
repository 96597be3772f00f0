use Rattle.std.proofs.Common.{◌∙◌, List, ap, map, ℕ}
use denote.Ref.{Bor}
use Rattle.std.specs.Prelude.{option_map}
use Rattle.sva_driver_words.specs.Awaits.{line_seen}
use Rattle.sva_driver_texts.specs.Readings.{Reading, name_judged}
use Rattle.sva_driver_texts.proofs.readings.Reading.judge_name.Goals as goal

pub returns : goal.returns
returns c =
    c.judge_name.ensures
    ∙ ap (λ lines. name_judged (map line_seen lines) (option_map (λ (name : Bor (List ℕ)). name.now) c.args.name)) c.as_slice.ensures.value
    ∙ ap (λ (reading : Reading). name_judged reading.lines (option_map (λ (name : Bor (List ℕ)). name.now) c.args.name)) c.self.view_is
