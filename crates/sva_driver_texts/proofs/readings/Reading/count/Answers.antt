use Rattle.std.proofs.Common.{◌≡◌, ◌∙◌, ap, arith, length, sym, vec_len}
use Rattle.std.proofs.lemmas.List.{length-map}
use Rattle.sva_driver_words.specs.Awaits.{line_seen}
use Rattle.sva_driver_texts.specs.Readings.{Reading}
use Rattle.sva_driver_texts.proofs.readings.Reading.count.Goals as goal

pub returns : goal.returns
returns c =
    let same : vec_len c.self.inside.lines ≡ length c.self.inside.lines.items = omega (arith, c.self.inside.lines.ok.0) in
    c.len.ensures ∙ same ∙ sym (length-map c.self.inside.lines.items line_seen) ∙ ap (λ (reading : Reading). length reading.lines) c.self.view_is
