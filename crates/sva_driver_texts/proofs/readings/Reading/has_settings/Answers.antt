use Rattle.std.proofs.Common.{◌≡◌, ◌∙◌, ap, arith, length, ltb, sym, vec_len}
use Rattle.std.proofs.lemmas.List.{length-map}
use Rattle.sva_driver_texts.specs.Readings.{Reading}
use Rattle.sva_driver_texts.proofs.readings.Reading.has_settings.Goals as goal

pub returns : goal.returns
returns c =
    let same : vec_len c.self.inside.set ≡ length c.self.inside.set.items = omega (arith, c.self.inside.set.ok.0) in
    ap (ltb 0) (c.len.ensures ∙ same ∙ sym (length-map c.self.inside.set.items (λ word. word.items))
    ∙ ap (λ (reading : Reading). length reading.set) c.self.view_is)
