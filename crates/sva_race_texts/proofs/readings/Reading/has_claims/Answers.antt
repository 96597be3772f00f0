use Rattle.std.proofs.Common.{◌≡◌, ◌∙◌, ap, arith, length, ltb, sym, vec_len}
use Rattle.std.proofs.lemmas.List.{length-map}
use Rattle.sva_race_texts.specs.Readings.{Reading, claim_seen}
use Rattle.sva_race_texts.proofs.readings.Reading.has_claims.Goals as goal

pub returns : goal.returns
returns c =
    let same : vec_len c.self.inside.claims ≡ length c.self.inside.claims.items = omega (arith, c.self.inside.claims.ok.0) in
    ap (ltb 0) (c.len.ensures ∙ same ∙ sym (length-map c.self.inside.claims.items claim_seen)
    ∙ ap (λ (reading : Reading). length reading.claims) c.self.view_is)
