use Rattle.std.proofs.Common.{◌≡◌, ◌∙◌, ◌++◌, ◌∷◌, [], ap, map}
use Rattle.std.proofs.lemmas.List.{map_push}
use Rattle.sva_race_texts.specs.Readings.{asked_seen, claim_seen}
use Rattle.sva_race_texts.proofs.readings.Reading.push_claim.Goals as goal

pub returns : goal.returns
returns c =
    let was = c.self.view_is in
    let claims : map claim_seen c.push.new.self.items ≡ c.args.self.now.claims ++ claim_seen c.args.claim ∷ [] =
    ap (map claim_seen) c.in_ok-push.ensures.items ∙ map_push claim_seen c.self.inside.claims.items c.args.claim
    ∙ (λ i. (was i).claims ++ claim_seen c.args.claim ∷ []) in
    let asked : map asked_seen c.push-2.new.self.items ≡ c.args.self.now.asked ++ asked_seen c.args.asked ∷ [] =
    ap (map asked_seen) c.in_ok-push-2.ensures.items ∙ map_push asked_seen c.self.inside.asked.items c.args.asked
    ∙ (λ i. (was i).asked ++ asked_seen c.args.asked ∷ []) in
    λ i. record (was i) { claims = claims i; asked = asked i }
