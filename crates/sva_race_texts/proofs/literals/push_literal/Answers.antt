use Rattle.std.proofs.Common.{◌≡◌, ◌∙◌, ◌++◌, ◌∷◌, [], ap, map}
use Rattle.std.proofs.lemmas.List.{map_push}
use Rattle.sva_race_texts.specs.Readings.{asked_literal_seen, claim_seen}
use Rattle.sva_race_texts.proofs.literals.push_literal.Goals as goal

pub returns : goal.returns
returns c =
    let old = c.args.own.now in
    let claims : map claim_seen c.push.new.self.items ≡ map claim_seen old.claims.items ++ claim_seen c.args.claim ∷ [] =
    ap (map claim_seen) c.in_ok-push.ensures.items ∙ map_push claim_seen old.claims.items c.args.claim in
    let asked : map asked_literal_seen c.push-2.new.self.items
    ≡ map asked_literal_seen old.asked.items ++ asked_literal_seen c.args.asked ∷ [] =
    ap (map asked_literal_seen) c.in_ok-push-2.ensures.items ∙ map_push asked_literal_seen old.asked.items c.args.asked in
    λ i. record { claims = claims i; asked = asked i }
