use Rattle.std.proofs.Common.{◌≡◌, ◌∙◌, ◌++◌, ◌∷◌, [], ap}
use Rattle.std.proofs.lemmas.List.{map_push}
use Rattle.sva_driver_texts.proofs.Anys.{own}
use Rattle.sva_driver_texts.proofs.readings.Reading.set_units.Goals as goal

pub returns : goal.returns
returns c =
    let was = c.self.view_is in
    let set : own c.push.new.self.items ≡ c.args.self.now.set ++ c.args.word.now ∷ [] =
    ap own c.in_ok-push.ensures.items ∙ map_push (λ word. word.items) c.self.inside.set.items _
    ∙ (λ i. (was i).set ++ c.in_ok-own.ensures.items i ∷ []) in
    λ i. record (was i) { units = c.args.units.items; set = set i }
