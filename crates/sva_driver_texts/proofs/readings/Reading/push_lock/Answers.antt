use Rattle.std.proofs.Common.{◌≡◌, ◌∙◌, ◌++◌, ◌∷◌, [], ap}
use Rattle.std.proofs.lemmas.List.{map_push}
use Rattle.sva_driver_texts.proofs.Anys.{own}
use Rattle.sva_driver_texts.proofs.readings.Reading.push_lock.Goals as goal

pub returns : goal.returns
returns c =
    let was = c.self.view_is in
    let locks : own c.push.new.self.items ≡ c.args.self.now.locks ++ c.args.name.now ∷ [] =
    ap own c.in_ok-push.ensures.items ∙ map_push (λ name. name.items) c.self.inside.locks.items _
    ∙ (λ i. (was i).locks ++ c.in_ok-own.ensures.items i ∷ []) in
    λ i. record (was i) { locks = locks i }
