use Rattle.std.proofs.Common.{◌∙◌, ◌∷◌, ◌++◌, [], ap, subst, sym, take}
use Rattle.std.proofs.lemmas.List.{take_more}
use Rattle.std.proofs.lemmas.Slice.Zip.{all_zipped_more}
use Rattle.std.specs.List.{AllZip}
use Rattle.sva_variants.specs.Needed.{IsTriedBy}
use Rattle.sva_variants.proofs.trying.try_all.Goals as goal

pub loop-place-preserved : goal.loop-place-preserved
loop-place-preserved g c =
    let is_tried = IsTriedBy c.args.text.now c.args.most in
    let cuts = c.args.cuts.now in
    let place = c.loop-place.place in
    let inside = c.loop-place-test.true in
    let cut = c.index-cuts-place.result in
    let more = all_zipped_more is_tried (take place cuts) c.loop-place.all.items cut c.in_ok-tried.tried c.loop-place.invariant
    c.in_ok-tried.ensures in
    subst (λ front. AllZip is_tried front c.push.new.self.items)
    (ap (λ one. take place cuts ++ one ∷ []) c.index-cuts-place.is ∙ sym (take_more cuts place cut inside))
    (subst (AllZip is_tried (take place cuts ++ cut ∷ [])) (sym c.in_ok-push.ensures.items) more)
