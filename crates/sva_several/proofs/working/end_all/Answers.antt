use Rattle.std.proofs.Common.{◌∙◌, ◌∷◌, ◌++◌, [], ap, subst, sym, set, take}
use Rattle.std.proofs.lemmas.List.{take_more}
use Rattle.std.proofs.lemmas.Slice.Zip.{all_zipped_more}
use Rattle.std.specs.List.{AllZip}
use Rattle.sva_several.specs.Sharing.{IsFoundBy}
use Rattle.sva_several.proofs.Slots.{one_taken}
use Rattle.sva_several.proofs.working.end_all.Goals as goal

pub loop-place-preserved : goal.loop-place-preserved
loop-place-preserved g c =
    let search = c.args.search in
    let jobs = c.args.jobs in
    let texts = c.args.texts.now in
    let place = c.loop-place.place in
    let inside = c.loop-place-test.true in
    let text = c.index-texts-place.result in
    let said = c.end_one.ensures in
    let more = all_zipped_more (IsFoundBy search jobs) (take place texts) c.loop-place.all.items text c.end_one.result c.loop-place.invariant.found said in
    record {
      found = subst (λ front. AllZip (IsFoundBy search jobs) front c.push.new.self.items)
          (ap (λ one. take place texts ++ one ∷ []) c.index-texts-place.is ∙ sym (take_more texts place text inside))
          (subst (AllZip (IsFoundBy search jobs) (take place texts ++ text ∷ [])) (sym c.in_ok-push.ensures.items) more);
      slots = one_taken search jobs texts c.loop-place.slots.items _ place c.loop-place.invariant.slots inside
          (ap (λ slot. set c.loop-place.slots.items place slot) c.take-slot.ensures.after);
    }
