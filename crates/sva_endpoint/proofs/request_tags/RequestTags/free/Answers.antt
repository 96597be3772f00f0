use Rattle.std.proofs.Common.{◌∙◌, ◌≤◌, ap, sym, length, set, slice_index_or, arith}
use Rattle.std.proofs.Math.ListN.{length-set}
use Rattle.std.proofs.lemmas.List.{get_or_past, set_past}
use Rattle.arrayvec.proofs.ArrayVecLemmas.{items-with_items}
use Rattle.sva_endpoint.specs.declared.request_tags.RequestTag.TheVariants.{Free}
use Rattle.sva_endpoint.proofs.request_tags.RequestTags.free.Goals as goal

pub returns-then-tag-len-clause-was : goal.returns-then-tag-len-clause-was
returns-then-tag-len-clause-was c =
    ap (λ tags. slice_index_or tags c.from-tag.result Free) (c.deref.ensures.0 ∙ c.self.view_is)
    ∙ ap (λ tag. slice_index_or c.args.self.now tag Free) c.from-tag.ensures

pub returns-then-tag-len-clause-freed : goal.returns-then-tag-len-clause-freed
returns-then-tag-len-clause-freed c =
    let tags = c.deref_mut.result.now in
    let tag = c.from-tag.result in
    items-with_items c.self.inside.places (set tags tag Free) (length-set tags tag Free ∙ ap length c.deref_mut.ensures.value)
    ∙ ap (λ tags. set tags tag Free) (c.deref_mut.ensures.value ∙ c.self.view_is) ∙ ap (λ tag. set c.args.self.now tag Free) c.from-tag.ensures

pub returns-else-tag-len-clause-was : goal.returns-else-tag-len-clause-was
returns-else-tag-len-clause-was c =
    let past : length c.args.self.now ≤ c.args.tag = omega (arith, ap length c.self.view_is, c.len.ensures.value, c.from-tag.ensures) in
    sym (get_or_past c.args.self.now c.args.tag Free past)

pub returns-else-tag-len-clause-freed : goal.returns-else-tag-len-clause-freed
returns-else-tag-len-clause-freed c =
    let past : length c.args.self.now ≤ c.args.tag = omega (arith, ap length c.self.view_is, c.len.ensures.value, c.from-tag.ensures) in
    sym (set_past c.args.self.now c.args.tag Free past)
