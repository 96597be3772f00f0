use Rattle.std.proofs.Common.{◌∙◌, ap, length, set}
use Rattle.std.proofs.Math.ListN.{length-set}
use Rattle.arrayvec.proofs.ArrayVecLemmas.{items-with_items}
use Rattle.sva_endpoint.specs.declared.request_tags.RequestTag.{RequestTag}
use Rattle.sva_endpoint.specs.declared.request_tags.RequestTag.TheVariants.{Out}
use Rattle.sva_endpoint.proofs.request_tags.RequestTags.take.Goals as goal

pub returns : goal.returns
returns c =
    let tags = c.deref_mut.result.now in
    let out : RequestTag = Out c.args.pasid c.args.page in
    items-with_items c.self.inside.places (set tags c.args.tag out) (length-set tags c.args.tag out ∙ ap length c.deref_mut.ensures.value)
    ∙ ap (λ tags. set tags c.args.tag out) (c.deref_mut.ensures.value ∙ c.self.view_is)
