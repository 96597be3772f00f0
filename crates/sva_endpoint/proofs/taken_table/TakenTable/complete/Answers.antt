use Rattle.std.proofs.Common.{◌≡◌, ◌+◌, ◌∙◌, ap, subst, sym, length, set, ℕ, arith, get_or, cond, None}
use Rattle.std.proofs.Math.ListN.{length-set}
use Rattle.std.proofs.lemmas.List.{get_or_default}
use Rattle.arrayvec.proofs.ArrayVecLemmas.{items-with_items}
use Rattle.sva_endpoint.specs.Taken.{without_named}
use Rattle.sva_itags.specs.Vector.{is_named}
use Rattle.sva_endpoint.proofs.TakenFacts.{IsCompletedBelow, completed_more, completed_all}
use Rattle.sva_endpoint.proofs.taken_table.TakenTable.complete.Goals as goal

pub loop-itag-preserved : goal.loop-itag-preserved
loop-itag-preserved c =
    let places = c.loop-itag.self-inside.places in
    let written = set c.deref_mut.result.now c.loop-itag.itag c.without_named.result in
    let long = length-set c.deref_mut.result.now c.loop-itag.itag c.without_named.result ∙ ap length c.deref_mut.ensures.value in
    let is =
    items-with_items places written long ∙ ap (λ xs. set xs c.loop-itag.itag c.without_named.result) c.deref_mut.ensures.value in
    let count = ap length c.deref.ensures.0 in
    let read : c.index-deref-itag.result ≡ get_or places.items c.loop-itag.itag None =
    c.index-deref-itag.is ∙ get_or_default c.deref.result.now c.loop-itag.itag c.index-deref-itag.result None (omega arith)
    ∙ ap (λ xs. get_or xs c.loop-itag.itag None) c.deref.ensures.0 in
    subst (IsCompletedBelow c.args.vector (c.loop-itag.itag + 1) c.self.inside.places.items) (sym is)
    (completed_more c.args.vector c.loop-itag.itag c.self.inside.places.items places.items c.without_named.result (omega arith) c.loop-itag.invariant
    (c.without_named.ensures ∙ ap (cond (is_named c.args.vector c.loop-itag.itag) None) read))

pub returns : goal.returns
returns c =
    let all : c.loop-itag.itag ≡ length c.self.inside.places.items = omega arith in
    completed_all c.args.vector c.self.inside.places.items c.loop-itag.self-inside.places.items
    (subst (λ (i : ℕ). IsCompletedBelow c.args.vector i c.self.inside.places.items c.loop-itag.self-inside.places.items) all c.loop-itag.invariant)
    ∙ ap (without_named c.args.vector) c.self.view_is
