use Rattle.std.proofs.Common.{◌∙◌, ◌≤◌, ap, sym, length, set, Option, Some, arith}
use Rattle.std.proofs.Math.ListN.{length-set}
use Rattle.std.proofs.lemmas.List.{set_past}
use Rattle.arrayvec.proofs.ArrayVecLemmas.{items-with_items}
use Rattle.sva_endpoint.specs.declared.taken_table.Taken.{Taken}
use Rattle.sva_endpoint.proofs.taken_table.TakenTable.take.Goals as goal

pub returns-then-itag-len : goal.returns-then-itag-len
returns-then-itag-len c =
    let places = c.deref_mut.result.now in
    let itag = c.from-itag.result in
    let taken : Option Taken = Some c.args.taken in
    items-with_items c.self.inside.places (set places itag taken) (length-set places itag taken ∙ ap length c.deref_mut.ensures.value)
    ∙ ap (λ places. set places itag taken) (c.deref_mut.ensures.value ∙ c.self.view_is)
    ∙ ap (λ itag. set c.args.self.now itag taken) c.from-itag.ensures

pub returns-else-itag-len : goal.returns-else-itag-len
returns-else-itag-len c =
    let past : length c.args.self.now ≤ c.args.itag = omega (arith, ap length c.self.view_is, c.len.ensures.value, c.from-itag.ensures) in
    sym (set_past c.args.self.now c.args.itag (Some c.args.taken) past)
