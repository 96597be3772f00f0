use Rattle.std.proofs.Common.{◌∙◌, ◌≤◌, ap, sym, length, set, arith}
use Rattle.std.proofs.Math.ListN.{length-set}
use Rattle.std.proofs.lemmas.List.{set_past}
use Rattle.arrayvec.proofs.ArrayVecLemmas.{items-with_items}
use Rattle.sva_endpoint.specs.declared.use_slots.UseSlot.TheVariants.{Free}
use Rattle.sva_endpoint.proofs.use_slots.UseSlots.free.Goals as goal

pub invariant_of-self : goal.invariant_of-self
invariant_of-self c =
    let slots = c.deref_mut.result.now in
    let long = length-set slots c.args.slot Free ∙ ap length c.deref_mut.ensures.value in
    ap length (items-with_items c.self.inside.slots (set slots c.args.slot Free) long) ∙ long ∙ c.self.invariant

pub returns-then-slot-len : goal.returns-then-slot-len
returns-then-slot-len c =
    let slots = c.deref_mut.result.now in
    items-with_items c.self.inside.slots (set slots c.args.slot Free) (length-set slots c.args.slot Free ∙ ap length c.deref_mut.ensures.value)
    ∙ ap (λ slots. set slots c.args.slot Free) (c.deref_mut.ensures.value ∙ c.self.view_is)

pub returns-else-slot-len : goal.returns-else-slot-len
returns-else-slot-len c =
    let past : length c.args.self.now ≤ c.args.slot = omega (arith, ap length c.self.view_is, c.len.ensures.value) in
    sym (set_past c.args.self.now c.args.slot Free past)
