use Rattle.std.proofs.Common.{◌∙◌, ◌≤◌, ap, sym, length, slice_index_or, arith}
use Rattle.std.proofs.lemmas.List.{get_or_past}
use Rattle.sva_endpoint.specs.declared.use_slots.UseSlot.TheVariants.{Free}
use Rattle.sva_endpoint.proofs.use_slots.UseSlots.at.Goals as goal

pub returns-then-slot-len : goal.returns-then-slot-len
returns-then-slot-len c = ap (λ slots. slice_index_or slots c.args.slot Free) (c.deref.ensures.0 ∙ c.self.view_is)

pub returns-else-slot-len : goal.returns-else-slot-len
returns-else-slot-len c =
    let past : length c.args.self.now ≤ c.args.slot = omega (arith, ap length c.self.view_is, c.len.ensures.value) in
    sym (get_or_past c.args.self.now c.args.slot Free past)
