use Rattle.std.proofs.Common.{◌+◌, ◌%◌, ◌<◌, List, [], ◌∷◌, ◌++◌, length, set, ap, ◌∙◌, length-set, arith}
use Rattle.sva_queue.specs.declared.descriptors.Descriptor.{Descriptor}
use Rattle.sva_queue.specs.Ring.{window}
use Rattle.sva_queue.proofs.Windows.{refill_whole, length-window, window_after_push}
use Rattle.sva_queue.proofs.ring.Ring.push.Goals as goal

pub returns : goal.returns
returns c =
    let q = c.self.inside in
    let place = (q.head + q.len) % 64 in
    let same_length = ap length c.deref_mut.ensures.value in
    let long = length-set c.deref_mut.result.now place c.args.descriptor ∙ same_length in
    let written = refill_whole q.places.items (set c.deref_mut.result.now place c.args.descriptor) long
    ∙ ap (λ (xs : List Descriptor). set xs place c.args.descriptor) c.deref_mut.ensures.value in
    let length_old = length-window 64 q.head q.len q.places.items c.self.invariant.1 c.self.invariant.2 c.self.invariant.0 in
    let view_length = ap length c.self.view_is in
    let has_room : q.len < 64 = omega (arith, c.requires) in
    ap (window q.head (q.len + 1)) written
    ∙ window_after_push 64 q.head q.len q.places.items c.self.invariant.1 c.self.invariant.2 c.self.invariant.0 c.args.descriptor has_room
    ∙ ap (λ (xs : List Descriptor). xs ++ c.args.descriptor ∷ []) c.self.view_is
