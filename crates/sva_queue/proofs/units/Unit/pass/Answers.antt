use Rattle.std.proofs.Common.{◌≡◌, ap, subst, ◌∙◌, arith}
use Rattle.sva_queue.specs.declared.descriptors.Pumped.TheVariants.{Done}
use Rattle.sva_queue.specs.Queue.{Queue, InOrder, next_of}
use Rattle.sva_queue.proofs.Kept.{done-fits, pump-in_order}
use Rattle.sva_queue.proofs.units.Unit.pass.Goals as goal

pub overflow_add-self : goal.overflow_add-self
overflow_add-self c =
    omega (arith, done-fits c.args.self.now c.requires.0 c.args.cookie c.requires.1 (subst InOrder c.self.view_is c.self.invariant))

pub invariant_of-self : goal.invariant_of-self
invariant_of-self c =
    let q = c.self.inside in
    let queue : Queue = record { descriptors = q.queue; is_open = q.is_open; tags = q.tags; front = q.front; back = q.back } in
    let is : next_of queue c.requires.0 ≡ Done c.args.cookie = ap (λ (k : Queue). next_of k c.requires.0) c.self.view_is ∙ c.requires.1 in
    rw c.drop_first.ensures (pump-in_order (Done c.args.cookie) queue c.requires.0 is c.self.invariant)
