use Rattle.std.proofs.Common.{false, List, drop, sym, ap, ◌∙◌}
use Rattle.sva_queue.specs.declared.descriptors.Descriptor.{Descriptor}
use Rattle.sva_queue.specs.declared.descriptors.Descriptor.TheVariants.{Wait}
use Rattle.sva_queue.proofs.Windows.{window_before_pop}
use Rattle.sva_queue.proofs.ring.Ring.drop_first.Goals as goal

pub returns-then-self-gt0 : goal.returns-then-self-gt0
returns-then-self-gt0 c =
    let q = c.self.inside in
    let split = window_before_pop 64 q.head q.len q.places.items c.self.invariant.1 c.self.invariant.2 c.self.invariant.0 (Wait 0 false) c.if-self-gt0.true in
    sym (ap (λ (xs : List Descriptor). drop 1 xs) split) ∙ ap (λ (xs : List Descriptor). drop 1 xs) c.self.view_is
