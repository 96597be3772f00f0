use Rattle.std.proofs.Common.{◌≡◌, ℕ, ◌+◌, ◌≤◌, Bool, true, false, List, length, nat_le, if◌then◌else◌, sym, subst, rules, arith}
use Rattle.sva_queue.specs.declared.descriptors.Descriptor.{Descriptor}
use Rattle.sva_queue.specs.Cookies.{AreRising, number_after}
use Rattle.sva_queue.specs.Queue.{Queue, with_more, submitted}
use Rattle.sva_queue.proofs.Cookies.{rising-weaken, rising-le, number_after-mono}
use Rattle.sva_tests_of_parts.proofs.queues.twin_queues.Twins.submit.Goals as goal

pub submit-requires-clause-rising : goal.submit-requires-clause-rising
submit-requires-clause-rising c =
    let opened : c.args.self.now.unit.is_open ≡ true = search rules in
    let back = c.front-in_order.ensures.order.at_open opened in
    rising-weaken c.args.descriptors.now (number_after c.args.self.now.unit.front c.args.self.now.unit.descriptors) c.args.self.now.cookie
    (omega (arith, back, c.args.self.now.above)) c.requires.rising

back-le : (queue : Queue) (more : List Descriptor) (cookie next : ℕ) (fits : Bool) → queue.back ≤ cookie → AreRising cookie more
    → number_after cookie more ≤ next → (if fits then with_more more queue else queue).back ≤ next
back-le queue more cookie next true above rising below = omega (arith, number_after-mono more queue.back cookie above, below)
back-le queue more cookie next false above rising below = omega (arith, rising-le more cookie rising)

pub invariant_of-self : goal.invariant_of-self
invariant_of-self c =
    let more = c.args.descriptors.now in
    let queue = c.args.self.now.unit in
    let after : (submitted more queue).back ≤ c.args.next =
    back-le queue more c.args.self.now.cookie c.args.next (nat_le (length queue.descriptors + length more) 64) c.args.self.now.above
    c.requires.rising c.requires.next in
    record { above = subst (λ (q : Queue). q.back ≤ c.args.next) (sym c.submit.ensures.queue) after }
