use Rattle.std.proofs.Common.{sym, subst, rules}
use Rattle.sva_queue.specs.Queue.{Queue}
use Rattle.sva_queue.specs.Calls.{MaySubmit}
use Rattle.sva_queue.proofs.Kept.{more-in_order}
use Rattle.sva_queue.proofs.units.Unit.submit.Goals as goal

pub invariant_of-self : goal.invariant_of-self
invariant_of-self c =
    let q = c.self.inside in
    let more = c.args.descriptors.now in
    let queue : Queue = record { descriptors = q.queue; is_open = q.is_open; tags = q.tags; front = q.front; back = q.back } in
    let may : MaySubmit c.args.self.now more = record { opened = c.requires.opened; numbers = c.requires.numbers; rising = c.requires.rising } in
    rw (c.extend.ensures, c.number_after-self-inside.ensures)
    (more-in_order queue more (subst (λ (k : Queue). MaySubmit k more) (sym c.self.view_is) may) c.self.invariant)

pub returns-then-descriptors-room-clause-fits : goal.returns-then-descriptors-room-clause-fits
returns-then-descriptors-room-clause-fits c = search rules

pub extend-requires : goal.extend-requires
extend-requires c = search rules

pub returns-clause-fits : goal.returns-clause-fits
returns-clause-fits c = search rules

pub returns-then-descriptors-room-clause-queue : goal.returns-then-descriptors-room-clause-queue
returns-then-descriptors-room-clause-queue c = search rules
