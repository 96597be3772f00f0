use Rattle.std.proofs.Common.{◌≡◌, ◌+◌, arith, append_assoc, ap, refl}
use Rattle.sva_msg.proofs.Numbered.{AreNumbered-so_far, copies_of-more, lookup-above}
use Rattle.sva_msg.specs.Bag.{InFlight}
use Rattle.sva_msg.proofs.in_flight.Bag.send.Goals as goal

pub insert_reserved-requires-clause-new : goal.insert_reserved-requires-clause-new
insert_reserved-requires-clause-new c =
    let number = c.loop-number.number in
    let old = c.self.inside in
    let es = c.loop-number.self-inside.messages.entries in
    let is = ap (λ (b : InFlight). b.messages) c.self.view_is in
    lookup-above 0 number number es (omega arith)
    (AreNumbered-so_far 0 old.next number old.messages.entries es c.args.message (omega arith) c.self.invariant.0 (rw is c.loop-number.invariant.sent))

pub loop-number-preserved : goal.loop-number-preserved
loop-number-preserved c =
    let number = c.loop-number.number in
    let more = copies_of-more c.args.message c.self.inside.next number (omega arith) in
    record {
      sent = rw (c.insert_reserved.ensures.entries, c.loop-number.invariant.sent, more, append_assoc) refl;
      room = omega arith;
    }

pub invariant_of-self-2 : goal.invariant_of-self-2
invariant_of-self-2 c =
    let old = c.self.inside in
    let es = c.loop-number.self-inside.messages.entries in
    let end : c.loop-number.number ≡ old.next + c.args.copies = omega arith in
    let is = ap (λ (b : InFlight). b.messages) c.self.view_is in
    let next = ap (λ (b : InFlight). b.next) c.self.view_is in (
      rw (← end) (AreNumbered-so_far 0 old.next c.loop-number.number old.messages.entries es c.args.message (omega arith) c.self.invariant.0
          (rw is c.loop-number.invariant.sent)),
      omega (arith, next, c.requires.left),
    )
