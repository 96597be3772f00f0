use Rattle.std.proofs.Common.{◌∙◌, ap, sym}
use Rattle.sva_msg.specs.Bag.{InFlight, without}
use Rattle.sva_msg.proofs.Numbered.{AreNumbered-remove, number_at, remove-at}
use Rattle.sva_msg.proofs.in_flight.Bag.deliver_found.Goals as goal

pub invariant_of-self : goal.invariant_of-self
invariant_of-self c =
    let inside = c.self.inside in
    let flight = c.args.flight.now in
    let at = ap (λ (b : InFlight). number_at b.messages flight.place) c.self.view_is ∙ c.requires.stands in (
      rw (c.shift_remove_index.ensures.entries ∙ remove-at 0 inside.next flight.number flight.place inside.messages.entries c.self.invariant.0 at)
          (AreNumbered-remove 0 inside.next flight.number inside.messages.entries c.self.invariant.0),
      c.self.invariant.1,
    )

pub returns : goal.returns
returns c =
    let inside = c.self.inside in
    let flight = c.args.flight.now in
    let at = ap (λ (b : InFlight). number_at b.messages flight.place) c.self.view_is ∙ c.requires.stands in
    ap (λ entries. record { messages = entries; next = inside.next }) (c.shift_remove_index.ensures.entries
    ∙ remove-at 0 inside.next flight.number flight.place inside.messages.entries c.self.invariant.0 at)
    ∙ ap (λ (b : InFlight). without b flight.number) c.self.view_is
