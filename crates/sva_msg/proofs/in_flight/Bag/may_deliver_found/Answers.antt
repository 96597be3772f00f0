use Rattle.std.proofs.Common.{◌≡◌, ◌∙◌, ap, false, refl, sym}
use Rattle.std.specs.Prelude.{option_map}
use Rattle.sva_msg.specs.Bag.{must_follow}
use Rattle.sva_msg.specs.Kind.{kind_of, is_ordered}
use Rattle.sva_msg.proofs.Deliverable.{any_ahead, may_deliver-is, may_overtake}
use Rattle.sva_msg.proofs.in_flight.Bag.may_deliver_found.Goals as goal

pub returns-then-not-is_ordered : goal.returns-then-not-is_ordered
returns-then-not-is_ordered c =
    let flight = c.args.flight.now in
    let free : is_ordered (kind_of flight.message.kind) ≡ false = sym c.if-not-is_ordered.ensures in
    (λ passes. may_overtake c.args.self.now flight.number flight.message c.requires.found free, λ may. refl)

pub returns : goal.returns
returns c =
    let flight = c.args.flight.now in
    may_deliver-is c.args.self.now flight.number flight.message c.overtakes.result c.overtakes.ensures.numbered c.requires.found
    (c.overtakes.ensures.ahead
    ∙ any_ahead (must_follow flight.message) flight.number 0 c.args.self.now.next flight.place c.args.self.now.messages
    c.overtakes.ensures.numbered.0
    (ap (option_map (λ e. e.0)) c.requires.stands))
