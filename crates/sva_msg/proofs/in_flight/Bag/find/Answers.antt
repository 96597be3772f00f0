use Rattle.std.proofs.Common.{◌∙◌, ap, refl, sym, Some}
use Rattle.std.specs.Prelude.{slice_get}
use Rattle.sva_msg.specs.Bag.{InFlight, message_at}
use Rattle.sva_msg.proofs.Numbered.{key_is}
use Rattle.sva_msg.proofs.in_flight.Bag.find.Goals as goal

pub returns-clause-found : goal.returns-clause-found
returns-clause-found c = (
  refl,
  record {
    found = ap (λ (b : InFlight). message_at b c.args.number) (sym c.self.view_is) ∙ sym c.in-Some.ensures.value;
    stands =
        ap (λ (b : InFlight). slice_get b.messages c.in-Some.place) (sym c.self.view_is)
        ∙ c.in-Some.ensures.entry
        ∙ ap (λ k. Some (k, c.in-Some.message.now)) (key_is c.args.number c.in-Some._number.now c.self.inside.messages.entries (sym c.in-Some.ensures.key));
  },
)
