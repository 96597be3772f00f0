use Rattle.std.proofs.Common.{◌∙◌, ◌==◌, ap, sym}
use Rattle.std.specs.Prelude.{find}
use Rattle.sva_model.specs.Wire.{FlightWire, Wire}
use Rattle.sva_parts_by_labels.specs.Flights.{flight_at}
use Rattle.sva_parts_by_labels.proofs.Flights.{flight_laws}
use Rattle.sva_host.specs.declared.host.Host.TheInside.{Inside}
use Rattle.sva_host.specs.Inner.{wire_of}
use Rattle.sva_host.proofs.host.Host.message_of.Goals as goal

pub returns : goal.returns
returns c =
    ap (flight_at c.args.number) c.get.ensures.message
    ∙ sym ((flight_laws _ c.get.ensures.numbered).by_number c.args.number)
    ∙ ap (λ (inside : Inside). find (λ (flight : FlightWire). flight.number == c.args.number) (wire_of inside).in_flight) c.self-inside.view_is
    ∙ ap (λ (wire : Wire). find (λ (flight : FlightWire). flight.number == c.args.number) wire.in_flight) c.self.view_is
