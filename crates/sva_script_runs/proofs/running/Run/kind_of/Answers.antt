use Rattle.std.proofs.Common.{◌∙◌, Some, ap, sym}
use Rattle.std.specs.Prelude.{option_map}
use Rattle.sva_model.specs.Wire.{FlightWire}
use Rattle.sva_parts_by_labels.specs.Flights.{flight_at}
use Rattle.sva_script_reading.specs.Messages.{link_of}
use Rattle.sva_script_runs.specs.Runs.{Running, message_of}
use Rattle.sva_script_runs.proofs.running.Run.kind_of.Goals as goal

pub returns-in-Some : goal.returns-in-Some
returns-in-Some c =
    ap (option_map (λ (flight : FlightWire). flight.message)) (ap (flight_at c.args.number) (sym c.in-Some.is) ∙ c.message_of.ensures)
    ∙ ap (λ (run : Running). message_of (link_of (Some run.seen)) c.args.number) c.self.view_is

pub returns-in-None : goal.returns-in-None
returns-in-None c =
    ap (option_map (λ (flight : FlightWire). flight.message)) (ap (flight_at c.args.number) (sym c.in-None.is) ∙ c.message_of.ensures)
    ∙ ap (λ (run : Running). message_of (link_of (Some run.seen)) c.args.number) c.self.view_is
