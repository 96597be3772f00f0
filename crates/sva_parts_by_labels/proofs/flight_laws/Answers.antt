use Rattle.sva_parts_by_labels.proofs.Flights as flights
use Rattle.sva_parts_by_labels.proofs.flight_laws.Goals as goal

pub returns : goal.returns
returns c = flights.flight_laws
