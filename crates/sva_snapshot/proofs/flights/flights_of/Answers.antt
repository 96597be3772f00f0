use Rattle.std.proofs.Common.{ap, map, sym, ◌∙◌, refl}
use Rattle.sva_parts_by_labels.specs.Flights.{flight_seen}
use Rattle.sva_snapshot.specs.Shown.{flight_shown}
use Rattle.sva_snapshot.proofs.More.{shown_more}
use Rattle.sva_snapshot.proofs.flights.flights_of.Goals as goal

pub loop-place-preserved : goal.loop-place-preserved
loop-place-preserved c =
    ap (map flight_shown) c.in_ok-push.ensures.items
    ∙ shown_more flight_shown flight_seen c.loop-place.flights.items (record { number = c.in-Some.number; message = c.in-Some.message })
    c.args.bag.now.messages c.loop-place.place (c.in-Some.number, c.in-Some.message) (sym c.in-Some.ensures) c.loop-place.invariant refl
