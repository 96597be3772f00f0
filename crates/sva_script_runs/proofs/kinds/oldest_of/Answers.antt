use Rattle.std.proofs.Common.{rules, arith, ap, sym, ◌≡◌, ◌∙◌, ◌+◌, Some, None}
use Rattle.std.specs.Prelude.{slice_get}
use Rattle.sva_parts_by_labels.specs.Flights.{flight_seen}
use Rattle.sva_script_reading.specs.Messages.{is_of, link_of, number_or_next}
use Rattle.sva_script_runs.proofs.FindLemmas.{find_here, find_past, some_within}
use Rattle.sva_script_runs.proofs.kinds.oldest_of.Goals as goal
use Rattle.sva_script_runs.proofs.kinds.oldest_of.Goals.{in-Some+else-is_of, in_default}

pub returns-then-is_of : goal.returns-then-is_of
returns-then-is_of c =
    let flights = c.args.world.now.in_flight in
    let at : slice_get flights c.loop-place.place ≡ Some (flight_seen (c.in-Some.number, c.in-Some.message)) = search rules in
    let found = find_here (is_of c.args.kind.now c.args.endpoint) flights c.loop-place.place _ at (sym (c.if-is_of.ensures c.in-Some.number)) in
    ap (number_or_next (link_of (Some c.args.world.now))) (sym found ∙ c.loop-place.invariant)

pub loop-place-preserved : goal.loop-place-preserved
loop-place-preserved c =
    let flights = c.args.world.now.in_flight in
    elim c.match-message.branch [
      | in-Some+else-is_of w ↦
          let at : slice_get flights c.loop-place.place ≡ Some (flight_seen (w.in-Some.number, w.in-Some.message)) = search rules in
          sym (find_past (is_of c.args.kind.now c.args.endpoint) flights c.loop-place.place (c.loop-place.place + 1) _ (omega arith) at
          (sym (w.if-is_of.ensures w.in-Some.number))) ∙ c.loop-place.invariant
      | in_default w ↦
          let none : slice_get flights c.loop-place.place ≡ None = search rules in
          absurd (some_within flights c.loop-place.place (search rules) none)
    ]
