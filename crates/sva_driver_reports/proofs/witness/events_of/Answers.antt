use Rattle.std.proofs.Common.{◌≡◌, ◌∙◌, ◌<◌, ◌≤◌, length, rules, sym, true, false}
use Rattle.sva_driver_reports.proofs.Moved.{halted, moved, moved_all, unsaid}
use Rattle.sva_driver_reports.proofs.witness.events_of.Goals as goal

pub returns-in-None : goal.returns-in-None
returns-in-None c =
    let inside : c.loop-place.place < length c.args.choices.now = search rules in
    let h = unsaid c.args.text.now c.loop-place.events.items c.loop-place.spot c.args.choices.now c.loop-place.place _ _ _ inside c.loop-place.invariant
    (sym c.in-None.is ∙ c.in_ok-event_of.ensures) in
    record { events = h.0; spot = h.1 }

pub returns-then-not-taken : goal.returns-then-not-taken
returns-then-not-taken c =
    let inside : c.loop-place.place < length c.args.choices.now = search rules in
    let stops : c.in_ok-taken.taken ≡ false = search rules in
    let h = halted c.args.text.now c.loop-place.events.items c.loop-place.spot c.args.choices.now c.loop-place.place _ _ _ inside c.loop-place.invariant
    c.in-Some.event c.take.new.spot c.push.new.self.items (sym c.in-Some.is ∙ c.in_ok-event_of.ensures)
    c.in_ok-taken.taken c.in_ok-taken.ensures stops c.in_ok-push-in-Some.ensures.items in
    record { events = h.0; spot = h.1 }

pub loop-place-preserved : goal.loop-place-preserved
loop-place-preserved c =
    let inside : c.loop-place.place < length c.args.choices.now = search rules in
    let goes : c.in_ok-taken.taken ≡ true = search rules in
    moved c.args.text.now c.loop-place.events.items c.loop-place.spot c.args.choices.now c.loop-place.place _ _ _ inside c.loop-place.invariant
    c.in-Some.event c.take.new.spot c.push.new.self.items (sym c.in-Some.is ∙ c.in_ok-event_of.ensures)
    c.in_ok-taken.taken c.in_ok-taken.ensures goes c.in_ok-push-in-Some.ensures.items

pub returns : goal.returns
returns c =
    let past : length c.args.choices.now ≤ c.loop-place.place = search rules in
    let h = moved_all c.args.text.now c.loop-place.events.items c.loop-place.spot c.args.choices.now c.loop-place.place _ _ past c.loop-place.invariant in
    record { events = h.0; spot = h.1 }
