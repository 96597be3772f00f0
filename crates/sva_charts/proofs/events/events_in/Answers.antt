use Rattle.std.proofs.Common.{◌≡◌, ◌∙◌, ◌+◌, sym, true, false, rules}
use Rattle.sva_script_reading.proofs.BeginLemmas.{no_lines}
use Rattle.sva_script_reading.specs.Begins.{lines_from}
use Rattle.sva_charts.proofs.WitnessLemmas.{race_here, race_later, race_nowhere}
use Rattle.sva_charts.proofs.events.events_in.Goals as goal

pub returns-then-is_race : goal.returns-then-is_race
returns-then-is_race c =
    let it : c.is_race.result ≡ true = search rules in
    race_here _ (lines_from (c.next.new.self.number + 1) c.next.new.self.rest.now) (c.in-Some._number, c.in-Some.line.now) c.in-Some.ensures.line _
    (sym c.is_race.ensures ∙ it) c.loop-number.invariant

pub loop-number-preserved : goal.loop-number-preserved
loop-number-preserved c =
    let other : c.is_race.result ≡ false = search rules in
    race_later _ (lines_from (c.next.new.self.number + 1) c.next.new.self.rest.now) (c.in-Some._number, c.in-Some.line.now) c.in-Some.ensures.line _
    (sym c.is_race.ensures ∙ other) c.loop-number.invariant

pub returns : goal.returns
returns c =
    race_nowhere _ _ (no_lines (c.loop-number.lines.number + 1) c.loop-number.lines.rest.now c.in_default.ensures.none) c.loop-number.invariant
