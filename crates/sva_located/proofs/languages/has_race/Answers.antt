use Rattle.std.proofs.Common.{◌≡◌, ◌∙◌, ◌+◌, List, ℕ, ap, map, true, false, rules}
use denote.Ref.{Bor}
use Rattle.sva_script_reading.proofs.BeginLemmas.{no_lines}
use Rattle.sva_script_reading.specs.Begins.{lines_from}
use Rattle.sva_located.specs.Languages.{is_race}
use Rattle.sva_located.proofs.LineLemmas.{no_race, race_met, race_passed}
use Rattle.sva_located.proofs.languages.has_race.Goals as goal

-- words as they are lent
abbrev said : List (Bor (List ℕ)) → List (List ℕ)
said words = map {A = Bor (List ℕ)} {B = List ℕ} (λ word. word.now) words

pub returns-then-is : goal.returns-then-is
returns-then-is c =
    let it : is_race (said c.as_slice.result.now) ≡ true = search rules in
    race_met _ (lines_from (c.next.new.self.number + 1) c.next.new.self.rest.now) (c.in-Some._number, c.in-Some.line.now) (said c.as_slice.result.now)
    c.in-Some.ensures.line (ap said c.as_slice.ensures.value ∙ c.in_ok-split.ensures) _ it c.loop-number.invariant

pub loop-number-preserved : goal.loop-number-preserved
loop-number-preserved c =
    let other : is_race (said c.as_slice.result.now) ≡ false = search rules in
    race_passed _ (lines_from (c.next.new.self.number + 1) c.next.new.self.rest.now) (c.in-Some._number, c.in-Some.line.now) (said c.as_slice.result.now)
    c.in-Some.ensures.line (ap said c.as_slice.ensures.value ∙ c.in_ok-split.ensures) _ other c.loop-number.invariant

pub returns : goal.returns
returns c = no_race _ _ (no_lines (c.loop-number.lines.number + 1) c.loop-number.lines.rest.now c.in_default.ensures.none) c.loop-number.invariant
