use Rattle.std.proofs.Common.{◌≡◌, ◌∙◌, ◌+◌, ap, sym, subst, rules, true, false, []}
use Rattle.std.specs.Prelude.{IfOk}
use Rattle.sva_script_reading.proofs.BeginLemmas.{no_lines}
use Rattle.sva_script_reading.specs.Begins.{lines_from}
use Rattle.sva_race_texts.specs.declared.faults.RaceWanted.TheVariants as wanted
use Rattle.sva_race_texts.specs.declared.faults.RaceWrong.{RaceWrong}
use Rattle.sva_race_texts.specs.Readings.{Reading, with_fault}
use Rattle.sva_race_texts.specs.Texts.{from_race, is_race}
use Rattle.sva_race_texts.proofs.Lists.{said}
use Rattle.sva_race_texts.proofs.RunLemmas.{race_met, race_missing, race_passed}
use Rattle.sva_race_texts.proofs.behind.read_from_race.Goals as goal

pub returns-then-is_race : goal.returns-then-is_race
returns-then-is_race c =
    let it : is_race (said c.as_slice.result.now) ≡ true = search rules in
    subst (λ (read : Reading). IfOk c.read_behind.result (λ _. c.read_behind.new.reading ≡ read))
    (sym (race_met c.args.config c.args.names.now c.loop-number.reading c.judge_race.new.reading c.loop-number.lines.number _
    (lines_from (c.next.new.self.number + 1) c.next.new.self.rest.now) (c.in-Some.number, c.in-Some.line.now) (said c.as_slice.result.now)
    c.in-Some.ensures.line (ap said c.as_slice.ensures.value ∙ c.in_ok-split.ensures) it (search rules))
    ∙ c.loop-number.invariant) c.read_behind.ensures

pub loop-number-preserved : goal.loop-number-preserved
loop-number-preserved c =
    let other : is_race (said c.as_slice.result.now) ≡ false = search rules in
    let left = lines_from (c.next.new.self.number + 1) c.next.new.self.rest.now in
    sym (race_passed c.args.config c.args.names.now c.loop-number.reading c.loop-number.lines.number _ left
    (c.in-Some.number, c.in-Some.line.now) (said c.as_slice.result.now)
    c.in-Some.ensures.line (ap said c.as_slice.ensures.value ∙ c.in_ok-split.ensures) other
    ∙ ap (λ n. from_race c.args.config c.args.names.now c.loop-number.reading n left) c.in-Some.ensures.number)
    ∙ c.loop-number.invariant

pub returns : goal.returns
returns c =
    let next : c.saturating_add.result ≡ c.loop-number.lines.number + 1 = search rules in
    let tells : IfOk c.tell.result (λ _. c.tell.new.self ≡ with_fault c.loop-number.reading c.args.names.now c.saturating_add.result []
    (record { at = 0; wanted = wanted.Race })) =
    subst (λ (wrong : RaceWrong). IfOk c.tell.result (λ _. c.tell.new.self
    ≡ with_fault c.loop-number.reading c.args.names.now c.saturating_add.result [] wrong)) c.wrong_at-none.ensures c.tell.ensures in
    subst (λ (read : Reading). IfOk c.tell.result (λ _. c.tell.new.self ≡ read))
    (sym (race_missing c.args.config c.args.names.now c.loop-number.reading c.loop-number.lines.number c.saturating_add.result _
    (no_lines (c.loop-number.lines.number + 1) c.loop-number.lines.rest.now c.in_default.ensures.none) next)
    ∙ c.loop-number.invariant) tells
