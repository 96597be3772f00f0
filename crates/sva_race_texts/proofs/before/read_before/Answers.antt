use Rattle.std.proofs.Common.{◌≡◌, ◌∙◌, ◌+◌, ap, sym, rules, true, false}
use Rattle.sva_script_reading.proofs.BeginLemmas.{no_lines}
use Rattle.sva_script_reading.specs.Begins.{lines_from}
use Rattle.sva_race_texts.specs.Texts.{is_race, line_before}
use Rattle.sva_race_texts.proofs.Lists.{said}
use Rattle.sva_race_texts.proofs.RunLemmas.{script_end, script_met, script_next}
use Rattle.sva_race_texts.proofs.before.read_before.Goals as goal

pub returns-then-is_race : goal.returns-then-is_race
returns-then-is_race c =
    let it : is_race (said c.as_slice.result.now) ≡ true = search rules in
    script_met c.loop-number.names c.loop-number.has_ended c.loop-number.reading c.args.reading.now _
    (lines_from (c.next.new.self.number + 1) c.next.new.self.rest.now) _ (c.in-Some.number, c.in-Some.line.now) (said c.as_slice.result.now)
    c.loop-number.invariant c.in-Some.ensures.line (ap said c.as_slice.ensures.value ∙ c.in_ok-split.ensures) it

pub loop-number-preserved : goal.loop-number-preserved
loop-number-preserved c =
    let lent : is_race (said c.as_slice.result.now) ≡ false = search rules in
    let other : is_race (said c.split.new.words.items) ≡ false = sym (ap (λ words. is_race (said words)) c.as_slice.ensures.value) ∙ lent in
    script_next c.loop-number.names c.tell_script.new.names c.loop-number.has_ended c.in_ok-has_ended.has_ended c.loop-number.reading
    c.add_before.new.reading c.tell_script.new.self c.args.reading.now _ (lines_from (c.next.new.self.number + 1) c.next.new.self.rest.now) _
    (c.in-Some.number, c.in-Some.line.now) (said c.split.new.words.items) c.loop-number.invariant c.in-Some.ensures.line c.in_ok-split.ensures other
    (c.in_ok-add_before.ensures ∙ ap (λ words. line_before c.loop-number.reading c.in-Some.number (said words)) c.as_slice-in-Some.ensures.value)
    c.in_ok-has_ended.ensures.line c.in_ok-has_ended.ensures.only

pub returns : goal.returns
returns c =
    script_end c.loop-number.names c.loop-number.has_ended c.loop-number.reading c.args.reading.now _ _ c.loop-number.invariant
    (no_lines (c.loop-number.lines.number + 1) c.loop-number.lines.rest.now c.in_default.ensures.none)
