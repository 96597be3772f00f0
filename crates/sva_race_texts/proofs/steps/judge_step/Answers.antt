use Rattle.std.proofs.Common.{◌≡◌, ◌∙◌, ap, rules, subst, sym, true}
use Rattle.std.specs.Prelude.{None, Result, Err}
use Rattle.sva_script.specs.Lines.{parts_of}
use Rattle.sva_script_reading.specs.Lines.{Reads, line_read}
use Rattle.sva_script_reading.specs.Messages.{link_of}
use Rattle.sva_race_texts.specs.declared.faults.RaceWrong.{RaceWrong}
use Rattle.sva_race_texts.specs.Words.{word_at}
use Rattle.sva_race_texts.proofs.Lists.{said}
use Rattle.sva_race_texts.specs.TakingWords.{Judges}
use Rattle.sva_race_texts.specs.Steps.{is_step}
use Rattle.sva_race_texts.proofs.StepLemmas.{judged_right, judged_wrong, step_by}
use Rattle.sva_race_texts.proofs.steps.judge_step.Goals as goal

pub returns-in-Ok : goal.returns-in-Ok
returns-in-Ok c =
    let words = said c.args.step.now in
    let known = c.args.names.now in
    let it : is_step (word_at 0 words) ≡ true = search rules in
    step_by c.args.at known words it
    ∙ judged_right c.args.at (line_read known (link_of None) (parts_of words)) c.read_line.new.plain.items c.read_line.new.expected.items _ c.in-Ok.ensures

pub returns-in-Err-Wrong : goal.returns-in-Err-Wrong
returns-in-Err-Wrong c =
    let words = said c.args.step.now in
    let known = c.args.names.now in
    let read = line_read known (link_of None) (parts_of words) in
    let it : is_step (word_at 0 words) ≡ true = search rules in
    subst (λ (judged : Result (Unit {0}) RaceWrong). Judges judged c.place_stop.result)
    (sym (step_by c.args.at known words it
    ∙ judged_wrong c.args.at read c.read_line.new.plain.items c.read_line.new.expected.items c.in-Err-Wrong.found
    (subst (λ r. Reads read c.read_line.new.plain.items c.read_line.new.expected.items r) (c.in-Err-Wrong.is ∙ ap Err c.in-Err-Wrong.field-0-is)
    c.read_line.ensures)))
    c.place_stop.ensures
