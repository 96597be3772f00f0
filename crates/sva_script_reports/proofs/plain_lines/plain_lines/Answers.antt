use Rattle.std.proofs.Common.{◌≡◌, ◌∙◌, ◌+◌, false, rules, subst, sym, true}
use Rattle.sva_script_reading.specs.Said.{IsSaid}
use Rattle.sva_script_reading.specs.Begins.{lines_from}
use Rattle.sva_script_reports.specs.Scripts.{At}
use Rattle.sva_script_reading.proofs.BeginLemmas.{no_lines}
use Rattle.sva_script_reports.proofs.PlainLemmas.{plain_end, plain_next, plain_stopped}
use Rattle.sva_script_reports.proofs.plain_lines.plain_lines.Goals as goal

pub returns-then-not-branch : goal.returns-then-not-branch
returns-then-not-branch c =
    let before : At = record { is_config = c.loop-number.is_config; running = c.loop-number.run } in
    let after : At = record { is_config = c.plain_words.new.is_config; running = c.plain_words.new.run } in
    let stops : c.in_ok-plain_words.field-0 ≡ false = search rules in
    plain_stopped _ before after (c.in-Some.number, c.in-Some.line.now) c.loop-number.out.items c.plain_words.new.out.items _
    (lines_from (c.next.new.self.number + 1) c.next.new.self.rest.now) c.in_ok-plain_words.field-0 c.loop-number.invariant c.in-Some.ensures.line stops
    c.in_ok-plain_words.ensures

pub loop-number-preserved : goal.loop-number-preserved
loop-number-preserved c =
    let before : At = record { is_config = c.loop-number.is_config; running = c.loop-number.run } in
    let after : At = record { is_config = c.plain_words.new.is_config; running = c.plain_words.new.run } in
    let goes : c.in_ok-plain_words.field-0 ≡ true = search rules in
    plain_next _ before after (c.in-Some.number, c.in-Some.line.now) c.loop-number.out.items c.plain_words.new.out.items _
    (lines_from (c.next.new.self.number + 1) c.next.new.self.rest.now) c.in_ok-plain_words.field-0 c.loop-number.invariant c.in-Some.ensures.line goes
    c.in_ok-plain_words.ensures

pub returns : goal.returns
returns c =
    let at : At = record { is_config = c.loop-number.is_config; running = c.loop-number.run } in
    subst (λ said. IsSaid said c.if_small.new.out.items c.if_small.result)
    (sym (c.loop-number.invariant
    ∙ plain_end c.loop-number.out.items at (lines_from (c.loop-number.lines.number + 1) c.loop-number.lines.rest.now)
    (no_lines (c.loop-number.lines.number + 1) c.loop-number.lines.rest.now c.in_default.ensures.none)))
    c.if_small.ensures
