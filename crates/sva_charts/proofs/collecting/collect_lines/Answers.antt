use Rattle.std.proofs.Common.{◌≡◌, ◌∙◌, ◌+◌, List, false, map, rules, true, ℕ}
use denote.Ref.{Bor}
use Rattle.sva_script_reading.specs.Begins.{lines_from}
use Rattle.sva_script_reports.specs.Scripts.{At}
use Rattle.sva_script_reading.proofs.BeginLemmas.{no_lines}
use Rattle.sva_script_reports.proofs.ShowLemmas.{show_end, show_next, show_stopped}
use Rattle.sva_charts.proofs.ChartLemmas.{all_kept, stopped}
use Rattle.sva_charts.proofs.collecting.collect_lines.Goals as goal

pub returns-then-not-branch : goal.returns-then-not-branch
returns-then-not-branch c =
    let before : At = record { is_config = c.loop-number.is_config; running = c.loop-number.run } in
    let after : At = record { is_config = c.collect_words.new.is_config; running = c.collect_words.new.run } in
    let words = map {A = Bor (List ℕ)} {B = List ℕ} (λ word. word.now) c.split.new.words.items in
    let stops : c.in_ok-collect_words.field-0 ≡ false = search rules in
    stopped _ _
    (show_stopped _ before after (c.in-Some.number, c.in-Some.line.now) words c.loop-number.out.items c.collect_words.new.out.items _
    (lines_from (c.next.new.self.number + 1) c.next.new.self.rest.now) c.in_ok-collect_words.field-0 c.loop-number.invariant.whole c.in-Some.ensures.line
    c.in_ok-split.ensures stops c.loop-number.invariant.out c.in_ok-collect_words.ensures)

pub loop-number-preserved : goal.loop-number-preserved
loop-number-preserved c =
    let before : At = record { is_config = c.loop-number.is_config; running = c.loop-number.run } in
    let after : At = record { is_config = c.collect_words.new.is_config; running = c.collect_words.new.run } in
    let words = map {A = Bor (List ℕ)} {B = List ℕ} (λ word. word.now) c.split.new.words.items in
    let goes : c.in_ok-collect_words.field-0 ≡ true = search rules in
    let both = show_next _ before after (c.in-Some.number, c.in-Some.line.now) words c.loop-number.out.items c.collect_words.new.out.items _
    (lines_from (c.next.new.self.number + 1) c.next.new.self.rest.now) c.in_ok-collect_words.field-0 c.loop-number.invariant.whole c.in-Some.ensures.line
    c.in_ok-split.ensures goes c.in_ok-collect_words.ensures in
    record { whole = both.0; out = both.1 ∙ c.loop-number.invariant.out }

pub returns : goal.returns
returns c =
    let at : At = record { is_config = c.loop-number.is_config; running = c.loop-number.run } in
    all_kept _ _ _
    (c.loop-number.invariant.whole
    ∙ show_end at (lines_from (c.loop-number.lines.number + 1) c.loop-number.lines.rest.now)
    (no_lines (c.loop-number.lines.number + 1) c.loop-number.lines.rest.now c.in_default.ensures.none))
    c.loop-number.invariant.out
