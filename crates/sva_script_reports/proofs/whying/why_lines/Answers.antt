use Rattle.std.proofs.Common.{◌≡◌, ◌∙◌, ◌+◌, List, false, map, rules, subst, sym, true, ℕ}
use denote.Ref.{Bor}
use Rattle.sva_script_reading.specs.Said.{IsSaid}
use Rattle.sva_script_reading.specs.Begins.{lines_from}
use Rattle.sva_script_reports.specs.Scripts.{At}
use Rattle.sva_script_reading.proofs.BeginLemmas.{no_lines}
use Rattle.sva_script_reports.proofs.WhyLemmas.{why_end, why_next, why_stopped}
use Rattle.sva_script_reports.proofs.whying.why_lines.Goals as goal

pub returns-then-not-branch : goal.returns-then-not-branch
returns-then-not-branch g c =
    let before : At = record { is_config = c.loop-number.is_config; running = c.loop-number.run } in
    let after : At = record { is_config = c.why_words.new.is_config; running = c.why_words.new.run } in
    let words = map {A = Bor (List ℕ)} {B = List ℕ} (λ word. word.now) c.split.new.words.items in
    let stops : c.in_ok-why_words.field-0 ≡ false = search rules in
    why_stopped g.E.Explains.explained _ before after (c.in-Some.number, c.in-Some.line.now) words c.loop-number.out.items c.why_words.new.out.items _
    (lines_from (c.next.new.self.number + 1) c.next.new.self.rest.now) c.in_ok-why_words.field-0 c.loop-number.invariant c.in-Some.ensures.line
    c.in_ok-split.ensures stops c.in_ok-why_words.ensures

pub loop-number-preserved : goal.loop-number-preserved
loop-number-preserved g c =
    let before : At = record { is_config = c.loop-number.is_config; running = c.loop-number.run } in
    let after : At = record { is_config = c.why_words.new.is_config; running = c.why_words.new.run } in
    let words = map {A = Bor (List ℕ)} {B = List ℕ} (λ word. word.now) c.split.new.words.items in
    let goes : c.in_ok-why_words.field-0 ≡ true = search rules in
    why_next g.E.Explains.explained _ before after (c.in-Some.number, c.in-Some.line.now) words c.loop-number.out.items c.why_words.new.out.items _
    (lines_from (c.next.new.self.number + 1) c.next.new.self.rest.now) c.in_ok-why_words.field-0 c.loop-number.invariant c.in-Some.ensures.line
    c.in_ok-split.ensures goes c.in_ok-why_words.ensures

pub returns : goal.returns
returns g c =
    let at : At = record { is_config = c.loop-number.is_config; running = c.loop-number.run } in
    subst (λ said. IsSaid said c.end_cases.new.out.items c.end_cases.result)
    (sym (c.loop-number.invariant
    ∙ why_end g.E.Explains.explained c.loop-number.out.items at (lines_from (c.loop-number.lines.number + 1) c.loop-number.lines.rest.now)
    (no_lines (c.loop-number.lines.number + 1) c.loop-number.lines.rest.now c.in_default.ensures.none)))
    c.end_cases.ensures
