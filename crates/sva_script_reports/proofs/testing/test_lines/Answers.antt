use Rattle.std.proofs.Common.{◌∙◌, ◌+◌, ◌++◌, arith, ap, List, map, Ok, refl, subst, sym, ℕ}
use denote.Ref.{Bor}
use Rattle.sva_streams.specs.declared.streams.Outcome.TheVariants.{Done}
use Rattle.sva_script_reports.specs.declared.testing.Compared.TheVariants.{Differs, NotExpected, Same}
use Rattle.sva_script_reports.specs.Lines.{ComparesWords}
use Rattle.sva_script_reading.specs.Said.{IsSaid}
use Rattle.sva_script_reading.specs.Begins.{lines_from}
use Rattle.sva_script_reports.specs.Scripts.{At, verdict_text}
use Rattle.sva_script_reading.proofs.BeginLemmas.{no_lines}
use Rattle.sva_script_reports.proofs.TestLemmas.{test_end, test_passed, test_same, test_stopped}
use Rattle.sva_script_reports.proofs.testing.test_lines.Goals as goal

pub loop-number-preserved-in-Same : goal.loop-number-preserved-in-Same
loop-number-preserved-in-Same g c =
    let before : At = record { is_config = c.loop-number.is_config; running = c.loop-number.run } in
    let after : At = record { is_config = c.test_words.new.is_config; running = c.test_words.new.run } in
    let words = map {A = Bor (List ℕ)} {B = List ℕ} (λ word. word.now) c.split.new.words.items in
    let compares : ComparesWords g.E.Explains.explained before c.loop-number.is_past c.in-Some.number words c.loop-number.out.items c.test_words.new.out.items
    c.test_words.new.is_past after (Ok Same) =
    subst (λ r. ComparesWords g.E.Explains.explained before c.loop-number.is_past c.in-Some.number words c.loop-number.out.items c.test_words.new.out.items
    c.test_words.new.is_past after (Ok r)) c.in-Same.is c.in_ok-test_words.ensures in
    record {
      whole = test_same g.E.Explains.explained _ c.loop-number.is_past c.test_words.new.is_past before after
          (c.in-Some.number, c.in-Some.line.now) words c.loop-number.out.items
          c.test_words.new.out.items _ (lines_from (c.next.new.self.number + 1) c.next.new.self.rest.now) c.loop-number.count (c.loop-number.count + 1)
          c.loop-number.invariant.whole c.in-Some.ensures.line c.in_ok-split.ensures refl compares;
      out = compares.0 ∙ c.loop-number.invariant.out;
      few = omega (arith, c.loop-number.invariant.few, c.in-Some.ensures.shorter);
    }

pub loop-number-preserved : goal.loop-number-preserved
loop-number-preserved g c =
    let before : At = record { is_config = c.loop-number.is_config; running = c.loop-number.run } in
    let after : At = record { is_config = c.test_words.new.is_config; running = c.test_words.new.run } in
    let words = map {A = Bor (List ℕ)} {B = List ℕ} (λ word. word.now) c.split.new.words.items in
    let compares : ComparesWords g.E.Explains.explained before c.loop-number.is_past c.in-Some.number words c.loop-number.out.items c.test_words.new.out.items
    c.test_words.new.is_past after (Ok NotExpected) =
    subst (λ r. ComparesWords g.E.Explains.explained before c.loop-number.is_past c.in-Some.number words c.loop-number.out.items c.test_words.new.out.items
    c.test_words.new.is_past after (Ok r)) c.in-NotExpected.is c.in_ok-test_words.ensures in
    record {
      whole = test_passed g.E.Explains.explained _ c.loop-number.is_past c.test_words.new.is_past before after
          (c.in-Some.number, c.in-Some.line.now) words c.loop-number.out.items
          c.test_words.new.out.items _ (lines_from (c.next.new.self.number + 1) c.next.new.self.rest.now) c.loop-number.count
          c.loop-number.invariant.whole c.in-Some.ensures.line
          c.in_ok-split.ensures compares;
      out = compares.0 ∙ c.loop-number.invariant.out;
      few = omega (arith, c.loop-number.invariant.few, c.in-Some.ensures.shorter);
    }

pub returns-in-Differs : goal.returns-in-Differs
returns-in-Differs g c =
    let before : At = record { is_config = c.loop-number.is_config; running = c.loop-number.run } in
    let after : At = record { is_config = c.test_words.new.is_config; running = c.test_words.new.run } in
    let words = map {A = Bor (List ℕ)} {B = List ℕ} (λ word. word.now) c.split.new.words.items in
    let compares : ComparesWords g.E.Explains.explained before c.loop-number.is_past c.in-Some.number words c.loop-number.out.items c.test_words.new.out.items
    c.test_words.new.is_past after (Ok Differs) =
    subst (λ r. ComparesWords g.E.Explains.explained before c.loop-number.is_past c.in-Some.number words c.loop-number.out.items c.test_words.new.out.items
    c.test_words.new.is_past after (Ok r)) c.in-Differs.is c.in_ok-test_words.ensures in
    test_stopped g.E.Explains.explained _ c.loop-number.is_past c.test_words.new.is_past before after
    (c.in-Some.number, c.in-Some.line.now) words c.loop-number.out.items
    c.test_words.new.out.items _ (lines_from (c.next.new.self.number + 1) c.next.new.self.rest.now) c.loop-number.count
    c.loop-number.invariant.whole c.in-Some.ensures.line
    c.in_ok-split.ensures c.loop-number.invariant.out compares

pub returns : goal.returns
returns g c =
    let at : At = record { is_config = c.loop-number.is_config; running = c.loop-number.run } in
    subst (λ said. IsSaid said c.put_verdict.new.out.items (Ok Done))
    (sym (c.loop-number.invariant.whole
    ∙ test_end g.E.Explains.explained c.loop-number.count c.loop-number.is_past at (lines_from (c.loop-number.lines.number + 1) c.loop-number.lines.rest.now)
    (no_lines (c.loop-number.lines.number + 1) c.loop-number.lines.rest.now c.in_default.ensures.none)))
    (refl, c.in_ok-put_verdict.ensures ∙ ap (λ l. l ++ verdict_text c.loop-number.count) c.loop-number.invariant.out)
