use Rattle.std.proofs.Common.{◌≡◌, ◌∙◌, ◌+◌, [], ap, List, map, rules, sym, ℕ}
use denote.Ref.{Bor}
use Rattle.sva_script.specs.Lines.{script_words}
use Rattle.sva_script_reading.specs.Begins.{lines_from}
use Rattle.sva_script_reading.proofs.BeginLemmas.{no_lines, no_words, some_words}
use Rattle.sva_race_texts.proofs.LimitLemmas.{first_none, first_said, first_silent, limits_told}
use Rattle.sva_race_texts.proofs.limits.put_limits.Goals as goal

pub returns-then-not-is_empty : goal.returns-then-not-is_empty
returns-then-not-is_empty c =
    let words = map {A = Bor (List ℕ)} {B = List ℕ} (λ word. word.now) c.as_slice.result.now in
    let same : words ≡ script_words c.in-Some.line.now =
    ap (λ ws. map {A = Bor (List ℕ)} {B = List ℕ} (λ word. word.now) ws) c.as_slice.ensures.value ∙ c.in_ok-split.ensures in
    let some : words ≡ [] → ⊥ = some_words c.as_slice.result.now (search rules) in
    limits_told c.put_fault.result c.args.config.now (lines_from (c.args.from.number + 1) c.args.from.rest.now) _ _ c.in-Some.number words _ _ _
    (c.loop-number.invariant.first ∙ first_said _ _ (c.in-Some.number, c.in-Some.line.now) words c.in-Some.ensures.line same some)
    c.new-none.ensures c.count_wrong-wrong.ensures c.loop-number.invariant.told c.put_fault.ensures

pub loop-number-preserved : goal.loop-number-preserved
loop-number-preserved c =
    let none : script_words c.in-Some.line.now ≡ [] = sym c.in_ok-split.ensures ∙ no_words c.split.new.words.items (search rules) in
    record {
      first = c.loop-number.invariant.first ∙ first_silent _ _ (c.in-Some.number, c.in-Some.line.now) c.in-Some.ensures.line none;
      told = c.loop-number.invariant.told;
    }

pub returns : goal.returns
returns c =
    limits_told c.put_fault-2.result c.args.config.now (lines_from (c.args.from.number + 1) c.args.from.rest.now) _ _ 0 [] _ _ _
    (c.loop-number.invariant.first ∙ first_none _ (no_lines (c.loop-number.lines.number + 1) c.loop-number.lines.rest.now c.in_default.ensures.none))
    c.new-none.ensures c.count_wrong-wrong.ensures c.loop-number.invariant.told c.put_fault-2.ensures
