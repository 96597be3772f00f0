use Rattle.std.proofs.Common.{◌≡◌, ◌∙◌, ◌+◌, ◌++◌, [], ap, List, map, rules, subst, sym, ℕ}
use denote.Ref.{Bor}
use Rattle.sva_script.specs.declared.faults.Wanted.TheVariants as wanted
use Rattle.sva_script.specs.Lines.{script_words}
use Rattle.sva_script_reading.specs.Faults.{fault_text}
use Rattle.sva_script_reading.specs.Reading.{HasConfig}
use Rattle.std.specs.Prelude.{IfOk}
use Rattle.sva_script_reading.specs.Begins.{at_word, config_in, fault_of, lines_from}
use Rattle.sva_script_reading.proofs.BeginLemmas.{config_found, config_missing, config_silent, no_lines, no_words, some_words}
use Rattle.sva_script_reading.proofs.reading.take_config.Goals as goal

pub returns-then-not-is_empty : goal.returns-then-not-is_empty
returns-then-not-is_empty c =
    let words = map {A = Bor (List ℕ)} {B = List ℕ} (λ word. word.now) c.as_slice.result.now in
    let same : words ≡ script_words c.in-Some.line.now =
    ap (λ ws. map {A = Bor (List ℕ)} {B = List ℕ} (λ word. word.now) ws) c.as_slice.ensures.value ∙ c.in_ok-split.ensures in
    let some : words ≡ [] → ⊥ = some_words c.as_slice.result.now (search rules) in
    subst (λ (old : List ℕ). IfOk c.config_of.result (λ found. HasConfig (config_in c.args.lines.now.number
    (lines_from (c.args.lines.now.number + 1) c.args.lines.now.rest.now)) found (lines_from (c.next.new.self.number + 1) c.next.new.self.rest.now) old
    c.config_of.new.faults.items)) c.loop-number.invariant.told
    (config_found c.args.lines.now.number c.loop-number.lines.number _ _ (lines_from (c.next.new.self.number + 1) c.next.new.self.rest.now)
    (c.in-Some.number, c.in-Some.line.now) words c.loop-number.faults.items c.config_of.new.faults.items c.config_of.result c.loop-number.invariant.config
    c.in-Some.ensures.line same some c.config_of.ensures)

pub loop-number-preserved : goal.loop-number-preserved
loop-number-preserved c =
    let none : script_words c.in-Some.line.now ≡ [] = sym c.in_ok-split.ensures ∙ no_words c.split.new.words.items (search rules) in
    record {
      config = c.loop-number.invariant.config
          ∙ config_silent c.loop-number.lines.number _ (lines_from (c.next.new.self.number + 1) c.next.new.self.rest.now)
          (c.in-Some.number, c.in-Some.line.now) c.in-Some.ensures.line none
          ∙ ap (λ n. config_in n (lines_from (c.next.new.self.number + 1) c.next.new.self.rest.now)) c.in-Some.ensures.number;
      told = c.loop-number.invariant.told;
    }

pub returns : goal.returns
returns c =
    let next : c.saturating_add.result ≡ c.loop-number.lines.number + 1 = search rules in
    let told : c.put_wrong.new.out.items
    ≡ c.loop-number.faults.items ++ fault_text (fault_of c.args.names.now c.saturating_add.result [] (at_word 0 wanted.Config)) = search rules in
    subst (λ (old : List ℕ). HasConfig (config_in c.args.lines.now.number (lines_from (c.args.lines.now.number + 1) c.args.lines.now.rest.now)) _
    (lines_from (c.next.new.self.number + 1) c.next.new.self.rest.now) old c.put_wrong.new.out.items) c.loop-number.invariant.told
    (config_missing c.args.lines.now.number c.loop-number.lines.number c.saturating_add.result _ _ _ c.args.names.now c.loop-number.faults.items
    c.put_wrong.new.out.items c.loop-number.invariant.config
    (no_lines (c.loop-number.lines.number + 1) c.loop-number.lines.rest.now c.in_default.ensures.none) next told)
