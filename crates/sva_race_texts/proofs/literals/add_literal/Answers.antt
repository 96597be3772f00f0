use Rattle.std.proofs.Common.{◌≡◌, ◌∙◌, ap, cond, false, map, rules, sym, true}
use Rattle.sva_script.proofs.WordLemmas.{on_ok_by}
use Rattle.sva_script_reading.specs.Begins.{joined_words}
use Rattle.sva_race_texts.proofs.Lists.{said}
use Rattle.sva_race_texts.specs.Conditions.{condition_of}
use Rattle.sva_race_texts.specs.Seen.{line_seen}
use Rattle.sva_race_texts.specs.Literals.{asked_by, is_asked, with_read}
use Rattle.sva_race_texts.specs.Readings.{asked_literal_seen, literals_seen}
use Rattle.sva_race_texts.proofs.literals.add_literal.Goals as goal

pub returns-then-is_asked : goal.returns-then-is_asked
returns-then-is_asked c =
    let old = literals_seen c.args.own.now in
    let words = said c.args.words.now in
    let read = condition_of c.args.config c.args.names.now (map line_seen c.args.lines.now) 0 words in
    let text : c.as_slice-2.result.now ≡ joined_words words = c.as_slice-2.ensures.value ∙ c.in_ok-text.ensures in
    let met : is_asked c.as_slice-2.result.now c.args.is_of_ends (map asked_literal_seen c.as_slice.result.now) ≡ true =
    search rules in
    let there : is_asked (joined_words words) c.args.is_of_ends old.asked ≡ true =
    (λ i. is_asked (sym text i) c.args.is_of_ends (map asked_literal_seen (sym c.as_slice.ensures.value i))) ∙ met in
    sym (ap (λ b. cond b old (with_read old (asked_by c.args.line c.args.is_of_ends (joined_words words)) read)) there)

pub returns : goal.returns
returns c =
    let old = literals_seen c.args.own.now in
    let words = said c.args.words.now in
    let read = condition_of c.args.config c.args.names.now (map line_seen c.args.lines.now) 0 words in
    let text : c.as_slice-2.result.now ≡ joined_words words = c.as_slice-2.ensures.value ∙ c.in_ok-text.ensures in
    let met : is_asked c.as_slice-2.result.now c.args.is_of_ends (map asked_literal_seen c.as_slice.result.now) ≡ false =
    search rules in
    let other : is_asked (joined_words words) c.args.is_of_ends old.asked ≡ false =
    (λ i. is_asked (sym text i) c.args.is_of_ends (map asked_literal_seen (sym c.as_slice.ensures.value i))) ∙ met in
    on_ok_by c.ask.result
    (λ asked. asked ∙ ap (λ t. with_read old (asked_by c.args.line c.args.is_of_ends t) read) c.in_ok-text.ensures
    ∙ sym (ap (λ b. cond b old (with_read old (asked_by c.args.line c.args.is_of_ends (joined_words words)) read)) other))
    c.ask.ensures
