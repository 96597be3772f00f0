use Rattle.std.proofs.Common.{◌≡◌, ◌∙◌, ap, map}
use Rattle.sva_script.proofs.WordLemmas.{on_ok_by}
use Rattle.sva_race_texts.proofs.Lists.{said}
use Rattle.sva_race_texts.specs.Seen.{line_seen}
use Rattle.sva_race_texts.specs.Literals.{with_condition}
use Rattle.sva_race_texts.specs.Readings.{Reading}
use Rattle.sva_race_texts.proofs.readings.Reading.add_literals.Goals as goal

pub returns : goal.returns
returns c =
    let was = c.self.view_is in
    let lines : map line_seen c.as_slice.result.now ≡ c.args.self.now.lines =
    ap (map line_seen) c.as_slice.ensures.value ∙ ap (λ (reading : Reading). reading.lines) was in
    on_ok_by c.add_condition.result
    (λ asked. let literals = asked ∙ (λ i. with_condition c.args.config c.args.names.now (lines i) c.args.line
    c.args.is_of_ends (was i).literals (said c.args.words.now)) in
    λ i. record (was i) { literals = literals i })
    c.add_condition.ensures
