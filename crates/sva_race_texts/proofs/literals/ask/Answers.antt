use Rattle.std.proofs.Common.{◌∙◌, ap, sym}
use Rattle.sva_script.proofs.WordLemmas.{on_ok_by}
use Rattle.sva_race_texts.specs.Literals.{with_claim, with_read}
use Rattle.sva_race_texts.specs.Readings.{asked_literal_seen, literals_seen}
use Rattle.sva_race_texts.proofs.literals.ask.Goals as goal

pub returns-in-Ok : goal.returns-in-Ok
returns-in-Ok c =
    let old = literals_seen c.args.own.now in
    let asked = asked_literal_seen c.args.asked in
    on_ok_by c.push_literal.result
    (λ pushed. pushed ∙ ap (with_claim old asked) c.sometimes.ensures ∙ sym (ap (with_read old asked) c.in-Ok.ensures))
    c.push_literal.ensures
