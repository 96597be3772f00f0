use Rattle.std.proofs.Common.{◌∙◌}
use Rattle.sva_race_texts.proofs.PieceLemmas.{any_seen}
use Rattle.sva_race_texts.specs.Literals.{is_same}
use Rattle.sva_race_texts.specs.Readings.{asked_literal_seen}
use Rattle.sva_race_texts.proofs.literals.is_asked.Goals as goal

pub returns : goal.returns
returns c =
    c.is_one_same-found.ensures ∙ any_seen asked_literal_seen (is_same c.args.text.now c.args.is_of_ends) c.args.asked.now
