use Rattle.std.proofs.Common.{◌∙◌}
use Rattle.sva_race_texts.proofs.Lists.{now}
use Rattle.sva_race_texts.proofs.PieceLemmas.{any_seen}
use Rattle.sva_race_texts.specs.Literals.{is_and}
use Rattle.sva_race_texts.proofs.literals.has_several.Goals as goal

pub returns : goal.returns
returns c = c.is_one_and-found.ensures ∙ any_seen now is_and c.args.words.now
