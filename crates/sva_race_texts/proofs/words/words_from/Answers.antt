use Rattle.sva_race_texts.proofs.Lists.{behind_length, words_min}
use Rattle.sva_race_texts.proofs.words.words_from.Goals as goal

pub returns-clause-words : goal.returns-clause-words
returns-clause-words c = words_min c.args.words.now c.args.count c.min-start.result c.min-start.ensures

pub returns-clause-count : goal.returns-clause-count
returns-clause-count c = behind_length c.args.words.now c.args.count c.min-start.result c.min-start.ensures
