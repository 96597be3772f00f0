use Rattle.sva_race_texts.proofs.Lists.{between_length, words_between}
use Rattle.sva_race_texts.proofs.words.words_at.Goals as goal

pub returns-clause-words : goal.returns-clause-words
returns-clause-words c = words_between c.args.words.now c.args.start c.args.count

pub returns-clause-count : goal.returns-clause-count
returns-clause-count c = between_length c.args.words.now c.args.start c.args.count c.requires
