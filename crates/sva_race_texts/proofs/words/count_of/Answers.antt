use Rattle.std.proofs.Common.{sym}
use Rattle.sva_race_texts.proofs.Lists.{said_length}
use Rattle.sva_race_texts.proofs.words.count_of.Goals as goal

pub returns-clause-said : goal.returns-clause-said
returns-clause-said c = sym (said_length c.args.words.now)
