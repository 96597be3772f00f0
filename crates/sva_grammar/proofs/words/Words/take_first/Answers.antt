use Rattle.std.proofs.Common.{ap, take}
use Rattle.sva_grammar.proofs.words.Words.take_first.Goals as goal

pub returns-clause-line : goal.returns-clause-line
returns-clause-line c = ap (λ n. take n c.args.text.now) c.find_words-count.ensures.len
