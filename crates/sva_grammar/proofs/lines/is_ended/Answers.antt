use Rattle.std.proofs.Common.{rules}
use Rattle.sva_grammar.proofs.LineLemmas.{ended_last}
use Rattle.sva_grammar.proofs.lines.is_ended.Goals as goal

pub returns-in-len1-up : goal.returns-in-len1-up
returns-in-len1-up c = ended_last c.args.text.now (search rules)
