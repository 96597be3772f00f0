use Rattle.std.proofs.Common.{map}
use Rattle.sva_race_texts.proofs.Lists.{said}
use Rattle.sva_race_texts.specs.Conditions.{literals_of}
use Rattle.sva_race_texts.specs.Seen.{line_seen, literals_seen}
use Rattle.sva_race_texts.proofs.PieceLemmas.{added}
use Rattle.sva_race_texts.proofs.claims.add_literals.Goals as goal

pub returns-in-Ok-push_literals : goal.returns-in-Ok-push_literals
returns-in-Ok-push_literals c =
    added literals_seen (literals_of c.args.config c.args.names.now (map line_seen c.args.lines.now) c.args.at (said c.args.words.now))
    c.args.condition.now.items c.push_literals.new.list.items c.in-Ok.literals c.in-Ok.ensures c.in-Ok-push_literals.ensures
