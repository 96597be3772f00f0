use Rattle.std.proofs.Common.{map}
use Rattle.sva_race_texts.proofs.Lists.{said}
use Rattle.sva_race_texts.specs.Conditions.{literal_of}
use Rattle.sva_race_texts.specs.Seen.{line_seen, literal_seen}
use Rattle.sva_race_texts.proofs.PieceLemmas.{added}
use Rattle.sva_race_texts.proofs.claims.add_literal.Goals as goal

pub returns-in-Ok-push_literal : goal.returns-in-Ok-push_literal
returns-in-Ok-push_literal c =
    added literal_seen (literal_of c.args.config c.args.names.now (map line_seen c.args.lines.now) c.args.at (said c.args.words.now))
    c.args.literals.now.items c.push_literal.new.list.items c.in-Ok.literal c.in-Ok.ensures c.in-Ok-push_literal.ensures
