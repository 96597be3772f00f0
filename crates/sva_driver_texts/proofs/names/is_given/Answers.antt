use Rattle.std.proofs.Common.{◌∙◌}
use Rattle.sva_driver_words.specs.Awaits.{is_named, line_seen}
use Rattle.sva_race_texts.proofs.PieceLemmas.{any_seen}
use Rattle.sva_driver_texts.proofs.names.is_given.Goals as goal

pub returns : goal.returns
returns c = c.is_one_named-given.ensures ∙ any_seen line_seen (is_named c.args.name.now) c.args.lines.now
