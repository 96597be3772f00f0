use Rattle.std.proofs.Common.{◌∙◌}
use Rattle.sva_race_texts.specs.Possible.{is_frameless}
use Rattle.sva_race_texts.specs.Seen.{line_seen}
use Rattle.sva_race_texts.proofs.PieceLemmas.{any_seen}
use Rattle.sva_race_texts.proofs.possible.is_frameless_in.Goals as goal

pub returns : goal.returns
returns c = c.is_one_frameless-found.ensures ∙ any_seen line_seen (is_frameless c.args.name.now) c.args.lines.now
