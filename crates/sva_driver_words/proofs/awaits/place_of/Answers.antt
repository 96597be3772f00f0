use Rattle.std.proofs.Common.{◌∙◌, sym}
use Rattle.sva_script.proofs.PartLemmas.{position_map}
use Rattle.sva_driver_words.specs.Awaits.{is_named, line_seen}
use Rattle.sva_driver_words.proofs.awaits.place_of.Goals as goal

pub returns : goal.returns
returns c = c.line_of-found.ensures ∙ sym (position_map line_seen (is_named c.args.name.now) c.args.lines.now)
