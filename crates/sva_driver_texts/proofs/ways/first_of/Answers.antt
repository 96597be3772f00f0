use Rattle.std.proofs.Common.{◌∙◌, sym}
use Rattle.sva_script.proofs.PartLemmas.{position_map}
use Rattle.sva_driver_words.specs.Awaits.{line_seen}
use Rattle.sva_driver_texts.specs.Ways.{is_line_of}
use Rattle.sva_driver_texts.proofs.ways.first_of.Goals as goal

pub returns : goal.returns
returns c = c.first_place-found.ensures ∙ sym (position_map line_seen (is_line_of c.args.thread.now) c.args.lines.now)
