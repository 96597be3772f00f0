use Rattle.std.proofs.Common.{◌∙◌, sym}
use Rattle.sva_script.proofs.PartLemmas.{position_map}
use Rattle.sva_driver_texts.specs.Ways.{is_thread}
use Rattle.sva_driver_texts.proofs.WayLemmas.{own}
use Rattle.sva_driver_texts.proofs.ways.place_in.Goals as goal

pub returns : goal.returns
returns c = c.place_of-found.ensures ∙ sym (position_map own (is_thread c.args.thread.now) c.args.threads.now)
