use Rattle.std.proofs.Common.{◌∙◌, sym}
use Rattle.sva_script.proofs.PartLemmas.{position_map}
use Rattle.sva_driver_words.specs.Awaits.{is_of_thread, line_seen}
use Rattle.sva_driver_words.proofs.Threads.{some_inside}
use Rattle.sva_driver_words.proofs.awaits.first_of.Goals as goal

pub returns-clause-first : goal.returns-clause-first
returns-clause-first c = c.first_line-found.ensures ∙ sym (position_map line_seen (is_of_thread c.args.thread.now) c.args.lines.now)

pub returns-clause-inside : goal.returns-clause-inside
returns-clause-inside c = some_inside _ c.args.lines.now _ c.first_line-found.ensures
