use Rattle.std.proofs.Common.{map}
use Rattle.sva_driver_words.specs.Awaits.{line_seen}
use Rattle.sva_driver_texts.proofs.WayLemmas.{firsts_by}
use Rattle.sva_driver_texts.proofs.ways.ways_of.Goals as goal

pub returns-clause-firsts : goal.returns-clause-firsts
returns-clause-firsts c =
    firsts_by (map line_seen c.args.lines.now) c.as_slice.result.now c.in_ok-threads.threads.items c.in_ok-firsts.firsts.items
    c.in_ok-firsts.ensures c.as_slice.ensures.value c.in_ok-threads.ensures
