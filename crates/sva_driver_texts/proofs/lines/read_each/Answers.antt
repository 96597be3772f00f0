use Rattle.std.proofs.Common.{◌∙◌, ◌<◌, ◌≤◌, ap, length, rules, sym}
use Rattle.sva_driver_texts.specs.Bodies.{worded_seen}
use Rattle.sva_driver_texts.specs.Readings.{behind_words}
use Rattle.sva_driver_texts.specs.declared.bodies.WordedLine.{WordedLine}
use Rattle.sva_driver_texts.proofs.Runs.{behind_end, behind_next}
use Rattle.sva_driver_texts.proofs.lines.read_each.Goals as goal

pub loop-line-preserved : goal.loop-line-preserved
loop-line-preserved c =
    let inside : c.loop-line.line-index < length c.args.lines.now = search rules in
    sym (behind_next c.args.config.now c.args.names.now c.loop-line.reading c.read_line.new.reading c.args.lines.now c.loop-line.line-index _ inside
    (c.in_ok-read_line.ensures
    ∙ ap (λ (line : WordedLine). behind_words c.args.config.now c.args.names.now c.loop-line.reading (worded_seen line).0 (worded_seen line).1)
    c.line-item.is))
    ∙ c.loop-line.invariant

pub returns : goal.returns
returns c =
    let past : length c.args.lines.now ≤ c.loop-line.line-index = search rules in
    sym (behind_end c.args.config.now c.args.names.now c.loop-line.reading c.args.lines.now c.loop-line.line-index past) ∙ c.loop-line.invariant
