use Rattle.std.proofs.Common.{◌∙◌, ◌≤◌, length, rules}
use Rattle.sva_driver_texts.specs.Bodies.{texts, worded_seen}
use Rattle.sva_driver_texts.specs.WrittenOut.{put_line}
use Rattle.sva_driver_texts.specs.declared.bodies.WordedLine.{WordedLine}
use Rattle.sva_driver_texts.proofs.Anys.{map_twice}
use Rattle.sva_driver_texts.proofs.Written.{built_end}
use Rattle.sva_driver_texts.proofs.given.put_lines.Goals as goal

pub returns : goal.returns
returns c =
    let past : length c.args.defined.now.lines.items ≤ c.loop-line.line-index = search rules in
    built_end worded_seen (λ (line : WordedLine). put_line (texts c.args.defined.now.parameters.items) (texts c.args.given.now) (worded_seen line))
    c.args.defined.now.lines.items c.loop-line.line-index c.loop-line.put.items _ past c.loop-line.invariant
    ∙ map_twice (put_line (texts c.args.defined.now.parameters.items) (texts c.args.given.now)) worded_seen c.args.defined.now.lines.items
