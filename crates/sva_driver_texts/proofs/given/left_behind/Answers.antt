use Rattle.std.proofs.Common.{◌∙◌, ◌+◌, ◌<◌, ◌≤◌, ap, arith, drop, length, rules, sym}
use Rattle.sva_driver_texts.specs.Bodies.{lines_seen, texts, worded_seen}
use Rattle.sva_driver_texts.specs.WrittenOut.{size_of, size_of_words}
use Rattle.sva_driver_texts.specs.declared.bodies.WordedLine.{WordedLine}
use Rattle.sva_driver_texts.proofs.Written.{lines_less, lines_none}
use Rattle.sva_driver_texts.proofs.given.left_behind.Goals as goal

pub returns-in-None-clause-none : goal.returns-in-None-clause-none
returns-in-None-clause-none c =
    let lines = c.args.lines.now in
    let inside : c.loop-line.line-index < length lines = search rules in
    let rest = size_of (lines_seen (drop (c.loop-line.line-index + 1) lines)) in
    let less = lines_less lines c.loop-line.line-index _ inside
    ∙ ap (λ (line : WordedLine). size_of_words (worded_seen line).1 + rest) (sym c.line-item.is) in
    let its = ap (λ words. size_of_words (texts words)) c.as_slice.ensures.value in
    let full = c.in-None.ensures.none in
    omega (arith, less, its, full, c.loop-line.invariant)

pub loop-line-preserved : goal.loop-line-preserved
loop-line-preserved c =
    let lines = c.args.lines.now in
    let inside : c.loop-line.line-index < length lines = search rules in
    let rest = size_of (lines_seen (drop (c.loop-line.line-index + 1) lines)) in
    let less = lines_less lines c.loop-line.line-index _ inside
    ∙ ap (λ (line : WordedLine). size_of_words (worded_seen line).1 + rest) (sym c.line-item.is) in
    let its = ap (λ words. size_of_words (texts words)) c.as_slice.ensures.value in
    let left = c.in-Some.ensures.some in
    omega (arith, less, its, left, c.loop-line.invariant)

pub returns-clause-some : goal.returns-clause-some
returns-clause-some c =
    let past : length c.args.lines.now ≤ c.loop-line.line-index = search rules in
    omega (arith, lines_none c.args.lines.now c.loop-line.line-index past, c.loop-line.invariant)
