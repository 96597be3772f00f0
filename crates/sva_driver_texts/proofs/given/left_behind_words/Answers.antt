use Rattle.std.proofs.Common.{◌<◌, ◌≤◌, [], arith, get_or, length, rules}
use Rattle.sva_driver_texts.proofs.Written.{words_less, words_none}
use Rattle.sva_driver_texts.proofs.given.left_behind_words.Goals as goal

pub returns-then-size-left-clause-none : goal.returns-then-size-left-clause-none
returns-then-size-left-clause-none c =
    let words = c.args.words.now in
    let inside : c.loop-word.word-index < length words = search rules in
    let less = words_less words c.loop-word.word-index (record { ref_ptr = (0, 0); now = [] }) inside in
    let full : c.loop-word.left ≤ length (get_or words c.loop-word.word-index (record { ref_ptr = (0, 0); now = [] })).now = search rules in
    omega (arith, less, full, c.loop-word.invariant)

pub loop-word-preserved : goal.loop-word-preserved
loop-word-preserved c =
    let words = c.args.words.now in
    let inside : c.loop-word.word-index < length words = search rules in
    let less = words_less words c.loop-word.word-index (record { ref_ptr = (0, 0); now = [] }) inside in
    let room : length (get_or words c.loop-word.word-index (record { ref_ptr = (0, 0); now = [] })).now < c.loop-word.left = search rules in
    omega (arith, less, room, c.loop-word.invariant)

pub returns-clause-some : goal.returns-clause-some
returns-clause-some c =
    let past : length c.args.words.now ≤ c.loop-word.word-index = search rules in
    omega (arith, words_none c.args.words.now c.loop-word.word-index past, c.loop-word.invariant)
