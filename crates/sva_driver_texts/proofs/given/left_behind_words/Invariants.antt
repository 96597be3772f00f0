use Rattle.std.proofs.Common.{◌≡◌, ◌+◌, drop}
use Rattle.sva_driver_texts.proofs.Written.{size_of_lent}
use Rattle.sva_driver_texts.proofs.given.left_behind_words.Given as goal

-- what is left is what there was, without the words so far
abbrev pub invariant-loop-word : goal.invariant-loop-word
invariant-loop-word l = l.left + size_of_lent l.words ≡ l.bytes + size_of_lent (drop l.word-index l.words)
