use Rattle.std.proofs.Common.{◌≡◌, ◌++◌, List, ℕ, drop, map}
use denote.Ref.{Bor}
use Rattle.sva_driver_texts.specs.Bodies.{texts}
use Rattle.sva_driver_texts.specs.WrittenOut.{put_in}
use Rattle.sva_driver_texts.proofs.given.put_words.Given as goal

-- the words so far, with what those that are left give
abbrev pub invariant-loop-word : goal.invariant-loop-word
invariant-loop-word l =
    texts l.put.items ++ map {A = Bor (List ℕ)} {B = List ℕ} (λ word. put_in (texts l.parameters) (texts l.given) word.now) (drop l.word-index l.words)
    ≡ map {A = Bor (List ℕ)} {B = List ℕ} (λ word. put_in (texts l.parameters) (texts l.given) word.now) l.words
