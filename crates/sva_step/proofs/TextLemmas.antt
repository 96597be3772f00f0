-- What a text begins with, and what three pieces behind one another make.
use Rattle.std.proofs.Common.{◌≡◌, ℕ, ◌≤◌, List, ◌++◌, length, take, length-append, append_assoc, arith, sym, ◌∙◌, ap}
use Rattle.std.proofs.Math.Seq.{take-append_seam}
use Rattle.std.proofs.lemmas.List.{take-take}
use Rattle.sva_step.specs.Texts.{BeginsWith}

-- a text that begins with some bytes begins with the first of them
pub begins_with_front : (text whole start more : List ℕ) → whole ≡ start ++ more → BeginsWith text whole → BeginsWith text start
begins_with_front text whole start more parts begins =
    let shorter : length start ≤ length whole = rw (parts, length-append) (omega arith) in
    sym (take-take (length start) (length whole) text shorter)
    ∙ ap (take (length start)) (begins ∙ parts)
    ∙ take-append_seam start more

-- what was appended in three pieces, each some words and a number's digits, is the three in one
pub three_pieces : (old first second third : List ℕ) → (words₁ digits₁ words₂ digits₂ words₃ digits₃ : List ℕ)
    → first ≡ old ++ (words₁ ++ digits₁) → second ≡ first ++ (words₂ ++ digits₂) → third ≡ second ++ (words₃ ++ digits₃)
    → third ≡ old ++ (words₁ ++ digits₁ ++ words₂ ++ digits₂ ++ words₃ ++ digits₃)
three_pieces old first second third words₁ digits₁ words₂ digits₂ words₃ digits₃ one two three =
    rw (three, two, one) (simp append_assoc)
