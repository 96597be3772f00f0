-- Texts that are appended one behind another.
use Rattle.std.proofs.Common.{◌≡◌, ◌∙◌, ap, ℕ, List, [], ◌∷◌, ◌++◌, append_assoc}
use Rattle.std.specs.Prelude.{Result, Ok, Err}
use Rattle.sva_script.specs.declared.faults.Stop.{Stop}
use Rattle.sva_script.specs.declared.faults.Stop.TheVariants as stop
use Rattle.sva_script.specs.declared.faults.Wrong.{Wrong}
use Rattle.sva_script.specs.Pieces.{Puts, PutsRead, joined, spaced}

-- behind a text that was appended
pub puts_more : (first rest : Result (List ℕ) Wrong) (old mid new : List ℕ) (done : Unit {0}) (result : Result (Unit {0}) Stop)
    → PutsRead first old mid (Ok done) → PutsRead rest mid new result → PutsRead (joined first rest) old new result
puts_more (Ok text) (Ok more) old mid new done (Ok end) put next = next ∙ ap (λ l. l ++ more) put ∙ append_assoc old text more
puts_more (Ok text) (Ok more) old mid new done (Err stop.Memory) put next = tt
puts_more (Ok text) (Ok more) old mid new done (Err (stop.Wrong found)) put next = absurd next
puts_more (Ok text) (Err fault) old mid new done (Ok end) put next = absurd next
puts_more (Ok text) (Err fault) old mid new done (Err stop.Memory) put next = tt
puts_more (Ok text) (Err fault) old mid new done (Err (stop.Wrong found)) put next = next
puts_more (Err fault) rest old mid new done result put next = absurd put

-- nothing is behind one that wasn't
pub puts_none : (first rest : Result (List ℕ) Wrong) (old new : List ℕ) (why : Stop)
    → PutsRead {A = Unit {0}} first old new (Err why) → PutsRead {A = Unit {0}} (joined first rest) old new (Err why)
puts_none (Ok text) (Ok more) old new stop.Memory put = tt
puts_none (Ok text) (Err fault) old new stop.Memory put = tt
puts_none (Ok text) rest old new (stop.Wrong found) put = absurd put
puts_none (Err fault) rest old new why put = put

-- a text behind a space
pub puts_spaced : (word : Result (List ℕ) Wrong) (old mid new : List ℕ) (result : Result (Unit {0}) Stop) → mid ≡ old ++ 32 ∷ []
    → PutsRead word mid new result → PutsRead (spaced word) old new result
puts_spaced (Ok text) old mid new (Ok done) space put = put ∙ ap (λ l. l ++ text) space ∙ append_assoc old (32 ∷ []) text
puts_spaced (Ok text) old mid new (Err stop.Memory) space put = tt
puts_spaced (Ok text) old mid new (Err (stop.Wrong found)) space put = absurd put
puts_spaced (Err fault) old mid new (Ok done) space put = absurd put
puts_spaced (Err fault) old mid new (Err stop.Memory) space put = tt
puts_spaced (Err fault) old mid new (Err (stop.Wrong found)) space put = put

-- and where there was no memory for the space
pub puts_no_space : (word : Result (List ℕ) Wrong) (old new : List ℕ) (why : Stop) → Puts {A = Unit {0}} (32 ∷ []) old new (Err why)
    → PutsRead {A = Unit {0}} (spaced word) old new (Err why)
puts_no_space (Ok text) old new stop.Memory put = tt
puts_no_space (Err fault) old new stop.Memory put = tt
puts_no_space word old new (stop.Wrong found) put = absurd put
