-- What is said of a line of a race that is wrong, piece by piece.
use Rattle.std.proofs.Common.{◌≡◌, ◌∙◌, ap, refl, ℕ, List, [], ◌∷◌, ◌++◌, append_assoc, codes, Option, slice_get}
use Rattle.std.specs.Prelude.{decimal}
use Rattle.sva_script.specs.declared.faults.Wanted.{Wanted}
use Rattle.sva_script.specs.Names.{Known}
use Rattle.sva_race_texts.specs.declared.faults.RaceWanted.{RaceWanted}
use Rattle.sva_race_texts.specs.declared.faults.RaceWanted.TheVariants as wanted
use Rattle.sva_race_texts.specs.Faults.{text_by, where_text}

-- what isn't wanted of a script's line is told in a race's own words
pub own_text : (known : Known) (line : ℕ) (words : List (List ℕ)) (at : ℕ) (want : RaceWanted) → ((w : Wanted) → want ≡ wanted.Script w → ⊥)
    → text_by known line words at want ≡ codes "line " ++ decimal line ++ where_text known want (slice_get words at) ++ 10 ∷ []
own_text known line words at (wanted.Script w) other = absurd (other w refl)
own_text known line words at _ other = refl

-- its number, and which word is wrong
pub own_is : (line : ℕ) (known : Known) (want : RaceWanted) (word found : Option (List ℕ)) (out first second third new : List ℕ) → found ≡ word
    → first ≡ out ++ codes "line " → second ≡ first ++ decimal line → third ≡ second ++ where_text known want found → new ≡ third ++ 10 ∷ []
    → new ≡ out ++ (codes "line " ++ decimal line ++ where_text known want word ++ 10 ∷ [])
own_is line known want word found out first second third new is one two three four =
    let text = where_text known want found in
    four ∙ ap (λ l. l ++ 10 ∷ []) (three ∙ ap (λ l. l ++ text) (two ∙ ap (λ l. l ++ decimal line) one))
    ∙ ap (λ l. (l ++ text) ++ 10 ∷ []) (append_assoc out (codes "line ") (decimal line))
    ∙ ap (λ l. l ++ 10 ∷ []) (append_assoc out (codes "line " ++ decimal line) text)
    ∙ append_assoc out ((codes "line " ++ decimal line) ++ text) (10 ∷ [])
    ∙ ap (λ w. out ++ (codes "line " ++ decimal line ++ where_text known want w ++ 10 ∷ [])) is
