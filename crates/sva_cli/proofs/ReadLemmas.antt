-- Files that are read in order.
use Rattle.std.proofs.Common.{◌≡◌, ◌∙◌, ◌<◌, ◌+◌, ◌++◌, ◌∷◌, [], ap, subst, sym, get_or, length, take, ℕ, List, Option, String}
use Rattle.std.proofs.lemmas.List.{take_more}
use Rattle.std.proofs.lemmas.Slice.Zip.{all_zipped_more}
use Rattle.std.specs.Global.{Global}
use Rattle.std.specs.Prelude.{string_bytes}
use Rattle.clap.specs.Words.{Text}
use Rattle.sva_several.specs.declared.given.Given.{Given}
use Rattle.sva_several.specs.declared.given.Lack.{Lack}
use Rattle.sva_cli.specs.Reading.{AreGiven, IsGiven}

-- one more gave this
pub one_more : {F : Type 0} (opened : Text → F → Type 0) (remaining : F → Option (List ℕ)) (fails : Text → Lack → Type 0) (standard : Given)
    (names : List (String Global)) (place : ℕ) (name : String Global) (word : Text) (all next : List Given) (given : Given) → place < length names
    → name ≡ get_or names place name → word ≡ string_bytes name → AreGiven opened remaining fails standard (take place names) all
    → IsGiven opened remaining fails standard word given → next ≡ all ++ given ∷ []
    → AreGiven opened remaining fails standard (take (place + 1) names) next
one_more opened remaining fails standard names place name word all next given inside is says are gives puts =
    let its = subst (λ word. IsGiven opened remaining fails standard word given) says gives in
    let more = all_zipped_more (λ (name : String Global) given. IsGiven opened remaining fails standard (string_bytes name) given) (take place names) all
    name given are its in
    subst (λ front. AreGiven opened remaining fails standard front next)
    (ap (λ one. take place names ++ one ∷ []) is ∙ sym (take_more names place name inside))
    (subst (AreGiven opened remaining fails standard (take place names ++ name ∷ [])) (sym puts) more)
