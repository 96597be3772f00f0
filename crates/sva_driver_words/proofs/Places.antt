-- The place of a lock.
use Rattle.std.proofs.Common.{◌≡◌, ◌∙◌, ap, sym, ℕ, List, length, map, Option}
use Rattle.std.specs.Global.{Global}
use Rattle.std.specs.Prelude.{Vec, position}
use Rattle.std.specs.Option.{unwrap_or}
use Rattle.std.specs.Str.{bytes_eq}
use Rattle.std.proofs.lemmas.List.{length-map}
use Rattle.sva_script.proofs.PartLemmas.{position_map}
use Rattle.sva_driver_words.specs.Says.{place_in}

abbrev items_of : Vec ℕ Global → List ℕ
items_of lock = lock.items

pub place_by : (locks : List (Vec ℕ Global)) (name : List ℕ) (found : Option ℕ) → found ≡ position (λ lock. bytes_eq lock.items name) locks
    → place_in (map items_of locks) name ≡ unwrap_or found (length locks)
place_by locks name found is =
    ap (λ place. unwrap_or place (length (map items_of locks))) (position_map items_of (λ own. bytes_eq own name) locks ∙ sym is)
    ∙ ap (unwrap_or found) (length-map locks items_of)
