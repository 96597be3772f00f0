-- Lists without what stood at a place.
use Rattle.std.proofs.Common.{◌≡◌, ◌≤◌, ℕ, suc, ◌+◌, List, ◌++◌, length, drop, take_all, drop-drop, append-nil, ap, ◌∙◌, arith}
use Rattle.std.proofs.lemmas.List.{drop_all}
use Rattle.std.specs.Prelude.{remove}

pub remove_past : {X : Type 0} (xs : List X) (i : ℕ) → length xs ≤ i → remove xs i ≡ xs
remove_past xs i h =
    ap (λ ys. ys ++ drop (suc i) xs) (take_all i xs h) ∙ ap (λ ys. xs ++ ys) (drop_all (suc i) xs (omega (arith, h))) ∙ append-nil xs

pub remove_more : {X : Type 0} (xs : List X) (i : ℕ) → remove (drop i xs) 0 ≡ drop (i + 1) xs
remove_more xs i = drop-drop 1 i xs
