-- The last one that is such, looked for from the end.
use Rattle.std.proofs.Common.{◌≡◌, ◌∙◌, ◌<◌, ◌+◌, ap, ℕ, zero, suc, Bool, List, [], ◌∷◌, cond, get_or, length, map, take, Option, None, Some, arith}
use Rattle.sva_driver_words.specs.Awaits.{LineSaid, last_from, line_seen}
use Rattle.sva_driver_words.specs.declared.kept.LineRead.{LineRead}

-- lines that are kept
abbrev pub seen : List LineRead → List LineSaid
seen lines = map line_seen lines

-- the last that is such of some, or the one at this place behind them, if that is such
abbrev or_one : {A B : Type 0} → (view : B → A) → (is_such : A → Bool) → B → (place : ℕ) → Option ℕ → Option ℕ
or_one view is_such one place found = cond (is_such (view one)) (Some place) found

last_of_more : {A B : Type 0} (view : B → A) (is_such : A → Bool) (list : List B) (place i : ℕ) (found : Option ℕ) (blank : B) → place < length list
    → last_from is_such i found (map view (take (suc place) list))
    ≡ or_one view is_such (get_or list place blank) (i + place) (last_from is_such i found (map view (take place list)))
unfolding last_from
last_of_more view is_such [] place i found blank inside = absurd (omega (arith, inside))
last_of_more view is_such (first ∷ list) zero i found blank inside = ap (λ n. or_one view is_such first n found) (omega arith)
last_of_more view is_such (first ∷ list) (suc place) i found blank inside =
    last_of_more view is_such list place (i + 1) (or_one view is_such first i found) blank (omega (arith, inside))
    ∙ ap (λ n. or_one view is_such (get_or list place blank) n (last_from is_such (i + 1) (or_one view is_such first i found) (map view (take place list))))
    (omega arith)

-- the last that is such of those before a place
pub last_back : {A B : Type 0} (view : B → A) (is_such : A → Bool) (list : List B) (before place : ℕ) (blank : B) → place ≡ suc before
    → before < length list
    → last_from is_such 0 None (map view (take place list))
    ≡ cond (is_such (view (get_or list before blank))) (Some before) (last_from is_such 0 None (map view (take before list)))
last_back view is_such list before place blank next inside =
    ap (λ k. last_from is_such 0 None (map view (take k list))) next ∙ last_of_more view is_such list before 0 None blank inside
    ∙ ap (λ n. or_one view is_such (get_or list before blank) n (last_from is_such 0 None (map view (take before list)))) (omega arith)
