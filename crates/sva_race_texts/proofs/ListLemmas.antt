-- Names as they are kept, and the last line of a thread.
use Rattle.std.proofs.Common.{◌≡◌, ◌∙◌, ◌<◌, ◌≤◌, ◌+◌, ap, refl, sym, ℕ, List, get_or, length, cond, map, drop}
use Rattle.std.proofs.Common.{Option, Some, None}
use Rattle.std.specs.Global.{Global}
use Rattle.std.specs.Prelude.{Vec, is_some, option_map}
use Rattle.std.specs.Str.{bytes_eq}
use Rattle.std.proofs.lemmas.List.{drop_all, drop_more}
use Rattle.sva_race_texts.specs.Readings.{last_from}

-- names that are owned
abbrev pub own : List (Vec ℕ Global) → List (List ℕ)
own names = map {A = Vec ℕ Global} {B = List ℕ} (λ name. name.items) names

-- ---- The last line of a thread

pub last_next : (thread : List ℕ) (threads : List (Vec ℕ Global)) (i : ℕ) (blank : Vec ℕ Global) (found next : Option ℕ) → i < length threads
    → next ≡ cond (bytes_eq (get_or threads i blank).items thread) (Some i) found
    → last_from i found thread (own (drop i threads)) ≡ last_from (i + 1) next thread (own (drop (i + 1) threads))
unfolding last_from
last_next thread threads i blank found next inside is =
    ap (λ left. last_from i found thread (own left)) (drop_more threads i blank inside)
    ∙ ap (λ f. last_from (i + 1) f thread (own (drop (i + 1) threads))) (sym is)

pub last_end : (thread : List ℕ) (threads : List (Vec ℕ Global)) (i : ℕ) (found : Option ℕ) → length threads ≤ i
    → last_from i found thread (own (drop i threads)) ≡ found
unfolding last_from
last_end thread threads i found past = ap (λ left. last_from i found thread (own left)) (drop_all i threads past)

-- ---- What is there is seen to be there

pub some_seen : {A B : Type 0} (f : A → B) (found : Option A) → is_some (option_map f found) ≡ is_some found
some_seen f None = refl
some_seen f (Some value) = refl
