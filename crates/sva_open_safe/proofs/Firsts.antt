-- What is wrong first, endpoint by endpoint.
use Rattle.std.proofs.Common.{◌≡◌, ◌∙◌, ◌<◌, ◌≤◌, ◌+◌, ap, refl, ℕ, List, ◌∷◌, length, get_or, drop, Option, Some, None}
use Rattle.std.specs.Prelude.{cond, find, is_some, option_and_then}
use Rattle.std.proofs.lemmas.List.{drop_all, drop_more}
use Rattle.sva_open.specs.World.{Open, Part, or_else}
use Rattle.sva_open_safe.specs.Wrongs.{first_from, first_in, wrong_at}
use Rattle.sva_open_safe.specs.declared.wrongs.Sort.{Sort}
use Rattle.sva_open_safe.specs.declared.wrongs.Wrong.{Wrong}

by_first : (now : Open) (of : Sort) (parts : List Part) (endpoint : ℕ) (blank : Part) → endpoint < length parts
    → first_from now of endpoint (drop endpoint parts)
    ≡ or_else (wrong_at now of endpoint (get_or parts endpoint blank)) (first_from now of (endpoint + 1) (drop (endpoint + 1) parts))
unfolding first_from
by_first now of parts endpoint blank inside = ap (first_from now of endpoint) (drop_more parts endpoint blank inside)

pub found_first : (now : Open) (of : Sort) (parts : List Part) (endpoint : ℕ) (blank : Part) (wrong : Wrong) → endpoint < length parts
    → wrong_at now of endpoint (get_or parts endpoint blank) ≡ Some wrong → first_from now of endpoint (drop endpoint parts) ≡ Some wrong
found_first now of parts endpoint blank wrong inside is =
    by_first now of parts endpoint blank inside
    ∙ ap (λ o. or_else o (first_from now of (endpoint + 1) (drop (endpoint + 1) parts))) is

pub found_later : (now : Open) (of : Sort) (parts : List Part) (endpoint : ℕ) (blank : Part) → endpoint < length parts
    → wrong_at now of endpoint (get_or parts endpoint blank) ≡ None
    → first_from now of endpoint (drop endpoint parts) ≡ first_from now of (endpoint + 1) (drop (endpoint + 1) parts)
found_later now of parts endpoint blank inside is =
    by_first now of parts endpoint blank inside
    ∙ ap (λ o. or_else o (first_from now of (endpoint + 1) (drop (endpoint + 1) parts))) is

pub found_none : (now : Open) (of : Sort) (parts : List Part) (endpoint : ℕ) → length parts ≤ endpoint
    → first_from now of endpoint (drop endpoint parts) ≡ None
unfolding first_from
found_none now of parts endpoint past = ap (first_from now of endpoint) (drop_all endpoint parts past)

-- ---- The same of a list of which each has something wrong or not

pub in_cons : {X : Type 0} (of : X → Option Wrong) (x : X) (xs : List X) → first_in of (x ∷ xs) ≡ or_else (of x) (first_in of xs)
in_cons of x xs = at (of x) refl
  where
    at : (found : Option Wrong) → of x ≡ found
        → option_and_then of (cond (is_some found) (Some x) (find (λ y. is_some (of y)) xs)) ≡ or_else found (first_in of xs)
    at None is = refl
    at (Some it) is = is

by_in : {X : Type 0} (of : X → Option Wrong) (xs : List X) (place : ℕ) (blank : X) → place < length xs
    → first_in of (drop place xs) ≡ or_else (of (get_or xs place blank)) (first_in of (drop (place + 1) xs))
by_in of xs place blank inside =
    ap (first_in of) (drop_more xs place blank inside) ∙ in_cons of (get_or xs place blank) (drop (place + 1) xs)

pub in_first : {X : Type 0} (of : X → Option Wrong) (xs : List X) (place : ℕ) (blank : X) (wrong : Wrong) → place < length xs
    → of (get_or xs place blank) ≡ Some wrong → first_in of (drop place xs) ≡ Some wrong
in_first of xs place blank wrong inside is =
    by_in of xs place blank inside ∙ ap (λ o. or_else o (first_in of (drop (place + 1) xs))) is

pub in_later : {X : Type 0} (of : X → Option Wrong) (xs : List X) (place : ℕ) (blank : X) → place < length xs
    → of (get_or xs place blank) ≡ None → first_in of (drop place xs) ≡ first_in of (drop (place + 1) xs)
in_later of xs place blank inside is =
    by_in of xs place blank inside ∙ ap (λ o. or_else o (first_in of (drop (place + 1) xs))) is

pub in_none : {X : Type 0} (of : X → Option Wrong) (xs : List X) (place : ℕ) → length xs ≤ place → first_in of (drop place xs) ≡ None
in_none of xs place past = ap (first_in of) (drop_all place xs past)
