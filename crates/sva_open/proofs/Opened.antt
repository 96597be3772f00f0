-- The endpoints of the first ones of some conducts, and of one more.
use Rattle.std.proofs.Common.{◌≡◌, ◌∙◌, ◌<◌, ℕ, zero, suc, List, [], ◌∷◌, ◌++◌, length, take, get_or, refl, ap, sym, arith}
use Rattle.std.specs.Prelude.{◌+◌}
use Rattle.sva_open.specs.declared.settings.Conduct.{Conduct}
use Rattle.sva_open.specs.World.{Part, part_opened, parts_opened}

none : (pasids from : ℕ) → parts_opened pasids from [] ≡ []
unfolding parts_opened
none pasids from = refl

more : (pasids from : ℕ) (conduct : Conduct) (conducts : List Conduct)
    → parts_opened pasids from (conduct ∷ conducts) ≡ part_opened pasids from conduct ∷ parts_opened pasids (suc from) conducts
unfolding parts_opened
more pasids from conduct conducts = refl

taken : (pasids from : ℕ) (conducts : List Conduct) (i : ℕ) (blank : Conduct) → i < length conducts
    → parts_opened pasids from (take (suc i) conducts)
    ≡ parts_opened pasids from (take i conducts) ++ part_opened pasids (from + i) (get_or conducts i blank) ∷ []
taken pasids from [] i blank low = absurd (omega (arith, low))
taken pasids from (conduct ∷ conducts) zero blank low =
    more pasids from conduct [] ∙ ap (λ (rest : List Part). part_opened pasids from conduct ∷ rest) (none pasids (suc from))
    ∙ ap (λ (at : ℕ). part_opened pasids at conduct ∷ []) (omega (arith))
    ∙ ap (λ (parts : List Part). parts ++ part_opened pasids (from + 0) conduct ∷ []) (sym (none pasids from))
taken pasids from (conduct ∷ conducts) (suc i) blank low =
    more pasids from conduct (take (suc i) conducts)
    ∙ ap (λ (rest : List Part). part_opened pasids from conduct ∷ rest) (taken pasids (suc from) conducts i blank (omega (arith, low)))
    ∙ ap (λ (at : ℕ). part_opened pasids from conduct ∷ (parts_opened pasids (suc from) (take i conducts)
    ++ part_opened pasids at (get_or conducts i blank) ∷ [])) (omega (arith))
    ∙ ap (λ (parts : List Part). parts ++ part_opened pasids (from + suc i) (get_or conducts i blank) ∷ [])
    (sym (more pasids from conduct (take i conducts)))

pub first : (pasids : ℕ) (conducts : List Conduct) → [] ≡ parts_opened pasids 0 (take 0 conducts)
first pasids conducts = sym (none pasids 0)

pub next : (pasids : ℕ) (conducts : List Conduct) (i : ℕ) (blank : Conduct) (parts : List Part) (one : Part) → i < length conducts
    → parts ≡ parts_opened pasids 0 (take i conducts) → one ≡ part_opened pasids i (get_or conducts i blank)
    → parts ++ one ∷ [] ≡ parts_opened pasids 0 (take (i + 1) conducts)
next pasids conducts i blank parts one low so_far is =
    let from_none : i ≡ 0 + i = omega (arith) in
    let one_more : suc i ≡ i + 1 = omega (arith) in
    (λ j. so_far j ++ is j ∷ [])
    ∙ ap (λ (at : ℕ). parts_opened pasids 0 (take i conducts) ++ part_opened pasids at (get_or conducts i blank) ∷ []) from_none
    ∙ sym (taken pasids 0 conducts i blank low)
    ∙ ap (λ (n : ℕ). parts_opened pasids 0 (take n conducts)) one_more
