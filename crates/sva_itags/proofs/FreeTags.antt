-- The lowest free tag.
use Rattle.std.proofs.Common.{◌≡◌, ℕ, ◌+◌, ◌<◌, ◌≤◌, cond, Option, Some, None, List, [], ◌∷◌, length, is_some, is_none, count_by, refl, arith}
use Rattle.std.specs.List.{position_or_len}
use Rattle.std.proofs.lemmas.List.Sums.{count_by-le-length, sum_by-cons}
use Rattle.std.proofs.lemmas.Bool.Decides.{nat_tests}
use Rattle.sva_itags.specs.Tags.{lowest_free}
use Rattle.sva_itags.specs.declared.itags.Busy.{Busy}

abbrev Tags : Type 0
Tags = List (Option Busy)

-- how many of the first places are busy
count_by-cons : (x : Option Busy) (xs : Tags) → count_by is_some (x ∷ xs) ≡ (cond (is_some x) 1 0) + count_by is_some xs
count_by-cons x xs = sum_by-cons (λ y. cond (is_some y) 1 0) x xs

-- where the search ends at the end, every place is busy, and otherwise one isn't
pub all_busy : (xs : Tags) → length xs ≤ position_or_len is_none xs → count_by is_some xs ≡ length xs
all_busy [] h = refl
all_busy (None ∷ xs) h = absurd (omega arith)
all_busy (Some b ∷ xs) h =
    let rest : count_by is_some xs ≡ length xs = all_busy xs (omega arith) in
    omega (arith, count_by-cons (Some b) xs, rest)

pub one_free : (xs : Tags) → position_or_len is_none xs < length xs → count_by is_some xs < length xs
one_free [] h = absurd (omega arith)
one_free (None ∷ xs) h = omega (arith, count_by-cons None xs, count_by-le-length is_some xs)
one_free (Some b ∷ xs) h =
    let rest : count_by is_some xs < length xs = one_free xs (omega arith) in
    omega (arith, count_by-cons (Some b) xs, rest)

-- no tag is free exactly where all are busy
pub none_free : (xs : Tags) → None ≡ lowest_free xs → count_by is_some xs ≡ length xs
none_free xs h = all_busy xs (grind (arith, nat_tests))

pub some_free : (xs : Tags) (tag : ℕ) → Some tag ≡ lowest_free xs → count_by is_some xs < length xs
some_free xs tag h = one_free xs (grind (arith, nat_tests))
