-- Of the ranges that an unmapping takes out, one has each page; and the order of that range is submitted.
use Rattle.std.proofs.Common.{◌≡◌, refl, ap, ◌∙◌, ℕ, zero, suc, ◌+◌, ◌-◌, ◌*◌, ◌^◌, ◌<◌, ◌≤◌, Bool, true, false, arith}
use Rattle.std.specs.Prelude.{nat_lt}
use Rattle.std.proofs.lemmas.Bool.Decides.{nat_tests}
use Rattle.sva_model.specs.Range.{Range, is_in}
use Rattle.sva_model.specs.State.{Endpoint}
use Rattle.sva_model.specs.State.Order.{RangeOf}
use Rattle.sva_model.specs.States.{covers}
use Rattle.sva_model.specs.Unmappings.{submitted, range_at, in_range}

-- a number below `count * size` from q on is in one of `count` pieces of that size
abbrev IsPiece : (q size count page : ℕ) → Type 0
IsPiece q size count page = (j : ℕ) × (j < count) × (q + j * size ≤ page) × (page < q + j * size + size)

last_piece : (q size count page : ℕ) (b : Bool) → nat_lt page (q + count * size) ≡ b → page < q + suc count * size
    → (page < q + count * size → IsPiece q size count page) → IsPiece q size (suc count) page
last_piece q size count page true h high rest = let x = rest (less h) in (x.0, omega (arith, x.1), x.2, x.3)
  where
    less : nat_lt page (q + count * size) ≡ true → page < q + count * size
    less h = grind (arith, nat_tests)
last_piece q size count page false h high rest = (count, omega arith, at_least h, omega (arith, high))
  where
    at_least : nat_lt page (q + count * size) ≡ false → q + count * size ≤ page
    at_least h = grind (arith, nat_tests)

piece : (q size count page : ℕ) → q ≤ page → page < q + count * size → IsPiece q size count page
piece q size zero page low high = absurd (omega (arith, low, high))
piece q size (suc count) page low high =
    last_piece q size count page (nat_lt page (q + count * size)) refl high (λ h. piece q size count page low h)

range_low : (q n page : ℕ) → in_range q n page ≡ true → q ≤ page
range_low q n page h = grind (arith, nat_tests)

range_high : (q n page : ℕ) → in_range q n page ≡ true → page < q + n
range_high q n page h = grind (arith, nat_tests)

is_inside : (base n page : ℕ) → base ≤ page → page < base + n → in_range base n page ≡ true
is_inside base n page low high = grind (arith, nat_tests)

-- each page that is taken out is in one of the ranges
pub range_of : (q order count page : ℕ) → in_range q (count * 2 ^ order) page ≡ true → (j : ℕ) × (j < count) × (is_in (range_at q order j) page ≡ true)
range_of q order count page h =
    let x = piece q (2 ^ order) count page (range_low q (count * 2 ^ order) page h) (range_high q (count * 2 ^ order) page h) in
    (x.0, x.1, is_inside (q + x.0 * 2 ^ order) (2 ^ order) page x.2 x.3)

-- the orders that are submitted ahead of the wait are of these ranges
pub order_of : (p : Endpoint) (b q count order cookie k : ℕ) → p.orders ≤ k → k < p.orders + count → (submitted p b q count order cookie).order k
    ≡ RangeOf b (range_at q order (k - p.orders))
order_of p b q count order cookie k low high = grind (arith, nat_tests)

pub order_at : (p : Endpoint) (b q count order cookie j : ℕ) → j < count → (submitted p b q count order cookie).order (p.orders + j)
    ≡ RangeOf b (range_at q order j)
order_at p b q count order cookie j l =
    let same : (p.orders + j) - p.orders ≡ j = omega arith in
    order_of p b q count order cookie (p.orders + j) (omega arith) (omega (arith, l)) ∙ ap (λ z. RangeOf b (range_at q order z)) same

covers_range : (b : ℕ) (range : Range) (page : ℕ) → is_in range page ≡ true → covers (RangeOf b range) b page ≡ true
covers_range b range page h = grind (arith, nat_tests)

pub order_covers : (p : Endpoint) (b q count order cookie page j : ℕ) → j < count → is_in (range_at q order j) page ≡ true
    → covers ((submitted p b q count order cookie).order (p.orders + j)) b page ≡ true
order_covers p b q count order cookie page j l h =
    ap (λ o. covers o b page) (order_at p b q count order cookie j l) ∙ covers_range b (range_at q order j) page h
