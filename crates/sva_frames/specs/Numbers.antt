use Rattle.std.specs.Prelude.{◌≡◌, ℕ, ◌*◌, ◌≤◌, ◌/◌, ◌%◌, List, length, slice_index}
use Rattle.std.specs.Int.{bit_at}

-- 1 where the number is in the set with these words of 64 bits, and 0 where it isn't
abbrev pub has : List ℕ → ℕ → ℕ
has words number = bit_at (slice_index words (number / 64)) (number % 64)

-- the second set has the places of the words that aren't 0
pub record IsSummary (words summary : List ℕ) : Type 0 where
  pub enough : length words ≤ 64 * length summary
  pub empty : (place : ℕ) → has summary place ≡ 0 → slice_index words place ≡ 0
  pub absent : (place : ℕ) → slice_index words place ≡ 0 → has summary place ≡ 0
