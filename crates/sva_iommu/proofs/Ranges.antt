-- Ranges of one size, one behind another.
use Rattle.std.proofs.Common.{◌≡◌, ℕ, ◌+◌, ◌*◌, ◌%◌, ◌<◌, ◌≤◌, ◌∙◌, arith}
use Rattle.std.proofs.lemmas.Nat.{mul-le}
use Rattle.std.proofs.Math.Nat.{add-mul-mod_self_right}

-- the next one begins where this one ends
pub next_base : (page j size : ℕ) → (page + j * size) + size ≡ page + (j + 1) * size
next_base page j size = grind arith

-- each ends where the last one ends, or before
pub base_within : (page j count size : ℕ) → j < count → (page + j * size) + size ≤ page + count * size
base_within page j count size l =
    let more : (j + 1) * size ≤ count * size = mul-le (j + 1) size count size (omega arith) (omega arith) in
    omega (arith, next_base page j size)

-- each is aligned as the first one is
pub base_aligned : (page j size : ℕ) → page % size ≡ 0 → (page + j * size) % size ≡ 0
base_aligned page j size h = add-mul-mod_self_right page j size ∙ h
