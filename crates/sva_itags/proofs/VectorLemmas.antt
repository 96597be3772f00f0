-- Vectors made of lists.
use Rattle.std.proofs.Common.{◌≡◌, ℕ, zero, suc, ◌+◌, ◌*◌, ◌^◌, ◌%◌, ◌<◌, ◌≤◌, Bool, true, false, List, [], ◌∷◌, ◌++◌, length, if◌then◌else◌, refl, ap}
use Rattle.std.proofs.Common.{sym, ◌∙◌, subst, arith, take, get_or, add-one, bit_or, ◌/◌, ◌==◌, slice_get}
use Rattle.std.proofs.Math.Nat.{pow-suc}
use Rattle.std.proofs.Math.Seq.{take-suc, take-length}
use Rattle.std.proofs.lemmas.List.{length-take-le}
use Rattle.std.proofs.lemmas.Nat.{shl_whole, or_comm, or_shifted}
use Rattle.std.specs.Prelude.{unwrap_or}
use Rattle.std.specs.Int.{bit_at}
use Rattle.std.proofs.lemmas.Nat.Bits.{bit_at-zero, bit_at_lowest, bit_at-suc}
use Rattle.sva_itags.specs.Vector.{vector_of, is_named}

-- a vector with one tag more, above all that it names
abbrev pub with_tag : ℕ → ℕ → Bool → ℕ
with_tag vector tag named = if named then vector + 2 ^ tag else vector

-- one place more, at the end
pub vector_of-push : (bs : List Bool) (b : Bool) → vector_of (bs ++ b ∷ []) ≡ with_tag (vector_of bs) (length bs) b
vector_of-push [] true = refl
vector_of-push [] false = refl
vector_of-push (x ∷ bs) true = omega (arith, vector_of-push bs true, pow-suc 2 (length bs))
vector_of-push (x ∷ bs) false = omega (arith, vector_of-push bs false)

-- a vector is below the power of its places
pub vector_of_lt : (bs : List Bool) → vector_of bs < 2 ^ length bs
vector_of_lt [] = omega arith
vector_of_lt (true ∷ bs) = omega (arith, vector_of_lt bs, pow-suc 2 (length bs))
vector_of_lt (false ∷ bs) = omega (arith, vector_of_lt bs, pow-suc 2 (length bs))

-- a bit above all others is added
pub or_above : (v t : ℕ) → t < 32 → v < 2 ^ t → bit_or v (1 * 2 ^ t % 2 ^ 32) ≡ v + 2 ^ t
or_above v t in_vector below =
    let whole : 1 * 2 ^ t % 2 ^ 32 ≡ 1 * 2 ^ t = shl_whole 1 1 t 32 (omega arith) (omega arith) in
    let turned : bit_or v (1 * 2 ^ t) ≡ bit_or (1 * 2 ^ t) v = or_comm v (1 * 2 ^ t) in
    let added : bit_or (1 * 2 ^ t) v ≡ 1 * 2 ^ t + v = or_shifted 1 t v below in
    rw whole (turned ∙ added ∙ (omega arith))

-- the vector of the first places is below their power
pub take_lt : (bs : List Bool) (i : ℕ) → i ≤ length bs → vector_of (take i bs) < 2 ^ i
take_lt bs i h =
    let count : length (take i bs) ≡ i = length-take-le i bs h in
    subst (λ n. vector_of (take i bs) < 2 ^ n) count (vector_of_lt (take i bs))

-- one place more of a list
pub take-more : (bs : List Bool) (i : ℕ) (b : Bool) → i < length bs → b ≡ get_or bs i b → vector_of (take (i + 1) bs) ≡ with_tag (vector_of (take i bs)) i b
take-more bs i b h is =
    let count : length (take i bs) ≡ i = length-take-le i bs (omega arith) in
    let parts : take (suc i) bs ≡ take i bs ++ b ∷ [] = take-suc bs i b h ∙ ap (λ x. take i bs ++ x ∷ []) (sym is) in
    let sum : vector_of (take i bs ++ b ∷ []) ≡ with_tag (vector_of (take i bs)) (length (take i bs)) b = vector_of-push (take i bs) b in
    rw (add-one, parts) (sum ∙ ap (λ n. with_tag (vector_of (take i bs)) n b) count)

-- all places of a list
pub take-all : (bs : List Bool) (i : ℕ) → i ≡ length bs → vector_of (take i bs) ≡ vector_of bs
take-all bs i all = ap (λ k. vector_of (take k bs)) all ∙ ap vector_of (take-length bs)

-- a bit of a vector
pub bit_at-vector_of : (bs : List Bool) (t : ℕ) → bit_at (vector_of bs) t ≡ (if unwrap_or (slice_get bs t) false then 1 else 0)
bit_at-vector_of [] t = bit_at-zero t
bit_at-vector_of (true ∷ bs) zero = bit_at_lowest (1 + 2 * vector_of bs) ∙ omega arith
bit_at-vector_of (false ∷ bs) zero = bit_at_lowest (0 + 2 * vector_of bs) ∙ omega arith
bit_at-vector_of (true ∷ bs) (suc t) =
    let half : (1 + 2 * vector_of bs) / 2 ≡ vector_of bs = omega arith in
    bit_at-suc (1 + 2 * vector_of bs) t ∙ ap (λ n. bit_at n t) half ∙ bit_at-vector_of bs t
bit_at-vector_of (false ∷ bs) (suc t) =
    let half : (0 + 2 * vector_of bs) / 2 ≡ vector_of bs = omega arith in
    bit_at-suc (0 + 2 * vector_of bs) t ∙ ap (λ n. bit_at n t) half ∙ bit_at-vector_of bs t

-- a tag is named where the list has true
pub is_named-vector_of : (bs : List Bool) (t : ℕ) → is_named (vector_of bs) t ≡ unwrap_or (slice_get bs t) false
is_named-vector_of bs t = ap (λ n. n == 1) (bit_at-vector_of bs t) ∙ tested (unwrap_or (slice_get bs t) false)
  where
    tested : (b : Bool) → ((if b then 1 else 0) == 1) ≡ b
    tested true = refl
    tested false = refl
