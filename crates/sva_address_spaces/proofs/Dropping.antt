-- A space that is dropped: it leaves the list of live spaces, and its frames are free.
use Rattle.std.proofs.Common.{◌≡◌, ℕ, zero, suc, ◌+◌, ◌≤◌, ◌==◌, Bool, true, false, List, Some, [], ◌∷◌, slice_get, refl, sym, ap, ◌∙◌, arith, if◌then◌else◌}
use Rattle.std.specs.Prelude.{not, nat_lt}
use Rattle.std.specs.List.{remove}
use Rattle.std.proofs.lemmas.Bool.Decides.{nat_tests}
use Rattle.sva_frames.specs.Frames.{Holding}
use Rattle.sva_space.specs.Calls.{count_in}
use Rattle.sva_labels.specs.Moves.{without_space}
use Rattle.sva_address_spaces.specs.declared.live.LiveSpace.{LiveSpace}
use Rattle.sva_address_spaces.specs.Lives.{space_seen, spaces_seen, count_of, count_all, AreNumbered}
use Rattle.sva_address_spaces.specs.Owned.{mapped_bit, Spent}
use Rattle.sva_address_spaces.proofs.LiveLists.{no_more, counted, same_live}

is_number : (a b : ℕ) → a ≡ b → (a == b) ≡ true
is_number a b e = grind (arith, nat_tests)

-- where no space has the number, none goes
without-none : (lives : List LiveSpace) (n : ℕ) → count_of n lives ≡ 0 → without_space n (spaces_seen lives) ≡ spaces_seen lives
without-none [] n none = refl
without-none (l ∷ ls) n none = by_test (l.number == n) none (without-none ls n)
  where
    by_test : (b : Bool) → (if b then 1 else 0) + count_of n ls ≡ 0 → (count_of n ls ≡ 0 → without_space n (spaces_seen ls) ≡ spaces_seen ls)
        → (if not b then space_seen l ∷ without_space n (spaces_seen ls) else without_space n (spaces_seen ls)) ≡ space_seen l ∷ spaces_seen ls
    by_test true none rest = absurd (omega arith)
    by_test false none rest = ap (λ ss. space_seen l ∷ ss) (rest (omega arith))

pub spaces-removed : (lives : List LiveSpace) (n i : ℕ) (live : LiveSpace) → slice_get lives i ≡ Some live → live.number ≡ n → count_of n lives ≤ 1
    → spaces_seen (remove lives i) ≡ without_space n (spaces_seen lives)
spaces-removed [] n i live there is once = absurd (cc)
spaces-removed (l ∷ ls) n zero live there is once =
    let at : (l.number == n) ≡ true = is_number l.number n (ap (λ (k : LiveSpace). k.number) (same_live l live there) ∙ is) in
    sym (without-none ls n (no_more (l.number == n) (count_of n ls) at once))
    ∙ sym (ap (λ b. if not b then space_seen l ∷ without_space n (spaces_seen ls) else without_space n (spaces_seen ls)) at)
spaces-removed (l ∷ ls) n (suc i) live there is once = by_test (l.number == n) once (spaces-removed ls n i live there is)
  where
    by_test : (b : Bool) → (if b then 1 else 0) + count_of n ls ≤ 1
        → (count_of n ls ≤ 1 → spaces_seen (remove ls i) ≡ without_space n (spaces_seen ls)) → space_seen l ∷ spaces_seen (remove ls i)
        ≡ (if not b then space_seen l ∷ without_space n (spaces_seen ls) else without_space n (spaces_seen ls))
    by_test true once rest = absurd (omega (arith, counted ls n i live there is))
    by_test false once rest = ap (λ ss. space_seen l ∷ ss) (rest (omega arith))

-- a space less
count_of-removed : (lives : List LiveSpace) (m i : ℕ) → count_of m (remove lives i) ≤ count_of m lives
count_of-removed [] m zero = omega arith
count_of-removed [] m (suc i) = omega arith
count_of-removed (l ∷ ls) m zero = omega arith
count_of-removed (l ∷ ls) m (suc i) = omega (arith, count_of-removed ls m i)

count_all-removed : (lives : List LiveSpace) (f i : ℕ) (live : LiveSpace) → slice_get lives i ≡ Some live
    → count_all f (remove lives i) + count_in f live.space ≡ count_all f lives
count_all-removed [] f i live there = absurd (cc)
count_all-removed (l ∷ ls) f zero live there =
    let same : count_in f l.space ≡ count_in f live.space = ap (λ (k : LiveSpace). count_in f k.space) (same_live l live there) in
    omega (arith, same)
count_all-removed (l ∷ ls) f (suc i) live there = omega (arith, count_all-removed ls f i live there)

pub numbered-dropped : (lives rest : List LiveSpace) (next i : ℕ) → AreNumbered lives next → rest ≡ remove lives i → AreNumbered rest next
numbered-dropped lives rest next i numbered is m =
    below (count_of m rest) (count_of m (remove lives i)) (count_of m lives) (if nat_lt m next then 1 else 0) (ap (count_of m) is)
    (count_of-removed lives m i) (numbered m)
  where
    below : (a b c d : ℕ) → a ≡ b → b ≤ c → c ≤ d → a ≤ d
    below a b c d e f g = omega arith

pub owned-dropped : (lives rest : List LiveSpace) (frames frames_after : List Holding) (i : ℕ) (live : LiveSpace)
    → ((f : ℕ) → count_all f lives ≤ mapped_bit f frames) → slice_get lives i ≡ Some live → rest ≡ remove lives i
    → Spent live.space frames frames_after → (f : ℕ) → count_all f rest ≤ mapped_bit f frames_after
owned-dropped lives rest frames frames_after i live owned there is spent f =
    omega (arith, owned f, count_all-removed lives f i live there, ap (count_all f) is, spent f)
