-- Lists of messages in which none comes before an older one that it must not overtake.
use Rattle.std.proofs.Common.{◌≡◌, ℕ, zero, suc, ◌+◌, ◌<◌, ◌≤◌, true, false, Bool, cond, nat_eq, List, [], ◌∷◌, ◌++◌, Some, AllPairs, IsPermutation, refl}
use Rattle.std.proofs.Common.{arith}
use Rattle.std.proofs.lemmas.Bool.Decides.{nat_tests}
use Rattle.std.proofs.lemmas.List.Elements.{All-from_recursion}
use Rattle.std.proofs.lemmas.List.Sorted.{IsPermutation-refl, IsPermutation-cons, IsPermutation-middle, IsPermutation-trans}
use Rattle.std.specs.List.{AllByRecursion}
use Rattle.std.specs.Map.{lookup}
use Rattle.indexmap.specs.IndexMap.{shift_remove_entry}
use Rattle.sva_msg.specs.Bag.{AreNumbered, must_follow}
use Rattle.sva_msg.specs.Laws.{MayPrecede}
use Rattle.sva_msg.specs.declared.messages.Message.{Message}
use Rattle.sva_msg.proofs.Deliverable.{NoneOlder, NoneOlder-head, NoneOlder-tail}

-- `AllPairs` by recursion
abbrev pub Pairs : {X : Type 0} → (X → X → Type 0) → List X → Type 0
Pairs R [] = Unit {0}
Pairs R (x ∷ xs) = AllByRecursion (R x) xs × Pairs R xs

pub AllPairs-from_Pairs : {X : Type 0} (R : X → X → Type 0) (xs : List X) → Pairs R xs → AllPairs R xs
AllPairs-from_Pairs R [] h i j d lt l = absurd (omega arith)
AllPairs-from_Pairs R (x ∷ xs) h zero zero d lt l = absurd (omega arith)
AllPairs-from_Pairs R (x ∷ xs) h zero (suc j) d lt l = All-from_recursion (R x) xs h.0 j d (omega arith)
AllPairs-from_Pairs R (x ∷ xs) h (suc i) zero d lt l = absurd (omega arith)
AllPairs-from_Pairs R (x ∷ xs) h (suc i) (suc j) d lt l = AllPairs-from_Pairs R xs h.1 i j d (omega arith) (omega arith)

all_append : {X : Type 0} (P : X → Type 0) (xs ys : List X) → AllByRecursion P xs → AllByRecursion P ys → AllByRecursion P (xs ++ ys)
all_append P [] ys a b = b
all_append P (x ∷ xs) ys a b = (a.0, all_append P xs ys a.1 b)

-- a message that is older than all of a list
all_newer : (p : ℕ × Message) (low high : ℕ) (es : List (ℕ × Message)) → p.0 ≤ low → AreNumbered low high es → AllByRecursion (MayPrecede p) es
all_newer p low high [] le h = tt
all_newer p low high (q ∷ qs) le h = (λ lt. absurd (omega arith), all_newer p (q.0 + 1) high qs (omega arith) h.1)

Pairs-from_AreNumbered : (low high : ℕ) (es : List (ℕ × Message)) → AreNumbered low high es → Pairs MayPrecede es
Pairs-from_AreNumbered low high [] h = tt
Pairs-from_AreNumbered low high (p ∷ ps) h = (all_newer p (p.0 + 1) high ps (omega arith) h.1, Pairs-from_AreNumbered (p.0 + 1) high ps h.1)

-- newer messages go to the end
pub Pairs-sent : (low high : ℕ) (xs ys : List (ℕ × Message)) → AllByRecursion (λ p. p.0 < low) xs → Pairs MayPrecede xs → AreNumbered low high ys
    → Pairs MayPrecede (xs ++ ys)
Pairs-sent low high [] ys below h up = Pairs-from_AreNumbered low high ys up
Pairs-sent low high (x ∷ xs) ys below h up =
    let older : x.0 < low = below.0 in
    (all_append (MayPrecede x) xs ys h.0 (all_newer x low high ys (omega arith) up), Pairs-sent low high xs ys below.1 h.1 up)

-- the messages without the first that has the number n, and with it before them
module _ (n : ℕ) (m : Message) where
  all_taken : (P : ℕ × Message → Type 0) (es : List (ℕ × Message)) → AllByRecursion P es → AllByRecursion P (shift_remove_entry (nat_eq n) es)
  all_taken P [] a = tt
  all_taken P (p ∷ ps) a =
      elim (nat_eq n p.0) as (λ b. AllByRecursion P (cond b ps (p ∷ shift_remove_entry (nat_eq n) ps))) [
        | true ↦ a.1
        | false ↦ (a.0, all_taken P ps a.1)
      ]

  all_front : (P : ℕ × Message → Type 0) (es : List (ℕ × Message)) → lookup (nat_eq n) es ≡ Some m → AllByRecursion P es → P (n, m)
  all_front P [] at a = cc
  all_front P (p ∷ ps) at a = by (nat_eq n p.0) refl at (λ found. all_front P ps found a.1)
    where
      by : (b : Bool) → nat_eq n p.0 ≡ b → cond b (Some p.1) (lookup (nat_eq n) ps) ≡ Some m → (lookup (nat_eq n) ps ≡ Some m → P (n, m)) → P (n, m)
      by true is found rest =
          let number : p.0 ≡ n = grind (arith, nat_tests) in
          let message : p.1 ≡ m = cc in
          rw (← number, ← message) a.0
      by false is found rest = rest found

  pairs_taken : (R : ℕ × Message → ℕ × Message → Type 0) (es : List (ℕ × Message)) → Pairs R es → Pairs R (shift_remove_entry (nat_eq n) es)
  pairs_taken R [] a = tt
  pairs_taken R (p ∷ ps) a =
      elim (nat_eq n p.0) as (λ b. Pairs R (cond b ps (p ∷ shift_remove_entry (nat_eq n) ps))) [
        | true ↦ a.1
        | false ↦ (all_taken (R p) ps a.0, pairs_taken R ps a.1)
      ]

  -- no message stands before it that it must not overtake
  all_ahead : (low high : ℕ) (es : List (ℕ × Message)) → AreNumbered low high es → NoneOlder (must_follow m) n es → AllByRecursion (MayPrecede (n, m)) es
  all_ahead low high [] h none = tt
  all_ahead low high (p ∷ ps) h none =
      (NoneOlder-head (must_follow m) n p ps none, all_ahead (p.0 + 1) high ps h.1 (NoneOlder-tail (must_follow m) n low high p ps h none))

  all_moved : (P : ℕ × Message → Type 0) (done es : List (ℕ × Message)) → lookup (nat_eq n) es ≡ Some m
      → AllByRecursion P (done ++ es) → AllByRecursion P ((done ++ (n, m) ∷ []) ++ shift_remove_entry (nat_eq n) es)
  all_moved P [] es at a = (all_front P es at a, all_taken P es a)
  all_moved P (d ∷ ds) es at a = (a.0, all_moved P ds es at a.1)

  -- it is delivered
  pub Pairs-delivered : (low high : ℕ) (done es : List (ℕ × Message)) → AreNumbered low high es → lookup (nat_eq n) es ≡ Some m
      → NoneOlder (must_follow m) n es → Pairs MayPrecede (done ++ es) → Pairs MayPrecede ((done ++ (n, m) ∷ []) ++ shift_remove_entry (nat_eq n) es)
  Pairs-delivered low high [] es h at none a =
      (all_taken (MayPrecede (n, m)) es (all_ahead low high es h none), pairs_taken MayPrecede es a)
  Pairs-delivered low high (d ∷ ds) es h at none a =
      (all_moved (MayPrecede d) ds es at a.0, Pairs-delivered low high ds es h at none a.1)

  pub IsPermutation-taken : (es : List (ℕ × Message)) → lookup (nat_eq n) es ≡ Some m → IsPermutation es ((n, m) ∷ shift_remove_entry (nat_eq n) es)
  IsPermutation-taken [] at = cc
  IsPermutation-taken (p ∷ ps) at = by (nat_eq n p.0) refl at (IsPermutation-taken ps)
    where
      by : (b : Bool) → nat_eq n p.0 ≡ b → cond b (Some p.1) (lookup (nat_eq n) ps) ≡ Some m
          → (lookup (nat_eq n) ps ≡ Some m → IsPermutation ps ((n, m) ∷ shift_remove_entry (nat_eq n) ps))
          → IsPermutation (p ∷ ps) ((n, m) ∷ cond b ps (p ∷ shift_remove_entry (nat_eq n) ps))
      by true is found rest =
          let number : p.0 ≡ n = grind (arith, nat_tests) in
          let message : p.1 ≡ m = cc in
          rw (← number, ← message) (IsPermutation-refl (p ∷ ps))
      by false is found rest =
          let left = shift_remove_entry (nat_eq n) ps in
          IsPermutation-trans (p ∷ ps) (p ∷ (n, m) ∷ left) ((n, m) ∷ p ∷ left)
          (IsPermutation-cons p ps ((n, m) ∷ left) (rest found))
          (IsPermutation-middle (p ∷ []) (n, m) left)
