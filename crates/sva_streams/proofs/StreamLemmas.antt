-- Lemmas on what is read and written in several calls.
use Rattle.std.proofs.Common.{◌≡◌, ◌+◌, ◌-◌, ◌<◌, ◌≤◌, ◌∙◌, ap, sym, arith, min, ℕ, zero, suc, List, [], ◌∷◌, ◌++◌, length, take, drop, append_assoc}
use Rattle.std.proofs.Common.{append-nil, refl, subst, Option, Some, None, IfSome, Result, Ok, Err}
use Rattle.std.specs.Prelude.{IfOk}
use Rattle.std.specs.Result.{IsErr}
use Rattle.std.specs.Io.KnownBytes.{Appends, Consumes, Keeps, IsAtEnd}
use Rattle.std.proofs.KnownBytes.{Appends-kept, Appends-trans}
use Rattle.std.proofs.Math.Seq.{take-add}
use Rattle.std.proofs.lemmas.List.{length-append, length-drop, length-take, take-append-drop, take_rest}
use Rattle.sva_streams.specs.declared.streams.DriveFault.{DriveFault}
use Rattle.sva_streams.specs.declared.streams.Outcome.{Outcome}
use Rattle.sva_streams.specs.Streams.{AppendsPrefix, AppendsProperPrefix, Writes}

take-nil : (n : ℕ) → take {A = ℕ} n [] ≡ []
take-nil zero = refl
take-nil (suc n) = refl

take-joined : (n : ℕ) (xs ys : List ℕ) → take n (xs ++ ys) ≡ take n xs ++ take (n - length xs) ys
take-joined zero xs ys = let none : 0 ≡ zero - length xs = omega arith in ap (λ k. take k ys) none
take-joined (suc n) [] ys = let all : suc n ≡ suc n - 0 = omega arith in ap (λ k. take k ys) all
take-joined (suc n) (x ∷ xs) ys =
    let less : n - length xs ≡ suc n - suc (length xs) = omega arith in
    ap (λ l. x ∷ l) (take-joined n xs ys) ∙ ap (λ k. x ∷ (take n xs ++ take k ys)) less

take-taken : (k n : ℕ) (xs : List ℕ) → take k (take n xs) ≡ take (min k n) xs
take-taken zero n xs = let none : 0 ≡ min zero n = omega arith in ap (λ k. take k xs) none
take-taken (suc k) zero xs = let none : 0 ≡ min (suc k) zero = omega arith in ap (λ k. take k xs) none
take-taken (suc k) (suc n) [] = sym (take-nil (min (suc k) (suc n)))
take-taken (suc k) (suc n) (x ∷ xs) =
    let less : suc (min k n) ≡ min (suc k) (suc n) = omega arith in
    ap (λ l. x ∷ l) (take-taken k n xs) ∙ ap (λ m. take m (x ∷ xs)) less

-- ---- Reading

-- known bytes were read, and the first of them, so many at most, are kept
abbrev pub KeepsFront : ℕ → Option (List ℕ) → Option (List ℕ) → List ℕ → Type 0
KeepsFront most None new kept = Unit {0}
KeepsFront most (Some xs) None kept = ⊥
KeepsFront most (Some xs) (Some ys) kept = (given : List ℕ) × (xs ≡ given ++ ys) × (kept ≡ take most given)

kept_more : (most n : ℕ) (given kept piece : List ℕ) → kept ≡ take most given
    → kept ++ take (min n (most - length kept)) piece ≡ take most (given ++ take n piece)
kept_more most n given kept piece e =
    let len : length kept ≡ min most (length given) = ap length e ∙ length-take most given in
    let room : min n (most - length kept) ≡ min (most - length given) n = omega arith in
    ap (λ l. l ++ take (min n (most - length kept)) piece) e
    ∙ ap (λ k. take most given ++ take k piece) room
    ∙ ap (λ l. take most given ++ l) (sym (take-taken (most - length given) n piece))
    ∙ sym (take-joined most given (take n piece))

-- n bytes more were read, and as many of them are kept as there is room for
pub KeepsFront-more : (most n more : ℕ) (a b c : Option (List ℕ)) (kept new piece : List ℕ) → more ≡ min n (most - length kept)
    → new ≡ kept ++ take more piece
    → KeepsFront most a b kept → Consumes b c (take n piece) → KeepsFront most a c new
KeepsFront-more most n more None b c kept new piece m e h r = tt
KeepsFront-more most n more (Some xs) None c kept new piece m e h r = absurd h
KeepsFront-more most n more (Some xs) (Some ys) None kept new piece m e h r = absurd r
KeepsFront-more most n more (Some xs) (Some ys) (Some zs) kept new piece m e h r = (
  h.0 ++ take n piece,
  h.1 ∙ ap (λ l. h.0 ++ l) r ∙ sym (append_assoc h.0 (take n piece) zs),
  e ∙ ap (λ k. kept ++ take k piece) m ∙ kept_more most n h.0 kept piece h.2,
)

-- nothing more was read since all is: what is kept is all, or a prefix of it
pub KeepsFront-all : (most n : ℕ) (a b c : Option (List ℕ)) (kept piece : List ℕ) → n ≡ 0 → KeepsFront most a b kept → Consumes b c (take n piece) → IsAtEnd c
    → IfSome a (λ input. kept ≡ take most input)
KeepsFront-all most n None b c kept piece z h r end = tt
KeepsFront-all most n (Some xs) None c kept piece z h r end = absurd h
KeepsFront-all most n (Some xs) (Some ys) None kept piece z h r end = absurd r
KeepsFront-all most n (Some xs) (Some ys) (Some zs) kept piece z h r end =
    let none : ys ≡ [] = r ∙ ap (λ k. take k piece ++ zs) z ∙ end in
    h.2 ∙ ap (take most) (sym (h.1 ∙ ap (λ l. h.0 ++ l) none ∙ append-nil h.0))

-- ---- Writing

-- what was written of the bytes, and then n of those that are left
pub Appends-more : (a b c : Option (List ℕ)) (bytes : List ℕ) (written n : ℕ) → Appends a b (take written bytes)
    → Appends b c (take n (take (length bytes - written) (drop written bytes))) → Appends a c (take (written + n) bytes)
Appends-more None b c bytes written n p q = tt
Appends-more (Some x) None c bytes written n p q = absurd p
Appends-more (Some x) (Some y) None bytes written n p q = absurd q
Appends-more (Some x) (Some y) (Some z) bytes written n p q =
    q ∙ ap (λ l. l ++ take n (take (length bytes - written) (drop written bytes))) p
    ∙ append_assoc x (take written bytes) _
    ∙ ap (λ l. x ++ (take written bytes ++ take n l)) (take_rest bytes written)
    ∙ ap (λ l. x ++ l) (sym (take-add written n bytes))

-- where a call fails, a prefix of the bytes is written, and some are left
pub AppendsPrefix-cut : (a b c : Option (List ℕ)) (bytes : List ℕ) (written : ℕ) → written < length bytes → Appends a b (take written bytes)
    → Keeps b c → AppendsProperPrefix a c bytes
AppendsPrefix-cut a b c bytes written within p q =
    let left : 0 < length (drop written bytes) = omega (arith, length-drop written bytes, within) in
    (take written bytes, drop written bytes, take-append-drop written bytes, Appends-kept a b c (take written bytes) p q, left)

-- where bytes came, known input had some
pub Consumes-some : (most n : ℕ) (a b c : Option (List ℕ)) (kept piece : List ℕ) → 0 < n → n ≤ length piece → KeepsFront most a b kept
    → Consumes b c (take n piece) → IfSome a (λ input. 0 < length input)
Consumes-some most n None b c kept piece some within h r = tt
Consumes-some most n (Some xs) None c kept piece some within h r = absurd h
Consumes-some most n (Some xs) (Some ys) None kept piece some within h r = absurd r
Consumes-some most n (Some xs) (Some ys) (Some zs) kept piece some within h r =
    omega (arith, ap length h.1, length-append h.0 ys, ap length r, length-append (take n piece) zs, length-take n piece, some, within)

-- a prefix of the bytes that come next is, behind what was written, a prefix of all of them
pub AppendsPrefix-after : (a b c : Option (List ℕ)) (first next : List ℕ) → Appends a b first → AppendsPrefix b c next → AppendsPrefix a c (first ++ next)
AppendsPrefix-after a b c first next p q =
    (first ++ q.0, q.1, append_assoc first q.0 q.1 ∙ ap (λ l. first ++ l) q.2, Appends-trans a b c first q.0 p q.3)

-- a prefix of some bytes is one of these and of what would follow them
pub AppendsPrefix-longer : (a b : Option (List ℕ)) (bytes more : List ℕ) → AppendsPrefix a b bytes → AppendsPrefix a b (bytes ++ more)
AppendsPrefix-longer a b bytes more p = (p.0, p.1 ++ more, sym (append_assoc p.0 p.1 more) ∙ ap (λ l. l ++ more) p.2, p.3)

-- ---- Results

-- a fault stands where a prefix was written
pub writes_front : {A : Type 0} (old new : Option (List ℕ)) (bytes : List ℕ) (result : Result A DriveFault) → IsErr result
    → AppendsPrefix old new bytes → Writes old new bytes result
writes_front old new bytes (Ok x) e front = absurd (cc)
writes_front old new bytes (Err fault) e front = front

-- the same bytes, named otherwise
pub writes_as : {A : Type 0} (old new : Option (List ℕ)) (bytes other : List ℕ) (result : Result A DriveFault) → other ≡ bytes
    → Writes old new bytes result → Writes old new other result
writes_as old new bytes other result e w = subst (λ b. Writes old new b result) (sym e) w

pub ends_as : (result : Result Outcome DriveFault) (end other : Outcome) → other ≡ end → IfOk result (λ outcome. outcome ≡ end)
    → IfOk result (λ outcome. outcome ≡ other)
ends_as (Ok outcome) end other e h = h ∙ sym e
ends_as (Err fault) end other e h = tt
