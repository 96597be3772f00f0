-- Cookies that rise in a list of descriptors.
use Rattle.std.proofs.Common.{◌≡◌, ℕ, ◌+◌, ◌^◌, ◌<◌, ◌≤◌, ◌⊎◌, inl, inr, List, [], ◌∷◌, ◌++◌, length, take, get_or, refl, ap, sym, ◌∙◌, arith}
use Rattle.std.proofs.lemmas.List.{take_more}
use Rattle.std.specs.Prelude.{Contains}
use Rattle.std.proofs.lemmas.List.Elements.{Contains-append_cases, Contains-append_right, Contains-push_cases}
use Rattle.std.specs.List.{AllByRecursion as ByRecursion}
use Rattle.sva_queue.specs.declared.descriptors.Descriptor.{Descriptor}
use Rattle.sva_queue.specs.declared.descriptors.Descriptor.TheVariants.{Range, Pasid, Wait}
use Rattle.sva_queue.specs.Cookies.{cookies_of, AreRising, number_after, HasNumber}

-- ---- the elements of a list of numbers
pub contains_none : (n : ℕ) → ¬ Contains [] n
contains_none n (k, below, at) = omega arith

pub contains_one : (m n : ℕ) → Contains (m ∷ []) n → m ≡ n
contains_one m n h = elim (Contains-push_cases [] m n h) [ inl none ↦ absurd (contains_none n none) | inr same ↦ same ]

pub contains_cons : (m n : ℕ) (ns : List ℕ) → Contains (m ∷ ns) n → (m ≡ n) ⊎ Contains ns n
contains_cons m n ns h = elim (Contains-append_cases (m ∷ []) ns n h) [ inl here ↦ inl (contains_one m n here) | inr there ↦ inr there ]

pub contains_here : (n : ℕ) (ns : List ℕ) → Contains (n ∷ ns) n
contains_here n ns = (0, omega arith, refl)

pub contains_there : (m n : ℕ) (ns : List ℕ) → Contains ns n → Contains (m ∷ ns) n
contains_there m n ns h = Contains-append_right (m ∷ []) ns n h

-- ---- one list after another
pub cookies-append : (xs ys : List Descriptor) → cookies_of (xs ++ ys) ≡ cookies_of xs ++ cookies_of ys
cookies-append [] ys = refl
cookies-append (Range pasid range ∷ xs) ys = cookies-append xs ys
cookies-append (Pasid pasid ∷ xs) ys = cookies-append xs ys
cookies-append (Wait cookie drain ∷ xs) ys = ap (λ cs. cookie ∷ cs) (cookies-append xs ys)

pub rising-append : (xs ys : List Descriptor) (first : ℕ) → AreRising first xs → AreRising (number_after first xs) ys → AreRising first (xs ++ ys)
rising-append [] ys first h k = k
rising-append (Range pasid range ∷ xs) ys first h k = rising-append xs ys first h k
rising-append (Pasid pasid ∷ xs) ys first h k = rising-append xs ys first h k
rising-append (Wait cookie drain ∷ xs) ys first h k = (h.0, rising-append xs ys (cookie + 1) h.1 k)

pub number_after-append : (xs ys : List Descriptor) (first : ℕ) → number_after first (xs ++ ys) ≡ number_after (number_after first xs) ys
number_after-append [] ys first = refl
number_after-append (Range pasid range ∷ xs) ys first = number_after-append xs ys first
number_after-append (Pasid pasid ∷ xs) ys first = number_after-append xs ys first
number_after-append (Wait cookie drain ∷ xs) ys first = number_after-append xs ys (cookie + 1)

pub number_after-more : (xs : List Descriptor) (i first : ℕ) (d : Descriptor) → i < length xs
    → number_after (number_after first (take i xs)) (get_or xs i d ∷ []) ≡ number_after first (take (i + 1) xs)
number_after-more xs i first d lt = sym (number_after-append (take i xs) (get_or xs i d ∷ []) first) ∙ ap (number_after first) (sym (take_more xs i d lt))

-- the same of an item that was read at this place
pub number_after-item : (xs : List Descriptor) (i first : ℕ) (item : Descriptor) → i < length xs → item ≡ get_or xs i item
    → number_after (number_after first (take i xs)) (item ∷ []) ≡ number_after first (take (i + 1) xs)
number_after-item xs i first item lt read =
    ap (λ (d : Descriptor). number_after (number_after first (take i xs)) (d ∷ [])) read ∙ number_after-more xs i first item lt

-- ---- bounds
pub rising-le : (xs : List Descriptor) (first : ℕ) → AreRising first xs → first ≤ number_after first xs
rising-le [] first h = omega arith
rising-le (Range pasid range ∷ xs) first h = rising-le xs first h
rising-le (Pasid pasid ∷ xs) first h = rising-le xs first h
rising-le (Wait cookie drain ∷ xs) first h = omega (arith, h.0, rising-le xs (cookie + 1) h.1)

pub number_after-mono : (xs : List Descriptor) (first least : ℕ) → first ≤ least → number_after first xs ≤ number_after least xs
number_after-mono [] first least h = h
number_after-mono (Range pasid range ∷ xs) first least h = number_after-mono xs first least h
number_after-mono (Pasid pasid ∷ xs) first least h = number_after-mono xs first least h
number_after-mono (Wait cookie drain ∷ xs) first least h = omega arith

-- what rises from a number on rises from a lower one on
pub rising-weaken : (xs : List Descriptor) (first least : ℕ) → first ≤ least → AreRising least xs → AreRising first xs
rising-weaken [] first least h k = tt
rising-weaken (Range pasid range ∷ xs) first least h k = rising-weaken xs first least h k
rising-weaken (Pasid pasid ∷ xs) first least h k = rising-weaken xs first least h k
rising-weaken (Wait cookie drain ∷ xs) first least h k = (omega (arith, k.0), k.1)

pub number_after-fits : (xs : List Descriptor) (first : ℕ) → ByRecursion HasNumber xs → first ≤ 2 ^ 63 → number_after first xs ≤ 2 ^ 63
number_after-fits [] first h k = k
number_after-fits (Range pasid range ∷ xs) first h k = number_after-fits xs first h.1 k
number_after-fits (Pasid pasid ∷ xs) first h k = number_after-fits xs first h.1 k
number_after-fits (Wait cookie drain ∷ xs) first h k = number_after-fits xs (cookie + 1) h.1 (omega (arith, h.0))

-- a cookie of a rising list is at least the first number, and below the number after the last one
pub rising-within : (xs : List Descriptor) (first cookie : ℕ) → AreRising first xs → Contains (cookies_of xs) cookie → (first ≤ cookie)
    × (cookie < number_after first xs)
rising-within [] first cookie h is = absurd (contains_none cookie is)
rising-within (Range pasid range ∷ xs) first cookie h is = rising-within xs first cookie h is
rising-within (Pasid pasid ∷ xs) first cookie h is = rising-within xs first cookie h is
rising-within (Wait c drain ∷ xs) first cookie h is =
    elim (contains_cons c cookie (cookies_of xs) is) [
      | inl same ↦ (omega (arith, h.0), omega (arith, rising-le xs (c + 1) h.1))
      | inr later ↦
          let rest : (c + 1 ≤ cookie) × (cookie < number_after (c + 1) xs) = rising-within xs (c + 1) cookie h.1 later in
          (omega (arith, h.0, rest.0), rest.1)
    ]
