-- How many jobs of a serial are kept, in a list of jobs and in hands.
use Rattle.std.proofs.Common.{◌≡◌, inl, inr, refl, ap, ℕ, zero, suc, ◌+◌, ◌<◌, ◌≤◌, Bool, true, false, arith}
use Rattle.std.specs.Prelude.{cond, ◌==◌, if◌then◌else◌, Option, Some, None, List, [], ◌∷◌, ◌++◌, filter, drop, length, slice_get, slice_index_or, slice_set}
use Rattle.std.specs.List.{count_by}
use Rattle.std.proofs.lemmas.List.Sums.{sum_by-cons}
use Rattle.sva_prq.specs.Job.{Job}
use Rattle.sva_parts_by_labels.specs.JobTableLaws.{IsIn, is_with, holds}

module _ {A : Type 0} where
  pub count_cons : (p : A → Bool) (x : A) (xs : List A) → count_by p (x ∷ xs) ≡ (if p x then 1 else 0) + count_by p xs
  count_cons p x xs = sum_by-cons (λ y. cond (p y) 1 0) x xs

  pub count_append : (p : A → Bool) (xs ys : List A) → count_by p (xs ++ ys) ≡ count_by p xs + count_by p ys
  count_append p [] ys = omega arith
  count_append p (x ∷ xs) ys =
      let rest = count_append p xs ys in
      let both = count_cons p x (xs ++ ys) in
      let one = count_cons p x xs in
      omega (arith, rest, both, one)

  pub count_none : (p : A → Bool) (xs : List A) → ((a : A) → IsIn a xs → p a ≡ false) → count_by p xs ≡ 0
  count_none p [] h = refl
  count_none p (x ∷ xs) h =
      let rest = count_none p xs (λ a m. h a (inr m)) in
      let here : ◌≡◌ {A = ℕ} (if p x then 1 else 0) 0 = ap (λ t. if t then 1 else 0) (h x (inl refl)) in
      let both = count_cons p x xs in
      omega (arith, rest, here, both)

  pub count_left : (p q : A → Bool) (xs : List A) → count_by p (filter q xs) ≤ count_by p xs
  count_left p q [] = omega arith
  count_left p q (x ∷ xs) = go (q x) (count_left p q xs)
    where
      go : (b : Bool) → count_by p (filter q xs) ≤ count_by p xs → count_by p (cond b (x ∷ filter q xs) (filter q xs)) ≤ count_by p (x ∷ xs)
      go true rest = let both = count_cons p x (filter q xs) in let one = count_cons p x xs in omega (arith, rest, both, one)
      go false rest = let one = count_cons p x xs in omega (arith, rest, one)

pub held_none : (n : ℕ) (hands : List (Option Job)) → ((x : ℕ) (job : Job) → slice_index_or hands x None ≡ Some job → (job.serial == n) ≡ false)
    → count_by (holds n) hands ≡ 0
held_none n [] h = refl
held_none n (o ∷ hands) h =
    let rest = held_none n hands (λ x job e. h (suc x) job e) in
    let here : ◌≡◌ {A = ℕ} (if holds n o then 1 else 0) 0 = ap (λ t. if t then 1 else 0) (go o (h 0)) in
    let both = count_cons (holds n) o hands in
    omega (arith, rest, here, both)
  where
    go : (o : Option Job) → ((job : Job) → o ≡ Some job → (job.serial == n) ≡ false) → holds n o ≡ false
    go None k = refl
    go (Some job) k = k job refl

-- an empty hand gets a job, or stays empty
pub count_set : (n : ℕ) (o : Option Job) (k : ℕ) (hands : List (Option Job)) → k < length hands → slice_index_or hands k None ≡ None
    → count_by (holds n) (slice_set hands k o) ≡ count_by (holds n) hands + (if holds n o then 1 else 0)
count_set n o k [] l h = absurd (omega (arith, l))
count_set n o zero (x ∷ hands) l h =
    let was : ◌≡◌ {A = ℕ} (if holds n x then 1 else 0) 0 = ap (λ (y : Option Job). if holds n y then 1 else 0) h in
    let before = count_cons (holds n) x hands in
    let later = count_cons (holds n) o hands in
    omega (arith, was, before, later)
count_set n o (suc k) (x ∷ hands) l h =
    let rest = count_set n o k hands (omega (arith, l)) h in
    let before = count_cons (holds n) x hands in
    let later = count_cons (holds n) x (slice_set hands k o) in
    omega (arith, rest, before, later)

pub count_let_go : (n k : ℕ) (hands : List (Option Job)) → count_by (holds n) (slice_set hands k None) ≤ count_by (holds n) hands
count_let_go n k [] = omega arith
count_let_go n zero (x ∷ hands) =
    let before = count_cons (holds n) x hands in
    let later = count_cons (holds n) None hands in
    omega (arith, before, later)
count_let_go n (suc k) (x ∷ hands) =
    let rest = count_let_go n k hands in
    let before = count_cons (holds n) x hands in
    let later = count_cons (holds n) x (slice_set hands k None) in
    omega (arith, rest, before, later)

-- the first, and those behind it
pub count_first : (n : ℕ) (jobs : List Job) → (if holds n (slice_get jobs 0) then 1 else 0) + count_by (is_with n) (drop 1 jobs) ≡ count_by (is_with n) jobs
count_first n [] = refl
count_first n (job ∷ jobs) = let both = count_cons (is_with n) job jobs in omega (arith, both)
