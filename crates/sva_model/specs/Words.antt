-- Tables, and searches in them. A table is a function from names; a name is the count of the records that were there
-- before it, so it is given once and never again.
use Rattle.std.specs.Prelude.{ℕ, zero, suc, ◌+◌, ◌-◌, Bool, true, false, ◌&&◌, ◌==◌, nat_lt, nat_le, if◌then◌else◌, Option, Some, None, List, [], ◌∷◌, ◌++◌}

-- the table with another entry under one name
abbrev pub put : {A : Type 0} → (ℕ → A) → ℕ → A → ℕ → A
put f i v k = if k == i then v else f k

-- the table with other entries under the n names from `first` on
abbrev pub put_range : {A : Type 0} → (ℕ → A) → (first n : ℕ) → (ℕ → A) → ℕ → A
put_range f first n g k = if nat_le first k && nat_lt k (first + n) then g (k - first) else f k

-- the lowest number below n that passes; n where none does: k is that below n, and b tells of n
abbrev pub step_lowest : Bool → ℕ → ℕ → Bool → ℕ
step_lowest false k n b = k
step_lowest true k n true = n
step_lowest true k n false = suc n

-- the lowest number below n that passes; n where none does
unfoldable pub lowest : ℕ → (ℕ → Bool) → ℕ
lowest zero p = zero
lowest (suc n) p = step_lowest (lowest n p == n) (lowest n p) n (p n)

-- does some number below n pass?
unfoldable pub any_below : ℕ → (ℕ → Bool) → Bool
any_below zero p = false
any_below (suc n) p = if p n then true else any_below n p

-- does each number below n pass?
unfoldable pub all_below : ℕ → (ℕ → Bool) → Bool
all_below zero p = true
all_below (suc n) p = if p n then all_below n p else false

-- how many numbers below n pass
unfoldable pub count_below : ℕ → (ℕ → Bool) → ℕ
count_below zero p = zero
count_below (suc n) p = if p n then suc (count_below n p) else count_below n p

-- the numbers below n that pass, in rising order
unfoldable pub select : ℕ → (ℕ → Bool) → List ℕ
select zero p = []
select (suc n) p = select n p ++ (if p n then n ∷ [] else [])

-- the values of a table at the names below n
unfoldable pub tabulate : {A : Type 0} → ℕ → (ℕ → A) → List A
tabulate zero f = []
tabulate (suc n) f = tabulate n f ++ f n ∷ []

-- is there one?
abbrev pub is_some : {A : Type 0} → Option A → Bool
is_some None = false
is_some (Some a) = true

-- does the record that is there, if any, pass?
abbrev pub holds_of : (ℕ → Bool) → Option ℕ → Bool
holds_of p None = false
holds_of p (Some k) = p k

-- the record that is there; 0 where none is
abbrev pub the : Option ℕ → ℕ
the None = 0
the (Some k) = k

-- the record that is there, unless it passes
abbrev pub unless : (ℕ → Bool) → Option ℕ → Option ℕ
unless p None = None
unless p (Some k) = if p k then None else Some k

-- the number, where it was found
abbrev pub if_found : Bool → ℕ → Option ℕ
if_found true k = Some k
if_found false k = None

-- the lowest number below n that passes, if one does
abbrev pub find : ℕ → (ℕ → Bool) → Option ℕ
find n p = if_found (nat_lt (lowest n p) n) (lowest n p)
