-- Each place of a journal is told by one receipt: by no more, since the places of a port rise and an entry is of one port; so by one each, by counting.
use Rattle.std.proofs.Common.{◌≡◌, ◌<◌, ◌≤◌, ℕ, zero, suc, ◌+◌, Bool, true, false, Option, Some, List, [], ◌∷◌, ◌++◌, length}
use Rattle.std.proofs.Common.{refl, sym, ap, subst, ◌∙◌, arith, nat_eq}
use Rattle.std.specs.Prelude.{slice_get, if◌then◌else◌}
use Rattle.std.proofs.lemmas.Option.{slice_get_within}
use Rattle.std.proofs.lemmas.Bool.Decides.{nat_tests}
use Rattle.sva_core.specs.declared.journal.Entry.{Entry}
use Rattle.sva_core.specs.declared.receipts.Receipt.{Receipt}
use Rattle.sva_fabric.specs.Receipts.{PortState, AreRising}
use Rattle.sva_core.specs.Receipts.{entry_told}
use Rattle.sva_fabric.specs.Audits.{AllStand, EachStands, calls_of, told_at, told_by, IsToldOnce}
use Rattle.sva_fabric.specs.Once.{AllRise, AuditsTellOnce}

abbrev one : Bool → ℕ
one b = if b then 1 else 0

-- sums over the places below a number
abbrev total : ℕ → (ℕ → ℕ) → ℕ
total zero f = 0
total (suc n) f = total n f + f n

total_plus : (n : ℕ) (f g : ℕ → ℕ) → total n (λ k. f k + g k) ≡ total n f + total n g
total_plus zero f g = refl
total_plus (suc n) f g = omega (arith, total_plus n f g)

total_none : (n : ℕ) → total n (λ k. 0) ≡ 0
total_none zero = refl
total_none (suc n) = omega (arith, total_none n)

-- a place is counted once among those below a number above it
total_above : (n place : ℕ) → n ≤ place → total n (λ k. one (nat_eq place k)) ≡ 0
total_above zero place h = refl
total_above (suc n) place h =
    let apart : nat_eq place n ≡ false = grind (arith, nat_tests) in
    omega (arith, total_above n place (omega (arith, h)), ap one apart)

total_one : (n place : ℕ) → place < n → total n (λ k. one (nat_eq place k)) ≡ 1
total_one zero place h = omega (arith, h)
total_one (suc n) place h = go (nat_eq place n) refl (total_one n place)
  where
    go : (b : Bool) → nat_eq place n ≡ b → (place < n → total n (λ k. one (nat_eq place k)) ≡ 1) → total (suc n) (λ k. one (nat_eq place k)) ≡ 1
    go true is lower =
        let same : place ≡ n = grind (arith, nat_tests) in
        omega (arith, total_above n place (omega (arith, same)), ap one is)
    go false is lower =
        let below : place < n = grind (arith, nat_tests) in
        omega (arith, lower below, ap one is)

-- all receipts of a port, and all of all ports
total_of : (n : ℕ) (entries : List Entry) (port : ℕ) (rs : List Receipt) → length entries ≡ n → AllStand entries port rs
    → total n (λ k. told_at k rs) ≡ length rs
total_of n entries port [] many h = total_none n
total_of n entries port (r ∷ rs) many h =
    let within : r.place < length entries = slice_get_within entries r.place (entry_told port r) h.0 in
    let first : total n (λ k. one (nat_eq r.place k)) ≡ 1 = total_one n r.place (omega (arith, within, many)) in
    let rest : total n (λ k. told_at k rs) ≡ length rs = total_of n entries port rs many h.1 in
    total_plus n (λ k. one (nat_eq r.place k)) (λ k. told_at k rs) ∙ omega (arith, first, rest)

total_all : (n : ℕ) (entries : List Entry) (first : ℕ) (states : List PortState) → length entries ≡ n → EachStands entries first states
    → total n (λ k. told_by k states) ≡ calls_of states
total_all n entries first [] many h = total_none n
total_all n entries first (s ∷ states) many h =
    total_plus n (λ k. told_at k s.receipts) (λ k. told_by k states)
    ∙ omega (arith, total_of n entries first s.receipts many h.0, total_all n entries (first + 1) states many h.1)

-- behind a receipt none tells of its place, or of one before it
abbrev AreAbove : ℕ → List Receipt → Type 0
AreAbove place [] = Unit {0}
AreAbove place (r ∷ rs) = (place < r.place) × AreAbove place rs

none_behind : (k place : ℕ) (rs : List Receipt) → k ≤ place → AreAbove place rs → told_at k rs ≡ 0
none_behind k place [] h above = refl
none_behind k place (r ∷ rs) h above =
    let apart : nat_eq r.place k ≡ false = apart_is (omega (arith, h, above.0)) in
    omega (arith, ap one apart, none_behind k place rs h above.1)
  where
    apart_is : k < r.place → nat_eq r.place k ≡ false
    apart_is lower = grind (arith, nat_tests)

above_more : (lower place : ℕ) (rs : List Receipt) → lower < place → AreAbove place rs → AreAbove lower rs
above_more lower place [] h above = tt
above_more lower place (r ∷ rs) h above = (omega (arith, h, above.0), above_more lower place rs h above.1)

rest_above : (r : Receipt) (rs : List Receipt) → AreRising (r ∷ rs) → AreAbove r.place rs
rest_above r [] h = tt
rest_above r (s ∷ rs) h = (h.0, above_more r.place s.place rs h.0 (rest_above s rs h.1))

rising_rest : (r : Receipt) (rs : List Receipt) → AreRising (r ∷ rs) → AreRising rs
rising_rest r [] h = tt
rising_rest r (s ∷ rs) h = h.1

-- so a port tells of a place at most once
once_at_most : (k : ℕ) (rs : List Receipt) → AreRising rs → told_at k rs ≤ 1
once_at_most k [] h = omega arith
once_at_most k (r ∷ rs) h = go (nat_eq r.place k) refl (once_at_most k rs (rising_rest r rs h))
  where
    go : (b : Bool) → nat_eq r.place k ≡ b → told_at k rs ≤ 1 → told_at k (r ∷ rs) ≤ 1
    go true is rest =
        let same : r.place ≡ k = grind (arith, nat_tests) in
        omega (arith, ap one is, none_behind k r.place rs (omega (arith, same)) (rest_above r rs h))
    go false is rest = omega (arith, ap one is, rest)

-- a place that a port tells of has an entry of that port
told_port : (k : ℕ) (entries : List Entry) (port : ℕ) (rs : List Receipt) → AllStand entries port rs → 0 < told_at k rs
    → (e : Entry) × (slice_get entries k ≡ Some e) × (e.port ≡ port)
told_port k entries port [] h some = absurd (omega (arith, some))
told_port k entries port (r ∷ rs) h some = go (nat_eq r.place k) refl (told_port k entries port rs h.1)
  where
    go : (b : Bool) → nat_eq r.place k ≡ b → (0 < told_at k rs → (e : Entry) × (slice_get entries k ≡ Some e) × (e.port ≡ port))
        → (e : Entry) × (slice_get entries k ≡ Some e) × (e.port ≡ port)
    go true is later =
        let same : r.place ≡ k = grind (arith, nat_tests) in
        (entry_told port r, subst (λ (n : ℕ). slice_get entries n ≡ Some (entry_told port r)) same h.0, refl)
    go false is later = later (omega (arith, some, ap one is))

told_from : (k : ℕ) (entries : List Entry) (first : ℕ) (states : List PortState) → EachStands entries first states → 0 < told_by k states
    → (e : Entry) × (slice_get entries k ≡ Some e) × (first ≤ e.port)
told_from k entries first [] h some = absurd (omega (arith, some))
told_from k entries first (s ∷ states) h some = go (told_at k s.receipts) refl (told_from k entries (first + 1) states h.1)
  where
    go : (n : ℕ) → told_at k s.receipts ≡ n → (0 < told_by k states → (e : Entry) × (slice_get entries k ≡ Some e) × (first + 1 ≤ e.port))
        → (e : Entry) × (slice_get entries k ≡ Some e) × (first ≤ e.port)
    go zero is behind =
        let later = behind (omega (arith, some, is)) in
        (later.0, later.1, omega (arith, later.2))
    go (suc n) is behind =
        let here = told_port k entries first s.receipts h.0 (omega (arith, is)) in
        (here.0, here.1, omega (arith, here.2))

abbrev port_in : Option Entry → ℕ
port_in (Some e) = e.port
port_in _ = 0

-- so all ports together tell of a place at most once
once_by_all : (k : ℕ) (entries : List Entry) (first : ℕ) (states : List PortState) → AllRise states
    → EachStands entries first states → told_by k states ≤ 1
once_by_all k entries first [] rise h = omega arith
once_by_all k entries first (s ∷ states) rise h =
    go (told_at k s.receipts) refl (told_by k states) refl (once_by_all k entries (first + 1) states rise.1 h.1)
  where
    go : (a : ℕ) → told_at k s.receipts ≡ a → (b : ℕ) → told_by k states ≡ b → told_by k states ≤ 1 → told_by k (s ∷ states) ≤ 1
    go zero is b there rest = omega (arith, is, rest)
    go (suc a) is zero there rest = omega (arith, there, once_at_most k s.receipts rise.0)
    go (suc a) is (suc b) there rest =
        let here = told_port k entries first s.receipts h.0 (omega (arith, is)) in
        let later = told_from k entries (first + 1) states h.1 (omega (arith, there)) in
        let same : here.0.port ≡ later.0.port = ap port_in (sym here.1 ∙ later.1) in
        absurd (omega (arith, same, here.2, later.2))

-- where each of so many is at most one and all are as many, each is one
total_most : (n : ℕ) (f : ℕ → ℕ) → ((k : ℕ) → f k ≤ 1) → total n f ≤ n
total_most zero f few = omega arith
total_most (suc n) f few = omega (arith, total_most n f few, few n)

each_one : (n : ℕ) (f : ℕ → ℕ) → ((k : ℕ) → f k ≤ 1) → total n f ≡ n → (k : ℕ) → k < n → f k ≡ 1
each_one zero f few all k h = absurd (omega (arith, h))
each_one (suc n) f few all k h =
    let last : f n ≡ 1 = omega (arith, all, few n, total_most n f few) in
    let rest : total n f ≡ n = omega (arith, all, last) in
    go (nat_eq k n) refl last (each_one n f few rest k)
  where
    go : (b : Bool) → nat_eq k n ≡ b → f n ≡ 1 → (k < n → f k ≡ 1) → f k ≡ 1
    go true is last lower =
        let same : k ≡ n = grind (arith, nat_tests) in
        ap f same ∙ last
    go false is last lower =
        let below : k < n = grind (arith, nat_tests) in
        lower below

-- where all stand, and are as many as the journal has entries, each place is told once
pub told_once : (entries : List Entry) (states : List PortState) → AllRise states → EachStands entries 0 states → calls_of states ≡ length entries
    → IsToldOnce entries states
told_once entries states rise stand many =
    let n : ℕ = length entries in
    let all : total n (λ k. told_by k states) ≡ n = total_all n entries 0 states refl stand ∙ many in (
      stand,
      λ k within. each_one n (λ k. told_by k states) (λ k. once_by_all k entries 0 states rise stand) all k within,
    )

pub tell_once : AuditsTellOnce
tell_once h states held used audit rise found = told_once h.entries states rise found.0 found.1.0

-- the ports of two rows
pub rise_both : (xs ys : List PortState) → AllRise xs → AllRise ys → AllRise (xs ++ ys)
rise_both [] ys h k = k
rise_both (x ∷ xs) ys h k = (h.0, rise_both xs ys h.1 k)
