-- Endpoints with the groups that are open for them: what is found there, and what a change of one that leaves its groups does.
use Rattle.std.proofs.Common.{◌≡◌, refl, ap, ap₂, sym, ◌∙◌, ℕ, zero, suc, ◌<◌, false, arith}
use Rattle.std.specs.Prelude.{◌==◌, List, [], ◌∷◌, ◌++◌, length, slice_set, slice_index_or}
use Rattle.std.proofs.lemmas.Bool.Decides.{nat_tests}
use Rattle.sva_model.specs.Words.{tabulate}
use Rattle.sva_model.specs.Wire.{EndpointWire, HostGroupWire}
use Rattle.sva_labels.specs.Finding.{idle}
use Rattle.sva_labels.proofs.Lists.{tabulate_length}
use Rattle.sva_host.specs.Seen.{parts_with}

pub length_with : (groups : ℕ → List HostGroupWire) (parts : List EndpointWire) → length (parts_with groups parts) ≡ length parts
length_with groups [] = refl
length_with groups (p ∷ parts) = ap suc (length_with (λ e. groups (suc e)) parts)

-- What is found.

pub part_with : (groups : ℕ → List HostGroupWire) (parts : List EndpointWire) (e : ℕ) → e < length parts
    → slice_index_or (parts_with groups parts) e idle ≡ record (slice_index_or parts e idle) { host_groups = groups e }
part_with groups [] e there = absurd (omega arith)
part_with groups (p ∷ parts) zero there = refl
part_with groups (p ∷ parts) (suc e) there = part_with (λ k. groups (suc k)) parts e (omega arith)

pub device_with : (groups : ℕ → List HostGroupWire) (parts : List EndpointWire) (e : ℕ)
    → (slice_index_or (parts_with groups parts) e idle).device ≡ (slice_index_or parts e idle).device
device_with groups [] e = refl
device_with groups (p ∷ parts) zero = refl
device_with groups (p ∷ parts) (suc e) = device_with (λ k. groups (suc k)) parts e

pub unit_with : (groups : ℕ → List HostGroupWire) (parts : List EndpointWire) (e : ℕ)
    → (slice_index_or (parts_with groups parts) e idle).unit ≡ (slice_index_or parts e idle).unit
unit_with groups [] e = refl
unit_with groups (p ∷ parts) zero = refl
unit_with groups (p ∷ parts) (suc e) = unit_with (λ k. groups (suc k)) parts e

pub page_queue_with : (groups : ℕ → List HostGroupWire) (parts : List EndpointWire) (e : ℕ)
    → (slice_index_or (parts_with groups parts) e idle).page_queue ≡ (slice_index_or parts e idle).page_queue
page_queue_with groups [] e = refl
page_queue_with groups (p ∷ parts) zero = refl
page_queue_with groups (p ∷ parts) (suc e) = page_queue_with (λ k. groups (suc k)) parts e

-- A change of one of them, in which its groups stay.

abbrev pub LeavesGroups : (EndpointWire → EndpointWire) → Type 0
LeavesGroups change = (p : EndpointWire) (gs : List HostGroupWire) → change (record p { host_groups = gs }) ≡ record (change p) { host_groups = gs }

pub changed_with : (groups : ℕ → List HostGroupWire) (parts : List EndpointWire) (e : ℕ) (change : EndpointWire → EndpointWire) → LeavesGroups change
    → slice_set (parts_with groups parts) e (change (slice_index_or (parts_with groups parts) e idle))
    ≡ parts_with groups (slice_set parts e (change (slice_index_or parts e idle)))
changed_with groups [] e change leaves = refl
changed_with groups (p ∷ parts) zero change leaves = ap (λ q. q ∷ parts_with (λ k. groups (suc k)) parts) (leaves p (groups 0))
changed_with groups (p ∷ parts) (suc e) change leaves =
    ap (λ ps. record p { host_groups = groups 0 } ∷ ps) (changed_with (λ k. groups (suc k)) parts e change leaves)

-- Another one in a place, with other groups there.

same_groups : (groups others : ℕ → List HostGroupWire) (parts : List EndpointWire) → ((k : ℕ) → others k ≡ groups k) → parts_with others parts
    ≡ parts_with groups parts
same_groups groups others parts same = λ i. parts_with (λ k. same k i) parts

pub set_with :
    (groups others : ℕ → List HostGroupWire) (parts : List EndpointWire) (e : ℕ) (p : EndpointWire) → ((k : ℕ) → (k == e) ≡ false → others k ≡ groups k)
    → parts_with others (slice_set parts e p) ≡ slice_set (parts_with groups parts) e (record p { host_groups = others e })
set_with groups others [] e p same = refl
set_with groups others (q ∷ parts) zero p same =
    ap (λ ps. record p { host_groups = others 0 } ∷ ps) (same_groups (λ k. groups (suc k)) (λ k. others (suc k)) parts (λ k. same (suc k) (more k)))
  where
    more : (k : ℕ) → (suc k == 0) ≡ false
    more k = grind (arith, nat_tests)
set_with groups others (q ∷ parts) (suc e) p same =
    ap₂ (λ gs ps. record q { host_groups = gs } ∷ ps) (same 0 less)
    (set_with (λ k. groups (suc k)) (λ k. others (suc k)) parts e p (λ k apart. same (suc k) (more k apart)))
  where
    less : (0 == suc e) ≡ false
    less = grind (arith, nat_tests)

    more : (k : ℕ) → (k == e) ≡ false → (suc k == suc e) ≡ false
    more k apart = grind (arith, nat_tests, apart)

-- Endpoints given by their numbers.

more_with : (groups : ℕ → List HostGroupWire) (parts : List EndpointWire) (p : EndpointWire)
    → parts_with groups (parts ++ p ∷ []) ≡ parts_with groups parts ++ record p { host_groups = groups (length parts) } ∷ []
more_with groups [] p = refl
more_with groups (q ∷ parts) p = ap (λ ps. record q { host_groups = groups 0 } ∷ ps) (more_with (λ e. groups (suc e)) parts p)

pub tabulated_with : (groups : ℕ → List HostGroupWire) (n : ℕ) (part : ℕ → EndpointWire)
    → parts_with groups (tabulate n part) ≡ tabulate n (λ e. record (part e) { host_groups = groups e })
unfolding tabulate
tabulated_with groups zero part = refl
tabulated_with groups (suc n) part =
    more_with groups (tabulate n part) (part n)
    ∙ (λ i. tabulated_with groups n part i ++ record (part n) { host_groups = groups (tabulate_length n part i) } ∷ [])

-- No groups but those that are there.

pub with_own : (n : ℕ) (part : EndpointWire) → part.host_groups ≡ [] → parts_with (λ e. []) (tabulate n (λ e. part)) ≡ tabulate n (λ e. part)
with_own n part none = tabulated_with (λ e. []) n (λ e. part) ∙ (λ i. tabulate n (λ e. record part { host_groups = sym none i }))
