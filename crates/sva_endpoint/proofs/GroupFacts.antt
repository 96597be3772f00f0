-- Facts on groups of page requests.
use Rattle.std.proofs.Common.{◌≡◌, ℕ, zero, suc, ◌+◌, ◌<◌, ◌≤◌, length, set, replicate, Some, None, arith, List, [], ◌∷◌, map, sym, ◌∙◌, subst, ap, get_or}
use Rattle.std.proofs.Common.{not, refl, cond, true, false, Bool, eqb}
use Rattle.std.specs.List.{position, position_or_len}
use Rattle.std.specs.Prelude.{nat_lt}
use Rattle.std.proofs.lemmas.List.Sums.{sum_by-cons}
use Rattle.std.proofs.lemmas.List.Quantifiers.{position-Some}
use Rattle.std.proofs.lemmas.Bool.{ltb-false}
use Rattle.std.proofs.lemmas.Bool.Decides.{nat_tests}
use Rattle.std.proofs.Math.ListN.{length-set}
use Rattle.arrayvec.specs.ArrayVec.{ArrayVec, with_items}
use Rattle.arrayvec.proofs.ArrayVecLemmas.{items-with_items}
use Rattle.sva_endpoint.specs.declared.groups.GroupPlace.{GroupPlace}
use Rattle.sva_endpoint.specs.declared.groups.GroupPlace.TheVariants.{Free, Collecting, Out, Stale}
use Rattle.sva_endpoint.specs.Groups.{is_free, requests_of, outstanding, stale_of, group_of, with_request, HaveRequests}

requests_of-cond : (b : Bool) (pasid requests : ℕ) → requests_of (cond b (Stale pasid requests) (Out pasid requests)) ≡ requests
requests_of-cond true pasid requests = refl
requests_of-cond false pasid requests = refl

requests_of-stale_of : (pasid : ℕ) (place : GroupPlace) → requests_of (stale_of pasid place) ≡ requests_of place
requests_of-stale_of pasid Free = refl
requests_of-stale_of pasid (Collecting sender requests) = refl
requests_of-stale_of pasid (Out sender requests) = requests_of-cond (eqb sender pasid) sender requests
requests_of-stale_of pasid (Stale sender requests) = refl

-- groups that become stale keep their requests
pub outstanding-stale_of : (pasid : ℕ) (groups : List GroupPlace) → outstanding (map (stale_of pasid) groups) ≡ outstanding groups
outstanding-stale_of pasid [] = refl
outstanding-stale_of pasid (place ∷ groups) =
    sum_by-cons requests_of (stale_of pasid place) (map (stale_of pasid) groups)
    ∙ (λ i. requests_of-stale_of pasid place i + outstanding-stale_of pasid groups i)
    ∙ sym (sum_by-cons requests_of place groups)

-- ---- each group has a request

pub HaveRequests-replicate : (n : ℕ) → HaveRequests (replicate n Free)
HaveRequests-replicate zero = tt
HaveRequests-replicate (suc n) = ((λ wrong. absurd (cc)), HaveRequests-replicate n)

pub HaveRequests-set : (groups : List GroupPlace) (i : ℕ) (place : GroupPlace) → HaveRequests groups
    → (is_free place ≡ false → 0 < requests_of place) → HaveRequests (set groups i place)
HaveRequests-set [] i place have here = tt
HaveRequests-set (group ∷ groups) zero place have here = (here, have.1)
HaveRequests-set (group ∷ groups) (suc i) place have here = (have.0, HaveRequests-set groups i place have.1 here)

-- the same of a table that is written through the slice of its places
pub HaveRequests-written : (table : ArrayVec GroupPlace) (groups : List GroupPlace) (i : ℕ) (place : GroupPlace) → groups ≡ table.items
    → HaveRequests table.items
    → (is_free place ≡ false → 0 < requests_of place) → HaveRequests (with_items table (set groups i place)).items
HaveRequests-written table groups i place same have here =
    subst HaveRequests (sym (items-with_items table (set groups i place) (length-set groups i place ∙ ap length same)))
    (HaveRequests-set groups i place (subst HaveRequests (sym same) have) here)

is_free-cond : (b : Bool) (pasid requests : ℕ) → is_free (cond b (Stale pasid requests) (Out pasid requests)) ≡ false
is_free-cond true pasid requests = refl
is_free-cond false pasid requests = refl

is_free-stale_of : (pasid : ℕ) (place : GroupPlace) → is_free (stale_of pasid place) ≡ is_free place
is_free-stale_of pasid Free = refl
is_free-stale_of pasid (Collecting sender requests) = refl
is_free-stale_of pasid (Out sender requests) = is_free-cond (eqb sender pasid) sender requests
is_free-stale_of pasid (Stale sender requests) = refl

pub HaveRequests-stale_of : (pasid : ℕ) (groups : List GroupPlace) → HaveRequests groups → HaveRequests (map (stale_of pasid) groups)
HaveRequests-stale_of pasid [] have = tt
HaveRequests-stale_of pasid (group ∷ groups) have = (
  (λ taken. subst (λ (n : ℕ). 0 < n) (sym (requests_of-stale_of pasid group)) (have.0 (sym (is_free-stale_of pasid group) ∙ taken))),
  HaveRequests-stale_of pasid groups have.1,
)

pub HaveRequests-at : (groups : List GroupPlace) (i : ℕ) → HaveRequests groups → is_free (get_or groups i Free) ≡ false → 0
    < requests_of (get_or groups i Free)
HaveRequests-at [] i have taken = absurd (cc)
HaveRequests-at (group ∷ groups) zero have taken = have.0 taken
HaveRequests-at (group ∷ groups) (suc i) have taken = HaveRequests-at groups i have.1 taken

pub requests_of-group_of : (pasid requests : ℕ) (last : Bool) → requests_of (group_of pasid requests last) ≡ requests
requests_of-group_of pasid requests true = refl
requests_of-group_of pasid requests false = refl

pub requests_of-with_request : (last : Bool) (place : GroupPlace) → (is_free place ≡ false → 0 < requests_of place)
    → is_free (with_request last place) ≡ false → 0 < requests_of (with_request last place)
requests_of-with_request last Free have taken = have taken
requests_of-with_request last (Collecting pasid requests) have taken = rw (requests_of-group_of pasid (requests + 1) last) (omega arith)
requests_of-with_request last (Out pasid requests) have taken = have taken
requests_of-with_request last (Stale pasid requests) have taken = have taken

requests_of-free : (place : GroupPlace) → is_free place ≡ true → requests_of place ≡ 0
requests_of-free Free is = refl
requests_of-free (Collecting pasid requests) is = absurd (cc)
requests_of-free (Out pasid requests) is = absurd (cc)
requests_of-free (Stale pasid requests) is = absurd (cc)

-- a lowest free index that is one of the table's is found there
pub lowest_found : (groups : List GroupPlace) (i : ℕ) → i ≡ position_or_len is_free groups → i < length groups → position is_free groups ≡ Some i
lowest_found groups i is within =
    let at = position_or_len is_free groups in
    let there : nat_lt at (length groups) ≡ true = ap (λ (k : ℕ). nat_lt k (length groups)) (sym is) ∙ true_if i (length groups) within in
    ap (λ (b : Bool). cond b (Some at) None) there ∙ ap (λ (k : ℕ). Some k) (sym is)
  where
    true_if : (a b : ℕ) → a < b → nat_lt a b ≡ true
    true_if a b less = grind (arith, nat_tests)

-- the lowest free index has no requests
pub requests_of-lowest : (groups : List GroupPlace) (i : ℕ) → position is_free groups ≡ Some i → requests_of (get_or groups i Free) ≡ 0
requests_of-lowest groups i is = requests_of-free (get_or groups i Free) (position-Some is_free groups i Free is).1

-- without a free index there is a request for each
all_taken : (groups : List GroupPlace) → HaveRequests groups → length groups ≤ position_or_len is_free groups → length groups ≤ outstanding groups
all_taken [] have none = omega arith
all_taken (group ∷ groups) have none = by (is_free group) refl none (λ less. all_taken groups have.1 less)
  where
    by : (b : Bool) → is_free group ≡ b → suc (length groups) ≤ cond (not b) (1 + position_or_len is_free groups) 0
        → (length groups ≤ position_or_len is_free groups → length groups ≤ outstanding groups) → suc (length groups) ≤ outstanding (group ∷ groups)
    by true is few rest = let wrong : suc (length groups) ≤ 0 = few in absurd (omega arith)
    by false is few rest =
        let less : suc (length groups) ≤ 1 + position_or_len is_free groups = few in
        let one = have.0 is in
        let others = rest (omega arith) in
        let sum = sum_by-cons requests_of group groups in
        rw sum (omega arith)

none_found : (b : Bool) (i : ℕ) → cond b (Some i) None ≡ None → b ≡ false
none_found true i is = absurd (cc)
none_found false i is = refl

pub index_with_credit : (groups : List GroupPlace) → HaveRequests groups → length groups ≡ 32 → outstanding groups < 32 → position is_free groups ≡ None → ⊥
index_with_credit groups have long credit none =
    let past : length groups ≤ position_or_len is_free groups =
    ltb-false (position_or_len is_free groups) (length groups)
    (none_found (nat_lt (position_or_len is_free groups) (length groups)) (position_or_len is_free groups) none) in
    let many = all_taken groups have past in
    absurd (omega arith)
