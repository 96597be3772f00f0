-- What endpoints see of their units weighs once for each unit: whatever an act leaves there of one endpoint, and tells the others, weighs
-- more or less by that alone.
use Rattle.std.proofs.Common.{◌≡◌, ◌∙◌, ℕ, zero, suc, ◌+◌, ◌-◌, ◌≤◌, Bool, true, false, Option, Some, None, List, [], ◌∷◌, map}
use Rattle.std.proofs.Common.{refl, ap, sym, subst, arith, rules}
use Rattle.std.proofs.lemmas.Bool.{eqb-true, false_from_ne_true}
use Rattle.std.proofs.lemmas.Option.{same_Some, slice_get-map}
use Rattle.std.specs.Prelude.{⊤, ◌==◌, ◌&&◌, ◌||◌, not, if◌then◌else◌, max, option_map, slice_get, slice_set, sum_by}
use Rattle.sva_open.specs.declared.acts.LocalAct.{LocalAct}
use Rattle.sva_open.specs.declared.descriptors.Descriptor.{Descriptor}
use Rattle.sva_open.specs.declared.descriptors.Descriptor.TheVariants as descriptor
use Rattle.sva_open.specs.Below.{closes, is_beside, is_one, left, left_at, seen, struck, taken_by, unfiled}
use Rattle.sva_open.specs.Devices.{highest}
use Rattle.sva_open.specs.Units.{is_no_entry_of}
use Rattle.sva_open.specs.World.{Part, is_left}
use Rattle.sva_open_laws.specs.Weights.{AreNumbered, entry_weight, own_weight, translation_weight, unit_weight, units_weight, weight_below}
use Rattle.sva_open_laws.proofs.OneUnit.{in_own, left_named, numbered_set, same_unit, set_here}
use Rattle.sva_open_laws.proofs.Weighed.{changed, left_in, put_in}

-- ---- which stand below the unit of an endpoint, and which is that itself

abbrev is_kin : (units : List ℕ) → (endpoint other : ℕ) → Bool
is_kin units endpoint other = (other == endpoint) || is_beside units endpoint other

either_way : (p q one other : Bool) → one ≡ other → (p ≡ true → other ≡ true) → (q ≡ true → one ≡ true)
    → p || (not p && one) ≡ q || (not q && other)
either_way true true one other same h k = refl
either_way true false one other same h k = sym (h refl)
either_way false true one other same h k = k refl
either_way false false one other same h k = same

is_itself : (units : List ℕ) (endpoint : ℕ) → is_kin units endpoint endpoint ≡ true
is_itself units endpoint = ap (λ b. b || is_beside units endpoint endpoint) (same endpoint)
  where
    same : (n : ℕ) → (n == n) ≡ true
    same n = search rules

-- kin of one are kin of each other
same_kin : (units : List ℕ) (one other : ℕ) → is_kin units one other ≡ true → (third : ℕ) → is_kin units one third ≡ is_kin units other third
same_kin units one other h third = by (other == one) refl h
  where
    by : (b : Bool) → (other == one) ≡ b → b || (not b && is_one (slice_get units one) (slice_get units other)) ≡ true
        → is_kin units one third ≡ is_kin units other third
    by true is k = ap (λ n. is_kin units n third) (sym (eqb-true other one is))
    by false is k =
        let same : slice_get units one ≡ slice_get units other = same_unit (slice_get units one) (slice_get units other) k in
        let back : is_one (slice_get units other) (slice_get units one) ≡ true =
        ap (λ (o : Option ℕ). is_one o (slice_get units one)) (sym same) ∙ (in_own (slice_get units one) (slice_get units other) k).0 in
        either_way (third == one) (third == other) (is_one (slice_get units one) (slice_get units third))
        (is_one (slice_get units other) (slice_get units third)) (ap (λ (o : Option ℕ). is_one o (slice_get units third)) same)
        (λ so. ap (λ n. is_one (slice_get units other) (slice_get units n)) (eqb-true third one so) ∙ back)
        (λ so. ap (λ n. is_one (slice_get units one) (slice_get units n)) (eqb-true third other so) ∙ k)

-- what is kin of no kin isn't kin
no_kin : (units : List ℕ) (one other third : ℕ) → is_kin units one other ≡ false → is_kin units other third ≡ true
    → is_kin units one third ≡ false
no_kin units one other third apart h = false_from_ne_true (is_kin units one third) (λ is.
    never (is_kin units one other) apart
    (same_kin units one third is other ∙ sym (same_kin units other third h other) ∙ is_itself units other))
  where
    never : (b : Bool) → b ≡ false → b ≡ true → ⊥
    never true h k = cc h
    never false h k = cc k

-- ---- the highest of a list

highest_by : (f g : Part → ℕ) → ((x : Part) → f x ≡ g x) → (xs : List Part) → highest f xs ≡ highest g xs
highest_by f g h [] = refl
highest_by f g h (x ∷ xs) = λ i. max (h x i) (highest_by f g h xs i)

highest_set : (f : Part → ℕ) (xs : List Part) (k : ℕ) (x y : Part) → slice_get xs k ≡ Some x → f y ≡ f x
    → highest f (slice_set xs k y) ≡ highest f xs
highest_set f [] k x y h same = absurd (cc)
highest_set f (z ∷ xs) zero x y h same =
    let so : f y ≡ f z = same ∙ ap f (sym (same_Some z x h)) in
    ap (λ n. max n (highest f xs)) so
highest_set f (z ∷ xs) (suc k) x y h same = ap (λ n. max (f z) n) (highest_set f xs k x y h same)

highest_at : (f : Part → ℕ) (xs : List Part) (k : ℕ) (x : Part) → slice_get xs k ≡ Some x → f x ≤ highest f xs
highest_at f [] k x h = absurd (cc)
highest_at f (z ∷ xs) zero x h =
    let same : f z ≡ f x = ap f (same_Some z x h) in
    omega (arith, same)
highest_at f (z ∷ xs) (suc k) x h =
    let rest = highest_at f xs k x h in
    omega (arith, rest)

highest_most : (f : Part → ℕ) (n : ℕ) (xs : List Part) → ((k : ℕ) (x : Part) → slice_get xs k ≡ Some x → f x ≤ n) → highest f xs ≤ n
highest_most f n [] h = omega arith
highest_most f n (x ∷ xs) h =
    let one = h 0 x refl in
    let rest = highest_most f n xs (λ k y is. h (suc k) y is) in
    omega (arith, one, rest)

-- ---- what an act leaves, one endpoint after another

-- it is the same endpoint, and sees what weighs the same, unless it is kin
abbrev IsKept : (units : List ℕ) → (endpoint : ℕ) → (before after : Part) → Type 0
IsKept units endpoint before after =
    (after.endpoint ≡ before.endpoint) × (is_kin units endpoint before.endpoint ≡ false → unit_weight after ≡ unit_weight before)

abbrev AreKept : (units : List ℕ) → (endpoint : ℕ) → (before after : List Part) → Type 0
AreKept units endpoint [] [] = ⊤
AreKept units endpoint [] (y ∷ ys) = ⊥
AreKept units endpoint (x ∷ xs) [] = ⊥
AreKept units endpoint (x ∷ xs) (y ∷ ys) = IsKept units endpoint x y × AreKept units endpoint xs ys

kept_all : (units : List ℕ) (endpoint : ℕ) (xs : List Part) → AreKept units endpoint xs xs
kept_all units endpoint [] = tt
kept_all units endpoint (x ∷ xs) = ((refl, λ apart. refl), kept_all units endpoint xs)

kept_set : (units : List ℕ) (endpoint : ℕ) (xs : List Part) (k : ℕ) (x y : Part) → slice_get xs k ≡ Some x → y.endpoint ≡ x.endpoint
    → is_kin units endpoint x.endpoint ≡ true → AreKept units endpoint xs (slice_set xs k y)
kept_set units endpoint [] k x y h named is = absurd (cc)
kept_set units endpoint (z ∷ xs) zero x y h named is = ((same, λ apart. absurd (never (is_kin units endpoint z.endpoint) apart so)), kept_all units endpoint xs)
  where
    its : z.endpoint ≡ x.endpoint
    its = ap (λ (it : Part). it.endpoint) (same_Some z x h)

    same : y.endpoint ≡ z.endpoint
    same = named ∙ sym its

    so : is_kin units endpoint z.endpoint ≡ true
    so = ap (is_kin units endpoint) its ∙ is

    never : (b : Bool) → b ≡ false → b ≡ true → ⊥
    never true h k = cc h
    never false h k = cc k
kept_set units endpoint (z ∷ xs) (suc k) x y h named is = ((refl, λ apart. refl), kept_set units endpoint xs k x y h named is)

kept_map : (units : List ℕ) (endpoint : ℕ) (g : Part → Part) → ((x : Part) → IsKept units endpoint x (g x)) → (xs : List Part)
    → AreKept units endpoint xs (map g xs)
kept_map units endpoint g h [] = tt
kept_map units endpoint g h (x ∷ xs) = (h x, kept_map units endpoint g h xs)

-- ---- what that is to the weight of all units

weighs_if : (units : List ℕ) (endpoint : ℕ) (x : Part) (b : Bool) → is_kin units endpoint x.endpoint ≡ b
    → weight_below units endpoint x ≡ (if b then unit_weight x else 0)
weighs_if units endpoint x b is = ap (λ (so : Bool). if so then unit_weight x else 0) is

named_below : (units : List ℕ) (endpoint : ℕ) (x y : Part) → y.endpoint ≡ x.endpoint → unit_weight y ≡ unit_weight x
    → weight_below units endpoint y ≡ weight_below units endpoint x
named_below units endpoint x y named same =
    ap (λ (n : ℕ). if is_kin units endpoint n then unit_weight y else 0) named
    ∙ ap (λ (n : ℕ). if is_kin units endpoint x.endpoint then n else 0) same

-- those below another unit have the same
elsewhere : (units : List ℕ) (endpoint other : ℕ) (xs ys : List Part) → AreKept units endpoint xs ys → is_kin units endpoint other ≡ false
    → highest (weight_below units other) ys ≡ highest (weight_below units other) xs
elsewhere units endpoint other [] [] h apart = refl
elsewhere units endpoint other [] (y ∷ ys) h apart = absurd h
elsewhere units endpoint other (x ∷ xs) [] h apart = absurd h
elsewhere units endpoint other (x ∷ xs) (y ∷ ys) h apart =
    λ i. max (one i) (elsewhere units endpoint other xs ys h.1 apart i)
  where
    by : (b : Bool) → is_kin units other x.endpoint ≡ b → (if b then unit_weight y else 0) ≡ (if b then unit_weight x else 0)
    by true is = h.0.1 (no_kin units endpoint other x.endpoint apart is)
    by false is = refl

    one : weight_below units other y ≡ weight_below units other x
    one = ap (λ (n : ℕ). if is_kin units other n then unit_weight y else 0) h.0.0 ∙ by (is_kin units other x.endpoint) refl

among : (a b m n u v : ℕ) → v + m ≡ u + n → (b - n + v) + max a m ≡ (a - m + u) + max b n
among a b m n u v h = omega (arith, h)

apart_from : (a m n u v : ℕ) → v + m ≡ u + n → (a + v) + max 0 m ≡ (a + u) + max 0 n
apart_from a m n u v h = omega (arith, h)

-- All units together weigh more or less as the highest of what kin see does.
once : (units : List ℕ) (endpoint : ℕ) (xs ys : List Part) → AreKept units endpoint xs ys
    → units_weight units ys + highest (weight_below units endpoint) xs ≡ units_weight units xs + highest (weight_below units endpoint) ys
once units endpoint [] [] h = refl
once units endpoint [] (y ∷ ys) h = absurd h
once units endpoint (x ∷ xs) [] h = absurd h
once units endpoint (x ∷ xs) (y ∷ ys) h = by (is_kin units endpoint x.endpoint) refl (once units endpoint xs ys h.1)
  where
    its : (b : Bool) → is_kin units endpoint x.endpoint ≡ b → weight_below units endpoint x ≡ (if b then unit_weight x else 0)
    its b is = weighs_if units endpoint x b is

    their : (b : Bool) → is_kin units endpoint x.endpoint ≡ b → weight_below units endpoint y ≡ (if b then unit_weight y else 0)
    their b is = weighs_if units endpoint y b (ap (is_kin units endpoint) h.0.0 ∙ is)

    by_kin : is_kin units endpoint x.endpoint ≡ true → (z : Part) → weight_below units x.endpoint z ≡ weight_below units endpoint z
    by_kin is z = ap (λ (b : Bool). if b then unit_weight z else 0) (sym (same_kin units endpoint x.endpoint is z.endpoint))

    by : (b : Bool) → is_kin units endpoint x.endpoint ≡ b
        → units_weight units ys + highest (weight_below units endpoint) xs ≡ units_weight units xs + highest (weight_below units endpoint) ys
        → units_weight units (y ∷ ys) + highest (weight_below units endpoint) (x ∷ xs)
        ≡ units_weight units (x ∷ xs) + highest (weight_below units endpoint) (y ∷ ys)
    by true is rest =
        let before = highest_by (weight_below units x.endpoint) (weight_below units endpoint) (by_kin is) xs in
        let after : highest (weight_below units y.endpoint) ys ≡ highest (weight_below units endpoint) ys =
        ap (λ n. highest (weight_below units n) ys) h.0.0
        ∙ highest_by (weight_below units x.endpoint) (weight_below units endpoint) (by_kin is) ys in
        (λ i. (unit_weight y - after i + units_weight units ys) + max (its true is i) (highest (weight_below units endpoint) xs))
        ∙ among (unit_weight x) (unit_weight y) (highest (weight_below units endpoint) xs) (highest (weight_below units endpoint) ys)
        (units_weight units xs) (units_weight units ys) rest
        ∙ sym (λ i. (unit_weight x - before i + units_weight units xs) + max (their true is i) (highest (weight_below units endpoint) ys))
    by false is rest =
        let same : highest (weight_below units y.endpoint) ys ≡ highest (weight_below units x.endpoint) xs =
        ap (λ n. highest (weight_below units n) ys) h.0.0 ∙ elsewhere units endpoint x.endpoint xs ys h.1 is in
        (λ i. (h.0.1 is i - same i + units_weight units ys) + max (its false is i) (highest (weight_below units endpoint) xs))
        ∙ apart_from (unit_weight x - highest (weight_below units x.endpoint) xs) (highest (weight_below units endpoint) xs)
        (highest (weight_below units endpoint) ys) (units_weight units xs) (units_weight units ys) rest
        ∙ sym (λ i. (unit_weight x - highest (weight_below units x.endpoint) xs + units_weight units xs)
        + max (their false is i) (highest (weight_below units endpoint) ys))

-- ---- an act that isn't of the unit: what is seen of that weighs the same

pub quiet : (units : List ℕ) (parts : List Part) (at : ℕ) (part after : Part) → slice_get parts at ≡ Some part
    → after.endpoint ≡ part.endpoint → unit_weight after ≡ unit_weight part → units_weight units (slice_set parts at after) ≡ units_weight units parts
quiet units [] at part after h named same = absurd (cc)
quiet units (x ∷ xs) zero part after h named same =
    let is = same_Some x part h in
    let number : after.endpoint ≡ x.endpoint = named ∙ ap (λ (it : Part). it.endpoint) (sym is) in
    let weight : unit_weight after ≡ unit_weight x = same ∙ ap unit_weight (sym is) in
    λ i. (weight i - highest (weight_below units (number i)) xs) + units_weight units xs
quiet units (x ∷ xs) (suc at) part after h named same =
    let rest = quiet units xs at part after h named same in
    let seen_there = highest_set (weight_below units x.endpoint) xs at part after h (named_below units x.endpoint part after named same) in
    λ i. (unit_weight x - seen_there i) + rest i

-- ---- an act of the unit, which the others see

-- what is left of another endpoint sees what the act's own one does, and weighs no more besides
told_sees : (own : LocalAct) (head : Option Descriptor) (after part : Part) → unit_weight (left own head after part) ≡ unit_weight after
told_sees own head after part = unfiled_sees (closes own) _ ∙ struck_sees (taken_by own head) (seen after part)
  where
    struck_sees : (head : Option Descriptor) (part : Part) → unit_weight (struck head part) ≡ unit_weight part
    struck_sees None part = refl
    struck_sees (Some (descriptor.Device endpoint scope)) part = refl
    struck_sees (Some (descriptor.Translations (Some endpoint) scope)) part = refl
    struck_sees (Some (descriptor.Translations None scope)) part = refl
    struck_sees (Some (descriptor.Entry (Some endpoint) pasid)) part = refl
    struck_sees (Some (descriptor.Entry None pasid)) part = refl
    struck_sees (Some (descriptor.Wait name drain fence)) part = refl
    struck_sees (Some (descriptor.Out itag)) part = refl

    unfiled_sees : (b : Bool) (part : Part) → unit_weight (unfiled b part) ≡ unit_weight part
    unfiled_sees true part = refl
    unfiled_sees false part = refl

told_less : (own : LocalAct) (head : Option Descriptor) (after part : Part) → own_weight (left own head after part) ≤ own_weight part
told_less own head after part =
    let filed = unfiled_less (closes own) (struck (taken_by own head) (seen after part)) in
    let kept = struck_less (taken_by own head) (seen after part) in
    omega (arith, filed, kept)
  where
    struck_less : (head : Option Descriptor) (part : Part) → own_weight (struck head part) ≤ own_weight part
    struck_less None part = omega arith
    struck_less (Some (descriptor.Device endpoint scope)) part = omega arith
    struck_less (Some (descriptor.Translations (Some endpoint) scope)) part = omega arith
    struck_less (Some (descriptor.Translations None scope)) part =
        let less = left_in translation_weight (is_left scope) part.kept in
        omega (arith, less)
    struck_less (Some (descriptor.Entry (Some endpoint) pasid)) part = omega arith
    struck_less (Some (descriptor.Entry None pasid)) part =
        let less = left_in entry_weight (is_no_entry_of pasid) part.kept_entries in
        omega (arith, less)
    struck_less (Some (descriptor.Wait name drain fence)) part = omega arith
    struck_less (Some (descriptor.Out itag)) part = omega arith

    unfiled_less : (b : Bool) (part : Part) → own_weight (unfiled b part) ≤ own_weight part
    unfiled_less true part = omega arith
    unfiled_less false part = omega arith

module _ (units : List ℕ) (at : ℕ) (own : LocalAct) (head : Option Descriptor) (after : Part) where
  told_named : (part : Part) → (left_at units at own head after part).endpoint ≡ part.endpoint
  told_named part = by (is_beside units at part.endpoint)
    where
      by : (b : Bool) → (if b then left own head after part else part).endpoint ≡ part.endpoint
      by true = left_named own head after part
      by false = refl

  at_less : (part : Part) → own_weight (left_at units at own head after part) ≤ own_weight part
  at_less part = by (is_beside units at part.endpoint)
    where
      by : (b : Bool) → own_weight (if b then left own head after part else part) ≤ own_weight part
      by true = told_less own head after part
      by false = omega arith

  -- what an endpoint has that isn't kin stays
  stays : (part : Part) → is_kin units at part.endpoint ≡ false → unit_weight (left_at units at own head after part) ≡ unit_weight part
  stays part apart = by (part.endpoint == at) (is_beside units at part.endpoint) apart
    where
      by : (a b : Bool) → a || b ≡ false → unit_weight (if b then left own head after part else part) ≡ unit_weight part
      by true b h = absurd (cc h)
      by false true h = absurd (cc h)
      by false false h = refl

  -- and kin see what the act's own endpoint does
  sees_it : (part : Part) → (part.endpoint ≡ at → part ≡ after) → weight_below units at (left_at units at own head after part) ≤ unit_weight after
  sees_it part is =
      subst (λ n. (if is_kin units at n then unit_weight (left_at units at own head after part) else 0) ≤ unit_weight after) (sym (told_named part))
      (by (part.endpoint == at) (is_beside units at part.endpoint) (λ so. is (eqb-true part.endpoint at so)))
    where
      by : (a b : Bool) → (a ≡ true → part ≡ after)
          → (if a || b then unit_weight (if b then left own head after part else part) else 0) ≤ unit_weight after
      by true true so =
          let same = told_sees own head after part in
          omega (arith, same)
      by true false so =
          let same = ap unit_weight (so refl) in
          omega (arith, same)
      by false true so =
          let same = told_sees own head after part in
          omega (arith, same)
      by false false so = omega arith

  -- each endpoint that is told something stood there before
  was : (parts : List Part) (k : ℕ) (x : Part) → slice_get (map (left_at units at own head after) parts) k ≡ Some x
      → (part : Part) × (slice_get parts k ≡ Some part) × (left_at units at own head after part ≡ x)
  was parts k x h = pick (slice_get parts k) refl (sym (slice_get-map (left_at units at own head after) parts k) ∙ h)
    where
      pick : (o : Option Part) → slice_get parts k ≡ o → option_map (left_at units at own head after) o ≡ Some x
          → (part : Part) × (slice_get parts k ≡ Some part) × (left_at units at own head after part ≡ x)
      pick None there is = absurd (cc is)
      pick (Some part) there is = (part, there, same_Some _ x is)

  module _ (parts : List Part) (part : Part) (h : AreNumbered parts) (found : slice_get parts at ≡ Some part)
      (named : after.endpoint ≡ part.endpoint) where
    numbered : AreNumbered (slice_set parts at after)
    numbered = numbered_set parts at part after h found named

    pub told_numbered : AreNumbered (map (left_at units at own head after) (slice_set parts at after))
    told_numbered k x is =
        let its = was (slice_set parts at after) k x is in
        ap (λ (it : Part). it.endpoint) (sym its.2) ∙ told_named its.0 ∙ numbered k its.0 its.1

    -- there the act's own endpoint stands
    at_its_place : (k : ℕ) (x : Part) → slice_get (slice_set parts at after) k ≡ Some x → x.endpoint ≡ at → x ≡ after
    at_its_place k x there is =
        same_Some x after (sym there ∙ ap (slice_get (slice_set parts at after)) (sym (numbered k x there) ∙ is) ∙ set_here parts at part after found)

    all_see : (k : ℕ) (x : Part) → slice_get (map (left_at units at own head after) (slice_set parts at after)) k ≡ Some x
        → weight_below units at x ≤ unit_weight after
    all_see k x is =
        let its = was (slice_set parts at after) k x is in
        subst (λ (z : Part). weight_below units at z ≤ unit_weight after) its.2 (sees_it its.0 (at_its_place k its.0 its.1))

    pub told_units : units_weight units (map (left_at units at own head after) (slice_set parts at after)) + unit_weight part
        ≤ units_weight units parts + unit_weight after
    told_units =
        let there = slice_set parts at after in
        let itself : is_kin units at part.endpoint ≡ true = ap (is_kin units at) (h at part found) ∙ is_itself units at in
        let one = once units at parts there (kept_set units at parts at part after found named itself) in
        let others = once units at there (map (left_at units at own head after) there)
        (kept_map units at (left_at units at own head after) (λ x. (told_named x, stays x)) there) in
        let most = highest_most (weight_below units at) (unit_weight after) (map (left_at units at own head after) there) all_see in
        let least = highest_at (weight_below units at) parts at part found in
        let its = weighs_if units at part true itself in
        omega (arith, one, others, most, least, its)

    pub told_own : sum_by own_weight (map (left_at units at own head after) (slice_set parts at after)) + own_weight part
        ≤ sum_by own_weight parts + own_weight after
    told_own =
        let less = changed own_weight own_weight (left_at units at own head after) at_less (slice_set parts at after) in
        let put = put_in own_weight parts at part after found in
        omega (arith, less, put)
