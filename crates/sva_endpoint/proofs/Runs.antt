-- The keys that an invalidation covers are a run in the order of keys.
use Rattle.std.proofs.Common.{◌≡◌, ℕ, ◌+◌, ◌<◌, ◌≤◌, List, [], ◌∷◌, length, suc, sym, ◌∙◌, ap, refl, subst, cond, true, false, not, Bool, ◌||◌, ◌&&◌, eqb}
use Rattle.std.proofs.Common.{arith}
use Rattle.std.specs.Prelude.{T, nat_lt, nat_le}
use Rattle.std.proofs.Math.Path.{fun_ext}
use Rattle.std.proofs.lemmas.Bool.Decides.{nat_tests}
use Rattle.std.proofs.lemmas.Nat.{pow_pos}
use Rattle.sva_model.specs.Range.{pages_in}
use Rattle.std.specs.declared.cmp.Ordering.{Ordering}
use Rattle.std.specs.declared.cmp.Ordering.TheVariants.{Less, Equal, Greater}
use Rattle.std.specs.Ordering.{is_lt, ordering_then}
use Rattle.std.specs.FinMap as finite
use Rattle.std.specs.FinMap.{is_sorted}
use Rattle.std.specs.FinMap.Entries.{where_key}
use Rattle.std.specs.List.{remove_range}
use Rattle.sva_endpoint.specs.declared.cached.Translation.{Translation}
use Rattle.sva_msg.specs.declared.extents.Extent.{Extent}
use Rattle.sva_msg.specs.declared.extents.Extent.TheVariants.{Pages, All}
use Rattle.sva_endpoint.specs.declared.coverage.Invalidation.{Invalidation}
use Rattle.sva_endpoint.specs.Coverage.{covers, is_within, first_key, first_key_of, end_key, end_key_of}
use Rattle.sva_endpoint.specs.Cache.{Key, Translations, key_cmp, key_cmp_total, smaller_first, place_of, without_covered}
use Rattle.sva_endpoint.proofs.CachePlaces.{is_in_run, outside, place_le, place_rises, cut_run}
use Rattle.sva_endpoint.proofs.Search.{place_is}
use Rattle.sva_endpoint.proofs.Edits.{kept}

-- what is smaller, by tests of the numbers
smaller_by : (a b : Bool) (c d : Bool) → is_lt (ordering_then (cond a Less (cond b Equal Greater)) (cond c Less (cond d Equal Greater))) ≡ (a || (b && c))
smaller_by true b c d = refl
smaller_by false true true d = refl
smaller_by false true false true = refl
smaller_by false true false false = refl
smaller_by false false c d = refl

smaller : (k m : Key) → is_lt (key_cmp k m) ≡ (nat_lt k.0 m.0 || (eqb k.0 m.0 && nat_lt k.1 m.1))
smaller k m = smaller_by (nat_lt k.0 m.0) (eqb k.0 m.0) (nat_lt k.1 m.1) (eqb k.1 m.1)

pages_run : (p q pasid base end : ℕ)
    → (not (nat_lt p pasid || (eqb p pasid && nat_lt q base)) && (nat_lt p pasid || (eqb p pasid && nat_lt q end)))
    ≡ (eqb pasid p && (nat_le base q && nat_lt q end))
pages_run p q pasid base end = grind (arith, nat_tests)

all_run : (p q pasid : ℕ)
    → (not (nat_lt p pasid || (eqb p pasid && nat_lt q 0)) && (nat_lt p (pasid + 1) || (eqb p (pasid + 1) && nat_lt q 0))) ≡ (eqb pasid p && true)
all_run p q pasid = grind (arith, nat_tests)

in_run : (pasid : ℕ) (extent : Extent) (k : Key) → is_in_run key_cmp (first_key_of pasid extent) (end_key_of pasid extent) k
    ≡ (eqb pasid k.0 && is_within extent k.1)
in_run pasid (Pages range) k =
    let a : Key = (pasid, range.base) in
    let b : Key = (pasid, range.base + pages_in range) in
    ap (λ t. not t && is_lt (key_cmp k b)) (smaller k a) ∙ ap (λ t. not (nat_lt k.0 pasid || (eqb k.0 pasid && nat_lt k.1 range.base)) && t) (smaller k b)
    ∙ pages_run k.0 k.1 pasid range.base (range.base + pages_in range)
in_run pasid All k =
    let a : Key = (pasid, 0) in
    let b : Key = (pasid + 1, 0) in
    ap (λ t. not t && is_lt (key_cmp k b)) (smaller k a) ∙ ap (λ t. not (nat_lt k.0 pasid || (eqb k.0 pasid && nat_lt k.1 0)) && t) (smaller k b)
    ∙ all_run k.0 k.1 pasid

less_from : (r : Ordering) → is_lt r ≡ true → r ≡ Less
less_from Less is = refl
less_from Equal is = absurd (cc)
less_from Greater is = absurd (cc)

same_pasid : (pasid from end : ℕ) → from < end → (nat_lt pasid pasid || (eqb pasid pasid && nat_lt from end)) ≡ true
same_pasid pasid from end below = grind (arith, nat_tests)

next_pasid : (pasid : ℕ) → (nat_lt pasid (pasid + 1) || (eqb pasid (pasid + 1) && nat_lt 0 0)) ≡ true
next_pasid pasid = grind (arith, nat_tests)

-- the run begins before it ends
begins_first : (pasid : ℕ) (extent : Extent) → key_cmp (first_key_of pasid extent) (end_key_of pasid extent) ≡ Less
begins_first pasid (Pages range) =
    let some = pow_pos range.order in
    less_from _ (smaller (pasid, range.base) (pasid, range.base + pages_in range) ∙ same_pasid pasid range.base (range.base + pages_in range) (omega arith))
begins_first pasid All = less_from _ (smaller (pasid, 0) (pasid + 1, 0) ∙ next_pasid pasid)

fewer : {X : Type 0} (b : Bool) (x : X) (xs : List X) (n : ℕ) → length xs ≤ n → length (cond b (x ∷ xs) xs) ≤ suc n
fewer true x xs n h = omega arith
fewer false x xs n h = omega arith

pub length-where_key-le : (p : Key → Bool) (es : List (Key × Translation)) → length (where_key key_cmp p es) ≤ length es
length-where_key-le p [] = omega arith
length-where_key-le p (e ∷ es) = fewer (p e.0) e (where_key key_cmp p es) (length es) (length-where_key-le p es)

module _ (items : List (Key × Translation)) (cache : Translations) (sorted : T (is_sorted key_cmp items)) (seen : finite.from_sorted items ≡ cache)
    (invalidation : Invalidation) where
  pub run_rises : place_of cache (first_key invalidation) ≤ place_of cache (end_key invalidation)
  run_rises =
      let rises = place_rises key_cmp_total (first_key invalidation) (end_key invalidation) items (begins_first invalidation.pasid invalidation.extent) in
      let first = place_is items cache sorted seen (first_key invalidation) in
      let last = place_is items cache sorted seen (end_key invalidation) in
      omega arith

  pub run_within : place_of cache (end_key invalidation) ≤ length items
  run_within =
      let last = place_is items cache sorted seen (end_key invalidation) in
      let within = place_le key_cmp_total (end_key invalidation) items in
      omega arith

  -- without the run is without what is covered
  pub run_cut : (new : List (Key × Translation)) → new ≡ remove_range items (place_of cache (first_key invalidation)) (place_of cache (end_key invalidation))
      → T (is_sorted key_cmp new) × (length new ≤ length items) × (finite.from_sorted new ≡ without_covered invalidation cache)
  run_cut new is =
      let p = λ (key : Key). not (covers invalidation key.0 key.1) in
      let same : outside key_cmp (first_key invalidation) (end_key invalidation) ≡ p =
      fun_ext (λ k. ap not (in_run invalidation.pasid invalidation.extent k)) in
      let cut : new ≡ where_key key_cmp p items =
      is ∙ ap (λ (n : ℕ). remove_range items n (place_of cache (end_key invalidation))) (place_is items cache sorted seen (first_key invalidation))
      ∙ ap (remove_range items (smaller_first key_cmp (first_key invalidation) items)) (place_is items cache sorted seen (end_key invalidation))
      ∙ cut_run key_cmp_total (first_key invalidation) (end_key invalidation) items (begins_first invalidation.pasid invalidation.extent) sorted
      ∙ ap (λ t. where_key key_cmp t items) same in
      let left = kept items cache sorted seen new p cut in
      (left.0, subst (λ es. length es ≤ length items) (sym cut) (length-where_key-le p items), left.1)
