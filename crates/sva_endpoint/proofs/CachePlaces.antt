-- Where a key stands in a list of entries that rises by its keys, and what an edit at that place leaves.
use Rattle.std.proofs.Common.{◌≡◌, ℕ, zero, suc, ◌+◌, ◌<◌, ◌≤◌, List, [], ◌∷◌, length, set, get_or, sym, ◌∙◌, ap, refl, subst, cond, true, false, not}
use Rattle.std.proofs.Common.{Bool, ◌&&◌, Some, None, arith}
use Rattle.std.specs.Prelude.{T}
use Rattle.std.specs.Option.{is_some}
use Rattle.std.specs.List.{insert, remove, remove_range}
use Rattle.std.specs.declared.cmp.Ordering.{Ordering}
use Rattle.std.specs.declared.cmp.Ordering.TheVariants.{Less, Equal, Greater}
use Rattle.std.specs.Ordering.{is_eq, is_lt, ordering_reverse, eq_by_cmp}
use Rattle.std.specs.Cmp.{IsTotalOrder, alike_right}
use Rattle.std.specs.FinMap.{find, put, is_sorted}
use Rattle.std.specs.FinMap.Entries.{below_all, by_order, where_key}
use Rattle.sva_endpoint.specs.Cache.{smaller_first}

both : (a b : Bool) → T a → T b → T (a && b)
both true b p q = q
both false b p q = absurd p

parts : (a b : Bool) → T (a && b) → T a × T b
parts true b p = (tt, p)
parts false b p = absurd p

less_of : (r : Ordering) → T (is_lt r) → r ≡ Less
less_of Less p = refl
less_of Equal p = absurd p
less_of Greater p = absurd p

-- is the key from a on, and below b?
abbrev pub is_in_run : {K : Type 0} → (K → K → Ordering) → (a b k : K) → Bool
is_in_run R a b k = not (is_lt (R k a)) && is_lt (R k b)

abbrev pub outside : {K : Type 0} → (K → K → Ordering) → (a b k : K) → Bool
outside R a b k = not (is_in_run R a b k)

abbrev pub others : {K : Type 0} → (K → K → Ordering) → (q k : K) → Bool
others R q k = not (eq_by_cmp R q k)

turned : {K : Type 0} {R : K → K → Ordering} → IsTotalOrder R → (x y : K) (r : Ordering) → R x y ≡ r → R y x ≡ ordering_reverse r
turned o x y r is = o.antisymm y x ∙ ap ordering_reverse is

module _ {K X : Type 0} {R : K → K → Ordering} (o : IsTotalOrder R) where
  -- what the first entry adds, by how it compares with q
  place_by : (q : K) (e : K × X) (es : List (K × X)) (r : Ordering) → R e.0 q ≡ r
      → smaller_first R q (e ∷ es) ≡ cond (is_lt r) (suc (smaller_first R q es)) zero
  place_by q e es r is = ap (λ s. cond (is_lt s) (suc (smaller_first R q es)) zero) is

  found_by : (q : K) (e : K × X) (es : List (K × X)) (r : Ordering) → R e.0 q ≡ r
      → find R q (e ∷ es) ≡ cond (is_eq (ordering_reverse r)) (Some e.1) (find R q es)
  found_by q e es r is = ap (λ s. cond (is_eq s) (Some e.1) (find R q es)) (turned o e.0 q r is)

  below_more : (x y : K) (es : List (K × X)) → R x y ≡ Less → T (below_all R y es) → T (below_all R x es)
  below_more x y [] less h = tt
  below_more x y (e ∷ es) less h =
      let p = parts (is_lt (R y e.0)) (below_all R y es) h in
      both _ _ (subst (λ r. T (is_lt r)) (sym (o.trans x y e.0 less (less_of _ p.0))) tt) (below_more x y es less p.1)

  -- a key below all isn't found, and stands first
  absent_below : (q : K) (es : List (K × X)) → T (below_all R q es) → find R q es ≡ None
  absent_below q [] h = refl
  absent_below q (e ∷ es) h =
      let p = parts (is_lt (R q e.0)) (below_all R q es) h in
      ap (λ r. cond (is_eq r) (Some e.1) (find R q es)) (less_of _ p.0) ∙ absent_below q es p.1

  -- the entry at a place is above the first
  above_first : (x : K) (es : List (K × X)) (i : ℕ) (d : K × X) → T (below_all R x es) → i < length es → R x (get_or es i d).0 ≡ Less
  above_first x [] i d h within = absurd (omega arith)
  above_first x (e ∷ es) zero d h within = less_of _ (parts (is_lt (R x e.0)) (below_all R x es) h).0
  above_first x (e ∷ es) (suc i) d h within = above_first x es i d (parts (is_lt (R x e.0)) (below_all R x es) h).1 (omega arith)

  pub place_le : (q : K) (es : List (K × X)) → smaller_first R q es ≤ length es
  place_le q [] = omega arith
  place_le q (e ∷ es) = by (is_lt (R e.0 q)) (place_le q es)
    where
      by : (b : Bool) → smaller_first R q es ≤ length es → cond b (suc (smaller_first R q es)) zero ≤ suc (length es)
      by true h = omega arith
      by false h = omega arith

  -- what a comparison with the entry at a place tells of q's own place, by how q compares with it
  pub less_at : (q : K) (es : List (K × X)) (i : ℕ) (d : K × X) → T (is_sorted R es) → i < length es → R q (get_or es i d).0 ≡ Less
      → smaller_first R q es + cond (is_some (find R q es)) 1 0 ≤ i
  less_at q [] i d sorted within less = absurd (omega arith)
  less_at q (e ∷ es) zero d sorted within less =
      let p = parts (below_all R e.0 es) (is_sorted R es) sorted in
      let above = turned o q e.0 Less less in
      let none = found_by q e es Greater above ∙ absent_below q es (below_more q e.0 es less p.0) in
      rw (place_by q e es Greater above, none) (omega arith)
  less_at q (e ∷ es) (suc i) d sorted within less =
      by (R e.0 q) refl (less_at q es i d (parts (below_all R e.0 es) (is_sorted R es) sorted).1 (omega arith) less)
    where
      at_most : (b : Bool) → 0 + cond b 1 0 ≤ suc i
      at_most true = omega arith
      at_most false = omega arith

      by : (r : Ordering) → R e.0 q ≡ r → smaller_first R q es + cond (is_some (find R q es)) 1 0 ≤ i
          → smaller_first R q (e ∷ es) + cond (is_some (find R q (e ∷ es))) 1 0 ≤ suc i
      by Less is rest =
          rw (place_by q e es Less is, found_by q e es Less is) (omega arith)
      by Equal is rest = rw (place_by q e es Equal is) (at_most (is_some (find R q (e ∷ es))))
      by Greater is rest = rw (place_by q e es Greater is) (at_most (is_some (find R q (e ∷ es))))

  pub greater_at : (q : K) (es : List (K × X)) (i : ℕ) (d : K × X) → T (is_sorted R es) → i < length es → R q (get_or es i d).0 ≡ Greater
      → i < smaller_first R q es
  greater_at q [] i d sorted within greater = absurd (omega arith)
  greater_at q (e ∷ es) zero d sorted within greater = rw (place_by q e es Less (turned o q e.0 Greater greater)) (omega arith)
  greater_at q (e ∷ es) (suc i) d sorted within greater =
      let p = parts (below_all R e.0 es) (is_sorted R es) sorted in
      let below : R e.0 (get_or es i d).0 ≡ Less = above_first e.0 es i d p.0 (omega arith) in
      let rest = greater_at q es i d p.1 (omega arith) greater in
      rw (place_by q e es Less (o.trans e.0 (get_or es i d).0 q below (turned o q (get_or es i d).0 Greater greater))) (omega arith)

  pub equal_at : (q : K) (es : List (K × X)) (i : ℕ) (d : K × X) → T (is_sorted R es) → i < length es → R q (get_or es i d).0 ≡ Equal
      → (smaller_first R q es ≡ i) × (is_some (find R q es) ≡ true)
  equal_at q [] i d sorted within tie = absurd (omega arith)
  equal_at q (e ∷ es) zero d sorted within tie =
      let back = turned o q e.0 Equal tie in
      (place_by q e es Equal back, ap is_some (found_by q e es Equal back))
  equal_at q (e ∷ es) (suc i) d sorted within tie =
      let p = parts (below_all R e.0 es) (is_sorted R es) sorted in
      let below : R e.0 (get_or es i d).0 ≡ Less = above_first e.0 es i d p.0 (omega arith) in
      let less : R e.0 q ≡ Less = alike_right o q (get_or es i d).0 e.0 tie ∙ below in
      let rest = equal_at q es i d p.1 (omega arith) tie in
      (place_by q e es Less less ∙ ap suc rest.0, ap is_some (found_by q e es Less less) ∙ rest.1)

  -- a key that is found is found at its place
  pub at_place : (q : K) (es : List (K × X)) (d : K × X) → T (is_sorted R es) → is_some (find R q es) ≡ true
      → (find R q es ≡ Some (get_or es (smaller_first R q es) d).1) × (smaller_first R q es < length es)
      × (R q (get_or es (smaller_first R q es) d).0 ≡ Equal)
  at_place q [] d sorted is = absurd (cc)
  at_place q (e ∷ es) d sorted is = by (R e.0 q) refl (at_place q es d (parts (below_all R e.0 es) (is_sorted R es) sorted).1)
    where
      p : T (below_all R e.0 es) × T (is_sorted R es)
      p = parts (below_all R e.0 es) (is_sorted R es) sorted

      by : (r : Ordering) → R e.0 q ≡ r
          → (is_some (find R q es) ≡ true
          → (find R q es ≡ Some (get_or es (smaller_first R q es) d).1) × (smaller_first R q es < length es)
          × (R q (get_or es (smaller_first R q es) d).0 ≡ Equal))
          → (find R q (e ∷ es) ≡ Some (get_or (e ∷ es) (smaller_first R q (e ∷ es)) d).1) × (smaller_first R q (e ∷ es) < suc (length es))
          × (R q (get_or (e ∷ es) (smaller_first R q (e ∷ es)) d).0 ≡ Equal)
      by Less less later =
          let rest = later (ap is_some (sym (found_by q e es Less less)) ∙ is) in
          rw (place_by q e es Less less) (found_by q e es Less less ∙ rest.0, omega (arith, rest.1), rest.2)
      by Equal tie later = rw (place_by q e es Equal tie) (found_by q e es Equal tie, omega arith, turned o e.0 q Equal tie)
      by Greater greater later =
          let none = absent_below q es (below_more q e.0 es (turned o e.0 q Greater greater) p.0) in
          let fails : true ≡ false = sym is ∙ ap is_some (found_by q e es Greater greater ∙ none) in
          absurd (cc)

  -- a key that is found has a place below the end
  pub at_most_length : (q : K) (es : List (K × X)) → T (is_sorted R es) → smaller_first R q es + cond (is_some (find R q es)) 1 0 ≤ length es
  at_most_length q [] sorted = omega arith
  at_most_length q (e ∷ es) sorted = by (is_some (find R q (e ∷ es))) refl
    where
      by : (b : Bool) → is_some (find R q (e ∷ es)) ≡ b → smaller_first R q (e ∷ es) + cond b 1 0 ≤ length (e ∷ es)
      by true is = let place = at_place q (e ∷ es) e sorted is in omega (arith, place.1)
      by false is = let place = place_le q (e ∷ es) in omega arith

  -- ---- what `put` and a filter leave, as edits at the place

  put_by : (q : K) (v : X) (e : K × X) (es : List (K × X)) (r : Ordering) → R e.0 q ≡ r
      → put R q v (e ∷ es) ≡ by_order (ordering_reverse r) ((q, v) ∷ e ∷ es) ((e.0, v) ∷ es) (e ∷ put R q v es)
  put_by q v e es r is = ap (λ s. by_order s ((q, v) ∷ e ∷ es) ((e.0, v) ∷ es) (e ∷ put R q v es)) (turned o e.0 q r is)

  pub put_at : (q : K) (v : X) (es : List (K × X)) (d : K × X) → T (is_sorted R es) → is_some (find R q es) ≡ true
      → set es (smaller_first R q es) ((get_or es (smaller_first R q es) d).0, v) ≡ put R q v es
  put_at q v [] d sorted is = absurd (cc)
  put_at q v (e ∷ es) d sorted is = by (R e.0 q) refl (put_at q v es d (parts (below_all R e.0 es) (is_sorted R es) sorted).1)
    where
      p : T (below_all R e.0 es) × T (is_sorted R es)
      p = parts (below_all R e.0 es) (is_sorted R es) sorted

      by : (r : Ordering) → R e.0 q ≡ r
          → (is_some (find R q es) ≡ true → set es (smaller_first R q es) ((get_or es (smaller_first R q es) d).0, v) ≡ put R q v es)
          → set (e ∷ es) (smaller_first R q (e ∷ es)) ((get_or (e ∷ es) (smaller_first R q (e ∷ es)) d).0, v) ≡ put R q v (e ∷ es)
      by Less less later =
          let rest = later (ap is_some (sym (found_by q e es Less less)) ∙ is) in
          rw (place_by q e es Less less, put_by q v e es Less less) (ap (λ l. e ∷ l) rest)
      by Equal tie later = rw (place_by q e es Equal tie, put_by q v e es Equal tie) refl
      by Greater greater later =
          let none = absent_below q es (below_more q e.0 es (turned o e.0 q Greater greater) p.0) in
          let fails : true ≡ false = sym is ∙ ap is_some (found_by q e es Greater greater ∙ none) in
          absurd (cc)

  pub put_in_gap : (q : K) (v : X) (es : List (K × X)) → is_some (find R q es) ≡ false → insert es (smaller_first R q es) (q, v) ≡ put R q v es
  put_in_gap q v [] none = refl
  put_in_gap q v (e ∷ es) none = by (R e.0 q) refl (put_in_gap q v es)
    where
      by : (r : Ordering) → R e.0 q ≡ r → (is_some (find R q es) ≡ false → insert es (smaller_first R q es) (q, v) ≡ put R q v es)
          → insert (e ∷ es) (smaller_first R q (e ∷ es)) (q, v) ≡ put R q v (e ∷ es)
      by Less less later =
          let rest = later (ap is_some (sym (found_by q e es Less less)) ∙ none) in
          rw (place_by q e es Less less, put_by q v e es Less less) (ap (λ l. e ∷ l) rest)
      by Equal tie later =
          let fails : true ≡ false = sym (ap is_some (found_by q e es Equal tie)) ∙ none in
          absurd (cc)
      by Greater greater later = rw (place_by q e es Greater greater, put_by q v e es Greater greater) refl

  -- ---- a run of keys

  kept_by : (a b : K) (e : K × X) (es : List (K × X)) (s t : Bool) → is_lt (R e.0 a) ≡ s → is_lt (R e.0 b) ≡ t
      → where_key R (outside R a b) (e ∷ es) ≡ cond (not (not s && t)) (e ∷ where_key R (outside R a b) es) (where_key R (outside R a b) es)
  kept_by a b e es s t low high = rw (low, high) refl

  -- the place of a greater key is no lower
  pub place_rises : (a b : K) (es : List (K × X)) → R a b ≡ Less → smaller_first R a es ≤ smaller_first R b es
  place_rises a b [] less = omega arith
  place_rises a b (e ∷ es) less = by (R e.0 a) refl (place_rises a b es less)
    where
      by : (r : Ordering) → R e.0 a ≡ r → smaller_first R a es ≤ smaller_first R b es → smaller_first R a (e ∷ es) ≤ smaller_first R b (e ∷ es)
      by Less is rest =
          rw (place_by a e es Less is, place_by b e es Less (o.trans e.0 a b is less)) (omega arith)
      by Equal is rest = rw (place_by a e es Equal is) (omega arith)
      by Greater is rest = rw (place_by a e es Greater is) (omega arith)

  -- where the first isn't below q, none of the list is
  none_below : (q : K) (e : K × X) (es : List (K × X)) (r : Ordering) → R e.0 q ≡ r → is_lt r ≡ false → T (below_all R e.0 es) → T (below_all R q es)
  none_below q e es Less is not_less h = absurd (cc)
  none_below q e [] Equal is not_less h = tt
  none_below q e (f ∷ es) Equal is not_less h =
      let p = parts (is_lt (R e.0 f.0)) (below_all R e.0 es) h in
      both _ _ (subst (λ r. T (is_lt r)) (o.congr e.0 q f.0 is) p.0) (none_below q e es Equal is not_less p.1)
  none_below q e es Greater is not_less h = below_more q e.0 es (turned o e.0 q Greater is) h

  all_outside : (a b : K) (es : List (K × X)) → T (below_all R b es) → where_key R (outside R a b) es ≡ es
  all_outside a b [] h = refl
  all_outside a b (e ∷ es) h =
      let p = parts (is_lt (R b e.0)) (below_all R b es) h in
      let high : is_lt (R e.0 b) ≡ false = ap is_lt (turned o b e.0 Less (less_of _ p.0)) in
      by (is_lt (R e.0 a)) (is_lt (R e.0 b)) refl refl high (all_outside a b es p.1)
    where
      by : (s t : Bool) → is_lt (R e.0 a) ≡ s → is_lt (R e.0 b) ≡ t → t ≡ false → where_key R (outside R a b) es ≡ es
          → where_key R (outside R a b) (e ∷ es) ≡ e ∷ es
      by s true low high fails rest = absurd (cc)
      by true false low high fails rest = kept_by a b e es true false low high ∙ ap (λ l. e ∷ l) rest
      by false false low high fails rest = kept_by a b e es false false low high ∙ ap (λ l. e ∷ l) rest

  -- the first is no lower than a: so are all, and a's place is the first
  first_place : (a : K) (e : K × X) (es : List (K × X)) → is_lt (R e.0 a) ≡ false → T (below_all R e.0 es) → smaller_first R a es ≡ 0
  first_place a e [] low h = refl
  first_place a e (f ∷ es) low h =
      let q = none_below a e (f ∷ es) (R e.0 a) refl low h in
      let p = parts (is_lt (R a f.0)) (below_all R a es) q in
      place_by a f es Greater (turned o a f.0 Less (less_of _ p.0))

  -- without the run from a to b is without the keys in it
  pub cut_run : (a b : K) (es : List (K × X)) → R a b ≡ Less → T (is_sorted R es)
      → remove_range es (smaller_first R a es) (smaller_first R b es) ≡ where_key R (outside R a b) es
  cut_run a b [] less sorted = refl
  cut_run a b (e ∷ es) less sorted = by (R e.0 a) (R e.0 b) refl refl (cut_run a b es less (parts (below_all R e.0 es) (is_sorted R es) sorted).1)
    where
      p : T (below_all R e.0 es) × T (is_sorted R es)
      p = parts (below_all R e.0 es) (is_sorted R es) sorted

      beyond : (r s : Ordering) → R e.0 a ≡ r → R e.0 b ≡ s → is_lt r ≡ false → is_lt s ≡ false
          → remove_range (e ∷ es) (smaller_first R a (e ∷ es)) (smaller_first R b (e ∷ es)) ≡ where_key R (outside R a b) (e ∷ es)
      beyond r s low high no_lower no_less =
          let all = all_outside a b es (none_below b e es s high no_less p.0) in
          rw (
            place_by a e es r low,
            no_lower,
            place_by b e es s high,
            no_less,
            kept_by a b e es (is_lt r) (is_lt s) (ap is_lt low) (ap is_lt high),
            no_lower,
            no_less,
          )
          (ap (λ l. e ∷ l) (sym all))

      within : (r : Ordering) → R e.0 a ≡ r → is_lt r ≡ false → R e.0 b ≡ Less
          → remove_range es (smaller_first R a es) (smaller_first R b es) ≡ where_key R (outside R a b) es
          → remove_range (e ∷ es) (smaller_first R a (e ∷ es)) (smaller_first R b (e ∷ es)) ≡ where_key R (outside R a b) (e ∷ es)
      within r low no_lower high rest =
          let zero_first = first_place a e es (ap is_lt low ∙ no_lower) p.0 in
          rw (place_by a e es r low, no_lower, place_by b e es Less high, kept_by a b e es (is_lt r) true (ap is_lt low) (ap is_lt high), no_lower)
          (ap (λ n. remove_range es n (smaller_first R b es)) (sym zero_first) ∙ rest)

      by : (r s : Ordering) → R e.0 a ≡ r → R e.0 b ≡ s
          → remove_range es (smaller_first R a es) (smaller_first R b es) ≡ where_key R (outside R a b) es
          → remove_range (e ∷ es) (smaller_first R a (e ∷ es)) (smaller_first R b (e ∷ es)) ≡ where_key R (outside R a b) (e ∷ es)
      by Less s low high rest =
          let before = o.trans e.0 a b low less in
          rw (place_by a e es Less low, place_by b e es Less before, kept_by a b e es true true (ap is_lt low) (ap is_lt before)) (ap (λ l. e ∷ l) rest)
      by Equal Less low high rest = within Equal low refl high rest
      by Equal Equal low high rest = beyond Equal Equal low high refl refl
      by Equal Greater low high rest = beyond Equal Greater low high refl refl
      by Greater Less low high rest = within Greater low refl high rest
      by Greater Equal low high rest = beyond Greater Equal low high refl refl
      by Greater Greater low high rest = beyond Greater Greater low high refl refl

  -- ---- one key

  other_by : (q : K) (e : K × X) (es : List (K × X)) (r : Ordering) → R e.0 q ≡ r
      → where_key R (others R q) (e ∷ es) ≡ cond (not (is_eq (ordering_reverse r))) (e ∷ where_key R (others R q) es) (where_key R (others R q) es)
  other_by q e es r is = ap (λ s. cond (not (is_eq s)) (e ∷ where_key R (others R q) es) (where_key R (others R q) es)) (turned o e.0 q r is)

  pub remove_absent : (q : K) (es : List (K × X)) → is_some (find R q es) ≡ false → where_key R (others R q) es ≡ es
  remove_absent q [] none = refl
  remove_absent q (e ∷ es) none = by (eq_by_cmp R q e.0) refl (remove_absent q es)
    where
      by : (b : Bool) → eq_by_cmp R q e.0 ≡ b → (is_some (find R q es) ≡ false → where_key R (others R q) es ≡ es)
          → where_key R (others R q) (e ∷ es) ≡ e ∷ es
      by true tie rest = let fails : true ≡ false = sym (ap (λ s. is_some (cond s (Some e.1) (find R q es))) tie) ∙ none in absurd (cc)
      by false tie rest =
          let later : is_some (find R q es) ≡ false = sym (ap (λ s. is_some (cond s (Some e.1) (find R q es))) tie) ∙ none in
          rw tie (ap (λ l. e ∷ l) (rest later))

  pub remove_at : (q : K) (es : List (K × X)) → T (is_sorted R es) → is_some (find R q es) ≡ true
      → remove es (smaller_first R q es) ≡ where_key R (others R q) es
  remove_at q [] sorted is = absurd (cc)
  remove_at q (e ∷ es) sorted is = by (R e.0 q) refl (remove_at q es (parts (below_all R e.0 es) (is_sorted R es) sorted).1)
    where
      p : T (below_all R e.0 es) × T (is_sorted R es)
      p = parts (below_all R e.0 es) (is_sorted R es) sorted

      by : (r : Ordering) → R e.0 q ≡ r → (is_some (find R q es) ≡ true → remove es (smaller_first R q es) ≡ where_key R (others R q) es)
          → remove (e ∷ es) (smaller_first R q (e ∷ es)) ≡ where_key R (others R q) (e ∷ es)
      by Less less later =
          let rest = later (ap is_some (sym (found_by q e es Less less)) ∙ is) in
          rw (place_by q e es Less less, other_by q e es Less less) (ap (λ l. e ∷ l) rest)
      by Equal tie later =
          let none = ap is_some (absent_below q es (none_below q e es Equal tie refl p.0)) in
          rw (place_by q e es Equal tie, other_by q e es Equal tie) (sym (remove_absent q es none))
      by Greater greater later =
          let none = absent_below q es (below_more q e.0 es (turned o e.0 q Greater greater) p.0) in
          let fails : true ≡ false = sym is ∙ ap is_some (found_by q e es Greater greater ∙ none) in
          absurd (cc)
