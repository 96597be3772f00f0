-- What an edit of a cache's entries leaves of the finite map that they are.
use Rattle.std.proofs.Common.{◌≡◌, ℕ, ◌<◌, ◌≤◌, List, length, get_or, set, sym, ◌∙◌, ap, refl, subst, cond, true, false, not, Bool, ◌||◌, Option, Some}
use Rattle.std.proofs.Common.{None, Result, Ok, Err}
use Rattle.std.specs.Prelude.{T, nat_lt}
use Rattle.std.specs.Option.{is_some}
use Rattle.std.specs.List.{insert, remove}
use Rattle.std.specs.declared.cmp.Ordering.{Ordering}
use Rattle.std.specs.declared.cmp.Ordering.TheVariants.{Less, Equal, Greater}
use Rattle.std.specs.Ordering.{nat_cmp, eq_by_cmp, ordering_then}
use Rattle.std.proofs.lemmas.Bool.{ltb-true}
use Rattle.std.specs.Cmp.{eq_by_cmp_equiv}
use Rattle.std.specs.FinMap as finite
use Rattle.std.specs.FinMap.{IsAntisymmetric, nat_cmp-IsAntisymmetric, find, put, is_sorted, entries-from_sorted, get-from_sorted, entries-insert}
use Rattle.std.specs.FinMap.{get-retain_keys, get-remove, len-entries, same_map, same_entries_map}
use Rattle.std.specs.FinMap.Entries.{where_key, is_sorted-put, is_sorted-where_key, find-where_key}
use Rattle.sva_endpoint.specs.declared.cached.Translation.{Translation}
use Rattle.sva_endpoint.specs.Cache.{Key, Translations, key_cmp, key_cmp_total, smaller_first, place_of, halvings, comparisons, has_room_for}
use Rattle.sva_endpoint.proofs.CachePlaces.{others, place_le, at_place, put_at, put_in_gap, remove_at, remove_absent}
use Rattle.sva_endpoint.proofs.Search.{entries_are, get_is, place_is, found_is}

-- only equal keys tie
first_ties : (a b : Ordering) → ordering_then a b ≡ Equal → a ≡ Equal
first_ties Less b tie = tie
first_ties Equal b tie = refl
first_ties Greater b tie = tie

second_ties : (a b : Ordering) → ordering_then a b ≡ Equal → b ≡ Equal
second_ties Less b tie = absurd (cc)
second_ties Equal b tie = tie
second_ties Greater b tie = absurd (cc)

pub key_cmp-IsAntisymmetric : IsAntisymmetric key_cmp
key_cmp-IsAntisymmetric k m tie =
    let same_pasid : k.0 ≡ m.0 = nat_cmp-IsAntisymmetric k.0 m.0 (first_ties (nat_cmp k.0 m.0) (nat_cmp k.1 m.1) tie) in
    let same_page : k.1 ≡ m.1 = nat_cmp-IsAntisymmetric k.1 m.1 (second_ties (nat_cmp k.0 m.0) (nat_cmp k.1 m.1) tie) in
    λ i. (same_pasid i, same_page i)

-- what the answer of a search tells
pub told_found : (b : Bool) (n i : ℕ) → ◌≡◌ {A = Result ℕ ℕ} (Ok i) (cond b (Ok n) (Err n)) → (b ≡ true) × (i ≡ n)
told_found true n i is = (refl, cc)
told_found false n i is = absurd (cc)

pub told_absent : (b : Bool) (n i : ℕ) → ◌≡◌ {A = Result ℕ ℕ} (Err i) (cond b (Ok n) (Err n)) → (b ≡ false) × (i ≡ n)
told_absent true n i is = absurd (cc)
told_absent false n i is = (refl, cc)

turned_test : (b : Bool) (o : Option Translation) → cond b None o ≡ cond (not b) o None
turned_test true o = refl
turned_test false o = refl

absent_get : (o : Option Translation) → is_some o ≡ false → None ≡ o
absent_get None is = refl
absent_get (Some t) is = absurd (cc)

room_left : (b : Bool) (n : ℕ) → (b || nat_lt n 64) ≡ true → b ≡ false → n < 64
room_left true n room is = absurd (cc)
room_left false n room is = ltb-true n 64 room

module _ (items : List (Key × Translation)) (cache : Translations) (sorted : T (is_sorted key_cmp items)) (seen : finite.from_sorted items ≡ cache) where
  pub length_is : finite.len cache ≡ length items
  length_is = len-entries cache ∙ ap length (entries_are items cache sorted seen)

  -- the comparisons of a search, by the entries themselves
  pub all_comparisons : (q : Key) (es : List (Key × Translation)) → es ≡ items
      → comparisons cache q ≡ halvings 7 0 (length es) (smaller_first key_cmp q es) (is_some (find key_cmp q es))
  all_comparisons q es same =
      (λ i. halvings 7 0 (length_is i) (place_is items cache sorted seen q i) (found_is items cache sorted seen q i))
      ∙ ap (λ (xs : List (Key × Translation)). halvings 7 0 (length xs) (smaller_first key_cmp q xs) (is_some (find key_cmp q xs))) (sym same)

  -- a list that is what `put` leaves is the map with the entry put in
  pub inserted : (new : List (Key × Translation)) (q : Key) (t : Translation) → new ≡ put key_cmp q t items
      → T (is_sorted key_cmp new) × (finite.from_sorted new ≡ finite.insert cache q t)
  inserted new q t is =
      let up : T (is_sorted key_cmp new) = subst (λ es. T (is_sorted key_cmp es)) (sym is) (is_sorted-put key_cmp key_cmp_total q t items sorted) in (
        up,
        same_entries_map _ _ (entries-from_sorted key_cmp new up ∙ is ∙ ap (put key_cmp q t) (sym (entries_are items cache sorted seen))
            ∙ sym (entries-insert key_cmp_total cache q t)),
      )

  -- a list of the entries whose keys pass a test is the map of these
  pub kept : (new : List (Key × Translation)) (p : Key → Bool) → new ≡ where_key key_cmp p items
      → T (is_sorted key_cmp new) × (finite.from_sorted new ≡ finite.retain_keys cache p)
  kept new p is =
      let up : T (is_sorted key_cmp new) = subst (λ es. T (is_sorted key_cmp es)) (sym is) (is_sorted-where_key key_cmp p items sorted) in
      let alike = λ (q x : Key) (tie : key_cmp q x ≡ Equal). ap p (sym (key_cmp-IsAntisymmetric q x tie)) in (
        up,
        same_map key_cmp_total key_cmp-IsAntisymmetric _ _ (λ q.
            get-from_sorted key_cmp new q up ∙ ap (find key_cmp q) is ∙ find-where_key key_cmp p q (alike q) items
            ∙ ap (λ o. cond (p q) o None) (sym (get_is items cache sorted seen q)) ∙ sym (get-retain_keys cache p q (alike q))),
      )

  -- a search has found the key at a place: its entry is read, written over or taken out
  module _ (q : Key) (i : ℕ) (told : ◌≡◌ {A = Result ℕ ℕ} (Ok i) (cond (finite.contains_key cache q) (Ok (place_of cache q)) (Err (place_of cache q)))) where
    found : is_some (find key_cmp q items) ≡ true
    found = sym (found_is items cache sorted seen q) ∙ (told_found (finite.contains_key cache q) (place_of cache q) i told).0

    place : i ≡ smaller_first key_cmp q items
    place = (told_found (finite.contains_key cache q) (place_of cache q) i told).1 ∙ place_is items cache sorted seen q

    pub found_within : i < length items
    found_within =
        let at = at_place key_cmp_total q items (q, record { frame = 0; write = false }) sorted found in
        subst (λ (n : ℕ). n < length items) (sym place) at.1

    pub found_get : (d : Key × Translation) → d ≡ get_or items i d → Some d.1 ≡ finite.get cache q
    found_get d read =
        let at = at_place key_cmp_total q items d sorted found in
        ap (λ (e : Key × Translation). Some e.1) (read ∙ ap (λ (n : ℕ). get_or items n d) place) ∙ sym at.0 ∙ sym (get_is items cache sorted seen q)

    pub found_written : (t : Translation) → set items i (q, t) ≡ put key_cmp q t items
    found_written t =
        let at = at_place key_cmp_total q items (q, t) sorted found in
        ap (λ (n : ℕ). set items n (q, t)) place
        ∙ ap (λ (k : Key). set items (smaller_first key_cmp q items) (k, t)) (key_cmp-IsAntisymmetric q _ at.2)
        ∙ put_at key_cmp_total q t items (q, t) sorted found

    pub found_removed : remove items i ≡ where_key key_cmp (others key_cmp q) items
    found_removed = ap (remove items) place ∙ remove_at key_cmp_total q items sorted found

  -- it has found the gap for the key: the entry is put in there
  module _ (q : Key) (i : ℕ) (told : ◌≡◌ {A = Result ℕ ℕ} (Err i) (cond (finite.contains_key cache q) (Ok (place_of cache q)) (Err (place_of cache q)))) where
    absent : finite.contains_key cache q ≡ false
    absent = (told_absent (finite.contains_key cache q) (place_of cache q) i told).0

    missing : is_some (find key_cmp q items) ≡ false
    missing = sym (found_is items cache sorted seen q) ∙ absent

    gap : i ≡ smaller_first key_cmp q items
    gap = (told_absent (finite.contains_key cache q) (place_of cache q) i told).1 ∙ place_is items cache sorted seen q

    pub gap_within : i ≤ length items
    gap_within = subst (λ (n : ℕ). n ≤ length items) (sym gap) (place_le key_cmp_total q items)

    pub gap_put : (t : Translation) → insert items i (q, t) ≡ put key_cmp q t items
    gap_put t = ap (λ (n : ℕ). insert items n (q, t)) gap ∙ put_in_gap key_cmp_total q t items missing

    pub gap_left : items ≡ where_key key_cmp (others key_cmp q) items
    gap_left = sym (remove_absent key_cmp_total q items missing)

    pub gap_room : has_room_for cache q ≡ true → length items < 64
    gap_room has =
        let below = room_left (finite.contains_key cache q) (finite.len cache) has absent in
        subst (λ (n : ℕ). n < 64) length_is below

  -- a list of the entries of the other keys is the map without the key
  pub removed : (new : List (Key × Translation)) (q : Key) → new ≡ where_key key_cmp (others key_cmp q) items
      → T (is_sorted key_cmp new) × (finite.from_sorted new ≡ finite.remove cache q)
  removed new q is =
      let retained = kept new (others key_cmp q) is in (
        retained.0,
        retained.1 ∙ same_map key_cmp_total key_cmp-IsAntisymmetric _ _ (λ x.
            get-retain_keys cache (others key_cmp q) x (λ y tie. ap (others key_cmp q) (sym (key_cmp-IsAntisymmetric x y tie)))
            ∙ sym (turned_test (eq_by_cmp key_cmp q x) (finite.get cache x))
            ∙ ap (λ b. cond b None (finite.get cache x)) ((eq_by_cmp_equiv key_cmp_total).symm q x)
            ∙ sym (get-remove key_cmp_total cache q x)),
      )
