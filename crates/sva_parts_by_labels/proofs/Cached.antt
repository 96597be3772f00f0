-- Cached translations, seen: a search by PASID and page, and what a change leaves of them.
use Rattle.std.proofs.Common.{◌≡◌, refl, ap, sym, subst, ◌∙◌, ℕ, suc, ◌+◌, ◌<◌, ◌≤◌, Bool, true, false, arith}
use Rattle.std.specs.Prelude.{T, cond, ◌&&◌, ◌||◌, not, ◌==◌, nat_lt, nat_le, if◌then◌else◌, is_some, Option, Some, None, List, [], ◌∷◌, map, filter, length}
use Rattle.std.specs.List.{count_by, find as find_by}
use Rattle.std.specs.declared.cmp.Ordering.{Ordering}
use Rattle.std.specs.declared.cmp.Ordering.TheVariants.{Less, Equal, Greater}
use Rattle.std.specs.Ordering.{nat_cmp, eq_by_cmp, ordering_then, is_eq, is_lt, is_gt}
use Rattle.std.specs.Cmp.{ranked}
use Rattle.std.specs.Ordering.{MatchOrdering}
use Rattle.std.specs.FinMap as finite
use Rattle.std.specs.FinMap.{find, put, is_sorted, entries_sorted, entries-from_sorted, entries-insert}
use Rattle.std.specs.FinMap.Entries.{where_key, below_all, by_order}
use Rattle.std.proofs.lemmas.Bool.Decides.{nat_tests}
use Rattle.sva_model.specs.Wire.{TranslationWire, insert_by, is_before}
use Rattle.sva_labels.specs.Finding.{is_at_page}
use Rattle.sva_labels.specs.Moves.{kept}
use Rattle.sva_labels.specs.Outcomes.{is_other, is_full}
use Rattle.sva_endpoint.specs.declared.cached.Translation.{Translation}
use Rattle.sva_endpoint.specs.Cache.{Key, Translations, key_cmp, key_cmp_total, has_room_for}
use Rattle.sva_endpoint.proofs.Edits as edits
use Rattle.sva_endpoint.proofs.Edits.{key_cmp-IsAntisymmetric}
use Rattle.sva_endpoint.proofs.Facts.{of_entries}
use Rattle.sva_parts_by_labels.proofs.Tables.{count_first}
use Rattle.sva_parts_by_labels.specs.Device.{translation_seen, cache_seen}

abbrev Entry : Type 0
Entry = Key × Translation

abbrev seen : List Entry → List TranslationWire
seen entries = map translation_seen entries

-- What an order of keys says of the two tests of a cache seen: the entry is at the page; the entry is before it.

abbrev Tells : (t q u r : ℕ) → Ordering → Type 0
Tells t q u r o = ((u == t && r == q) ≡ is_eq o) × ((nat_lt u t || (u == t && nat_lt r q)) ≡ is_gt o)

tells_pages : (t q r : ℕ) (o : Ordering) → MatchOrdering o (q < r) (q ≡ r) (r < q) → Tells t q t r o
tells_pages t q r Less h = (grind (arith, nat_tests), grind (arith, nat_tests))
tells_pages t q r Equal h = (grind (arith, nat_tests), grind (arith, nat_tests))
tells_pages t q r Greater h = (grind (arith, nat_tests), grind (arith, nat_tests))

tells_by : (t q u r : ℕ) (a b : Ordering) → MatchOrdering a (t < u) (t ≡ u) (u < t) → MatchOrdering b (q < r) (q ≡ r) (r < q)
    → Tells t q u r (ordering_then a b)
tells_by t q u r Less b h k = (grind (arith, nat_tests), grind (arith, nat_tests))
tells_by t q u r Equal b h k = subst (λ z. Tells t q z r b) h (tells_pages t q r b k)
tells_by t q u r Greater b h k = (grind (arith, nat_tests), grind (arith, nat_tests))

tells : (t q u r : ℕ) → Tells t q u r (key_cmp (t, q) (u, r))
tells t q u r = tells_by t q u r (nat_cmp t u) (nat_cmp q r) (ranked t u (nat_cmp t u) refl) (ranked q r (nat_cmp q r) refl)

at_page : (t q : ℕ) (e : Entry) → is_at_page t q (translation_seen e) ≡ is_eq (key_cmp (t, q) e.0)
at_page t q e = (tells t q e.0.0 e.0.1).0

before : (t q : ℕ) (v : Translation) (e : Entry) → is_before (translation_seen e) (translation_seen ((t, q), v)) ≡ is_gt (key_cmp (t, q) e.0)
before t q v e = (tells t q e.0.0 e.0.1).1

-- A search.

abbrev pub found_seen : (t q : ℕ) → Option Translation → Option TranslationWire
found_seen t q None = None
found_seen t q (Some v) = Some (translation_seen ((t, q), v))

same_key : (t q : ℕ) (e : Entry) → is_at_page t q (translation_seen e) ≡ true → translation_seen e ≡ translation_seen ((t, q), e.1)
same_key t q e h =
    let pasid : e.0.0 ≡ t = grind (arith, nat_tests) in
    let page : e.0.1 ≡ q = grind (arith, nat_tests) in
    λ i. translation_seen ((pasid i, page i), e.1)

found_in : (t q : ℕ) (es : List Entry) → find_by (is_at_page t q) (seen es) ≡ found_seen t q (find key_cmp (t, q) es)
found_in t q [] = refl
found_in t q (e ∷ es) = go (is_at_page t q (translation_seen e)) (is_eq (key_cmp (t, q) e.0)) refl (at_page t q e) (found_in t q es)
  where
    go : (b c : Bool) → is_at_page t q (translation_seen e) ≡ b → is_at_page t q (translation_seen e) ≡ c → find_by (is_at_page t q) (seen es)
        ≡ found_seen t q (find key_cmp (t, q) es)
        → cond b (Some (translation_seen e)) (find_by (is_at_page t q) (seen es)) ≡ found_seen t q (cond c (Some e.1) (find key_cmp (t, q) es))
    go true true h k rest = ap Some (same_key t q e h)
    go false false h k rest = rest
    go true false h k rest = absurd (cc (sym h ∙ k))
    go false true h k rest = absurd (cc (sym h ∙ k))

pub found_is_seen : (cache : Translations) (t q : ℕ) → find_by (is_at_page t q) (cache_seen cache) ≡ found_seen t q (finite.get cache (t, q))
found_is_seen cache t q = found_in t q (finite.entries cache) ∙ ap (found_seen t q) (sym (finite.get-entries cache (t, q)))

-- A translation goes, and those that a test of keys doesn't pass.

kept_where : (p : Key → Bool) (r : TranslationWire → Bool) → ((e : Entry) → r (translation_seen e) ≡ p e.0) → (es : List Entry)
    → filter r (seen es) ≡ seen (where_key key_cmp p es)
kept_where p r h [] = refl
kept_where p r h (e ∷ es) = go (r (translation_seen e)) (p e.0) (h e) (kept_where p r h es)
  where
    go : (b c : Bool) → b ≡ c → filter r (seen es) ≡ seen (where_key key_cmp p es)
        → cond b (translation_seen e ∷ filter r (seen es)) (filter r (seen es)) ≡ seen (cond c (e ∷ where_key key_cmp p es) (where_key key_cmp p es))
    go true true k rest = ap (λ l. translation_seen e ∷ l) rest
    go false false k rest = rest
    go true false k rest = absurd (cc (k))
    go false true k rest = absurd (cc (k))

pub retained_is_seen : (cache : Translations) (p : Key → Bool) (r : TranslationWire → Bool) → ((e : Entry) → r (translation_seen e) ≡ p e.0)
    → cache_seen (finite.retain_keys cache p) ≡ filter r (cache_seen cache)
retained_is_seen cache p r h =
    let new = where_key key_cmp p (finite.entries cache) in
    let left = edits.kept (finite.entries cache) cache (entries_sorted cache) (of_entries cache) new p refl in
    ap cache_seen (sym left.1) ∙ ap seen (entries-from_sorted key_cmp new left.0) ∙ sym (kept_where p r h (finite.entries cache))

pub removed_is_seen : (cache : Translations) (t q : ℕ) → cache_seen (finite.remove cache (t, q)) ≡ filter (λ x. not (is_at_page t q x)) (cache_seen cache)
removed_is_seen cache t q =
    let test : Key → Bool = λ x. not (eq_by_cmp key_cmp (t, q) x) in
    let new = where_key key_cmp test (finite.entries cache) in
    let left = edits.removed (finite.entries cache) cache (entries_sorted cache) (of_entries cache) new (t, q) refl in
    ap cache_seen (sym left.1) ∙ ap seen (entries-from_sorted key_cmp new left.0)
    ∙ sym (kept_where test (λ x. not (is_at_page t q x)) (λ e. ap (λ (b : Bool). not b) (at_page t q e)) (finite.entries cache))

-- A translation comes, in place of an older one of its page.

abbrev elsewhere : (t q : ℕ) → TranslationWire → Bool
elsewhere t q x = not (is_at_page t q x)

-- those above a key that isn't above its own
less_both : (a b : Bool) → T (a && b) → (a ≡ true) × T b
less_both true b h = (refl, h)
less_both false b h = absurd h

is_less : (o : Ordering) → is_lt o ≡ true → o ≡ Less
is_less Less h = refl
is_less Equal h = absurd (cc (h))
is_less Greater h = absurd (cc (h))

all_above : (k : Key) (a : Key) → key_cmp k a ≡ Less → (es : List Entry) → T (below_all key_cmp a es) → T (below_all key_cmp k es)
all_above k a h [] below = tt
all_above k a h (e ∷ es) below =
    let both = less_both (is_lt (key_cmp a e.0)) (below_all key_cmp a es) below in
    let here : key_cmp k e.0 ≡ Less = key_cmp_total.trans k a e.0 h (is_less (key_cmp a e.0) both.0) in
    subst (λ o. T (is_lt o && below_all key_cmp k es)) (sym here) (all_above k a h es both.1)

none_there : (t q : ℕ) (es : List Entry) → T (below_all key_cmp (t, q) es) → filter (elsewhere t q) (seen es) ≡ seen es
none_there t q [] h = refl
none_there t q (e ∷ es) h =
    let both = less_both (is_lt (key_cmp (t, q) e.0)) (below_all key_cmp (t, q) es) h in
    let here : is_at_page t q (translation_seen e) ≡ false = at_page t q e ∙ ap is_eq (is_less (key_cmp (t, q) e.0) both.0) in
    ap (λ (b : Bool). cond (not b) (translation_seen e ∷ filter (elsewhere t q) (seen es)) (filter (elsewhere t q) (seen es))) here
    ∙ ap (λ l. translation_seen e ∷ l) (none_there t q es both.1)

first_of : (t q : ℕ) (v : Translation) (es : List Entry) → T (below_all key_cmp (t, q) es)
    → insert_by is_before (translation_seen ((t, q), v)) (seen es) ≡ translation_seen ((t, q), v) ∷ seen es
first_of t q v [] h = refl
first_of t q v (e ∷ es) h =
    let both = less_both (is_lt (key_cmp (t, q) e.0)) (below_all key_cmp (t, q) es) h in
    let here : is_before (translation_seen e) (translation_seen ((t, q), v)) ≡ false = before t q v e ∙ ap is_gt (is_less (key_cmp (t, q) e.0) both.0) in
    ap (λ (b : Bool). cond b (translation_seen e ∷ insert_by is_before (translation_seen ((t, q), v)) (seen es)) (translation_seen ((t, q), v)
    ∷ translation_seen e ∷ seen es)) here

and_both : (a b : Bool) → T (a && b) → T a × T b
and_both true b h = (tt, h)
and_both false b h = absurd h

-- the entry comes first, in place of the first one, or behind it
abbrev PutFirst : (t q : ℕ) → Translation → Entry → List Entry → Ordering → Type 0
PutFirst t q v e es o =
    seen (by_order o (((t, q), v) ∷ e ∷ es) ((e.0, v) ∷ es) (e ∷ put key_cmp (t, q) v es))
    ≡ kept (translation_seen ((t, q), v)) (translation_seen e ∷ seen es)

put_first : (t q : ℕ) (v : Translation) (e : Entry) (es : List Entry) → T (below_all key_cmp e.0 es) → (o : Ordering) → key_cmp (t, q) e.0 ≡ o
    → seen (put key_cmp (t, q) v es) ≡ kept (translation_seen ((t, q), v)) (seen es) → PutFirst t q v e es o
put_first t q v e es above Less h rest =
    let below : T (below_all key_cmp (t, q) (e ∷ es)) = subst (λ o. T (is_lt o && below_all key_cmp (t, q) es)) (sym h) (all_above (t, q) e.0 h es above) in
    sym (ap (insert_by is_before (translation_seen ((t, q), v))) (none_there t q (e ∷ es) below) ∙ first_of t q v (e ∷ es) below)
put_first t q v e es above Equal h rest =
    let same : (t, q) ≡ e.0 = key_cmp-IsAntisymmetric (t, q) e.0 h in
    let below : T (below_all key_cmp (t, q) es) = subst (λ k. T (below_all key_cmp k es)) (sym same) above in
    let here : is_at_page t q (translation_seen e) ≡ true = at_page t q e ∙ ap is_eq h in
    sym
    (ap (λ (b : Bool). insert_by is_before (translation_seen ((t, q), v))
    (cond (not b) (translation_seen e ∷ filter (elsewhere t q) (seen es)) (filter (elsewhere t q) (seen es)))) here
    ∙ ap (insert_by is_before (translation_seen ((t, q), v))) (none_there t q es below)
    ∙ first_of t q v es below
    ∙ ap (λ k. translation_seen (k, v) ∷ seen es) same)
put_first t q v e es above Greater h rest =
    let here : is_at_page t q (translation_seen e) ≡ false = at_page t q e ∙ ap is_eq h in
    let later : is_before (translation_seen e) (translation_seen ((t, q), v)) ≡ true = before t q v e ∙ ap is_gt h in
    let x : TranslationWire = translation_seen ((t, q), v) in
    sym
    (ap (λ (b : Bool). insert_by is_before x (cond (not b) (translation_seen e ∷ filter (elsewhere t q) (seen es)) (filter (elsewhere t q) (seen es)))) here
    ∙ ap (λ (b : Bool). cond b (translation_seen e ∷ kept x (seen es)) (x ∷ translation_seen e ∷ filter (elsewhere t q) (seen es))) later
    ∙ ap (λ l. translation_seen e ∷ l) (sym rest))

put_seen : (t q : ℕ) (v : Translation) (es : List Entry) → T (is_sorted key_cmp es)
    → seen (put key_cmp (t, q) v es) ≡ kept (translation_seen ((t, q), v)) (seen es)
put_seen t q v [] sorted = refl
put_seen t q v (e ∷ es) sorted =
    let both = and_both (below_all key_cmp e.0 es) (is_sorted key_cmp es) sorted in
    put_first t q v e es both.0 (key_cmp (t, q) e.0) refl (put_seen t q v es both.1)

pub inserted_is_seen : (cache : Translations) (t q : ℕ) (v : Translation)
    → cache_seen (finite.insert cache (t, q) v) ≡ kept (translation_seen ((t, q), v)) (cache_seen cache)
inserted_is_seen cache t q v = ap seen (entries-insert key_cmp_total cache (t, q) v) ∙ put_seen t q v (finite.entries cache) (entries_sorted cache)

-- Is there a place for a page's translation?

abbrev one_if : Bool → ℕ
one_if true = 1
one_if false = 0

all_others : (t q : ℕ) (es : List Entry) → T (below_all key_cmp (t, q) es) → count_by (is_other t q) (seen es) ≡ length es
all_others t q [] h = refl
all_others t q (e ∷ es) h =
    let both = less_both (is_lt (key_cmp (t, q) e.0)) (below_all key_cmp (t, q) es) h in
    let here : is_at_page t q (translation_seen e) ≡ false = at_page t q e ∙ ap is_eq (is_less (key_cmp (t, q) e.0) both.0) in
    let rest = all_others t q es both.1 in
    count_first (is_other t q) (translation_seen e) (seen es)
    ∙ ap (λ (b : Bool). (if not b then 1 else 0) + count_by (is_other t q) (seen es)) here
    ∙ one_more (count_by (is_other t q) (seen es)) (length es) rest
  where
    one_more : (m n : ℕ) → m ≡ n → 1 + m ≡ suc n
    one_more m n h = omega (arith, h)

-- with the first one, by how its key compares
abbrev Counted : (t q : ℕ) → Entry → List Entry → Ordering → Type 0
Counted t q e es o =
    (if not (is_eq o) then 1 else 0) + count_by (is_other t q) (seen es) + one_if (is_some (cond (is_eq o) (Some e.1) (find key_cmp (t, q) es)))
    ≡ length (e ∷ es)

counted_at : (t q : ℕ) (e : Entry) (es : List Entry) (o : Ordering) → key_cmp (t, q) e.0 ≡ o → Counted t q e es o
    → count_by (is_other t q) (seen (e ∷ es)) + one_if (is_some (find key_cmp (t, q) (e ∷ es))) ≡ length (e ∷ es)
counted_at t q e es o h k =
    ap (λ n. n + one_if (is_some (find key_cmp (t, q) (e ∷ es)))) (count_first (is_other t q) (translation_seen e) (seen es))
    ∙ ap (λ (b : Bool). (if not b then 1 else 0) + count_by (is_other t q) (seen es) + one_if (is_some (find key_cmp (t, q) (e ∷ es))))
    (at_page t q e ∙ ap is_eq h)
    ∙ ap (λ r. (if not (is_eq o) then 1 else 0) + count_by (is_other t q) (seen es) + one_if (is_some (cond (is_eq r) (Some e.1) (find key_cmp (t, q) es)))) h
    ∙ k

others_by : (t q : ℕ) (e : Entry) (es : List Entry) (o : Ordering) → key_cmp (t, q) e.0 ≡ o → T (below_all key_cmp e.0 es)
    → count_by (is_other t q) (seen es) + one_if (is_some (find key_cmp (t, q) es)) ≡ length es → Counted t q e es o
others_by t q e es Less h above rest = omega (arith, rest)
others_by t q e es Equal h above rest =
    let same : (t, q) ≡ e.0 = key_cmp-IsAntisymmetric (t, q) e.0 h in
    let all = all_others t q es (subst (λ k. T (below_all key_cmp k es)) (sym same) above) in
    omega (arith, all)
others_by t q e es Greater h above rest = omega (arith, rest)

others_in : (t q : ℕ) (es : List Entry) → T (is_sorted key_cmp es) → count_by (is_other t q) (seen es) + one_if (is_some (find key_cmp (t, q) es)) ≡ length es
others_in t q [] sorted = refl
others_in t q (e ∷ es) sorted =
    let both = and_both (below_all key_cmp e.0 es) (is_sorted key_cmp es) sorted in
    counted_at t q e es (key_cmp (t, q) e.0) refl (others_by t q e es (key_cmp (t, q) e.0) refl both.0 (others_in t q es both.1))

room_by : (others size : ℕ) (there : Bool) → others + one_if there ≡ size → size ≤ 64 → (there || nat_lt size 64) ≡ not (nat_le 64 others)
room_by others size true h k = grind (arith, nat_tests)
room_by others size false h k = grind (arith, nat_tests)

pub room_is_seen : (cache : Translations) (t q : ℕ) → finite.len cache ≤ 64 → has_room_for cache (t, q) ≡ not (is_full (cache_seen cache) t q)
room_is_seen cache t q few =
    room_by (count_by (is_other t q) (cache_seen cache)) (finite.len cache) (finite.contains_key cache (t, q))
    (ap (λ o. count_by (is_other t q) (cache_seen cache) + one_if (is_some o)) (finite.get-entries cache (t, q))
    ∙ others_in t q (finite.entries cache) (entries_sorted cache) ∙ sym (finite.len-entries cache))
    few
