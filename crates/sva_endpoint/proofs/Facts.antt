-- Facts on the finite map of a cache's translations, for whoever keeps one.
use Rattle.std.proofs.Common.{◌≡◌, ◌∙◌, ◌≤◌, ℕ, Bool, List, ap, sym, length, refl, arith, slice_get}
use Rattle.std.specs.Prelude.{T}
use Rattle.std.specs.FinMap as finite
use Rattle.std.specs.FinMap.{entries-from_sorted, entries_sorted, is_sorted, len-entries, same_entries_map}
use Rattle.std.specs.FinMap.Entries.{where_key}
use Rattle.sva_endpoint.specs.declared.cached.Translation.{Translation}
use Rattle.sva_endpoint.specs.Cache.{Key, Translations, key_cmp}
use Rattle.sva_endpoint.proofs.Edits.{kept, length_is}
use Rattle.sva_endpoint.proofs.Runs.{length-where_key-le}

-- a cache is the map of its entries, which rise by their keys
pub of_entries : (cache : Translations) → finite.from_sorted (finite.entries cache) ≡ cache
of_entries cache = same_entries_map _ _ (entries-from_sorted key_cmp (finite.entries cache) (entries_sorted cache))

-- to retain some keys leaves no more than there were
pub len-retain_keys-le : (cache : Translations) (p : Key → Bool) → finite.len (finite.retain_keys cache p) ≤ finite.len cache
len-retain_keys-le cache p =
    let new : List (Key × Translation) = where_key key_cmp p (finite.entries cache) in
    let left = kept (finite.entries cache) cache (entries_sorted cache) (of_entries cache) new p refl in
    let count : finite.len (finite.retain_keys cache p) ≡ length new = length_is new (finite.retain_keys cache p) left.0 left.1 in
    let all : finite.len cache ≡ length (finite.entries cache) = len-entries cache in
    let few = length-where_key-le p (finite.entries cache) in
    omega arith

-- what stands at a place of the list that is kept stands there in the order of keys
pub entry_at : (xs : List (Key × Translation)) (cache : Translations) → T (is_sorted key_cmp xs) → finite.from_sorted xs ≡ cache → (place : ℕ)
    → slice_get (finite.entries cache) place ≡ slice_get xs place
entry_at xs cache up is place =
    ap (λ (kept : Translations). slice_get (finite.entries kept) place) (sym is)
    ∙ ap (λ es. slice_get es place) (entries-from_sorted key_cmp xs up)
