-- An endpoint's translation cache: a finite map from (PASID, page) to a translation (PCI Express Base 5.0, section
-- 10.1: the address translation cache of a function).
use Rattle.std.specs.Prelude.{ℕ, zero, suc, ◌+◌, ◌-◌, ◌/◌, Bool, ◌||◌, ◌&&◌, not, ◌==◌, nat_lt, nat_le, refl, List, [], ◌∷◌, if◌then◌else◌}
use Rattle.std.specs.declared.cmp.Ordering.{Ordering}
use Rattle.std.specs.Ordering.{nat_cmp, then_cmp, on, is_lt}
use Rattle.std.specs.Cmp.{IsTotalOrder, then_total, on_total, nat_cmp_total}
use Rattle.std.specs.Coded.{Coded, code_by, coded×, coded_ℕ, coded_bool}
use Rattle.std.specs.FinMap as finite
use Rattle.sva_step.specs.Limits
use Rattle.sva_endpoint.specs.declared.coverage.Invalidation.{Invalidation}
use Rattle.sva_endpoint.specs.declared.cached.Translation.{Translation}
use Rattle.sva_endpoint.specs.Coverage.{covers}

-- (PASID, page)
abbrev pub Key : Type 0
Key = ℕ × ℕ

-- by PASID, and then by page
abbrev pub key_cmp : Key → Key → Ordering
key_cmp = then_cmp (on (λ key. key.0) nat_cmp) (on (λ key. key.1) nat_cmp)

-- this order is total: so each key has one place among what is cached, and is found there by halves
pub key_cmp_total : IsTotalOrder key_cmp
key_cmp_total = then_total (on_total (λ key. key.0) nat_cmp_total) (on_total (λ key. key.1) nat_cmp_total)

-- what is cached: under a PASID and a page at most one translation, the one that came last
abbrev pub Translations : Type 0
Translations = finite.FinMap key_cmp Translation

-- by this proofs tell two translations apart: by frame and write flag
abbrev pub translation_code : Coded Translation
translation_code =
    code_by
    (ℕ × Bool)
    (coded× coded_ℕ coded_bool)
    (λ translation. (translation.frame, translation.write))
    (λ pair. record { frame = pair.0; write = pair.1 })
    (λ _. refl)

-- and by this two caches: by what they hold under each PASID and page
abbrev pub translations_code : Coded Translations
translations_code = finite.code (coded× coded_ℕ coded_ℕ) translation_code

-- how many entries, from the first on, have smaller keys than this one
abbrev pub smaller_first : {K X : Type 0} → (K → K → Ordering) → K → List (K × X) → ℕ
smaller_first compare key [] = zero
smaller_first compare key (entry ∷ entries) = if is_lt (compare entry.0 key) then suc (smaller_first compare key entries) else zero

-- the place of a key in the order of the cached ones: so many of these are smaller
abbrev pub place_of : Translations → Key → ℕ
place_of cache key = smaller_first key_cmp key (finite.entries cache)

-- which entry is the middle one of those from `low` on and below `high`: of two the upper
abbrev pub middle_of : ℕ → ℕ → ℕ
middle_of low high = low + (high - low) / 2

-- A search by halves compares the key with the middle one of the entries from `low` on and below `high`, until it meets it or
-- none is left. So many comparisons does it make, `most` at the most, where `place` is the key's place.
unfoldable pub halvings : (most low high place : ℕ) → Bool → ℕ
halvings zero low high place is_there = 0
halvings (suc most) low high place is_there =
    if nat_le high low then 0
    else (if is_there && (place == middle_of low high) then 1
    else (if nat_le place (middle_of low high) then suc (halvings most low (middle_of low high) place is_there)
    else suc (halvings most (middle_of low high + 1) high place is_there)))

-- how many comparisons a search by halves makes until it knows where a key stands, at most seven of 64 entries
abbrev pub comparisons : Translations → Key → ℕ
comparisons cache key = halvings 7 0 (finite.len cache) (place_of cache key) (finite.contains_key cache key)

-- the cache keeps 64 translations: is there a place for that of this page?
abbrev pub has_room_for : Translations → Key → Bool
has_room_for cache key = finite.contains_key cache key || nat_lt (finite.len cache) Limits.cached

-- the cache after an invalidation
abbrev pub without_covered : Invalidation → Translations → Translations
without_covered invalidation cache = finite.retain_keys cache (λ key. not (covers invalidation key.0 key.1))
