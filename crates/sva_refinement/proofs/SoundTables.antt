-- The translations that an endpoint caches are no more than 64 in what is kept of it.
use Rattle.std.proofs.Common.{◌≡◌, refl, ap, sym, subst, ◌∙◌, suc, ◌≤◌, Bool, true, false}
use Rattle.std.specs.Prelude.{if◌then◌else◌, List, [], ◌∷◌, map, length}
use Rattle.std.proofs.lemmas.List.{length-map}
use Rattle.sva_model.specs.Words.{select, is_some}
use Rattle.sva_model.specs.State.{Mappings, Endpoint}
use Rattle.sva_model.specs.Wire.{insert_by, sorted_by, is_before, cached_wire, cache_wire}
use Rattle.sva_laws.specs.LimitLaws.{cached_translations}
use Rattle.sva_labels.proofs.Lists.{select_length}

-- a sorted list is as long
insert_length : {A : Type 0} (below : A → A → Bool) (a : A) (xs : List A) → length (insert_by below a xs) ≡ suc (length xs)
insert_length below a [] = refl
insert_length below a (x ∷ xs) = go (below x a) (insert_length below a xs)
  where
    go : (b : Bool) → length (insert_by below a xs) ≡ suc (length xs) → length (if b then x ∷ insert_by below a xs else a ∷ x ∷ xs) ≡ suc (suc (length xs))
    go true rest = ap suc rest
    go false rest = refl

sorted_length : {A : Type 0} (below : A → A → Bool) (xs : List A) → length (sorted_by below xs) ≡ length xs
sorted_length below [] = refl
sorted_length below (x ∷ xs) = insert_length below x (sorted_by below xs) ∙ ap suc (sorted_length below xs)

pub cache_short : (ms : Mappings) (p : Endpoint) → cached_translations p ≤ 64 → length (cache_wire ms p) ≤ 64
cache_short ms p h =
    subst (λ n. n ≤ 64)
    (sym (sorted_length is_before (map (cached_wire ms p) (select p.requests (λ r. is_some (p.held r))))
    ∙ length-map (select p.requests (λ r. is_some (p.held r))) (cached_wire ms p)
    ∙ select_length p.requests (λ r. is_some (p.held r))))
    h
