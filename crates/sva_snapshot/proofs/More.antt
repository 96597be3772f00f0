-- One thing more of a list that is copied.
use Rattle.std.proofs.Common.{◌≡◌, ℕ, ◌+◌, ◌<◌, zero, suc, List, [], ◌∷◌, ◌++◌, Some, length, get_or, map, take, filter, slice_get}
use Rattle.std.proofs.Common.{Bool, true, false, cond, refl, sym, ap, ap₂, ◌∙◌, arith}
use Rattle.std.proofs.lemmas.List.{append-nil, get_or-map, length-map, map_more, map_push, take-map, take_more}
use Rattle.std.proofs.lemmas.List.Elements.{filter_more}
use Rattle.std.proofs.lemmas.Option.{slice_get_within, get_or_from_slice_get}
use Rattle.sva_model.specs.Wire.{EndpointWire, HostGroupWire}
use Rattle.sva_core.specs.HostSeen.{parts_with}
use Rattle.sva_snapshot.specs.Shown.{part_with}

-- plain copies
pub copied_more : {A : Type 0} (xs ys : List A) (i : ℕ) (y : A) → slice_get ys i ≡ Some y → xs ≡ take i ys → xs ++ y ∷ [] ≡ take (i + 1) ys
copied_more xs ys i y at before =
    ap₂ (λ front last. front ++ last ∷ []) before (sym (get_or_from_slice_get ys i y y at)) ∙ sym (take_more ys i y (slice_get_within ys i y at))

-- copies that show what was copied
pub taken_more : {A C : Type 0} (f : A → C) (xs : List A) (x : A) (ys : List C) (i : ℕ) → slice_get ys i ≡ Some (f x) → map f xs ≡ take i ys
    → map f (xs ++ x ∷ []) ≡ take (i + 1) ys
taken_more f xs x ys i at before = map_push f xs x ∙ copied_more (map f xs) ys i (f x) at before

-- what is shown of the copies is what is seen of those that were copied, and so with the next one
pub shown_more : {A B C : Type 0} (f : A → C) (g : B → C) (xs : List A) (x : A) (ys : List B) (i : ℕ) (y : B) → slice_get ys i ≡ Some y
    → map f xs ≡ map g (take i ys) → f x ≡ g y → map f (xs ++ x ∷ []) ≡ map g (take (i + 1) ys)
shown_more f g xs x ys i y at before same =
    map_push f xs x
    ∙ ap₂ (λ front last. front ++ last ∷ []) before (same ∙ ap g (sym (get_or_from_slice_get ys i y y at)))
    ∙ sym (map_more g ys i y (slice_get_within ys i y at))

-- the same where one that fails a test is left out
module _ {A B C : Type 0} (f : A → C) (g : B → C) (p : B → Bool) (xs : List A) (ys : List B) (i : ℕ) (y : B) (at : slice_get ys i ≡ Some y)
    (before : map f xs ≡ map g (filter p (take i ys))) where
  next : (b : Bool) → p y ≡ b → filter p (take (i + 1) ys) ≡ filter p (take i ys) ++ cond b (y ∷ []) []
  next b is =
      filter_more p ys i y (slice_get_within ys i y at)
      ∙ ap (λ z. filter p (take i ys) ++ cond (p z) (z ∷ []) []) (get_or_from_slice_get ys i y y at)
      ∙ ap (λ t. filter p (take i ys) ++ cond t (y ∷ []) []) is

  pub passed_more : (x : A) → p y ≡ true → f x ≡ g y → map f (xs ++ x ∷ []) ≡ map g (filter p (take (i + 1) ys))
  passed_more x passes same =
      map_push f xs x
      ∙ ap₂ (λ front last. front ++ last ∷ []) before same
      ∙ sym (ap (map g) (next true passes) ∙ map_push g (filter p (take i ys)) y)

  pub failed_more : p y ≡ false → map f xs ≡ map g (filter p (take (i + 1) ys))
  failed_more fails = before ∙ sym (ap (map g) (next false fails ∙ append-nil (filter p (take i ys))))

-- an endpoint more, with its groups
parts_more : (groups : ℕ → List HostGroupWire) (parts : List EndpointWire) (i : ℕ) (d : EndpointWire) → i < length parts
    → parts_with groups (take (i + 1) parts) ≡ parts_with groups (take i parts) ++ part_with (groups i) (get_or parts i d) ∷ []
parts_more groups [] i d below = absurd (omega (arith, below))
parts_more groups (part ∷ parts) zero d below = refl
parts_more groups (part ∷ parts) (suc i) d below =
    let e : suc i + 1 ≡ suc (i + 1) = omega arith in
    ap (λ n. parts_with groups (take n (part ∷ parts))) e
    ∙ ap (λ rest. part_with (groups 0) part ∷ rest) (parts_more (λ e. groups (suc e)) parts i d (omega arith))

pub endpoint_more : {A P : Type 0} (f : A → EndpointWire) (g : P → EndpointWire) (groups : ℕ → List HostGroupWire) (xs : List A) (x : A) (ps : List P)
    (i : ℕ) (p : P) → slice_get ps i ≡ Some p → map f xs ≡ parts_with groups (map g (take i ps)) → f x ≡ part_with (groups i) (g p)
    → map f (xs ++ x ∷ []) ≡ parts_with groups (map g (take (i + 1) ps))
endpoint_more f g groups xs x ps i p at before same =
    let below = slice_get_within ps i p at in
    let long : i < length (map g ps) = rw length-map below in
    map_push f xs x
    ∙ ap₂ (λ front last. front ++ last ∷ [])
    (before ∙ ap (parts_with groups) (sym (take-map g i ps)))
    (same ∙ ap (λ q. part_with (groups i) q) (sym (get_or-map g ps i p (g p) below ∙ ap g (get_or_from_slice_get ps i p p at))))
    ∙ sym (parts_more groups (map g ps) i (g p) long)
    ∙ ap (parts_with groups) (take-map g (i + 1) ps)
