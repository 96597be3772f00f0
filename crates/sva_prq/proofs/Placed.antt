-- Where a group is put among others.
use Rattle.std.proofs.Common.{◌≡◌, ℕ, ◌+◌, ◌≤◌, suc, true, false, not, cond, nat_lt, List, [], ◌∷◌, ◌++◌, length, take, drop}
use Rattle.std.proofs.Common.{Bool, Option, Some, None, refl, sym, ap, ap₂, ◌∙◌, arith}
use Rattle.std.specs.List.{insert, position, position_or_len}
use Rattle.std.proofs.lemmas.Bool.{ltb-false}
use Rattle.std.proofs.lemmas.List.{drop_all, take_all}
use Rattle.std.proofs.lemmas.Option.{cond_some}
use Rattle.sva_prq.specs.Groups.{OpenGroup}
use Rattle.sva_prq.specs.Slots.{is_behind, placed}

-- how many groups began before it
abbrev place_for : OpenGroup → List OpenGroup → ℕ
place_for g gs = position_or_len (is_behind g.serial) gs

-- a group stands before the first that began after it
placed_at : (g : OpenGroup) (gs : List OpenGroup) → take (place_for g gs) gs ++ g ∷ drop (place_for g gs) gs ≡ placed g gs
placed_at g [] = refl
placed_at g (h ∷ hs) =
    elim (nat_lt g.serial h.serial)
    as (λ t. take (cond (not t) (1 + place_for g hs) 0) (h ∷ hs) ++ g ∷ drop (cond (not t) (1 + place_for g hs) 0) (h ∷ hs)
    ≡ cond t (g ∷ h ∷ hs) (h ∷ placed g hs)) [
      | true ↦ refl
      | false ↦ let e : 1 + place_for g hs ≡ suc (place_for g hs) = omega arith in
          ap (λ n. take n (h ∷ hs) ++ g ∷ drop n (h ∷ hs)) e ∙ ap (λ ks. h ∷ ks) (placed_at g hs)
    ]

-- where one is found, it is put before that
pub inserted : (g : OpenGroup) (gs : List OpenGroup) (i : ℕ) → position (is_behind g.serial) gs ≡ Some i → insert gs i g ≡ placed g gs
inserted g gs i at = ap (λ n. take n gs ++ g ∷ drop n gs) (sym (cond_some _ _ _ at).1) ∙ placed_at g gs

past : (a b : ℕ) → cond (nat_lt a b) (Some a) None ≡ None → b ≤ a
past a b none =
    (elim (nat_lt a b) as (λ t. nat_lt a b ≡ t → cond t (Some a) None ≡ None → b ≤ a) [
      | true ↦ λ e is. absurd (cc)
      | false ↦ λ e is. ltb-false a b e
    ]) refl none

-- where none is, behind all
pub pushed : (g : OpenGroup) (gs : List OpenGroup) → position (is_behind g.serial) gs ≡ None → gs ++ g ∷ [] ≡ placed g gs
pushed g gs none =
    let long = past (place_for g gs) (length gs) none in
    ap₂ (λ front back. front ++ g ∷ back) (sym (take_all (place_for g gs) gs long)) (sym (drop_all (place_for g gs) gs long)) ∙ placed_at g gs
