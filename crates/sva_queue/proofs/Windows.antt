-- The part of a table that holds a list, from one place on and round the table's end.
use Rattle.std.proofs.Common.{◌≡◌, ℕ, ◌+◌, ◌-◌, ◌%◌, ◌<◌, ◌≤◌, ◌⊎◌, List, [], ◌∷◌, ◌++◌, length, get_or, take, drop, set, ap, sym, ◌∙◌, ap₂, inl, inr}
use Rattle.std.proofs.Common.{Some, slice_get}
use Rattle.std.proofs.Common.{mod-eq_of_lt, arith, length-append, length-drop, length-set, length-take-le, get_or-drop, get_or-take}
use native.Mathlib.Nat.{mod-eq-sub-mod, mod-add-mod}
use Rattle.std.proofs.lemmas.List.{same_lists, drop_more, get_or_append_left, get_or-append_right}
use Rattle.std.proofs.lemmas.Bool.{cases_lt}
use Rattle.std.proofs.lemmas.Option.{slice_get-get_or}
use Rattle.std.proofs.lemmas.Grind.{common_steps}
use Rattle.std.proofs.Math.Seq.{take-append_seam}
use Rattle.std.specs.List.{refill}
use Rattle.sva_queue.specs.Ring.{window}

-- a table of the old length takes the old one's place
pub refill_whole : {X : Type 0} (xs ws : List X) → length ws ≡ length xs → refill (length xs) xs ws ≡ ws
refill_whole xs ws same = ap (λ n. take n (ws ++ drop (length ws) xs)) (sym same) ∙ take-append_seam ws (drop (length ws) xs)

-- an index below 2 N wraps once at most
pub mod_wraps_once : (N j : ℕ) → j < N + N → ((j < N) × (j % N ≡ j)) ⊎ ((N ≤ j) × (j % N ≡ j - N))
mod_wraps_once N j below = elim (cases_lt j N) [
  | inl low ↦ inl (low, mod-eq_of_lt low)
  | inr high ↦ inr (high, mod-eq-sub-mod high ∙ mod-eq_of_lt (omega arith))
]

module _ {X : Type 0} (N k n : ℕ) (xs : List X) (start_in_range : k < N) (len_fits : n ≤ N) (length_xs : length xs ≡ N) where
  -- the window has n items
  pub length-window : length (window k n xs) ≡ n
  length-window = length-take-le n _ (simp (length-append, length-drop) (omega (arith, length-take-le k xs (omega arith))))

  -- item i of the window is at the place (k + i) % N, which is before the end of the table or past it
  get_or-window : (i : ℕ) (d : X) → i < n → get_or (window k n xs) i d ≡ get_or xs ((k + i) % N) d
  get_or-window i d in_range =
      let length_tail = length-drop k xs in
      get_or-take n _ i d in_range ∙ elim (mod_wraps_once N (k + i) (omega arith)) [
        | inl unwrapped ↦ get_or_append_left _ _ d i (omega arith) ∙ get_or-drop k xs i d ∙ ap (λ j. get_or xs j d) (omega arith)
        | inr wrapped ↦ get_or-append_right _ _ (N - k) i d (omega arith) (omega arith) ∙ get_or-take k xs _ d (omega arith)
            ∙ ap (λ j. get_or xs j d) (omega arith)
      ]

  -- and so is what is read there
  pub window_at : (i : ℕ) (d : X) → i < n → slice_get (window k n xs) i ≡ Some (get_or xs ((k + i) % N) d)
  window_at i d in_range =
      let long = length-window in
      slice_get-get_or (window k n xs) i d (omega arith) ∙ ap Some (get_or-window i d in_range)

-- A second block, since these use the lemmas above at other windows.
module _ {X : Type 0} (N k n : ℕ) (xs : List X) (start_in_range : k < N) (len_fits : n ≤ N) (length_xs : length xs ≡ N) where
  -- a write behind the last item adds it at the end; the two lists are compared item by item
  pub window_after_push : (x : X) → n < N → window k (n + 1) (set xs ((k + n) % N) x) ≡ window k n xs ++ x ∷ []
  window_after_push x has_room =
      let ys = set xs ((k + n) % N) x in
      let length_ys = length-set xs ((k + n) % N) x ∙ length_xs in
      let length_old = length-window N k n xs start_in_range len_fits length_xs in
      let length_new = length-window N k (n + 1) ys start_in_range (omega arith) length_ys in
      let written_slot = mod_wraps_once N (k + n) (omega arith) in
      same_lists _ _ (grind (arith, common_steps)) (λ i d in_range. grind (
        arith,
        common_steps,
        mod_wraps_once N (k + i) (omega arith),
        get_or-window N k n xs start_in_range len_fits length_xs i d,
        get_or-window N k (n + 1) ys start_in_range (omega arith) length_ys i d,
      ))

  -- the window is its first place, then the window from the next one; the tails are compared item by item
  pub window_before_pop : (d : X) → 0 < n → window k n xs ≡ get_or xs k d ∷ window ((k + 1) % N) (n - 1) xs
  window_before_pop z nonempty =
      let next_in_range : (k + 1) % N < N = grind (arith, mod_wraps_once N (k + 1) (omega arith)) in
      let length_old = length-window N k n xs start_in_range len_fits length_xs in
      let length_new = length-window N ((k + 1) % N) (n - 1) xs next_in_range (omega arith) length_xs in
      let old_item = get_or-window N k n xs start_in_range len_fits length_xs in
      drop_more _ 0 z (omega arith)
      ∙ ap₂ ◌∷◌ (grind (arith, old_item 0 z, mod_wraps_once N k)) (same_lists _ _ (simp length-drop (omega arith)) (λ i d in_range. grind (
        arith,
        length-drop 1 (window k n xs),
        get_or-drop 1 (window k n xs) i d,
        mod-add-mod (k + 1) N i,
        old_item (1 + i) d,
        get_or-window N _ (n - 1) xs next_in_range (omega arith) length_xs i d,
      )))
