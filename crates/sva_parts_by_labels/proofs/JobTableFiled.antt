-- What filing a request does to the open groups, group by group.
use Rattle.std.proofs.Common.{◌≡◌, inl, inr, refl, ap, sym, ◌∙◌, ℕ, ◌+◌, ◌≤◌, Bool, true, false, arith}
use Rattle.std.specs.Prelude.{cond, ◌==◌, ◌&&◌, ◌||◌, not, if◌then◌else◌, Option, Some, None, unwrap_or, List, [], ◌∷◌, map, filter, find}
use Rattle.std.specs.List.{list_any}
use Rattle.std.proofs.lemmas.Bool.Decides.{nat_tests}
use Rattle.sva_labels.specs.Moves.{is_begun}
use Rattle.sva_msg.specs.declared.messages.PageRequest.{PageRequest}
use Rattle.sva_prq.specs.Groups.{OpenGroup, is_collecting, is_of_unit, new_group, with_request, filed_among, unfinished_asks}
use Rattle.sva_prq.proofs.Searches.{find-none}
use Rattle.sva_prq.proofs.Tests.{Same, unfinished_name}
use Rattle.sva_parts_by_labels.specs.JobTable.{group_seen}
use Rattle.sva_parts_by_labels.specs.JobTableLaws.{IsIn, AreRising}
use Rattle.sva_parts_by_labels.proofs.JobTableGroups.{of_unit, begun_here, not_begun}

-- an unfinished group by its unit, binding and index
unfinished_by : (x u y b z i : ℕ) (last : Bool) → x ≡ u → y ≡ b → z ≡ i → last ≡ false → (((x == u && y == b) && z == i) && not last) ≡ true
unfinished_by x u y b z i last h k l m = grind (arith, nat_tests)

pub unfinished_from : (u b i : ℕ) (g : OpenGroup) → g.unit ≡ u → g.binding ≡ b → g.index ≡ i → g.last ≡ false → is_collecting u b i g ≡ true
unfinished_from u b i g h k l m = unfinished_by g.unit u g.binding b g.index i g.last h k l m

-- it is begun where a group of the unit is begun by labels
pub begun_seen : (u b i : ℕ) (gs : List OpenGroup) → list_any (is_begun b i) (of_unit u gs) ≡ list_any (is_collecting u b i) gs
begun_seen u b i [] = refl
begun_seen u b i (g ∷ gs) = go (g.unit == u) refl (begun_seen u b i gs)
  where
    go : (t : Bool) → (g.unit == u) ≡ t → list_any (is_begun b i) (of_unit u gs) ≡ list_any (is_collecting u b i) gs
        → list_any (is_begun b i) (map group_seen (cond t (g ∷ filter (is_of_unit u) gs) (filter (is_of_unit u) gs)))
        ≡ (is_collecting u b i g || list_any (is_collecting u b i) gs)
    go true h rest = λ j. begun_here u b i g h j || rest j
    go false h rest = rest ∙ ap (λ t. t || list_any (is_collecting u b i) gs) (sym (not_begun u b i g h))

module _ (next u b : ℕ) (request : PageRequest) where
  abbrev unfinished : OpenGroup → Bool
  unfinished = is_collecting u b request.index

  abbrev new : OpenGroup
  new = new_group next u b request.index

  abbrev by_parts : List OpenGroup → List OpenGroup
  by_parts = filed_among next u b request

  -- the group that takes the request, as it was
  abbrev pub chosen : List OpenGroup → OpenGroup
  chosen gs = unwrap_or (find unfinished gs) new

  -- where a group of the list after comes from
  pub data FiledFrom (gs : List OpenGroup) (h : OpenGroup) : Type 0 where
    Old : IsIn h gs → FiledFrom gs h
    Joined : (g : OpenGroup) → IsIn g gs → unfinished g ≡ true → h ≡ with_request g request → FiledFrom gs h
    Begun : list_any unfinished gs ≡ false → h ≡ with_request new request → FiledFrom gs h

  pub in_filed : (h : OpenGroup) (gs : List OpenGroup) → IsIn h (by_parts gs) → FiledFrom gs h
  in_filed h [] (inl e) = Begun refl (sym e)
  in_filed h [] (inr m) = absurd m
  in_filed h (g ∷ gs) m = go (unfinished g) refl m (in_filed h gs)
    where
      behind : unfinished g ≡ false → FiledFrom gs h → FiledFrom (g ∷ gs) h
      behind k (Old n) = Old (inr n)
      behind k (Joined x n c e) = Joined x (inr n) c e
      behind k (Begun none e) = Begun (ap (λ t. t || list_any unfinished gs) k ∙ none) e

      go : (t : Bool) → unfinished g ≡ t → IsIn h (cond t (with_request g request ∷ gs) (g ∷ by_parts gs)) → (IsIn h (by_parts gs) → FiledFrom gs h)
          → FiledFrom (g ∷ gs) h
      go true k (inl e) rest = Joined g (inl refl) k (sym e)
      go true k (inr n) rest = Old (inr n)
      go false k (inl e) rest = Old (inl e)
      go false k (inr n) rest = behind k (rest n)

  pub chosen_filed : (gs : List OpenGroup) → IsIn (with_request (chosen gs) request) (by_parts gs)
  chosen_filed [] = inl refl
  chosen_filed (g ∷ gs) = go (unfinished g) (chosen_filed gs)
    where
      go : (t : Bool) → IsIn (with_request (chosen gs) request) (by_parts gs)
          → IsIn (with_request (unwrap_or (cond t (Some g) (find unfinished gs)) new) request) (cond t (with_request g request ∷ gs) (g ∷ by_parts gs))
      go true rest = inl refl
      go false rest = inr rest

  pub chosen_in : (gs : List OpenGroup) → list_any unfinished gs ≡ true → IsIn (chosen gs) gs × (unfinished (chosen gs) ≡ true)
  chosen_in [] h = absurd (cc (h))
  chosen_in (g ∷ gs) h = go (unfinished g) refl h (chosen_in gs)
    where
      go : (t : Bool) → unfinished g ≡ t → (t || list_any unfinished gs) ≡ true
          → (list_any unfinished gs ≡ true → IsIn (chosen gs) gs × (unfinished (chosen gs) ≡ true))
          → IsIn (unwrap_or (cond t (Some g) (find unfinished gs)) new) (g ∷ gs) × (unfinished (unwrap_or (cond t (Some g) (find unfinished gs)) new) ≡ true)
      go true k any rest = (inl refl, k)
      go false k any rest = let r = rest any in (inr r.0, r.1)

  pub chosen_new : (gs : List OpenGroup) → list_any unfinished gs ≡ false → chosen gs ≡ new
  chosen_new gs none = ap (λ o. unwrap_or o new) (find-none unfinished gs none)

  -- it is of the unit, the binding and the index
  pub chosen_named : (gs : List OpenGroup) → Same (chosen gs).unit (chosen gs).binding (chosen gs).index u b request.index
  chosen_named gs = go (list_any unfinished gs) refl
    where
      go : (t : Bool) → list_any unfinished gs ≡ t → Same (chosen gs).unit (chosen gs).binding (chosen gs).index u b request.index
      go true h = unfinished_name u b request.index (chosen gs) (chosen_in gs h).1
      go false h =
          let is = chosen_new gs h in
          record { units = ap (λ (g : OpenGroup). g.unit) is; bindings = ap (λ (g : OpenGroup). g.binding) is; indexes = ap (λ (g : OpenGroup). g.index) is }

  pub chosen_asks : (gs : List OpenGroup) → (chosen gs).asks ≡ unfinished_asks u b request.index gs
  chosen_asks gs = go (find unfinished gs)
    where
      go : (o : Option OpenGroup) → (unwrap_or o new).asks ≡ (unwrap_or o (new_group 0 u b request.index)).asks
      go None = refl
      go (Some g) = refl

  abbrev pub next_after : List OpenGroup → ℕ
  next_after gs = if list_any unfinished gs then next else next + 1

  pub next_more : (gs : List OpenGroup) → next ≤ next_after gs
  next_more gs = go (list_any unfinished gs)
    where
      go : (t : Bool) → next ≤ (if t then next else next + 1)
      go true = omega arith
      go false = omega arith

  pub rising_filed : (low : ℕ) (gs : List OpenGroup) → AreRising low next gs → AreRising low (next_after gs) (by_parts gs)
  rising_filed low [] h = (h, omega arith)
  rising_filed low (g ∷ gs) h = go (unfinished g) h.1 (rising_filed (g.serial + 1) gs h.1)
    where
      go : (t : Bool) → AreRising (g.serial + 1) next gs → AreRising (g.serial + 1) (next_after gs) (by_parts gs)
          → AreRising low (if t || list_any unfinished gs then next else next + 1) (cond t (with_request g request ∷ gs) (g ∷ by_parts gs))
      go true old rest = (h.0, old)
      go false old rest = (h.0, rest)
