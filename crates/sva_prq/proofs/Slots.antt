-- What a write, a removal and an insertion in the slots do to the open groups, and that the slots stay as they have to be.
use Rattle.std.proofs.Common.{◌≡◌, ◌≢◌, ◌⊎◌, ℕ, ◌+◌, ◌<◌, ◌≤◌, Bool, true, false, not, cond, List, [], ◌∷◌, ◌++◌, length, get_or, set, count_by, filter}
use Rattle.std.proofs.Common.{Option, Some, None, is_some, IfSome, IfNone, refl, sym, ap, ◌∙◌, subst, inl, inr, arith, get_or-set_same, get_or-set_other}
use Rattle.std.proofs.Common.{length-set}
use Rattle.std.proofs.lemmas.Bool.{cases_eq, cases_lt, and_parts, and_from, eqb-true, eq-eqb, true≢false, false_from_ne_true, not-true}
use Rattle.std.proofs.lemmas.List.{get_or_past}
use Rattle.std.proofs.lemmas.List.Sums.{sum_by-cons}
use Rattle.std.proofs.lemmas.Option.{same_Some}
use Rattle.std.specs.List.{find, list_any}
use Rattle.sva_msg.specs.declared.messages.PageRequest.{PageRequest}
use Rattle.sva_prq.specs.Groups.{OpenGroup, is_collecting, has_job, is_of_unit, is_of_other_unit, with_request, filed_among, answered_among}
use Rattle.sva_prq.specs.Slots.{IsAt, groups_in, cell_of, AreKept, passes_at, MayHold}
use Rattle.sva_prq.proofs.Seats
use Rattle.sva_prq.proofs.Searches.{find-first, filed_among-first, answered_among-first}
use Rattle.sva_prq.proofs.Tests.{unfinished_name, unfinished_part}

-- each group of the new slots comes from one of the old slots, of the same serial and name, and unfinished if it is
pub record Source (old : List (Option OpenGroup)) (key : ℕ) (h : OpenGroup) : Type 0 where
  pub group : OpenGroup
  pub at : IsAt old key group
  pub serials : h.serial ≡ group.serial
  pub units : h.unit ≡ group.unit
  pub bindings : h.binding ≡ group.binding
  pub indexes : h.index ≡ group.index
  pub part : h.last ≡ false → group.last ≡ false

pub kept-from : (old new : List (Option OpenGroup)) (cells : List (Option ℕ)) (next : ℕ)
    → ((key : ℕ) (h : OpenGroup) → IsAt new key h → Source old key h) → AreKept old cells next → AreKept new cells next
kept-from old new cells next source kept =
    record {
      given = λ key h at.
          let s = source key h at in subst (λ n. n < next) (sym s.serials) (kept.given key s.group s.at);
      apart = λ j k g h at_j at_k same.
          let s = source j g at_j in
          let t = source k h at_k in
          kept.apart j k s.group t.group s.at t.at (sym s.serials ∙ same ∙ t.serials);
      single = λ j k g h at_j at_k part_g part_h units bindings indexes.
          let s = source j g at_j in
          let t = source k h at_k in
          kept.single j k s.group t.group s.at t.at (s.part part_g) (t.part part_h)
          (sym s.units ∙ units ∙ t.units) (sym s.bindings ∙ bindings ∙ t.bindings) (sym s.indexes ∙ indexes ∙ t.indexes);
      celled = λ j k g at part read.
          let s = source k g at in
          kept.celled j k s.group s.at (s.part part)
          ((λ i. get_or cells (cell_of (sym s.units i) (sym s.indexes i)) None) ∙ read);
    }

same_source : (old : List (Option OpenGroup)) (key : ℕ) (h : OpenGroup) → IsAt old key h → Source old key h
same_source old key h at =
    record { group = h; at = at; serials = refl; units = refl; bindings = refl; indexes = refl; part = λ e. e }

-- an unfinished group is where its cell leads
may_hold : (slots : List (Option OpenGroup)) (cells : List (Option ℕ)) (next : ℕ) → AreKept slots cells next → (k : ℕ) (g : OpenGroup)
    → IsAt slots k g → g.last ≡ false → MayHold (get_or cells (cell_of g.unit g.index) None) k
may_hold slots cells next kept k g at part = go (get_or cells (cell_of g.unit g.index) None) refl
  where
    go : (cell : Option ℕ) → get_or cells (cell_of g.unit g.index) None ≡ cell → MayHold cell k
    go None e = tt
    go (Some only) e = kept.celled only k g at part e

pub none_unfinished : (slots : List (Option OpenGroup)) (cells : List (Option ℕ)) (next unit binding index place : ℕ) → AreKept slots cells next
    → place ≡ cell_of unit index
    → ((k : ℕ) → MayHold (get_or cells place None) k → passes_at (is_collecting unit binding index) (get_or slots k None) ≡ false)
    → (k : ℕ) (g : OpenGroup) → IsAt slots k g → is_collecting unit binding index g ≡ false
none_unfinished slots cells next unit binding index place kept cell absent k g at =
    false_from_ne_true _ (λ passes.
    let name = unfinished_name unit binding index g passes in
    let holds = may_hold slots cells next kept k g at (unfinished_part unit binding index g passes) in
    let here = subst (λ c. MayHold (get_or cells c None) k) ((λ i. cell_of (name.units i) (name.indexes i)) ∙ sym cell) holds in
    true≢false (sym passes ∙ ap (passes_at (is_collecting unit binding index)) (sym at) ∙ absent k here))

-- a test that fails in all slots fails in all groups, and one that passes at a key passes there
pub none_in : (p : OpenGroup → Bool) (slots : List (Option OpenGroup)) → ((k : ℕ) (g : OpenGroup) → IsAt slots k g → p g ≡ false)
    → list_any p (groups_in slots) ≡ false
none_in p slots fails =
    Seats.none_has p (groups_in slots) (λ g has. let there = Seats.of_groups slots g has in fails there.0 g there.1)

pub passing_at : (p : OpenGroup → Bool) (o : Option OpenGroup) → passes_at p o ≡ true → (g : OpenGroup) × (o ≡ Some g) × (p g ≡ true)
passing_at p None passes = absurd (true≢false (sym passes))
passing_at p (Some g) passes = (g, refl, passes)

pub failing_at : (p : OpenGroup → Bool) (slots : List (Option OpenGroup)) → ((k : ℕ) → passes_at p (get_or slots k None) ≡ false)
    → (k : ℕ) (g : OpenGroup) → IsAt slots k g → p g ≡ false
failing_at p slots fails k g at = ap (passes_at p) (sym at) ∙ fails k

pub any_at : (p : OpenGroup → Bool) (slots : List (Option OpenGroup)) (k : ℕ) (g : OpenGroup) → IsAt slots k g → p g ≡ true
    → list_any p (groups_in slots) ≡ true
any_at p slots k g at passes = Seats.any_has p (groups_in slots) g (Seats.in_groups slots k g at) passes

-- a group at a key, among the others
module _ (old new : List (Option OpenGroup)) (cells : List (Option ℕ)) (next : ℕ) (kept : AreKept old cells next) (key : ℕ) (g : OpenGroup)
    (at : IsAt old key g) (others : (other : ℕ) → other ≢ key → get_or new other None ≡ get_or old other None) where
  abbrev gs : List OpenGroup
  gs = groups_in old

  pub place : Seats.Around gs g
  place = Seats.around gs g (Seats.in_groups old key g at)

  up : Seats.Rising (place.front ++ g ∷ place.back)
  up = subst Seats.Rising place.whole (Seats.rising_groups old kept.apart)

  -- a group with another serial is in the old slots where it is in the new ones
  there_now : (h : OpenGroup) → Seats.Has gs h → h.serial ≢ g.serial → (k : ℕ) × IsAt new k h
  there_now h has differs =
      let there = Seats.of_groups old h has in
      let other : there.0 ≢ key = λ same.
      differs (ap (λ (x : OpenGroup). x.serial) (same_Some h g (sym there.1 ∙ ap (λ k. get_or old k None) same ∙ at))) in
      (there.0, others there.0 other ∙ there.1)

  front_now : (h : OpenGroup) → Seats.Has place.front h → (k : ℕ) × IsAt new k h
  front_now h has =
      there_now h (subst (λ xs. Seats.Has xs h) (sym place.whole) (Seats.has_front place.front (g ∷ place.back) h has))
      (Seats.front_differs place.front place.back g h up has)

  back_now : (h : OpenGroup) → Seats.Has place.back h → (k : ℕ) × IsAt new k h
  back_now h has =
      there_now h (subst (λ xs. Seats.Has xs h) (sym place.whole) (Seats.has_back place.front (g ∷ place.back) h (inr has)))
      (Seats.back_differs place.front place.back g h up has)

  -- and a group at another key was there before, in front of this one or behind it
  was_there : (k : ℕ) (h : OpenGroup) → k ≢ key → IsAt new k h → Seats.Has place.back h ⊎ Seats.Has place.front h
  was_there k h differs is =
      let was : IsAt old k h = sym (others k differs) ∙ is in
      let has = subst (λ xs. Seats.Has xs h) place.whole (Seats.in_groups old k h was) in
      elim (Seats.has_append place.front (g ∷ place.back) h has) [
        | inl before ↦ inr before
        | inr behind ↦ elim behind [
          | inl here ↦ absurd (differs (kept.apart k key h g was at (ap (λ (x : OpenGroup). x.serial) (sym here))))
          | inr later ↦ inl later
        ]
      ]

  -- a test that passes at this group, and at no other one, finds it
  none_front : (p : OpenGroup → Bool) → ((k : ℕ) (h : OpenGroup) → IsAt old k h → p h ≡ true → k ≡ key) → list_any p place.front ≡ false
  none_front p only =
      Seats.none_has p place.front (λ h has.
      false_from_ne_true _ (λ passes.
      let in_old = subst (λ xs. Seats.Has xs h) (sym place.whole) (Seats.has_front place.front (g ∷ place.back) h has) in
      let there = Seats.of_groups old h in_old in
      let same = only there.0 h there.1 passes in
      Seats.front_differs place.front place.back g h up has
      (ap (λ (x : OpenGroup). x.serial) (same_Some h g (sym there.1 ∙ ap (λ k. get_or old k None) same ∙ at)))))

  -- another group with its serial is written over it
  pub groups-written : (h : OpenGroup) → h.serial ≡ g.serial → IsAt new key h → AreKept new cells next → groups_in new ≡ place.front ++ h ∷ place.back
  groups-written h same is kept_new =
      Seats.same_rising (groups_in new) (place.front ++ h ∷ place.back) (Seats.rising_groups new kept_new.apart)
      (Seats.rising_swap place.front place.back g h (sym same) up)
      (λ x has.
      let there = Seats.of_groups new x has in
      elim (cases_eq there.0 key) [
        | inl here ↦
            Seats.has_back place.front (h ∷ place.back) x
            (inl (same_Some h x (sym is ∙ ap (λ k. get_or new k None) (sym here) ∙ there.1)))
        | inr differs ↦ elim (was_there there.0 x differs there.1) [
          | inl behind ↦ Seats.has_back place.front (h ∷ place.back) x (inr behind)
          | inr before ↦ Seats.has_front place.front (h ∷ place.back) x before
        ]
      ])
      (λ x has.
      elim (Seats.has_append place.front (h ∷ place.back) x has) [
        | inl before ↦ let now = front_now x before in Seats.in_groups new now.0 x now.1
        | inr behind ↦ elim behind [
          | inl here ↦ Seats.in_groups new key x (is ∙ ap Some here)
          | inr later ↦ let now = back_now x later in Seats.in_groups new now.0 x now.1
        ]
      ])

  -- it is taken out
  pub groups-removed : get_or new key None ≡ None → AreKept new cells next → groups_in new ≡ place.front ++ place.back
  groups-removed gone kept_new =
      Seats.same_rising (groups_in new) (place.front ++ place.back) (Seats.rising_groups new kept_new.apart)
      (Seats.rising_without place.front place.back g up)
      (λ x has.
      let there = Seats.of_groups new x has in
      let differs : there.0 ≢ key = λ same. absurd (cc (sym gone ∙ ap (λ k. get_or new k None) (sym same) ∙ there.1)) in
      elim (was_there there.0 x differs there.1) [
        | inl behind ↦ Seats.has_back place.front place.back x behind
        | inr before ↦ Seats.has_front place.front place.back x before
      ])
      (λ x has.
      elim (Seats.has_append place.front place.back x has) [
        | inl before ↦ let now = front_now x before in Seats.in_groups new now.0 x now.1
        | inr behind ↦ let now = back_now x behind in Seats.in_groups new now.0 x now.1
      ])

  pub kept-removed : get_or new key None ≡ None → AreKept new cells next
  kept-removed gone =
      kept-from old new cells next (λ k h is.
      let differs : k ≢ key = λ same. absurd (cc (sym gone ∙ ap (λ j. get_or new j None) (sym same) ∙ is)) in
      same_source old k h (sym (others k differs) ∙ is)) kept

  -- the answer to its job
  pub groups-answered : (serial : ℕ) → has_job serial g ≡ true → get_or new key None ≡ None → groups_in new ≡ answered_among serial gs
  groups-answered serial whole gone =
      let mine = eqb-true _ _ (and_parts _ _ whole).0 in
      let none = none_front (has_job serial) (λ k h is passes.
      kept.apart k key h g is at (eqb-true _ _ (and_parts _ _ passes).0 ∙ sym mine)) in
      groups-removed gone (kept-removed gone)
      ∙ sym (answered_among-first serial place.front g place.back none whole)
      ∙ ap (answered_among serial) (sym place.whole)

  -- a request is filed in it
  module _ (unit binding : ℕ) (request : PageRequest) (passes : is_collecting unit binding request.index g ≡ true) where
    none_before : list_any (is_collecting unit binding request.index) place.front ≡ false
    none_before =
        let name = unfinished_name unit binding request.index g passes in
        let part = unfinished_part unit binding request.index g passes in
        none_front (is_collecting unit binding request.index) (λ k h is mine.
        let other = unfinished_name unit binding request.index h mine in
        kept.single k key h g is at (unfinished_part unit binding request.index h mine) part
        (other.units ∙ sym name.units) (other.bindings ∙ sym name.bindings) (other.indexes ∙ sym name.indexes))

    pub found-joined : find (is_collecting unit binding request.index) gs ≡ Some g
    found-joined =
        ap (find (is_collecting unit binding request.index)) place.whole
        ∙ find-first (is_collecting unit binding request.index) place.front g place.back none_before passes

    pub kept-joined : IsAt new key (with_request g request) → AreKept new cells next
    kept-joined is =
        kept-from old new cells next (λ k h here.
        elim (cases_eq k key) [
          | inl same ↦
              let group : with_request g request ≡ h = same_Some _ _ (sym is ∙ ap (λ j. get_or new j None) (sym same) ∙ here) in
              record {
                group = g;
                at = ap (λ j. get_or old j None) same ∙ at;
                serials = ap (λ (x : OpenGroup). x.serial) (sym group);
                units = ap (λ (x : OpenGroup). x.unit) (sym group);
                bindings = ap (λ (x : OpenGroup). x.binding) (sym group);
                indexes = ap (λ (x : OpenGroup). x.index) (sym group);
                part = λ _. unfinished_part unit binding request.index g passes;
              }
          | inr differs ↦ same_source old k h (sym (others k differs) ∙ here)
        ]) kept

    pub groups-joined : (n : ℕ) → IsAt new key (with_request g request) → groups_in new ≡ filed_among n unit binding request gs
    groups-joined n is =
        groups-written (with_request g request) refl is (kept-joined is)
        ∙ sym (filed_among-first n unit binding request place.front g place.back none_before passes)
        ∙ ap (filed_among n unit binding request) (sym place.whole)

-- a group begins at a vacant key
module _ (old new : List (Option OpenGroup)) (cells : List (Option ℕ)) (next : ℕ) (kept : AreKept old cells next) (key : ℕ) (g : OpenGroup)
    (vacant : get_or old key None ≡ None) (is : IsAt new key g) (others : (other : ℕ) → other ≢ key → get_or new other None ≡ get_or old other None)
    (serial : g.serial ≡ next) where
  -- a group at a key is the new one, or was there
  new_or_old : (k : ℕ) (h : OpenGroup) → IsAt new k h → ((k ≡ key) × (g ≡ h)) ⊎ IsAt old k h
  new_or_old k h here =
      elim (cases_eq k key) [
        | inl same ↦ inl (same, same_Some g h (sym is ∙ ap (λ j. get_or new j None) (sym same) ∙ here))
        | inr differs ↦ inr (sym (others k differs) ∙ here)
      ]

  older : (k : ℕ) (h : OpenGroup) → IsAt old k h → IsAt new k h
  older k h was =
      others k (λ same. absurd (cc (sym vacant ∙ ap (λ j. get_or old j None) (sym same) ∙ was))) ∙ was

  given_begun : (k : ℕ) (h : OpenGroup) → IsAt new k h → h.serial < next + 1
  given_begun k h here =
      elim (new_or_old k h here) [
        | inl mine ↦ let same : h.serial ≡ next = ap (λ (x : OpenGroup). x.serial) (sym mine.1) ∙ serial in omega (arith, same)
        | inr was ↦ let low = kept.given k h was in omega (arith, low)
      ]

  fresh : (k : ℕ) (g' h : OpenGroup) → g ≡ g' → IsAt old k h → g'.serial ≡ h.serial → ⊥
  fresh k g' h same was serials =
      let low = kept.given k h was in
      let mine : h.serial ≡ next = sym serials ∙ ap (λ (x : OpenGroup). x.serial) (sym same) ∙ serial in
      absurd (omega (arith, low, mine))

  apart_begun : Seats.AreApart new
  apart_begun j k x y at_j at_k same =
      elim (new_or_old j x at_j) [
        | inl mine ↦ elim (new_or_old k y at_k) [
          | inl also ↦ mine.0 ∙ sym also.0
          | inr was ↦ absurd (fresh k x y mine.1 was same)
        ]
        | inr was ↦ elim (new_or_old k y at_k) [
          | inl mine ↦ absurd (fresh j y x mine.1 was (sym same))
          | inr also ↦ kept.apart j k x y was also same
        ]
      ]

  pub groups-begun : groups_in new ≡ groups_in old ++ g ∷ []
  groups-begun =
      Seats.same_rising (groups_in new) (groups_in old ++ g ∷ []) (Seats.rising_groups new apart_begun)
      (Seats.rising_push (groups_in old) g
      (λ h has. let there = Seats.of_groups old h has in subst (λ n. h.serial < n) (sym serial) (kept.given there.0 h there.1))
      (Seats.rising_groups old kept.apart))
      (λ h has.
      let there = Seats.of_groups new h has in
      elim (new_or_old there.0 h there.1) [
        | inl mine ↦ Seats.has_back (groups_in old) (g ∷ []) h (inl mine.1)
        | inr was ↦ Seats.has_front (groups_in old) (g ∷ []) h (Seats.in_groups old there.0 h was)
      ])
      (λ h has.
      elim (Seats.has_append (groups_in old) (g ∷ []) h has) [
        | inl before ↦ let there = Seats.of_groups old h before in Seats.in_groups new there.0 h (older there.0 h there.1)
        | inr last ↦ elim last [
          | inl here ↦ Seats.in_groups new key h (is ∙ ap Some here)
          | inr none ↦ absurd none
        ]
      ])

  -- no other group of its name is unfinished, and its cell leads to it alone, or nowhere
  module _ (cell : Option ℕ) (none : (k : ℕ) (h : OpenGroup) → IsAt old k h → is_collecting g.unit g.binding g.index h ≡ false)
      (leads : (j : ℕ) → cell ≡ Some j → (j ≡ key) × ((k : ℕ) → MayHold (get_or cells (cell_of g.unit g.index) None) k → (h : OpenGroup) → IsAt old k
      h → h.last ≡ true)) where
    not_twin : (k : ℕ) (g' h : OpenGroup) → g ≡ g' → IsAt old k h → h.last ≡ false → h.unit ≡ g'.unit → h.binding ≡ g'.binding → h.index ≡ g'.index → ⊥
    not_twin k g' h same was part units bindings indexes =
        let unfinished : is_collecting g.unit g.binding g.index h ≡ true =
        and_from _ _ (and_from _ _ (and_from _ _ (eq-eqb _ _ (units ∙ ap (λ (x : OpenGroup). x.unit) (sym same)))
        (eq-eqb _ _ (bindings ∙ ap (λ (x : OpenGroup). x.binding) (sym same))))
        (eq-eqb _ _ (indexes ∙ ap (λ (x : OpenGroup). x.index) (sym same)))) (ap not part) in
        true≢false (sym unfinished ∙ none k h was)

    -- what a cell reads once its own is written
    read_same : (c j : ℕ) → get_or (set cells c cell) c None ≡ Some j → cell ≡ Some j
    read_same c j read =
        elim (cases_lt c (length cells)) [
          | inl within ↦ sym (get_or-set_same cells c cell None within) ∙ read
          | inr past ↦
              let long = length-set cells c cell in
              let out : length (set cells c cell) ≤ c = omega (arith, long, past) in
              absurd (cc (sym (get_or_past (set cells c cell) c None out) ∙ read))
        ]

    celled_begun : (j k : ℕ) (h : OpenGroup) → IsAt new k h → h.last ≡ false
        → get_or (set cells (cell_of g.unit g.index) cell) (cell_of h.unit h.index) None ≡ Some j → j ≡ k
    celled_begun j k h here part read =
        elim (cases_eq (cell_of h.unit h.index) (cell_of g.unit g.index)) [
          | inl same ↦
              let lead = leads j (read_same (cell_of g.unit g.index) j (ap (λ c. get_or (set cells (cell_of g.unit g.index) cell) c None) (sym same)
              ∙ read)) in
              elim (new_or_old k h here) [
                | inl mine ↦ lead.0 ∙ sym mine.0
                | inr was ↦
                    let holds = subst (λ c. MayHold (get_or cells c None) k) same (may_hold old cells next kept k h was part) in
                    absurd (true≢false (sym (lead.1 k holds h was) ∙ part))
              ]
          | inr differs ↦
              elim (new_or_old k h here) [
                | inl mine ↦ absurd (differs (ap (λ (x : OpenGroup). cell_of x.unit x.index) (sym mine.1)))
                | inr was ↦
                    kept.celled j k h was part
                    (sym (get_or-set_other cells (cell_of g.unit g.index) (cell_of h.unit h.index) cell None differs) ∙ read)
              ]
        ]

    pub kept-begun : AreKept new (set cells (cell_of g.unit g.index) cell) (next + 1)
    kept-begun =
        record {
          given = given_begun;
          apart = apart_begun;
          single = λ j k x y at_j at_k part_x part_y units bindings indexes.
              elim (new_or_old j x at_j) [
                | inl mine ↦ elim (new_or_old k y at_k) [
                  | inl also ↦ mine.0 ∙ sym also.0
                  | inr was ↦ absurd (not_twin k x y mine.1 was part_y (sym units) (sym bindings) (sym indexes))
                ]
                | inr was ↦ elim (new_or_old k y at_k) [
                  | inl mine ↦ absurd (not_twin j y x mine.1 was part_x units bindings indexes)
                  | inr also ↦ kept.single j k x y was also part_x part_y units bindings indexes
                ]
              ];
          celled = celled_begun;
        }

-- the groups of a unit are taken out
module _ (old new : List (Option OpenGroup)) (cells : List (Option ℕ)) (next unit : ℕ) (kept : AreKept old cells next)
    (gone : (k : ℕ) → passes_at (is_of_unit unit) (get_or old k None) ≡ true → get_or new k None ≡ None)
    (stay : (k : ℕ) → passes_at (is_of_unit unit) (get_or old k None) ≡ false → get_or new k None ≡ get_or old k None) where
  stays : (k : ℕ) (h : OpenGroup) → IsAt new k h → IsAt old k h × (is_of_unit unit h ≡ false)
  stays k h here =
      let other : passes_at (is_of_unit unit) (get_or old k None) ≡ false =
      false_from_ne_true _ (λ mine. absurd (cc (sym (gone k mine) ∙ here))) in
      let was = sym (stay k other) ∙ here in
      (was, ap (passes_at (is_of_unit unit)) (sym was) ∙ other)

  pub kept-dropped : AreKept new cells next
  kept-dropped = kept-from old new cells next (λ k h here. same_source old k h (stays k h here).0) kept

  pub groups-dropped : groups_in new ≡ filter (is_of_other_unit unit) (groups_in old)
  groups-dropped =
      let q = is_of_other_unit unit in
      Seats.same_rising (groups_in new) (filter q (groups_in old)) (Seats.rising_groups new kept-dropped.apart)
      (Seats.rising_filter q (groups_in old) (Seats.rising_groups old kept.apart))
      (λ h has.
      let there = Seats.of_groups new h has in
      let was = stays there.0 h there.1 in
      Seats.filter_has q (groups_in old) h (Seats.in_groups old there.0 h was.0) (ap not was.1))
      (λ h has.
      let is = Seats.has_filter q (groups_in old) h has in
      let there = Seats.of_groups old h is.0 in
      let other = ap (passes_at (is_of_unit unit)) there.1 ∙ not-true _ is.1 in
      Seats.in_groups new there.0 h (stay there.0 other ∙ there.1))

-- those of the unit are as many as a filter leaves out
count_dropped : (unit : ℕ) (gs : List OpenGroup) → length (filter (is_of_other_unit unit) gs) + count_by (is_of_unit unit) gs ≡ length gs
count_dropped unit [] = refl
count_dropped unit (g ∷ gs) =
    let cons = sum_by-cons (λ (h : OpenGroup). cond (is_of_unit unit h) 1 0) g gs in
    let rest = count_dropped unit gs in
    (elim (is_of_unit unit g)
    as (λ t. is_of_unit unit g ≡ t → length (cond (not t) (g ∷ filter (is_of_other_unit unit) gs) (filter (is_of_other_unit unit) gs)) + count_by
    (is_of_unit unit) (g ∷ gs) ≡ length (g ∷ gs)) [
      | true ↦ λ e. let one : ◌≡◌ {A = ℕ} (cond (is_of_unit unit g) 1 0) 1 = ap (λ b. cond b 1 0) e in omega (arith, cons, one, rest)
      | false ↦ λ e. let zero : ◌≡◌ {A = ℕ} (cond (is_of_unit unit g) 1 0) 0 = ap (λ b. cond b 1 0) e in omega (arith, cons, zero, rest)
    ]) refl

pub counted : (old new : List (Option OpenGroup)) (unit count : ℕ) → groups_in new ≡ filter (is_of_other_unit unit) (groups_in old)
    → count_by is_some new + count ≡ count_by is_some old → count ≡ count_by (is_of_unit unit) (groups_in old)
counted old new unit count groups sums =
    let lost = count_dropped unit (groups_in old) in
    let left : length (groups_in new) ≡ length (filter (is_of_other_unit unit) (groups_in old)) = ap length groups in
    omega (arith, lost, left, Seats.length-groups old, Seats.length-groups new, sums)

-- a search that ends tells whether any group passes
pub searched : (p : OpenGroup → Bool) (slots : List (Option OpenGroup)) (key : Option ℕ) → IfSome key (λ k. passes_at p (get_or slots k None) ≡ true)
    → IfNone key ((k : ℕ) → passes_at p (get_or slots k None) ≡ false) → is_some key ≡ list_any p (groups_in slots)
searched p slots None found absent = sym (none_in p slots (failing_at p slots absent))
searched p slots (Some k) found absent =
    let there = passing_at p (get_or slots k None) found in sym (any_at p slots k there.0 there.1 there.2)

-- what fails in all slots fails in some of them
pub fewer : (key : Option ℕ) (may : ℕ → Type 0) (p : OpenGroup → Bool) (slots : List (Option OpenGroup))
    → IfNone key ((k : ℕ) → passes_at p (get_or slots k None) ≡ false) → IfNone key ((k : ℕ) → may k → passes_at p (get_or slots k None) ≡ false)
fewer None may p slots absent = λ k _. absent k
fewer (Some k) may p slots absent = tt
