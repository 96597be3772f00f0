-- The groups of the slots by rising serial: which they are, that they rise, and that two rising lists of the same groups are
-- equal.
use Rattle.std.proofs.Common.{◌≡◌, ◌≢◌, ◌⊎◌, ℕ, zero, suc, ◌<◌, ◌≤◌, Bool, true, false, nat_lt, cond, List, [], ◌∷◌, ◌++◌, length, count_by, filter}
use Rattle.std.proofs.Common.{Option, Some, None, is_some, refl, sym, ap, ◌∙◌, subst, inl, inr, arith}
use Rattle.std.proofs.lemmas.Bool.{true≢false, or_left, or_right, ltb-true, ltb-false}
use Rattle.std.proofs.lemmas.List.Sums.{sum_by-cons}
use Rattle.std.proofs.lemmas.Option.{same_Some}
use Rattle.std.specs.List.{list_any}
use Rattle.sva_prq.specs.Groups.{OpenGroup}
use Rattle.sva_prq.specs.Slots.{IsAt, placed, groups_in}

-- the list has the group
abbrev pub Has : List OpenGroup → OpenGroup → Type 0
Has [] g = ⊥
Has (h ∷ hs) g = (h ≡ g) ⊎ Has hs g

-- all serials are above this one, and serials rise
abbrev pub AllAbove : ℕ → List OpenGroup → Type 0
AllAbove s [] = Unit {0}
AllAbove s (h ∷ hs) = (s < h.serial) × AllAbove s hs

abbrev pub Rising : List OpenGroup → Type 0
Rising [] = Unit {0}
Rising (g ∷ gs) = AllAbove g.serial gs × Rising gs

pub above_lower : (s t : ℕ) (gs : List OpenGroup) → s < t → AllAbove t gs → AllAbove s gs
above_lower s t [] low all = tt
above_lower s t (g ∷ gs) low all = (omega (arith, low, all.0), above_lower s t gs low all.1)

pub above_has : (s : ℕ) (gs : List OpenGroup) (g : OpenGroup) → AllAbove s gs → Has gs g → s < g.serial
above_has s [] g all has = absurd has
above_has s (h ∷ gs) g all has =
    elim has [
      | inl here ↦ subst (λ (x : OpenGroup). s < x.serial) here all.0
      | inr later ↦ above_has s gs g all.1 later
    ]

-- a group in its place
pub placed_has : (g : OpenGroup) (gs : List OpenGroup) → Has (placed g gs) g
placed_has g [] = inl refl
placed_has g (h ∷ hs) =
    elim (nat_lt g.serial h.serial) as (λ t. Has (cond t (g ∷ h ∷ hs) (h ∷ placed g hs)) g) [
      | true ↦ inl refl
      | false ↦ inr (placed_has g hs)
    ]

pub placed_keeps : (g k : OpenGroup) (gs : List OpenGroup) → Has gs k → Has (placed g gs) k
placed_keeps g k [] has = absurd has
placed_keeps g k (h ∷ hs) has =
    elim (nat_lt g.serial h.serial) as (λ t. Has (cond t (g ∷ h ∷ hs) (h ∷ placed g hs)) k) [
      | true ↦ inr has
      | false ↦ elim has [ inl here ↦ inl here | inr later ↦ inr (placed_keeps g k hs later) ]
    ]

pub placed_of : (g k : OpenGroup) (gs : List OpenGroup) → Has (placed g gs) k → (g ≡ k) ⊎ Has gs k
placed_of g k [] has = has
placed_of g k (h ∷ hs) has =
    (elim (nat_lt g.serial h.serial)
    as (λ t. Has (cond t (g ∷ h ∷ hs) (h ∷ placed g hs)) k → (g ≡ k) ⊎ Has (h ∷ hs) k) [
      | true ↦ λ is. is
      | false ↦ λ is. elim is [
        | inl here ↦ inr (inl here)
        | inr later ↦ elim (placed_of g k hs later) [ inl new ↦ inl new | inr old ↦ inr (inr old) ]
      ]
    ]) has

above_placed : (s : ℕ) (g : OpenGroup) (gs : List OpenGroup) → s < g.serial → AllAbove s gs → AllAbove s (placed g gs)
above_placed s g [] low all = (low, tt)
above_placed s g (h ∷ hs) low all =
    elim (nat_lt g.serial h.serial) as (λ t. AllAbove s (cond t (g ∷ h ∷ hs) (h ∷ placed g hs))) [
      | true ↦ (low, all)
      | false ↦ (all.0, above_placed s g hs low all.1)
    ]

rising_placed : (g : OpenGroup) (gs : List OpenGroup) → ((h : OpenGroup) → Has gs h → g.serial ≢ h.serial) → Rising gs → Rising (placed g gs)
rising_placed g [] other up = (tt, tt)
rising_placed g (h ∷ hs) other up =
    (elim (nat_lt g.serial h.serial)
    as (λ t. nat_lt g.serial h.serial ≡ t → Rising (cond t (g ∷ h ∷ hs) (h ∷ placed g hs))) [
      | true ↦ λ e.
          let low = ltb-true g.serial h.serial e in
          ((low, above_lower g.serial h.serial hs low up.0), up)
      | false ↦ λ e.
          let low : h.serial ≤ g.serial = ltb-false g.serial h.serial e in
          let differ = other h (inl refl) in
          let below : h.serial < g.serial = omega (arith, low, differ) in
          (above_placed h.serial g hs below up.0, rising_placed g hs (λ k is. other k (inr is)) up.1)
    ]) refl

-- the groups of the slots are those in the list
pub in_groups : (slots : List (Option OpenGroup)) (key : ℕ) (g : OpenGroup) → IsAt slots key g → Has (groups_in slots) g
in_groups [] key g is = absurd (cc)
in_groups (None ∷ slots) zero g is = absurd (cc)
in_groups (None ∷ slots) (suc key) g is = in_groups slots key g is
in_groups (Some h ∷ slots) zero g is = subst (Has (placed h (groups_in slots))) (same_Some _ _ is) (placed_has h (groups_in slots))
in_groups (Some h ∷ slots) (suc key) g is = placed_keeps h g (groups_in slots) (in_groups slots key g is)

pub of_groups : (slots : List (Option OpenGroup)) (g : OpenGroup) → Has (groups_in slots) g → (key : ℕ) × IsAt slots key g
of_groups [] g has = absurd has
of_groups (None ∷ slots) g has = let later = of_groups slots g has in (suc later.0, later.1)
of_groups (Some h ∷ slots) g has =
    elim (placed_of h g (groups_in slots) has) [
      | inl here ↦ (zero, ap Some here)
      | inr there ↦ let later = of_groups slots g there in (suc later.0, later.1)
    ]

-- no serial is there twice
abbrev pub AreApart : List (Option OpenGroup) → Type 0
AreApart slots = (j k : ℕ) (g h : OpenGroup) → IsAt slots j g → IsAt slots k h → g.serial ≡ h.serial → j ≡ k

apart_rest : (o : Option OpenGroup) (slots : List (Option OpenGroup)) → AreApart (o ∷ slots) → AreApart slots
apart_rest o slots apart j k g h at_j at_k same =
    let next : suc j ≡ suc k = apart (suc j) (suc k) g h at_j at_k same in omega (arith, next)

pub rising_groups : (slots : List (Option OpenGroup)) → AreApart slots → Rising (groups_in slots)
rising_groups [] apart = tt
rising_groups (None ∷ slots) apart = rising_groups slots (apart_rest None slots apart)
rising_groups (Some g ∷ slots) apart =
    rising_placed g (groups_in slots)
    (λ h has same.
    let there = of_groups slots h has in
    let key : zero ≡ suc there.0 = apart zero (suc there.0) g h refl there.1 same in
    absurd (omega (arith, key)))
    (rising_groups slots (apart_rest (Some g) slots apart))

-- two rising lists of the same groups
not_above_itself : (s : ℕ) (gs : List OpenGroup) (g : OpenGroup) → AllAbove s gs → Has gs g → g.serial ≡ s → ⊥
not_above_itself s gs g all has same = let above = above_has s gs g all has in absurd (omega (arith, above, same))

pub same_rising : (xs ys : List OpenGroup) → Rising xs → Rising ys → ((g : OpenGroup) → Has xs g → Has ys g)
    → ((g : OpenGroup) → Has ys g → Has xs g) → xs ≡ ys
same_rising [] [] up up' forth back = refl
same_rising [] (y ∷ ys) up up' forth back = absurd (back y (inl refl))
same_rising (x ∷ xs) [] up up' forth back = absurd (forth x (inl refl))
same_rising (x ∷ xs) (y ∷ ys) up up' forth back =
    let first : x ≡ y = heads (forth x (inl refl)) (back y (inl refl)) in
    ap (λ g. g ∷ xs) first
    ∙ ap (λ gs. y ∷ gs)
    (same_rising xs ys up.1 up'.1
    (λ g has. elim (forth g (inr has)) [
      | inl here ↦ absurd (not_above_itself x.serial xs g up.0 has (ap (λ (h : OpenGroup). h.serial) (sym here ∙ sym first)))
      | inr later ↦ later
    ])
    (λ g has. elim (back g (inr has)) [
      | inl here ↦ absurd (not_above_itself y.serial ys g up'.0 has (ap (λ (h : OpenGroup). h.serial) (sym here ∙ first)))
      | inr later ↦ later
    ]))
  where
    heads : Has (y ∷ ys) x → Has (x ∷ xs) y → x ≡ y
    heads (inl e) other = sym e
    heads (inr in_ys) (inl e) = e
    heads (inr in_ys) (inr in_xs) =
        let low = above_has y.serial ys x up'.0 in_ys in
        let high = above_has x.serial xs y up.0 in_xs in
        absurd (omega (arith, low, high))

-- as many groups as slots with one
length-placed : (g : OpenGroup) (gs : List OpenGroup) → length (placed g gs) ≡ suc (length gs)
length-placed g [] = refl
length-placed g (h ∷ hs) =
    elim (nat_lt g.serial h.serial) as (λ t. length (cond t (g ∷ h ∷ hs) (h ∷ placed g hs)) ≡ suc (suc (length hs))) [
      | true ↦ refl
      | false ↦ ap suc (length-placed g hs)
    ]

pub length-groups : (slots : List (Option OpenGroup)) → length (groups_in slots) ≡ count_by is_some slots
length-groups [] = refl
length-groups (None ∷ slots) =
    omega (arith, length-groups slots, sum_by-cons (λ (o : Option OpenGroup). cond (is_some o) 1 0) None slots)
length-groups (Some g ∷ slots) =
    omega (arith, length-placed g (groups_in slots), length-groups slots, sum_by-cons (λ (o : Option OpenGroup). cond (is_some o) 1 0) (Some g) slots)

-- a list around one of its groups
pub record Around (gs : List OpenGroup) (g : OpenGroup) : Type 0 where
  pub front : List OpenGroup
  pub back : List OpenGroup
  pub whole : gs ≡ front ++ g ∷ back

pub around : (gs : List OpenGroup) (g : OpenGroup) → Has gs g → Around gs g
around [] g has = absurd has
around (h ∷ hs) g (inl here) = record { front = []; back = hs; whole = ap (λ k. k ∷ hs) here }
around (h ∷ hs) g (inr later) =
    let rest = around hs g later in
    record { front = h ∷ rest.front; back = rest.back; whole = ap (λ ks. h ∷ ks) rest.whole }

pub has_append : (xs ys : List OpenGroup) (g : OpenGroup) → Has (xs ++ ys) g → Has xs g ⊎ Has ys g
has_append [] ys g has = inr has
has_append (x ∷ xs) ys g (inl here) = inl (inl here)
has_append (x ∷ xs) ys g (inr later) =
    elim (has_append xs ys g later) [ inl before ↦ inl (inr before) | inr behind ↦ inr behind ]

pub has_front : (xs ys : List OpenGroup) (g : OpenGroup) → Has xs g → Has (xs ++ ys) g
has_front [] ys g has = absurd has
has_front (x ∷ xs) ys g (inl here) = inl here
has_front (x ∷ xs) ys g (inr later) = inr (has_front xs ys g later)

pub has_back : (xs ys : List OpenGroup) (g : OpenGroup) → Has ys g → Has (xs ++ ys) g
has_back [] ys g has = has
has_back (x ∷ xs) ys g has = inr (has_back xs ys g has)

-- parts of a rising list rise, and the group in the middle has the one of the serials
above_front : (s : ℕ) (xs ys : List OpenGroup) → AllAbove s (xs ++ ys) → AllAbove s xs
above_front s [] ys all = tt
above_front s (x ∷ xs) ys all = (all.0, above_front s xs ys all.1)

above_back : (s : ℕ) (xs ys : List OpenGroup) → AllAbove s (xs ++ ys) → AllAbove s ys
above_back s [] ys all = all
above_back s (x ∷ xs) ys all = above_back s xs ys all.1

above_append : (s : ℕ) (xs ys : List OpenGroup) → AllAbove s xs → AllAbove s ys → AllAbove s (xs ++ ys)
above_append s [] ys front back = back
above_append s (x ∷ xs) ys front back = (front.0, above_append s xs ys front.1 back)

-- another group of the same serial stands in the same place
pub rising_swap : (front back : List OpenGroup) (g h : OpenGroup) → g.serial ≡ h.serial → Rising (front ++ g ∷ back) → Rising (front ++ h ∷ back)
rising_swap [] back g h same up = (subst (λ s. AllAbove s back) same up.0, up.1)
rising_swap (x ∷ front) back g h same up =
    let all = above_back x.serial front (g ∷ back) up.0 in (
      above_append x.serial front (h ∷ back) (above_front x.serial front (g ∷ back) up.0) (subst (λ s. x.serial < s) same all.0, all.1),
      rising_swap front back g h same up.1,
    )

pub rising_without : (front back : List OpenGroup) (g : OpenGroup) → Rising (front ++ g ∷ back) → Rising (front ++ back)
rising_without [] back g up = up.1
rising_without (x ∷ front) back g up =
    let all = above_back x.serial front (g ∷ back) up.0 in
    (above_append x.serial front back (above_front x.serial front (g ∷ back) up.0) all.1, rising_without front back g up.1)

-- those before and behind have other serials
pub front_differs : (front back : List OpenGroup) (g h : OpenGroup) → Rising (front ++ g ∷ back) → Has front h → h.serial ≢ g.serial
front_differs [] back g h up has same = absurd has
front_differs (x ∷ front) back g h up (inl here) same =
    let all = above_back x.serial front (g ∷ back) up.0 in
    let low : h.serial < g.serial = subst (λ (k : OpenGroup). k.serial < g.serial) here all.0 in
    absurd (omega (arith, low, same))
front_differs (x ∷ front) back g h up (inr later) same = front_differs front back g h up.1 later same

pub back_differs : (front back : List OpenGroup) (g h : OpenGroup) → Rising (front ++ g ∷ back) → Has back h → h.serial ≢ g.serial
back_differs [] back g h up has same = let low = above_has g.serial back h up.0 has in absurd (omega (arith, low, same))
back_differs (x ∷ front) back g h up has same = back_differs front back g h up.1 has same

-- a group behind all others
pub rising_push : (gs : List OpenGroup) (g : OpenGroup) → ((h : OpenGroup) → Has gs h → h.serial < g.serial) → Rising gs → Rising (gs ++ g ∷ [])
rising_push [] g below up = (tt, tt)
rising_push (x ∷ gs) g below up =
    (above_append x.serial gs (g ∷ []) up.0 (below x (inl refl), tt), rising_push gs g (λ h has. below h (inr has)) up.1)

-- a filter
pub has_filter : (q : OpenGroup → Bool) (gs : List OpenGroup) (g : OpenGroup) → Has (filter q gs) g → Has gs g × (q g ≡ true)
has_filter q [] g has = absurd has
has_filter q (h ∷ hs) g has =
    (elim (q h) as (λ t. q h ≡ t → Has (cond t (h ∷ filter q hs) (filter q hs)) g → Has (h ∷ hs) g × (q g ≡ true)) [
      | true ↦ λ e is. elim is [
        | inl here ↦ (inl here, ap q (sym here) ∙ e)
        | inr later ↦ let rest = has_filter q hs g later in (inr rest.0, rest.1)
      ]
      | false ↦ λ e is. let rest = has_filter q hs g is in (inr rest.0, rest.1)
    ]) refl has

pub filter_has : (q : OpenGroup → Bool) (gs : List OpenGroup) (g : OpenGroup) → Has gs g → q g ≡ true → Has (filter q gs) g
filter_has q [] g has passes = absurd has
filter_has q (h ∷ hs) g has passes =
    (elim (q h) as (λ t. q h ≡ t → Has (cond t (h ∷ filter q hs) (filter q hs)) g) [
      | true ↦ λ e. elim has [ inl here ↦ inl here | inr later ↦ inr (filter_has q hs g later passes) ]
      | false ↦ λ e. elim has [
        | inl here ↦ absurd (true≢false (sym passes ∙ ap q (sym here) ∙ e))
        | inr later ↦ filter_has q hs g later passes
      ]
    ]) refl

above_filter : (s : ℕ) (q : OpenGroup → Bool) (gs : List OpenGroup) → AllAbove s gs → AllAbove s (filter q gs)
above_filter s q [] all = tt
above_filter s q (g ∷ gs) all =
    elim (q g) as (λ t. AllAbove s (cond t (g ∷ filter q gs) (filter q gs))) [
      | true ↦ (all.0, above_filter s q gs all.1)
      | false ↦ above_filter s q gs all.1
    ]

pub rising_filter : (q : OpenGroup → Bool) (gs : List OpenGroup) → Rising gs → Rising (filter q gs)
rising_filter q [] up = tt
rising_filter q (g ∷ gs) up =
    elim (q g) as (λ t. Rising (cond t (g ∷ filter q gs) (filter q gs))) [
      | true ↦ (above_filter g.serial q gs up.0, rising_filter q gs up.1)
      | false ↦ rising_filter q gs up.1
    ]

-- a test over the groups
pub any_has : (p : OpenGroup → Bool) (gs : List OpenGroup) (g : OpenGroup) → Has gs g → p g ≡ true → list_any p gs ≡ true
any_has p [] g has passes = absurd has
any_has p (h ∷ hs) g (inl here) passes = or_left (p h) (list_any p hs) (ap p here ∙ passes)
any_has p (h ∷ hs) g (inr later) passes = or_right (p h) (list_any p hs) (any_has p hs g later passes)

pub none_has : (p : OpenGroup → Bool) (gs : List OpenGroup) → ((g : OpenGroup) → Has gs g → p g ≡ false) → list_any p gs ≡ false
none_has p [] fails = refl
none_has p (h ∷ hs) fails = rw (fails h (inl refl), none_has p hs (λ g has. fails g (inr has))) refl
