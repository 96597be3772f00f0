-- The pages of a space as a list in rising order: what stands at a page, how many there are, and what an insertion and a
-- removal do.
use Rattle.std.proofs.Common.{◌≡◌, ◌≢◌, ◌⊎◌, inl, inr, refl, ap, ap₂, sym, subst, ◌∙◌, ℕ, zero, suc, ◌<◌, ◌≤◌, Bool, true, false, arith}
use Rattle.std.specs.Prelude.{Option, Some, None, option_map, ◌&&◌, not, ◌==◌, nat_lt, if◌then◌else◌, List, [], ◌∷◌, length, filter}
use Rattle.std.proofs.lemmas.Bool.Decides.{nat_tests}
use Rattle.std.proofs.lemmas.Bool.{and_from, eq-eqb, eqb-true, le-ltb, ltb-false, ne_eqb}
use Rattle.sva_model.specs.Words.{count_below}
use Rattle.sva_model.specs.State.{Owed, MappingState, World}
use Rattle.sva_model.specs.State.MappingState.{Unmade, Present, Gone}
use Rattle.sva_model.specs.States.{is_present}
use Rattle.sva_model.specs.Unmappings.{gone_if}
use Rattle.sva_model.specs.Acts.{act}
use Rattle.sva_model.specs.Acts.Act.{Map}
use Rattle.sva_model.specs.Wire.{PageWire, insert_by, is_lower_page, is_page_of, page_wire, pages_below, pages_wire}
use Rattle.sva_labels.proofs.Words.{put-same, put-other, ℕ_cases}
use Rattle.sva_laws.proofs.Invariant.{Mapped}
use Rattle.sva_labels.proofs.Tests.{first_holds, same_inside, second_holds}
use Rattle.sva_labels.specs.Places.{page_at}

-- Lists of pages.

abbrev pub AllFrom : (page : ℕ) → List PageWire → Type 0
AllFrom k [] = Unit {0}
AllFrom k (x ∷ xs) = (k ≤ x.page) × AllFrom k xs

abbrev pub IsRising : List PageWire → Type 0
IsRising [] = Unit {0}
IsRising (x ∷ xs) = AllFrom x.page xs × IsRising xs

all_from_lower : (j k : ℕ) (xs : List PageWire) → j ≤ k → AllFrom k xs → AllFrom j xs
all_from_lower j k [] l h = tt
all_from_lower j k (x ∷ xs) l h = (omega (arith, h.0), all_from_lower j k xs l h.1)

all_from_insert : (k : ℕ) (a : PageWire) (xs : List PageWire) → k ≤ a.page → AllFrom k xs → AllFrom k (insert_by is_lower_page a xs)
all_from_insert k a [] l h = (l, tt)
all_from_insert k a (x ∷ xs) l h = go (is_lower_page x a) (all_from_insert k a xs l h.1)
  where
    go : (b : Bool) → AllFrom k (insert_by is_lower_page a xs) → AllFrom k (if b then x ∷ insert_by is_lower_page a xs else a ∷ x ∷ xs)
    go true rest = (h.0, rest)
    go false rest = (l, h)

all_from_filter : (k : ℕ) (keeps : PageWire → Bool) (xs : List PageWire) → AllFrom k xs → AllFrom k (filter keeps xs)
all_from_filter k keeps [] h = tt
all_from_filter k keeps (x ∷ xs) h = go (keeps x) (all_from_filter k keeps xs h.1)
  where
    go : (b : Bool) → AllFrom k (filter keeps xs) → AllFrom k (if b then x ∷ filter keeps xs else filter keeps xs)
    go true rest = (h.0, rest)
    go false rest = rest

lower : (a b : ℕ) → nat_lt a b ≡ true → a ≤ b
lower a b h = grind (arith, nat_tests)

rising_insert : (a : PageWire) (xs : List PageWire) → IsRising xs → IsRising (insert_by is_lower_page a xs)
rising_insert a [] h = (tt, tt)
rising_insert a (x ∷ xs) h = go (is_lower_page x a) refl (rising_insert a xs h.1)
  where
    go : (b : Bool) → is_lower_page x a ≡ b → IsRising (insert_by is_lower_page a xs) → IsRising (if b then x ∷ insert_by is_lower_page a xs else a ∷ x ∷ xs)
    go true e rest = (all_from_insert x.page a xs (lower x.page a.page e) h.0, rest)
    go false e rest =
        let low : a.page ≤ x.page = ltb-false x.page a.page e in
        ((low, all_from_lower a.page x.page xs low h.0), h)

insert_low : (a : PageWire) (xs : List PageWire) → AllFrom a.page xs → insert_by is_lower_page a xs ≡ a ∷ xs
insert_low a [] h = refl
insert_low a (x ∷ xs) h = ap (λ b. if b then x ∷ insert_by is_lower_page a xs else a ∷ x ∷ xs) (le-ltb x.page a.page h.0)

-- an insertion, and then what is kept
pub filter_insert : (keeps : PageWire → Bool) (a : PageWire) (xs : List PageWire) → IsRising xs → filter keeps (insert_by is_lower_page a xs)
    ≡ (if keeps a then insert_by is_lower_page a (filter keeps xs) else filter keeps xs)
filter_insert keeps a [] h = refl
filter_insert keeps a (x ∷ xs) h = go (is_lower_page x a) refl (filter_insert keeps a xs h.1)
  where
    behind : (k : Bool) → is_lower_page x a ≡ true → (j : Bool) → filter keeps (insert_by is_lower_page a xs)
        ≡ (if j then insert_by is_lower_page a (filter keeps xs) else filter keeps xs)
        → (if k then x ∷ filter keeps (insert_by is_lower_page a xs) else filter keeps (insert_by is_lower_page a xs))
        ≡ (if j then insert_by is_lower_page a (if k then x ∷ filter keeps xs else filter keeps xs) else (if k then x ∷ filter keeps xs else filter keeps xs))
    behind true e true rest = ap (λ z. x ∷ z) rest ∙ sym (ap (λ b. if b then x ∷ insert_by is_lower_page a (filter keeps xs) else a ∷ x ∷ filter keeps xs) e)
    behind true e false rest = ap (λ z. x ∷ z) rest
    behind false e true rest = rest
    behind false e false rest = rest

    before : (j : Bool) → a.page ≤ x.page → (if j then a ∷ filter keeps (x ∷ xs) else filter keeps (x ∷ xs))
        ≡ (if j then insert_by is_lower_page a (filter keeps (x ∷ xs)) else filter keeps (x ∷ xs))
    before true l = sym (insert_low a (filter keeps (x ∷ xs)) (all_from_filter a.page keeps (x ∷ xs) (l, all_from_lower a.page x.page xs l h.0)))
    before false l = refl

    go : (b : Bool) → is_lower_page x a ≡ b → filter keeps (insert_by is_lower_page a xs)
        ≡ (if keeps a then insert_by is_lower_page a (filter keeps xs) else filter keeps xs)
        → filter keeps (if b then x ∷ insert_by is_lower_page a xs else a ∷ x ∷ xs)
        ≡ (if keeps a then insert_by is_lower_page a (filter keeps (x ∷ xs)) else filter keeps (x ∷ xs))
    go true e rest = behind (keeps x) e (keeps a) rest
    go false e rest = before (keeps a) (ltb-false x.page a.page e)

length_insert : (a : PageWire) (xs : List PageWire) → length (insert_by is_lower_page a xs) ≡ suc (length xs)
length_insert a [] = refl
length_insert a (x ∷ xs) = go (is_lower_page x a) (length_insert a xs)
  where
    go : (b : Bool) → length (insert_by is_lower_page a xs) ≡ suc (length xs) → length (if b then x ∷ insert_by is_lower_page a xs else a ∷ x ∷ xs)
        ≡ suc (suc (length xs))
    go true h = omega (arith, h)
    go false h = refl

both_not : (x a q : ℕ) → nat_lt x a ≡ true → (x == q) ≡ true → (a == q) ≡ true → ⊥
both_not x a q l h k = grind (arith, nat_tests)

page_at_insert : (a : PageWire) (xs : List PageWire) (q : ℕ) → page_at (insert_by is_lower_page a xs) q ≡ (if a.page == q then Some a else page_at xs q)
page_at_insert a [] q = refl
page_at_insert a (x ∷ xs) q = go (is_lower_page x a) refl (page_at_insert a xs q)
  where
    behind : (t u : Bool) → (t ≡ true → u ≡ true → ⊥) → page_at (insert_by is_lower_page a xs) q ≡ (if u then Some a else page_at xs q)
        → (if t then Some x else page_at (insert_by is_lower_page a xs) q) ≡ (if u then Some a else (if t then Some x else page_at xs q))
    behind true true n rest = absurd (n refl refl)
    behind true false n rest = refl
    behind false u n rest = rest

    go : (b : Bool) → is_lower_page x a ≡ b → page_at (insert_by is_lower_page a xs) q ≡ (if a.page == q then Some a else page_at xs q)
        → page_at (if b then x ∷ insert_by is_lower_page a xs else a ∷ x ∷ xs) q ≡ (if a.page == q then Some a else page_at (x ∷ xs) q)
    go true e rest = behind (x.page == q) (a.page == q) (both_not x.page a.page q e) rest
    go false e rest = refl

-- The pages of a space.

pub pages_rising : (w : World) (s n : ℕ) → IsRising (pages_below w.mappings s n)
unfolding pages_below
pages_rising w s zero = tt
pages_rising w s (suc n) = go (is_page_of w.mappings s n) (pages_rising w s n)
  where
    go : (b : Bool) → IsRising (pages_below w.mappings s n)
        → IsRising (if b then insert_by is_lower_page (page_wire w.mappings n) (pages_below w.mappings s n) else pages_below w.mappings s n)
    go true h = rising_insert (page_wire w.mappings n) (pages_below w.mappings s n) h
    go false h = h

pub pages_length : (w : World) (s n : ℕ) → length (pages_below w.mappings s n) ≡ count_below n (is_page_of w.mappings s)
unfolding pages_below count_below
pages_length w s zero = refl
pages_length w s (suc n) = go (is_page_of w.mappings s n) (pages_length w s n)
  where
    go : (b : Bool) → length (pages_below w.mappings s n) ≡ count_below n (is_page_of w.mappings s)
        → length (if b then insert_by is_lower_page (page_wire w.mappings n) (pages_below w.mappings s n) else pages_below w.mappings s n)
        ≡ (if b then suc (count_below n (is_page_of w.mappings s)) else count_below n (is_page_of w.mappings s))
    go true h = length_insert (page_wire w.mappings n) (pages_below w.mappings s n) ∙ omega (arith, h)
    go false h = h

-- pages that look the same
pub pages_same : (w v : World) (s n : ℕ) → ((m : ℕ) → m < n → is_page_of w.mappings s m ≡ is_page_of v.mappings s m)
    → ((m : ℕ) → m < n → page_wire w.mappings m ≡ page_wire v.mappings m) → pages_below w.mappings s n ≡ pages_below v.mappings s n
unfolding pages_below
pages_same w v s zero h k = refl
pages_same w v s (suc n) h k =
    let test : is_page_of w.mappings s n ≡ is_page_of v.mappings s n = h n (omega arith) in
    let page : page_wire w.mappings n ≡ page_wire v.mappings n = k n (omega arith) in
    let rest : pages_below w.mappings s n ≡ pages_below v.mappings s n = pages_same w v s n (λ m l. h m (omega arith)) (λ m l. k m (omega arith)) in
    λ i. if test i then insert_by is_lower_page (page i) (rest i) else rest i

-- no page
pub pages_none : (w : World) (s n : ℕ) → ((m : ℕ) → m < n → is_page_of w.mappings s m ≡ false) → pages_below w.mappings s n ≡ []
unfolding pages_below
pages_none w s zero h = refl
pages_none w s (suc n) h =
    ap (λ b. if b then insert_by is_lower_page (page_wire w.mappings n) (pages_below w.mappings s n) else pages_below w.mappings s n)
    (h n (omega arith)) ∙ pages_none w s n (λ m l. h m (omega arith))

-- What stands at a page.

pub present_is : (s : MappingState) → is_present s ≡ true → s ≡ Present
present_is Unmade h = absurd (cc)
present_is Present h = refl
present_is (Gone owed) h = absurd (cc)

-- the mapping of a page is there
pub page_there : (w : World) → Mapped w → (s q m : ℕ) → is_page_of w.mappings s m ≡ true → w.mappings.page m ≡ q → w.mappings.at s q ≡ Some m
page_there w ma s q m h e =
    let here = ma.present_at m (present_is (w.mappings.state m) (first_holds (is_present (w.mappings.state m)) (w.mappings.space m == s) h)) in
    let space : w.mappings.space m ≡ s = eqb-true (w.mappings.space m) s (second_holds (is_present (w.mappings.state m)) (w.mappings.space m == s) h) in
    subst (λ t. w.mappings.at t q ≡ Some m) space (subst (λ p. w.mappings.at (w.mappings.space m) p ≡ Some m) e here)

-- and what is there is the mapping of a page
pub there_page : (w : World) → Mapped w → (s q m : ℕ) → w.mappings.at s q ≡ Some m → is_page_of w.mappings s m ≡ true
there_page w ma s q m h =
    let a = ma.at_present s q m h in
    and_from (is_present (w.mappings.state m)) (w.mappings.space m == s) (ap is_present a.0) (eq-eqb (w.mappings.space m) s a.1)

page_at_none : (w : World) (s q n : ℕ) → ((m : ℕ) → m < n → is_page_of w.mappings s m ≡ true → w.mappings.page m ≢ q)
    → page_at (pages_below w.mappings s n) q ≡ None
unfolding pages_below
page_at_none w s q zero h = refl
page_at_none w s q (suc n) h = go (is_page_of w.mappings s n) refl (page_at_none w s q n (λ m l. h m (omega arith)))
  where
    go : (b : Bool) → is_page_of w.mappings s n ≡ b → page_at (pages_below w.mappings s n) q ≡ None
        → page_at (if b then insert_by is_lower_page (page_wire w.mappings n) (pages_below w.mappings s n) else pages_below w.mappings s n) q ≡ None
    go true e rest =
        page_at_insert (page_wire w.mappings n) (pages_below w.mappings s n) q
        ∙ ap (λ t. if t then Some (page_wire w.mappings n) else page_at (pages_below w.mappings s n) q) (ne_eqb (w.mappings.page n) q (h n (omega arith) e))
        ∙ rest
    go false e rest = rest

page_at_some : (w : World) → Mapped w → (s q m n : ℕ) → w.mappings.at s q ≡ Some m → m < n → page_at (pages_below w.mappings s n) q
    ≡ Some (page_wire w.mappings m)
unfolding pages_below
page_at_some w ma s q m zero h l = absurd (omega arith)
page_at_some w ma s q m (suc n) h l = go (ℕ_cases m n) (λ k. page_at_some w ma s q m n h k)
  where
    here : m ≡ n → page_at (if is_page_of w.mappings s n then insert_by is_lower_page (page_wire w.mappings n) (pages_below w.mappings s n)
        else pages_below w.mappings s n) q ≡ Some (page_wire w.mappings n)
    here e =
        ap (λ b. page_at (if b then insert_by is_lower_page (page_wire w.mappings n) (pages_below w.mappings s n) else pages_below w.mappings s n) q)
        (subst (λ k. is_page_of w.mappings s k ≡ true) e (there_page w ma s q m h))
        ∙ page_at_insert (page_wire w.mappings n) (pages_below w.mappings s n) q
        ∙ ap (λ t. if t then Some (page_wire w.mappings n) else page_at (pages_below w.mappings s n) q)
        (eq-eqb (w.mappings.page n) q (subst (λ k. w.mappings.page k ≡ q) e (ma.at_present s q m h).2))

    other : m ≢ n → is_page_of w.mappings s n ≡ true → w.mappings.page n ≢ q
    other ne t e = ne (same_inside (sym h ∙ page_there w ma s q n t e))

    there : m ≢ n → (b : Bool) → is_page_of w.mappings s n ≡ b → page_at (pages_below w.mappings s n) q ≡ Some (page_wire w.mappings m)
        → page_at (if b then insert_by is_lower_page (page_wire w.mappings n) (pages_below w.mappings s n) else pages_below w.mappings s n) q
        ≡ Some (page_wire w.mappings m)
    there ne true t rest =
        page_at_insert (page_wire w.mappings n) (pages_below w.mappings s n) q
        ∙ ap (λ t. if t then Some (page_wire w.mappings n) else page_at (pages_below w.mappings s n) q) (ne_eqb (w.mappings.page n) q (other ne t))
        ∙ rest
    there ne false t rest = rest

    go : (m ≡ n) ⊎ (m ≢ n) → (m < n → page_at (pages_below w.mappings s n) q ≡ Some (page_wire w.mappings m))
        → page_at (if is_page_of w.mappings s n then insert_by is_lower_page (page_wire w.mappings n) (pages_below w.mappings s n)
        else pages_below w.mappings s n) q ≡ Some (page_wire w.mappings m)
    go (inl e) rest = here e ∙ ap (λ k. Some (page_wire w.mappings k)) (sym e)
    go (inr ne) rest = there ne (is_page_of w.mappings s n) refl (rest (omega arith))

-- what stands at a page of the list is the mapping that is present there
pub page_at_is : (w : World) → Mapped w → (s q : ℕ) → page_at (pages_wire w.mappings s) q ≡ option_map (page_wire w.mappings) (w.mappings.at s q)
page_at_is w ma s q = go (w.mappings.at s q) refl
  where
    made : (m : ℕ) → w.mappings.at s q ≡ Some m → m < w.mappings.made
    made m h = made_by (ma.unmade m) (ma.at_present s q m h).0
      where
        made_by : (w.mappings.made ≤ m → w.mappings.state m ≡ Unmade) → w.mappings.state m ≡ Present → m < w.mappings.made
        made_by u h = grind (arith)

    go : (o : Option ℕ) → w.mappings.at s q ≡ o → page_at (pages_wire w.mappings s) q ≡ option_map (page_wire w.mappings) o
    go None h = page_at_none w s q w.mappings.made (λ m l t e. absurd (cc (sym (page_there w ma s q m t e) ∙ h)))
    go (Some m) h = page_at_some w ma s q m w.mappings.made h (made m h)

-- A page more.

pub pages_mapped : (w : World) (s q f : ℕ) (x : Bool) (t : ℕ) → pages_wire (act w (Map s q f x)).mappings t
    ≡ (if s == t then insert_by is_lower_page (record { page = q; frame = f; write = x }) (pages_wire w.mappings t) else pages_wire w.mappings t)
unfolding pages_below
pages_mapped w s q f x t =
    λ i. if test i then insert_by is_lower_page (page i) (rest i) else rest i
  where
    test : is_page_of (act w (Map s q f x)).mappings t w.mappings.made ≡ (s == t)
    test = ap₂ (λ y z. is_present y && z == t) (put-same w.mappings.state w.mappings.made Present) (put-same w.mappings.space w.mappings.made s)

    page : page_wire (act w (Map s q f x)).mappings w.mappings.made ≡ record { page = q; frame = f; write = x }
    page = λ i. record {
      page = put-same w.mappings.page w.mappings.made q i;
      frame = put-same w.mappings.frame w.mappings.made f i;
      write =
          put-same w.mappings.write w.mappings.made x i;
    }

    rest : pages_below (act w (Map s q f x)).mappings t w.mappings.made ≡ pages_below w.mappings t w.mappings.made
    rest =
        pages_same (act w (Map s q f x)) w t w.mappings.made
        (λ m l. let ne : m ≢ w.mappings.made =
        omega arith in ap₂ (λ y z. is_present y && z == t) (put-other w.mappings.state w.mappings.made Present m ne)
        (put-other w.mappings.space w.mappings.made s m ne))
        (λ m l. let ne : m ≢ w.mappings.made =
        omega arith in λ i. record {
          page = put-other w.mappings.page w.mappings.made q m ne i;
          frame =
              put-other w.mappings.frame w.mappings.made f m ne i;
          write = put-other w.mappings.write w.mappings.made x m ne i;
        })

-- Pages less.

pub gone_test : (g : Bool) (owed : ℕ → Owed) (s : MappingState) → is_present (gone_if g owed s) ≡ (is_present s && not g)
gone_test true owed Unmade = refl
gone_test true owed Present = refl
gone_test true owed (Gone o) = refl
gone_test false owed Unmade = refl
gone_test false owed Present = refl
gone_test false owed (Gone o) = refl

pub those_kept : (a b r : Bool) → ((a && not (b && r)) && b) ≡ ((a && b) && not r)
those_kept a b r = grind arith

pub others_kept : (a b c r : Bool) → (b ≡ true → c ≡ true → ⊥) → ((a && not (b && r)) && c) ≡ (a && c)
others_kept true true true r n = absurd (n refl refl)
others_kept true true false true n = refl
others_kept true true false false n = refl
others_kept true false c r n = refl
others_kept false b c r n = refl
