-- Pages in a row, those of them that are mapped.
use Rattle.std.proofs.Common.{◌≡◌, ℕ, suc, ◌+◌, ◌<◌, ◌≤◌, ◌==◌, Bool, true, false, cond, List, Option, Some, None, [], ◌∷◌, ◌++◌, set, refl, sym, ap, ◌∙◌}
use Rattle.std.proofs.Common.{arith, add-one, if◌then◌else◌}
use Rattle.std.specs.Prelude.{◌||◌, filter}
use Rattle.std.specs.Ordering.{nat_cmp}
use Rattle.std.specs.BTreeMap.{is_at}
use Rattle.std.specs.List.Sorted.{IsStrictlySortedBy}
use Rattle.std.proofs.lemmas.Bool.Decides.{nat_tests}
use Rattle.sva_space.specs.Pages.{IsRising, mapping_at, without_page}
use Rattle.sva_space.proofs.Mappings.{AllAbove, is_less}
use Rattle.sva_model.specs.Words.{any_below, count_below}
use Rattle.sva_model.specs.Unmappings.{in_range}
use Rattle.sva_model.specs.Wire.{PageWire, PlaceWire}
use Rattle.sva_labels.specs.Finding.{page_at, is_mapped}
use Rattle.sva_labels.specs.Moves.{is_between, placed}
use Rattle.sva_address_spaces.specs.Seen.{page_seen, pages_seen}
use Rattle.sva_address_spaces.specs.Pieces.{is_some_mapped, count_mapped}

-- Above a page there is none of a row that ends there.

between-above : (q n p : ℕ) (ms : List (ℕ × (ℕ × Bool))) → AllAbove p ms → q + n ≤ p + 1 → filter (is_between q n) (pages_seen ms) ≡ []
between-above q n p [] above end = refl
between-above q n p (m ∷ ms) above end =
    ap (λ b. cond b (page_seen m ∷ filter (is_between q n) (pages_seen ms)) (filter (is_between q n) (pages_seen ms)))
    (outside q n p m.0 end (is_less p m.0 above.0))
    ∙ between-above q n p ms above.1 end
  where
    outside : (q n p k : ℕ) → q + n ≤ p + 1 → p < k → in_range q n k ≡ false
    outside q n p k end h = grind (arith, nat_tests)

-- A page more of the row.

abbrev pub listed : Option PageWire → List PageWire
listed None = []
listed (Some entry) = entry ∷ []

pub between-none : (q : ℕ) (ps : List PageWire) → filter (is_between q 0) ps ≡ []
between-none q [] = refl
between-none q (p ∷ ps) = ap (λ b. cond b (p ∷ filter (is_between q 0) ps) (filter (is_between q 0) ps)) (outside q p.page) ∙ between-none q ps
  where
    outside : (q k : ℕ) → in_range q 0 k ≡ false
    outside q k = grind (arith, nat_tests)

pub between-more : (q j : ℕ) (ms : List (ℕ × (ℕ × Bool))) → IsRising ms → filter (is_between q (j + 1)) (pages_seen ms)
    ≡ filter (is_between q j) (pages_seen ms) ++ listed (page_at (pages_seen ms) (q + j))
unfolding IsStrictlySortedBy
between-more q j [] rising = refl
between-more q j (m ∷ ms) rising = by_tests (in_range q j m.0) (m.0 == q + j) refl refl (between-more q j ms rising.1)
  where
    one_of : (q j k : ℕ) (a b : Bool) → in_range q j k ≡ a → (k == q + j) ≡ b → in_range q (j + 1) k ≡ (a || b)
    one_of q j k a b is at = grind (arith, nat_tests)

    not_both : (q j k : ℕ) → in_range q j k ≡ true → (k == q + j) ≡ true → ⊥
    not_both q j k is at = grind (arith, nat_tests)

    ends : (q j k : ℕ) → (k == q + j) ≡ true → k ≡ q + j
    ends q j k at = grind (arith, nat_tests)

    chosen : Bool → ℕ → List PageWire
    chosen b n = cond b (page_seen m ∷ filter (is_between q n) (pages_seen ms)) (filter (is_between q n) (pages_seen ms))

    by_tests : (a b : Bool) → in_range q j m.0 ≡ a → (m.0 == q + j) ≡ b → filter (is_between q (j + 1)) (pages_seen ms)
        ≡ filter (is_between q j) (pages_seen ms) ++ listed (page_at (pages_seen ms) (q + j))
        → cond (in_range q (j + 1) m.0) (page_seen m ∷ filter (is_between q (j + 1)) (pages_seen ms)) (filter (is_between q (j + 1)) (pages_seen ms))
        ≡ cond (in_range q j m.0) (page_seen m ∷ filter (is_between q j) (pages_seen ms)) (filter (is_between q j) (pages_seen ms))
        ++ listed (if m.0 == q + j then Some (page_seen m) else page_at (pages_seen ms) (q + j))
    by_tests true true is at rest = absurd (not_both q j m.0 is at)
    by_tests true false is at rest = rw (one_of q j m.0 true false is at, is, at) (ap (λ ps. page_seen m ∷ ps) rest)
    by_tests false true is at rest =
        let here : m.0 ≡ q + j = ends q j m.0 at in
        rw (one_of q j m.0 false true is at, is, at)
        (ap (λ ps. page_seen m ∷ ps) (between-above q (j + 1) m.0 ms rising.0 (omega (arith, here)))
        ∙ sym (ap (λ ps. ps ++ page_seen m ∷ []) (between-above q j m.0 ms rising.0 (omega (arith, here)))))
    by_tests false false is at rest = rw (one_of q j m.0 false false is at, is, at) rest

pub placed-more : (x : PlaceWire) (es : List PageWire) (entry : PageWire) (places : List PlaceWire) → placed x (es ++ entry ∷ []) places
    ≡ set (placed x es places) entry.frame x
placed-more x [] entry places = refl
placed-more x (e ∷ es) entry places = placed-more x es entry (set places e.frame x)

-- what isn't there leaves nothing behind when it is taken out
pub without-missing : (ms : List (ℕ × (ℕ × Bool))) (q : ℕ) → mapping_at ms q ≡ None → without_page ms q ≡ ms
without-missing [] q none = refl
without-missing (m ∷ ms) q none = by_test (is_at (nat_cmp q) m.0) refl (without-missing ms q)
  where
    by_test : (b : Bool) → is_at (nat_cmp q) m.0 ≡ b → (mapping_at ms q ≡ None → without_page ms q ≡ ms)
        → cond (is_at (nat_cmp q) m.0) ms (m ∷ without_page ms q) ≡ m ∷ ms
    by_test true is rest = absurd (cc (sym (ap (λ b. cond b (Some m.1) (mapping_at ms q)) is) ∙ none))
    by_test false is rest =
        ap (λ b. cond b ms (m ∷ without_page ms q)) is
        ∙ ap (λ ns. m ∷ ns) (rest (sym (ap (λ b. cond b (Some m.1) (mapping_at ms q)) is) ∙ none))

-- How many are mapped.

pub count_mapped-none : (ps : List PageWire) (q : ℕ) → count_mapped ps q 0 ≡ 0
unfolding count_mapped count_below
count_mapped-none ps q = refl

count_mapped-suc : (ps : List PageWire) (q j : ℕ) → count_mapped ps q (suc j)
    ≡ (if is_mapped ps (q + j) then suc (count_mapped ps q j) else count_mapped ps q j)
unfolding count_mapped count_below
count_mapped-suc ps q j = refl

pub count_mapped-more : (ps : List PageWire) (q j : ℕ) (b : Bool) → is_mapped ps (q + j) ≡ b → count_mapped ps q (j + 1)
    ≡ (if b then suc (count_mapped ps q j) else count_mapped ps q j)
count_mapped-more ps q j b is = ap (count_mapped ps q) (add-one j) ∙ count_mapped-suc ps q j
    ∙ ap (λ c. if c then suc (count_mapped ps q j) else count_mapped ps q j) is

-- Whether some of them is.

pub some_mapped-none : (ps : List PageWire) (q : ℕ) → is_some_mapped ps q 0 ≡ false
unfolding is_some_mapped any_below
some_mapped-none ps q = refl

some_mapped-suc : (ps : List PageWire) (q j : ℕ) → is_some_mapped ps q (suc j) ≡ (if is_mapped ps (q + j) then true else is_some_mapped ps q j)
unfolding is_some_mapped any_below
some_mapped-suc ps q j = refl

pub some_mapped-more : (ps : List PageWire) (q j : ℕ) → is_some_mapped ps q (j + 1) ≡ (if is_mapped ps (q + j) then true else is_some_mapped ps q j)
some_mapped-more ps q j = ap (is_some_mapped ps q) (add-one j) ∙ some_mapped-suc ps q j
