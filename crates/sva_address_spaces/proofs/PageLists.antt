-- The pages of a space, as they are seen.
use Rattle.std.proofs.Common.{◌≡◌, ◌≢◌, ◌↔◌, ℕ, suc, ◌+◌, ◌-◌, ◌<◌, ◌==◌, Bool, true, false, cond, List, Option, Some, None, [], ◌∷◌, ◌++◌}
use Rattle.std.proofs.Common.{refl, sym, ap, subst, ◌∙◌, arith, inl, inr, add-one, if◌then◌else◌}
use Rattle.std.specs.Prelude.{not, ◌&&◌, nat_lt, option_map, is_some, IsSome, IsTrue}
use Rattle.std.specs.declared.cmp.Ordering.{Ordering}
use Rattle.std.specs.declared.cmp.Ordering.TheVariants.{Less, Equal, Greater}
use Rattle.std.specs.Ordering.{nat_cmp, match_ordering, MatchOrdering}
use Rattle.std.specs.Cmp.{ranked}
use Rattle.std.specs.BTreeMap.{is_at}
use Rattle.std.specs.List.Sorted.{IsStrictlySortedBy}
use Rattle.std.proofs.lemmas.Bool.Decides.{nat_tests}
use Rattle.sva_space.specs.Pages.{IsRising, mapping_at, with_page, without_page, AllMapped}
use Rattle.sva_space.proofs.Mappings.{AllAbove, is_less}
use Rattle.sva_model.specs.Words.{tabulate, all_below}
use Rattle.sva_labels.proofs.Words.{all_below-true, all_below-false, all_below_cases}
use Rattle.sva_model.specs.Unmappings.{in_range}
use Rattle.sva_model.specs.Wire.{PageWire, insert_by, is_lower_page}
use Rattle.sva_labels.specs.Finding.{page_at, is_mapped, frame_or_0, frames_of}
use Rattle.sva_labels.specs.Moves.{without_pages}
use Rattle.sva_address_spaces.specs.Seen.{page_seen, pages_seen}
use Rattle.sva_address_spaces.specs.Pieces.{are_mapped}
use Rattle.sva_space.proofs.Mappings.{at_page}

pub same_page : (a b : ℕ) → (a == b) ≡ true → a ≡ b
same_page a b is = grind (arith, nat_tests)

-- what is at a page
pub page_at-seen : (ms : List (ℕ × (ℕ × Bool))) (q : ℕ) → page_at (pages_seen ms) q ≡ option_map (λ m. page_seen (q, m)) (mapping_at ms q)
page_at-seen [] q = refl
page_at-seen (m ∷ ms) q = by_test (m.0 == q) refl (page_at-seen ms q)
  where
    by_test : (b : Bool) → (m.0 == q) ≡ b → page_at (pages_seen ms) q ≡ option_map (λ m. page_seen (q, m)) (mapping_at ms q)
        → (if b then Some (page_seen m) else page_at (pages_seen ms) q)
        ≡ option_map (λ n. page_seen (q, n)) (cond (is_at (nat_cmp q) m.0) (Some m.1) (mapping_at ms q))
    by_test true is rest = ap (λ (p : ℕ). Some (page_seen (p, m.1))) (same_page m.0 q is)
        ∙ sym (ap (λ b. option_map (λ n. page_seen (q, n)) (cond b (Some m.1) (mapping_at ms q))) (at_page q m.0 ∙ is))
    by_test false is rest = rest ∙ sym (ap (λ b. option_map (λ n. page_seen (q, n)) (cond b (Some m.1) (mapping_at ms q))) (at_page q m.0 ∙ is))

pub is_mapped-seen : (ms : List (ℕ × (ℕ × Bool))) (q : ℕ) → is_mapped (pages_seen ms) q ≡ is_some (mapping_at ms q)
is_mapped-seen ms q = ap is_some (page_at-seen ms q) ∙ kept (mapping_at ms q)
  where
    kept : (o : Option (ℕ × Bool)) → is_some (option_map (λ m. page_seen (q, m)) o) ≡ is_some o
    kept None = refl
    kept (Some m) = refl

-- a page more
pub pages_seen-insert : (ms : List (ℕ × (ℕ × Bool))) (q f : ℕ) (x : Bool) → mapping_at ms q ≡ None → pages_seen (with_page ms q f x)
    ≡ insert_by is_lower_page (record { page = q; frame = f; write = x }) (pages_seen ms)
pages_seen-insert [] q f x none = refl
pages_seen-insert (m ∷ ms) q f x none = by_rank (nat_cmp q m.0) refl (ranked q m.0 (nat_cmp q m.0) refl) none (pages_seen-insert ms q f x)
  where
    higher : (a b : ℕ) → a < b → nat_lt b a ≡ false
    higher a b h = grind (arith, nat_tests)

    lower : (a b : ℕ) → b < a → nat_lt b a ≡ true
    lower a b h = grind (arith, nat_tests)

    by_rank : (r : Ordering) → nat_cmp q m.0 ≡ r → MatchOrdering r (q < m.0) (q ≡ m.0) (m.0 < q) → mapping_at (m ∷ ms) q ≡ None
        → (mapping_at ms q ≡ None → pages_seen (with_page ms q f x)
        ≡ insert_by is_lower_page (record { page = q; frame = f; write = x }) (pages_seen ms))
        → pages_seen (match_ordering r ((q, (f, x)) ∷ m ∷ ms) ((m.0, (f, x)) ∷ ms) (m ∷ with_page ms q f x))
        ≡ (if nat_lt m.0 q then page_seen m ∷ insert_by is_lower_page (record { page = q; frame = f; write = x }) (pages_seen ms)
        else page_seen (q, (f, x)) ∷ page_seen m ∷ pages_seen ms)
    by_rank Less is h none more = rw (higher q m.0 h) refl
    by_rank Equal is h none more = absurd (not_there (at_page q m.0 ∙ equal m.0 q h) none)
      where
        equal : (a b : ℕ) → b ≡ a → (a == b) ≡ true
        equal a b e = grind (arith, nat_tests)

        not_there : is_at (nat_cmp q) m.0 ≡ true → mapping_at (m ∷ ms) q ≢ None
        not_there at n = cc (sym (ap (λ b. cond b (Some m.1) (mapping_at ms q)) at) ∙ n)
    by_rank Greater is h none more =
        let elsewhere : is_at (nat_cmp q) m.0 ≡ false = at_page q m.0 ∙ apart m.0 q h in
        let rest : mapping_at ms q ≡ None = sym (ap (λ b. cond b (Some m.1) (mapping_at ms q)) elsewhere) ∙ none in
        rw (lower q m.0 h) (ap (λ ps. page_seen m ∷ ps) (more rest))
      where
        apart : (a b : ℕ) → a < b → (a == b) ≡ false
        apart a b h = grind (arith, nat_tests)

-- pages less

pub without-none : (q : ℕ) (ps : List PageWire) → without_pages q 0 ps ≡ ps
without-none q [] = refl
without-none q (p ∷ ps) = ap (λ b. cond b (p ∷ without_pages q 0 ps) (without_pages q 0 ps)) (outside q p.page) ∙ ap (λ qs. p ∷ qs) (without-none q ps)
  where
    outside : (q k : ℕ) → not (in_range q 0 k) ≡ true
    outside q k = grind (arith, nat_tests)

pub without-more : (q j : ℕ) (ps : List PageWire) → without_pages q (j + 1) ps ≡ without_pages (q + j) 1 (without_pages q j ps)
without-more q j [] = refl
without-more q j (p ∷ ps) = by_tests (in_range q j p.page) (in_range (q + j) 1 p.page) refl refl (without-more q j ps)
  where
    one_of : (q j k : ℕ) (a b : Bool) → in_range q j k ≡ a → in_range (q + j) 1 k ≡ b → not (in_range q (j + 1) k) ≡ (not a && not b)
    one_of q j k a b is js = grind (arith, nat_tests)

    by_tests : (a b : Bool) → in_range q j p.page ≡ a → in_range (q + j) 1 p.page ≡ b → without_pages q (j + 1) ps
        ≡ without_pages (q + j) 1 (without_pages q j ps) → without_pages q (j + 1) (p ∷ ps)
        ≡ without_pages (q + j) 1 (cond (not a) (p ∷ without_pages q j ps) (without_pages q j ps))
    by_tests true b is js rest = ap (λ c. cond c (p ∷ without_pages q (j + 1) ps) (without_pages q (j + 1) ps)) (one_of q j p.page true b is js) ∙ rest
    by_tests false true is js rest =
        ap (λ c. cond c (p ∷ without_pages q (j + 1) ps) (without_pages q (j + 1) ps)) (one_of q j p.page false true is js)
        ∙ rest
        ∙ sym (ap (λ c. cond (not c) (p ∷ without_pages (q + j) 1 (without_pages q j ps)) (without_pages (q + j) 1 (without_pages q j ps))) js)
    by_tests false false is js rest =
        ap (λ c. cond c (p ∷ without_pages q (j + 1) ps) (without_pages q (j + 1) ps)) (one_of q j p.page false false is js)
        ∙ ap (λ qs. p ∷ qs) rest
        ∙ sym (ap (λ c. cond (not c) (p ∷ without_pages (q + j) 1 (without_pages q j ps)) (without_pages (q + j) 1 (without_pages q j ps))) js)

-- the next page stays while those before it go
pub page_at-without : (q j : ℕ) (ps : List PageWire) → page_at (without_pages q j ps) (q + j) ≡ page_at ps (q + j)
page_at-without q j [] = refl
page_at-without q j (p ∷ ps) = by_test (in_range q j p.page) refl (page_at-without q j ps)
  where
    before : (q j k : ℕ) → in_range q j k ≡ true → (k == q + j) ≡ false
    before q j k is = grind (arith, nat_tests)

    by_test : (b : Bool) → in_range q j p.page ≡ b → page_at (without_pages q j ps) (q + j) ≡ page_at ps (q + j)
        → page_at (cond (not b) (p ∷ without_pages q j ps) (without_pages q j ps)) (q + j) ≡ page_at (p ∷ ps) (q + j)
    by_test true is rest = rest ∙ sym (ap (λ c. if c then Some p else page_at ps (q + j)) (before q j p.page is))
    by_test false is rest = ap (λ o. if p.page == q + j then Some p else o) rest

-- above a page there is none of it
without-above : (q : ℕ) (ms : List (ℕ × (ℕ × Bool))) → AllAbove q ms → without_pages q 1 (pages_seen ms) ≡ pages_seen ms
without-above q [] above = refl
without-above q (m ∷ ms) above =
    ap (λ b. cond b (page_seen m ∷ without_pages q 1 (pages_seen ms)) (without_pages q 1 (pages_seen ms))) (outside q m.0 (is_less q m.0 above.0))
    ∙ ap (λ ps. page_seen m ∷ ps) (without-above q ms above.1)
  where
    outside : (q k : ℕ) → q < k → not (in_range q 1 k) ≡ true
    outside q k h = grind (arith, nat_tests)

pub pages_seen-remove : (ms : List (ℕ × (ℕ × Bool))) (q : ℕ) → IsRising ms → pages_seen (without_page ms q) ≡ without_pages q 1 (pages_seen ms)
unfolding IsStrictlySortedBy
pages_seen-remove [] q rising = refl
pages_seen-remove (m ∷ ms) q rising = by_test (m.0 == q) refl (pages_seen-remove ms q rising.1)
  where
    inside : (q k : ℕ) (b : Bool) → (k == q) ≡ b → not (in_range q 1 k) ≡ not b
    inside q k b is = grind (arith, nat_tests)

    by_test : (b : Bool) → (m.0 == q) ≡ b → pages_seen (without_page ms q) ≡ without_pages q 1 (pages_seen ms)
        → pages_seen (cond (is_at (nat_cmp q) m.0) ms (m ∷ without_page ms q))
        ≡ cond (not (in_range q 1 m.0)) (page_seen m ∷ without_pages q 1 (pages_seen ms)) (without_pages q 1 (pages_seen ms))
    by_test true is rest =
        ap (λ b. pages_seen (cond b ms (m ∷ without_page ms q))) (at_page q m.0 ∙ is)
        ∙ sym (without-above q ms (subst (λ (p : ℕ). AllAbove p ms) (same_page m.0 q is) rising.0))
        ∙ sym (ap (λ b. cond b (page_seen m ∷ without_pages q 1 (pages_seen ms)) (without_pages q 1 (pages_seen ms))) (inside q m.0 true is))
    by_test false is rest =
        ap (λ b. pages_seen (cond b ms (m ∷ without_page ms q))) (at_page q m.0 ∙ is)
        ∙ ap (λ ps. page_seen m ∷ ps) rest
        ∙ sym (ap (λ b. cond b (page_seen m ∷ without_pages q 1 (pages_seen ms)) (without_pages q 1 (pages_seen ms))) (inside q m.0 false is))

-- the frames of pages in a row

pub frames_of-none : (ps : List PageWire) (q : ℕ) → frames_of ps q 0 ≡ []
unfolding tabulate
frames_of-none ps q = refl

frames_of-suc : (ps : List PageWire) (q j : ℕ) → frames_of ps q (suc j) ≡ frames_of ps q j ++ frame_or_0 (page_at ps (q + j)) ∷ []
unfolding tabulate
frames_of-suc ps q j = refl

pub frames_of-more : (ps : List PageWire) (q j : ℕ) → frames_of ps q (j + 1) ≡ frames_of ps q j ++ frame_or_0 (page_at ps (q + j)) ∷ []
frames_of-more ps q j = ap (frames_of ps q) (add-one j) ∙ frames_of-suc ps q j

-- whether they are mapped

pub are_mapped-at : (ps : List PageWire) (q n j : ℕ) → are_mapped ps q n ≡ true → j < n → is_mapped ps (q + j) ≡ true
unfolding are_mapped
are_mapped-at ps q n j all within = all_below-true n (λ k. is_mapped ps (q + k)) all j within

-- the space's own test of them
pub are_mapped-seen : (ms : List (ℕ × (ℕ × Bool))) (q n : ℕ) (b : Bool) → (IsTrue b ↔ AllMapped q (q + n) ms) → b ≡ are_mapped (pages_seen ms) q n
unfolding are_mapped
are_mapped-seen ms q n b told =
    elim (all_below_cases n (λ j. is_mapped (pages_seen ms) (q + j))) [
      | inl all ↦ told.1 (each all) ∙ sym all
      | inr some ↦ missing b told some.0 some.1 some.2 ∙ sym (all_below-false n (λ j. is_mapped (pages_seen ms) (q + j)) some.0 some.1 some.2)
    ]
  where
    each : all_below n (λ j. is_mapped (pages_seen ms) (q + j)) ≡ true → AllMapped q (q + n) ms
    each all page from below =
        let split : q + (page - q) ≡ page = omega (arith, from) in
        subst (λ (k : ℕ). IsSome (mapping_at ms k)) split
        (sym (is_mapped-seen ms (q + (page - q)))
        ∙ all_below-true n (λ j. is_mapped (pages_seen ms) (q + j)) all (page - q) (omega (arith, from, below)))

    missing : (b : Bool) → (IsTrue b ↔ AllMapped q (q + n) ms) → (j : ℕ) → j < n → is_mapped (pages_seen ms) (q + j) ≡ false → b ≡ false
    missing false told j within not_there = refl
    missing true told j within not_there =
        let there : is_some (mapping_at ms (q + j)) ≡ true = told.0 refl (q + j) (omega arith) (omega (arith, within)) in
        absurd (cc (sym not_there ∙ is_mapped-seen ms (q + j) ∙ there))
