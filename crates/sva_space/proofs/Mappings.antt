use Rattle.std.proofs.Common.{◌≡◌, ℕ, ◌+◌, ◌<◌, ◌==◌, Bool, true, false, cond, List, Option, Some, None, [], ◌∷◌, refl, sym, ap, ◌∙◌, arith, if◌then◌else◌}
use Rattle.std.specs.declared.cmp.Ordering.{Ordering}
use Rattle.std.specs.declared.cmp.Ordering.TheVariants.{Less, Equal, Greater}
use Rattle.std.specs.Ordering.{nat_cmp, eq_by_cmp, match_ordering, MatchOrdering}
use Rattle.std.specs.Cmp.{nat_cmp_total, eq_by_cmp_equiv, ranked, unsigned_tied}
use Rattle.std.specs.BTreeMap.{is_at, insert_entry}
use Rattle.std.specs.Map.{keys_of}
use Rattle.std.specs.List.{AllByRecursion, count_by}
use Rattle.std.specs.Option.{option_map, unwrap_or}
use Rattle.std.specs.List.Sorted.{IsStrictlySortedBy}
use Rattle.std.proofs.lemmas.Bool.Decides.{nat_tests}
use Rattle.std.proofs.lemmas.List.Sums.{sum_by-cons}
use Rattle.std.proofs.lemmas.Map.Entries.{sum_by-insert_entry, sum_by-remove_entry}
use Rattle.std.proofs.lemmas.Map.{lookup-remove_entry}
use Rattle.std.proofs.lemmas.Map.Keys.{IsDistinct-from_sorted, sorted_head}
use Rattle.sva_space.specs.Pages.{IsRising, mapping_at, without_page}
use Rattle.sva_space.specs.Calls.{Call, Map, Unmap, after, after_all, IsPermitted, ArePermitted, left_at, left_at_all, brings, is_to, takes, count_in}
use Rattle.sva_space.specs.Calls.{count_out}
use Rattle.sva_space.specs.Laws.{Rising, FiniteMap, Owned, LowestFirst}

-- ---- numbers in order

less_is : (a b : ℕ) → a < b → nat_cmp a b ≡ Less
less_is a b below = grind (arith, nat_tests)

pub is_less : (a b : ℕ) → nat_cmp a b ≡ Less → a < b
is_less a b is = elim_rank (nat_cmp a b) is (ranked a b (nat_cmp a b) refl)
  where
    elim_rank : (r : Ordering) → r ≡ Less → MatchOrdering r (a < b) (a ≡ b) (b < a) → a < b
    elim_rank Less is h = h
    elim_rank Equal is h = absurd (cc)
    elim_rank Greater is h = absurd (cc)

is_equal : (a b : ℕ) → nat_cmp a b ≡ Equal → a ≡ b
is_equal a b is = elim_rank (nat_cmp a b) is (ranked a b (nat_cmp a b) refl)
  where
    elim_rank : (r : Ordering) → r ≡ Equal → MatchOrdering r (a < b) (a ≡ b) (b < a) → a ≡ b
    elim_rank Less is h = absurd (cc)
    elim_rank Equal is h = h
    elim_rank Greater is h = absurd (cc)

is_greater : (a b : ℕ) → nat_cmp a b ≡ Greater → b < a
is_greater a b is = elim_rank (nat_cmp a b) is (ranked a b (nat_cmp a b) refl)
  where
    elim_rank : (r : Ordering) → r ≡ Greater → MatchOrdering r (a < b) (a ≡ b) (b < a) → b < a
    elim_rank Less is h = absurd (cc)
    elim_rank Equal is h = absurd (cc)
    elim_rank Greater is h = h

-- a look-up compares the page asked for with the page there
pub at_page : (page there : ℕ) → is_at (nat_cmp page) there ≡ (there == page)
at_page page there = unsigned_tied page there ∙ flipped page there
  where
    flipped : (a b : ℕ) → (a == b) ≡ (b == a)
    flipped a b = grind (arith, nat_tests)

-- ---- rising pages

-- each page is above one
abbrev pub AllAbove : ℕ → List (ℕ × (ℕ × Bool)) → Type 0
AllAbove page mappings = AllByRecursion (λ (there : ℕ). nat_cmp page there ≡ Less) (keys_of mappings)

all_above_lower : (low page : ℕ) (mappings : List (ℕ × (ℕ × Bool))) → low < page → AllAbove page mappings → AllAbove low mappings
all_above_lower low page [] below all = tt
all_above_lower low page (m ∷ mappings) below all =
    let here : page < m.0 = is_less page m.0 all.0 in
    (less_is low m.0 (omega arith), all_above_lower low page mappings below all.1)

all_above_insert : (low page : ℕ) (mapping : ℕ × Bool) (mappings : List (ℕ × (ℕ × Bool))) → low < page → AllAbove low mappings
    → AllAbove low (insert_entry nat_cmp mappings page mapping)
all_above_insert low page mapping [] below all = (less_is low page below, tt)
all_above_insert low page mapping (m ∷ mappings) below all = by_rank (nat_cmp page m.0) (all_above_insert low page mapping mappings below all.1)
  where
    by_rank : (r : Ordering) → AllAbove low (insert_entry nat_cmp mappings page mapping)
        → AllAbove low (match_ordering r ((page, mapping) ∷ m ∷ mappings) ((m.0, mapping) ∷ mappings) (m ∷ insert_entry nat_cmp mappings page mapping))
    by_rank Less rest = (less_is low page below, all)
    by_rank Equal rest = all
    by_rank Greater rest = (all.0, rest)

all_above_remove : (low page : ℕ) (mappings : List (ℕ × (ℕ × Bool))) → AllAbove low mappings → AllAbove low (without_page mappings page)
all_above_remove low page [] all = tt
all_above_remove low page (m ∷ mappings) all = by_test (is_at (nat_cmp page) m.0) (all_above_remove low page mappings all.1)
  where
    by_test : (b : Bool) → AllAbove low (without_page mappings page) → AllAbove low (cond b mappings (m ∷ without_page mappings page))
    by_test true rest = all.1
    by_test false rest = (all.0, rest)

pub rising_insert : (page : ℕ) (mapping : ℕ × Bool) (mappings : List (ℕ × (ℕ × Bool))) → IsRising mappings
    → IsRising (insert_entry nat_cmp mappings page mapping)
unfolding IsStrictlySortedBy
rising_insert page mapping [] rising = (tt, tt)
rising_insert page mapping (m ∷ mappings) rising = by_rank (nat_cmp page m.0) refl (rising_insert page mapping mappings rising.1)
  where
    by_rank : (r : Ordering) → nat_cmp page m.0 ≡ r → IsRising (insert_entry nat_cmp mappings page mapping)
        → IsRising (match_ordering r ((page, mapping) ∷ m ∷ mappings) ((m.0, mapping) ∷ mappings) (m ∷ insert_entry nat_cmp mappings page mapping))
    by_rank Less is rest = ((is, all_above_lower page m.0 mappings (is_less page m.0 is) rising.0), rising)
    by_rank Equal is rest = rising
    by_rank Greater is rest = (all_above_insert m.0 page mapping mappings (is_greater page m.0 is) rising.0, rest)

pub rising_remove : (page : ℕ) (mappings : List (ℕ × (ℕ × Bool))) → IsRising mappings → IsRising (without_page mappings page)
unfolding IsStrictlySortedBy
rising_remove page [] rising = rising
rising_remove page (m ∷ mappings) rising = by_test (is_at (nat_cmp page) m.0) (rising_remove page mappings rising.1)
  where
    by_test : (b : Bool) → IsRising (without_page mappings page) → IsRising (cond b mappings (m ∷ without_page mappings page))
    by_test true rest = rising.1
    by_test false rest = (all_above_remove m.0 page mappings rising.0, rest)

-- ---- what is at a page

-- at a page that wasn't there, what was inserted; elsewhere what was there
pub mapping_at-insert : (page asked : ℕ) (mapping : ℕ × Bool) (mappings : List (ℕ × (ℕ × Bool)))
    → mapping_at (insert_entry nat_cmp mappings page mapping) asked ≡ (if page == asked then Some mapping else mapping_at mappings asked)
mapping_at-insert page asked mapping [] = ap (λ b. cond b (Some mapping) None) (at_page asked page)
mapping_at-insert page asked mapping (m ∷ mappings) = by_rank (nat_cmp page m.0) refl (mapping_at-insert page asked mapping mappings)
  where
    swapped : (a b : Bool) (x y z : Option (ℕ × Bool)) → (a ≡ true → b ≡ true → ⊥) → cond a x (cond b y z) ≡ cond b y (cond a x z)
    swapped true true x y z apart = absurd (apart refl refl)
    swapped true false x y z apart = refl
    swapped false b x y z apart = refl

    by_answer : (a : Bool) → is_at (nat_cmp asked) m.0 ≡ a → cond a (Some mapping) (mapping_at mappings asked)
        ≡ (if a then Some mapping else cond (is_at (nat_cmp asked) m.0) (Some m.1) (mapping_at mappings asked))
    by_answer true here = refl
    by_answer false here = sym (ap (λ b. cond b (Some m.1) (mapping_at mappings asked)) here)

    both : page ≡ m.0 → (a : Bool) → (page == asked) ≡ a → cond (is_at (nat_cmp asked) m.0) (Some mapping) (mapping_at mappings asked)
        ≡ (if a then Some mapping else cond (is_at (nat_cmp asked) m.0) (Some m.1) (mapping_at mappings asked))
    both same a is =
        let here : is_at (nat_cmp asked) m.0 ≡ a = at_page asked m.0 ∙ ap (λ (p : ℕ). p == asked) (sym same) ∙ is in
        ap (λ b. cond b (Some mapping) (mapping_at mappings asked)) here ∙ by_answer a here

    by_rank : (r : Ordering) → nat_cmp page m.0 ≡ r → mapping_at (insert_entry nat_cmp mappings page mapping) asked
        ≡ (if page == asked then Some mapping else mapping_at mappings asked)
        → mapping_at (match_ordering r ((page, mapping) ∷ m ∷ mappings) ((m.0, mapping) ∷ mappings) (m ∷ insert_entry nat_cmp mappings page mapping))
        asked ≡ (if page == asked then Some mapping else mapping_at (m ∷ mappings) asked)
    by_rank Less is rest = ap (λ b. cond b (Some mapping) (mapping_at (m ∷ mappings) asked)) (at_page asked page)
    by_rank Equal is rest = both (is_equal page m.0 is) (page == asked) refl
    by_rank Greater is rest =
        ap (λ o. cond (is_at (nat_cmp asked) m.0) (Some m.1) o) rest
        ∙ swapped (is_at (nat_cmp asked) m.0) (page == asked) (Some m.1) (Some mapping) (mapping_at mappings asked)
        (λ here there. let greater : m.0 < page = is_greater page m.0 is in let at : (m.0 == asked) ≡ true =
        sym (at_page asked m.0) ∙ here in grind (arith, nat_tests))

-- below the lowest page nothing is mapped
none_below : (page : ℕ) (mappings : List (ℕ × (ℕ × Bool))) → AllAbove page mappings → mapping_at mappings page ≡ None
none_below page [] all = refl
none_below page (m ∷ mappings) all =
    let above : page < m.0 = is_less page m.0 all.0 in
    let apart : (m.0 == page) ≡ false = grind (arith, nat_tests) in
    ap (λ b. cond b (Some m.1) (mapping_at mappings page)) (at_page page m.0 ∙ apart) ∙ none_below page mappings all.1

-- what was at a page is put back there
pub put_back : (page : ℕ) (mapping before : ℕ × Bool) (mappings : List (ℕ × (ℕ × Bool))) → IsRising mappings → Some before ≡ mapping_at mappings page
    → insert_entry nat_cmp (insert_entry nat_cmp mappings page mapping) page before ≡ mappings
unfolding IsStrictlySortedBy
put_back page mapping before [] rising at = absurd (cc at)
put_back page mapping before (m ∷ mappings) rising at = by_rank (nat_cmp page m.0) refl (put_back page mapping before mappings rising.1)
  where
    at_here : (b : Bool) → is_at (nat_cmp page) m.0 ≡ b → Some before ≡ cond b (Some m.1) (mapping_at mappings page)
    at_here b is = at ∙ ap (λ t. cond t (Some m.1) (mapping_at mappings page)) is

    by_rank : (r : Ordering) → nat_cmp page m.0 ≡ r
        → (Some before ≡ mapping_at mappings page → insert_entry nat_cmp (insert_entry nat_cmp mappings page mapping) page before ≡ mappings)
        → insert_entry nat_cmp
        (match_ordering r ((page, mapping) ∷ m ∷ mappings) ((m.0, mapping) ∷ mappings) (m ∷ insert_entry nat_cmp mappings page mapping)) page before
        ≡ m ∷ mappings
    by_rank Less is rest =
        let none = none_below page (m ∷ mappings) (is, all_above_lower page m.0 mappings (is_less page m.0 is) rising.0) in absurd (cc (at ∙ none))
    by_rank Equal is rest =
        let same : page ≡ m.0 = is_equal page m.0 is in
        let there : (m.0 == page) ≡ true = grind (arith, nat_tests) in
        let value : before ≡ m.1 = cc (at_here true (at_page page m.0 ∙ there)) in
        ap
        (λ r. match_ordering r ((page, before) ∷ (m.0, mapping) ∷ mappings) ((m.0, before) ∷ mappings)
        ((m.0, mapping) ∷ insert_entry nat_cmp mappings page before))
        is
        ∙ ap (λ v. (m.0, v) ∷ mappings) value
    by_rank Greater is rest =
        let greater : m.0 < page = is_greater page m.0 is in
        let apart : (m.0 == page) ≡ false = grind (arith, nat_tests) in
        let inserted = insert_entry nat_cmp mappings page mapping in
        ap (λ r. match_ordering r ((page, before) ∷ m ∷ inserted) ((m.0, before) ∷ inserted) (m ∷ insert_entry nat_cmp inserted page before)) is
        ∙ ap (λ l. m ∷ l) (rest (at_here false (at_page page m.0 ∙ apart)))

pub mapping_at-remove : (page asked : ℕ) (mappings : List (ℕ × (ℕ × Bool))) → IsRising mappings → mapping_at (without_page mappings page) asked
    ≡ (if page == asked then None else mapping_at mappings asked)
mapping_at-remove page asked mappings rising =
    lookup-remove_entry {eq = eq_by_cmp nat_cmp} (eq_by_cmp_equiv nat_cmp_total) (is_at (nat_cmp page)) one asked mappings
    (IsDistinct-from_sorted nat_cmp (keys_of mappings) rising)
    ∙ ap (λ b. cond b None (mapping_at mappings asked)) (unsigned_tied page asked)
  where
    same_page : (x : ℕ) → is_at (nat_cmp page) x ≡ true → x ≡ page
    same_page x here = let equal : (x == page) ≡ true = sym (at_page page x) ∙ here in grind (arith, nat_tests)

    one : (x y : ℕ) → is_at (nat_cmp page) x ≡ true → is_at (nat_cmp page) y ≡ eq_by_cmp nat_cmp x y
    one x y here = let same : x ≡ page = same_page x here in ap (λ (p : ℕ). is_at (nat_cmp p) y) (sym same)

-- ---- over lists of calls

rising_after : (mappings : List (ℕ × (ℕ × Bool))) (call : Call) → IsRising mappings → IsRising (after mappings call)
rising_after mappings (Map page frame write) rising = rising_insert page (frame, write) mappings rising
rising_after mappings (Unmap page) rising = rising_remove page mappings rising

-- a frame's place before and after a call
count_after : (frame : ℕ) (mappings : List (ℕ × (ℕ × Bool))) (call : Call) → IsRising mappings → IsPermitted mappings call
    → count_in frame (after mappings call) + (if takes frame mappings call then 1 else 0) ≡ count_in frame mappings + cond (brings frame call) 1 0
count_after frame mappings (Map page mapped write) is_rising permitted =
    let sums : count_in frame (insert_entry nat_cmp mappings page (mapped, write)) + unwrap_or (option_map
    (λ (m : ℕ × Bool). cond {A = ℕ} (m.0 == frame) 1 0) (mapping_at mappings page)) 0 ≡ count_in frame mappings + cond (mapped == frame) 1 0 =
    sum_by-insert_entry (λ (m : ℕ × Bool). cond (m.0 == frame) 1 0) nat_cmp_total mappings page (mapped, write) is_rising in
    let none : unwrap_or (option_map (λ (m : ℕ × Bool). cond {A = ℕ} (m.0 == frame) 1 0) (mapping_at mappings page)) 0 ≡ 0 =
    ap (λ o. unwrap_or (option_map (λ (m : ℕ × Bool). cond {A = ℕ} (m.0 == frame) 1 0) o) 0) permitted in
    omega (arith, sums, none)
count_after frame mappings (Unmap page) is_rising permitted =
    let sums : count_in frame (without_page mappings page) + unwrap_or (option_map (λ (m : ℕ × Bool). cond {A = ℕ} (m.0 == frame) 1 0)
    (mapping_at mappings page)) 0 ≡ count_in frame mappings =
    sum_by-remove_entry (λ (m : ℕ × Bool). cond (m.0 == frame) 1 0) (is_at (nat_cmp page)) mappings in
    omega (arith, sums, weighed (mapping_at mappings page))
  where
    weighed : (o : Option (ℕ × Bool)) → unwrap_or (option_map (λ (m : ℕ × Bool). cond {A = ℕ} (m.0 == frame) 1 0) o) 0 ≡ cond {A = ℕ} (is_to frame o) 1 0
    weighed None = refl
    weighed (Some m) = refl

pub rising_after_all : (mappings : List (ℕ × (ℕ × Bool))) (calls : List Call) → IsRising mappings → IsRising (after_all mappings calls)
rising_after_all mappings [] is_rising = is_rising
rising_after_all mappings (call ∷ calls) is_rising = rising_after_all (after mappings call) calls (rising_after mappings call is_rising)

pub none_rising : IsRising []
unfolding IsStrictlySortedBy
none_rising = tt

pub mapping_at-after : (page : ℕ) (mappings : List (ℕ × (ℕ × Bool))) (call : Call) → IsRising mappings → mapping_at (after mappings call) page
    ≡ left_at page (mapping_at mappings page) call
mapping_at-after page mappings (Map mapped frame write) is_rising = mapping_at-insert mapped page (frame, write) mappings
mapping_at-after page mappings (Unmap unmapped) is_rising = mapping_at-remove unmapped page mappings is_rising

pub mapping_at-after_all : (page : ℕ) (mappings : List (ℕ × (ℕ × Bool))) (calls : List Call) → IsRising mappings
    → mapping_at (after_all mappings calls) page ≡ left_at_all page (mapping_at mappings page) calls
mapping_at-after_all page mappings [] is_rising = refl
mapping_at-after_all page mappings (call ∷ calls) is_rising =
    mapping_at-after_all page (after mappings call) calls (rising_after mappings call is_rising)
    ∙ ap (λ now. left_at_all page now calls) (mapping_at-after page mappings call is_rising)

-- ---- the laws

pub rising : Rising
rising calls = rising_after_all [] calls none_rising

pub finite_map : FiniteMap
finite_map calls page = mapping_at-after_all page [] calls none_rising

owned_from : (frame : ℕ) (mappings : List (ℕ × (ℕ × Bool))) (calls : List Call) → IsRising mappings → ArePermitted mappings calls
    → count_in frame mappings + count_by (brings frame) calls ≡ count_in frame (after_all mappings calls) + count_out frame mappings calls
owned_from frame mappings [] is_rising permitted = refl
owned_from frame mappings (call ∷ calls) is_rising permitted =
    let rest = owned_from frame (after mappings call) calls (rising_after mappings call is_rising) permitted.1 in
    let first = count_after frame mappings call is_rising permitted.0 in
    let counted : count_by (brings frame) (call ∷ calls) ≡ cond (brings frame call) 1 0 + count_by (brings frame) calls =
    sum_by-cons (λ (c : Call). cond (brings frame c) 1 0) call calls in
    omega (arith, rest, first, counted)

pub owned : Owned
owned calls frame permitted = zero-add-back (owned_from frame [] calls none_rising permitted)
  where
    zero-add-back : {a b : ℕ} → 0 + a ≡ b → a ≡ b
    zero-add-back h = omega arith

pub above_others : (page : ℕ) (mappings : List (ℕ × (ℕ × Bool))) → AllAbove page mappings → (other : ℕ) (mapping : ℕ × Bool)
    → mapping_at mappings other ≡ Some mapping → page < other
above_others page [] all other mapping found = absurd (cc)
above_others page (m ∷ mappings) all other mapping found = by_test (is_at (nat_cmp other) m.0) refl found (above_others page mappings all.1 other mapping)
  where
    by_test : (b : Bool) → is_at (nat_cmp other) m.0 ≡ b → cond b (Some m.1) (mapping_at mappings other) ≡ Some mapping
        → (mapping_at mappings other ≡ Some mapping → page < other) → page < other
    by_test true is found rest = let equal : (m.0 == other) ≡ true = sym (at_page other m.0) ∙ is in let below : page < m.0 =
        is_less page m.0 all.0 in grind (arith, nat_tests)
    by_test false is found rest = rest found

pub at_itself : (page : ℕ) → is_at (nat_cmp page) page ≡ true
at_itself page = at_page page page ∙ itself page
  where
    itself : (n : ℕ) → (n == n) ≡ true
    itself n = grind (arith, nat_tests)

pub rising_head : (m : ℕ × (ℕ × Bool)) (mappings : List (ℕ × (ℕ × Bool))) → IsRising (m ∷ mappings) → AllAbove m.0 mappings
rising_head m mappings is_rising = sorted_head nat_cmp m.0 (keys_of mappings) is_rising

pub rising_tail : (m : ℕ × (ℕ × Bool)) (mappings : List (ℕ × (ℕ × Bool))) → IsRising (m ∷ mappings) → IsRising mappings
unfolding IsStrictlySortedBy
rising_tail m mappings is_rising = is_rising.1

pub lowest_first : LowestFirst
lowest_first page frame write rest is_rising = (
  ap (λ b. cond b (Some (frame, write)) (mapping_at rest page)) (at_itself page),
  ap (λ b. cond b rest ((page, (frame, write)) ∷ without_page rest page)) (at_itself page),
  above_others page rest (sorted_head nat_cmp page (keys_of rest) is_rising),
)
