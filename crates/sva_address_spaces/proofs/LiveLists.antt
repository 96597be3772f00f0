-- The live spaces, as they are seen.
use Rattle.std.proofs.Common.{◌≡◌, ℕ, zero, suc, ◌+◌, ◌<◌, ◌≤◌, ◌==◌, Bool, true, false, cond, List, Some, None, [], ◌∷◌, ◌++◌, length, set, get_or}
use Rattle.std.proofs.Common.{slice_get, refl, sym, ap, subst, ◌∙◌, arith, if◌then◌else◌}
use Rattle.std.specs.Prelude.{Option, is_some, nat_lt}
use Rattle.std.specs.List.{position, position_or_len}
use Rattle.std.proofs.lemmas.Bool.Decides.{nat_tests}
use Rattle.std.proofs.lemmas.List.Quantifiers.{position-Some}
use Rattle.std.proofs.lemmas.List.Sums.{fails_before_first}
use Rattle.std.proofs.lemmas.Option.{slice_get-get_or}
use Rattle.sva_model.specs.Wire.{PageWire, SpaceWire}
use Rattle.sva_labels.specs.Finding.{pages_of}
use Rattle.sva_labels.specs.Moves.{with_pages}
use Rattle.sva_frames.specs.Frames.{Holding}
use Rattle.sva_space.specs.Calls.{count_in}
use Rattle.sva_address_spaces.specs.declared.live.LiveSpace.{LiveSpace}
use Rattle.sva_address_spaces.specs.Seen.{pages_seen}
use Rattle.sva_address_spaces.specs.Lives.{is_of, space_seen, spaces_seen, count_of, count_all, AreNumbered}
use Rattle.sva_address_spaces.specs.Owned.{mapped_bit, Owns, Balanced, Spent}

-- what is counted once, and is here, is nowhere else
pub no_more : (b : Bool) (k : ℕ) → b ≡ true → (if b then 1 else 0) + k ≤ 1 → k ≡ 0
no_more true k e h = omega arith
no_more false k e h = absurd (cc)

-- the one space with a number
pub record IsAt (lives : List LiveSpace) (number place : ℕ) (live : LiveSpace) : Type 0 where
  pub there : slice_get lives place ≡ Some live
  pub is_number : live.number ≡ number
  pub once : count_of number lives ≤ 1

pub found : (lives : List LiveSpace) (next n i : ℕ) (live : LiveSpace) → AreNumbered lives next → Some i ≡ position (is_of n) lives → live
    ≡ get_or lives i live → IsAt lives n i live
found lives next n i live numbered first read =
    let at = position-Some (is_of n) lives i live (sym first) in
    record {
      there = slice_get-get_or lives i live at.0 ∙ ap Some (sym read);
      is_number = same live.number n (ap (is_of n) read ∙ at.1);
      once = at_most (count_of n lives) (nat_lt n next) (numbered n);
    }
  where
    same : (a b : ℕ) → (a == b) ≡ true → a ≡ b
    same a b is = grind (arith, nat_tests)

    at_most : (k : ℕ) (b : Bool) → k ≤ (if b then 1 else 0) → k ≤ 1
    at_most k true h = h
    at_most k false h = omega arith

unmatched : (lives : List LiveSpace) (n : ℕ) → ((k : ℕ) (other : LiveSpace) → k < length lives → is_of n (get_or lives k other) ≡ false)
    → pages_of (spaces_seen lives) n ≡ None
unmatched [] n none = refl
unmatched (l ∷ ls) n none =
    ap (λ b. if b then Some (pages_seen l.space) else pages_of (spaces_seen ls) n) (none 0 l (omega arith))
    ∙ unmatched ls n (λ k other within. none (suc k) other (omega arith))

pub not_found : (lives : List LiveSpace) (n : ℕ) → None ≡ position (is_of n) lives → pages_of (spaces_seen lives) n ≡ None
not_found lives n none =
    unmatched lives n (λ k other within. fails_before_first (is_of n) lives k other (below k (position_or_len (is_of n) lives) (length lives) within none))
  where
    below : (k p l : ℕ) → k < l → None ≡ cond (nat_lt p l) (Some p) None → k < p
    below k p l h none = grind (arith, nat_tests)

-- whether there is a space of the number
pages_of-some : (lives : List LiveSpace) (n i : ℕ) (live : LiveSpace) → slice_get lives i ≡ Some live → is_of n live ≡ true
    → is_some (pages_of (spaces_seen lives) n) ≡ true
pages_of-some [] n i live there is = absurd (cc)
pages_of-some (l ∷ ls) n zero live there is =
    ap (λ b. is_some (if b then Some (pages_seen l.space) else pages_of (spaces_seen ls) n)) (ap (is_of n) (inside there) ∙ is)
  where
    inside : Some l ≡ Some live → l ≡ live
    inside e = cc
pages_of-some (l ∷ ls) n (suc i) live there is = go (is_of n l) (pages_of-some ls n i live there is)
  where
    go : (b : Bool) → is_some (pages_of (spaces_seen ls) n) ≡ true → is_some (if b then Some (pages_seen l.space) else pages_of (spaces_seen ls) n) ≡ true
    go true rest = refl
    go false rest = rest

pub is_found : (lives : List LiveSpace) (n : ℕ) (found : Option ℕ) (seen : List LiveSpace) (b : Bool) → b ≡ is_some found → found ≡ position (is_of n) seen
    → seen ≡ lives → b ≡ is_some (pages_of (spaces_seen lives) n)
is_found lives n None seen b is first same = is ∙ sym (ap is_some (not_found lives n (first ∙ ap (λ (ls : List LiveSpace). position (is_of n) ls) same)))
is_found lives n (Some i) seen b is first same = is ∙ sym (at lives (sym (first ∙ ap (λ (ls : List LiveSpace). position (is_of n) ls) same)))
  where
    at : (ls : List LiveSpace) → position (is_of n) ls ≡ Some i → is_some (pages_of (spaces_seen ls) n) ≡ true
    at [] p = absurd (cc)
    at (l ∷ ls) p = let here =
        position-Some (is_of n) (l ∷ ls) i l p in pages_of-some (l ∷ ls) n i (get_or (l ∷ ls) i l) (slice_get-get_or (l ∷ ls) i l here.0) here.1

pub same_live : (l live : LiveSpace) → Some l ≡ Some live → l ≡ live
same_live l live e = cc

same_number : (a b : ℕ) → a ≡ b → (a == b) ≡ true
same_number a b e = grind (arith, nat_tests)

-- a space that is there is counted
pub counted : (lives : List LiveSpace) (n i : ℕ) (live : LiveSpace) → slice_get lives i ≡ Some live → live.number ≡ n → 1 ≤ count_of n lives
counted [] n i live there is = absurd (cc)
counted (l ∷ ls) n zero live there is = by_test (l.number == n) (same l.number n (ap_number there))
  where
    ap_number : Some l ≡ Some live → l.number ≡ n
    ap_number e = ap (λ (m : LiveSpace). m.number) (inside e) ∙ is
      where
        inside : Some l ≡ Some live → l ≡ live
        inside e = cc

    same : (a b : ℕ) → a ≡ b → (a == b) ≡ true
    same a b e = grind (arith, nat_tests)

    by_test : (b : Bool) → b ≡ true → 1 ≤ (if b then 1 else 0) + count_of n ls
    by_test true e = omega arith
    by_test false e = absurd (cc)
counted (l ∷ ls) n (suc i) live there is = omega (arith, counted ls n i live there is)

-- where no space has the number, none changes
with_pages-none : (lives : List LiveSpace) (n : ℕ) (change : List PageWire → List PageWire) → count_of n lives ≡ 0
    → with_pages (spaces_seen lives) n change ≡ spaces_seen lives
with_pages-none [] n change none = refl
with_pages-none (l ∷ ls) n change none = by_test (l.number == n) none (with_pages-none ls n change)
  where
    by_test : (b : Bool) → (if b then 1 else 0) + count_of n ls ≡ 0 → (count_of n ls ≡ 0 → with_pages (spaces_seen ls) n change ≡ spaces_seen ls)
        → (if b then record (space_seen l) { pages = change (pages_seen l.space) } else space_seen l) ∷ with_pages (spaces_seen ls) n change
        ≡ space_seen l ∷ spaces_seen ls
    by_test true none rest = absurd (omega arith)
    by_test false none rest = ap (λ ss. space_seen l ∷ ss) (rest (omega arith))

pub pages_of-at : (lives : List LiveSpace) (n i : ℕ) (live : LiveSpace) → slice_get lives i ≡ Some live → live.number ≡ n → count_of n lives ≤ 1
    → pages_of (spaces_seen lives) n ≡ Some (pages_seen live.space)
pages_of-at [] n i live there is once = absurd (cc)
pages_of-at (l ∷ ls) n zero live there is once =
    let e : l ≡ live = same_live l live there in
    ap (λ b. if b then Some (pages_seen l.space) else pages_of (spaces_seen ls) n) (same_number l.number n (ap (λ (k : LiveSpace). k.number) e ∙ is))
    ∙ ap (λ (k : LiveSpace). Some (pages_seen k.space)) e
pages_of-at (l ∷ ls) n (suc i) live there is once = by_test (l.number == n) once (pages_of-at ls n i live there is)
  where
    by_test : (b : Bool) → (if b then 1 else 0) + count_of n ls ≤ 1
        → (count_of n ls ≤ 1 → pages_of (spaces_seen ls) n ≡ Some (pages_seen live.space))
        → (if b then Some (pages_seen l.space) else pages_of (spaces_seen ls) n) ≡ Some (pages_seen live.space)
    by_test true once rest = absurd (omega (arith, counted ls n i live there is))
    by_test false once rest = rest (omega arith)

abbrev space_wire : ℕ → List PageWire → SpaceWire
space_wire n ps = record { number = n; pages = ps }

pub with_pages-at : (lives : List LiveSpace) (n i : ℕ) (live : LiveSpace) (space : List (ℕ × (ℕ × Bool))) (change : List PageWire → List PageWire)
    → slice_get lives i ≡ Some live → live.number ≡ n → count_of n lives ≤ 1 → pages_seen space ≡ change (pages_seen live.space)
    → spaces_seen (set lives i (record live { space = space })) ≡ with_pages (spaces_seen lives) n change
with_pages-at [] n i live space change there is once changed = refl
with_pages-at (l ∷ ls) n zero live space change there is once changed =
    let e : l ≡ live = same_live l live there in
    let at : (l.number == n) ≡ true = same_number l.number n (ap (λ (k : LiveSpace). k.number) e ∙ is) in
    ap (λ ps. space_wire live.number ps ∷ spaces_seen ls) changed
    ∙ sym (ap (λ (k : LiveSpace). space_wire k.number (change (pages_seen k.space)) ∷ spaces_seen ls) e)
    ∙ sym (ap (λ ss. space_wire l.number (change (pages_seen l.space)) ∷ ss) (with_pages-none ls n change (no_more (l.number == n) (count_of n ls) at once)))
    ∙ sym (ap (λ b. (if b then space_wire l.number (change (pages_seen l.space)) else space_seen l) ∷ with_pages (spaces_seen ls) n change) at)
with_pages-at (l ∷ ls) n (suc i) live space change there is once changed = by_test (l.number == n) once (with_pages-at ls n i live space change there is)
  where
    by_test : (b : Bool) → (if b then 1 else 0) + count_of n ls ≤ 1
        → (count_of n ls ≤ 1 → pages_seen space ≡ change (pages_seen live.space) → spaces_seen (set ls i (record live { space = space }))
        ≡ with_pages (spaces_seen ls) n change) → space_seen l ∷ spaces_seen (set ls i (record live { space = space }))
        ≡ (if b then record (space_seen l) { pages = change (pages_seen l.space) } else space_seen l) ∷ with_pages (spaces_seen ls) n change
    by_test true once rest = absurd (omega (arith, counted ls n i live there is))
    by_test false once rest = ap (λ ss. space_seen l ∷ ss) (rest (omega arith) changed)

-- a space with other pages keeps its number
count_of-at : (lives : List LiveSpace) (m i : ℕ) (live : LiveSpace) (space : List (ℕ × (ℕ × Bool))) → slice_get lives i ≡ Some live
    → count_of m (set lives i (record live { space = space })) ≡ count_of m lives
count_of-at [] m i live space there = refl
count_of-at (l ∷ ls) m zero live space there = ap (λ (k : LiveSpace). (if is_of m k then 1 else 0) + count_of m ls) (sym (inside there))
  where
    inside : Some l ≡ Some live → l ≡ live
    inside e = cc
count_of-at (l ∷ ls) m (suc i) live space there = ap (λ (k : ℕ). (if is_of m l then 1 else 0) + k) (count_of-at ls m i live space there)

pub numbered-at : (lives : List LiveSpace) (next i : ℕ) (live : LiveSpace) (space : List (ℕ × (ℕ × Bool))) → AreNumbered lives next → slice_get lives i
    ≡ Some live → AreNumbered (set lives i (record live { space = space })) next
numbered-at lives next i live space numbered there m =
    subst (λ (k : ℕ). k ≤ (if nat_lt m next then 1 else 0)) (sym (count_of-at lives m i live space there)) (numbered m)

-- its frames are of all frames
count_all-at : (lives : List LiveSpace) (f i : ℕ) (live : LiveSpace) (space : List (ℕ × (ℕ × Bool))) → slice_get lives i ≡ Some live
    → count_all f (set lives i (record live { space = space })) + count_in f live.space ≡ count_all f lives + count_in f space
count_all-at [] f i live space there = absurd (cc)
count_all-at (l ∷ ls) f zero live space there = omega (arith, ap (λ (k : LiveSpace). count_in f k.space) (inside there))
  where
    inside : Some l ≡ Some live → l ≡ live
    inside e = cc
count_all-at (l ∷ ls) f (suc i) live space there = omega (arith, count_all-at ls f i live space there)

count_in-all : (lives : List LiveSpace) (f i : ℕ) (live : LiveSpace) → slice_get lives i ≡ Some live → count_in f live.space ≤ count_all f lives
count_in-all [] f i live there = absurd (cc)
count_in-all (l ∷ ls) f zero live there = omega (arith, ap (λ (k : LiveSpace). count_in f k.space) (inside there))
  where
    inside : Some l ≡ Some live → l ≡ live
    inside e = cc
count_in-all (l ∷ ls) f (suc i) live there = omega (arith, count_in-all ls f i live there)

pub owns-at : (lives : List LiveSpace) (frames : List Holding) (i : ℕ) (live : LiveSpace) → ((f : ℕ) → count_all f lives ≤ mapped_bit f frames)
    → slice_get lives i ≡ Some live → Owns live.space frames
owns-at lives frames i live owned there f = omega (arith, owned f, count_in-all lives f i live there)

pub owned-at : (lives : List LiveSpace) (frames frames_after : List Holding) (i : ℕ) (live : LiveSpace) (space : List (ℕ × (ℕ × Bool)))
    → ((f : ℕ) → count_all f lives ≤ mapped_bit f frames) → slice_get lives i ≡ Some live → Balanced live.space frames space frames_after → (f : ℕ)
    → count_all f (set lives i (record live { space = space })) ≤ mapped_bit f frames_after
owned-at lives frames frames_after i live space owned there balanced f = omega (arith, owned f, count_all-at lives f i live space there, balanced f)

-- a new space, with the next number
count_of-new : (lives : List LiveSpace) (m : ℕ) (live : LiveSpace) → count_of m (lives ++ live ∷ []) ≡ count_of m lives + (if is_of m live then 1 else 0)
count_of-new [] m live = omega arith
count_of-new (l ∷ ls) m live = omega (arith, count_of-new ls m live)

pub numbered-new : (lives : List LiveSpace) (next : ℕ) (space : List (ℕ × (ℕ × Bool))) → AreNumbered lives next
    → AreNumbered (lives ++ record { number = next; space = space } ∷ []) (next + 1)
numbered-new lives next space numbered m =
    at_most (count_of m lives) (count_of m (lives ++ record { number = next; space = space } ∷ [])) m next (numbered m)
    (count_of-new lives m (record { number = next; space = space }))
  where
    at_most : (k j m next : ℕ) → k ≤ (if nat_lt m next then 1 else 0) → j ≡ k + (if next == m then 1 else 0) → j ≤ (if nat_lt m (next + 1) then 1 else 0)
    at_most k j m next h e = grind (arith, nat_tests)

count_all-new : (lives : List LiveSpace) (f : ℕ) (live : LiveSpace) → count_all f (lives ++ live ∷ []) ≡ count_all f lives + count_in f live.space
count_all-new [] f live = omega arith
count_all-new (l ∷ ls) f live = omega (arith, count_all-new ls f live)

pub owned-new : (lives : List LiveSpace) (frames : List Holding) (live : LiveSpace) → ((f : ℕ) → count_all f lives ≤ mapped_bit f frames) → live.space ≡ []
    → (f : ℕ) → count_all f (lives ++ live ∷ []) ≤ mapped_bit f frames
owned-new lives frames live owned none f =
    let empty : count_in f live.space ≡ 0 = ap (count_in f) none in
    omega (arith, owned f, count_all-new lives f live, empty)

-- a space whose pages are seen as before
pub spaces-kept : (lives : List LiveSpace) (i : ℕ) (live : LiveSpace) (space : List (ℕ × (ℕ × Bool))) → slice_get lives i ≡ Some live → pages_seen space
    ≡ pages_seen live.space → spaces_seen (set lives i (record live { space = space })) ≡ spaces_seen lives
spaces-kept [] i live space there same = refl
spaces-kept (l ∷ ls) zero live space there same =
    ap (λ ps. space_wire live.number ps ∷ spaces_seen ls) same ∙ sym (ap (λ (k : LiveSpace). space_seen k ∷ spaces_seen ls) (same_live l live there))
spaces-kept (l ∷ ls) (suc i) live space there same = ap (λ ss. space_seen l ∷ ss) (spaces-kept ls i live space there same)

-- the last space of a host that is taken apart
pub owns-last : (lives rest : List LiveSpace) (frames : List Holding) (live : LiveSpace) → lives ≡ rest ++ live ∷ []
    → ((f : ℕ) → count_all f lives ≤ mapped_bit f frames) → Owns live.space frames
owns-last lives rest frames live last owned f = omega (arith, owned f, ap (count_all f) last, count_all-new rest f live)

pub owned-rest : (lives rest : List LiveSpace) (frames frames_after : List Holding) (live : LiveSpace) → lives ≡ rest ++ live ∷ []
    → ((f : ℕ) → count_all f lives ≤ mapped_bit f frames) → Spent live.space frames frames_after → (f : ℕ) → count_all f rest ≤ mapped_bit f frames_after
owned-rest lives rest frames frames_after live last owned spent f = omega (arith, owned f, ap (count_all f) last, count_all-new rest f live, spent f)
