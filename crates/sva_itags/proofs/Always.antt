-- What holds after every list of calls.
use Rattle.std.proofs.Common.{◌≡◌, ◌≢◌, ℕ, zero, suc, ◌+◌, ◌<◌, ◌≤◌, ◌==◌, Bool, true, false, Option, Some, None, List, [], ◌∷◌, ◌++◌, length, is_none}
use Rattle.std.proofs.Common.{slice_get, slice_set, option_map, if◌then◌else◌, refl, ap, sym, ◌∙◌, subst, append_assoc, append-nil, arith}
use Rattle.std.specs.List.{AllByRecursion as ByRecursion, position_or_len}
use Rattle.std.proofs.Math.ListN.{length-set}
use Rattle.std.proofs.lemmas.List.Elements.{All-set, All-replicate, recursion_from_All}
use Rattle.std.proofs.lemmas.Bool.Decides.{nat_tests}
use Rattle.sva_itags.specs.Vector.{is_named}
use Rattle.sva_itags.specs.Tags.{AreTags, IsPlace, IsLast, all_free, lowest_free, taken, with_fresh, counted, one_more, completed, after_completion}
use Rattle.sva_itags.specs.Calls.{Call, after, after_all, IsPermitted, AlwaysTags, counts_for, IsNoClear, AreShort, AreWhole, IsFreedInTurn, FreedAtItsCount}
use Rattle.sva_itags.specs.Calls.Call.{Take, Arrived, Clear}
use Rattle.sva_itags.specs.declared.itags.Busy.{Busy}
use Rattle.sva_itags.specs.declared.itags.Busy.TheVariants.{Fresh, Counting}
use Rattle.sva_itags.proofs.Completions.{completed-tags}
use Rattle.sva_itags.proofs.Exact.{completed-get, freed_exactly}

with_fresh-tags : (o : Option ℕ) (xs : List (Option Busy)) → AreTags xs → AreTags (with_fresh o xs)
with_fresh-tags None xs h = h
with_fresh-tags (Some t) xs h = (length-set xs t (Some Fresh) ∙ h.0, All-set IsPlace xs t (Some Fresh) tt h.1)

pub after-tags : (call : Call) (xs : List (Option Busy)) → IsPermitted call → AreTags xs → AreTags (after xs call)
after-tags Take xs p h = with_fresh-tags (lowest_free xs) xs h
after-tags (Arrived v n) xs p h = completed-tags v n xs p.0 p.1 h
after-tags Clear xs p h = (refl, All-replicate IsPlace 32 None tt)

after_all-tags : (calls : List Call) (xs : List (Option Busy)) → ByRecursion IsPermitted calls → AreTags xs → AreTags (after_all xs calls)
after_all-tags [] xs p h = h
after_all-tags (call ∷ calls) xs p h = after_all-tags calls (after xs call) p.1 (after-tags call xs p.0 h)

pub always_tags : AlwaysTags
always_tags calls p =
    after_all-tags calls all_free (recursion_from_All IsPermitted calls p) (refl, All-replicate IsPlace 32 None tt)

-- ---- the lowest free tag is free, so a busy tag is left alone
free_at : (xs : List (Option Busy)) → position_or_len is_none xs < length xs → slice_get xs (position_or_len is_none xs) ≡ Some None
free_at [] h = absurd (omega arith)
free_at (None ∷ xs) h = refl
free_at (Some b ∷ xs) h =
    let same : 1 + position_or_len is_none xs ≡ suc (position_or_len is_none xs) = omega arith in
    ap (slice_get (Some b ∷ xs)) same ∙ free_at xs (omega arith)

pub lowest-free : (xs : List (Option Busy)) (t : ℕ) → lowest_free xs ≡ Some t → slice_get xs t ≡ Some None
lowest-free xs t h =
    let within : position_or_len is_none xs < length xs = grind (arith, nat_tests) in
    let same : position_or_len is_none xs ≡ t = grind (arith, nat_tests) in
    subst (λ k. slice_get xs k ≡ Some None) same (free_at xs within)

set-get_other : (xs : List (Option Busy)) (i j : ℕ) (y : Option Busy) → i ≢ j → slice_get (slice_set xs i y) j ≡ slice_get xs j
set-get_other [] i j y h = refl
set-get_other (x ∷ xs) zero zero y h = absurd (h refl)
set-get_other (x ∷ xs) zero (suc j) y h = refl
set-get_other (x ∷ xs) (suc i) zero y h = refl
set-get_other (x ∷ xs) (suc i) (suc j) y h = set-get_other xs i j y (λ e. h (ap suc e))

pub set-get_same : (xs : List (Option Busy)) (i : ℕ) (x y : Option Busy) → slice_get xs i ≡ Some x → slice_get (slice_set xs i y) i ≡ Some y
set-get_same [] i x y h = absurd (cc)
set-get_same (z ∷ xs) zero x y h = refl
set-get_same (z ∷ xs) (suc i) x y h = set-get_same xs i x y h

-- the tag that is taken is busy with no completion yet
pub taken-get : (xs : List (Option Busy)) (t : ℕ) → lowest_free xs ≡ Some t → slice_get (taken xs) t ≡ Some (Some Fresh)
taken-get xs t h = subst (λ o. slice_get (with_fresh o xs) t ≡ Some (Some Fresh)) (sym h) (set-get_same xs t None (Some Fresh) (lowest-free xs t h))

pub with_fresh-busy : (o : Option ℕ) (xs : List (Option Busy)) (t : ℕ) (b : Busy) → ((k : ℕ) → o ≡ Some k → slice_get xs k ≡ Some None)
    → slice_get xs t ≡ Some (Some b) → slice_get (with_fresh o xs) t ≡ Some (Some b)
with_fresh-busy None xs t b free h = h
with_fresh-busy (Some k) xs t b free h =
    let is_free : slice_get xs k ≡ Some None = free k refl in
    let differs : k ≢ t = λ e. let at_t : slice_get xs t ≡ Some None = subst (λ j. slice_get xs j ≡ Some None) e is_free in cc in
    set-get_other xs k t (Some Fresh) differs ∙ h

-- ---- a busy tag counts
-- what a busy tag is after completions with these counts
kept : List ℕ → Busy
kept [] = Fresh
kept (n ∷ ns) = Counting n (length (n ∷ ns))

snoc-length : (ns : List ℕ) (n : ℕ) → length (ns ++ n ∷ []) ≡ length ns + 1
snoc-length [] n = omega arith
snoc-length (m ∷ ns) n = omega (arith, snoc-length ns n)

append-le : (ns ms : List ℕ) → length ns ≤ length (ns ++ ms)
append-le [] ms = omega arith
append-le (n ∷ ns) ms = omega (arith, append-le ns ms)

-- fewer in the end are fewer before
short_before : (ns ms : List ℕ) → AreShort (ns ++ ms) → AreShort ns
short_before [] ms h = tt
short_before (n ∷ ns) ms h = omega (arith, append-le ns ms)

counted_short : (count arrived : ℕ) → arrived < count → counted count arrived ≡ Some (Counting count arrived)
counted_short count arrived h = let no : (arrived == count) ≡ false = grind (arith, nat_tests) in rw no refl

kept_more : (ns : List ℕ) (n : ℕ) → AreShort (ns ++ n ∷ []) → one_more n (kept ns) ≡ Some (kept (ns ++ n ∷ []))
unfolding kept
kept_more [] n h = counted_short n 1 (omega arith)
kept_more (m ∷ ns) n h =
    let more : length (m ∷ ns) + 1 ≡ length (m ∷ (ns ++ n ∷ [])) = omega (arith, snoc-length ns n) in
    rw more (counted_short m (length (m ∷ (ns ++ n ∷ []))) h)

-- the place of a busy tag after a completion
arrived-kept : (v n : ℕ) (xs : List (Option Busy)) (t : ℕ) (named : Bool) (b : Busy) → named ≡ is_named v t → slice_get xs t ≡ Some (Some b)
    → slice_get (completed v n xs) t ≡ Some (if named then one_more n b else Some b)
arrived-kept v n xs t named b is_name h = completed-get v n xs t ∙ ap (option_map (after_completion (is_named v t) n)) h
    ∙ ap (λ k. Some (if k then one_more n b else Some b)) (sym is_name)

-- a tag that is busy counts the completions that name it, as long as they are fewer than the first one's count
counts_on : (calls : List Call) (xs : List (Option Busy)) (t : ℕ) (seen : List ℕ) → ByRecursion IsNoClear calls → slice_get xs t
    ≡ Some (Some (kept seen)) → AreShort (seen ++ counts_for t calls) → slice_get (after_all xs calls) t ≡ Some (Some (kept (seen ++ counts_for t calls)))
counts_on [] xs t seen p h short = h ∙ ap (λ ns. Some (Some (kept ns))) (sym (append-nil seen))
counts_on (Take ∷ calls) xs t seen p h short =
    counts_on calls (taken xs) t seen p.1 (with_fresh-busy (lowest_free xs) xs t (kept seen) (λ k e. lowest-free xs k e) h) short
counts_on (Clear ∷ calls) xs t seen p h short = absurd p.0
counts_on (Arrived v n ∷ calls) xs t seen p h short =
    by_name (λ ns next fewer. counts_on calls (completed v n xs) t ns p.1 next fewer) (is_named v t) refl short
  where
    by_name : ((ns : List ℕ) → slice_get (completed v n xs) t ≡ Some (Some (kept ns)) → AreShort (ns ++ counts_for t calls)
        → slice_get (after_all (completed v n xs) calls) t ≡ Some (Some (kept (ns ++ counts_for t calls)))) → (named : Bool) → named ≡ is_named v t
        → AreShort (seen ++ (if named then n ∷ counts_for t calls else counts_for t calls)) → slice_get (after_all (completed v n xs) calls) t
        ≡ Some (Some (kept (seen ++ (if named then n ∷ counts_for t calls else counts_for t calls))))
    by_name rest false is_name fewer = rest seen (arrived-kept v n xs t false (kept seen) is_name h) fewer
    by_name rest true is_name fewer =
        let parts : (seen ++ n ∷ []) ++ counts_for t calls ≡ seen ++ n ∷ counts_for t calls = append_assoc seen (n ∷ []) (counts_for t calls) in
        let fewer_now : AreShort ((seen ++ n ∷ []) ++ counts_for t calls) = subst AreShort (sym parts) fewer in
        let next : slice_get (completed v n xs) t ≡ Some (Some (kept (seen ++ n ∷ []))) = arrived-kept v n xs t true (kept seen) is_name h
        ∙ ap Some (kept_more seen n (short_before (seen ++ n ∷ []) (counts_for t calls) fewer_now)) in
        rest (seen ++ n ∷ []) next fewer_now ∙ ap (λ ns. Some (Some (kept ns))) parts

-- the last completion of a tag is the one that makes its counts whole
last_whole : (ns : List ℕ) (n : ℕ) → IsLast n (kept ns) → AreWhole (ns ++ n ∷ [])
unfolding kept
last_whole [] n h = h
last_whole (m ∷ ns) n h = omega (arith, snoc-length ns n)

whole_last : (ns : List ℕ) (n : ℕ) → AreWhole (ns ++ n ∷ []) → IsLast n (kept ns)
unfolding kept
whole_last [] n h = h
whole_last (m ∷ ns) n h = omega (arith, snoc-length ns n)

same_busy : (a b : Busy) → Some (Some a) ≡ Some (Some b) → a ≡ b
same_busy a b h = cc

freed_in_turn : (xs : List (Option Busy)) (t : ℕ) (ns : List ℕ) → slice_get xs t ≡ Some (Some (kept ns)) → IsFreedInTurn xs t ns
freed_in_turn xs t ns h = (
  (kept ns, h),
  λ v n named. (
    λ freed. let (b, is_busy, is_name, last) =
        (freed_exactly v n xs t).0 freed in last_whole ns n (subst (IsLast n) (same_busy b (kept ns) (sym is_busy ∙ h)) last),
    λ whole. (freed_exactly v n xs t).1 (kept ns, h, named, whole_last ns n whole),
  ),
)

pub freed_at_its_count : FreedAtItsCount
unfolding kept
freed_at_its_count before calls t is_lowest p short =
    let xs : List (Option Busy) = after_all all_free before in
    let fresh : slice_get (taken xs) t ≡ Some (Some (kept [])) = taken-get xs t is_lowest in
    freed_in_turn (after_all (taken xs) calls) t (counts_for t calls) (counts_on calls (taken xs) t [] (recursion_from_All IsNoClear calls p) fresh short)
