use Rattle.std.proofs.Common.{◌≡◌, ◌≢◌, ℕ, ◌+◌, ◌<◌, ◌≤◌, Bool, true, false, cond, List, Option, Some, None, [], ◌∷◌, ◌++◌, length, get_or, set, take, map}
use Rattle.std.proofs.Common.{slice_get, is_some, refl, sym, ap, subst, ◌∙◌, ⊎_elim, arith, zero, suc, count_by, ◌==◌, get_or-set_same, get_or-set_other}
use Rattle.std.proofs.Common.{drop, drop_of_length-le, append-nil, take_all}
use Rattle.std.specs.Option.{option_map, IfSome}
use Rattle.std.proofs.lemmas.Bool.{cases_eq}
use Rattle.std.proofs.lemmas.Bool.Decides.{nat_tests}
use Rattle.std.proofs.lemmas.List.{length-set, take_more}
use Rattle.std.proofs.lemmas.List.Sums.{sum_by_push}
use Rattle.std.proofs.lemmas.Option.{same_Some, slice_get_within, slice_get-map, get_or_from_slice_get, slice_get-get_or, slice_get_past}
use Rattle.sva_frames.specs.declared.waits.Target.{Target}
use Rattle.sva_frames.specs.declared.ledger.Stage.{Stage}
use Rattle.sva_frames.specs.declared.ledger.Stage.TheVariants.{Free as FreeStage, Mapped as MappedStage, Withheld as WithheldStage}
use Rattle.sva_frames.specs.Frames.{Holding, Mapped, after_waits}
use Rattle.sva_frames.specs.Room.{HasRoom, HaveRoom, target_at}
use Rattle.sva_frames.specs.Chains.{entered}
use Rattle.sva_frames.specs.Pool.{row, holding, holdings_from, IsCounted, IsPool}
use Rattle.sva_frames.specs.Stages.{stage_of}
use Rattle.sva_frames.proofs.Waiting.{if_true, if_false, after_waits-some, after_waits-none}
use Rattle.sva_frames.proofs.Holdings.{pool_set, holdings_set, holdings_at, holding_at, length-holdings, row_at, count_cons, count_none, count_some, some_at}

-- ---- one lane more

pub entered_at : (n : ℕ) (ws : List (Option Target)) (ls : List (List (Option Target))) (u : ℕ) → slice_get (entered n (take u ws) ls) u ≡ slice_get ls u
entered_at n [] ls zero = refl
entered_at n [] ls (suc u) = refl
entered_at n (w ∷ ws) ls zero = refl
entered_at n (w ∷ ws) [] (suc u) = refl
entered_at n (w ∷ ws) (l ∷ ls) (suc u) = entered_at n ws ls u

pub entered_more :
    (n : ℕ) (ws : List (Option Target)) (ls : List (List (Option Target))) (u : ℕ) (lane : List (Option Target)) → u < length ws →
    slice_get ls u ≡ Some lane → set (entered n (take u ws) ls) u (set lane n (get_or ws u None)) ≡ entered n (take (u + 1) ws) ls
entered_more n [] ls u lane within here = absurd (omega arith)
entered_more n (w ∷ ws) [] u lane within here = absurd (cc)
entered_more n (w ∷ ws) (l ∷ ls) zero lane within here = ap (λ x. set x n w ∷ ls) (sym (same_Some l lane here))
entered_more n (w ∷ ws) (l ∷ ls) (suc u) lane within here =
    let e : suc u + 1 ≡ suc (u + 1) = omega arith in
    ap (λ rest. set l n w ∷ rest) (entered_more n ws ls u lane (omega arith) here) ∙ ap (λ k. entered n (take k (w ∷ ws)) (l ∷ ls)) (sym e)

-- the lane that is come to is as it was
pub lane_item :
    (n : ℕ) (ws : List (Option Target)) (ls lanes : List (List (Option Target))) (u : ℕ) (d : List (Option Target)) → lanes ≡ entered n (take u ws) ls →
    u < length lanes → slice_get ls u ≡ Some (get_or lanes u d)
lane_item n ws ls lanes u d so_far within = sym (entered_at n ws ls u) ∙ ap (λ xs. slice_get xs u) (sym so_far) ∙ slice_get-get_or lanes u d within

pub room_at :
    (ws : List (Option Target)) (u : ℕ) (lane : List (Option Target)) → ((t : Target) → slice_get ws u ≡ Some (Some t) → HasRoom lane t) →
    IfSome (get_or ws u None) (HasRoom lane)
room_at ws u lane room = by_target (get_or ws u None) refl
  where
    by_target : (o : Option Target) → get_or ws u None ≡ o → IfSome o (HasRoom lane)
    by_target None is = tt
    by_target (Some t) is = room t (some_at ws u t is)

pub count_more :
    (ws : List (Option Target)) (u left one : ℕ) → u < length ws → left ≡ count_by is_some (take u ws) → one ≡ cond (is_some (get_or ws u None)) 1 0 →
    left + one ≡ count_by is_some (take (u + 1) ws)
count_more ws u left one within so_far is =
    let sums : count_by is_some (take u ws ++ get_or ws u None ∷ []) ≡ count_by is_some (take u ws) + cond (is_some (get_or ws u None)) 1 0 =
    sum_by_push (λ (o : Option Target). cond (is_some o) 1 0) (take u ws) (get_or ws u None) in
    let more : count_by is_some (take (u + 1) ws) ≡ count_by is_some (take u ws ++ get_or ws u None ∷ []) =
    ap (count_by is_some) (take_more ws u None within) in
    omega (arith, sums, more)

-- ---- all lanes

pub length-entered : (n : ℕ) (ws : List (Option Target)) (ls : List (List (Option Target))) → length (entered n ws ls) ≡ length ls
length-entered n [] ls = refl
length-entered n (w ∷ ws) [] = refl
length-entered n (w ∷ ws) (l ∷ ls) = ap suc (length-entered n ws ls)

even-entered :
    (n k : ℕ) (ws : List (Option Target)) (ls : List (List (Option Target))) →
    ((u : ℕ) (l : List (Option Target)) → slice_get ls u ≡ Some l → length l ≡ k) → (u : ℕ) (l : List (Option Target)) →
    slice_get (entered n ws ls) u ≡ Some l → length l ≡ k
even-entered n k [] ls even u l there = even u l there
even-entered n k (w ∷ ws) [] even u l there = absurd (cc)
even-entered n k (w ∷ ws) (x ∷ xs) even zero l there = ap length (sym (same_Some (set x n w) l there)) ∙ length-set x n w ∙ even 0 x refl
even-entered n k (w ∷ ws) (x ∷ xs) even (suc u) l there = even-entered n k ws xs (λ v. even (suc v)) u l there

row-entered_other : (n m : ℕ) (ws : List (Option Target)) (ls : List (List (Option Target))) → m ≢ n → row (entered n ws ls) m ≡ row ls m
row-entered_other n m [] ls other = refl
row-entered_other n m (w ∷ ws) [] other = refl
row-entered_other n m (w ∷ ws) (l ∷ ls) other = ap (λ o. o ∷ row (entered n ws ls) m) (get_or-set_other l n m w None other)
    ∙ ap (λ r. get_or l m None ∷ r) (row-entered_other n m ws ls other)

row-entered_same :
    (n k : ℕ) (ws : List (Option Target)) (ls : List (List (Option Target))) → length ls ≡ length ws →
    ((u : ℕ) (l : List (Option Target)) → slice_get ls u ≡ Some l → length l ≡ k) → n < k → row (entered n ws ls) n ≡ ws
row-entered_same n k [] [] units even within = refl
row-entered_same n k [] (l ∷ ls) units even within = absurd (omega arith)
row-entered_same n k (w ∷ ws) [] units even within = absurd (omega arith)
row-entered_same n k (w ∷ ws) (l ∷ ls) units even within =
    let here : n < length l = omega (arith, even 0 l refl) in
    ap (λ o. o ∷ row (entered n ws ls) n) (get_or-set_same l n w None here)
    ∙ ap (λ r. w ∷ r) (row-entered_same n k ws ls (omega arith) (λ u. even (suc u)) within)

-- ---- the stage of a frame with so many targets

stage_of_is :
    (ws : List (Option Target)) (left : ℕ) → left ≡ count_by is_some ws → (holding (stage_of left) ws ≡ after_waits ws) × IsCounted (stage_of left) ws
stage_of_is ws left count = by_test (left == 0) refl
  where
    Of : Stage → Type 0
    Of s = (holding s ws ≡ after_waits ws) × IsCounted s ws

    of_none : left ≡ 0 → Of FreeStage
    of_none none = (sym (after_waits-none ws (count_none ws (sym count ∙ none))), sym count ∙ none)

    of_some : 0 < left → Of (WithheldStage left)
    of_some some = (sym (after_waits-some ws (count_some ws (omega (arith, count, some)))), (some, count))

    by_test : (b : Bool) → (left == 0) ≡ b → Of (stage_of left)
    by_test true is = subst Of (sym (if_true (left == 0) FreeStage (WithheldStage left) is)) (of_none (grind (arith, nat_tests)))
    by_test false is = subst Of (sym (if_false (left == 0) FreeStage (WithheldStage left) is)) (of_some (grind (arith, nat_tests)))

-- ---- what a frame waits for at a unit, by its holding

none_counted : (ws : List (Option Target)) (u : ℕ) (o : Option Target) → count_by is_some ws ≡ 0 → slice_get ws u ≡ Some o → o ≡ None
none_counted [] u o none here = absurd (cc)
none_counted (None ∷ ws) zero o none here = sym (same_Some None o here)
none_counted (Some t ∷ ws) u o none here = absurd (omega (arith, count_cons (Some t) ws))
none_counted (None ∷ ws) (suc u) o none here = none_counted ws u o (omega (arith, count_cons None ws)) here

list_ext : {A : Type 0} (xs ys : List A) → ((n : ℕ) → slice_get xs n ≡ slice_get ys n) → xs ≡ ys
list_ext [] [] same = refl
list_ext [] (y ∷ ys) same = absurd (let h = same 0 in cc)
list_ext (x ∷ xs) [] same = absurd (let h = same 0 in cc)
list_ext (x ∷ xs) (y ∷ ys) same = ap (λ z. z ∷ xs) (same_Some x y (same 0)) ∙ ap (λ zs. y ∷ zs) (list_ext xs ys (λ n. same (suc n)))

-- where nothing stands the list is at its end
pub past_end : {A : Type 0} (xs : List A) (n : ℕ) → slice_get xs n ≡ None → length xs ≤ n
past_end [] n none = omega arith
past_end (x ∷ xs) zero none = absurd (cc)
past_end (x ∷ xs) (suc n) none = let rest : length xs ≤ n = past_end xs n none in omega arith

target_is : (s : Stage) (ws : List (Option Target)) (u : ℕ) (o : Option Target) → IsCounted s ws → slice_get ws u ≡ Some o → target_at u (holding s ws) ≡ o
target_is FreeStage ws u o counted here = sym (none_counted ws u o counted here)
target_is MappedStage ws u o counted here = sym (none_counted ws u o counted here)
target_is (WithheldStage left) ws u o counted here = get_or_from_slice_get ws u o None here

pub lane_is :
    (ss : List Stage) (lanes : List (List (Option Target))) (u : ℕ) (lane : List (Option Target)) → IsPool ss lanes → slice_get lanes u ≡ Some lane →
    map (target_at u) (holdings_from 0 ss lanes) ≡ lane
lane_is ss lanes u lane is at =
    list_ext (map (target_at u) (holdings_from 0 ss lanes)) lane (λ n. slice_get-map (target_at u) (holdings_from 0 ss lanes) n
    ∙ by_stage n (slice_get ss n) refl)
  where
    by_stage : (n : ℕ) (o : Option Stage) → slice_get ss n ≡ o → option_map (target_at u) (slice_get (holdings_from 0 ss lanes) n) ≡ slice_get lane n
    by_stage n None none = ap (option_map (target_at u)) (holdings_at 0 ss lanes n ∙ ap (option_map (λ s. holding s (row lanes (0 + n)))) none)
        ∙ sym (slice_get_past lane n (let past = past_end ss n none in omega (arith, past, is.even u lane at)))
    by_stage n (Some s) here =
        let within : n < length lane = omega (arith, slice_get_within ss n s here, is.even u lane at) in
        let found : slice_get lane n ≡ Some (get_or lane n None) = slice_get-get_or lane n None within in
        ap (option_map (target_at u)) (holding_at ss lanes n s here)
        ∙ ap (λ (o : Option Target). Some o)
        (target_is s (row lanes n) u (get_or lane n None) (is.counted n s here) (row_at lanes u n lane (get_or lane n None) at found))
        ∙ sym found

-- ---- as the code needs them

pub mapped_free :
    (ss : List Stage) (lanes : List (List (Option Target))) (n : ℕ) → IsPool ss lanes → slice_get (holdings_from 0 ss lanes) n ≡ Some Mapped →
    (u : ℕ) (lane : List (Option Target)) → slice_get lanes u ≡ Some lane → slice_get lane n ≡ Some None
mapped_free ss lanes n is mapped u lane at =
    ap (λ l. slice_get l n) (sym (lane_is ss lanes u lane is at)) ∙ slice_get-map (target_at u) (holdings_from 0 ss lanes) n
    ∙ ap (option_map (target_at u)) mapped

pub withheld-invariant :
    (ss : List Stage) (lanes : List (List (Option Target))) (n left : ℕ) (ws : List (Option Target)) → IsPool ss lanes →
    slice_get (holdings_from 0 ss lanes) n ≡ Some Mapped → length lanes ≡ length ws → left ≡ count_by is_some ws →
    IsPool (set ss n (stage_of left)) (entered n ws lanes)
withheld-invariant ss lanes n left ws is mapped units count =
    let within : n < length ss = omega (arith, slice_get_within (holdings_from 0 ss lanes) n Mapped mapped, length-holdings 0 ss lanes) in
    pool_set ss lanes (entered n ws lanes) n (stage_of left) is (λ m other. row-entered_other n m ws lanes other) (length-entered n ws lanes)
    (even-entered n (length ss) ws lanes is.even)
    (subst (IsCounted (stage_of left)) (sym (row-entered_same n (length ss) ws lanes units is.even within)) (stage_of_is ws left count).1)

pub withheld-frames :
    (ss : List Stage) (lanes : List (List (Option Target))) (n left : ℕ) (ws : List (Option Target)) → IsPool ss lanes →
    slice_get (holdings_from 0 ss lanes) n ≡ Some Mapped → length lanes ≡ length ws → left ≡ count_by is_some ws →
    holdings_from 0 (set ss n (stage_of left)) (entered n ws lanes) ≡ set (holdings_from 0 ss lanes) n (after_waits ws)
withheld-frames ss lanes n left ws is mapped units count =
    let within : n < length ss = omega (arith, slice_get_within (holdings_from 0 ss lanes) n Mapped mapped, length-holdings 0 ss lanes) in
    let e : 0 + n ≡ n = omega arith in
    holdings_set 0 ss lanes (entered n ws lanes) n (stage_of left) (λ m other. row-entered_other n m ws lanes (λ is. other (is ∙ sym e)))
    ∙ ap (λ m. set (holdings_from 0 ss lanes) n (holding (stage_of left) (row (entered n ws lanes) m))) e
    ∙ ap (λ r. set (holdings_from 0 ss lanes) n (holding (stage_of left) r)) (row-entered_same n (length ss) ws lanes units is.even within)
    ∙ ap (set (holdings_from 0 ss lanes) n) (stage_of_is ws left count).0

-- what a `Vec` holds after a write to its slice
pub written_back : {A : Type 0} (len : ℕ) (new old : List A) → length new ≡ length old → len ≡ length old → take len (new ++ drop (length new) old) ≡ new
written_back len new old same all =
    ap (λ rest. take len (new ++ rest)) (drop_of_length-le old (omega arith)) ∙ ap (take len) (append-nil new) ∙ take_all len new (omega arith)

-- ---- room at all units

-- the rooms that were looked at so far, by units
abbrev pub HaveRoomBelow : ℕ → List Holding → List (Option Target) → Type 0
HaveRoomBelow bound frames waits = (unit : ℕ) (target : Target) → unit < bound → slice_get waits unit ≡ Some (Some target)
    → HasRoom (map (target_at unit) frames) target

pub room_more :
    (ss : List Stage) (lanes : List (List (Option Target))) (ws : List (Option Target)) (u : ℕ) (lane : List (Option Target)) → IsPool ss lanes →
    slice_get lanes u ≡ Some lane → HaveRoomBelow u (holdings_from 0 ss lanes) ws → IfSome (get_or ws u None) (HasRoom lane) →
    HaveRoomBelow (u + 1) (holdings_from 0 ss lanes) ws
room_more ss lanes ws u lane is at below here v t within found =
    ⊎_elim
    (λ (same : v ≡ u).
    let last : get_or ws u None ≡ Some t = get_or_from_slice_get ws u (Some t) None (ap (slice_get ws) (sym same) ∙ found) in
    subst (λ k. HasRoom (map (target_at k) (holdings_from 0 ss lanes)) t) (sym same)
    (subst (λ l. HasRoom l t) (sym (lane_is ss lanes u lane is at)) (subst (λ o. IfSome o (HasRoom lane)) last here)))
    (λ (other : v ≢ u). below v t (omega arith) found)
    (cases_eq v u)

-- at this unit there is none
pub room_missing :
    (ss : List Stage) (lanes : List (List (Option Target))) (ws : List (Option Target)) (u : ℕ) (lane : List (Option Target)) → IsPool ss lanes →
    slice_get lanes u ≡ Some lane → HaveRoom (holdings_from 0 ss lanes) ws → IfSome (get_or ws u None) (HasRoom lane)
room_missing ss lanes ws u lane is at room =
    room_at ws u lane (λ t found. subst (λ l. HasRoom l t) (lane_is ss lanes u lane is at) (room u t found))

pub room_everywhere : (frames : List Holding) (ws : List (Option Target)) → length ws ≡ 8 → HaveRoomBelow 8 frames ws → HaveRoom frames ws
room_everywhere frames ws units below unit target found = below unit target (omega (arith, units, slice_get_within ws unit (Some target) found)) found
