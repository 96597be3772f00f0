use Rattle.std.proofs.Common.{◌≡◌, ◌≢◌, ℕ, ◌+◌, ◌-◌, ◌<◌, ◌≤◌, Bool, true, false, cond, List, Option, Some, None, [], ◌∷◌, length, get_or, set, slice_get}
use Rattle.std.proofs.Common.{is_some, refl, sym, ap, subst, ◌∙◌, ⊎_elim, arith, zero, suc, count_by}
use Rattle.std.specs.Bool.{nat_le}
use Rattle.std.specs.Option.{option_map}
use Rattle.std.proofs.lemmas.Bool.{cases_eq}
use Rattle.std.proofs.lemmas.Bool.Decides.{nat_tests}
use Rattle.std.proofs.lemmas.List.{length-map, length-set, map-set, set-get_or, get_or-set_other, get_or-set_same}
use Rattle.std.proofs.lemmas.List.Sums.{sum_by-set, sum_by-cons}
use Rattle.std.proofs.lemmas.Option.{same_Some, slice_get_within, slice_get-map, get_or_from_slice_get}
use Rattle.sva_frames.specs.declared.waits.Target.{Target}
use Rattle.sva_frames.specs.declared.ledger.Stage.{Stage}
use Rattle.sva_frames.specs.declared.ledger.Stage.TheVariants.{Free as FreeStage, Mapped as MappedStage, Withheld as WithheldStage}
use Rattle.sva_frames.specs.Frames.{Holding, Withheld, has_target, after_waits}
use Rattle.sva_frames.specs.Chains.{IsWanted}
use Rattle.sva_frames.specs.Pool.{row, holding, holdings_from, IsCounted, IsPool}
use Rattle.sva_frames.specs.Stages.{lowered}
use Rattle.sva_frames.proofs.Pools.{slice_get-set_same, slice_get-set_other}
use Rattle.sva_frames.proofs.Waiting.{if_true, if_false, after_waits-some, after_waits-none}

-- ---- the row of a frame

-- a write at another frame, or at another unit
pub row_other :
    (lanes : List (List (Option Target))) (u n m : ℕ) (lane : List (Option Target)) (v : Option Target) → slice_get lanes u ≡ Some lane → m ≢ n →
    row (set lanes u (set lane n v)) m ≡ row lanes m
row_other lanes u n m lane v here other =
    map-set (λ (l : List (Option Target)). get_or l m None) lanes u (set lane n v)
    ∙ ap (set (row lanes m) u) (same ∙ sym (get_or_from_slice_get (row lanes m) u (get_or lane m None) None there))
    ∙ set-get_or (row lanes m) u None
  where
    same : get_or (set lane n v) m None ≡ get_or lane m None
    same = get_or-set_other lane n m v None other

    there : slice_get (row lanes m) u ≡ Some (get_or lane m None)
    there = slice_get-map (λ (l : List (Option Target)). get_or l m None) lanes u ∙ ap (option_map (λ (l : List (Option Target)). get_or l m None)) here

pub row_same :
    (lanes : List (List (Option Target))) (u n : ℕ) (lane : List (Option Target)) (v : Option Target) → n < length lane →
    row (set lanes u (set lane n v)) n ≡ set (row lanes n) u v
row_same lanes u n lane v within =
    map-set (λ (l : List (Option Target)). get_or l n None) lanes u (set lane n v)
    ∙ ap (set (row lanes n) u) (get_or-set_same lane n v None within)

pub row_at :
    (lanes : List (List (Option Target))) (u n : ℕ) (lane : List (Option Target)) (o : Option Target) → slice_get lanes u ≡ Some lane →
    slice_get lane n ≡ Some o → slice_get (row lanes n) u ≡ Some o
row_at lanes u n lane o here there =
    slice_get-map (λ (l : List (Option Target)). get_or l n None) lanes u
    ∙ ap (option_map (λ (l : List (Option Target)). get_or l n None)) here
    ∙ ap (λ (p : Option Target). Some p) (get_or_from_slice_get lane n o None there)

-- ---- the holdings

pub holdings_at :
    (k : ℕ) (ss : List Stage) (lanes : List (List (Option Target))) (i : ℕ) →
    slice_get (holdings_from k ss lanes) i ≡ option_map (λ s. holding s (row lanes (k + i))) (slice_get ss i)
holdings_at k [] lanes i = refl
holdings_at k (s ∷ ss) lanes zero = let e : k ≡ k + 0 = omega arith in ap (λ m. Some (holding s (row lanes m))) e
holdings_at k (s ∷ ss) lanes (suc i) =
    let e : suc k + i ≡ k + suc i = omega arith in
    holdings_at (suc k) ss lanes i ∙ ap (λ m. option_map (λ s. holding s (row lanes m)) (slice_get ss i)) e

pub holding_at :
    (ss : List Stage) (lanes : List (List (Option Target))) (n : ℕ) (s : Stage) → slice_get ss n ≡ Some s →
    slice_get (holdings_from 0 ss lanes) n ≡ Some (holding s (row lanes n))
holding_at ss lanes n s here =
    let e : 0 + n ≡ n = omega arith in
    holdings_at 0 ss lanes n ∙ ap (λ m. option_map (λ s. holding s (row lanes m)) (slice_get ss n)) e ∙ ap (option_map (λ s. holding s (row lanes n))) here

-- the stage behind a holding that contracts see
pub stage_at :
    (ss : List Stage) (lanes : List (List (Option Target))) (n : ℕ) (h : Holding) → slice_get (holdings_from 0 ss lanes) n ≡ Some h →
    (s : Stage) × (slice_get ss n ≡ Some s) × (h ≡ holding s (row lanes n))
stage_at ss lanes n h there = by_stage (slice_get ss n) refl
  where
    by_stage : (o : Option Stage) → slice_get ss n ≡ o → (s : Stage) × (slice_get ss n ≡ Some s) × (h ≡ holding s (row lanes n))
    by_stage None is = let none : slice_get (holdings_from 0 ss lanes) n ≡ None =
        holdings_at 0 ss lanes n ∙ ap (option_map (λ s. holding s (row lanes (0 + n)))) is in absurd (cc)
    by_stage (Some s) is = (s, is, same_Some h (holding s (row lanes n)) (sym there ∙ holding_at ss lanes n s is))

pub length-holdings : (k : ℕ) (ss : List Stage) (lanes : List (List (Option Target))) → length (holdings_from k ss lanes) ≡ length ss
length-holdings k [] lanes = refl
length-holdings k (s ∷ ss) lanes = ap suc (length-holdings (suc k) ss lanes)

holdings_same :
    (k : ℕ) (ss : List Stage) (lanes lanes' : List (List (Option Target))) → ((m : ℕ) → k ≤ m → row lanes' m ≡ row lanes m) →
    holdings_from k ss lanes' ≡ holdings_from k ss lanes
holdings_same k [] lanes lanes' same = refl
holdings_same k (s ∷ ss) lanes lanes' same =
    let here : row lanes' k ≡ row lanes k = same k (omega arith) in
    let rest : holdings_from (suc k) ss lanes' ≡ holdings_from (suc k) ss lanes = holdings_same (suc k) ss lanes lanes' (λ m above. same m (omega arith)) in
    ap (λ r. holding s r ∷ holdings_from (suc k) ss lanes') here ∙ ap (λ hs. holding s (row lanes k) ∷ hs) rest

-- one frame's stage and row change
pub holdings_set :
    (k : ℕ) (ss : List Stage) (lanes lanes' : List (List (Option Target))) (i : ℕ) (s' : Stage) → ((m : ℕ) → m ≢ k + i → row lanes' m ≡ row lanes m) →
    holdings_from k (set ss i s') lanes' ≡ set (holdings_from k ss lanes) i (holding s' (row lanes' (k + i)))
holdings_set k [] lanes lanes' i s' same = refl
holdings_set k (s ∷ ss) lanes lanes' zero s' same =
    let e : k ≡ k + 0 = omega arith in
    ap (λ m. holding s' (row lanes' m) ∷ holdings_from (suc k) ss lanes') e
    ∙ ap (λ hs. holding s' (row lanes' (k + 0)) ∷ hs) (holdings_same (suc k) ss lanes lanes' (λ m above. same m (λ (is : m ≡ k + 0). absurd (omega arith))))
holdings_set k (s ∷ ss) lanes lanes' (suc i) s' same =
    let e : suc k + i ≡ k + suc i = omega arith in
    ap (λ r. holding s r ∷ holdings_from (suc k) (set ss i s') lanes') (same k (λ (is : k ≡ k + suc i). absurd (omega arith)))
    ∙ ap (λ hs. holding s (row lanes k) ∷ hs)
    (holdings_set (suc k) ss lanes lanes' i s' (λ m other. same m (λ (is : m ≡ k + suc i). other (is ∙ sym e)))
    ∙ ap (λ m. set (holdings_from (suc k) ss lanes) i (holding s' (row lanes' m))) e)

even-set :
    (ss : List Stage) (lanes : List (List (Option Target))) (u : ℕ) (lane lane' : List (Option Target)) →
    ((v : ℕ) (l : List (Option Target)) → slice_get lanes v ≡ Some l → length l ≡ length ss) → slice_get lanes u ≡ Some lane → length lane' ≡ length lane →
    (v : ℕ) (l : List (Option Target)) → slice_get (set lanes u lane') v ≡ Some l → length l ≡ length ss
even-set ss lanes u lane lane' even at same v l there =
    ⊎_elim
    (λ (here : v ≡ u). let found : lane' ≡ l =
    same_Some lane' l (sym (slice_get-set_same lanes u lane' (slice_get_within lanes u lane at)) ∙ ap (slice_get (set lanes u lane')) (sym here)
    ∙ there) in ap length (sym found) ∙ same ∙ even u lane at)
    (λ (other : v ≢ u). even v l (sym (slice_get-set_other lanes u v lane' other) ∙ there))
    (cases_eq v u)

pub pool_set :
    (ss : List Stage) (lanes lanes' : List (List (Option Target))) (n : ℕ) (s' : Stage) → IsPool ss lanes →
    ((m : ℕ) → m ≢ n → row lanes' m ≡ row lanes m) → length lanes' ≡ length lanes →
    ((u : ℕ) (lane : List (Option Target)) → slice_get lanes' u ≡ Some lane → length lane ≡ length ss) → IsCounted s' (row lanes' n) →
    IsPool (set ss n s') lanes'
pool_set ss lanes lanes' n s' is same units even here = record {
  few = simp length-set is.few;
  units = units ∙ is.units;
  even = λ u lane there. even u lane there ∙ sym (length-set ss n s');
  counted = λ m s there. ⊎_elim
      (λ (at : m ≡ n).
      let found : slice_get (set ss n s') n ≡ Some s = ap (slice_get (set ss n s')) (sym at) ∙ there in
      let within : n < length ss = omega (arith, slice_get_within (set ss n s') n s found, length-set ss n s') in
      subst (λ k. IsCounted s (row lanes' k)) (sym at)
      (subst (λ t. IsCounted t (row lanes' n)) (same_Some s' s (sym (slice_get-set_same ss n s' within) ∙ found)) here))
      (λ (other : m ≢ n). subst (IsCounted s) (sym (same m other)) (is.counted m s (sym (slice_get-set_other ss n m s' other) ∙ there)))
      (cases_eq m n);
}

-- ---- counts of targets

pub count_cons : (w : Option Target) (ws : List (Option Target)) → count_by is_some (w ∷ ws) ≡ cond (is_some w) 1 0 + count_by is_some ws
count_cons w ws = sum_by-cons (λ (o : Option Target). cond (is_some o) 1 0) w ws

pub count_some : (ws : List (Option Target)) → 0 < count_by is_some ws → has_target ws ≡ true
count_some [] some = absurd (omega arith)
count_some (None ∷ ws) some = count_some ws (omega (arith, count_cons None ws))
count_some (Some t ∷ ws) some = refl

pub count_none : (ws : List (Option Target)) → count_by is_some ws ≡ 0 → has_target ws ≡ false
count_none [] none = refl
count_none (None ∷ ws) none = count_none ws (omega (arith, count_cons None ws))
count_none (Some t ∷ ws) none = absurd (omega (arith, count_cons (Some t) ws))

pub count_taken :
    (ws : List (Option Target)) (u : ℕ) (t : Target) → slice_get ws u ≡ Some (Some t) → count_by is_some (set ws u None) + 1 ≡ count_by is_some ws
count_taken ws u t here =
    let sums = sum_by-set (λ (o : Option Target). cond (is_some o) 1 0) ws u None None (slice_get_within ws u (Some t) here) in
    let one : ℕ = 1 in
    let was : cond (is_some (get_or ws u None)) 1 0 ≡ one =
    ap (λ (o : Option Target). cond (is_some o) 1 0) (get_or_from_slice_get ws u (Some t) None here) in
    omega (arith, sums, was)

-- what a stage is after one wait is settled
pub lowered_is :
    (s : Stage) (ws : List (Option Target)) (u : ℕ) (t : Target) → IsCounted s ws → slice_get ws u ≡ Some (Some t) →
    (holding s ws ≡ Withheld ws) × (holding (lowered s) (set ws u None) ≡ after_waits (set ws u None)) × IsCounted (lowered s) (set ws u None)
lowered_is FreeStage ws u t counted here = absurd (omega (arith, count_taken ws u t here))
lowered_is MappedStage ws u t counted here = absurd (omega (arith, count_taken ws u t here))
lowered_is (WithheldStage left) ws u t counted here = by_last (nat_le left 1) refl
  where
    one_less : count_by is_some (set ws u None) + 1 ≡ count_by is_some ws
    one_less = count_taken ws u t here

    Lowered : Stage → Type 0
    Lowered s = (Withheld ws ≡ Withheld ws) × (holding s (set ws u None) ≡ after_waits (set ws u None)) × IsCounted s (set ws u None)

    last : left ≤ 1 → Lowered FreeStage
    last few = let zero_left : count_by is_some (set ws u None) ≡ 0 =
        omega (arith, one_less, counted.0, counted.1) in (refl, sym (after_waits-none (set ws u None) (count_none (set ws u None) zero_left)), zero_left)

    more : 1 < left → Lowered (WithheldStage (left - 1))
    more many =
        let some_left : 0 < count_by is_some (set ws u None) = omega (arith, one_less, counted.1, many) in
        let exact : left - 1 ≡ count_by is_some (set ws u None) = omega (arith, one_less, counted.1, many) in
        (refl, sym (after_waits-some (set ws u None) (count_some (set ws u None) some_left)), (omega arith, exact))

    by_last : (b : Bool) → nat_le left 1 ≡ b → Lowered (lowered (WithheldStage left))
    by_last true is = subst Lowered (sym (if_true (nat_le left 1) FreeStage (WithheldStage (left - 1)) is)) (last (grind (arith, nat_tests)))
    by_last false is = subst Lowered (sym (if_false (nat_le left 1) FreeStage (WithheldStage (left - 1)) is)) (more (grind (arith, nat_tests)))

-- ---- one wait settled

pub settled-invariant :
    (ss : List Stage) (lanes : List (List (Option Target))) (u n : ℕ) (lane : List (Option Target)) (t : Target) (s : Stage) → IsPool ss lanes →
    slice_get lanes u ≡ Some lane → slice_get lane n ≡ Some (Some t) → slice_get ss n ≡ Some s →
    IsPool (set ss n (lowered s)) (set lanes u (set lane n None))
settled-invariant ss lanes u n lane t s is at waits here =
    let within : n < length lane = slice_get_within lane n (Some t) waits in
    let rows : row (set lanes u (set lane n None)) n ≡ set (row lanes n) u None = row_same lanes u n lane None within in
    pool_set ss lanes (set lanes u (set lane n None)) n (lowered s) is
    (λ m other. row_other lanes u n m lane None at other)
    (length-set lanes u (set lane n None))
    (even-set ss lanes u lane (set lane n None) is.even at (length-set lane n None))
    (subst (IsCounted (lowered s)) (sym rows) (lowered_is s (row lanes n) u t (is.counted n s here) (row_at lanes u n lane (Some t) at waits)).2)

pub settled-frame :
    (ss : List Stage) (lanes : List (List (Option Target))) (u n : ℕ) (lane : List (Option Target)) (t : Target) (s : Stage) → IsPool ss lanes →
    slice_get lanes u ≡ Some lane → slice_get lane n ≡ Some (Some t) → slice_get ss n ≡ Some s →
    (waits : List (Option Target)) × (slice_get (holdings_from 0 ss lanes) n ≡ Some (Withheld waits)) × (slice_get waits u ≡ Some (Some t))
    × (holdings_from 0 (set ss n (lowered s)) (set lanes u (set lane n None)) ≡ set (holdings_from 0 ss lanes) n (after_waits (set waits u None)))
settled-frame ss lanes u n lane t s is at waits here =
    let within : n < length lane = slice_get_within lane n (Some t) waits in
    let rows : row (set lanes u (set lane n None)) n ≡ set (row lanes n) u None = row_same lanes u n lane None within in
    let there : slice_get (row lanes n) u ≡ Some (Some t) = row_at lanes u n lane (Some t) at waits in
    let low = lowered_is s (row lanes n) u t (is.counted n s here) there in
    let e : 0 + n ≡ n = omega arith in (
      row lanes n,
      holding_at ss lanes n s here ∙ ap (λ (h : Holding). Some h) low.0,
      there,
      holdings_set 0 ss lanes (set lanes u (set lane n None)) n (lowered s) (λ m other. row_other lanes u n m lane None at (λ is. other (is ∙ sym e)))
          ∙ ap (λ m. set (holdings_from 0 ss lanes) n (holding (lowered s) (row (set lanes u (set lane n None)) m))) e
          ∙ ap (λ r. set (holdings_from 0 ss lanes) n (holding (lowered s) r)) rows
          ∙ ap (set (holdings_from 0 ss lanes) n) low.1,
    )

-- a withheld frame waits for something
pub withheld_row :
    (ss : List Stage) (lanes : List (List (Option Target))) (n : ℕ) (waits : List (Option Target)) → IsPool ss lanes →
    slice_get (holdings_from 0 ss lanes) n ≡ Some (Withheld waits) → (waits ≡ row lanes n) × (has_target waits ≡ true)
withheld_row ss lanes n waits is there =
    let s = stage_at ss lanes n (Withheld waits) there in
    by_stage s.0 (is.counted n s.0 s.1) s.2
  where
    by_stage : (s : Stage) → IsCounted s (row lanes n) → Withheld waits ≡ holding s (row lanes n) → (waits ≡ row lanes n) × (has_target waits ≡ true)
    by_stage FreeStage counted same = absurd (cc)
    by_stage MappedStage counted same = absurd (cc)
    by_stage (WithheldStage left) counted same =
        let rows : waits ≡ row lanes n = cc in
        (rows, ap has_target rows ∙ count_some (row lanes n) (omega (arith, counted.0, counted.1)))

pub some_at : (xs : List (Option Target)) (n : ℕ) (t : Target) → get_or xs n None ≡ Some t → slice_get xs n ≡ Some (Some t)
some_at [] n t here = absurd (cc)
some_at (x ∷ xs) zero t here = ap (λ (o : Option Target). Some o) here
some_at (x ∷ xs) (suc n) t here = some_at xs n t here

pub none_waits :
    (ss : List Stage) (lanes : List (List (Option Target))) (u : ℕ) (lane : List (Option Target)) (wanted : Option Target) → IsPool ss lanes →
    slice_get lanes u ≡ Some lane → ((n : ℕ) (t : Target) → IsWanted wanted t → slice_get lane n ≡ Some (Some t) → ⊥) →
    (n : ℕ) (waits : List (Option Target)) → slice_get (holdings_from 0 ss lanes) n ≡ Some (Withheld waits) →
    (has_target waits ≡ true) × ((t : Target) → IsWanted wanted t → slice_get waits u ≡ Some (Some t) → ⊥)
none_waits ss lanes u lane wanted is at none n waits there =
    let rows = withheld_row ss lanes n waits is there in (
      rows.1,
      λ t want found.
          let g : slice_get (row lanes n) u ≡ Some (get_or lane n None) = slice_get-map (λ (l : List (Option Target)). get_or l n None) lanes u
          ∙ ap (option_map (λ (l : List (Option Target)). get_or l n None)) at in
          none n t want (some_at lane n t (same_Some (get_or lane n None) (Some t) (sym g ∙ ap (λ r. slice_get r u) (sym rows.0) ∙ found))),
    )

-- no unit has the number
pub none_past :
    (ss : List Stage) (lanes : List (List (Option Target))) (u : ℕ) (wanted : Option Target) → IsPool ss lanes → length lanes ≤ u →
    (n : ℕ) (waits : List (Option Target)) → slice_get (holdings_from 0 ss lanes) n ≡ Some (Withheld waits) →
    (has_target waits ≡ true) × ((t : Target) → IsWanted wanted t → slice_get waits u ≡ Some (Some t) → ⊥)
none_past ss lanes u wanted is past n waits there =
    let rows = withheld_row ss lanes n waits is there in (
      rows.1,
      λ t want found.
          let within : u < length (row lanes n) = slice_get_within (row lanes n) u (Some t) (ap (λ r. slice_get r u) (sym rows.0) ∙ found) in
          absurd (omega (arith, length-map lanes (λ (l : List (Option Target)). get_or l n None))),
    )

-- a frame that waits at a unit has a stage
pub stage_within :
    (ss : List Stage) (lanes : List (List (Option Target))) (u n : ℕ) (lane : List (Option Target)) (o : Option Target) → IsPool ss lanes →
    slice_get lanes u ≡ Some lane → slice_get lane n ≡ Some o → n < length ss
stage_within ss lanes u n lane o is at here = omega (arith, slice_get_within lane n o here, is.even u lane at)
