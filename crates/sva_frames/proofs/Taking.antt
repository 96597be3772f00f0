use Rattle.std.proofs.Common.{◌≡◌, ℕ, ◌+◌, ◌^◌, ◌<◌, Bool, true, cond, List, Option, Some, None, [], ◌∷◌, length, get_or, set, slice_get, is_some, refl}
use Rattle.std.proofs.Common.{sym, ap, subst, ◌∙◌, arith, zero, suc, count_by, replicate}
use Rattle.std.specs.List.{position, position_or_len}
use Rattle.std.specs.Option.{option_map}
use Rattle.std.proofs.lemmas.List.{length-replicate}
use Rattle.std.proofs.lemmas.List.Quantifiers.{position-Some}
use Rattle.std.proofs.lemmas.List.Sums.{sum_by-cons}
use Rattle.std.proofs.lemmas.Option.{slice_get-get_or, same_Some, slice_get_within}
use Rattle.sva_frames.specs.declared.waits.Target.{Target}
use Rattle.sva_frames.specs.declared.pool.Place.{Place}
use Rattle.sva_frames.specs.declared.ledger.Stage.{Stage}
use Rattle.sva_frames.specs.declared.ledger.Stage.TheVariants.{Free as FreeStage, Mapped as MappedStage, Withheld as WithheldStage}
use Rattle.sva_frames.specs.Frames.{Holding, Free, Mapped, is_free, is_mapped, is_withheld, place_of}
use Rattle.sva_frames.specs.Stages.{stage_place, is_free_stage, is_mapped_stage, is_withheld_stage}
use Rattle.sva_frames.specs.Pool.{row, holding, holdings_from, IsCounted, IsPool}
use Rattle.sva_frames.proofs.Pools.{slice_get-set_same}
use Rattle.sva_frames.proofs.Holdings.{pool_set, holdings_set, holding_at, stage_at, count_cons, length-holdings}
use Rattle.sva_frames.proofs.Ledgers.{get-replicate}

free_holding : (s : Stage) (ws : List (Option Target)) → is_free (holding s ws) ≡ is_free_stage s
free_holding FreeStage ws = refl
free_holding MappedStage ws = refl
free_holding (WithheldStage left) ws = refl

mapped_holding : (s : Stage) (ws : List (Option Target)) → is_mapped (holding s ws) ≡ is_mapped_stage s
mapped_holding FreeStage ws = refl
mapped_holding MappedStage ws = refl
mapped_holding (WithheldStage left) ws = refl

withheld_holding : (s : Stage) (ws : List (Option Target)) → is_withheld (holding s ws) ≡ is_withheld_stage s
withheld_holding FreeStage ws = refl
withheld_holding MappedStage ws = refl
withheld_holding (WithheldStage left) ws = refl

count_same :
    (p : Holding → Bool) (q : Stage → Bool) (k : ℕ) (ss : List Stage) (lanes : List (List (Option Target))) →
    ((s : Stage) (ws : List (Option Target)) → p (holding s ws) ≡ q s) → count_by p (holdings_from k ss lanes) ≡ count_by q ss
count_same p q k [] lanes same = refl
count_same p q k (s ∷ ss) lanes same =
    sum_by-cons (λ (h : Holding). cond (p h) 1 0) (holding s (row lanes k)) (holdings_from (suc k) ss lanes)
    ∙ ap (λ (b : Bool). let one : ℕ = 1 in cond b one 0 + count_by p (holdings_from (suc k) ss lanes)) (same s (row lanes k))
    ∙ ap (λ n. let one : ℕ = 1 in cond (q s) one 0 + n) (count_same p q (suc k) ss lanes same)
    ∙ sym (sum_by-cons (λ (x : Stage). cond (q x) 1 0) s ss)

pub count_free : (ss : List Stage) (lanes : List (List (Option Target))) → count_by is_free (holdings_from 0 ss lanes) ≡ count_by is_free_stage ss
count_free ss lanes = count_same is_free is_free_stage 0 ss lanes free_holding

pub count_mapped : (ss : List Stage) (lanes : List (List (Option Target))) → count_by is_mapped (holdings_from 0 ss lanes) ≡ count_by is_mapped_stage ss
count_mapped ss lanes = count_same is_mapped is_mapped_stage 0 ss lanes mapped_holding

pub count_withheld : (ss : List Stage) (lanes : List (List (Option Target))) → count_by is_withheld (holdings_from 0 ss lanes) ≡ count_by is_withheld_stage ss
count_withheld ss lanes = count_same is_withheld is_withheld_stage 0 ss lanes withheld_holding

place_same :
    (k : ℕ) (ss : List Stage) (lanes : List (List (Option Target))) → position_or_len is_free (holdings_from k ss lanes) ≡ position_or_len is_free_stage ss
place_same k [] lanes = refl
place_same k (FreeStage ∷ ss) lanes = refl
place_same k (MappedStage ∷ ss) lanes = ap (λ n. 1 + n) (place_same (suc k) ss lanes)
place_same k (WithheldStage left ∷ ss) lanes = ap (λ n. 1 + n) (place_same (suc k) ss lanes)

pub position_same : (ss : List Stage) (lanes : List (List (Option Target))) → position is_free (holdings_from 0 ss lanes) ≡ position is_free_stage ss
position_same ss lanes = rw (place_same 0 ss lanes, length-holdings 0 ss lanes) refl

pub first_within : (ss : List Stage) (n : ℕ) → Some n ≡ position is_free_stage ss → n < length ss
first_within ss n first = (position-Some is_free_stage ss n FreeStage (sym first)).0

counted_mapped : (s : Stage) (ws : List (Option Target)) → is_free_stage s ≡ true → IsCounted s ws → IsCounted MappedStage ws
counted_mapped FreeStage ws free counted = counted
counted_mapped MappedStage ws free counted = counted
counted_mapped (WithheldStage left) ws free counted = absurd (cc)

pub taken-invariant :
    (ss : List Stage) (lanes : List (List (Option Target))) (n : ℕ) → IsPool ss lanes → Some n ≡ position is_free_stage ss →
    IsPool (set ss n MappedStage) lanes
taken-invariant ss lanes n is first =
    let at = position-Some is_free_stage ss n FreeStage (sym first) in
    pool_set ss lanes lanes n MappedStage is (λ m other. refl) refl is.even
    (counted_mapped (get_or ss n FreeStage) (row lanes n) at.1 (is.counted n (get_or ss n FreeStage) (slice_get-get_or ss n FreeStage at.0)))

pub taken-frames :
    (ss : List Stage) (lanes : List (List (Option Target))) (n : ℕ) →
    holdings_from 0 (set ss n MappedStage) lanes ≡ set (holdings_from 0 ss lanes) n Mapped
taken-frames ss lanes n = holdings_set 0 ss lanes lanes n MappedStage (λ m other. refl)

pub taken-mapped :
    (ss : List Stage) (lanes : List (List (Option Target))) (n : ℕ) → Some n ≡ position is_free_stage ss →
    slice_get (holdings_from 0 (set ss n MappedStage) lanes) n ≡ Some Mapped
taken-mapped ss lanes n first = holding_at (set ss n MappedStage) lanes n MappedStage (slice_get-set_same ss n MappedStage (first_within ss n first))

-- ---- a frame given back

counted_free : (s : Stage) (ws : List (Option Target)) → Mapped ≡ holding s ws → IsCounted s ws → IsCounted FreeStage ws
counted_free FreeStage ws is counted = counted
counted_free MappedStage ws is counted = counted
counted_free (WithheldStage left) ws is counted = absurd (cc)

pub mapped_within : (ss : List Stage) (lanes : List (List (Option Target))) (n : ℕ) → slice_get (holdings_from 0 ss lanes) n ≡ Some Mapped → n < length ss
mapped_within ss lanes n mapped = omega (arith, slice_get_within (holdings_from 0 ss lanes) n Mapped mapped, length-holdings 0 ss lanes)

pub given-invariant :
    (ss : List Stage) (lanes : List (List (Option Target))) (n : ℕ) → IsPool ss lanes → slice_get (holdings_from 0 ss lanes) n ≡ Some Mapped →
    IsPool (set ss n FreeStage) lanes
given-invariant ss lanes n is mapped =
    let s = stage_at ss lanes n Mapped mapped in
    pool_set ss lanes lanes n FreeStage is (λ m other. refl) refl is.even (counted_free s.0 (row lanes n) s.2 (is.counted n s.0 s.1))

pub given-frames :
    (ss : List Stage) (lanes : List (List (Option Target))) (n : ℕ) → holdings_from 0 (set ss n FreeStage) lanes ≡ set (holdings_from 0 ss lanes) n Free
given-frames ss lanes n = holdings_set 0 ss lanes lanes n FreeStage (λ m other. refl)

-- ---- a pool as it is opened

opened_from : (k frames : ℕ) (lanes : List (List (Option Target))) → holdings_from k (replicate frames FreeStage) lanes ≡ replicate frames Free
opened_from k zero lanes = refl
opened_from k (suc frames) lanes = ap (λ hs. Free ∷ hs) (opened_from (suc k) frames lanes)

pub opened-frames : (frames : ℕ) (lanes : List (List (Option Target))) → holdings_from 0 (replicate frames FreeStage) lanes ≡ replicate frames Free
opened-frames frames lanes = opened_from 0 frames lanes

-- ---- where a frame is

place_holding : (s : Stage) (ws : List (Option Target)) → place_of (holding s ws) ≡ stage_place s
place_holding FreeStage ws = refl
place_holding MappedStage ws = refl
place_holding (WithheldStage left) ws = refl

pub place_at :
    (ss : List Stage) (lanes : List (List (Option Target))) (n : ℕ) (s : Stage) → slice_get ss n ≡ Some s →
    option_map place_of (slice_get (holdings_from 0 ss lanes) n) ≡ Some (stage_place s)
place_at ss lanes n s here =
    ap (option_map place_of) (holding_at ss lanes n s here) ∙ ap (λ (p : Place). Some p) (place_holding s (row lanes n))

-- ---- what a pool keeps as it is opened

none_counted :
    (lanes : List (List (Option Target))) →
    ((unit : ℕ) (lane : List (Option Target)) → slice_get lanes unit ≡ Some lane → (n : ℕ) → get_or lane n None ≡ None) → (n : ℕ) →
    count_by is_some (row lanes n) ≡ 0
none_counted [] none n = refl
none_counted (lane ∷ lanes) none n =
    let here : get_or lane n None ≡ None = none 0 lane refl n in
    let rest : count_by is_some (row lanes n) ≡ 0 = none_counted lanes (λ unit. none (suc unit)) n in
    let no_more : ◌≡◌ {A = ℕ} (cond (is_some (get_or lane n None)) 1 0) 0 = ap (λ (o : Option Target). let one : ℕ = 1 in cond (is_some o) one 0) here in
    omega (arith, count_cons (get_or lane n None) (row lanes n), no_more, rest)

nothing : (k n : ℕ) → ◌≡◌ {A = Option Target} (get_or (replicate k None) n None) None
nothing zero n = refl
nothing (suc k) zero = refl
nothing (suc k) (suc n) = nothing k n

pub opened-invariant :
    (frames : ℕ) (stages : List Stage) (lanes : List (List (Option Target))) → frames < 2 ^ 32 → stages ≡ replicate frames FreeStage →
    lanes ≡ replicate 8 (replicate frames None) → IsPool stages lanes
opened-invariant frames stages lanes few free none = record {
  few = omega (arith, few, long);
  units = ap length none ∙ length-replicate 8 (let idle : List (Option Target) = replicate frames None in idle);
  even = λ unit lane at. ap length (lane_is unit lane at) ∙ length-replicate frames (let nothing : Option Target = None in nothing) ∙ sym long;
  counted = λ n s here.
      subst (λ t. IsCounted t (row lanes n)) (sym (get-replicate frames n FreeStage s (ap (λ ss. slice_get ss n) (sym free) ∙ here)))
      (none_counted lanes (λ unit lane at n. ap (λ l. get_or l n None) (lane_is unit lane at) ∙ nothing frames n) n);
}
  where
    long : length stages ≡ frames
    long = ap length free ∙ length-replicate frames FreeStage

    lane_is : (unit : ℕ) (lane : List (Option Target)) → slice_get lanes unit ≡ Some lane → lane ≡ replicate frames None
    lane_is unit lane at = get-replicate 8 unit (replicate frames None) lane (ap (λ ls. slice_get ls unit) (sym none) ∙ at)
