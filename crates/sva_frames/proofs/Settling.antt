use Rattle.std.proofs.Common.{◌≡◌, ◌≢◌, ℕ, ◌<◌, ◌==◌, true, List, Option, Some, None, [], ◌∷◌, get_or, set, map, slice_get, is_some, refl, sym, ap, ◌∙◌}
use Rattle.std.proofs.Common.{⊎_elim, arith, zero, suc, count_by, get_or-set_same}
use Rattle.std.specs.List.{sum_by}
use Rattle.std.specs.Option.{option_map}
use Rattle.std.proofs.lemmas.Bool.{cases_eq}
use Rattle.std.proofs.lemmas.Bool.Decides.{nat_tests}
use Rattle.std.proofs.lemmas.List.{map-set, set-get_or}
use Rattle.std.proofs.lemmas.List.Sums.{sum_by-set}
use Rattle.std.proofs.lemmas.Option.{slice_get_within, slice_get-map, get_or_from_slice_get}
use Rattle.sva_frames.specs.declared.waits.Target.{Target}
use Rattle.sva_frames.specs.declared.waits.Target.TheVariants.{Cookie, ResetEnd}
use Rattle.sva_frames.specs.Frames.{Holding, Free, Mapped, Withheld, has_target, after_waits, past_cookie, past_reset, settled}
use Rattle.sva_frames.specs.Chains.{IsWanted}
use Rattle.sva_frames.proofs.Pools.{set_again}
use Rattle.sva_frames.proofs.Waiting.{if_true, if_false, after_waits-some, after_waits-none, settled-after_waits}
use Rattle.sva_frames.proofs.Holdings.{count_some, count_none, count_taken, some_at}

-- ---- how many waits there are

abbrev pub weight : Holding → ℕ
weight Free = 0
weight Mapped = 0
weight (Withheld waits) = count_by is_some waits

abbrev pub total : List Holding → ℕ
total frames = sum_by weight frames

weight-after : (waits : List (Option Target)) → weight (after_waits waits) ≡ count_by is_some waits
weight-after waits = by_count (count_by is_some waits) refl
  where
    by_count : (k : ℕ) → count_by is_some waits ≡ k → weight (after_waits waits) ≡ count_by is_some waits
    by_count zero none = ap weight (after_waits-none waits (count_none waits none)) ∙ sym none
    by_count (suc k) some = ap weight (after_waits-some waits (count_some waits (omega (arith, some))))

pub total_falls :
    (hs : List Holding) (n u : ℕ) (waits : List (Option Target)) (t : Target) → slice_get hs n ≡ Some (Withheld waits) →
    slice_get waits u ≡ Some (Some t) → total (set hs n (after_waits (set waits u None))) < total hs
total_falls hs n u waits t here there =
    let sums = sum_by-set weight hs n (after_waits (set waits u None)) Free (slice_get_within hs n (Withheld waits) here) in
    let was : weight (get_or hs n Free) ≡ count_by is_some waits = ap weight (get_or_from_slice_get hs n (Withheld waits) Free here) in
    omega (arith, sums, was, weight-after (set waits u None), count_taken waits u t there)

-- ---- one wait settled comes to the same settlement

pub settle_kept :
    (hs : List Holding) (n u : ℕ) (waits : List (Option Target)) (t : Target) (left : Option Target → Option Target) → left None ≡ None →
    left (Some t) ≡ None → slice_get hs n ≡ Some (Withheld waits) → slice_get waits u ≡ Some (Some t) →
    map (settled u left) (set hs n (after_waits (set waits u None))) ≡ map (settled u left) hs
settle_kept hs n u waits t left keeps takes here there =
    map-set (settled u left) hs n (after_waits (set waits u None))
    ∙ ap (set (map (settled u left) hs) n) (now ∙ sym before)
    ∙ set-get_or (map (settled u left) hs) n Free
  where
    now : settled u left (after_waits (set waits u None)) ≡ after_waits (set waits u None)
    now =
        settled-after_waits u left (set waits u None) keeps
        ∙ ap (λ o. after_waits (set (set waits u None) u (left o))) (get_or-set_same waits u None None (slice_get_within waits u (Some t) there))
        ∙ ap (λ o. after_waits (set (set waits u None) u o)) keeps
        ∙ ap after_waits (set_again waits u None None)

    before : get_or (map (settled u left) hs) n Free ≡ after_waits (set waits u None)
    before =
        get_or_from_slice_get (map (settled u left) hs) n (settled u left (Withheld waits)) Free (slice_get-map (settled u left) hs n
        ∙ ap (option_map (settled u left)) here)
        ∙ ap (λ o. after_waits (set waits u (left o))) (get_or_from_slice_get waits u (Some t) None there)
        ∙ ap (λ o. after_waits (set waits u o)) takes

past_same : (c : ℕ) → past_cookie c (Some (Cookie c)) ≡ None
past_same c = if_true (c == c) None (Some (Cookie c)) (grind (arith, nat_tests))

pub past_own : (c : ℕ) (t : Target) → t ≡ Cookie c → past_cookie c (Some t) ≡ None
past_own c t is = ap (λ (o : Target). past_cookie c (Some o)) is ∙ past_same c

-- ---- where nothing is left to settle

past_other : (c : ℕ) (o : Option Target) → (o ≡ Some (Cookie c) → ⊥) → past_cookie c o ≡ o
past_other c None other = refl
past_other c (Some ResetEnd) other = refl
past_other c (Some (Cookie d)) other =
    ⊎_elim
    (λ (same : d ≡ c). absurd (other (ap (λ m. Some (Cookie m)) same)))
    (λ (apart : d ≢ c). if_false (d == c) None (Some (Cookie d)) (grind (arith, nat_tests)))
    (cases_eq d c)

pub settle_done :
    (hs : List Holding) (u : ℕ) (left : Option Target → Option Target) →
    ((n : ℕ) (waits : List (Option Target)) → slice_get hs n ≡ Some (Withheld waits) → (has_target waits ≡ true)
    × (left (get_or waits u None) ≡ get_or waits u None)) →
    map (settled u left) hs ≡ hs
settle_done [] u left done = refl
settle_done (Free ∷ hs) u left done = ap (λ rest. Free ∷ rest) (settle_done hs u left (λ n. done (suc n)))
settle_done (Mapped ∷ hs) u left done = ap (λ rest. Mapped ∷ rest) (settle_done hs u left (λ n. done (suc n)))
settle_done (Withheld waits ∷ hs) u left done =
    ap (λ h. h ∷ map (settled u left) hs) (same (done 0 waits refl)) ∙ ap (λ rest. Withheld waits ∷ rest) (settle_done hs u left (λ n. done (suc n)))
  where
    same :
        (has_target waits ≡ true) × (left (get_or waits u None) ≡ get_or waits u None) →
        after_waits (set waits u (left (get_or waits u None))) ≡ Withheld waits
    same facts = ap (λ o. after_waits (set waits u o)) facts.1 ∙ ap after_waits (set-get_or waits u None) ∙ after_waits-some waits facts.0

-- what `settle_one` says where it finds no frame
abbrev pub NoneLeft : List Holding → ℕ → Option Target → Type 0
NoneLeft hs u wanted = (n : ℕ) (waits : List (Option Target)) → slice_get hs n ≡ Some (Withheld waits) → (has_target waits ≡ true)
    × ((t : Target) → IsWanted wanted t → slice_get waits u ≡ Some (Some t) → ⊥)

pub cookie_done : (hs : List Holding) (u c : ℕ) → NoneLeft hs u (Some (Cookie c)) → map (settled u (past_cookie c)) hs ≡ hs
cookie_done hs u c none = settle_done hs u (past_cookie c) (λ n waits there.
    let facts = none n waits there in
    (facts.0, past_other c (get_or waits u None) (λ is. facts.1 (Cookie c) refl (some_at waits u (Cookie c) is))))

pub unit_done : (hs : List Holding) (u : ℕ) → NoneLeft hs u None → map (settled u past_reset) hs ≡ hs
unit_done hs u none = settle_done hs u past_reset (λ n waits there.
    let facts = none n waits there in
    (facts.0, sym (no_target (get_or waits u None) (λ t is. facts.1 t tt (some_at waits u t is)))))
  where
    no_target : (o : Option Target) → ((t : Target) → o ≡ Some t → ⊥) → o ≡ None
    no_target None never = refl
    no_target (Some t) never = absurd (never t refl)
