use Rattle.std.proofs.Common.{◌≡◌, ◌≢◌, ℕ, ◌<◌, ◌==◌, true, false, List, Option, Some, None, [], ◌∷◌, ◌++◌, length, get_or, set, map, slice_get, refl, sym}
use Rattle.std.proofs.Common.{ap, subst, ◌∙◌, ⊎_elim, arith}
use Rattle.std.specs.List.{list_any, position}
use Rattle.std.specs.Option.{option_map, MatchOption}
use Rattle.std.proofs.lemmas.Bool.{cases_eq, or_parts}
use Rattle.std.proofs.lemmas.Bool.Decides.{nat_tests}
use Rattle.std.proofs.lemmas.List.{length-set, length-map, length-replicate, get_or-replicate}
use Rattle.std.proofs.lemmas.List.Quantifiers.{position-Some}
use Rattle.std.proofs.lemmas.Option.{slice_get-map, slice_get-get_or, get_or_from_slice_get, slice_get_within, same_Some}
use Rattle.sva_frames.specs.declared.waits.Target.{Target}
use Rattle.sva_frames.specs.Frames.{Holding, Free, Mapped, Withheld, is_free, has_target, after_waits, past_cookie, past_reset, settled}
use Rattle.sva_frames.specs.Calls.{Call, Take, Give, Withhold, Settle, SettleAll, opened, after, after_all, after_take, IsPermitted, ArePermitted}
use Rattle.sva_frames.specs.Calls.{unsettled, spends}
use Rattle.sva_frames.specs.Laws.{Divided, WithheldWaits, LowestFree, MappedInHand, FreeAtOnce, WithheldUntilSettled, FreeWhenSettled, SettlesWaits}
use Rattle.sva_frames.proofs.Pools.{slice_get-set_same, slice_get-set_other, count_by-divided, none_free_first, none_free_none}
use Rattle.sva_frames.proofs.Waiting.{after_waits-some, after_waits-none, unsettled-nil, unsettled-append, unsettled_same, unsettled-event}
use Rattle.sva_frames.proofs.Waiting.{has_target-unsettled, settle_event, settle_all_event, settled-after_waits, withheld-after_waits}

-- ---- lists of calls

pub after_all-append : (frames : List Holding) (xs ys : List Call) → after_all frames (xs ++ ys) ≡ after_all (after_all frames xs) ys
after_all-append frames [] ys = refl
after_all-append frames (x ∷ xs) ys = after_all-append (after frames x) xs ys

pub permitted_first : (frames : List Holding) (xs ys : List Call) → ArePermitted frames (xs ++ ys) → ArePermitted frames xs
permitted_first frames [] ys all = tt
permitted_first frames (x ∷ xs) ys all = (all.0, permitted_first (after frames x) xs ys all.1)

pub permitted_rest : (frames : List Holding) (xs ys : List Call) → ArePermitted frames (xs ++ ys) → ArePermitted (after_all frames xs) ys
permitted_rest frames [] ys all = all
permitted_rest frames (x ∷ xs) ys all = permitted_rest (after frames x) xs ys all.1

-- ---- division

pub length-after : (frames : List Holding) (call : Call) → length (after frames call) ≡ length frames
length-after frames Take = by_answer (position is_free frames)
  where
    by_answer : (o : Option ℕ) → length (after_take frames o) ≡ length frames
    by_answer None = refl
    by_answer (Some n) = length-set frames n Mapped
length-after frames (Give n) = length-set frames n Free
length-after frames (Withhold n waits) = length-set frames n (after_waits waits)
length-after frames (Settle unit cookie) = length-map frames (settled unit (past_cookie cookie))
length-after frames (SettleAll unit) = length-map frames (settled unit past_reset)

pub length-after_all : (frames : List Holding) (calls : List Call) → length (after_all frames calls) ≡ length frames
length-after_all frames [] = refl
length-after_all frames (call ∷ calls) = length-after_all (after frames call) calls ∙ length-after frames call

pub divided : Divided
divided count calls permitted =
    let same : length (after_all (opened count) calls) ≡ count = length-after_all (opened count) calls ∙ length-replicate count Free in
    (same, count_by-divided (after_all (opened count) calls) ∙ same)

-- ---- what one call leaves of a frame

two : (n m : ℕ) → (m == n) ≡ false → n ≢ m
two n m differ same = grind (arith, nat_tests)

free_is : (h : Holding) → is_free h ≡ true → h ≡ Free
free_is Free is = refl
free_is Mapped is = absurd (cc)
free_is (Withheld waits) is = absurd (cc)

-- frames of two holdings are two
apart : (frames : List Holding) (n m : ℕ) (g h : Holding) → slice_get frames n ≡ Some h → slice_get frames m ≡ Some g → (h ≡ g → ⊥) → n ≢ m
apart frames n m g h here there differ same = differ (same_Some h g (sym here ∙ ap (slice_get frames) same ∙ there))

withheld_mapped : (waits : List (Option Target)) → Withheld waits ≡ Mapped → ⊥
withheld_mapped waits is = cc

-- `take` writes one place, which was free
pub after_take-other :
    (frames : List Holding) (n : ℕ) (h : Holding) → slice_get frames n ≡ Some h → is_free h ≡ false → slice_get (after frames Take) n ≡ Some h
after_take-other frames n h here not_free = by_answer (position is_free frames) refl
  where
    by_answer : (o : Option ℕ) → position is_free frames ≡ o → slice_get (after_take frames o) n ≡ Some h
    by_answer None is = here
    by_answer (Some m) is =
        let first : is_free (get_or frames m Free) ≡ true = (position-Some is_free frames m Free is).1 in
        let there : slice_get frames m ≡ Some (get_or frames m Free) = slice_get-get_or frames m Free (position-Some is_free frames m Free is).0 in
        slice_get-set_other frames m n Mapped
        (apart frames n m (get_or frames m Free) h here there (λ (same : h ≡ get_or frames m Free). let both : is_free h
        ≡ is_free (get_or frames m Free) = ap is_free same in cc))
        ∙ here

pub withheld_step :
    (frames : List Holding) (n : ℕ) (waits : List (Option Target)) (call : Call) → slice_get frames n ≡ Some (Withheld waits) → has_target waits ≡ true →
    IsPermitted frames call → slice_get (after frames call) n ≡ Some (after_waits (unsettled (call ∷ []) 0 waits))
withheld_step frames n waits Take here some permitted =
    after_take-other frames n (Withheld waits) here refl
    ∙ ap Some (sym (after_waits-some waits some) ∙ ap after_waits (sym (unsettled_same Take 0 waits (λ at target above. refl))))
withheld_step frames n waits (Give m) here some permitted =
    slice_get-set_other frames m n Free (apart frames n m Mapped (Withheld waits) here permitted (withheld_mapped waits)) ∙ here
    ∙ ap Some (sym (after_waits-some waits some) ∙ ap after_waits (sym (unsettled_same (Give m) 0 waits (λ at target above. refl))))
withheld_step frames n waits (Withhold m new) here some permitted =
    slice_get-set_other frames m n (after_waits new) (apart frames n m Mapped (Withheld waits) here permitted.0 (withheld_mapped waits)) ∙ here
    ∙ ap Some (sym (after_waits-some waits some) ∙ ap after_waits (sym (unsettled_same (Withhold m new) 0 waits (λ at target above. refl))))
withheld_step frames n waits (Settle unit cookie) here some permitted =
    slice_get-map (settled unit (past_cookie cookie)) frames n ∙ ap (option_map (settled unit (past_cookie cookie))) here
    ∙ ap (λ ws. Some (after_waits ws)) (unsettled-event (Settle unit cookie) unit 0 unit (past_cookie cookie) waits (settle_event unit cookie) (omega arith))
withheld_step frames n waits (SettleAll unit) here some permitted =
    slice_get-map (settled unit past_reset) frames n ∙ ap (option_map (settled unit past_reset)) here
    ∙ ap (λ ws. Some (after_waits ws)) (unsettled-event (SettleAll unit) unit 0 unit past_reset waits (settle_all_event unit) (omega arith))

pub mapped_step :
    (frames : List Holding) (n : ℕ) (call : Call) → slice_get frames n ≡ Some Mapped → spends n call ≡ false →
    slice_get (after frames call) n ≡ Some Mapped
mapped_step frames n Take here kept = after_take-other frames n Mapped here refl
mapped_step frames n (Give m) here kept = slice_get-set_other frames m n Free (two n m kept) ∙ here
mapped_step frames n (Withhold m new) here kept = slice_get-set_other frames m n (after_waits new) (two n m kept) ∙ here
mapped_step frames n (Settle unit cookie) here kept = slice_get-map (settled unit (past_cookie cookie)) frames n
    ∙ ap (option_map (settled unit (past_cookie cookie))) here
mapped_step frames n (SettleAll unit) here kept = slice_get-map (settled unit past_reset) frames n ∙ ap (option_map (settled unit past_reset)) here

-- ---- over a list of calls

pub mapped_all :
    (frames : List Holding) (n : ℕ) (calls : List Call) → slice_get frames n ≡ Some Mapped → list_any (spends n) calls ≡ false →
    slice_get (after_all frames calls) n ≡ Some Mapped
mapped_all frames n [] here kept = here
mapped_all frames n (call ∷ calls) here kept =
    let each : (spends n call ≡ false) × (list_any (spends n) calls ≡ false) = or_parts (spends n call) (list_any (spends n) calls) kept in
    mapped_all (after frames call) n calls (mapped_step frames n call here each.0) each.1

pub withheld_all :
    (frames : List Holding) (n : ℕ) (waits : List (Option Target)) (calls : List Call) → slice_get frames n ≡ Some (Withheld waits) →
    ArePermitted frames calls → has_target (unsettled calls 0 waits) ≡ true →
    slice_get (after_all frames calls) n ≡ Some (Withheld (unsettled calls 0 waits))
withheld_all frames n waits [] here permitted some = here ∙ ap (λ ws. Some (Withheld ws)) (sym (unsettled-nil 0 waits))
withheld_all frames n waits (call ∷ calls) here permitted some =
    let left : unsettled (call ∷ calls) 0 waits ≡ unsettled calls 0 (unsettled (call ∷ []) 0 waits) = unsettled-append (call ∷ []) calls 0 waits in
    let later : has_target (unsettled calls 0 (unsettled (call ∷ []) 0 waits)) ≡ true = ap has_target (sym left) ∙ some in
    let now : has_target (unsettled (call ∷ []) 0 waits) ≡ true = has_target-unsettled calls 0 (unsettled (call ∷ []) 0 waits) later in
    let first : slice_get (after frames call) n ≡ Some (Withheld (unsettled (call ∷ []) 0 waits)) =
    withheld_step frames n waits call here (has_target-unsettled (call ∷ []) 0 waits now) permitted.0
    ∙ ap Some (after_waits-some (unsettled (call ∷ []) 0 waits) now) in
    withheld_all (after frames call) n (unsettled (call ∷ []) 0 waits) calls first permitted.1 later ∙ ap (λ ws. Some (Withheld ws)) (sym left)

-- the pool just after `withhold`, where there is a target
pub withheld_first :
    (frames : List Holding) (n : ℕ) (waits : List (Option Target)) → IsPermitted frames (Withhold n waits) → has_target waits ≡ true →
    slice_get (after frames (Withhold n waits)) n ≡ Some (Withheld waits)
withheld_first frames n waits permitted some =
    slice_get-set_same frames n (after_waits waits) (slice_get_within frames n Mapped permitted.0) ∙ ap Some (after_waits-some waits some)

pub withheld_until :
    (frames : List Holding) (before calls : List Call) (n : ℕ) (waits : List (Option Target)) → ArePermitted frames (before ++ Withhold n waits ∷ calls) →
    has_target (unsettled calls 0 waits) ≡ true →
    slice_get (after_all frames (before ++ Withhold n waits ∷ calls)) n ≡ Some (Withheld (unsettled calls 0 waits))
withheld_until frames before calls n waits permitted some =
    let rest : ArePermitted (after_all frames before) (Withhold n waits ∷ calls) = permitted_rest frames before (Withhold n waits ∷ calls) permitted in
    ap (λ fs. slice_get fs n) (after_all-append frames before (Withhold n waits ∷ calls))
    ∙ withheld_all (after (after_all frames before) (Withhold n waits)) n waits calls
    (withheld_first (after_all frames before) n waits rest.0 (has_target-unsettled calls 0 waits some)) rest.1 some

-- ---- the laws

pub withheld_until_settled : WithheldUntilSettled
withheld_until_settled count before calls n waits permitted some = withheld_until (opened count) before calls n waits permitted some

pub free_when_settled : FreeWhenSettled
free_when_settled count before calls last n waits permitted some none =
    let rest : ArePermitted (after_all (opened count) before) (Withhold n waits ∷ (calls ++ last ∷ [])) =
    permitted_rest (opened count) before (Withhold n waits ∷ (calls ++ last ∷ [])) permitted in
    let start : List Holding = after (after_all (opened count) before) (Withhold n waits) in
    let here : slice_get (after_all start calls) n ≡ Some (Withheld (unsettled calls 0 waits)) =
    withheld_all start n waits calls (withheld_first (after_all (opened count) before) n waits rest.0 (has_target-unsettled calls 0 waits some))
    (permitted_first start calls (last ∷ []) rest.1) some in
    let left : has_target (unsettled (last ∷ []) 0 (unsettled calls 0 waits)) ≡ false =
    ap has_target (sym (unsettled-append calls (last ∷ []) 0 waits)) ∙ none in
    ap (λ fs. slice_get fs n) (after_all-append (opened count) before (Withhold n waits ∷ (calls ++ last ∷ [])) ∙ after_all-append start calls (last ∷ []))
    ∙ withheld_step (after_all start calls) n (unsettled calls 0 waits) last here some (permitted_rest start calls (last ∷ []) rest.1).0
    ∙ ap Some (after_waits-none (unsettled (last ∷ []) 0 (unsettled calls 0 waits)) left)

pub free_at_once : FreeAtOnce
free_at_once frames n waits permitted none =
    slice_get-set_same frames n (after_waits waits) (slice_get_within frames n Mapped permitted.0) ∙ ap Some (after_waits-none waits none)

pub mapped_in_hand : MappedInHand
mapped_in_hand count before calls n permitted answer kept =
    ap (λ fs. slice_get fs n) (after_all-append (opened count) before (Take ∷ calls))
    ∙ mapped_all (after (after_all (opened count) before) Take) n calls
    (ap (λ o. slice_get (after_take (after_all (opened count) before) o) n) answer
    ∙ slice_get-set_same (after_all (opened count) before) n Mapped (position-Some is_free (after_all (opened count) before) n Free answer).0)
    kept

pub lowest_free : LowestFree
lowest_free frames = by_answer (position is_free frames) refl
  where
    by_answer :
        (o : Option ℕ) → position is_free frames ≡ o →
        MatchOption o ((n : ℕ) → slice_get frames n ≢ Some Free) (λ m. (slice_get frames m ≡ Some Free) × ((n : ℕ) → n < m → slice_get frames n ≢ Some Free))
    by_answer None is = λ n found. let within : n < length frames = slice_get_within frames n Free found in let none : true ≡ false =
        none_free_none frames is n Free within found in cc
    by_answer (Some m) is = (
      slice_get-get_or frames m Free (position-Some is_free frames m Free is).0
          ∙ ap Some (free_is (get_or frames m Free) (position-Some is_free frames m Free is).1),
      λ n below found. let none : true ≡ false = none_free_first frames m is n Free below found in cc,
    )

-- ---- each withheld frame has a target

abbrev pub AllWait : List Holding → Type 0
AllWait frames = (n : ℕ) (waits : List (Option Target)) → slice_get frames n ≡ Some (Withheld waits) → (length waits ≡ 8) × (has_target waits ≡ true)

all_wait_set :
    (frames : List Holding) (m : ℕ) (h : Holding) → AllWait frames → m < length frames →
    ((waits : List (Option Target)) → h ≡ Withheld waits → (length waits ≡ 8) × (has_target waits ≡ true)) → AllWait (set frames m h)
all_wait_set frames m h all within new n waits found =
    ⊎_elim
    (λ (same : n ≡ m). new waits
    (same_Some h (Withheld waits) (sym (slice_get-set_same frames m h within) ∙ ap (slice_get (set frames m h)) (sym same) ∙ found)))
    (λ (other : n ≢ m). all n waits (sym (slice_get-set_other frames m n h other) ∙ found))
    (cases_eq n m)

all_wait_map : (frames : List Holding) (unit : ℕ) (left : Option Target → Option Target) → AllWait frames → AllWait (map (settled unit left) frames)
all_wait_map frames unit left all n waits found = by_holding (slice_get frames n) refl (sym (slice_get-map (settled unit left) frames n) ∙ found)
  where
    by_holding :
        (o : Option Holding) → slice_get frames n ≡ o → option_map (settled unit left) o ≡ Some (Withheld waits) →
        (length waits ≡ 8) × (has_target waits ≡ true)
    by_holding None was is = absurd (cc)
    by_holding (Some Free) was is = absurd (cc)
    by_holding (Some Mapped) was is = absurd (cc)
    by_holding (Some (Withheld ws)) was is =
        let after_event : List (Option Target) = set ws unit (left (get_or ws unit None)) in
        let settled_to : after_waits after_event ≡ Withheld waits = same_Some (after_waits after_event) (Withheld waits) is in
        let parts : (after_event ≡ waits) × (has_target after_event ≡ true) = withheld-after_waits after_event waits settled_to in (
          sym (ap length parts.0) ∙ length-set ws unit (left (get_or ws unit None)) ∙ (all n ws was).0,
          sym (ap has_target parts.0) ∙ parts.1,
        )

all_wait_step : (frames : List Holding) (call : Call) → AllWait frames → IsPermitted frames call → AllWait (after frames call)
all_wait_step frames Take all permitted = by_answer (position is_free frames) refl
  where
    by_answer : (o : Option ℕ) → position is_free frames ≡ o → AllWait (after_take frames o)
    by_answer None is = all
    by_answer (Some m) is = all_wait_set frames m Mapped all (position-Some is_free frames m Free is).0 (λ waits other. absurd (cc))
all_wait_step frames (Give m) all permitted = all_wait_set frames m Free all (slice_get_within frames m Mapped permitted) (λ waits other. absurd (cc))
all_wait_step frames (Withhold m new) all permitted =
    all_wait_set frames m (after_waits new) all (slice_get_within frames m Mapped permitted.0)
    (λ waits is. let parts : (new ≡ waits) × (has_target new ≡ true) =
    withheld-after_waits new waits is in (sym (ap length parts.0) ∙ permitted.1, sym (ap has_target parts.0) ∙ parts.1))
all_wait_step frames (Settle unit cookie) all permitted = all_wait_map frames unit (past_cookie cookie) all
all_wait_step frames (SettleAll unit) all permitted = all_wait_map frames unit past_reset all

all_wait_all : (frames : List Holding) (calls : List Call) → AllWait frames → ArePermitted frames calls → AllWait (after_all frames calls)
all_wait_all frames [] all permitted = all
all_wait_all frames (call ∷ calls) all permitted = all_wait_all (after frames call) calls (all_wait_step frames call all permitted.0) permitted.1

pub withheld_waits : WithheldWaits
withheld_waits count calls permitted = all_wait_all (opened count) calls none permitted
  where
    none : AllWait (opened count)
    none n waits found =
        let within : n < count = subst (λ (k : ℕ). n < k) (length-replicate count Free) (slice_get_within (opened count) n (Withheld waits) found) in
        let free : Free ≡ Withheld waits = sym (get_or-replicate count n Free Free within)
        ∙ get_or_from_slice_get (opened count) n (Withheld waits) Free found in
        absurd (cc)

pub settles_waits : SettlesWaits
settles_waits unit left waits keeps = settled-after_waits unit left waits keeps
