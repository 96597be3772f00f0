-- Pages of a space in a row are taken out, by labels.
use Rattle.std.proofs.Common.{◌≡◌, refl, ap, sym, ◌∙◌, subst, ℕ, zero, suc, ◌+◌, ◌*◌, ◌^◌, ◌<◌, ◌≤◌, Bool, true, false, arith}
use Rattle.std.specs.Prelude.{◌&&◌, ◌||◌, not, nat_le, if◌then◌else◌, Option, Some, None, is_some, option_map, nat_lt, ◌==◌, slice_get, IsTrue, ◌↔◌, Ok}
use Rattle.std.specs.Prelude.{Err, List, [], ◌∷◌, map, filter, length, slice_index_or}
use Rattle.std.specs.List.{list_any}
use Rattle.std.specs.Set.{distinct_count, is_member}
use Rattle.std.proofs.lemmas.List.Folds.{list_any-append}
use Rattle.std.proofs.lemmas.Bool.Decides.{nat_tests}
use Rattle.sva_step.specs.declared.answers.Answer.{Answer}
use Rattle.sva_step.specs.declared.refusals.Refusal.{Refusal}
use Rattle.sva_step.specs.declared.steps.Step.TheVariants as step
use Rattle.sva_frames.specs.declared.waits.Target.{Target}
use Rattle.sva_frames.specs.Frames.{has_target}
use Rattle.sva_model.specs.Words.{tabulate, any_below, count_below}
use Rattle.sva_model.specs.Outcomes.{unmap_answer, unmap_range_answer}
use Rattle.sva_model.specs.Steps.{Reply}
use Rattle.sva_model.specs.Wire.{Wire, PlaceWire, TargetWire}
use Rattle.sva_model.specs.Wire.TargetWire.{Cookie, ResetEnd}
use Rattle.sva_labels.specs.Finding.{unit_of, bound_at, pages_in, frames_of, is_mapped}
use Rattle.sva_labels.specs.Causes.{lacks}
use Rattle.sva_labels.specs.Host.{Decision, checked, decide_of}
use Rattle.sva_labels.specs.Moves.{targets_of, target_by, cookie_at, with_pages, without_pages, is_between, placed, place_for}
use Rattle.sva_labels.specs.Outcomes.{waits, result_of}
use Rattle.sva_labels.specs.Sound.{IsSound, target_there, cookies_in}
use Rattle.sva_labels.proofs.SoundRoom.{room_for_each}
use Rattle.sva_labels.proofs.Lists.{tabulate_at, any_same}
use Rattle.sva_address_spaces.specs.Room.{HasRoom, HaveRoom}
use Rattle.sva_address_spaces.specs.Seen.{AddressSpacesSeen, target_seen, targets_seen}
use Rattle.sva_address_spaces.specs.Pieces.{verdict}
use Rattle.sva_address_spaces.specs.Unmapping.{may_unmap, may_unmap_range, unmap_causes_of, range_causes_of, unmapped}
use Rattle.sva_parts_by_labels.proofs.Bindings.{seen_some}
use Rattle.sva_host_state.specs.declared.host_state.HostState.TheInside.{Inside as HostState}
use Rattle.sva_host_state.specs.declared.unmapping.Plan.{Plan}
use Rattle.sva_host_state.specs.Inner.{wire_of}
use Rattle.sva_host_state.specs.Steps.{Does, ByLabels}
use Rattle.sva_host_state.specs.Unmapping.{lacks_room, IsPlan, unit_causes, submitted}
use Rattle.sva_host_state.proofs.Deciding.{IsOther, refused_by, passed, all_clear}
use Rattle.sva_host_state.proofs.Refusing.{is_other}
use Rattle.sva_host_state.proofs.Submitting.{room_there}

pub unmap_refused : (host : HostState) (n q count : ℕ) (x : Refusal) → Err x ≡ may_unmap host.address_spaces n q count
    → ByLabels (wire_of host) (step.Unmap n q count) (Err x) (wire_of host)
unmap_refused host n q count x is =
    refused_by tt (unmap_causes_of host.address_spaces n q count) (unit_causes (wire_of host) n (count + 1))
    (result_of (wire_of host) (step.Unmap n q count)) (wire_of host) x (tt, (tt, (tt, (tt, tt)))) (sym is)

units_decide : (host : HostState) (n q count : ℕ) → Ok tt ≡ may_unmap host.address_spaces n q count
    → decide_of (wire_of host) (step.Unmap n q count) ≡ checked (unit_causes (wire_of host) n (count + 1)) (result_of (wire_of host) (step.Unmap n q count))
units_decide host n q count is =
    passed tt tt (unmap_causes_of host.address_spaces n q count) (unit_causes (wire_of host) n (count + 1))
    (result_of (wire_of host) (step.Unmap n q count)) (sym is)

pub units_refuse : (host : HostState) (v : Wire) (n q count : ℕ) (x : Refusal) → wire_of host ≡ v → Ok tt ≡ may_unmap host.address_spaces n q count → Err x
    ≡ verdict (unit_causes v n (count + 1))
    → ByLabels (wire_of host) (step.Unmap n q count) (Err x) (wire_of host)
units_refuse host v n q count x view allows is =
    subst (λ (d : Decision). Does d (wire_of host) (Err x) (wire_of host)) (sym (units_decide host n q count allows))
    (refused_by tt (unit_causes (wire_of host) n (count + 1)) [] (result_of (wire_of host) (step.Unmap n q count)) (wire_of host) x (tt, (tt, tt))
    (sym (is ∙ ap (λ (w : Wire). verdict (unit_causes w n (count + 1))) (sym view))))

-- Room for what the frames wait for.

pub units_fit : (v : Wire) (n k : ℕ) → Ok tt ≡ verdict (unit_causes v n k) → any_below (length v.parts) (lacks_room v n k) ≡ false
units_fit v n k allows = (all_clear tt tt (unit_causes v n k) (sym allows)).0

low : (next k : ℕ) → lacks next k ≡ false → next + k ≤ 2 ^ 63
low next k is = grind (arith, nat_tests)

pub cookies_left : (v : Wire) (n k : ℕ) (plan : Plan) → IsPlan v n k plan → Ok tt ≡ verdict (unit_causes v n k) → v.next_cookie + plan.cookies ≤ 2 ^ 63
cookies_left v n k plan is allows =
    low v.next_cookie plan.cookies (ap (lacks v.next_cookie) is.cookies ∙ (all_clear tt tt (unit_causes v n k) (sym allows)).1.0)

pub at_least_one : (memory : AddressSpacesSeen) (n q count : ℕ) → Ok tt ≡ may_unmap memory n q count → 1 ≤ count
at_least_one memory n q count allows = one count (all_clear tt tt (unmap_causes_of memory n q count) (sym allows)).1.0
  where
    one : (c : ℕ) → not (nat_le 1 c && nat_le c 48) ≡ false → 1 ≤ c
    one c is = grind (arith, nat_tests)

pub room_for : (v : Wire) (n count : ℕ) (places : List PlaceWire) (targets : List (Option TargetWire)) → IsSound v → 1 ≤ count
    → any_below (length v.parts) (lacks_room v n (count + 1)) ≡ false
    → places ≡ v.places → targets ≡ targets_of v n → HaveRoom places targets
room_for v n count places targets s more free same is = λ e target h. go e target h
  where
    two : (a c : ℕ) → 1 ≤ c → nat_le (a + (c + 1)) 64 ≡ true → nat_le (a + 2) 64 ≡ true
    two a c l is = grind (arith, nat_tests)

    go : (e : ℕ) (target : TargetWire) → slice_get targets e ≡ Some (Some target) → HasRoom (map (target_there e) places) target
    go e ResetEnd h = tt
    go e (Cookie c) h =
        let all = ap (λ (ps : List PlaceWire). cookies_in (map (target_there e) ps)) same in
        λ absent. subst (λ (l : List ℕ). distinct_count (◌==◌) l < 64) (sym all)
        (room_for_each v s n (λ e l t. two (length (unit_of v e).queue) count more (room_there v n (count + 1) e free l t)) e c
        (ap (λ (l : List (Option TargetWire)). slice_get l e) (sym is) ∙ h)
        (ap (λ (l : List ℕ). is_member (◌==◌) l c) (sym all) ∙ absent))

-- Whether a frame waits for anything.

any_of : {A : Type 0} (n : ℕ) (f : ℕ → Option A) → list_any is_some (tabulate n f) ≡ any_below n (λ k. is_some (f k))
unfolding tabulate any_below
any_of zero f = refl
any_of (suc n) f = list_any-append is_some (tabulate n f) (f n ∷ []) ∙ ap (λ (b : Bool). b || (is_some (f n) || false)) (any_of n f)
    ∙ go (any_below n (λ k. is_some (f k))) (is_some (f n))
  where
    go : (a b : Bool) → (a || (b || false)) ≡ (if b then true else a)
    go true true = refl
    go true false = refl
    go false true = refl
    go false false = refl

pub waits_seen : (v : Wire) (n : ℕ) (ts : List (Option Target)) → targets_seen ts ≡ targets_of v n → has_target ts ≡ waits v n
waits_seen v n ts is =
    let f : ℕ → Option TargetWire = λ e. if nat_lt e (length v.parts) then target_by (unit_of v e) (cookie_at v n e) (bound_at v e n) else None in
    sym (seen_some (option_map target_seen) is_some is_some (λ o. same o) ts)
    ∙ ap (list_any is_some) is
    ∙ any_of 8 f
    ∙ any_same 8 (λ e. is_some (f e)) (λ e. is_some (slice_index_or (targets_of v n) e None)) (λ e l. ap is_some (sym (tabulate_at 8 f e None l)))
  where
    same : (o : Option Target) → is_some (option_map target_seen o) ≡ is_some o
    same None = refl
    same (Some t) = refl

-- The step.

abbrev taken_out : (space page : ℕ) → Wire → List (Option TargetWire) → (count : ℕ) → Wire
taken_out n q u ts k =
    record u {
      spaces = with_pages u.spaces n (without_pages q k);
      places = placed (place_for ts) (filter (is_between q k) (pages_in u n)) u.places;
    }

pub unmap_done :
    (host now : HostState) (v : Wire) (n q count : ℕ) (ts : List (Option Target)) (memory : AddressSpacesSeen) (a : Answer)
    → wire_of host ≡ v
    → Ok tt ≡ may_unmap host.address_spaces n q count
    → Ok tt ≡ verdict (unit_causes v n (count + 1))
    → wire_of now ≡ submitted v n q count 0
    → targets_seen ts ≡ targets_of v n
    → memory ≡ unmapped now.address_spaces n q count (targets_seen ts)
    → a ≡ unmap_answer (has_target ts) (frames_of (pages_in v n) q count)
    → ByLabels v (step.Unmap n q count) (Ok a) (wire_of (record now { address_spaces = memory }))
unmap_done host now v n q count ts memory a view allows fits seen targets after answers =
    subst (λ (d : Decision). Does d v (Ok a) (wire_of (record now { address_spaces = memory }))) (sym decided) (
      ap Ok (answers ∙ ap (λ (b : Bool). unmap_answer b (frames_of (pages_in v n) q count)) (waits_seen v n ts targets)),
      ap (λ (m : AddressSpacesSeen). wire_of (record now { address_spaces = m })) after ∙ (λ i. taken_out n q (seen i) (targets i) (once i)),
    )
  where
    once : count ≡ count * 2 ^ 0
    once = omega arith

    decided : decide_of v (step.Unmap n q count) ≡ checked [] (result_of v (step.Unmap n q count))
    decided =
        ap (λ (u : Wire). decide_of u (step.Unmap n q count)) (sym view)
        ∙ units_decide host n q count allows
        ∙ ap (λ (u : Wire). checked (unit_causes u n (count + 1)) (result_of u (step.Unmap n q count))) view
        ∙ passed tt tt (unit_causes v n (count + 1)) [] (result_of v (step.Unmap n q count)) (sym fits)

pub unmap_ends :
    (host now : HostState) (v : Wire) (n q count : ℕ) (ts : List (Option Target)) (memory : AddressSpacesSeen) (r : Reply)
    → wire_of host ≡ v
    → Ok tt ≡ may_unmap host.address_spaces n q count
    → Ok tt ≡ verdict (unit_causes v n (count + 1))
    → wire_of now ≡ submitted v n q count 0
    → targets_seen ts ≡ targets_of v n
    → memory ≡ unmapped now.address_spaces n q count (targets_seen ts)
    → r ≡ Ok (unmap_answer (has_target ts) (frames_of (pages_in v n) q count))
    → ByLabels v (step.Unmap n q count) r (wire_of (record now { address_spaces = memory }))
unmap_ends host now v n q count ts memory r view allows fits seen targets after answers =
    subst (λ (x : Reply). ByLabels v (step.Unmap n q count) x (wire_of (record now { address_spaces = memory }))) (sym answers)
    (unmap_done host now v n q count ts memory (unmap_answer (has_target ts) (frames_of (pages_in v n) q count)) view allows fits seen targets after refl)

-- The same of a range.

pub range_refused : (host : HostState) (n q order : ℕ) (x : Refusal) → Err x ≡ may_unmap_range host.address_spaces n q order
    → ByLabels (wire_of host) (step.UnmapRange n q order) (Err x) (wire_of host)
range_refused host n q order x is =
    refused_by tt (range_causes_of host.address_spaces n q order) (unit_causes (wire_of host) n 2) (result_of (wire_of host) (step.UnmapRange n q order))
    (wire_of host) x (tt, (tt, (tt, (tt, (tt, tt))))) (sym is)

range_decide : (host : HostState) (n q order : ℕ) → Ok tt ≡ may_unmap_range host.address_spaces n q order
    → decide_of (wire_of host) (step.UnmapRange n q order) ≡ checked (unit_causes (wire_of host) n 2) (result_of (wire_of host) (step.UnmapRange n q order))
range_decide host n q order is =
    passed tt tt (range_causes_of host.address_spaces n q order) (unit_causes (wire_of host) n 2)
    (result_of (wire_of host) (step.UnmapRange n q order)) (sym is)

pub range_refuse : (host : HostState) (v : Wire) (n q order : ℕ) (x : Refusal) → wire_of host ≡ v → Ok tt ≡ may_unmap_range host.address_spaces n q order
    → Err x ≡ verdict (unit_causes v n 2)
    → ByLabels (wire_of host) (step.UnmapRange n q order) (Err x) (wire_of host)
range_refuse host v n q order x view allows is =
    subst (λ (d : Decision). Does d (wire_of host) (Err x) (wire_of host)) (sym (range_decide host n q order allows))
    (refused_by tt (unit_causes (wire_of host) n 2) [] (result_of (wire_of host) (step.UnmapRange n q order)) (wire_of host) x (tt, (tt, tt))
    (sym (is ∙ ap (λ (w : Wire). verdict (unit_causes w n 2)) (sym view))))

pub range_done :
    (host now : HostState) (v : Wire) (n q order : ℕ) (ts : List (Option Target)) (memory : AddressSpacesSeen) (a : Answer)
    → wire_of host ≡ v
    → Ok tt ≡ may_unmap_range host.address_spaces n q order
    → Ok tt ≡ verdict (unit_causes v n 2)
    → wire_of now ≡ submitted v n q 1 order
    → targets_seen ts ≡ targets_of v n
    → memory ≡ unmapped now.address_spaces n q (2 ^ order) (targets_seen ts)
    → a ≡ unmap_range_answer (has_target ts) (count_below (2 ^ order) (λ j. is_mapped (pages_in v n) (q + j)))
    → ByLabels v (step.UnmapRange n q order) (Ok a) (wire_of (record now { address_spaces = memory }))
range_done host now v n q order ts memory a view allows fits seen targets after answers =
    subst (λ (d : Decision). Does d v (Ok a) (wire_of (record now { address_spaces = memory }))) (sym decided) (
      ap Ok (answers ∙ ap (λ (b : Bool). unmap_range_answer b (count_below (2 ^ order) (λ j. is_mapped (pages_in v n) (q + j)))) (waits_seen v n ts targets)),
      ap (λ (m : AddressSpacesSeen). wire_of (record now { address_spaces = m })) after ∙ (λ i. taken_out n q (seen i) (targets i) (once (2 ^ order) i)),
    )
  where
    once : (k : ℕ) → k ≡ 1 * k
    once k = omega arith

    decided : decide_of v (step.UnmapRange n q order) ≡ checked [] (result_of v (step.UnmapRange n q order))
    decided =
        ap (λ (u : Wire). decide_of u (step.UnmapRange n q order)) (sym view)
        ∙ range_decide host n q order allows
        ∙ ap (λ (u : Wire). checked (unit_causes u n 2) (result_of u (step.UnmapRange n q order))) view
        ∙ passed tt tt (unit_causes v n 2) [] (result_of v (step.UnmapRange n q order)) (sym fits)

pub range_ends :
    (host now : HostState) (v : Wire) (n q order : ℕ) (ts : List (Option Target)) (memory : AddressSpacesSeen) (r : Reply)
    → wire_of host ≡ v
    → Ok tt ≡ may_unmap_range host.address_spaces n q order
    → Ok tt ≡ verdict (unit_causes v n 2)
    → wire_of now ≡ submitted v n q 1 order
    → targets_seen ts ≡ targets_of v n
    → memory ≡ unmapped now.address_spaces n q (2 ^ order) (targets_seen ts)
    → r ≡ Ok (unmap_range_answer (has_target ts) (count_below (2 ^ order) (λ j. is_mapped (pages_in v n) (q + j))))
    → ByLabels v (step.UnmapRange n q order) r (wire_of (record now { address_spaces = memory }))
range_ends host now v n q order ts memory r view allows fits seen targets after answers =
    subst (λ (x : Reply). ByLabels v (step.UnmapRange n q order) x (wire_of (record now { address_spaces = memory }))) (sym answers)
    (range_done host now v n q order ts memory (unmap_range_answer (has_target ts) (count_below (2 ^ order) (λ j. is_mapped (pages_in v n) (q + j))))
    view allows fits seen targets after refl)

-- what tells that nothing is awaited
pub empty_if : (r b : Bool) → IsTrue r ↔ (b ≡ false) → r ≡ true → b ≡ false
empty_if r b h is = h.0 is

pub awaited_if : (r b : Bool) → IsTrue r ↔ (b ≡ false) → r ≡ false → b ≡ true
awaited_if r true h is = refl
awaited_if r false h is = let full : r ≡ true = h.1 refl in absurd (cc (full, is))

-- None of the causes is want of memory.

pub unmap_other : (memory : AddressSpacesSeen) (n q count : ℕ) (x : Refusal) → Err x ≡ may_unmap memory n q count → IsOther x
unmap_other memory n q count x is = is_other tt (unmap_causes_of memory n q count) x (tt, (tt, (tt, (tt, tt)))) is

pub range_other : (memory : AddressSpacesSeen) (n q order : ℕ) (x : Refusal) → Err x ≡ may_unmap_range memory n q order → IsOther x
range_other memory n q order x is = is_other tt (range_causes_of memory n q order) x (tt, (tt, (tt, (tt, (tt, tt))))) is

pub units_other : (v : Wire) (n k : ℕ) (x : Refusal) → Err x ≡ verdict (unit_causes v n k) → IsOther x
units_other v n k x is = is_other tt (unit_causes v n k) x (tt, (tt, tt)) is
