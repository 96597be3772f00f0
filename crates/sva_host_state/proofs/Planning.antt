-- The plan of an unmapping, unit by unit.
use Rattle.std.proofs.Common.{◌≡◌, ◌≢◌, ◌⊎◌, inl, inr, refl, ap, sym, subst, ◌∙◌, ℕ, suc, ◌+◌, ◌<◌, ◌≤◌, Bool, true, false, arith}
use Rattle.std.specs.Prelude.{◌&&◌, not, if◌then◌else◌, nat_lt, Option, Some, None, option_map, List, [], ◌∷◌, length, slice_get, slice_set}
use Rattle.std.specs.Prelude.{slice_index_or, Err}
use Rattle.std.proofs.lemmas.List.{length-map, map-set}
use Rattle.std.proofs.lemmas.Option.{slice_get-get_or}
use Rattle.std.proofs.Math.ListN.{get_or-map}
use Rattle.std.proofs.lemmas.Bool.Decides.{nat_tests}
use Rattle.sva_step.specs.declared.refusals.Refusal.TheVariants as refusal
use Rattle.sva_frames.specs.declared.waits.Target.{Target}
use Rattle.sva_model.specs.Words.{tabulate, any_below, count_below}
use Rattle.sva_model.specs.Wire.{Wire, TargetWire}
use Rattle.sva_labels.specs.Finding.{submits, submits_by, is_before_invalidating, has_room, unit_of, bound_at}
use Rattle.sva_labels.specs.Causes.{lacks, waits_needed}
use Rattle.sva_labels.specs.Moves.{target_by, target_by_stage, cookie_at, pasid_or_0}
use Rattle.sva_labels.proofs.Tests.{first_alone}
use Rattle.sva_labels.proofs.Words.{ℕ_cases, any_below-intro}
use Rattle.sva_labels.proofs.Counting.{count_most}
use Rattle.sva_labels.proofs.Lists.{tabulate_same, tabulate_length, tabulate_at, tabulate_set}
use Rattle.sva_address_spaces.specs.Pieces.{verdict}
use Rattle.sva_address_spaces.specs.Seen.{target_seen, targets_seen}
use Rattle.sva_pasid.specs.declared.places.TableEntry.{TableEntry}
use Rattle.sva_pasid.specs.Places.{place_between}
use Rattle.sva_parts_by_labels.specs.Bindings.{stage_or_quiet}
use Rattle.sva_host_state.specs.declared.host_state.HostState.TheInside.{Inside as HostState}
use Rattle.sva_host_state.specs.declared.host_state.Port.{Port}
use Rattle.sva_host_state.specs.declared.unmapping.Plan.{Plan}
use Rattle.sva_host_state.specs.Inner.{wire_of}
use Rattle.sva_host_state.specs.Unmapping.{pasid_at, target_at, lacks_room, of_first, IsPlanned, IsPlan, Plans}
use Rattle.sva_host_state.proofs.TakenOut.{any_none, any_next, counted_none, counted_there, counted_off, unit_there, bound_there}

-- A table of the first so many units.

abbrev row : {A : Type 0} → (units : ℕ) → (ℕ → Option A) → (endpoint : ℕ) → Option A
row units at endpoint = if nat_lt endpoint units then at endpoint else None

abbrev pub nothing : {A : Type 0} → List (Option A)
nothing = None ∷ None ∷ None ∷ None ∷ None ∷ None ∷ None ∷ None ∷ []

none_first : {A : Type 0} (at : ℕ → Option A) → nothing ≡ of_first 0 at
unfolding tabulate
none_first at = refl

not_yet : (e : ℕ) → nat_lt e e ≡ false
not_yet e = grind (arith, nat_tests)

there : (e : ℕ) → nat_lt e (e + 1) ≡ true
there e = grind (arith, nat_tests)

others : (k e : ℕ) → k ≢ e → nat_lt k (e + 1) ≡ nat_lt k e
others k e apart = grind (arith, nat_tests)

this_row : {A : Type 0} (at : ℕ → Option A) (e : ℕ) → row (e + 1) at e ≡ at e
this_row at e = ap (λ (b : Bool). if b then at e else None) (there e)

other_rows : {A : Type 0} (at : ℕ → Option A) (e k : ℕ) → k ≢ e → row (e + 1) at k ≡ row e at k
other_rows at e k apart = ap (λ (b : Bool). if b then at k else None) (others k e apart)

empty_row : {A : Type 0} (at : ℕ → Option A) (e : ℕ) → row e at e ≡ None
empty_row at e = ap (λ (b : Bool). if b then at e else None) (not_yet e)

-- a unit more, which has this
pub more_first : {A : Type 0} (at : ℕ → Option A) (e : ℕ) (x : Option A) (xs ys : List (Option A)) → xs ≡ of_first e at → x ≡ at e → ys ≡ slice_set xs e x
    → ys ≡ of_first (e + 1) at
more_first at e x xs ys before is changed =
    changed ∙ ap (λ l. slice_set l e x) before ∙ sym (tabulate_set 8 (row e at) (row (e + 1) at) e x (this_row at e ∙ sym is) (other_rows at e))

-- and one that has nothing
pub same_first : {A : Type 0} (at : ℕ → Option A) (e : ℕ) (xs : List (Option A)) → xs ≡ of_first e at → at e ≡ None → xs ≡ of_first (e + 1) at
same_first at e xs before none = before ∙ tabulate_same 8 (row e at) (row (e + 1) at) (λ k low. go k (ℕ_cases k e))
  where
    go : (k : ℕ) → (k ≡ e) ⊎ (k ≢ e) → row e at k ≡ row (e + 1) at k
    go k (inl is) = ap (row e at) is ∙ empty_row at e ∙ sym none ∙ sym (this_row at e) ∙ ap (row (e + 1) at) (sym is)
    go k (inr apart) = sym (other_rows at e k apart)

-- what stands at a unit that is there
pub first_at : {A : Type 0} (at : ℕ → Option A) (units e : ℕ) (d : Option A) (xs : List (Option A)) → xs ≡ of_first units at → e < units → e < 8
    → slice_index_or xs e d ≡ at e
first_at at units e d xs is within low =
    ap (λ l. slice_index_or l e d) is ∙ tabulate_at 8 (row units at) e d low ∙ ap (λ (b : Bool). if b then at e else None) (less e units within)
  where
    less : (k n : ℕ) → k < n → nat_lt k n ≡ true
    less k n l = grind (arith, nat_tests)

pub long_first : {A : Type 0} (at : ℕ → Option A) (units : ℕ) (xs : List (Option A)) → xs ≡ of_first units at → length xs ≡ 8
long_first at units xs is = ap length is ∙ tabulate_length 8 (row units at)

-- nothing is awaited yet at the next unit
pub nothing_yet : (at : ℕ → Option TargetWire) (waits : List (Option Target)) (e : ℕ)
    → targets_seen waits ≡ of_first e at → e < 8 → slice_get waits e ≡ Some None
nothing_yet at waits e is low =
    let len : length waits ≡ 8 = sym (length-map waits (option_map target_seen)) ∙ ap length is ∙ tabulate_length 8 (row e at) in
    slice_get-get_or waits e None (omega arith)
    ∙ ap Some (empty (slice_index_or waits e None) (sym (get_or-map (option_map target_seen) waits e None)
    ∙ ap (λ (l : List (Option TargetWire)). slice_index_or l e None) is ∙ tabulate_at 8 (row e at) e None low ∙ empty_row at e))
  where
    empty : (o : Option Target) → option_map target_seen o ≡ None → o ≡ None
    empty None is = refl
    empty (Some t) is = absurd (cc (is))

-- The cookies.

pub next_cookie_there : (w : Wire) (n e : ℕ) → submits w n e ≡ true → cookie_at w n (e + 1) ≡ cookie_at w n e + 1
next_cookie_there w n e here =
    let one : count_below (e + 1) (submits w n) ≡ count_below e (submits w n) + 1 = counted_there e (submits w n) here in
    omega arith

pub next_cookie_off : (w : Wire) (n e : ℕ) → submits w n e ≡ false → cookie_at w n (e + 1) ≡ cookie_at w n e
next_cookie_off w n e here = ap (λ k. w.next_cookie + k) (counted_off e (submits w n) here)

pub first_cookie : (w : Wire) (n : ℕ) → w.next_cookie ≡ cookie_at w n 0
unfolding count_below
first_cookie w n = omega arith

pub few_cookies : (w : Wire) (n d e : ℕ) (plan : Plan) → IsPlanned w n d e plan → plan.cookies ≤ e
few_cookies w n d e plan is =
    let most : count_below e (submits w n) ≤ e = count_most e (submits w n) in
    let same = is.cookies in
    omega arith

-- What is read of a unit.

pub target_is : (host : HostState) (v : Wire) (e n cookie first : ℕ) (port : Port) (p : TableEntry) → wire_of host ≡ v
    → e < length host.ports.items → port ≡ slice_index_or host.ports.items e port → Some p ≡ place_between e n host.bindings
    → first ≡ host.next_cookie → cookie ≡ count_below e (submits v n)
    → target_by_stage port.unit.unit (first + cookie) (stage_or_quiet p.stage) ≡ target_at v n e
target_is host v e n cookie first port p view within same found starts given =
    λ i. target_by (unit_there host v e port view within same i) (next i) (bound_there host v e n (Some p) view found i)
  where
    next : first + cookie ≡ cookie_at v n e
    next = (λ i. (starts i) + (given i)) ∙ ap (λ (w : Wire). w.next_cookie + count_below e (submits v n)) view

pub submits_is : (host : HostState) (v : Wire) (e n : ℕ) (port : Port) (p : TableEntry) → wire_of host ≡ v
    → e < length host.ports.items → port ≡ slice_index_or host.ports.items e port → Some p ≡ place_between e n host.bindings
    → (port.unit.unit.is_open && is_before_invalidating (stage_or_quiet p.stage)) ≡ submits v n e
submits_is host v e n port p view within same found =
    λ i. submits_by (unit_there host v e port view within same i) (bound_there host v e n (Some p) view found i)

pub submits_there : (host : HostState) (v : Wire) (e n : ℕ) (port : Port) (p : TableEntry) (a b : Bool) → wire_of host ≡ v
    → e < length host.ports.items → port ≡ slice_index_or host.ports.items e port → Some p ≡ place_between e n host.bindings
    → a ≡ port.unit.unit.is_open → b ≡ is_before_invalidating (stage_or_quiet p.stage)
    → (a && b) ≡ submits v n e
submits_there host v e n port p a b view within same found opened before =
    (λ i. opened i && before i) ∙ submits_is host v e n port p view within same found

-- The plan.

pub starts : (w : Wire) (n d : ℕ) (plan : Plan) → plan.pasids ≡ nothing → plan.waits ≡ nothing → plan.cookies ≡ 0
    → IsPlanned w n d 0 plan
starts w n d plan pasids waits cookies =
    record {
      pasids = pasids ∙ none_first (pasid_at w n);
      waits = ap targets_seen waits ∙ none_first (target_at w n);
      cookies = cookies ∙ counted_none (submits w n);
      room = any_none (lacks_room w n d);
    }

-- a unit that gets nothing lacks no room
has_not : (a b : Bool) → a ≡ false → (a && b) ≡ false
has_not true b is = absurd (cc (is))
has_not false b is = refl

has_both : (a b : Bool) → b ≡ true → (a && not b) ≡ false
has_both true true is = refl
has_both false true is = refl
has_both a false is = absurd (cc (is))

pasid_off : (w : Wire) (n e : ℕ) → submits w n e ≡ false → pasid_at w n e ≡ None
pasid_off w n e off = ap (λ (b : Bool). if b then Some (pasid_or_0 (bound_at w e n)) else None) off

pub pasid_there : (w : Wire) (n e : ℕ) → submits w n e ≡ true → pasid_at w n e ≡ Some (pasid_or_0 (bound_at w e n))
pasid_there w n e asks = ap (λ (b : Bool). if b then Some (pasid_or_0 (bound_at w e n)) else None) asks

-- the space isn't bound there
pub unbound : (w : Wire) (n d e : ℕ) (plan : Plan) → IsPlanned w n d e plan → bound_at w e n ≡ None → IsPlanned w n d (e + 1) plan
unbound w n d e plan is none =
    let off : submits w n e ≡ false = ap (submits_by (unit_of w e)) none in
    record {
      pasids = same_first (pasid_at w n) e plan.pasids is.pasids (pasid_off w n e off);
      waits = same_first (target_at w n) e (targets_seen plan.waits) is.waits (ap (target_by (unit_of w e) (cookie_at w n e)) none);
      cookies = is.cookies ∙ sym (counted_off e (submits w n) off);
      room = any_next e (lacks_room w n d) is.room (has_not (submits w n e) (not (has_room (unit_of w e) d)) off);
    }

-- What the frames wait for there is noted, and nothing else.
pub record IsNoted (w : Wire) (n e : ℕ) (plan after : Plan) : Type 0 where
  pub pasids : after.pasids ≡ plan.pasids
  pub waits : targets_seen after.waits ≡ of_first (e + 1) (target_at w n)
  pub cookies : after.cookies ≡ plan.cookies

pub awaits : (w : Wire) (n e : ℕ) (plan after : Plan) (t : Target) (waits : List (Option Target)) → targets_seen plan.waits ≡ of_first e (target_at w n)
    → Some (target_seen t) ≡ target_at w n e → after ≡ record plan { waits = waits } → waits ≡ slice_set plan.waits e (Some t) → IsNoted w n e plan after
awaits w n e plan after t waits before is changed pushed =
    record {
      pasids = ap (λ (p : Plan). p.pasids) changed;
      waits =
          more_first (target_at w n) e (Some (target_seen t)) (targets_seen plan.waits) (targets_seen after.waits) before is
          (ap (λ (p : Plan). targets_seen p.waits) changed ∙ ap targets_seen pushed ∙ map-set (option_map target_seen) plan.waits e (Some t));
      cookies = ap (λ (p : Plan). p.cookies) changed;
    }

pub awaits_nothing : (w : Wire) (n e : ℕ) (plan after : Plan) → targets_seen plan.waits ≡ of_first e (target_at w n) → None ≡ target_at w n e
    → after ≡ plan → IsNoted w n e plan after
awaits_nothing w n e plan after before none same =
    record {
      pasids = ap (λ (p : Plan). p.pasids) same;
      waits = ap (λ (p : Plan). targets_seen p.waits) same ∙ same_first (target_at w n) e (targets_seen plan.waits) before (sym none);
      cookies = ap (λ (p : Plan). p.cookies) same;
    }

-- the unit there gets descriptors, for which it has room
pub asks : (w : Wire) (n d e t : ℕ) (plan noted after : Plan) → IsPlanned w n d e plan → IsNoted w n e plan noted
    → submits w n e ≡ true → has_room (unit_of w e) d ≡ true → t ≡ pasid_or_0 (bound_at w e n)
    → after ≡ record noted { pasids = slice_set noted.pasids e (Some t); cookies = noted.cookies + 1 }
    → IsPlanned w n d (e + 1) after
asks w n d e t plan noted after is note gets room bearer changed =
    record {
      pasids =
          more_first (pasid_at w n) e (Some t) plan.pasids after.pasids is.pasids (ap Some bearer ∙ sym (pasid_there w n e gets))
          (ap (λ (p : Plan). p.pasids) changed ∙ ap (λ l. slice_set l e (Some t)) note.pasids);
      waits = ap (λ (p : Plan). targets_seen p.waits) changed ∙ note.waits;
      cookies = ap (λ (p : Plan). p.cookies) changed ∙ ap (λ k. k + 1) (note.cookies ∙ is.cookies) ∙ sym (counted_there e (submits w n) gets);
      room = any_next e (lacks_room w n d) is.room (has_both (submits w n e) (has_room (unit_of w e) d) room);
    }

-- it gets none
pub asks_not : (w : Wire) (n d e : ℕ) (plan noted after : Plan) → IsPlanned w n d e plan → IsNoted w n e plan noted → submits w n e ≡ false
    → after ≡ noted → IsPlanned w n d (e + 1) after
asks_not w n d e plan noted after is note off same =
    record {
      pasids = ap (λ (p : Plan). p.pasids) same ∙ note.pasids ∙ same_first (pasid_at w n) e plan.pasids is.pasids (pasid_off w n e off);
      waits = ap (λ (p : Plan). targets_seen p.waits) same ∙ note.waits;
      cookies = ap (λ (p : Plan). p.cookies) same ∙ note.cookies ∙ is.cookies ∙ sym (counted_off e (submits w n) off);
      room = any_next e (lacks_room w n d) is.room (has_not (submits w n e) (not (has_room (unit_of w e) d)) off);
    }

-- What refuses it.

by_room : (full spent : Bool) → full ≡ true → Err refusal.QueueFull ≡ verdict ((full, refusal.QueueFull) ∷ (spent, refusal.NumbersSpent) ∷ [])
by_room true spent is = refl
by_room false spent is = absurd (cc (is))

pub no_room : (w : Wire) (n d e : ℕ) → e < length w.parts → submits w n e ≡ true → has_room (unit_of w e) d ≡ false → Plans w n d (Err refusal.QueueFull)
no_room w n d e within gets full =
    by_room (any_below (length w.parts) (lacks_room w n d)) (lacks w.next_cookie (waits_needed w n))
    (any_below-intro (length w.parts) (lacks_room w n d) e within (first_alone (submits w n e) (has_room (unit_of w e) d) gets full))

-- a plan for so many descriptors and their wait
pub plan_with_wait : (w : Wire) (n count : ℕ) (plan : Plan) → IsPlan w n (count + 1) plan → IsPlan w n (suc count) plan
plan_with_wait w n count plan is = subst (λ (k : ℕ). IsPlan w n k plan) (omega arith) is
