-- Page requests and the end of a PASID, seen.
use Rattle.std.proofs.Common.{◌≡◌, refl, ap, sym, ◌∙◌, ℕ, suc, ◌+◌, ◌<◌, ◌^◌, Bool, true, false, arith}
use Rattle.std.specs.Prelude.{◌||◌, not, ◌==◌, nat_lt, nat_le, if◌then◌else◌, is_none, IsSome, Option, Some, None, List, [], ◌∷◌, map, slice_set, position}
use Rattle.std.specs.List.{list_any}
use Rattle.std.proofs.lemmas.List.{map-set}
use Rattle.std.proofs.lemmas.List.Sums.{sum_by-cons}
use Rattle.std.proofs.lemmas.Bool.Decides.{nat_tests}
use Rattle.sva_step.specs.declared.refusals.Refusal.TheVariants as refusal
use Rattle.sva_model.specs.StateChanges.{stale_if, sent_as}
use Rattle.sva_model.specs.State.{GroupState, PasidState as DeviceState}
use Rattle.sva_model.specs.States as states
use Rattle.sva_model.specs.Wire.{GroupWire}
use Rattle.sva_labels.specs.Finding as finding
use Rattle.sva_labels.specs.Causes.{may_request, is_other_group, is_busy_pasid}
use Rattle.sva_labels.specs.Moves as moves
use Rattle.sva_endpoint.specs.declared.pasid_states.PasidState.{PasidState}
use Rattle.sva_endpoint.specs.declared.pasid_states.PasidState.TheVariants.{Off, On, Stopping}
use Rattle.sva_endpoint.specs.declared.request_tags.RequestTag.{RequestTag}
use Rattle.sva_endpoint.specs.declared.request_tags.RequestTag.TheVariants as tags
use Rattle.sva_endpoint.specs.declared.use_slots.UseSlot.{UseSlot}
use Rattle.sva_endpoint.specs.declared.use_slots.UseSlot.TheVariants as slots
use Rattle.sva_endpoint.specs.declared.groups.GroupPlace.{GroupPlace}
use Rattle.sva_endpoint.specs.declared.groups.GroupPlace.TheVariants.{Free, Collecting, Out, Stale}
use Rattle.sva_endpoint.specs.PasidStates.{state_of, is_off}
use Rattle.sva_endpoint.specs.RequestTags.{asks_under}
use Rattle.sva_endpoint.specs.UseSlots.{runs_under}
use Rattle.sva_endpoint.specs.Groups.{is_free, is_collecting, group_at, group_of, with_request, stale_of, requests_of, outstanding}
use Rattle.sva_endpoint.specs.declared.permitted.Fault.{Fault}
use Rattle.sva_endpoint.specs.Tables.{Tables}
use Rattle.sva_endpoint.specs.Steps.{may_send, is_of_group, index_for, group_after, is_busy}
use Rattle.sva_endpoint.specs.Laws.{IsSound}
use Rattle.sva_parts_by_labels.specs.Device.{pasid_seen, tag_seen, slot_seen, group_seen, device_seen}
use Rattle.sva_parts_by_labels.specs.DeviceLaws.{FaultIsSeen, QuitIsSeen, faulted}
use Rattle.sva_parts_by_labels.proofs.Tables.{lowest_place, place_there, seen_at, seen_each, seen_any}
use Rattle.sva_parts_by_labels.proofs.Pasids.{state_seen, started_seen, ending_seen, with_state_seen, beyond}

free_seen : (group : GroupPlace) → is_none (group_seen group) ≡ is_free group
free_seen Free = refl
free_seen (Collecting t n) = refl
free_seen (Out t n) = refl
free_seen (Stale t n) = refl

unfinished_seen : (t : ℕ) (group : GroupPlace) → is_collecting t group ≡ finding.has_unfinished_group t (group_seen group)
unfinished_seen t Free = refl
unfinished_seen t (Collecting u n) = refl
unfinished_seen t (Out u n) = refl
unfinished_seen t (Stale u n) = refl

-- how many page requests are outstanding

requests_seen : (group : GroupPlace) → requests_of group ≡ finding.requests_in (group_seen group)
requests_seen Free = refl
requests_seen (Collecting t n) = refl
requests_seen (Out t n) = refl
requests_seen (Stale t n) = refl

pub outstanding_seen : (groups : List GroupPlace) → outstanding groups ≡ finding.outstanding (map group_seen groups)
outstanding_seen [] = refl
outstanding_seen (g ∷ groups) = sum_by-cons requests_of g groups ∙ (λ i. requests_seen g i + outstanding_seen groups i)

-- who may send a page request

goes_on : (x : PasidState) → not (is_off x) ≡ (states.is_on (pasid_seen x) || states.is_ending (pasid_seen x))
goes_on Off = refl
goes_on On = refl
goes_on Stopping = refl

may_send_seen : (s : Tables) (t : ℕ) (group : Option ℕ) → IsSound s → may_send group (state_of s.pasids t) ≡ may_request (device_seen s) t group
may_send_seen s t None h = sym (started_seen s t h)
may_send_seen s t (Some i) h = goes_on (state_of s.pasids t) ∙ ap (λ x. states.is_on x || states.is_ending x) (sym (state_seen s t h))

at_index : (s : Tables) (i : ℕ) → finding.group_at (device_seen s) i ≡ group_seen (group_at s.groups i)
at_index s i = seen_at group_seen s.groups i Free

other_seen : (s : Tables) (t : ℕ) (group : Option ℕ) → not (is_of_group s t group) ≡ is_other_group (device_seen s) t group
other_seen s t None = refl
other_seen s t (Some i) = ap (λ (b : Bool). not b) (unfinished_seen t (group_at s.groups i) ∙ ap (finding.has_unfinished_group t) (sym (at_index s i)))

credit_by : (n m : ℕ) → n ≡ m → not (nat_lt n 32) ≡ nat_le 32 m
credit_by n m h = grind (arith, nat_tests)

-- the index of a new group

some_there : {A : Type 0} (o : Option A) → IsSome o → is_none o ≡ false
some_there None h = absurd (cc (h))
some_there (Some a) h = refl

-- a group with one request, and with one more

begun_seen : (t : ℕ) (last : Bool) → group_seen (group_of t 1 last) ≡ Some (record { pasid = t; state = sent_as last; requests = 1 })
begun_seen t true = refl
begun_seen t false = refl

more_by : (t n : ℕ) (last : Bool) → group_seen (group_of t (n + 1) last) ≡ Some (record { pasid = t; state = sent_as last; requests = suc n })
more_by t n true = ap (λ m. Some (record { pasid = t; state = GroupState.Awaiting; requests = m })) (one_more n)
  where
    one_more : (n : ℕ) → n + 1 ≡ suc n
    one_more n = omega arith
more_by t n false = ap (λ m. Some (record { pasid = t; state = GroupState.Collecting; requests = m })) (one_more n)
  where
    one_more : (n : ℕ) → n + 1 ≡ suc n
    one_more n = omega arith

more_seen : (t : ℕ) (last : Bool) (group : GroupPlace) → not (is_collecting t group) ≡ false
    → group_seen (with_request last group) ≡ moves.with_request last (group_seen group)
more_seen t last Free h = absurd (cc (h))
more_seen t last (Collecting u n) h = more_by u n last
more_seen t last (Out u n) h = absurd (cc (h))
more_seen t last (Stale u n) h = absurd (cc (h))

faulted_seen : (s : Tables) (fault : Fault) (group : Option ℕ) → is_other_group (device_seen s) fault.pasid group ≡ false
    → device_seen (record s { groups = slice_set s.groups (index_for s group) (group_after s fault group) })
    ≡ faulted (device_seen s) fault group (index_for s group)
faulted_seen s fault None h =
    let i = index_for s None in
    λ k. record (device_seen s) {
      groups =
          (map-set group_seen s.groups i (group_of fault.pasid 1 fault.last)
          ∙ ap (slice_set (map group_seen s.groups) i) (begun_seen fault.pasid fault.last)) k;
    }
faulted_seen s fault (Some i) h =
    let own = group_at s.groups i in
    let more : group_seen (with_request fault.last own) ≡ moves.with_request fault.last (finding.group_at (device_seen s) i) =
    more_seen fault.pasid fault.last own (other_seen s fault.pasid (Some i) ∙ h) ∙ ap (moves.with_request fault.last) (sym (at_index s i)) in
    λ k. record (device_seen s) { groups = (map-set group_seen s.groups i (with_request fault.last own) ∙ ap (slice_set (map group_seen s.groups) i) more) k }

pub fault_is_seen : (s : Tables) (fault : Fault) → IsSound s → FaultIsSeen s fault
fault_is_seen s fault h =
    let page = beyond (2 ^ 36) fault.page in
    let started = may_send_seen s fault.pasid fault.group h in
    let few = outstanding_seen s.groups in
    let credit = credit_by (outstanding s.groups) (finding.outstanding (device_seen s).groups) few in
    let other = other_seen s fault.pasid fault.group in
    let lowest = lowest_place group_seen is_free free_seen s.groups in
    record {
      refusals =
          λ i.
          (page i, refusal.PageRange)
          ∷ (not (started i), refusal.NotStarted)
          ∷ (credit i, refusal.NoCredit)
          ∷ (other i, refusal.NoSuchGroup)
          ∷ (not s.enabled, refusal.PriDisabled)
          ∷ [];
      index = λ less. lowest
          ∙ place_there is_free s.groups
          (some_there (position is_free s.groups) (h.index (fewer (outstanding s.groups) (finding.outstanding (device_seen s).groups) few less)));
      after = faulted_seen s fault fault.group;
    }
  where
    fewer : (n m : ℕ) → n ≡ m → m < 32 → n < 32
    fewer n m h l = omega (arith, h, l)

-- the end of a PASID

asks_seen : (t : ℕ) (tag : RequestTag) → asks_under t tag ≡ finding.is_request_of t (tag_seen tag)
asks_seen t tags.Free = refl
asks_seen t (tags.Out u q) = refl
asks_seen t (tags.Doomed u q) = refl

runs_seen : (t : ℕ) (slot : UseSlot) → runs_under t slot ≡ finding.is_use_of t (slot_seen slot)
runs_seen t slots.Free = refl
runs_seen t (slots.Running u) = refl
runs_seen t slots.Dead = refl

busy_seen : (s : Tables) (t : ℕ) → is_busy s t ≡ is_busy_pasid (device_seen s) t
busy_seen s t =
    (λ i.
    seen_any group_seen (is_collecting t) (finding.has_unfinished_group t) (unfinished_seen t) s.groups i
    || (seen_any tag_seen (asks_under t) (finding.is_request_of t) (asks_seen t) s.tags i
    || seen_any slot_seen (runs_under t) (finding.is_use_of t) (runs_seen t) s.uses i))
    ∙ in_turn
    (list_any (finding.has_unfinished_group t) (map group_seen s.groups))
    (list_any (finding.is_request_of t) (map tag_seen s.tags))
    (list_any (finding.is_use_of t) (map slot_seen s.uses))
  where
    in_turn : (a b c : Bool) → (a || (b || c)) ≡ ((a || b) || c)
    in_turn true b c = refl
    in_turn false b c = refl

stale_by : (b : Bool) (u n : ℕ)
    → group_seen (if b then Stale u n else Out u n) ≡ Some (record { pasid = u; state = stale_if b GroupState.Awaiting; requests = n })
stale_by true u n = refl
stale_by false u n = refl

abbrev group_in : (u n : ℕ) → GroupState → Option GroupWire
group_in u n x = Some (record { pasid = u; state = x; requests = n })

as_it_was : (b : Bool) (u n : ℕ) (x : GroupState) → stale_if b x ≡ x → group_in u n x ≡ group_in u n (stale_if b x)
as_it_was b u n x h = ap (group_in u n) (sym h)

unfinished_stays : (b : Bool) → stale_if b GroupState.Collecting ≡ GroupState.Collecting
unfinished_stays true = refl
unfinished_stays false = refl

stale_stays : (b : Bool) → stale_if b GroupState.Stale ≡ GroupState.Stale
stale_stays true = refl
stale_stays false = refl

stale_seen : (t : ℕ) (group : GroupPlace) → group_seen (stale_of t group) ≡ moves.stale_of t (group_seen group)
stale_seen t Free = refl
stale_seen t (Collecting u n) = as_it_was (u == t) u n GroupState.Collecting (unfinished_stays (u == t))
stale_seen t (Out u n) = stale_by (u == t) u n
stale_seen t (Stale u n) = as_it_was (u == t) u n GroupState.Stale (stale_stays (u == t))

pub quit_is_seen : (s : Tables) (t : ℕ) → IsSound s → QuitIsSeen s t
quit_is_seen s t h =
    let ending = sym (ending_seen s t h) in
    let busy = busy_seen s t in
    let stale = seen_each group_seen (stale_of t) (moves.stale_of t) (stale_seen t) s.groups in
    record {
      refusals = λ i. (not (ending i), refusal.NotStopping) ∷ (busy i, refusal.Busy) ∷ [];
      after =
          with_state_seen (record s { groups = map (stale_of t) s.groups }) t Off
          ∙ (λ i. moves.with_pasid t DeviceState.Off (record (device_seen s) { groups = stale i }));
    }
