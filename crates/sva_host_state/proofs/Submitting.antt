-- The units get their descriptors by a plan, one after another.
use Rattle.std.proofs.Common.{◌≡◌, ◌≢◌, ◌⊎◌, inl, inr, refl, ap, sym, ◌∙◌, ℕ, ◌+◌, ◌<◌, ◌≤◌, Bool, true, false, arith}
use Rattle.std.specs.Prelude.{if◌then◌else◌, nat_lt, Ok, Option, Some, None, List, [], ◌∷◌, map, length, slice_set, slice_index_or}
use Rattle.std.proofs.lemmas.List.{length-map}
use Rattle.std.proofs.lemmas.Bool.Decides.{nat_tests}
use Rattle.sva_model.specs.Words.{tabulate, any_below, count_below}
use Rattle.sva_model.specs.Wire.{Wire, BindingWire, UnitWire}
use Rattle.sva_labels.specs.Finding.{submits, submits_by, is_before_invalidating, has_room, unit_of, part_of, bound_at, idle}
use Rattle.sva_labels.specs.Moves.{part_unmapped, cookie_at, pasid_or_0, descriptors_for, with_descriptors}
use Rattle.sva_labels.specs.Causes.{waits_needed}
use Rattle.sva_labels.proofs.Tests.{first_holds, second_holds_too}
use Rattle.sva_labels.proofs.Words.{ℕ_cases, any_below-false}
use Rattle.sva_labels.proofs.Counting.{count_strict}
use Rattle.sva_labels.proofs.Lists.{tabulate_first, tabulate_same, tabulate_length, tabulate_at, tabulate_set}
use Rattle.sva_iommu.specs.Seen as seen
use Rattle.sva_host_state.specs.declared.host_state.Port.{Port}
use Rattle.sva_host_state.specs.declared.host_state.HostState.TheInside.{Inside as HostState}
use Rattle.sva_host_state.specs.declared.unmapping.Plan.{Plan}
use Rattle.sva_host_state.specs.Inner.{part_seen, wire_of, IsHostState}
use Rattle.sva_host_state.specs.Steps.{PortFor}
use Rattle.sva_host_state.specs.Unmapping.{lacks_room, pasid_at, IsPlan, AreGiven, part_so_far, submitted_to, submitted}
use Rattle.sva_host_state.proofs.Planning.{first_at, first_cookie, next_cookie_there, next_cookie_off}
use Rattle.sva_host_state.proofs.Ports.{IsPort, port_found}
use Rattle.sva_host_state.proofs.Units.{with_unit_in, with_unit_seen}

-- What a unit needs that gets its descriptors.

pub room_there : (w : Wire) (n k e : ℕ) → any_below (length w.parts) (lacks_room w n k) ≡ false → e < length w.parts → submits w n e ≡ true
    → has_room (unit_of w e) k ≡ true
room_there w n k e room there asks =
    second_holds_too (submits w n e) (has_room (unit_of w e) k) asks (any_below-false (length w.parts) (lacks_room w n k) room e there)

pub given_there : (w : Wire) (n e : ℕ) → AreGiven w → e < length w.parts → (unit_of w e).waits_end ≤ cookie_at w n e
given_there w n e given there =
    let low : (unit_of w e).waits_end ≤ w.next_cookie = given e there in
    omega arith

pub cookie_low : (w : Wire) (n e limit : ℕ) → w.next_cookie + waits_needed w n ≤ limit → e < length w.parts → submits w n e ≡ true → cookie_at w n e < limit
cookie_low w n e limit most there asks =
    let less : count_below e (submits w n) < count_below (length w.parts) (submits w n) = count_strict e (length w.parts) (submits w n) there asks in
    omega arith

-- what the plan says of a unit that is there
pub planned_at : (w : Wire) (n d e : ℕ) (o : Option ℕ) (plan : Plan) → IsPlan w n d plan → e < length w.parts → e < 8
    → slice_index_or plan.pasids e o ≡ pasid_at w n e
planned_at w n d e o plan is there low = first_at (pasid_at w n) (length w.parts) e o plan.pasids is.pasids there low

-- a unit in reset gets none
pub opened_there : (w : Wire) (n e : ℕ) → submits w n e ≡ true → (unit_of w e).is_open ≡ true
opened_there w n e asks = go (bound_at w e n) asks
  where
    go : (o : Option BindingWire) → submits_by (unit_of w e) o ≡ true → (unit_of w e).is_open ≡ true
    go None is = absurd (cc (is))
    go (Some b) is = first_holds (unit_of w e).is_open (is_before_invalidating b.stage) is

pub asked_some : (w : Wire) (n e t : ℕ) → Some t ≡ pasid_at w n e → (submits w n e ≡ true) × (t ≡ pasid_or_0 (bound_at w e n))
asked_some w n e t is = go (submits w n e) is
  where
    go : (b : Bool) → Some t ≡ (if b then Some (pasid_or_0 (bound_at w e n)) else None) → (b ≡ true) × (t ≡ pasid_or_0 (bound_at w e n))
    go true is = let same : t ≡ pasid_or_0 (bound_at w e n) = cc in (refl, same)
    go false is = absurd (cc (is))

pub asked_none : (w : Wire) (n e : ℕ) → None ≡ pasid_at w n e → submits w n e ≡ false
asked_none w n e is = go (submits w n e) is
  where
    go : (b : Bool) → None ≡ (if b then Some (pasid_or_0 (bound_at w e n)) else None) → b ≡ false
    go false is = refl
    go true is = absurd (cc (is))

-- A table of what stands in a list is that list.

tabulate_list : {A : Type 0} (xs : List A) (d : A) → xs ≡ tabulate (length xs) (λ k. slice_index_or xs k d)
unfolding tabulate
tabulate_list [] d = refl
tabulate_list (x ∷ xs) d = ap (λ l. x ∷ l) (tabulate_list xs d) ∙ sym (tabulate_first (length xs) (λ k. slice_index_or (x ∷ xs) k d))

-- The parts as they get there.

less_so : (k n : ℕ) → k < n → nat_lt k n ≡ true
less_so k n l = grind (arith, nat_tests)

not_less : (k n : ℕ) → n ≤ k → nat_lt k n ≡ false
not_less k n l = grind (arith, nat_tests)

done_at : (w : Wire) (n q count order units e : ℕ) → e < units → part_so_far w n q count order units e ≡ part_unmapped w n q count order e
done_at w n q count order units e l = ap (λ (b : Bool). if b then part_unmapped w n q count order e else part_of w e) (less_so e units l)

left_at : (w : Wire) (n q count order units e : ℕ) → units ≤ e → part_so_far w n q count order units e ≡ part_of w e
left_at w n q count order units e l = ap (λ (b : Bool). if b then part_unmapped w n q count order e else part_of w e) (not_less e units l)

other_parts : (w : Wire) (n q count order e k : ℕ) → k ≢ e → part_so_far w n q count order (e + 1) k ≡ part_so_far w n q count order e k
other_parts w n q count order e k apart = ap (λ (b : Bool). if b then part_unmapped w n q count order k else part_of w k) (same k e apart)
  where
    same : (k e : ℕ) → k ≢ e → nat_lt k (e + 1) ≡ nat_lt k e
    same k e apart = grind (arith, nat_tests)

-- at first none has got any
pub none_yet : (w : Wire) (n q count order : ℕ) → w ≡ submitted_to w n q count order 0
none_yet w n q count order = λ i. record w { parts = parts i; next_cookie = first_cookie w n i }
  where
    parts : w.parts ≡ tabulate (length w.parts) (part_so_far w n q count order 0)
    parts =
        tabulate_list w.parts idle
        ∙ tabulate_same (length w.parts) (part_of w) (part_so_far w n q count order 0) (λ k l. sym (left_at w n q count order 0 k (omega arith)))

-- in the end all have
pub all_have : (w : Wire) (n q count order e : ℕ) → e ≡ length w.parts → submitted_to w n q count order e ≡ submitted w n q count order
all_have w n q count order e all =
    λ i. record w {
      parts =
          tabulate_same (length w.parts) (part_so_far w n q count order e) (part_unmapped w n q count order)
          (λ k l. done_at w n q count order e k (omega arith)) i;
      next_cookie = cookie_at w n (all i);
    }

-- as many endpoints are there
pub long_so_far : (host : HostState) (w : Wire) (n q count order e : ℕ) → wire_of host ≡ submitted_to w n q count order e
    → length host.ports.items ≡ length w.parts
long_so_far host w n q count order e is =
    sym (length-map host.ports.items part_seen) ∙ ap (λ (u : Wire). length u.parts) is ∙ tabulate_length (length w.parts) (part_so_far w n q count order e)

-- where it is found
pub port_for : (host : HostState) (w : Wire) (n q count order e : ℕ) → wire_of host ≡ submitted_to w n q count order e → e < length w.parts
    → PortFor (wire_of host) e (Ok e)
port_for host w n q count order e is there =
    let long = long_so_far host w n q count order e is in
    let seen : length (map part_seen host.ports.items) ≡ length host.ports.items = length-map host.ports.items part_seen in
    (refl, less_so e (length (map part_seen host.ports.items)) (omega arith))

-- the port of the next one
pub port_now : (host : HostState) (w : Wire) (n q count order e : ℕ) (port : Port) → IsHostState host
    → wire_of host ≡ submitted_to w n q count order e → e < length w.parts → port ≡ slice_index_or host.ports.items e port → IsPort host e port
port_now host w n q count order e port h is there same =
    port_found host (wire_of host) e e port h refl (port_for host w n q count order e is there) same

-- the next endpoint is as it was
pub part_now : (host : HostState) (w : Wire) (n q count order e : ℕ) (port : Port) → wire_of host ≡ submitted_to w n q count order e
    → e < length w.parts → IsPort host e port → part_seen port ≡ part_of w e
part_now host w n q count order e port is there at =
    sym at.part
    ∙ ap (λ (u : Wire). part_of u e) is
    ∙ tabulate_at (length w.parts) (part_so_far w n q count order e) e idle there
    ∙ left_at w n q count order e e (omega arith)

-- the host with other cookies to come
abbrev pub with_cookie : HostState → (cookie : ℕ) → HostState
with_cookie host cookie = record host { next_cookie = cookie }

-- its unit gets descriptors, with the next cookie
pub gets : (host : HostState) (w : Wire) (n q count order e t : ℕ) (port : Port) → wire_of host ≡ submitted_to w n q count order e
    → e < length w.parts → IsPort host e port → submits w n e ≡ true → t ≡ pasid_or_0 (bound_at w e n)
    → wire_of
    (with_cookie
    (with_unit_in host e port (seen.with_unit port.unit (with_descriptors port.unit.unit (descriptors_for t q count order host.next_cookie) host.next_cookie)))
    (host.next_cookie + 1))
    ≡ submitted_to w n q count order (e + 1)
gets host w n q count order e t port is there at asks bearer =
    (λ i. record (with_unit_seen host e port change at i) { next_cookie = host.next_cookie + 1 })
    ∙ (λ i. record (is i) {
      parts = slice_set (is i).parts e (record (part_of (is i) e) { unit = change (unit_of (is i) e) });
      next_cookie =
          (is i).next_cookie + 1;
    })
    ∙ (λ i. record w { parts = parts i; next_cookie = sym (next_cookie_there w n e asks) i })
  where
    change : UnitWire → UnitWire
    change u = with_descriptors u (descriptors_for t q count order host.next_cookie) host.next_cookie

    cookie : host.next_cookie ≡ cookie_at w n e
    cookie = ap (λ (u : Wire). u.next_cookie) is

    row : part_of (submitted_to w n q count order e) e ≡ part_of w e
    row = tabulate_at (length w.parts) (part_so_far w n q count order e) e idle there ∙ left_at w n q count order e e (omega arith)

    whole : record (part_of (submitted_to w n q count order e) e) { unit = change (unit_of (submitted_to w n q count order e) e) }
        ≡ part_so_far w n q count order (e + 1) e
    whole =
        (λ i. record (row i) { unit = with_descriptors (row i).unit (descriptors_for (bearer i) q count order (cookie i)) (cookie i) })
        ∙ sym (ap (λ (b : Bool). if b then record (part_of w e) {
          unit =
              with_descriptors (unit_of w e) (descriptors_for (pasid_or_0 (bound_at w e n)) q count order (cookie_at w n e)) (cookie_at w n e);
        }
        else part_of w e) asks)
        ∙ sym (done_at w n q count order (e + 1) e (omega arith))

    parts : slice_set (tabulate (length w.parts) (part_so_far w n q count order e)) e
        (record (part_of (submitted_to w n q count order e) e) { unit = change (unit_of (submitted_to w n q count order e) e) })
        ≡ tabulate (length w.parts) (part_so_far w n q count order (e + 1))
    parts =
        sym (tabulate_set (length w.parts) (part_so_far w n q count order e) (part_so_far w n q count order (e + 1)) e _ (sym whole)
        (other_parts w n q count order e))

-- or none
pub gets_none : (w : Wire) (n q count order e : ℕ) → submits w n e ≡ false → submitted_to w n q count order e ≡ submitted_to w n q count order (e + 1)
gets_none w n q count order e off = λ i. record w { parts = parts i; next_cookie = sym (next_cookie_off w n e off) i }
  where
    here : part_so_far w n q count order e e ≡ part_so_far w n q count order (e + 1) e
    here =
        left_at w n q count order e e (omega arith)
        ∙ sym (ap (λ (b : Bool). if b then record (part_of w e) {
          unit =
              with_descriptors (unit_of w e) (descriptors_for (pasid_or_0 (bound_at w e n)) q count order (cookie_at w n e)) (cookie_at w n e);
        }
        else part_of w e) off)
        ∙ sym (done_at w n q count order (e + 1) e (omega arith))

    go : (k : ℕ) → (k ≡ e) ⊎ (k ≢ e) → part_so_far w n q count order e k ≡ part_so_far w n q count order (e + 1) k
    go k (inl at) = ap (part_so_far w n q count order e) at ∙ here ∙ ap (part_so_far w n q count order (e + 1)) (sym at)
    go k (inr apart) = sym (other_parts w n q count order e k apart)

    parts : tabulate (length w.parts) (part_so_far w n q count order e) ≡ tabulate (length w.parts) (part_so_far w n q count order (e + 1))
    parts = tabulate_same (length w.parts) (part_so_far w n q count order e) (part_so_far w n q count order (e + 1)) (λ k l. go k (ℕ_cases k e))
