-- A binding that was unbound goes on.
use Rattle.std.proofs.Common.{◌≡◌, refl, ap, sym, ◌∙◌, subst, ℕ, suc, ◌+◌, Bool, true, arith}
use Rattle.std.specs.Prelude.{◌==◌, ◌||◌, not, Option, Some, None, List, [], ◌∷◌, length}
use Rattle.std.specs.List.{sum_by, count_by}
use Rattle.std.proofs.lemmas.List.Sums.{sum_by-cons}
use Rattle.sva_step.specs.declared.refusals.Refusal.TheVariants as refusal
use Rattle.sva_step.specs.declared.steps.Step.TheVariants as step
use Rattle.sva_model.specs.Refusals.{Cause}
use Rattle.sva_model.specs.Steps.{Reply}
use Rattle.sva_model.specs.Wire.{Wire, EndpointWire, BindingWire, StageWire, HostGroupWire, FlightWire}
use Rattle.sva_model.specs.Wire.StageWire.{LiveWire, StoppingWire, DrainingWire, InvalidatingWire, QuietWire, LostWire}
use Rattle.sva_labels.specs.Finding.{part_of, binding_of, is_wait_done, has_room, has_open_group}
use Rattle.sva_labels.specs.Causes as causes
use Rattle.sva_labels.specs.Causes.{numbers_spent}
use Rattle.sva_labels.specs.Host.{Decision, checked, decide_of}
use Rattle.sva_labels.specs.Outcomes as outcomes
use Rattle.sva_labels.specs.Outcomes.{of_binding, result_of}
use Rattle.sva_labels.specs.Sound.{IsSound}
use Rattle.sva_labels.specs.Waiting.{is_page_request, waiting}
use Rattle.sva_host_state.specs.Advancing.{advance_by, advance_causes, decide_advance, AdvancesBy}
use Rattle.sva_host_state.specs.Steps.{Does, ByLabels}
use Rattle.sva_host_state.proofs.Bound.{is_found, number_is}
use Rattle.sva_prq.specs.Groups.{is_open}
use Rattle.sva_host.specs.Seen.{JobTableWire, job_table_seen, parts_with, serving}
use Rattle.sva_host.specs.Inner.{wire_of, IsHost}
use Rattle.sva_host.specs.declared.host.Host.TheInside.{Inside}
use Rattle.sva_host.proofs.Parts.{unit_with}
use Rattle.sva_host.proofs.Changes.{LeaveJobTable}
use Rattle.sva_host.proofs.Decisions.{resetting_with, checked_leaves}
use Rattle.sva_host.proofs.Housed.{open_at, housed_still}
use Rattle.sva_host.proofs.Hosting.{does_with, does_apart, waits_counted}

-- A group of a binding is open where the table of jobs says so.

open_is : (host : Inside) (n : ℕ) (b : BindingWire) → IsHost host → IsSound (wire_of host) → binding_of host.state n ≡ Some b
    → has_open_group (part_of (wire_of host) b.endpoint) b.binding ≡ is_open n host.job_table.groups
open_is host n b h sound is =
    let at = is_found (λ (x : BindingWire). x.binding == n) host.state.bindings b is in
    let number = number_is host.state n b is in
    sym
    (ap (λ (k : ℕ). is_open k host.job_table.groups) (sym number)
    ∙ open_at host.job_table host.state host.workers at.place b h.housed sound at.stands)

-- So both decide the same.

same_by : (job_table : JobTableWire) (w : Wire) (g : Bool) (b : BindingWire) (s : StageWire)
    → has_open_group (part_of (serving job_table w) b.endpoint) b.binding ≡ g
    → causes.advance_by (serving job_table w) b s ≡ advance_by w g b s
same_by job_table w g b LiveWire groups = λ i. resetting_with job_table w b.endpoint i ∷ (true, refusal.NotYet) ∷ []
same_by job_table w g b (StoppingWire marked) groups =
    λ i. resetting_with job_table w b.endpoint i
    ∷ (not marked, refusal.NotYet)
    ∷ (not (has_room (unit_with job_table.groups w.parts b.endpoint i) 1), refusal.QueueFull)
    ∷ numbers_spent w.next_cookie 1
    ∷ []
same_by job_table w g b (DrainingWire cookie) groups =
    λ i. resetting_with job_table w b.endpoint i
    ∷ (not (is_wait_done (unit_with job_table.groups w.parts b.endpoint i) cookie) || groups i, refusal.NotYet)
    ∷ (not (has_room (unit_with job_table.groups w.parts b.endpoint i) 2), refusal.QueueFull)
    ∷ numbers_spent w.next_cookie 1
    ∷ []
same_by job_table w g b (InvalidatingWire cookie) groups =
    λ i. resetting_with job_table w b.endpoint i ∷ (not (is_wait_done (unit_with job_table.groups w.parts b.endpoint i) cookie), refusal.NotYet) ∷ []
same_by job_table w g b QuietWire groups = refl
same_by job_table w g b LostWire groups = λ i. resetting_with job_table w b.endpoint i ∷ (true, refusal.NotYet) ∷ []

decide_same : (host : Inside) (n : ℕ) → IsHost host → IsSound (wire_of host)
    → decide_of (wire_of host) (step.Advance n) ≡ decide_advance host.state (is_open n host.job_table.groups) n
decide_same host n h sound = go (binding_of host.state n) refl
  where
    go : (o : Option BindingWire) → binding_of host.state n ≡ o
        → checked (causes.advance_causes (wire_of host) o) (of_binding (λ (b : BindingWire). outcomes.advance_by b b.stage) o)
        ≡ checked (advance_causes host.state (is_open n host.job_table.groups) o) (of_binding (λ (b : BindingWire). outcomes.advance_by b b.stage) o)
    go None found = refl
    go (Some b) found =
        ap (λ (cs : List Cause). checked cs (outcomes.advance_by b b.stage))
        (same_by (job_table_seen host.workers host.job_table) host.state (is_open n host.job_table.groups) b b.stage (open_is host n b h sound found))

result_leaves : (o : Option BindingWire) → LeaveJobTable (of_binding (λ (b : BindingWire). outcomes.advance_by b b.stage) o).moves
result_leaves None = tt
result_leaves (Some b) = go b.stage
  where
    go : (s : StageWire) → LeaveJobTable (outcomes.advance_by b s).moves
    go LiveWire = (tt, tt)
    go (StoppingWire marked) = (tt, tt)
    go (DrainingWire cookie) = (tt, tt)
    go (InvalidatingWire cookie) = (tt, tt)
    go QuietWire = (tt, tt)
    go LostWire = (tt, tt)

leaves : (w : Wire) (g : Bool) (n : ℕ) → LeaveJobTable (decide_advance w g n).moves
leaves w g n = checked_leaves (advance_causes w g (binding_of w n)) (result_of w (step.Advance n)) (result_leaves (binding_of w n))

pub advanced : (host : Inside) (v : Wire) (n : ℕ) (r : Reply) (after : Wire) → wire_of host ≡ v → IsHost host → IsSound v
    → AdvancesBy host.state (is_open n host.job_table.groups) n r after → ByLabels v (step.Advance n) r (wire_of (record host { state = after }))
advanced host v n r after view h sound is =
    subst (λ (u : Wire). ByLabels u (step.Advance n) r (wire_of (record host { state = after }))) view
    (subst (λ (d : Decision). Does d (wire_of host) r (wire_of (record host { state = after })))
    (sym (decide_same host n h (subst IsSound (sym view) sound)))
    (does_with (job_table_seen host.workers host.job_table) (decide_advance host.state (is_open n host.job_table.groups) n) host.state after r
    (leaves host.state (is_open n host.job_table.groups) n) is))

-- The page requests that wait are the host's own.

pub queued_with : (groups : ℕ → List HostGroupWire) (parts : List EndpointWire)
    → sum_by (λ (part : EndpointWire). length part.page_queue) (parts_with groups parts) ≡ sum_by (λ (part : EndpointWire). length part.page_queue) parts
queued_with groups [] = refl
queued_with groups (p ∷ parts) =
    let queued = λ (part : EndpointWire). length part.page_queue in
    sum_by-cons queued (record p { host_groups = groups 0 }) (parts_with (λ e. groups (suc e)) parts)
    ∙ ap (λ (k : ℕ). length p.page_queue + k) (queued_with (λ e. groups (suc e)) parts)
    ∙ sym (sum_by-cons queued p parts)

waiting_with : (job_table : JobTableWire) (w : Wire) → waiting (serving job_table w) ≡ waiting w
waiting_with job_table w = ap (λ (k : ℕ). count_by (λ (flight : FlightWire). is_page_request flight.message) w.in_flight
    + k) (queued_with job_table.groups w.parts)

pub advance_still : (host : Inside) (v : Wire) (n : ℕ) (r : Reply) (after : Wire) → wire_of host ≡ v → IsHost host → IsSound v
    → AdvancesBy host.state (is_open n host.job_table.groups) n r after
    → IsHost (record host { state = after })
advance_still host v n r after view h sound is =
    let job_table = job_table_seen host.workers host.job_table in
    let g = is_open n host.job_table.groups in
    let counted = waits_counted (step.Advance n) r (wire_of host) (wire_of (record host { state = after }))
    (advanced host (wire_of host) n r after refl h (subst IsSound (sym view) sound) is) in
    let before = waiting_with job_table host.state in
    let now = waiting_with job_table after in
    record {
      apart = does_apart _ (decide_advance host.state g n) host.state after r (leaves host.state g n) h.apart is;
      few = h.few;
      sound = h.sound;
      serials = omega (arith, h.serials, counted, before, now);
      housed = housed_still (decide_advance host.state g n) host.state after r host.job_table h.housed is;
    }
