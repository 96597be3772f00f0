-- Moves that leave the table of jobs: what they do to a host is what they do to it with its table of jobs.
use Rattle.std.proofs.Common.{◌≡◌, refl, ap, sym, ◌∙◌, ℕ, suc, ◌+◌, ◌*◌, ◌^◌, ◌<◌, Bool, true, false}
use Rattle.std.specs.Prelude.{nat_lt, if◌then◌else◌, Some, None, List, [], ◌∷◌, ◌++◌, map, filter, drop, length, slice_set, ◌||◌, not}
use Rattle.sva_model.specs.Words.{tabulate, count_below}
use Rattle.sva_model.specs.StateChanges.{disables, scope_of, sent_as, count_field}
use Rattle.sva_model.specs.State.PasidState.{Off, On, Ending}
use Rattle.sva_model.specs.Message.Message.{InvalidateMessage, RequestMessage, InvalidatedMessage, PageRequestMessage, MarkerMessage, ResetDoneMessage}
use Rattle.sva_model.specs.Wire.{Wire, EndpointWire, DeviceWire, UnitWire, HostGroupWire}
use Rattle.sva_model.specs.Wire.StageWire.{DrainingWire, InvalidatingWire}
use Rattle.sva_model.specs.Wire.UseWire.{RunningWire}
use Rattle.sva_model.specs.Wire.BusyWire.{Fresh}
use Rattle.sva_model.specs.Wire.Descriptor.{PasidDescriptor, WaitDescriptor}
use Rattle.sva_labels.specs.Finding.{part_of, device_of, unit_of, pages_in, bound_at, submits, submits_by, is_at_page}
use Rattle.sva_labels.specs.Moves.{Move, moved, all_moved, with_part, with_device, with_unit, sent, sent_copies, delivered, with_stage, with_descriptors}
use Rattle.sva_labels.specs.Moves.{descriptors_for, part_unmapped, pasid_or_0, cookie_at, target_by, targets_of, settled, settled_cookie, with_pasid}
use Rattle.sva_labels.specs.Moves.{without_tag, kept, taking, ended, requested, stale_of, cleared, completed, without_named, cut_off_at, place_for, placed}
use Rattle.sva_labels.specs.Moves.{is_between, unmapped}
use Rattle.sva_labels.proofs.Lists.{tabulate_same}
use Rattle.sva_host.specs.Seen.{JobTableWire, parts_with, serving}
use Rattle.sva_host.proofs.Parts.{length_with, part_with, unit_with, LeavesGroups, changed_with, tabulated_with}

-- a move that leaves the open groups, the jobs and the hands
abbrev pub LeavesJobTable : Move → Type 0
LeavesJobTable (Move.File e b r) = ⊥
LeavesJobTable (Move.NewJob job) = ⊥
LeavesJobTable (Move.Reset e) = ⊥
LeavesJobTable Move.Hand = ⊥
LeavesJobTable (Move.Hold x job) = ⊥
LeavesJobTable (Move.LetGo x) = ⊥
LeavesJobTable (Move.Respond job t code) = ⊥
LeavesJobTable _ = Unit {0}

abbrev pub LeaveJobTable : List Move → Type 0
LeaveJobTable [] = Unit {0}
LeaveJobTable (m ∷ moves) = LeavesJobTable m × LeaveJobTable moves

-- One endpoint.

pub part_changed : (job_table : JobTableWire) (w : Wire) (e : ℕ) (change : EndpointWire → EndpointWire) → LeavesGroups change
    → with_part (serving job_table w) e (change (part_of (serving job_table w) e)) ≡ serving job_table (with_part w e (change (part_of w e)))
part_changed job_table w e change leaves =
    λ i. record w { parts = changed_with job_table.groups w.parts e change leaves i; jobs = job_table.jobs; hands = job_table.hands }

device_changed : (job_table : JobTableWire) (w : Wire) (e : ℕ) (change : DeviceWire → DeviceWire)
    → with_device (serving job_table w) e (change (device_of (serving job_table w) e)) ≡ serving job_table (with_device w e (change (device_of w e)))
device_changed job_table w e change =
    part_changed job_table w e (λ (p : EndpointWire). record p { device = change p.device }) (λ p gs. refl)

unit_changed : (job_table : JobTableWire) (w : Wire) (e : ℕ) (change : UnitWire → UnitWire)
    → with_unit (serving job_table w) e (change (unit_of (serving job_table w) e)) ≡ serving job_table (with_unit w e (change (unit_of w e)))
unit_changed job_table w e change =
    part_changed job_table w e (λ (p : EndpointWire). record p { unit = change p.unit }) (λ p gs. refl)

-- An unmapping changes the units of all endpoints.

given_with : (job_table : JobTableWire) (w : Wire) (n e : ℕ)
    → cookie_at (serving job_table w) n e ≡ cookie_at w n e
given_with job_table w n e = λ i. w.next_cookie + count_below e (λ k. submits_by (unit_with job_table.groups w.parts k i) (bound_at w k n))

pub needed_with : (job_table : JobTableWire) (w : Wire) (n : ℕ)
    → count_below (length (serving job_table w).parts) (submits (serving job_table w) n) ≡ count_below (length w.parts) (submits w n)
needed_with job_table w n = λ i. count_below (length_with job_table.groups w.parts i)
    (λ e. submits_by (unit_with job_table.groups w.parts e i) (bound_at w e n))

pub targets_with : (job_table : JobTableWire) (w : Wire) (n : ℕ)
    → targets_of (serving job_table w) n ≡ targets_of w n
targets_with job_table w n =
    λ i. tabulate 8
    (λ e. if nat_lt e (length_with job_table.groups w.parts i) then target_by (unit_with job_table.groups w.parts e i) (given_with job_table w n e i)
    (bound_at w e n) else None)

if_leaves : (b : Bool) (p : EndpointWire) (gs : List HostGroupWire) (unit : UnitWire)
    → (if b then record (record p { host_groups = gs }) { unit = unit } else record p { host_groups = gs })
    ≡ record (if b then record p { unit = unit } else p) { host_groups = gs }
if_leaves true p gs unit = refl
if_leaves false p gs unit = refl

unmapped_at : (job_table : JobTableWire) (w : Wire) (n q count order e : ℕ) → e < length w.parts
    → part_unmapped (serving job_table w) n q count order e ≡ record (part_unmapped w n q count order e) { host_groups = job_table.groups e }
unmapped_at job_table w n q count order e there =
    (λ i. if submits_by (unit_with job_table.groups w.parts e i) (bound_at w e n)
    then record (part_with job_table.groups w.parts e there i) {
      unit =
          with_descriptors (unit_with job_table.groups w.parts e i)
          (descriptors_for (pasid_or_0 (bound_at w e n)) q count order (given_with job_table w n e i))
          (given_with job_table w n e i);
    }
    else part_with job_table.groups w.parts e there i)
    ∙ if_leaves (submits w n e) (part_of w e) (job_table.groups e)
    (with_descriptors (unit_of w e) (descriptors_for (pasid_or_0 (bound_at w e n)) q count order (cookie_at w n e)) (cookie_at w n e))

units_unmapped : (job_table : JobTableWire) (w : Wire) (n q count order : ℕ)
    → tabulate (length (serving job_table w).parts) (part_unmapped (serving job_table w) n q count order)
    ≡ parts_with job_table.groups (tabulate (length w.parts) (part_unmapped w n q count order))
units_unmapped job_table w n q count order =
    (λ i. tabulate (length_with job_table.groups w.parts i) (part_unmapped (serving job_table w) n q count order))
    ∙ tabulate_same (length w.parts) (part_unmapped (serving job_table w) n q count order) (λ e. record (part_unmapped w n q count order e)
    { host_groups = job_table.groups e })
    (unmapped_at job_table w n q count order)
    ∙ sym (tabulated_with job_table.groups (length w.parts) (part_unmapped w n q count order))

unmapped_with : (job_table : JobTableWire) (w : Wire) (n q count order : ℕ)
    → unmapped (serving job_table w) n q count order ≡ serving job_table (unmapped w n q count order)
unmapped_with job_table w n q count order =
    λ i. record (unmapped w n q count order) {
      places =
          placed (place_for (targets_with job_table w n i)) (filter (is_between q (count * 2 ^ order)) (pages_in w n)) w.places;
      parts = units_unmapped job_table w n q count order i;
      jobs = job_table.jobs;
      hands = job_table.hands;
      next_cookie = w.next_cookie + needed_with job_table w n i;
    }

-- Each move.

pub moved_with : (job_table : JobTableWire) (w : Wire) (m : Move) → LeavesJobTable m
    → moved (serving job_table w) m ≡ serving job_table (moved w m)
moved_with job_table w Move.NewSpace leaves = refl
moved_with job_table w (Move.DropSpace n) leaves = refl
moved_with job_table w (Move.Map n q f x) leaves = refl
moved_with job_table w (Move.Unmap n q count order) leaves = unmapped_with job_table w n q count order
moved_with job_table w Move.NewBinding leaves = refl
moved_with job_table w (Move.Bind e n b t) leaves = refl
moved_with job_table w (Move.Stop e b t) leaves = refl
moved_with job_table w (Move.Drain e b) leaves =
    let change : UnitWire → UnitWire = λ unit. with_descriptors unit (WaitDescriptor w.next_cookie true ∷ []) w.next_cookie in
    λ i. record (unit_changed job_table w e change i) {
      bindings = with_stage b (DrainingWire w.next_cookie) w.bindings;
      next_cookie = w.next_cookie + 1;
    }
moved_with job_table w (Move.Invalidate e b t) leaves =
    let change : UnitWire → UnitWire = λ unit. with_descriptors unit (PasidDescriptor t ∷ WaitDescriptor w.next_cookie false ∷ []) w.next_cookie in
    λ i. record (unit_changed job_table w e change i) {
      bindings = with_stage b (InvalidatingWire w.next_cookie) w.bindings;
      next_cookie = w.next_cookie + 1;
    }
moved_with job_table w (Move.Quieten b) leaves = refl
moved_with job_table w (Move.Release b) leaves = refl
moved_with job_table w (Move.Send e t pasid extent) leaves =
    ap (sent e (InvalidateMessage t pasid (scope_of extent)))
    (unit_changed job_table w e (λ (unit : UnitWire). record unit { queue = drop 1 unit.queue; busy = slice_set unit.busy t (Some Fresh) }))
moved_with job_table w (Move.Pass e cookie) leaves =
    let change : UnitWire → UnitWire = λ unit. record unit { queue = drop 1 unit.queue; front = suc cookie } in
    λ i. record (unit_changed job_table w e change i) { places = settled e (settled_cookie cookie) w.places }
moved_with job_table w (Move.File e b r) leaves = absurd leaves
moved_with job_table w (Move.NewJob job) leaves = absurd leaves
moved_with job_table w (Move.Reset e) leaves = absurd leaves
moved_with job_table w Move.Hand leaves = absurd leaves
moved_with job_table w (Move.Hold x job) leaves = absurd leaves
moved_with job_table w (Move.LetGo x) leaves = absurd leaves
moved_with job_table w (Move.Respond job t code) leaves = absurd leaves
moved_with job_table w Move.Discard leaves = refl
moved_with job_table w (Move.Ask e t q tag) leaves =
    ap (sent e (RequestMessage tag t q))
    (device_changed job_table w e (λ (d : DeviceWire). record d { tags = slice_set d.tags tag (Some (record { pasid = t; page = q; is_doomed = false })) }))
moved_with job_table w (Move.Begin e slot x) leaves =
    device_changed job_table w e (λ (d : DeviceWire). record d { slots = slice_set d.slots slot (Some (RunningWire x)) })
moved_with job_table w (Move.End e slot) leaves = device_changed job_table w e (ended slot)
moved_with job_table w (Move.Evict e t q) leaves =
    device_changed job_table w e (λ (d : DeviceWire). record d { cache = filter (λ x. not (is_at_page t q x)) d.cache })
moved_with job_table w (Move.Group e t n q r x l) leaves =
    ap (sent e (PageRequestMessage t n q r x l))
    (device_changed job_table w e
    (λ (d : DeviceWire). record d { groups = slice_set d.groups n (Some (record { pasid = t; state = sent_as l; requests = 1 })) }))
moved_with job_table w (Move.Request e t n q r x l) leaves =
    ap (sent e (PageRequestMessage t n q r x l)) (device_changed job_table w e (requested n l))
moved_with job_table w (Move.Finish e vector count) leaves =
    ap (sent_copies count e (InvalidatedMessage vector (count_field count)))
    (device_changed job_table w e (λ (d : DeviceWire). record d { taken = without_named vector d.taken }))
moved_with job_table w (Move.Quit e t) leaves =
    ap (sent e (MarkerMessage t))
    (device_changed job_table w e (λ (d : DeviceWire). with_pasid t Off (record d { groups = map (stale_of t) d.groups })))
moved_with job_table w (Move.StartArrives e n t) leaves = ap (delivered n) (device_changed job_table w e (with_pasid t On))
moved_with job_table w (Move.StopArrives e n t) leaves = ap (delivered n) (device_changed job_table w e (with_pasid t Ending))
moved_with job_table w (Move.ResetArrives e n) leaves =
    ap (λ (v : Wire). sent e ResetDoneMessage (delivered n v)) (device_changed job_table w e cleared)
moved_with job_table w (Move.Keep e n tag x) leaves =
    ap (delivered n) (device_changed job_table w e (λ (d : DeviceWire). without_tag tag (record d { cache = kept x d.cache })))
moved_with job_table w (Move.Forget e n tag) leaves = ap (delivered n) (device_changed job_table w e (without_tag tag))
moved_with job_table w (Move.Take e n itag t extent) leaves = ap (delivered n) (device_changed job_table w e (taking itag t extent))
moved_with job_table w (Move.Answered e n k code) leaves =
    ap (delivered n)
    (device_changed job_table w e (λ (d : DeviceWire). record d { groups = slice_set d.groups k None; is_disabled = d.is_disabled || disables code }))
moved_with job_table w (Move.Complete e n answer) leaves = refl
moved_with job_table w (Move.Count e n vector count) leaves =
    ap (delivered n) (unit_changed job_table w e (λ (unit : UnitWire). record unit { busy = completed vector count unit.busy }))
moved_with job_table w (Move.Arrive e n r) leaves =
    ap (delivered n) (part_changed job_table w e (λ (p : EndpointWire). record p { page_queue = p.page_queue ++ r ∷ [] }) (λ p gs. refl))
moved_with job_table w (Move.Mark e n b) leaves = refl
moved_with job_table w (Move.Ignore n) leaves = refl
moved_with job_table w (Move.Reopen e n) leaves =
    let change : UnitWire → UnitWire = λ unit. record unit { is_open = true; busy = map (λ tag. None) unit.busy; front = unit.waits_end } in
    λ i. delivered n
    (record (unit_changed job_table w e change i) {
      bindings = cut_off_at e w.bindings;
      places = settled e (λ target. None) w.places;
    })

pub all_moved_with : (job_table : JobTableWire) (w : Wire) (moves : List Move) → LeaveJobTable moves
    → all_moved (serving job_table w) moves ≡ serving job_table (all_moved w moves)
all_moved_with job_table w [] leave = refl
all_moved_with job_table w (m ∷ moves) leave =
    ap (λ (v : Wire). all_moved v moves) (moved_with job_table w m leave.0) ∙ all_moved_with job_table (moved w m) moves leave.1
