-- What a move leaves of one endpoint with its unit, keeper by keeper: the device, the unit, its page request queue and the
-- groups that are open. It is what `moved` leaves at the endpoint of the move.
use Rattle.std.specs.Prelude.{ℕ, suc, true, false, ◌||◌, not, Some, None, List, [], ◌∷◌, ◌++◌, map, filter, drop, slice_set}
use Rattle.sva_model.specs.State.PasidState.{Off, On, Ending}
use Rattle.sva_model.specs.StateChanges.{disables, sent_as}
use Rattle.sva_model.specs.Wire.{EndpointWire, DeviceWire, UnitWire, PageRequestWire, HostGroupWire}
use Rattle.sva_model.specs.Wire.UseWire.{RunningWire}
use Rattle.sva_model.specs.Wire.BusyWire.{Fresh}
use Rattle.sva_model.specs.Wire.Descriptor.{PasidDescriptor, WaitDescriptor}
use Rattle.sva_labels.specs.Finding.{is_at_page}
use Rattle.sva_labels.specs.Moves.{Move, with_descriptors, with_pasid, without_tag, kept, taking, ended, requested, stale_of, cleared, completed}
use Rattle.sva_labels.specs.Moves.{without_named, filed, is_of_job}

abbrev pub device_moved : DeviceWire → Move → DeviceWire
device_moved d (Move.Ask e t q tag) = record d { tags = slice_set d.tags tag (Some (record { pasid = t; page = q; is_doomed = false })) }
device_moved d (Move.Begin e slot x) = record d { slots = slice_set d.slots slot (Some (RunningWire x)) }
device_moved d (Move.End e slot) = ended slot d
device_moved d (Move.Evict e t q) = record d { cache = filter (λ x. not (is_at_page t q x)) d.cache }
device_moved d (Move.Group e t i q r x l) = record d { groups = slice_set d.groups i (Some (record { pasid = t; state = sent_as l; requests = 1 })) }
device_moved d (Move.Request e t i q r x l) = requested i l d
device_moved d (Move.Finish e vector count) = record d { taken = without_named vector d.taken }
device_moved d (Move.Quit e t) = with_pasid t Off (record d { groups = map (stale_of t) d.groups })
device_moved d (Move.StartArrives e n t) = with_pasid t On d
device_moved d (Move.StopArrives e n t) = with_pasid t Ending d
device_moved d (Move.ResetArrives e n) = cleared d
device_moved d (Move.Keep e n tag x) = without_tag tag (record d { cache = kept x d.cache })
device_moved d (Move.Forget e n tag) = without_tag tag d
device_moved d (Move.Take e n itag t extent) = taking itag t extent d
device_moved d (Move.Answered e n i code) = record d { groups = slice_set d.groups i None; is_disabled = d.is_disabled || disables code }
device_moved d _ = d

-- `next` is the number of the next cookie
abbrev pub unit_moved : (next : ℕ) → UnitWire → Move → UnitWire
unit_moved next unit (Move.Drain e b) = with_descriptors unit (WaitDescriptor next true ∷ []) next
unit_moved next unit (Move.Invalidate e b t) = with_descriptors unit (PasidDescriptor t ∷ WaitDescriptor next false ∷ []) next
unit_moved next unit (Move.Send e t pasid extent) = record unit { queue = drop 1 unit.queue; busy = slice_set unit.busy t (Some Fresh) }
unit_moved next unit (Move.Pass e cookie) = record unit { queue = drop 1 unit.queue; front = suc cookie }
unit_moved next unit (Move.Reset e) = record unit { is_open = false; queue = [] }
unit_moved next unit (Move.Count e n vector count) = record unit { busy = completed vector count unit.busy }
unit_moved next unit (Move.Reopen e n) = record unit { is_open = true; busy = map (λ tag. None) unit.busy; front = unit.waits_end }
unit_moved next unit _ = unit

abbrev pub page_queue_moved : List PageRequestWire → Move → List PageRequestWire
page_queue_moved queue (Move.File e b r) = drop 1 queue
page_queue_moved queue (Move.Reset e) = []
page_queue_moved queue (Move.Arrive e n r) = queue ++ r ∷ []
page_queue_moved queue _ = queue

abbrev pub host_groups_moved : List HostGroupWire → Move → List HostGroupWire
host_groups_moved groups (Move.File e b r) = filed b r groups
host_groups_moved groups (Move.Reset e) = []
host_groups_moved groups (Move.Respond job t code) = filter (λ g. not (is_of_job job g)) groups
host_groups_moved groups _ = groups

abbrev pub part_moved : (next : ℕ) → EndpointWire → Move → EndpointWire
part_moved next p m =
    record {
      device = device_moved p.device m;
      unit = unit_moved next p.unit m;
      page_queue = page_queue_moved p.page_queue m;
      host_groups = host_groups_moved p.host_groups m;
    }
