-- How the tables of an endpoint are seen by the definitions by labels: place by place. PASID 0 isn't one of the 32.
use Rattle.std.specs.Prelude.{true, false, not, Option, Some, None, option_map, List, map, drop}
use Rattle.std.specs.FinMap.{entries}
use Rattle.sva_model.specs.State.{GroupState, PasidState as DeviceState}
use Rattle.sva_model.specs.Wire.{DeviceWire, RequestWire, TranslationWire, UseWire, TakenWire, GroupWire}
use Rattle.sva_model.specs.Wire.UseWire.{RunningWire, DeadWire}
use Rattle.sva_msg.specs.Seen.{extent_seen}
use Rattle.sva_endpoint.specs.declared.cached.Translation.{Translation}
use Rattle.sva_endpoint.specs.Cache.{Key, Translations}
use Rattle.sva_endpoint.specs.declared.pasid_states.PasidState.{PasidState}
use Rattle.sva_endpoint.specs.declared.pasid_states.PasidState.TheVariants.{Off, On, Stopping}
use Rattle.sva_endpoint.specs.declared.request_tags.RequestTag.{RequestTag}
use Rattle.sva_endpoint.specs.declared.request_tags.RequestTag.TheVariants.{Free as NoRequest, Out, Doomed}
use Rattle.sva_endpoint.specs.declared.use_slots.UseSlot.{UseSlot}
use Rattle.sva_endpoint.specs.declared.use_slots.UseSlot.TheVariants.{Free as NoUse, Running, Dead}
use Rattle.sva_endpoint.specs.declared.taken_table.Taken.{Taken}
use Rattle.sva_endpoint.specs.declared.groups.GroupPlace.{GroupPlace}
use Rattle.sva_endpoint.specs.declared.groups.GroupPlace.TheVariants.{Free as NoGroup, Collecting, Out as GroupOut, Stale}
use Rattle.sva_endpoint.specs.Tables.{Tables}

-- the state of a PASID at its endpoint (PCI Express Base 5.0, section 6.20); one that is told to stop is Ending in the definitions
abbrev pub pasid_seen : PasidState → DeviceState
pasid_seen Off = DeviceState.Off
pasid_seen On = DeviceState.On
pasid_seen Stopping = DeviceState.Ending

-- the translation request that bears a tag (section 10.2.2), and whether it is doomed; none where the tag is free
abbrev pub tag_seen : RequestTag → Option RequestWire
tag_seen NoRequest = None
tag_seen (Out pasid page) = Some (record { pasid = pasid; page = page; is_doomed = false })
tag_seen (Doomed pasid page) = Some (record { pasid = pasid; page = page; is_doomed = true })

-- a cached translation (section 10.2.3), with the PASID and the page by which it is found
abbrev pub translation_seen : Key × Translation → TranslationWire
translation_seen entry = record { pasid = entry.0.0; page = entry.0.1; frame = entry.1.frame; write = entry.1.write }

-- what is cached, in rising order of PASID and page
abbrev pub cache_seen : Translations → List TranslationWire
cache_seen cache = map translation_seen (entries cache)

-- the use that has a slot (section 10.2.1); one that a reset ended names no translation any more
abbrev pub slot_seen : UseSlot → Option UseWire
slot_seen NoUse = None
slot_seen (Running used) = Some (RunningWire (record { pasid = used.pasid; page = used.page; frame = used.frame; write = used.write }))
slot_seen Dead = Some DeadWire

-- an invalidation in the endpoint's hands (section 10.3), with the slots of the uses for which it waits
abbrev pub taken_seen : Taken → TakenWire
taken_seen taken = record { pasid = taken.invalidation.pasid; extent = extent_seen taken.invalidation.extent; slots = taken.noted }

-- the group of page requests that bears an index (section 10.4.1), with how many were sent of it; none where the index is free
abbrev pub group_seen : GroupPlace → Option GroupWire
group_seen NoGroup = None
group_seen (Collecting pasid requests) = Some (record { pasid = pasid; state = GroupState.Collecting; requests = requests })
group_seen (GroupOut pasid requests) = Some (record { pasid = pasid; state = GroupState.Awaiting; requests = requests })
group_seen (Stale pasid requests) = Some (record { pasid = pasid; state = GroupState.Stale; requests = requests })

-- the device of an endpoint, table by table; its PASIDs begin at 1
abbrev pub device_seen : Tables → DeviceWire
device_seen tables =
    record {
      pasids = map pasid_seen (drop 1 tables.pasids);
      tags = map tag_seen tables.tags;
      cache = cache_seen tables.cache;
      slots = map slot_seen tables.uses;
      taken = map (option_map taken_seen) tables.taken;
      groups = map group_seen tables.groups;
      is_disabled = not tables.enabled;
    }
