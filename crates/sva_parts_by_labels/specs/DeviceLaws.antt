-- What an endpoint refuses, gives out and keeps is what the definitions by labels say of its device. `IsSound` holds of an
-- endpoint after every list of permitted calls.
use Rattle.std.specs.Prelude.{◌≡◌, ℕ, ◌<◌, ◌^◌, Bool, true, false, ◌||◌, not, if◌then◌else◌, is_none, Option, Some, None, map}
use Rattle.std.specs.Prelude.{filter, slice_set}
use Rattle.sva_step.specs.declared.answers.Answer.{Answer}
use Rattle.sva_step.specs.declared.answers.Answer.TheVariants as answer
use Rattle.sva_step.specs.Limits
use Rattle.sva_model.specs.StateChanges.{sent_as}
use Rattle.sva_model.specs.State.{PasidState as DeviceState}
use Rattle.sva_model.specs.Wire.{DeviceWire, RequestWire, TranslationWire}
use Rattle.sva_model.specs.Wire.UseWire.{RunningWire}
use Rattle.sva_labels.specs.Finding.{lowest_label, cached, is_at_page, use_at, tag_at, group_at, outstanding}
use Rattle.sva_labels.specs.Causes.{is_other_group, device_causes_of_ask, device_causes_of_use, device_causes_of_end}
use Rattle.sva_labels.specs.Causes.{device_causes_of_evict, device_causes_of_fault}
use Rattle.sva_labels.specs.Causes.{device_causes_of_finish, device_causes_of_quit}
use Rattle.sva_labels.specs.Moves.{with_pasid, without_tag, kept, taking, ended, requested, stale_of, cleared, without_named}
use Rattle.sva_labels.specs.Outcomes.{end_answer, is_full, response_said}
use Rattle.sva_msg.specs.declared.messages.Code.{Code}
use Rattle.sva_msg.specs.declared.messages.Kind.TheVariants.{Start, Stop, Reset, Completion, Response}
use Rattle.sva_endpoint.specs.declared.coverage.Invalidation.{Invalidation}
use Rattle.sva_endpoint.specs.UseSlots.{slot_at}
use Rattle.sva_endpoint.specs.declared.permitted.Fault.{Fault}
use Rattle.sva_endpoint.specs.Tables.{Tables}
use Rattle.sva_endpoint.specs.Steps.{refusals_of_ask, lowest_tag, after_ask, refusals_of_use, lowest_slot, translation_at, after_begin_use}
use Rattle.sva_endpoint.specs.Steps.{refusals_of_end, end_of, after_end_use, refusals_of_evict, after_evict, refusals_of_fault, index_for, after_fault}
use Rattle.sva_endpoint.specs.Steps.{refusals_of_finish, after_finish, refusals_of_quit, after_quit}
use Rattle.sva_endpoint.specs.Deliveries.{after_receive, answer_to, after_invalidate, is_failure}
use Rattle.sva_endpoint.specs.Laws.{IsSound}
use Rattle.sva_parts_by_labels.specs.Device.{device_seen}
use Rattle.sva_msg.specs.Seen.{extent_seen}

-- Translation requests.

-- a translation request (PCI Express Base 5.0, section 10.2.2): why it is refused, which tag it is given, and that it is out under it
pub record RequestIsSeen (tables : Tables) (pasid page : ℕ) : Type 0 where
  pub refusals : refusals_of_ask tables pasid page ≡ device_causes_of_ask (device_seen tables) pasid page
  pub tag : is_none (lowest_label (device_seen tables).tags) ≡ false → lowest_label (device_seen tables).tags ≡ Some (lowest_tag tables)
  pub after :
      device_seen (after_ask tables pasid page)
      ≡ record (device_seen tables) {
        tags = slice_set (device_seen tables).tags (lowest_tag tables) (Some (record { pasid = pasid; page = page; is_doomed = false }));
      }

-- at a sound endpoint each translation request is so
abbrev pub RequestsAreSeen : Type 0
RequestsAreSeen = (tables : Tables) (pasid page : ℕ) → IsSound tables → RequestIsSeen tables pasid page

-- Uses of cached translations, and their end.

-- a cached translation, by what the endpoint finds
abbrev pub found_at : Tables → (pasid page : ℕ) → TranslationWire
found_at tables pasid page =
    record { pasid = pasid; page = page; frame = (translation_at tables pasid page).frame; write = (translation_at tables pasid page).write }

-- a use that begins (section 10.2.1): why it is refused, which slot it is given, and by which translation it runs there
pub record UseIsSeen (tables : Tables) (pasid page : ℕ) (write : Bool) : Type 0 where
  pub refusals : refusals_of_use tables pasid page write ≡ device_causes_of_use (device_seen tables) pasid page write
  pub slot : is_none (lowest_label (device_seen tables).slots) ≡ false → lowest_label (device_seen tables).slots ≡ Some (lowest_slot tables)
  pub found : is_none (cached (device_seen tables) pasid page) ≡ false → cached (device_seen tables) pasid page ≡ Some (found_at tables pasid page)
  pub after :
      device_seen (after_begin_use tables pasid page)
      ≡ record (device_seen tables) { slots = slice_set (device_seen tables).slots (lowest_slot tables) (Some (RunningWire (found_at tables pasid page))) }

-- the end of a use: why it is refused, whether it was running or dead, and that no invalidation waits for its slot any more
pub record EndIsSeen (tables : Tables) (slot : ℕ) : Type 0 where
  pub refusals : refusals_of_end tables slot ≡ device_causes_of_end (device_seen tables) slot
  pub said : is_none (use_at (device_seen tables) slot) ≡ false → end_of (slot_at tables.uses slot) ≡ end_answer (use_at (device_seen tables) slot)
  pub after : device_seen (after_end_use tables slot) ≡ ended slot (device_seen tables)

-- an evict: why it is refused, and that no translation of the page is cached any more
pub record EvictIsSeen (tables : Tables) (pasid page : ℕ) : Type 0 where
  pub refusals : refusals_of_evict tables pasid page ≡ device_causes_of_evict (device_seen tables) pasid page
  pub after :
      device_seen (after_evict tables pasid page)
      ≡ record (device_seen tables) { cache = filter (λ translation. not (is_at_page pasid page translation)) (device_seen tables).cache }

-- at a sound endpoint uses begin and end, and cached translations are evicted, so
pub record UsesAreSeen : Type 0 where
  pub begun : (tables : Tables) (pasid page : ℕ) (write : Bool) → IsSound tables → UseIsSeen tables pasid page write
  pub ended : (tables : Tables) (slot : ℕ) → IsSound tables → EndIsSeen tables slot
  pub evicted : (tables : Tables) (pasid page : ℕ) → IsSound tables → EvictIsSeen tables pasid page

-- Page requests, and the end of a PASID.

-- the device after a page request, the first of a new group or one more
abbrev pub faulted : DeviceWire → Fault → Option ℕ → (index : ℕ) → DeviceWire
faulted device fault None index =
    record device { groups = slice_set device.groups index (Some (record { pasid = fault.pasid; state = sent_as fault.last; requests = 1 })) }
faulted device fault (Some own) index = requested index fault.last device

-- a page request (section 10.4.1): why it is refused, which index a new group is given, and what the groups are after it
pub record FaultIsSeen (tables : Tables) (fault : Fault) : Type 0 where
  pub refusals : refusals_of_fault tables fault ≡ device_causes_of_fault (device_seen tables) fault.pasid fault.page fault.group
  pub index : outstanding (device_seen tables).groups < Limits.page_requests → lowest_label (device_seen tables).groups ≡ Some (index_for tables None)
  pub after :
      is_other_group (device_seen tables) fault.pasid fault.group ≡ false
      → device_seen (after_fault tables fault) ≡ faulted (device_seen tables) fault fault.group (index_for tables fault.group)

-- a quit: why it is refused, that the PASID is off after it, and that its groups which await their response are stale
pub record QuitIsSeen (tables : Tables) (pasid : ℕ) : Type 0 where
  pub refusals : refusals_of_quit tables pasid ≡ device_causes_of_quit (device_seen tables) pasid
  pub after :
      device_seen (after_quit tables pasid)
      ≡ with_pasid pasid DeviceState.Off (record (device_seen tables) { groups = map (stale_of pasid) (device_seen tables).groups })

-- at a sound endpoint page requests are sent, and PASIDs quit, so
pub record GroupsAreSeen : Type 0 where
  pub faulted : (tables : Tables) (fault : Fault) → IsSound tables → FaultIsSeen tables fault
  pub quit : (tables : Tables) (pasid : ℕ) → IsSound tables → QuitIsSeen tables pasid

-- Completions of invalidations; an ITag Vector has 32 bits.

-- a finish (section 10.3.3): why it is refused, and that the named invalidations are in the endpoint's hands no longer
pub record FinishIsSeen (tables : Tables) (vector count : ℕ) : Type 0 where
  pub refusals : refusals_of_finish tables vector count ≡ device_causes_of_finish (device_seen tables) vector count
  pub after : device_seen (after_finish tables vector) ≡ record (device_seen tables) { taken = without_named vector (device_seen tables).taken }

-- at a sound endpoint invalidations are completed so, by a vector of 32 bits (section 10.3.2)
abbrev pub CompletionsAreSeen : Type 0
CompletionsAreSeen = (tables : Tables) (vector count : ℕ) → vector < 2 ^ Limits.itags → IsSound tables → FinishIsSeen tables vector count

-- Messages from the host.

-- what is kept after a translation completion, and its answer, by the request that bears its tag
abbrev pub kept_of : DeviceWire → (tag frame : ℕ) → (write is_full : Bool) → RequestWire → DeviceWire
kept_of device tag frame write true request = without_tag tag device
kept_of device tag frame write false request =
    without_tag tag (record device { cache = kept (record { pasid = request.pasid; page = request.page; frame = frame; write = write }) device.cache })

-- the device where a request bears the tag: of a doomed one nothing is kept, nor with R clear (section 10.2.3); the tag is free after it
abbrev pub completed_by : DeviceWire → (tag frame : ℕ) → (read write is_doomed : Bool) → RequestWire → DeviceWire
completed_by device tag frame read write true request = without_tag tag device
completed_by device tag frame false write false request = without_tag tag device
completed_by device tag frame true write false request = kept_of device tag frame write (is_full device.cache request.pasid request.page) request

-- the answer: `dropped` of a doomed request, `none` with R clear, `full` where the cache has 64 translations of other pages, else `held`
abbrev pub said_by : DeviceWire → (read is_doomed : Bool) → RequestWire → Answer
said_by device read true request = answer.Dropped
said_by device false false request = answer.NoTranslation
said_by device true false request = if is_full device.cache request.pasid request.page then answer.Full else answer.Held

-- the device after a completion; where no request bears its tag, since the endpoint was reset meanwhile, nothing changes
abbrev pub completed : DeviceWire → (tag frame : ℕ) → (read write : Bool) → Option RequestWire → DeviceWire
completed device tag frame read write None = device
completed device tag frame read write (Some request) = completed_by device tag frame read write request.is_doomed request

-- the answer to a completion; `dropped` where no request bears its tag
abbrev pub completion_said : DeviceWire → (read : Bool) → Option RequestWire → Answer
completion_said device read None = answer.Dropped
completion_said device read (Some request) = said_by device read request.is_doomed request

-- a translation completion that arrives: what it is answered, and what the device is after it
pub record CompletionIsSeen (tables : Tables) (tag frame : ℕ) (read write : Bool) : Type 0 where
  pub said : answer_to tables (Completion tag frame read write) ≡ completion_said (device_seen tables) read (tag_at (device_seen tables) tag)
  pub after :
      device_seen (after_receive tables (Completion tag frame read write))
      ≡ completed (device_seen tables) tag frame read write (tag_at (device_seen tables) tag)

-- a Page Request Group Response (section 10.4.2) that arrives: whether its group was stale, that the group's index is free, and that
-- Response Failure disables the interface
pub record ResponseIsSeen (tables : Tables) (pasid index : ℕ) (code : Code) : Type 0 where
  pub said : answer_to tables (Response pasid index code) ≡ response_said (group_at (device_seen tables) index)
  pub after :
      device_seen (after_receive tables (Response pasid index code))
      ≡ record (device_seen tables) {
        groups = slice_set (device_seen tables).groups index None;
        is_disabled = (device_seen tables).is_disabled || is_failure code;
      }

-- at a sound endpoint each message from the host changes the device so; and so a completion and a response are answered
pub record DeliveriesAreSeen : Type 0 where
  pub started :
      (tables : Tables) (pasid : ℕ) → IsSound tables → device_seen (after_receive tables (Start pasid)) ≡ with_pasid pasid DeviceState.On (device_seen tables)
  pub stopped :
      (tables : Tables) (pasid : ℕ) → IsSound tables
      → device_seen (after_receive tables (Stop pasid)) ≡ with_pasid pasid DeviceState.Ending (device_seen tables)
  pub reset : (tables : Tables) → IsSound tables → device_seen (after_receive tables Reset) ≡ cleared (device_seen tables)
  pub completed : (tables : Tables) (tag frame : ℕ) (read write : Bool) → IsSound tables → CompletionIsSeen tables tag frame read write
  pub taken :
      (tables : Tables) (itag : ℕ) (invalidation : Invalidation) → IsSound tables
      → device_seen (after_invalidate tables itag invalidation) ≡ taking itag invalidation.pasid (extent_seen invalidation.extent) (device_seen tables)
  pub answered : (tables : Tables) (pasid index : ℕ) (code : Code) → IsSound tables → ResponseIsSeen tables pasid index code
