-- What comes of a message that is delivered.
use Rattle.std.specs.Prelude.{ℕ, ◌&&◌, not, if◌then◌else◌, Bool, List, [], ◌∷◌, ◌++◌, remove, slice_get, Option, Some, None}
use Rattle.sva_open.specs.declared.frames.Mapping.{Mapping}
use Rattle.sva_open.specs.declared.rows.State.{State}
use Rattle.sva_open.specs.declared.rows.State.TheVariants.{On}
use Rattle.sva_open.specs.declared.rows.Row.{Row}
use Rattle.sva_open.specs.declared.messages.Message.{Message}
use Rattle.sva_open.specs.declared.messages.Message.TheVariants as message
use Rattle.sva_open.specs.declared.messages.PageRequest.{PageRequest}
use Rattle.sva_open.specs.declared.messages.Sent.{Sent}
use Rattle.sva_open.specs.declared.descriptors.Arrived.{Arrived}
use Rattle.sva_open.specs.declared.descriptors.Received.TheVariants.{Request as Asked}
use Rattle.sva_open.specs.declared.settings.Settings.{Settings}
use Rattle.sva_open.specs.World.{Part, if_so, stopped_by, with_row}
use Rattle.sva_open.specs.Order.{goes_up, may_deliver}
use Rattle.sva_open.specs.Devices.{barred, complete, end_group, invalidated, reset_taken}
use Rattle.sva_open.specs.Units.{answer, answered_stop, complete_itag, queued}

-- an endpoint is told of a PASID, by an owner of it
abbrev pub told : Part → (pasid : ℕ) → State → (owner : ℕ) → Option Row → Part
told part pasid state owner None = part
told part pasid state owner (Some row) = with_row part pasid (record row { state = state; user = owner })

-- it is told to stop one
abbrev pub told_to_stop : Part → (pasid owner : ℕ) → Option Row → Part
told_to_stop part pasid owner None = part
told_to_stop part pasid owner (Some row) = told part pasid (stopped_by row.state) owner (Some row)

-- A page request stands in the queue at once where drains need that to be empty; else the unit has received it, and has yet to write
-- it there (Intel VT-d, "Page Request Queue").
abbrev pub arrived_as : (endpoint : ℕ) → Sent → PageRequest → Arrived
arrived_as endpoint one request = record { endpoint = endpoint; request = request; owner = one.owner; number = one.number }

abbrev pub arrive : Settings → Part → Sent → PageRequest → Part
arrive settings part one request =
    if settings.drain_empties
    then queued settings part (arrived_as part.endpoint one request)
    else record part { received = part.received ++ Asked (arrived_as part.endpoint one request) ∷ [] }

-- a unit that is closed drops all but a status and a reset-done
abbrev pub if_open : Part → Part → Part
if_open part after = if part.is_open then after else part

-- what a message comes to, of a part in whose flight it isn't any more
abbrev pub received : Settings → List Mapping → Part → Sent → Message → Part
received settings mappings part one (message.Start pasid) = told part pasid On one.owner (slice_get part.rows pasid)
received settings mappings part one (message.Stop pasid) = told_to_stop part pasid one.owner (slice_get part.rows pasid)
received settings mappings part one message.Reset = reset_taken settings part
received settings mappings part one (message.Completion tag page target) = complete part tag target (slice_get part.requests tag)
received settings mappings part one (message.Invalidate itag scope) = invalidated part itag scope
received settings mappings part one (message.Response index fails filed) = end_group part index fails
received settings mappings part one (message.Request tag pasid page) = if_open part (answer settings mappings part one tag pasid page)
received settings mappings part one (message.Invalidated itag) = if_open part (complete_itag part itag)
received settings mappings part one (message.PageRequest request) = if_open part (arrive settings part one request)
received settings mappings part one (message.Marker pasid) = if_open part (answered_stop part pasid one.owner (slice_get part.rows pasid))
received settings mappings part one (message.Status pasid) = answered_stop part pasid one.owner (slice_get part.rows pasid)
received settings mappings part one message.ResetDone = part
received settings mappings part one (message.Barrier barrier) = barred part barrier
received settings mappings part one (message.Passed barrier) = part

-- what goes down to an endpoint that is gone is dropped
abbrev pub is_lost : Part → Message → Bool
is_lost part its = part.is_gone && not (goes_up its)

abbrev pub taken_in : Settings → List Mapping → Part → Sent → Part
taken_in settings mappings part one = if is_lost part one.message then part else received settings mappings part one one.message

abbrev pub without_sent : Part → (place : ℕ) → Part
without_sent part place = record part { flight = remove part.flight place }

abbrev pub deliver : Settings → List Mapping → Part → (place : ℕ) → Option Sent → Option Part
deliver settings mappings part place None = None
deliver settings mappings part place (Some one) =
    if_so (may_deliver settings.link part.flight place one.message) (taken_in settings mappings (without_sent part place) one)
