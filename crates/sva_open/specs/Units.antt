-- What a unit does by itself, and what it makes of what comes to it.
use Rattle.std.specs.Prelude.{ℕ, zero, suc, ◌-◌, ◌==◌, ◌&&◌, ◌||◌, not, if◌then◌else◌, Bool, true, false, List, [], ◌∷◌, ◌++◌, filter, find, drop, length, take}
use Rattle.std.specs.Prelude.{nat_le, remove, position, slice_get, slice_set, Option, Some, None, option_map, is_none, is_some}
use Rattle.std.specs.List.{flat_map, list_any}
use Rattle.sva_step.specs.Limits
use Rattle.sva_open.specs.declared.frames.Target.{Target}
use Rattle.sva_open.specs.declared.frames.Mapping.{Mapping}
use Rattle.sva_open.specs.declared.frames.Translation.{Translation}
use Rattle.sva_open.specs.declared.scopes.Scope.{Scope}
use Rattle.sva_open.specs.declared.rows.Entry.{Entry}
use Rattle.sva_open.specs.declared.rows.KeptEntry.{KeptEntry}
use Rattle.sva_open.specs.declared.rows.Row.{Row}
use Rattle.sva_open.specs.declared.messages.Message.{Message}
use Rattle.sva_open.specs.declared.messages.Message.TheVariants as message
use Rattle.sva_open.specs.declared.messages.Sent.{Sent}
use Rattle.sva_open.specs.declared.descriptors.Descriptor.{Descriptor}
use Rattle.sva_open.specs.declared.descriptors.Descriptor.TheVariants as descriptor
use Rattle.sva_open.specs.declared.descriptors.Arrived.{Arrived}
use Rattle.sva_open.specs.declared.descriptors.Issued.{Issued}
use Rattle.sva_open.specs.declared.descriptors.Issued.TheVariants.{Sent as Issue, Waiting}
use Rattle.sva_open.specs.declared.descriptors.Received.{Received}
use Rattle.sva_open.specs.declared.descriptors.Received.TheVariants.{Request as Asked, Drain}
use Rattle.sva_open.specs.declared.works.Work.{Work}
use Rattle.sva_open.specs.declared.works.Work.TheVariants.{Use, Taken, Draining}
use Rattle.sva_open.specs.declared.settings.Settings.{Settings}
use Rattle.sva_open.specs.declared.settings.Timeouts.{Timeouts}
use Rattle.sva_open.specs.declared.settings.Timeouts.TheVariants.{Off, On, Stop}
use Rattle.sva_open.specs.World.{Part, if_so, is_of, is_page, or_else, sent, with_translation, without_covered}

-- ---- the invalidation queue

-- is it a wait of this name, in the queue and behind it?
abbrev pub is_wait : (name : ℕ) → Descriptor → Bool
is_wait name (descriptor.Wait own drain fence) = own == name
is_wait name _ = false

abbrev pub is_any_wait : Descriptor → Bool
is_any_wait (descriptor.Wait name drain fence) = true
is_any_wait _ = false

-- is it anything but the place of an invalidation that was sent; and of that under an ITag?
abbrev pub isnt_out : Descriptor → Bool
isnt_out (descriptor.Out itag) = false
isnt_out _ = true

abbrev pub isnt_out_of : (itag : ℕ) → Descriptor → Bool
isnt_out_of itag (descriptor.Out own) = not (own == itag)
isnt_out_of itag _ = true

abbrev pub is_sent : Issued → Bool
is_sent (Issue endpoint itag) = true
is_sent (Waiting name drain) = false

abbrev pub has_itag : (itag : ℕ) → Issued → Bool
has_itag itag (Issue endpoint own) = own == itag
has_itag itag (Waiting name drain) = false

abbrev pub is_sent_to : (endpoint itag : ℕ) → Issued → Bool
is_sent_to endpoint itag (Issue own other) = (own == endpoint) && (other == itag)
is_sent_to endpoint itag (Waiting name drain) = false

abbrev pub is_waiting : (name : ℕ) → Issued → Bool
is_waiting name (Issue endpoint itag) = false
is_waiting name (Waiting own drain) = own == name

-- the lowest ITag of so many from one on that no invalidation has
unfoldable pub free_itag : List Issued → (many itag : ℕ) → Option ℕ
free_itag issued zero itag = None
free_itag issued (suc many) itag = if list_any (has_itag itag) issued then free_itag issued many (suc itag) else Some itag

-- ---- what is received, and drains

abbrev pub is_received : Received → Bool
is_received (Asked one) = true
is_received (Drain name) = false

abbrev pub is_drain : (name : ℕ) → Received → Bool
is_drain name (Asked one) = false
is_drain name (Drain own) = own == name

-- A wait whose invalidations are done is done; but one that drains stands behind the page requests that have been received by then
-- (Intel VT-d, "Page Request Drain").
abbrev pub waited : Part → (name : ℕ) → (drain : Bool) → Part
waited part name drain =
    if drain && list_any is_received part.received then record part { received = part.received ++ Drain name ∷ [] } else part

-- drains before which no page request stands are done
abbrev pub from_request : List Received → Option ℕ → List Received
from_request received None = []
from_request received (Some place) = drop place received

abbrev pub without_drains : List Received → List Received
without_drains received = from_request received (position is_received received)

-- ---- the page request queue

-- Is there no room in the queue? There is none where as many page requests stand in it as it has places, nor once it has overflowed,
-- until that is cleared (Intel VT-d, "Page Request Status Register", PRO).
abbrev pub is_full : (places : Option ℕ) → (has_overflowed : Bool) → (count : ℕ) → Bool
is_full None has_overflowed count = false
is_full (Some places) has_overflowed count = has_overflowed || nat_le places count

-- the unit answers a page request by itself where that is the last of its group, by Success
abbrev pub answered_if : (last : Bool) → Part → Arrived → Part
answered_if false part one = part
answered_if true part one = sent part 0 one.number (message.Response one.request.index false true)

-- A page request comes into the queue. One that finds no room is dropped, and if it is the last of its group, the unit answers that
-- (Intel VT-d, "Page Request Queue").
abbrev pub overflowed : Part → Arrived → Part
overflowed part one = answered_if one.request.last (record part { has_overflowed = true }) one

abbrev pub queued : Settings → Part → Arrived → Part
queued settings part one =
    if is_full settings.places part.has_overflowed (length part.arrived)
    then overflowed part one
    else record part { arrived = part.arrived ++ one ∷ [] }

-- the oldest page request that is received is written into the queue; a unit that is closed has none
abbrev pub without_oldest : Part → Part
without_oldest part = record part { received = without_drains (remove part.received 0) }

abbrev pub write : Settings → Part → Option Received → Option Part
write settings part None = None
write settings part (Some (Drain name)) = None
write settings part (Some (Asked one)) = Some (queued settings (without_oldest part) one)

-- ---- what has left the queue

-- without the head of the queue
abbrev pub shifted : Part → Part
shifted part = record part { queue = remove part.queue 0 }

-- an invalidation of the endpoint's translations is sent under the lowest free ITag
abbrev pub issue : Part → Scope → Option ℕ → Option Part
issue part scope None = None
issue part scope (Some itag) =
    Some (sent (record (shifted part) { issued = part.issued ++ Issue part.endpoint itag ∷ [] }) 0 part.time (message.Invalidate itag scope))

-- May a wait leave the queue? One that drains never does where the unit refuses it (Intel VT-d, "Invalidation Queue Error"). A fence
-- needs all ITags free, and with them all waits before it done; one that drains needs an empty page request queue, where the platform
-- asks that (Intel VT-d, "Page Request Drain").
abbrev pub may_pass : Settings → Part → (drain fence : Bool) → Bool
may_pass settings part drain fence =
    not (settings.refuses_drain && drain)
    && ((not (settings.all_fence || fence) || (length part.issued == 0))
    && (not (settings.drain_empties && drain) || (length part.arrived == 0)))

-- Is an invalidation out that stands directly before a place? Then one is that stands behind the wait before.
abbrev pub is_sent_there : Option Issued → Bool
is_sent_there None = false
is_sent_there (Some one) = is_sent one

abbrev pub is_out_before : List Issued → (place : ℕ) → Bool
is_out_before issued place = if place == 0 then false else is_sent_there (slice_get issued (place - 1))

-- A wait covers the invalidations that stand behind the wait before it (Intel VT-d, "Queued Invalidation Ordering Considerations"):
-- where none of these is out, it is done.
abbrev pub pass : Part → (name : ℕ) → (drain : Bool) → Part
pass part name drain =
    if is_out_before part.issued (length part.issued)
    then record (shifted part) { issued = part.issued ++ Waiting name drain ∷ [] }
    else waited (shifted part) name drain

-- without the entry that is kept of a PASID
abbrev pub is_entry_of : (pasid : ℕ) → KeptEntry → Bool
is_entry_of pasid kept = kept.pasid == pasid

abbrev pub is_no_entry_of : (pasid : ℕ) → KeptEntry → Bool
is_no_entry_of pasid kept = not (is_entry_of pasid kept)

abbrev pub without_entry : (pasid : ℕ) → List KeptEntry → List KeptEntry
without_entry pasid kept = filter (is_no_entry_of pasid) kept

abbrev pub pump_head : Settings → Part → Option Descriptor → Option Part
pump_head settings part None = None
pump_head settings part (Some (descriptor.Device endpoint scope)) = issue part scope (free_itag part.issued Limits.itags 0)
pump_head settings part (Some (descriptor.Translations endpoint scope)) = Some (record (shifted part) { kept = without_covered scope part.kept })
pump_head settings part (Some (descriptor.Entry endpoint pasid)) = Some (record (shifted part) { kept_entries = without_entry pasid part.kept_entries })
pump_head settings part (Some (descriptor.Wait name drain fence)) = if_so (may_pass settings part drain fence) (pass part name drain)
pump_head settings part (Some (descriptor.Out itag)) = None

-- a unit that is closed takes nothing, nor does one that has stopped at a time-out
abbrev pub takes : Part → Bool
takes part = part.is_open && not part.is_stalled

-- in the order of the queue
abbrev pub pump : Settings → Part → Option Part
pump settings part = if not settings.is_loose && takes part then pump_head settings part (slice_get part.queue 0) else None

-- ---- what leaves the queue out of order

-- without what stands at a place of the queue
abbrev pub taken_out : Part → (place : ℕ) → Part
taken_out part place = record part { queue = remove part.queue place }

-- A fence bars all behind it, and so does a wait that the unit refuses.
abbrev pub bars_all : Settings → Descriptor → Bool
bars_all settings (descriptor.Wait name drain fence) = (settings.all_fence || fence) || (settings.refuses_drain && drain)
bars_all settings _ = false

-- An invalidation in an endpoint is behind each earlier one of translations that the unit keeps, and that behind each earlier one of
-- an entry (Intel VT-d, "Queued Invalidation Ordering Considerations").
abbrev pub bars_kind : (one earlier : Descriptor) → Bool
bars_kind (descriptor.Device endpoint scope) (descriptor.Translations own other) = true
bars_kind (descriptor.Translations endpoint scope) (descriptor.Entry own pasid) = true
bars_kind _ _ = false

abbrev pub bars_one : Settings → (one earlier : Descriptor) → Bool
bars_one settings one earlier = bars_all settings earlier || bars_kind one earlier

-- does one that stands before a place bar another there?
abbrev pub is_barred : Settings → List Descriptor → (place : ℕ) → Descriptor → Bool
is_barred settings queue place one = list_any (bars_one settings one) (take place queue)

abbrev pub is_wait_there : Option Descriptor → Bool
is_wait_there None = false
is_wait_there (Some one) = is_any_wait one

-- Is all done that a wait at a place covers? A fence covers all before it, another what stands behind the wait before it.
abbrev pub covers_none : (fence : Bool) → List Descriptor → (place : ℕ) → Bool
covers_none fence queue place = (place == 0) || (not fence && is_wait_there (slice_get queue (place - 1)))

abbrev pub may_pass_at : Settings → Part → (place : ℕ) → (drain fence : Bool) → Bool
may_pass_at settings part place drain fence =
    may_pass settings part drain fence && covers_none (settings.all_fence || fence) part.queue place

-- An invalidation of the endpoint's translations is sent, and keeps its place: a wait that covers it stands behind that.
abbrev pub issue_at : Part → (place : ℕ) → Scope → Option ℕ → Option Part
issue_at part place scope None = None
issue_at part place scope (Some itag) =
    Some (sent
    (record part { queue = slice_set part.queue place (descriptor.Out itag); issued = part.issued ++ Issue part.endpoint itag ∷ [] })
    0 part.time (message.Invalidate itag scope))

abbrev pub pump_one : Settings → Part → (place : ℕ) → Descriptor → Option Part
pump_one settings part place (descriptor.Device endpoint scope) = issue_at part place scope (free_itag part.issued Limits.itags 0)
pump_one settings part place (descriptor.Translations endpoint scope) =
    Some (record (taken_out part place) { kept = without_covered scope part.kept })
pump_one settings part place (descriptor.Entry endpoint pasid) =
    Some (record (taken_out part place) { kept_entries = without_entry pasid part.kept_entries })
pump_one settings part place (descriptor.Wait name drain fence) =
    if_so (may_pass_at settings part place drain fence) (waited (taken_out part place) name drain)
pump_one settings part place (descriptor.Out itag) = None

abbrev pub pump_there : Settings → Part → (place : ℕ) → Option Descriptor → Option Part
pump_there settings part place None = None
pump_there settings part place (Some one) = if is_barred settings part.queue place one then None else pump_one settings part place one

-- one that none before it bars
abbrev pub pump_at : Settings → Part → (place : ℕ) → Option Part
pump_at settings part place = if settings.is_loose && takes part then pump_there settings part place (slice_get part.queue place) else None

-- may one be taken of so many that begin at a place?
unfoldable pub takes_any : Settings → Part → (many place : ℕ) → Bool
takes_any settings part zero place = false
takes_any settings part (suc many) place = if is_some (pump_at settings part place) then true else takes_any settings part many (suc place)

-- can the unit take nothing from its queue?
abbrev pub takes_none : Settings → Part → Bool
takes_none settings part =
    if settings.is_loose then not (takes_any settings part (length part.queue) 0) else is_none (pump settings part)

-- ---- an invalidation that isn't answered in time

-- is it of an ITag: the invalidation on its way down, or its completion on its way up?
abbrev pub is_of_itag : (itag : ℕ) → Message → Bool
is_of_itag itag (message.Invalidate own scope) = own == itag
is_of_itag itag (message.Invalidated own) = own == itag
is_of_itag itag _ = false

abbrev pub is_sent_of : (itag : ℕ) → Sent → Bool
is_sent_of itag one = is_of_itag itag one.message

abbrev pub completes : (itag : ℕ) → Message → Bool
completes itag (message.Invalidated own) = own == itag
completes itag _ = false

abbrev pub is_completion_of : (itag : ℕ) → Sent → Bool
is_completion_of itag one = completes itag one.message

abbrev pub is_taken_of : (itag : ℕ) → Work → Bool
is_taken_of itag (Use translation) = false
is_taken_of itag (Taken own scope) = own == itag
is_taken_of itag (Draining barrier) = false

-- Does nobody answer it? It was lost, or its endpoint is gone. An endpoint that may be silent may leave unanswered what has come to it,
-- or comes; a completion that is on its way is in time.
abbrev pub is_unanswered : Part → (itag : ℕ) → (silent : Bool) → Bool
is_unanswered part itag true = not (list_any (is_completion_of itag) part.flight)
is_unanswered part itag false = not (list_any (is_sent_of itag) part.flight || list_any (is_taken_of itag) part.works)

abbrev pub is_timed : Timeouts → Bool
is_timed Off = false
is_timed On = true
is_timed Stop = true

abbrev pub stalls : Timeouts → Bool
stalls Off = false
stalls On = false
stalls Stop = true

-- time is long: before it runs out the unit has taken all that it can
abbrev pub may_expire : Settings → Part → (itag : ℕ) → (silent : Bool) → Bool
may_expire settings part itag silent =
    (is_timed settings.timeouts && takes part)
    && (takes_none settings part && (list_any (is_sent_to part.endpoint itag) part.issued && is_unanswered part itag silent))

-- the waits that have left the queue and aren't done
abbrev pub wait_in : Issued → List ℕ
wait_in (Issue endpoint itag) = []
wait_in (Waiting name drain) = name ∷ []

abbrev pub waits_in : List Issued → List ℕ
waits_in issued = flat_map wait_in issued

-- is a fence at the head, which awaits what is out?
abbrev pub bars : Settings → Part → Option Descriptor → Bool
bars settings part (Some (descriptor.Wait name drain fence)) = (settings.all_fence || fence) && not (length part.issued == 0)
bars settings part _ = false

abbrev pub name_of : Option Descriptor → List ℕ
name_of (Some (descriptor.Wait name drain fence)) = name ∷ []
name_of _ = []

abbrev pub head_aborted : Settings → Part → Option Descriptor → List ℕ
head_aborted settings part head = if bars settings part head then name_of head else []

abbrev pub head_left : Settings → Part → Option Descriptor → List Descriptor
head_left settings part head = if bars settings part head then remove part.queue 0 else part.queue

-- How much of the queue has a unit fetched that doesn't take it in order? All up to the first that bars all, and with it a fence.
abbrev pub is_fence : Settings → Option Descriptor → Bool
is_fence settings (Some (descriptor.Wait name drain fence)) = settings.all_fence || fence
is_fence settings _ = false

abbrev pub fetched_to : Settings → List Descriptor → Option ℕ → ℕ
fetched_to settings queue None = length queue
fetched_to settings queue (Some place) = if is_fence settings (slice_get queue place) then suc place else place

abbrev pub fetched : Settings → List Descriptor → ℕ
fetched settings queue = fetched_to settings queue (position (bars_all settings) queue)

-- the waits among so many
abbrev pub wait_named : Descriptor → List ℕ
wait_named one = name_of (Some one)

abbrev pub waits_of : List Descriptor → List ℕ
waits_of queue = flat_map wait_named queue

abbrev pub waits_among : (many : ℕ) → List Descriptor → List ℕ
waits_among many queue = waits_of (take many queue)

abbrev pub isnt_wait : Descriptor → Bool
isnt_wait one = not (is_any_wait one)

abbrev pub without_waits : (many : ℕ) → List Descriptor → List Descriptor
without_waits many queue = filter isnt_wait (take many queue) ++ drop many queue

-- the waits in the queue that are aborted, and what is left there
abbrev pub queue_aborted : Settings → Part → List ℕ
queue_aborted settings part =
    if settings.is_loose
    then waits_among (fetched settings part.queue) part.queue
    else head_aborted settings part (slice_get part.queue 0)

abbrev pub queue_left : Settings → Part → (itag : ℕ) → List Descriptor
queue_left settings part itag =
    if settings.is_loose
    then filter (isnt_out_of itag) (without_waits (fetched settings part.queue) part.queue)
    else head_left settings part (slice_get part.queue 0)

abbrev pub isnt_sent_of : (itag : ℕ) → Sent → Bool
isnt_sent_of itag one = not (is_sent_of itag one)

abbrev pub isnt_taken_of : (itag : ℕ) → Work → Bool
isnt_taken_of itag work = not (is_taken_of itag work)

abbrev pub is_other_sent : (itag : ℕ) → Issued → Bool
is_other_sent itag one = is_sent one && not (has_itag itag one)

-- Its ITag is free, and nothing of it is left. The waits that the unit has fetched and that aren't done are aborted, whoever submitted
-- them: in the order of the queue those that have left it, and a fence at the head that awaits what is out (Intel VT-d, "Fault Status
-- Register", ITE).
abbrev pub expired : Settings → Part → (itag : ℕ) → Part
expired settings part itag =
    record part {
      works = filter (isnt_taken_of itag) part.works;
      flight = filter (isnt_sent_of itag) part.flight;
      queue = queue_left settings part itag;
      issued = filter (is_other_sent itag) part.issued;
      aborted = part.aborted ++ (waits_in part.issued ++ queue_aborted settings part);
      is_stalled = stalls settings.timeouts;
    }

abbrev pub expire : Settings → Part → (itag : ℕ) → (silent : Bool) → Option Part
expire settings part itag silent = if_so (may_expire settings part itag silent) (expired settings part itag)

-- ---- what it drops by itself

abbrev pub forget_entry : Part → (place : ℕ) → Option KeptEntry → Option Part
forget_entry part place None = None
forget_entry part place (Some kept) = Some (record part { kept_entries = remove part.kept_entries place })

abbrev pub forget : Part → (place : ℕ) → Option Translation → Option Part
forget part place None = None
forget part place (Some kept) = Some (record part { kept = remove part.kept place })

-- ---- translation requests

-- the entry that it goes by: the one that it keeps, or else the one in memory
abbrev pub entry_kept : KeptEntry → Entry
entry_kept kept = kept.entry

abbrev pub entry_of : Option Row → Option Entry
entry_of None = None
entry_of (Some row) = row.entry

abbrev pub entry_at : Part → (pasid : ℕ) → Option Entry
entry_at part pasid = or_else (option_map entry_kept (find (is_entry_of pasid) part.kept_entries)) (entry_of (slice_get part.rows pasid))

-- and so what the page leads to
abbrev pub target_kept : Translation → Target
target_kept translation = translation.target

abbrev pub target_mapped : Mapping → Target
target_mapped mapping = mapping.target

abbrev pub target_at : List Mapping → Part → (pasid page : ℕ) → Option Entry → Option Target
target_at mappings part pasid page None = None
target_at mappings part pasid page (Some entry) =
    or_else (option_map target_kept (find (is_of pasid page) part.kept)) (option_map target_mapped (find (is_page entry.space page) mappings))

-- a unit with caches keeps the entry and the translation that it went by (Intel VT-d, "Caching Translation Information")
abbrev pub kept_entry : Part → (pasid : ℕ) → Entry → Part
kept_entry part pasid entry =
    record part { kept_entries = without_entry pasid part.kept_entries ++ (record { pasid = pasid; entry = entry }) ∷ [] }

abbrev pub kept_by : Part → (pasid page : ℕ) → Entry → Option Target → Part
kept_by part pasid page entry None = kept_entry part pasid entry
kept_by part pasid page entry (Some target) =
    record (kept_entry part pasid entry) {
      kept = with_translation part.kept (record { pasid = pasid; page = page; owner = entry.owner; target = target });
    }

abbrev pub keeps : (has_caches : Bool) → Part → (pasid page : ℕ) → Option Entry → Option Target → Part
keeps false part pasid page entry target = part
keeps true part pasid page None target = part
keeps true part pasid page (Some entry) target = kept_by part pasid page entry target

-- a request is answered by what the page leads to now, to the owner that asked
abbrev pub answer_by : Settings → Part → Sent → (tag pasid page : ℕ) → Option Entry → Option Target → Part
answer_by settings part one tag pasid page entry target =
    sent (keeps settings.has_caches part pasid page entry target) one.owner one.number (message.Completion tag page target)

abbrev pub answer : Settings → List Mapping → Part → Sent → (tag pasid page : ℕ) → Part
answer settings mappings part one tag pasid page =
    answer_by settings part one tag pasid page (entry_at part pasid) (target_at mappings part pasid page (entry_at part pasid))

-- ---- what else comes to it

-- The wait that stands at a place now is done, if nothing is out that stands behind the wait before it.
abbrev pub settled : Part → (place : ℕ) → (is_out : Bool) → Option Issued → Part
settled part place true next = part
settled part place false None = part
settled part place false (Some (Issue endpoint itag)) = part
settled part place false (Some (Waiting name drain)) = waited (record part { issued = remove part.issued place }) name drain

abbrev pub without_issued : Part → (place : ℕ) → Part
without_issued part place = record part { issued = remove part.issued place }

-- an Invalidate Completion frees its ITag, and may have been the last that the wait behind it waits for
abbrev pub completed_at : Part → Option ℕ → Part
completed_at part None = part
completed_at part (Some place) =
    settled (without_issued part place) place (is_out_before part.issued place) (slice_get (remove part.issued place) place)

-- and its place in the queue is gone, where it kept one
abbrev pub without_out : Part → (itag : ℕ) → Part
without_out part itag = record part { queue = filter (isnt_out_of itag) part.queue }

abbrev pub complete_itag : Part → (itag : ℕ) → Part
complete_itag part itag = completed_at (without_out part itag) (position (has_itag itag) part.issued)

-- the answer to a stop, of the owner whose stop it answers
abbrev pub answered_stop : Part → (pasid owner : ℕ) → Option Row → Part
answered_stop part pasid owner None = part
answered_stop part pasid owner (Some row) = record part { rows = slice_set part.rows pasid (record row { answer = Some owner }) }
