-- What each act of an endpoint leaves, where it is permitted, and what an invalidation and a reset do to it.
use Rattle.std.specs.Prelude.{ℕ, suc, max, ◌==◌, ◌&&◌, ◌||◌, not, if◌then◌else◌, Bool, true, false, List, [], ◌∷◌, ◌++◌, map, take, find}
use Rattle.std.specs.Prelude.{remove, slice_get, slice_set, Option, Some, None}
use Rattle.std.specs.List.{list_any}
use Rattle.sva_open.specs.declared.frames.Target.{Target}
use Rattle.sva_open.specs.declared.frames.Translation.{Translation}
use Rattle.sva_open.specs.declared.scopes.Scope.{Scope}
use Rattle.sva_open.specs.declared.rows.State.TheVariants.{Off}
use Rattle.sva_open.specs.declared.rows.Row.{Row}
use Rattle.sva_open.specs.declared.messages.Barrier.{Barrier}
use Rattle.sva_open.specs.declared.messages.Message.{Message}
use Rattle.sva_open.specs.declared.messages.Message.TheVariants as message
use Rattle.sva_open.specs.declared.messages.Sent.{Sent}
use Rattle.sva_open.specs.declared.descriptors.Arrived.{Arrived}
use Rattle.sva_open.specs.declared.descriptors.Filed.{Filed}
use Rattle.sva_open.specs.declared.descriptors.Received.{Received}
use Rattle.sva_open.specs.declared.descriptors.Received.TheVariants.{Request as Asked, Drain}
use Rattle.sva_open.specs.declared.works.Request.{Request}
use Rattle.sva_open.specs.declared.works.Group.{Group}
use Rattle.sva_open.specs.declared.works.Work.{Work}
use Rattle.sva_open.specs.declared.works.Work.TheVariants.{Use, Taken, Draining}
use Rattle.sva_open.specs.declared.acts.Control.{Control}
use Rattle.sva_open.specs.declared.acts.Control.TheVariants.{Ats, PageRequests, Mastering}
use Rattle.sva_open.specs.declared.settings.Settings.{Settings}
use Rattle.sva_open.specs.declared.settings.Stopped.{Stopped}
use Rattle.sva_open.specs.declared.settings.Stopped.TheVariants.{Marker, Status, Known}
use Rattle.sva_open.specs.World.{Part, covers, if_so, is_of, is_stopping, is_used, lowest_free, put, sent, with_row, with_translation, without_covered}

-- ---- to ask, to use, to let go

-- does it send memory requests that need a translation?
abbrev pub may_access : Part → Row → Bool
may_access part row = is_used row.state && (part.has_ats && part.is_master)

-- a translation request goes out under the lowest free tag, for the owner whose start or stop of the PASID came last
abbrev pub ask : Part → (pasid page : ℕ) → Option Row → Option Part
ask part pasid page None = None
ask part pasid page (Some row) =
    if_so (may_access part row)
    (sent
    (record part { requests = put part.requests (record { pasid = pasid; page = page; owner = row.user; is_doomed = false; noted = None }) })
    row.user part.time (message.Request (lowest_free part.requests) pasid page))

-- a use needs the same, and a held translation of the page
abbrev pub begin_use : Part → Option Row → Option Translation → Option Part
begin_use part None held = None
begin_use part (Some row) None = None
begin_use part (Some row) (Some translation) = if_so (may_access part row) (record part { works = part.works ++ Use translation ∷ [] })

abbrev pub use_of : Part → (pasid page : ℕ) → Option Part
use_of part pasid page = begin_use part (slice_get part.rows pasid) (find (is_of pasid page) part.held)

abbrev pub end_use : Part → (place : ℕ) → Option Work → Option Part
end_use part place None = None
end_use part place (Some (Use translation)) = Some (record part { works = remove part.works place })
end_use part place (Some (Taken itag scope)) = None
end_use part place (Some (Draining barrier)) = None

-- a held translation may go whatever the state of its PASID is; a use that began through it runs on
abbrev pub evict : Part → Option ℕ → Option Part
evict part None = None
evict part (Some place) = Some (record part { held = remove part.held place })

-- ---- page requests

-- Groups of one index are told apart by a number, which no message carries on a real link. That of a new group is above
-- those of all that is left of older groups of its index: in flight, received, in the page request queue, and filed.
abbrev pub above : (is_of_index : Bool) → (number : ℕ) → ℕ
above true number = suc number
above false number = 0

abbrev pub above_message : (index number : ℕ) → Message → ℕ
above_message index number (message.PageRequest request) = above (request.index == index) number
above_message index number (message.Response own fails filed) = above (own == index) number
above_message index number _ = 0

abbrev pub above_sent : (index : ℕ) → Sent → ℕ
above_sent index one = above_message index one.number one.message

abbrev pub above_arrived : (index : ℕ) → Arrived → ℕ
above_arrived index one = above (one.request.index == index) one.number

abbrev pub above_received : (index : ℕ) → Received → ℕ
above_received index (Asked one) = above_arrived index one
above_received index (Drain name) = 0

abbrev pub above_filed : (index : ℕ) → Filed → ℕ
above_filed index one = above (one.index == index) one.number

abbrev pub highest : {X : Type 0} → (X → ℕ) → List X → ℕ
highest at [] = 0
highest at (x ∷ xs) = max (at x) (highest at xs)

abbrev pub number_above : Part → (index : ℕ) → ℕ
number_above part index =
    max (highest (above_sent index) part.flight)
    (max (highest (above_received index) part.received)
    (max (highest (above_arrived index) part.arrived) (highest (above_filed index) part.filed)))

abbrev pub fresh_number : Part → ℕ
fresh_number part = number_above part (lowest_free part.groups)

-- the first page request of a group goes out under the lowest free index
abbrev pub may_fault : Part → Row → Bool
may_fault part row = is_used row.state && (part.is_enabled && part.has_requests)

abbrev pub fault : Part → (pasid page : ℕ) → (write last : Bool) → (number : ℕ) → Option Row → Option Part
fault part pasid page write last number None = None
fault part pasid page write last number (Some row) =
    if_so (may_fault part row)
    (sent
    (record part { groups = put part.groups (record { pasid = pasid; owner = row.user; number = number; is_finished = last; noted = None }) })
    row.user number
    (message.PageRequest (record { pasid = pasid; index = lowest_free part.groups; page = page; write = write; last = last })))

-- a group that isn't finished goes on, also where the page request interface was turned off since: that issues no new page requests, and
-- has those that are queued for transmission
abbrev pub more : Part → (index page : ℕ) → (write last : Bool) → Option (Option Group) → Option Part
more part index page write last None = None
more part index page write last (Some None) = None
more part index page write last (Some (Some group)) =
    if_so (not group.is_finished && part.is_enabled)
    (sent
    (record part { groups = slice_set part.groups index (Some (record group { is_finished = last })) })
    group.owner group.number
    (message.PageRequest (record { pasid = group.pasid; index = index; page = page; write = write; last = last })))

-- ---- to complete an invalidation, and to quit a PASID

-- is it a use of what is covered?
abbrev pub is_use_of : Scope → Work → Bool
is_use_of scope (Use translation) = covers scope translation.pasid translation.page
is_use_of scope (Taken itag other) = false
is_use_of scope (Draining barrier) = false

-- An invalidation is completed once the uses that began before it, of what it covers, have ended (PCI Express Base 5.0, section
-- 10.3.3). An endpoint that lies doesn't await them.
abbrev pub finish : Part → (place : ℕ) → Option Work → Option Part
finish part place None = None
finish part place (Some (Use translation)) = None
finish part place (Some (Draining barrier)) = None
finish part place (Some (Taken itag scope)) =
    if_so (part.lies || not (list_any (is_use_of scope) (take place part.works)))
    (sent (record part { works = remove part.works place }) 0 part.time (message.Invalidated itag))

-- Has something under the PASID to end yet: a group, a request that is out, or a use? A group ends with its last
-- request; that of an endpoint which awaits its responses, with its response (PCI Express Base 5.0, section 10.4.1.2).
abbrev pub is_unended : (awaits : Bool) → (pasid : ℕ) → Option Group → Bool
is_unended awaits pasid None = false
is_unended awaits pasid (Some group) = (awaits || not group.is_finished) && (group.pasid == pasid)

abbrev pub asks_under : (pasid : ℕ) → Option Request → Bool
asks_under pasid None = false
asks_under pasid (Some request) = request.pasid == pasid

abbrev pub is_use_under : (pasid : ℕ) → Work → Bool
is_use_under pasid (Use translation) = translation.pasid == pasid
is_use_under pasid (Taken itag scope) = false
is_use_under pasid (Draining barrier) = false

abbrev pub is_busy : Part → (pasid : ℕ) → Bool
is_busy part pasid =
    list_any (is_unended part.awaits pasid) part.groups
    || (list_any (asks_under pasid) part.requests || list_any (is_use_under pasid) part.works)

-- by what the endpoint says that it has stopped
abbrev pub said : Stopped → Part → (pasid : ℕ) → Row → Part
said Marker part pasid row = sent (with_row part pasid (record row { state = Off })) row.user part.time (message.Marker pasid)
said Status part pasid row = sent (with_row part pasid (record row { state = Off })) row.user part.time (message.Status pasid)
said Known part pasid row = with_row part pasid (record row { state = Off; answer = Some row.user })

abbrev pub quit : Stopped → Part → (pasid : ℕ) → Option Row → Option Part
quit stopped part pasid None = None
quit stopped part pasid (Some row) = if_so (is_stopping row.state && not (is_busy part pasid)) (said stopped part pasid row)

-- ---- to pass a barrier

-- What is under way of its PASID when a barrier comes notes the first one that does: it is older than that, and than each that comes later.
abbrev pub noted_by : Barrier → (pasid : ℕ) → (noted : Option ℕ) → Option ℕ
noted_by barrier pasid None = if pasid == barrier.pasid then Some barrier.name else None
noted_by barrier pasid (Some name) = Some name

abbrev pub request_noted : Barrier → Request → Request
request_noted barrier request = record request { noted = noted_by barrier request.pasid request.noted }

abbrev pub asked_noted : Barrier → Option Request → Option Request
asked_noted barrier None = None
asked_noted barrier (Some request) = Some (request_noted barrier request)

abbrev pub group_noted : Barrier → Group → Group
group_noted barrier group = record group { noted = noted_by barrier group.pasid group.noted }

abbrev pub begun_noted : Barrier → Option Group → Option Group
begun_noted barrier None = None
begun_noted barrier (Some group) = Some (group_noted barrier group)

-- it is awaited behind all that the endpoint is at
abbrev pub barred : Part → Barrier → Part
barred part barrier =
    record part {
      requests = map (asked_noted barrier) part.requests;
      works = part.works ++ Draining barrier ∷ [];
      groups = map (begun_noted barrier) part.groups;
    }

abbrev pub is_barrier : (name : ℕ) → Work → Bool
is_barrier name (Use translation) = false
is_barrier name (Taken itag scope) = false
is_barrier name (Draining barrier) = barrier.name == name

-- is what has noted this older than the last of these barriers?
abbrev pub is_older : (works : List Work) → (noted : Option ℕ) → Bool
is_older works None = false
is_older works (Some name) = list_any (is_barrier name) works

abbrev pub is_asked_before : (works : List Work) → (pasid : ℕ) → Option Request → Bool
is_asked_before works pasid None = false
is_asked_before works pasid (Some request) = (request.pasid == pasid) && is_older works request.noted

abbrev pub is_begun_before : (works : List Work) → (awaits : Bool) → (pasid : ℕ) → Option Group → Bool
is_begun_before works awaits pasid None = false
is_begun_before works awaits pasid (Some group) = is_unended awaits pasid (Some group) && is_older works group.noted

-- What came before a barrier has to end as it has before the endpoint stops a PASID; the PASID stays on, and what begins later holds up
-- none.
abbrev pub is_held_up : Part → (place : ℕ) → Barrier → Bool
is_held_up part place barrier =
    list_any (is_use_under barrier.pasid) (take place part.works)
    || (list_any (is_asked_before (take (suc place) part.works) barrier.pasid) part.requests
    || list_any (is_begun_before (take (suc place) part.works) part.awaits barrier.pasid) part.groups)

-- the host knows it at once, or by a posted write, whatever says that a PASID is stopped
abbrev pub passed : Stopped → Part → Barrier → Part
passed Marker part barrier = sent part 0 part.time (message.Passed barrier)
passed Status part barrier = sent part 0 part.time (message.Passed barrier)
passed Known part barrier = part

abbrev pub pass : Stopped → Part → (place : ℕ) → Option Work → Option Part
pass stopped part place None = None
pass stopped part place (Some (Use translation)) = None
pass stopped part place (Some (Taken itag scope)) = None
pass stopped part place (Some (Draining barrier)) =
    if_so (not (is_held_up part place barrier)) (passed stopped (record part { works = remove part.works place }) barrier)

-- ---- what comes to it

-- with a completion the request is over; its translation is held, unless the request is doomed (section 10.2.3)
abbrev pub held_after : List Translation → Request → Option Target → List Translation
held_after held request None = held
held_after held request (Some target) =
    if request.is_doomed
    then held
    else with_translation held (record { pasid = request.pasid; page = request.page; owner = request.owner; target = target })

abbrev pub complete : Part → (tag : ℕ) → Option Target → Option (Option Request) → Part
complete part tag target None = part
complete part tag target (Some None) = part
complete part tag target (Some (Some request)) =
    record part { requests = slice_set part.requests tag None; held = held_after part.held request target }

-- an invalidation strikes what is held, dooms the requests that are out, and is awaited behind the uses that run
abbrev pub doomed_by : Scope → Request → Request
doomed_by scope request = record request { is_doomed = request.is_doomed || covers scope request.pasid request.page }

abbrev pub doomed : Scope → Option Request → Option Request
doomed scope None = None
doomed scope (Some request) = Some (doomed_by scope request)

abbrev pub invalidate : Part → (itag : ℕ) → Scope → Part
invalidate part itag scope =
    record part {
      held = without_covered scope part.held;
      requests = map (doomed scope) part.requests;
      works = part.works ++ Taken itag scope ∷ [];
    }

-- where ATS is off it is dropped, and answered never
abbrev pub invalidated : Part → (itag : ℕ) → Scope → Part
invalidated part itag scope = if part.has_ats then invalidate part itag scope else part

-- a response ends its group; a Response Failure disables the page request interface (section 10.4.2)
abbrev pub end_group : Part → (index : ℕ) → (fails : Bool) → Part
end_group part index fails = record part { groups = slice_set part.groups index None; is_enabled = part.is_enabled && not fails }

-- ---- to be turned on and off, to be reset, and to go

-- Once ATS is off nothing is held, and what is asked for won't be (section 10.3.7, "Implicit Invalidation Events"); a use that began
-- runs on.
abbrev pub over : Option Request → Option Request
over None = None
over (Some request) = Some (record request { is_doomed = true })

abbrev pub turned_ats : Part → (on : Bool) → Part
turned_ats part true = record part { has_ats = true }
turned_ats part false = record part { has_ats = false; held = []; requests = map over part.requests }

-- That a response has failed is forgotten where the page request interface is turned on from off (section 10.5.2.2).
abbrev pub turned_requests : Part → (on : Bool) → Part
turned_requests part true = record part { has_requests = true; is_enabled = part.is_enabled || not part.has_requests }
turned_requests part false = record part { has_requests = false }

abbrev pub turned : Part → Control → (on : Bool) → Part
turned part Ats on = turned_ats part on
turned part PageRequests on = turned_requests part on
turned part Mastering on = record part { is_master = on }

abbrev pub switched_off : Row → Row
switched_off row = record row { state = Off }

-- a reset leaves nothing of what the endpoint had, and is answered (section 6.6.2)
abbrev pub reset_taken : Settings → Part → Part
reset_taken settings part =
    sent
    (record part {
      rows = map switched_off part.rows;
      requests = [];
      held = [];
      works = [];
      groups = [];
      is_enabled = true;
      has_ats = not settings.clears_controls;
      has_requests = not settings.clears_controls;
      is_master = not settings.clears_controls;
      time = suc part.time;
    })
    0 (suc part.time) message.ResetDone

-- Nor does it have anything once it is removed; what it has sent may still come.
abbrev pub leave : Part → Option Part
leave part =
    if_so (not part.is_gone)
    (record part { rows = map switched_off part.rows; requests = []; held = []; works = []; groups = []; is_gone = true })
