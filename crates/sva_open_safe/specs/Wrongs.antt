-- What is wrong at a moment, and which of several is told.
use Rattle.std.specs.Prelude.{ℕ, ◌+◌, ◌==◌, ◌&&◌, ◌||◌, not, if◌then◌else◌, Bool, true, false, List, [], ◌∷◌, find, position, slice_get}
use Rattle.std.specs.Prelude.{Option, Some, None, is_some, option_map, option_and_then}
use Rattle.sva_open.specs.World.{Open, Part, is_off, or_else}
use Rattle.sva_open.specs.Host.{is_joined}
use Rattle.sva_open.specs.Checks.{is_freed, is_of_endpoint, is_present}
use Rattle.sva_open.specs.declared.descriptors.Arrived.{Arrived}
use Rattle.sva_open.specs.declared.descriptors.Filed.{Filed}
use Rattle.sva_open.specs.declared.descriptors.Received.{Received}
use Rattle.sva_open.specs.declared.descriptors.Received.TheVariants.{Request as Asked, Drain}
use Rattle.sva_open.specs.declared.frames.Target.{Target}
use Rattle.sva_open.specs.declared.frames.Tenure.{Tenure}
use Rattle.sva_open.specs.declared.frames.Translation.{Translation}
use Rattle.sva_open.specs.declared.messages.Message.{Message}
use Rattle.sva_open.specs.declared.messages.Message.TheVariants as message
use Rattle.sva_open.specs.declared.messages.Sent.{Sent}
use Rattle.sva_open.specs.declared.rows.Entry.{Entry}
use Rattle.sva_open.specs.declared.rows.KeptEntry.{KeptEntry}
use Rattle.sva_open.specs.declared.rows.Row.{Row}
use Rattle.sva_open.specs.declared.settings.Settings.{Settings}
use Rattle.sva_open.specs.declared.works.Group.{Group}
use Rattle.sva_open.specs.declared.works.Request.{Request}
use Rattle.sva_open.specs.declared.works.Work.{Work}
use Rattle.sva_open.specs.declared.works.Work.TheVariants.{Use, Taken, Draining}
use Rattle.sva_open_safe.specs.declared.wrongs.Sort.{Sort}
use Rattle.sva_open_safe.specs.declared.wrongs.Sort.TheVariants as sort
use Rattle.sva_open_safe.specs.declared.wrongs.Thing.{Thing}
use Rattle.sva_open_safe.specs.declared.wrongs.Thing.TheVariants as thing
use Rattle.sva_open_safe.specs.declared.wrongs.Wrong.{Wrong}
use Rattle.sva_open_safe.specs.declared.wrongs.Wrong.TheVariants as wrong

-- what is wrong with the first of a list with which something is
abbrev pub first_in : {X : Type 0} → (X → Option Wrong) → List X → Option Wrong
first_in of list = option_and_then of (find (λ x. is_some (of x)) list)

abbrev pub if_so : Bool → Wrong → Option Wrong
if_so true it = Some it
if_so false it = None

-- ---- Frames

-- another owner was given the frame since; or it was frozen since, and may be written
abbrev pub is_given_away : Target → Option Tenure → Bool
is_given_away target None = true
is_given_away target (Some now) = not (target.tenure.given == now.given)

abbrev pub is_frozen : Target → Option Tenure → Bool
is_frozen target None = true
is_frozen target (Some now) = target.write && not (target.tenure.frozen == now.frozen)

abbrev pub leads_wrong : Sort → Open → Target → Bool
leads_wrong sort.Freed now target = is_given_away target (slice_get now.frames target.frame)
leads_wrong other now target = is_frozen target (slice_get now.frames target.frame)

abbrev pub frame_wrong : Sort → (endpoint : ℕ) → Thing → Target → (page pasid : ℕ) → Wrong
frame_wrong sort.Freed endpoint what target page pasid = wrong.Freed endpoint target.frame what page pasid
frame_wrong other endpoint what target page pasid = wrong.Frozen endpoint target.frame what page pasid

abbrev pub target_wrong : Sort → Open → (endpoint : ℕ) → Thing → Target → (page pasid : ℕ) → Option Wrong
target_wrong of now endpoint what target page pasid =
    if_so (leads_wrong of now target) (frame_wrong of endpoint what target page pasid)

abbrev pub held_wrong : Sort → Open → (endpoint : ℕ) → Translation → Option Wrong
held_wrong of now endpoint held = target_wrong of now endpoint thing.Held held.target held.page held.pasid

abbrev pub work_wrong : Sort → Open → (endpoint : ℕ) → Work → Option Wrong
work_wrong of now endpoint (Use used) = target_wrong of now endpoint thing.Running used.target used.page used.pasid
work_wrong of now endpoint (Taken itag scope) = None
work_wrong of now endpoint (Draining barrier) = None

-- a completion answers a request where no reset came between, and it is of the page that was asked for
abbrev pub answers : (is_of_time : Bool) → (page : ℕ) → Request → Bool
answers timely page request = timely && (page == request.page)

-- a translation in flight leads somewhere where its request waits for it, and isn't doomed
abbrev pub arrives_wrong : Sort → Open → (endpoint : ℕ) → (is_of_time : Bool) → (page : ℕ) → Target → Option (Option Request) → Option Wrong
arrives_wrong of now endpoint timely page target None = None
arrives_wrong of now endpoint timely page target (Some None) = None
arrives_wrong of now endpoint timely page target (Some (Some request)) =
    if answers timely page request && not request.is_doomed
    then target_wrong of now endpoint thing.Completion target request.page request.pasid
    else None

abbrev pub completion_wrong : Sort → Open → (endpoint : ℕ) → Part → (is_of_time : Bool) → Message → Option Wrong
completion_wrong of now endpoint part timely (message.Completion tag page (Some target)) =
    arrives_wrong of now endpoint timely page target (slice_get part.requests tag)
completion_wrong of now endpoint part timely _ = None

abbrev pub sent_wrong : Sort → Open → (endpoint : ℕ) → Part → Sent → Option Wrong
sent_wrong of now endpoint part one = completion_wrong of now endpoint part (one.number == part.time) one.message

abbrev pub frames_wrong : Sort → Open → (endpoint : ℕ) → Part → Option Wrong
frames_wrong of now endpoint part =
    or_else (first_in (held_wrong of now endpoint) part.held)
    (or_else (first_in (work_wrong of now endpoint) part.works)
    (first_in (sent_wrong of now endpoint part) part.flight))

-- ---- What is there of an earlier owner of a PASID

abbrev pub left_of : Part → (endpoint : ℕ) → Thing → (pasid owner : ℕ) → Option Wrong
left_of part endpoint what pasid owner = if_so (not (is_present part pasid owner)) (wrong.Left endpoint what pasid)

abbrev pub held_left : Part → (endpoint : ℕ) → Translation → Option Wrong
held_left part endpoint held = left_of part endpoint thing.Held held.pasid held.owner

abbrev pub work_left : Part → (endpoint : ℕ) → Work → Option Wrong
work_left part endpoint (Use used) = left_of part endpoint thing.Running used.pasid used.owner
work_left part endpoint (Taken itag scope) = None
work_left part endpoint (Draining barrier) = None

abbrev pub request_left : Part → (endpoint : ℕ) → Option Request → Option Wrong
request_left part endpoint None = None
request_left part endpoint (Some request) =
    if request.is_doomed then None else left_of part endpoint thing.Request request.pasid request.owner

-- what flies to a closed unit is dropped there
abbrev pub upward_left : Part → (endpoint : ℕ) → Thing → (pasid owner : ℕ) → Option Wrong
upward_left part endpoint what pasid owner = if part.is_open then left_of part endpoint what pasid owner else None

-- and what flies to an endpoint that is gone, there
abbrev pub downward_left : Part → (endpoint : ℕ) → Thing → (pasid owner : ℕ) → Option Wrong
downward_left part endpoint what pasid owner = if part.is_gone then None else left_of part endpoint what pasid owner

-- a message of this kind
abbrev pub message_left : Part → (endpoint : ℕ) → Thing → (owner : ℕ) → Message → Option Wrong
message_left part endpoint thing.Start owner (message.Start pasid) = downward_left part endpoint thing.Start pasid owner
message_left part endpoint thing.Stop owner (message.Stop pasid) = downward_left part endpoint thing.Stop pasid owner
message_left part endpoint thing.PageRequest owner (message.PageRequest request) =
    upward_left part endpoint thing.PageRequest request.pasid owner
message_left part endpoint thing.Marker owner (message.Marker pasid) =
    upward_left part endpoint thing.Marker pasid owner
message_left part endpoint thing.Status owner (message.Status pasid) = left_of part endpoint thing.Status pasid owner
message_left part endpoint what owner _ = None

abbrev pub one_left : Part → (endpoint : ℕ) → Thing → Sent → Option Wrong
one_left part endpoint what one = message_left part endpoint what one.owner one.message

abbrev pub flight_left : Part → (endpoint : ℕ) → Thing → Option Wrong
flight_left part endpoint what = first_in (one_left part endpoint what) part.flight

abbrev pub arrived_left : Part → (endpoint : ℕ) → Arrived → Option Wrong
arrived_left part endpoint one =
    if is_of_endpoint part.endpoint one then left_of part endpoint thing.Queued one.request.pasid one.owner else None

abbrev pub received_left : Part → (endpoint : ℕ) → Received → Option Wrong
received_left part endpoint (Asked one) =
    if is_of_endpoint part.endpoint one then left_of part endpoint thing.Received one.request.pasid one.owner else None
received_left part endpoint (Drain name) = None

-- a whole group that a worker has to serve
abbrev pub filed_left : Settings → Part → (endpoint : ℕ) → Filed → Option Wrong
filed_left settings part endpoint filed =
    if settings.has_workers && filed.is_whole then left_of part endpoint thing.Filed filed.pasid filed.owner else None

abbrev pub is_other : (owner : ℕ) → Option ℕ → Bool
is_other owner None = false
is_other owner (Some own) = not (own == owner)

abbrev pub is_answer_left : Row → Bool
is_answer_left row = is_other row.owner row.answer

abbrev pub is_entry_left : Row → Bool
is_entry_left row = is_other row.owner (option_map (λ (entry : Entry). entry.owner) row.entry)

abbrev pub answer_left : (endpoint : ℕ) → Part → Option Wrong
answer_left endpoint part = option_map (λ pasid. wrong.Left endpoint thing.Answer pasid) (position is_answer_left part.rows)

abbrev pub entry_left : (endpoint : ℕ) → Part → Option Wrong
entry_left endpoint part = option_map (λ pasid. wrong.Left endpoint thing.Entry pasid) (position is_entry_left part.rows)

abbrev pub kept_entry_left : Part → (endpoint : ℕ) → KeptEntry → Option Wrong
kept_entry_left part endpoint kept = left_of part endpoint thing.KeptEntry kept.pasid kept.entry.owner

abbrev pub kept_left : Part → (endpoint : ℕ) → Translation → Option Wrong
kept_left part endpoint kept = left_of part endpoint thing.Kept kept.pasid kept.owner

abbrev pub device_left : (endpoint : ℕ) → Part → Option Wrong
device_left endpoint part =
    or_else (first_in (held_left part endpoint) part.held)
    (or_else (first_in (work_left part endpoint) part.works) (first_in (request_left part endpoint) part.requests))

abbrev pub sent_left : (endpoint : ℕ) → Part → Option Wrong
sent_left endpoint part =
    or_else (flight_left part endpoint thing.Start)
    (or_else (flight_left part endpoint thing.Stop)
    (or_else (flight_left part endpoint thing.PageRequest)
    (or_else (first_in (received_left part endpoint) part.received)
    (or_else (first_in (arrived_left part endpoint) part.arrived)
    (or_else (flight_left part endpoint thing.Marker) (flight_left part endpoint thing.Status))))))

abbrev pub host_left : Settings → (endpoint : ℕ) → Part → Option Wrong
host_left settings endpoint part =
    or_else (answer_left endpoint part)
    (or_else (entry_left endpoint part)
    (or_else (first_in (kept_entry_left part endpoint) part.kept_entries)
    (or_else (first_in (kept_left part endpoint) part.kept) (first_in (filed_left settings part endpoint) part.filed))))

abbrev pub left : Settings → (endpoint : ℕ) → Part → Option Wrong
left settings endpoint part =
    or_else (device_left endpoint part) (or_else (sent_left endpoint part) (host_left settings endpoint part))

abbrev pub is_going : Row → Bool
is_going row = not (is_off row.state || (row.user == row.owner))

abbrev pub goes : (endpoint : ℕ) → Part → Option Wrong
goes endpoint part = option_map (λ pasid. wrong.Goes endpoint pasid) (position is_going part.rows)

-- ---- Tables

abbrev pub entry_walked : List ℕ → (endpoint pasid : ℕ) → Option Entry → Option Wrong
entry_walked freed endpoint pasid None = None
entry_walked freed endpoint pasid (Some entry) =
    if_so (is_freed freed entry.space) (wrong.Walks endpoint entry.space false pasid)

abbrev pub is_walked : List ℕ → Row → Bool
is_walked freed row = is_some (entry_walked freed 0 0 row.entry)

abbrev pub row_walked : List ℕ → (endpoint pasid : ℕ) → Option Row → Option Wrong
row_walked freed endpoint pasid None = None
row_walked freed endpoint pasid (Some row) = entry_walked freed endpoint pasid row.entry

abbrev pub rows_walked : List ℕ → (endpoint : ℕ) → Part → Option ℕ → Option Wrong
rows_walked freed endpoint part None = None
rows_walked freed endpoint part (Some pasid) = row_walked freed endpoint pasid (slice_get part.rows pasid)

abbrev pub kept_walked : List ℕ → (endpoint : ℕ) → KeptEntry → Option Wrong
kept_walked freed endpoint kept = if_so (is_freed freed kept.entry.space) (wrong.Walks endpoint kept.entry.space true kept.pasid)

-- by a space whose domain was freed a worker serves no group
abbrev pub space_served : (domains : List ℕ) → (endpoint pasid : ℕ) → Option ℕ → Option Wrong
space_served domains endpoint pasid None = None
space_served domains endpoint pasid (Some space) = if_so (is_freed domains space) (wrong.Serves endpoint space pasid)

abbrev pub filed_served : Settings → (domains : List ℕ) → (endpoint : ℕ) → Filed → Option Wrong
filed_served settings domains endpoint filed =
    if settings.has_workers && filed.is_whole then space_served domains endpoint filed.pasid filed.space else None

abbrev pub walks : Settings → (freed domains : List ℕ) → (endpoint : ℕ) → Part → Option Wrong
walks settings freed domains endpoint part =
    or_else (rows_walked freed endpoint part (position (is_walked freed) part.rows))
    (or_else (first_in (kept_walked freed endpoint) part.kept_entries) (first_in (filed_served settings domains endpoint) part.filed))

-- ---- Messages

-- where a response may find no group, nothing is wrong with one that finds none
abbrev pub group_met : (allows_none : Bool) → (endpoint index : ℕ) → (filed : Bool) → (number : ℕ) → Option (Option Group) → Option Wrong
group_met allows endpoint index filed number None = if_so (not allows) (wrong.NoGroup endpoint index)
group_met allows endpoint index filed number (Some None) = if_so (not allows) (wrong.NoGroup endpoint index)
group_met allows endpoint index filed number (Some (Some group)) =
    if filed && (number == group.number)
    then if_so (not group.is_finished) (wrong.Unfinished endpoint index)
    else Some (wrong.OtherGroup endpoint index)

-- it may where the platform allows that, and where the endpoint is gone
abbrev pub may_find_none : Settings → Part → Bool
may_find_none settings part = settings.allows_no_group || part.is_gone

abbrev pub response_met : Settings → Part → (endpoint number : ℕ) → Message → Option Wrong
response_met settings part endpoint number (message.Response index fails filed) =
    group_met (may_find_none settings part) endpoint index filed number (slice_get part.groups index)
response_met settings part endpoint number _ = None

abbrev pub one_met : Settings → Part → (endpoint : ℕ) → Sent → Option Wrong
one_met settings part endpoint one = response_met settings part endpoint one.number one.message

abbrev pub joined_by : (endpoint : ℕ) → Arrived → Filed → Option Wrong
joined_by endpoint one filed =
    if_so (is_joined one.request filed && not (filed.number == one.number)) (wrong.Joins endpoint one.request.pasid one.request.index)

abbrev pub joins : Part → (endpoint : ℕ) → Option Arrived → Option Wrong
joins part endpoint None = None
joins part endpoint (Some one) = if is_of_endpoint part.endpoint one then first_in (joined_by endpoint one) part.filed else None

abbrev pub request_met : (endpoint tag : ℕ) → (is_of_time : Bool) → (page : ℕ) → Option (Option Request) → Option Wrong
request_met endpoint tag timely page None = None
request_met endpoint tag timely page (Some None) = None
request_met endpoint tag timely page (Some (Some request)) = if_so (not (answers timely page request)) (wrong.OtherRequest endpoint tag)

abbrev pub completion_met : Part → (endpoint : ℕ) → (is_of_time : Bool) → Message → Option Wrong
completion_met part endpoint timely (message.Completion tag page target) = request_met endpoint tag timely page (slice_get part.requests tag)
completion_met part endpoint timely _ = None

abbrev pub answer_met : Part → (endpoint : ℕ) → Sent → Option Wrong
answer_met part endpoint one = completion_met part endpoint (one.number == part.time) one.message

-- ---- The whole

abbrev pub wrong_at : Open → Sort → (endpoint : ℕ) → Part → Option Wrong
wrong_at now sort.Freed endpoint part = frames_wrong sort.Freed now endpoint part
wrong_at now sort.Frozen endpoint part = frames_wrong sort.Frozen now endpoint part
wrong_at now sort.Left endpoint part = left now.settings endpoint part
wrong_at now sort.Goes endpoint part = goes endpoint part
wrong_at now sort.Walks endpoint part = walks now.settings now.freed now.domains endpoint part
wrong_at now sort.Responses endpoint part = first_in (one_met now.settings part endpoint) part.flight
wrong_at now sort.Joins endpoint part = joins part endpoint (slice_get part.arrived 0)
wrong_at now sort.Requests endpoint part = first_in (answer_met part endpoint) part.flight

unfoldable pub first_from : Open → Sort → (endpoint : ℕ) → List Part → Option Wrong
first_from now of endpoint [] = None
first_from now of endpoint (part ∷ parts) = or_else (wrong_at now of endpoint part) (first_from now of (endpoint + 1) parts)

abbrev pub first_of : Open → Sort → Option Wrong
first_of now of = first_from now of 0 now.parts

-- in which order it is told
abbrev pub first_wrong : Open → Option Wrong
first_wrong now =
    or_else (first_of now sort.Freed)
    (or_else (first_of now sort.Frozen)
    (or_else (first_of now sort.Left)
    (or_else (first_of now sort.Goes)
    (or_else (first_of now sort.Walks)
    (or_else (first_of now sort.Responses) (or_else (first_of now sort.Joins) (first_of now sort.Requests)))))))
