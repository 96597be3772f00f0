-- What comes of a message that is delivered weighs less than the message.
use Rattle.std.proofs.Common.{◌≡◌, ◌<◌, ◌≤◌, ℕ, suc, ◌+◌, Bool, true, false, Option, Some, None, List, [], ◌∷◌, ◌++◌, refl, arith}
use Rattle.std.proofs.lemmas.List.Sums.{sum_by_push}
use Rattle.std.specs.Prelude.{if◌then◌else◌, filter, position, remove, slice_get, sum_by}
use Rattle.sva_open.specs.declared.frames.Mapping.{Mapping}
use Rattle.sva_open.specs.declared.frames.Target.{Target}
use Rattle.sva_open.specs.declared.frames.Translation.{Translation}
use Rattle.sva_open.specs.declared.scopes.Scope.{Scope}
use Rattle.sva_open.specs.declared.rows.Entry.{Entry}
use Rattle.sva_open.specs.declared.rows.State.{State}
use Rattle.sva_open.specs.declared.rows.State.TheVariants.{Off, On, Stopping, Answering}
use Rattle.sva_open.specs.declared.rows.Row.{Row}
use Rattle.sva_open.specs.declared.messages.Barrier.{Barrier}
use Rattle.sva_open.specs.declared.messages.Message.{Message}
use Rattle.sva_open.specs.declared.messages.Message.TheVariants as message
use Rattle.sva_open.specs.declared.messages.PageRequest.{PageRequest}
use Rattle.sva_open.specs.declared.messages.Sent.{Sent}
use Rattle.sva_open.specs.declared.works.Group.{Group}
use Rattle.sva_open.specs.declared.works.Request.{Request}
use Rattle.sva_open.specs.declared.works.Work.TheVariants.{Taken, Draining}
use Rattle.sva_open.specs.declared.descriptors.Issued.{Issued}
use Rattle.sva_open.specs.declared.descriptors.Issued.TheVariants.{Sent as Issue, Waiting}
use Rattle.sva_open.specs.declared.descriptors.Received.TheVariants.{Request as Asked}
use Rattle.sva_open.specs.declared.settings.Settings.{Settings}
use Rattle.sva_open.specs.World.{Part, is_left, is_other, stopped_by, with_translation}
use Rattle.sva_open.specs.Devices as device
use Rattle.sva_open.specs.Links as link
use Rattle.sva_open.specs.Order.{may_deliver}
use Rattle.sva_open.specs.Units as unit
use Rattle.sva_open_laws.specs.Weights.{descriptor_weight, entry_weight, group_weight, issued_weight, message_weight, part_weight, received_weight}
use Rattle.sva_open_laws.specs.Weights.{sent_weight, state_weight, translation_weight, work_weight}
use Rattle.sva_open_laws.proofs.Weighed.{changed, left_in, less_out, out, put_most}
use Rattle.sva_open_laws.proofs.DevicesPaid.{off_rows, queued, waited}
use Rattle.sva_open_laws.proofs.HostPaid.{IsBelow, same_state, sends, where_so, with_state}

-- ---- to an endpoint

with_most : (held : List Translation) (one : Translation)
    → sum_by translation_weight (with_translation held one) ≤ sum_by translation_weight held + 1
with_most held one =
    let gone = left_in translation_weight (is_other one) held in
    let more = sum_by_push translation_weight (filter (is_other one) held) one in
    omega (arith, gone, more)

most_state : (state : State) → state_weight state ≤ 2
most_state Off = omega arith
most_state On = omega arith
most_state Stopping = omega arith
most_state Answering = omega arith

started : (part : Part) (pasid owner : ℕ) (o : Option Row) → slice_get part.rows pasid ≡ o
    → part_weight (link.told part pasid On owner o) < part_weight part + 1
started part pasid owner None h = omega arith
started part pasid owner (Some row) h =
    let put = with_state part pasid row (record row { state = On; user = owner }) h in
    omega (arith, put)

stopped : (part : Part) (pasid owner : ℕ) (o : Option Row) → slice_get part.rows pasid ≡ o
    → part_weight (link.told_to_stop part pasid owner o) < part_weight part + 3
stopped part pasid owner None h = omega arith
stopped part pasid owner (Some row) h =
    let put = with_state part pasid row (record row { state = stopped_by row.state; user = owner }) h in
    let most = most_state (stopped_by row.state) in
    omega (arith, put, most)

reset : (settings : Settings) (part : Part) → part_weight (device.reset_taken settings part) < part_weight part + 2
reset settings part =
    let less = off_rows part.rows in
    let more = sum_by_push sent_weight part.flight (record { message = message.ResetDone; owner = 0; number = suc part.time }) in
    omega (arith, less, more)

held_most : (held : List Translation) (request : Request) (o : Option Target)
    → sum_by translation_weight (device.held_after held request o) ≤ sum_by translation_weight held + 1
held_most held request None = omega arith
held_most held request (Some target) =
    by_test request.is_doomed (record { pasid = request.pasid; page = request.page; owner = request.owner; target = target })
  where
    by_test : (b : Bool) (one : Translation)
        → sum_by translation_weight (if b then held else with_translation held one) ≤ sum_by translation_weight held + 1
    by_test true one = omega arith
    by_test false one = with_most held one

completed : (part : Part) (tag : ℕ) (target : Option Target) (o : Option (Option Request))
    → part_weight (device.complete part tag target o) < part_weight part + 2
completed part tag target None = omega arith
completed part tag target (Some None) = omega arith
completed part tag target (Some (Some request)) =
    let most = held_most part.held request target in
    omega (arith, most)

invalidated : (part : Part) (itag : ℕ) (scope : Scope) → part_weight (device.invalidated part itag scope) < part_weight part + 3
invalidated part itag scope = by_test part.has_ats
  where
    gone : sum_by translation_weight (filter (is_left scope) part.held) ≤ sum_by translation_weight part.held
    gone = left_in translation_weight (is_left scope) part.held

    more : sum_by work_weight (part.works ++ Taken itag scope ∷ []) ≡ sum_by work_weight part.works + 2
    more = sum_by_push work_weight part.works (Taken itag scope)

    by_test : (b : Bool) → part_weight (if b then device.invalidate part itag scope else part) < part_weight part + 3
    by_test true = omega (arith, gone, more)
    by_test false = omega arith

group_ended : (part : Part) (index : ℕ) (fails : Bool) → part_weight (device.end_group part index fails) < part_weight part + 1
group_ended part index fails =
    let most = put_most group_weight part.groups index None in
    omega (arith, most)

-- what a barrier notes weighs as it did
noted_most : (barrier : Barrier) (o : Option Group) → group_weight (device.begun_noted barrier o) ≤ group_weight o
noted_most barrier None = omega arith
noted_most barrier (Some group) = omega arith

barred : (part : Part) (barrier : Barrier) → part_weight (device.barred part barrier) < part_weight part + 3
barred part barrier =
    let most = changed group_weight group_weight (device.begun_noted barrier) (noted_most barrier) part.groups in
    let more = sum_by_push work_weight part.works (Draining barrier) in
    omega (arith, most, more)

-- ---- to a unit

if_open : (part after : Part) (weight : ℕ) → 0 < weight → part_weight after < part_weight part + weight
    → part_weight (link.if_open part after) < part_weight part + weight
if_open part after weight some h = by_test part.is_open
  where
    by_test : (b : Bool) → part_weight (if b then after else part) < part_weight part + weight
    by_test true = h
    by_test false = omega (arith, some)

kept_by : (part : Part) (pasid page : ℕ) (entry : Entry) (o : Option Target)
    → part_weight (unit.kept_by part pasid page entry o) ≤ part_weight part + 2
kept_by part pasid page entry o = by_target o
  where
    gone : sum_by entry_weight (unit.without_entry pasid part.kept_entries) ≤ sum_by entry_weight part.kept_entries
    gone = left_in entry_weight (unit.is_no_entry_of pasid) part.kept_entries

    more : sum_by entry_weight (unit.without_entry pasid part.kept_entries ++ (record { pasid = pasid; entry = entry }) ∷ [])
        ≡ sum_by entry_weight (unit.without_entry pasid part.kept_entries) + 1
    more = sum_by_push entry_weight (unit.without_entry pasid part.kept_entries) (record { pasid = pasid; entry = entry })

    by_target : (o : Option Target) → part_weight (unit.kept_by part pasid page entry o) ≤ part_weight part + 2
    by_target None = omega (arith, gone, more)
    by_target (Some target) =
        let most = with_most part.kept (record { pasid = pasid; page = page; owner = entry.owner; target = target }) in
        omega (arith, gone, more, most)

keeps : (b : Bool) (part : Part) (pasid page : ℕ) (entry : Option Entry) (target : Option Target)
    → part_weight (unit.keeps b part pasid page entry target) ≤ part_weight part + 2
keeps false part pasid page entry target = omega arith
keeps true part pasid page None target = omega arith
keeps true part pasid page (Some entry) target = kept_by part pasid page entry target

answered : (settings : Settings) (part : Part) (one : Sent) (tag pasid page : ℕ) (entry : Option Entry) (target : Option Target)
    → part_weight (unit.answer_by settings part one tag pasid page entry target) < part_weight part + 5
answered settings part one tag pasid page entry target =
    let most = keeps settings.has_caches part pasid page entry target in
    let more = sends (unit.keeps settings.has_caches part pasid page entry target) one.owner one.number (message.Completion tag page target) in
    omega (arith, most, more)

settled : (part : Part) (place : ℕ) (is_out : Bool) (o : Option Issued) → part_weight (unit.settled part place is_out o) ≤ part_weight part
settled part place true o = omega arith
settled part place false None = omega arith
settled part place false (Some (Issue endpoint itag)) = omega arith
settled part place false (Some (Waiting name drain)) =
    let less = less_out issued_weight part.issued place in
    let same = waited (record part { issued = remove part.issued place }) name drain in
    omega (arith, less, same)

completed_at : (part : Part) (o : Option ℕ) → part_weight (unit.completed_at part o) ≤ part_weight part
completed_at part None = omega arith
completed_at part (Some place) =
    let less = less_out issued_weight part.issued place in
    let rest = settled (unit.without_issued part place) place (unit.is_out_before part.issued place) (slice_get (remove part.issued place) place) in
    omega (arith, less, rest)

itag_completed : (part : Part) (itag : ℕ) → part_weight (unit.complete_itag part itag) < part_weight part + 1
itag_completed part itag =
    let less = completed_at (unit.without_out part itag) (position (unit.has_itag itag) part.issued) in
    let place = left_in descriptor_weight (unit.isnt_out_of itag) part.queue in
    omega (arith, less, place)

arrives : (settings : Settings) (part : Part) (one : Sent) (request : PageRequest)
    → part_weight (link.arrive settings part one request) < part_weight part + 5
arrives settings part one request = by_test settings.drain_empties
  where
    taken : sum_by received_weight (part.received ++ Asked (link.arrived_as part.endpoint one request) ∷ []) ≡ sum_by received_weight part.received + 4
    taken = sum_by_push received_weight part.received (Asked (link.arrived_as part.endpoint one request))

    by_test : (b : Bool) → part_weight (if b then unit.queued settings part (link.arrived_as part.endpoint one request)
        else record part { received = part.received ++ Asked (link.arrived_as part.endpoint one request) ∷ [] }) < part_weight part + 5
    by_test true =
        let most = queued settings part (link.arrived_as part.endpoint one request) in
        omega (arith, most)
    by_test false = omega (arith, taken)

stop_answered : (part : Part) (pasid owner : ℕ) (o : Option Row) → slice_get part.rows pasid ≡ o
    → part_weight (unit.answered_stop part pasid owner o) < part_weight part + 1
stop_answered part pasid owner None h = omega arith
stop_answered part pasid owner (Some row) h =
    let same = same_state part pasid row (record row { answer = Some owner }) h refl in
    omega (arith, same)

-- ---- each message

received : (settings : Settings) (mappings : List Mapping) (part : Part) (one : Sent) (its : Message)
    → part_weight (link.received settings mappings part one its) < part_weight part + message_weight its
received settings mappings part one (message.Start pasid) = started part pasid one.owner (slice_get part.rows pasid) refl
received settings mappings part one (message.Stop pasid) = stopped part pasid one.owner (slice_get part.rows pasid) refl
received settings mappings part one message.Reset = reset settings part
received settings mappings part one (message.Completion tag page target) = completed part tag target (slice_get part.requests tag)
received settings mappings part one (message.Invalidate itag scope) = invalidated part itag scope
received settings mappings part one (message.Response index fails filed) = group_ended part index fails
received settings mappings part one (message.Request tag pasid page) =
    if_open part (unit.answer settings mappings part one tag pasid page) 5 (omega arith)
    (answered settings part one tag pasid page (unit.entry_at part pasid)
    (unit.target_at mappings part pasid page (unit.entry_at part pasid)))
received settings mappings part one (message.Invalidated itag) = if_open part (unit.complete_itag part itag) 1 (omega arith) (itag_completed part itag)
received settings mappings part one (message.PageRequest request) =
    if_open part (link.arrive settings part one request) 5 (omega arith) (arrives settings part one request)
received settings mappings part one (message.Marker pasid) =
    if_open part (unit.answered_stop part pasid one.owner (slice_get part.rows pasid)) 1 (omega arith)
    (stop_answered part pasid one.owner (slice_get part.rows pasid) refl)
received settings mappings part one (message.Status pasid) = stop_answered part pasid one.owner (slice_get part.rows pasid) refl
received settings mappings part one message.ResetDone = omega arith
received settings mappings part one (message.Barrier barrier) = barred part barrier
received settings mappings part one (message.Passed barrier) = omega arith

weighs : (its : Message) → 0 < message_weight its
weighs (message.Start pasid) = omega arith
weighs (message.Stop pasid) = omega arith
weighs message.Reset = omega arith
weighs (message.Completion tag page target) = omega arith
weighs (message.Invalidate itag scope) = omega arith
weighs (message.Response index fails filed) = omega arith
weighs (message.Request tag pasid page) = omega arith
weighs (message.Invalidated itag) = omega arith
weighs (message.PageRequest request) = omega arith
weighs (message.Marker pasid) = omega arith
weighs (message.Status pasid) = omega arith
weighs message.ResetDone = omega arith
weighs (message.Barrier barrier) = omega arith
weighs (message.Passed barrier) = omega arith

taken_in : (settings : Settings) (mappings : List Mapping) (part : Part) (one : Sent)
    → part_weight (link.taken_in settings mappings part one) < part_weight part + message_weight one.message
taken_in settings mappings part one = by_test (link.is_lost part one.message)
  where
    by_test : (b : Bool) → part_weight (if b then part else link.received settings mappings part one one.message)
        < part_weight part + message_weight one.message
    by_test true =
        let some = weighs one.message in
        omega (arith, some)
    by_test false = received settings mappings part one one.message

pub deliver : (settings : Settings) (mappings : List Mapping) (part : Part) (place : ℕ) (o : Option Sent) → slice_get part.flight place ≡ o
    → IsBelow (part_weight part + 0) (link.deliver settings mappings part place o)
deliver settings mappings part place None h = tt
deliver settings mappings part place (Some one) h =
    let gone = out sent_weight part.flight place one h in
    let less = taken_in settings mappings (link.without_sent part place) one in
    where_so _ (may_deliver settings.link part.flight place one.message) (link.taken_in settings mappings (link.without_sent part place) one)
    (λ so. omega (arith, gone, less))
