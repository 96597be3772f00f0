-- What each act of an endpoint leaves weighs less than what was there, with its price; and so does what a unit does by itself.
use Rattle.std.proofs.Common.{◌≡◌, ◌<◌, ◌≤◌, ℕ, ◌+◌, Bool, true, false, Option, Some, None, List, [], ◌∷◌, ◌++◌, map, refl, ap, arith}
use Rattle.std.proofs.lemmas.Bool.{and_parts, not-true}
use Rattle.std.proofs.lemmas.List.{take-append-drop}
use Rattle.std.proofs.lemmas.List.Sums.{sum_by-append, sum_by_push}
use Rattle.std.specs.Prelude.{◌==◌, ◌&&◌, not, if◌then◌else◌, drop, filter, find, is_none, length, position, remove, slice_get, slice_set, sum_by, take}
use Rattle.std.specs.List.{list_any}
use Rattle.sva_step.specs.Limits
use Rattle.sva_open.specs.declared.frames.Translation.{Translation}
use Rattle.sva_open.specs.declared.scopes.Scope.{Scope}
use Rattle.sva_open.specs.declared.rows.State.{State}
use Rattle.sva_open.specs.declared.rows.State.TheVariants.{Off, On, Stopping, Answering}
use Rattle.sva_open.specs.declared.rows.KeptEntry.{KeptEntry}
use Rattle.sva_open.specs.declared.rows.Row.{Row}
use Rattle.sva_open.specs.declared.messages.Barrier.{Barrier}
use Rattle.sva_open.specs.declared.messages.Message.TheVariants as message
use Rattle.sva_open.specs.declared.works.Group.{Group}
use Rattle.sva_open.specs.declared.works.Work.{Work}
use Rattle.sva_open.specs.declared.works.Work.TheVariants.{Use, Taken, Draining}
use Rattle.sva_open.specs.declared.descriptors.Arrived.{Arrived}
use Rattle.sva_open.specs.declared.descriptors.Descriptor.{Descriptor}
use Rattle.sva_open.specs.declared.descriptors.Descriptor.TheVariants as descriptor
use Rattle.sva_open.specs.declared.descriptors.Issued.{Issued}
use Rattle.sva_open.specs.declared.descriptors.Issued.TheVariants.{Sent as Issue, Waiting}
use Rattle.sva_open.specs.declared.descriptors.Received.{Received}
use Rattle.sva_open.specs.declared.descriptors.Received.TheVariants.{Request as Asked, Drain}
use Rattle.sva_open.specs.declared.acts.Control.{Control}
use Rattle.sva_open.specs.declared.acts.Control.TheVariants.{Ats, PageRequests, Mastering}
use Rattle.sva_open.specs.declared.settings.Settings.{Settings}
use Rattle.sva_open.specs.declared.settings.Stopped.{Stopped}
use Rattle.sva_open.specs.declared.settings.Stopped.TheVariants.{Marker, Status, Known}
use Rattle.sva_open.specs.World.{Part, is_left, is_of, is_stopping, lowest_free, put, put_at, sent, with_row}
use Rattle.sva_open.specs.Devices as device
use Rattle.sva_open.specs.Units as unit
use Rattle.sva_open_laws.specs.Weights.{arrived_weight, descriptor_weight, entry_weight, further_price, group_weight, issued_weight, part_weight}
use Rattle.sva_open_laws.specs.Weights.{presence_weight, received_weight, row_weight, sent_weight, state_weight}
use Rattle.sva_open_laws.specs.Weights.{translation_weight, unfinished_weight, work_weight}
use Rattle.sva_open_laws.proofs.Weighed.{behind, changed, left_in, left_less, less_out, out, placed, put_in, put_most}
use Rattle.sva_open_laws.proofs.HostPaid.{IsBelow, sends, where_so, with_state}

-- ---- to ask, to use, to let go

pub ask : (part : Part) (pasid page : ℕ) (o : Option Row) → IsBelow (part_weight part + 6) (device.ask part pasid page o)
ask part pasid page None = tt
ask part pasid page (Some row) =
    let asked = record part { requests = put part.requests (record { pasid = pasid; page = page; owner = row.user; is_doomed = false; noted = None }) } in
    let more = sends asked row.user part.time (message.Request (lowest_free part.requests) pasid page) in
    where_so _ (device.may_access part row) (sent asked row.user part.time (message.Request (lowest_free part.requests) pasid page))
    (λ so. omega (arith, more))

begin_use : (part : Part) (row : Option Row) (held : Option Translation) → IsBelow (part_weight part + 2) (device.begin_use part row held)
begin_use part None held = tt
begin_use part (Some row) None = tt
begin_use part (Some row) (Some translation) =
    let more = sum_by_push work_weight part.works (Use translation) in
    where_so _ (device.may_access part row) (record part { works = part.works ++ Use translation ∷ [] }) (λ so. omega (arith, more))

pub use_of : (part : Part) (pasid page : ℕ) → IsBelow (part_weight part + 2) (device.use_of part pasid page)
use_of part pasid page = begin_use part (slice_get part.rows pasid) (find (is_of pasid page) part.held)

pub end_use : (part : Part) (place : ℕ) (o : Option Work) → slice_get part.works place ≡ o → IsBelow (part_weight part + 0) (device.end_use part place o)
end_use part place None h = tt
end_use part place (Some (Use translation)) h =
    let less = out work_weight part.works place (Use translation) h in
    omega (arith, less)
end_use part place (Some (Taken itag scope)) h = tt
end_use part place (Some (Draining barrier)) h = tt

evicted : (part : Part) (pasid page : ℕ) (o : Option ℕ) → position (is_of pasid page) part.held ≡ o → IsBelow (part_weight part + 0) (device.evict part o)
evicted part pasid page None h = tt
evicted part pasid page (Some place) h =
    let its = placed (is_of pasid page) part.held place h in
    let less = out translation_weight part.held place its.0 its.1 in
    omega (arith, less)

pub evict : (part : Part) (pasid page : ℕ) → IsBelow (part_weight part + 0) (device.evict part (position (is_of pasid page) part.held))
evict part pasid page = evicted part pasid page (position (is_of pasid page) part.held) refl

-- ---- page requests

put_group : (groups : List (Option Group)) (group : Group) (o : Option ℕ)
    → sum_by group_weight (put_at groups group o) ≤ sum_by group_weight groups + unfinished_weight group.is_finished
put_group groups group None =
    let more = sum_by_push group_weight groups (Some group) in
    omega (arith, more)
put_group groups group (Some place) =
    let most = put_most group_weight groups place (Some group) in
    omega (arith, most)

most_unfinished : (is_finished : Bool) → unfinished_weight is_finished ≤ 6
most_unfinished true = omega arith
most_unfinished false = omega arith

pub fault : (part : Part) (pasid page : ℕ) (write last : Bool) (number : ℕ) (o : Option Row)
    → IsBelow (part_weight part + 12) (device.fault part pasid page write last number o)
fault part pasid page write last number None = tt
fault part pasid page write last number (Some row) =
    let group : Group = record { pasid = pasid; owner = row.user; number = number; is_finished = last; noted = None } in
    let begun = record part { groups = put part.groups group } in
    let one = message.PageRequest (record { pasid = pasid; index = lowest_free part.groups; page = page; write = write; last = last }) in
    let most = put_group part.groups group (position is_none part.groups) in
    let its = most_unfinished last in
    let more = sends begun row.user number one in
    where_so _ (device.may_fault part row) (sent begun row.user number one) (λ so. omega (arith, most, its, more))

-- the last one is paid by the group, which is finished then
further : (finished last : Bool) → finished ≡ false → unfinished_weight last + 5 < unfinished_weight finished + further_price last
further false true h = omega arith
further false false h = omega arith
further true last h = absurd (cc)

pub more : (part : Part) (index page : ℕ) (write last : Bool) (o : Option (Option Group)) → slice_get part.groups index ≡ o
    → IsBelow (part_weight part + further_price last) (device.more part index page write last o)
more part index page write last None h = tt
more part index page write last (Some None) h = tt
more part index page write last (Some (Some group)) h =
    let gone_on = record part { groups = slice_set part.groups index (Some (record group { is_finished = last })) } in
    let one = message.PageRequest (record { pasid = group.pasid; index = index; page = page; write = write; last = last }) in
    let put_there = put_in group_weight part.groups index (Some group) (Some (record group { is_finished = last })) h in
    let added = sends gone_on group.owner group.number one in
    where_so _ (not group.is_finished && part.is_enabled) (sent gone_on group.owner group.number one)
    (λ so.
    let paid = further group.is_finished last (not-true group.is_finished (and_parts (not group.is_finished) part.is_enabled so).0) in
    omega (arith, put_there, added, paid))

-- ---- to complete an invalidation, to pass a barrier, to quit a PASID, to be turned on and off, and to go

pub finish : (part : Part) (place : ℕ) (o : Option Work) → slice_get part.works place ≡ o → IsBelow (part_weight part + 0) (device.finish part place o)
finish part place None h = tt
finish part place (Some (Use translation)) h = tt
finish part place (Some (Taken itag scope)) h =
    let less = out work_weight part.works place (Taken itag scope) h in
    let added = sends (record part { works = remove part.works place }) 0 part.time (message.Invalidated itag) in
    where_so _ _ (sent (record part { works = remove part.works place }) 0 part.time (message.Invalidated itag)) (λ so. omega (arith, less, added))
finish part place (Some (Draining barrier)) h = tt

barrier_passed : (stopped : Stopped) (part : Part) (barrier : Barrier) → part_weight (device.passed stopped part barrier) ≤ part_weight part + 1
barrier_passed Marker part barrier =
    let added = sends part 0 part.time (message.Passed barrier) in
    omega (arith, added)
barrier_passed Status part barrier =
    let added = sends part 0 part.time (message.Passed barrier) in
    omega (arith, added)
barrier_passed Known part barrier = omega arith

pub pass_barrier : (stopped : Stopped) (part : Part) (place : ℕ) (o : Option Work) → slice_get part.works place ≡ o
    → IsBelow (part_weight part + 0) (device.pass stopped part place o)
pass_barrier stopped part place None h = tt
pass_barrier stopped part place (Some (Use translation)) h = tt
pass_barrier stopped part place (Some (Taken itag scope)) h = tt
pass_barrier stopped part place (Some (Draining barrier)) h =
    let less = out work_weight part.works place (Draining barrier) h in
    let most = barrier_passed stopped (record part { works = remove part.works place }) barrier in
    where_so _ _ (device.passed stopped (record part { works = remove part.works place }) barrier) (λ so. omega (arith, less, most))

stopping_weight : (state : State) → is_stopping state ≡ true → state_weight state ≡ 2
stopping_weight Off h = absurd (cc)
stopping_weight On h = absurd (cc)
stopping_weight Stopping h = refl
stopping_weight Answering h = refl

said : (stopped : Stopped) (part : Part) (pasid : ℕ) (row : Row) → slice_get part.rows pasid ≡ Some row → state_weight row.state ≡ 2
    → part_weight (device.said stopped part pasid row) < part_weight part
said Marker part pasid row h is =
    let off = with_state part pasid row (record row { state = Off }) h in
    let added = sends (with_row part pasid (record row { state = Off })) row.user part.time (message.Marker pasid) in
    omega (arith, off, added, is)
said Status part pasid row h is =
    let off = with_state part pasid row (record row { state = Off }) h in
    let added = sends (with_row part pasid (record row { state = Off })) row.user part.time (message.Status pasid) in
    omega (arith, off, added, is)
said Known part pasid row h is =
    let off = with_state part pasid row (record row { state = Off; answer = Some row.user }) h in
    omega (arith, off, is)

pub quit : (stopped : Stopped) (part : Part) (pasid : ℕ) (o : Option Row) → slice_get part.rows pasid ≡ o
    → IsBelow (part_weight part + 0) (device.quit stopped part pasid o)
quit stopped part pasid None h = tt
quit stopped part pasid (Some row) h =
    where_so _ (is_stopping row.state && not (device.is_busy part pasid)) (device.said stopped part pasid row)
    (λ so.
    let is = stopping_weight row.state (and_parts (is_stopping row.state) (not (device.is_busy part pasid)) so).0 in
    let less = said stopped part pasid row h is in
    omega (arith, less))

pub turned : (part : Part) (control : Control) (on : Bool) → part_weight (device.turned part control on) < part_weight part + 1
turned part Ats true = omega arith
turned part Ats false = omega arith
turned part PageRequests true = omega arith
turned part PageRequests false = omega arith
turned part Mastering on = omega arith

pub off_rows : (rows : List Row) → sum_by row_weight (map device.switched_off rows) ≤ sum_by row_weight rows
off_rows rows = changed row_weight row_weight device.switched_off (λ row. omega arith) rows

pub leave : (part : Part) → IsBelow (part_weight part + 0) (device.leave part)
leave part =
    let less = off_rows part.rows in
    where_so _ (not part.is_gone)
    (record part { rows = map device.switched_off part.rows; requests = []; held = []; works = []; groups = []; is_gone = true })
    (λ so.
    let here : presence_weight part.is_gone ≡ 1 = ap presence_weight (not-true part.is_gone so) in
    omega (arith, less, here))

-- ---- the unit: the invalidation queue

issue : (part : Part) (endpoint : ℕ) (scope : Scope) (o : Option ℕ) → slice_get part.queue 0 ≡ Some (descriptor.Device endpoint scope)
    → IsBelow (part_weight part + 0) (unit.issue part scope o)
issue part endpoint scope None h = tt
issue part endpoint scope (Some itag) h =
    let less = out descriptor_weight part.queue 0 (descriptor.Device endpoint scope) h in
    let one = Issue part.endpoint itag in
    let issued = sum_by_push issued_weight part.issued one in
    let added = sends (record (unit.shifted part) { issued = part.issued ++ one ∷ [] }) 0 part.time (message.Invalidate itag scope) in
    omega (arith, less, issued, added)

-- a wait that drains weighs nothing
pub waited : (part : Part) (name : ℕ) (drain : Bool) → part_weight (unit.waited part name drain) ≡ part_weight part
waited part name drain = by_test (drain && list_any unit.is_received part.received)
  where
    added : sum_by received_weight (part.received ++ Drain name ∷ []) ≡ sum_by received_weight part.received + 0
    added = sum_by_push received_weight part.received (Drain name)

    by_test : (b : Bool) → part_weight (if b then record part { received = part.received ++ Drain name ∷ [] } else part) ≡ part_weight part
    by_test true = omega (arith, added)
    by_test false = refl

pass : (part : Part) (name : ℕ) (drain : Bool) → part_weight (unit.pass part name drain) ≡ part_weight (unit.shifted part)
pass part name drain = by_test (unit.is_out_before part.issued _)
  where
    added : sum_by issued_weight (part.issued ++ Waiting name drain ∷ []) ≡ sum_by issued_weight part.issued + 0
    added = sum_by_push issued_weight part.issued (Waiting name drain)

    by_test : (b : Bool) → part_weight (if b then record (unit.shifted part) { issued = part.issued ++ Waiting name drain ∷ [] }
        else unit.waited (unit.shifted part) name drain) ≡ part_weight (unit.shifted part)
    by_test true = omega (arith, added)
    by_test false = waited (unit.shifted part) name drain

pump_head : (settings : Settings) (part : Part) (o : Option Descriptor) → slice_get part.queue 0 ≡ o
    → IsBelow (part_weight part + 0) (unit.pump_head settings part o)
pump_head settings part None h = tt
pump_head settings part (Some (descriptor.Device endpoint scope)) h =
    issue part endpoint scope (unit.free_itag part.issued Limits.itags 0) h
pump_head settings part (Some (descriptor.Translations endpoint scope)) h =
    let less = out descriptor_weight part.queue 0 (descriptor.Translations endpoint scope) h in
    let gone = left_in translation_weight (is_left scope) part.kept in
    omega (arith, less, gone)
pump_head settings part (Some (descriptor.Entry endpoint pasid)) h =
    let less = out descriptor_weight part.queue 0 (descriptor.Entry endpoint pasid) h in
    let gone = left_in entry_weight (unit.is_no_entry_of pasid) part.kept_entries in
    omega (arith, less, gone)
pump_head settings part (Some (descriptor.Wait name drain fence)) h =
    let less = out descriptor_weight part.queue 0 (descriptor.Wait name drain fence) h in
    let passed = pass part name drain in
    where_so _ (unit.may_pass settings part drain fence) (unit.pass part name drain) (λ so. omega (arith, less, passed))
pump_head settings part (Some (descriptor.Out itag)) h = tt

pub pump : (settings : Settings) (part : Part) → IsBelow (part_weight part + 0) (unit.pump settings part)
pump settings part = by_test (not settings.is_loose && unit.takes part)
  where
    by_test : (b : Bool) → IsBelow (part_weight part + 0) (if b then unit.pump_head settings part (slice_get part.queue 0) else None)
    by_test true = pump_head settings part (slice_get part.queue 0) refl
    by_test false = tt

issue_at : (part : Part) (place endpoint : ℕ) (scope : Scope) (o : Option ℕ)
    → slice_get part.queue place ≡ Some (descriptor.Device endpoint scope) → IsBelow (part_weight part + 0) (unit.issue_at part place scope o)
issue_at part place endpoint scope None h = tt
issue_at part place endpoint scope (Some itag) h =
    let put = put_in descriptor_weight part.queue place (descriptor.Device endpoint scope) (descriptor.Out itag) h in
    let one = Issue part.endpoint itag in
    let issued = sum_by_push issued_weight part.issued one in
    let added = sends
    (record part { queue = slice_set part.queue place (descriptor.Out itag); issued = part.issued ++ one ∷ [] })
    0 part.time (message.Invalidate itag scope) in
    omega (arith, put, issued, added)

pump_one : (settings : Settings) (part : Part) (place : ℕ) (one : Descriptor) → slice_get part.queue place ≡ Some one
    → IsBelow (part_weight part + 0) (unit.pump_one settings part place one)
pump_one settings part place (descriptor.Device endpoint scope) h =
    issue_at part place endpoint scope (unit.free_itag part.issued Limits.itags 0) h
pump_one settings part place (descriptor.Translations endpoint scope) h =
    let less = out descriptor_weight part.queue place (descriptor.Translations endpoint scope) h in
    let gone = left_in translation_weight (is_left scope) part.kept in
    omega (arith, less, gone)
pump_one settings part place (descriptor.Entry endpoint pasid) h =
    let less = out descriptor_weight part.queue place (descriptor.Entry endpoint pasid) h in
    let gone = left_in entry_weight (unit.is_no_entry_of pasid) part.kept_entries in
    omega (arith, less, gone)
pump_one settings part place (descriptor.Wait name drain fence) h =
    let less = out descriptor_weight part.queue place (descriptor.Wait name drain fence) h in
    let done = waited (unit.taken_out part place) name drain in
    where_so _ (unit.may_pass_at settings part place drain fence) (unit.waited (unit.taken_out part place) name drain)
    (λ so. omega (arith, less, done))
pump_one settings part place (descriptor.Out itag) h = tt

pump_there : (settings : Settings) (part : Part) (place : ℕ) (o : Option Descriptor) → slice_get part.queue place ≡ o
    → IsBelow (part_weight part + 0) (unit.pump_there settings part place o)
pump_there settings part place None h = tt
pump_there settings part place (Some one) h = unless (unit.is_barred settings part.queue place one)
  where
    unless : (b : Bool) → IsBelow (part_weight part + 0) (if b then None else unit.pump_one settings part place one)
    unless true = tt
    unless false = pump_one settings part place one h

pub pump_at : (settings : Settings) (part : Part) (place : ℕ) → IsBelow (part_weight part + 0) (unit.pump_at settings part place)
pump_at settings part place = by_test (settings.is_loose && unit.takes part)
  where
    by_test : (b : Bool) → IsBelow (part_weight part + 0) (if b then unit.pump_there settings part place (slice_get part.queue place) else None)
    by_test true = pump_there settings part place (slice_get part.queue place) refl
    by_test false = tt

-- ---- what isn't answered in time, what is written, and what is dropped

head_left : (settings : Settings) (part : Part) (head : Option Descriptor)
    → sum_by descriptor_weight (unit.head_left settings part head) ≤ sum_by descriptor_weight part.queue
head_left settings part head = by_test (unit.bars settings part head)
  where
    by_test : (b : Bool) → sum_by descriptor_weight (if b then remove part.queue 0 else part.queue) ≤ sum_by descriptor_weight part.queue
    by_test true = less_out descriptor_weight part.queue 0
    by_test false = omega arith

-- the waits that the unit has fetched go
without_waits : (many : ℕ) (queue : List Descriptor)
    → sum_by descriptor_weight (unit.without_waits many queue) ≤ sum_by descriptor_weight queue
without_waits many queue =
    let gone = left_in descriptor_weight unit.isnt_wait (take many queue) in
    let left = sum_by-append descriptor_weight (filter unit.isnt_wait (take many queue)) (drop many queue) in
    let whole = sum_by-append descriptor_weight (take many queue) (drop many queue) in
    let same = ap (sum_by descriptor_weight) (take-append-drop many queue) in
    omega (arith, gone, left, whole, same)

queue_left : (settings : Settings) (part : Part) (itag : ℕ)
    → sum_by descriptor_weight (unit.queue_left settings part itag) ≤ sum_by descriptor_weight part.queue
queue_left settings part itag = by_test settings.is_loose
  where
    by_test : (b : Bool) → sum_by descriptor_weight
        (if b then filter (unit.isnt_out_of itag) (unit.without_waits (unit.fetched settings part.queue) part.queue)
        else unit.head_left settings part (slice_get part.queue 0))
        ≤ sum_by descriptor_weight part.queue
    by_test true =
        let gone = without_waits (unit.fetched settings part.queue) part.queue in
        let place = left_in descriptor_weight (unit.isnt_out_of itag) (unit.without_waits (unit.fetched settings part.queue) part.queue) in
        omega (arith, gone, place)
    by_test false = head_left settings part (slice_get part.queue 0)

of_itag_goes : (endpoint itag : ℕ) (one : Issued) → unit.is_sent_to endpoint itag one ≡ true → unit.is_other_sent itag one ≡ false
of_itag_goes endpoint itag (Issue own other) h = ap not (and_parts (own == endpoint) (other == itag) h).1
of_itag_goes endpoint itag (Waiting name drain) h = absurd (cc)

of_itag_weighs : (endpoint itag : ℕ) (one : Issued) → unit.is_sent_to endpoint itag one ≡ true → 0 < issued_weight one
of_itag_weighs endpoint itag (Issue own other) h = omega arith
of_itag_weighs endpoint itag (Waiting name drain) h = absurd (cc)

expired : (settings : Settings) (part : Part) (itag : ℕ) → list_any (unit.is_sent_to part.endpoint itag) part.issued ≡ true
    → part_weight (unit.expired settings part itag) < part_weight part
expired settings part itag is =
    let works = left_in work_weight (unit.isnt_taken_of itag) part.works in
    let flight = left_in sent_weight (unit.isnt_sent_of itag) part.flight in
    let queue = queue_left settings part itag in
    let issued = left_less issued_weight (unit.is_other_sent itag) (unit.is_sent_to part.endpoint itag)
    (of_itag_goes part.endpoint itag) (of_itag_weighs part.endpoint itag) part.issued is in
    omega (arith, works, flight, queue, issued)

pub expire : (settings : Settings) (part : Part) (itag : ℕ) (silent : Bool) → IsBelow (part_weight part + 0) (unit.expire settings part itag silent)
expire settings part itag silent =
    where_so _ (unit.may_expire settings part itag silent) (unit.expired settings part itag)
    (λ so.
    let rest = (and_parts (unit.is_timed settings.timeouts && unit.takes part) _ so).1 in
    let its = (and_parts (unit.takes_none settings part) _ rest).1 in
    let is = (and_parts (list_any (unit.is_sent_to part.endpoint itag) part.issued) _ its).0 in
    let less = expired settings part itag is in
    omega (arith, less))

without_drains : (received : List Received) → sum_by received_weight (unit.without_drains received) ≤ sum_by received_weight received
without_drains received = from (position unit.is_received received)
  where
    from : (o : Option ℕ) → sum_by received_weight (unit.from_request received o) ≤ sum_by received_weight received
    from None = omega arith
    from (Some place) = behind received_weight received place

answered_if : (last : Bool) (part : Part) (one : Arrived) → part_weight (unit.answered_if last part one) ≤ part_weight part + 1
answered_if true part one =
    let added = sends part 0 one.number (message.Response one.request.index false true) in
    omega (arith, added)
answered_if false part one = omega arith

pub queued : (settings : Settings) (part : Part) (one : Arrived) → part_weight (unit.queued settings part one) ≤ part_weight part + 3
queued settings part one = by_test (unit.is_full settings.places part.has_overflowed (length part.arrived))
  where
    added : sum_by arrived_weight (part.arrived ++ one ∷ []) ≡ sum_by arrived_weight part.arrived + 3
    added = sum_by_push arrived_weight part.arrived one

    by_test : (b : Bool) → part_weight (if b then unit.overflowed part one else record part { arrived = part.arrived ++ one ∷ [] }) ≤ part_weight part + 3
    by_test true =
        let most = answered_if one.request.last (record part { has_overflowed = true }) one in
        omega (arith, most)
    by_test false = omega (arith, added)

pub write : (settings : Settings) (part : Part) (o : Option Received) → slice_get part.received 0 ≡ o
    → IsBelow (part_weight part + 0) (unit.write settings part o)
write settings part None h = tt
write settings part (Some (Drain name)) h = tt
write settings part (Some (Asked one)) h =
    let less = out received_weight part.received 0 (Asked one) h in
    let gone = without_drains (remove part.received 0) in
    let most = queued settings (unit.without_oldest part) one in
    omega (arith, less, gone, most)

pub forget_entry : (part : Part) (place : ℕ) (o : Option KeptEntry) → slice_get part.kept_entries place ≡ o
    → IsBelow (part_weight part + 0) (unit.forget_entry part place o)
forget_entry part place None h = tt
forget_entry part place (Some kept) h =
    let less = out entry_weight part.kept_entries place kept h in
    omega (arith, less)

pub forget : (part : Part) (place : ℕ) (o : Option Translation) → slice_get part.kept place ≡ o → IsBelow (part_weight part + 0) (unit.forget part place o)
forget part place None h = tt
forget part place (Some kept) h =
    let less = out translation_weight part.kept place kept h in
    omega (arith, less)
