-- What an act at an endpoint leaves, and what without faults.
use Rattle.std.proofs.Common.{◌≡◌, ◌∙◌, ℕ, suc, Bool, true, false, Option, Some, None, List, [], ◌∷◌, ◌++◌, map, take, refl, ap}
use Rattle.std.specs.Prelude.{◌==◌, ◌&&◌, ◌||◌, not, length, remove, slice_get, slice_set, filter}
use Rattle.std.specs.List.{list_any}
use Rattle.std.proofs.lemmas.List.Elements.{filter-append}
use Rattle.sva_open.specs.declared.frames.Translation.{Translation}
use Rattle.sva_open.specs.declared.scopes.Scope.{Scope}
use Rattle.sva_open.specs.declared.rows.Row.{Row}
use Rattle.sva_open.specs.declared.rows.KeptEntry.{KeptEntry}
use Rattle.sva_open.specs.declared.messages.Barrier.{Barrier}
use Rattle.sva_open.specs.declared.messages.Message.TheVariants as message
use Rattle.sva_open.specs.declared.works.Group.{Group}
use Rattle.sva_open.specs.declared.works.Work.{Work}
use Rattle.sva_open.specs.declared.works.Work.TheVariants.{Use, Taken, Draining}
use Rattle.sva_open.specs.declared.descriptors.Arrived.{Arrived}
use Rattle.sva_open.specs.declared.descriptors.Filed.{Filed}
use Rattle.sva_open.specs.declared.descriptors.Received.{Received}
use Rattle.sva_open.specs.declared.descriptors.Received.TheVariants.{Request as Asked, Drain}
use Rattle.sva_open.specs.declared.descriptors.Descriptor.{Descriptor}
use Rattle.sva_open.specs.declared.descriptors.Descriptor.TheVariants as descriptor
use Rattle.sva_open.specs.declared.settings.Settings.{Settings}
use Rattle.sva_open.specs.declared.settings.Stopped.{Stopped}
use Rattle.sva_open.specs.declared.settings.Stopped.TheVariants.{Marker, Status, Known}
use Rattle.sva_open.specs.declared.acts.Control.{Control}
use Rattle.sva_open.specs.declared.acts.Control.TheVariants.{Ats, PageRequests, Mastering}
use Rattle.sva_open.specs.Devices as device
use Rattle.sva_open.specs.Host as host
use Rattle.sva_open.specs.Units as unit
use Rattle.sva_open.specs.World.{Part, lowest_free, put, with_row}
use Rattle.sva_open_laws.specs.Occasions.{is_sent_left, part_without}
use Rattle.sva_open_laws.specs.Occasions.Chain.{Faults}
use Rattle.sva_open_laws.proofs.Filters.{fewer}
use Rattle.sva_open_laws.proofs.OccasionParts.{IsLed, at_once, gone, if_takes, same_open, sends, unless, where_open, where_so}
use Rattle.sva_open_laws.proofs.PageActs.{and_so, none_still}
use Rattle.sva_open_laws.proofs.PageBarriers.{or_none}

-- ---- the host

pub set_entry : (part : Part) (pasid space : ℕ) (o : Option Row)
    → IsLed Faults (host.set_entry part pasid space o) (host.set_entry (part_without Faults part) pasid space o)
set_entry part pasid space None = tt
set_entry part pasid space (Some row) = refl

pub replace : (part : Part) (pasid space : ℕ) (o : Option Row)
    → IsLed Faults (host.replace part pasid space o) (host.replace (part_without Faults part) pasid space o)
replace part pasid space None = tt
replace part pasid space (Some row) = refl

pub clear_entry : (part : Part) (pasid : ℕ) (o : Option Row)
    → IsLed Faults (host.clear_entry part pasid o) (host.clear_entry (part_without Faults part) pasid o)
clear_entry part pasid None = tt
clear_entry part pasid (Some row) = refl

pub free_pasid : (part : Part) (pasid : ℕ) (o : Option Row)
    → IsLed Faults (host.free_pasid part pasid o) (host.free_pasid (part_without Faults part) pasid o)
free_pasid part pasid None = tt
free_pasid part pasid (Some row) = refl

pub start : (part : Part) (pasid : ℕ) (o : Option Row) → IsLed Faults (host.start part pasid o) (host.start (part_without Faults part) pasid o)
start part pasid None = tt
start part pasid (Some row) = sends Faults part row.owner part.time (message.Start pasid) refl

pub stop : (part : Part) (pasid : ℕ) (o : Option Row) → IsLed Faults (host.stop part pasid o) (host.stop (part_without Faults part) pasid o)
stop part pasid None = tt
stop part pasid (Some row) =
    sends Faults (with_row part pasid (record row { answer = None })) row.owner part.time (message.Stop pasid) refl

pub submit : (part : Part) (descriptors : List Descriptor)
    → IsLed Faults (host.submit part descriptors) (host.submit (part_without Faults part) descriptors)
submit part descriptors = where_so Faults _ _ _ _ (λ h. h) refl

pub close : (part : Part) → IsLed Faults (host.close part) (host.close (part_without Faults part))
close part = where_so Faults _ _ _ _ (λ h. h) refl

pub reopen : (part : Part) → IsLed Faults (host.reopen part) (host.reopen (part_without Faults part))
reopen part = where_so Faults _ _ _ _ (λ h. h) refl

pub skip : (part : Part) (o : Option ℕ) → IsLed Faults (host.skip part o) (host.skip (part_without Faults part) o)
skip part None = tt
skip part (Some place) = refl

-- an interface that is turned on may send page requests, whatever response has failed before
pub turned : (part : Part) (control : Control) (on : Bool)
    → part_without Faults (device.turned part control on) ≡ device.turned (part_without Faults part) control on
turned part Ats true = refl
turned part Ats false = refl
turned part PageRequests true = refl
turned part PageRequests false = refl
turned part Mastering on = refl

-- ---- what the host sees

-- no wait stands behind page requests that are received
awaited : (part : Part) (name : ℕ) → not (host.is_awaited part name) ≡ true → not (host.is_awaited (part_without Faults part) name) ≡ true
awaited part name =
    none_still _ _ (or_none (list_any (unit.is_wait name) part.queue) _ _ _ (λ none. none)
    (or_none (list_any (unit.is_waiting name) part.issued) (list_any (unit.is_drain name) part.received) _ _ (λ none. none) (λ none. refl)))

pub await_wait : (part : Part) (name : ℕ) → IsLed Faults (host.await_wait part name) (host.await_wait (part_without Faults part) name)
await_wait part name = where_so Faults _ _ _ _ (awaited part name) refl

pub await_stopped : (part : Part) (pasid : ℕ) (o : Option Row)
    → IsLed Faults (host.await_stopped part pasid o) (host.await_stopped (part_without Faults part) pasid o)
await_stopped part pasid None = tt
await_stopped part pasid (Some row) = where_so Faults _ _ _ _ (λ h. h) refl

pub await_passed : (part : Part) (pasid thread : ℕ)
    → IsLed Faults (host.await_passed part pasid thread) (host.await_passed (part_without Faults part) pasid thread)
await_passed part pasid thread = where_so Faults _ _ _ _
    (none_still _ _ (or_none _ (list_any (host.drains pasid thread) part.works) _ _
    (fewer (is_sent_left Faults) (host.is_of_barrier pasid thread) part.flight) (λ none. none))) refl

pub await_queue : (part : Part) → IsLed Faults (host.await_queue part) (host.await_queue (part_without Faults part))
await_queue part = where_so Faults _ _ _ _ (λ h. refl) refl

pub await_queue_of : (part : Part) (pasid : ℕ) → IsLed Faults (host.await_queue_of part pasid) (host.await_queue_of (part_without Faults part) pasid)
await_queue_of part pasid = where_so Faults _ _ _ _ (λ h. refl) refl

pub await_groups : (part : Part) (pasid : Option ℕ) → IsLed Faults (host.await_groups part pasid) (host.await_groups (part_without Faults part) pasid)
await_groups part pasid = where_so Faults _ _ _ _ (λ h. refl) refl

pub await_resets : (part : Part) → IsLed Faults (host.await_resets part) (host.await_resets (part_without Faults part))
await_resets part = where_so Faults _ _ _ _ (none_still _ _ (fewer (is_sent_left Faults) host.is_of_reset part.flight)) refl

pub await_idle : (part : Part) → IsLed Faults (host.await_idle part) (host.await_idle (part_without Faults part))
await_idle part = where_so Faults _ _ _ _ (λ h. h) refl

pub await_gone : (part : Part) → IsLed Faults (host.await_gone part) (host.await_gone (part_without Faults part))
await_gone part = where_so Faults _ _ _ _
    (and_so part.is_gone _ _ (none_still _ _ (fewer (is_sent_left Faults) host.is_going_up part.flight))) refl

-- ---- page requests: nothing is left of them

pub serve : (part : Part) (o : Option Arrived) → IsLed Faults (host.serve part o) (Some (part_without Faults part))
serve part None = tt
serve part (Some one) = refl

responded : (part : Part) (index : ℕ) (fails : Bool) (place : ℕ) (o : Option Filed)
    → part_without Faults (host.responded part index fails place o) ≡ part_without Faults part
responded part index fails place None = gone Faults part 0 0 (message.Response index fails false) refl
responded part index fails place (Some filed) =
    gone Faults (record part { filed = remove part.filed place }) 0 filed.number (message.Response index fails true) refl

pub respond : (part : Part) (index : ℕ) (fails : Bool) (o : Option ℕ)
    → part_without Faults (host.respond_at part index fails o) ≡ part_without Faults part
respond part index fails None = gone Faults part 0 0 (message.Response index fails false) refl
respond part index fails (Some place) = responded part index fails place (slice_get part.filed place)

answers_gone : (fails : Bool) (xs : List Filed) → filter (is_sent_left Faults) (map (host.answer_to fails) xs) ≡ []
answers_gone fails [] = refl
answers_gone fails (x ∷ xs) = answers_gone fails xs

-- to answer all of none leaves all as it is
pub respond_all : (part : Part) (pasid : Option ℕ) (fails : Bool)
    → part_without Faults (host.respond_all part pasid fails) ≡ host.respond_all (part_without Faults part) pasid fails
respond_all part pasid fails =
    let whole = filter (host.is_whole_under pasid) part.filed in
    λ i. record (part_without Faults (host.respond_all part pasid fails)) {
      flight = (filter-append (is_sent_left Faults) part.flight (map (host.answer_to fails) whole)
          ∙ ap (λ answers. filter (is_sent_left Faults) part.flight ++ answers) (answers_gone fails whole)) i;
    }

answered_if : (last : Bool) (part : Part) (one : Arrived) → part_without Faults (unit.answered_if last part one) ≡ part_without Faults part
answered_if true part one = gone Faults part 0 one.number (message.Response one.request.index false true) refl
answered_if false part one = refl

pub queued : (settings : Settings) (part : Part) (one : Arrived) → part_without Faults (unit.queued settings part one) ≡ part_without Faults part
queued settings part one =
    same_open Faults (unit.is_full settings.places part.has_overflowed (length part.arrived)) _ _ _ refl
    (answered_if one.request.last (record part { has_overflowed = true }) one)

pub write : (settings : Settings) (part : Part) (o : Option Received) → IsLed Faults (unit.write settings part o) (Some (part_without Faults part))
write settings part None = tt
write settings part (Some (Drain name)) = tt
write settings part (Some (Asked one)) = queued settings (unit.without_oldest part) one

pub fault : (part : Part) (pasid page : ℕ) (write last : Bool) (number : ℕ) (o : Option Row)
    → IsLed Faults (device.fault part pasid page write last number o) (Some (part_without Faults part))
fault part pasid page write last number None = tt
fault part pasid page write last number (Some row) =
    at_once Faults _ _ _
    (gone Faults
    (record part { groups = put part.groups (record { pasid = pasid; owner = row.user; number = number; is_finished = last; noted = None }) })
    row.user number
    (message.PageRequest (record { pasid = pasid; index = lowest_free part.groups; page = page; write = write; last = last })) refl)

pub more : (part : Part) (index page : ℕ) (write last : Bool) (o : Option (Option Group))
    → IsLed Faults (device.more part index page write last o) (Some (part_without Faults part))
more part index page write last None = tt
more part index page write last (Some None) = tt
more part index page write last (Some (Some group)) =
    at_once Faults _ _ _
    (gone Faults (record part { groups = slice_set part.groups index (Some (record group { is_finished = last })) }) group.owner group.number
    (message.PageRequest (record { pasid = group.pasid; index = index; page = page; write = write; last = last })) refl)

-- ---- asks and uses

pub ask : (part : Part) (pasid page : ℕ) (o : Option Row) → IsLed Faults (device.ask part pasid page o) (device.ask (part_without Faults part) pasid page o)
ask part pasid page None = tt
ask part pasid page (Some row) =
    where_so Faults _ _ _ _ (λ h. h) (sends Faults (record part { requests = _ }) row.user part.time (message.Request _ pasid page) refl)

pub begin_use : (part : Part) (o : Option Row) (held : Option Translation)
    → IsLed Faults (device.begin_use part o held) (device.begin_use (part_without Faults part) o held)
begin_use part None held = tt
begin_use part (Some row) None = tt
begin_use part (Some row) (Some translation) = where_so Faults _ _ _ _ (λ h. h) refl

pub end_use : (part : Part) (place : ℕ) (o : Option Work) → IsLed Faults (device.end_use part place o) (device.end_use (part_without Faults part) place o)
end_use part place None = tt
end_use part place (Some (Taken itag scope)) = tt
end_use part place (Some (Draining barrier)) = tt
end_use part place (Some (Use translation)) = refl

pub evict : (part : Part) (o : Option ℕ) → IsLed Faults (device.evict part o) (device.evict (part_without Faults part) o)
evict part None = tt
evict part (Some place) = refl

pub forget_entry : (part : Part) (place : ℕ) (o : Option KeptEntry)
    → IsLed Faults (unit.forget_entry part place o) (unit.forget_entry (part_without Faults part) place o)
forget_entry part place None = tt
forget_entry part place (Some kept) = refl

pub forget : (part : Part) (place : ℕ) (o : Option Translation) → IsLed Faults (unit.forget part place o) (unit.forget (part_without Faults part) place o)
forget part place None = tt
forget part place (Some kept) = refl

-- ---- to complete an invalidation, to quit, to pass a barrier, and to go

pub finish : (part : Part) (place : ℕ) (o : Option Work) → IsLed Faults (device.finish part place o) (device.finish (part_without Faults part) place o)
finish part place None = tt
finish part place (Some (Use translation)) = tt
finish part place (Some (Draining barrier)) = tt
finish part place (Some (Taken itag scope)) =
    where_so Faults _ _ _ _ (λ h. h)
    (sends Faults (record part { works = remove part.works place }) 0 part.time (message.Invalidated itag) refl)

quiet : (part : Part) (pasid : ℕ) → not (device.is_busy part pasid) ≡ true → not (device.is_busy (part_without Faults part) pasid) ≡ true
quiet part pasid =
    none_still _ _ (or_none (list_any (device.is_unended part.awaits pasid) part.groups) _ _ _ (λ none. refl) (λ none. none))

said : (stopped : Stopped) (part : Part) (pasid : ℕ) (row : Row)
    → part_without Faults (device.said stopped part pasid row) ≡ device.said stopped (part_without Faults part) pasid row
said Marker part pasid row = sends Faults (with_row part pasid _) row.user part.time (message.Marker pasid) refl
said Status part pasid row = sends Faults (with_row part pasid _) row.user part.time (message.Status pasid) refl
said Known part pasid row = refl

pub quit : (stopped : Stopped) (part : Part) (pasid : ℕ) (o : Option Row)
    → IsLed Faults (device.quit stopped part pasid o) (device.quit stopped (part_without Faults part) pasid o)
quit stopped part pasid None = tt
quit stopped part pasid (Some row) = where_so Faults _ _ _ _ (and_so _ _ _ (quiet part pasid)) (said stopped part pasid row)

let_by : (part : Part) (place : ℕ) (barrier : Barrier) → device.is_held_up part place barrier ≡ false
    → device.is_held_up (part_without Faults part) place barrier ≡ false
let_by part place barrier =
    or_none (list_any (device.is_use_under barrier.pasid) (take place part.works)) _ _ _ (λ none. none)
    (or_none (list_any (device.is_asked_before (take (suc place) part.works) barrier.pasid) part.requests)
    (list_any (device.is_begun_before (take (suc place) part.works) part.awaits barrier.pasid) part.groups) _ _ (λ none. none) (λ none. refl))

answered : (stopped : Stopped) (part : Part) (place : ℕ) (barrier : Barrier)
    → part_without Faults (device.passed stopped (record part { works = remove part.works place }) barrier)
    ≡ device.passed stopped (record (part_without Faults part) { works = remove part.works place }) barrier
answered Marker part place barrier = sends Faults (record part { works = remove part.works place }) 0 part.time (message.Passed barrier) refl
answered Status part place barrier = sends Faults (record part { works = remove part.works place }) 0 part.time (message.Passed barrier) refl
answered Known part place barrier = refl

pub pass : (stopped : Stopped) (part : Part) (place : ℕ) (o : Option Work)
    → IsLed Faults (device.pass stopped part place o) (device.pass stopped (part_without Faults part) place o)
pass stopped part place None = tt
pass stopped part place (Some (Use translation)) = tt
pass stopped part place (Some (Taken itag scope)) = tt
pass stopped part place (Some (Draining barrier)) =
    where_so Faults _ _ _ _ (none_still _ _ (let_by part place barrier)) (answered stopped part place barrier)

pub leave : (part : Part) → IsLed Faults (device.leave part) (device.leave (part_without Faults part))
leave part = where_so Faults _ _ _ _ (λ h. h) refl

-- ---- the unit

issue : (part : Part) (scope : Scope) (o : Option ℕ) → IsLed Faults (unit.issue part scope o) (unit.issue (part_without Faults part) scope o)
issue part scope None = tt
issue part scope (Some itag) = sends Faults (record (unit.shifted part) { issued = _ }) 0 part.time (message.Invalidate itag scope) refl

-- a wait that drains is done at once
pub waits : (part : Part) (name : ℕ) (drain : Bool) → part_without Faults (unit.waited part name drain) ≡ unit.waited (part_without Faults part) name drain
waits part name true = same_open Faults (list_any unit.is_received part.received) _ _ _ refl refl
waits part name false = refl

-- nor does it need anything of the page request queue
pass_by : (a b d e : Bool) → a && (b && (not d || e)) ≡ true → a && (b && (not d || true)) ≡ true
pass_by true true true e h = refl
pass_by true true false e h = refl
pass_by true false d e h = absurd (cc)
pass_by false b d e h = absurd (cc)

may_pass : (settings : Settings) (part : Part) (drain fence : Bool) → unit.may_pass settings part drain fence ≡ true
    → unit.may_pass settings (part_without Faults part) drain fence ≡ true
may_pass settings part drain fence =
    pass_by (not (settings.refuses_drain && drain)) (not (settings.all_fence || fence) || (length part.issued == 0))
    (settings.drain_empties && drain) (length part.arrived == 0)

pump_head : (settings : Settings) (part : Part) (o : Option Descriptor)
    → IsLed Faults (unit.pump_head settings part o) (unit.pump_head settings (part_without Faults part) o)
pump_head settings part None = tt
pump_head settings part (Some (descriptor.Device endpoint scope)) = issue part scope _
pump_head settings part (Some (descriptor.Translations endpoint scope)) = refl
pump_head settings part (Some (descriptor.Entry endpoint pasid)) = refl
pump_head settings part (Some (descriptor.Wait name drain fence)) =
    where_so Faults _ _ _ _ (may_pass settings part drain fence)
    (where_open Faults (unit.is_out_before part.issued (length part.issued)) _ _ _ _ (waits (unit.shifted part) name drain) refl)
pump_head settings part (Some (descriptor.Out itag)) = tt

pub pump : (settings : Settings) (part : Part) → IsLed Faults (unit.pump settings part) (unit.pump settings (part_without Faults part))
pump settings part = if_takes Faults (not settings.is_loose && unit.takes part) _ _ (pump_head settings part (slice_get part.queue 0))

issue_at : (part : Part) (at : ℕ) (scope : Scope) (o : Option ℕ)
    → IsLed Faults (unit.issue_at part at scope o) (unit.issue_at (part_without Faults part) at scope o)
issue_at part at scope None = tt
issue_at part at scope (Some itag) =
    sends Faults (record part { queue = _; issued = _ }) 0 part.time (message.Invalidate itag scope) refl

pass_at_by : (a b c : Bool) → (a ≡ true → b ≡ true) → a && c ≡ true → b && c ≡ true
pass_at_by true b c h k = ap (λ t. t && c) (h refl) ∙ k
pass_at_by false b c h k = absurd (cc)

pump_one : (settings : Settings) (part : Part) (at : ℕ) (one : Descriptor)
    → IsLed Faults (unit.pump_one settings part at one) (unit.pump_one settings (part_without Faults part) at one)
pump_one settings part at (descriptor.Device endpoint scope) = issue_at part at scope _
pump_one settings part at (descriptor.Translations endpoint scope) = refl
pump_one settings part at (descriptor.Entry endpoint pasid) = refl
pump_one settings part at (descriptor.Wait name drain fence) =
    where_so Faults _ _ _ _
    (pass_at_by _ _ (unit.covers_none (settings.all_fence || fence) part.queue at) (may_pass settings part drain fence))
    (waits (unit.taken_out part at) name drain)
pump_one settings part at (descriptor.Out itag) = tt

pump_there : (settings : Settings) (part : Part) (at : ℕ) (o : Option Descriptor)
    → IsLed Faults (unit.pump_there settings part at o) (unit.pump_there settings (part_without Faults part) at o)
pump_there settings part at None = tt
pump_there settings part at (Some one) =
    unless Faults (unit.is_barred settings part.queue at one) _ _ (pump_one settings part at one)

pub pump_at : (settings : Settings) (part : Part) (at : ℕ)
    → IsLed Faults (unit.pump_at settings part at) (unit.pump_at settings (part_without Faults part) at)
pump_at settings part at =
    if_takes Faults (settings.is_loose && unit.takes part) _ _ (pump_there settings part at (slice_get part.queue at))
