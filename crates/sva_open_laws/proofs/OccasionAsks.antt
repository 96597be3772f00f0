-- What an act at an endpoint leaves, and what without asks.
use Rattle.std.proofs.Common.{◌≡◌, ◌∙◌, ℕ, suc, Bool, true, false, Option, Some, None, List, [], ◌∷◌, ◌++◌, map, take, refl, ap, sym, subst}
use Rattle.std.specs.Prelude.{◌&&◌, ◌||◌, max, not, length, remove, position, slice_get, filter}
use Rattle.std.specs.List.{list_any}
use Rattle.std.proofs.lemmas.List.Elements.{filter-append}
use Rattle.sva_open.specs.declared.frames.Mapping.{Mapping}
use Rattle.sva_open.specs.declared.frames.Translation.{Translation}
use Rattle.sva_open.specs.declared.scopes.Scope.{Scope}
use Rattle.sva_open.specs.declared.rows.Row.{Row}
use Rattle.sva_open.specs.declared.rows.KeptEntry.{KeptEntry}
use Rattle.sva_open.specs.declared.messages.Barrier.{Barrier}
use Rattle.sva_open.specs.declared.messages.Message.{Message}
use Rattle.sva_open.specs.declared.messages.Message.TheVariants as message
use Rattle.sva_open.specs.declared.works.Group.{Group}
use Rattle.sva_open.specs.declared.works.Work.{Work}
use Rattle.sva_open.specs.declared.works.Work.TheVariants.{Use, Taken, Draining}
use Rattle.sva_open.specs.declared.descriptors.Arrived.{Arrived}
use Rattle.sva_open.specs.declared.descriptors.Filed.{Filed}
use Rattle.sva_open.specs.declared.descriptors.Received.{Received}
use Rattle.sva_open.specs.declared.descriptors.Received.TheVariants.{Request as Asked, Drain}
use Rattle.sva_open.specs.declared.descriptors.Descriptor.{Descriptor}
use Rattle.sva_open.specs.declared.descriptors.Descriptor.TheVariants as descriptor
use Rattle.sva_open.specs.declared.settings.Settings.{Settings}
use Rattle.sva_open.specs.declared.settings.Stopped.{Stopped}
use Rattle.sva_open.specs.declared.settings.Stopped.TheVariants.{Marker, Status, Known}
use Rattle.sva_open.specs.declared.acts.Control.{Control}
use Rattle.sva_open.specs.declared.acts.Control.TheVariants.{Ats, PageRequests, Mastering}
use Rattle.sva_open.specs.declared.acts.LocalAct.TheVariants as local
use Rattle.sva_open.specs.Devices as device
use Rattle.sva_open.specs.Devices.{above_arrived, above_filed, above_message, above_received, above_sent, fresh_number, highest}
use Rattle.sva_open.specs.Finding.{is_use}
use Rattle.sva_open.specs.Host as host
use Rattle.sva_open.specs.Units as unit
use Rattle.sva_open.specs.World.{Part, if_so, lowest_free, put, sent, with_row}
use Rattle.sva_open_laws.specs.Pages.{is_left_at, place_in}
use Rattle.sva_open_laws.specs.Occasions.{is_message_left, is_sent_left, isnt_use, part_without}
use Rattle.sva_open_laws.specs.Occasions.Chain.{Asks}
use Rattle.sva_open_laws.proofs.Filters.{fewer, filter_without, get_in, remove_gone, remove_in, take_in, up_to}
use Rattle.sva_open_laws.proofs.OccasionParts.{IsLed, at_once, gone, highest_left, if_takes, next_at, sends, unless, where_open, where_so}
use Rattle.sva_open_laws.proofs.PageActs.{and_so, none_still}
use Rattle.sva_open_laws.proofs.PageBarriers.{and_none, none_of, or_none}
use Rattle.sva_open_laws.proofs.PagePlaces.{may}

-- ---- the host

pub set_entry : (part : Part) (pasid space : ℕ) (o : Option Row)
    → IsLed Asks (host.set_entry part pasid space o) (host.set_entry (part_without Asks part) pasid space o)
set_entry part pasid space None = tt
set_entry part pasid space (Some row) = refl

pub replace : (part : Part) (pasid space : ℕ) (o : Option Row)
    → IsLed Asks (host.replace part pasid space o) (host.replace (part_without Asks part) pasid space o)
replace part pasid space None = tt
replace part pasid space (Some row) = refl

pub clear_entry : (part : Part) (pasid : ℕ) (o : Option Row)
    → IsLed Asks (host.clear_entry part pasid o) (host.clear_entry (part_without Asks part) pasid o)
clear_entry part pasid None = tt
clear_entry part pasid (Some row) = refl

pub free_pasid : (part : Part) (pasid : ℕ) (o : Option Row)
    → IsLed Asks (host.free_pasid part pasid o) (host.free_pasid (part_without Asks part) pasid o)
free_pasid part pasid None = tt
free_pasid part pasid (Some row) = refl

pub start : (part : Part) (pasid : ℕ) (o : Option Row) → IsLed Asks (host.start part pasid o) (host.start (part_without Asks part) pasid o)
start part pasid None = tt
start part pasid (Some row) = sends Asks part row.owner part.time (message.Start pasid) refl

pub stop : (part : Part) (pasid : ℕ) (o : Option Row) → IsLed Asks (host.stop part pasid o) (host.stop (part_without Asks part) pasid o)
stop part pasid None = tt
stop part pasid (Some row) =
    sends Asks (with_row part pasid (record row { answer = None })) row.owner part.time (message.Stop pasid) refl

pub submit : (part : Part) (descriptors : List Descriptor)
    → IsLed Asks (host.submit part descriptors) (host.submit (part_without Asks part) descriptors)
submit part descriptors = where_so Asks _ _ _ _ (λ h. h) refl

pub close : (part : Part) → IsLed Asks (host.close part) (host.close (part_without Asks part))
close part = where_so Asks _ _ _ _ (λ h. h) refl

pub reopen : (part : Part) → IsLed Asks (host.reopen part) (host.reopen (part_without Asks part))
reopen part = where_so Asks _ _ _ _ (λ h. h) refl

pub skip : (part : Part) (o : Option ℕ) → IsLed Asks (host.skip part o) (host.skip (part_without Asks part) o)
skip part None = tt
skip part (Some place) = refl

-- what is turned off leaves nothing without asks that it doesn't leave of the whole
pub turned : (part : Part) (control : Control) (on : Bool)
    → part_without Asks (device.turned part control on) ≡ device.turned (part_without Asks part) control on
turned part Ats true = refl
turned part Ats false = refl
turned part PageRequests true = refl
turned part PageRequests false = refl
turned part Mastering on = refl

-- ---- what the host sees

pub await_wait : (part : Part) (name : ℕ) → IsLed Asks (host.await_wait part name) (host.await_wait (part_without Asks part) name)
await_wait part name = where_so Asks _ _ _ _ (λ h. h) refl

pub await_stopped : (part : Part) (pasid : ℕ) (o : Option Row)
    → IsLed Asks (host.await_stopped part pasid o) (host.await_stopped (part_without Asks part) pasid o)
await_stopped part pasid None = tt
await_stopped part pasid (Some row) = where_so Asks _ _ _ _ (λ h. h) refl

pub await_passed : (part : Part) (pasid thread : ℕ)
    → IsLed Asks (host.await_passed part pasid thread) (host.await_passed (part_without Asks part) pasid thread)
await_passed part pasid thread = where_so Asks _ _ _ _
    (none_still _ _ (or_none _ _ _ _ (fewer (is_sent_left Asks) (host.is_of_barrier pasid thread) part.flight)
    (fewer isnt_use (host.drains pasid thread) part.works))) refl

pub await_queue : (part : Part) → IsLed Asks (host.await_queue part) (host.await_queue (part_without Asks part))
await_queue part = where_so Asks _ _ _ _ (λ h. h) refl

pub await_queue_of : (part : Part) (pasid : ℕ) → IsLed Asks (host.await_queue_of part pasid) (host.await_queue_of (part_without Asks part) pasid)
await_queue_of part pasid = where_so Asks _ _ _ _ (λ h. h) refl

pub await_groups : (part : Part) (pasid : Option ℕ) → IsLed Asks (host.await_groups part pasid) (host.await_groups (part_without Asks part) pasid)
await_groups part pasid = where_so Asks _ _ _ _ (λ h. h) refl

pub await_resets : (part : Part) → IsLed Asks (host.await_resets part) (host.await_resets (part_without Asks part))
await_resets part = where_so Asks _ _ _ _ (none_still _ _ (fewer (is_sent_left Asks) host.is_of_reset part.flight)) refl

idle_by : (a b c : Bool) → (b ≡ false → c ≡ false) → not a && not b ≡ true → not c ≡ true
idle_by false false c h k = ap not (h refl)
idle_by false true c h k = absurd (cc)
idle_by true b c h k = absurd (cc)

pub await_idle : (part : Part) → IsLed Asks (host.await_idle part) (host.await_idle (part_without Asks part))
await_idle part = where_so Asks _ _ _ _ (idle_by _ _ _ (fewer isnt_use is_use part.works)) refl

pub await_gone : (part : Part) → IsLed Asks (host.await_gone part) (host.await_gone (part_without Asks part))
await_gone part = where_so Asks _ _ _ _
    (and_so part.is_gone _ _ (none_still _ _ (fewer (is_sent_left Asks) host.is_going_up part.flight))) refl

-- ---- page requests

pub serve : (part : Part) (o : Option Arrived) → IsLed Asks (host.serve part o) (host.serve (part_without Asks part) o)
serve part None = tt
serve part (Some one) = refl

responded : (part : Part) (index : ℕ) (fails : Bool) (place : ℕ) (o : Option Filed)
    → part_without Asks (host.responded part index fails place o) ≡ host.responded (part_without Asks part) index fails place o
responded part index fails place None = sends Asks part 0 0 (message.Response index fails false) refl
responded part index fails place (Some filed) =
    sends Asks (record part { filed = remove part.filed place }) 0 filed.number (message.Response index fails true) refl

respond_at : (part : Part) (index : ℕ) (fails : Bool) (o : Option ℕ)
    → part_without Asks (host.respond_at part index fails o) ≡ host.respond_at (part_without Asks part) index fails o
respond_at part index fails None = sends Asks part 0 0 (message.Response index fails false) refl
respond_at part index fails (Some place) = responded part index fails place (slice_get part.filed place)

pub respond : (part : Part) (pasid index : ℕ) (fails : Bool)
    → part_without Asks (host.respond part pasid index fails) ≡ host.respond (part_without Asks part) pasid index fails
respond part pasid index fails = respond_at part index fails (position (host.is_group pasid index) part.filed)

-- an answer to a group is there
answers_left : (fails : Bool) (xs : List Filed) → filter (is_sent_left Asks) (map (host.answer_to fails) xs) ≡ map (host.answer_to fails) xs
answers_left fails [] = refl
answers_left fails (x ∷ xs) = ap (λ rest. host.answer_to fails x ∷ rest) (answers_left fails xs)

pub respond_all : (part : Part) (pasid : Option ℕ) (fails : Bool)
    → part_without Asks (host.respond_all part pasid fails) ≡ host.respond_all (part_without Asks part) pasid fails
respond_all part pasid fails =
    let whole = filter (host.is_whole_under pasid) part.filed in
    λ i. record (part_without Asks (host.respond_all part pasid fails)) {
      flight = (filter-append (is_sent_left Asks) part.flight (map (host.answer_to fails) whole)
          ∙ ap (λ answers. filter (is_sent_left Asks) part.flight ++ answers) (answers_left fails whole)) i;
    }

answered_if : (last : Bool) (part : Part) (one : Arrived)
    → part_without Asks (unit.answered_if last part one) ≡ unit.answered_if last (part_without Asks part) one
answered_if true part one = sends Asks part 0 one.number (message.Response one.request.index false true) refl
answered_if false part one = refl

pub queued : (settings : Settings) (part : Part) (one : Arrived)
    → part_without Asks (unit.queued settings part one) ≡ unit.queued settings (part_without Asks part) one
queued settings part one =
    where_open Asks (unit.is_full settings.places part.has_overflowed (length part.arrived)) _ _ _ _ refl
    (answered_if one.request.last (record part { has_overflowed = true }) one)

pub write : (settings : Settings) (part : Part) (o : Option Received)
    → IsLed Asks (unit.write settings part o) (unit.write settings (part_without Asks part) o)
write settings part None = tt
write settings part (Some (Drain name)) = tt
write settings part (Some (Asked one)) = queued settings (unit.without_oldest part) one

pub more : (part : Part) (index page : ℕ) (write last : Bool) (o : Option (Option Group))
    → IsLed Asks (device.more part index page write last o) (device.more (part_without Asks part) index page write last o)
more part index page write last None = tt
more part index page write last (Some None) = tt
more part index page write last (Some (Some group)) =
    where_so Asks _ _ _ _ (λ h. h) (sends Asks (record part { groups = _ }) group.owner group.number (message.PageRequest _) refl)

fault_by : (part : Part) (pasid page : ℕ) (write last : Bool) (number : ℕ) (o : Option Row)
    → IsLed Asks (device.fault part pasid page write last number o) (device.fault (part_without Asks part) pasid page write last number o)
fault_by part pasid page write last number None = tt
fault_by part pasid page write last number (Some row) =
    where_so Asks _ _ _ _ (λ h. h) (sends Asks (record part { groups = _ }) row.user number (message.PageRequest _) refl)

-- no message of an ask has a number of a group
numbered : (index number : ℕ) (one : Message) → is_message_left Asks one ≡ false → above_message index number one ≡ 0
numbered index number (message.Completion tag page target) h = refl
numbered index number (message.Request tag pasid page) h = refl
numbered index number (message.PageRequest request) h = absurd (cc)
numbered index number (message.Start pasid) h = refl
numbered index number (message.Stop pasid) h = refl
numbered index number message.Reset h = refl
numbered index number (message.Invalidate itag scope) h = refl
numbered index number (message.Response own fails filed) h = absurd (cc)
numbered index number (message.Invalidated itag) h = refl
numbered index number (message.Marker pasid) h = refl
numbered index number (message.Status pasid) h = refl
numbered index number message.ResetDone h = refl
numbered index number (message.Barrier barrier) h = refl
numbered index number (message.Passed barrier) h = refl

same_number : (part : Part) → fresh_number part ≡ fresh_number (part_without Asks part)
same_number part =
    let index = lowest_free part.groups in
    λ i. max (highest_left (above_sent index) (is_sent_left Asks) (λ one. numbered index one.number one.message) part.flight i)
    (max (highest (above_received index) part.received)
    (max (highest (above_arrived index) part.arrived) (highest (above_filed index) part.filed)))

pub fault : (part : Part) (pasid page : ℕ) (write last : Bool) (o : Option Row)
    → IsLed Asks (device.fault part pasid page write last (fresh_number part) o)
    (device.fault (part_without Asks part) pasid page write last (fresh_number (part_without Asks part)) o)
fault part pasid page write last o =
    subst (λ n. IsLed Asks (device.fault part pasid page write last (fresh_number part) o)
    (device.fault (part_without Asks part) pasid page write last n o)) (same_number part)
    (fault_by part pasid page write last (fresh_number part) o)

-- ---- asks, uses, and what the unit keeps: nothing is left of them

pub ask : (part : Part) (pasid page : ℕ) (o : Option Row) → IsLed Asks (device.ask part pasid page o) (Some (part_without Asks part))
ask part pasid page None = tt
ask part pasid page (Some row) =
    at_once Asks _ _ _
    (gone Asks
    (record part { requests = put part.requests (record { pasid = pasid; page = page; owner = row.user; is_doomed = false; noted = None }) })
    row.user part.time (message.Request (lowest_free part.requests) pasid page) refl)

pub begin_use : (part : Part) (o : Option Row) (held : Option Translation)
    → IsLed Asks (device.begin_use part o held) (Some (part_without Asks part))
begin_use part None held = tt
begin_use part (Some row) None = tt
begin_use part (Some row) (Some translation) =
    at_once Asks _ _ _ (λ i. record (part_without Asks part) { works = filter_without isnt_use part.works (Use translation) refl i })

pub end_use : (part : Part) (place : ℕ) (o : Option Work) → slice_get part.works place ≡ o
    → IsLed Asks (device.end_use part place o) (Some (part_without Asks part))
end_use part place None h = tt
end_use part place (Some (Taken itag scope)) h = tt
end_use part place (Some (Draining barrier)) h = tt
end_use part place (Some (Use translation)) h =
    λ i. record (part_without Asks part) { works = remove_gone isnt_use part.works place (Use translation) h refl i }

pub evict : (part : Part) (o : Option ℕ) → IsLed Asks (device.evict part o) (Some (part_without Asks part))
evict part None = tt
evict part (Some place) = refl

pub forget_entry : (part : Part) (place : ℕ) (o : Option KeptEntry) → IsLed Asks (unit.forget_entry part place o) (Some (part_without Asks part))
forget_entry part place None = tt
forget_entry part place (Some kept) = refl

pub forget : (part : Part) (place : ℕ) (o : Option Translation) → IsLed Asks (unit.forget part place o) (Some (part_without Asks part))
forget part place None = tt
forget part place (Some kept) = refl

-- ---- to complete an invalidation, to quit, and to go

pub finish : (settings : Settings) (mappings : List Mapping) (part : Part) (place : ℕ) (o : Option Work) → slice_get part.works place ≡ o
    → IsLed Asks (device.finish part place o)
    (next_at Asks settings mappings part (if_so (is_left_at isnt_use o) (local.Finish (place_in isnt_use part.works place))))
finish settings mappings part place None h = tt
finish settings mappings part place (Some (Use translation)) h = tt
finish settings mappings part place (Some (Draining barrier)) h = tt
finish settings mappings part place (Some (Taken itag scope)) h =
    subst (λ (o : Option Work). IsLed Asks (device.finish part place (Some (Taken itag scope)))
    (device.finish (part_without Asks part) (place_in isnt_use part.works place) o))
    (sym (get_in isnt_use part.works place (Taken itag scope) h refl))
    (where_so Asks _ _ _ _
    (may part.lies _ _ (λ none. ap (list_any (device.is_use_of scope)) (take_in isnt_use part.works place)
    ∙ fewer isnt_use (device.is_use_of scope) (take place part.works) none))
    (sends Asks (record part { works = remove part.works place }) 0 part.time (message.Invalidated itag) refl
    ∙ ap (λ (works : List Work). sent (record (part_without Asks part) { works = works }) 0 part.time (message.Invalidated itag))
    (remove_in isnt_use part.works place (Taken itag scope) h refl)))

quiet_by : (a b c e : Bool) → (c ≡ false → e ≡ false) → not (a || (b || c)) ≡ true → not (a || (false || e)) ≡ true
quiet_by false false false e k quiet = ap not (k refl)
quiet_by true b c e k quiet = absurd (cc)
quiet_by false true c e k quiet = absurd (cc)
quiet_by false false true e k quiet = absurd (cc)

quiet : (part : Part) (pasid : ℕ) → not (device.is_busy part pasid) ≡ true → not (device.is_busy (part_without Asks part) pasid) ≡ true
quiet part pasid =
    quiet_by (list_any (device.is_unended part.awaits pasid) part.groups) (list_any (device.asks_under pasid) part.requests) _ _
    (fewer isnt_use (device.is_use_under pasid) part.works)

said : (stopped : Stopped) (part : Part) (pasid : ℕ) (row : Row)
    → part_without Asks (device.said stopped part pasid row) ≡ device.said stopped (part_without Asks part) pasid row
said Marker part pasid row = sends Asks (with_row part pasid _) row.user part.time (message.Marker pasid) refl
said Status part pasid row = sends Asks (with_row part pasid _) row.user part.time (message.Status pasid) refl
said Known part pasid row = refl

pub quit : (stopped : Stopped) (part : Part) (pasid : ℕ) (o : Option Row)
    → IsLed Asks (device.quit stopped part pasid o) (device.quit stopped (part_without Asks part) pasid o)
quit stopped part pasid None = tt
quit stopped part pasid (Some row) = where_so Asks _ _ _ _ (and_so _ _ _ (quiet part pasid)) (said stopped part pasid row)

pub leave : (part : Part) → IsLed Asks (device.leave part) (device.leave (part_without Asks part))
leave part = where_so Asks _ _ _ _ (λ h. h) refl

-- ---- to pass a barrier

older : (works : List Work) (noted : Option ℕ) → device.is_older works noted ≡ false → device.is_older (filter isnt_use works) noted ≡ false
older works None h = refl
older works (Some name) h = fewer isnt_use (device.is_barrier name) works h

begun : (works : List Work) (awaits : Bool) (pasid : ℕ) (group : Option Group) → device.is_begun_before works awaits pasid group ≡ false
    → device.is_begun_before (filter isnt_use works) awaits pasid group ≡ false
begun works awaits pasid None h = refl
begun works awaits pasid (Some group) h =
    and_none (device.is_unended awaits pasid (Some group)) _ _ (older works group.noted) h

let_by : (part : Part) (place : ℕ) (barrier : Barrier) → slice_get part.works place ≡ Some (Draining barrier)
    → device.is_held_up part place barrier ≡ false
    → device.is_held_up (part_without Asks part) (place_in isnt_use part.works place) barrier ≡ false
let_by part place barrier is =
    or_none _ _ _ _
    (λ none. ap (list_any (device.is_use_under barrier.pasid)) (take_in isnt_use part.works place)
    ∙ fewer isnt_use (device.is_use_under barrier.pasid) (take place part.works) none)
    (or_none (list_any (device.is_asked_before (take (suc place) part.works) barrier.pasid) part.requests) _ _ _
    (λ none. refl)
    (λ none. ap (λ (works : List Work). list_any (device.is_begun_before works part.awaits barrier.pasid) part.groups)
    (up_to isnt_use part.works place (Draining barrier) is refl)
    ∙ none_of _ _ (begun (take (suc place) part.works) part.awaits barrier.pasid) part.groups none))

answered : (stopped : Stopped) (part : Part) (place : ℕ) (barrier : Barrier) → slice_get part.works place ≡ Some (Draining barrier)
    → part_without Asks (device.passed stopped (record part { works = remove part.works place }) barrier)
    ≡ device.passed stopped
    (record (part_without Asks part) { works = remove (filter isnt_use part.works) (place_in isnt_use part.works place) }) barrier
answered Marker part place barrier is =
    sends Asks (record part { works = remove part.works place }) 0 part.time (message.Passed barrier) refl
    ∙ ap (λ (works : List Work). sent (record (part_without Asks part) { works = works }) 0 part.time (message.Passed barrier))
    (remove_in isnt_use part.works place (Draining barrier) is refl)
answered Status part place barrier is =
    sends Asks (record part { works = remove part.works place }) 0 part.time (message.Passed barrier) refl
    ∙ ap (λ (works : List Work). sent (record (part_without Asks part) { works = works }) 0 part.time (message.Passed barrier))
    (remove_in isnt_use part.works place (Draining barrier) is refl)
answered Known part place barrier is =
    λ i. record (part_without Asks part) { works = remove_in isnt_use part.works place (Draining barrier) is refl i }

pub pass : (settings : Settings) (mappings : List Mapping) (part : Part) (place : ℕ) (o : Option Work) → slice_get part.works place ≡ o
    → IsLed Asks (device.pass settings.stopped part place o)
    (next_at Asks settings mappings part (if_so (is_left_at isnt_use o) (local.Pass (place_in isnt_use part.works place))))
pass settings mappings part place None h = tt
pass settings mappings part place (Some (Use translation)) h = tt
pass settings mappings part place (Some (Taken itag scope)) h = tt
pass settings mappings part place (Some (Draining barrier)) h =
    subst (λ (o : Option Work). IsLed Asks (device.pass settings.stopped part place (Some (Draining barrier)))
    (device.pass settings.stopped (part_without Asks part) (place_in isnt_use part.works place) o))
    (sym (get_in isnt_use part.works place (Draining barrier) h refl))
    (where_so Asks _ _ _ _ (none_still _ _ (let_by part place barrier h)) (answered settings.stopped part place barrier h))

-- ---- the unit

issue : (part : Part) (scope : Scope) (o : Option ℕ) → IsLed Asks (unit.issue part scope o) (unit.issue (part_without Asks part) scope o)
issue part scope None = tt
issue part scope (Some itag) = sends Asks (record (unit.shifted part) { issued = _ }) 0 part.time (message.Invalidate itag scope) refl

pub waits : (part : Part) (name : ℕ) (drain : Bool) → part_without Asks (unit.waited part name drain) ≡ unit.waited (part_without Asks part) name drain
waits part name drain = where_open Asks (drain && list_any unit.is_received part.received) _ _ _ _ refl refl

pump_head : (settings : Settings) (part : Part) (o : Option Descriptor)
    → IsLed Asks (unit.pump_head settings part o) (unit.pump_head settings (part_without Asks part) o)
pump_head settings part None = tt
pump_head settings part (Some (descriptor.Device endpoint scope)) = issue part scope _
pump_head settings part (Some (descriptor.Translations endpoint scope)) = refl
pump_head settings part (Some (descriptor.Entry endpoint pasid)) = refl
pump_head settings part (Some (descriptor.Wait name drain fence)) =
    where_so Asks _ _ _ _ (λ h. h)
    (where_open Asks (unit.is_out_before part.issued (length part.issued)) _ _ _ _ (waits (unit.shifted part) name drain) refl)
pump_head settings part (Some (descriptor.Out itag)) = tt

pub pump : (settings : Settings) (part : Part) → IsLed Asks (unit.pump settings part) (unit.pump settings (part_without Asks part))
pump settings part = if_takes Asks (not settings.is_loose && unit.takes part) _ _ (pump_head settings part (slice_get part.queue 0))

issue_at : (part : Part) (at : ℕ) (scope : Scope) (o : Option ℕ)
    → IsLed Asks (unit.issue_at part at scope o) (unit.issue_at (part_without Asks part) at scope o)
issue_at part at scope None = tt
issue_at part at scope (Some itag) =
    sends Asks (record part { queue = _; issued = _ }) 0 part.time (message.Invalidate itag scope) refl

pump_one : (settings : Settings) (part : Part) (at : ℕ) (one : Descriptor)
    → IsLed Asks (unit.pump_one settings part at one) (unit.pump_one settings (part_without Asks part) at one)
pump_one settings part at (descriptor.Device endpoint scope) = issue_at part at scope _
pump_one settings part at (descriptor.Translations endpoint scope) = refl
pump_one settings part at (descriptor.Entry endpoint pasid) = refl
pump_one settings part at (descriptor.Wait name drain fence) =
    where_so Asks _ _ _ _ (λ h. h) (waits (unit.taken_out part at) name drain)
pump_one settings part at (descriptor.Out itag) = tt

pump_there : (settings : Settings) (part : Part) (at : ℕ) (o : Option Descriptor)
    → IsLed Asks (unit.pump_there settings part at o) (unit.pump_there settings (part_without Asks part) at o)
pump_there settings part at None = tt
pump_there settings part at (Some one) =
    unless Asks (unit.is_barred settings part.queue at one) _ _ (pump_one settings part at one)

pub pump_at : (settings : Settings) (part : Part) (at : ℕ) → IsLed Asks (unit.pump_at settings part at) (unit.pump_at settings (part_without Asks part) at)
pump_at settings part at =
    if_takes Asks (settings.is_loose && unit.takes part) _ _ (pump_there settings part at (slice_get part.queue at))
