-- What an act at an endpoint leaves, and what of a page: the acts that read nothing of pages.
use Rattle.std.proofs.Common.{◌≡◌, ℕ, Bool, true, false, Option, Some, None, List, [], ◌∷◌, ◌++◌, map, refl, ap, sym, ◌∙◌}
use Rattle.std.specs.Prelude.{⊤, ◌&&◌, ◌||◌, if◌then◌else◌, length, not, remove, position, slice_get, filter}
use Rattle.std.specs.List.{list_any}
use Rattle.std.proofs.lemmas.List.{map-append}
use Rattle.sva_open.specs.declared.frames.Mapping.{Mapping}
use Rattle.sva_open.specs.declared.rows.Row.{Row}
use Rattle.sva_open.specs.declared.messages.Message.{Message}
use Rattle.sva_open.specs.declared.messages.Message.TheVariants as message
use Rattle.sva_open.specs.declared.works.Group.{Group}
use Rattle.sva_open.specs.declared.descriptors.Arrived.{Arrived}
use Rattle.sva_open.specs.declared.descriptors.Filed.{Filed}
use Rattle.sva_open.specs.declared.descriptors.Received.{Received}
use Rattle.sva_open.specs.declared.descriptors.Received.TheVariants.{Request as Asked, Drain}
use Rattle.sva_open.specs.declared.descriptors.Descriptor.{Descriptor}
use Rattle.sva_open.specs.declared.settings.Settings.{Settings}
use Rattle.sva_open.specs.declared.settings.Stopped.{Stopped}
use Rattle.sva_open.specs.declared.settings.Stopped.TheVariants.{Marker, Status, Known}
use Rattle.sva_open.specs.declared.acts.Control.{Control}
use Rattle.sva_open.specs.declared.acts.Control.TheVariants.{Ats, PageRequests, Mastering}
use Rattle.sva_open.specs.declared.acts.LocalAct.{LocalAct}
use Rattle.sva_open.specs.Finding.{is_use}
use Rattle.sva_open.specs.World.{Part, if_so, sent, with_row}
use Rattle.sva_open.specs.Acts.{next_part}
use Rattle.sva_open.specs.Host as host
use Rattle.sva_open.specs.Units as unit
use Rattle.sva_open.specs.Devices as device
use Rattle.sva_open_laws.specs.Pages.{is_work_at, its_message, its_part, its_sent, leads_at}
use Rattle.sva_open_laws.proofs.Filters.{fewer}
use Rattle.sva_open_laws.proofs.PageLists.{any}

-- what an act leads to where the world is of a page
abbrev pub next_at : (page : ℕ) → Settings → List Mapping → Part → Option LocalAct → Option Part
next_at page settings mappings part None = Some (its_part page part)
next_at page settings mappings part (Some its) = next_part settings (filter (leads_at page) mappings) (its_part page part) its

-- where the one is permitted, so is the other, and it leads to what the page has of what the one leaves
abbrev pub IsLed : (page : ℕ) → (one other : Option Part) → Type 0
IsLed page None other = ⊤
IsLed page (Some one) None = ⊥
IsLed page (Some one) (Some other) = its_part page one ≡ other

pub sends : (page : ℕ) (part : Part) (owner number : ℕ) (one : Message)
    → its_part page (sent part owner number one) ≡ sent (its_part page part) owner number (its_message page one)
sends page part owner number one = λ i. record (its_part page part) {
  flight = map-append (its_sent page) part.flight (record { message = one; owner = owner; number = number } ∷ []) i;
}

-- where the test of the whole is passed, so is that of the page
pub where_so : (page : ℕ) (b c : Bool) (one other : Part) → (b ≡ true → c ≡ true) → its_part page one ≡ other
    → IsLed page (if_so b one) (if_so c other)
where_so page false c one other passes h = tt
where_so page true true one other passes h = h
where_so page true false one other passes h = let never : false ≡ true = passes refl in absurd (cc)

pub where_open : (page : ℕ) (b : Bool) (one after other after_other : Part) → its_part page one ≡ other → its_part page after ≡ after_other
    → its_part page (if b then after else one) ≡ (if b then after_other else other)
where_open page true one after other after_other h k = k
where_open page false one after other after_other h k = h

pub waits : (page : ℕ) (part : Part) (name : ℕ) (drain : Bool)
    → its_part page (unit.waited part name drain) ≡ unit.waited (its_part page part) name drain
waits page part name drain = where_open page (drain && list_any unit.is_received part.received) _ _ _ _ refl refl

pub also : (b c : Bool) → b ≡ c → b ≡ true → c ≡ true
also b c h k = sym h ∙ k

-- ---- the host

pub set_entry : (page : ℕ) (part : Part) (pasid space : ℕ) (o : Option Row)
    → IsLed page (host.set_entry part pasid space o) (host.set_entry (its_part page part) pasid space o)
set_entry page part pasid space None = tt
set_entry page part pasid space (Some row) = refl

pub replace : (page : ℕ) (part : Part) (pasid space : ℕ) (o : Option Row)
    → IsLed page (host.replace part pasid space o) (host.replace (its_part page part) pasid space o)
replace page part pasid space None = tt
replace page part pasid space (Some row) = refl

pub clear_entry : (page : ℕ) (part : Part) (pasid : ℕ) (o : Option Row)
    → IsLed page (host.clear_entry part pasid o) (host.clear_entry (its_part page part) pasid o)
clear_entry page part pasid None = tt
clear_entry page part pasid (Some row) = refl

pub free_pasid : (page : ℕ) (part : Part) (pasid : ℕ) (o : Option Row)
    → IsLed page (host.free_pasid part pasid o) (host.free_pasid (its_part page part) pasid o)
free_pasid page part pasid None = tt
free_pasid page part pasid (Some row) = refl

pub start : (page : ℕ) (part : Part) (pasid : ℕ) (o : Option Row) → IsLed page (host.start part pasid o) (host.start (its_part page part) pasid o)
start page part pasid None = tt
start page part pasid (Some row) = sends page part row.owner part.time (message.Start pasid)

pub stop : (page : ℕ) (part : Part) (pasid : ℕ) (o : Option Row) → IsLed page (host.stop part pasid o) (host.stop (its_part page part) pasid o)
stop page part pasid None = tt
stop page part pasid (Some row) =
    sends page (with_row part pasid (record row { answer = None })) row.owner part.time (message.Stop pasid)

pub reset : (page : ℕ) (part : Part) → its_part page (host.reset part) ≡ host.reset (its_part page part)
reset page part = sends page part 0 part.time message.Reset

pub await_stopped : (page : ℕ) (part : Part) (pasid : ℕ) (o : Option Row)
    → IsLed page (host.await_stopped part pasid o) (host.await_stopped (its_part page part) pasid o)
await_stopped page part pasid None = tt
await_stopped page part pasid (Some row) = where_so page _ _ _ _ (λ h. h) refl

pub submit : (page : ℕ) (part : Part) (descriptors : List Descriptor) → IsLed page (host.submit part descriptors) (host.submit (its_part page part) descriptors)
submit page part descriptors = where_so page _ _ _ _ (λ h. h) refl

pub close : (page : ℕ) (part : Part) → IsLed page (host.close part) (host.close (its_part page part))
close page part = where_so page _ _ _ _ (λ h. h) refl

pub reopen : (page : ℕ) (part : Part) → IsLed page (host.reopen part) (host.reopen (its_part page part))
reopen page part = where_so page _ _ _ _ (λ h. h) refl

pub skip : (page : ℕ) (part : Part) (o : Option ℕ) → IsLed page (host.skip part o) (host.skip (its_part page part) o)
skip page part None = tt
skip page part (Some place) = refl

pub await_wait : (page : ℕ) (part : Part) (name : ℕ) → IsLed page (host.await_wait part name) (host.await_wait (its_part page part) name)
await_wait page part name = where_so page _ _ _ _ (λ h. h) refl

pub await_queue : (page : ℕ) (part : Part) → IsLed page (host.await_queue part) (host.await_queue (its_part page part))
await_queue page part = where_so page _ _ _ _ (λ h. h) refl

pub await_queue_of : (page : ℕ) (part : Part) (pasid : ℕ) → IsLed page (host.await_queue_of part pasid) (host.await_queue_of (its_part page part) pasid)
await_queue_of page part pasid = where_so page _ _ _ _ (λ h. h) refl

pub await_groups : (page : ℕ) (part : Part) (pasid : Option ℕ) → IsLed page (host.await_groups part pasid) (host.await_groups (its_part page part) pasid)
await_groups page part pasid = where_so page _ _ _ _ (λ h. h) refl

is_reset : (page : ℕ) (one : Message) → host.is_reset one ≡ host.is_reset (its_message page one)
is_reset page (message.PageRequest request) = refl
is_reset page (message.Start pasid) = refl
is_reset page (message.Stop pasid) = refl
is_reset page message.Reset = refl
is_reset page (message.Completion tag own target) = refl
is_reset page (message.Invalidate itag scope) = refl
is_reset page (message.Response index fails filed) = refl
is_reset page (message.Request tag pasid other) = refl
is_reset page (message.Invalidated itag) = refl
is_reset page (message.Marker pasid) = refl
is_reset page (message.Status pasid) = refl
is_reset page message.ResetDone = refl
is_reset page (message.Barrier barrier) = refl
is_reset page (message.Passed barrier) = refl

pub await_resets : (page : ℕ) (part : Part) → IsLed page (host.await_resets part) (host.await_resets (its_part page part))
await_resets page part = where_so page _ _ _ _
    (also _ _ (ap not (any host.is_of_reset host.is_of_reset (its_sent page)
    (λ one. is_reset page one.message) part.flight))) refl

-- what is turned off leaves nothing of a page that it doesn't leave of the whole
pub turned : (page : ℕ) (part : Part) (control : Control) (on : Bool)
    → its_part page (device.turned part control on) ≡ device.turned (its_part page part) control on
turned page part Ats true = refl
turned page part Ats false = refl
turned page part PageRequests true = refl
turned page part PageRequests false = refl
turned page part Mastering on = refl

pub serve : (page : ℕ) (part : Part) (o : Option Arrived) → IsLed page (host.serve part o) (host.serve (its_part page part) o)
serve page part None = tt
serve page part (Some one) = refl

responded : (page : ℕ) (part : Part) (index : ℕ) (fails : Bool) (place : ℕ) (o : Option Filed)
    → its_part page (host.responded part index fails place o) ≡ host.responded (its_part page part) index fails place o
responded page part index fails place None = sends page part 0 0 (message.Response index fails false)
responded page part index fails place (Some filed) =
    sends page (record part { filed = remove part.filed place }) 0 filed.number (message.Response index fails true)

respond_at : (page : ℕ) (part : Part) (index : ℕ) (fails : Bool) (o : Option ℕ)
    → its_part page (host.respond_at part index fails o) ≡ host.respond_at (its_part page part) index fails o
respond_at page part index fails None = sends page part 0 0 (message.Response index fails false)
respond_at page part index fails (Some place) = responded page part index fails place (slice_get part.filed place)

pub respond : (page : ℕ) (part : Part) (pasid index : ℕ) (fails : Bool)
    → its_part page (host.respond part pasid index fails) ≡ host.respond (its_part page part) pasid index fails
respond page part pasid index fails = respond_at page part index fails (position (host.is_group pasid index) part.filed)

-- an answer is of no page
answer_to : (page : ℕ) (fails : Bool) (xs : List Filed) → map (its_sent page) (map (host.answer_to fails) xs) ≡ map (host.answer_to fails) xs
answer_to page fails [] = refl
answer_to page fails (x ∷ xs) = ap (λ rest. host.answer_to fails x ∷ rest) (answer_to page fails xs)

pub respond_all : (page : ℕ) (part : Part) (pasid : Option ℕ) (fails : Bool)
    → its_part page (host.respond_all part pasid fails) ≡ host.respond_all (its_part page part) pasid fails
respond_all page part pasid fails =
    let whole = filter (host.is_whole_under pasid) part.filed in
    λ i. record (its_part page (host.respond_all part pasid fails)) {
      flight = (map-append (its_sent page) part.flight (map (host.answer_to fails) whole)
          ∙ ap (λ answers. map (its_sent page) part.flight ++ answers) (answer_to page fails whole)) i;
    }

answered_if : (page : ℕ) (last : Bool) (part : Part) (one : Arrived)
    → its_part page (unit.answered_if last part one) ≡ unit.answered_if last (its_part page part) one
answered_if page true part one = sends page part 0 one.number (message.Response one.request.index false true)
answered_if page false part one = refl

pub queued : (page : ℕ) (settings : Settings) (part : Part) (one : Arrived)
    → its_part page (unit.queued settings part one) ≡ unit.queued settings (its_part page part) one
queued page settings part one =
    where_open page (unit.is_full settings.places part.has_overflowed (length part.arrived)) _ _ _ _ refl
    (answered_if page one.request.last (record part { has_overflowed = true }) one)

pub write : (page : ℕ) (settings : Settings) (part : Part) (o : Option Received)
    → IsLed page (unit.write settings part o) (unit.write settings (its_part page part) o)
write page settings part None = tt
write page settings part (Some (Drain name)) = tt
write page settings part (Some (Asked one)) = queued page settings (unit.without_oldest part) one

-- ---- the endpoint's that are of no page

pub more : (page : ℕ) (part : Part) (index other : ℕ) (write last : Bool) (o : Option (Option Group))
    → IsLed page (device.more part index other write last o) (device.more (its_part page part) index other write last o)
more page part index other write last None = tt
more page part index other write last (Some None) = tt
more page part index other write last (Some (Some group)) =
    where_so page _ _ _ _ (λ h. h) (sends page (record part { groups = _ }) group.owner group.number (message.PageRequest _))

pub fault : (page : ℕ) (part : Part) (pasid other : ℕ) (write last : Bool) (number : ℕ) (o : Option Row)
    → IsLed page (device.fault part pasid other write last number o) (device.fault (its_part page part) pasid other write last number o)
fault page part pasid other write last number None = tt
fault page part pasid other write last number (Some row) =
    where_so page _ _ _ _ (λ h. h) (sends page (record part { groups = _ }) row.user number (message.PageRequest _))

-- less is under way of the page than of the whole
quiet_by : (a b c d e : Bool) → b ≡ d → (c ≡ false → e ≡ false) → not (a || (b || c)) ≡ true → not (a || (d || e)) ≡ true
quiet_by false false false d e h k quiet =
    let none : e ≡ false = k refl in
    let same : d ≡ false = sym h in
    (λ i. not (same i || none i))
quiet_by true b c d e h k quiet = absurd (cc)
quiet_by false true c d e h k quiet = absurd (cc)
quiet_by false false true d e h k quiet = absurd (cc)

quiet : (page : ℕ) (part : Part) (pasid : ℕ) → not (device.is_busy part pasid) ≡ true → not (device.is_busy (its_part page part) pasid) ≡ true
quiet page part pasid =
    quiet_by (list_any (device.is_unended part.awaits pasid) part.groups) _ _ _ _
    refl
    (fewer (is_work_at page) (device.is_use_under pasid) part.works)

pub and_so : (a b c : Bool) → (b ≡ true → c ≡ true) → a && b ≡ true → a && c ≡ true
and_so true b c h k = h k
and_so false b c h k = k

said : (page : ℕ) (stopped : Stopped) (part : Part) (pasid : ℕ) (row : Row)
    → its_part page (device.said stopped part pasid row) ≡ device.said stopped (its_part page part) pasid row
said page Marker part pasid row = sends page (with_row part pasid _) row.user part.time (message.Marker pasid)
said page Status part pasid row = sends page (with_row part pasid _) row.user part.time (message.Status pasid)
said page Known part pasid row = refl

pub quit : (page : ℕ) (stopped : Stopped) (part : Part) (pasid : ℕ) (o : Option Row)
    → IsLed page (device.quit stopped part pasid o) (device.quit stopped (its_part page part) pasid o)
quit page stopped part pasid None = tt
quit page stopped part pasid (Some row) = where_so page _ _ _ _ (and_so _ _ _ (quiet page part pasid)) (said page stopped part pasid row)

-- so it is of what the host sees: an endpoint that is idle is so of each page
pub none_still : (b c : Bool) → (b ≡ false → c ≡ false) → not b ≡ true → not c ≡ true
none_still false c h k = ap not (h refl)
none_still true c h k = absurd (cc)

pub await_idle : (page : ℕ) (part : Part) → IsLed page (host.await_idle part) (host.await_idle (its_part page part))
await_idle page part =
    where_so page _ _ _ _ (and_so _ _ _ (none_still _ _ (fewer (is_work_at page) is_use part.works))) refl

-- it goes with all that it has
pub leave : (page : ℕ) (part : Part) → IsLed page (device.leave part) (device.leave (its_part page part))
leave page part = where_so page _ _ _ _ (λ h. h) refl
