-- What an act leaves of an endpoint: its number, and what it sees of its unit, where the act isn't of that.
use Rattle.std.proofs.Common.{◌≡◌, ℕ, Bool, true, false, Option, Some, None, List, refl}
use Rattle.std.specs.Prelude.{⊤, ◌&&◌, if◌then◌else◌, length, not, position, remove, slice_get}
use Rattle.sva_open.specs.declared.acts.Control.{Control}
use Rattle.sva_open.specs.declared.acts.Control.TheVariants.{Ats, PageRequests, Mastering}
use Rattle.sva_open.specs.declared.acts.LocalAct.{LocalAct}
use Rattle.sva_open.specs.declared.acts.LocalAct.TheVariants as local
use Rattle.sva_open.specs.declared.descriptors.Arrived.{Arrived}
use Rattle.sva_open.specs.declared.descriptors.Descriptor.{Descriptor}
use Rattle.sva_open.specs.declared.descriptors.Descriptor.TheVariants as descriptor
use Rattle.sva_open.specs.declared.descriptors.Filed.{Filed}
use Rattle.sva_open.specs.declared.descriptors.Issued.{Issued}
use Rattle.sva_open.specs.declared.descriptors.Issued.TheVariants.{Sent as Issue, Waiting}
use Rattle.sva_open.specs.declared.descriptors.Received.{Received}
use Rattle.sva_open.specs.declared.descriptors.Received.TheVariants.{Request as Asked, Drain}
use Rattle.sva_open.specs.declared.frames.Mapping.{Mapping}
use Rattle.sva_open.specs.declared.frames.Target.{Target}
use Rattle.sva_open.specs.declared.frames.Translation.{Translation}
use Rattle.sva_open.specs.declared.messages.Barrier.{Barrier}
use Rattle.sva_open.specs.declared.messages.Message.{Message}
use Rattle.sva_open.specs.declared.messages.Message.TheVariants as message
use Rattle.sva_open.specs.declared.messages.Sent.{Sent}
use Rattle.sva_open.specs.declared.rows.Entry.{Entry}
use Rattle.sva_open.specs.declared.rows.KeptEntry.{KeptEntry}
use Rattle.sva_open.specs.declared.rows.Row.{Row}
use Rattle.sva_open.specs.declared.rows.State.{State}
use Rattle.sva_open.specs.declared.rows.State.TheVariants.{On}
use Rattle.sva_open.specs.declared.scopes.Scope.{Scope}
use Rattle.sva_open.specs.declared.settings.Settings.{Settings}
use Rattle.sva_open.specs.declared.settings.Stopped.{Stopped}
use Rattle.sva_open.specs.declared.settings.Stopped.TheVariants.{Marker, Status, Known}
use Rattle.sva_open.specs.declared.works.Group.{Group}
use Rattle.sva_open.specs.declared.works.Request.{Request}
use Rattle.sva_open.specs.declared.works.Work.{Work}
use Rattle.sva_open.specs.declared.works.Work.TheVariants.{Use, Taken, Draining}
use Rattle.sva_open.specs.Acts.{next_part}
use Rattle.sva_open.specs.Below.{is_of_unit, seen}
use Rattle.sva_open.specs.Devices as device
use Rattle.sva_open.specs.Host as host
use Rattle.sva_open.specs.Links as link
use Rattle.sva_open.specs.Units as unit
use Rattle.sva_open.specs.World.{Part, if_so}

-- it is the same endpoint
abbrev pub IsNamed : (before after : Part) → Type 0
IsNamed before after = after.endpoint ≡ before.endpoint

-- and sees the same of its unit
abbrev pub IsStill : (before after : Part) → Type 0
IsStill before after = (after.endpoint ≡ before.endpoint) × ((other : Part) → seen after other ≡ seen before other)

abbrev pub Of : (Part → Part → Type 0) → Part → Option Part → Type 0
Of R part None = ⊤
Of R part (Some after) = R part after

so : (R : Part → Part → Type 0) (part after : Part) (b : Bool) → R part after → Of R part (if_so b after)
so R part after true h = h
so R part after false h = tt

-- ---- acts that aren't of the unit

set_entry : (part : Part) (pasid space : ℕ) (o : Option Row) → Of IsStill part (host.set_entry part pasid space o)
set_entry part pasid space None = tt
set_entry part pasid space (Some row) = (refl, λ other. refl)

replace : (part : Part) (pasid space : ℕ) (o : Option Row) → Of IsStill part (host.replace part pasid space o)
replace part pasid space None = tt
replace part pasid space (Some row) = (refl, λ other. refl)

clear_entry : (part : Part) (pasid : ℕ) (o : Option Row) → Of IsStill part (host.clear_entry part pasid o)
clear_entry part pasid None = tt
clear_entry part pasid (Some row) = (refl, λ other. refl)

start : (part : Part) (pasid : ℕ) (o : Option Row) → Of IsStill part (host.start part pasid o)
start part pasid None = tt
start part pasid (Some row) = (refl, λ other. refl)

stop : (part : Part) (pasid : ℕ) (o : Option Row) → Of IsStill part (host.stop part pasid o)
stop part pasid None = tt
stop part pasid (Some row) = (refl, λ other. refl)

await_stopped : (part : Part) (pasid : ℕ) (o : Option Row) → Of IsStill part (host.await_stopped part pasid o)
await_stopped part pasid None = tt
await_stopped part pasid (Some row) = so IsStill part _ _ (refl, λ other. refl)

turned : (part : Part) (control : Control) (on : Bool) → IsStill part (device.turned part control on)
turned part Ats true = (refl, λ other. refl)
turned part Ats false = (refl, λ other. refl)
turned part PageRequests true = (refl, λ other. refl)
turned part PageRequests false = (refl, λ other. refl)
turned part Mastering on = (refl, λ other. refl)

responded : (part : Part) (index : ℕ) (fails : Bool) (place : ℕ) (o : Option Filed) → IsStill part (host.responded part index fails place o)
responded part index fails place None = (refl, λ other. refl)
responded part index fails place (Some filed) = (refl, λ other. refl)

respond : (part : Part) (index : ℕ) (fails : Bool) (o : Option ℕ) → IsStill part (host.respond_at part index fails o)
respond part index fails None = (refl, λ other. refl)
respond part index fails (Some place) = responded part index fails place (slice_get part.filed place)

free_pasid : (part : Part) (pasid : ℕ) (o : Option Row) → Of IsStill part (host.free_pasid part pasid o)
free_pasid part pasid None = tt
free_pasid part pasid (Some row) = (refl, λ other. refl)

ask : (part : Part) (pasid page : ℕ) (o : Option Row) → Of IsStill part (device.ask part pasid page o)
ask part pasid page None = tt
ask part pasid page (Some row) = so IsStill part _ _ (refl, λ other. refl)

begin_use : (part : Part) (o : Option Row) (held : Option Translation) → Of IsStill part (device.begin_use part o held)
begin_use part None held = tt
begin_use part (Some row) None = tt
begin_use part (Some row) (Some translation) = so IsStill part _ _ (refl, λ other. refl)

end_use : (part : Part) (place : ℕ) (o : Option Work) → Of IsStill part (device.end_use part place o)
end_use part place None = tt
end_use part place (Some (Use translation)) = (refl, λ other. refl)
end_use part place (Some (Taken itag scope)) = tt
end_use part place (Some (Draining barrier)) = tt

evict : (part : Part) (o : Option ℕ) → Of IsStill part (device.evict part o)
evict part None = tt
evict part (Some place) = (refl, λ other. refl)

fault : (part : Part) (pasid page : ℕ) (write last : Bool) (number : ℕ) (o : Option Row)
    → Of IsStill part (device.fault part pasid page write last number o)
fault part pasid page write last number None = tt
fault part pasid page write last number (Some row) = so IsStill part _ _ (refl, λ other. refl)

more : (part : Part) (index page : ℕ) (write last : Bool) (o : Option (Option Group)) → Of IsStill part (device.more part index page write last o)
more part index page write last None = tt
more part index page write last (Some None) = tt
more part index page write last (Some (Some group)) = so IsStill part _ _ (refl, λ other. refl)

finish : (part : Part) (place : ℕ) (o : Option Work) → Of IsStill part (device.finish part place o)
finish part place None = tt
finish part place (Some (Use translation)) = tt
finish part place (Some (Taken itag scope)) = so IsStill part _ _ (refl, λ other. refl)
finish part place (Some (Draining barrier)) = tt

passed : (by : Stopped) (part after : Part) (barrier : Barrier) → IsStill part after → IsStill part (device.passed by after barrier)
passed Marker part after barrier h = h
passed Status part after barrier h = h
passed Known part after barrier h = h

pass : (by : Stopped) (part : Part) (place : ℕ) (o : Option Work) → Of IsStill part (device.pass by part place o)
pass by part place None = tt
pass by part place (Some (Use translation)) = tt
pass by part place (Some (Taken itag scope)) = tt
pass by part place (Some (Draining barrier)) =
    so IsStill part _ _ (passed by part (record part { works = remove part.works place }) barrier (refl, λ other. refl))

said : (by : Stopped) (part : Part) (pasid : ℕ) (row : Row) → IsStill part (device.said by part pasid row)
said Marker part pasid row = (refl, λ other. refl)
said Status part pasid row = (refl, λ other. refl)
said Known part pasid row = (refl, λ other. refl)

quit : (by : Stopped) (part : Part) (pasid : ℕ) (o : Option Row) → Of IsStill part (device.quit by part pasid o)
quit by part pasid None = tt
quit by part pasid (Some row) = so IsStill part _ _ (said by part pasid row)

forget_entry : (part : Part) (place : ℕ) (o : Option KeptEntry) → Of IsStill part (unit.forget_entry part place o)
forget_entry part place None = tt
forget_entry part place (Some kept) = (refl, λ other. refl)

forget : (part : Part) (place : ℕ) (o : Option Translation) → Of IsStill part (unit.forget part place o)
forget part place None = tt
forget part place (Some kept) = (refl, λ other. refl)

-- ---- acts of the unit, and what comes

skip : (part : Part) (o : Option ℕ) → Of IsNamed part (host.skip part o)
skip part None = tt
skip part (Some place) = refl

serve : (part : Part) (o : Option Arrived) → Of IsNamed part (host.serve part o)
serve part None = tt
serve part (Some one) = refl

issue : (part : Part) (scope : Scope) (o : Option ℕ) → Of IsNamed part (unit.issue part scope o)
issue part scope None = tt
issue part scope (Some itag) = refl

named_if : (part one other : Part) (b : Bool) → one.endpoint ≡ part.endpoint → other.endpoint ≡ part.endpoint
    → (if b then one else other).endpoint ≡ part.endpoint
named_if part one other true h k = h
named_if part one other false h k = k

answered_if : (last : Bool) (part : Part) (one : Arrived) → IsNamed part (unit.answered_if last part one)
answered_if true part one = refl
answered_if false part one = refl

queued : (settings : Settings) (part : Part) (one : Arrived) → IsNamed part (unit.queued settings part one)
queued settings part one =
    named_if part _ _ (unit.is_full settings.places part.has_overflowed (length part.arrived))
    (answered_if one.request.last (record part { has_overflowed = true }) one) refl

write : (settings : Settings) (part : Part) (o : Option Received) → Of IsNamed part (unit.write settings part o)
write settings part None = tt
write settings part (Some (Asked one)) = queued settings (unit.without_oldest part) one
write settings part (Some (Drain name)) = tt

waited : (part : Part) (name : ℕ) (drain : Bool) → IsNamed part (unit.waited part name drain)
waited part name drain = named_if part _ _ _ refl refl

pump_head : (settings : Settings) (part : Part) (o : Option Descriptor) → Of IsNamed part (unit.pump_head settings part o)
pump_head settings part None = tt
pump_head settings part (Some (descriptor.Device endpoint scope)) = issue part scope _
pump_head settings part (Some (descriptor.Translations endpoint scope)) = refl
pump_head settings part (Some (descriptor.Entry endpoint pasid)) = refl
pump_head settings part (Some (descriptor.Wait name drain fence)) =
    so IsNamed part _ _ (named_if part _ _ _ refl (waited (unit.shifted part) name drain))
pump_head settings part (Some (descriptor.Out itag)) = tt

of_if : (part : Part) (b : Bool) (o : Option Part) → Of IsNamed part o → Of IsNamed part (if b then o else None)
of_if part true o h = h
of_if part false o h = tt

issue_at : (part : Part) (place : ℕ) (scope : Scope) (o : Option ℕ) → Of IsNamed part (unit.issue_at part place scope o)
issue_at part place scope None = tt
issue_at part place scope (Some itag) = refl

pump_one : (settings : Settings) (part : Part) (place : ℕ) (one : Descriptor) → Of IsNamed part (unit.pump_one settings part place one)
pump_one settings part place (descriptor.Device endpoint scope) = issue_at part place scope _
pump_one settings part place (descriptor.Translations endpoint scope) = refl
pump_one settings part place (descriptor.Entry endpoint pasid) = refl
pump_one settings part place (descriptor.Wait name drain fence) = so IsNamed part _ _ (waited (unit.taken_out part place) name drain)
pump_one settings part place (descriptor.Out itag) = tt

pump_there : (settings : Settings) (part : Part) (place : ℕ) (o : Option Descriptor) → Of IsNamed part (unit.pump_there settings part place o)
pump_there settings part place None = tt
pump_there settings part place (Some one) = unless (unit.is_barred settings part.queue place one)
  where
    unless : (b : Bool) → Of IsNamed part (if b then None else unit.pump_one settings part place one)
    unless true = tt
    unless false = pump_one settings part place one

told : (part : Part) (pasid : ℕ) (own : State) (owner : ℕ) (o : Option Row) → IsNamed part (link.told part pasid own owner o)
told part pasid own owner None = refl
told part pasid own owner (Some row) = refl

told_to_stop : (part : Part) (pasid owner : ℕ) (o : Option Row) → IsNamed part (link.told_to_stop part pasid owner o)
told_to_stop part pasid owner None = refl
told_to_stop part pasid owner (Some row) = refl

complete : (part : Part) (tag : ℕ) (target : Option Target) (o : Option (Option Request)) → IsNamed part (device.complete part tag target o)
complete part tag target None = refl
complete part tag target (Some None) = refl
complete part tag target (Some (Some request)) = refl

keeps : (part : Part) (b : Bool) (pasid page : ℕ) (entry : Option Entry) (target : Option Target)
    → IsNamed part (unit.keeps b part pasid page entry target)
keeps part false pasid page entry target = refl
keeps part true pasid page None target = refl
keeps part true pasid page (Some entry) None = refl
keeps part true pasid page (Some entry) (Some target) = refl

settled : (part : Part) (place : ℕ) (b : Bool) (o : Option Issued) → IsNamed part (unit.settled part place b o)
settled part place true o = refl
settled part place false None = refl
settled part place false (Some (Issue endpoint itag)) = refl
settled part place false (Some (Waiting name drain)) = waited (record part { issued = _ }) name drain

completed : (part : Part) (o : Option ℕ) → IsNamed part (unit.completed_at part o)
completed part None = refl
completed part (Some place) =
    settled (unit.without_issued part place) place (unit.is_out_before part.issued place)
    (slice_get (unit.without_issued part place).issued place)

answered : (part : Part) (pasid owner : ℕ) (o : Option Row) → IsNamed part (unit.answered_stop part pasid owner o)
answered part pasid owner None = refl
answered part pasid owner (Some row) = refl

received : (settings : Settings) (mappings : List Mapping) (part : Part) (one : Sent) (its : Message)
    → IsNamed part (link.received settings mappings part one its)
received settings mappings part one (message.Start pasid) = told part pasid On one.owner (slice_get part.rows pasid)
received settings mappings part one (message.Stop pasid) = told_to_stop part pasid one.owner (slice_get part.rows pasid)
received settings mappings part one message.Reset = refl
received settings mappings part one (message.Completion tag page target) = complete part tag target (slice_get part.requests tag)
received settings mappings part one (message.Invalidate itag scope) = named_if part _ _ part.has_ats refl refl
received settings mappings part one (message.Response index fails filed) = refl
received settings mappings part one (message.Request tag pasid page) =
    named_if part _ _ part.is_open (keeps part settings.has_caches pasid page (unit.entry_at part pasid) _) refl
received settings mappings part one (message.Invalidated itag) =
    named_if part _ _ part.is_open (completed (unit.without_out part itag) (position (unit.has_itag itag) part.issued)) refl
received settings mappings part one (message.PageRequest request) =
    named_if part _ _ part.is_open
    (named_if part _ _ settings.drain_empties (queued settings part (link.arrived_as part.endpoint one request)) refl) refl
received settings mappings part one (message.Marker pasid) =
    named_if part _ _ part.is_open (answered part pasid one.owner (slice_get part.rows pasid)) refl
received settings mappings part one (message.Status pasid) = answered part pasid one.owner (slice_get part.rows pasid)
received settings mappings part one message.ResetDone = refl
received settings mappings part one (message.Barrier barrier) = refl
received settings mappings part one (message.Passed barrier) = refl

deliver : (settings : Settings) (mappings : List Mapping) (part : Part) (place : ℕ) (o : Option Sent)
    → Of IsNamed part (link.deliver settings mappings part place o)
deliver settings mappings part place None = tt
deliver settings mappings part place (Some one) =
    so IsNamed part _ _ (named_if part _ _ (link.is_lost (link.without_sent part place) one.message) refl
    (received settings mappings (link.without_sent part place) one one.message))

-- ---- each act

-- it is the same endpoint, and where the act isn't of the unit it sees the same of that
abbrev pub IsLeft : LocalAct → (before after : Part) → Type 0
IsLeft own before after = (after.endpoint ≡ before.endpoint) × (is_of_unit own ≡ false → (other : Part) → seen after other ≡ seen before other)

still : (part : Part) (own : LocalAct) (o : Option Part) → Of IsStill part o → Of (IsLeft own) part o
still part own None h = tt
still part own (Some after) h = (h.0, λ apart. h.1)

of_unit : (part : Part) (own : LocalAct) (o : Option Part) → is_of_unit own ≡ true → Of IsNamed part o → Of (IsLeft own) part o
of_unit part own None is h = tt
of_unit part own (Some after) is h = (h, λ apart. absurd (both (is_of_unit own) is apart))
  where
    both : (b : Bool) → b ≡ true → b ≡ false → ⊥
    both true h k = cc k
    both false h k = cc h

pub left : (settings : Settings) (mappings : List Mapping) (part : Part) (own : LocalAct) → Of (IsLeft own) part (next_part settings mappings part own)
left settings mappings part (local.SetEntry pasid space) = still part (local.SetEntry pasid space) _ (set_entry part pasid space (slice_get part.rows pasid))
left settings mappings part (local.Replace pasid space) = still part (local.Replace pasid space) _ (replace part pasid space (slice_get part.rows pasid))
left settings mappings part (local.ClearEntry pasid) = still part (local.ClearEntry pasid) _ (clear_entry part pasid (slice_get part.rows pasid))
left settings mappings part (local.Start pasid) = still part (local.Start pasid) _ (start part pasid (slice_get part.rows pasid))
left settings mappings part (local.Stop pasid) = still part (local.Stop pasid) _ (stop part pasid (slice_get part.rows pasid))
left settings mappings part local.Reset = (refl, λ apart other. refl)
left settings mappings part (local.Barrier barrier) = (refl, λ apart other. refl)
left settings mappings part (local.Submit descriptors) =
    of_unit part (local.Submit descriptors) _ refl (so IsNamed part _ (host.may_submit part descriptors.items) refl)
left settings mappings part local.Close = of_unit part local.Close _ refl (so IsNamed part _ part.is_open refl)
left settings mappings part local.Reopen = of_unit part local.Reopen _ refl (so IsNamed part _ (not part.is_open) refl)
left settings mappings part local.Skip = of_unit part local.Skip _ refl (skip part (position unit.isnt_out part.queue))
left settings mappings part local.Resume = (refl, λ apart. absurd (cc apart))
left settings mappings part (local.AwaitWait name) = still part (local.AwaitWait name) _ (so IsStill part part _ (refl, λ other. refl))
left settings mappings part (local.AwaitStopped pasid) = still part (local.AwaitStopped pasid) _ (await_stopped part pasid (slice_get part.rows pasid))
left settings mappings part (local.AwaitPassed pasid thread) =
    still part (local.AwaitPassed pasid thread) _ (so IsStill part part _ (refl, λ other. refl))
left settings mappings part local.AwaitQueue = still part local.AwaitQueue _ (so IsStill part part _ (refl, λ other. refl))
left settings mappings part (local.AwaitQueueOf pasid) = still part (local.AwaitQueueOf pasid) _ (so IsStill part part _ (refl, λ other. refl))
left settings mappings part (local.AwaitGroups pasid) = still part (local.AwaitGroups pasid) _ (so IsStill part part _ (refl, λ other. refl))
left settings mappings part local.AwaitResets = still part local.AwaitResets _ (so IsStill part part _ (refl, λ other. refl))
left settings mappings part (local.Turn control on) = still part (local.Turn control on) (Some (device.turned part control on)) (turned part control on)
left settings mappings part local.AwaitIdle = still part local.AwaitIdle _ (so IsStill part part _ (refl, λ other. refl))
left settings mappings part local.AwaitGone = still part local.AwaitGone _ (so IsStill part part _ (refl, λ other. refl))
left settings mappings part local.Serve = of_unit part local.Serve _ refl (serve part (slice_get part.arrived 0))
left settings mappings part (local.Respond pasid index fails) =
    still part (local.Respond pasid index fails) (Some (host.respond part pasid index fails))
    (respond part index fails (position (host.is_group pasid index) part.filed))
left settings mappings part (local.RespondAll pasid fails) = (refl, λ apart other. refl)
left settings mappings part (local.Discard pasid) = (refl, λ apart other. refl)
left settings mappings part (local.FreePasid pasid) = still part (local.FreePasid pasid) _ (free_pasid part pasid (slice_get part.rows pasid))
left settings mappings part (local.Ask pasid page) = still part (local.Ask pasid page) _ (ask part pasid page (slice_get part.rows pasid))
left settings mappings part (local.Use pasid page) = still part (local.Use pasid page) _ (begin_use part (slice_get part.rows pasid) _)
left settings mappings part (local.End place) = still part (local.End place) _ (end_use part place (slice_get part.works place))
left settings mappings part (local.Evict pasid page) = still part (local.Evict pasid page) _ (evict part _)
left settings mappings part (local.Fault pasid page write last) =
    still part (local.Fault pasid page write last) _ (fault part pasid page write last (device.fresh_number part) (slice_get part.rows pasid))
left settings mappings part (local.More index page write last) =
    still part (local.More index page write last) _ (more part index page write last (slice_get part.groups index))
left settings mappings part (local.Finish place) = still part (local.Finish place) _ (finish part place (slice_get part.works place))
left settings mappings part (local.Pass place) = still part (local.Pass place) _ (pass settings.stopped part place (slice_get part.works place))
left settings mappings part (local.Quit pasid) = still part (local.Quit pasid) _ (quit settings.stopped part pasid (slice_get part.rows pasid))
left settings mappings part local.Leave = still part local.Leave _ (so IsStill part _ (not part.is_gone) (refl, λ other. refl))
left settings mappings part local.Pump =
    of_unit part local.Pump _ refl
    (of_if part (not settings.is_loose && unit.takes part) _ (pump_head settings part (slice_get part.queue 0)))
left settings mappings part (local.PumpAt place) =
    of_unit part (local.PumpAt place) _ refl
    (of_if part (settings.is_loose && unit.takes part) _ (pump_there settings part place (slice_get part.queue place)))
left settings mappings part (local.Expire itag silent) =
    of_unit part (local.Expire itag silent) _ refl (so IsNamed part _ (unit.may_expire settings part itag silent) refl)
left settings mappings part local.Write = of_unit part local.Write _ refl (write settings part (slice_get part.received 0))
left settings mappings part (local.ForgetEntry place) = still part (local.ForgetEntry place) _ (forget_entry part place (slice_get part.kept_entries place))
left settings mappings part (local.Forget place) = still part (local.Forget place) _ (forget part place (slice_get part.kept place))
left settings mappings part (local.Deliver place) =
    of_unit part (local.Deliver place) _ refl (deliver settings mappings part place (slice_get part.flight place))
