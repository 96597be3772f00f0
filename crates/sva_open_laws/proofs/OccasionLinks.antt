-- What comes of a message that is delivered, of the whole, and without asks, and without faults.
use Rattle.std.proofs.Common.{◌≡◌, ◌∙◌, ℕ, suc, Bool, true, false, Option, Some, None, List, [], map, take, refl, ap, sym, subst}
use Rattle.std.specs.Prelude.{not, position, remove, slice_get}
use Rattle.std.specs.List.{list_any}
use Rattle.sva_open.specs.declared.frames.Mapping.{Mapping}
use Rattle.sva_open.specs.declared.frames.Target.{Target}
use Rattle.sva_open.specs.declared.rows.Entry.{Entry}
use Rattle.sva_open.specs.declared.rows.Row.{Row}
use Rattle.sva_open.specs.declared.rows.State.{State}
use Rattle.sva_open.specs.declared.rows.State.TheVariants.{On}
use Rattle.sva_open.specs.declared.descriptors.Issued.{Issued}
use Rattle.sva_open.specs.declared.descriptors.Issued.TheVariants.{Sent as Issue, Waiting}
use Rattle.sva_open.specs.declared.messages.Message.{Message}
use Rattle.sva_open.specs.declared.messages.Message.TheVariants as message
use Rattle.sva_open.specs.declared.messages.Sent.{Sent}
use Rattle.sva_open.specs.declared.works.Request.{Request}
use Rattle.sva_open.specs.declared.works.Work.TheVariants.{Taken, Draining}
use Rattle.sva_open.specs.declared.settings.Settings.{Settings}
use Rattle.sva_open.specs.declared.acts.LocalAct.TheVariants as local
use Rattle.sva_open.specs.Devices as device
use Rattle.sva_open.specs.Links as link
use Rattle.sva_open.specs.Order.{holds_back}
use Rattle.sva_open.specs.Units as unit
use Rattle.sva_open.specs.World.{Part, if_so, sent}
use Rattle.sva_open_laws.specs.Pages.{is_left_at, place_in}
use Rattle.sva_open_laws.specs.Occasions.{Chain, is_message_left, is_sent_left, isnt_use, part_without}
use Rattle.sva_open_laws.specs.Occasions.Chain.{Asks, Faults}
use Rattle.sva_open_laws.proofs.Filters.{fewer, filter_left, get_in, remove_gone, remove_in, take_in}
use Rattle.sva_open_laws.proofs.OccasionAsks as asks
use Rattle.sva_open_laws.proofs.OccasionFaults as faults
use Rattle.sva_open_laws.proofs.OccasionParts.{IsLed, at_once, gone, next_at, same_open, sends, where_open, where_so}
use Rattle.sva_open_laws.proofs.PageActs.{none_still}

-- ---- what a message comes to

told : (chain : Chain) (part : Part) (pasid : ℕ) (state : State) (owner : ℕ) (o : Option Row)
    → part_without chain (link.told part pasid state owner o) ≡ link.told (part_without chain part) pasid state owner o
told chain part pasid state owner None = refl
told Asks part pasid state owner (Some row) = refl
told Faults part pasid state owner (Some row) = refl

told_to_stop : (chain : Chain) (part : Part) (pasid owner : ℕ) (o : Option Row)
    → part_without chain (link.told_to_stop part pasid owner o) ≡ link.told_to_stop (part_without chain part) pasid owner o
told_to_stop chain part pasid owner None = refl
told_to_stop Asks part pasid owner (Some row) = refl
told_to_stop Faults part pasid owner (Some row) = refl

answered_stop : (chain : Chain) (part : Part) (pasid owner : ℕ) (o : Option Row)
    → part_without chain (unit.answered_stop part pasid owner o) ≡ unit.answered_stop (part_without chain part) pasid owner o
answered_stop chain part pasid owner None = refl
answered_stop Asks part pasid owner (Some row) = refl
answered_stop Faults part pasid owner (Some row) = refl

settled : (chain : Chain) (part : Part) (place : ℕ) (is_out : Bool) (next : Option Issued)
    → part_without chain (unit.settled part place is_out next) ≡ unit.settled (part_without chain part) place is_out next
settled chain part place true next = refl
settled chain part place false None = refl
settled chain part place false (Some (Issue endpoint itag)) = refl
settled Asks part place false (Some (Waiting name drain)) = asks.waits (record part { issued = remove part.issued place }) name drain
settled Faults part place false (Some (Waiting name drain)) = faults.waits (record part { issued = remove part.issued place }) name drain

completed : (chain : Chain) (part : Part) (o : Option ℕ) → part_without chain (unit.completed_at part o) ≡ unit.completed_at (part_without chain part) o
completed chain part None = refl
completed Asks part (Some place) =
    settled Asks (unit.without_issued part place) place (unit.is_out_before part.issued place) (slice_get (remove part.issued place) place)
completed Faults part (Some place) =
    settled Faults (unit.without_issued part place) place (unit.is_out_before part.issued place) (slice_get (remove part.issued place) place)

reset : (chain : Chain) (settings : Settings) (part : Part)
    → part_without chain (device.reset_taken settings part) ≡ device.reset_taken settings (part_without chain part)
reset Asks settings part =
    sends Asks (record part {
      rows = map device.switched_off part.rows;
      requests = [];
      held = [];
      works = [];
      groups = [];
      is_enabled = true;
      has_ats = not settings.clears_controls;
      has_requests = not settings.clears_controls;
      is_master = not settings.clears_controls;
      time = suc part.time;
    }) 0 (suc part.time) message.ResetDone refl
reset Faults settings part =
    sends Faults (record part {
      rows = map device.switched_off part.rows;
      requests = [];
      held = [];
      works = [];
      groups = [];
      is_enabled = true;
      has_ats = not settings.clears_controls;
      has_requests = not settings.clears_controls;
      is_master = not settings.clears_controls;
      time = suc part.time;
    }) 0 (suc part.time) message.ResetDone refl

complete_gone : (part : Part) (tag : ℕ) (target : Option Target) (o : Option (Option Request))
    → part_without Asks (device.complete part tag target o) ≡ part_without Asks part
complete_gone part tag target None = refl
complete_gone part tag target (Some None) = refl
complete_gone part tag target (Some (Some request)) = refl

complete : (part : Part) (tag : ℕ) (target : Option Target) (o : Option (Option Request))
    → part_without Faults (device.complete part tag target o) ≡ device.complete (part_without Faults part) tag target o
complete part tag target None = refl
complete part tag target (Some None) = refl
complete part tag target (Some (Some request)) = refl

keeps_gone : (c : Bool) (part : Part) (pasid page : ℕ) (entry : Option Entry) (target : Option Target)
    → part_without Asks (unit.keeps c part pasid page entry target) ≡ part_without Asks part
keeps_gone false part pasid page entry target = refl
keeps_gone true part pasid page None target = refl
keeps_gone true part pasid page (Some entry) None = refl
keeps_gone true part pasid page (Some entry) (Some target) = refl

keeps : (c : Bool) (part : Part) (pasid page : ℕ) (entry : Option Entry) (target : Option Target)
    → part_without Faults (unit.keeps c part pasid page entry target) ≡ unit.keeps c (part_without Faults part) pasid page entry target
keeps false part pasid page entry target = refl
keeps true part pasid page None target = refl
keeps true part pasid page (Some entry) None = refl
keeps true part pasid page (Some entry) (Some target) = refl

answered_gone : (settings : Settings) (mappings : List Mapping) (part : Part) (one : Sent) (tag pasid page : ℕ)
    → part_without Asks (unit.answer settings mappings part one tag pasid page) ≡ part_without Asks part
answered_gone settings mappings part one tag pasid page =
    let entry = unit.entry_at part pasid in
    let target = unit.target_at mappings part pasid page entry in
    gone Asks (unit.keeps settings.has_caches part pasid page entry target) one.owner one.number (message.Completion tag page target) refl
    ∙ keeps_gone settings.has_caches part pasid page entry target

answered : (settings : Settings) (mappings : List Mapping) (part : Part) (one : Sent) (tag pasid page : ℕ)
    → part_without Faults (unit.answer settings mappings part one tag pasid page)
    ≡ unit.answer settings mappings (part_without Faults part) one tag pasid page
answered settings mappings part one tag pasid page =
    let entry = unit.entry_at part pasid in
    let target = unit.target_at mappings part pasid page entry in
    sends Faults (unit.keeps settings.has_caches part pasid page entry target) one.owner one.number (message.Completion tag page target) refl
    ∙ ap (λ (p : Part). sent p one.owner one.number (message.Completion tag page target)) (keeps settings.has_caches part pasid page entry target)

-- ---- one that isn't of the chain

left : (chain : Chain) (settings : Settings) (mappings : List Mapping) (part : Part) (one : Sent) (its : Message) → is_message_left chain its ≡ true
    → part_without chain (link.received settings mappings part one its) ≡ link.received settings mappings (part_without chain part) one its
left Asks settings mappings part one (message.Start pasid) h = told Asks part pasid On one.owner (slice_get part.rows pasid)
left Asks settings mappings part one (message.Stop pasid) h = told_to_stop Asks part pasid one.owner (slice_get part.rows pasid)
left Asks settings mappings part one message.Reset h = reset Asks settings part
left Asks settings mappings part one (message.Completion tag page target) h = absurd (cc)
left Asks settings mappings part one (message.Invalidate itag scope) h =
    where_open Asks part.has_ats _ _ _ _ refl (λ i. record (part_without Asks part) { works = filter_left isnt_use part.works (Taken itag scope) refl i })
left Asks settings mappings part one (message.Response index fails filed) h = refl
left Asks settings mappings part one (message.Request tag pasid page) h = absurd (cc)
left Asks settings mappings part one (message.Invalidated itag) h =
    where_open Asks part.is_open _ _ _ _ refl (completed Asks (unit.without_out part itag) (position (unit.has_itag itag) part.issued))
left Asks settings mappings part one (message.PageRequest request) h =
    where_open Asks part.is_open _ _ _ _ refl
    (where_open Asks settings.drain_empties _ _ _ _ refl (asks.queued settings part (link.arrived_as part.endpoint one request)))
left Asks settings mappings part one (message.Marker pasid) h =
    where_open Asks part.is_open _ _ _ _ refl (answered_stop Asks part pasid one.owner (slice_get part.rows pasid))
left Asks settings mappings part one (message.Status pasid) h = answered_stop Asks part pasid one.owner (slice_get part.rows pasid)
left Asks settings mappings part one message.ResetDone h = refl
left Asks settings mappings part one (message.Barrier barrier) h =
    λ i. record (part_without Asks (device.barred part barrier)) { works = filter_left isnt_use part.works (Draining barrier) refl i }
left Asks settings mappings part one (message.Passed barrier) h = refl
left Faults settings mappings part one (message.Start pasid) h = told Faults part pasid On one.owner (slice_get part.rows pasid)
left Faults settings mappings part one (message.Stop pasid) h = told_to_stop Faults part pasid one.owner (slice_get part.rows pasid)
left Faults settings mappings part one message.Reset h = reset Faults settings part
left Faults settings mappings part one (message.Completion tag page target) h = complete part tag target (slice_get part.requests tag)
left Faults settings mappings part one (message.Invalidate itag scope) h = where_open Faults part.has_ats _ _ _ _ refl refl
left Faults settings mappings part one (message.Response index fails filed) h = absurd (cc)
left Faults settings mappings part one (message.Request tag pasid page) h =
    where_open Faults part.is_open _ _ _ _ refl (answered settings mappings part one tag pasid page)
left Faults settings mappings part one (message.Invalidated itag) h =
    where_open Faults part.is_open _ _ _ _ refl (completed Faults (unit.without_out part itag) (position (unit.has_itag itag) part.issued))
left Faults settings mappings part one (message.PageRequest request) h = absurd (cc)
left Faults settings mappings part one (message.Marker pasid) h =
    where_open Faults part.is_open _ _ _ _ refl (answered_stop Faults part pasid one.owner (slice_get part.rows pasid))
left Faults settings mappings part one (message.Status pasid) h = answered_stop Faults part pasid one.owner (slice_get part.rows pasid)
left Faults settings mappings part one message.ResetDone h = refl
left Faults settings mappings part one (message.Barrier barrier) h = refl
left Faults settings mappings part one (message.Passed barrier) h = refl

-- ---- one that is

nothing : (chain : Chain) (settings : Settings) (mappings : List Mapping) (part : Part) (one : Sent) (its : Message)
    → is_message_left chain its ≡ false → part_without chain (link.received settings mappings part one its) ≡ part_without chain part
nothing Asks settings mappings part one (message.Completion tag page target) h = complete_gone part tag target (slice_get part.requests tag)
nothing Asks settings mappings part one (message.Request tag pasid page) h =
    same_open Asks part.is_open _ _ _ refl (answered_gone settings mappings part one tag pasid page)
nothing Faults settings mappings part one (message.PageRequest request) h =
    same_open Faults part.is_open _ _ _ refl
    (same_open Faults settings.drain_empties _ _ _ refl (faults.queued settings part (link.arrived_as part.endpoint one request)))
nothing Faults settings mappings part one (message.Response index fails filed) h = refl
nothing Asks settings mappings part one (message.PageRequest request) h = absurd (cc)
nothing Asks settings mappings part one (message.Response index fails filed) h = absurd (cc)
nothing Asks settings mappings part one (message.Start pasid) h = absurd (cc)
nothing Asks settings mappings part one (message.Stop pasid) h = absurd (cc)
nothing Asks settings mappings part one message.Reset h = absurd (cc)
nothing Asks settings mappings part one (message.Invalidate itag scope) h = absurd (cc)
nothing Asks settings mappings part one (message.Invalidated itag) h = absurd (cc)
nothing Asks settings mappings part one (message.Marker pasid) h = absurd (cc)
nothing Asks settings mappings part one (message.Status pasid) h = absurd (cc)
nothing Asks settings mappings part one message.ResetDone h = absurd (cc)
nothing Asks settings mappings part one (message.Barrier barrier) h = absurd (cc)
nothing Asks settings mappings part one (message.Passed barrier) h = absurd (cc)
nothing Faults settings mappings part one (message.Completion tag page target) h = absurd (cc)
nothing Faults settings mappings part one (message.Request tag pasid page) h = absurd (cc)
nothing Faults settings mappings part one (message.Start pasid) h = absurd (cc)
nothing Faults settings mappings part one (message.Stop pasid) h = absurd (cc)
nothing Faults settings mappings part one message.Reset h = absurd (cc)
nothing Faults settings mappings part one (message.Invalidate itag scope) h = absurd (cc)
nothing Faults settings mappings part one (message.Invalidated itag) h = absurd (cc)
nothing Faults settings mappings part one (message.Marker pasid) h = absurd (cc)
nothing Faults settings mappings part one (message.Status pasid) h = absurd (cc)
nothing Faults settings mappings part one message.ResetDone h = absurd (cc)
nothing Faults settings mappings part one (message.Barrier barrier) h = absurd (cc)
nothing Faults settings mappings part one (message.Passed barrier) h = absurd (cc)

-- ---- what goes down to an endpoint that is gone is dropped of both

taken_left : (chain : Chain) (settings : Settings) (mappings : List Mapping) (part : Part) (one : Sent) → is_sent_left chain one ≡ true
    → part_without chain (link.taken_in settings mappings part one) ≡ link.taken_in settings mappings (part_without chain part) one
taken_left Asks settings mappings part one h =
    where_open Asks (link.is_lost part one.message) _ _ _ _ (left Asks settings mappings part one one.message h) refl
taken_left Faults settings mappings part one h =
    where_open Faults (link.is_lost part one.message) _ _ _ _ (left Faults settings mappings part one one.message h) refl

taken_nothing : (chain : Chain) (settings : Settings) (mappings : List Mapping) (part : Part) (one : Sent) → is_sent_left chain one ≡ false
    → part_without chain (link.taken_in settings mappings part one) ≡ part_without chain part
taken_nothing chain settings mappings part one h =
    same_open chain (link.is_lost part one.message) _ _ _ (nothing chain settings mappings part one one.message h) refl

-- ---- the act

deliver_by : (chain : Chain) (settings : Settings) (mappings : List Mapping) (part : Part) (place : ℕ) (one : Sent) (b : Bool)
    → slice_get part.flight place ≡ Some one → is_sent_left chain one ≡ b
    → IsLed chain (link.deliver settings mappings part place (Some one))
    (next_at chain settings mappings part (if_so b (local.Deliver (place_in (is_sent_left chain) part.flight place))))
deliver_by Asks settings mappings part place one true h is =
    let keep = is_sent_left Asks in
    subst (λ (o : Option Sent). IsLed Asks (link.deliver settings mappings part place (Some one))
    (link.deliver settings mappings (part_without Asks part) (place_in keep part.flight place) o))
    (sym (get_in keep part.flight place one h is))
    (where_so Asks _ _ _ _
    (none_still _ _ (λ none. ap (list_any (holds_back settings.link one.message)) (take_in keep part.flight place)
    ∙ fewer keep (holds_back settings.link one.message) (take place part.flight) none))
    (taken_left Asks settings mappings (link.without_sent part place) one is
    ∙ ap (λ (flight : List Sent). link.taken_in settings mappings (record (part_without Asks part) { flight = flight }) one)
    (remove_in keep part.flight place one h is)))
deliver_by Faults settings mappings part place one true h is =
    let keep = is_sent_left Faults in
    subst (λ (o : Option Sent). IsLed Faults (link.deliver settings mappings part place (Some one))
    (link.deliver settings mappings (part_without Faults part) (place_in keep part.flight place) o))
    (sym (get_in keep part.flight place one h is))
    (where_so Faults _ _ _ _
    (none_still _ _ (λ none. ap (list_any (holds_back settings.link one.message)) (take_in keep part.flight place)
    ∙ fewer keep (holds_back settings.link one.message) (take place part.flight) none))
    (taken_left Faults settings mappings (link.without_sent part place) one is
    ∙ ap (λ (flight : List Sent). link.taken_in settings mappings (record (part_without Faults part) { flight = flight }) one)
    (remove_in keep part.flight place one h is)))
deliver_by Asks settings mappings part place one false h is =
    at_once Asks _ _ _
    (taken_nothing Asks settings mappings (link.without_sent part place) one is
    ∙ (λ i. record (part_without Asks part) { flight = remove_gone (is_sent_left Asks) part.flight place one h is i }))
deliver_by Faults settings mappings part place one false h is =
    at_once Faults _ _ _
    (taken_nothing Faults settings mappings (link.without_sent part place) one is
    ∙ (λ i. record (part_without Faults part) { flight = remove_gone (is_sent_left Faults) part.flight place one h is i }))

pub deliver : (chain : Chain) (settings : Settings) (mappings : List Mapping) (part : Part) (place : ℕ) (o : Option Sent)
    → slice_get part.flight place ≡ o
    → IsLed chain (link.deliver settings mappings part place o)
    (next_at chain settings mappings part (if_so (is_left_at (is_sent_left chain) o) (local.Deliver (place_in (is_sent_left chain) part.flight place))))
deliver chain settings mappings part place None h = tt
deliver chain settings mappings part place (Some one) h = deliver_by chain settings mappings part place one (is_sent_left chain one) h refl
