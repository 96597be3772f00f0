-- What comes of a message that is delivered, of the whole and of a page.
use Rattle.std.proofs.Common.{arith, ◌≡◌, ◌∙◌, ℕ, suc, Bool, true, false, Option, Some, None, option_map, List, [], ◌∷◌, ◌++◌, map, take}
use Rattle.std.proofs.Common.{refl, ap, sym, subst}
use Rattle.std.proofs.lemmas.Bool.Decides.{nat_tests}
use Rattle.std.specs.Prelude.{⊤, ◌==◌, ◌&&◌, ◌||◌, not, if◌then◌else◌, position, remove, slice_get, slice_set, filter}
use Rattle.std.specs.List.{list_any}
use Rattle.std.proofs.lemmas.List.{take-map}
use Rattle.std.proofs.lemmas.Option.{slice_get-map}
use Rattle.sva_open.specs.declared.frames.Mapping.{Mapping}
use Rattle.sva_open.specs.declared.frames.Target.{Target}
use Rattle.sva_open.specs.declared.frames.Translation.{Translation}
use Rattle.sva_open.specs.declared.scopes.Scope.{Scope}
use Rattle.sva_open.specs.declared.rows.Entry.{Entry}
use Rattle.sva_open.specs.declared.rows.Row.{Row}
use Rattle.sva_open.specs.declared.rows.State.{State}
use Rattle.sva_open.specs.declared.rows.State.TheVariants.{On}
use Rattle.sva_open.specs.declared.descriptors.Issued.{Issued}
use Rattle.sva_open.specs.declared.descriptors.Issued.TheVariants.{Sent as Issue, Waiting}
use Rattle.sva_open.specs.declared.messages.Message.{Message}
use Rattle.sva_open.specs.declared.messages.Message.TheVariants as message
use Rattle.sva_open.specs.declared.messages.Sent.{Sent}
use Rattle.sva_open.specs.declared.works.Request.{Request}
use Rattle.sva_open.specs.declared.works.Work.TheVariants.{Taken}
use Rattle.sva_open.specs.declared.settings.Settings.{Settings}
use Rattle.sva_open.specs.World.{Part, is_left, is_of, is_other, is_page, or_else, sent, with_translation}
use Rattle.sva_open.specs.Devices as device
use Rattle.sva_open.specs.Host as host
use Rattle.sva_open.specs.Units as unit
use Rattle.sva_open.specs.declared.settings.Link.{Link}
use Rattle.sva_open.specs.declared.settings.Link.TheVariants.{Free, Posted}
use Rattle.sva_open.specs.Order.{goes_up, holds_back, is_completion, is_page_request, is_posted, may_deliver, must_stay, stays_behind}
use Rattle.sva_open.specs.Links as link
use Rattle.sva_open_laws.specs.Pages.{is_at, is_work_at, its_message, its_part, its_sent, leads_at, target_if}
use Rattle.sva_open_laws.proofs.PageLists.{any, less}
use Rattle.sva_open_laws.proofs.Filters.{filter_both, filter_inner, filter_left, filter_without, find_in, find_none}
use Rattle.sva_open_laws.proofs.PageActs.{IsLed, also, queued, sends, waits, where_open, where_so}
use Rattle.sva_open_laws.proofs.PageBarriers.{barred}
use Rattle.sva_open_laws.proofs.PagePlaces.{of_other, of_page, with_kept}

-- ---- what is asked of a completion in flight, which is so of each at a safe moment: the request that has its tag is for its page

abbrev pub IsTagged : Part → Message → Type 0
IsTagged part (message.Completion tag page target) =
    (request : Request) → slice_get part.requests tag ≡ Some (Some request) → (page == request.page) ≡ true
IsTagged part _ = ⊤

abbrev pub IsTaggedAt : Part → Option Sent → Type 0
IsTaggedAt part None = ⊤
IsTaggedAt part (Some one) = IsTagged part one.message

-- ---- what reads no page

told : (page : ℕ) (part : Part) (pasid : ℕ) (state : State) (owner : ℕ) (o : Option Row)
    → its_part page (link.told part pasid state owner o) ≡ link.told (its_part page part) pasid state owner o
told page part pasid state owner None = refl
told page part pasid state owner (Some row) = refl

told_to_stop : (page : ℕ) (part : Part) (pasid owner : ℕ) (o : Option Row)
    → its_part page (link.told_to_stop part pasid owner o) ≡ link.told_to_stop (its_part page part) pasid owner o
told_to_stop page part pasid owner None = refl
told_to_stop page part pasid owner (Some row) = refl

answered_stop : (page : ℕ) (part : Part) (pasid owner : ℕ) (o : Option Row)
    → its_part page (unit.answered_stop part pasid owner o) ≡ unit.answered_stop (its_part page part) pasid owner o
answered_stop page part pasid owner None = refl
answered_stop page part pasid owner (Some row) = refl

settled : (page : ℕ) (part : Part) (place : ℕ) (is_out : Bool) (o : Option Issued)
    → its_part page (unit.settled part place is_out o) ≡ unit.settled (its_part page part) place is_out o
settled page part place true o = refl
settled page part place false None = refl
settled page part place false (Some (Issue endpoint itag)) = refl
settled page part place false (Some (Waiting name drain)) = waits page (record part { issued = remove part.issued place }) name drain

completed : (page : ℕ) (part : Part) (o : Option ℕ) → its_part page (unit.completed_at part o) ≡ unit.completed_at (its_part page part) o
completed page part None = refl
completed page part (Some place) =
    settled page (unit.without_issued part place) place (unit.is_out_before part.issued place) (slice_get (remove part.issued place) place)

invalidate : (page : ℕ) (part : Part) (itag : ℕ) (scope : Scope)
    → its_part page (device.invalidate part itag scope) ≡ device.invalidate (its_part page part) itag scope
invalidate page part itag scope = λ i. record (its_part page (device.invalidate part itag scope)) {
  held = filter_both (is_at page) (is_left scope) part.held i;
  works = filter_left (is_work_at page) part.works (Taken itag scope) refl i;
}

invalidated : (page : ℕ) (part : Part) (itag : ℕ) (scope : Scope)
    → its_part page (device.invalidated part itag scope) ≡ device.invalidated (its_part page part) itag scope
invalidated page part itag scope = where_open page part.has_ats _ _ _ _ refl (invalidate page part itag scope)

reset : (page : ℕ) (settings : Settings) (part : Part) → its_part page (device.reset_taken settings part) ≡ device.reset_taken settings (its_part page part)
reset page settings part = sends page (record part {
  rows = _;
  requests = [];
  held = [];
  works = [];
  groups = [];
  is_enabled = true;
  has_ats = _;
  has_requests = _;
  is_master = _;
  time = suc part.time;
}) 0 (suc part.time) message.ResetDone

-- ---- a translation request is answered

maps_page : (page space other : ℕ) (mapping : Mapping) → (other == page) ≡ true → is_page space other mapping ≡ true → leads_at page mapping ≡ true
maps_page page space other mapping h k = grind (arith, nat_tests)

maps_other : (page space other : ℕ) (mapping : Mapping) → (other == page) ≡ false → is_page space other mapping ≡ true → leads_at page mapping ≡ false
maps_other page space other mapping h k = grind (arith, nat_tests)

-- the page leads to what it leads to, and others nowhere
its_target : (page : ℕ) (mappings : List Mapping) (part : Part) (pasid other : ℕ) (b : Bool) (o : Option Entry) → (other == page) ≡ b
    → target_if b (unit.target_at mappings part pasid other o) ≡ unit.target_at (filter (leads_at page) mappings) (its_part page part) pasid other o
its_target page mappings part pasid other true None h = refl
its_target page mappings part pasid other false None h = refl
its_target page mappings part pasid other true (Some entry) h = λ i.
    or_else (option_map unit.target_kept (sym (find_in (is_at page) (is_of pasid other) (λ t. of_page page pasid other t h) part.kept) i))
    (option_map unit.target_mapped (sym (find_in (leads_at page) (is_page entry.space other) (λ m. maps_page page entry.space other m h) mappings) i))
its_target page mappings part pasid other false (Some entry) h = λ i.
    or_else (option_map unit.target_kept (sym (find_none (is_at page) (is_of pasid other) (λ t. of_other page pasid other t h) part.kept) i))
    (option_map unit.target_mapped (sym (find_none (leads_at page) (is_page entry.space other) (λ m. maps_other page entry.space other m h) mappings) i))

other_stays : (page : ℕ) (one translation : Translation) → is_at page one ≡ false → is_at page translation ≡ true → is_other one translation ≡ true
other_stays page one translation h k = grind (arith, nat_tests)

with_elsewhere : (page : ℕ) (xs : List Translation) (one : Translation) → is_at page one ≡ false
    → filter (is_at page) (with_translation xs one) ≡ filter (is_at page) xs
with_elsewhere page xs one h =
    filter_without (is_at page) (filter (is_other one) xs) one h
    ∙ filter_inner (is_at page) (is_other one) (λ translation. other_stays page one translation h) xs

with_same : (page : ℕ) (xs : List Translation) (one : Translation) → is_at page one ≡ true
    → filter (is_at page) (with_translation xs one) ≡ with_translation (filter (is_at page) xs) one
with_same page xs one h =
    filter_left (is_at page) (filter (is_other one) xs) one h
    ∙ ap (λ l. l ++ one ∷ []) (filter_both (is_at page) (is_other one) xs)

keeps : (page other : ℕ) (b c : Bool) (part : Part) (pasid : ℕ) (entry : Option Entry) (target : Option Target) → (other == page) ≡ b
    → its_part page (unit.keeps c part pasid other entry target) ≡ unit.keeps c (its_part page part) pasid other entry (target_if b target)
keeps page other b false part pasid entry target h = refl
keeps page other b true part pasid None target h = refl
keeps page other true true part pasid (Some entry) None h = refl
keeps page other false true part pasid (Some entry) None h = refl
keeps page other true true part pasid (Some entry) (Some target) h =
    with_kept page (unit.kept_entry part pasid entry) _ _
    (with_same page part.kept (record { pasid = pasid; page = other; owner = entry.owner; target = target }) h)
keeps page other false true part pasid (Some entry) (Some target) h =
    with_kept page (unit.kept_entry part pasid entry) _ _
    (with_elsewhere page part.kept (record { pasid = pasid; page = other; owner = entry.owner; target = target }) h)

answered : (page : ℕ) (settings : Settings) (mappings : List Mapping) (part : Part) (one : Sent) (tag pasid other : ℕ)
    → its_part page (unit.answer settings mappings part one tag pasid other)
    ≡ unit.answer settings (filter (leads_at page) mappings) (its_part page part) (its_sent page one) tag pasid other
answered page settings mappings part one tag pasid other =
    let c = settings.has_caches in
    let entry = unit.entry_at part pasid in
    let target = unit.target_at mappings part pasid other entry in
    sends page (unit.keeps c part pasid other entry target) one.owner one.number (message.Completion tag other target)
    ∙ ap (λ (p : Part). sent p one.owner one.number (message.Completion tag other (target_if (other == page) target)))
    (keeps page other (other == page) c part pasid entry target refl)
    ∙ ap (λ (t : Option Target). sent (unit.keeps c (its_part page part) pasid other entry t) one.owner one.number (message.Completion tag other t))
    (its_target page mappings part pasid other (other == page) entry refl)

-- ---- a completion

held_if : (page : ℕ) (doomed : Bool) (held : List Translation) (one : Translation) → is_at page one ≡ true
    → filter (is_at page) (if doomed then held else with_translation held one)
    ≡ (if doomed then filter (is_at page) held else with_translation (filter (is_at page) held) one)
held_if page true held one h = refl
held_if page false held one h = with_same page held one h

held_unless : (page : ℕ) (doomed : Bool) (held : List Translation) (one : Translation) → is_at page one ≡ false
    → filter (is_at page) (if doomed then held else with_translation held one) ≡ filter (is_at page) held
held_unless page true held one h = refl
held_unless page false held one h = with_elsewhere page held one h

held_after : (page : ℕ) (held : List Translation) (request : Request) (b : Bool) (target : Option Target) → (request.page == page) ≡ b
    → filter (is_at page) (device.held_after held request target) ≡ device.held_after (filter (is_at page) held) request (target_if b target)
held_after page held request true None h = refl
held_after page held request false None h = refl
held_after page held request true (Some target) h = held_if page request.is_doomed held _ h
held_after page held request false (Some target) h = held_unless page request.is_doomed held _ h

same_test : (page other own : ℕ) → (other == own) ≡ true → (own == page) ≡ (other == page)
same_test page other own h =
    let same : own ≡ other = grind (arith, nat_tests) in
    ap (λ n. n == page) same

complete : (page : ℕ) (part : Part) (tag other : ℕ) (target : Option Target) (o : Option (Option Request))
    → ((request : Request) → o ≡ Some (Some request) → (other == request.page) ≡ true)
    → its_part page (device.complete part tag target o) ≡ device.complete (its_part page part) tag (target_if (other == page) target) o
complete page part tag other target None h = refl
complete page part tag other target (Some None) h = refl
complete page part tag other target (Some (Some request)) h = λ i. record (its_part page part) {
  requests = slice_set part.requests tag None;
  held = held_after page part.held request (other == page) target (same_test page other request.page (h request refl)) i;
}

-- ---- all messages

received : (page : ℕ) (settings : Settings) (mappings : List Mapping) (part : Part) (one : Sent) (its : Message) → IsTagged part its
    → its_part page (link.received settings mappings part one its)
    ≡ link.received settings (filter (leads_at page) mappings) (its_part page part) (its_sent page one) (its_message page its)
received page settings mappings part one (message.Start pasid) h = told page part pasid On one.owner (slice_get part.rows pasid)
received page settings mappings part one (message.Stop pasid) h = told_to_stop page part pasid one.owner (slice_get part.rows pasid)
received page settings mappings part one message.Reset h = reset page settings part
received page settings mappings part one (message.Completion tag other target) h = complete page part tag other target (slice_get part.requests tag) h
received page settings mappings part one (message.Invalidate itag scope) h = invalidated page part itag scope
received page settings mappings part one (message.Response index fails filed) h = refl
received page settings mappings part one (message.Request tag pasid other) h =
    where_open page part.is_open _ _ _ _ refl (answered page settings mappings part one tag pasid other)
received page settings mappings part one (message.Invalidated itag) h =
    where_open page part.is_open _ _ _ _ refl (completed page (unit.without_out part itag) (position (unit.has_itag itag) part.issued))
received page settings mappings part one (message.PageRequest request) h =
    where_open page part.is_open _ _ _ _ refl
    (where_open page settings.drain_empties _ _ _ _ refl (queued page settings part (link.arrived_as part.endpoint one request)))
received page settings mappings part one (message.Marker pasid) h =
    where_open page part.is_open _ _ _ _ refl (answered_stop page part pasid one.owner (slice_get part.rows pasid))
received page settings mappings part one (message.Status pasid) h = answered_stop page part pasid one.owner (slice_get part.rows pasid)
received page settings mappings part one message.ResetDone h = refl
received page settings mappings part one (message.Barrier barrier) h = barred page part barrier
received page settings mappings part one (message.Passed barrier) h = refl

-- ---- the order reads no page

-- what the order reads of an older message
pub record IsSeenAs (page : ℕ) (older : Message) : Type 0 where
  pub up : goes_up older ≡ goes_up (its_message page older)
  pub completion : is_completion older ≡ is_completion (its_message page older)
  pub request : is_page_request older ≡ is_page_request (its_message page older)
  pub posted : is_posted older ≡ is_posted (its_message page older)

seen_as : (page : ℕ) (older : Message) → IsSeenAs page older
seen_as page (message.PageRequest request) = record { up = refl; completion = refl; request = refl; posted = refl }
seen_as page (message.Start pasid) = record { up = refl; completion = refl; request = refl; posted = refl }
seen_as page (message.Stop pasid) = record { up = refl; completion = refl; request = refl; posted = refl }
seen_as page message.Reset = record { up = refl; completion = refl; request = refl; posted = refl }
seen_as page (message.Completion tag own target) = record { up = refl; completion = refl; request = refl; posted = refl }
seen_as page (message.Invalidate itag scope) = record { up = refl; completion = refl; request = refl; posted = refl }
seen_as page (message.Response index fails filed) = record { up = refl; completion = refl; request = refl; posted = refl }
seen_as page (message.Request tag pasid other) = record { up = refl; completion = refl; request = refl; posted = refl }
seen_as page (message.Invalidated itag) = record { up = refl; completion = refl; request = refl; posted = refl }
seen_as page (message.Marker pasid) = record { up = refl; completion = refl; request = refl; posted = refl }
seen_as page (message.Status pasid) = record { up = refl; completion = refl; request = refl; posted = refl }
seen_as page message.ResetDone = record { up = refl; completion = refl; request = refl; posted = refl }
seen_as page (message.Barrier barrier) = record { up = refl; completion = refl; request = refl; posted = refl }
seen_as page (message.Passed barrier) = record { up = refl; completion = refl; request = refl; posted = refl }

-- so does the host where it awaits that nothing of an endpoint that is gone is on its way up
pub await_gone : (page : ℕ) (part : Part) → IsLed page (host.await_gone part) (host.await_gone (its_part page part))
await_gone page part = where_so page _ _ _ _
    (also _ _ (λ i. part.is_gone
    && not (any host.is_going_up host.is_going_up (its_sent page) (λ one. (seen_as page one.message).up) part.flight i))) refl

-- one message and an older one, each as it is seen
abbrev pub IsPair : (own older own_seen older_seen : Message) → Type 0
IsPair own older own_seen older_seen = stays_behind own older ≡ stays_behind own_seen older_seen

pair : (page : ℕ) (own older : Message)
    → IsPair own older (its_message page own) (its_message page older)
pair page (message.PageRequest request) older = λ i. request.last && (seen_as page older).request i
pair page (message.Marker pasid) older = (seen_as page older).request
pair page (message.Start pasid) older = λ i. not ((seen_as page older).up i) && not ((seen_as page older).completion i)
pair page (message.Stop pasid) older = λ i. not ((seen_as page older).up i) && not ((seen_as page older).completion i)
pair page (message.Barrier barrier) older = λ i. not ((seen_as page older).up i) && not ((seen_as page older).completion i)
pair page message.Reset older = λ i. not ((seen_as page older).up i) && not ((seen_as page older).completion i)
pair page message.ResetDone older = refl
pair page (message.Completion tag own target) older = refl
pair page (message.Invalidate itag scope) older = refl
pair page (message.Response index fails filed) older = refl
pair page (message.Request tag pasid other) older = refl
pair page (message.Invalidated itag) older = refl
pair page (message.Status pasid) older = refl
pair page (message.Passed barrier) older = refl

stays_at : (page : ℕ) (link : Link) (own older : Message)
    → must_stay link own older ≡ must_stay link (its_message page own) (its_message page older)
stays_at page Free own older = pair page own older
stays_at page Posted own older =
    let one = seen_as page own in
    let other = seen_as page older in
    λ i. pair page own older i
    || (((one.up i && other.up i) || (not (one.up i) && not (other.up i))) && other.posted i)

may : (page : ℕ) (link : Link) (part : Part) (place : ℕ) (own : Message)
    → may_deliver link part.flight place own
    ≡ may_deliver link (map (its_sent page) part.flight) place (its_message page own)
may page link part place own =
    let seen = its_message page own in
    ap not
    (any (holds_back link own) (holds_back link seen) (its_sent page)
    (λ older. stays_at page link own older.message) (take place part.flight)
    ∙ ap (list_any (holds_back link seen)) (sym (take-map (its_sent page) place part.flight)))

taken_out : (page : ℕ) (part : Part) (place : ℕ) → its_part page (link.without_sent part place) ≡ link.without_sent (its_part page part) place
taken_out page part place = λ i. record (its_part page part) { flight = less (its_sent page) part.flight place i }

untouched : (part : Part) (place : ℕ) (one : Message) → IsTagged part one → IsTagged (link.without_sent part place) one
untouched part place (message.Completion tag own target) h = h
untouched part place (message.PageRequest request) h = tt
untouched part place (message.Start pasid) h = tt
untouched part place (message.Stop pasid) h = tt
untouched part place message.Reset h = tt
untouched part place (message.Invalidate itag scope) h = tt
untouched part place (message.Response index fails filed) h = tt
untouched part place (message.Request tag pasid other) h = tt
untouched part place (message.Invalidated itag) h = tt
untouched part place (message.Marker pasid) h = tt
untouched part place (message.Status pasid) h = tt
untouched part place message.ResetDone h = tt
untouched part place (message.Barrier barrier) h = tt
untouched part place (message.Passed barrier) h = tt

-- what is lost of the whole is lost of a page
lost : (page : ℕ) (part : Part) (its : Message) → link.is_lost part its ≡ link.is_lost (its_part page part) (its_message page its)
lost page part its = λ i. part.is_gone && not ((seen_as page its).up i)

taken_in : (page : ℕ) (settings : Settings) (mappings : List Mapping) (part : Part) (one : Sent) → IsTagged part one.message
    → its_part page (link.taken_in settings mappings part one)
    ≡ link.taken_in settings (filter (leads_at page) mappings) (its_part page part) (its_sent page one)
taken_in page settings mappings part one h =
    where_open page (link.is_lost part one.message) _ _ _ _ (received page settings mappings part one one.message h) refl
    ∙ ap (λ (is : Bool). if is then its_part page part else
    link.received settings (filter (leads_at page) mappings) (its_part page part) (its_sent page one) (its_message page one.message))
    (lost page part one.message)

deliver_one : (page : ℕ) (settings : Settings) (mappings : List Mapping) (part : Part) (place : ℕ) (o : Option Sent) → IsTaggedAt part o
    → IsLed page (link.deliver settings mappings part place o)
    (link.deliver settings (filter (leads_at page) mappings) (its_part page part) place (option_map (its_sent page) o))
deliver_one page settings mappings part place None h = tt
deliver_one page settings mappings part place (Some one) h =
    where_so page _ _ _ _ (also _ _ (may page settings.link part place one.message))
    (taken_in page settings mappings (link.without_sent part place) one (untouched part place one.message h)
    ∙ ap (λ (p : Part). link.taken_in settings (filter (leads_at page) mappings) p (its_sent page one)) (taken_out page part place))

pub deliver : (page : ℕ) (settings : Settings) (mappings : List Mapping) (part : Part) (place : ℕ) → IsTaggedAt part (slice_get part.flight place)
    → IsLed page (link.deliver settings mappings part place (slice_get part.flight place))
    (link.deliver settings (filter (leads_at page) mappings) (its_part page part) place (slice_get (map (its_sent page) part.flight) place))
deliver page settings mappings part place h =
    subst (λ (o : Option Sent). IsLed page (link.deliver settings mappings part place (slice_get part.flight place))
    (link.deliver settings (filter (leads_at page) mappings) (its_part page part) place o))
    (sym (slice_get-map (its_sent page) part.flight place))
    (deliver_one page settings mappings part place (slice_get part.flight place) h)
