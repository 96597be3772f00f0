-- What `why` says of what lacks.
use Rattle.std.proofs.Common.{◌≡◌, refl, ap, ℕ, zero, suc, Bool, true, false, List, [], ◌∷◌, ◌++◌, flat_map, if◌then◌else◌}
use Rattle.std.specs.Prelude.{◌==◌, ◌&&◌, nat_le, Option, Some, None, Err, codes, is_some, slice_get}
use Rattle.std.specs.List.{find}
use Rattle.sva_step.specs.Limits
use Rattle.sva_step.specs.declared.refusals.Refusal.TheVariants as refusal
use Rattle.sva_step.specs.declared.steps.Step.{Step}
use Rattle.sva_step.specs.declared.steps.Step.TheVariants as step
use Rattle.sva_step.specs.declared.steps.Verdict.{Verdict}
use Rattle.sva_model.specs.Wire.{BindingWire, EndpointWire, FlightWire, HostGroupWire, JobWire, PageRequestWire, PageWire, PlaceWire, RequestWire}
use Rattle.sva_model.specs.Wire.{SpaceWire, TargetWire, TranslationWire, UseWire}
use Rattle.sva_model.specs.Wire.{Wire}
use Rattle.sva_model.specs.Wire.PlaceWire.{FreeWire, MappedWire, WithheldWire}
use Rattle.sva_model.specs.Wire.UseWire.{RunningWire, DeadWire}
use Rattle.sva_labels.specs.Finding.{binding_of, bound_at, held_by, outstanding, page_at, pages_in}
use Rattle.sva_labels.specs.Moves.{is_of_job}
use Rattle.sva_labels.specs.Replying.{space_of_job}
use Rattle.sva_lines.specs.Pieces.{field, line_end, rows}
use Rattle.sva_lines.specs.Words.{is_withheld}
use Rattle.sva_explain.specs.Accepted.{is_accepted}
use Rattle.sva_explain.specs.Frames.{each_space, frames_lines, free_line, full_of_job, mapped_if, mapped_line, most_pages_line, of_job, pages_if}
use Rattle.sva_explain.specs.Frames.{pages_line, space_if, to_map_line, withheld_by, withheld_if, withheld_line, withheld_lines}
use Rattle.sva_explain.specs.Hands.{full_lines, hand_line}
use Rattle.sva_explain.specs.Pasids.{all_borne_line, bearer_line}
use Rattle.sva_explain.specs.Slots.{each_slot, no_slot_lines, slot_if, slot_line, slots_line}
use Rattle.sva_explain.specs.Spaces.{spaces_line, unbound_if, unbound_line}
use Rattle.sva_explain.specs.Tags.{asked_if, asked_lines, each_out, no_tag_lines, not_held_line, not_held_lines, out_if, tags_line}
use Rattle.sva_explain.specs.declared.blockers.levels.Level.{Level}
use Rattle.sva_explain.specs.declared.blockers.levels.Level.TheVariants.{First, Second, Third}
use Rattle.sva_explain.specs.declared.blockers.link.Topic.{Topic}
use Rattle.sva_explain.specs.declared.blockers.link.Topic.TheVariants.{Asks, Responds, Stop, Tag}
use Rattle.sva_explain.specs.Lines.{indent}
use Rattle.sva_explain.specs.Link.{about_if, about_lines, is_about, message_line}
use Rattle.sva_explain.specs.Requests.{out_line, out_lines}
use Rattle.sva_explain.specs.Jobs.{hand_if, in_hand_line, job_at_if, job_if, job_lines, on_its_way_lines, request_if, request_line}
use Rattle.sva_explain.specs.Jobs.{unfiled_lines, untaken_line}
use Rattle.sva_explain.specs.Tables.{credit_if, credit_line, disabled_if, due_if, due_line, due_lines, is_due}
use Rattle.sva_explain.specs.Units.{of_part, place_lines, reset_if}
use Rattle.sva_why.specs.Bindings.{binding_line, borne_lines, kept_lines, stays_of}
use Rattle.sva_why.specs.Causes.{disabled, endpoint_of, no_credit, of_found}
use Rattle.sva_why.specs.Plain.{plain_line}
use Rattle.sva_why.specs.Standing.{Has}
use Rattle.sva_why.specs.Why.{why_of}
use Rattle.sva_why.proofs.Parts.{has_all, has_each, has_found, has_left, has_right, has_row, has_where, has_within}
use Rattle.sva_why_laws.specs.Lacking.{IsDue, disabled_line}

-- a message in flight that is about something
about_has : (level : Level) (wire : Wire) (endpoint place : ℕ) (topic : Topic) (flight : FlightWire)
    → slice_get wire.in_flight place ≡ Some flight → (flight.endpoint == endpoint && is_about topic flight.message) ≡ true
    → Has (about_lines level wire endpoint topic) (message_line level (codes " is in flight:") wire flight)
about_has level wire endpoint place topic flight is about =
    let line = message_line level (codes " is in flight:") wire flight in
    has_within (about_lines level wire endpoint topic) (about_if level wire endpoint topic flight) line
    (has_each (about_if level wire endpoint topic) wire.in_flight place flight is)
    (has_where (flight.endpoint == endpoint && is_about topic flight.message) line [] line about (has_all line))

-- a request that is out
out_has : (wire : Wire) (endpoint tag : ℕ) (part : EndpointWire) (request : RequestWire)
    → Has (out_lines Second wire endpoint part tag request) (out_line Second tag request)
out_has wire endpoint tag part request =
    let line = out_line Second tag request in
    let about = about_lines Third wire endpoint (Tag tag) in
    has_left (line ++ about) (reset_if Third wire endpoint part) line (has_left line about line (has_all line))

pub tag_stands : (wire : Wire) (endpoint pasid page tag : ℕ) (part : EndpointWire) (request : RequestWire)
    → slice_get wire.parts endpoint ≡ Some part → slice_get part.device.tags tag ≡ Some (Some request)
    → Has (why_of wire (step.Ask endpoint pasid page) (Err refusal.NoTag)) (out_line Second tag request)
tag_stands wire endpoint pasid page tag part request there is =
    let line = out_line Second tag request in
    let all = each_out wire endpoint part in
    has_found (of_part (no_tag_lines wire endpoint)) (slice_get wire.parts endpoint) part line there
    (has_right (tags_line First endpoint) all line
    (has_within all (out_if wire endpoint part tag (Some request)) line
    (has_row (out_if wire endpoint part) part.device.tags tag (Some request) is) (out_has wire endpoint tag part request)))

slot_has : (wire : Wire) (endpoint pasid page slot : ℕ) (write : Bool) (part : EndpointWire) (used : Option UseWire)
    → slice_get wire.parts endpoint ≡ Some part → slice_get part.device.slots slot ≡ Some used
    → Has (why_of wire (step.BeginUse endpoint pasid page write) (Err refusal.NoUseSlot)) (slot_if wire endpoint slot used)
slot_has wire endpoint pasid page slot write part used there is =
    let lines = slot_if wire endpoint slot used in
    has_found (of_part (no_slot_lines wire endpoint)) (slice_get wire.parts endpoint) part lines there
    (has_right (slots_line First endpoint) (each_slot wire endpoint part) lines (has_row (slot_if wire endpoint) part.device.slots slot used is))

pub running_stands : (wire : Wire) (endpoint pasid page slot : ℕ) (write : Bool) (part : EndpointWire) (translation : TranslationWire)
    → slice_get wire.parts endpoint ≡ Some part → slice_get part.device.slots slot ≡ Some (Some (RunningWire translation))
    → Has (why_of wire (step.BeginUse endpoint pasid page write) (Err refusal.NoUseSlot))
    (slot_line wire endpoint slot (codes " runs") (Some (RunningWire translation)))
running_stands wire endpoint pasid page slot write part translation there is =
    slot_has wire endpoint pasid page slot write part (Some (RunningWire translation)) there is

pub dead_stands : (wire : Wire) (endpoint pasid page slot : ℕ) (write : Bool) (part : EndpointWire)
    → slice_get wire.parts endpoint ≡ Some part → slice_get part.device.slots slot ≡ Some (Some DeadWire)
    → Has (why_of wire (step.BeginUse endpoint pasid page write) (Err refusal.NoUseSlot))
    (slot_line wire endpoint slot (codes " is dead") (Some DeadWire))
dead_stands wire endpoint pasid page slot write part there is = slot_has wire endpoint pasid page slot write part (Some DeadWire) there is

pub job_stands : (wire : Wire) (worker : ℕ) (job : JobWire) → held_by wire worker ≡ Some job
    → Has (why_of wire (step.Take worker) (Err refusal.HandsFull)) (hand_line First wire worker job)
job_stands wire worker job is =
    let line = hand_line First wire worker job in
    has_found (full_lines wire worker) (held_by wire worker) job line is (has_all line)

pub space_stands : (wire : Wire) (asked : Step) (place : ℕ) (space : SpaceWire)
    → slice_get wire.spaces place ≡ Some space → is_accepted wire (step.DropSpace space.number) ≡ true
    → Has (why_of wire asked (Err refusal.TooManySpaces)) (unbound_line Second space.number)
space_stands wire asked place space is may =
    let line = unbound_line Second space.number in
    let all = flat_map (unbound_if wire) wire.spaces in
    has_right (spaces_line First) all line
    (has_within all (unbound_if wire space) line (has_each (unbound_if wire) wire.spaces place space is)
    (has_where (is_accepted wire (step.DropSpace space.number)) line [] line may (has_all line)))

pub of_mapping : (wire : Wire) (space page : ℕ) (write : Bool) → why_of wire (step.Map space page write) (Err refusal.NoFrame) ≡ frames_lines wire
of_mapping wire space page write = refl

pub of_answer : (wire : Wire) (worker : ℕ) (verdict : Verdict) (job : JobWire) → held_by wire worker ≡ Some job
    → why_of wire (step.Reply worker verdict) (Err refusal.NoFrame) ≡ to_map_line wire worker job ++ frames_lines wire
of_answer wire worker verdict job is = ap (λ held. of_job (to_map_line wire worker) held ++ frames_lines wire) is

-- where a frame is withheld one is found
some_withheld : (places : List PlaceWire) (frame : ℕ) (targets : List (Option TargetWire)) → slice_get places frame ≡ Some (WithheldWire targets)
    → is_some (find is_withheld places) ≡ true
some_withheld [] frame targets is = absurd (cc is)
some_withheld (place ∷ places) zero targets is = first place is
  where
    first : (here : PlaceWire) → Some here ≡ Some (WithheldWire targets) → is_some (if is_withheld here then Some here else find is_withheld places) ≡ true
    first FreeWire is = absurd (cc is)
    first MappedWire is = absurd (cc is)
    first (WithheldWire others) is = refl
some_withheld (place ∷ places) (suc frame) targets is = go (some_withheld places frame targets is) (is_withheld place)
  where
    go : is_some (find is_withheld places) ≡ true → (b : Bool) → is_some (if b then Some place else find is_withheld places) ≡ true
    go found true = refl
    go found false = found

by_found : (wire : Wire) (found : Option PlaceWire) → is_some found ≡ true → Has (withheld_by wire found) (withheld_line wire.places)
by_found wire None is = absurd (cc is)
by_found wire (Some place) is =
    let line = withheld_line wire.places in
    has_left line (place_lines wire (Some place)) line (has_all line)

pub withheld_stands : (wire : Wire) (frame : ℕ) (targets : List (Option TargetWire)) → slice_get wire.places frame ≡ Some (WithheldWire targets)
    → Has (frames_lines wire) (withheld_line wire.places)
withheld_stands wire frame targets is =
    let line = withheld_line wire.places in
    let found = by_found wire (find is_withheld wire.places) (some_withheld wire.places frame targets is) in
    has_left (free_line wire.places ++ withheld_lines wire) (each_space wire) line (has_right (free_line wire.places) (withheld_lines wire) line found)

pub frame_stands : (wire : Wire) (frame : ℕ) (targets : List (Option TargetWire)) → slice_get wire.places frame ≡ Some (WithheldWire targets)
    → Has (withheld_line wire.places) (field (codes " ") frame)
frame_stands wire frame targets is =
    let word = indent First ++ codes "frames that are withheld:" in
    let all = rows withheld_if 0 wire.places in
    let number = field (codes " ") frame in
    has_left (word ++ all ++ codes "; the first waits:") line_end number
    (has_left (word ++ all) (codes "; the first waits:") number
    (has_right word all number (has_row withheld_if wire.places frame (WithheldWire targets) is)))

pub holder_stands : (wire : Wire) (place : ℕ) (space : SpaceWire) (entry : PageWire) (rest : List PageWire)
    → slice_get wire.spaces place ≡ Some space → space.pages ≡ entry ∷ rest
    → Has (frames_lines wire) (pages_line wire space.number space.pages)
holder_stands wire place space entry rest is some =
    let line = pages_line wire space.number space.pages in
    let own : Has (space_if wire space) line = by_pages space.pages some in
    has_right (free_line wire.places ++ withheld_lines wire) (each_space wire) line
    (has_within (each_space wire) (space_if wire space) line (has_each (space_if wire) wire.spaces place space is) own)
  where
    by_pages : (pages : List PageWire) → pages ≡ entry ∷ rest → Has (pages_if wire space.number pages) (pages_line wire space.number pages)
    by_pages [] is = absurd (cc is)
    by_pages (first ∷ others) is = has_all (pages_line wire space.number (first ∷ others))

pub full_stands : (wire : Wire) (space page : ℕ) (write : Bool)
    → Has (why_of wire (step.Map space page write) (Err refusal.SpaceFull)) (pages_line wire space (pages_in wire space))
full_stands wire space page write =
    let line = pages_line wire space (pages_in wire space) in
    has_right most_pages_line line line (has_all line)

pub full_of_answer_stands : (wire : Wire) (worker : ℕ) (verdict : Verdict) (job : JobWire) → held_by wire worker ≡ Some job
    → Has (why_of wire (step.Reply worker verdict) (Err refusal.SpaceFull))
    (to_map_line wire worker job ++ pages_line wire (space_of_job wire job) (pages_in wire (space_of_job wire job)))
full_of_answer_stands wire worker verdict job is =
    let lines = full_of_job wire worker job in
    has_right most_pages_line (of_job (full_of_job wire worker) (held_by wire worker)) lines
    (has_found (of_job (full_of_job wire worker)) (held_by wire worker) job lines is (has_all lines))

pub bearer_stands : (wire : Wire) (asked : Step) (place : ℕ) (binding : BindingWire) → slice_get wire.bindings place ≡ Some binding
    → Has (why_of wire asked (Err refusal.NoPasid)) (bearer_line Second wire binding)
bearer_stands wire asked place binding is =
    has_right all_borne_line (flat_map (bearer_line Second wire) wire.bindings) (bearer_line Second wire binding)
    (has_each (bearer_line Second wire) wire.bindings place binding is)

not_held_has : (wire : Wire) (endpoint pasid page : ℕ) (write : Bool) (part : EndpointWire) (line : List ℕ) → slice_get wire.parts endpoint ≡ Some part
    → Has (not_held_lines wire endpoint pasid page part) line → Has (why_of wire (step.BeginUse endpoint pasid page write) (Err refusal.NotHeld)) line
not_held_has wire endpoint pasid page write part line there has =
    has_found (of_part (not_held_lines wire endpoint pasid page)) (slice_get wire.parts endpoint) part line there has

pub lack_stands : (wire : Wire) (endpoint pasid page : ℕ) (write : Bool) (part : EndpointWire)
    → slice_get wire.parts endpoint ≡ Some part
    → Has (why_of wire (step.BeginUse endpoint pasid page write) (Err refusal.NotHeld)) (not_held_line First wire endpoint pasid page)
lack_stands wire endpoint pasid page write part there =
    let line = not_held_line First wire endpoint pasid page in
    not_held_has wire endpoint pasid page write part line there (has_left line (asked_lines wire endpoint part pasid page) line (has_all line))

pub asked_stands : (wire : Wire) (endpoint pasid page tag : ℕ) (write : Bool) (part : EndpointWire) (request : RequestWire)
    → slice_get wire.parts endpoint ≡ Some part → slice_get part.device.tags tag ≡ Some (Some request)
    → (request.pasid == pasid && request.page == page) ≡ true
    → Has (why_of wire (step.BeginUse endpoint pasid page write) (Err refusal.NotHeld)) (out_line Second tag request)
asked_stands wire endpoint pasid page tag write part request there is same =
    let line = out_line Second tag request in
    let all = asked_lines wire endpoint part pasid page in
    not_held_has wire endpoint pasid page write part line there
    (has_right (not_held_line First wire endpoint pasid page) all line
    (has_within all (asked_if wire endpoint part pasid page tag (Some request)) line
    (has_row (asked_if wire endpoint part pasid page) part.device.tags tag (Some request) is)
    (has_where (request.pasid == pasid && request.page == page) (out_lines Second wire endpoint part tag request) [] line same
    (out_has wire endpoint tag part request))))

pub evict_alike : (wire : Wire) (endpoint pasid page : ℕ) (write : Bool)
    → why_of wire (step.Evict endpoint pasid page) (Err refusal.NotHeld)
    ≡ why_of wire (step.BeginUse endpoint pasid page write) (Err refusal.NotHeld)
evict_alike wire endpoint pasid page write = refl

-- ---- NoCredit

-- what is said of a group whose response is due
due_has : (wire : Wire) (asked : Step) (endpoint index : ℕ) (part : EndpointWire) (line : List ℕ) → IsDue wire asked endpoint index part
    → Has (due_lines Second wire endpoint part index) line → Has (why_of wire asked (Err refusal.NoCredit)) line
due_has wire asked endpoint index part line is has =
    let above = credit_line First wire endpoint part.device in
    let all = rows (due_if Second wire endpoint part) 0 part.device.groups in
    let reset = reset_if Second wire endpoint part in
    let own : Has (due_if Second wire endpoint part index is.group) line =
    has_where (is_due is.group) (due_lines Second wire endpoint part index) [] line is.due has in
    let row : Has all line =
    has_within all (due_if Second wire endpoint part index is.group) line
    (has_row (due_if Second wire endpoint part) part.device.groups index is.group is.bears) own in
    let whole : Has (credit_if First wire endpoint part) line =
    has_where (nat_le Limits.page_requests (outstanding part.device.groups)) (above ++ all ++ reset) [] line is.spent
    (has_left (above ++ all) reset line (has_right above all line row)) in
    has_found (no_credit wire) (endpoint_of wire asked) endpoint line is.of_it
    (has_found (of_part (credit_if First wire endpoint)) (slice_get wire.parts endpoint) part line is.there whole)

pub due_stands : (wire : Wire) (asked : Step) (endpoint index : ℕ) (part : EndpointWire) → IsDue wire asked endpoint index part
    → Has (why_of wire asked (Err refusal.NoCredit)) (due_line Second index)
due_stands wire asked endpoint index part is =
    let line = due_line Second index in
    due_has wire asked endpoint index part line is (has_left line (on_its_way_lines Third wire endpoint part index) line (has_all line))

-- where it stands on the way to its response
way_has : (wire : Wire) (asked : Step) (endpoint index : ℕ) (part : EndpointWire) (line : List ℕ) → IsDue wire asked endpoint index part
    → Has (on_its_way_lines Third wire endpoint part index) line → Has (why_of wire asked (Err refusal.NoCredit)) line
way_has wire asked endpoint index part line is has =
    due_has wire asked endpoint index part line is (has_right (due_line Second index) (on_its_way_lines Third wire endpoint part index) line has)

-- its job
job_has : (wire : Wire) (asked : Step) (endpoint index place : ℕ) (part : EndpointWire) (group : HostGroupWire) (line : List ℕ)
    → IsDue wire asked endpoint index part → slice_get part.host_groups place ≡ Some group → (group.index == index) ≡ true
    → Has (job_lines Third wire group) line → Has (why_of wire asked (Err refusal.NoCredit)) line
job_has wire asked endpoint index place part group line is there same has =
    let jobs = flat_map (job_at_if Third wire index) part.host_groups in
    let unfiled = unfiled_lines Third wire endpoint part index in
    let responds = about_lines Third wire endpoint (Responds index) in
    way_has wire asked endpoint index part line is
    (has_left (jobs ++ unfiled) responds line (has_left jobs unfiled line
    (has_within jobs (job_at_if Third wire index group) line (has_each (job_at_if Third wire index) part.host_groups place group there)
    (has_where (group.index == index) (job_lines Third wire group) [] line same has))))

pub worker_stands : (wire : Wire) (asked : Step) (endpoint index place worker : ℕ) (part : EndpointWire) (group : HostGroupWire) (job : JobWire)
    → IsDue wire asked endpoint index part → slice_get part.host_groups place ≡ Some group → (group.index == index) ≡ true
    → slice_get wire.hands worker ≡ Some (Some job) → is_of_job job group ≡ true
    → Has (why_of wire asked (Err refusal.NoCredit)) (in_hand_line Third wire worker)
worker_stands wire asked endpoint index place worker part group job is there same held own =
    let line = in_hand_line Third wire worker in
    let hands = rows (hand_if Third wire group) 0 wire.hands in
    let jobs = flat_map (job_if Third wire group) wire.jobs in
    job_has wire asked endpoint index place part group line is there same
    (has_left hands jobs line
    (has_within hands (hand_if Third wire group worker (Some job)) line (has_row (hand_if Third wire group) wire.hands worker (Some job) held)
    (has_where (is_of_job job group) line [] line own (has_all line))))

pub untaken_stands : (wire : Wire) (asked : Step) (endpoint index place at : ℕ) (part : EndpointWire) (group : HostGroupWire) (job : JobWire)
    → IsDue wire asked endpoint index part → slice_get part.host_groups place ≡ Some group → (group.index == index) ≡ true
    → slice_get wire.jobs at ≡ Some job → is_of_job job group ≡ true
    → Has (why_of wire asked (Err refusal.NoCredit)) (untaken_line Third wire)
untaken_stands wire asked endpoint index place at part group job is there same queued own =
    let line = untaken_line Third wire in
    let hands = rows (hand_if Third wire group) 0 wire.hands in
    let jobs = flat_map (job_if Third wire group) wire.jobs in
    job_has wire asked endpoint index place part group line is there same
    (has_right hands jobs line
    (has_within jobs (job_if Third wire group job) line (has_each (job_if Third wire group) wire.jobs at job queued)
    (has_where (is_of_job job group) line [] line own (has_all line))))

-- its page requests
unfiled_has : (wire : Wire) (asked : Step) (endpoint index : ℕ) (part : EndpointWire) (line : List ℕ) → IsDue wire asked endpoint index part
    → Has (unfiled_lines Third wire endpoint part index) line → Has (why_of wire asked (Err refusal.NoCredit)) line
unfiled_has wire asked endpoint index part line is has =
    let jobs = flat_map (job_at_if Third wire index) part.host_groups in
    let unfiled = unfiled_lines Third wire endpoint part index in
    let responds = about_lines Third wire endpoint (Responds index) in
    way_has wire asked endpoint index part line is (has_left (jobs ++ unfiled) responds line (has_right jobs unfiled line has))

pub request_stands : (wire : Wire) (asked : Step) (endpoint index place : ℕ) (part : EndpointWire) (request : PageRequestWire)
    → IsDue wire asked endpoint index part → slice_get part.page_queue place ≡ Some request → (request.index == index) ≡ true
    → Has (why_of wire asked (Err refusal.NoCredit)) (request_line Third wire endpoint)
request_stands wire asked endpoint index place part request is there same =
    let line = request_line Third wire endpoint in
    let requests = flat_map (request_if Third wire endpoint index) part.page_queue in
    let asks = about_lines Third wire endpoint (Asks index) in
    unfiled_has wire asked endpoint index part line is
    (has_left requests asks line
    (has_within requests (request_if Third wire endpoint index request) line
    (has_each (request_if Third wire endpoint index) part.page_queue place request there)
    (has_where (request.index == index) line [] line same (has_all line))))

pub asks_stand : (wire : Wire) (asked : Step) (endpoint index place : ℕ) (part : EndpointWire) (flight : FlightWire)
    → IsDue wire asked endpoint index part → slice_get wire.in_flight place ≡ Some flight
    → (flight.endpoint == endpoint && is_about (Asks index) flight.message) ≡ true
    → Has (why_of wire asked (Err refusal.NoCredit)) (message_line Third (codes " is in flight:") wire flight)
asks_stand wire asked endpoint index place part flight is there about =
    let line = message_line Third (codes " is in flight:") wire flight in
    let requests = flat_map (request_if Third wire endpoint index) part.page_queue in
    let asks = about_lines Third wire endpoint (Asks index) in
    unfiled_has wire asked endpoint index part line is
    (has_right requests asks line (about_has Third wire endpoint place (Asks index) flight there about))

pub response_stands : (wire : Wire) (asked : Step) (endpoint index place : ℕ) (part : EndpointWire) (flight : FlightWire)
    → IsDue wire asked endpoint index part → slice_get wire.in_flight place ≡ Some flight
    → (flight.endpoint == endpoint && is_about (Responds index) flight.message) ≡ true
    → Has (why_of wire asked (Err refusal.NoCredit)) (message_line Third (codes " is in flight:") wire flight)
response_stands wire asked endpoint index place part flight is there about =
    let line = message_line Third (codes " is in flight:") wire flight in
    let jobs = flat_map (job_at_if Third wire index) part.host_groups in
    let unfiled = unfiled_lines Third wire endpoint part index in
    let responds = about_lines Third wire endpoint (Responds index) in
    way_has wire asked endpoint index part line is
    (has_right (jobs ++ unfiled) responds line (about_has Third wire endpoint place (Responds index) flight there about))

-- ---- PriDisabled, and what is there already

pub disabled_stands : (wire : Wire) (asked : Step) (endpoint : ℕ) (part : EndpointWire)
    → endpoint_of wire asked ≡ Some endpoint → slice_get wire.parts endpoint ≡ Some part → part.device.is_disabled ≡ true
    → Has (why_of wire asked (Err refusal.PriDisabled)) (disabled_line wire endpoint)
disabled_stands wire asked endpoint part of_it there off =
    let line = disabled_line wire endpoint in
    has_found (disabled wire) (endpoint_of wire asked) endpoint line of_it
    (has_found (of_part (λ part. disabled_if First wire endpoint part.device)) (slice_get wire.parts endpoint) part line there
    (has_where part.device.is_disabled line [] line off (has_all line)))

pub stop_stands : (wire : Wire) (endpoint pasid place : ℕ) (flight : FlightWire)
    → slice_get wire.in_flight place ≡ Some flight → (flight.endpoint == endpoint && is_about (Stop pasid) flight.message) ≡ true
    → Has (why_of wire (step.Quit endpoint pasid) (Err refusal.NotStopping)) (message_line Second (codes " is in flight:") wire flight)
stop_stands wire endpoint pasid place flight is about =
    let line = message_line Second (codes " is in flight:") wire flight in
    has_right (plain_line refusal.NotStopping) (about_lines Second wire endpoint (Stop pasid)) line
    (about_has Second wire endpoint place (Stop pasid) flight is about)

pub bound_stands : (wire : Wire) (endpoint space : ℕ) (binding : BindingWire) → bound_at wire endpoint space ≡ Some binding
    → Has (why_of wire (step.Bind endpoint space) (Err refusal.AlreadyBound)) (bearer_line First wire binding)
bound_stands wire endpoint space binding is =
    let line = bearer_line First wire binding in
    has_found (of_found (borne_lines wire)) (bound_at wire endpoint space) binding line is (has_left line (stays_of wire binding) line (has_all line))

pub unbound_stands : (wire : Wire) (number : ℕ) (binding : BindingWire) → binding_of wire number ≡ Some binding
    → Has (why_of wire (step.Unbind number) (Err refusal.NotLive)) (binding_line First wire binding)
unbound_stands wire number binding is =
    let line = binding_line First wire binding in
    has_found (of_found (kept_lines wire)) (binding_of wire number) binding line is (has_left line (stays_of wire binding) line (has_all line))

pub page_stands : (wire : Wire) (space page : ℕ) (write : Bool) (entry : PageWire) → page_at (pages_in wire space) page ≡ Some entry
    → Has (why_of wire (step.Map space page write) (Err refusal.Mapped)) (mapped_line wire space entry)
page_stands wire space page write entry is =
    let line = mapped_line wire space entry in
    has_found (mapped_if wire space) (page_at (pages_in wire space) page) entry line is (has_all line)
