-- A line stands wherever its cause holds.
use Rattle.std.proofs.Common.{◌≡◌, arith, refl, subst, sym, ℕ, zero, suc, ◌+◌, ◌<◌, Bool, true, false, List, [], ◌++◌, flat_map}
use Rattle.std.specs.Prelude.{◌==◌, ◌&&◌, nat_le, Option, Some, None, codes, slice_get}
use Rattle.sva_step.specs.Limits
use Rattle.sva_step.specs.declared.steps.Step.TheVariants as step
use Rattle.sva_step.specs.declared.steps.Verdict.{Verdict}
use Rattle.sva_model.specs.Labels.{is_set, names_none}
use Rattle.sva_model.specs.State.{PasidState}
use Rattle.sva_model.specs.State.PasidState.{Off, Ending}
use Rattle.sva_model.specs.Wire.{AskWire, BindingWire, EndpointWire, FlightWire, GroupWire, HostGroupWire, JobWire, PageWire}
use Rattle.sva_model.specs.Wire.{RequestWire, StageWire, TakenWire, UseWire, Wire}
use Rattle.sva_model.specs.Wire.StageWire.{DrainingWire, InvalidatingWire, LiveWire, LostWire, StoppingWire}
use Rattle.sva_labels.specs.Finding.{binding_of, flight_of, has_room, has_unfinished_group, held_by, holds_back, is_mapped, is_request_of, is_use_of}
use Rattle.sva_labels.specs.Finding.{is_wait_done, page_at, pages_in, pasid_state, submits}
use Rattle.sva_labels.specs.Replying.{is_read_only_at, pages_of_job}
use Rattle.sva_lines.specs.Pieces.{field, line_end, rows}
use Rattle.sva_explain.specs.declared.blockers.link.Topic.TheVariants.{Itag, Start, Tag}
use Rattle.sva_explain.specs.declared.blockers.levels.Level.TheVariants.{First, Second}
use Rattle.sva_explain.specs.Lines.{indent}
use Rattle.sva_explain.specs.Link.{about_lines, message_line, older_if}
use Rattle.sva_explain.specs.Requests.{out_line, out_lines}
use Rattle.sva_explain.specs.Tables.{bearer_if, ending_line, not_started_by, not_started_lines}
use Rattle.sva_explain.specs.Tables.{busy_pasid_lines, credit_if, disabled_if, tag_if, tag_lines, unfinished_group_lines, unfinished_if}
use Rattle.sva_explain.specs.Tables.{unfinished_line, unfinished_lines, use_if, use_lines}
use Rattle.sva_explain.specs.Units.{end_text, full_line, no_room_lines, of_part, pump_lines, reset_if, room_lines, use_text, wait_if, wait_line, wait_lines}
use Rattle.sva_explain.specs.Units.{waits_for_lines, waits_if, waits_line}
use Rattle.sva_why.specs.Bindings.{binding_line, bound_if, descriptors_of, full_lines, marker_line, not_yet_by, of_binding}
use Rattle.sva_why.specs.Bindings.{on_link_lines, stays_lines}
use Rattle.sva_why.specs.Causes.{bad_verdict, busy, full_if, in_use, not_mapped, not_pending, not_started, not_yet, not_yet_of}
use Rattle.sva_why.specs.Causes.{of_flight, overtakes, queue_full, still_bound, unmap_full_lines, unmapped_if, unmapped_lines}
use Rattle.sva_why.specs.Groups.{open_if, open_lines, read_only_if, read_only_lines, where_lines}
use Rattle.sva_why.specs.Standing.{Has, off_line, open_line, read_only_line, unmapped_line}
use Rattle.sva_why.specs.Vectors.{free_or_out_lines, in_use_if, in_use_lines, none_named_line, not_pending_if, not_pending_line, not_pending_lines}
use Rattle.sva_why.proofs.Parts.{has_all, has_each, has_found, has_left, has_right, has_row, has_unless, has_where, has_within}

-- ---- Busy

busy_has : (wire : Wire) (endpoint pasid : ℕ) (part : EndpointWire) (line : List ℕ) → slice_get wire.parts endpoint ≡ Some part
    → Has (busy_pasid_lines First wire endpoint part pasid) line → Has (busy wire (step.Quit endpoint pasid)) line
busy_has wire endpoint pasid part line there has =
    has_found (of_part (λ part. busy_pasid_lines First wire endpoint part pasid)) (slice_get wire.parts endpoint) part line there has

pub group_stands : (wire : Wire) (endpoint pasid index : ℕ) (part : EndpointWire) (group : Option GroupWire)
    → slice_get wire.parts endpoint ≡ Some part → slice_get part.device.groups index ≡ Some group → has_unfinished_group pasid group ≡ true
    → Has (busy wire (step.Quit endpoint pasid)) (unfinished_line First wire endpoint pasid index)
group_stands wire endpoint pasid index part group there is holds =
    let line = unfinished_line First wire endpoint pasid index in
    let disabled = disabled_if Second wire endpoint part.device in
    let credit = credit_if Second wire endpoint part in
    let lines = unfinished_lines First wire endpoint part pasid in
    let tags = tag_lines First wire endpoint part pasid in
    let uses = use_lines First wire endpoint part pasid in
    let own : Has (unfinished_if First wire endpoint part pasid index group) line =
    has_where (has_unfinished_group pasid group) (unfinished_group_lines First wire endpoint part pasid index) [] line holds
    (has_left (line ++ disabled) credit line (has_left line disabled line (has_all line))) in
    let row : Has lines line =
    has_within lines (unfinished_if First wire endpoint part pasid index group) line
    (has_row (unfinished_if First wire endpoint part pasid) part.device.groups index group is) own in
    busy_has wire endpoint pasid part line there (has_left (lines ++ tags) uses line (has_left lines tags line row))

pub tag_stands : (wire : Wire) (endpoint pasid tag : ℕ) (part : EndpointWire) (request : RequestWire)
    → slice_get wire.parts endpoint ≡ Some part → slice_get part.device.tags tag ≡ Some (Some request) → is_request_of pasid (Some request) ≡ true
    → Has (busy wire (step.Quit endpoint pasid)) (out_line First tag request)
tag_stands wire endpoint pasid tag part request there is holds =
    let line = out_line First tag request in
    let about = about_lines Second wire endpoint (Tag tag) in
    let reset = reset_if Second wire endpoint part in
    let lines = unfinished_lines First wire endpoint part pasid in
    let tags = tag_lines First wire endpoint part pasid in
    let uses = use_lines First wire endpoint part pasid in
    let own : Has (tag_if First wire endpoint part pasid tag (Some request)) line =
    has_where (request.pasid == pasid) (out_lines First wire endpoint part tag request) [] line holds
    (has_left (line ++ about) reset line (has_left line about line (has_all line))) in
    let row : Has tags line =
    has_within tags (tag_if First wire endpoint part pasid tag (Some request)) line
    (has_row (tag_if First wire endpoint part pasid) part.device.tags tag (Some request) is) own in
    busy_has wire endpoint pasid part line there (has_left (lines ++ tags) uses line (has_right lines tags line row))

pub use_stands : (wire : Wire) (endpoint pasid slot : ℕ) (part : EndpointWire) (used : Option UseWire)
    → slice_get wire.parts endpoint ≡ Some part → slice_get part.device.slots slot ≡ Some used → is_use_of pasid used ≡ true
    → Has (busy wire (step.Quit endpoint pasid)) (indent First ++ field (codes "use ") slot ++ codes " runs")
use_stands wire endpoint pasid slot part used there is holds =
    let line = indent First ++ field (codes "use ") slot ++ codes " runs" in
    let what = use_text used in
    let ending = end_text wire endpoint slot in
    let lines = unfinished_lines First wire endpoint part pasid in
    let tags = tag_lines First wire endpoint part pasid in
    let uses = use_lines First wire endpoint part pasid in
    let own : Has (use_if First wire endpoint pasid slot used) line =
    has_where (is_use_of pasid used) (line ++ what ++ ending ++ line_end) [] line holds
    (has_left (line ++ what ++ ending) line_end line (has_left (line ++ what) ending line (has_left line what line (has_all line)))) in
    let row : Has uses line =
    has_within uses (use_if First wire endpoint pasid slot used) line (has_row (use_if First wire endpoint pasid) part.device.slots slot used is) own in
    busy_has wire endpoint pasid part line there (has_right (lines ++ tags) uses line row)

-- ---- Overtakes

pub older_stands : (wire : Wire) (number place : ℕ) (flight older : FlightWire)
    → flight_of wire number ≡ Some flight → slice_get wire.in_flight place ≡ Some older → holds_back flight older ≡ true
    → Has (overtakes wire (step.Deliver number)) (message_line First (codes " is older:") wire older)
older_stands wire number place flight older there is holds =
    let line = message_line First (codes " is older:") wire older in
    let lines = flat_map (older_if wire flight) wire.in_flight in
    has_found (of_flight (λ flight. flat_map (older_if wire flight) wire.in_flight)) (flight_of wire number) flight line there
    (has_within lines (older_if wire flight older) line (has_each (older_if wire flight) wire.in_flight place older is)
    (has_where (holds_back flight older) line [] line holds (has_all line)))

-- ---- InUse and NotPending

pub wait_of_itag_stands : (wire : Wire) (endpoint vector count itag slot : ℕ) (part : EndpointWire) (taken : TakenWire)
    → slice_get wire.parts endpoint ≡ Some part → slice_get part.device.taken itag ≡ Some (Some taken) → is_set vector itag ≡ true
    → slice_get taken.slots slot ≡ Some true
    → Has (in_use wire (step.Finish endpoint vector count)) (waits_line First wire endpoint part itag slot)
wait_of_itag_stands wire endpoint vector count itag slot part taken there is set noted =
    let line = waits_line First wire endpoint part itag slot in
    let waits = waits_for_lines First wire endpoint part itag taken in
    let own : Has (in_use_if wire endpoint part vector itag (Some taken)) line =
    has_where (is_set vector itag) waits [] line set (has_row (waits_if First wire endpoint part itag) taken.slots slot true noted) in
    has_found (of_part (λ part. in_use_lines wire endpoint part vector)) (slice_get wire.parts endpoint) part line there
    (has_within (in_use_lines wire endpoint part vector) (in_use_if wire endpoint part vector itag (Some taken)) line
    (has_row (in_use_if wire endpoint part vector) part.device.taken itag (Some taken) is) own)

pub itag_stands : (wire : Wire) (endpoint vector count itag : ℕ) (part : EndpointWire)
    → slice_get wire.parts endpoint ≡ Some part → names_none vector ≡ false → slice_get part.device.taken itag ≡ Some None → is_set vector itag ≡ true
    → Has (not_pending wire (step.Finish endpoint vector count)) (not_pending_line First itag)
itag_stands wire endpoint vector count itag part there names is set =
    let line = not_pending_line First itag in
    let about = about_lines Second wire endpoint (Itag itag) in
    let reset = reset_if Second wire endpoint part in
    let all = rows (not_pending_if wire endpoint part vector) 0 part.device.taken in
    let own : Has (not_pending_if wire endpoint part vector itag None) line =
    has_where (is_set vector itag) (free_or_out_lines First wire endpoint part itag) [] line set
    (has_left (line ++ about) reset line (has_left line about line (has_all line))) in
    has_found (of_part (λ part. not_pending_lines wire endpoint part vector)) (slice_get wire.parts endpoint) part line there
    (has_unless (names_none vector) (none_named_line First) all line names
    (has_within all (not_pending_if wire endpoint part vector itag None) line
    (has_row (not_pending_if wire endpoint part vector) part.device.taken itag None is) own))

pub none_stands : (wire : Wire) (endpoint vector count : ℕ) (part : EndpointWire)
    → slice_get wire.parts endpoint ≡ Some part → names_none vector ≡ true
    → Has (not_pending wire (step.Finish endpoint vector count)) (none_named_line First)
none_stands wire endpoint vector count part there none =
    let line = none_named_line First in
    has_found (of_part (λ part. not_pending_lines wire endpoint part vector)) (slice_get wire.parts endpoint) part line there
    (has_where (names_none vector) line (rows (not_pending_if wire endpoint part vector) 0 part.device.taken) line none (has_all line))

-- ---- StillBound

pub binding_stands : (wire : Wire) (space place : ℕ) (binding : BindingWire)
    → slice_get wire.bindings place ≡ Some binding → (binding.space == space) ≡ true
    → Has (still_bound wire (step.DropSpace space)) (binding_line First wire binding)
binding_stands wire space place binding is holds =
    let line = binding_line First wire binding in
    let stays = of_part (stays_lines Second wire binding) (slice_get wire.parts binding.endpoint) in
    has_within (flat_map (bound_if wire space) wire.bindings) (bound_if wire space binding) line
    (has_each (bound_if wire space) wire.bindings place binding is)
    (has_where (binding.space == space) (line ++ stays) [] line holds (has_left line stays line (has_all line)))

-- ---- NotYet

not_yet_has : (wire : Wire) (number : ℕ) (binding : BindingWire) (part : EndpointWire) (stage : StageWire) (line : List ℕ)
    → binding_of wire number ≡ Some binding → binding.stage ≡ stage → slice_get wire.parts binding.endpoint ≡ Some part
    → Has (not_yet_by First wire binding part stage) line → Has (not_yet wire (step.Advance number)) line
not_yet_has wire number binding part stage line there is found has =
    has_found (of_binding wire (not_yet_of wire)) (binding_of wire number) binding line there
    (has_found (of_part (not_yet_of wire binding)) (slice_get wire.parts binding.endpoint) part line found
    (subst (λ s. Has (not_yet_by First wire binding part s) line) (sym is) has))

pub live_stands : (wire : Wire) (number : ℕ) (binding : BindingWire) (part : EndpointWire)
    → binding_of wire number ≡ Some binding → binding.stage ≡ LiveWire → slice_get wire.parts binding.endpoint ≡ Some part
    → Has (not_yet wire (step.Advance number)) (binding_line First wire binding)
live_stands wire number binding part there is found =
    not_yet_has wire number binding part LiveWire (binding_line First wire binding) there is found (has_all (binding_line First wire binding))

pub lost_stands : (wire : Wire) (number : ℕ) (binding : BindingWire) (part : EndpointWire)
    → binding_of wire number ≡ Some binding → binding.stage ≡ LostWire → slice_get wire.parts binding.endpoint ≡ Some part
    → Has (not_yet wire (step.Advance number)) (binding_line First wire binding)
lost_stands wire number binding part there is found =
    not_yet_has wire number binding part LostWire (binding_line First wire binding) there is found (has_all (binding_line First wire binding))

pub marker_stands : (wire : Wire) (number : ℕ) (binding : BindingWire) (part : EndpointWire)
    → binding_of wire number ≡ Some binding → binding.stage ≡ StoppingWire false → slice_get wire.parts binding.endpoint ≡ Some part
    → Has (not_yet wire (step.Advance number)) (marker_line First wire binding.endpoint binding.pasid)
marker_stands wire number binding part there is found =
    let line = marker_line First wire binding.endpoint binding.pasid in
    let link = on_link_lines Second wire binding.endpoint binding.pasid in
    let busy_lines = busy_pasid_lines Second wire binding.endpoint part binding.pasid in
    not_yet_has wire number binding part (StoppingWire false) line there is found
    (has_left (line ++ link) busy_lines line (has_left line link line (has_all line)))

wait_has : (wire : Wire) (unit cookie : ℕ) (part : EndpointWire) → is_wait_done part.unit cookie ≡ false
    → Has (wait_if First wire unit part cookie) (wait_line First wire unit part cookie)
wait_has wire unit cookie part waits =
    let line = wait_line First wire unit part cookie in
    let pump = pump_lines Second wire unit part in
    has_unless (is_wait_done part.unit cookie) [] (wait_lines First wire unit part cookie) line waits (has_left line pump line (has_all line))

pub drain_stands : (wire : Wire) (number cookie : ℕ) (binding : BindingWire) (part : EndpointWire)
    → binding_of wire number ≡ Some binding → binding.stage ≡ DrainingWire cookie → slice_get wire.parts binding.endpoint ≡ Some part
    → is_wait_done part.unit cookie ≡ false → Has (not_yet wire (step.Advance number)) (wait_line First wire binding.endpoint part cookie)
drain_stands wire number cookie binding part there is found waits =
    let line = wait_line First wire binding.endpoint part cookie in
    not_yet_has wire number binding part (DrainingWire cookie) line there is found
    (has_left (wait_if First wire binding.endpoint part cookie) (open_lines First wire binding.endpoint part binding.binding) line
    (wait_has wire binding.endpoint cookie part waits))

pub open_stands : (wire : Wire) (number cookie place : ℕ) (binding : BindingWire) (part : EndpointWire) (group : HostGroupWire)
    → binding_of wire number ≡ Some binding → binding.stage ≡ DrainingWire cookie → slice_get wire.parts binding.endpoint ≡ Some part
    → slice_get part.host_groups place ≡ Some group → (group.binding == binding.binding) ≡ true
    → Has (not_yet wire (step.Advance number)) (open_line group)
open_stands wire number cookie place binding part group there is found at holds =
    let line = open_line group in
    let endpoint = binding.endpoint in
    let own = binding.binding in
    let stands = where_lines Second wire endpoint part group in
    let lines = open_lines First wire endpoint part own in
    not_yet_has wire number binding part (DrainingWire cookie) line there is found
    (has_right (wait_if First wire endpoint part cookie) lines line
    (has_within lines (open_if First wire endpoint part own group) line (has_each (open_if First wire endpoint part own) part.host_groups place group at)
    (has_where (group.binding == own) (line ++ stands) [] line holds (has_left line stands line (has_all line)))))

pub invalidation_stands : (wire : Wire) (number cookie : ℕ) (binding : BindingWire) (part : EndpointWire)
    → binding_of wire number ≡ Some binding → binding.stage ≡ InvalidatingWire cookie → slice_get wire.parts binding.endpoint ≡ Some part
    → is_wait_done part.unit cookie ≡ false → Has (not_yet wire (step.Advance number)) (wait_line First wire binding.endpoint part cookie)
invalidation_stands wire number cookie binding part there is found waits =
    not_yet_has wire number binding part (InvalidatingWire cookie) (wait_line First wire binding.endpoint part cookie) there is found
    (wait_has wire binding.endpoint cookie part waits)

-- ---- NotMapped

unmapped_has : (pages : List PageWire) (page count offset : ℕ) → offset < count → Has (unmapped_lines pages page count) (unmapped_if pages (page + offset))
unfolding unmapped_lines
unmapped_has pages page zero offset below = absurd (omega (arith, below))
unmapped_has pages page (suc count) zero below =
    let here : page ≡ page + zero = omega arith in
    let first = unmapped_if pages page in
    subst (λ n. Has (first ++ unmapped_lines pages (page + 1) count) (unmapped_if pages n)) here
    (has_left first (unmapped_lines pages (page + 1) count) first (has_all first))
unmapped_has pages page (suc count) (suc offset) below =
    let next : page + 1 + offset ≡ page + suc offset = omega arith in
    let rest = unmapped_lines pages (page + 1) count in
    subst (λ n. Has (unmapped_if pages page ++ rest) (unmapped_if pages n)) next
    (has_right (unmapped_if pages page) rest (unmapped_if pages (page + 1 + offset))
    (unmapped_has pages (page + 1) count offset (omega (arith, below))))

pub page_stands : (wire : Wire) (space page count offset : ℕ)
    → (nat_le count Limits.most_pages && nat_le page Limits.page_numbers) ≡ true → offset < count
    → is_mapped (pages_in wire space) (page + offset) ≡ false
    → Has (not_mapped wire (step.Unmap space page count)) (unmapped_line (page + offset))
page_stands wire space page count offset named below lacks =
    let pages = pages_in wire space in
    let line = unmapped_line (page + offset) in
    has_where (nat_le count Limits.most_pages && nat_le page Limits.page_numbers) (unmapped_lines pages page count) [] line named
    (has_within (unmapped_lines pages page count) (unmapped_if pages (page + offset)) line (unmapped_has pages page count offset below)
    (has_unless (is_mapped pages (page + offset)) [] line line lacks (has_all line)))

-- ---- NotStarted

not_started_has : (wire : Wire) (endpoint pasid page : ℕ) (part : EndpointWire) (state : PasidState) (line : List ℕ)
    → slice_get wire.parts endpoint ≡ Some part → pasid_state part.device pasid ≡ state → Has (not_started_by wire endpoint pasid state) line
    → Has (not_started wire (step.Ask endpoint pasid page)) line
not_started_has wire endpoint pasid page part state line there is has =
    has_found (of_part (λ part. not_started_lines wire endpoint part pasid)) (slice_get wire.parts endpoint) part line there
    (subst (λ s. Has (not_started_by wire endpoint pasid s) line) (sym is) has)

pub use_alike : (wire : Wire) (endpoint pasid page : ℕ) (write : Bool)
    → not_started wire (step.BeginUse endpoint pasid page write) ≡ not_started wire (step.Ask endpoint pasid page)
use_alike wire endpoint pasid page write = refl

pub fault_alike : (wire : Wire) (endpoint pasid page : ℕ) (read write : Bool) (group : Option ℕ) (last : Bool)
    → not_started wire (step.Fault endpoint pasid page read write group last) ≡ not_started wire (step.Ask endpoint pasid page)
fault_alike wire endpoint pasid page read write group last = refl

pub off_stands : (wire : Wire) (endpoint pasid page : ℕ) (part : EndpointWire)
    → slice_get wire.parts endpoint ≡ Some part → pasid_state part.device pasid ≡ Off
    → Has (not_started wire (step.Ask endpoint pasid page)) (off_line endpoint pasid)
off_stands wire endpoint pasid page part there is =
    let line = off_line endpoint pasid in
    let starts = about_lines Second wire endpoint (Start pasid) in
    let bearers = flat_map (bearer_if endpoint pasid) wire.bindings in
    not_started_has wire endpoint pasid page part Off line there is
    (has_left (line ++ starts) bearers line (has_left line starts line (has_all line)))

pub ending_stands : (wire : Wire) (endpoint pasid page : ℕ) (part : EndpointWire)
    → slice_get wire.parts endpoint ≡ Some part → pasid_state part.device pasid ≡ Ending
    → Has (not_started wire (step.Ask endpoint pasid page)) (ending_line First endpoint pasid)
ending_stands wire endpoint pasid page part there is =
    let line = ending_line First endpoint pasid in
    not_started_has wire endpoint pasid page part Ending line there is (has_all line)

-- ---- QueueFull

room_has : (wire : Wire) (unit needed : ℕ) (part : EndpointWire) → has_room part.unit needed ≡ false
    → Has (room_lines First wire unit part needed) (full_line First wire unit part needed)
room_has wire unit needed part lacks =
    let line = full_line First wire unit part needed in
    let pump = pump_lines Second wire unit part in
    has_unless (has_room part.unit needed) [] (no_room_lines First wire unit part needed) line lacks (has_left line pump line (has_all line))

units_have : (wire : Wire) (space needed unit : ℕ) (part : EndpointWire)
    → slice_get wire.parts unit ≡ Some part → submits wire space unit ≡ true → has_room part.unit needed ≡ false
    → Has (unmap_full_lines wire space needed) (full_line First wire unit part needed)
units_have wire space needed unit part is gets lacks =
    let line = full_line First wire unit part needed in
    has_within (unmap_full_lines wire space needed) (full_if wire space needed unit part) line
    (has_row (full_if wire space needed) wire.parts unit part is)
    (has_where (submits wire space unit) (room_lines First wire unit part needed) [] line gets (room_has wire unit needed part lacks))

pub unit_of_pages_stands : (wire : Wire) (space page count unit : ℕ) (part : EndpointWire)
    → slice_get wire.parts unit ≡ Some part → nat_le count Limits.most_pages ≡ true → submits wire space unit ≡ true
    → has_room part.unit (count + 1) ≡ false
    → Has (queue_full wire (step.Unmap space page count)) (full_line First wire unit part (count + 1))
unit_of_pages_stands wire space page count unit part is few gets lacks =
    has_where (nat_le count Limits.most_pages) (unmap_full_lines wire space (count + 1)) [] (full_line First wire unit part (count + 1)) few
    (units_have wire space (count + 1) unit part is gets lacks)

pub unit_of_binding_stands : (wire : Wire) (number : ℕ) (binding : BindingWire) (part : EndpointWire)
    → binding_of wire number ≡ Some binding → slice_get wire.parts binding.endpoint ≡ Some part
    → has_room part.unit (descriptors_of binding.stage) ≡ false
    → Has (queue_full wire (step.Advance number)) (full_line First wire binding.endpoint part (descriptors_of binding.stage))
unit_of_binding_stands wire number binding part there found lacks =
    let line = full_line First wire binding.endpoint part (descriptors_of binding.stage) in
    has_found (of_binding wire (full_lines First wire)) (binding_of wire number) binding line there
    (has_found (of_part (full_lines First wire binding)) (slice_get wire.parts binding.endpoint) part line found
    (room_has wire binding.endpoint (descriptors_of binding.stage) part lacks))

pub unit_stands : (wire : Wire) (space page order unit : ℕ) (part : EndpointWire)
    → slice_get wire.parts unit ≡ Some part → submits wire space unit ≡ true → has_room part.unit 2 ≡ false
    → Has (queue_full wire (step.UnmapRange space page order)) (full_line First wire unit part 2)
unit_stands wire space page order unit part is gets lacks = units_have wire space 2 unit part is gets lacks

-- ---- BadVerdict

pub request_stands : (wire : Wire) (worker place : ℕ) (verdict : Verdict) (job : JobWire) (ask : AskWire)
    → held_by wire worker ≡ Some job → slice_get job.asks place ≡ Some ask
    → (ask.write && is_read_only_at (page_at (pages_of_job wire job) ask.page)) ≡ true
    → Has (bad_verdict wire (step.Reply worker verdict)) (read_only_line wire worker ask)
request_stands wire worker place verdict job ask there is holds =
    let line = read_only_line wire worker ask in
    let pages = pages_of_job wire job in
    has_found (read_only_lines wire worker) (held_by wire worker) job line there
    (has_within (flat_map (read_only_if wire worker pages) job.asks) (read_only_if wire worker pages ask) line
    (has_each (read_only_if wire worker pages) job.asks place ask is)
    (has_where (ask.write && is_read_only_at (page_at pages ask.page)) line [] line holds (has_all line)))
