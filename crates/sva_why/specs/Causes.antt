-- What is said of a refused step: each that makes its cause hold. The ten refusals that have several causes come first.
use Rattle.std.specs.Prelude.{ℕ, zero, suc, ◌+◌, ◌&&◌, nat_le, if◌then◌else◌, Option, Some, None, List, [], ◌++◌, codes, slice_get}
use Rattle.sva_step.specs.Limits
use Rattle.sva_step.specs.declared.refusals.Refusal.{Refusal}
use Rattle.sva_step.specs.declared.refusals.Refusal.TheVariants as refusal
use Rattle.sva_step.specs.declared.steps.Step.{Step}
use Rattle.sva_step.specs.declared.steps.Step.TheVariants as step
use Rattle.sva_model.specs.Wire.{BindingWire, EndpointWire, FlightWire, PageWire, Wire}
use Rattle.sva_labels.specs.Finding.{binding_of, bound_at, flight_of, held_by, is_mapped, pages_in, submits}
use Rattle.sva_lines.specs.Pieces.{field, line_end, rows}
use Rattle.sva_explain.specs.declared.blockers.levels.Level.TheVariants.{First, Second}
use Rattle.sva_explain.specs.declared.blockers.link.Topic.TheVariants.{Stop}
use Rattle.sva_explain.specs.Lines.{indent}
use Rattle.sva_explain.specs.Link.{about_lines, older_lines}
use Rattle.sva_explain.specs.Units.{in_reset_lines, of_part, room_lines}
use Rattle.sva_explain.specs.Tables.{busy_pasid_lines, credit_if, disabled_if, not_started_lines}
use Rattle.sva_explain.specs.Tags.{no_tag, not_held}
use Rattle.sva_explain.specs.Slots.{no_slot}
use Rattle.sva_explain.specs.Hands.{hands_full, no_job}
use Rattle.sva_explain.specs.Spaces.{too_many}
use Rattle.sva_explain.specs.Frames.{mapped, no_frame, space_full}
use Rattle.sva_explain.specs.Pasids.{no_pasid}
use Rattle.sva_why.specs.Groups.{read_only_lines}
use Rattle.sva_why.specs.Bindings.{borne_lines, bound_lines, full_lines, kept_lines, not_yet_by, of_binding}
use Rattle.sva_why.specs.Vectors.{in_use_lines, not_pending_lines}
use Rattle.sva_why.specs.Plain.{plain_line}

-- ---- The ten

-- NotMapped: each page in a row that isn't mapped
abbrev pub unmapped_if : List PageWire → (page : ℕ) → List ℕ
unmapped_if pages page = if is_mapped pages page then [] else indent First ++ field (codes "page ") page ++ codes " isn't mapped" ++ line_end

unfoldable pub unmapped_lines : List PageWire → (page count : ℕ) → List ℕ
unmapped_lines pages page zero = []
unmapped_lines pages page (suc count) = unmapped_if pages page ++ unmapped_lines pages (page + 1) count

-- pages in a row that a step may name; of others nothing is said
abbrev pub not_mapped_lines : Wire → (space page count : ℕ) → List ℕ
not_mapped_lines wire space page count =
    if nat_le count Limits.most_pages && nat_le page Limits.page_numbers then unmapped_lines (pages_in wire space) page count else []

abbrev pub not_mapped : Wire → Step → List ℕ
not_mapped wire (step.Unmap space page count) = not_mapped_lines wire space page count
not_mapped wire other = []

-- StillBound: each binding of the space
abbrev pub still_bound : Wire → Step → List ℕ
still_bound wire (step.DropSpace space) = bound_lines wire space
still_bound wire other = []

-- NotYet: what the stage of the binding waits for
abbrev pub not_yet_of : Wire → BindingWire → EndpointWire → List ℕ
not_yet_of wire binding part = not_yet_by First wire binding part binding.stage

abbrev pub not_yet : Wire → Step → List ℕ
not_yet wire (step.Advance number) = of_binding wire (not_yet_of wire) (binding_of wire number)
not_yet wire other = []

-- QueueFull: each unit that is to get descriptors, and lacks the room for them
abbrev pub full_if : Wire → (space needed unit : ℕ) → EndpointWire → List ℕ
full_if wire space needed unit part = if submits wire space unit then room_lines First wire unit part needed else []

abbrev pub unmap_full_lines : Wire → (space needed : ℕ) → List ℕ
unmap_full_lines wire space needed = rows (full_if wire space needed) 0 wire.parts

abbrev pub queue_full : Wire → Step → List ℕ
queue_full wire (step.Unmap space page count) = if nat_le count Limits.most_pages then unmap_full_lines wire space (count + 1) else []
queue_full wire (step.UnmapRange space page order) = unmap_full_lines wire space 2
queue_full wire (step.Advance number) = of_binding wire (full_lines First wire) (binding_of wire number)
queue_full wire other = []

-- NotStarted: how the PASID stands at the endpoint
abbrev pub not_started_at : Wire → (endpoint pasid : ℕ) → List ℕ
not_started_at wire endpoint pasid = of_part (λ part. not_started_lines wire endpoint part pasid) (slice_get wire.parts endpoint)

abbrev pub not_started : Wire → Step → List ℕ
not_started wire (step.Ask endpoint pasid page) = not_started_at wire endpoint pasid
not_started wire (step.BeginUse endpoint pasid page write) = not_started_at wire endpoint pasid
not_started wire (step.Fault endpoint pasid page read write group last) = not_started_at wire endpoint pasid
not_started wire other = []

-- NotPending: each ITag that is named and not taken
abbrev pub not_pending : Wire → Step → List ℕ
not_pending wire (step.Finish endpoint vector count) =
    of_part (λ part. not_pending_lines wire endpoint part vector) (slice_get wire.parts endpoint)
not_pending wire other = []

-- InUse: each use for which a named ITag waits
abbrev pub in_use : Wire → Step → List ℕ
in_use wire (step.Finish endpoint vector count) = of_part (λ part. in_use_lines wire endpoint part vector) (slice_get wire.parts endpoint)
in_use wire other = []

-- Busy: each group, tag and use of the PASID
abbrev pub busy : Wire → Step → List ℕ
busy wire (step.Quit endpoint pasid) = of_part (λ part. busy_pasid_lines First wire endpoint part pasid) (slice_get wire.parts endpoint)
busy wire other = []

-- Overtakes: each older message that holds it back
abbrev pub of_flight : (said : FlightWire → List ℕ) → Option FlightWire → List ℕ
of_flight said None = []
of_flight said (Some flight) = said flight

abbrev pub overtakes : Wire → Step → List ℕ
overtakes wire (step.Deliver number) = of_flight (older_lines wire) (flight_of wire number)
overtakes wire other = []

-- BadVerdict: each request to write a page that is mapped read-only
abbrev pub bad_verdict : Wire → Step → List ℕ
bad_verdict wire (step.Reply worker verdict) = read_only_lines wire worker (held_by wire worker)
bad_verdict wire other = []

-- ---- Of the others some tell where it stands, or what would help

-- the endpoint of a step; of a step of a binding that of the binding
abbrev pub endpoint_of_binding : Option BindingWire → Option ℕ
endpoint_of_binding None = None
endpoint_of_binding (Some binding) = Some binding.endpoint

abbrev pub endpoint_of : Wire → Step → Option ℕ
endpoint_of wire (step.Bind endpoint space) = Some endpoint
endpoint_of wire (step.Unbind number) = endpoint_of_binding (binding_of wire number)
endpoint_of wire (step.Advance number) = endpoint_of_binding (binding_of wire number)
endpoint_of wire (step.Pump endpoint) = Some endpoint
endpoint_of wire (step.Serve endpoint) = Some endpoint
endpoint_of wire (step.Reset endpoint) = Some endpoint
endpoint_of wire (step.Fault endpoint pasid page read write group last) = Some endpoint
endpoint_of wire other = None

-- Resetting: the unit is in reset
abbrev pub resetting : Wire → Option ℕ → List ℕ
resetting wire None = []
resetting wire (Some endpoint) = in_reset_lines First wire endpoint

-- PriDisabled, NoCredit: only a reset helps; or each group whose response is due
abbrev pub disabled : Wire → Option ℕ → List ℕ
disabled wire None = []
disabled wire (Some endpoint) = of_part (λ part. disabled_if First wire endpoint part.device) (slice_get wire.parts endpoint)

abbrev pub no_credit : Wire → Option ℕ → List ℕ
no_credit wire None = []
no_credit wire (Some endpoint) = of_part (credit_if First wire endpoint) (slice_get wire.parts endpoint)

-- NotStopping: the stop of the PASID that is in flight
abbrev pub not_stopping_at : Wire → (endpoint pasid : ℕ) → List ℕ
not_stopping_at wire endpoint pasid = plain_line refusal.NotStopping ++ about_lines Second wire endpoint (Stop pasid)

abbrev pub not_stopping : Wire → Step → List ℕ
not_stopping wire (step.Quit endpoint pasid) = not_stopping_at wire endpoint pasid
not_stopping wire other = []

-- AlreadyBound, NotLive: the binding that is there
abbrev pub of_found : (said : BindingWire → List ℕ) → Option BindingWire → List ℕ
of_found said None = []
of_found said (Some binding) = said binding

abbrev pub already_bound : Wire → Step → List ℕ
already_bound wire (step.Bind endpoint space) = of_found (borne_lines wire) (bound_at wire endpoint space)
already_bound wire other = []

abbrev pub not_live : Wire → Step → List ℕ
not_live wire (step.Unbind number) = of_found (kept_lines wire) (binding_of wire number)
not_live wire other = []

-- ---- All

-- what is said of a step that is refused so
abbrev pub refused_lines : Wire → Step → Refusal → List ℕ
refused_lines wire asked refusal.NotMapped = not_mapped wire asked
refused_lines wire asked refusal.StillBound = still_bound wire asked
refused_lines wire asked refusal.NotYet = not_yet wire asked
refused_lines wire asked refusal.QueueFull = queue_full wire asked
refused_lines wire asked refusal.NotStarted = not_started wire asked
refused_lines wire asked refusal.NotPending = not_pending wire asked
refused_lines wire asked refusal.InUse = in_use wire asked
refused_lines wire asked refusal.Busy = busy wire asked
refused_lines wire asked refusal.Overtakes = overtakes wire asked
refused_lines wire asked refusal.BadVerdict = bad_verdict wire asked
refused_lines wire asked refusal.Resetting = resetting wire (endpoint_of wire asked)
refused_lines wire asked refusal.PriDisabled = disabled wire (endpoint_of wire asked)
refused_lines wire asked refusal.NoCredit = no_credit wire (endpoint_of wire asked)
refused_lines wire asked refusal.NotHeld = not_held wire asked
refused_lines wire asked refusal.NoTag = no_tag wire asked
refused_lines wire asked refusal.NoUseSlot = no_slot wire asked
refused_lines wire asked refusal.HandsFull = hands_full wire asked
refused_lines wire asked refusal.NoJob = no_job wire asked
refused_lines wire asked refusal.TooManySpaces = too_many wire
refused_lines wire asked refusal.NoFrame = no_frame wire asked
refused_lines wire asked refusal.SpaceFull = space_full wire asked
refused_lines wire asked refusal.NoPasid = no_pasid wire
refused_lines wire asked refusal.NotStopping = not_stopping wire asked
refused_lines wire asked refusal.AlreadyBound = already_bound wire asked
refused_lines wire asked refusal.NotLive = not_live wire asked
refused_lines wire asked refusal.Mapped = mapped wire asked
refused_lines wire asked other = plain_line other
