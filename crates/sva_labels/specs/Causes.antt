-- The refusals of each step, in the order in which they are asked, read off what a host keeps. No name of a record stands
-- here. They are those of the definitions, cause by cause.
use Rattle.std.specs.Prelude.{ℕ, ◌+◌, ◌%◌, ◌^◌, Bool, true, false, ◌&&◌, ◌||◌, not, ◌==◌, nat_lt, nat_le, is_some, is_none, Option, Some, None, List, []}
use Rattle.std.specs.Prelude.{◌∷◌, ◌++◌, length}
use Rattle.std.specs.List.{list_any}
use Rattle.sva_step.specs.declared.refusals.Refusal.TheVariants as refusal
use Rattle.sva_step.specs.declared.steps.Step.{Step}
use Rattle.sva_step.specs.declared.steps.Step.TheVariants as step
use Rattle.sva_step.specs.declared.steps.Verdict.{Verdict}
use Rattle.sva_step.specs.Limits
use Rattle.sva_model.specs.Words.{any_below, all_below, count_below}
use Rattle.sva_model.specs.Message.{Message}
use Rattle.sva_model.specs.Message.Message.{ResetMessage, RequestMessage}
use Rattle.sva_model.specs.States.{is_on, is_ending}
use Rattle.sva_model.specs.Labels
use Rattle.sva_model.specs.Refusals.{Cause, page_range}
use Rattle.sva_model.specs.Wire.{Wire, PageWire, PlaceWire, BindingWire, StageWire, DeviceWire, UnitWire, TranslationWire, Descriptor, JobWire, FlightWire}
use Rattle.sva_model.specs.Wire.StageWire.{StoppingWire, DrainingWire, InvalidatingWire, QuietWire, LostWire}
use Rattle.sva_model.specs.Wire.Descriptor.{RangeDescriptor, PasidDescriptor}
use Rattle.sva_labels.specs.Finding.{is_space, pages_in, is_mapped, lowest_free, free_from, binding_of, bound_at, is_bound, pasid_for, part_of, device_of}
use Rattle.sva_labels.specs.Finding.{unit_of, is_wait_done, lowest_label, has_room, submits, has_open_group, is_live, pasid_state, cached, is_request_of}
use Rattle.sva_labels.specs.Finding.{is_use_of, has_unfinished_group, outstanding, group_at, use_at, taken_at, waits_for_use, held_by, flight_of, may_deliver}
use Rattle.sva_labels.specs.Replying.{replies_success, responds, newly_mapped, is_write_of_read_only, space_of_job}

-- Causes that several steps ask.

-- the host has no endpoint of this number
abbrev pub no_such_endpoint : Wire → ℕ → Cause
no_such_endpoint wire endpoint = (not (nat_lt endpoint (length wire.parts)), refusal.NoSuchEndpoint)

-- no live space has this number
abbrev pub no_such_space : Wire → ℕ → Cause
no_such_space wire number = (not (is_space wire number), refusal.NoSuchSpace)

-- the endpoint's unit is in reset
abbrev pub resetting : Wire → ℕ → Cause
resetting wire endpoint = (not (unit_of wire endpoint).is_open, refusal.Resetting)

-- fewer numbers are left below 2^63, `next` being the next one, than are needed
abbrev pub lacks : (next needed : ℕ) → Bool
lacks next needed = nat_lt Limits.label_numbers (next + needed)

-- the counter of spaces, bindings, messages or cookies has fewer numbers left than the step needs
abbrev pub numbers_spent : (next needed : ℕ) → Cause
numbers_spent next needed = (lacks next needed, refusal.NumbersSpent)

-- the host has no worker of this number
abbrev pub no_such_worker : Wire → ℕ → Cause
no_such_worker wire worker = (not (nat_lt worker (length wire.hands)), refusal.NoSuchWorker)

-- the endpoint has no translation of the page cached under the PASID
abbrev pub not_held : DeviceWire → (pasid page : ℕ) → Cause
not_held device pasid page = (is_none (cached device pasid page), refusal.NotHeld)

-- the PASID isn't on at the endpoint: it is off, or told to stop (this project's own: PCI Express Base 5.0, section 6.20, leaves it to
-- the device)
abbrev pub not_started : DeviceWire → (pasid : ℕ) → Cause
not_started device pasid = (not (is_on (pasid_state device pasid)), refusal.NotStarted)

-- how many endpoints' units get descriptors where pages of a space are taken out
abbrev pub waits_needed : Wire → (space : ℕ) → ℕ
waits_needed wire space = count_below (length wire.parts) (submits wire space)

-- a unit that is to get so many descriptors, where pages of the space are taken out, lacks the room for them: then no unit gets any
abbrev pub queue_full : Wire → (space descriptors : ℕ) → Cause
queue_full wire space descriptors =
    (any_below (length wire.parts) (λ endpoint. submits wire space endpoint && not (has_room (unit_of wire endpoint) descriptors)), refusal.QueueFull)

-- Of single steps.

-- a new space: fewer than 64 are live, and there is a number for it
abbrev pub space_causes : Wire → List Cause
space_causes wire = (nat_le Limits.most_spaces (length wire.spaces), refusal.TooManySpaces) ∷ numbers_spent wire.next_space 1 ∷ []

-- a mapping: of a page below 2^36 that isn't mapped yet, in a space of fewer than 1024 pages, to a frame that is free
abbrev pub map_causes : List PlaceWire → List PageWire → (page : ℕ) → List Cause
map_causes places pages page =
    page_range page 1
    ∷ (is_mapped pages page, refusal.Mapped)
    ∷ (nat_le Limits.most_mapped (length pages), refusal.SpaceFull)
    ∷ (lowest_free places == length places, refusal.NoFrame)
    ∷ []

-- what the pages of a space have against an unmapping of single pages: those are 1 to 48, each below 2^36 and mapped
abbrev pub page_causes_of_unmap : List PageWire → (page count : ℕ) → List Cause
page_causes_of_unmap pages page count =
    (not (nat_le 1 count && nat_le count Limits.most_pages), refusal.BadCount)
    ∷ page_range page count
    ∷ (not (all_below count (λ offset. is_mapped pages (page + offset))), refusal.NotMapped)
    ∷ []

-- against a range that is taken out: it is of 1 to 512 pages below 2^36, aligned, as one Invalidate Request can name it (PCI Express
-- Base 5.0, section 10.3.1), with a page that is mapped
abbrev pub page_causes_of_unmap_range : List PageWire → (page order : ℕ) → List Cause
page_causes_of_unmap_range pages page order =
    (nat_lt Limits.most_order order, refusal.BadOrder)
    ∷ page_range page (2 ^ order)
    ∷ (not (page % 2 ^ order == 0), refusal.NotAligned)
    ∷ (not (any_below (2 ^ order) (λ offset. is_mapped pages (page + offset))), refusal.NothingMapped)
    ∷ []

-- the whole of the first: at each unit that gets descriptors there is also room for an invalidation of each page and for one wait, and a
-- cookie for that
abbrev pub unmap_causes : Wire → (space : ℕ) → List PageWire → (page count : ℕ) → List Cause
unmap_causes wire space pages page count =
    page_causes_of_unmap pages page count
    ++ queue_full wire space (count + 1)
    ∷ numbers_spent wire.next_cookie (waits_needed wire space)
    ∷ []

-- and of the second: there is room for an invalidation and a wait
abbrev pub unmap_range_causes : Wire → (space : ℕ) → List PageWire → (page order : ℕ) → List Cause
unmap_range_causes wire space pages page order =
    page_causes_of_unmap_range pages page order ++ queue_full wire space 2 ∷ numbers_spent wire.next_cookie (waits_needed wire space) ∷ []

-- a new binding: its unit is open, its space isn't bound there yet, and there are a PASID for it and numbers for it and its Start
abbrev pub bind_causes : Wire → (endpoint space : ℕ) → List Cause
bind_causes wire endpoint space =
    resetting wire endpoint
    ∷ (is_some (bound_at wire endpoint space), refusal.AlreadyBound)
    ∷ (is_none (pasid_for wire space), refusal.NoPasid)
    ∷ numbers_spent wire.next_binding 1
    ∷ numbers_spent wire.next_message 1
    ∷ []

-- a Lost binding is only ended: nothing is sent
abbrev pub unbind_by : Wire → BindingWire → StageWire → List Cause
unbind_by wire binding LostWire = []
unbind_by wire binding stage = (not (is_live stage), refusal.NotLive) ∷ resetting wire binding.endpoint ∷ numbers_spent wire.next_message 1 ∷ []

-- an unbinding: of an unreleased binding, as its stage has it
abbrev pub unbind_causes : Wire → Option BindingWire → List Cause
unbind_causes wire None = (true, refusal.NoSuchBinding) ∷ []
unbind_causes wire (Some binding) = unbind_by wire binding binding.stage

-- what the stage needs to go on, and the descriptors that it submits
abbrev pub advance_by : Wire → BindingWire → StageWire → List Cause
advance_by wire binding QuietWire = []
advance_by wire binding (StoppingWire marked) =
    resetting wire binding.endpoint
    ∷ (not marked, refusal.NotYet)
    ∷ (not (has_room (unit_of wire binding.endpoint) 1), refusal.QueueFull)
    ∷ numbers_spent wire.next_cookie 1
    ∷ []
advance_by wire binding (DrainingWire cookie) =
    resetting wire binding.endpoint
    ∷ (not (is_wait_done (unit_of wire binding.endpoint) cookie) || has_open_group (part_of wire binding.endpoint) binding.binding, refusal.NotYet)
    ∷ (not (has_room (unit_of wire binding.endpoint) 2), refusal.QueueFull)
    ∷ numbers_spent wire.next_cookie 1
    ∷ []
advance_by wire binding (InvalidatingWire cookie) =
    resetting wire binding.endpoint ∷ (not (is_wait_done (unit_of wire binding.endpoint) cookie), refusal.NotYet) ∷ []
advance_by wire binding stage = resetting wire binding.endpoint ∷ (true, refusal.NotYet) ∷ []

-- an advance: of an unreleased binding, as its stage has it
abbrev pub advance_causes : Wire → Option BindingWire → List Cause
advance_causes wire None = (true, refusal.NoSuchBinding) ∷ []
advance_causes wire (Some binding) = advance_by wire binding binding.stage

-- is the head of the queue an invalidation, and no wait?
abbrev pub is_invalidation : List Descriptor → Bool
is_invalidation (RangeDescriptor pasid range ∷ queue) = true
is_invalidation (PasidDescriptor pasid ∷ queue) = true
is_invalidation _ = false

-- does a pump send a message? Only where the head is an invalidation and an ITag is free.
abbrev pub sends_invalidate : UnitWire → Bool
sends_invalidate unit = is_invalidation unit.queue && is_some (lowest_label unit.busy)

-- a reply of a worker that holds a job
abbrev pub reply_causes : Wire → Verdict → Option JobWire → List Cause
reply_causes wire verdict None = (true, refusal.NoJob) ∷ []
reply_causes wire verdict (Some job) =
    (replies_success wire job verdict && is_write_of_read_only wire job, refusal.BadVerdict)
    ∷ (replies_success wire job verdict && nat_lt (length (free_from 0 wire.places)) (length (newly_mapped wire job)), refusal.NoFrame)
    ∷ (
      replies_success wire job verdict && nat_lt Limits.most_mapped
          (length (pages_in wire (space_of_job wire job)) + length (newly_mapped wire job)),
      refusal.SpaceFull,
    )
    ∷ (responds wire job && lacks wire.next_message 1, refusal.NumbersSpent)
    ∷ []

-- a new group needs the PASID On; one that is there goes on also while the PASID stops
abbrev pub may_request : DeviceWire → (pasid : ℕ) → Option ℕ → Bool
may_request device pasid None = is_on (pasid_state device pasid)
may_request device pasid (Some index) = is_on (pasid_state device pasid) || is_ending (pasid_state device pasid)

-- is a group index given, and borne by no unfinished group of the PASID?
abbrev pub is_other_group : DeviceWire → (pasid : ℕ) → Option ℕ → Bool
is_other_group device pasid None = false
is_other_group device pasid (Some index) = not (has_unfinished_group pasid (group_at device index))

-- is the cached translation without the bit W (PCI Express Base 5.0, section 10.2.3)? One that isn't there allows no write either.
abbrev pub is_read_only : Option TranslationWire → Bool
is_read_only None = true
is_read_only (Some translation) = not translation.write

-- has the PASID an unfinished group, a translation request that is out, or a running use? Then it can't be quit.
abbrev pub is_busy_pasid : DeviceWire → (pasid : ℕ) → Bool
is_busy_pasid device pasid =
    list_any (has_unfinished_group pasid) device.groups || list_any (is_request_of pasid) device.tags || list_any (is_use_of pasid) device.slots

-- What an endpoint has against a step, by itself: the host asks of its number before, and of the numbers of messages behind it.

-- a translation request (PCI Express Base 5.0, section 10.2.2): its page, its PASID, and a tag for it
abbrev pub device_causes_of_ask : DeviceWire → (pasid page : ℕ) → List Cause
device_causes_of_ask device pasid page =
    page_range page 1 ∷ not_started device pasid ∷ (is_none (lowest_label device.tags), refusal.NoTag) ∷ []

-- a use of a translation that is cached, to write only where that has the bit W; and a slot for it
abbrev pub device_causes_of_use : DeviceWire → (pasid page : ℕ) (write : Bool) → List Cause
device_causes_of_use device pasid page write =
    page_range page 1
    ∷ not_started device pasid
    ∷ not_held device pasid page
    ∷ (write && is_read_only (cached device pasid page), refusal.ReadOnly)
    ∷ (is_none (lowest_label device.slots), refusal.NoUseSlot)
    ∷ []

-- the end of a use: some use has the slot
abbrev pub device_causes_of_end : DeviceWire → (slot : ℕ) → List Cause
device_causes_of_end device slot = (is_none (use_at device slot), refusal.NoSuchUse) ∷ []

-- an evict: the translation is cached, whatever the state of its PASID
abbrev pub device_causes_of_evict : DeviceWire → (pasid page : ℕ) → List Cause
device_causes_of_evict device pasid page = page_range page 1 ∷ not_held device pasid page ∷ []

-- a page request (PCI Express Base 5.0, section 10.4.1): its page, its PASID, its allocation (section 10.5.2), its group, and the
-- interface, which a Response Failure disables (section 10.4.2)
abbrev pub device_causes_of_fault : DeviceWire → (pasid page : ℕ) → Option ℕ → List Cause
device_causes_of_fault device pasid page group =
    page_range page 1
    ∷ (not (may_request device pasid group), refusal.NotStarted)
    ∷ (nat_le Limits.page_requests (outstanding device.groups), refusal.NoCredit)
    ∷ (is_other_group device pasid group, refusal.NoSuchGroup)
    ∷ (device.is_disabled, refusal.PriDisabled)
    ∷ []

-- Invalidate Completions: their vector names some ITag, and each that it names is of an invalidation which the endpoint has taken and of
-- which no noted use runs; their Completion Count is 1 to 8 (PCI Express Base 5.0, section 10.3.2)
abbrev pub device_causes_of_finish : DeviceWire → (vector count : ℕ) → List Cause
device_causes_of_finish device vector count =
    (Labels.names_none vector || any_below Limits.itags (λ itag. Labels.is_set vector itag && is_none (taken_at device itag)), refusal.NotPending)
    ∷ (any_below Limits.itags (λ itag. Labels.is_set vector itag && waits_for_use (taken_at device itag)), refusal.InUse)
    ∷ (not (nat_le 1 count && nat_le count Limits.most_completions), refusal.BadCount)
    ∷ []

-- a quit: the PASID is told to stop, and nothing goes on under it
abbrev pub device_causes_of_quit : DeviceWire → (pasid : ℕ) → List Cause
device_causes_of_quit device pasid =
    (not (is_ending (pasid_state device pasid)), refusal.NotStopping) ∷ (is_busy_pasid device pasid, refusal.Busy) ∷ []

-- only a reset, and a translation request at an open unit, send a message when they are delivered
abbrev pub delivery_sends : UnitWire → Message → Bool
delivery_sends unit ResetMessage = true
delivery_sends unit (RequestMessage tag pasid page) = unit.is_open
delivery_sends unit _ = false

-- a delivery: of a message in flight, in the permitted order of the link, and with a number for the message that it sends, if any
abbrev pub deliver_causes : Wire → Option FlightWire → List Cause
deliver_causes wire None = (true, refusal.NoSuchMessage) ∷ []
deliver_causes wire (Some flight) =
    (not (may_deliver wire flight), refusal.Overtakes)
    ∷ (delivery_sends (unit_of wire flight.endpoint) flight.message && lacks wire.next_message 1, refusal.NumbersSpent)
    ∷ []

-- the causes of every step, in the order in which they are asked
abbrev pub causes_of : Wire → Step → List Cause
causes_of wire step.Space = space_causes wire
causes_of wire (step.DropSpace space) = no_such_space wire space ∷ (is_bound wire space, refusal.StillBound) ∷ []
causes_of wire (step.Map space page write) = no_such_space wire space ∷ map_causes wire.places (pages_in wire space) page
causes_of wire (step.Unmap space page count) = no_such_space wire space ∷ unmap_causes wire space (pages_in wire space) page count
causes_of wire (step.UnmapRange space page order) = no_such_space wire space ∷ unmap_range_causes wire space (pages_in wire space) page order
causes_of wire (step.Bind endpoint space) = no_such_endpoint wire endpoint ∷ no_such_space wire space ∷ bind_causes wire endpoint space
causes_of wire (step.Unbind number) = unbind_causes wire (binding_of wire number)
causes_of wire (step.Advance number) = advance_causes wire (binding_of wire number)
causes_of wire (step.Pump endpoint) =
    no_such_endpoint wire endpoint
    ∷ resetting wire endpoint
    ∷ (sends_invalidate (unit_of wire endpoint) && lacks wire.next_message 1, refusal.NumbersSpent)
    ∷ []
causes_of wire (step.Serve endpoint) = no_such_endpoint wire endpoint ∷ resetting wire endpoint ∷ []
causes_of wire (step.Reset endpoint) = no_such_endpoint wire endpoint ∷ resetting wire endpoint ∷ numbers_spent wire.next_message 1 ∷ []
causes_of wire (step.Take worker) =
    no_such_worker wire worker ∷ (is_some (held_by wire worker), refusal.HandsFull) ∷ (length wire.jobs == 0, refusal.NoJob) ∷ []
causes_of wire (step.Reply worker verdict) = no_such_worker wire worker ∷ reply_causes wire verdict (held_by wire worker)
causes_of wire (step.Ask endpoint pasid page) =
    no_such_endpoint wire endpoint ∷ device_causes_of_ask (device_of wire endpoint) pasid page ++ numbers_spent wire.next_message 1 ∷ []
causes_of wire (step.BeginUse endpoint pasid page write) =
    no_such_endpoint wire endpoint ∷ device_causes_of_use (device_of wire endpoint) pasid page write
causes_of wire (step.EndUse endpoint slot) = no_such_endpoint wire endpoint ∷ device_causes_of_end (device_of wire endpoint) slot
causes_of wire (step.Evict endpoint pasid page) = no_such_endpoint wire endpoint ∷ device_causes_of_evict (device_of wire endpoint) pasid page
causes_of wire (step.Fault endpoint pasid page read write group last) =
    no_such_endpoint wire endpoint ∷ device_causes_of_fault (device_of wire endpoint) pasid page group ++ numbers_spent wire.next_message 1 ∷ []
causes_of wire (step.Finish endpoint vector count) =
    no_such_endpoint wire endpoint ∷ device_causes_of_finish (device_of wire endpoint) vector count ++ numbers_spent wire.next_message count ∷ []
causes_of wire (step.Quit endpoint pasid) =
    no_such_endpoint wire endpoint ∷ device_causes_of_quit (device_of wire endpoint) pasid ++ numbers_spent wire.next_message 1 ∷ []
causes_of wire (step.Deliver message) = deliver_causes wire (flight_of wire message)
causes_of wire (step.Look frame) = (not (nat_lt frame (length wire.places)), refusal.NoFrame) ∷ []
causes_of wire (step.Bearer pasid) = (not (nat_le 1 pasid && nat_le pasid Limits.pasids), refusal.BadPasid) ∷ []
