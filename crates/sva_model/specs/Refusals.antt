-- The refusals of each step, in the order in which they are asked, each with its cause. Want of memory is none of them.
-- The refusals, their order and the limits are this project's own, except where a comment names a standard.
use Rattle.std.specs.Prelude.{ℕ, ◌+◌, ◌%◌, ◌^◌, Bool, true, false, ◌&&◌, ◌||◌, not, ◌==◌, nat_lt, nat_le, Option, Some, None, List, [], ◌∷◌, length}
use Rattle.std.specs.Prelude.{if◌then◌else◌, Result, Ok, Err}
use Rattle.sva_step.specs.declared.refusals.Refusal.{Refusal}
use Rattle.sva_step.specs.declared.refusals.Refusal.TheVariants as refusal
use Rattle.sva_step.specs.declared.steps.Step.{Step}
use Rattle.sva_step.specs.declared.steps.Step.TheVariants as step
use Rattle.sva_step.specs.declared.steps.Verdict.{Verdict}
use Rattle.sva_step.specs.Limits
use Rattle.sva_model.specs.Words.{any_below, all_below, count_below, is_some, the}
use Rattle.sva_model.specs.State.{Stage, Subject, Endpoint, World}
use Rattle.sva_model.specs.State.Stage.{Stopping, Draining, Invalidating, Quiet, Lost}
use Rattle.sva_model.specs.State.Subject.{FunctionReset, RequestOf}
use Rattle.sva_model.specs.States.{is_open, is_live_stage, is_done, is_wait}
use Rattle.sva_model.specs.Unmappings.{submits}
use Rattle.sva_model.specs.Labels
use Rattle.sva_model.specs.Replies.{replies_success, responds, newly_mapped, is_write_of_read_only, job_space}

-- a test, and what is answered where it holds
abbrev pub Cause : Type 0
Cause = Bool × Refusal

-- The first cause that holds refuses; where none does, it is granted.
abbrev pub by_first_cause : {A : Type 0} → List Cause → (refused : Refusal → A) (granted : A) → A
by_first_cause [] refused granted = granted
by_first_cause (cause ∷ causes) refused granted = if cause.0 then refused cause.1 else by_first_cause causes refused granted

-- the answer, unless a cause holds: then the refusal of the first that does
abbrev pub unless_refused : {A : Type 0} → List Cause → A → Result A Refusal
unless_refused causes answer = by_first_cause causes (λ refusal. Err refusal) (Ok answer)

-- Causes that several steps ask.

-- the config has no endpoint of this number
abbrev pub no_such_endpoint : World → ℕ → Cause
no_such_endpoint world endpoint = (not (nat_lt endpoint world.config.endpoints), refusal.NoSuchEndpoint)

-- no live space has this number
abbrev pub no_such_space : World → ℕ → Cause
no_such_space world number = (not (Labels.is_space world number), refusal.NoSuchSpace)

-- of the pages from `page` on, `count` in all, one is 2^36 or more
abbrev pub page_range : (page count : ℕ) → Cause
page_range page count = (nat_lt Limits.page_numbers (page + count), refusal.PageRange)

-- the endpoint's unit is in reset
abbrev pub resetting : World → ℕ → Cause
resetting world endpoint = (not (is_open (world.part endpoint).phase), refusal.Resetting)

-- no unreleased binding has this number
abbrev pub no_such_binding : World → ℕ → Cause
no_such_binding world number = (not (Labels.is_binding world number), refusal.NoSuchBinding)

-- there aren't so many numbers left for messages
abbrev pub messages_spent : World → ℕ → Cause
messages_spent world needed = (Labels.lacks world world.messages needed, refusal.NumbersSpent)

-- there aren't so many numbers left for cookies
abbrev pub cookies_spent : World → ℕ → Cause
cookies_spent world needed = (Labels.lacks world world.cookies needed, refusal.NumbersSpent)

-- the config has no worker of this number
abbrev pub no_such_worker : World → ℕ → Cause
no_such_worker world worker = (not (nat_lt worker world.config.workers), refusal.NoSuchWorker)

-- no translation of the page is cached under the PASID
abbrev pub not_held : Endpoint → (pasid page : ℕ) → Cause
not_held part pasid page = (not (Labels.is_cached part pasid page), refusal.NotHeld)

-- the descriptors don't fit into the 64 places of the unit's queue
abbrev pub is_queue_short : Endpoint → (descriptors : ℕ) → Bool
is_queue_short part descriptors = nat_lt Limits.queue_places (Labels.queue_length part + descriptors)

-- Of single steps.

-- an unmapping of single pages: 1 to 48, each mapped, and room at each unit that gets invalidations
abbrev pub unmap_refusals : World → (space page count : ℕ) → List Cause
unmap_refusals world space page count =
    (not (nat_le 1 count && nat_le count Limits.most_pages), refusal.BadCount)
    ∷ page_range page count
    ∷ (not (all_below count (λ j. Labels.is_mapped world space (page + j))), refusal.NotMapped)
    ∷ (any_below world.config.endpoints (λ e. submits world space e && is_queue_short (world.part e) (count + 1)), refusal.QueueFull)
    ∷ cookies_spent world (count_below world.config.endpoints (submits world space))
    ∷ []

-- a range that is taken out: of 1 to 512 pages, aligned to its size, with a page that is mapped
abbrev pub unmap_range_refusals : World → (space page order : ℕ) → List Cause
unmap_range_refusals world space page order =
    (nat_lt Limits.most_order order, refusal.BadOrder)
    ∷ page_range page (2 ^ order)
    ∷ (not (page % 2 ^ order == 0), refusal.NotAligned)
    ∷ (not (any_below (2 ^ order) (λ j. Labels.is_mapped world space (page + j))), refusal.NothingMapped)
    ∷ (any_below world.config.endpoints (λ e. submits world space e && is_queue_short (world.part e) 2), refusal.QueueFull)
    ∷ cookies_spent world (count_below world.config.endpoints (submits world space))
    ∷ []

-- a binding: one of a space at an endpoint, a PASID for it, and numbers for it and its start
abbrev pub bind_refusals : World → (endpoint space : ℕ) → List Cause
bind_refusals world endpoint space =
    resetting world endpoint
    ∷ (Labels.is_bound_at world space endpoint, refusal.AlreadyBound)
    ∷ (not (is_some (Labels.pasid_for world endpoint space)), refusal.NoPasid)
    ∷ (Labels.lacks world world.bindings 1, refusal.NumbersSpent)
    ∷ messages_spent world 1
    ∷ []

-- a Lost binding is only ended: nothing is sent
abbrev pub unbind_refusals : World → (endpoint : ℕ) → Stage → List Cause
unbind_refusals world endpoint Lost = []
unbind_refusals world endpoint stage = (not (is_live_stage stage), refusal.NotLive) ∷ resetting world endpoint ∷ messages_spent world 1 ∷ []

-- what the stage needs to go on, and the descriptors that it submits
abbrev pub advance_refusals : World → (endpoint binding : ℕ) → Stage → List Cause
advance_refusals world endpoint binding Quiet = []
advance_refusals world endpoint binding (Stopping marked) =
    resetting world endpoint
    ∷ (not marked, refusal.NotYet)
    ∷ (is_queue_short (world.part endpoint) 1, refusal.QueueFull)
    ∷ cookies_spent world 1
    ∷ []
advance_refusals world endpoint binding (Draining wait) =
    resetting world endpoint
    ∷ (not (is_done ((world.part endpoint).order_state wait)) || Labels.has_open_group (world.part endpoint) binding, refusal.NotYet)
    ∷ (is_queue_short (world.part endpoint) 2, refusal.QueueFull)
    ∷ cookies_spent world 1
    ∷ []
advance_refusals world endpoint binding (Invalidating invalidation wait) =
    resetting world endpoint ∷ (not (is_done ((world.part endpoint).order_state wait)), refusal.NotYet) ∷ []
advance_refusals world endpoint binding stage = resetting world endpoint ∷ (true, refusal.NotYet) ∷ []

-- a pump sends a message only where the head is an invalidation and an ITag is free
abbrev pub sends_invalidate : Endpoint → Bool
sends_invalidate part =
    not (Labels.is_queue_empty part)
    && not (is_wait (part.order (Labels.head part)))
    && not (Labels.lowest_label Limits.itags part.at_itag == Limits.itags)

-- a reply: by success its pages are writable where that is asked, and there are frames and room for them
abbrev pub reply_refusals : World → (job : ℕ) → Verdict → List Cause
reply_refusals world job verdict =
    (replies_success world job verdict && is_write_of_read_only world job, refusal.BadVerdict)
    ∷ (replies_success world job verdict && nat_lt (Labels.free_frames world) (length (newly_mapped world job)), refusal.NoFrame)
    ∷ (
      replies_success world job verdict
          && nat_lt Limits.most_mapped (Labels.pages_of world (job_space world job) + length (newly_mapped world job)),
      refusal.SpaceFull,
    )
    ∷ (responds world job && Labels.lacks world world.messages 1, refusal.NumbersSpent)
    ∷ []

-- a new group needs the PASID On; one that is there goes on also while the PASID stops
abbrev pub may_request : Endpoint → (pasid : ℕ) → Option ℕ → Bool
may_request part pasid None = Labels.is_started part pasid
may_request part pasid (Some index) = Labels.is_started part pasid || Labels.is_told_to_stop part pasid

-- is a group given, and none of the PASID that still collects?
abbrev pub is_other_group : Endpoint → (pasid : ℕ) → Option ℕ → Bool
is_other_group part pasid None = false
is_other_group part pasid (Some index) = not (Labels.is_group_of part pasid index)

-- Page requests (PCI Express Base 5.0, section 10.4.1): their allocation (NoCredit; section 10.5.2), and the interface that a
-- Response Failure disables (PriDisabled; section 10.4.2).
abbrev pub fault_refusals : World → Endpoint → (pasid : ℕ) → Option ℕ → List Cause
fault_refusals world part pasid group =
    (not (may_request part pasid group), refusal.NotStarted)
    ∷ (nat_le Limits.page_requests (Labels.outstanding part), refusal.NoCredit)
    ∷ (is_other_group part pasid group, refusal.NoSuchGroup)
    ∷ (part.is_disabled, refusal.PriDisabled)
    ∷ messages_spent world 1
    ∷ []

-- An ITag Vector has 32 bits, and a Completion Count says 1 to 8 (PCI Express Base 5.0, section 10.3.2). That each ITag
-- that the vector names is one which the endpoint has taken, and that no use runs that one of them noted, are this project's
-- own, in place of section 10.3.3's rules for outstanding requests.
abbrev pub finish_refusals : World → Endpoint → (vector count : ℕ) → List Cause
finish_refusals world part vector count =
    (Labels.names_none vector || any_below Limits.itags (λ t. Labels.is_set vector t && not (Labels.is_pending part t)), refusal.NotPending)
    ∷ (any_below part.orders (λ k. Labels.is_named part vector k && Labels.is_in_use world part k), refusal.InUse)
    ∷ (not (nat_le 1 count && nat_le count Limits.most_completions), refusal.BadCount)
    ∷ messages_spent world count
    ∷ []

-- a quit: the PASID is told to stop, and nothing goes on under it
abbrev pub quit_refusals : World → Endpoint → (pasid : ℕ) → List Cause
quit_refusals world part pasid =
    (not (Labels.is_told_to_stop part pasid), refusal.NotStopping)
    ∷ (
      Labels.has_unfinished_group part (Labels.bearer part pasid)
          || Labels.is_request_out_of part (Labels.bearer part pasid)
          || Labels.is_use_of part (Labels.bearer part pasid),
      refusal.Busy,
    )
    ∷ messages_spent world 1
    ∷ []

-- is the cached translation of the page read-only?
abbrev pub is_read_only : World → Endpoint → (pasid page : ℕ) → Bool
is_read_only world part pasid page = not (world.mappings.write (the (part.held (Labels.cached part (Labels.bearer part pasid) page))))

-- only a Reset, and a translation request at an open unit, send a message when they are delivered
abbrev pub delivery_sends : Endpoint → Option Subject → Bool
delivery_sends part (Some FunctionReset) = true
delivery_sends part (Some (RequestOf request)) = is_open part.phase
delivery_sends part _ = false

-- a delivery: the permitted order, and a number for what it sends
abbrev pub deliver_refusals : World → (message : ℕ) → Endpoint → List Cause
deliver_refusals world message part =
    (not (Labels.is_permitted_now part message (part.message message)), refusal.Overtakes)
    ∷ (delivery_sends part (part.message message) && Labels.lacks world world.messages 1, refusal.NumbersSpent)
    ∷ []

-- the causes of every step, in the order in which they are asked
abbrev pub refusals : World → Step → List Cause
refusals world step.Space =
    (nat_le Limits.most_spaces (Labels.live_spaces world), refusal.TooManySpaces)
    ∷ (Labels.lacks world world.spaces 1, refusal.NumbersSpent)
    ∷ []
refusals world (step.DropSpace space) = no_such_space world space ∷ (Labels.is_bound world (Labels.name world space), refusal.StillBound) ∷ []
refusals world (step.Map space page write) =
    no_such_space world space
    ∷ page_range page 1
    ∷ (Labels.is_mapped world (Labels.name world space) page, refusal.Mapped)
    ∷ (nat_le Limits.most_mapped (Labels.pages_of world (Labels.name world space)), refusal.SpaceFull)
    ∷ (Labels.lowest_frame world == world.config.frames, refusal.NoFrame)
    ∷ []
refusals world (step.Unmap space page count) = no_such_space world space ∷ unmap_refusals world (Labels.name world space) page count
refusals world (step.UnmapRange space page order) = no_such_space world space ∷ unmap_range_refusals world (Labels.name world space) page order
refusals world (step.Bind endpoint space) =
    no_such_endpoint world endpoint ∷ no_such_space world space ∷ bind_refusals world endpoint (Labels.name world space)
refusals world (step.Unbind binding) =
    no_such_binding world binding
    ∷ unbind_refusals world (world.endpoint_of (Labels.name world binding))
    ((world.part (world.endpoint_of (Labels.name world binding))).stage (Labels.name world binding))
refusals world (step.Advance binding) =
    no_such_binding world binding
    ∷ advance_refusals world (world.endpoint_of (Labels.name world binding)) (Labels.name world binding)
    ((world.part (world.endpoint_of (Labels.name world binding))).stage (Labels.name world binding))
refusals world (step.Pump endpoint) =
    no_such_endpoint world endpoint
    ∷ resetting world endpoint
    ∷ (sends_invalidate (world.part endpoint) && Labels.lacks world world.messages 1, refusal.NumbersSpent)
    ∷ []
refusals world (step.Serve endpoint) = no_such_endpoint world endpoint ∷ resetting world endpoint ∷ []
refusals world (step.Reset endpoint) = no_such_endpoint world endpoint ∷ resetting world endpoint ∷ messages_spent world 1 ∷ []
refusals world (step.Take worker) =
    no_such_worker world worker
    ∷ (is_some (world.hand worker), refusal.HandsFull)
    ∷ (not (any_below world.jobs (Labels.is_queued_job world)), refusal.NoJob)
    ∷ []
refusals world (step.Reply worker verdict) =
    no_such_worker world worker ∷ (not (is_some (world.hand worker)), refusal.NoJob) ∷ reply_refusals world (the (world.hand worker)) verdict
refusals world (step.Ask endpoint pasid page) =
    no_such_endpoint world endpoint
    ∷ page_range page 1
    ∷ (not (Labels.is_started (world.part endpoint) pasid), refusal.NotStarted)
    ∷ (Labels.lowest_label Limits.request_tags (world.part endpoint).at_tag == Limits.request_tags, refusal.NoTag)
    ∷ messages_spent world 1
    ∷ []
refusals world (step.BeginUse endpoint pasid page write) =
    no_such_endpoint world endpoint
    ∷ page_range page 1
    ∷ (not (Labels.is_started (world.part endpoint) pasid), refusal.NotStarted)
    ∷ not_held (world.part endpoint) pasid page
    ∷ (write && is_read_only world (world.part endpoint) pasid page, refusal.ReadOnly)
    ∷ (Labels.lowest_label Limits.use_slots (world.part endpoint).at_slot == Limits.use_slots, refusal.NoUseSlot)
    ∷ []
refusals world (step.EndUse endpoint slot) =
    no_such_endpoint world endpoint ∷ (not (nat_lt slot Limits.use_slots && is_some ((world.part endpoint).at_slot slot)), refusal.NoSuchUse) ∷ []
refusals world (step.Evict endpoint pasid page) = no_such_endpoint world endpoint ∷ page_range page 1 ∷ not_held (world.part endpoint) pasid page ∷ []
refusals world (step.Fault endpoint pasid page read write group last) =
    no_such_endpoint world endpoint ∷ page_range page 1 ∷ fault_refusals world (world.part endpoint) pasid group
refusals world (step.Finish endpoint vector count) = no_such_endpoint world endpoint ∷ finish_refusals world (world.part endpoint) vector count
refusals world (step.Quit endpoint pasid) = no_such_endpoint world endpoint ∷ quit_refusals world (world.part endpoint) pasid
refusals world (step.Deliver message) =
    (not (Labels.is_in_flight world message), refusal.NoSuchMessage)
    ∷ deliver_refusals world (Labels.name world message) (world.part (world.link_of (Labels.name world message)))
refusals world (step.Look frame) = (not (nat_lt frame world.config.frames), refusal.NoFrame) ∷ []
refusals world (step.Bearer pasid) = (not (nat_le 1 pasid && nat_le pasid Limits.pasids), refusal.BadPasid) ∷ []
