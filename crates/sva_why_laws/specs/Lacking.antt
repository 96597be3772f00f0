-- Each thing that takes up a limit, or is still to come, has its line.
use Rattle.std.specs.Prelude.{◌≡◌, ℕ, ◌==◌, ◌&&◌, nat_le, Bool, true, Option, Some, Err, List, ◌∷◌, ◌++◌, codes, slice_get}
use Rattle.sva_step.specs.Limits
use Rattle.sva_step.specs.declared.refusals.Refusal.TheVariants as refusal
use Rattle.sva_step.specs.declared.steps.Step.{Step}
use Rattle.sva_step.specs.declared.steps.Step.TheVariants as step
use Rattle.sva_step.specs.declared.steps.Verdict.{Verdict}
use Rattle.sva_model.specs.Wire.{BindingWire, EndpointWire, FlightWire, GroupWire, HostGroupWire, JobWire, PageRequestWire, PageWire, RequestWire}
use Rattle.sva_model.specs.Wire.{SpaceWire, TargetWire, TranslationWire, Wire}
use Rattle.sva_model.specs.Wire.PlaceWire.{WithheldWire}
use Rattle.sva_model.specs.Wire.UseWire.{RunningWire, DeadWire}
use Rattle.sva_labels.specs.Finding.{binding_of, bound_at, held_by, outstanding, page_at, pages_in}
use Rattle.sva_labels.specs.Moves.{is_of_job}
use Rattle.sva_labels.specs.Replying.{space_of_job}
use Rattle.sva_lines.specs.Pieces.{field, line_end}
use Rattle.sva_explain.specs.Accepted.{is_accepted}
use Rattle.sva_explain.specs.Frames.{frames_lines, mapped_line, pages_line, to_map_line, withheld_line}
use Rattle.sva_explain.specs.Hands.{hand_line}
use Rattle.sva_explain.specs.Pasids.{bearer_line}
use Rattle.sva_explain.specs.Slots.{slot_line}
use Rattle.sva_explain.specs.Spaces.{unbound_line}
use Rattle.sva_explain.specs.Tags.{not_held_line}
use Rattle.sva_explain.specs.declared.blockers.levels.Level.TheVariants.{First, Second, Third}
use Rattle.sva_explain.specs.declared.blockers.link.Topic.TheVariants.{Asks, Responds, Stop}
use Rattle.sva_explain.specs.Lines.{indent}
use Rattle.sva_explain.specs.Link.{is_about, message_line}
use Rattle.sva_explain.specs.Requests.{out_line}
use Rattle.sva_explain.specs.Jobs.{in_hand_line, request_line, untaken_line}
use Rattle.sva_explain.specs.Tables.{due_line, is_due, reset_text}
use Rattle.sva_why.specs.Bindings.{binding_line}
use Rattle.sva_why.specs.Causes.{endpoint_of}
use Rattle.sva_why.specs.Standing.{Has}
use Rattle.sva_why.specs.Why.{why_of}

-- `page requests are disabled at endpoint 0: only a reset helps [reset 0]`
abbrev pub disabled_line : Wire → (endpoint : ℕ) → List ℕ
disabled_line wire endpoint =
    indent First ++ field (codes "page requests are disabled at endpoint ") endpoint ++ codes ": only a reset helps"
    ++ reset_text wire endpoint ++ line_end

-- the step is of an endpoint at which 32 page requests are outstanding, and there the group of the index awaits its response
pub record IsDue (wire : Wire) (asked : Step) (endpoint index : ℕ) (part : EndpointWire) : Type 0 where
  pub group : Option GroupWire
  pub of_it : endpoint_of wire asked ≡ Some endpoint
  pub there : slice_get wire.parts endpoint ≡ Some part
  pub spent : nat_le Limits.page_requests (outstanding part.device.groups) ≡ true
  pub bears : slice_get part.device.groups index ≡ Some group
  pub due : is_due group ≡ true

pub record LackingStand : Type 0 where
  -- NoTag: each request that is out
  pub tag_stands : (wire : Wire) (endpoint pasid page tag : ℕ) (part : EndpointWire) (request : RequestWire)
      → slice_get wire.parts endpoint ≡ Some part → slice_get part.device.tags tag ≡ Some (Some request)
      → Has (why_of wire (step.Ask endpoint pasid page) (Err refusal.NoTag)) (out_line Second tag request)
  -- NoUseSlot: each use, that runs or that a reset has cut off
  pub running_stands : (wire : Wire) (endpoint pasid page slot : ℕ) (write : Bool) (part : EndpointWire) (translation : TranslationWire)
      → slice_get wire.parts endpoint ≡ Some part → slice_get part.device.slots slot ≡ Some (Some (RunningWire translation))
      → Has (why_of wire (step.BeginUse endpoint pasid page write) (Err refusal.NoUseSlot))
      (slot_line wire endpoint slot (codes " runs") (Some (RunningWire translation)))
  pub dead_stands : (wire : Wire) (endpoint pasid page slot : ℕ) (write : Bool) (part : EndpointWire)
      → slice_get wire.parts endpoint ≡ Some part → slice_get part.device.slots slot ≡ Some (Some DeadWire)
      → Has (why_of wire (step.BeginUse endpoint pasid page write) (Err refusal.NoUseSlot))
      (slot_line wire endpoint slot (codes " is dead") (Some DeadWire))
  -- HandsFull: the job in hand
  pub job_stands : (wire : Wire) (worker : ℕ) (job : JobWire) → held_by wire worker ≡ Some job
      → Has (why_of wire (step.Take worker) (Err refusal.HandsFull)) (hand_line First wire worker job)
  -- TooManySpaces: each that may go
  pub space_stands : (wire : Wire) (asked : Step) (place : ℕ) (space : SpaceWire)
      → slice_get wire.spaces place ≡ Some space → is_accepted wire (step.DropSpace space.number) ≡ true
      → Has (why_of wire asked (Err refusal.TooManySpaces)) (unbound_line Second space.number)
  -- NoFrame: each withheld frame is named, and each space that has pages has a line; of an answer the pages that it would map stand before
  pub of_mapping : (wire : Wire) (space page : ℕ) (write : Bool) → why_of wire (step.Map space page write) (Err refusal.NoFrame) ≡ frames_lines wire
  pub of_answer : (wire : Wire) (worker : ℕ) (verdict : Verdict) (job : JobWire) → held_by wire worker ≡ Some job
      → why_of wire (step.Reply worker verdict) (Err refusal.NoFrame) ≡ to_map_line wire worker job ++ frames_lines wire
  pub withheld_stands : (wire : Wire) (frame : ℕ) (targets : List (Option TargetWire)) → slice_get wire.places frame ≡ Some (WithheldWire targets)
      → Has (frames_lines wire) (withheld_line wire.places)
  pub frame_stands : (wire : Wire) (frame : ℕ) (targets : List (Option TargetWire)) → slice_get wire.places frame ≡ Some (WithheldWire targets)
      → Has (withheld_line wire.places) (field (codes " ") frame)
  pub holder_stands : (wire : Wire) (place : ℕ) (space : SpaceWire) (entry : PageWire) (rest : List PageWire)
      → slice_get wire.spaces place ≡ Some space → space.pages ≡ entry ∷ rest
      → Has (frames_lines wire) (pages_line wire space.number space.pages)
  -- SpaceFull: the space, and of an answer the pages that it would map
  pub full_stands : (wire : Wire) (space page : ℕ) (write : Bool)
      → Has (why_of wire (step.Map space page write) (Err refusal.SpaceFull)) (pages_line wire space (pages_in wire space))
  pub full_of_answer_stands : (wire : Wire) (worker : ℕ) (verdict : Verdict) (job : JobWire) → held_by wire worker ≡ Some job
      → Has (why_of wire (step.Reply worker verdict) (Err refusal.SpaceFull))
      (to_map_line wire worker job ++ pages_line wire (space_of_job wire job) (pages_in wire (space_of_job wire job)))
  -- NoPasid: each binding, by which its space bears one
  pub bearer_stands : (wire : Wire) (asked : Step) (place : ℕ) (binding : BindingWire) → slice_get wire.bindings place ≡ Some binding
      → Has (why_of wire asked (Err refusal.NoPasid)) (bearer_line Second wire binding)
  -- NotHeld: that, and each request for the page; of an eviction it is said as of a use
  pub lack_stands : (wire : Wire) (endpoint pasid page : ℕ) (write : Bool) (part : EndpointWire)
      → slice_get wire.parts endpoint ≡ Some part
      → Has (why_of wire (step.BeginUse endpoint pasid page write) (Err refusal.NotHeld)) (not_held_line First wire endpoint pasid page)
  pub asked_stands : (wire : Wire) (endpoint pasid page tag : ℕ) (write : Bool) (part : EndpointWire) (request : RequestWire)
      → slice_get wire.parts endpoint ≡ Some part → slice_get part.device.tags tag ≡ Some (Some request)
      → (request.pasid == pasid && request.page == page) ≡ true
      → Has (why_of wire (step.BeginUse endpoint pasid page write) (Err refusal.NotHeld)) (out_line Second tag request)
  pub evict_alike : (wire : Wire) (endpoint pasid page : ℕ) (write : Bool)
      → why_of wire (step.Evict endpoint pasid page) (Err refusal.NotHeld)
      ≡ why_of wire (step.BeginUse endpoint pasid page write) (Err refusal.NotHeld)
  -- NoCredit: each group whose response is due; and below it the worker that has its job in hand, the job, each page request of it that waits
  -- at the unit, and each message of it
  pub due_stands : (wire : Wire) (asked : Step) (endpoint index : ℕ) (part : EndpointWire) → IsDue wire asked endpoint index part
      → Has (why_of wire asked (Err refusal.NoCredit)) (due_line Second index)
  pub worker_stands : (wire : Wire) (asked : Step) (endpoint index place worker : ℕ) (part : EndpointWire) (group : HostGroupWire) (job : JobWire)
      → IsDue wire asked endpoint index part → slice_get part.host_groups place ≡ Some group → (group.index == index) ≡ true
      → slice_get wire.hands worker ≡ Some (Some job) → is_of_job job group ≡ true
      → Has (why_of wire asked (Err refusal.NoCredit)) (in_hand_line Third wire worker)
  pub untaken_stands : (wire : Wire) (asked : Step) (endpoint index place at : ℕ) (part : EndpointWire) (group : HostGroupWire) (job : JobWire)
      → IsDue wire asked endpoint index part → slice_get part.host_groups place ≡ Some group → (group.index == index) ≡ true
      → slice_get wire.jobs at ≡ Some job → is_of_job job group ≡ true
      → Has (why_of wire asked (Err refusal.NoCredit)) (untaken_line Third wire)
  pub request_stands : (wire : Wire) (asked : Step) (endpoint index place : ℕ) (part : EndpointWire) (request : PageRequestWire)
      → IsDue wire asked endpoint index part → slice_get part.page_queue place ≡ Some request → (request.index == index) ≡ true
      → Has (why_of wire asked (Err refusal.NoCredit)) (request_line Third wire endpoint)
  pub asks_stand : (wire : Wire) (asked : Step) (endpoint index place : ℕ) (part : EndpointWire) (flight : FlightWire)
      → IsDue wire asked endpoint index part → slice_get wire.in_flight place ≡ Some flight
      → (flight.endpoint == endpoint && is_about (Asks index) flight.message) ≡ true
      → Has (why_of wire asked (Err refusal.NoCredit)) (message_line Third (codes " is in flight:") wire flight)
  pub response_stands : (wire : Wire) (asked : Step) (endpoint index place : ℕ) (part : EndpointWire) (flight : FlightWire)
      → IsDue wire asked endpoint index part → slice_get wire.in_flight place ≡ Some flight
      → (flight.endpoint == endpoint && is_about (Responds index) flight.message) ≡ true
      → Has (why_of wire asked (Err refusal.NoCredit)) (message_line Third (codes " is in flight:") wire flight)
  -- PriDisabled
  pub disabled_stands : (wire : Wire) (asked : Step) (endpoint : ℕ) (part : EndpointWire)
      → endpoint_of wire asked ≡ Some endpoint → slice_get wire.parts endpoint ≡ Some part → part.device.is_disabled ≡ true
      → Has (why_of wire asked (Err refusal.PriDisabled)) (disabled_line wire endpoint)
  -- NotStopping: the stop in flight
  pub stop_stands : (wire : Wire) (endpoint pasid place : ℕ) (flight : FlightWire)
      → slice_get wire.in_flight place ≡ Some flight → (flight.endpoint == endpoint && is_about (Stop pasid) flight.message) ≡ true
      → Has (why_of wire (step.Quit endpoint pasid) (Err refusal.NotStopping)) (message_line Second (codes " is in flight:") wire flight)
  -- AlreadyBound, NotLive, Mapped: what is there
  pub bound_stands : (wire : Wire) (endpoint space : ℕ) (binding : BindingWire) → bound_at wire endpoint space ≡ Some binding
      → Has (why_of wire (step.Bind endpoint space) (Err refusal.AlreadyBound)) (bearer_line First wire binding)
  pub unbound_stands : (wire : Wire) (number : ℕ) (binding : BindingWire) → binding_of wire number ≡ Some binding
      → Has (why_of wire (step.Unbind number) (Err refusal.NotLive)) (binding_line First wire binding)
  pub page_stands : (wire : Wire) (space page : ℕ) (write : Bool) (entry : PageWire) → page_at (pages_in wire space) page ≡ Some entry
      → Has (why_of wire (step.Map space page write) (Err refusal.Mapped)) (mapped_line wire space entry)
