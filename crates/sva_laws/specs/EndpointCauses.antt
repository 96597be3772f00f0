-- A refusal is answered only for its own cause: what holds of the world where an endpoint's own step, a delivery or a worker's step
-- is refused, and which cause each refusal has. (Sections are those of PCI Express Base 5.0.)
use Rattle.std.specs.Prelude.{◌≡◌, ◌≢◌, ◌⊎◌, ℕ, ◌<◌, ◌≤◌, true, false, Option, Some, None, List, [], ◌∷◌, ◌++◌, Err}
use Rattle.sva_step.specs.declared.limits.Config.{Config}
use Rattle.sva_step.specs.declared.refusals.Refusal.{Refusal}
use Rattle.sva_step.specs.declared.refusals.Refusal.TheVariants as refusal
use Rattle.sva_step.specs.declared.steps.Step.{Step}
use Rattle.sva_step.specs.declared.steps.Step.TheVariants as step
use Rattle.sva_step.specs.declared.steps.Verdict.TheVariants as verdict_is
use Rattle.sva_step.specs.Limits
use Rattle.sva_model.specs.State.{PasidRule, PasidState, Subject, Endpoint, World}
use Rattle.sva_model.specs.State.Stage.{Live}
use Rattle.sva_model.specs.State.PasidState.{On, Ending}
use Rattle.sva_model.specs.State.UseState.{Running}
use Rattle.sva_model.specs.State.GroupState.{Collecting}
use Rattle.sva_model.specs.State.HostGroupState.{Job}
use Rattle.sva_model.specs.State.Phase.{Open}
use Rattle.sva_model.specs.States.{is_out, is_taken, uses_noted, covers}
use Rattle.sva_model.specs.LinkOrder.{stays_behind}
use Rattle.sva_model.specs.Labels.{number, name, outstanding, is_set, kind_of}
use Rattle.sva_model.specs.Replies.{job_part, job_space}
use Rattle.sva_model.specs.Steps.{reply, world_after}
use Rattle.sva_model.specs.Claims.{Fits}
use Rattle.sva_laws.specs.Asked.{stage_of}
use Rattle.sva_laws.specs.Causes.{IsNoEndpoint, IsNoSpace, IsNoBinding, IsNoWorker, IsPastPages, IsResetting, IsNumbersSpent, IsTooManySpaces}
use Rattle.sva_laws.specs.Causes.{IsStillBound, IsMappedPage, IsNotMapped, IsNothingMapped, IsBadOrder, IsNotAligned, IsNoFrame, IsSpaceFull}
use Rattle.sva_laws.specs.Causes.{IsAlreadyBound, IsNoPasid, IsNotLive, IsNotYet, IsQueueFull}

-- PASIDs at an endpoint.

-- no binding of the endpoint bears the PASID and has it in this state
abbrev pub IsNowhere : Endpoint → (pasid : ℕ) → PasidState → Type 0
IsNowhere part pasid state = (binding : ℕ) → part.at_pasid pasid ≡ Some binding → part.pasid_state binding ≢ state

-- The PASID hasn't started at this endpoint (section 6.20), or is told to stop; a page request of a group that is there is also
-- sent while it is told to stop.
abbrev pub IsNotStarted : World → Step → Type 0
IsNotStarted world (step.Ask endpoint pasid page) = IsNowhere (world.part endpoint) pasid On
IsNotStarted world (step.BeginUse endpoint pasid page write) = IsNowhere (world.part endpoint) pasid On
IsNotStarted world (step.Fault endpoint pasid page read write None last) = IsNowhere (world.part endpoint) pasid On
IsNotStarted world (step.Fault endpoint pasid page read write (Some index) last) =
    IsNowhere (world.part endpoint) pasid On × IsNowhere (world.part endpoint) pasid Ending
IsNotStarted world _ = ⊥

-- the PASID isn't told to stop at this endpoint
abbrev pub IsNotStopping : World → Step → Type 0
IsNotStopping world (step.Quit endpoint pasid) = IsNowhere (world.part endpoint) pasid Ending
IsNotStopping world _ = ⊥

-- Something goes on under the very binding that bears the PASID: a group whose last page request isn't sent, a translation request
-- that is out, or a use that runs. What is left of an older binding of the PASID doesn't count.
abbrev pub IsBusy : World → Step → Type 0
IsBusy world (step.Quit endpoint pasid) =
    (binding : ℕ)
    × ((world.part endpoint).at_pasid pasid ≡ Some binding)
    × (((group : ℕ) × ((world.part endpoint).group group ≡ Collecting) × ((world.part endpoint).asker group ≡ binding))
    ⊎ (((request : ℕ)
    × (is_out ((world.part endpoint).request request) ≡ true)
    × ((world.part endpoint).request_binding request ≡ binding))
    ⊎ ((used : ℕ) × ((world.part endpoint).use_state used ≡ Running) × ((world.part endpoint).use_binding used ≡ binding))))
IsBusy world _ = ⊥

-- Translations.

-- each of so many labels is borne
abbrev pub AreTaken : (count : ℕ) → (ℕ → Option ℕ) → Type 0
AreTaken count at = (label : ℕ) → label < count → (bearer : ℕ) × (at label ≡ Some bearer)

-- each tag of this endpoint's translation requests is out (section 10.2.2)
abbrev pub IsNoTag : World → Step → Type 0
IsNoTag world (step.Ask endpoint pasid page) = AreTaken Limits.request_tags (world.part endpoint).at_tag
IsNoTag world _ = ⊥

-- the bearer of the PASID has no translation of the page cached at this endpoint
abbrev pub IsUncached : Endpoint → (pasid page : ℕ) → Type 0
IsUncached part pasid page =
    (binding request mapping : ℕ)
    → part.at_pasid pasid ≡ Some binding
    → part.held request ≡ Some mapping
    → part.request_binding request ≡ binding
    → part.request_page request ≡ page
    → ⊥

-- so it is where a use or an evict is refused
abbrev pub IsNotHeld : World → Step → Type 0
IsNotHeld world (step.BeginUse endpoint pasid page write) = IsUncached (world.part endpoint) pasid page
IsNotHeld world (step.Evict endpoint pasid page) = IsUncached (world.part endpoint) pasid page
IsNotHeld world _ = ⊥

-- the use writes, and the translation that its bearer has cached for the page doesn't allow it (section 10.2.3)
abbrev pub IsReadOnly : World → Step → Type 0
IsReadOnly world (step.BeginUse endpoint pasid page write) =
    (write ≡ true)
    × ((binding : ℕ)
    × (request : ℕ)
    × (mapping : ℕ)
    × ((world.part endpoint).at_pasid pasid ≡ Some binding)
    × ((world.part endpoint).held request ≡ Some mapping)
    × ((world.part endpoint).request_binding request ≡ binding)
    × ((world.part endpoint).request_page request ≡ page)
    × (world.mappings.write mapping ≡ false))
IsReadOnly world _ = ⊥

-- each use slot of this endpoint is taken
abbrev pub IsNoUseSlot : World → Step → Type 0
IsNoUseSlot world (step.BeginUse endpoint pasid page write) = AreTaken Limits.use_slots (world.part endpoint).at_slot
IsNoUseSlot world _ = ⊥

-- this slot isn't
abbrev pub IsNoUse : World → Step → Type 0
IsNoUse world (step.EndUse endpoint slot) = (world.part endpoint).at_slot slot ≡ None
IsNoUse world _ = ⊥

-- Page requests.

-- this endpoint has as many outstanding as its allocation (section 10.5.2)
abbrev pub IsNoCredit : World → Step → Type 0
IsNoCredit world (step.Fault endpoint pasid page read write group last) = Limits.page_requests ≤ outstanding (world.part endpoint)
IsNoCredit world _ = ⊥

-- no group with this index, of the bearer of the PASID, lacks its last page request (section 10.4.1)
abbrev pub IsNoGroup : World → Step → Type 0
IsNoGroup world (step.Fault endpoint pasid page read write (Some index) last) =
    (binding group : ℕ)
    → (world.part endpoint).at_pasid pasid ≡ Some binding
    → (world.part endpoint).at_index index ≡ Some group
    → (world.part endpoint).asker group ≡ binding
    → (world.part endpoint).group group ≢ Collecting
IsNoGroup world _ = ⊥

-- a Response Failure has disabled this endpoint's interface (section 10.4.2)
abbrev pub IsDisabledThere : World → Step → Type 0
IsDisabledThere world (step.Fault endpoint pasid page read write group last) = (world.part endpoint).is_disabled ≡ true
IsDisabledThere world _ = ⊥

-- Invalidations.

-- the vector names no ITag, or one whose invalidation, if there is any, this endpoint hasn't taken (sections 10.3.2, 10.3.3)
abbrev pub IsNotPending : World → Step → Type 0
IsNotPending world (step.Finish endpoint vector count) =
    ((itag : ℕ) → itag < Limits.itags → is_set vector itag ≡ false)
    ⊎ ((itag : ℕ)
    × (itag < Limits.itags)
    × (is_set vector itag ≡ true)
    × ((order : ℕ) → (world.part endpoint).at_itag itag ≡ Some order → is_taken ((world.part endpoint).order_state order) ≡ false))
IsNotPending world _ = ⊥

-- a use runs that a named invalidation noted when it was taken, and that it covers
abbrev pub IsInUse : World → Step → Type 0
IsInUse world (step.Finish endpoint vector count) =
    (order : ℕ)
    × (used : ℕ)
    × (is_taken ((world.part endpoint).order_state order) ≡ true)
    × (is_set vector ((world.part endpoint).itag order) ≡ true)
    × (used < uses_noted ((world.part endpoint).order_state order))
    × ((world.part endpoint).use_state used ≡ Running)
    × (covers ((world.part endpoint).order order) ((world.part endpoint).use_binding used)
    (world.mappings.page ((world.part endpoint).use_mapping used)) ≡ true)
IsInUse world _ = ⊥

-- an unmapping is of 1 to 48 pages; a Completion Count says 1 to 8 (section 10.3.2)
abbrev pub IsBadCount : Step → Type 0
IsBadCount (step.Unmap space page count) = (count ≡ 0) ⊎ (Limits.most_pages < count)
IsBadCount (step.Finish endpoint vector count) = (count ≡ 0) ⊎ (Limits.most_completions < count)
IsBadCount _ = ⊥

-- a PASID is 1 to 32 (section 6.20)
abbrev pub IsBadPasid : Step → Type 0
IsBadPasid (step.Bearer pasid) = (pasid ≡ 0) ⊎ (Limits.pasids < pasid)
IsBadPasid _ = ⊥

-- The link.

-- no message in flight has this number
abbrev pub IsNoMessage : World → Step → Type 0
IsNoMessage world (step.Deliver delivered) =
    (message : ℕ) → number world message ≡ delivered → (world.part (world.link_of message)).message message ≡ None
IsNoMessage world _ = ⊥

-- the message must stay behind an older one of its own endpoint that is in flight, by the order of the link
abbrev pub IsOvertaking : World → Step → Type 0
IsOvertaking world (step.Deliver delivered) =
    (older : ℕ)
    × (subject : Subject)
    × (ahead : Subject)
    × (older < name world delivered)
    × ((world.part (world.link_of (name world delivered))).message (name world delivered) ≡ Some subject)
    × ((world.part (world.link_of (name world delivered))).message older ≡ Some ahead)
    × (stays_behind (kind_of (world.part (world.link_of (name world delivered))) subject)
    (kind_of (world.part (world.link_of (name world delivered))) ahead) ≡ true)
IsOvertaking world _ = ⊥

-- Workers.

-- this worker holds a job
abbrev pub AreHandsFull : World → Step → Type 0
AreHandsFull world (step.Take worker) = (job : ℕ) × (world.hand worker ≡ Some job)
AreHandsFull world _ = ⊥

-- no group is a job that waits; or this worker holds none
abbrev pub IsNoJob : World → Step → Type 0
IsNoJob world (step.Take worker) = (job : ℕ) → job < world.jobs → (job_part world job).host_group (world.job job).group ≢ Job
IsNoJob world (step.Reply worker verdict) = world.hand worker ≡ None
IsNoJob world _ = ⊥

-- The worker says `success` for a job in its hand, whose unit is open and whose binding is Live; and one page request of the job asks to
-- write a page that is mapped in the binding's space for reading alone. That others ask to write other pages doesn't count.
abbrev pub IsBadVerdict : World → Step → Type 0
IsBadVerdict world (step.Reply worker verdict_is.Success) =
    (job : ℕ)
    × (world.hand worker ≡ Some job)
    × ((job_part world job).phase ≡ Open)
    × (stage_of world job ≡ Live)
    × ((filing : ℕ)
    × (mapping : ℕ)
    × (filing < (job_part world job).filings)
    × ((job_part world job).group_of ((job_part world job).filing filing) ≡ (world.job job).group)
    × ((job_part world job).asks_write ((job_part world job).filing filing) ≡ true)
    × (world.mappings.at (job_space world job) ((job_part world job).asked_page ((job_part world job).filing filing)) ≡ Some mapping)
    × (world.mappings.write mapping ≡ false))
IsBadVerdict world _ = ⊥

-- What holds of the world and the step where it is refused so; no step is refused BadConfig, nor is any by the definitions OutOfMemory.
abbrev pub HasCause : World → Step → Refusal → Type 0
HasCause world next refusal.BadConfig = ⊥
HasCause world next refusal.NoSuchEndpoint = IsNoEndpoint world next
HasCause world next refusal.NoSuchSpace = IsNoSpace world next
HasCause world next refusal.TooManySpaces = IsTooManySpaces world next
HasCause world next refusal.PageRange = IsPastPages next
HasCause world next refusal.Mapped = IsMappedPage world next
HasCause world next refusal.NotMapped = IsNotMapped world next
HasCause world next refusal.NoFrame = IsNoFrame world next
HasCause world next refusal.SpaceFull = IsSpaceFull world next
HasCause world next refusal.AlreadyBound = IsAlreadyBound world next
HasCause world next refusal.NoPasid = IsNoPasid world next
HasCause world next refusal.StillBound = IsStillBound world next
HasCause world next refusal.NoSuchBinding = IsNoBinding world next
HasCause world next refusal.NotLive = IsNotLive world next
HasCause world next refusal.NotYet = IsNotYet world next
HasCause world next refusal.QueueFull = IsQueueFull world next
HasCause world next refusal.Resetting = IsResetting world next
HasCause world next refusal.NotStarted = IsNotStarted world next
HasCause world next refusal.NoTag = IsNoTag world next
HasCause world next refusal.NotHeld = IsNotHeld world next
HasCause world next refusal.ReadOnly = IsReadOnly world next
HasCause world next refusal.NoUseSlot = IsNoUseSlot world next
HasCause world next refusal.NoSuchUse = IsNoUse world next
HasCause world next refusal.NoCredit = IsNoCredit world next
HasCause world next refusal.NoSuchGroup = IsNoGroup world next
HasCause world next refusal.PriDisabled = IsDisabledThere world next
HasCause world next refusal.NotPending = IsNotPending world next
HasCause world next refusal.InUse = IsInUse world next
HasCause world next refusal.BadCount = IsBadCount next
HasCause world next refusal.NotStopping = IsNotStopping world next
HasCause world next refusal.Busy = IsBusy world next
HasCause world next refusal.NoSuchMessage = IsNoMessage world next
HasCause world next refusal.Overtakes = IsOvertaking world next
HasCause world next refusal.NoSuchWorker = IsNoWorker world next
HasCause world next refusal.HandsFull = AreHandsFull world next
HasCause world next refusal.NoJob = IsNoJob world next
HasCause world next refusal.BadVerdict = IsBadVerdict world next
HasCause world next refusal.NumbersSpent = IsNumbersSpent world next
HasCause world next refusal.OutOfMemory = ⊥
HasCause world next refusal.BadOrder = IsBadOrder next
HasCause world next refusal.NotAligned = IsNotAligned next
HasCause world next refusal.NothingMapped = IsNothingMapped world next
HasCause world next refusal.BadPasid = IsBadPasid next

-- each step that is refused, after every list of steps, has the cause of its refusal
abbrev pub AlwaysHasCause : Type 0
AlwaysHasCause =
    (rule : PasidRule) (config : Config) (steps : List Step) (next : Step) (refused : Refusal)
    → Fits config
    → reply (world_after rule config steps) next ≡ Err refused
    → HasCause (world_after rule config steps) next refused

-- and it changes nothing
abbrev pub AlwaysStays : Type 0
AlwaysStays =
    (rule : PasidRule) (config : Config) (steps : List Step) (next : Step) (refused : Refusal)
    → Fits config
    → reply (world_after rule config steps) next ≡ Err refused
    → world_after rule config (steps ++ next ∷ []) ≡ world_after rule config steps
