-- A world of this project's own host, seen as an open one: what memory, endpoints, units and links have, read off its records by
-- their names. An owner of a PASID, and a tenure of a frame, is counted by the names that were given out before.
use Rattle.std.specs.Prelude.{ℕ, zero, suc, ◌==◌, ◌&&◌, not, Bool, true, false, List, [], ◌∷◌, ◌++◌, Option, Some, None, option_map}
use Rattle.sva_step.specs.Limits
use Rattle.sva_step.specs.declared.limits.Config.{Config}
use Rattle.sva_step.specs.declared.steps.Step.{Step}
use Rattle.sva_model.specs.Words.{count_below, find, select, tabulate}
use Rattle.sva_model.specs.Range.{pages_in}
use Rattle.sva_model.specs.Message.{Code}
use Rattle.sva_model.specs.Message.Code.{FailureCode}
use Rattle.sva_model.specs.State.{Mappings, Stage, PasidState, RequestState, HostGroupState, Order, OrderState}
use Rattle.sva_model.specs.State.{Subject, Phase, Endpoint, World, PasidRule}
use Rattle.sva_model.specs.State.Stage.{Unbound, Stopping}
use Rattle.sva_model.specs.State.PasidState.{Off, On, Ending}
use Rattle.sva_model.specs.State.RequestState.{Doomed}
use Rattle.sva_model.specs.State.HostGroupState.{NotFiled, PartFiled}
use Rattle.sva_model.specs.State.OrderState.{Taken}
use Rattle.sva_model.specs.State.Order.{RangeOf, PasidOf, Wait}
use Rattle.sva_model.specs.State.Subject.{StartOf, StopOf, FunctionReset, CompletionOf, InvalidateOf, ResponseOf, RequestOf, InvalidatedOf}
use Rattle.sva_model.specs.State.Subject.{PageRequestOf, MarkerOf, ResetDone}
use Rattle.sva_model.specs.State.Phase.{Cleared}
use Rattle.sva_model.specs.States.{is_open, is_present, is_running, is_arrived, is_collecting, is_open_group, is_queued, is_busy, is_free}
use Rattle.sva_model.specs.States.{is_live_stage, is_off}
use Rattle.sva_model.specs.Steps.{world_after}
use Rattle.sva_model.specs.Claims.{Fits}
use Rattle.sva_open.specs.declared.frames.Tenure.{Tenure}
use Rattle.sva_open.specs.declared.frames.Target.{Target}
use Rattle.sva_open.specs.declared.frames.Mapping.{Mapping}
use Rattle.sva_open.specs.declared.frames.Translation.{Translation}
use Rattle.sva_open.specs.declared.scopes.Scope.{Scope}
use Rattle.sva_open.specs.declared.scopes.Scope.TheVariants as scope
use Rattle.sva_open.specs.declared.rows.State.{State}
use Rattle.sva_open.specs.declared.rows.State.TheVariants as row_state
use Rattle.sva_open.specs.declared.rows.Entry.{Entry}
use Rattle.sva_open.specs.declared.rows.Row.{Row}
use Rattle.sva_open.specs.declared.messages.Message.{Message}
use Rattle.sva_open.specs.declared.messages.Message.TheVariants as message
use Rattle.sva_open.specs.declared.messages.PageRequest.{PageRequest}
use Rattle.sva_open.specs.declared.messages.Sent.{Sent}
use Rattle.sva_open.specs.declared.works.Request.{Request}
use Rattle.sva_open.specs.declared.works.Group.{Group}
use Rattle.sva_open.specs.declared.works.Work.{Work}
use Rattle.sva_open.specs.declared.works.Work.TheVariants as work
use Rattle.sva_open.specs.declared.descriptors.Descriptor.{Descriptor}
use Rattle.sva_open.specs.declared.descriptors.Descriptor.TheVariants as descriptor
use Rattle.sva_open.specs.declared.descriptors.Issued.TheVariants as issued
use Rattle.sva_open.specs.declared.descriptors.Arrived.{Arrived}
use Rattle.sva_open.specs.declared.descriptors.Filed.{Filed}
use Rattle.sva_open.specs.declared.settings.Link.TheVariants as link
use Rattle.sva_open.specs.declared.settings.Stopped.TheVariants as stopped
use Rattle.sva_open.specs.declared.settings.Timeouts.TheVariants as timeouts
use Rattle.sva_open.specs.World.{Open, Part}
use Rattle.sva_open.specs.Safe.{IsSafe}

-- ---- lists by names

-- what each of the names below a number gives, in the order of the names
unfoldable pub gather : {A : Type 0} → (many : ℕ) → (ℕ → List A) → List A
gather zero each = []
gather (suc many) each = gather many each ++ each many

abbrev pub if_there : {A : Type 0} → Option A → List A
if_there None = []
if_there (Some x) = x ∷ []

abbrev pub where_so : {A : Type 0} → Bool → A → List A
where_so false x = []
where_so true x = x ∷ []

-- ---- owners: which of the bindings of its endpoint that have borne the PASID a binding is

abbrev pub is_bound : Stage → Bool
is_bound Unbound = false
is_bound _ = true

abbrev pub had_before : Endpoint → (pasid many : ℕ) → ℕ
had_before part pasid many = count_below many (λ b. is_bound (part.stage b) && (part.pasid b == pasid))

abbrev pub owner_of : Endpoint → (binding : ℕ) → ℕ
owner_of part binding = had_before part (part.pasid binding) binding

-- ---- tenures: which of the mappings of its frame a mapping is; of a frame, which its last is, and one more once it is free

abbrev pub given_before : Mappings → (frame many : ℕ) → ℕ
given_before mappings frame many = count_below many (λ m. mappings.frame m == frame)

abbrev pub given_by : Bool → (before : ℕ) → ℕ
given_by true before = suc before
given_by false before = before

abbrev pub given_at : World → (frame : ℕ) → Option ℕ → ℕ
given_at world frame None = 0
given_at world frame (Some mapping) = given_by (is_free world frame) (given_before world.mappings frame mapping)

abbrev pub tenure_of : World → (frame : ℕ) → Tenure
tenure_of world frame = record { given = given_at world frame (world.mappings.latest frame); frozen = 0 }

abbrev pub target_of : Mappings → (mapping : ℕ) → Target
target_of mappings mapping =
    record {
      frame = mappings.frame mapping;
      tenure = record { given = given_before mappings (mappings.frame mapping) mapping; frozen = 0 };
      write = mappings.write mapping;
    }

abbrev pub mapping_of : Mappings → (mapping : ℕ) → Mapping
mapping_of mappings mapping = record { space = mappings.space mapping; page = mappings.page mapping; target = target_of mappings mapping }

-- ---- what there is of a PASID

-- The owner that it has goes by who bears it. Whose its entry, an answer and the endpoint's use of it are goes by the
-- bindings themselves, each the first of that PASID: so that they are the owner's own is a claim, and no reading.
abbrev pub first_of : (bindings : ℕ) → Endpoint → (pasid : ℕ) → (is_so : ℕ → Bool) → Option ℕ
first_of bindings part pasid is_so = find bindings (λ b. is_so b && (part.pasid b == pasid))

-- the binding to whose space the entry leads, as long as it isn't told to stop
abbrev pub entered_of : (bindings : ℕ) → Endpoint → (pasid : ℕ) → Option ℕ
entered_of bindings part pasid = first_of bindings part pasid (λ b. is_live_stage (part.stage b))

-- the binding whose Stop Marker has come, where the host hasn't gone on
abbrev pub is_marked : Stage → Bool
is_marked (Stopping marked) = marked
is_marked _ = false

abbrev pub marked_of : (bindings : ℕ) → Endpoint → (pasid : ℕ) → Option ℕ
marked_of bindings part pasid = first_of bindings part pasid (λ b. is_marked (part.stage b))

-- the binding under which the endpoint goes on
abbrev pub user_of : (bindings : ℕ) → Endpoint → (pasid : ℕ) → Option ℕ
user_of bindings part pasid = first_of bindings part pasid (λ b. not (is_off (part.pasid_state b)))

abbrev pub entry_of : Endpoint → (binding : ℕ) → Entry
entry_of part binding = record { space = part.space binding; owner = owner_of part binding }

abbrev pub state_by : PasidState → State
state_by Off = row_state.Off
state_by On = row_state.On
state_by Ending = row_state.Stopping

abbrev pub state_of : Endpoint → Option ℕ → State
state_of part None = row_state.Off
state_of part (Some binding) = state_by (part.pasid_state binding)

-- the owner of a PASID, where nobody bears it the one behind all that have borne it
abbrev pub owner_by : (bindings : ℕ) → Endpoint → (pasid : ℕ) → Option ℕ → ℕ
owner_by bindings part pasid None = had_before part pasid bindings
owner_by bindings part pasid (Some binding) = owner_of part binding

-- who uses it, where anybody does
abbrev pub user_by : Endpoint → Option ℕ → ℕ
user_by part None = 0
user_by part (Some binding) = owner_of part binding

abbrev pub row_at : (bindings : ℕ) → Endpoint → (pasid : ℕ) → Row
row_at bindings part pasid =
    record {
      entry = option_map (entry_of part) (entered_of bindings part pasid);
      owner = owner_by bindings part pasid (part.at_pasid pasid);
      space = option_map part.space (part.at_pasid pasid);
      answer = option_map (owner_of part) (marked_of bindings part pasid);
      state = state_of part (user_of bindings part pasid);
      user = user_by part (user_of bindings part pasid);
    }

-- ---- what the endpoint holds and is at

abbrev pub translation_of : Mappings → Endpoint → (binding page mapping : ℕ) → Translation
translation_of mappings part binding page mapping =
    record { pasid = part.pasid binding; page = page; owner = owner_of part binding; target = target_of mappings mapping }

abbrev pub held_of : Mappings → Endpoint → (request : ℕ) → Option Translation
held_of mappings part request =
    option_map (translation_of mappings part (part.request_binding request) (part.request_page request)) (part.held request)

abbrev pub is_doomed : RequestState → Bool
is_doomed Doomed = true
is_doomed _ = false

abbrev pub request_of : Endpoint → (request : ℕ) → Request
request_of part request =
    record {
      pasid = part.pasid (part.request_binding request);
      page = part.request_page request;
      owner = owner_of part (part.request_binding request);
      is_doomed = is_doomed (part.request request);
      noted = None;
    }

abbrev pub use_of : Mappings → Endpoint → (used : ℕ) → Work
use_of mappings part used =
    work.Use (translation_of mappings part (part.use_binding used) (mappings.page (part.use_mapping used)) (part.use_mapping used))

abbrev pub scope_of : Endpoint → Order → Scope
scope_of part (RangeOf binding range) = scope.Pages (part.pasid binding) range.base (pages_in range)
scope_of part (PasidOf binding) = scope.Pasid (part.pasid binding)
scope_of part (Wait cookie drain) = scope.Pasid 0

abbrev pub taken_of : Endpoint → OrderState → (order : ℕ) → List Work
taken_of part (Taken uses) order = work.Taken (part.itag order) (scope_of part (part.order order)) ∷ []
taken_of part _ order = []

-- The uses that run, and then the invalidations that are taken: a world by names doesn't tell their order.
abbrev pub works_of : Mappings → Endpoint → List Work
works_of mappings part =
    gather part.uses (λ u. where_so (is_running (part.use_state u)) (use_of mappings part u))
    ++ gather part.orders (λ k. taken_of part (part.order_state k) k)

abbrev pub group_of : Endpoint → (group : ℕ) → Group
group_of part group =
    record {
      pasid = part.pasid (part.asker group);
      owner = owner_of part (part.asker group);
      number = group;
      is_finished = not (is_collecting (part.group group));
      noted = None;
    }

-- ---- messages

-- how many resets have come to the endpoint
abbrev pub time_by : Phase → (resets : ℕ) → ℕ
time_by (Cleared message) resets = suc resets
time_by _ resets = resets

abbrev pub time_of : Endpoint → ℕ
time_of part = time_by part.phase part.resets

abbrev pub one : (owner number : ℕ) → Message → List Sent
one owner number message = (record { message = message; owner = owner; number = number }) ∷ []

abbrev pub is_failure : Code → Bool
is_failure FailureCode = true
is_failure _ = false

-- has the host filed anything of the group?
abbrev pub is_filed : HostGroupState → Bool
is_filed NotFiled = false
is_filed _ = true

abbrev pub asked_of : Endpoint → (request : ℕ) → PageRequest
asked_of part request =
    record {
      pasid = part.pasid (part.asker (part.group_of request));
      index = part.index (part.group_of request);
      page = part.asked_page request;
      write = part.asks_write request;
      last = part.is_last request;
    }

abbrev pub ended_of : Endpoint → (names : Bool) → (order : ℕ) → List Sent
ended_of part true order = one 0 part.resets (message.Invalidated (part.itag order))
ended_of part false order = []

abbrev pub sent_of : Mappings → Endpoint → Subject → List Sent
sent_of mappings part (StartOf binding) = one (owner_of part binding) part.resets (message.Start (part.pasid binding))
sent_of mappings part (StopOf binding) = one (owner_of part binding) part.resets (message.Stop (part.pasid binding))
sent_of mappings part FunctionReset = one 0 part.resets message.Reset
sent_of mappings part (CompletionOf request found) =
    one (owner_of part (part.request_binding request)) part.resets
    (message.Completion (part.request_tag request) (part.request_page request) (option_map (target_of mappings) found))
sent_of mappings part (InvalidateOf order) = one 0 part.resets (message.Invalidate (part.itag order) (scope_of part (part.order order)))
sent_of mappings part (ResponseOf group code) =
    one 0 group (message.Response (part.index group) (is_failure code) (is_filed (part.host_group group)))
sent_of mappings part (RequestOf request) =
    one (owner_of part (part.request_binding request)) part.resets
    (message.Request (part.request_tag request) (part.pasid (part.request_binding request)) (part.request_page request))
sent_of mappings part (InvalidatedOf names) = gather part.orders (λ k. ended_of part (names k) k)
sent_of mappings part (PageRequestOf request) =
    one (owner_of part (part.asker (part.group_of request))) (part.group_of request) (message.PageRequest (asked_of part request))
sent_of mappings part (MarkerOf binding) = one (owner_of part binding) part.resets (message.Marker (part.pasid binding))
sent_of mappings part ResetDone = one 0 (time_of part) message.ResetDone

abbrev pub flying_of : Mappings → Endpoint → Option Subject → List Sent
flying_of mappings part None = []
flying_of mappings part (Some what) = sent_of mappings part what

-- ---- the unit

abbrev pub descriptor_of : (endpoint : ℕ) → Endpoint → Order → Descriptor
descriptor_of endpoint part (RangeOf binding range) = descriptor.Device endpoint (scope_of part (RangeOf binding range))
descriptor_of endpoint part (PasidOf binding) = descriptor.Device endpoint (scope_of part (PasidOf binding))
descriptor_of endpoint part (Wait cookie drain) = descriptor.Wait cookie drain true

abbrev pub arrived_of : (endpoint : ℕ) → Endpoint → (request : ℕ) → Arrived
arrived_of endpoint part request =
    record { endpoint = endpoint; request = asked_of part request; owner = owner_of part (part.asker (part.group_of request)); number = part.group_of request }

abbrev pub is_part_filed : HostGroupState → Bool
is_part_filed PartFiled = true
is_part_filed _ = false

abbrev pub filed_of : Endpoint → (group : ℕ) → Filed
filed_of part group =
    record {
      pasid = part.pasid (part.filed_under group);
      index = part.index group;
      number = group;
      is_whole = not (is_part_filed (part.host_group group));
      owner = owner_of part (part.asker group);
      space = Some (part.space (part.filed_under group));
    }

-- ---- the whole

-- nothing is turned off at an endpoint, and none is removed; nor does an invalidation run out of time, or a page request queue overflow;
-- each has a unit of its own
abbrev pub part_of : World → (endpoint : ℕ) → Endpoint → Part
part_of world endpoint part =
    record {
      endpoint = endpoint;
      rows = tabulate (suc Limits.pasids) (row_at world.bindings part);
      requests = tabulate Limits.request_tags (λ t. option_map (request_of part) (part.at_tag t));
      held = gather part.requests (λ r. if_there (held_of world.mappings part r));
      works = works_of world.mappings part;
      groups = tabulate Limits.groups (λ t. option_map (group_of part) (part.at_index t));
      is_enabled = not part.is_disabled;
      has_ats = true;
      has_requests = true;
      is_master = true;
      is_gone = false;
      lies = false;
      awaits = false;
      time = time_of part;
      flight = gather world.messages (λ c. flying_of world.mappings part (part.message c));
      is_open = is_open part.phase;
      queue = gather part.orders (λ k. where_so (is_queued (part.order_state k)) (descriptor_of endpoint part (part.order k)));
      issued = gather part.orders (λ k. where_so (is_busy (part.order_state k)) (issued.Sent endpoint (part.itag k)));
      aborted = [];
      is_stalled = false;
      has_overflowed = false;
      kept_entries = [];
      kept = [];
      received = [];
      arrived = gather part.arrivals (λ k. where_so (is_arrived (part.page_request (part.arrival k))) (arrived_of endpoint part (part.arrival k)));
      filed = gather part.groups (λ g. where_so (is_open_group (part.host_group g)) (filed_of part g));
    }

abbrev pub open_of : World → Open
open_of world =
    record {
      settings = record {
        link = link.Free;
        all_fence = true;
        drain_empties = true;
        refuses_drain = false;
        is_loose = false;
        has_caches = false;
        stopped = stopped.Marker;
        allows_no_group = false;
        has_workers = false;
        clears_controls = false;
        timeouts = timeouts.Off;
        places = None;
      };
      mappings = gather world.mappings.made (λ m. where_so (is_present (world.mappings.state m)) (mapping_of world.mappings m));
      frames = tabulate world.config.frames (tenure_of world);
      freed = select world.spaces (λ s. not (world.is_live s));
      domains = [];
      parts = tabulate world.config.endpoints (λ e. part_of world e (world.part e));
      units = [];
    }

-- What is called safe of whatever host is what this project's own always is.
abbrev pub ClosedIsSafe : Type 0
ClosedIsSafe = (rule : PasidRule) (config : Config) (steps : List Step) → Fits config → IsSafe (open_of (world_after rule config steps))
