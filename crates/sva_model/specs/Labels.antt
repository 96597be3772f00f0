-- What the numbers and labels of a step mean now.
use Rattle.std.specs.Prelude.{ℕ, suc, ◌+◌, ◌-◌, Bool, false, ◌&&◌, not, ◌==◌, nat_lt, nat_le, Option, Some, None, option_map, List, map}
use Rattle.std.specs.Int.{bit_at}
use Rattle.sva_step.specs.Limits
use Rattle.sva_model.specs.Words.{lowest, any_below, count_below, find, select, is_some, holds_of, the}
use Rattle.sva_model.specs.LinkOrder.{MessageKind, stays_behind}
use Rattle.sva_model.specs.LinkOrder.MessageKind.{StartKind, StopKind, ResetKind, CompletionKind, InvalidateKind, ResponseKind, RequestKind, InvalidatedKind}
use Rattle.sva_model.specs.LinkOrder.MessageKind.{PageRequestKind, MarkerKind, ResetDoneKind}
use Rattle.sva_model.specs.State.{PasidRule, Mappings, Subject, Endpoint, World}
use Rattle.sva_model.specs.State.PasidRule.{PerEndpoint, PerSpace}
use Rattle.sva_model.specs.State.Subject.{StartOf, StopOf, FunctionReset, CompletionOf, InvalidateOf, ResponseOf, RequestOf, InvalidatedOf, PageRequestOf}
use Rattle.sva_model.specs.State.Subject.{MarkerOf, ResetDone}
use Rattle.sva_model.specs.States.{is_unreleased, is_on, is_ending, is_arrived, is_collecting, is_outstanding, is_out, is_queued, is_taken, is_busy}
use Rattle.sva_model.specs.States.{uses_noted, is_running, covers, is_open_group, is_job, is_present, is_free}

-- Numbers. Spaces, bindings, messages and cookies are numbered from `first` on, each below 2^63.

-- the number of a name
abbrev pub number : World → ℕ → ℕ
number world name = world.config.first + name

-- the name of a number
abbrev pub name : World → ℕ → ℕ
name world number = number - world.config.first

-- is it the number of one of the first `count`?
abbrev pub is_number : World → ℕ → ℕ → Bool
is_number world count number = nat_le world.config.first number && nat_lt (name world number) count

-- are fewer numbers left than are needed, `count` being given?
abbrev pub lacks : World → (count needed : ℕ) → Bool
lacks world count needed = nat_lt Limits.label_numbers (world.config.first + count + needed)

-- Spaces.

-- is it the number of a live space?
abbrev pub is_space : World → ℕ → Bool
is_space world number = is_number world world.spaces number && world.is_live (name world number)

-- how many spaces are live
abbrev pub live_spaces : World → ℕ
live_spaces world = count_below world.spaces world.is_live

-- how many pages of a space are mapped
abbrev pub pages_of : World → (space : ℕ) → ℕ
pages_of world space = count_below world.mappings.made (λ m. is_present (world.mappings.state m) && world.mappings.space m == space)

-- is the page mapped in the space?
abbrev pub is_mapped : World → (space page : ℕ) → Bool
is_mapped world space page = is_some (world.mappings.at space page)

-- how many frames are free
abbrev pub free_frames : World → ℕ
free_frames world = count_below world.config.frames (is_free world)

-- the lowest free frame; the count of frames where none is
abbrev pub lowest_frame : World → ℕ
lowest_frame world = lowest world.config.frames (is_free world)

-- Bindings.

-- is it the number of an unreleased binding?
abbrev pub is_binding : World → ℕ → Bool
is_binding world number =
    is_number world world.bindings number && is_unreleased ((world.part (world.endpoint_of (name world number))).stage (name world number))

-- has the space an unreleased binding at this endpoint?
abbrev pub is_bound_at : World → (space endpoint : ℕ) → Bool
is_bound_at world space endpoint = any_below world.bindings (λ b. is_unreleased ((world.part endpoint).stage b) && (world.part endpoint).space b == space)

-- has the space an unreleased binding at any endpoint?
abbrev pub is_bound : World → (space : ℕ) → Bool
is_bound world space = any_below world.config.endpoints (is_bound_at world space)

-- PASIDs: 1 to 32 of the 20 bits that one has (PCI Express Base 5.0, section 6.20).

-- the lowest PASID that passes, if one does
abbrev pub lowest_pasid : (ℕ → Bool) → Option ℕ
lowest_pasid passes = option_map suc (find Limits.pasids (λ t. passes (suc t)))

-- does a binding of the endpoint bear it? and one of any endpoint? and one of the space, at any endpoint?
abbrev pub is_borne_at : Endpoint → (pasid : ℕ) → Bool
is_borne_at part pasid = is_some (part.at_pasid pasid)

-- does a binding of any endpoint bear it?
abbrev pub is_borne : World → (pasid : ℕ) → Bool
is_borne world pasid = any_below world.config.endpoints (λ e. is_borne_at (world.part e) pasid)

-- does a binding of the space bear it, at any endpoint?
abbrev pub is_borne_by : World → (space pasid : ℕ) → Bool
is_borne_by world space pasid = any_below world.config.endpoints (λ e. holds_of (λ b. (world.part e).space b == space) ((world.part e).at_pasid pasid))

-- the first where it is there, else the second
abbrev pub or_else : Option ℕ → Option ℕ → Option ℕ
or_else None second = second
or_else (Some first) second = Some first

-- the PASID that a binding of the space at the endpoint is given; none where the rule has none to give
abbrev pub pasid_by : PasidRule → World → (endpoint space : ℕ) → Option ℕ
pasid_by PerEndpoint world endpoint space = lowest_pasid (λ t. not (is_borne_at (world.part endpoint) t))
pasid_by PerSpace world endpoint space = or_else (lowest_pasid (is_borne_by world space)) (lowest_pasid (λ t. not (is_borne world t)))

-- the PASID that a binding of the space at the endpoint is given, by the rule of the world
abbrev pub pasid_for : World → (endpoint space : ℕ) → Option ℕ
pasid_for world endpoint space = pasid_by world.rule world endpoint space

-- how many bindings bear a PASID, and the space of the one at the lowest endpoint
abbrev pub bindings_under : World → (pasid : ℕ) → ℕ
bindings_under world pasid = count_below world.config.endpoints (λ e. is_borne_at (world.part e) pasid)

-- the space of the binding that bears it at the lowest endpoint
abbrev pub space_under : World → (pasid : ℕ) → ℕ
space_under world pasid =
    let part = world.part (lowest world.config.endpoints (λ endpoint. is_borne_at (world.part endpoint) pasid)) in
    part.space (the (part.at_pasid pasid))

-- A PASID at an endpoint: the binding that bears it, and its state there.

-- the binding that bears the PASID at the endpoint
abbrev pub bearer : Endpoint → (pasid : ℕ) → ℕ
bearer part pasid = the (part.at_pasid pasid)

-- has the PASID started at the endpoint?
abbrev pub is_started : Endpoint → (pasid : ℕ) → Bool
is_started part pasid = holds_of (λ b. is_on (part.pasid_state b)) (part.at_pasid pasid)

-- is the PASID told to stop at the endpoint, and not quit yet?
abbrev pub is_told_to_stop : Endpoint → (pasid : ℕ) → Bool
is_told_to_stop part pasid = holds_of (λ b. is_ending (part.pasid_state b)) (part.at_pasid pasid)

-- What the endpoint keeps under a binding.

-- did the answer to this request leave the page's translation in the cache?
abbrev pub is_held_at : Endpoint → (binding page request : ℕ) → Bool
is_held_at part binding page request = is_some (part.held request) && part.request_binding request == binding && part.request_page request == page

-- the request whose answer is cached for the page
abbrev pub cached : Endpoint → (binding page : ℕ) → ℕ
cached part binding page = lowest part.requests (is_held_at part binding page)

-- is a translation of the page cached under the PASID?
abbrev pub is_cached : Endpoint → (pasid page : ℕ) → Bool
is_cached part pasid page = holds_of (λ b. any_below part.requests (is_held_at part b page)) (part.at_pasid pasid)

-- has the binding a translation request out?
abbrev pub is_request_out_of : Endpoint → (binding : ℕ) → Bool
is_request_out_of part binding = any_below part.requests (λ r. is_out (part.request r) && part.request_binding r == binding)

-- has the binding a running use?
abbrev pub is_use_of : Endpoint → (binding : ℕ) → Bool
is_use_of part binding = any_below part.uses (λ u. is_running (part.use_state u) && part.use_binding u == binding)

-- has the binding a group whose last page request is still to come?
abbrev pub has_unfinished_group : Endpoint → (binding : ℕ) → Bool
has_unfinished_group part binding = any_below part.groups (λ g. is_collecting (part.group g) && part.asker g == binding)

-- Lowest free labels.

-- the lowest of `count` labels that no record bears; `count` where each is borne
abbrev pub lowest_label : ℕ → (ℕ → Option ℕ) → ℕ
lowest_label count at = lowest count (λ t. not (is_some (at t)))

-- Page requests.

-- the page requests that wait for their group's response
abbrev pub outstanding : Endpoint → ℕ
outstanding part = count_below part.page_requests (λ r. is_outstanding (part.group (part.group_of r)))

-- does the index name a group of the PASID whose last page request is still to come?
abbrev pub is_group_of : Endpoint → (pasid index : ℕ) → Bool
is_group_of part pasid index =
    holds_of (λ g. is_collecting (part.group g) && is_some (part.at_pasid pasid) && part.asker g == bearer part pasid) (part.at_index index)

-- the page request queue holds the page requests that arrived and aren't filed, in order of arrival
abbrev pub is_waiting : Endpoint → (arrival : ℕ) → Bool
is_waiting part arrival = is_arrived (part.page_request (part.arrival arrival))

-- does none wait?
abbrev pub is_page_queue_empty : Endpoint → Bool
is_page_queue_empty part = not (any_below part.arrivals (is_waiting part))

-- the oldest page request that waits
abbrev pub oldest_arrived : Endpoint → ℕ
oldest_arrived part = part.arrival (lowest part.arrivals (is_waiting part))

-- has the binding a group that the host has filed in part or whole, and not answered?
abbrev pub has_open_group : Endpoint → (binding : ℕ) → Bool
has_open_group part binding = any_below part.groups (λ g. is_open_group (part.host_group g) && part.filed_under g == binding)

-- the page requests of a group that are filed, in order of filing
abbrev pub asks : Endpoint → (group : ℕ) → List ℕ
asks part group = map part.filing (select part.filings (λ k. part.group_of (part.filing k) == group))

-- the job queue holds the groups with a job, in order of the filing of their last request
abbrev pub is_queued_job : World → (job : ℕ) → Bool
is_queued_job world job = is_job ((world.part (world.job job).endpoint).host_group (world.job job).group)

-- The invalidation queue holds the orders of the unit that are queued, in order of submission.

-- how many orders are queued
abbrev pub queue_length : Endpoint → ℕ
queue_length part = count_below part.orders (λ k. is_queued (part.order_state k))

-- is none queued?
abbrev pub is_queue_empty : Endpoint → Bool
is_queue_empty part = not (any_below part.orders (λ k. is_queued (part.order_state k)))

-- the oldest queued order
abbrev pub head : Endpoint → ℕ
head part = lowest part.orders (λ k. is_queued (part.order_state k))

-- does an order bear an ITag?
abbrev pub is_some_busy : Endpoint → Bool
is_some_busy part = any_below part.orders (λ k. is_busy (part.order_state k))

-- Invalidations in the endpoint's hands, by the bits of an ITag Vector (PCI Express Base 5.0, section 10.3.2).

-- does the vector name the tag?
abbrev pub is_set : (vector itag : ℕ) → Bool
is_set vector itag = bit_at vector itag == 1

-- does the vector name no tag?
abbrev pub names_none : (vector : ℕ) → Bool
names_none vector = not (any_below Limits.itags (is_set vector))

-- has the endpoint taken an invalidation of this tag, and not answered it?
abbrev pub is_pending : Endpoint → (itag : ℕ) → Bool
is_pending part itag = holds_of (λ k. is_taken (part.order_state k)) (part.at_itag itag)

-- does the vector name the tag of this invalidation, which the endpoint has taken?
abbrev pub is_named : Endpoint → (vector order : ℕ) → Bool
is_named part vector order = is_taken (part.order_state order) && is_set vector (part.itag order)

-- does a running use go on that the invalidation noted?
abbrev pub is_noted_running : Mappings → Endpoint → (order used : ℕ) → Bool
is_noted_running mappings part order used =
    is_running (part.use_state used) && covers (part.order order) (part.use_binding used) (mappings.page (part.use_mapping used))

-- does a use go on that the invalidation noted when it was taken?
abbrev pub is_in_use : World → Endpoint → (order : ℕ) → Bool
is_in_use world part order = any_below (uses_noted (part.order_state order)) (is_noted_running world.mappings part order)

-- The link.

-- the kind of the message that speaks of this
abbrev pub kind_of : Endpoint → Subject → MessageKind
kind_of part (StartOf binding) = StartKind
kind_of part (StopOf binding) = StopKind
kind_of part FunctionReset = ResetKind
kind_of part (CompletionOf request found) = CompletionKind
kind_of part (InvalidateOf order) = InvalidateKind
kind_of part (ResponseOf group code) = ResponseKind
kind_of part (RequestOf request) = RequestKind
kind_of part (InvalidatedOf names) = InvalidatedKind
kind_of part (PageRequestOf request) = PageRequestKind (part.is_last request)
kind_of part (MarkerOf binding) = MarkerKind
kind_of part ResetDone = ResetDoneKind

-- must a message of sort `newer` stay behind what is in flight, if anything is?
abbrev pub holds_back : Endpoint → MessageKind → Option Subject → Bool
holds_back part newer None = false
holds_back part newer (Some older) = stays_behind newer (kind_of part older)

-- may the message be delivered now, as far as the older ones in flight go?
abbrev pub is_permitted : Endpoint → (message : ℕ) → Subject → Bool
is_permitted part message subject = not (any_below message (λ d. holds_back part (kind_of part subject) (part.message d)))

-- and if it is in flight at all?
abbrev pub is_permitted_now : Endpoint → (message : ℕ) → Option Subject → Bool
is_permitted_now part message None = false
is_permitted_now part message (Some subject) = is_permitted part message subject

-- is it the number of a message in flight?
abbrev pub is_in_flight : World → ℕ → Bool
is_in_flight world number = is_number world world.messages number && is_some ((world.part (world.link_of (name world number))).message (name world number))
