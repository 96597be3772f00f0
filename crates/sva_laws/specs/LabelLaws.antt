-- What a label finds, what a message in flight carries, and what the columns find by which mappings are looked up.
use Rattle.sva_model.specs.State.{PasidRule}
use Rattle.std.specs.Prelude.{◌≡◌, ◌≢◌, ◌⊎◌, ◌↔◌, ℕ, zero, suc, ◌<◌, ◌≤◌, Bool, true, false, Option, Some, None, List}
use Rattle.sva_step.specs.declared.limits.Config.{Config}
use Rattle.sva_step.specs.declared.steps.Step.{Step}
use Rattle.sva_step.specs.Limits
use Rattle.sva_model.specs.Message.{Code}
use Rattle.sva_model.specs.Message.Message.{StartMessage, StopMessage, ResetMessage, CompletionMessage, InvalidateMessage, ResponseMessage}
use Rattle.sva_model.specs.Message.Message.{RequestMessage}
use Rattle.sva_model.specs.Message.Message.{InvalidatedMessage, PageRequestMessage, MarkerMessage, ResetDoneMessage}
use Rattle.sva_model.specs.State.{Mappings, Endpoint}
use Rattle.sva_model.specs.State.Subject.{StartOf, StopOf, FunctionReset, CompletionOf, InvalidateOf, ResponseOf, RequestOf, InvalidatedOf}
use Rattle.sva_model.specs.State.Subject.{PageRequestOf}
use Rattle.sva_model.specs.State.Subject.{MarkerOf, ResetDone}
use Rattle.sva_model.specs.State.MappingState.{Present}
use Rattle.sva_model.specs.State.Phase.{Open, Cleared}
use Rattle.sva_model.specs.State.OrderState.{Sent, Completing}
use Rattle.sva_model.specs.State.PasidState.{Off}
use Rattle.sva_model.specs.State.GroupState.{Collecting, Awaiting}
use Rattle.sva_model.specs.State.UseState.{Running, Ended}
use Rattle.sva_model.specs.State.PageRequestState.{InFlight, Arrived}
use Rattle.sva_model.specs.States.{is_unreleased, is_out, is_busy, is_outstanding, is_open_group}
use Rattle.sva_model.specs.StateChanges.{binding_of, extent_of, scope_of}
use Rattle.sva_model.specs.Labels.{is_set}
use Rattle.sva_model.specs.Steps.{world_after}
use Rattle.sva_model.specs.Claims.{Fits, IsBearer}

-- Labels. What a label finds is the one record that bears it, and each record that bears a label is found by it.
pub record IsLabelled (part : Endpoint) : Type 0 where
  pub pasid : (label binding : ℕ) → (part.at_pasid label ≡ Some binding) ↔ ((is_unreleased (part.stage binding) ≡ true) × (part.pasid binding ≡ label))
  pub tag : (label request : ℕ) → (part.at_tag label ≡ Some request) ↔ ((is_out (part.request request) ≡ true) × (part.request_tag request ≡ label))
  pub slot : (label used : ℕ) → (part.at_slot label ≡ Some used) ↔ ((part.use_state used ≢ Ended) × (part.use_slot used ≡ label))
  pub itag : (label order : ℕ) → (part.at_itag label ≡ Some order) ↔ ((is_busy (part.order_state order) ≡ true) × (part.itag order ≡ label))
  pub index : (label group : ℕ) → (part.at_index label ≡ Some group) ↔ ((is_outstanding (part.group group) ≡ true) × (part.index group ≡ label))
  -- the limits: PASIDs 1 to 32; 32 request tags, ITags and page request group indexes; 16 uses
  pub pasid_low : (binding : ℕ) → is_unreleased (part.stage binding) ≡ true → (0 < part.pasid binding) × (part.pasid binding ≤ Limits.pasids)
  pub tag_low : (request : ℕ) → is_out (part.request request) ≡ true → part.request_tag request < Limits.request_tags
  pub slot_low : (used : ℕ) → part.use_state used ≢ Ended → part.use_slot used < Limits.use_slots
  pub itag_low : (order : ℕ) → is_busy (part.order_state order) ≡ true → part.itag order < Limits.itags
  pub index_low : (group : ℕ) → is_outstanding (part.group group) ≡ true → part.index group < Limits.groups
  -- a space has one unreleased binding at an endpoint
  pub one_space :
      (binding other : ℕ)
      → is_unreleased (part.stage binding) ≡ true
      → is_unreleased (part.stage other) ≡ true
      → part.space binding ≡ part.space other
      → binding ≡ other

-- What a message or a step names by a label is the record that it was sent for.
pub record IsFound (part : Endpoint) : Type 0 where
  pub start : (message binding : ℕ) → part.message message ≡ Some (StartOf binding) → IsBearer part binding
  pub stop : (message binding : ℕ) → part.message message ≡ Some (StopOf binding) → IsBearer part binding
  pub request :
      (message request : ℕ)
      → part.phase ≡ Open
      → part.message message ≡ Some (RequestOf request)
      → (IsBearer part (part.request_binding request)) × (part.at_tag (part.request_tag request) ≡ Some request)
  -- a completion finds its request by the tag while the endpoint hasn't reset itself; from then until the reset-done none is out
  pub completion :
      (message request : ℕ) (found : Option ℕ)
      → ((other : ℕ) → part.phase ≢ Cleared other)
      → part.message message ≡ Some (CompletionOf request found)
      → part.at_tag (part.request_tag request) ≡ Some request
  pub none_out : (message request : ℕ) → part.phase ≡ Cleared message → is_out (part.request request) ≡ false
  -- in every phase a translation request that is out, and a group of page requests that isn't whole or awaits its response,
  -- is of the binding that bears the PASID, which the endpoint has started
  pub out :
      (request : ℕ)
      → is_out (part.request request) ≡ true
      → (IsBearer part (part.request_binding request)) × (part.pasid_state (part.request_binding request) ≢ Off)
  -- a binding whose PASID the endpoint has started bears it
  pub started : (binding : ℕ) → part.pasid_state binding ≢ Off → IsBearer part binding
  pub asker :
      (group : ℕ)
      → (part.group group ≡ Collecting) ⊎ (part.group group ≡ Awaiting)
      → (IsBearer part (part.asker group)) × (part.pasid_state (part.asker group) ≢ Off)
  pub invalidate :
      (message order : ℕ)
      → part.message message ≡ Some (InvalidateOf order)
      → (part.order_state order ≡ Sent) × (part.at_itag (part.itag order) ≡ Some order) × (IsBearer part (binding_of (part.order order)))
  pub cached : (request mapping : ℕ) → part.held request ≡ Some mapping → IsBearer part (part.request_binding request)
  -- of one binding and page one translation is cached: a new one replaces the older
  pub one_held :
      (request other mapping other_mapping : ℕ)
      → part.held request ≡ Some mapping
      → part.held other ≡ Some other_mapping
      → part.request_binding request ≡ part.request_binding other
      → part.request_page request ≡ part.request_page other
      → request ≡ other
  pub in_use : (used : ℕ) → part.use_state used ≡ Running → IsBearer part (part.use_binding used)
  -- at an open unit a page request in flight or arrived, and a group that the host has open, finds the group at the endpoint
  -- by its index; so no two groups that the host has open have the same index
  pub page_request :
      (request : ℕ)
      → part.phase ≡ Open
      → (part.page_request request ≡ InFlight) ⊎ (part.page_request request ≡ Arrived)
      → part.at_index (part.index (part.group_of request)) ≡ Some (part.group_of request)
  pub open_group : (group : ℕ) → part.phase ≡ Open → is_open_group (part.host_group group) ≡ true → part.at_index (part.index group) ≡ Some group
  pub one_group :
      (group other : ℕ)
      → part.phase ≡ Open
      → is_open_group (part.host_group group) ≡ true
      → is_open_group (part.host_group other) ≡ true
      → part.index group ≡ part.index other
      → group ≡ other
  -- each is in flight once
  pub request_once :
      (message other request : ℕ)
      → part.message message ≡ Some (RequestOf request)
      → part.message other ≡ Some (RequestOf request)
      → message ≡ other
  pub completion_once :
      (message other request : ℕ) (found other_found : Option ℕ)
      → part.message message ≡ Some (CompletionOf request found)
      → part.message other ≡ Some (CompletionOf request other_found)
      → message ≡ other
  pub there_or_back :
      (message other request : ℕ) (found : Option ℕ)
      → part.message message ≡ Some (RequestOf request)
      → part.message other ≢ Some (CompletionOf request found)
  pub invalidate_once :
      (message other order : ℕ)
      → part.message message ≡ Some (InvalidateOf order)
      → part.message other ≡ Some (InvalidateOf order)
      → message ≡ other

-- The bits of an ITag Vector are those of the ITags that the named orders bear, and no other (PCI Express Base 5.0, section
-- 10.3.2).
pub record IsVectorOf (part : Endpoint) (names : ℕ → Bool) (vector : ℕ) : Type 0 where
  pub named : (order : ℕ) → names order ≡ true → is_set vector (part.itag order) ≡ true
  pub set : (tag : ℕ) → tag < Limits.itags → is_set vector tag ≡ true → (order : ℕ) × (names order ≡ true) × (part.itag order ≡ tag)

-- the Completion Count as it is read: a field of three bits, in which 0 stands for 8 (section 10.3.2)
abbrev pub count_read : (field : ℕ) → ℕ
count_read zero = Limits.most_completions
count_read (suc below) = suc below

-- What a message in flight carries: the labels and fields of the records that it was sent for, as these records have them
-- still. So what its receiver finds by them is what `IsLabelled` and `IsFound` say.
pub record IsCarried (mappings : Mappings) (part : Endpoint) : Type 0 where
  pub start : (message binding : ℕ) → part.message message ≡ Some (StartOf binding) → part.carried message ≡ StartMessage (part.pasid binding)
  pub stop : (message binding : ℕ) → part.message message ≡ Some (StopOf binding) → part.carried message ≡ StopMessage (part.pasid binding)
  pub reset : (message : ℕ) → part.message message ≡ Some FunctionReset → part.carried message ≡ ResetMessage
  -- a Completion: the tag of its request; the frame of the mapping that it found, which may be read, and written if the
  -- mapping may; or no translation, which has neither flag
  pub completion : (message request mapping : ℕ) → part.message message ≡ Some (CompletionOf request (Some mapping)) → part.carried message
      ≡ CompletionMessage (part.request_tag request) (mappings.frame mapping) true (mappings.write mapping)
  pub no_translation :
      (message request : ℕ)
      → part.message message ≡ Some (CompletionOf request None)
      → part.carried message ≡ CompletionMessage (part.request_tag request) 0 false false
  -- an Invalidate: the ITag of its order, the PASID of the order's binding, and its range by its code, or all pages
  pub invalidate : (message order : ℕ) → part.message message ≡ Some (InvalidateOf order) → part.carried message
      ≡ InvalidateMessage (part.itag order) (part.pasid (binding_of (part.order order))) (scope_of (extent_of (part.order order)))
  -- a Response: the PASID under which the host filed its group, the group's index, and the code
  pub response :
      (message group : ℕ) (code : Code)
      → part.message message ≡ Some (ResponseOf group code)
      → part.carried message ≡ ResponseMessage (part.pasid (part.filed_under group)) (part.index group) code
  pub request : (message request : ℕ) → part.message message ≡ Some (RequestOf request) → part.carried message
      ≡ RequestMessage (part.request_tag request) (part.pasid (part.request_binding request)) (part.request_page request)
  -- an Invalidate Completion: the ITags of the orders that it names, and the count by which each of them is owed, as it is
  -- read
  pub invalidated :
      (message : ℕ) (names : ℕ → Bool)
      → part.message message ≡ Some (InvalidatedOf names)
      → (vector field : ℕ)
      × (part.carried message ≡ InvalidatedMessage vector field) × (field < Limits.most_completions) × IsVectorOf part names vector
      × ((order : ℕ) → names order ≡ true → (left : ℕ) × (part.order_state order ≡ Completing (count_read field) left))
  -- a page request: the PASID of its group's asker, the group's index, and what it asks
  pub page_request :
      (message request : ℕ)
      → part.message message ≡ Some (PageRequestOf request)
      → part.carried message
      ≡ PageRequestMessage (part.pasid (part.asker (part.group_of request))) (part.index (part.group_of request))
      (part.asked_page request) (part.asks_read request) (part.asks_write request) (part.is_last request)
  pub marker : (message binding : ℕ) → part.message message ≡ Some (MarkerOf binding) → part.carried message ≡ MarkerMessage (part.pasid binding)
  pub reset_done : (message : ℕ) → part.message message ≡ Some ResetDone → part.carried message ≡ ResetDoneMessage

-- after every list of steps each label finds the one record that bears it, at its own endpoint and unit, and is within its limit
abbrev pub AlwaysLabelled : Type 0
AlwaysLabelled =
    (rule : PasidRule) (config : Config) (steps : List Step) (endpoint : ℕ)
    → Fits config
    → IsLabelled ((world_after rule config steps).part endpoint)

-- after every list of steps each label that a receiver reads still means the record for which its message was sent
abbrev pub AlwaysFound : Type 0
AlwaysFound = (rule : PasidRule) (config : Config) (steps : List Step) (endpoint : ℕ) → Fits config → IsFound ((world_after rule config steps).part endpoint)

-- after every list of steps each message in flight carries what its records bear just then
abbrev pub AlwaysCarried : Type 0
AlwaysCarried = (rule : PasidRule) (config : Config) (steps : List Step) (endpoint : ℕ) → Fits config
    → IsCarried (world_after rule config steps).mappings ((world_after rule config steps).part endpoint)

-- The look-up columns of the mappings: at a space and a page is found exactly the mapping that is present there; and of a frame
-- exactly the last mapping that led to it.
pub record FindsMappings (mappings : Mappings) : Type 0 where
  pub at :
      (space page mapping : ℕ)
      → (mappings.at space page ≡ Some mapping) ↔ ((mappings.state mapping ≡ Present) × (mappings.space mapping ≡ space) × (mappings.page mapping ≡ page))
  pub latest :
      (frame mapping : ℕ)
      → (mappings.latest frame ≡ Some mapping)
      ↔ ((mapping < mappings.made) × (mappings.frame mapping ≡ frame) × ((other : ℕ) → other < mappings.made → mappings.frame other ≡ frame → other ≤ mapping))

-- after every list of steps a space and a page, and a frame, find the mapping that they should
abbrev pub AlwaysFindsMappings : Type 0
AlwaysFindsMappings = (rule : PasidRule) (config : Config) (steps : List Step) → Fits config → FindsMappings (world_after rule config steps).mappings
