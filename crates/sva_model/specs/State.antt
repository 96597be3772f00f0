-- The records of the host, its endpoints and the link. Each kind of record is a table by columns: a function from the
-- records' names for each thing that it carries. A name is given once and never again; a record that is over stays, and
-- its state says so. PASIDs, ITags, request tags, use slots and group indexes are labels, which a record bears for a
-- while: a column from labels names the record that bears one now.
use Rattle.std.specs.Prelude.{ℕ, Bool, false, Option, None}
use Rattle.sva_model.specs.Range.{Range}
use Rattle.sva_model.specs.Message.{Code, Message}
use Rattle.sva_model.specs.Message.Message.{ResetMessage}
use Rattle.sva_step.specs.declared.limits.Config.{Config}

-- A mapping is a page of a space that led to a frame. When it is taken out of its space, it is written down what each
-- endpoint then had to answer before the frame may be used again: nothing; the `count` invalidations of ranges that were
-- submitted then, which are the orders from `first` on, and the wait behind them; its binding's PASID invalidation and the
-- wait behind that, the unit being in reset then or not; or a reset-done. A reset-done answers in each case; `resets`
-- counts those before.
pub data Owed : Type 0 where
  Nothing : Owed
  Ranges : (first count resets : ℕ) → Owed
  Pasid : (invalidation wait resets : ℕ) (in_reset : Bool) → Owed
  NextReset : (resets : ℕ) → Owed

-- A mapping's page may be taken out once; what was then owed for it stays written down.
pub data MappingState : Type 0 where
  Unmade : MappingState
  Present : MappingState
  Gone : (owed : ℕ → Owed) → MappingState

-- all mappings, present and gone
pub record Mappings : Type 0 where
  pub made : ℕ
  pub space : ℕ → ℕ
  pub page : ℕ → ℕ
  pub frame : ℕ → ℕ
  pub write : ℕ → Bool
  pub state : ℕ → MappingState
  pub at : ℕ → ℕ → Option ℕ  -- of a space and a page: the mapping that is present there
  pub latest : ℕ → Option ℕ  -- of a frame: the last mapping to it

-- The stages of a binding at the host, until it is released (this project's own). A stopping one knows whether its Stop
-- Marker was noted (PCI Express Base 5.0, section 10.4.1); a draining one its wait; an invalidating one its PASID's
-- invalidation and the wait behind that.
pub data Stage : Type 0 where
  Unbound : Stage
  Live : Stage
  Stopping : (marked : Bool) → Stage
  Draining : (wait : ℕ) → Stage
  Invalidating : (invalidation wait : ℕ) → Stage
  Quiet : Stage
  Lost : Stage
  Released : Stage

-- a PASID at its endpoint (section 6.20): it hasn't started or was quit, it has started, it is told to stop
pub data PasidState : Type 0 where
  Off : PasidState
  On : PasidState
  Ending : PasidState

-- A translation request (section 10.2.2) is out; out and doomed, since an invalidation that covers it was taken; or over.
pub data RequestState : Type 0 where
  Out : RequestState
  Doomed : RequestState
  Over : RequestState

-- A use of a held translation (AT field 10b, section 10.2.1) runs; a reset has ended it, and its slot is taken yet; or it
-- has ended.
pub data UseState : Type 0 where
  Running : UseState
  Dead : UseState
  Ended : UseState

-- A page request (section 10.4.1) is on its way; in the unit's page request queue (Intel VT-d, "Page Request Queue"); filed by
-- the host in its group; or lost to a reset.
pub data PageRequestState : Type 0 where
  InFlight : PageRequestState
  Arrived : PageRequestState
  Filed : PageRequestState
  Dropped : PageRequestState

-- a group of page requests at its endpoint (section 10.4.1): its last request isn't sent yet; it is; it is, and the PASID was
-- quit; its response came
pub data GroupState : Type 0 where
  Collecting : GroupState
  Awaiting : GroupState
  Stale : GroupState
  Closed : GroupState

-- a group at the host: nothing of it is filed; some; it is a job; a worker holds it; it was answered; a reset has
-- dropped it; a reset has dropped it and a worker holds it yet
pub data HostGroupState : Type 0 where
  NotFiled : HostGroupState
  PartFiled : HostGroupState
  Job : HostGroupState
  InHand : (worker : ℕ) → HostGroupState
  Replied : HostGroupState
  Discarded : HostGroupState
  InHandDiscarded : (worker : ℕ) → HostGroupState

-- What is ordered of a unit by its invalidation queue: the invalidation of a range of pages or of all pages of a binding,
-- or a wait (Intel VT-d, "Queued Invalidation Interface": PASID-based IOTLB and device-TLB invalidation, the invalidation
-- wait descriptor, and "Page Request Drain").
pub data Order : Type 0 where
  RangeOf : (binding : ℕ) (range : Range) → Order
  PasidOf : (binding : ℕ) → Order
  Wait : (cookie : ℕ) (drain : Bool) → Order

-- The life of an order (sections 10.3.1 to 10.3.3; lapsed and void are this project's own). A taken invalidation notes the
-- running uses that it covers: they are among the first `uses` uses. An owed one waits for `left` more of its `count`
-- completions.
pub data OrderState : Type 0 where
  Queued : OrderState
  Sent : OrderState
  Taken : (uses : ℕ) → OrderState
  Lapsed : OrderState
  Completing : (count left : ℕ) → OrderState
  Done : OrderState
  Void : OrderState

-- Of what records a message speaks. A completion carries the mapping that it found, if any; an invalidate completion
-- names the orders for which `names` is true.
pub data Subject : Type 0 where
  StartOf : (binding : ℕ) → Subject
  StopOf : (binding : ℕ) → Subject
  FunctionReset : Subject
  CompletionOf : (request : ℕ) (found : Option ℕ) → Subject
  InvalidateOf : (order : ℕ) → Subject
  ResponseOf : (group : ℕ) (code : Code) → Subject
  RequestOf : (request : ℕ) → Subject
  InvalidatedOf : (names : ℕ → Bool) → Subject
  PageRequestOf : (request : ℕ) → Subject
  MarkerOf : (binding : ℕ) → Subject
  ResetDone : Subject

-- A unit is open; or in reset (a function level reset, section 6.6.2), where first the message Reset is in flight and then
-- ResetDone.
pub data Phase : Type 0 where
  Open : Phase
  ResetSent : (message : ℕ) → Phase
  Cleared : (message : ℕ) → Phase

-- an endpoint with its remapping unit
pub record Endpoint : Type 0 where
  pub phase : Phase
  pub resets : ℕ  -- how many reset-dones were delivered
  pub stage : ℕ → Stage  -- of a binding
  pub space : ℕ → ℕ
  pub pasid : ℕ → ℕ
  pub pasid_state : ℕ → PasidState
  pub at_pasid : ℕ → Option ℕ
  pub requests : ℕ
  pub request_binding : ℕ → ℕ
  pub request_page : ℕ → ℕ
  pub request_tag : ℕ → ℕ
  pub request : ℕ → RequestState
  pub request_message : ℕ → ℕ  -- the last message that speaks of a request: it, or its completion
  pub at_tag : ℕ → Option ℕ
  pub held : ℕ → Option ℕ  -- of a request: the mapping whose translation is cached since it was answered
  pub uses : ℕ
  pub use_binding : ℕ → ℕ
  pub use_mapping : ℕ → ℕ
  pub use_slot : ℕ → ℕ
  pub use_state : ℕ → UseState
  pub at_slot : ℕ → Option ℕ
  pub groups : ℕ
  pub asker : ℕ → ℕ  -- of a group: the binding under which it was asked
  pub index : ℕ → ℕ
  pub first_request : ℕ → ℕ  -- of a group: its first page request
  pub group : ℕ → GroupState
  pub at_index : ℕ → Option ℕ
  pub is_disabled : Bool  -- the page request interface, by a response code 1111b
  pub page_requests : ℕ
  pub group_of : ℕ → ℕ
  pub asked_page : ℕ → ℕ
  pub asks_read : ℕ → Bool
  pub asks_write : ℕ → Bool
  pub is_last : ℕ → Bool
  pub page_request : ℕ → PageRequestState
  pub page_request_message : ℕ → ℕ  -- the message of a page request
  pub arrivals : ℕ
  pub arrival : ℕ → ℕ  -- the page request that arrived as the k-th
  pub arrived_as : ℕ → ℕ  -- of a page request: as which it arrived
  pub filings : ℕ
  pub filing : ℕ → ℕ  -- the page request that was filed as the k-th
  pub filed_under : ℕ → ℕ  -- of a group: the binding under which the host filed it
  pub host_group : ℕ → HostGroupState
  pub responses : ℕ → ℕ  -- of a group: how many responses it has had
  pub response_message : ℕ → ℕ  -- the message of a group's last response
  pub orders : ℕ
  pub order : ℕ → Order
  pub order_state : ℕ → OrderState
  pub waits_end : ℕ  -- one more than the greatest cookie of a wait that was submitted; 0 where none was
  pub front : ℕ  -- one more than the greatest cookie of a wait that was taken, or void by a reset that has ended; 0 where none was
  pub invalidate_message : ℕ → ℕ  -- the message of an order that was sent
  pub itag : ℕ → ℕ
  pub at_itag : ℕ → Option ℕ
  pub message : ℕ → Option Subject  -- what a message in flight speaks of
  pub carried : ℕ → Message  -- a message as it was sent

-- a job: a group whose last page request was filed
pub record JobName : Type 0 where
  pub endpoint : ℕ
  pub group : ℕ

-- Which PASID a new binding is given (this project's own; PCI Express Base 5.0, section 6.20, leaves it to software): for
-- each endpoint apart, the lowest that no binding of the endpoint bears; or one for each space over all endpoints: the one
-- that the space bears, else the lowest that no space bears.
pub data PasidRule : Type 0 where
  PerEndpoint : PasidRule
  PerSpace : PasidRule

-- the host, its endpoints and their links
pub record World : Type 0 where
  pub rule : PasidRule
  pub config : Config
  pub spaces : ℕ
  pub is_live : ℕ → Bool
  pub mappings : Mappings
  pub bindings : ℕ
  pub endpoint_of : ℕ → ℕ  -- of a binding: its endpoint
  pub cookies : ℕ
  pub messages : ℕ
  pub link_of : ℕ → ℕ  -- of a message: its endpoint
  pub jobs : ℕ
  pub job : ℕ → JobName
  pub hand : ℕ → Option ℕ  -- of a worker: the job that it holds
  pub part : ℕ → Endpoint

-- an endpoint before its first step
abbrev pub blank : Endpoint
blank =
    record {
      phase = Phase.Open;
      resets = 0;
      stage = λ b. Stage.Unbound;
      space = λ b. 0;
      pasid = λ b. 0;
      pasid_state = λ b. PasidState.Off;
      at_pasid = λ t. None;
      requests = 0;
      request_binding = λ r. 0;
      request_page = λ r. 0;
      request_tag = λ r. 0;
      request = λ r. RequestState.Over;
      request_message = λ r. 0;
      at_tag = λ t. None;
      held = λ r. None;
      uses = 0;
      use_binding = λ u. 0;
      use_mapping = λ u. 0;
      use_slot = λ u. 0;
      use_state = λ u. UseState.Ended;
      at_slot = λ t. None;
      groups = 0;
      asker = λ g. 0;
      index = λ g. 0;
      first_request = λ g. 0;
      group = λ g. GroupState.Closed;
      at_index = λ t. None;
      is_disabled = false;
      page_requests = 0;
      group_of = λ r. 0;
      asked_page = λ r. 0;
      asks_read = λ r. false;
      asks_write = λ r. false;
      is_last = λ r. false;
      page_request = λ r. PageRequestState.Dropped;
      page_request_message = λ r. 0;
      arrivals = 0;
      arrival = λ k. 0;
      arrived_as = λ r. 0;
      filings = 0;
      filing = λ k. 0;
      filed_under = λ g. 0;
      host_group = λ g. HostGroupState.NotFiled;
      responses = λ g. 0;
      response_message = λ g. 0;
      orders = 0;
      order = λ k. Order.Wait 0 false;
      order_state = λ k. OrderState.Void;
      waits_end = 0;
      front = 0;
      invalidate_message = λ k. 0;
      itag = λ k. 0;
      at_itag = λ t. None;
      message = λ c. None;
      carried = λ c. ResetMessage;
    }

-- the world before the first step
abbrev pub opened : PasidRule → Config → World
opened rule config =
    record {
      rule = rule;
      config = config;
      spaces = 0;
      is_live = λ s. false;
      mappings = record {
        made = 0;
        space = λ m. 0;
        page = λ m. 0;
        frame = λ m. 0;
        write = λ m. false;
        state = λ m. MappingState.Unmade;
        at =
            λ s q. None;
        latest = λ f. None;
      };
      bindings = 0;
      endpoint_of = λ b. 0;
      cookies = 0;
      messages = 0;
      link_of = λ c. 0;
      jobs = 0;
      job = λ j. record { endpoint = 0; group = 0 };
      hand = λ w. None;
      part = λ e. blank;
    }
