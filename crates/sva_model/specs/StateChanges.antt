-- What becomes of a single record: of an order, a request, a use, a group, a stage.
use Rattle.std.specs.Prelude.{ℕ, zero, suc, Bool, true, false, ◌&&◌, ◌==◌, if◌then◌else◌, Option, None}
use Rattle.sva_model.specs.Range.{encode}
use Rattle.sva_model.specs.Message.{Code, Scope}
use Rattle.sva_model.specs.Message.Scope.{Coded, Everything}
use Rattle.sva_model.specs.Message.Code.{FailureCode}
use Rattle.sva_model.specs.State.{Stage, RequestState, UseState, PageRequestState, GroupState, HostGroupState, Order}
use Rattle.sva_model.specs.State.{OrderState, Endpoint}
use Rattle.sva_model.specs.State.Stage.{Live, Stopping, Draining, Invalidating, Quiet, Lost}
use Rattle.sva_model.specs.State.RequestState.{Out, Doomed}
use Rattle.sva_model.specs.State.UseState.{Running, Dead}
use Rattle.sva_model.specs.State.PageRequestState.{Arrived, Dropped}
use Rattle.sva_model.specs.State.GroupState.{Collecting, Awaiting, Stale}
use Rattle.sva_model.specs.State.HostGroupState.{PartFiled, Job, InHand, Discarded, InHandDiscarded}
use Rattle.sva_model.specs.State.Order.{RangeOf, PasidOf, Wait}
use Rattle.sva_model.specs.State.OrderState.{Queued, Taken, Lapsed, Completing, Done, Void}
use Rattle.sva_model.specs.States.{Extent}
use Rattle.sva_model.specs.States.Extent.{Pages, AllPages}

-- a queued order is void: a reset begins
abbrev pub void_queued : OrderState → OrderState
void_queued Queued = Void
void_queued state = state

-- an order that isn't done is void: a reset ends
abbrev pub void_undone : OrderState → OrderState
void_undone Done = Done
void_undone state = Void

-- an invalidation that the endpoint has taken lapses: the endpoint resets itself
abbrev pub lapse : OrderState → OrderState
lapse (Taken uses) = Lapsed
lapse state = state

-- the endpoint owes so many completions for it, and none has come
abbrev pub completing_if : Bool → ℕ → OrderState → OrderState
completing_if true count state = Completing count count
completing_if false count state = state

-- a completion more has come
abbrev pub counted : OrderState → OrderState
counted (Completing count (suc zero)) = Done
counted (Completing count (suc (suc left))) = Completing count (suc left)
counted state = state

-- where the completion names the order
abbrev pub counted_if : Bool → OrderState → OrderState
counted_if true state = counted state
counted_if false state = state

-- would one completion more complete it?
abbrev pub is_last_left : OrderState → Bool
is_last_left (Completing count (suc zero)) = true
is_last_left state = false

-- a request that is out is doomed
abbrev pub doom_if : Bool → RequestState → RequestState
doom_if true Out = Doomed
doom_if _ state = state

-- what is cached goes
abbrev pub none_if : Bool → Option ℕ → Option ℕ
none_if true held = None
none_if false held = held

-- a running use is dead: the endpoint resets itself
abbrev pub killed : UseState → UseState
killed Running = Dead
killed state = state

-- a page request that waits is lost: a reset begins
abbrev pub dropped_arrived : PageRequestState → PageRequestState
dropped_arrived Arrived = Dropped
dropped_arrived state = state

-- a group that the host has open is dropped: a reset begins
abbrev pub discarded : HostGroupState → HostGroupState
discarded PartFiled = Discarded
discarded Job = Discarded
discarded (InHand worker) = InHandDiscarded worker
discarded state = state

-- a group that awaits its response is stale: its PASID is quit
abbrev pub stale_if : Bool → GroupState → GroupState
stale_if true Awaiting = Stale
stale_if _ state = state

-- a group is a job once its last page request is filed
abbrev pub filed_as : Bool → HostGroupState
filed_as true = Job
filed_as false = PartFiled

-- a group awaits its response once its last page request is sent
abbrev pub sent_as : Bool → GroupState
sent_as true = Awaiting
sent_as false = Collecting

-- the marker of a stopping binding is noted
abbrev pub marked : Stage → Stage
marked (Stopping noted) = Stopping true
marked stage = stage

-- a reset-done cuts a binding off
abbrev pub cut_off : Stage → Stage
cut_off Live = Lost
cut_off (Stopping marked) = Quiet
cut_off (Draining wait) = Quiet
cut_off (Invalidating invalidation wait) = Quiet
cut_off stage = stage

-- does the response code disable the page request interface (section 10.4.2)?
abbrev pub disables : Code → Bool
disables FailureCode = true
disables _ = false

-- which pages an invalidation is of
abbrev pub extent_of : Order → Extent
extent_of (RangeOf binding range) = Pages range
extent_of _ = AllPages

-- what its Invalidate Request names
abbrev pub scope_of : Extent → Scope
scope_of (Pages range) = Coded (encode range)
scope_of AllPages = Everything

-- one more than the cookie of a wait
abbrev pub end_of : Order → ℕ
end_of (Wait cookie drain) = suc cookie
end_of _ = 0

-- whose pages an invalidation is of
abbrev pub binding_of : Order → ℕ
binding_of (RangeOf binding range) = binding
binding_of (PasidOf binding) = binding
binding_of (Wait cookie drain) = 0

-- the Completion Count field: three bits, in which 0 stands for 8 (PCI Express Base 5.0, section 10.3.2)
abbrev pub count_field : ℕ → ℕ
count_field count = if count == 8 then 0 else count

-- is the other request, which may be the first itself, of the binding and the page of the first? Then no translation that
-- it brought is kept beside that of the first.
abbrev pub is_replaced : Endpoint → (request other : ℕ) → Bool
is_replaced part request other = part.request_binding other == part.request_binding request && part.request_page other == part.request_page request
