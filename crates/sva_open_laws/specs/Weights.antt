-- What each thing weighs that is left to be done in the open world: more than all that it may come to. So whatever endpoints, units,
-- workers and the link do by themselves leaves less, and what an act of the host adds has a price.
use Rattle.std.specs.Prelude.{◌≡◌, ◌<◌, ℕ, ◌+◌, ◌-◌, ◌==◌, ◌||◌, if◌then◌else◌, Bool, true, false, List, [], ◌∷◌}
use Rattle.std.specs.Prelude.{Option, Some, None, sum_by, slice_get}
use Rattle.std.specs.List.{list_any}
use Rattle.sva_open.specs.declared.frames.Translation.{Translation}
use Rattle.sva_open.specs.declared.rows.State.{State}
use Rattle.sva_open.specs.declared.rows.State.TheVariants.{Off, On, Stopping, Answering}
use Rattle.sva_open.specs.declared.rows.Row.{Row}
use Rattle.sva_open.specs.declared.rows.KeptEntry.{KeptEntry}
use Rattle.sva_open.specs.declared.messages.Message.{Message}
use Rattle.sva_open.specs.declared.messages.Message.TheVariants as message
use Rattle.sva_open.specs.declared.messages.Sent.{Sent}
use Rattle.sva_open.specs.declared.works.Group.{Group}
use Rattle.sva_open.specs.declared.works.Work.{Work}
use Rattle.sva_open.specs.declared.works.Work.TheVariants.{Use, Taken, Draining}
use Rattle.sva_open.specs.declared.descriptors.Descriptor.{Descriptor}
use Rattle.sva_open.specs.declared.descriptors.Descriptor.TheVariants as descriptor
use Rattle.sva_open.specs.declared.descriptors.Issued.{Issued}
use Rattle.sva_open.specs.declared.descriptors.Issued.TheVariants.{Sent as Issue, Waiting}
use Rattle.sva_open.specs.declared.descriptors.Received.{Received}
use Rattle.sva_open.specs.declared.descriptors.Received.TheVariants.{Request as Asked, Drain}
use Rattle.sva_open.specs.declared.descriptors.Arrived.{Arrived}
use Rattle.sva_open.specs.declared.descriptors.Filed.{Filed}
use Rattle.sva_open.specs.declared.acts.Act.{Act}
use Rattle.sva_open.specs.declared.acts.Act.TheVariants as act
use Rattle.sva_open.specs.declared.acts.LocalAct.{LocalAct}
use Rattle.sva_open.specs.declared.acts.LocalAct.TheVariants as local
use Rattle.sva_open.specs.World.{Open, Part}
use Rattle.sva_open.specs.Acts.{next_open}
use Rattle.sva_open.specs.Below.{is_beside}
use Rattle.sva_open.specs.Devices.{highest}
use Rattle.sva_open.specs.Host.{is_group}

-- ---- what each thing weighs

-- a translation that is held, or kept by a unit, goes; so does an entry that a unit keeps
abbrev pub translation_weight : Translation → ℕ
translation_weight translation = 1

abbrev pub entry_weight : KeptEntry → ℕ
entry_weight kept = 1

-- a use ends; an invalidation that is taken comes to its completion, and a barrier to its answer
abbrev pub work_weight : Work → ℕ
work_weight (Use translation) = 1
work_weight (Taken itag scope) = 2
work_weight (Draining barrier) = 2

-- a PASID that has to stop comes to its answer
abbrev pub state_weight : State → ℕ
state_weight Off = 0
state_weight On = 0
state_weight Stopping = 2
state_weight Answering = 2

abbrev pub row_weight : Row → ℕ
row_weight row = state_weight row.state

-- a message that is delivered goes; a request comes to its completion, with what a unit keeps of it, and that to a translation; an
-- invalidation is taken, as a barrier is; a stop has to be answered; a reset comes to its reset-done; a page request is received
abbrev pub message_weight : Message → ℕ
message_weight (message.Start pasid) = 1
message_weight (message.Stop pasid) = 3
message_weight message.Reset = 2
message_weight (message.Completion tag page target) = 2
message_weight (message.Invalidate itag scope) = 3
message_weight (message.Response index fails filed) = 1
message_weight (message.Request tag pasid page) = 5
message_weight (message.Invalidated itag) = 1
message_weight (message.PageRequest request) = 5
message_weight (message.Marker pasid) = 1
message_weight (message.Status pasid) = 1
message_weight message.ResetDone = 1
message_weight (message.Barrier barrier) = 3
message_weight (message.Passed barrier) = 1

abbrev pub sent_weight : Sent → ℕ
sent_weight one = message_weight one.message

-- a page request that is received is written into the queue, and from there filed; its group comes to a response. A drain is done with
-- what it stands behind
abbrev pub filed_weight : Filed → ℕ
filed_weight filed = 2

abbrev pub arrived_weight : Arrived → ℕ
arrived_weight one = 3

abbrev pub received_weight : Received → ℕ
received_weight (Asked one) = 4
received_weight (Drain name) = 0

-- a group that isn't finished comes to a last page request
abbrev pub unfinished_weight : (is_finished : Bool) → ℕ
unfinished_weight true = 0
unfinished_weight false = 6

abbrev pub group_weight : Option Group → ℕ
group_weight None = 0
group_weight (Some group) = unfinished_weight group.is_finished

-- an invalidation that has left the queue is completed, or its time runs out; in the queue it has to leave that, and to be sent. Its place
-- goes with it, where it keeps one, and a wait is done with the invalidations behind which it stands
abbrev pub issued_weight : Issued → ℕ
issued_weight (Issue endpoint itag) = 1
issued_weight (Waiting name drain) = 0

abbrev pub descriptor_weight : Descriptor → ℕ
descriptor_weight (descriptor.Device endpoint scope) = 5
descriptor_weight (descriptor.Translations endpoint scope) = 1
descriptor_weight (descriptor.Entry endpoint pasid) = 1
descriptor_weight (descriptor.Wait name drain fence) = 1
descriptor_weight (descriptor.Out itag) = 0

-- an endpoint that is there may go
abbrev pub presence_weight : (is_gone : Bool) → ℕ
presence_weight true = 0
presence_weight false = 1

-- what an endpoint has alone, with its link and what its unit keeps of it
abbrev pub own_weight : Part → ℕ
own_weight part =
    sum_by row_weight part.rows + sum_by translation_weight part.held + sum_by work_weight part.works + sum_by group_weight part.groups
    + sum_by sent_weight part.flight + sum_by entry_weight part.kept_entries + sum_by translation_weight part.kept
    + sum_by filed_weight part.filed + presence_weight part.is_gone

-- what it sees of its unit's queues
abbrev pub unit_weight : Part → ℕ
unit_weight part =
    sum_by descriptor_weight part.queue + sum_by issued_weight part.issued
    + sum_by received_weight part.received + sum_by arrived_weight part.arrived

abbrev pub part_weight : Part → ℕ
part_weight part = own_weight part + unit_weight part

-- Queues are counted once for each unit, by the most that an endpoint below it sees of them: at each endpoint only what is more than any
-- behind it sees.
abbrev pub weight_below : (units : List ℕ) → (endpoint : ℕ) → Part → ℕ
weight_below units endpoint part = if (part.endpoint == endpoint) || is_beside units endpoint part.endpoint then unit_weight part else 0

abbrev pub units_weight : (units : List ℕ) → List Part → ℕ
units_weight units [] = 0
units_weight units (part ∷ behind) = (unit_weight part - highest (weight_below units part.endpoint) behind) + units_weight units behind

abbrev pub world_weight : Open → ℕ
world_weight now = sum_by own_weight now.parts + units_weight now.units now.parts

-- ---- what each act costs

-- A further page request of a group that stays unfinished costs more than its message. What a group's last one adds the group has paid.
abbrev pub further_price : (last : Bool) → ℕ
further_price true = 0
further_price false = 6

-- What nobody has to choose costs nothing; all else more than it adds.
abbrev pub local_price : LocalAct → ℕ
local_price (local.Start pasid) = 2
local_price (local.Stop pasid) = 4
local_price local.Reset = 3
local_price (local.Barrier barrier) = 4
local_price (local.Submit descriptors) = sum_by descriptor_weight descriptors.items + 1
local_price (local.Respond pasid index fails) = 2
local_price (local.Ask pasid page) = 6
local_price (local.Use pasid page) = 2
local_price (local.Fault pasid page write last) = 12
local_price (local.More index page write last) = further_price last
local_price local.Serve = 0
local_price (local.End place) = 0
local_price (local.Evict pasid page) = 0
local_price (local.Finish place) = 0
local_price (local.Pass place) = 0
local_price (local.Quit pasid) = 0
local_price local.Leave = 0
local_price local.Pump = 0
local_price (local.PumpAt place) = 0
local_price (local.Expire itag silent) = 0
local_price local.Write = 0
local_price (local.ForgetEntry place) = 0
local_price (local.Forget place) = 0
local_price (local.Deliver place) = 0
local_price _ = 1

abbrev pub act_price : Act → ℕ
act_price (act.At endpoint its) = local_price its
act_price _ = 1

-- each endpoint stands at its number, as in each world that comes about
abbrev pub AreNumbered : List Part → Type 0
AreNumbered parts = (endpoint : ℕ) (part : Part) → slice_get parts endpoint ≡ Some part → part.endpoint ≡ endpoint

-- Whatever an act leaves weighs less than what was there, with its price.
abbrev pub EachActIsPaid : Type 0
EachActIsPaid = (now next : Open) (one : Act) → AreNumbered now.parts → next_open now one ≡ Some next
    → world_weight next < world_weight now + act_price one

-- does an act answer a group that is filed?
abbrev pub answers : Part → LocalAct → Bool
answers part (local.Respond pasid index fails) = list_any (is_group pasid index) part.filed
answers part _ = false

-- Where it does, it costs nothing.
abbrev pub AnswersAreFree : Type 0
AnswersAreFree = (now next : Open) (endpoint : ℕ) (part : Part) (its : LocalAct) → slice_get now.parts endpoint ≡ Some part
    → answers part its ≡ true → next_open now (act.At endpoint its) ≡ Some next → world_weight next < world_weight now
