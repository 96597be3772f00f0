-- The open world without what asks make, and without what faults make; what acts of the whole are there; and what can be told of the
-- whole by these two worlds.
use Rattle.std.specs.Prelude.{◌≡◌, ◌↔◌, ◌≤◌, ℕ, ◌&&◌, not, Bool, true, false, List, [], ◌∷◌, filter, length, map}
use Rattle.std.specs.Prelude.{Option, Some, None, option_map, slice_get}
use Rattle.std.specs.List.{cons_option, list_all}
use Rattle.sva_open.specs.declared.messages.Message.{Message}
use Rattle.sva_open.specs.declared.messages.Message.TheVariants as message
use Rattle.sva_open.specs.declared.messages.Sent.{Sent}
use Rattle.sva_open.specs.declared.works.Work.{Work}
use Rattle.sva_open.specs.declared.settings.Conduct.{Conduct}
use Rattle.sva_open.specs.declared.settings.Settings.{Settings}
use Rattle.sva_open.specs.declared.acts.Act.{Act}
use Rattle.sva_open.specs.declared.acts.Act.TheVariants as act
use Rattle.sva_open.specs.declared.acts.LocalAct.{LocalAct}
use Rattle.sva_open.specs.declared.acts.LocalAct.TheVariants as local
use Rattle.sva_open.specs.World.{Open, Part, opened}
use Rattle.sva_open.specs.Acts.{next_open}
use Rattle.sva_open.specs.Checks.{is_safe}
use Rattle.sva_open.specs.Finding.{is_use}
use Rattle.sva_open.specs.Units.{is_timed}
use Rattle.sva_open_laws.specs.OneUnit.{SeeOneUnit}
use Rattle.sva_open_laws.specs.Pages.{IsAlwaysSafe, IsSafeAlong, after, moved_in, next_by}

-- ---- what an occasion makes

-- What an endpoint begins makes a chain of things, each out of the one before. An ask makes a translation request, its completion, a
-- translation that is held, and uses; and the unit keeps what it went by. A fault makes page requests, which are received, queued and
-- filed, and the response to them.
pub data Chain : Type 0 where
  Asks : Chain
  Faults : Chain

-- is a message of no link of the chain?
abbrev pub is_message_left : Chain → Message → Bool
is_message_left Asks (message.Request tag pasid page) = false
is_message_left Asks (message.Completion tag page target) = false
is_message_left Asks one = true
is_message_left Faults (message.PageRequest request) = false
is_message_left Faults (message.Response index fails filed) = false
is_message_left Faults one = true

abbrev pub is_sent_left : Chain → Sent → Bool
is_sent_left chain one = is_message_left chain one.message

-- an invalidation that is taken is there, whatever it covers; and so is a barrier
abbrev pub isnt_use : Work → Bool
isnt_use work = not (is_use work)

-- Without faults a wait that drains stands behind nothing, no response has failed, and no queue has overflowed.
abbrev pub part_without : Chain → Part → Part
part_without Asks part =
    record part {
      requests = [];
      held = [];
      works = filter isnt_use part.works;
      flight = filter (is_sent_left Asks) part.flight;
      kept_entries = [];
      kept = [];
    }
part_without Faults part =
    record part {
      groups = [];
      is_enabled = true;
      flight = filter (is_sent_left Faults) part.flight;
      has_overflowed = false;
      received = [];
      arrived = [];
      filed = [];
    }

-- all else stays: memory, owners, entries, invalidations, stops, barriers, resets, and what the host has turned on
abbrev pub without : Chain → Open → Open
without chain now = record now { parts = map (part_without chain) now.parts }

-- ---- what an act is without them

-- None is one that begins something of the chain, or goes on with one thing of it, or ends that. What awaits or takes away whatever there
-- is of the chain stays, and finds nothing. What names a place among works or in flight names it among those that are left.
abbrev pub local_without : Chain → Part → LocalAct → Option LocalAct
local_without Asks part (local.Ask pasid page) = None
local_without Asks part (local.Use pasid page) = None
local_without Asks part (local.End place) = None
local_without Asks part (local.Evict pasid page) = None
local_without Asks part (local.ForgetEntry place) = None
local_without Asks part (local.Forget place) = None
local_without Asks part (local.Finish place) = moved_in isnt_use part.works place local.Finish
local_without Asks part (local.Pass place) = moved_in isnt_use part.works place local.Pass
local_without Asks part (local.Deliver place) = moved_in (is_sent_left Asks) part.flight place local.Deliver
local_without Asks part its = Some its
local_without Faults part (local.Fault pasid page write last) = None
local_without Faults part (local.More index page write last) = None
local_without Faults part local.Write = None
local_without Faults part local.Serve = None
local_without Faults part (local.Respond pasid index fails) = None
local_without Faults part (local.Deliver place) = moved_in (is_sent_left Faults) part.flight place local.Deliver
local_without Faults part its = Some its

-- at an endpoint that isn't there nothing is done
abbrev pub local_at : Chain → Option Part → LocalAct → Option LocalAct
local_at chain None its = None
local_at chain (Some part) its = local_without chain part its

abbrev pub act_without : Chain → Open → Act → Option Act
act_without chain now (act.At endpoint its) = option_map (act.At endpoint) (local_at chain (slice_get now.parts endpoint) its)
act_without chain now one = Some one

-- the acts that may be there: all but those which are none
abbrev pub is_local_apart : Chain → LocalAct → Bool
is_local_apart Asks (local.Ask pasid page) = false
is_local_apart Asks (local.Use pasid page) = false
is_local_apart Asks (local.End place) = false
is_local_apart Asks (local.Evict pasid page) = false
is_local_apart Asks (local.ForgetEntry place) = false
is_local_apart Asks (local.Forget place) = false
is_local_apart Asks its = true
is_local_apart Faults (local.Fault pasid page write last) = false
is_local_apart Faults (local.More index page write last) = false
is_local_apart Faults local.Write = false
is_local_apart Faults local.Serve = false
is_local_apart Faults (local.Respond pasid index fails) = false
is_local_apart Faults its = true

abbrev pub is_act_apart : Chain → Act → Bool
is_act_apart chain (act.At endpoint its) = is_local_apart chain its
is_act_apart chain one = true

-- ---- what is asked of a moment

-- Before an invalidation runs out of time the unit has taken all that it can. Where a wait that drains needs an empty page request queue,
-- page requests hold that up, and without them the unit can take more: so times have to be apart from these.
abbrev pub are_times_apart : Chain → Settings → Bool
are_times_apart Asks settings = true
are_times_apart Faults settings = not (settings.drain_empties && is_timed settings.timeouts)

-- and endpoints below one unit see one unit, as they do whatever acts come
pub record IsApart (chain : Chain) (now : Open) : Type 0 where
  pub units : SeeOneUnit now
  pub times : are_times_apart chain now.settings ≡ true

-- ---- one act

-- Where an act is permitted, what it is without the chain is permitted without it, and leads there to what the next moment is without it;
-- and where it is none, nothing changes there.
abbrev pub IsOccasionLaw : Type 0
IsOccasionLaw = (chain : Chain) (now next : Open) (one : Act) → IsApart chain now → next_open now one ≡ Some next
    → next_by (without chain now) (act_without chain now one) ≡ Some (without chain next)

-- Nothing is left of the chain where it is left out; and nothing is there of any in the world in which nothing was done yet.
abbrev pub AreLeftOut : Type 0
AreLeftOut = ((chain : Chain) (now : Open) → without chain (without chain now) ≡ without chain now)
    × ((chain : Chain) (settings : Settings) (conducts : List Conduct) (units : List ℕ) (pasids frames : ℕ)
    → without chain (opened settings conducts units pasids frames) ≡ opened settings conducts units pasids frames)

-- A moment is safe exactly where it is so without asks, and without faults.
abbrev pub AreSafeApart : Type 0
AreSafeApart = (now : Open) → (is_safe now ≡ true) ↔ ((chain : Chain) → is_safe (without chain now) ≡ true)

-- ---- acts one after another

-- what they are without the chain, one after another
abbrev pub acts_without : Chain → Option Open → List Act → List Act
acts_without chain None acts = []
acts_without chain (Some now) [] = []
acts_without chain (Some now) (one ∷ acts) = cons_option (act_without chain now one) (acts_without chain (next_open now one) acts)

-- They lead to what the last moment is without the chain; none of them is of the chain; and there are no more of them.
abbrev pub AreRunsApart : Type 0
AreRunsApart = (chain : Chain) (now next : Open) (acts : List Act) → IsApart chain now → after (Some now) acts ≡ Some next
    → (after (Some (without chain now)) (acts_without chain (Some now) acts) ≡ Some (without chain next))
    × (list_all (is_act_apart chain) (acts_without chain (Some now) acts) ≡ true)
    × (length (acts_without chain (Some now) acts) ≤ length acts)

-- Where each moment through which they lead is safe without asks, and without faults, so it is of the whole.
abbrev pub AreRunsSafeApart : Type 0
AreRunsSafeApart = (now : Open) (acts : List Act) → ((chain : Chain) → IsApart chain now)
    → ((chain : Chain) → IsSafeAlong (Some (without chain now)) (acts_without chain (Some now) acts)) → IsSafeAlong (Some now) acts

-- whatever acts come that aren't of the chain, each moment is safe
abbrev pub IsAlwaysSafeApart : Chain → Open → Type 0
IsAlwaysSafeApart chain now = (acts : List Act) (next : Open) → list_all (is_act_apart chain) acts ≡ true → after (Some now) acts ≡ Some next
    → is_safe next ≡ true

-- Where that is so without asks, and without faults, the whole is always safe.
abbrev pub AreAlwaysSafeApart : Type 0
AreAlwaysSafeApart = (now : Open) → ((chain : Chain) → IsApart chain now) → ((chain : Chain) → IsAlwaysSafeApart chain (without chain now))
    → IsAlwaysSafe now

-- So from the first moment on: whatever acts come, each is safe, exactly where it is so whatever acts come but those of asks, and whatever
-- come but those of faults.
abbrev pub AreFirstSafeApart : Type 0
AreFirstSafeApart = (settings : Settings) (conducts : List Conduct) (units : List ℕ) (pasids frames : ℕ)
    → are_times_apart Faults settings ≡ true
    → IsAlwaysSafe (opened settings conducts units pasids frames)
    ↔ ((chain : Chain) → IsAlwaysSafeApart chain (opened settings conducts units pasids frames))

-- What acts lead to what isn't safe: the same without the acts of one chain, and no more of them.
pub record IsFoundApart (now : Open) (acts : List Act) : Type 0 where
  pub chain : Chain
  pub others : List Act
  pub next : Open
  pub apart : list_all (is_act_apart chain) others ≡ true
  pub there : after (Some now) others ≡ Some next
  pub unsafe : is_safe next ≡ false
  pub short : length others ≤ length acts

abbrev pub AreFoundApart : Type 0
AreFoundApart = (settings : Settings) (conducts : List Conduct) (units : List ℕ) (pasids frames : ℕ) (acts : List Act) (next : Open)
    → are_times_apart Faults settings ≡ true → after (Some (opened settings conducts units pasids frames)) acts ≡ Some next
    → is_safe next ≡ false → IsFoundApart (opened settings conducts units pasids frames) acts
