-- Rows that show what would be false of the worlds without asks, and without faults.
use Rattle.std.specs.Prelude.{◌≡◌, ℕ, true, false, List, [], ◌∷◌, Option, Some, None, option_map, is_some, slice_get}
use Rattle.sva_open.specs.declared.frames.Translation.{Translation}
use Rattle.sva_open.specs.declared.rows.State.TheVariants.{Stopping}
use Rattle.sva_open.specs.declared.scopes.Scope.TheVariants as scope
use Rattle.sva_open.specs.declared.messages.Message.TheVariants as message
use Rattle.sva_open.specs.declared.works.Work.TheVariants.{Use, Taken}
use Rattle.sva_open.specs.declared.descriptors.Arrived.{Arrived}
use Rattle.sva_open.specs.declared.descriptors.Descriptor.{Descriptor}
use Rattle.sva_open.specs.declared.descriptors.Descriptor.TheVariants as descriptor
use Rattle.sva_open.specs.declared.descriptors.Issued.TheVariants.{Sent as Issue}
use Rattle.sva_open.specs.declared.descriptors.Received.TheVariants.{Request as Asked, Drain}
use Rattle.sva_open.specs.declared.settings.Settings.{Settings}
use Rattle.sva_open.specs.declared.settings.Timeouts.TheVariants.{On}
use Rattle.sva_open.specs.declared.acts.Act.TheVariants as act
use Rattle.sva_open.specs.declared.acts.LocalAct.TheVariants as local
use Rattle.sva_open.specs.Acts.{next_open, next_part}
use Rattle.sva_open.specs.Checks.{is_safe}
use Rattle.sva_open.specs.World.{Open, Part, blank, part_opened, untouched}
use Rattle.sva_open_laws.specs.Occasions.{act_without, are_times_apart, local_without, part_without, without}
use Rattle.sva_open_laws.specs.Occasions.Chain.{Asks, Faults}

abbrev fresh : (endpoint : ℕ) → Part
fresh endpoint = part_opened 1 endpoint (record { lies = false; awaits = false })

abbrev leading : Translation
leading = record { pasid = 0; page = 16; owner = 0; target = record { frame = 0; tenure = untouched; write = true } }

abbrev asked_by : (owner : ℕ) → Arrived
asked_by owner =
    record { endpoint = 0; request = record { pasid = 0; index = 0; page = 16; write = false; last = true }; owner = owner; number = 0 }

-- ---- places

-- a use, and an invalidation of another page that came later
abbrev using : Part
using = record (fresh 0) { works = Use leading ∷ Taken 3 (scope.Pages 0 17 1) ∷ [] }

-- The invalidation is the second work of all, and the first without asks. Named there by its place among all, it couldn't be completed.
abbrev pub PlacesMove : Type 0
PlacesMove = (settings : Settings)
    → (local_without Asks using (local.Finish 1) ≡ Some (local.Finish 0))
    × (next_part settings [] (part_without Asks using) (local.Finish 1) ≡ None)

-- ---- what bars

-- an endpoint that is to stop PASID 0, under which it uses a page
abbrev stopping : Part
stopping = record using { rows = record blank { state = Stopping } ∷ [] }

-- a unit in which a wait that drains stands behind a page request
abbrev draining : Part
draining = record (fresh 0) { received = Asked (asked_by 0) ∷ Drain 5 ∷ [] }

-- What isn't permitted of the whole may be so without asks, or without faults: to say that the PASID is stopped, and that a wait is done.
abbrev pub LessIsAwaited : Type 0
LessIsAwaited = (settings : Settings)
    → (next_part settings [] stopping (local.Quit 0) ≡ None)
    × (is_some (next_part settings [] (part_without Asks stopping) (local.Quit 0)) ≡ true)
    × (next_part settings [] draining (local.AwaitWait 5) ≡ None)
    × (is_some (next_part settings [] (part_without Faults draining) (local.AwaitWait 5)) ≡ true)

-- ---- what runs out of time

-- a platform whose drains need an empty page request queue, and in which invalidations run out of time
abbrev hurried : Settings → Settings
hurried settings = record settings { drain_empties = true; timeouts = On; is_loose = false; refuses_drain = false; all_fence = false }

-- an invalidation that nobody answers, and a wait that drains, at the head of the queue, behind a page request
abbrev lost : Part
lost = record (fresh 0) { queue = descriptor.Wait 5 true false ∷ []; issued = Issue 0 3 ∷ []; arrived = asked_by 0 ∷ [] }

-- There it may run out of time: the unit can take nothing more. Without faults it may not, since the unit can take the wait.
abbrev pub TimesMeet : Type 0
TimesMeet = (settings : Settings)
    → (is_some (next_part (hurried settings) [] lost (local.Expire 3 false)) ≡ true)
    × (local_without Faults lost (local.Expire 3 false) ≡ Some (local.Expire 3 false))
    × (next_part (hurried settings) [] (part_without Faults lost) (local.Expire 3 false) ≡ None)
    × (are_times_apart Faults (hurried settings) ≡ false)

-- ---- one unit

-- Two endpoints below one unit that don't see one: as one of them a completion comes to which nothing is out, and the other sees another
-- queue then. No acts lead to such a moment.
abbrev torn : Settings → Open
torn settings =
    record {
      settings = settings;
      mappings = [];
      frames = [];
      freed = [];
      domains = [];
      parts = record (fresh 0) { flight = (record { message = message.Completion 0 16 None; owner = 0; number = 0 }) ∷ [] }
          ∷ record (fresh 1) { queue = descriptor.Out 3 ∷ [] }
          ∷ [];
      units = 0 ∷ 0 ∷ [];
    }

abbrev queue_in : Option Part → List Descriptor
queue_in None = []
queue_in (Some part) = part.queue

abbrev queue_at : (endpoint : ℕ) → Open → List Descriptor
queue_at endpoint now = queue_in (slice_get now.parts endpoint)

-- So a delivery that is none without asks changes what the other sees.
abbrev pub UnitsAreSeen : Type 0
UnitsAreSeen = (settings : Settings)
    → (act_without Asks (torn settings) (act.At 0 (local.Deliver 0)) ≡ None)
    × (queue_at 1 (without Asks (torn settings)) ≡ descriptor.Out 3 ∷ [])
    × (option_map (queue_at 1) (next_open (torn settings) (act.At 0 (local.Deliver 0))) ≡ Some [])

-- ---- both

abbrev of : Settings → Part → Open
of settings part =
    record {
      settings = record settings { has_workers = false };
      mappings = [];
      frames = record { given = 1; frozen = 0 } ∷ [];
      freed = [];
      domains = [];
      parts = part ∷ [];
      units = [];
    }

-- an endpoint that holds what its frame's next owner has, and one of which a page request of another owner is queued
abbrev stale : Part
stale = record (fresh 0) { held = leading ∷ [] }

abbrev late : Part
late = record (fresh 0) { arrived = asked_by 1 ∷ [] }

-- What is safe without asks needn't be so of the whole; nor need what is so without faults.
abbrev pub BothAreAsked : Type 0
BothAreAsked = (settings : Settings)
    → (is_safe (without Asks (of settings stale)) ≡ true)
    × (is_safe (without Faults (of settings stale)) ≡ false)
    × (is_safe (of settings stale) ≡ false)
    × (is_safe (without Asks (of settings late)) ≡ false)
    × (is_safe (without Faults (of settings late)) ≡ true)
    × (is_safe (of settings late) ≡ false)
