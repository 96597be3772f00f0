-- The front of a unit's cookies: which waits it tells to be done.
use Rattle.std.specs.Prelude.{ℕ, ◌<◌, ◌≤◌, ◌↔◌, ◌⊎◌, Bool, true, false, List, [], ◌∷◌, ◌++◌, Contains, if◌then◌else◌}
use Rattle.std.specs.List.{list_any}
use Rattle.sva_queue.specs.declared.descriptors.Pumped.{Pumped}
use Rattle.sva_queue.specs.declared.descriptors.Pumped.TheVariants.{Done}
use Rattle.sva_queue.specs.Cookies.{cookies_of}
use Rattle.sva_queue.specs.Queue.{Queue, empty, InOrder, next_of}
use Rattle.sva_queue.specs.Calls.{Call, after, after_all, all_entering, ArePermitted}
use Rattle.sva_queue.specs.Calls.Call.{Pump, BeginReset, EndReset}

-- the cookie of the wait that a pump with this answer has taken off
abbrev pub cookie_done : Pumped → List ℕ
cookie_done (Done cookie) = cookie ∷ []
cookie_done _ = []

-- the cookie of the wait that a call has taken off as done
abbrev pub done_by : Queue → Call → List ℕ
done_by queue (Pump prq_empty) = cookie_done (next_of queue prq_empty)
done_by queue _ = []

-- the cookies of the waits that are done by a list of calls
abbrev pub all_done : Queue → List Call → List ℕ
all_done queue [] = []
all_done queue (call ∷ calls) = done_by queue call ++ all_done (after queue call) calls

-- the cookies of the waits that a call makes void: the beginning of a reset those that are queued
abbrev pub voided_by : Queue → Call → List ℕ
voided_by queue BeginReset = cookies_of queue.descriptors
voided_by queue _ = []

-- the cookies of the waits that a list of calls makes void
abbrev pub all_voided : Queue → List Call → List ℕ
all_voided queue [] = []
all_voided queue (call ∷ calls) = voided_by queue call ++ all_voided (after queue call) calls

-- whether a call ends a reset
abbrev pub ends_reset : Call → Bool
ends_reset EndReset = true
ends_reset _ = false

-- the cookies of the waits that are void by a reset that hasn't ended: none of the calls since has ended it
abbrev pub void_in_reset : Queue → List Call → List ℕ
void_in_reset queue [] = []
void_in_reset queue (call ∷ calls) =
    (if list_any ends_reset calls then [] else voided_by queue call) ++ void_in_reset (after queue call) calls

-- a wait with this cookie was submitted, and taken into the queue, by these calls
abbrev pub IsSubmitted : List Call → ℕ → Type 0
IsSubmitted calls cookie = Contains (cookies_of (all_entering empty calls)) cookie

-- After every list of calls a wait that was submitted is queued, or void by a reset that hasn't ended, exactly where its
-- cookie is the front or more.
abbrev pub PendingFromFront : Type 0
PendingFromFront =
    (calls : List Call) → ArePermitted empty calls → (cookie : ℕ) → IsSubmitted calls cookie
    → (Contains (cookies_of (after_all empty calls).descriptors) cookie ⊎ Contains (void_in_reset empty calls) cookie)
    ↔ ((after_all empty calls).front ≤ cookie)

-- After every list of calls a wait that was submitted, and that no reset made void, is done exactly where its cookie is below
-- the front.
abbrev pub DoneBelowFront : Type 0
DoneBelowFront =
    (calls : List Call) → ArePermitted empty calls → (cookie : ℕ) → IsSubmitted calls cookie
    → ¬ Contains (all_voided empty calls) cookie
    → Contains (all_done empty calls) cookie ↔ (cookie < (after_all empty calls).front)

-- After every list of calls the cookies that are queued rise from the front on.
abbrev pub AlwaysInOrder : Type 0
AlwaysInOrder = (calls : List Call) → ArePermitted empty calls → InOrder (after_all empty calls)
