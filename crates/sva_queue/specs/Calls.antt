-- The calls that change a unit, and what holds after every list of them.
use Rattle.std.specs.Prelude.{◌≡◌, ℕ, ◌+◌, ◌<◌, ◌≤◌, Bool, true, Some, List, [], ◌∷◌, ◌++◌, length, take, nat_le, slice_get, All, if◌then◌else◌}
use Rattle.sva_step.specs.Limits
use Rattle.sva_itags.specs.Tags.{AreTags, IsBusy, all_free}
use Rattle.sva_itags.specs.Calls.{Call as TagCall, after_all as tags_after}
use Rattle.sva_itags.specs.Calls.Call.{Take, Arrived as Complete, Clear}
use Rattle.sva_queue.specs.declared.descriptors.Descriptor.{Descriptor}
use Rattle.sva_queue.specs.declared.descriptors.Descriptor.TheVariants.{Wait}
use Rattle.sva_queue.specs.declared.descriptors.Pumped.{Pumped}
use Rattle.sva_queue.specs.declared.descriptors.Pumped.TheVariants.{Issued, Done, Blocked, Idle}
use Rattle.sva_queue.specs.Cookies.{AreRising, number_after, HasNumber}
use Rattle.sva_queue.specs.Queue.{Queue, empty, submitted, next_of, pumped, with_completion, reset_begun, reset_ended}

-- `submit`, `pump`, `arrived`, `begin_reset` and `end_reset`; the other calls only read
pub data Call : Type 0 where
  Submit : (descriptors : List Descriptor) → Call
  Pump : (prq_empty : Bool) → Call
  Arrived : (vector count : ℕ) → Call
  BeginReset : Call
  EndReset : Call

-- the unit after a call
abbrev pub after : Queue → Call → Queue
after queue (Submit descriptors) = submitted descriptors queue
after queue (Pump prq_empty) = pumped prq_empty queue
after queue (Arrived vector count) = with_completion vector count queue
after queue BeginReset = reset_begun queue
after queue EndReset = reset_ended queue

-- the unit after a list of calls
abbrev pub after_all : Queue → List Call → Queue
after_all queue [] = queue
after_all queue (call ∷ calls) = after_all (after queue call) calls

-- a count of completions is 1 to 8
abbrev pub IsCounted : Call → Type 0
IsCounted (Arrived vector count) = (0 < count) × (count ≤ Limits.most_completions)
IsCounted _ = Unit {0}

-- these descriptors may be submitted: the unit is open; their cookies are below 2^63, at least the front, above those that
-- are queued, and rise
pub record MaySubmit (queue : Queue) (descriptors : List Descriptor) : Type 0 where
  pub opened : queue.is_open ≡ true
  pub numbers : All HasNumber descriptors
  pub rising : AreRising (number_after queue.front queue.descriptors) descriptors

-- the call meets its condition
abbrev pub IsPermitted : Queue → Call → Type 0
IsPermitted queue (Submit descriptors) = MaySubmit queue descriptors
IsPermitted queue (Arrived vector count) = (0 < count) × (count ≤ Limits.most_completions)
IsPermitted queue _ = Unit {0}

-- each call of a list meets its condition when its turn comes
abbrev pub ArePermitted : Queue → List Call → Type 0
ArePermitted queue [] = Unit {0}
ArePermitted queue (call ∷ calls) = IsPermitted queue call × ArePermitted (after queue call) calls

-- After every list of calls the queue has at most 64 descriptors and its tags are in order.
abbrev pub AlwaysFits : Type 0
AlwaysFits =
    (calls : List Call) → All IsCounted calls
    → (length (after_all empty calls).descriptors ≤ Limits.queue_places) × AreTags (after_all empty calls).tags

-- ---- first in, first out

-- the descriptors that a call puts into the queue
abbrev pub entering : Queue → Call → List Descriptor
entering queue (Submit descriptors) =
    if nat_le (length queue.descriptors + length descriptors) Limits.queue_places then descriptors else []
entering queue _ = []

-- the descriptors that a pump with this answer takes off
abbrev pub taken_off : Pumped → List Descriptor → List Descriptor
taken_off (Issued tag) descriptors = take 1 descriptors
taken_off (Done cookie) descriptors = take 1 descriptors
taken_off Blocked descriptors = []
taken_off Idle descriptors = []

-- the descriptors that a call takes out of the queue: a pump the head, the beginning of a reset all of them
abbrev pub leaving : Queue → Call → List Descriptor
leaving queue (Pump prq_empty) = taken_off (next_of queue prq_empty) queue.descriptors
leaving queue BeginReset = queue.descriptors
leaving queue _ = []

-- the descriptors that entered in a list of calls, in order
abbrev pub all_entering : Queue → List Call → List Descriptor
all_entering queue [] = []
all_entering queue (call ∷ calls) = entering queue call ++ all_entering (after queue call) calls

-- the descriptors that left in a list of calls, in order
abbrev pub all_leaving : Queue → List Call → List Descriptor
all_leaving queue [] = []
all_leaving queue (call ∷ calls) = leaving queue call ++ all_leaving (after queue call) calls

-- After every list of calls: what was accepted, in order of submission, is what has left, in order of leaving, and then
-- what is queued.
abbrev pub FirstInFirstOut : Type 0
FirstInFirstOut =
    (calls : List Call) → all_entering empty calls ≡ all_leaving empty calls ++ (after_all empty calls).descriptors

-- ---- a wait is done only behind all that was ahead of it

-- in one of these calls a tag that was busy was freed
pub record IsFreedDuring (queue : Queue) (calls : List Call) (tag : ℕ) : Type 0 where
  pub early : List Call
  pub call : Call
  pub late : List Call
  pub order : calls ≡ early ++ call ∷ late
  pub busy : IsBusy (after_all queue early).tags tag
  pub freed : ¬ IsBusy (after_all queue (early ++ call ∷ [])).tags tag

-- an invalidation is over that a pump with this answer took off before these calls: it was issued under a tag, and the
-- tag was freed in one of them
abbrev pub IsOverSince : Pumped → Queue → List Call → Type 0
IsOverSince (Issued tag) queue calls = IsFreedDuring queue calls tag
IsOverSince _ queue calls = ⊥

-- an invalidation is over that left by this call, with these calls after it: issued and its tag freed since, or taken
-- out by a reset
abbrev pub IsOver : Queue → Call → List Call → Type 0
IsOver queue (Pump prq_empty) calls = IsOverSince (next_of queue prq_empty) (pumped prq_empty queue) calls
IsOver queue BeginReset calls = Unit {0}
IsOver queue _ calls = ⊥

-- the descriptor of this place, counted in order of leaving, left by one of the calls, and is over
pub record IsSettled (queue : Queue) (calls : List Call) (place : ℕ) : Type 0 where
  pub early : List Call
  pub call : Call
  pub late : List Call
  pub order : calls ≡ early ++ call ∷ late
  pub above : length (all_leaving queue early) ≤ place
  pub below : place < length (all_leaving queue (early ++ call ∷ []))
  pub over : IsOver (after_all queue early) call late

-- a descriptor is an invalidation
abbrev pub IsInvalidation : Descriptor → Type 0
IsInvalidation (Wait cookie drain) = ⊥
IsInvalidation _ = Unit {0}

-- After every list of calls: where `pump` answers that a wait is done, each invalidation that has left the queue, and so
-- each that was submitted ahead of the wait, was issued and its tag freed since, or a reset took it out.
abbrev pub DoneBehind : Type 0
DoneBehind =
    (calls : List Call) (prq_empty : Bool) (cookie place : ℕ) (descriptor : Descriptor)
    → next_of (after_all empty calls) prq_empty ≡ Done cookie
    → slice_get (all_leaving empty calls) place ≡ Some descriptor → IsInvalidation descriptor
    → IsSettled empty calls place

-- ---- what changes the tags

-- what a pump with this answer does to the tags
abbrev pub tag_calls_by : Pumped → List TagCall
tag_calls_by (Issued tag) = Take ∷ []
tag_calls_by _ = []

-- what a call does to the tags
abbrev pub tag_calls_of : Queue → Call → List TagCall
tag_calls_of queue (Pump prq_empty) = tag_calls_by (next_of queue prq_empty)
tag_calls_of queue (Arrived vector count) = Complete vector count ∷ []
tag_calls_of queue EndReset = Clear ∷ []
tag_calls_of queue _ = []

-- what a list of calls does to the tags
abbrev pub all_tag_calls : Queue → List Call → List TagCall
all_tag_calls queue [] = []
all_tag_calls queue (call ∷ calls) = tag_calls_of queue call ++ all_tag_calls (after queue call) calls

-- After every list of calls the tags are those that an `Itags` alone has after: `take` at each pump that issued an
-- invalidation, `arrived` at each completion, `clear` at each end of a reset. Nothing else takes or frees a tag.
abbrev pub TagsByCalls : Type 0
TagsByCalls = (calls : List Call) → (after_all empty calls).tags ≡ tags_after all_free (all_tag_calls empty calls)

-- ---- when a wait is done

-- the wait with this cookie is the head, no tag is busy and, with the drain flag, the page request queue is empty
abbrev pub IsWaitDone : Queue → Bool → ℕ → Type 0
IsWaitDone queue prq_empty cookie =
    (drain : Bool) × (slice_get queue.descriptors 0 ≡ Some (Wait cookie drain))
    × ((tag : ℕ) → ¬ IsBusy queue.tags tag) × (drain ≡ true → prq_empty ≡ true)
