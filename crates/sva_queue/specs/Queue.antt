-- The invalidation queue of a remapping unit (Intel VT-d, "Queued Invalidation Interface"), with the tags of the
-- Invalidate Requests that it sent.
use Rattle.std.specs.Prelude.{◌≡◌, ℕ, ◌+◌, ◌-◌, ◌^◌, ◌≤◌, ◌&&◌, ◌||◌, not, Bool, true, false, nat_le, if◌then◌else◌}
use Rattle.std.specs.Prelude.{Option, Some, None, is_none, List, [], ◌∷◌, ◌++◌, length, drop}
use Rattle.std.specs.List.{list_all}
use Rattle.sva_step.specs.Limits
use Rattle.sva_itags.specs.Tags.{all_free, lowest_free, taken, completed}
use Rattle.sva_itags.specs.declared.itags.Busy.{Busy}
use Rattle.sva_queue.specs.declared.descriptors.Descriptor.{Descriptor}
use Rattle.sva_queue.specs.declared.descriptors.Descriptor.TheVariants.{Range, Pasid, Wait}
use Rattle.sva_queue.specs.declared.descriptors.Pumped.{Pumped}
use Rattle.sva_queue.specs.declared.descriptors.Pumped.TheVariants.{Issued, Done, Blocked, Idle}
use Rattle.sva_queue.specs.Cookies.{AreRising, number_after}

-- The descriptors in order of submission; whether the unit is open (else it is in reset); its tags; the number after the
-- greatest cookie that it has taken, 0 at first, which the end of a reset raises past the cookies that it made void; and the
-- number after the greatest cookie that was submitted, 0 at first.
pub record Queue : Type 0 where
  pub descriptors : List Descriptor
  pub is_open : Bool
  pub tags : List (Option Busy)
  pub front : ℕ
  pub back : ℕ

-- the queue of these descriptors, open or not, with these tags, front and back
abbrev pub queue_of : List Descriptor → List (Option Busy) → Bool → ℕ → ℕ → Queue
queue_of descriptors tags is_open front back =
    record { descriptors = descriptors; is_open = is_open; tags = tags; front = front; back = back }

-- an open unit: an empty queue, every tag is free, and no cookie was submitted
abbrev pub empty : Queue
empty = record { descriptors = []; is_open = true; tags = all_free; front = 0; back = 0 }

-- The cookies that are queued rise from the front on, up to the back: at an open unit the back is the number after the last
-- of them, or the front where none is queued. A unit in reset has nothing queued.
pub record InOrder (queue : Queue) : Type 0 where
  pub rising : AreRising queue.front queue.descriptors
  pub at_open : queue.is_open ≡ true → queue.back ≡ number_after queue.front queue.descriptors
  pub in_reset : queue.is_open ≡ false → queue.descriptors ≡ []
  pub reached : queue.front ≤ queue.back
  pub limit : queue.back ≤ 2 ^ 63

-- how many descriptors fit in beside those that are queued
abbrev pub room_of : Queue → ℕ
room_of queue = Limits.queue_places - length queue.descriptors

-- the queue with more descriptors at its end
abbrev pub with_more : List Descriptor → Queue → Queue
with_more more queue =
    record queue { descriptors = queue.descriptors ++ more; back = number_after queue.back more }

-- the queue after a submission: with all of it where it fits, else the same
abbrev pub submitted : List Descriptor → Queue → Queue
submitted more queue =
    if nat_le (length queue.descriptors + length more) Limits.queue_places then with_more more queue else queue

-- whether no tag is busy
abbrev pub is_idle : List (Option Busy) → Bool
is_idle tags = list_all is_none tags

-- whether a wait at the head is complete: no tag is busy and, with the drain flag, the page request queue is empty
abbrev pub is_complete : Queue → Bool → Bool → Bool
is_complete queue prq_empty drain = is_idle queue.tags && (not drain || prq_empty)

-- what a free tag, or none, makes of an invalidation at the head
abbrev pub issued : Option ℕ → Pumped
issued (Some tag) = Issued tag
issued None = Blocked

-- what the unit answers to a descriptor at the head
abbrev pub answer_to : Queue → Bool → Descriptor → Pumped
answer_to queue prq_empty (Range pasid range) = issued (lowest_free queue.tags)
answer_to queue prq_empty (Pasid pasid) = issued (lowest_free queue.tags)
answer_to queue prq_empty (Wait cookie drain) = if is_complete queue prq_empty drain then Done cookie else Blocked

-- what the unit answers where these descriptors are queued
abbrev pub answer_at : Queue → Bool → List Descriptor → Pumped
answer_at queue prq_empty [] = Idle
answer_at queue prq_empty (head ∷ rest) = answer_to queue prq_empty head

-- what `pump` answers
abbrev pub next_of : Queue → Bool → Pumped
next_of queue prq_empty = answer_at queue prq_empty queue.descriptors

-- the queue once `pump` has given this answer: the head is taken off; an invalidation has the lowest free tag, and the front
-- is the number after the cookie of a wait
abbrev pub after_answer : Pumped → Queue → Queue
after_answer (Issued tag) queue = record queue { descriptors = drop 1 queue.descriptors; tags = taken queue.tags }
after_answer (Done cookie) queue = record queue { descriptors = drop 1 queue.descriptors; front = cookie + 1 }
after_answer Blocked queue = queue
after_answer Idle queue = queue

-- the queue after `pump`
abbrev pub pumped : Bool → Queue → Queue
pumped prq_empty queue = after_answer (next_of queue prq_empty) queue

-- the queue after a completion with this vector and count
abbrev pub with_completion : ℕ → ℕ → Queue → Queue
with_completion vector count queue = record queue { tags = completed vector count queue.tags }

-- a reset begins: the queue is emptied, and its waits are void; the busy tags stay busy, and the front stays
abbrev pub reset_begun : Queue → Queue
reset_begun queue = record queue { descriptors = []; is_open = false }

-- a reset ends: every tag is free, and the front is past all that was submitted; it stays where the unit is in no reset
abbrev pub reset_ended : Queue → Queue
reset_ended queue =
    record queue { is_open = true; tags = all_free; front = if queue.is_open then queue.front else queue.back }
