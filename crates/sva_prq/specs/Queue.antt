-- A page request queue over every list of calls. A queue is the list of the requests that wait, the oldest first, and a
-- history is the list of the calls so far, the latest first.
use Rattle.std.specs.Prelude.{◌≡◌, ◌<◌, ◌≤◌, false, List, [], ◌∷◌, ◌++◌, length, take, drop}
use Rattle.sva_step.specs.Limits
use Rattle.sva_msg.specs.declared.messages.PageRequest.{PageRequest}

-- what lies in a place that isn't used
abbrev pub blank : PageRequest
blank = record { pasid = 0; index = 0; page = 0; read = false; write = false; last = false }

-- the calls that change a queue
pub data QueueCall : Type 0 where
  Arrive : (request : PageRequest) → QueueCall
  Serve : QueueCall
  Clear : QueueCall

-- the queue after a call
abbrev pub queue_after_call : List PageRequest → QueueCall → List PageRequest
queue_after_call queue (Arrive request) = queue ++ request ∷ []
queue_after_call queue Serve = drop 1 queue
queue_after_call queue Clear = []

-- the requests that a call takes out: the one that it answers, or all of them
abbrev pub taken_by_call : List PageRequest → QueueCall → List PageRequest
taken_by_call queue (Arrive request) = []
taken_by_call queue Serve = take 1 queue
taken_by_call queue Clear = queue

-- the queue after a history, from the empty one on
abbrev pub queue_after : List QueueCall → List PageRequest
queue_after [] = []
queue_after (call ∷ earlier) = queue_after_call (queue_after earlier) call

-- each call had its condition: a request arrives only where one of the 32 places is free
abbrev pub IsQueueHistory : List QueueCall → Type 0
IsQueueHistory [] = Unit {0}
IsQueueHistory (Arrive request ∷ earlier) = (length (queue_after earlier) < Limits.page_requests) × IsQueueHistory earlier
IsQueueHistory (_ ∷ earlier) = IsQueueHistory earlier

-- the requests that arrived, in the order of their arrival
abbrev pub arrivals : List QueueCall → List PageRequest
arrivals [] = []
arrivals (Arrive request ∷ earlier) = arrivals earlier ++ request ∷ []
arrivals (_ ∷ earlier) = arrivals earlier

-- the requests that were taken out, in the order in which they went
abbrev pub departures : List QueueCall → List PageRequest
departures [] = []
departures (call ∷ earlier) = departures earlier ++ taken_by_call (queue_after earlier) call

-- first in, first out: the requests that arrived are those that went and then those that wait, in one order
abbrev pub IsFirstInFirstOut : Type 0
IsFirstInFirstOut = (history : List QueueCall) → arrivals history ≡ departures history ++ queue_after history

-- no queue is ever above its 32 places
abbrev pub NeverOverflows : Type 0
NeverOverflows = (history : List QueueCall) → IsQueueHistory history → length (queue_after history) ≤ Limits.page_requests
