-- The text of each answer: its words with single spaces between them, the numbers decimal without leading zeros, and no
-- line end.
use Rattle.std.specs.Prelude.{◌≡◌, ◌≢◌, ℕ, ◌^◌, ◌<◌, Bool, true, false, List, ◌++◌, length, take, flat_map, All, codes, decimal}
use Rattle.sva_step.specs.Refusals.{refusal_text}
use Rattle.sva_step.specs.declared.refusals.Refusal.{Refusal}
use Rattle.sva_step.specs.declared.answers.Answer.{Answer}
use Rattle.sva_step.specs.declared.answers.Answer.TheVariants.{Space, Gone, Frame, FreeFrames, WithheldFrames, RangeFree, RangeWithheld, Binding, Stopping}
use Rattle.sva_step.specs.declared.answers.Answer.TheVariants.{Draining, Invalidating, Quiet, Released, Idle, Itag, Blocked, WaitDone, Empty, Part, Job}
use Rattle.sva_step.specs.declared.answers.Answer.TheVariants.{Resetting, JobTaken, Success, Invalid, Failure, Dropped, Tag, Use, Ended, Dead, Evicted}
use Rattle.sva_step.specs.declared.answers.Answer.TheVariants.{Group, Sent, Marker, Free, Mapped, Withheld, Started, Reset, NoTranslation, Full, Held}
use Rattle.sva_step.specs.declared.answers.Answer.TheVariants.{Taken, Answered, Stale, Completion, Freed, Queued, Marked, ResetDone, Bearer, NoBearer}

-- the numbers of some frames, a space before each
abbrev pub frames_text : List ℕ → List ℕ
frames_text frames = flat_map (λ frame. codes " " ++ decimal frame) frames

-- the text begins with `start`
abbrev pub BeginsWith : List ℕ → List ℕ → Type 0
BeginsWith text start = take (length start) text ≡ start

-- the answers of the host and its service, and then those of the endpoints, of the link, of `look` and of `bearer`
abbrev pub answer_text : Answer → List ℕ
answer_text (Space space) = codes "space " ++ decimal space
answer_text Gone = codes "gone"
answer_text (Frame frame) = codes "frame " ++ decimal frame
answer_text (FreeFrames frames) = codes "free" ++ frames_text frames
answer_text (WithheldFrames frames) = codes "withheld" ++ frames_text frames
answer_text (RangeFree frames) = codes "range free " ++ decimal frames
answer_text (RangeWithheld frames) = codes "range withheld " ++ decimal frames
answer_text (Binding binding pasid) = codes "binding " ++ decimal binding ++ codes " pasid " ++ decimal pasid
answer_text Stopping = codes "stopping"
answer_text Draining = codes "draining"
answer_text Invalidating = codes "invalidating"
answer_text Quiet = codes "quiet"
answer_text Released = codes "released"
answer_text Idle = codes "idle"
answer_text (Itag itag) = codes "itag " ++ decimal itag
answer_text Blocked = codes "blocked"
answer_text WaitDone = codes "wait done"
answer_text Empty = codes "empty"
answer_text Part = codes "part"
answer_text Job = codes "job"
answer_text Resetting = codes "resetting"
answer_text (JobTaken binding group pages) =
    codes "job binding " ++ decimal binding ++ codes " group " ++ decimal group ++ codes " pages " ++ decimal pages
answer_text (Success pages) = codes "success " ++ decimal pages
answer_text Invalid = codes "invalid"
answer_text Failure = codes "failure"
answer_text Dropped = codes "dropped"
answer_text (Tag tag) = codes "tag " ++ decimal tag
answer_text (Use slot frame) = codes "use " ++ decimal slot ++ codes " frame " ++ decimal frame
answer_text Ended = codes "ended"
answer_text Dead = codes "dead"
answer_text Evicted = codes "evicted"
answer_text (Group group) = codes "group " ++ decimal group
answer_text (Sent count) = codes "sent " ++ decimal count
answer_text Marker = codes "marker"
answer_text Free = codes "free"
answer_text Mapped = codes "mapped"
answer_text Withheld = codes "withheld"
answer_text Started = codes "started"
answer_text Reset = codes "reset"
answer_text NoTranslation = codes "none"
answer_text Full = codes "full"
answer_text Held = codes "held"
answer_text Taken = codes "taken"
answer_text Answered = codes "answered"
answer_text Stale = codes "stale"
answer_text Completion = codes "completion"
answer_text (Freed count) = codes "freed " ++ decimal count
answer_text Queued = codes "queued"
answer_text Marked = codes "marked"
answer_text ResetDone = codes "reset done"
answer_text (Bearer space bindings) = codes "bearer " ++ decimal space ++ codes " bindings " ++ decimal bindings
answer_text NoBearer = codes "bearer none"

-- an answer of the host or of its service, which the table has first
abbrev pub is_of_host : Answer → Bool
is_of_host (Space space) = true
is_of_host Gone = true
is_of_host (Frame frame) = true
is_of_host (FreeFrames frames) = true
is_of_host (WithheldFrames frames) = true
is_of_host (RangeFree frames) = true
is_of_host (RangeWithheld frames) = true
is_of_host (Binding binding pasid) = true
is_of_host Stopping = true
is_of_host Draining = true
is_of_host Invalidating = true
is_of_host Quiet = true
is_of_host Released = true
is_of_host Idle = true
is_of_host (Itag itag) = true
is_of_host Blocked = true
is_of_host WaitDone = true
is_of_host Empty = true
is_of_host Part = true
is_of_host Job = true
is_of_host Resetting = true
is_of_host (JobTaken binding group pages) = true
is_of_host (Success pages) = true
is_of_host Invalid = true
is_of_host Failure = true
is_of_host Dropped = true
is_of_host _ = false

-- an answer of the host or of its service whose text has a number
abbrev pub has_host_number : Answer → Bool
has_host_number (Space space) = true
has_host_number (Frame frame) = true
has_host_number (FreeFrames frames) = true
has_host_number (WithheldFrames frames) = true
has_host_number (RangeFree frames) = true
has_host_number (RangeWithheld frames) = true
has_host_number (Binding binding pasid) = true
has_host_number (Itag itag) = true
has_host_number (JobTaken binding group pages) = true
has_host_number (Success pages) = true
has_host_number _ = false

-- an answer whose text has a number
abbrev pub has_number : Answer → Bool
has_number (Space space) = true
has_number (Frame frame) = true
has_number (FreeFrames frames) = true
has_number (WithheldFrames frames) = true
has_number (RangeFree frames) = true
has_number (RangeWithheld frames) = true
has_number (Binding binding pasid) = true
has_number (Itag itag) = true
has_number (JobTaken binding group pages) = true
has_number (Success pages) = true
has_number (Tag tag) = true
has_number (Use slot frame) = true
has_number (Group group) = true
has_number (Sent count) = true
has_number (Freed count) = true
has_number (Bearer space bindings) = true
has_number _ = false

-- each number is one of 64 bits, and a list of frames has a frame
abbrev pub InRange : Answer → Type 0
InRange (Space space) = space < 2 ^ 64
InRange (Frame frame) = frame < 2 ^ 64
InRange (FreeFrames frames) = (0 < length frames) × All (λ frame. frame < 2 ^ 64) frames
InRange (WithheldFrames frames) = (0 < length frames) × All (λ frame. frame < 2 ^ 64) frames
InRange (RangeFree frames) = frames < 2 ^ 64
InRange (RangeWithheld frames) = frames < 2 ^ 64
InRange (Binding binding pasid) = (binding < 2 ^ 64) × (pasid < 2 ^ 64)
InRange (Itag itag) = itag < 2 ^ 64
InRange (JobTaken binding group pages) = (binding < 2 ^ 64) × (group < 2 ^ 64) × (pages < 2 ^ 64)
InRange (Success pages) = pages < 2 ^ 64
InRange (Tag tag) = tag < 2 ^ 64
InRange (Use slot frame) = (slot < 2 ^ 64) × (frame < 2 ^ 64)
InRange (Group group) = group < 2 ^ 64
InRange (Sent count) = count < 2 ^ 64
InRange (Freed count) = count < 2 ^ 64
InRange (Bearer space bindings) = (space < 2 ^ 64) × (bindings < 2 ^ 64)
InRange _ = Unit {0}

-- a line of a report tells which answer it is, and that it is no refusal
pub record TextsTellApart : Type 0 where
  pub answers : (answer other : Answer) → InRange answer → InRange other → answer_text answer ≡ answer_text other → answer ≡ other
  pub no_refusal : (answer : Answer) (refusal : Refusal) → InRange answer → answer_text answer ≢ refusal_text refusal
