-- The words of the format, which can't be names.
use Rattle.std.specs.Prelude.{ℕ, ◌||◌, Bool, List, [], ◌∷◌, codes}
use Rattle.std.specs.List.{list_any}
use Rattle.std.specs.Str.{bytes_eq}

-- the words that begin a line
unfoldable pub first_words : List (List ℕ)
first_words =
    codes "config" ∷ codes "space" ∷ codes "drop" ∷ codes "map" ∷ codes "unmap" ∷ codes "unmapr" ∷ codes "look" ∷
    codes "bearer" ∷ codes "bind" ∷ codes "unbind" ∷ codes "advance" ∷ codes "pump" ∷ codes "serve" ∷
    codes "reset" ∷ codes "take" ∷ codes "answer" ∷ codes "ask" ∷ codes "use" ∷ codes "end" ∷ codes "evict" ∷
    codes "fault" ∷ codes "finish" ∷ codes "quit" ∷ codes "deliver" ∷ codes "race" ∷ codes "thread" ∷ codes "try" ∷
    codes "device" ∷ codes "workers" ∷ []

-- the words of answers and counts that don't
unfoldable pub answer_words : List (List ℕ)
answer_words =
    codes "gone" ∷ codes "frame" ∷ codes "free" ∷ codes "withheld" ∷ codes "range" ∷ codes "binding" ∷
    codes "pasid" ∷ codes "stopping" ∷ codes "draining" ∷ codes "invalidating" ∷ codes "quiet" ∷ codes "released" ∷
    codes "idle" ∷ codes "itag" ∷ codes "blocked" ∷ codes "wait" ∷ codes "done" ∷ codes "empty" ∷ codes "part" ∷
    codes "job" ∷ codes "group" ∷ codes "pages" ∷ codes "resetting" ∷ codes "success" ∷ codes "invalid" ∷
    codes "failure" ∷ codes "dropped" ∷ codes "tag" ∷ codes "ended" ∷ codes "dead" ∷ codes "evicted" ∷
    codes "sent" ∷ codes "marker" ∷ codes "mapped" ∷ codes "started" ∷ codes "full" ∷ codes "held" ∷
    codes "taken" ∷ codes "answered" ∷ codes "stale" ∷ codes "completion" ∷ codes "freed" ∷ codes "queued" ∷
    codes "marked" ∷ codes "none" ∷ []

-- the other words of the format: those of a place, kinds of message, and those by which races are asked about
unfoldable pub other_words : List (List ℕ)
other_words =
    codes "r" ∷ codes "w" ∷ codes "rw" ∷ codes "new" ∷ codes "more" ∷ codes "last" ∷ codes "next" ∷ codes "start" ∷
    codes "stop" ∷ codes "invalidate" ∷ codes "response" ∷ codes "request" ∷ codes "invalidated" ∷
    codes "page-request" ∷ codes "reset-done" ∷ codes "bindings" ∷ codes "refused" ∷ codes "never" ∷
    codes "always" ∷ codes "sometimes" ∷ codes "ends" ∷ codes "or" ∷ codes "and" ∷ codes "not" ∷ codes "is" ∷
    codes "times" ∷ codes "usable" ∷ codes "silent" ∷ []

-- the names of the refusals
unfoldable pub refusal_names : List (List ℕ)
refusal_names =
    codes "BadConfig" ∷ codes "NoSuchEndpoint" ∷ codes "NoSuchSpace" ∷ codes "TooManySpaces" ∷ codes "PageRange" ∷
    codes "Mapped" ∷ codes "NotMapped" ∷ codes "NoFrame" ∷ codes "SpaceFull" ∷ codes "AlreadyBound" ∷
    codes "NoPasid" ∷ codes "StillBound" ∷ codes "NoSuchBinding" ∷ codes "NotLive" ∷ codes "NotYet" ∷
    codes "QueueFull" ∷ codes "Resetting" ∷ codes "BadOrder" ∷ codes "NotAligned" ∷ codes "NothingMapped" ∷
    codes "BadPasid" ∷ codes "NotStarted" ∷ codes "NoTag" ∷ codes "NotHeld" ∷ codes "ReadOnly" ∷
    codes "NoUseSlot" ∷ codes "NoSuchUse" ∷ codes "NoCredit" ∷ codes "NoSuchGroup" ∷ codes "PriDisabled" ∷
    codes "NotPending" ∷ codes "InUse" ∷ codes "BadCount" ∷ codes "NotStopping" ∷ codes "Busy" ∷
    codes "NoSuchMessage" ∷ codes "Overtakes" ∷ codes "NoSuchWorker" ∷ codes "HandsFull" ∷ codes "NoJob" ∷
    codes "BadVerdict" ∷ codes "NumbersSpent" ∷ codes "OutOfMemory" ∷ []

-- the names of the steps
unfoldable pub step_names : List (List ℕ)
step_names =
    codes "space" ∷ codes "drop" ∷ codes "map" ∷ codes "unmap" ∷ codes "unmapr" ∷ codes "look" ∷ codes "bearer" ∷
    codes "bind" ∷ codes "unbind" ∷ codes "advance" ∷ codes "pump" ∷ codes "serve" ∷ codes "reset" ∷ codes "take" ∷
    codes "answer" ∷ codes "ask" ∷ codes "use" ∷ codes "end" ∷ codes "evict" ∷ codes "fault" ∷ codes "finish" ∷
    codes "quit" ∷ codes "deliver" ∷ []

-- is it one of these words?
abbrev pub is_among : List (List ℕ) → List ℕ → Bool
is_among words word = list_any (λ reserved. bytes_eq reserved word) words

-- is it a word of the format?
abbrev pub is_reserved : List ℕ → Bool
is_reserved word = is_among first_words word || is_among answer_words word || is_among other_words word

-- the words for the kinds of message
unfoldable pub kind_words : List (List ℕ)
kind_words =
    codes "start" ∷ codes "stop" ∷ codes "reset" ∷ codes "completion" ∷ codes "invalidate" ∷ codes "response" ∷ codes "request" ∷
    codes "invalidated" ∷ codes "page-request" ∷ codes "marker" ∷ codes "reset-done" ∷ []

-- is it one of them?
abbrev pub is_kind : List ℕ → Bool
is_kind word = is_among kind_words word

-- is it a word of an answer or of the counts?
abbrev pub is_answer_word : List ℕ → Bool
is_answer_word word =
    is_among answer_words word
    || bytes_eq word (codes "space")
    || bytes_eq word (codes "reset")
    || bytes_eq word (codes "use")
    || bytes_eq word (codes "bearer")
    || bytes_eq word (codes "bindings")
    || bytes_eq word (codes "refused")

-- is it the name of a refusal?
abbrev pub is_refusal : List ℕ → Bool
is_refusal word = is_among refusal_names word
