-- Which lines of a driver keep others off, and what goes with one that is left out.
use Rattle.std.specs.Prelude.{ℕ, ◌&&◌, ◌||◌, if◌then◌else◌, Bool, false, List, [], ◌∷◌, codes}
use Rattle.std.specs.List.{list_any}
use Rattle.std.specs.Str.{bytes_eq}
use denote.Ref.{Bor}
use Rattle.sva_script.specs.Lines.{parts_of, script_words}

-- the words of a line behind its name
abbrev pub act_in : (line : List ℕ) → List (List ℕ)
act_in line = (parts_of (script_words line)).step

-- ---- Which are left out

-- the word of an act that keeps others off, or waits for them, whatever stands behind it
abbrev pub is_waiting_word : (word : List ℕ) → Bool
is_waiting_word word =
    bytes_eq word (codes "await") || bytes_eq word (codes "submit") || bytes_eq word (codes "stop")
    || bytes_eq word (codes "reset") || bytes_eq word (codes "barrier") || bytes_eq word (codes "close")
    || bytes_eq word (codes "skip") || bytes_eq word (codes "resume")

abbrev pub is_other_word : (word : List ℕ) → Bool
is_other_word word =
    bytes_eq word (codes "serve") || bytes_eq word (codes "respond") || bytes_eq word (codes "discard")
    || bytes_eq word (codes "set") || bytes_eq word (codes "clear") || bytes_eq word (codes "call")

-- the word of what may be turned off
abbrev pub is_switch : (word : List ℕ) → Bool
is_switch word = bytes_eq word (codes "ats") || bytes_eq word (codes "pri") || bytes_eq word (codes "mastering")

-- the word of what may lead nowhere
abbrev pub is_leading : (word : List ℕ) → Bool
is_leading word = bytes_eq word (codes "pte") || bytes_eq word (codes "entry")

-- these words behind an act's first take something away: it is turned off, leads nowhere, or may be read alone
abbrev pub takes_away : (first : List ℕ) → List (List ℕ) → Bool
takes_away first (at ∷ off ∷ []) = is_switch first && bytes_eq off (codes "off")
takes_away first (at ∷ what ∷ none ∷ []) = is_leading first && bytes_eq none (codes "none")
takes_away first (at ∷ what ∷ frame ∷ read ∷ []) = bytes_eq first (codes "pte") && bytes_eq read (codes "r")
takes_away first words = false

-- an act that is left out
abbrev pub is_guard : List (List ℕ) → Bool
is_guard [] = false
is_guard (first ∷ words) = (is_waiting_word first || is_other_word first) || takes_away first words

-- ---- What goes with one

abbrev pub has_wait : List (List ℕ) → Bool
has_wait words = list_any (λ word. bytes_eq word (codes "wait")) words

-- as words are lent
abbrev pub has_lent_wait : List (Bor (List ℕ)) → Bool
has_lent_wait words = list_any (λ (word : Bor (List ℕ)). bytes_eq word.now (codes "wait")) words

-- two words are these
abbrev pub are : (word wanted next other : List ℕ) → Bool
are word wanted next other = bytes_eq word wanted && bytes_eq next other

-- an `await stopped` there, another stop
abbrev pub awaits_stop : (endpoint pasid : List ℕ) → (other : List (List ℕ)) → Bool
awaits_stop endpoint pasid (word ∷ what ∷ at ∷ of ∷ []) =
    are word (codes "await") what (codes "stopped") && are at endpoint of pasid
awaits_stop endpoint pasid other = false

abbrev pub stops : (endpoint pasid : List ℕ) → (other : List (List ℕ)) → Bool
stops endpoint pasid (word ∷ at ∷ of ∷ []) = bytes_eq word (codes "stop") && are at endpoint of pasid
stops endpoint pasid other = false

-- an `await wait` there, a submit with a wait
abbrev pub awaits_wait : (endpoint : List ℕ) → (other : List (List ℕ)) → Bool
awaits_wait endpoint (word ∷ what ∷ at ∷ []) =
    are word (codes "await") what (codes "wait") && bytes_eq at endpoint
awaits_wait endpoint other = false

abbrev pub submits : (endpoint : List ℕ) → (other : List (List ℕ)) → Bool
submits endpoint (word ∷ at ∷ descriptors) = are word (codes "submit") at endpoint && has_wait descriptors
submits endpoint other = false

-- the act of a word there
abbrev pub is_at : (word endpoint : List ℕ) → (other : List (List ℕ)) → Bool
is_at word endpoint (own ∷ at ∷ []) = bytes_eq own word && bytes_eq at endpoint
is_at word endpoint other = false

-- the same by the words behind a stop, a submit or a close
abbrev pub is_stop_awaited : (rest other : List (List ℕ)) → Bool
is_stop_awaited (endpoint ∷ pasid ∷ []) other = awaits_stop endpoint pasid other
is_stop_awaited rest other = false

abbrev pub is_stop_again : (rest other : List (List ℕ)) → Bool
is_stop_again (endpoint ∷ pasid ∷ []) other = stops endpoint pasid other
is_stop_again rest other = false

abbrev pub is_wait_awaited : (rest other : List (List ℕ)) → Bool
is_wait_awaited [] other = false
is_wait_awaited (endpoint ∷ descriptors) other = has_wait descriptors && awaits_wait endpoint other

abbrev pub is_submit_again : (rest other : List (List ℕ)) → Bool
is_submit_again [] other = false
is_submit_again (endpoint ∷ descriptors) other = submits endpoint other

abbrev pub is_at_same : (word : List ℕ) → (rest other : List (List ℕ)) → Bool
is_at_same word (endpoint ∷ []) other = is_at word endpoint other
is_at_same word rest other = false

-- the other act goes with a first one that is left out: it awaits a stop or a wait, or opens a unit that was closed
abbrev pub goes_with_word : (word : List ℕ) → (rest other : List (List ℕ)) → Bool
goes_with_word word rest other =
    if bytes_eq word (codes "stop") then is_stop_awaited rest other
    else if bytes_eq word (codes "submit") then is_wait_awaited rest other
    else (bytes_eq word (codes "close") && is_at_same (codes "open") rest other)

abbrev pub goes_with : (first other : List (List ℕ)) → Bool
goes_with [] other = false
goes_with (word ∷ rest) other = goes_with_word word rest other

-- it is the same once more, with which goes what stands behind it
abbrev pub is_word_again : (word : List ℕ) → (rest other : List (List ℕ)) → Bool
is_word_again word rest other =
    if bytes_eq word (codes "stop") then is_stop_again rest other
    else if bytes_eq word (codes "submit") then is_submit_again rest other
    else (bytes_eq word (codes "close") && is_at_same (codes "close") rest other)

abbrev pub is_again : (first other : List (List ℕ)) → Bool
is_again [] other = false
is_again (word ∷ rest) other = is_word_again word rest other

-- the line begins a thread, a definition, or what stands behind `race`
abbrev pub is_heading : List (List ℕ) → Bool
is_heading [] = false
is_heading (word ∷ rest) = bytes_eq word (codes "thread") || bytes_eq word (codes "def") || bytes_eq word (codes "race")

-- behind it nothing goes with the first one
abbrev pub ends : (first other : List (List ℕ)) → Bool
ends first other = is_heading other || is_again first other
