-- A word of a line by its place: a number within its range, or what was wanted there.
use Rattle.std.specs.Prelude.{ℕ, ◌&&◌, nat_le, nat_lt, if◌then◌else◌, Bool, true, false, List, codes, length, Option, Some, None}
use Rattle.std.specs.Prelude.{Result, Ok, Err}
use Rattle.std.specs.Str.{bytes_eq}
use Rattle.sva_step.specs.declared.limits.Config.{Config}
use Rattle.sva_grammar.specs.declared.faults.Cause.{Cause}
use Rattle.sva_grammar.specs.Grammar.{◌>>=◌, number}
use Rattle.sva_script.specs.Numbers.{page_in}
use Rattle.sva_open.specs.declared.naming.Kind.{Kind}
use Rattle.sva_open.specs.declared.naming.Kind.TheVariants as kind
use Rattle.sva_race_texts.specs.Words.{word_at}
use Rattle.sva_race_texts.specs.declared.faults.RaceWanted.TheVariants as race
use Rattle.sva_driver_words.specs.Faults.{wrong_at}
use Rattle.sva_driver_words.specs.declared.faults.DriverWanted.{DriverWanted}
use Rattle.sva_driver_words.specs.declared.faults.DriverWanted.TheVariants as wanted
use Rattle.sva_driver_words.specs.declared.faults.DriverWrong.{DriverWrong}
use Rattle.sva_driver_words.specs.declared.written.WrittenWanted.TheVariants as written

-- is the word at a place this one?
abbrev pub says : (at : ℕ) → (word : List ℕ) → List (List ℕ) → Bool
says at word words = bytes_eq (word_at at words) word

abbrev pub has_word : (at : ℕ) → List (List ℕ) → Bool
has_word at words = nat_lt at (length words)

abbrev pub within : (low below at : ℕ) → DriverWanted → Result ℕ Cause → Result ℕ DriverWrong
within low below at want (Err cause) = wrong_at at want
within low below at want (Ok value) = if nat_le low value && nat_lt value below then Ok value else wrong_at at want

abbrev pub number_at : (low below at : ℕ) → DriverWanted → List (List ℕ) → Result ℕ DriverWrong
number_at low below at want words = within low below at want (number (word_at at words))

abbrev pub endpoint_at : Config → (at : ℕ) → List (List ℕ) → Result ℕ DriverWrong
endpoint_at config at words = number_at 0 config.endpoints at (wanted.Race race.OfConfig) words

abbrev pub frame_at : Config → (at : ℕ) → DriverWanted → List (List ℕ) → Result ℕ DriverWrong
frame_at config at want words = number_at 0 config.frames at want words

-- 0 is what a request without a PASID is of
abbrev pub pasid_at : (at : ℕ) → List (List ℕ) → Result ℕ DriverWrong
pasid_at at words = number_at 0 33 at wanted.Pasid words

-- a PASID, where there is such a word
abbrev pub some_pasid_at : (at : ℕ) → List (List ℕ) → Result (Option ℕ) DriverWrong
some_pasid_at at words = if has_word at words then (pasid_at at words >>= λ pasid. Ok (Some pasid)) else Ok None

abbrev pub space_at : (at : ℕ) → DriverWanted → List (List ℕ) → Result ℕ DriverWrong
space_at at want words = number_at 0 64 at want words

-- a page is written behind `0x` in hexadecimal digits, or in decimal
abbrev pub page_or : (word : List ℕ) → Option ℕ → Result ℕ Cause
page_or word (Some page) = Ok page
page_or word None = number word

abbrev pub page_of : (word : List ℕ) → Result ℕ Cause
page_of word = page_or word (page_in word)

-- pages have numbers below 2^36
abbrev pub page_by : (at : ℕ) → DriverWanted → List (List ℕ) → Result ℕ DriverWrong
page_by at want words = within 0 68719476736 at want (page_of (word_at at words))

abbrev pub page_at : (at : ℕ) → List (List ℕ) → Result ℕ DriverWrong
page_at at words = page_by at wanted.Page words

abbrev pub order_at : (at : ℕ) → List (List ℕ) → Result ℕ DriverWrong
order_at at words = number_at 0 10 at wanted.Order words

-- a Page Request Group Index has nine bits (PCI Express Base 5.0, section 10.4.1)
abbrev pub index_at : (at : ℕ) → DriverWanted → List (List ℕ) → Result ℕ DriverWrong
index_at at want words = number_at 0 512 at want words

-- an ITag has five bits (PCI Express Base 5.0, section 10.3.1)
abbrev pub itag_at : (at : ℕ) → List (List ℕ) → Result ℕ DriverWrong
itag_at at words = number_at 0 32 at wanted.Itag words

-- an invalidation queue has 64 places
abbrev pub place_at : (at : ℕ) → List (List ℕ) → Result ℕ DriverWrong
place_at at words = number_at 0 64 at wanted.Place words

-- a number of events
abbrev pub count_at : (at : ℕ) → List (List ℕ) → Result ℕ DriverWrong
count_at at words = number_at 0 65536 at wanted.Part words

-- how many places a page request queue has
abbrev pub places_at : (at : ℕ) → List (List ℕ) → Result ℕ DriverWrong
places_at at words = number_at 1 65536 at wanted.Places words

-- how often lines are written out
abbrev pub times_at : (at : ℕ) → List (List ℕ) → Result ℕ DriverWrong
times_at at words = number_at 1 65537 at (wanted.Written written.Times) words

-- how many are older; none where nothing is said
abbrev pub older_at : (at : ℕ) → List (List ℕ) → Result ℕ DriverWrong
older_at at words = if has_word at words then number_at 0 65536 at wanted.Count words else Ok 0

-- may it be written too?
abbrev pub access_at : (at : ℕ) → List (List ℕ) → Result Bool DriverWrong
access_at at words =
    if says at (codes "w") words then Ok true else
    if says at (codes "r") words then Ok false else
    wrong_at at wanted.Access

-- what a page request asks for: is it to be written?
abbrev pub asked_at : (at : ℕ) → List (List ℕ) → Result Bool DriverWrong
asked_at at words =
    if says at (codes "rw") words then Ok true else
    if says at (codes "w") words then Ok true else
    if says at (codes "r") words then Ok false else
    wrong_at at wanted.Asked

-- is it to be on?
abbrev pub on_at : (at : ℕ) → List (List ℕ) → Result Bool DriverWrong
on_at at words =
    if says at (codes "on") words then Ok true else
    if says at (codes "off") words then Ok false else
    wrong_at at wanted.OnOrOff

-- is it the last of its group?
abbrev pub last_at : (at : ℕ) → List (List ℕ) → Result Bool DriverWrong
last_at at words =
    if says at (codes "last") words then Ok true else
    if says at (codes "more") words then Ok false else
    wrong_at at wanted.MoreOrLast

-- is it Response Failure?
abbrev pub fails_at : (at : ℕ) → List (List ℕ) → Result Bool DriverWrong
fails_at at words =
    if says at (codes "failure") words then Ok true else
    if says at (codes "success") words then Ok false else
    if says at (codes "invalid") words then Ok false else
    wrong_at at wanted.Code

-- the kind of a message that an endpoint sends
abbrev pub kind_up_at : (at : ℕ) → List (List ℕ) → Result Kind DriverWrong
kind_up_at at words =
    if says at (codes "request") words then Ok kind.Request else
    if says at (codes "invalidated") words then Ok kind.Invalidated else
    if says at (codes "page-request") words then Ok kind.PageRequest else
    if says at (codes "marker") words then Ok kind.Marker else
    if says at (codes "status") words then Ok kind.Status else
    if says at (codes "passed") words then Ok kind.Passed else
    if says at (codes "reset-done") words then Ok kind.ResetDone else
    wrong_at at wanted.Kind

abbrev pub kind_at : (at : ℕ) → List (List ℕ) → Result Kind DriverWrong
kind_at at words =
    if says at (codes "start") words then Ok kind.Start else
    if says at (codes "stop") words then Ok kind.Stop else
    if says at (codes "barrier") words then Ok kind.Barrier else
    if says at (codes "reset") words then Ok kind.Reset else
    if says at (codes "completion") words then Ok kind.Completion else
    if says at (codes "invalidate") words then Ok kind.Invalidate else
    if says at (codes "response") words then Ok kind.Response else
    kind_up_at at words
