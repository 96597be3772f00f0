-- The settings of a driver, its workers, and what its endpoints may do by themselves.
use Rattle.std.specs.Prelude.{ℕ, ◌+◌, ◌||◌, ◌&&◌, not, if◌then◌else◌, Bool, true, false, Vec, List, [], ◌∷◌, codes, drop}
use Rattle.std.specs.Prelude.{◌≡◌, Option, Some, None, option_map, Result, Ok, Err}
use Rattle.std.specs.Global.{Global}
use Rattle.std.specs.Str.{bytes_eq}
use Rattle.sva_grammar.specs.Grammar.{◌>>=◌}
use Rattle.sva_open.specs.declared.settings.Settings.{Settings}
use Rattle.sva_open.specs.declared.settings.Link.TheVariants.{Free, Posted}
use Rattle.sva_open.specs.declared.settings.Stopped.TheVariants.{Marker, Status, Known}
use Rattle.sva_open.specs.declared.settings.Timeouts.TheVariants as timeouts
use Rattle.sva_open.specs.declared.drivers.Budget.{Budget}
use Rattle.sva_open.specs.declared.drivers.Workers.{Workers}
use Rattle.sva_driver_words.specs.Taking.{Fails, appended}
use Rattle.sva_driver_words.specs.Faults.{wrong_at, no_more}
use Rattle.sva_driver_words.specs.Fields.{count_at, has_word, page_at, places_at, says}
use Rattle.sva_driver_texts.specs.declared.kept_of_endpoints.DeviceRead.{DeviceRead}
use Rattle.sva_driver_words.specs.declared.faults.DriverWanted.TheVariants as wanted
use Rattle.sva_driver_words.specs.declared.faults.DriverStop.{DriverStop}
use Rattle.sva_driver_words.specs.declared.faults.DriverWrong.{DriverWrong}

-- ---- Settings: the first word of each pair holds where nothing is said; nothing is refused then, and nothing allowed

abbrev pub unsaid : Settings
unsaid = record {
  link = Free;
  all_fence = true;
  drain_empties = true;
  refuses_drain = false;
  is_loose = false;
  has_caches = false;
  stopped = Marker;
  allows_no_group = false;
  has_workers = false;
  clears_controls = false;
  timeouts = timeouts.Off;
  places = None;
}

abbrev pub is_setting : (word : List ℕ) → Bool
is_setting word =
    bytes_eq word (codes "platform")
    || bytes_eq word (codes "link")
    || bytes_eq word (codes "waits")
    || bytes_eq word (codes "drain")
    || bytes_eq word (codes "caches")
    || bytes_eq word (codes "stopped")
    || bytes_eq word (codes "enables")
    || bytes_eq word (codes "timeouts")
    || bytes_eq word (codes "refuses")
    || bytes_eq word (codes "allow")
    || bytes_eq word (codes "places")
    || bytes_eq word (codes "unit")
    || bytes_eq word (codes "order")

-- a platform is five settings: `vt-d` what Intel VT-d on PCI Express is, `free` what holds where nothing is said
abbrev pub platform_set : Settings → List (List ℕ) → Result Settings DriverWrong
platform_set settings words =
    if says 1 (codes "vt-d") words
    then Ok (record settings { link = Posted; all_fence = false; drain_empties = false; has_caches = true; is_loose = true }) else
    if says 1 (codes "free") words
    then Ok (record settings { link = Free; all_fence = true; drain_empties = true; has_caches = false; is_loose = false }) else
    wrong_at 1 wanted.Platform

abbrev pub link_set : Settings → List (List ℕ) → Result Settings DriverWrong
link_set settings words =
    if says 1 (codes "free") words then Ok (record settings { link = Free }) else
    if says 1 (codes "posted") words then Ok (record settings { link = Posted }) else
    wrong_at 1 wanted.Link

abbrev pub waits_set : Settings → List (List ℕ) → Result Settings DriverWrong
waits_set settings words =
    if says 1 (codes "fence") words then Ok (record settings { all_fence = true }) else
    if says 1 (codes "plain") words then Ok (record settings { all_fence = false }) else
    wrong_at 1 wanted.Waits

abbrev pub drain_set : Settings → List (List ℕ) → Result Settings DriverWrong
drain_set settings words =
    if says 1 (codes "empty") words then Ok (record settings { drain_empties = true }) else
    if says 1 (codes "arrived") words then Ok (record settings { drain_empties = false }) else
    wrong_at 1 wanted.Drain

abbrev pub caches_set : Settings → List (List ℕ) → Result Settings DriverWrong
caches_set settings words =
    if says 1 (codes "off") words then Ok (record settings { has_caches = false }) else
    if says 1 (codes "on") words then Ok (record settings { has_caches = true }) else
    wrong_at 1 wanted.Caches

abbrev pub stopped_set : Settings → List (List ℕ) → Result Settings DriverWrong
stopped_set settings words =
    if says 1 (codes "marker") words then Ok (record settings { stopped = Marker }) else
    if says 1 (codes "status") words then Ok (record settings { stopped = Status }) else
    if says 1 (codes "known") words then Ok (record settings { stopped = Known }) else
    wrong_at 1 wanted.Stopped

-- what becomes of ATS, page requests and bus mastering by a reset
abbrev pub enables_set : Settings → List (List ℕ) → Result Settings DriverWrong
enables_set settings words =
    if says 1 (codes "kept") words then Ok (record settings { clears_controls = false }) else
    if says 1 (codes "cleared") words then Ok (record settings { clears_controls = true }) else
    wrong_at 1 wanted.Enables

-- what becomes of an invalidation that isn't answered
abbrev pub timeouts_set : Settings → List (List ℕ) → Result Settings DriverWrong
timeouts_set settings words =
    if says 1 (codes "off") words then Ok (record settings { timeouts = timeouts.Off }) else
    if says 1 (codes "on") words then Ok (record settings { timeouts = timeouts.On }) else
    if says 1 (codes "stop") words then Ok (record settings { timeouts = timeouts.Stop }) else
    wrong_at 1 wanted.Timeouts

abbrev pub refuses_set : Settings → List (List ℕ) → Result Settings DriverWrong
refuses_set settings words =
    if says 1 (codes "drain") words then Ok (record settings { refuses_drain = true }) else wrong_at 1 wanted.Refused

-- in which order units take descriptors
abbrev pub order_set : Settings → List (List ℕ) → Result Settings DriverWrong
order_set settings words =
    if says 1 (codes "queue") words then Ok (record settings { is_loose = false }) else
    if says 1 (codes "loose") words then Ok (record settings { is_loose = true }) else
    wrong_at 1 wanted.Taken

abbrev pub allow_set : Settings → List (List ℕ) → Result Settings DriverWrong
allow_set settings words =
    if says 1 (codes "no-group") words then Ok (record settings { allows_no_group = true }) else wrong_at 1 wanted.Allowed

-- how many places the page request queue of each unit has
abbrev pub places_set : Settings → List (List ℕ) → Result Settings DriverWrong
places_set settings words = places_at 1 words >>= λ places. Ok (record settings { places = Some places })

-- what a reset leaves, what runs out of time, the order of descriptors, those that are no pair, or else by what an endpoint says that
-- it has stopped
abbrev pub set_other : Settings → List (List ℕ) → Result Settings DriverWrong
set_other settings words =
    if says 0 (codes "enables") words then enables_set settings words else
    if says 0 (codes "timeouts") words then timeouts_set settings words else
    if says 0 (codes "order") words then order_set settings words else
    if says 0 (codes "refuses") words then refuses_set settings words else
    if says 0 (codes "allow") words then allow_set settings words else
    if says 0 (codes "places") words then places_set settings words else
    stopped_set settings words

abbrev pub set : Settings → List (List ℕ) → Result Settings DriverWrong
set settings words =
    if says 0 (codes "platform") words then platform_set settings words else
    if says 0 (codes "link") words then link_set settings words else
    if says 0 (codes "waits") words then waits_set settings words else
    if says 0 (codes "drain") words then drain_set settings words else
    if says 0 (codes "caches") words then caches_set settings words else
    set_other settings words

abbrev pub setting_line : Settings → List (List ℕ) → Result Settings DriverWrong
setting_line settings words = do
  more ← set settings words
  _ ← no_more 2 words
  Ok more

-- ---- `workers CODE ..`: success and invalid come to the same

abbrev pub no_workers : Workers
no_workers = record { are_there = false; answer = false; fail = false }

abbrev pub with_code : (at : ℕ) → Workers → List (List ℕ) → Result Workers DriverWrong
with_code at workers words =
    if says at (codes "success") words then Ok (record workers { answer = true }) else
    if says at (codes "invalid") words then Ok (record workers { answer = true }) else
    if says at (codes "failure") words then Ok (record workers { fail = true }) else
    wrong_at at wanted.Code

-- so many words from a place on
unfoldable pub codes_from : (at : ℕ) → Workers → (rest : List (List ℕ)) → List (List ℕ) → Result Workers DriverWrong
codes_from at workers [] words = Ok workers
codes_from at workers (word ∷ rest) words = with_code at workers words >>= λ more. codes_from (at + 1) more rest words

abbrev pub workers_of : List (List ℕ) → Result Workers DriverWrong
workers_of words =
    if has_word 1 words
    then codes_from 1 (record { are_there = true; answer = false; fail = false }) (drop 1 words) words
    else wrong_at 1 wanted.Code

-- ---- `device E PART ..`

-- what an endpoint was told; its pages may be those of all `pte` lines
pub record DeviceSaid : Type 0 where
  pub is_told : Bool
  pub budget : Budget
  pub pages : Option (List ℕ)
  pub evicts : Bool
  pub is_silent : Bool
  pub lies : Bool
  pub awaits : Bool
  pub leaves : Bool

abbrev pub untold : DeviceSaid
untold = record {
  is_told = false;
  budget = record { asks = 0; uses = 0; faults = 0 };
  pages = None;
  evicts = false;
  is_silent = false;
  lies = false;
  awaits = false;
  leaves = false;
}

abbrev pub device_seen : DeviceRead → DeviceSaid
device_seen device = record {
  is_told = device.is_told;
  budget = device.budget;
  pages = option_map (λ (pages : Vec ℕ Global). pages.items) device.pages;
  evicts = device.evicts;
  is_silent = device.is_silent;
  lies = device.lies;
  awaits = device.awaits;
  leaves = device.leaves;
}

-- a budget with what a word counts
abbrev pub counted : Budget → (count at : ℕ) → List (List ℕ) → Result Budget DriverWrong
counted budget count at words =
    if says at (codes "asks") words then Ok (record budget { asks = count }) else
    if says at (codes "uses") words then Ok (record budget { uses = count }) else
    if says at (codes "faults") words then Ok (record budget { faults = count }) else
    wrong_at at wanted.Counted

abbrev pub is_flag : (at : ℕ) → List (List ℕ) → Bool
is_flag at words =
    says at (codes "evicts") words
    || says at (codes "silent") words
    || says at (codes "lies") words
    || says at (codes "awaits") words
    || says at (codes "leaves") words

abbrev pub flagged : DeviceSaid → (at : ℕ) → List (List ℕ) → DeviceSaid
flagged device at words =
    if says at (codes "evicts") words then record device { evicts = true } else
    if says at (codes "silent") words then record device { is_silent = true } else
    if says at (codes "lies") words then record device { lies = true } else
    if says at (codes "awaits") words then record device { awaits = true } else
    record device { leaves = true }

-- all that stands behind `pages` is a page: so many words from a place on
unfoldable pub pages_by : (at : ℕ) → (pages : List ℕ) → (rest : List (List ℕ)) → List (List ℕ) → Result (List ℕ) DriverWrong
pages_by at pages [] words = Ok pages
pages_by at pages (word ∷ rest) words = appended pages (page_at at words) >>= λ more. pages_by (at + 1) more rest words

-- a page is added, or it is told what is wrong with it
abbrev pub AddsPage : Result ℕ DriverWrong → (old new : List ℕ) → Result (Unit {0}) DriverStop → Type 0
AddsPage read old new (Ok done) = appended old read ≡ Ok new
AddsPage read old new (Err why) = Fails read why

abbrev pub items_of : Vec ℕ Global → List ℕ
items_of pages = pages.items

abbrev pub pages_from : (at : ℕ) → List (List ℕ) → Result (List ℕ) DriverWrong
pages_from at words = pages_by at [] (drop at words) words

abbrev pub with_pages : DeviceSaid → (at : ℕ) → List (List ℕ) → Result DeviceSaid DriverWrong
with_pages device at words = pages_from at words >>= λ pages. Ok (record device { pages = Some pages })

-- a number with its word
abbrev pub with_count : DeviceSaid → (at : ℕ) → List (List ℕ) → Result DeviceSaid DriverWrong
with_count device at words = do
  count ← count_at at words
  budget ← counted device.budget count (at + 1) words
  Ok (record device { budget = budget })

-- a word that stands alone, or a number with the word behind it
abbrev pub part_of : DeviceSaid → (at : ℕ) → List (List ℕ) → Result DeviceSaid DriverWrong
part_of device at words = if is_flag at words then Ok (flagged device at words) else with_count device at words

-- a word that was read with the one before it says nothing more
abbrev pub word_of : (was_read : Bool) → DeviceSaid → (at : ℕ) → List (List ℕ) → Result DeviceSaid DriverWrong
word_of was_read device at words = if was_read then Ok device else part_of device at words

abbrev pub reads_next : (was_read : Bool) → (at : ℕ) → List (List ℕ) → Bool
reads_next was_read at words = not was_read && not (is_flag at words)

abbrev pub begins_pages : (was_read : Bool) → (at : ℕ) → List (List ℕ) → Bool
begins_pages was_read at words = not was_read && says at (codes "pages") words

-- the parts from a place on, where these words stand
unfoldable pub parts_by : (was_read : Bool) → DeviceSaid → (at : ℕ) → (rest : List (List ℕ)) → List (List ℕ) → Result DeviceSaid DriverWrong
parts_by was_read device at [] words = Ok device
parts_by was_read device at (word ∷ rest) words =
    if begins_pages was_read at words
    then with_pages device (at + 1) words
    else (word_of was_read device at words >>= λ more. parts_by (reads_next was_read at words) more (at + 1) rest words)

abbrev pub parts_from : DeviceSaid → (at : ℕ) → List (List ℕ) → Result DeviceSaid DriverWrong
parts_from device at words = parts_by false device at (drop at words) words

-- what was read is set, or it is told what is wrong; after want of memory nothing is said
abbrev pub Sets : Result DeviceSaid DriverWrong → (new : DeviceSaid) → Result (Unit {0}) DriverWrong → Type 0
Sets read new (Ok done) = read ≡ Ok new
Sets read new (Err wrong) = read ≡ Err wrong

abbrev pub Adds : Result DeviceSaid DriverWrong → (new : DeviceSaid) → Result (Unit {0}) DriverStop → Type 0
Adds read new (Ok done) = read ≡ Ok new
Adds read new (Err why) = Fails read why
