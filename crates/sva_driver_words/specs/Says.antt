-- What the line of an act says, with the units of endpoints, the lines above it and the locks and flags that they name.
use Rattle.std.specs.Prelude.{ℕ, ◌+◌, ◌||◌, ◌&&◌, not, if◌then◌else◌, Bool, true, false, List, [], ◌∷◌, ◌++◌, codes, length, position, nat_le}
use Rattle.std.specs.Prelude.{Option, Result, Ok}
use Rattle.std.specs.List.{list_any}
use Rattle.std.specs.Option.{unwrap_or}
use Rattle.std.specs.Str.{bytes_eq}
use Rattle.sva_step.specs.declared.limits.Config.{Config}
use Rattle.sva_grammar.specs.Grammar.{◌>>=◌}
use Rattle.sva_open.specs.declared.drivers.Condition.{Condition}
use Rattle.sva_open.specs.declared.drivers.Condition.TheVariants as condition
use Rattle.sva_script.specs.Names.{is_name}
use Rattle.sva_race_texts.specs.Words.{word_at}
use Rattle.sva_driver_words.specs.Faults.{act_words, wrong_at, no_more}
use Rattle.sva_driver_words.specs.Fields.{endpoint_at, has_word, pasid_at, says, some_pasid_at}
use Rattle.sva_driver_words.specs.declared.faults.BranchWanted.{BranchWanted}
use Rattle.sva_driver_words.specs.declared.faults.BranchWanted.TheVariants as branch
use Rattle.sva_driver_words.specs.declared.faults.DriverWanted.TheVariants as wanted
use Rattle.sva_driver_words.specs.declared.kept.Under.{Under}
use Rattle.sva_driver_words.specs.declared.faults.DriverWrong.{DriverWrong}
use Rattle.sva_driver_words.specs.Awaits.{LineSaid, await_line, thread_number}
use Rattle.sva_driver_words.specs.Controls.{turn_line, turns}
use Rattle.sva_driver_words.specs.Descriptors.{submit_line}
use Rattle.sva_driver_words.specs.Sayings.{SayingSaid, deliver_line, discard_line, end_line, endpoint_line, entry_line, fault_line, finish_line, forget_line}
use Rattle.sva_driver_words.specs.Sayings.{free_line, freeze_line, mark_line, page_line, pasid_line, pass_line}
use Rattle.sva_driver_words.specs.Sayings.{pump_line, replace_line, respond_line, table_line}
use Rattle.sva_driver_words.specs.Sayings.{takes_endpoint, takes_page, takes_pasid}
use Rattle.sva_driver_words.specs.Sayings.SayingSaid.{LocksSaid, LooksSaid, SetsSaid, UnlocksSaid}
use Rattle.sva_driver_words.specs.Timeouts.{expire_line, failed_at, failed_behind}

-- ---- Locks

abbrev pub is_lock_word : (word : List ℕ) → Bool
is_lock_word word = bytes_eq word (codes "lock") || bytes_eq word (codes "unlock")

-- the place of a lock or of a flag among the names so far, or that of a new one
abbrev pub place_in : (names : List (List ℕ)) → (name : List ℕ) → ℕ
place_in names name = unwrap_or (position (λ own. bytes_eq own name) names) (length names)

abbrev pub lock_said : (word : List ℕ) → (lock : ℕ) → SayingSaid
lock_said word lock = if bytes_eq word (codes "lock") then LocksSaid lock else UnlocksSaid lock

abbrev pub lock_line : List (List ℕ) → List (List ℕ) → Result SayingSaid DriverWrong
lock_line locks words =
    if is_name (word_at 1 words)
    then (no_more 2 words >>= λ done. Ok (lock_said (word_at 0 words) (place_in locks (word_at 1 words))))
    else wrong_at 1 wanted.Lock

-- the locks, with the one that a line names
abbrev pub with_lock : List (List ℕ) → List (List ℕ) → List (List ℕ)
with_lock locks words =
    if is_lock_word (word_at 0 words) && not (list_any (λ own. bytes_eq own (word_at 1 words)) locks)
    then locks ++ word_at 1 words ∷ []
    else locks

-- ---- Flags: `set NAME`, `clear NAME`

abbrev pub sets_flag : (word : List ℕ) → Bool
sets_flag word = bytes_eq word (codes "set") || bytes_eq word (codes "clear")

-- the words that stand behind `if` and are no flags
abbrev pub is_condition_word : (word : List ℕ) → Bool
is_condition_word word =
    bytes_eq word (codes "not")
    || bytes_eq word (codes "present")
    || bytes_eq word (codes "stopped")
    || bytes_eq word (codes "filed")
    || bytes_eq word (codes "queued")
    || bytes_eq word (codes "gone")
    || bytes_eq word (codes "overflow")
    || bytes_eq word (codes "failed")

abbrev pub is_flag : (word : List ℕ) → Bool
is_flag word = is_name word && not (is_condition_word word)

abbrev pub set_line : (flags : List (List ℕ)) → List (List ℕ) → Result SayingSaid DriverWrong
set_line flags words =
    if is_flag (word_at 1 words)
    then (no_more 2 words >>= λ done. Ok (SetsSaid (place_in flags (word_at 1 words)) (says 0 (codes "set") words)))
    else wrong_at 1 (wanted.Branch branch.Flag)

-- ---- What is looked at: `if NAME`, `if present E P`, `if stopped E P`, `if filed E [P]`, `if queued E [P]`, `if gone E`,
-- `if overflow E`, `if failed`, each behind `not` too

-- a flag stands alone
abbrev pub flag_at : (flags : List (List ℕ)) → (at : ℕ) → BranchWanted → List (List ℕ) → Result Condition DriverWrong
flag_at flags at want words =
    if not (is_flag (word_at at words)) then wrong_at at (wanted.Branch want) else
    if has_word (at + 1) words then wrong_at at (wanted.Branch branch.Longer) else
    Ok (condition.Flag (place_in flags (word_at at words)))

abbrev pub pasid_looked : Config → (at : ℕ) → List (List ℕ) → Result (ℕ × ℕ) DriverWrong
pasid_looked config at words = do
  endpoint ← endpoint_at config (at + 1) words
  pasid ← pasid_at (at + 2) words
  _ ← no_more (at + 3) words
  Ok (endpoint, pasid)

abbrev pub some_looked : Config → (at : ℕ) → List (List ℕ) → Result (ℕ × Option ℕ) DriverWrong
some_looked config at words = do
  endpoint ← endpoint_at config (at + 1) words
  pasid ← some_pasid_at (at + 2) words
  _ ← no_more (at + 3) words
  Ok (endpoint, pasid)

abbrev pub endpoint_looked : Config → (at : ℕ) → List (List ℕ) → Result ℕ DriverWrong
endpoint_looked config at words = do
  endpoint ← endpoint_at config (at + 1) words
  _ ← no_more (at + 2) words
  Ok endpoint

-- of `failed` it is said what that looks at, if it may stand here
abbrev pub other_at : Config → (flags : List (List ℕ)) → (failed : Option Condition) → (at : ℕ) → BranchWanted → List (List ℕ)
    → Result Condition DriverWrong
other_at config flags failed at want words =
    if says at (codes "gone") words then (endpoint_looked config at words >>= λ endpoint. Ok (condition.Gone endpoint)) else
    if says at (codes "overflow") words then (endpoint_looked config at words >>= λ endpoint. Ok (condition.Overflowed endpoint)) else
    if says at (codes "failed") words then failed_at failed at words else
    flag_at flags at want words

abbrev pub condition_at : Config → (flags : List (List ℕ)) → (failed : Option Condition) → (at : ℕ) → BranchWanted → List (List ℕ)
    → Result Condition DriverWrong
condition_at config flags failed at want words =
    if says at (codes "present") words then (pasid_looked config at words >>= λ its. Ok (condition.Present its.0 its.1)) else
    if says at (codes "stopped") words then (pasid_looked config at words >>= λ its. Ok (condition.Stopped its.0 its.1)) else
    if says at (codes "filed") words then (some_looked config at words >>= λ its. Ok (condition.Filed its.0 its.1)) else
    if says at (codes "queued") words then (some_looked config at words >>= λ its. Ok (condition.Queued its.0 its.1)) else
    other_at config flags failed at want words

abbrev pub looked : Config → (flags : List (List ℕ)) → (failed : Option Condition) → List (List ℕ) → Result SayingSaid DriverWrong
looked config flags failed words =
    if says 1 (codes "not") words
    then (condition_at config flags failed 2 branch.BehindNot words >>= λ its. Ok (LooksSaid its false))
    else (condition_at config flags failed 1 branch.Condition words >>= λ its. Ok (LooksSaid its true))

-- it stands in fewer than 16 blocks
abbrev pub look_line : Config → (lines : List LineSaid) → (flags : List (List ℕ)) → (under : List Under) → (thread : List ℕ)
    → List (List ℕ) → Result SayingSaid DriverWrong
look_line config lines flags under thread words =
    if nat_le 16 (length under)
    then wrong_at 0 (wanted.Branch branch.Few)
    else looked config flags (failed_behind thread under lines) words

-- does a line name a flag that is set, cleared or looked at? Its word, which is the first behind `not` where that stands there
abbrev pub flag_place : List (List ℕ) → ℕ
flag_place words = if says 1 (codes "not") words then 2 else 1

abbrev pub names_flag : List (List ℕ) → Bool
names_flag words =
    sets_flag (word_at 0 words) || (says 0 (codes "if") words && not (is_condition_word (word_at (flag_place words) words)))

-- the flags, with the one that a line names
abbrev pub with_flag : (flags : List (List ℕ)) → List (List ℕ) → List (List ℕ)
with_flag flags words =
    if names_flag words && not (list_any (λ own. bytes_eq own (word_at (flag_place words) words)) flags)
    then flags ++ word_at (flag_place words) words ∷ []
    else flags

-- ---- An act, by its first word

abbrev pub is_act : (word : List ℕ) → Bool
is_act word = list_any (bytes_eq word) act_words

-- of a flag or a lock, of what is looked at, or of nothing
abbrev pub own_by : Config → (lines : List LineSaid) → (locks flags : List (List ℕ)) → (under : List Under) → (thread : List ℕ)
    → List (List ℕ) → (word : List ℕ) → Result SayingSaid DriverWrong
own_by config lines locks flags under thread words word =
    if bytes_eq word (codes "mark") then mark_line words else
    if sets_flag word then set_line flags words else
    if bytes_eq word (codes "if") then look_line config lines flags under thread words else
    lock_line locks words

-- of link, units and endpoints, of an entry that is replaced, or else
abbrev pub other_by : Config → (lines : List LineSaid) → (locks flags : List (List ℕ)) → (under : List Under) → (thread : List ℕ)
    → List (List ℕ) → (word : List ℕ) → Result SayingSaid DriverWrong
other_by config lines locks flags under thread words word =
    if bytes_eq word (codes "fault") then fault_line config words else
    if bytes_eq word (codes "end") then end_line config words else
    if bytes_eq word (codes "finish") then finish_line config words else
    if bytes_eq word (codes "pass") then pass_line config words else
    if bytes_eq word (codes "deliver") then deliver_line config words else
    if bytes_eq word (codes "forget") then forget_line config words else
    if bytes_eq word (codes "replace") then replace_line config words else
    if bytes_eq word (codes "discard") then discard_line config words else
    if bytes_eq word (codes "pump") then pump_line config words else
    if bytes_eq word (codes "expire") then expire_line config words else
    if turns word then turn_line config words else
    own_by config lines locks flags under thread words word

-- all but `submit`
abbrev pub plain_by : Config → (units : List ℕ) → (lines : List LineSaid) → (locks flags : List (List ℕ)) → (under : List Under)
    → (thread : List ℕ) → List (List ℕ) → (word : List ℕ) → Result SayingSaid DriverWrong
plain_by config units lines locks flags under thread words word =
    if takes_endpoint word then endpoint_line config words else
    if takes_pasid word then pasid_line config (thread_number thread lines) (length lines) words else
    if takes_page word then page_line config words else
    if bytes_eq word (codes "pte") then table_line config words else
    if bytes_eq word (codes "entry") then entry_line config words else
    if bytes_eq word (codes "await") then await_line config units under thread lines words else
    if bytes_eq word (codes "respond") then respond_line config words else
    if bytes_eq word (codes "free") then free_line config words else
    if bytes_eq word (codes "freeze") then freeze_line config words else
    other_by config lines locks flags under thread words word

-- the waits of a line have its place for a name
abbrev pub saying_by : Config → (units : List ℕ) → (lines : List LineSaid) → (locks flags : List (List ℕ)) → (under : List Under)
    → (thread : List ℕ) → List (List ℕ) → (word : List ℕ) → Result SayingSaid DriverWrong
saying_by config units lines locks flags under thread words word =
    if bytes_eq word (codes "submit")
    then submit_line config units (length lines) words
    else plain_by config units lines locks flags under thread words word
