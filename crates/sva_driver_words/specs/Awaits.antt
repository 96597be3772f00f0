-- What a line awaits.
use Rattle.std.specs.Prelude.{ℕ, suc, ◌+◌, ◌==◌, ◌&&◌, not, if◌then◌else◌, Bool, true, false, List, [], ◌∷◌, codes, length}
use Rattle.std.specs.Prelude.{position, slice_get, Option, Some, None, Result, Ok}
use Rattle.std.specs.List.{list_all, list_any}
use Rattle.std.specs.Str.{bytes_eq}
use Rattle.sva_step.specs.declared.limits.Config.{Config}
use Rattle.sva_grammar.specs.Grammar.{◌>>=◌}
use Rattle.sva_open.specs.declared.acts.LocalAct.TheVariants as local
use Rattle.sva_open.specs.declared.descriptors.Descriptor.{Descriptor}
use Rattle.sva_open.specs.declared.descriptors.Descriptor.TheVariants as descriptor
use Rattle.sva_race_texts.specs.Words.{word_at}
use Rattle.sva_driver_words.specs.Faults.{wrong_at, no_more}
use Rattle.sva_driver_words.specs.Fields.{endpoint_at, has_word, pasid_at, says, some_pasid_at}
use Rattle.sva_driver_words.specs.Sayings.{SayingSaid, did, saying_seen}
use Rattle.sva_driver_words.specs.Sayings.SayingSaid.{SubmitsSaid, AwaitsLineSaid, AwaitsWaitsSaid}
use Rattle.sva_driver_words.specs.Units.{is_below}
use Rattle.sva_driver_words.specs.declared.kept.LineRead.{LineRead}
use Rattle.sva_driver_words.specs.declared.kept.Under.{Under}
use Rattle.sva_driver_words.specs.declared.faults.BranchWanted.TheVariants as branch
use Rattle.sva_driver_words.specs.declared.faults.DriverWanted.TheVariants as wanted
use Rattle.sva_driver_words.specs.declared.faults.DriverWrong.{DriverWrong}

-- a line that was read: its number, the blocks in which it stands, the outermost first, its name and its thread, which may be empty,
-- its words behind its name, and what it says
pub record LineSaid : Type 0 where
  pub number : ℕ
  pub under : List Under
  pub name : List ℕ
  pub thread : List ℕ
  pub text : List ℕ
  pub saying : SayingSaid

-- as code keeps it
abbrev pub line_seen : LineRead → LineSaid
line_seen line = record {
  number = line.number;
  under = line.under.items;
  name = line.name.items;
  thread = line.thread.items;
  text = line.text.items;
  saying = saying_seen line.saying;
}

-- ---- waits that lines above submitted

abbrev pub is_a_wait : Descriptor → Bool
is_a_wait (descriptor.Wait name drain fence) = true
is_a_wait _ = false

-- the endpoint at which it submits a wait
abbrev pub wait_at : SayingSaid → Option ℕ
wait_at (SubmitsSaid endpoint list) = if list_any is_a_wait list then Some endpoint else None
wait_at _ = None

-- a wait is of the unit: it may be submitted at another endpoint below it
abbrev pub is_of_its_unit : (units : List ℕ) → (endpoint : ℕ) → Option ℕ → Bool
is_of_its_unit units endpoint None = false
is_of_its_unit units endpoint (Some own) = is_below units endpoint own

abbrev pub submits_there : (units : List ℕ) → (thread : List ℕ) → (endpoint : ℕ) → LineSaid → Bool
submits_there units thread endpoint line =
    bytes_eq line.thread thread && is_of_its_unit units endpoint (wait_at line.saying)

-- the place of the last one that is such, or the one found before
unfoldable pub last_from : {A : Type 0} → (A → Bool) → (place : ℕ) → (found : Option ℕ) → List A → Option ℕ
last_from is_such place found [] = found
last_from is_such place found (line ∷ lines) = last_from is_such (place + 1) (if is_such line then Some place else found) lines

abbrev pub last_wait : (units : List ℕ) → (thread : List ℕ) → (endpoint : ℕ) → List LineSaid → Option ℕ
last_wait units thread endpoint lines = last_from (submits_there units thread endpoint) 0 None lines

-- does a line that stands in these blocks stand in that one?
abbrev pub is_block : Under → Under → Bool
is_block block own = own.line == block.line && (if block.so then own.so else not own.so)

abbrev pub stands_in : (under : List Under) → Under → Bool
stands_in under block = list_any (is_block block) under

-- does a line that stands in these blocks stand in each block in which the other one stands?
abbrev pub stands_with : (under : List Under) → Option LineSaid → Bool
stands_with under None = false
stands_with under (Some line) = list_all (stands_in under) line.under

-- `await wait E`: the last wait that a line above in this thread submitted to its unit; it is submitted on each way to here
abbrev pub awaits_last : (endpoint : ℕ) → (under : List Under) → List LineSaid → Option ℕ → Result SayingSaid DriverWrong
awaits_last endpoint under lines None = wrong_at 2 wanted.WaitAbove
awaits_last endpoint under lines (Some place) =
    if stands_with under (slice_get lines place)
    then Ok (AwaitsWaitsSaid endpoint place)
    else wrong_at 2 (wanted.Branch branch.OnEachWay)

abbrev pub await_wait : Config → (units : List ℕ) → (under : List Under) → (thread : List ℕ) → List LineSaid → List (List ℕ)
    → Result SayingSaid DriverWrong
await_wait config units under thread lines words = do
  endpoint ← endpoint_at config 2 words
  _ ← no_more 3 words
  awaits_last endpoint under lines (last_wait units thread endpoint lines)

-- ---- `await NAME`, of a line above: its waits, if it submits some; else that it was taken

abbrev pub is_named : (name : List ℕ) → LineSaid → Bool
is_named name line = bytes_eq line.name name

abbrev pub awaits_by : (place : ℕ) → Option ℕ → SayingSaid
awaits_by place None = AwaitsLineSaid place
awaits_by place (Some endpoint) = AwaitsWaitsSaid endpoint place

abbrev pub awaits_line : (place : ℕ) → Option LineSaid → Result SayingSaid DriverWrong
awaits_line place None = wrong_at 1 wanted.Awaited
awaits_line place (Some line) = Ok (awaits_by place (wait_at line.saying))

abbrev pub awaits_at : List LineSaid → Option ℕ → Result SayingSaid DriverWrong
awaits_at lines None = wrong_at 1 wanted.Awaited
awaits_at lines (Some place) = awaits_line place (slice_get lines place)

abbrev pub awaits_name : List LineSaid → List (List ℕ) → Result SayingSaid DriverWrong
awaits_name lines words = do
  said ← awaits_at lines (position (is_named (word_at 1 words)) lines)
  _ ← no_more 2 words
  Ok said

abbrev pub await_named : List LineSaid → List (List ℕ) → Result SayingSaid DriverWrong
await_named lines words = if has_word 1 words then awaits_name lines words else wrong_at 1 wanted.Awaited

-- ---- threads by number: 0 is before all of them, any other is one more than the place of its first line

abbrev pub is_of_thread : (thread : List ℕ) → LineSaid → Bool
is_of_thread thread line = bytes_eq line.thread thread

abbrev pub number_by : (count : ℕ) → Option ℕ → ℕ
number_by count None = suc count
number_by count (Some place) = suc place

abbrev pub thread_number : (thread : List ℕ) → List LineSaid → ℕ
thread_number [] lines = 0
thread_number thread lines = number_by (length lines) (position (is_of_thread thread) lines)

-- ---- `await passed E P`: the barriers of this thread and of those before all threads

abbrev pub await_passed : Config → (thread : ℕ) → List (List ℕ) → Result SayingSaid DriverWrong
await_passed config thread words = do
  endpoint ← endpoint_at config 2 words
  pasid ← pasid_at 3 words
  _ ← no_more 4 words
  Ok (did endpoint (local.AwaitPassed pasid thread))

-- ---- `await stopped E P`, `await queue E [P]`, `await groups E [P]`, `await reset E`, `await idle E`, `await gone E`

abbrev pub await_stopped : Config → List (List ℕ) → Result SayingSaid DriverWrong
await_stopped config words = do
  endpoint ← endpoint_at config 2 words
  pasid ← pasid_at 3 words
  _ ← no_more 4 words
  Ok (did endpoint (local.AwaitStopped pasid))

abbrev pub await_queue_of : (endpoint : ℕ) → List (List ℕ) → Result SayingSaid DriverWrong
await_queue_of endpoint words = do
  pasid ← pasid_at 3 words
  _ ← no_more 4 words
  Ok (did endpoint (local.AwaitQueueOf pasid))

abbrev pub await_queue : Config → List (List ℕ) → Result SayingSaid DriverWrong
await_queue config words = do
  endpoint ← endpoint_at config 2 words
  if has_word 3 words then await_queue_of endpoint words else Ok (did endpoint local.AwaitQueue)

abbrev pub await_groups : Config → List (List ℕ) → Result SayingSaid DriverWrong
await_groups config words = do
  endpoint ← endpoint_at config 2 words
  pasid ← some_pasid_at 3 words
  _ ← no_more 4 words
  Ok (did endpoint (local.AwaitGroups pasid))

abbrev pub await_reset : Config → List (List ℕ) → Result SayingSaid DriverWrong
await_reset config words = do
  endpoint ← endpoint_at config 2 words
  _ ← no_more 3 words
  Ok (did endpoint local.AwaitResets)

abbrev pub await_idle : Config → List (List ℕ) → Result SayingSaid DriverWrong
await_idle config words = do
  endpoint ← endpoint_at config 2 words
  _ ← no_more 3 words
  Ok (did endpoint local.AwaitIdle)

abbrev pub await_gone : Config → List (List ℕ) → Result SayingSaid DriverWrong
await_gone config words = do
  endpoint ← endpoint_at config 2 words
  _ ← no_more 3 words
  Ok (did endpoint local.AwaitGone)

abbrev pub await_line : Config → (units : List ℕ) → (under : List Under) → (thread : List ℕ) → List LineSaid → List (List ℕ)
    → Result SayingSaid DriverWrong
await_line config units under thread lines words =
    if says 1 (codes "wait") words then await_wait config units under thread lines words else
    if says 1 (codes "stopped") words then await_stopped config words else
    if says 1 (codes "passed") words then await_passed config (thread_number thread lines) words else
    if says 1 (codes "queue") words then await_queue config words else
    if says 1 (codes "groups") words then await_groups config words else
    if says 1 (codes "reset") words then await_reset config words else
    if says 1 (codes "idle") words then await_idle config words else
    if says 1 (codes "gone") words then await_gone config words else
    await_named lines words
