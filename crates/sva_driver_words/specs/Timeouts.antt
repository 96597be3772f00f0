-- An invalidation that runs out of time: `expire E T`; and what `if failed` looks at: the waits that this thread has awaited last.
use Rattle.std.specs.Prelude.{ℕ, ◌+◌, ◌==◌, ◌&&◌, ◌||◌, not, if◌then◌else◌, Bool, true, false, List, slice_get, Option, Some, None, Result, Ok}
use Rattle.std.specs.List.{list_all, list_any}
use Rattle.std.specs.Str.{bytes_eq}
use Rattle.sva_step.specs.declared.limits.Config.{Config}
use Rattle.sva_grammar.specs.Grammar.{◌>>=◌}
use Rattle.sva_open.specs.declared.acts.LocalAct.TheVariants as local
use Rattle.sva_open.specs.declared.drivers.Condition.{Condition}
use Rattle.sva_open.specs.declared.drivers.Condition.TheVariants as condition
use Rattle.sva_driver_words.specs.Awaits.{LineSaid, last_from, stands_in}
use Rattle.sva_driver_words.specs.Faults.{wrong_at, no_more}
use Rattle.sva_driver_words.specs.Fields.{endpoint_at, itag_at}
use Rattle.sva_driver_words.specs.Sayings.{SayingSaid, did}
use Rattle.sva_driver_words.specs.Sayings.SayingSaid.{AwaitsWaitsSaid, LooksSaid}
use Rattle.sva_driver_words.specs.declared.kept.Under.{Under}
use Rattle.sva_driver_words.specs.declared.faults.BranchWanted.TheVariants as branch
use Rattle.sva_driver_words.specs.declared.faults.DriverWanted.TheVariants as wanted
use Rattle.sva_driver_words.specs.declared.faults.DriverWrong.{DriverWrong}

-- ---- `expire E T`: the endpoint may leave unanswered what has come to it

abbrev pub expire_line : Config → List (List ℕ) → Result SayingSaid DriverWrong
expire_line config words = do
  endpoint ← endpoint_at config 1 words
  itag ← itag_at 2 words
  _ ← no_more 3 words
  Ok (did endpoint (local.Expire itag true))

-- ---- `failed`: were the waits aborted that this thread has awaited last?

abbrev pub awaits_waits : SayingSaid → Bool
awaits_waits (AwaitsWaitsSaid endpoint line) = true
awaits_waits _ = false

-- does a line that stands in these blocks stand in the other branch of that one? No way leads from the one to the other then.
abbrev pub is_across : Under → Under → Bool
is_across block own = own.line == block.line && (if block.so then not own.so else own.so)

abbrev pub stands_across : (under : List Under) → Under → Bool
stands_across under block = list_any (is_across block) under

-- does a line of this thread await waits, and does a way lead from it to what stands in these blocks?
abbrev pub awaits_before : (thread : List ℕ) → (under : List Under) → LineSaid → Bool
awaits_before thread under line =
    bytes_eq line.thread thread && (awaits_waits line.saying && not (list_any (stands_across under) line.under))

abbrev pub last_await : (thread : List ℕ) → (under : List Under) → List LineSaid → Option ℕ
last_await thread under lines = last_from (awaits_before thread under) 0 None lines

-- is a branch of an `if` the one that is gone where the waits were aborted that were awaited last before it?
abbrev pub asks_failed : (so : Bool) → SayingSaid → Bool
asks_failed so (LooksSaid (condition.Failed endpoint line) holds) = if so then holds else not holds
asks_failed so _ = false

abbrev pub is_where_failed : (so : Bool) → Option LineSaid → Bool
is_where_failed so None = false
is_where_failed so (Some line) = asks_failed so line.saying

-- does the line at a place stand in a block?
abbrev pub is_in_block : Under → Option LineSaid → Bool
is_in_block block None = false
is_in_block block (Some line) = stands_in line.under block

-- Waits that are submitted in such a branch, and awaited there: on a way that leaves it out none was aborted, neither of those that were
-- awaited before it nor of these.
abbrev pub is_retry : List LineSaid → (line : ℕ) → Under → Bool
is_retry lines line block = is_where_failed block.so (slice_get lines block.line) && is_in_block block (slice_get lines line)

abbrev pub is_of_each_way : List LineSaid → (under : List Under) → (line : ℕ) → Under → Bool
is_of_each_way lines under line block = stands_in under block || is_retry lines line block

-- the last one, if it says of each way to here whether the waits were aborted that were awaited last: else on another way another line
-- awaited waits last, or none
abbrev pub failed_of : List LineSaid → (under : List Under) → (blocks : List Under) → SayingSaid → Option Condition
failed_of lines under blocks (AwaitsWaitsSaid endpoint line) =
    if list_all (is_of_each_way lines under line) blocks then Some (condition.Failed endpoint line) else None
failed_of lines under blocks _ = None

abbrev pub failed_in : List LineSaid → (under : List Under) → Option LineSaid → Option Condition
failed_in lines under None = None
failed_in lines under (Some line) = failed_of lines under line.under line.saying

abbrev pub failed_from : (under : List Under) → List LineSaid → Option ℕ → Option Condition
failed_from under lines None = None
failed_from under lines (Some place) = failed_in lines under (slice_get lines place)

abbrev pub failed_behind : (thread : List ℕ) → (under : List Under) → List LineSaid → Option Condition
failed_behind thread under lines = failed_from under lines (last_await thread under lines)

-- behind the word stands nothing
abbrev pub failed_or : (at : ℕ) → Option Condition → Result Condition DriverWrong
failed_or at None = wrong_at at (wanted.Branch branch.AwaitOnEachWay)
failed_or at (Some its) = Ok its

abbrev pub failed_at : Option Condition → (at : ℕ) → List (List ℕ) → Result Condition DriverWrong
failed_at failed at words = no_more (at + 1) words >>= λ done. failed_or at failed
