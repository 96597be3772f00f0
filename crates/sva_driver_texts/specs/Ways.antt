-- Whose line each one is, by threads that have numbers, and with which line a thread goes on.
use Rattle.std.specs.Prelude.{ℕ, ◌+◌, ◌==◌, ◌&&◌, not, nat_lt, if◌then◌else◌, Bool, true, false, List, [], ◌∷◌, ◌++◌, length, map, position}
use Rattle.std.specs.Prelude.{Option, Some, None, is_some, slice_get}
use Rattle.std.specs.List.{list_any}
use Rattle.std.specs.Option.{unwrap_or}
use Rattle.std.specs.Str.{bytes_eq}
use Rattle.sva_open.specs.declared.drivers.Line.{Line}
use Rattle.sva_judge.specs.Spots.{Spot}
use Rattle.sva_driver_words.specs.Awaits.{LineSaid}
use Rattle.sva_driver_words.specs.Sayings.{SayingSaid}
use Rattle.sva_driver_words.specs.Sayings.SayingSaid.{LooksSaid}
use Rattle.sva_driver_words.specs.declared.kept.Under.{Under}
use Rattle.sva_driver_texts.specs.declared.ways.Way.{Way}

-- ---- Threads, in the order in which they first have a line

abbrev pub is_thread : (thread own : List ℕ) → Bool
is_thread thread own = bytes_eq own thread

abbrev pub place_in : (threads : List (List ℕ)) → (thread : List ℕ) → Option ℕ
place_in threads thread = position (is_thread thread) threads

abbrev pub with_thread : (threads : List (List ℕ)) → (thread : List ℕ) → List (List ℕ)
with_thread threads thread = if is_some (place_in threads thread) then threads else threads ++ thread ∷ []

-- those of lines, behind others
unfoldable pub threads_by : (threads : List (List ℕ)) → List LineSaid → List (List ℕ)
threads_by threads [] = threads
threads_by threads (line ∷ lines) = threads_by (with_thread threads line.thread) lines

abbrev pub threads_of : List LineSaid → List (List ℕ)
threads_of lines = threads_by [] lines

-- the number of a thread: its place among them
abbrev pub number_in : (threads : List (List ℕ)) → (thread : List ℕ) → ℕ
number_in threads thread = unwrap_or (place_in threads thread) (length threads)

-- of each its first line
abbrev pub is_line_of : (thread : List ℕ) → LineSaid → Bool
is_line_of thread line = bytes_eq line.thread thread

abbrev pub first_of : List LineSaid → (thread : List ℕ) → Option ℕ
first_of lines thread = position (is_line_of thread) lines

abbrev pub firsts_of : List LineSaid → List (Option ℕ)
firsts_of lines = map (first_of lines) (threads_of lines)

-- ---- Ways

-- do they belong to one `if`, the one to what comes where it finds what it has to, and the other to what comes where it doesn't?
abbrev pub is_other_side : (block own : Under) → Bool
is_other_side block own = own.line == block.line && (if block.so then not own.so else own.so)

-- does one that is under these stand across from a block?
abbrev pub stands_across : (under : List Under) → (block : Under) → Bool
stands_across under block = list_any (is_other_side block) under

abbrev pub is_cut_off : (under blocks : List Under) → Bool
is_cut_off under blocks = list_any (stands_across under) blocks

-- may a thread come to a line by way of these blocks? It is its own, and stands across from none of them.
abbrev pub is_on_way : (thread : List ℕ) → (blocks : List Under) → LineSaid → Bool
is_on_way thread blocks line = is_line_of thread line && not (is_cut_off line.under blocks)

-- the first of lines, from a place on, that is such
unfoldable pub first_from : (is_such : LineSaid → Bool) → (place : ℕ) → List LineSaid → Option ℕ
first_from is_such place [] = None
first_from is_such place (line ∷ lines) = if is_such line then Some place else first_from is_such (place + 1) lines

abbrev pub looks : SayingSaid → Bool
looks (LooksSaid condition so) = true
looks _ = false

-- the blocks by way of which a thread leaves a line at a place: an `if` leads into one more
abbrev pub left_by : (place : ℕ) → LineSaid → (found : Bool) → List Under
left_by place line found =
    if looks line.saying then line.under ++ (record { line = place; so = found }) ∷ [] else line.under

abbrev pub first_behind : (place : ℕ) → LineSaid → (found : Bool) → (behind : List LineSaid) → Option ℕ
first_behind place line found behind =
    first_from (is_on_way line.thread (left_by place line found)) (place + 1) behind

-- with which of the lines behind it a thread goes on: the first that it may come to
abbrev pub next_of : (place : ℕ) → LineSaid → (behind : List LineSaid) → Option ℕ
next_of place line behind = first_behind place line true behind

-- .. and with which where it looked and didn't find what it has to
abbrev pub other_of : (place : ℕ) → LineSaid → (behind : List LineSaid) → Option ℕ
other_of place line behind = if looks line.saying then first_behind place line false behind else None

abbrev pub way_of : (threads : List (List ℕ)) → (place : ℕ) → LineSaid → (behind : List LineSaid) → Way
way_of threads place line behind = record {
  thread = number_in threads line.thread;
  next = next_of place line behind;
  other = other_of place line behind;
}

-- those of lines, from a place on
unfoldable pub ways_from : (threads : List (List ℕ)) → (place : ℕ) → List LineSaid → List Way
ways_from threads place [] = []
ways_from threads place (line ∷ behind) = way_of threads place line behind ∷ ways_from threads (place + 1) behind

abbrev pub ways_of : List LineSaid → List Way
ways_of lines = ways_from (threads_of lines) 0 lines

-- as a line that is judged has it
abbrev pub way_seen : Line → Way
way_seen line = record { thread = line.thread; next = line.next; other = line.other }

-- ---- Lines that are left out

-- has a thread gone past a place, if this is its next line?
abbrev pub is_beyond : (place : ℕ) → Option (Option ℕ) → Bool
is_beyond place None = false
is_beyond place (Some None) = true
is_beyond place (Some (Some next)) = nat_lt place next

-- has its thread gone past a line? It stands in a branch that wasn't taken, or was taken itself.
abbrev pub is_past : Spot → (place : ℕ) → Line → Bool
is_past spot place line = is_beyond place (slice_get spot.at line.thread)
