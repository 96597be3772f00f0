-- The text of a line of a driver that is wrong, as that of a race's line: `line L: 'WORD': wanted ..`.
use Rattle.std.specs.Prelude.{ℕ, ◌+◌, nat_lt, if◌then◌else◌, List, [], ◌∷◌, ◌++◌, codes, decimal, length}
use Rattle.std.specs.Prelude.{slice_get, Option, Some, None, Result, Ok, Err}
use Rattle.sva_script.specs.declared.faults.Wanted.TheVariants as script
use Rattle.sva_script.specs.Names.{Known, near_name}
use Rattle.sva_race_texts.specs.ScriptFaults.{near_text, or_else, shown_word}
use Rattle.sva_script.specs.Near.{near_among}
use Rattle.sva_script.specs.Reserved.{kind_words}
use Rattle.sva_race_texts.specs.Faults as races
use Rattle.sva_race_texts.specs.declared.faults.RaceWanted.TheVariants as race
use Rattle.sva_driver_words.specs.declared.faults.BranchWanted.{BranchWanted}
use Rattle.sva_driver_words.specs.declared.faults.BranchWanted.TheVariants as branch
use Rattle.sva_driver_words.specs.declared.faults.DriverWanted.{DriverWanted}
use Rattle.sva_driver_words.specs.declared.faults.DriverWanted.TheVariants as wanted
use Rattle.sva_driver_words.specs.declared.faults.SubmitWanted.{SubmitWanted}
use Rattle.sva_driver_words.specs.declared.faults.SubmitWanted.TheVariants as submit
use Rattle.sva_driver_words.specs.declared.faults.DriverWrong.{DriverWrong}
use Rattle.sva_driver_words.specs.declared.written.WrittenWanted.{WrittenWanted}
use Rattle.sva_driver_words.specs.declared.written.WrittenWanted.TheVariants as written
use Rattle.sva_driver_words.specs.Needs.{need_text}
use Rattle.sva_driver_words.specs.Written.{written_text}

-- what a line is read as that is wrong at this word
abbrev pub wrong_at : {A : Type 0} → (at : ℕ) → DriverWanted → Result A DriverWrong
wrong_at at wanted = Err (record { at = at; wanted = wanted })

-- no word stands behind so many
abbrev pub no_more : (count : ℕ) → List (List ℕ) → Result (Unit {0}) DriverWrong
no_more count words = if nat_lt count (length words) then wrong_at count (wanted.Race (race.Script script.NoMore)) else Ok tt

-- words that begin at a place of their line: what is wrong there is told by the line's places
abbrev pub placed : {A : Type 0} → (start : ℕ) → Result A DriverWrong → Result A DriverWrong
placed start (Ok read) = Ok read
placed start (Err wrong) = wrong_at (start + wrong.at) wrong.wanted

-- ---- What was wanted; what a race's line wants is told as of a race

-- of descriptors
abbrev pub submit_text : SubmitWanted → List ℕ
submit_text submit.Few = codes "no more than 64 descriptors"
submit_text submit.PlusOrEnd = codes "+ or no further word"
submit_text submit.OfOrPlus = codes "of, + or no further word"
submit_text submit.PageOrPlus = codes "the number of a page, of or +"
submit_text submit.Beside = codes "an endpoint of the same unit"
submit_text submit.FlagOrPlus = codes "drain, fence or +"
submit_text submit.FenceOrPlus = codes "fence or +"
submit_text submit.DrainOrPlus = codes "drain or +"

-- of a line of a branch, or of one that names a flag
abbrev pub branch_text : BranchWanted → List ℕ
branch_text branch.Flag = codes "the name of a flag"
branch_text branch.Condition = codes "a flag, not, present, stopped, filed, queued, gone, overflow or failed"
branch_text branch.BehindNot = codes "a flag, present, stopped, filed, queued, gone, overflow or failed"
branch_text branch.Longer = codes "a condition of more words, or no word behind a flag"
branch_text branch.Few = codes "no more than 16 blocks within one another"
branch_text branch.OnEachWay = codes "an endpoint whose last wait above in this thread is submitted on each way to here"
branch_text branch.AwaitOnEachWay = codes "an await of a wait above in this thread, the last on each way to here"
branch_text branch.If = codes "an if above in this thread"
branch_text branch.NoElse = codes "no second else"
branch_text branch.End = codes "an end below in this thread"

abbrev pub wanted_text : DriverWanted → List ℕ
wanted_text (wanted.Race want) = codes ""
wanted_text wanted.Before = codes "an act, a setting, workers, device or race"
wanted_text wanted.Behind = codes "an act, thread, workers or device"
wanted_text wanted.Act = codes "an act"
wanted_text wanted.NoRace = codes "no second race"
wanted_text wanted.Earlier = codes "an act or race: settings stand before the first act"
wanted_text wanted.NoAnswer = codes "no answer: a driver is judged, not compared"
wanted_text wanted.Ahead = codes "another line: platform stands before the other settings"
wanted_text wanted.OneLine = codes "one such line"
wanted_text wanted.Platform = codes "vt-d or free"
wanted_text wanted.Link = codes "free or posted"
wanted_text wanted.Waits = codes "fence or plain"
wanted_text wanted.Drain = codes "empty or arrived"
wanted_text wanted.Caches = codes "off or on"
wanted_text wanted.Taken = codes "queue or loose"
wanted_text wanted.Stopped = codes "marker, status or known"
wanted_text wanted.Refused = codes "drain"
wanted_text wanted.Allowed = codes "no-group"
wanted_text wanted.Enables = codes "kept or cleared"
wanted_text wanted.Timeouts = codes "off, on or stop"
wanted_text wanted.Places = codes "a number, 1 to 65535"
wanted_text wanted.Unshared = codes "another endpoint: each stands below one unit"
wanted_text wanted.Frame = codes "a frame of the config"
wanted_text wanted.Freed = codes "a frame of the config, space, domain or pasid"
wanted_text wanted.Pasid = codes "a PASID, 0 to 32"
wanted_text wanted.Space = codes "a space, 0 to 63"
wanted_text wanted.SpaceOrNone = codes "a space, 0 to 63, or none"
wanted_text wanted.FrameOrNone = codes "a frame of the config or none"
wanted_text wanted.Page = codes "the number of a page"
wanted_text wanted.Order = codes "an order, 0 to 9"
wanted_text wanted.Index = codes "the index of a group"
wanted_text wanted.Itag = codes "an ITag, 0 to 31"
wanted_text wanted.Place = codes "a place in the queue, 0 to 63"
wanted_text wanted.Count = codes "a number, 0 to 65535"
wanted_text wanted.Access = codes "r or w"
wanted_text wanted.Asked = codes "r, w or rw"
wanted_text wanted.GroupOrNew = codes "new or the index of a group"
wanted_text wanted.OnOrOff = codes "on or off"
wanted_text wanted.MoreOrLast = codes "more or last"
wanted_text wanted.Code = codes "success, invalid or failure"
wanted_text wanted.Kind = codes "the kind of a message"
wanted_text (wanted.Submit want) = submit_text want
wanted_text wanted.Descriptor = codes "range, pasid, iotlb, entry or wait"
wanted_text wanted.Awaited = codes "wait, stopped, passed, queue, groups, reset, idle, gone or the name of a line above"
wanted_text wanted.WaitAbove = codes "an endpoint at which a line above in this thread submits a wait"
wanted_text wanted.Lock = codes "the name of a lock"
wanted_text (wanted.Branch want) = branch_text want
wanted_text (wanted.Written want) = written_text want
wanted_text wanted.Part = codes "a number, 0 to 65535, evicts, silent, lies, awaits, leaves or pages"
wanted_text wanted.Counted = codes "asks, uses or faults"
wanted_text (wanted.Permitted need) = codes "an act that is permitted now"

-- ---- The hint

unfoldable pub act_words : List (List ℕ)
act_words =
    codes "pte" ∷ codes "entry" ∷ codes "replace" ∷ codes "start" ∷ codes "stop" ∷ codes "reset" ∷ codes "submit" ∷
    codes "await" ∷ codes "serve" ∷ codes "respond" ∷ codes "discard" ∷ codes "close" ∷ codes "open" ∷ codes "skip" ∷ codes "free" ∷
    codes "freeze" ∷ codes "lock" ∷ codes "unlock" ∷ codes "mark" ∷ codes "ask" ∷ codes "use" ∷ codes "end" ∷
    codes "evict" ∷ codes "fault" ∷ codes "finish" ∷ codes "quit" ∷ codes "pump" ∷ codes "write" ∷ codes "deliver" ∷ codes "forget" ∷
    codes "set" ∷ codes "clear" ∷ codes "if" ∷ codes "ats" ∷ codes "pri" ∷ codes "mastering" ∷ codes "gone" ∷
    codes "resume" ∷ codes "expire" ∷ codes "barrier" ∷ codes "pass" ∷ []

unfoldable pub setting_words : List (List ℕ)
setting_words =
    codes "platform" ∷ codes "link" ∷ codes "waits" ∷ codes "drain" ∷ codes "caches" ∷ codes "stopped" ∷
    codes "refuses" ∷ codes "allow" ∷ codes "enables" ∷ codes "timeouts" ∷ codes "unit" ∷ codes "order" ∷ codes "places" ∷ []

-- the words that stand behind `platform`
unfoldable pub platform_words : List (List ℕ)
platform_words = codes "vt-d" ∷ codes "free" ∷ []

-- the words that begin another line before `race`, and behind it
unfoldable pub before_words : List (List ℕ)
before_words =
    codes "workers" ∷ codes "device" ∷ codes "race" ∷ codes "else" ∷ codes "def" ∷ codes "call" ∷ codes "repeat" ∷ []

unfoldable pub behind_words : List (List ℕ)
behind_words =
    codes "thread" ∷ codes "workers" ∷ codes "device" ∷ codes "else" ∷ codes "def" ∷ codes "call" ∷ codes "repeat" ∷ []

-- the kinds of messages that scripts don't have
unfoldable pub more_kind_words : List (List ℕ)
more_kind_words = codes "status" ∷ codes "barrier" ∷ codes "passed" ∷ []

unfoldable pub descriptor_words : List (List ℕ)
descriptor_words = codes "range" ∷ codes "pasid" ∷ codes "iotlb" ∷ codes "entry" ∷ codes "wait" ∷ []

-- the words that begin what is freed, where it isn't a frame
unfoldable pub freed_words : List (List ℕ)
freed_words = codes "space" ∷ codes "domain" ∷ codes "pasid" ∷ []

-- the words that stand behind `await`, where a name doesn't
unfoldable pub awaited_words : List (List ℕ)
awaited_words =
    codes "wait" ∷ codes "stopped" ∷ codes "passed" ∷ codes "queue" ∷ codes "groups" ∷ codes "reset" ∷ codes "idle" ∷ codes "gone" ∷ []

-- the words that stand behind `if`, where a flag doesn't
unfoldable pub condition_words : List (List ℕ)
condition_words =
    codes "not" ∷ codes "present" ∷ codes "stopped" ∷ codes "filed" ∷ codes "queued" ∷ codes "gone" ∷ codes "failed" ∷
    codes "overflow" ∷ []

-- where what is looked at was wanted
abbrev pub near_branch : (word : List ℕ) → BranchWanted → Option (List ℕ)
near_branch word branch.Condition = near_among condition_words word
near_branch word branch.BehindNot = near_among condition_words word
near_branch word branch.Longer = near_among condition_words word
near_branch word _ = None

-- where a definition was wanted, the names are those of definitions
abbrev pub near_written : Known → (word : List ℕ) → WrittenWanted → Option (List ℕ)
near_written known word written.Defined = near_name known word
near_written known word _ = None

-- the word that is near to the wrong one, of those that were wanted
abbrev pub near_wanted : Known → (word : List ℕ) → DriverWanted → Option (List ℕ)
near_wanted known word wanted.Before =
    or_else (near_among act_words word) (or_else (near_among setting_words word) (near_among before_words word))
near_wanted known word wanted.Behind = or_else (near_among act_words word) (near_among behind_words word)
near_wanted known word wanted.Act = near_among act_words word
near_wanted known word wanted.Platform = near_among platform_words word
near_wanted known word wanted.Kind = or_else (near_among kind_words word) (near_among more_kind_words word)
near_wanted known word wanted.Descriptor = near_among descriptor_words word
near_wanted known word wanted.Freed = near_among freed_words word
near_wanted known word wanted.Awaited = or_else (near_name known word) (near_among awaited_words word)
near_wanted known word (wanted.Branch want) = near_branch word want
near_wanted known word (wanted.Written want) = near_written known word want
near_wanted known word _ = None

-- of an act that isn't permitted it is told what it needs
abbrev pub hint_text : Known → (word : List ℕ) → DriverWanted → List ℕ
hint_text known word (wanted.Permitted need) = need_text need
hint_text known word want = near_text (near_wanted known word want)

-- ---- The line

-- which word is wrong, if the line has it
abbrev pub where_text : Known → DriverWanted → Option (List ℕ) → List ℕ
where_text known want None = codes ": end of line: wanted " ++ wanted_text want
where_text known want (Some word) =
    codes ": '" ++ shown_word word ++ codes "': wanted " ++ wanted_text want ++ hint_text known word want

-- what a race's line wants is told as of a race
abbrev pub text_by : Known → (line : ℕ) → List (List ℕ) → (at : ℕ) → DriverWanted → List ℕ
text_by known line words at (wanted.Race want) = races.text_by known line words at want
text_by known line words at want = codes "line " ++ decimal line ++ where_text known want (slice_get words at) ++ 10 ∷ []

-- a line that is wrong: its number, its words, what is wrong with it, and the names that there are
abbrev pub fault_text : Known → (line : ℕ) → List (List ℕ) → DriverWrong → List ℕ
fault_text known line words wrong = text_by known line words wrong.at wrong.wanted
