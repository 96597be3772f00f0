-- What the line of an act says, by its words.
use Rattle.std.specs.Prelude.{ℕ, ◌||◌, if◌then◌else◌, Bool, List, codes, Option, Some, None, Result, Ok, Err}
use Rattle.std.specs.Str.{bytes_eq}
use Rattle.sva_step.specs.declared.limits.Config.{Config}
use Rattle.sva_grammar.specs.Grammar.{◌>>=◌}
use Rattle.sva_open.specs.declared.acts.Act.{Act}
use Rattle.sva_open.specs.declared.acts.Act.TheVariants as act
use Rattle.sva_open.specs.declared.acts.LocalAct.{LocalAct}
use Rattle.sva_open.specs.declared.acts.LocalAct.TheVariants as local
use Rattle.sva_open.specs.declared.descriptors.Descriptor.{Descriptor}
use Rattle.sva_open.specs.declared.drivers.Condition.{Condition}
use Rattle.sva_open.specs.declared.drivers.Saying.{Saying}
use Rattle.sva_open.specs.declared.drivers.Saying.TheVariants as saying
use Rattle.sva_open.specs.declared.naming.Named.{Named}
use Rattle.sva_open.specs.declared.naming.Named.TheVariants as named
use Rattle.sva_race_texts.specs.Words.{word_at}
use Rattle.sva_driver_words.specs.Faults.{no_more}
use Rattle.sva_driver_words.specs.Fields.{access_at, asked_at, endpoint_at, fails_at, frame_at, has_word, index_at, kind_at, last_at, older_at}
use Rattle.sva_driver_words.specs.Fields.{page_at, pasid_at, place_at, says, some_pasid_at, space_at}
use Rattle.sva_driver_words.specs.declared.faults.DriverWanted.TheVariants as wanted
use Rattle.sva_driver_words.specs.declared.faults.DriverWrong.{DriverWrong}

-- ---- What a line says, by its lists

pub data SayingSaid : Type 0 where
  DoesSaid : Act → SayingSaid
  SubmitsSaid : (endpoint : ℕ) → List Descriptor → SayingSaid
  NamesSaid : (endpoint : ℕ) → Named → SayingSaid
  AwaitsLineSaid : (line : ℕ) → SayingSaid
  AwaitsWaitsSaid : (endpoint line : ℕ) → SayingSaid
  LocksSaid : (lock : ℕ) → SayingSaid
  UnlocksSaid : (lock : ℕ) → SayingSaid
  SetsSaid : (flag : ℕ) → (on : Bool) → SayingSaid
  LooksSaid : Condition → (so : Bool) → SayingSaid

abbrev pub act_seen : Act → SayingSaid
act_seen (act.At endpoint (local.Submit descriptors)) = SubmitsSaid endpoint descriptors.items
act_seen its = DoesSaid its

abbrev pub saying_seen : Saying → SayingSaid
saying_seen (saying.Does its) = act_seen its
saying_seen (saying.Names endpoint name) = NamesSaid endpoint name
saying_seen (saying.AwaitsLine line) = AwaitsLineSaid line
saying_seen (saying.AwaitsWaits endpoint line) = AwaitsWaitsSaid endpoint line
saying_seen (saying.Locks lock) = LocksSaid lock
saying_seen (saying.Unlocks lock) = UnlocksSaid lock
saying_seen (saying.Sets flag on) = SetsSaid flag on
saying_seen (saying.Looks condition so) = LooksSaid condition so

-- what was read, seen so
abbrev pub read_seen : Result Saying DriverWrong → Result SayingSaid DriverWrong
read_seen (Ok found) = Ok (saying_seen found)
read_seen (Err wrong) = Err wrong

abbrev pub did : (endpoint : ℕ) → LocalAct → SayingSaid
did endpoint its = DoesSaid (act.At endpoint its)

-- ---- `mark`

abbrev pub mark_line : List (List ℕ) → Result SayingSaid DriverWrong
mark_line words = do
  _ ← no_more 1 words
  Ok (DoesSaid act.Mark)

-- ---- `reset E`, `serve E`, `close E`, `open E`, `skip E`, `resume E`, `gone E`, `write E`

abbrev pub takes_endpoint : (word : List ℕ) → Bool
takes_endpoint word =
    bytes_eq word (codes "reset")
    || bytes_eq word (codes "serve")
    || bytes_eq word (codes "close")
    || bytes_eq word (codes "open")
    || bytes_eq word (codes "skip")
    || bytes_eq word (codes "resume")
    || bytes_eq word (codes "gone")
    || bytes_eq word (codes "write")

abbrev pub of_endpoint : (word : List ℕ) → (endpoint : ℕ) → SayingSaid
of_endpoint word endpoint =
    if bytes_eq word (codes "reset") then did endpoint local.Reset else
    if bytes_eq word (codes "serve") then did endpoint local.Serve else
    if bytes_eq word (codes "close") then did endpoint local.Close else
    if bytes_eq word (codes "open") then did endpoint local.Reopen else
    if bytes_eq word (codes "skip") then did endpoint local.Skip else
    if bytes_eq word (codes "resume") then did endpoint local.Resume else
    if bytes_eq word (codes "gone") then did endpoint local.Leave else
    did endpoint local.Write

abbrev pub endpoint_line : Config → List (List ℕ) → Result SayingSaid DriverWrong
endpoint_line config words = do
  endpoint ← endpoint_at config 1 words
  _ ← no_more 2 words
  Ok (of_endpoint (word_at 0 words) endpoint)

-- ---- `pump E`, in the order of the queue; `pump E N`, out of it

abbrev pub pumped_at : (endpoint : ℕ) → List (List ℕ) → Result SayingSaid DriverWrong
pumped_at endpoint words = do
  place ← place_at 2 words
  _ ← no_more 3 words
  Ok (did endpoint (local.PumpAt place))

abbrev pub pump_line : Config → List (List ℕ) → Result SayingSaid DriverWrong
pump_line config words = do
  endpoint ← endpoint_at config 1 words
  if has_word 2 words then pumped_at endpoint words else Ok (did endpoint local.Pump)

-- ---- `start E P`, `stop E P`, `barrier E P`, `quit E P`

abbrev pub takes_pasid : (word : List ℕ) → Bool
takes_pasid word = bytes_eq word (codes "start") || bytes_eq word (codes "stop") || bytes_eq word (codes "barrier") || bytes_eq word (codes "quit")

-- a barrier has the place of its line for a name
abbrev pub barrier_by : (endpoint pasid thread place : ℕ) → SayingSaid
barrier_by endpoint pasid thread place = did endpoint (local.Barrier (record { pasid = pasid; thread = thread; name = place }))

abbrev pub of_pasid : (word : List ℕ) → (endpoint pasid thread place : ℕ) → SayingSaid
of_pasid word endpoint pasid thread place =
    if bytes_eq word (codes "barrier") then barrier_by endpoint pasid thread place else
    if bytes_eq word (codes "start") then did endpoint (local.Start pasid) else
    if bytes_eq word (codes "stop") then did endpoint (local.Stop pasid) else
    did endpoint (local.Quit pasid)

abbrev pub pasid_line : Config → (thread place : ℕ) → List (List ℕ) → Result SayingSaid DriverWrong
pasid_line config thread place words = do
  endpoint ← endpoint_at config 1 words
  pasid ← pasid_at 2 words
  _ ← no_more 3 words
  Ok (of_pasid (word_at 0 words) endpoint pasid thread place)

-- ---- `ask E P PAGE`, `use E P PAGE`, `evict E P PAGE`

abbrev pub takes_page : (word : List ℕ) → Bool
takes_page word = bytes_eq word (codes "ask") || bytes_eq word (codes "use") || bytes_eq word (codes "evict")

abbrev pub of_page : (word : List ℕ) → (endpoint pasid page : ℕ) → SayingSaid
of_page word endpoint pasid page =
    if bytes_eq word (codes "ask") then did endpoint (local.Ask pasid page) else
    if bytes_eq word (codes "use") then did endpoint (local.Use pasid page) else
    did endpoint (local.Evict pasid page)

abbrev pub page_line : Config → List (List ℕ) → Result SayingSaid DriverWrong
page_line config words = do
  endpoint ← endpoint_at config 1 words
  pasid ← pasid_at 2 words
  page ← page_at 3 words
  _ ← no_more 4 words
  Ok (of_page (word_at 0 words) endpoint pasid page)

-- ---- `pte S PAGE F r`, `pte S PAGE F w`, `pte S PAGE none`

abbrev pub cleared : (space page : ℕ) → List (List ℕ) → Result SayingSaid DriverWrong
cleared space page words = do
  _ ← no_more 4 words
  Ok (DoesSaid (act.ClearPage space page))

abbrev pub led : Config → (space page : ℕ) → List (List ℕ) → Result SayingSaid DriverWrong
led config space page words = do
  frame ← frame_at config 3 wanted.FrameOrNone words
  write ← access_at 4 words
  _ ← no_more 5 words
  Ok (DoesSaid (act.SetPage space page frame write))

abbrev pub table_line : Config → List (List ℕ) → Result SayingSaid DriverWrong
table_line config words = do
  space ← space_at 1 wanted.Space words
  page ← page_at 2 words
  if says 3 (codes "none") words then cleared space page words else led config space page words

-- ---- `entry E P S`, `entry E P none`

abbrev pub entry_cleared : (endpoint pasid : ℕ) → List (List ℕ) → Result SayingSaid DriverWrong
entry_cleared endpoint pasid words = do
  _ ← no_more 4 words
  Ok (did endpoint (local.ClearEntry pasid))

abbrev pub entry_set : (endpoint pasid : ℕ) → List (List ℕ) → Result SayingSaid DriverWrong
entry_set endpoint pasid words = do
  space ← space_at 3 wanted.SpaceOrNone words
  _ ← no_more 4 words
  Ok (did endpoint (local.SetEntry pasid space))

abbrev pub entry_line : Config → List (List ℕ) → Result SayingSaid DriverWrong
entry_line config words = do
  endpoint ← endpoint_at config 1 words
  pasid ← pasid_at 2 words
  if says 3 (codes "none") words then entry_cleared endpoint pasid words else entry_set endpoint pasid words

-- ---- `replace E P S`

abbrev pub replace_line : Config → List (List ℕ) → Result SayingSaid DriverWrong
replace_line config words = do
  endpoint ← endpoint_at config 1 words
  pasid ← pasid_at 2 words
  space ← space_at 3 wanted.Space words
  _ ← no_more 4 words
  Ok (did endpoint (local.Replace pasid space))

-- ---- `respond E P I CODE`, `respond all E CODE`, `respond all E P CODE`, `discard E [P]`

abbrev pub all_responded : (endpoint : ℕ) → List (List ℕ) → Result SayingSaid DriverWrong
all_responded endpoint words = do
  fails ← fails_at 3 words
  _ ← no_more 4 words
  Ok (did endpoint (local.RespondAll None fails))

abbrev pub all_responded_under : (endpoint : ℕ) → List (List ℕ) → Result SayingSaid DriverWrong
all_responded_under endpoint words = do
  pasid ← pasid_at 3 words
  fails ← fails_at 4 words
  _ ← no_more 5 words
  Ok (did endpoint (local.RespondAll (Some pasid) fails))

abbrev pub respond_all_line : Config → List (List ℕ) → Result SayingSaid DriverWrong
respond_all_line config words = do
  endpoint ← endpoint_at config 2 words
  if has_word 4 words then all_responded_under endpoint words else all_responded endpoint words

abbrev pub discard_line : Config → List (List ℕ) → Result SayingSaid DriverWrong
discard_line config words = do
  endpoint ← endpoint_at config 1 words
  pasid ← some_pasid_at 2 words
  _ ← no_more 3 words
  Ok (did endpoint (local.Discard pasid))

abbrev pub respond_one : Config → List (List ℕ) → Result SayingSaid DriverWrong
respond_one config words = do
  endpoint ← endpoint_at config 1 words
  pasid ← pasid_at 2 words
  index ← index_at 3 wanted.Index words
  fails ← fails_at 4 words
  _ ← no_more 5 words
  Ok (did endpoint (local.Respond pasid index fails))

abbrev pub respond_line : Config → List (List ℕ) → Result SayingSaid DriverWrong
respond_line config words = if says 1 (codes "all") words then respond_all_line config words else respond_one config words

-- ---- `free F`, `free space S`, `free domain S`, `free pasid P E`, `freeze F`

abbrev pub frame_freed : Config → List (List ℕ) → Result SayingSaid DriverWrong
frame_freed config words = do
  frame ← frame_at config 1 wanted.Freed words
  _ ← no_more 2 words
  Ok (DoesSaid (act.FreeFrame frame))

abbrev pub space_freed : List (List ℕ) → Result SayingSaid DriverWrong
space_freed words = do
  space ← space_at 2 wanted.Space words
  _ ← no_more 3 words
  Ok (DoesSaid (act.FreeSpace space))

abbrev pub domain_freed : List (List ℕ) → Result SayingSaid DriverWrong
domain_freed words = do
  space ← space_at 2 wanted.Space words
  _ ← no_more 3 words
  Ok (DoesSaid (act.FreeDomain space))

abbrev pub pasid_freed : Config → List (List ℕ) → Result SayingSaid DriverWrong
pasid_freed config words = do
  pasid ← pasid_at 2 words
  endpoint ← endpoint_at config 3 words
  _ ← no_more 4 words
  Ok (did endpoint (local.FreePasid pasid))

abbrev pub free_line : Config → List (List ℕ) → Result SayingSaid DriverWrong
free_line config words =
    if says 1 (codes "space") words then space_freed words else
    if says 1 (codes "domain") words then domain_freed words else
    if says 1 (codes "pasid") words then pasid_freed config words else
    frame_freed config words

abbrev pub freeze_line : Config → List (List ℕ) → Result SayingSaid DriverWrong
freeze_line config words = do
  frame ← frame_at config 1 wanted.Frame words
  _ ← no_more 2 words
  Ok (DoesSaid (act.Freeze frame))

-- ---- `fault E P PAGE ACCESS new LAST`, `fault E P PAGE ACCESS I LAST`

abbrev pub fault_begun : (endpoint pasid page : ℕ) → (write : Bool) → List (List ℕ) → Result SayingSaid DriverWrong
fault_begun endpoint pasid page write words = do
  last ← last_at 6 words
  _ ← no_more 7 words
  Ok (did endpoint (local.Fault pasid page write last))

abbrev pub fault_more : (endpoint pasid page : ℕ) → (write : Bool) → List (List ℕ) → Result SayingSaid DriverWrong
fault_more endpoint pasid page write words = do
  index ← index_at 5 wanted.GroupOrNew words
  last ← last_at 6 words
  _ ← no_more 7 words
  Ok (NamesSaid endpoint (named.More pasid index page write last))

abbrev pub fault_line : Config → List (List ℕ) → Result SayingSaid DriverWrong
fault_line config words = do
  endpoint ← endpoint_at config 1 words
  pasid ← pasid_at 2 words
  page ← page_at 3 words
  write ← asked_at 4 words
  if says 5 (codes "new") words then fault_begun endpoint pasid page write words else fault_more endpoint pasid page write words

-- ---- `end E [N]`, `finish E [N]`, `pass E [N]`, `deliver KIND E [N]`, `forget E P`, `forget E P PAGE`

abbrev pub end_line : Config → List (List ℕ) → Result SayingSaid DriverWrong
end_line config words = do
  endpoint ← endpoint_at config 1 words
  older ← older_at 2 words
  _ ← no_more 3 words
  Ok (NamesSaid endpoint (named.End older))

abbrev pub finish_line : Config → List (List ℕ) → Result SayingSaid DriverWrong
finish_line config words = do
  endpoint ← endpoint_at config 1 words
  older ← older_at 2 words
  _ ← no_more 3 words
  Ok (NamesSaid endpoint (named.Finish older))

abbrev pub pass_line : Config → List (List ℕ) → Result SayingSaid DriverWrong
pass_line config words = do
  endpoint ← endpoint_at config 1 words
  older ← older_at 2 words
  _ ← no_more 3 words
  Ok (NamesSaid endpoint (named.Pass older))

abbrev pub deliver_line : Config → List (List ℕ) → Result SayingSaid DriverWrong
deliver_line config words = do
  kind ← kind_at 1 words
  endpoint ← endpoint_at config 2 words
  older ← older_at 3 words
  _ ← no_more 4 words
  Ok (NamesSaid endpoint (named.Deliver kind older))

abbrev pub page_forgotten : (endpoint pasid : ℕ) → List (List ℕ) → Result SayingSaid DriverWrong
page_forgotten endpoint pasid words = do
  page ← page_at 3 words
  _ ← no_more 4 words
  Ok (NamesSaid endpoint (named.Forget pasid page))

abbrev pub forget_line : Config → List (List ℕ) → Result SayingSaid DriverWrong
forget_line config words = do
  endpoint ← endpoint_at config 1 words
  pasid ← pasid_at 2 words
  if has_word 3 words then page_forgotten endpoint pasid words else Ok (NamesSaid endpoint (named.ForgetEntry pasid))
