-- What is told of the files that a command line names, and the status.
use Rattle.std.specs.Global.{Global}
use Rattle.std.specs.Prelude.{◌≡◌, ◌⊎◌, ℕ, ◌+◌, Bool, true, false, List, ◌++◌, codes, IfOk, OnOk, Option, Result, Ok, Err, String, string_bytes, Vec}
use Rattle.std.specs.declared.alloc.AllocError.{AllocError}
use Rattle.clap.specs.Words.{Text}
use Rattle.sva_streams.specs.declared.streams.DriveFault.{DriveFault}
use Rattle.sva_streams.specs.declared.streams.DriveFault.TheVariants.{Memory, Write}
use Rattle.sva_streams.specs.Streams.{AppendsProperPrefix, Stream, Tells}
use Rattle.std.specs.Io.KnownBytes.{Appends}
use Rattle.sva_located.specs.Located.{shown_name}
use Rattle.sva_command.specs.declared.command.Asked.{Asked}
use Rattle.sva_several.specs.declared.driving.Wanted.{Wanted}
use Rattle.sva_several.specs.declared.given.Given.{Given}
use Rattle.sva_several.specs.declared.given.Given.TheVariants as given
use Rattle.sva_several.specs.declared.given.Lack.{Lack}
use Rattle.sva_several.specs.Searches.{lack_text}
use Rattle.sva_several.specs.Told.{TellsAll}
use Rattle.sva_program.specs.declared.run.Ending.{Ending}
use Rattle.sva_program.specs.Run.{Reports, RunsOnText, Says, complaint, fault_line, is_streamed, is_strict, status_of}
use Rattle.sva_cli.specs.Cutting.{cut}
use Rattle.sva_cli.specs.Inputs.{is_input}
use Rattle.sva_cli.specs.Reading.{HaveGiven, IsRead}
use Rattle.sva_cli.specs.declared.files.One.{One}

-- the line that tells of a file that can't be read
abbrev pub unreadable_line : (name : Text) → Lack → List ℕ
unreadable_line name lack = shown_name name ++ codes ": " ++ lack_text lack

-- ---- Standard error

module _ {E : Type 0} (noted : E → Option (List ℕ)) (before after : Stream E) (status : ℕ) where
  -- a mistake is told, or that there is no memory to tell it
  abbrev pub TellsMistake : Result (Vec ℕ Global) AllocError → Type 0
  TellsMistake (Ok said) = (status ≡ 2) × Says noted before after said.items
  TellsMistake (Err fault) = (status ≡ 1) × Says noted before after (fault_line Memory)

  -- a file that can't be read is told, or that there is no memory to tell it
  abbrev pub TellsUnreadable : (name : Text) → Lack → Type 0
  TellsUnreadable name lack =
      (said : Result (Vec ℕ Global) AllocError) × IfOk said (λ said. said.items ≡ unreadable_line name lack) × TellsMistake said

  -- a run ended so: a fault is told, and else nothing
  abbrev pub EndsSo : Result ℕ DriveFault → Type 0
  EndsSo (Ok told) = (status ≡ told) × (after ≡ before)
  EndsSo (Err fault) = (status ≡ 1) × Says noted before after (fault_line fault)

-- ---- Help

module _ {O : Type 0} (written : O → Option (List ℕ)) (old new : Stream O) where
  -- all of a text was written, and help was shown; or a call failed, and only a front of it was
  abbrev pub PutsText : (text : List ℕ) → Result ℕ DriveFault → Type 0
  PutsText text (Ok status) = (status ≡ 0) × Appends (written old.inner) (written new.inner) text × (new.failures ≡ old.failures)
  PutsText text (Err Write) =
      AppendsProperPrefix (written old.inner) (written new.inner) text × (new.failures ≡ old.failures + 1)
  PutsText text (Err fault) = ⊥

  -- so with a text that was made; where memory lacked for it, nothing was written
  abbrev pub Puts : (text : Result (Vec ℕ Global) AllocError) → Result ℕ DriveFault → Type 0
  Puts (Ok text) told = PutsText text.items told
  Puts (Err fault) told = (new ≡ old) × (told ≡ Err Memory)

-- help on a topic was put, and so it ended
module _ {O E : Type 0} (written : O → Option (List ℕ)) (noted : E → Option (List ℕ)) (old new : Stream O) (before after : Stream E)
    (status : ℕ) where
  abbrev pub TellsTopic : Type 0
  TellsTopic =
      (text : Result (Vec ℕ Global) AllocError) × (told : Result ℕ DriveFault) × Puts written old new text told × EndsSo noted before after status told

-- ---- What a command makes of a stream or of a text

module _ {O E : Type 0} (written : O → Option (List ℕ)) (noted : E → Option (List ℕ)) (old new : Stream O) (before after : Stream E)
    (status : ℕ) where
  -- it makes of what the stream has what it makes of standard input, and so it ended
  abbrev pub RunsOn : (remaining : Option (List ℕ)) → Asked → Type 0
  RunsOn remaining asked =
      (ended : Result Ending DriveFault)
      × (status ≡ status_of (is_strict asked) ended)
      × Reports asked remaining (written old.inner) (written new.inner) ended
      × Says noted before after (complaint ended)
      × OnOk ended (after ≡ before)

  -- memory lacked before anything was written
  abbrev pub TellsNoMemory : Type 0
  TellsNoMemory = (new ≡ old) × EndsSo noted before after status (Err Memory)

  -- it makes this of the text of a file, and so it ended; or memory lacked for the text's front
  abbrev pub TellsText : One → (text : List ℕ) → Type 0
  TellsText one text =
      ((ended : Result Ending DriveFault)
      × (status ≡ status_of (is_strict one.asked) ended)
      × RunsOnText one.asked (string_bytes one.file) (cut one.after text) (written old.inner) (written new.inner) ended
      × Says noted before after (complaint ended)
      × OnOk ended (after ≡ before))
      ⊎ TellsNoMemory

-- ---- One file, or several

module _ {F O E : Type 0} (opened : Text → F → Type 0) (remaining : F → Option (List ℕ)) (fails : Text → Lack → Type 0) (input : Option (List ℕ))
    (written : O → Option (List ℕ)) (noted : E → Option (List ℕ)) (old new : Stream O) (before after : Stream E) (status : ℕ) where
  -- the file of that name was opened, and so the command ran on it as it came; or it can't be opened, and nothing was written
  abbrev pub StreamsFile : Asked → (name : Text) → Type 0
  StreamsFile asked name =
      ((file : F) × opened name file × RunsOn written noted old new before after status (remaining file) asked)
      ⊎ ((lack : Lack) × fails name lack × (new ≡ old) × TellsUnreadable noted before after status name lack)

  abbrev pub StreamsBy : (is_input : Bool) → Asked → (name : Text) → Type 0
  StreamsBy true asked name = RunsOn written noted old new before after status input asked
  StreamsBy false asked name = StreamsFile asked name

  -- standard input, or the file of that name
  abbrev pub StreamsOne : Asked → (name : Text) → Type 0
  StreamsOne asked name = StreamsBy (is_input name) asked name

  -- the file gave a text, and of that this was told; or it can't be read, and nothing was written; or memory lacked
  abbrev pub TellsGiven : One → Given → Type 0
  TellsGiven one (given.Text text) = TellsText written noted old new before after status one text.items
  TellsGiven one (given.Unread lack) = (new ≡ old) × TellsUnreadable noted before after status (string_bytes one.file) lack

  abbrev pub ReadsAndTells : One → Type 0
  ReadsAndTells one =
      ((given : Given) × IsRead opened remaining fails input (string_bytes one.file) given × TellsGiven one given)
      ⊎ TellsNoMemory written noted old new before after status

  abbrev pub RunsBy : (is_streamed : Bool) → One → Type 0
  RunsBy true one = StreamsOne one.asked (string_bytes one.file)
  RunsBy false one = ReadsAndTells one

  abbrev pub RunsOne : One → Type 0
  RunsOne one = RunsBy (is_streamed one.asked) one

  -- ---- Several

  -- of what the files of these names give, in order, is told what is told of several
  abbrev pub TellsFound : Wanted → (names : List (String Global)) → Type 0
  TellsFound wanted names =
      (texts : List Given) × HaveGiven opened remaining fails input names texts × (told : Result ℕ DriveFault)
      × TellsAll wanted names texts (written old.inner) (written new.inner) told
      × Tells old new told
      × EndsSo noted before after status told

  -- or that memory lacks
  abbrev pub SearchesNamed : Wanted → (names : List (String Global)) → Type 0
  SearchesNamed wanted names = TellsFound wanted names ⊎ TellsNoMemory written noted old new before after status
