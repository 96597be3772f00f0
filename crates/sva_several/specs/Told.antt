-- What is written of several texts.
use Rattle.std.specs.Global.{Global}
use Rattle.std.specs.List.{AllZip}
use Rattle.std.specs.Prelude.{◌≡◌, ℕ, String, List, [], Option, Result, Ok, Err}
use Rattle.std.specs.declared.alloc.AllocError.{AllocError}
use Rattle.std.specs.Io.KnownBytes.{Appends}
use Rattle.sva_streams.specs.declared.streams.DriveFault.{DriveFault}
use Rattle.sva_streams.specs.declared.streams.DriveFault.TheVariants.{Write}
use Rattle.sva_streams.specs.Streams.{AppendsPrefix}
use Rattle.sva_several.specs.declared.driving.Wanted.{Wanted}
use Rattle.sva_several.specs.declared.given.Given.{Given}
use Rattle.sva_several.specs.declared.searching.Said.{Said}
use Rattle.sva_several.specs.Lines.{report_text}
use Rattle.sva_several.specs.Searches.{IsFound}
use Rattle.sva_several.specs.Verdicts.{status_of}

-- each text was searched, or memory lacked for it; and here are the report of all and the status. How many were searched at once says nothing
-- else of them
abbrev pub IsReport : Wanted → (names : List (String Global)) → (texts : List Given) → (out : List ℕ) → (status : ℕ) → Type 0
IsReport wanted names texts out status =
    (all : List (Result Said AllocError)) × AllZip (IsFound wanted.search) texts all
    × (out ≡ report_text wanted.search wanted.is_part names texts all) × (status ≡ status_of wanted.search all)

-- that was written, or a prefix of it where writing failed; where memory lacked, nothing was
abbrev pub TellsAll : Wanted → (names : List (String Global)) → (texts : List Given) → (old new : Option (List ℕ))
    → Result ℕ DriveFault → Type 0
TellsAll wanted names texts old new (Ok status) = (out : List ℕ) × IsReport wanted names texts out status × Appends old new out
TellsAll wanted names texts old new (Err Write) =
    (out : List ℕ) × (status : ℕ) × IsReport wanted names texts out status × AppendsPrefix old new out
TellsAll wanted names texts old new (Err fault) = AppendsPrefix old new []
