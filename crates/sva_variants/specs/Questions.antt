-- What is asked of a driver beside its verdict, and what is said of that.
use Rattle.std.specs.Prelude.{◌≡◌, ℕ, Bool, true, false, List, [], Option, is_some, Result, Ok, Err}
use Rattle.std.specs.Io.KnownBytes.{Appends}
use Rattle.sva_streams.specs.declared.streams.DriveFault.{DriveFault}
use Rattle.sva_streams.specs.declared.streams.DriveFault.TheVariants.{Write}
use Rattle.sva_streams.specs.Streams.{AppendsPrefix}
use Rattle.sva_driver_reports.specs.Judged.{IsTextJudged}
use Rattle.sva_driver_reports.specs.declared.reports.Ruling.{Ruling}
use Rattle.sva_variants.specs.Needed.{AreTried, is_safe, wanted_of}
use Rattle.sva_variants.specs.Platforms.{AreOn}
use Rattle.sva_variants.specs.declared.asking.Question.{Question}
use Rattle.sva_variants.specs.declared.asking.Question.TheVariants.{Needed, Platforms}

-- on which lines it rests is asked of a driver that is safe; on which settings, of each that can be read
abbrev pub is_open : Question → (first : Option Ruling) → Bool
is_open Needed first = is_safe first
is_open Platforms first = is_some first

abbrev pub IsAnswered : Question → (text : List ℕ) → (most : ℕ) → (first : Option Ruling) → (own : List ℕ)
    → (said : Option Ruling) → (out : List ℕ) → Type 0
IsAnswered Needed text most first own said out = AreTried text most own said out
IsAnswered Platforms text most first own said out = AreOn text most first own said out

-- any other has its own report alone
abbrev pub IsTold : Question → (text : List ℕ) → (most : ℕ) → (is_open : Bool) → (first : Option Ruling) → (own : List ℕ)
    → (said : Option Ruling) → (out : List ℕ) → Type 0
IsTold question text most true first own said out = IsAnswered question text most first own said out
IsTold question text most false first own said out = (said ≡ first) × (out ≡ own)

pub record IsVaried (question : Question) (text : List ℕ) (most : ℕ) (said : Option Ruling) (out : List ℕ) : Type 0 where
  pub first : Option Ruling
  pub own : List ℕ
  pub judged : IsTextJudged text (wanted_of most) first own
  pub told : IsTold question text most (is_open question first) first own said out

-- ---- What is written of it: all, or a prefix where writing failed; where memory lacked, nothing is

abbrev pub TellsVaried : Question → (text : List ℕ) → (most : ℕ) → (old new : Option (List ℕ))
    → Result (Option Ruling) DriveFault → Type 0
TellsVaried question text most old new (Ok said) = (out : List ℕ) × IsVaried question text most said out × Appends old new out
TellsVaried question text most old new (Err Write) =
    (out : List ℕ) × (said : Option Ruling) × IsVaried question text most said out × AppendsPrefix old new out
TellsVaried question text most old new (Err fault) = AppendsPrefix old new []
