-- What is read of files by their names. That a name opens a file, or that its file can't be read, is said by whoever opens it.
use Rattle.std.specs.Global.{Global}
use Rattle.std.specs.List.{AllZip}
use Rattle.std.specs.Prelude.{◌≡◌, ◌⊎◌, ℕ, Bool, true, false, List, nat_lt, take, IfSome, Option, String, string_bytes}
use Rattle.clap.specs.Words.{Text}
use Rattle.sva_command.specs.Command.{texts}
use Rattle.sva_cli.specs.Inputs.{inputs_in, is_input}
use Rattle.sva_streams.specs.declared.reading.TheConstants.{MOST_KEPT}
use Rattle.sva_several.specs.declared.given.Given.{Given}
use Rattle.sva_several.specs.declared.given.Given.TheVariants as given
use Rattle.sva_several.specs.declared.given.Lack.{Lack}
use Rattle.sva_several.specs.declared.given.Lack.TheVariants as lack

-- ---- A stream

-- all that it has, or its first 1,048,577 bytes, where its bytes are known; or reading it fails
abbrev pub IsInput : Option (List ℕ) → Given → Type 0
IsInput input (given.Text text) = IfSome input (λ bytes. text.items ≡ take MOST_KEPT bytes)
IsInput input (given.Unread why) = why ≡ lack.Broken

-- the same of a file that was opened, which fails in the ways that are its own
abbrev pub IsReadOf : {F : Type 0} → (remaining : F → Option (List ℕ)) → (fails : Lack → Type 0) → F → Given → Type 0
IsReadOf remaining fails file (given.Text text) = IfSome (remaining file) (λ input. text.items ≡ take MOST_KEPT input)
IsReadOf remaining fails file (given.Unread why) = fails why

-- ---- Standard input

-- one of the names is its own
abbrev pub names_input : List (String Global) → Bool
names_input names = nat_lt 0 (inputs_in (texts names))

-- it is read where one of the names is its own
abbrev pub IsStandard : (input : Option (List ℕ)) → (is_named : Bool) → Given → Type 0
IsStandard input true given = IsInput input given
IsStandard input false given = Unit {0}

abbrev pub IsSame : Given → Given → Type 0
IsSame (given.Text one) (given.Text other) = other.items ≡ one.items
IsSame (given.Unread one) (given.Unread other) = other ≡ one
IsSame one other = ⊥

-- ---- Files by their names

-- it can't be opened
abbrev pub IsUnopened : (fails : Lack → Type 0) → Given → Type 0
IsUnopened fails (given.Text text) = ⊥
IsUnopened fails (given.Unread why) = fails why

module _ {F : Type 0} (opened : Text → F → Type 0) (remaining : F → Option (List ℕ)) (fails : Text → Lack → Type 0) where
  -- the file of that name was opened, and gave this; or it can't be opened
  abbrev pub IsOfFile : (name : Text) → Given → Type 0
  IsOfFile name given = ((file : F) × opened name file × IsReadOf remaining (fails name) file given) ⊎ IsUnopened (fails name) given

  -- so did standard input, where that is the name
  abbrev pub IsReadBy : (input : Option (List ℕ)) → (name : Text) → (is_input : Bool) → Given → Type 0
  IsReadBy input name true given = IsInput input given
  IsReadBy input name false given = IsOfFile name given

  abbrev pub IsRead : (input : Option (List ℕ)) → (name : Text) → Given → Type 0
  IsRead input name given = IsReadBy input name (is_input name) given

  -- among several, what standard input gave before
  abbrev pub IsGivenBy : (standard : Given) → (name : Text) → (is_input : Bool) → Given → Type 0
  IsGivenBy standard name true given = IsSame standard given
  IsGivenBy standard name false given = IsOfFile name given

  abbrev pub IsGiven : (standard : Given) → (name : Text) → Given → Type 0
  IsGiven standard name given = IsGivenBy standard name (is_input name) given

  -- each of them gave this, in order
  abbrev pub AreGiven : (standard : Given) → (names : List (String Global)) → List Given → Type 0
  AreGiven standard names all = AllZip (λ name given. IsGiven standard (string_bytes name) given) names all

  -- standard input is read where one of the names is its own, and each of them gave this
  abbrev pub HaveGiven : (input : Option (List ℕ)) → (names : List (String Global)) → List Given → Type 0
  HaveGiven input names all = (standard : Given) × IsStandard input (names_input names) standard × AreGiven standard names all
