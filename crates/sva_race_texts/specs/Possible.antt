-- What an atom may come true of: frames that there are, and refusals that a step may be answered.
use Rattle.std.specs.Prelude.{ℕ, ◌+◌, ◌==◌, ◌&&◌, ◌||◌, nat_le, not, if◌then◌else◌, Bool, false, List, [], ◌∷◌}
use Rattle.std.specs.Prelude.{codes, find, length, take, Option, Some, None, Result, Ok, Err}
use Rattle.std.specs.List.{list_any}
use Rattle.std.specs.Str.{bytes_eq}
use Rattle.sva_step.specs.Refusals.{name_of, number_of}
use Rattle.sva_step.specs.declared.refusals.Refusal.{Refusal}
use Rattle.sva_step.specs.declared.refusals.Refusal.TheVariants.{BadConfig, NoSuchEndpoint, NoSuchSpace}
use Rattle.sva_step.specs.declared.refusals.Refusal.TheVariants.{TooManySpaces, PageRange, Mapped, NotMapped, NoFrame}
use Rattle.sva_step.specs.declared.refusals.Refusal.TheVariants.{SpaceFull, AlreadyBound, NoPasid, StillBound}
use Rattle.sva_step.specs.declared.refusals.Refusal.TheVariants.{NoSuchBinding, NotLive, NotYet, QueueFull, Resetting}
use Rattle.sva_step.specs.declared.refusals.Refusal.TheVariants.{NotStarted, NoTag, NotHeld, ReadOnly, NoUseSlot}
use Rattle.sva_step.specs.declared.refusals.Refusal.TheVariants.{NoSuchUse, NoCredit, NoSuchGroup, PriDisabled}
use Rattle.sva_step.specs.declared.refusals.Refusal.TheVariants.{NotPending, InUse, BadCount, NotStopping, Busy}
use Rattle.sva_step.specs.declared.refusals.Refusal.TheVariants.{NoSuchMessage, Overtakes, NoSuchWorker, HandsFull}
use Rattle.sva_step.specs.declared.refusals.Refusal.TheVariants.{NoJob, BadVerdict, NumbersSpent, OutOfMemory}
use Rattle.sva_step.specs.declared.refusals.Refusal.TheVariants.{BadOrder, NotAligned, NothingMapped, BadPasid}
use Rattle.sva_grammar.specs.declared.faults.Cause.{Cause}
use Rattle.sva_grammar.specs.Grammar.{number}
use Rattle.sva_script.specs.Expect.{is_wanted}
use Rattle.sva_script.specs.Names.{name_and_nth}
use Rattle.sva_race_texts.specs.declared.faults.RaceWanted.TheVariants as wanted
use Rattle.sva_race_texts.specs.declared.faults.RaceWrong.{RaceWrong}
use Rattle.sva_race_texts.specs.Faults.{wrong_at}
use Rattle.sva_race_texts.specs.Words.{word_at}
use Rattle.sva_race_texts.specs.Seen.{LineSaid, has_name}

-- ---- A frame: a number below the config's, or the name of a step that is answered frames

abbrev pub begins : (text with : List ℕ) → Bool
begins text with = nat_le (length with) (length text) && bytes_eq (take (length with) text) with

-- the steps that are answered frames, by their lines' texts
abbrev pub gives_frames : (text : List ℕ) → Bool
gives_frames text = begins text (codes "map ") || begins text (codes "use ") || begins text (codes "unmap ")

abbrev pub is_frameless : (name : List ℕ) → LineSaid → Bool
is_frameless name line = has_name name line && not (gives_frames line.text)

-- a name whose line isn't there, since it is wrong, may be one
abbrev pub is_named_wrong : List LineSaid → Option (List ℕ × ℕ) → Bool
is_named_wrong lines None = false
is_named_wrong lines (Some (name, nth)) = list_any (is_frameless name) lines

abbrev pub is_no_frame : (frames : ℕ) → List LineSaid → (word : List ℕ) → Result ℕ Cause → Bool
is_no_frame frames lines word (Ok frame) = nat_le frames frame
is_no_frame frames lines word (Err cause) = is_named_wrong lines (name_and_nth word)

abbrev pub frame_judged : (frames : ℕ) → List LineSaid → (at : ℕ) → (word : List ℕ) → Result (Unit {0}) RaceWrong
frame_judged frames lines at word =
    if is_no_frame frames lines word (number word) then wrong_at at wanted.Frame else Ok tt

-- ---- A refusal: `refused N NAME`, where the name is that of the number; `_` is any

-- all of them
unfoldable pub refusals : List Refusal
refusals =
    BadConfig ∷ NoSuchEndpoint ∷ NoSuchSpace ∷ TooManySpaces ∷ PageRange ∷ Mapped ∷ NotMapped ∷ NoFrame ∷ SpaceFull ∷
    AlreadyBound ∷ NoPasid ∷ StillBound ∷ NoSuchBinding ∷ NotLive ∷ NotYet ∷ QueueFull ∷ Resetting ∷ NotStarted ∷
    NoTag ∷ NotHeld ∷ ReadOnly ∷ NoUseSlot ∷ NoSuchUse ∷ NoCredit ∷ NoSuchGroup ∷ PriDisabled ∷ NotPending ∷ InUse ∷
    BadCount ∷ NotStopping ∷ Busy ∷ NoSuchMessage ∷ Overtakes ∷ NoSuchWorker ∷ HandsFull ∷ NoJob ∷ BadVerdict ∷
    NumbersSpent ∷ OutOfMemory ∷ BadOrder ∷ NotAligned ∷ NothingMapped ∷ BadPasid ∷ []

abbrev pub refusal_of : (number : ℕ) → Option Refusal
refusal_of number = find (λ refusal. number_of refusal == number) refusals

abbrev pub name_judged : (at : ℕ) → (name : List ℕ) → Option Refusal → Result (Unit {0}) RaceWrong
name_judged at name None = wrong_at at wanted.RefusalNumber
name_judged at name (Some refusal) =
    if is_wanted name (name_of refusal) then Ok tt else wrong_at (at + 1) (wanted.RefusalName refusal)

abbrev pub number_judged : (at : ℕ) → (name : List ℕ) → Result ℕ Cause → Result (Unit {0}) RaceWrong
number_judged at name (Ok number) = name_judged at name (refusal_of number)
number_judged at name (Err cause) = wrong_at at wanted.RefusalNumber

-- the words behind `refused`, which begin at `at`
abbrev pub pair_judged : (at : ℕ) → List (List ℕ) → Result (Unit {0}) RaceWrong
pair_judged at [] = wrong_at at wanted.RefusalNumber
pair_judged at (word ∷ words) =
    if bytes_eq word (codes "_") then Ok tt else number_judged at (word_at 0 words) (number word)

-- an answer whose words begin at `at`
abbrev pub refusal_judged : (at : ℕ) → List (List ℕ) → Result (Unit {0}) RaceWrong
refusal_judged at [] = Ok tt
refusal_judged at (word ∷ words) = if bytes_eq word (codes "refused") then pair_judged (at + 1) words else Ok tt
