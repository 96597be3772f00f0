-- The number and the name of each refusal, and its text.
use Rattle.std.specs.Prelude.{◌≡◌, ℕ, ◌≤◌, Bool, true, false, List, ◌++◌, codes, decimal}
use Rattle.sva_step.specs.declared.refusals.Refusal.{Refusal}
use Rattle.sva_step.specs.declared.refusals.Refusal.TheVariants.{BadConfig, NoSuchEndpoint, NoSuchSpace, TooManySpaces, PageRange, Mapped, NotMapped}
use Rattle.sva_step.specs.declared.refusals.Refusal.TheVariants.{NoFrame, SpaceFull, AlreadyBound, NoPasid, StillBound, NoSuchBinding, NotLive, NotYet}
use Rattle.sva_step.specs.declared.refusals.Refusal.TheVariants.{QueueFull, Resetting, NotStarted, NoTag, NotHeld, ReadOnly, NoUseSlot, NoSuchUse}
use Rattle.sva_step.specs.declared.refusals.Refusal.TheVariants.{NoCredit, NoSuchGroup, PriDisabled, NotPending, InUse, BadCount, NotStopping, Busy}
use Rattle.sva_step.specs.declared.refusals.Refusal.TheVariants.{NoSuchMessage, Overtakes, NoSuchWorker, HandsFull, NoJob, BadVerdict, NumbersSpent}
use Rattle.sva_step.specs.declared.refusals.Refusal.TheVariants.{OutOfMemory, BadOrder, NotAligned, NothingMapped, BadPasid}

-- the numbers are this project's own
abbrev pub number_of : Refusal → ℕ
number_of BadConfig = 1
number_of NoSuchEndpoint = 2
number_of NoSuchSpace = 3
number_of TooManySpaces = 4
number_of PageRange = 5
number_of Mapped = 6
number_of NotMapped = 7
number_of NoFrame = 8
number_of SpaceFull = 9
number_of AlreadyBound = 10
number_of NoPasid = 11
number_of StillBound = 12
number_of NoSuchBinding = 13
number_of NotLive = 14
number_of NotYet = 15
number_of QueueFull = 16
number_of Resetting = 17
number_of NotStarted = 18
number_of NoTag = 19
number_of NotHeld = 20
number_of ReadOnly = 21
number_of NoUseSlot = 22
number_of NoSuchUse = 23
number_of NoCredit = 24
number_of NoSuchGroup = 25
number_of PriDisabled = 26
number_of NotPending = 27
number_of InUse = 28
number_of BadCount = 29
number_of NotStopping = 30
number_of Busy = 31
number_of NoSuchMessage = 32
number_of Overtakes = 33
number_of NoSuchWorker = 34
number_of HandsFull = 35
number_of NoJob = 36
number_of BadVerdict = 37
number_of NumbersSpent = 38
number_of OutOfMemory = 39
number_of BadOrder = 40
number_of NotAligned = 41
number_of NothingMapped = 42
number_of BadPasid = 43

-- the refusals of the host's own calls, then those of endpoints, of the link and of workers, and of a step that finds
-- no number or no memory, and then those of ranges and of the bearer of a PASID
abbrev pub name_of : Refusal → List ℕ
name_of BadConfig = codes "BadConfig"
name_of NoSuchEndpoint = codes "NoSuchEndpoint"
name_of NoSuchSpace = codes "NoSuchSpace"
name_of TooManySpaces = codes "TooManySpaces"
name_of PageRange = codes "PageRange"
name_of Mapped = codes "Mapped"
name_of NotMapped = codes "NotMapped"
name_of NoFrame = codes "NoFrame"
name_of SpaceFull = codes "SpaceFull"
name_of AlreadyBound = codes "AlreadyBound"
name_of NoPasid = codes "NoPasid"
name_of StillBound = codes "StillBound"
name_of NoSuchBinding = codes "NoSuchBinding"
name_of NotLive = codes "NotLive"
name_of NotYet = codes "NotYet"
name_of QueueFull = codes "QueueFull"
name_of Resetting = codes "Resetting"
name_of NotStarted = codes "NotStarted"
name_of NoTag = codes "NoTag"
name_of NotHeld = codes "NotHeld"
name_of ReadOnly = codes "ReadOnly"
name_of NoUseSlot = codes "NoUseSlot"
name_of NoSuchUse = codes "NoSuchUse"
name_of NoCredit = codes "NoCredit"
name_of NoSuchGroup = codes "NoSuchGroup"
name_of PriDisabled = codes "PriDisabled"
name_of NotPending = codes "NotPending"
name_of InUse = codes "InUse"
name_of BadCount = codes "BadCount"
name_of NotStopping = codes "NotStopping"
name_of Busy = codes "Busy"
name_of NoSuchMessage = codes "NoSuchMessage"
name_of Overtakes = codes "Overtakes"
name_of NoSuchWorker = codes "NoSuchWorker"
name_of HandsFull = codes "HandsFull"
name_of NoJob = codes "NoJob"
name_of BadVerdict = codes "BadVerdict"
name_of NumbersSpent = codes "NumbersSpent"
name_of OutOfMemory = codes "OutOfMemory"
name_of BadOrder = codes "BadOrder"
name_of NotAligned = codes "NotAligned"
name_of NothingMapped = codes "NothingMapped"
name_of BadPasid = codes "BadPasid"

-- a refusal of the host's own calls, of those on ranges and on the bearer of a PASID too
abbrev pub is_of_call : Refusal → Bool
is_of_call BadConfig = true
is_of_call NoSuchEndpoint = true
is_of_call NoSuchSpace = true
is_of_call TooManySpaces = true
is_of_call PageRange = true
is_of_call Mapped = true
is_of_call NotMapped = true
is_of_call NoFrame = true
is_of_call SpaceFull = true
is_of_call AlreadyBound = true
is_of_call NoPasid = true
is_of_call StillBound = true
is_of_call NoSuchBinding = true
is_of_call NotLive = true
is_of_call NotYet = true
is_of_call QueueFull = true
is_of_call Resetting = true
is_of_call BadOrder = true
is_of_call NotAligned = true
is_of_call NothingMapped = true
is_of_call BadPasid = true
is_of_call _ = false

-- `refused N Name`
abbrev pub refusal_text : Refusal → List ℕ
refusal_text refusal = codes "refused " ++ decimal (number_of refusal) ++ codes " " ++ name_of refusal

-- the numbers are 1 to 43, and no two refusals have one number or one name
pub record TellApart : Type 0 where
  pub from_one : (refusal : Refusal) → 1 ≤ number_of refusal
  pub to_last : (refusal : Refusal) → number_of refusal ≤ 43
  pub numbers : (refusal other : Refusal) → number_of refusal ≡ number_of other → refusal ≡ other
  pub names : (refusal other : Refusal) → name_of refusal ≡ name_of other → refusal ≡ other
