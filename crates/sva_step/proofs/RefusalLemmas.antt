-- The numbers and the names of refusals tell them apart.
use Rattle.std.specs.Prelude.{◌≡◌, ℕ, ◌-◌, ◌≤◌, List, [], ◌∷◌, Option, Some, find, bytes_eq, slice_get, refl}
use Rattle.std.proofs.Common.{sym, ◌∙◌, ap, lit≤}
use Rattle.sva_step.specs.declared.refusals.Refusal.{Refusal}
use Rattle.sva_step.specs.declared.refusals.Refusal.TheVariants.{BadConfig, NoSuchEndpoint, NoSuchSpace, TooManySpaces, PageRange, Mapped, NotMapped}
use Rattle.sva_step.specs.declared.refusals.Refusal.TheVariants.{NoFrame, SpaceFull, AlreadyBound, NoPasid, StillBound, NoSuchBinding, NotLive, NotYet}
use Rattle.sva_step.specs.declared.refusals.Refusal.TheVariants.{QueueFull, Resetting, NotStarted, NoTag, NotHeld, ReadOnly, NoUseSlot, NoSuchUse}
use Rattle.sva_step.specs.declared.refusals.Refusal.TheVariants.{NoCredit, NoSuchGroup, PriDisabled, NotPending, InUse, BadCount, NotStopping, Busy}
use Rattle.sva_step.specs.declared.refusals.Refusal.TheVariants.{NoSuchMessage, Overtakes, NoSuchWorker, HandsFull, NoJob, BadVerdict, NumbersSpent}
use Rattle.sva_step.specs.declared.refusals.Refusal.TheVariants.{OutOfMemory, BadOrder, NotAligned, NothingMapped, BadPasid}
use Rattle.sva_step.specs.Refusals.{number_of, name_of, TellApart}

-- the refusals by number
abbrev all_refusals : List Refusal
all_refusals = BadConfig ∷ NoSuchEndpoint ∷ NoSuchSpace ∷ TooManySpaces ∷ PageRange ∷ Mapped ∷ NotMapped ∷ NoFrame ∷ SpaceFull ∷ AlreadyBound
    ∷ NoPasid ∷ StillBound ∷ NoSuchBinding ∷ NotLive ∷ NotYet ∷ QueueFull ∷ Resetting ∷ NotStarted ∷ NoTag ∷ NotHeld ∷ ReadOnly ∷ NoUseSlot
    ∷ NoSuchUse ∷ NoCredit ∷ NoSuchGroup ∷ PriDisabled ∷ NotPending ∷ InUse ∷ BadCount ∷ NotStopping ∷ Busy ∷ NoSuchMessage ∷ Overtakes
    ∷ NoSuchWorker ∷ HandsFull ∷ NoJob ∷ BadVerdict ∷ NumbersSpent ∷ OutOfMemory ∷ BadOrder ∷ NotAligned ∷ NothingMapped ∷ BadPasid ∷ []

abbrev numbered : ℕ → Option Refusal
numbered number = slice_get all_refusals (number - 1)

abbrev named : List ℕ → Option Refusal
named name = find (λ refusal. bytes_eq (name_of refusal) name) all_refusals

numbered-number_of : (refusal : Refusal) → numbered (number_of refusal) ≡ Some refusal
numbered-number_of BadConfig = refl
numbered-number_of NoSuchEndpoint = refl
numbered-number_of NoSuchSpace = refl
numbered-number_of TooManySpaces = refl
numbered-number_of PageRange = refl
numbered-number_of Mapped = refl
numbered-number_of NotMapped = refl
numbered-number_of NoFrame = refl
numbered-number_of SpaceFull = refl
numbered-number_of AlreadyBound = refl
numbered-number_of NoPasid = refl
numbered-number_of StillBound = refl
numbered-number_of NoSuchBinding = refl
numbered-number_of NotLive = refl
numbered-number_of NotYet = refl
numbered-number_of QueueFull = refl
numbered-number_of Resetting = refl
numbered-number_of NotStarted = refl
numbered-number_of NoTag = refl
numbered-number_of NotHeld = refl
numbered-number_of ReadOnly = refl
numbered-number_of NoUseSlot = refl
numbered-number_of NoSuchUse = refl
numbered-number_of NoCredit = refl
numbered-number_of NoSuchGroup = refl
numbered-number_of PriDisabled = refl
numbered-number_of NotPending = refl
numbered-number_of InUse = refl
numbered-number_of BadCount = refl
numbered-number_of NotStopping = refl
numbered-number_of Busy = refl
numbered-number_of NoSuchMessage = refl
numbered-number_of Overtakes = refl
numbered-number_of NoSuchWorker = refl
numbered-number_of HandsFull = refl
numbered-number_of NoJob = refl
numbered-number_of BadVerdict = refl
numbered-number_of NumbersSpent = refl
numbered-number_of OutOfMemory = refl
numbered-number_of BadOrder = refl
numbered-number_of NotAligned = refl
numbered-number_of NothingMapped = refl
numbered-number_of BadPasid = refl

named-name_of : (refusal : Refusal) → named (name_of refusal) ≡ Some refusal
named-name_of BadConfig = refl
named-name_of NoSuchEndpoint = refl
named-name_of NoSuchSpace = refl
named-name_of TooManySpaces = refl
named-name_of PageRange = refl
named-name_of Mapped = refl
named-name_of NotMapped = refl
named-name_of NoFrame = refl
named-name_of SpaceFull = refl
named-name_of AlreadyBound = refl
named-name_of NoPasid = refl
named-name_of StillBound = refl
named-name_of NoSuchBinding = refl
named-name_of NotLive = refl
named-name_of NotYet = refl
named-name_of QueueFull = refl
named-name_of Resetting = refl
named-name_of NotStarted = refl
named-name_of NoTag = refl
named-name_of NotHeld = refl
named-name_of ReadOnly = refl
named-name_of NoUseSlot = refl
named-name_of NoSuchUse = refl
named-name_of NoCredit = refl
named-name_of NoSuchGroup = refl
named-name_of PriDisabled = refl
named-name_of NotPending = refl
named-name_of InUse = refl
named-name_of BadCount = refl
named-name_of NotStopping = refl
named-name_of Busy = refl
named-name_of NoSuchMessage = refl
named-name_of Overtakes = refl
named-name_of NoSuchWorker = refl
named-name_of HandsFull = refl
named-name_of NoJob = refl
named-name_of BadVerdict = refl
named-name_of NumbersSpent = refl
named-name_of OutOfMemory = refl
named-name_of BadOrder = refl
named-name_of NotAligned = refl
named-name_of NothingMapped = refl
named-name_of BadPasid = refl

one-le-number_of : (refusal : Refusal) → 1 ≤ number_of refusal
one-le-number_of BadConfig = lit≤ tt
one-le-number_of NoSuchEndpoint = lit≤ tt
one-le-number_of NoSuchSpace = lit≤ tt
one-le-number_of TooManySpaces = lit≤ tt
one-le-number_of PageRange = lit≤ tt
one-le-number_of Mapped = lit≤ tt
one-le-number_of NotMapped = lit≤ tt
one-le-number_of NoFrame = lit≤ tt
one-le-number_of SpaceFull = lit≤ tt
one-le-number_of AlreadyBound = lit≤ tt
one-le-number_of NoPasid = lit≤ tt
one-le-number_of StillBound = lit≤ tt
one-le-number_of NoSuchBinding = lit≤ tt
one-le-number_of NotLive = lit≤ tt
one-le-number_of NotYet = lit≤ tt
one-le-number_of QueueFull = lit≤ tt
one-le-number_of Resetting = lit≤ tt
one-le-number_of NotStarted = lit≤ tt
one-le-number_of NoTag = lit≤ tt
one-le-number_of NotHeld = lit≤ tt
one-le-number_of ReadOnly = lit≤ tt
one-le-number_of NoUseSlot = lit≤ tt
one-le-number_of NoSuchUse = lit≤ tt
one-le-number_of NoCredit = lit≤ tt
one-le-number_of NoSuchGroup = lit≤ tt
one-le-number_of PriDisabled = lit≤ tt
one-le-number_of NotPending = lit≤ tt
one-le-number_of InUse = lit≤ tt
one-le-number_of BadCount = lit≤ tt
one-le-number_of NotStopping = lit≤ tt
one-le-number_of Busy = lit≤ tt
one-le-number_of NoSuchMessage = lit≤ tt
one-le-number_of Overtakes = lit≤ tt
one-le-number_of NoSuchWorker = lit≤ tt
one-le-number_of HandsFull = lit≤ tt
one-le-number_of NoJob = lit≤ tt
one-le-number_of BadVerdict = lit≤ tt
one-le-number_of NumbersSpent = lit≤ tt
one-le-number_of OutOfMemory = lit≤ tt
one-le-number_of BadOrder = lit≤ tt
one-le-number_of NotAligned = lit≤ tt
one-le-number_of NothingMapped = lit≤ tt
one-le-number_of BadPasid = lit≤ tt

pub number_of-le : (refusal : Refusal) → number_of refusal ≤ 43
number_of-le BadConfig = lit≤ tt
number_of-le NoSuchEndpoint = lit≤ tt
number_of-le NoSuchSpace = lit≤ tt
number_of-le TooManySpaces = lit≤ tt
number_of-le PageRange = lit≤ tt
number_of-le Mapped = lit≤ tt
number_of-le NotMapped = lit≤ tt
number_of-le NoFrame = lit≤ tt
number_of-le SpaceFull = lit≤ tt
number_of-le AlreadyBound = lit≤ tt
number_of-le NoPasid = lit≤ tt
number_of-le StillBound = lit≤ tt
number_of-le NoSuchBinding = lit≤ tt
number_of-le NotLive = lit≤ tt
number_of-le NotYet = lit≤ tt
number_of-le QueueFull = lit≤ tt
number_of-le Resetting = lit≤ tt
number_of-le NotStarted = lit≤ tt
number_of-le NoTag = lit≤ tt
number_of-le NotHeld = lit≤ tt
number_of-le ReadOnly = lit≤ tt
number_of-le NoUseSlot = lit≤ tt
number_of-le NoSuchUse = lit≤ tt
number_of-le NoCredit = lit≤ tt
number_of-le NoSuchGroup = lit≤ tt
number_of-le PriDisabled = lit≤ tt
number_of-le NotPending = lit≤ tt
number_of-le InUse = lit≤ tt
number_of-le BadCount = lit≤ tt
number_of-le NotStopping = lit≤ tt
number_of-le Busy = lit≤ tt
number_of-le NoSuchMessage = lit≤ tt
number_of-le Overtakes = lit≤ tt
number_of-le NoSuchWorker = lit≤ tt
number_of-le HandsFull = lit≤ tt
number_of-le NoJob = lit≤ tt
number_of-le BadVerdict = lit≤ tt
number_of-le NumbersSpent = lit≤ tt
number_of-le OutOfMemory = lit≤ tt
number_of-le BadOrder = lit≤ tt
number_of-le NotAligned = lit≤ tt
number_of-le NothingMapped = lit≤ tt
number_of-le BadPasid = lit≤ tt

same_some : (a b : Refusal) → Some a ≡ Some b → a ≡ b
same_some a b h = cc

pub tell_apart : TellApart
tell_apart = record {
  from_one = one-le-number_of;
  to_last = number_of-le;
  numbers = λ a b h. same_some a b (sym (numbered-number_of a) ∙ ap numbered h ∙ numbered-number_of b);
  names = λ a b h. same_some a b (sym (named-name_of a) ∙ ap named h ∙ named-name_of b);
}
