-- Each refusal is in the list of all.
use Rattle.std.proofs.Common.{◌≡◌, refl, Some}
use Rattle.sva_step.specs.declared.refusals.Refusal.{Refusal}
use Rattle.sva_step.specs.declared.refusals.Refusal.TheVariants as refusal
use Rattle.sva_step.specs.Refusals.{number_of}
use Rattle.sva_race_texts.specs.Possible.{refusal_of, refusals}

pub found : (one : Refusal) → refusal_of (number_of one) ≡ Some one
unfolding refusals
found refusal.BadConfig = refl
found refusal.NoSuchEndpoint = refl
found refusal.NoSuchSpace = refl
found refusal.TooManySpaces = refl
found refusal.PageRange = refl
found refusal.Mapped = refl
found refusal.NotMapped = refl
found refusal.NoFrame = refl
found refusal.SpaceFull = refl
found refusal.AlreadyBound = refl
found refusal.NoPasid = refl
found refusal.StillBound = refl
found refusal.NoSuchBinding = refl
found refusal.NotLive = refl
found refusal.NotYet = refl
found refusal.QueueFull = refl
found refusal.Resetting = refl
found refusal.NotStarted = refl
found refusal.NoTag = refl
found refusal.NotHeld = refl
found refusal.ReadOnly = refl
found refusal.NoUseSlot = refl
found refusal.NoSuchUse = refl
found refusal.NoCredit = refl
found refusal.NoSuchGroup = refl
found refusal.PriDisabled = refl
found refusal.NotPending = refl
found refusal.InUse = refl
found refusal.BadCount = refl
found refusal.NotStopping = refl
found refusal.Busy = refl
found refusal.NoSuchMessage = refl
found refusal.Overtakes = refl
found refusal.NoSuchWorker = refl
found refusal.HandsFull = refl
found refusal.NoJob = refl
found refusal.BadVerdict = refl
found refusal.NumbersSpent = refl
found refusal.OutOfMemory = refl
found refusal.BadOrder = refl
found refusal.NotAligned = refl
found refusal.NothingMapped = refl
found refusal.BadPasid = refl
