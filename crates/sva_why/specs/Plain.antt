-- What each refusal says, in a line without numbers.
use Rattle.std.specs.Prelude.{ℕ, List, ◌++◌, codes}
use Rattle.sva_step.specs.declared.refusals.Refusal.{Refusal}
use Rattle.sva_step.specs.declared.refusals.Refusal.TheVariants as refusal
use Rattle.sva_lines.specs.Pieces.{line_end}
use Rattle.sva_explain.specs.declared.blockers.levels.Level.TheVariants.{First}
use Rattle.sva_explain.specs.Lines.{indent}

abbrev pub plain_text : Refusal → List ℕ
plain_text refusal.BadConfig = codes "endpoints are 1 to 8, frames 1 to 4096, workers 1 to 4"
plain_text refusal.NoSuchEndpoint = codes "the config has no endpoint of this number"
plain_text refusal.NoSuchSpace = codes "no live space has this number"
plain_text refusal.TooManySpaces = codes "64 spaces are live"
plain_text refusal.PageRange = codes "pages are below 2^36"
plain_text refusal.Mapped = codes "the page is mapped"
plain_text refusal.NotMapped = codes "a page isn't mapped"
plain_text refusal.NoFrame = codes "too few frames are free, or none has this number"
plain_text refusal.SpaceFull = codes "the space would have more than 1024 pages"
plain_text refusal.AlreadyBound = codes "the space is bound to the endpoint"
plain_text refusal.NoPasid = codes "other spaces bear all 32 pasids"
plain_text refusal.StillBound = codes "the space is bound"
plain_text refusal.NoSuchBinding = codes "no unreleased binding has this number"
plain_text refusal.NotLive = codes "the binding isn't live"
plain_text refusal.NotYet = codes "the stage of the binding isn't over"
plain_text refusal.QueueFull = codes "a queue has too little room"
plain_text refusal.Resetting = codes "the unit is in reset"
plain_text refusal.NotStarted = codes "the pasid isn't on at the endpoint"
plain_text refusal.NoTag = codes "all 32 request tags are out"
plain_text refusal.NotHeld = codes "the endpoint holds no translation of the page under the pasid"
plain_text refusal.ReadOnly = codes "the translation that is held allows no write"
plain_text refusal.NoUseSlot = codes "all 16 use slots are taken"
plain_text refusal.NoSuchUse = codes "the use slot is free, or none of 0 to 15"
plain_text refusal.NoCredit = codes "32 page requests are outstanding at the endpoint"
plain_text refusal.NoSuchGroup = codes "the group is none of the pasid that still gets requests"
plain_text refusal.PriDisabled = codes "page requests are disabled at the endpoint: only a reset helps"
plain_text refusal.NotPending = codes "the vector names an itag that isn't pending, or none"
plain_text refusal.InUse = codes "an itag waits for a use"
plain_text refusal.BadCount = codes "completions are counted 1 to 8, and pages taken out 1 to 48 at a time"
plain_text refusal.NotStopping = codes "the pasid isn't told to stop at the endpoint"
plain_text refusal.Busy = codes "the pasid has a group, a tag or a use at the endpoint"
plain_text refusal.NoSuchMessage = codes "no message in flight has this number"
plain_text refusal.Overtakes = codes "an older message has to arrive before"
plain_text refusal.NoSuchWorker = codes "the config has no worker of this number"
plain_text refusal.HandsFull = codes "the worker has a job in hand"
plain_text refusal.NoJob = codes "no job is queued, or none is in the worker's hand"
plain_text refusal.BadVerdict = codes "a page is mapped read-only, and a request asks to write it"
plain_text refusal.NumbersSpent = codes "too few numbers are left below 2^63"
plain_text refusal.OutOfMemory = codes "there is no memory for it"
plain_text refusal.BadOrder = codes "the order of a range is 0 to 9"
plain_text refusal.NotAligned = codes "the first page is no multiple of the range's size"
plain_text refusal.NothingMapped = codes "no page of the range is mapped"
plain_text refusal.BadPasid = codes "pasids are 1 to 32"

abbrev pub plain_line : Refusal → List ℕ
plain_line told = indent First ++ plain_text told ++ line_end
