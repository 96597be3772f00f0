-- What an act needs so that it is permitted, in words.
use Rattle.std.specs.Prelude.{ℕ, List, codes}
use Rattle.sva_driver_words.specs.declared.needs.Need.{Need}
use Rattle.sva_driver_words.specs.declared.needs.Need.TheVariants as need

-- it stands behind the words which say that the act isn't permitted
abbrev pub need_text : Need → List ℕ
need_text need.Nothing = codes ""
need_text need.Room = codes ": submit needs an open unit with room for all descriptors"
need_text need.OpenUnit = codes ": close needs an open unit"
need_text need.ClosedUnit = codes ": open needs a closed unit"
need_text need.Descriptor = codes ": skip needs a descriptor in the queue"
need_text need.Done = codes ": await needs the wait done"
need_text need.Stopped = codes ": await needs an answer to the stop"
need_text need.Passed = codes ": await needs each barrier passed"
need_text need.EmptyQueue = codes ": await needs an empty page request queue"
need_text need.NoneQueued = codes ": await needs no page request of the PASID in the queue"
need_text need.Answered = codes ": await needs each whole group answered"
need_text need.ResetsDone = codes ": await needs each reset done"
need_text need.Quiet = codes ": await needs no translation request out and no use that runs"
need_text need.Gone = codes ": await needs the endpoint gone, and nothing of it on its way up"
need_text need.There = codes ": gone needs an endpoint that is there"
need_text need.Unanswered = codes ": expire needs timeouts, an open unit that can take no more, and that ITag out with no completion coming"
need_text need.Received = codes ": write needs a page request that the unit has received"
need_text need.Queued = codes ": serve needs a page request in the queue"
need_text need.FreeLock = codes ": lock needs a free lock"
need_text need.TakenLock = codes ": unlock needs a taken lock"
need_text need.Deliverable = codes ": deliver needs such a message in flight, behind none that it may not overtake"
need_text need.Head = codes ": pump without a place needs order queue, an open unit, and a descriptor at the head that may go"
need_text need.Unbarred = codes ": pump with a place needs order loose, an open unit, and a descriptor there that none before it bars"
need_text need.KeptEntry = codes ": forget needs the entry kept by the unit"
need_text need.KeptTranslation = codes ": forget needs the translation kept by the unit"
need_text need.On = codes ": ask needs the PASID, ATS and bus mastering on at the endpoint"
need_text need.Usable = codes ": use needs the PASID, ATS and bus mastering on at the endpoint, and a held translation of the page"
need_text need.Held = codes ": evict needs a held translation of the page"
need_text need.Running = codes ": end needs a use that runs"
need_text need.Covered = codes ": finish needs an invalidation that has come, with no older use of what it covers"
need_text need.Drained = codes ": pass needs a barrier that has come, and nothing older of its PASID to end"
need_text need.Idle = codes ": quit needs a stop that has come, and no group, request or use of the PASID to end"
need_text need.Enabled = codes ": fault needs the PASID and page requests on at the endpoint, and no Response Failure since"
need_text need.Unfinished =
    codes ": fault needs that group of the PASID unfinished, and no Response Failure since page requests came on"
