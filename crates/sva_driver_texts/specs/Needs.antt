-- What a line needs so that it is permitted.
use Rattle.sva_open.specs.declared.acts.Act.{Act}
use Rattle.sva_open.specs.declared.acts.Act.TheVariants as act
use Rattle.sva_open.specs.declared.acts.LocalAct.{LocalAct}
use Rattle.sva_open.specs.declared.acts.LocalAct.TheVariants as local
use Rattle.sva_open.specs.declared.naming.Named.{Named}
use Rattle.sva_open.specs.declared.naming.Named.TheVariants as named
use Rattle.sva_open.specs.declared.drivers.Saying.{Saying}
use Rattle.sva_open.specs.declared.drivers.Saying.TheVariants as saying
use Rattle.sva_driver_words.specs.declared.needs.Need.{Need}
use Rattle.sva_driver_words.specs.declared.needs.Need.TheVariants as need

-- an act at an endpoint
abbrev pub need_at : LocalAct → Need
need_at (local.SetEntry pasid space) = need.Nothing
need_at (local.Replace pasid space) = need.Nothing
need_at (local.ClearEntry pasid) = need.Nothing
need_at (local.Start pasid) = need.Nothing
need_at (local.Stop pasid) = need.Nothing
need_at (local.Barrier barrier) = need.Nothing
need_at local.Reset = need.Nothing
need_at (local.Submit descriptors) = need.Room
need_at local.Close = need.OpenUnit
need_at local.Reopen = need.ClosedUnit
need_at local.Skip = need.Descriptor
need_at local.Resume = need.Nothing
need_at (local.AwaitWait name) = need.Done
need_at (local.AwaitStopped pasid) = need.Stopped
need_at (local.AwaitPassed pasid thread) = need.Passed
need_at local.AwaitQueue = need.EmptyQueue
need_at (local.AwaitQueueOf pasid) = need.NoneQueued
need_at (local.AwaitGroups pasid) = need.Answered
need_at local.AwaitResets = need.ResetsDone
need_at (local.Turn control on) = need.Nothing
need_at local.AwaitIdle = need.Quiet
need_at local.AwaitGone = need.Gone
need_at local.Serve = need.Queued
need_at (local.Respond pasid index fails) = need.Nothing
need_at (local.RespondAll pasid fails) = need.Nothing
need_at (local.Discard pasid) = need.Nothing
need_at (local.FreePasid pasid) = need.Nothing
need_at (local.Ask pasid page) = need.On
need_at (local.Use pasid page) = need.Usable
need_at (local.End place) = need.Running
need_at (local.Evict pasid page) = need.Held
need_at (local.Fault pasid page write last) = need.Enabled
need_at (local.More index page write last) = need.Unfinished
need_at (local.Finish place) = need.Covered
need_at (local.Pass place) = need.Drained
need_at (local.Quit pasid) = need.Idle
need_at local.Leave = need.There
need_at local.Pump = need.Head
need_at (local.PumpAt place) = need.Unbarred
need_at (local.Expire itag silent) = need.Unanswered
need_at local.Write = need.Received
need_at (local.ForgetEntry place) = need.KeptEntry
need_at (local.Forget place) = need.KeptTranslation
need_at (local.Deliver place) = need.Deliverable

-- one in memory is always permitted, and so is one that does nothing
abbrev pub need_of_act : Act → Need
need_of_act (act.At endpoint its) = need_at its
need_of_act _ = need.Nothing

abbrev pub need_named : Named → Need
need_named (named.Deliver kind older) = need.Deliverable
need_named (named.End older) = need.Running
need_named (named.Finish older) = need.Covered
need_named (named.Pass older) = need.Drained
need_named (named.More pasid index page write last) = need.Unfinished
need_named (named.ForgetEntry pasid) = need.KeptEntry
need_named (named.Forget pasid page) = need.KeptTranslation

-- a line above was taken already, and one that sets a flag or looks is always permitted
abbrev pub need_of : Saying → Need
need_of (saying.Does its) = need_of_act its
need_of (saying.Names endpoint its) = need_named its
need_of (saying.AwaitsLine line) = need.Nothing
need_of (saying.AwaitsWaits endpoint line) = need.Done
need_of (saying.Locks lock) = need.FreeLock
need_of (saying.Unlocks lock) = need.TakenLock
need_of (saying.Sets flag on) = need.Nothing
need_of (saying.Looks condition so) = need.Nothing
