-- How many PASIDs an endpoint has to have: each that a line names.
use Rattle.std.specs.Prelude.{ℕ, suc, nat_lt, if◌then◌else◌, List, [], ◌∷◌, Option, Some, None}
use Rattle.sva_open.specs.declared.acts.Act.TheVariants as act
use Rattle.sva_open.specs.declared.acts.LocalAct.{LocalAct}
use Rattle.sva_open.specs.declared.acts.LocalAct.TheVariants as local
use Rattle.sva_open.specs.declared.drivers.Condition.{Condition}
use Rattle.sva_open.specs.declared.drivers.Condition.TheVariants as condition
use Rattle.sva_driver_words.specs.Awaits.{LineSaid}
use Rattle.sva_driver_words.specs.Sayings.{SayingSaid}
use Rattle.sva_driver_words.specs.Sayings.SayingSaid.{DoesSaid, LooksSaid}

abbrev pub or_zero : Option ℕ → ℕ
or_zero None = 0
or_zero (Some pasid) = pasid

-- The PASID that an act at an endpoint is of, or 0 if it is of none: there is a PASID 0 in any case.
abbrev pub pasid_of : LocalAct → ℕ
pasid_of (local.SetEntry pasid space) = pasid
pasid_of (local.Replace pasid space) = pasid
pasid_of (local.ClearEntry pasid) = pasid
pasid_of (local.Start pasid) = pasid
pasid_of (local.Stop pasid) = pasid
pasid_of (local.Barrier barrier) = barrier.pasid
pasid_of (local.AwaitStopped pasid) = pasid
pasid_of (local.AwaitPassed pasid thread) = pasid
pasid_of (local.AwaitQueueOf pasid) = pasid
pasid_of (local.AwaitGroups pasid) = or_zero pasid
pasid_of (local.Respond pasid index fails) = pasid
pasid_of (local.RespondAll pasid fails) = or_zero pasid
pasid_of (local.Discard pasid) = or_zero pasid
pasid_of (local.FreePasid pasid) = pasid
pasid_of (local.Ask pasid page) = pasid
pasid_of (local.Use pasid page) = pasid
pasid_of (local.Evict pasid page) = pasid
pasid_of (local.Fault pasid page write last) = pasid
pasid_of (local.Quit pasid) = pasid
pasid_of _ = 0

-- the same of what a line looks at
abbrev pub pasid_looked_at : Condition → ℕ
pasid_looked_at (condition.Flag flag) = 0
pasid_looked_at (condition.Present endpoint pasid) = pasid
pasid_looked_at (condition.Stopped endpoint pasid) = pasid
pasid_looked_at (condition.Filed endpoint pasid) = or_zero pasid
pasid_looked_at (condition.Queued endpoint pasid) = or_zero pasid
pasid_looked_at (condition.Gone endpoint) = 0
pasid_looked_at (condition.Overflowed endpoint) = 0
pasid_looked_at (condition.Failed endpoint line) = 0

abbrev pub pasid_at : SayingSaid → ℕ
pasid_at (DoesSaid (act.At endpoint its)) = pasid_of its
pasid_at (LooksSaid its so) = pasid_looked_at its
pasid_at _ = 0

-- the higher one of two
abbrev pub higher : (one other : ℕ) → ℕ
higher one other = if nat_lt one other then other else one

-- the highest one that lines name, or another that is higher
unfoldable pub highest_by : (highest : ℕ) → List LineSaid → ℕ
highest_by highest [] = highest
highest_by highest (line ∷ lines) = highest_by (higher highest (pasid_at line.saying)) lines

-- PASIDs are below 33. Of those above the highest that lines name nothing ever comes, so an endpoint has none of them.
abbrev pub pasids_of : List LineSaid → ℕ
pasids_of lines = if nat_lt (highest_by 0 lines) 33 then suc (highest_by 0 lines) else 33
