-- The stage of a binding: the two numbers that it keeps from its beginning to its release, and what a reset makes of it.
use Rattle.std.specs.Prelude.{⊤, Result, Ok, Err}
use Rattle.sva_pasid.specs.States.{Numbers, numbers_of_stop, numbers_of_wait}
use Rattle.sva_pasid.specs.declared.stages.Stage.{Stage}
use Rattle.sva_pasid.specs.declared.stages.Stage.TheVariants.{Live, Stopping, Draining, Invalidating, Quiet, Lost}

-- a binding's number and PASID, which each stage keeps
abbrev pub numbers_of : Stage → Numbers
numbers_of (Live numbers) = numbers
numbers_of (Stopping stop) = numbers_of_stop stop
numbers_of (Draining wait) = numbers_of_wait wait
numbers_of (Invalidating wait) = numbers_of_wait wait
numbers_of (Quiet numbers) = numbers
numbers_of (Lost numbers) = numbers

-- the binding is in use
abbrev pub IsLive : Stage → Type 0
IsLive (Live _) = ⊤
IsLive _ = ⊥

-- after a reset of the endpoint a binding that was in use is lost, and one that was being ended has nothing left to wait
-- for; a quiet and a lost one stay
abbrev pub reset_of : Stage → Stage
reset_of (Live numbers) = Lost numbers
reset_of (Stopping stop) = Quiet (numbers_of_stop stop)
reset_of (Draining wait) = Quiet (numbers_of_wait wait)
reset_of (Invalidating wait) = Quiet (numbers_of_wait wait)
reset_of (Quiet numbers) = Quiet numbers
reset_of (Lost numbers) = Lost numbers

-- the stage at which a reset leaves a binding: Quiet, or Lost
abbrev pub at_reset : Result Numbers Numbers → Stage
at_reset (Ok numbers) = Quiet numbers
at_reset (Err numbers) = Lost numbers
