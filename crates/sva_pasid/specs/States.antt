-- What contracts see of a binding's states, and what each move makes of one. The moves are this project's own rule:
-- how a device is told to stop a PASID is device-specific (PCI Express Base 5.0, section 6.20).
use Rattle.std.specs.Prelude.{ℕ, Bool, true, false, ◌&&◌, not, Result, Ok, Err, if◌then◌else◌}

-- the number of a binding, and the PASID that it bears from its beginning to its release
pub record Numbers : Type 0 where
  pub binding : ℕ
  pub pasid : ℕ

-- a binding whose stop was sent, and whether the marker that answers it was noted
pub record Stop : Type 0 where
  pub binding : ℕ
  pub pasid : ℕ
  pub marked : Bool

-- a binding, the cookie of the wait descriptor for which it waits, and whether that wait is done
pub record Wait : Type 0 where
  pub binding : ℕ
  pub pasid : ℕ
  pub cookie : ℕ
  pub waited : Bool

-- a stop is sent: its marker isn't noted yet
abbrev pub stop_of : Numbers → Stop
stop_of numbers = record { binding = numbers.binding; pasid = numbers.pasid; marked = false }

-- the marker is noted
abbrev pub marked_stop : Stop → Stop
marked_stop stop = record stop { marked = true }

-- the wait with drain is submitted where the marker was noted, else the stop is given back
abbrev pub drain_of : Stop → ℕ → Result Wait Stop
drain_of stop cookie =
    if stop.marked then Ok (record { binding = stop.binding; pasid = stop.pasid; cookie = cookie; waited = false }) else Err stop

-- the wait is done
abbrev pub done_wait : Wait → Wait
done_wait wait = record wait { waited = true }

-- the invalidation of the whole PASID, and a wait behind it, are submitted where the wait with drain is done and no
-- group of page requests of the binding is open, else the wait is given back
abbrev pub invalidation_of : Wait → ℕ → Bool → Result Wait Wait
invalidation_of wait cookie groups_open =
    if wait.waited && not groups_open then Ok (record wait { cookie = cookie; waited = false }) else Err wait

-- what a stop and a wait leave of a binding
abbrev pub numbers_of_stop : Stop → Numbers
numbers_of_stop stop = record { binding = stop.binding; pasid = stop.pasid }

-- of a wait the cookie is left out, and whether it was done
abbrev pub numbers_of_wait : Wait → Numbers
numbers_of_wait wait = record { binding = wait.binding; pasid = wait.pasid }

-- the endpoint holds nothing any longer where the wait behind the invalidation is done, else the wait is given back
abbrev pub quiet_of : Wait → Result Numbers Wait
quiet_of wait = if wait.waited then Ok (numbers_of_wait wait) else Err wait
