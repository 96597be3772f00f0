-- The moves of a binding from its beginning to its release, and the stage table (this project's own rule).
use Rattle.std.specs.Prelude.{◌≡◌, ℕ, Bool, true, false, ◌≢◌, ◌⊎◌, not, Result, Ok, Err, List, [], ◌∷◌, All, Contains}
use Rattle.std.specs.Bool.{MatchBool}
use Rattle.sva_pasid.specs.States.{Numbers, Stop, Wait, stop_of, marked_stop, drain_of, done_wait, invalidation_of, quiet_of, numbers_of_stop}
use Rattle.sva_pasid.specs.States.{numbers_of_wait}
use Rattle.sva_pasid.specs.Stages.{numbers_of}
use Rattle.sva_pasid.specs.declared.stages.Stage.{Stage}
use Rattle.sva_pasid.specs.declared.stages.Stage.TheVariants.{Live, Stopping, Draining, Invalidating, Quiet, Lost}

-- a binding is at a stage until it is released
pub data Life : Type 0 where
  at : (stage : Stage) → Life
  over : (numbers : Numbers) → Life

-- the calls on a state: `reset` stands for each `by_reset` and for `lost`, `settle` for each `quiet`
pub data Move : Type 0 where
  stop : Move
  mark : Move
  drain : (cookie : ℕ) → Move
  wait_done : Move
  invalidate : (cookie : ℕ) (groups_open : Bool) → Move
  settle : Move
  reset : Move
  release : Move

-- where the wait with drain was submitted the binding drains (Intel VT-d, "Page Request Drain"); else it waits for its marker still
abbrev pub at_drained : Result Wait Stop → Life
at_drained (Ok wait) = at (Draining wait)
at_drained (Err to_stop) = at (Stopping to_stop)

-- where the PASID's invalidation was submitted the binding is invalidating; else its wait or an open group holds it back still
abbrev pub at_invalidated : Result Wait Wait → Life
at_invalidated (Ok wait) = at (Invalidating wait)
at_invalidated (Err wait) = at (Draining wait)

-- where the wait behind the PASID's invalidation is done the binding is quiet; else it waits for that still
abbrev pub at_settled : Result Numbers Wait → Life
at_settled (Ok numbers) = at (Quiet numbers)
at_settled (Err wait) = at (Invalidating wait)

-- a move that the state has no call for, and one that is refused, leave it as it is
abbrev pub after_move : Life → Move → Life
after_move (at (Live numbers)) stop = at (Stopping (stop_of numbers))
after_move (at (Live numbers)) reset = at (Lost numbers)
after_move (at (Stopping to_stop)) mark = at (Stopping (marked_stop to_stop))
after_move (at (Stopping to_stop)) (drain cookie) = at_drained (drain_of to_stop cookie)
after_move (at (Stopping to_stop)) reset = at (Quiet (numbers_of_stop to_stop))
after_move (at (Draining wait)) wait_done = at (Draining (done_wait wait))
after_move (at (Draining wait)) (invalidate cookie groups_open) = at_invalidated (invalidation_of wait cookie groups_open)
after_move (at (Draining wait)) reset = at (Quiet (numbers_of_wait wait))
after_move (at (Invalidating wait)) wait_done = at (Invalidating (done_wait wait))
after_move (at (Invalidating wait)) settle = at_settled (quiet_of wait)
after_move (at (Invalidating wait)) reset = at (Quiet (numbers_of_wait wait))
after_move (at (Lost numbers)) settle = at (Quiet numbers)
after_move (at (Quiet numbers)) release = over numbers
after_move life _ = life

-- a binding after all moves of the list
abbrev pub after_moves : Life → List Move → Life
after_moves life [] = life
after_moves life (move ∷ moves) = after_moves (after_move life move) moves

-- the number and the PASID of a binding, which can be told when it is released too
abbrev pub numbers_of_life : Life → Numbers
numbers_of_life (at stage) = numbers_of stage
numbers_of_life (over numbers) = numbers

-- the names of the stages, and of their end
pub data Kind : Type 0 where
  live : Kind
  stopping : Kind
  draining : Kind
  invalidating : Kind
  quiet : Kind
  lost : Kind
  released : Kind

-- the name of a stage alone: without the marker and the wait descriptor that it may wait for
abbrev pub kind_of_stage : Stage → Kind
kind_of_stage (Live _) = live
kind_of_stage (Stopping _) = stopping
kind_of_stage (Draining _) = draining
kind_of_stage (Invalidating _) = invalidating
kind_of_stage (Quiet _) = quiet
kind_of_stage (Lost _) = lost

-- the name of the stage at which a binding is, or that it is released
abbrev pub kind_of : Life → Kind
kind_of (at stage) = kind_of_stage stage
kind_of (over _) = released

-- the stage table: to what each stage may move
abbrev pub next_of : Kind → List Kind
next_of live = stopping ∷ lost ∷ []
next_of stopping = draining ∷ quiet ∷ []
next_of draining = invalidating ∷ quiet ∷ []
next_of invalidating = quiet ∷ []
next_of quiet = released ∷ []
next_of lost = quiet ∷ []
next_of released = []

-- the stage is the same, or has moved by one row of the stage table
abbrev pub IsTableStep : Kind → Kind → Type 0
IsTableStep before after = (before ≡ after) ⊎ Contains (next_of before) after

-- each move is a row of the stage table, or leaves the stage
abbrev pub MovesByTable : Type 0
MovesByTable = (life : Life) (move : Move) → IsTableStep (kind_of life) (kind_of (after_move life move))

-- each row of the stage table is a move
abbrev pub TableByMoves : Type 0
TableByMoves =
    (before : Kind) → All (λ after. (life : Life) × (move : Move) × (kind_of life ≡ before) × (kind_of (after_move life move) ≡ after)) (next_of before)

-- a binding keeps its number and its PASID through all its moves: those with which it began are released
abbrev pub KeepsNumbers : Type 0
KeepsNumbers = (life : Life) (moves : List Move) → numbers_of_life (after_moves life moves) ≡ numbers_of_life life

-- which call a move is
abbrev pub is_stop : Move → Bool
is_stop stop = true
is_stop _ = false

-- is the marker noted by it?
abbrev pub is_mark : Move → Bool
is_mark mark = true
is_mark _ = false

-- is the wait with drain to be submitted by it?
abbrev pub is_drain : Move → Bool
is_drain (drain _) = true
is_drain _ = false

-- does it tell that the wait descriptor is done for which the binding waits?
abbrev pub is_wait_done : Move → Bool
is_wait_done wait_done = true
is_wait_done _ = false

-- with no group of page requests open
abbrev pub is_invalidate : Move → Bool
is_invalidate (invalidate _ groups_open) = not groups_open
is_invalidate _ = false

-- is the binding to become quiet by it?
abbrev pub is_settle : Move → Bool
is_settle settle = true
is_settle _ = false

-- the moves have one for each of the tests, in the tests' order
abbrev pub HasInOrder : List (Move → Bool) → List Move → Type 0
HasInOrder [] moves = Unit {0}
HasInOrder (test ∷ tests) [] = ⊥
HasInOrder (test ∷ tests) (move ∷ moves) = MatchBool (test move) (HasInOrder tests moves) (HasInOrder (test ∷ tests) moves)

-- what has to come, in this order, before the endpoint can hold nothing of a binding any longer
abbrev pub whole_unbinding : List (Move → Bool)
whole_unbinding = is_stop ∷ is_mark ∷ is_drain ∷ is_wait_done ∷ is_invalidate ∷ is_wait_done ∷ is_settle ∷ []

-- without a reset a binding that has begun is quiet, or released, only after the whole unbinding
abbrev pub QuietAfterUnbinding : Type 0
QuietAfterUnbinding =
    (numbers : Numbers) (moves : List Move) → All (λ move. move ≢ reset) moves → (kind_of (after_moves (at (Live numbers)) moves) ≡ quiet)
    ⊎ (kind_of (after_moves (at (Live numbers)) moves) ≡ released) → HasInOrder whole_unbinding moves
