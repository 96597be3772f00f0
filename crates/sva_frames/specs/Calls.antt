use Rattle.std.specs.Prelude.{◌≡◌, ℕ, ◌+◌, ◌==◌, Bool, false, ◌&&◌, ⊤, List, [], ◌∷◌, Option, Some, None, length, map, replicate, slice_get, slice_set}
use Rattle.std.specs.Prelude.{position, if◌then◌else◌}
use Rattle.std.specs.List.{list_any}
use Rattle.sva_frames.specs.declared.waits.Target.{Target}
use Rattle.sva_frames.specs.declared.waits.Target.TheVariants.{Cookie, ResetEnd}
use Rattle.sva_frames.specs.declared.waits.TheConstants.{UNITS}
use Rattle.sva_frames.specs.Frames.{Holding, Free, Mapped, is_free, after_waits, past_cookie, past_reset, settled}

-- a call that may change a pool, with its arguments: a frame's number, a table of waits, a unit, a cookie
pub data Call : Type 0 where
  Take : Call
  Give : ℕ → Call
  Withhold : ℕ → List (Option Target) → Call
  Settle : ℕ → ℕ → Call
  SettleAll : ℕ → Call

-- the pool as it was opened
abbrev pub opened : ℕ → List Holding
opened count = replicate count Free

-- the pool after `take` has answered
abbrev pub after_take : List Holding → Option ℕ → List Holding
after_take frames None = frames
after_take frames (Some number) = slice_set frames number Mapped

-- the pool after a call
abbrev pub after : List Holding → Call → List Holding
after frames Take = after_take frames (position is_free frames)
after frames (Give number) = slice_set frames number Free
after frames (Withhold number waits) = slice_set frames number (after_waits waits)
after frames (Settle unit cookie) = map (settled unit (past_cookie cookie)) frames
after frames (SettleAll unit) = map (settled unit past_reset) frames

-- The condition of a call: the frame is in hand, and waits are a table of the eight units. `withhold` also asks for room,
-- by `HaveRoom`; the laws hold of lists of calls with or without it.
abbrev pub IsPermitted : List Holding → Call → Type 0
IsPermitted frames Take = ⊤
IsPermitted frames (Give number) = slice_get frames number ≡ Some Mapped
IsPermitted frames (Withhold number waits) = (slice_get frames number ≡ Some Mapped) × (length waits ≡ UNITS)
IsPermitted frames (Settle unit cookie) = ⊤
IsPermitted frames (SettleAll unit) = ⊤

-- the pool after a list of calls
abbrev pub after_all : List Holding → List Call → List Holding
after_all frames [] = frames
after_all frames (call ∷ calls) = after_all (after frames call) calls

-- each call of the list is permitted when its turn comes
abbrev pub ArePermitted : List Holding → List Call → Type 0
ArePermitted frames [] = ⊤
ArePermitted frames (call ∷ calls) = IsPermitted frames call × ArePermitted (after frames call) calls

-- the call settles what is awaited at a unit: its own cookie, or, at the end of a reset, whatever it is
abbrev pub settles : ℕ → Target → Call → Bool
settles unit target Take = false
settles unit target (Give number) = false
settles unit target (Withhold number waits) = false
settles unit (Cookie awaited) (Settle at cookie) = at == unit && awaited == cookie
settles unit ResetEnd (Settle at cookie) = false
settles unit target (SettleAll at) = at == unit

-- the targets that none of the calls settles, in a table whose first unit has the given number
abbrev pub unsettled : List Call → ℕ → List (Option Target) → List (Option Target)
unsettled calls unit [] = []
unsettled calls unit (None ∷ targets) = None ∷ unsettled calls (unit + 1) targets
unsettled calls unit (Some target ∷ targets) =
    (if list_any (settles unit target) calls then None else Some target) ∷ unsettled calls (unit + 1) targets

-- the call takes a frame out of its holder's hand
abbrev pub spends : ℕ → Call → Bool
spends number Take = false
spends number (Give given) = given == number
spends number (Withhold given waits) = given == number
spends number (Settle unit cookie) = false
spends number (SettleAll unit) = false
