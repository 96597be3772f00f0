-- Frames belong to the spaces: a frame that is mapped in the pool is at one page at most, and any other at none.
use Rattle.std.specs.Prelude.{◌≡◌, ◌≤◌, ℕ, ◌+◌, Bool, Option, Some, List, slice_get}
use Rattle.sva_frames.specs.Frames.{Holding, Mapped}
use Rattle.sva_space.specs.Calls.{count_in}

-- 1 where the pool has the frame and it is mapped there, else 0
abbrev pub one_if_mapped : Option Holding → ℕ
one_if_mapped (Some Mapped) = 1
one_if_mapped _ = 0

-- 1 where the frame is mapped in the pool, else 0
abbrev pub mapped_bit : (frame : ℕ) → List Holding → ℕ
mapped_bit frame frames = one_if_mapped (slice_get frames frame)

-- each page of the space leads to a frame that is mapped in the pool, no two to one
abbrev pub Owns : List (ℕ × (ℕ × Bool)) → List Holding → Type 0
Owns space frames = (frame : ℕ) → count_in frame space ≤ mapped_bit frame frames

-- a frame came into the space where it became mapped in the pool, and left it where it became free
abbrev pub Balanced : (old_space : List (ℕ × (ℕ × Bool))) → (old_frames : List Holding) → (new_space : List (ℕ × (ℕ × Bool)))
    → (new_frames : List Holding) → Type 0
Balanced old_space old_frames new_space new_frames =
    (frame : ℕ) → count_in frame new_space + mapped_bit frame old_frames ≡ count_in frame old_space + mapped_bit frame new_frames

-- each frame of the space has left the pool's mapped ones
abbrev pub Spent : List (ℕ × (ℕ × Bool)) → (old_frames new_frames : List Holding) → Type 0
Spent space old_frames new_frames = (frame : ℕ) → count_in frame space + mapped_bit frame new_frames ≡ mapped_bit frame old_frames
