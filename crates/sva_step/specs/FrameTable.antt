-- A list of frames as it lies in a fixed table of 48 places: the frames, and zeros behind them.
use Rattle.std.specs.Prelude.{◌≡◌, ℕ, ◌-◌, ◌≤◌, List, ◌++◌, length, take, drop, replicate}
use Rattle.std.proofs.Common.{arith}
use Rattle.std.proofs.lemmas.List.{take-append-drop, length-take-le}
use Rattle.sva_step.specs.declared.frame_list.FrameList.TheInside.{Inside}

-- the frames of the list: the first `len` places of the table
abbrev pub frames_of : Inside → List ℕ
frames_of table = take table.len table.frames

-- the table has 48 places, since an `unmap` takes out so many pages at most: the frames stand in the first, and zeros in the others
abbrev pub IsFrameTable : Inside → Type 0
IsFrameTable table = (table.len ≤ 48) × (length table.frames ≡ 48) × (drop table.len table.frames ≡ replicate (48 - table.len) 0)

-- the table in which a list of at most 48 frames lies
abbrev pub table_of : List ℕ → Inside
table_of frames = record { frames = frames ++ replicate (48 - length frames) 0; len = length frames }

-- a table is the one of its frames, so that no two have the same
pub table_of-frames_of : (table : Inside) → IsFrameTable table → table_of (frames_of table) ≡ table
table_of-frames_of table holds =
    let short : table.len ≤ length table.frames = omega arith in
    let count : length (take table.len table.frames) ≡ table.len = length-take-le table.len table.frames short in
    let whole : take table.len table.frames ++ replicate (48 - length (take table.len table.frames)) 0 ≡ table.frames =
    rw (count, ← holds.2) (take-append-drop table.len table.frames) in
    λ i. record { frames = whole i; len = count i }
