-- The blocks that are open.
use Rattle.std.specs.Prelude.{◌≡◌, ℕ, ◌&&◌, if◌then◌else◌, Bool, true, false, List, [], ◌∷◌, ◌++◌, codes, filter, map, remove, slice_get, slice_set}
use Rattle.std.specs.Prelude.{Option, Some, None, Result, Ok, Err}
use Rattle.std.specs.Str.{bytes_eq}
use Rattle.sva_script.specs.Names.{Known}
use Rattle.sva_driver_words.specs.Awaits.{last_from}
use Rattle.sva_driver_words.specs.Faults.{fault_text, wrong_at}
use Rattle.sva_driver_words.specs.Fields.{says}
use Rattle.sva_driver_words.specs.declared.faults.BranchWanted.TheVariants as branch
use Rattle.sva_driver_words.specs.declared.faults.DriverWanted.TheVariants as wanted
use Rattle.sva_driver_words.specs.declared.faults.DriverWrong.{DriverWrong}
use Rattle.sva_driver_words.specs.declared.kept.Under.{Under}
use Rattle.sva_driver_texts.specs.declared.blocks.Block.{Block}

-- a block that is open: its thread, which may be empty, the number of its `if` in the text, and the place of that with the branch in which
-- the lines that follow stand
pub record BlockSaid : Type 0 where
  pub thread : List ℕ
  pub number : ℕ
  pub under : Under
  -- is its `if` right?
  pub is_right : Bool

-- as code keeps it
abbrev pub block_seen : Block → BlockSaid
block_seen block =
    record { thread = block.thread.items; number = block.number; under = block.under; is_right = block.is_right }

abbrev pub is_of : (thread : List ℕ) → BlockSaid → Bool
is_of thread block = bytes_eq block.thread thread

-- in that of a wrong `if` none does
abbrev pub has_line_of : (thread : List ℕ) → BlockSaid → Bool
has_line_of thread block = is_of thread block && block.is_right

-- those in which a line of a thread stands, the outermost first
abbrev pub under_of : (thread : List ℕ) → List BlockSaid → List Under
under_of thread blocks = map (λ block. block.under) (filter (has_line_of thread) blocks)

abbrev pub under_one : (thread : List ℕ) → BlockSaid → List Under
under_one thread block = if has_line_of thread block then block.under ∷ [] else []

-- the place of the one of a thread that was opened last
abbrev pub last_of : (thread : List ℕ) → List BlockSaid → Option ℕ
last_of thread blocks = last_from (is_of thread) 0 None blocks

-- ---- `if`, `else` and `end`

-- behind `if` the lines of its thread stand in its first branch
abbrev pub opened_by : (thread : List ℕ) → (number place : ℕ) → BlockSaid
opened_by thread number place =
    record { thread = thread; number = number; under = record { line = place; so = true }; is_right = true }

-- a wrong `if` opens one too, so that its `else` and `end` aren't told
abbrev pub opened_wrong : (thread : List ℕ) → (number : ℕ) → BlockSaid
opened_wrong thread number =
    record { thread = thread; number = number; under = record { line = 0; so = true }; is_right = false }

abbrev pub with_block : List BlockSaid → (thread : List ℕ) → (number place : ℕ) → List (List ℕ) → List BlockSaid
with_block blocks thread number place words =
    if says 0 (codes "if") words then blocks ++ opened_by thread number place ∷ [] else blocks

-- behind `else` they stand in the other branch of the block that was opened last
abbrev pub turned : BlockSaid → BlockSaid
turned block = record block { under = record { line = block.under.line; so = false } }

abbrev pub turned_at : List BlockSaid → (place : ℕ) → Option BlockSaid → Result (List BlockSaid) DriverWrong
turned_at blocks place None = wrong_at 0 (wanted.Branch branch.If)
turned_at blocks place (Some block) =
    if block.under.so then Ok (slice_set blocks place (turned block)) else wrong_at 0 (wanted.Branch branch.NoElse)

abbrev pub else_at : List BlockSaid → Option ℕ → Result (List BlockSaid) DriverWrong
else_at blocks None = wrong_at 0 (wanted.Branch branch.If)
else_at blocks (Some place) = turned_at blocks place (slice_get blocks place)

-- behind `end` that block is none
abbrev pub end_at : List BlockSaid → Option ℕ → Result (List BlockSaid) DriverWrong
end_at blocks None = wrong_at 0 (wanted.Branch branch.If)
end_at blocks (Some place) = Ok (remove blocks place)

abbrev pub branched : List BlockSaid → (thread word : List ℕ) → Result (List BlockSaid) DriverWrong
branched blocks thread word =
    if bytes_eq word (codes "else") then else_at blocks (last_of thread blocks) else end_at blocks (last_of thread blocks)

-- ---- Blocks that aren't ended: each is told at its `if`, unless that is wrong

abbrev pub open_text : Known → BlockSaid → List ℕ
open_text known block =
    if block.is_right
    then fault_text known block.number (codes "if" ∷ []) (record { at = 0; wanted = wanted.Branch branch.End })
    else []

unfoldable pub open_texts : Known → List BlockSaid → List ℕ
open_texts known [] = []
open_texts known (block ∷ blocks) = open_text known block ++ open_texts known blocks

-- ---- As code keeps them

-- they are changed so; what is wrong changes nothing
abbrev pub Changes : Result (List BlockSaid) DriverWrong → (old new : List BlockSaid) → Result (Unit {0}) DriverWrong → Type 0
Changes read old new (Ok done) = read ≡ Ok new
Changes read old new (Err wrong) = (read ≡ Err wrong) × (new ≡ old)
