-- Each thing for which a withheld frame waits has its line.
use Rattle.std.specs.Prelude.{◌≡◌, ℕ, ◌*◌, ◌^◌, ◌==◌, Bool, true, Option, Some, Ok, List, ◌∷◌, ◌++◌, codes, filter, slice_get}
use Rattle.std.specs.List.{list_any}
use Rattle.sva_step.specs.declared.answers.Answer.TheVariants as answer
use Rattle.sva_step.specs.declared.steps.Step.{Step}
use Rattle.sva_step.specs.declared.steps.Step.TheVariants as step
use Rattle.sva_model.specs.Wire.{EndpointWire, PageWire, PlaceWire, TargetWire, Wire}
use Rattle.sva_model.specs.Wire.PlaceWire.{WithheldWire}
use Rattle.sva_model.specs.Wire.TargetWire.{Cookie, ResetEnd}
use Rattle.sva_labels.specs.Finding.{pages_in}
use Rattle.sva_labels.specs.Moves.{is_between, unmapped}
use Rattle.sva_lines.specs.Pieces.{field, line_end}
use Rattle.sva_explain.specs.Ranges.{frames_line, target_behind}
use Rattle.sva_explain.specs.declared.blockers.levels.Level.TheVariants.{First}
use Rattle.sva_explain.specs.Lines.{indent}
use Rattle.sva_explain.specs.Units.{wait_line}
use Rattle.sva_why.specs.Standing.{Has}
use Rattle.sva_why.specs.Why.{why_of}

-- `unit 0 is in reset`
abbrev pub in_reset_line : (unit : ℕ) → List ℕ
in_reset_line unit = indent First ++ field (codes "unit ") unit ++ codes " is in reset" ++ line_end

-- what `why` says of a look at a frame that is withheld, and of a range whose frames are
abbrev pub of_look : Wire → (frame : ℕ) → List ℕ
of_look wire frame = why_of wire (step.Look frame) (Ok answer.Withheld)

abbrev pub of_range : Wire → (space page order frames : ℕ) → List ℕ
of_range wire space page order frames = why_of wire (step.UnmapRange space page order) (Ok (answer.RangeWithheld frames))

-- is the frame that of a page which an unmapping takes out?
abbrev pub is_taken_out : Wire → (space page count order frame : ℕ) → Bool
is_taken_out wire space page count order frame =
    list_any (λ (entry : PageWire). entry.frame == frame) (filter (is_between page (count * 2 ^ order)) (pages_in wire space))

pub record WithheldStand : Type 0 where
  -- a frame: what it waits for at each unit
  pub wait_stands : (wire : Wire) (frame unit cookie : ℕ) (targets : List (Option TargetWire)) (part : EndpointWire)
      → slice_get wire.places frame ≡ Some (WithheldWire targets) → slice_get targets unit ≡ Some (Some (Cookie cookie))
      → slice_get wire.parts unit ≡ Some part → Has (of_look wire frame) (wait_line First wire unit part cookie)
  pub reset_stands : (wire : Wire) (frame unit : ℕ) (targets : List (Option TargetWire))
      → slice_get wire.places frame ≡ Some (WithheldWire targets) → slice_get targets unit ≡ Some (Some ResetEnd)
      → Has (of_look wire frame) (in_reset_line unit)
  -- pages: as a look at the first of their frames
  pub pages_alike : (wire : Wire) (asked : Step) (frame : ℕ) (frames : List ℕ)
      → why_of wire asked (Ok (answer.WithheldFrames (frame ∷ frames))) ≡ of_look wire frame
  -- which says it of each of them: behind the unmapping all wait for the same
  pub frames_alike : (wire : Wire) (space page count order one other : ℕ) (here there : PlaceWire)
      → slice_get wire.places one ≡ Some here → is_taken_out wire space page count order one ≡ true
      → slice_get wire.places other ≡ Some there → is_taken_out wire space page count order other ≡ true
      → of_look (unmapped wire space page count order) one ≡ of_look (unmapped wire space page count order) other
  -- a range: which frames wait, and what for at each unit
  pub frames_stand : (wire : Wire) (space page order frames : ℕ) → Has (of_range wire space page order frames) (frames_line First wire space)
  pub wait_of_range_stands : (wire : Wire) (space page order frames unit cookie : ℕ) (part : EndpointWire)
      → slice_get wire.parts unit ≡ Some part → target_behind wire space unit part ≡ Some (Cookie cookie)
      → Has (of_range wire space page order frames) (wait_line First wire unit part cookie)
  pub reset_of_range_stands : (wire : Wire) (space page order frames unit : ℕ) (part : EndpointWire)
      → slice_get wire.parts unit ≡ Some part → target_behind wire space unit part ≡ Some ResetEnd
      → Has (of_range wire space page order frames) (in_reset_line unit)
