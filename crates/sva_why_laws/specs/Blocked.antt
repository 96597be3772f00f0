-- Each thing that blocks the head of an invalidation queue has its line.
use Rattle.std.specs.Prelude.{◌≡◌, ℕ, ◌==◌, Bool, true, false, is_none, Some, Ok, List, ◌∷◌, ◌++◌, codes, length, slice_get}
use Rattle.sva_step.specs.declared.answers.Answer.TheVariants as answer
use Rattle.sva_step.specs.declared.steps.Step.TheVariants as step
use Rattle.sva_model.specs.Wire.{BusyWire, Descriptor, EndpointWire, Wire}
use Rattle.sva_model.specs.Wire.Descriptor.{RangeDescriptor, PasidDescriptor, WaitDescriptor}
use Rattle.sva_labels.specs.Finding.{lowest_label}
use Rattle.sva_lines.specs.Pieces.{field, line_end}
use Rattle.sva_lines.specs.Words.{busy_text}
use Rattle.sva_explain.specs.Accepted.{is_accepted}
use Rattle.sva_explain.specs.declared.blockers.levels.Level.{Level}
use Rattle.sva_explain.specs.declared.blockers.levels.Level.TheVariants.{First, Second}
use Rattle.sva_explain.specs.Lines.{bracket, indent}
use Rattle.sva_why.specs.Standing.{Has}
use Rattle.sva_why.specs.Why.{why_of}

-- `itag 0 is busy, 1 of 2`
abbrev pub busy_line : Level → (itag : ℕ) → BusyWire → List ℕ
busy_line level itag busy = indent level ++ field (codes "itag ") itag ++ codes " is busy" ++ busy_text busy ++ line_end

-- `page requests wait at unit 0: 2 [serve 0]`
abbrev pub requests_line : Wire → (unit : ℕ) → EndpointWire → List ℕ
requests_line wire unit part =
    indent First ++ field (codes "page requests wait at unit ") unit ++ field (codes ": ") (length part.page_queue)
    ++ bracket (is_accepted wire (step.Serve unit)) (codes " [serve ") unit ++ line_end

-- `no itag of unit 0 is free`
abbrev pub no_itag_line : (unit : ℕ) → List ℕ
no_itag_line unit = indent First ++ field (codes "no itag of unit ") unit ++ codes " is free" ++ line_end

-- an invalidation is sent under an ITag
abbrev pub is_invalidation : Descriptor → Bool
is_invalidation (RangeDescriptor pasid range) = true
is_invalidation (PasidDescriptor pasid) = true
is_invalidation (WaitDescriptor cookie drain) = false

-- what `why` says of a blocked pump of a unit
abbrev pub of_pump : Wire → (unit : ℕ) → List ℕ
of_pump wire unit = why_of wire (step.Pump unit) (Ok answer.Blocked)

pub record BlockedStand : Type 0 where
  -- before a wait: each ITag that is busy, and the page requests if the wait drains them
  pub itag_stands : (wire : Wire) (unit cookie itag : ℕ) (drain : Bool) (part : EndpointWire) (queue : List Descriptor) (busy : BusyWire)
      → slice_get wire.parts unit ≡ Some part → part.unit.queue ≡ WaitDescriptor cookie drain ∷ queue
      → slice_get part.unit.busy itag ≡ Some (Some busy) → Has (of_pump wire unit) (busy_line First itag busy)
  pub requests_stand : (wire : Wire) (unit cookie : ℕ) (part : EndpointWire) (queue : List Descriptor)
      → slice_get wire.parts unit ≡ Some part → part.unit.queue ≡ WaitDescriptor cookie true ∷ queue
      → (length part.page_queue == 0) ≡ false → Has (of_pump wire unit) (requests_line wire unit part)
  -- before an invalidation, where no ITag is free: that, and each of them
  pub none_is_free : (wire : Wire) (unit : ℕ) (head : Descriptor) (part : EndpointWire) (queue : List Descriptor)
      → slice_get wire.parts unit ≡ Some part → part.unit.queue ≡ head ∷ queue → is_invalidation head ≡ true
      → is_none (lowest_label part.unit.busy) ≡ true → Has (of_pump wire unit) (no_itag_line unit)
  pub each_itag_stands : (wire : Wire) (unit itag : ℕ) (head : Descriptor) (part : EndpointWire) (queue : List Descriptor) (busy : BusyWire)
      → slice_get wire.parts unit ≡ Some part → part.unit.queue ≡ head ∷ queue → is_invalidation head ≡ true
      → is_none (lowest_label part.unit.busy) ≡ true → slice_get part.unit.busy itag ≡ Some (Some busy)
      → Has (of_pump wire unit) (busy_line Second itag busy)
