-- What `why` says of a blocked pump.
use Rattle.std.proofs.Common.{◌≡◌, subst, sym, ℕ, Bool, true, false, List, [], ◌∷◌, ◌++◌}
use Rattle.std.specs.Prelude.{◌==◌, is_none, Some, length, slice_get}
use Rattle.sva_model.specs.Wire.{BusyWire, Descriptor, EndpointWire, Wire}
use Rattle.sva_model.specs.Wire.Descriptor.{RangeDescriptor, PasidDescriptor, WaitDescriptor}
use Rattle.sva_labels.specs.Finding.{lowest_label, taken_at}
use Rattle.sva_explain.specs.declared.blockers.levels.Level.{Level}
use Rattle.sva_explain.specs.declared.blockers.levels.Level.TheVariants.{First, Second}
use Rattle.sva_explain.specs.declared.blockers.link.Topic.TheVariants.{Itag}
use Rattle.sva_explain.specs.Lines.{below}
use Rattle.sva_explain.specs.Link.{about_lines}
use Rattle.sva_explain.specs.Units as units
use Rattle.sva_explain.specs.Units.{blocked_lines, busy_if, busy_lines, of_part, taken_lines}
use Rattle.sva_why.specs.Standing.{Has}
use Rattle.sva_why.proofs.Parts.{has_all, has_found, has_left, has_right, has_row, has_unless, has_where, has_within}
use Rattle.sva_why_laws.specs.Blocked.{busy_line, is_invalidation, no_itag_line, of_pump, requests_line}

-- what is said of the queue
pump_has : (wire : Wire) (unit : ℕ) (part : EndpointWire) (queue : List Descriptor) (line : List ℕ)
    → slice_get wire.parts unit ≡ Some part → part.unit.queue ≡ queue → Has (blocked_lines First wire unit part queue) line
    → Has (of_pump wire unit) line
pump_has wire unit part queue line there is has =
    has_found (of_part (λ part. blocked_lines First wire unit part part.unit.queue)) (slice_get wire.parts unit) part line there
    (subst (λ q. Has (blocked_lines First wire unit part q) line) (sym is) has)

itag_has : (level : Level) (wire : Wire) (unit itag : ℕ) (part : EndpointWire) (busy : BusyWire) → slice_get part.unit.busy itag ≡ Some (Some busy)
    → Has (busy_lines level wire unit part) (busy_line level itag busy)
itag_has level wire unit itag part busy is =
    let line = busy_line level itag busy in
    let about = about_lines (below level) wire unit (Itag itag) in
    let taken = taken_lines (below level) wire unit part itag (taken_at part.device itag) in
    has_within (busy_lines level wire unit part) (busy_if level wire unit part itag (Some busy)) line
    (has_row (busy_if level wire unit part) part.unit.busy itag (Some busy) is)
    (has_left (line ++ about) taken line (has_left line about line (has_all line)))

pub itag_stands : (wire : Wire) (unit cookie itag : ℕ) (drain : Bool) (part : EndpointWire) (queue : List Descriptor) (busy : BusyWire)
    → slice_get wire.parts unit ≡ Some part → part.unit.queue ≡ WaitDescriptor cookie drain ∷ queue
    → slice_get part.unit.busy itag ≡ Some (Some busy) → Has (of_pump wire unit) (busy_line First itag busy)
itag_stands wire unit cookie itag drain part queue busy there is out =
    let line = busy_line First itag busy in
    pump_has wire unit part (WaitDescriptor cookie drain ∷ queue) line there is
    (has_left (busy_lines First wire unit part) _ line (itag_has First wire unit itag part busy out))

pub requests_stand : (wire : Wire) (unit cookie : ℕ) (part : EndpointWire) (queue : List Descriptor)
    → slice_get wire.parts unit ≡ Some part → part.unit.queue ≡ WaitDescriptor cookie true ∷ queue
    → (length part.page_queue == 0) ≡ false → Has (of_pump wire unit) (requests_line wire unit part)
requests_stand wire unit cookie part queue there is some =
    let line = requests_line wire unit part in
    pump_has wire unit part (WaitDescriptor cookie true ∷ queue) line there is
    (has_right (busy_lines First wire unit part) (units.requests_line First wire unit part) line
    (has_unless (length part.page_queue == 0) [] line line some (has_all line)))

-- before an invalidation of pages, and of a PASID, the same is said
head_has : (wire : Wire) (unit : ℕ) (head : Descriptor) (part : EndpointWire) (queue : List Descriptor) (line : List ℕ)
    → slice_get wire.parts unit ≡ Some part → part.unit.queue ≡ head ∷ queue → is_invalidation head ≡ true
    → is_none (lowest_label part.unit.busy) ≡ true → Has (no_itag_line unit ++ busy_lines Second wire unit part) line → Has (of_pump wire unit) line
head_has wire unit (RangeDescriptor pasid range) part queue line there is needs none has =
    pump_has wire unit part (RangeDescriptor pasid range ∷ queue) line there is
    (has_where (is_none (lowest_label part.unit.busy)) (no_itag_line unit ++ busy_lines Second wire unit part) [] line none has)
head_has wire unit (PasidDescriptor pasid) part queue line there is needs none has =
    pump_has wire unit part (PasidDescriptor pasid ∷ queue) line there is
    (has_where (is_none (lowest_label part.unit.busy)) (no_itag_line unit ++ busy_lines Second wire unit part) [] line none has)
head_has wire unit (WaitDescriptor cookie drain) part queue line there is needs none has = absurd (cc needs)

pub none_is_free : (wire : Wire) (unit : ℕ) (head : Descriptor) (part : EndpointWire) (queue : List Descriptor)
    → slice_get wire.parts unit ≡ Some part → part.unit.queue ≡ head ∷ queue → is_invalidation head ≡ true
    → is_none (lowest_label part.unit.busy) ≡ true → Has (of_pump wire unit) (no_itag_line unit)
none_is_free wire unit head part queue there is needs none =
    let line = no_itag_line unit in
    head_has wire unit head part queue line there is needs none (has_left line (busy_lines Second wire unit part) line (has_all line))

pub each_itag_stands : (wire : Wire) (unit itag : ℕ) (head : Descriptor) (part : EndpointWire) (queue : List Descriptor) (busy : BusyWire)
    → slice_get wire.parts unit ≡ Some part → part.unit.queue ≡ head ∷ queue → is_invalidation head ≡ true
    → is_none (lowest_label part.unit.busy) ≡ true → slice_get part.unit.busy itag ≡ Some (Some busy)
    → Has (of_pump wire unit) (busy_line Second itag busy)
each_itag_stands wire unit itag head part queue busy there is needs none out =
    let line = busy_line Second itag busy in
    head_has wire unit head part queue line there is needs none
    (has_right (no_itag_line unit) (busy_lines Second wire unit part) line (itag_has Second wire unit itag part busy out))
