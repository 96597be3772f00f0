-- What `why` says of frames that are withheld.
use Rattle.std.proofs.Common.{◌≡◌, ◌≢◌, ◌∙◌, ap, refl, subst, sym, ℕ, zero, suc, Bool, true, false, List, [], ◌∷◌}
use Rattle.std.proofs.lemmas.Bool.{eqb-false, eqb-true}
use Rattle.std.specs.List.{list_any}
use Rattle.std.specs.Prelude.{◌*◌, ◌^◌, ◌==◌, ◌||◌, Option, Some, Ok, filter, slice_get, slice_set}
use Rattle.sva_step.specs.declared.answers.Answer.TheVariants as answer
use Rattle.sva_step.specs.declared.steps.Step.{Step}
use Rattle.sva_model.specs.Wire.{EndpointWire, PageWire, PlaceWire, TargetWire, Wire}
use Rattle.sva_model.specs.Wire.PlaceWire.{WithheldWire}
use Rattle.sva_model.specs.Wire.TargetWire.{Cookie, ResetEnd}
use Rattle.sva_labels.specs.Finding.{pages_in}
use Rattle.sva_labels.specs.Moves.{is_between, place_for, placed, targets_of, unmapped}
use Rattle.sva_explain.specs.Ranges.{awaited_at, frames_line, target_behind}
use Rattle.sva_lines.specs.Pieces.{rows}
use Rattle.sva_explain.specs.declared.blockers.levels.Level.TheVariants.{First, Second}
use Rattle.sva_explain.specs.declared.blockers.link.Topic.TheVariants.{Reset}
use Rattle.sva_explain.specs.Link.{about_lines}
use Rattle.sva_explain.specs.Units.{of_part, place_lines, pump_lines, target_lines, wait_line, wait_lines}
use Rattle.sva_why.specs.Standing.{Has}
use Rattle.sva_why.specs.Why.{why_of}
use Rattle.sva_why.proofs.Parts.{has_all, has_found, has_left, has_right, has_row, has_within}
use Rattle.sva_why_laws.specs.Withheld.{in_reset_line, is_taken_out, of_look, of_range}

-- what a frame waits for at a unit
wait_has : (wire : Wire) (unit cookie : ℕ) (part : EndpointWire) → slice_get wire.parts unit ≡ Some part
    → Has (target_lines wire unit (Some (Cookie cookie))) (wait_line First wire unit part cookie)
wait_has wire unit cookie part there =
    let line = wait_line First wire unit part cookie in
    let pump = pump_lines Second wire unit part in
    has_found (of_part (λ part. wait_lines First wire unit part cookie)) (slice_get wire.parts unit) part line there
    (has_left line pump line (has_all line))

reset_has : (wire : Wire) (unit : ℕ) → Has (target_lines wire unit (Some ResetEnd)) (in_reset_line unit)
reset_has wire unit =
    let line = in_reset_line unit in
    has_left line (about_lines Second wire unit Reset) line (has_all line)

look_has : (wire : Wire) (frame unit : ℕ) (targets : List (Option TargetWire)) (target : Option TargetWire) (line : List ℕ)
    → slice_get wire.places frame ≡ Some (WithheldWire targets) → slice_get targets unit ≡ Some target → Has (target_lines wire unit target) line
    → Has (of_look wire frame) line
look_has wire frame unit targets target line withheld is has =
    has_found (place_lines wire) (slice_get wire.places frame) (WithheldWire targets) line withheld
    (has_within (rows (target_lines wire) 0 targets) (target_lines wire unit target) line (has_row (target_lines wire) targets unit target is) has)

pub wait_stands : (wire : Wire) (frame unit cookie : ℕ) (targets : List (Option TargetWire)) (part : EndpointWire)
    → slice_get wire.places frame ≡ Some (WithheldWire targets) → slice_get targets unit ≡ Some (Some (Cookie cookie))
    → slice_get wire.parts unit ≡ Some part → Has (of_look wire frame) (wait_line First wire unit part cookie)
wait_stands wire frame unit cookie targets part withheld is there =
    look_has wire frame unit targets (Some (Cookie cookie)) (wait_line First wire unit part cookie) withheld is (wait_has wire unit cookie part there)

pub reset_stands : (wire : Wire) (frame unit : ℕ) (targets : List (Option TargetWire))
    → slice_get wire.places frame ≡ Some (WithheldWire targets) → slice_get targets unit ≡ Some (Some ResetEnd)
    → Has (of_look wire frame) (in_reset_line unit)
reset_stands wire frame unit targets withheld is =
    look_has wire frame unit targets (Some ResetEnd) (in_reset_line unit) withheld is (reset_has wire unit)

pub pages_alike : (wire : Wire) (asked : Step) (frame : ℕ) (frames : List ℕ)
    → why_of wire asked (Ok (answer.WithheldFrames (frame ∷ frames))) ≡ of_look wire frame
pages_alike wire asked frame frames = refl

-- ---- The frames of one unmapping

set_own : {A : Type 0} (xs : List A) (k : ℕ) (x y : A) → slice_get xs k ≡ Some x → slice_get (slice_set xs k y) k ≡ Some y
set_own [] k x y there = absurd (cc there)
set_own (z ∷ xs) zero x y there = refl
set_own (z ∷ xs) (suc k) x y there = set_own xs k x y there

set_other : {A : Type 0} (xs : List A) (at k : ℕ) (y : A) → at ≢ k → slice_get (slice_set xs at y) k ≡ slice_get xs k
set_other [] at k y apart = refl
set_other (x ∷ xs) zero zero y apart = absurd (apart refl)
set_other (x ∷ xs) zero (suc k) y apart = refl
set_other (x ∷ xs) (suc at) zero y apart = refl
set_other (x ∷ xs) (suc at) (suc k) y apart = set_other xs at k y (λ same. apart (ap suc same))

set_again : {A : Type 0} (xs : List A) (at k : ℕ) (y : A) → slice_get xs k ≡ Some y → slice_get (slice_set xs at y) k ≡ Some y
set_again [] at k y there = absurd (cc there)
set_again (x ∷ xs) zero zero y there = refl
set_again (x ∷ xs) zero (suc k) y there = there
set_again (x ∷ xs) (suc at) zero y there = there
set_again (x ∷ xs) (suc at) (suc k) y there = set_again xs at k y there

placed_again : (place : PlaceWire) (pages : List PageWire) (places : List PlaceWire) (frame : ℕ) → slice_get places frame ≡ Some place
    → slice_get (placed place pages places) frame ≡ Some place
placed_again place [] places frame there = there
placed_again place (entry ∷ pages) places frame there =
    placed_again place pages (slice_set places entry.frame place) frame (set_again places entry.frame frame place there)

-- the first of the pages has the frame, or one of the rest
placed_first : (place held : PlaceWire) (entry : PageWire) (pages : List PageWire) (places : List PlaceWire) (frame : ℕ) (own : Bool)
    → (entry.frame == frame) ≡ own → slice_get places frame ≡ Some held
    → (own || list_any (λ (entry : PageWire). entry.frame == frame) pages) ≡ true
    → (slice_get (slice_set places entry.frame place) frame ≡ Some held → list_any (λ (entry : PageWire). entry.frame == frame) pages ≡ true
    → slice_get (placed place pages (slice_set places entry.frame place)) frame ≡ Some place)
    → slice_get (placed place pages (slice_set places entry.frame place)) frame ≡ Some place
placed_first place held entry pages places frame true is there any rest =
    placed_again place pages (slice_set places entry.frame place) frame
    (subst (λ at. slice_get (slice_set places at place) frame ≡ Some place) (sym (eqb-true entry.frame frame is)) (set_own places frame held place there))
placed_first place held entry pages places frame false is there any rest =
    rest (set_other places entry.frame frame place (eqb-false entry.frame frame is) ∙ there) any

placed_at : (place held : PlaceWire) (pages : List PageWire) (places : List PlaceWire) (frame : ℕ) → slice_get places frame ≡ Some held
    → list_any (λ (entry : PageWire). entry.frame == frame) pages ≡ true → slice_get (placed place pages places) frame ≡ Some place
placed_at place held [] places frame there any = absurd (cc any)
placed_at place held (entry ∷ pages) places frame there any =
    placed_first place held entry pages places frame (entry.frame == frame) refl there any
    (λ at more. placed_at place held pages (slice_set places entry.frame place) frame at more)

pub frames_alike : (wire : Wire) (space page count order one other : ℕ) (here there : PlaceWire)
    → slice_get wire.places one ≡ Some here → is_taken_out wire space page count order one ≡ true
    → slice_get wire.places other ≡ Some there → is_taken_out wire space page count order other ≡ true
    → of_look (unmapped wire space page count order) one ≡ of_look (unmapped wire space page count order) other
frames_alike wire space page count order one other here there is out also both =
    let place = place_for (targets_of wire space) in
    let pages = filter (is_between page (count * 2 ^ order)) (pages_in wire space) in
    ap (place_lines (unmapped wire space page count order))
    (placed_at place here pages wire.places one is out ∙ sym (placed_at place there pages wire.places other also both))

-- ---- A range

pub frames_stand : (wire : Wire) (space page order frames : ℕ) → Has (of_range wire space page order frames) (frames_line First wire space)
frames_stand wire space page order frames =
    let line = frames_line First wire space in
    has_left line (rows (awaited_at wire space) 0 wire.parts) line (has_all line)

range_has : (wire : Wire) (space page order frames unit : ℕ) (part : EndpointWire) (target : Option TargetWire) (line : List ℕ)
    → slice_get wire.parts unit ≡ Some part → target_behind wire space unit part ≡ target → Has (target_lines wire unit target) line
    → Has (of_range wire space page order frames) line
range_has wire space page order frames unit part target line there is has =
    let all = rows (awaited_at wire space) 0 wire.parts in
    has_right (frames_line First wire space) all line
    (has_within all (awaited_at wire space unit part) line (has_row (awaited_at wire space) wire.parts unit part there)
    (subst (λ t. Has (target_lines wire unit t) line) (sym is) has))

pub wait_of_range_stands : (wire : Wire) (space page order frames unit cookie : ℕ) (part : EndpointWire)
    → slice_get wire.parts unit ≡ Some part → target_behind wire space unit part ≡ Some (Cookie cookie)
    → Has (of_range wire space page order frames) (wait_line First wire unit part cookie)
wait_of_range_stands wire space page order frames unit cookie part there is =
    range_has wire space page order frames unit part (Some (Cookie cookie)) (wait_line First wire unit part cookie) there is
    (wait_has wire unit cookie part there)

pub reset_of_range_stands : (wire : Wire) (space page order frames unit : ℕ) (part : EndpointWire)
    → slice_get wire.parts unit ≡ Some part → target_behind wire space unit part ≡ Some ResetEnd
    → Has (of_range wire space page order frames) (in_reset_line unit)
reset_of_range_stands wire space page order frames unit part there is =
    range_has wire space page order frames unit part (Some ResetEnd) (in_reset_line unit) there is (reset_has wire unit)
