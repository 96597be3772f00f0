-- What is said of units: a reset, an ITag that is busy, a wait that isn't done, a queue without room.
use Rattle.std.specs.Prelude.{ℕ, ◌==◌, Bool, true, not, ◌&&◌, if◌then◌else◌, is_none, Option, Some, None, List, [], ◌∷◌, ◌++◌, codes, length, slice_get}
use Rattle.sva_step.specs.declared.steps.Step.TheVariants as step
use Rattle.sva_model.specs.Wire.{BusyWire, Descriptor, EndpointWire, TakenWire, TargetWire, PlaceWire, UseWire, Wire}
use Rattle.sva_model.specs.Wire.Descriptor.{RangeDescriptor, PasidDescriptor, WaitDescriptor}
use Rattle.sva_model.specs.Wire.PlaceWire.{WithheldWire}
use Rattle.sva_model.specs.Wire.TargetWire.{Cookie, ResetEnd}
use Rattle.sva_model.specs.Wire.UseWire.{RunningWire}
use Rattle.sva_labels.specs.Finding.{has_room, is_wait_done, lowest_label, taken_at, use_at}
use Rattle.sva_labels.specs.Outcomes.{may_pass}
use Rattle.sva_frames.specs.declared.reading.Held.{Held}
use Rattle.sva_frames.specs.Reading.{holding_of}
use Rattle.sva_address_spaces.specs.Seen.{place_seen}
use Rattle.sva_lines.specs.Words.{translation_text}
use Rattle.sva_lines.specs.Kinds.{hex_text}
use Rattle.sva_lines.specs.Pieces.{extent_text, field, line_end, rows}
use Rattle.sva_lines.specs.Words.{busy_text}
use Rattle.sva_explain.specs.declared.blockers.levels.Level.{Level}
use Rattle.sva_explain.specs.declared.blockers.levels.Level.TheVariants.{First}
use Rattle.sva_explain.specs.declared.blockers.link.Topic.TheVariants.{Itag, Reset}
use Rattle.sva_explain.specs.Accepted.{is_accepted, vector_of}
use Rattle.sva_explain.specs.Lines.{below, bracket, bracket_of_two, indent, start}
use Rattle.sva_explain.specs.Link.{about_lines}

-- ---- Reset

-- a unit in reset, and the reset or reset-done that is in flight
abbrev pub in_reset_lines : Level → Wire → (unit : ℕ) → List ℕ
in_reset_lines level wire unit =
    indent level ++ field (codes "unit ") unit ++ codes " is in reset" ++ line_end ++ about_lines (below level) wire unit Reset

abbrev pub reset_if : Level → Wire → (unit : ℕ) → EndpointWire → List ℕ
reset_if level wire unit part = if part.unit.is_open then [] else in_reset_lines level wire unit

-- ---- ITags

-- what a use is of: `: pasid 1 page 16 frame 0 w`
abbrev pub use_text : Option UseWire → List ℕ
use_text (Some (RunningWire translation)) = codes ":" ++ translation_text translation
use_text place = []

-- ` [end 0 0]`
abbrev pub end_text : Wire → (endpoint slot : ℕ) → List ℕ
end_text wire endpoint slot = bracket_of_two (is_accepted wire (step.EndUse endpoint slot)) (codes " [end ") endpoint slot

-- `itag 0 waits for use 0: pasid 1 page 16 frame 0 w [end 0 0]`
abbrev pub waits_line : Level → Wire → (endpoint : ℕ) → EndpointWire → (itag slot : ℕ) → List ℕ
waits_line level wire endpoint part itag slot =
    start level (codes "itag ") itag ++ field (codes " waits for use ") slot ++ use_text (use_at part.device slot)
    ++ end_text wire endpoint slot ++ line_end

-- an invalidation waits for each use that it noted
abbrev pub waits_if : Level → Wire → (endpoint : ℕ) → EndpointWire → (itag slot : ℕ) → (noted : Bool) → List ℕ
waits_if level wire endpoint part itag slot noted = if noted then waits_line level wire endpoint part itag slot else []

abbrev pub waits_for_lines : Level → Wire → (endpoint : ℕ) → EndpointWire → (itag : ℕ) → TakenWire → List ℕ
waits_for_lines level wire endpoint part itag taken = rows (waits_if level wire endpoint part itag) 0 taken.slots

-- ` [finish 0 00000001 1]`: by one completion
abbrev pub finish_text : Wire → (endpoint itag : ℕ) → List ℕ
finish_text wire endpoint itag =
    if is_accepted wire (step.Finish endpoint (vector_of itag) 1)
    then field (codes " [finish ") endpoint ++ codes " " ++ hex_text 8 (vector_of itag) ++ codes " 1]"
    else []

-- `endpoint 0 has taken it: pasid 1 page 16`
abbrev pub taken_text : Level → (endpoint : ℕ) → TakenWire → List ℕ
taken_text level endpoint taken =
    indent level ++ field (codes "endpoint ") endpoint ++ field (codes " has taken it: pasid ") taken.pasid ++ extent_text taken.extent

-- `endpoint 0 has taken it: pasid 1 page 16 [finish 0 00000001 1]`
abbrev pub taken_line : Level → Wire → (endpoint itag : ℕ) → TakenWire → List ℕ
taken_line level wire endpoint itag taken = taken_text level endpoint taken ++ finish_text wire endpoint itag ++ line_end

-- the endpoint has taken the invalidation, and the uses for which it waits
abbrev pub taken_lines : Level → Wire → (endpoint : ℕ) → EndpointWire → (itag : ℕ) → Option TakenWire → List ℕ
taken_lines level wire endpoint part itag None = []
taken_lines level wire endpoint part itag (Some taken) =
    taken_line level wire endpoint itag taken ++ waits_for_lines (below level) wire endpoint part itag taken

-- an ITag that is busy: where its Invalidate is, or its completions
abbrev pub busy_if : Level → Wire → (unit : ℕ) → EndpointWire → (itag : ℕ) → Option BusyWire → List ℕ
busy_if level wire unit part itag None = []
busy_if level wire unit part itag (Some busy) =
    indent level ++ field (codes "itag ") itag ++ codes " is busy" ++ busy_text busy ++ line_end
    ++ about_lines (below level) wire unit (Itag itag)
    ++ taken_lines (below level) wire unit part itag (taken_at part.device itag)

abbrev pub busy_lines : Level → Wire → (unit : ℕ) → EndpointWire → List ℕ
busy_lines level wire unit part = rows (busy_if level wire unit part) 0 part.unit.busy

-- ---- The head of the invalidation queue

-- page requests wait to be filed
abbrev pub requests_line : Level → Wire → (unit : ℕ) → EndpointWire → List ℕ
requests_line level wire unit part =
    if length part.page_queue == 0 then []
    else indent level ++ field (codes "page requests wait at unit ") unit ++ field (codes ": ") (length part.page_queue)
    ++ bracket (is_accepted wire (step.Serve unit)) (codes " [serve ") unit ++ line_end

-- no ITag is free; one of them is enough
abbrev pub no_itag_lines : Level → Wire → (unit : ℕ) → EndpointWire → List ℕ
no_itag_lines level wire unit part =
    if is_none (lowest_label part.unit.busy)
    then indent level ++ field (codes "no itag of unit ") unit ++ codes " is free" ++ line_end ++ busy_lines (below level) wire unit part
    else []

-- a wait is blocked by busy ITags and, if it drains, by page requests
abbrev pub wait_blocked_lines : Level → Wire → (unit : ℕ) → EndpointWire → (drain : Bool) → List ℕ
wait_blocked_lines level wire unit part drain =
    busy_lines level wire unit part ++ (if drain then requests_line level wire unit part else [])

-- what blocks the head, if something does
abbrev pub blocked_lines : Level → Wire → (unit : ℕ) → EndpointWire → (queue : List Descriptor) → List ℕ
blocked_lines level wire unit part [] = []
blocked_lines level wire unit part (RangeDescriptor pasid range ∷ queue) = no_itag_lines level wire unit part
blocked_lines level wire unit part (PasidDescriptor pasid ∷ queue) = no_itag_lines level wire unit part
blocked_lines level wire unit part (WaitDescriptor cookie drain ∷ queue) = wait_blocked_lines level wire unit part drain

-- is there no head, or is it blocked? (sva_labels/specs/Outcomes: `pump_result`)
abbrev pub is_stuck : EndpointWire → (queue : List Descriptor) → Bool
is_stuck part [] = true
is_stuck part (RangeDescriptor pasid range ∷ queue) = is_none (lowest_label part.unit.busy)
is_stuck part (PasidDescriptor pasid ∷ queue) = is_none (lowest_label part.unit.busy)
is_stuck part (WaitDescriptor cookie drain ∷ queue) = not (may_pass part drain)

-- ` [pump 0]`, where that takes the head
abbrev pub pump_text : Wire → (unit : ℕ) → EndpointWire → List ℕ
pump_text wire unit part = bracket (is_accepted wire (step.Pump unit) && not (is_stuck part part.unit.queue)) (codes " [pump ") unit

-- why a unit doesn't take its head: it is in reset, or the head is blocked
abbrev pub pump_lines : Level → Wire → (unit : ℕ) → EndpointWire → List ℕ
pump_lines level wire unit part =
    if part.unit.is_open then blocked_lines level wire unit part part.unit.queue else in_reset_lines level wire unit

-- ---- Waits and room

-- `wait 0 of unit 0 isn't done [pump 0]`
abbrev pub wait_line : Level → Wire → (unit : ℕ) → EndpointWire → (cookie : ℕ) → List ℕ
wait_line level wire unit part cookie =
    start level (codes "wait ") cookie ++ field (codes " of unit ") unit ++ codes " isn't done" ++ pump_text wire unit part ++ line_end

-- a wait, and what its unit lacks to take it
abbrev pub wait_lines : Level → Wire → (unit : ℕ) → EndpointWire → (cookie : ℕ) → List ℕ
wait_lines level wire unit part cookie = wait_line level wire unit part cookie ++ pump_lines (below level) wire unit part

abbrev pub wait_if : Level → Wire → (unit : ℕ) → EndpointWire → (cookie : ℕ) → List ℕ
wait_if level wire unit part cookie = if is_wait_done part.unit cookie then [] else wait_lines level wire unit part cookie

abbrev pub queued_text : EndpointWire → List ℕ
queued_text part = field (codes " has ") (length part.unit.queue)

abbrev pub count_text : EndpointWire → (needed : ℕ) → List ℕ
count_text part needed = queued_text part ++ field (codes " descriptors queued, and ") needed

-- `unit 0 has 49 descriptors queued, and 16 more don't fit into 64 [pump 0]`
abbrev pub full_line : Level → Wire → (unit : ℕ) → EndpointWire → (needed : ℕ) → List ℕ
full_line level wire unit part needed =
    start level (codes "unit ") unit ++ count_text part needed ++ codes " more don't fit into 64" ++ pump_text wire unit part ++ line_end

-- so many descriptors don't fit in, and why the unit doesn't take its head
abbrev pub no_room_lines : Level → Wire → (unit : ℕ) → EndpointWire → (needed : ℕ) → List ℕ
no_room_lines level wire unit part needed = full_line level wire unit part needed ++ pump_lines (below level) wire unit part

abbrev pub room_lines : Level → Wire → (unit : ℕ) → EndpointWire → (needed : ℕ) → List ℕ
room_lines level wire unit part needed = if has_room part.unit needed then [] else no_room_lines level wire unit part needed

-- ---- Frames

-- what is said of the part that was found; nothing where there is none
abbrev pub of_part : (said : EndpointWire → List ℕ) → Option EndpointWire → List ℕ
of_part said None = []
of_part said (Some part) = said part

-- what a frame waits for at a unit: a wait, or the end of a reset
abbrev pub target_lines : Wire → (unit : ℕ) → Option TargetWire → List ℕ
target_lines wire unit None = []
target_lines wire unit (Some (Cookie cookie)) = of_part (λ part. wait_lines First wire unit part cookie) (slice_get wire.parts unit)
target_lines wire unit (Some ResetEnd) = in_reset_lines First wire unit

-- where a frame is
abbrev pub held_seen : Held → PlaceWire
held_seen held = place_seen (holding_of held)

-- what a withheld frame waits for at each unit
abbrev pub place_lines : Wire → Option PlaceWire → List ℕ
place_lines wire (Some (WithheldWire targets)) = rows (target_lines wire) 0 targets
place_lines wire place = []
