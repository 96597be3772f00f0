-- What is said of bindings: what they lack to go on.
use Rattle.std.specs.Prelude.{ℕ, ◌==◌, Bool, true, false, if◌then◌else◌, Option, Some, None, List, [], ◌++◌, codes, flat_map, slice_get}
use Rattle.sva_step.specs.declared.steps.Step.TheVariants as step
use Rattle.sva_model.specs.Wire.{BindingWire, EndpointWire, StageWire, Wire}
use Rattle.sva_model.specs.Wire.StageWire.{LiveWire, StoppingWire, DrainingWire, InvalidatingWire, QuietWire, LostWire}
use Rattle.sva_lines.specs.Pieces.{field, line_end}
use Rattle.sva_lines.specs.Words.{stage_text}
use Rattle.sva_explain.specs.declared.blockers.levels.Level.{Level}
use Rattle.sva_explain.specs.declared.blockers.levels.Level.TheVariants.{First, Second}
use Rattle.sva_explain.specs.declared.blockers.link.Topic.TheVariants.{Marker, Stop}
use Rattle.sva_explain.specs.Accepted.{is_accepted}
use Rattle.sva_explain.specs.Lines.{below, bracket_of_two, start}
use Rattle.sva_explain.specs.Link.{about_lines}
use Rattle.sva_explain.specs.Units.{of_part, reset_if, room_lines, wait_if}
use Rattle.sva_explain.specs.Tables.{busy_pasid_lines}
use Rattle.sva_explain.specs.Pasids.{advance_text, bearer_line, unbind_text}
use Rattle.sva_why.specs.Groups.{open_lines}

-- `binding 0 at endpoint 0 is stopping`
abbrev pub binding_text : Level → BindingWire → List ℕ
binding_text level binding =
    start level (codes "binding ") binding.binding ++ field (codes " at endpoint ") binding.endpoint ++ codes " is" ++ stage_text binding.stage

-- the same, with the step that takes it further
abbrev pub binding_line : Level → Wire → BindingWire → List ℕ
binding_line level wire binding = binding_text level binding ++ unbind_text wire binding.binding ++ advance_text wire binding.binding ++ line_end

-- ` [quit 0 1]`
abbrev pub quit_text : Wire → (endpoint pasid : ℕ) → List ℕ
quit_text wire endpoint pasid = bracket_of_two (is_accepted wire (step.Quit endpoint pasid)) (codes " [quit ") endpoint pasid

-- `the marker of pasid 1 hasn't come from endpoint 0 [quit 0 1]`
abbrev pub marker_line : Level → Wire → (endpoint pasid : ℕ) → List ℕ
marker_line level wire endpoint pasid =
    start level (codes "the marker of pasid ") pasid ++ field (codes " hasn't come from endpoint ") endpoint
    ++ quit_text wire endpoint pasid ++ line_end

-- the marker or the stop of a PASID that is in flight
abbrev pub on_link_lines : Level → Wire → (endpoint pasid : ℕ) → List ℕ
on_link_lines level wire endpoint pasid = about_lines level wire endpoint (Marker pasid) ++ about_lines level wire endpoint (Stop pasid)

abbrev pub marker_of_lines : Level → Wire → (endpoint pasid : ℕ) → EndpointWire → List ℕ
marker_of_lines level wire endpoint pasid part =
    marker_line level wire endpoint pasid ++ on_link_lines (below level) wire endpoint pasid ++ busy_pasid_lines (below level) wire endpoint part pasid

-- the marker is still to come: it, or the stop, is in flight; or the endpoint may quit; or something keeps the PASID busy
abbrev pub marker_lines : Level → Wire → BindingWire → EndpointWire → List ℕ
marker_lines level wire binding part = marker_of_lines level wire binding.endpoint binding.pasid part

-- what the stage waits for (sva_labels/specs/Causes: `advance_by`)
abbrev pub not_yet_by : Level → Wire → BindingWire → EndpointWire → StageWire → List ℕ
not_yet_by level wire binding part (StoppingWire marked) = if marked then [] else marker_lines level wire binding part
not_yet_by level wire binding part (DrainingWire cookie) =
    wait_if level wire binding.endpoint part cookie ++ open_lines level wire binding.endpoint part binding.binding
not_yet_by level wire binding part (InvalidatingWire cookie) = wait_if level wire binding.endpoint part cookie
not_yet_by level wire binding part QuietWire = []
not_yet_by level wire binding part LiveWire = binding_line level wire binding
not_yet_by level wire binding part LostWire = binding_line level wire binding

-- how many descriptors the stage submits as it goes on
abbrev pub descriptors_of : StageWire → ℕ
descriptors_of (StoppingWire marked) = 1
descriptors_of (DrainingWire cookie) = 2
descriptors_of stage = 0

-- the room for them is lacking
abbrev pub full_lines : Level → Wire → BindingWire → EndpointWire → List ℕ
full_lines level wire binding part = room_lines level wire binding.endpoint part (descriptors_of binding.stage)

-- is it Live, or cut off by a reset? Then its next step is an unbind.
abbrev pub is_unbound_next : StageWire → Bool
is_unbound_next LiveWire = true
is_unbound_next LostWire = true
is_unbound_next stage = false

-- what it lacks to go on to the next stage: what its stage waits for, and room
abbrev pub going_lines : Level → Wire → BindingWire → EndpointWire → List ℕ
going_lines level wire binding part = not_yet_by level wire binding part binding.stage ++ full_lines level wire binding part

abbrev pub going_if : Level → Wire → BindingWire → EndpointWire → List ℕ
going_if level wire binding part = if is_unbound_next binding.stage then [] else going_lines level wire binding part

-- why a binding doesn't go on
abbrev pub stays_lines : Level → Wire → BindingWire → EndpointWire → List ℕ
stays_lines level wire binding part =
    reset_if level wire binding.endpoint part ++ going_if level wire binding part

abbrev pub stays_of : Wire → BindingWire → List ℕ
stays_of wire binding = of_part (stays_lines Second wire binding) (slice_get wire.parts binding.endpoint)

-- a binding, and why it doesn't go on
abbrev pub kept_lines : Wire → BindingWire → List ℕ
kept_lines wire binding = binding_line First wire binding ++ stays_of wire binding

-- the same with its space and PASID
abbrev pub borne_lines : Wire → BindingWire → List ℕ
borne_lines wire binding = bearer_line First wire binding ++ stays_of wire binding

-- each binding of the space (sva_labels/specs/Finding: `is_bound`)
abbrev pub bound_if : Wire → (space : ℕ) → BindingWire → List ℕ
bound_if wire space binding = if binding.space == space then kept_lines wire binding else []

abbrev pub bound_lines : Wire → (space : ℕ) → List ℕ
bound_lines wire space = flat_map (bound_if wire space) wire.bindings

-- what is said of the binding of a number, and of the part of its endpoint
abbrev pub of_binding : Wire → (said : BindingWire → EndpointWire → List ℕ) → Option BindingWire → List ℕ
of_binding wire said None = []
of_binding wire said (Some binding) = of_part (said binding) (slice_get wire.parts binding.endpoint)
