-- What is said of the ITags that a vector names: those that aren't pending, and those that wait for uses.
use Rattle.std.specs.Prelude.{ℕ, if◌then◌else◌, Option, Some, None, List, [], ◌++◌, codes}
use Rattle.sva_model.specs.Labels.{is_set, names_none}
use Rattle.sva_model.specs.Wire.{EndpointWire, TakenWire, Wire}
use Rattle.sva_lines.specs.Pieces.{line_end, rows}
use Rattle.sva_explain.specs.declared.blockers.levels.Level.{Level}
use Rattle.sva_explain.specs.declared.blockers.levels.Level.TheVariants.{First}
use Rattle.sva_explain.specs.declared.blockers.link.Topic.TheVariants.{Itag}
use Rattle.sva_explain.specs.Lines.{below, indent, start}
use Rattle.sva_explain.specs.Link.{about_lines}
use Rattle.sva_explain.specs.Units.{reset_if, waits_for_lines}

abbrev pub not_pending_line : Level → (itag : ℕ) → List ℕ
not_pending_line level itag = start level (codes "itag ") itag ++ codes " isn't pending" ++ line_end

abbrev pub free_or_out_lines : Level → Wire → (endpoint : ℕ) → EndpointWire → (itag : ℕ) → List ℕ
free_or_out_lines level wire endpoint part itag =
    not_pending_line level itag ++ about_lines (below level) wire endpoint (Itag itag) ++ reset_if (below level) wire endpoint part

-- one that is named and not taken: its Invalidate or its completions are in flight, or the unit is in reset, or it is free
abbrev pub not_pending_if : Wire → (endpoint : ℕ) → EndpointWire → (vector itag : ℕ) → Option TakenWire → List ℕ
not_pending_if wire endpoint part vector itag (Some taken) = []
not_pending_if wire endpoint part vector itag None = if is_set vector itag then free_or_out_lines First wire endpoint part itag else []

abbrev pub none_named_line : Level → List ℕ
none_named_line level = indent level ++ codes "the vector names no itag" ++ line_end

abbrev pub not_pending_lines : Wire → (endpoint : ℕ) → EndpointWire → (vector : ℕ) → List ℕ
not_pending_lines wire endpoint part vector =
    if names_none vector then none_named_line First else rows (not_pending_if wire endpoint part vector) 0 part.device.taken

-- one that is named and taken: the uses for which it waits
abbrev pub in_use_if : Wire → (endpoint : ℕ) → EndpointWire → (vector itag : ℕ) → Option TakenWire → List ℕ
in_use_if wire endpoint part vector itag None = []
in_use_if wire endpoint part vector itag (Some taken) =
    if is_set vector itag then waits_for_lines First wire endpoint part itag taken else []

abbrev pub in_use_lines : Wire → (endpoint : ℕ) → EndpointWire → (vector : ℕ) → List ℕ
in_use_lines wire endpoint part vector = rows (in_use_if wire endpoint part vector) 0 part.device.taken
