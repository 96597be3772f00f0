-- What is said of a translation that isn't held, and of request tags that are all out.
use Rattle.std.specs.Prelude.{ℕ, ◌==◌, ◌&&◌, if◌then◌else◌, Option, Some, None, List, [], ◌++◌, codes, slice_get}
use Rattle.sva_step.specs.declared.steps.Step.{Step}
use Rattle.sva_step.specs.declared.steps.Step.TheVariants as step
use Rattle.sva_model.specs.Wire.{EndpointWire, RequestWire, Wire}
use Rattle.sva_lines.specs.Pieces.{field, line_end, rows}
use Rattle.sva_explain.specs.Accepted.{is_accepted}
use Rattle.sva_explain.specs.declared.blockers.levels.Level.{Level}
use Rattle.sva_explain.specs.declared.blockers.levels.Level.TheVariants.{First, Second}
use Rattle.sva_explain.specs.Lines.{indent, start}
use Rattle.sva_explain.specs.Requests.{out_lines}
use Rattle.sva_explain.specs.Units.{of_part}

-- ` [ask 0 1 16]`
abbrev pub ask_text : Wire → (endpoint pasid page : ℕ) → List ℕ
ask_text wire endpoint pasid page =
    if is_accepted wire (step.Ask endpoint pasid page)
    then field (codes " [ask ") endpoint ++ field (codes " ") pasid ++ field (codes " ") page ++ codes "]"
    else []

-- `endpoint 0 holds no translation of page 16 under pasid 1 [ask 0 1 16]`
abbrev pub not_held_line : Level → Wire → (endpoint pasid page : ℕ) → List ℕ
not_held_line level wire endpoint pasid page =
    indent level ++ field (codes "endpoint ") endpoint ++ field (codes " holds no translation of page ") page
    ++ field (codes " under pasid ") pasid ++ ask_text wire endpoint pasid page ++ line_end

-- each request for the page that is out
abbrev pub asked_if : Wire → (endpoint : ℕ) → EndpointWire → (pasid page tag : ℕ) → Option RequestWire → List ℕ
asked_if wire endpoint part pasid page tag None = []
asked_if wire endpoint part pasid page tag (Some request) =
    if request.pasid == pasid && request.page == page then out_lines Second wire endpoint part tag request else []

abbrev pub asked_lines : Wire → (endpoint : ℕ) → EndpointWire → (pasid page : ℕ) → List ℕ
asked_lines wire endpoint part pasid page = rows (asked_if wire endpoint part pasid page) 0 part.device.tags

abbrev pub not_held_lines : Wire → (endpoint pasid page : ℕ) → EndpointWire → List ℕ
not_held_lines wire endpoint pasid page part =
    not_held_line First wire endpoint pasid page ++ asked_lines wire endpoint part pasid page

abbrev pub not_held_at : Wire → (endpoint pasid page : ℕ) → List ℕ
not_held_at wire endpoint pasid page = of_part (not_held_lines wire endpoint pasid page) (slice_get wire.parts endpoint)

-- NotHeld: the page isn't asked for, or where its request is
abbrev pub not_held : Wire → Step → List ℕ
not_held wire (step.BeginUse endpoint pasid page write) = not_held_at wire endpoint pasid page
not_held wire (step.Evict endpoint pasid page) = not_held_at wire endpoint pasid page
not_held wire other = []

-- each tag: a request is out under it
abbrev pub out_if : Wire → (endpoint : ℕ) → EndpointWire → (tag : ℕ) → Option RequestWire → List ℕ
out_if wire endpoint part tag None = []
out_if wire endpoint part tag (Some request) = out_lines Second wire endpoint part tag request

abbrev pub each_out : Wire → (endpoint : ℕ) → EndpointWire → List ℕ
each_out wire endpoint part = rows (out_if wire endpoint part) 0 part.device.tags

abbrev pub tags_line : Level → (endpoint : ℕ) → List ℕ
tags_line level endpoint = start level (codes "all 32 request tags are out at endpoint ") endpoint ++ line_end

abbrev pub no_tag_lines : Wire → (endpoint : ℕ) → EndpointWire → List ℕ
no_tag_lines wire endpoint part = tags_line First endpoint ++ each_out wire endpoint part

-- NoTag: each request that is out
abbrev pub no_tag : Wire → Step → List ℕ
no_tag wire (step.Ask endpoint pasid page) = of_part (no_tag_lines wire endpoint) (slice_get wire.parts endpoint)
no_tag wire other = []
