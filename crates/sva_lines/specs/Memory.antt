-- What is said of spaces, frames and bindings.
use Rattle.std.specs.Prelude.{ℕ, suc, false, Option, Some, None, List, [], ◌∷◌, ◌++◌, codes, count_by, flat_map}
use Rattle.sva_model.specs.Wire.{SpaceWire, PageWire, PlaceWire, TargetWire, BindingWire}
use Rattle.sva_model.specs.Wire.PlaceWire.{FreeWire, MappedWire, WithheldWire}
use Rattle.sva_model.specs.Wire.TargetWire.{Cookie, ResetEnd}
use Rattle.sva_lines.specs.Pieces.{field, head, line_end, listed, padded, word_if}
use Rattle.sva_lines.specs.Words.{is_free, is_mapped, is_withheld, stage_text}

-- `space 0     page 16 frame 0 w`
abbrev pub page_line : (space : ℕ) → PageWire → List ℕ
page_line space mapping =
    head (codes "space ") space ++ field (codes " page ") mapping.page ++ field (codes " frame ") mapping.frame
    ++ word_if mapping.write (codes " w") ++ line_end

-- a line for each page, or `space 1     no pages`
abbrev pub pages_lines : (space : ℕ) → List PageWire → List ℕ
pages_lines space [] = head (codes "space ") space ++ codes " no pages" ++ line_end
pages_lines space pages = flat_map (page_line space) pages

abbrev pub space_lines : SpaceWire → List ℕ
space_lines space = pages_lines space.number space.pages

-- ` wait 3`, or ` end of reset`
abbrev pub target_text : TargetWire → List ℕ
target_text (Cookie cookie) = field (codes " wait ") cookie
target_text ResetEnd = codes " end of reset"

-- what is waited for, by units from a number on
abbrev pub target_texts : (unit : ℕ) → List (Option TargetWire) → List (List ℕ)
target_texts unit [] = []
target_texts unit (None ∷ targets) = target_texts (suc unit) targets
target_texts unit (Some target ∷ targets) = (field (codes " unit ") unit ++ target_text target) ∷ target_texts (suc unit) targets

-- `frame 2     withheld: unit 0 wait 3, unit 1 end of reset`
abbrev pub frame_lines : (frame : ℕ) → PlaceWire → List ℕ
frame_lines frame FreeWire = []
frame_lines frame MappedWire = []
frame_lines frame (WithheldWire targets) =
    head (codes "frame ") frame ++ codes " withheld:" ++ listed false (target_texts 0 targets) ++ line_end

-- `binding 0   endpoint 0 space 0 pasid 1 live`
abbrev pub binding_line : BindingWire → List ℕ
binding_line binding =
    head (codes "binding ") binding.binding ++ field (codes " endpoint ") binding.endpoint ++ field (codes " space ") binding.space
    ++ field (codes " pasid ") binding.pasid ++ stage_text binding.stage ++ line_end

-- `frames      free 3 mapped 1 withheld 1`
abbrev pub frames_line : List PlaceWire → List ℕ
frames_line places =
    padded (codes "frames") ++ field (codes " free ") (count_by is_free places) ++ field (codes " mapped ") (count_by is_mapped places)
    ++ field (codes " withheld ") (count_by is_withheld places) ++ line_end
