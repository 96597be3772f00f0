-- What is said where too few frames are free, or a space has too many pages, or a page is mapped: which frames are free, which are withheld
-- and for what they wait, which pages an answer would map, and pages that may be taken out.
use Rattle.std.specs.Prelude.{ℕ, Bool, if◌then◌else◌, Option, Some, None, List, [], ◌∷◌, ◌++◌, codes, flat_map, length}
use Rattle.std.specs.List.{find, list_any}
use Rattle.sva_step.specs.declared.steps.Step.{Step}
use Rattle.sva_step.specs.declared.steps.Step.TheVariants as step
use Rattle.sva_model.specs.Wire.{JobWire, PageWire, PlaceWire, SpaceWire, Wire}
use Rattle.sva_labels.specs.Finding.{held_by, page_at, pages_in}
use Rattle.sva_labels.specs.Replying.{newly_mapped, space_of_job}
use Rattle.sva_lines.specs.Pieces.{field, line_end, rows, word_if}
use Rattle.sva_lines.specs.Words.{is_free, is_withheld}
use Rattle.sva_explain.specs.Accepted.{is_accepted}
use Rattle.sva_explain.specs.declared.blockers.levels.Level.TheVariants.{First}
use Rattle.sva_explain.specs.Lines.{bracket_of_two, indent, start}
use Rattle.sva_explain.specs.Units.{place_lines}
use Rattle.sva_explain.specs.Requests.{invalid_text}

-- ---- Pages of spaces

-- ` [unmap 0 16]`
abbrev pub taken_out_text : Wire → (space page : ℕ) → List ℕ
taken_out_text wire space page = bracket_of_two (is_accepted wire (step.Unmap space page 1)) (codes " [unmap ") space page

-- that of the first page
abbrev pub unmap_text : Wire → (space : ℕ) → List PageWire → List ℕ
unmap_text wire space [] = []
unmap_text wire space (entry ∷ rest) = taken_out_text wire space entry.page

-- `pages of space 0: 3 [unmap 0 16]`
abbrev pub pages_line : Wire → (space : ℕ) → List PageWire → List ℕ
pages_line wire space pages =
    start First (codes "pages of space ") space ++ field (codes ": ") (length pages) ++ unmap_text wire space pages ++ line_end

-- each space that has pages
abbrev pub pages_if : Wire → (space : ℕ) → List PageWire → List ℕ
pages_if wire space [] = []
pages_if wire space (entry ∷ rest) = pages_line wire space (entry ∷ rest)

abbrev pub space_if : Wire → SpaceWire → List ℕ
space_if wire space = pages_if wire space.number space.pages

abbrev pub each_space : Wire → List ℕ
each_space wire = flat_map (space_if wire) wire.spaces

-- ---- Frames

abbrev pub number_where : (holds : Bool) → (number : ℕ) → List ℕ
number_where holds number = if holds then field (codes " ") number else []

abbrev pub free_if : (frame : ℕ) → PlaceWire → List ℕ
free_if frame place = number_where (is_free place) frame

-- `frames that are free: 2 5`, or `no frame is free`
abbrev pub free_line : List PlaceWire → List ℕ
free_line places =
    indent First ++ (if list_any is_free places then codes "frames that are free:" ++ rows free_if 0 places else codes "no frame is free") ++ line_end

abbrev pub withheld_if : (frame : ℕ) → PlaceWire → List ℕ
withheld_if frame place = number_where (is_withheld place) frame

-- `frames that are withheld: 0 1; the first waits:`
abbrev pub withheld_line : List PlaceWire → List ℕ
withheld_line places = indent First ++ codes "frames that are withheld:" ++ rows withheld_if 0 places ++ codes "; the first waits:" ++ line_end

-- that, and for what the first waits; nothing where none is withheld
abbrev pub withheld_by : Wire → Option PlaceWire → List ℕ
withheld_by wire None = []
withheld_by wire (Some place) = withheld_line wire.places ++ place_lines wire (Some place)

abbrev pub withheld_lines : Wire → List ℕ
withheld_lines wire = withheld_by wire (find is_withheld wire.places)

-- which frames are free and withheld, and the pages that hold the others
abbrev pub frames_lines : Wire → List ℕ
frames_lines wire = free_line wire.places ++ withheld_lines wire ++ each_space wire

-- ---- Pages that an answer would map

abbrev pub page_text : (page : ℕ) → List ℕ
page_text page = field (codes " ") page

-- `pages to be mapped: 16 17 [answer 0 invalid]`
abbrev pub to_map_line : Wire → (worker : ℕ) → JobWire → List ℕ
to_map_line wire worker job =
    indent First ++ codes "pages to be mapped:" ++ flat_map page_text (newly_mapped wire job) ++ invalid_text wire worker ++ line_end

-- what is said of the job in a worker's hand
abbrev pub of_job : (said : JobWire → List ℕ) → Option JobWire → List ℕ
of_job said None = []
of_job said (Some job) = said job

-- ---- The three refusals

-- `frames have numbers below 4`
abbrev pub numbers_line : List PlaceWire → List ℕ
numbers_line places = start First (codes "frames have numbers below ") (length places) ++ line_end

-- NoFrame: of a mapping the frames; of an answer its pages too; of a look how many there are
abbrev pub no_frame : Wire → Step → List ℕ
no_frame wire (step.Reply worker verdict) = of_job (to_map_line wire worker) (held_by wire worker) ++ frames_lines wire
no_frame wire (step.Look frame) = numbers_line wire.places
no_frame wire other = frames_lines wire

-- `a space has 1024 pages at most`
abbrev pub most_pages_line : List ℕ
most_pages_line = indent First ++ codes "a space has 1024 pages at most" ++ line_end

abbrev pub full_of_job : Wire → (worker : ℕ) → JobWire → List ℕ
full_of_job wire worker job =
    to_map_line wire worker job ++ pages_line wire (space_of_job wire job) (pages_in wire (space_of_job wire job))

-- SpaceFull: the pages of the space, and of an answer those that come to them
abbrev pub space_full : Wire → Step → List ℕ
space_full wire (step.Map space page write) = most_pages_line ++ pages_line wire space (pages_in wire space)
space_full wire (step.Reply worker verdict) = most_pages_line ++ of_job (full_of_job wire worker) (held_by wire worker)
space_full wire other = most_pages_line

-- `page 16 of space 0 is mapped: frame 2 w [unmap 0 16]`
abbrev pub mapped_line : Wire → (space : ℕ) → PageWire → List ℕ
mapped_line wire space entry =
    start First (codes "page ") entry.page ++ field (codes " of space ") space ++ field (codes " is mapped: frame ") entry.frame
    ++ word_if entry.write (codes " w") ++ taken_out_text wire space entry.page ++ line_end

abbrev pub mapped_if : Wire → (space : ℕ) → Option PageWire → List ℕ
mapped_if wire space None = []
mapped_if wire space (Some entry) = mapped_line wire space entry

-- Mapped: the page, with its frame
abbrev pub mapped : Wire → Step → List ℕ
mapped wire (step.Map space page write) = mapped_if wire space (page_at (pages_in wire space) page)
mapped wire other = []
