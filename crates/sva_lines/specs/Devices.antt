-- What is said of the endpoints.
use Rattle.std.specs.Prelude.{ℕ, suc, Bool, true, false, if◌then◌else◌, Option, Some, None, List, [], ◌∷◌, ◌++◌, codes, decimal, flat_map}
use Rattle.std.specs.List.{list_any}
use Rattle.sva_model.specs.State.{GroupState, PasidState}
use Rattle.sva_model.specs.State.PasidState.{Off, On, Ending}
use Rattle.sva_model.specs.Wire.{DeviceWire, EndpointWire, GroupWire, RequestWire, TakenWire, TranslationWire, UseWire}
use Rattle.sva_model.specs.Wire.UseWire.{RunningWire, DeadWire}
use Rattle.sva_lines.specs.Pieces.{extent_text, field, head, line_end, listed, rows, word_if}
use Rattle.sva_lines.specs.Words.{translation_text}

-- `endpoint 0  pasid 1 on`
abbrev pub pasid_line : (endpoint pasid : ℕ) → (state : List ℕ) → List ℕ
pasid_line endpoint pasid state = head (codes "endpoint ") endpoint ++ field (codes " pasid ") pasid ++ state ++ line_end

abbrev pub pasid_lines : (endpoint pasid : ℕ) → PasidState → List ℕ
pasid_lines endpoint pasid Off = []
pasid_lines endpoint pasid On = pasid_line endpoint pasid (codes " on")
pasid_lines endpoint pasid Ending = pasid_line endpoint pasid (codes " stopping")

-- `endpoint 0  cached pasid 1 page 16 frame 0 w`
abbrev pub cached_line : (endpoint : ℕ) → TranslationWire → List ℕ
cached_line endpoint translation = head (codes "endpoint ") endpoint ++ codes " cached" ++ translation_text translation ++ line_end

-- `endpoint 0  tag 0 pasid 1 page 16`, and ` doomed` where an invalidation covered it meanwhile
abbrev pub tag_lines : (endpoint tag : ℕ) → Option RequestWire → List ℕ
tag_lines endpoint tag None = []
tag_lines endpoint tag (Some request) =
    head (codes "endpoint ") endpoint ++ field (codes " tag ") tag ++ field (codes " pasid ") request.pasid ++ field (codes " page ") request.page
    ++ word_if request.is_doomed (codes " doomed") ++ line_end

-- ` pasid 1 page 16 frame 0 w`, or ` dead`
abbrev pub use_text : UseWire → List ℕ
use_text (RunningWire translation) = translation_text translation
use_text DeadWire = codes " dead"

-- `endpoint 0  use 0 pasid 1 page 16 frame 0 w`
abbrev pub use_lines : (endpoint slot : ℕ) → Option UseWire → List ℕ
use_lines endpoint slot None = []
use_lines endpoint slot (Some used) = head (codes "endpoint ") endpoint ++ field (codes " use ") slot ++ use_text used ++ line_end

-- the slots that are noted, of the first by the number `at`
abbrev pub slot_texts : (at : ℕ) → List Bool → List (List ℕ)
slot_texts at [] = []
slot_texts at (true ∷ slots) = decimal at ∷ slot_texts (suc at) slots
slot_texts at (false ∷ slots) = slot_texts (suc at) slots

-- the uses for which an invalidation waits: ` uses {0,3}`; nothing where there is none
abbrev pub noted_text : List Bool → List ℕ
noted_text slots = if list_any (λ noted. noted) slots then codes " uses {" ++ listed false (slot_texts 0 slots) ++ codes "}" else []

-- `endpoint 0  itag 0 pasid 1 pages 16..31 uses {0,3}`
abbrev pub taken_lines : (endpoint itag : ℕ) → Option TakenWire → List ℕ
taken_lines endpoint itag None = []
taken_lines endpoint itag (Some taken) =
    head (codes "endpoint ") endpoint ++ field (codes " itag ") itag ++ field (codes " pasid ") taken.pasid ++ extent_text taken.extent
    ++ noted_text taken.slots ++ line_end

abbrev pub group_word : GroupState → List ℕ
group_word GroupState.Collecting = codes " collecting "
group_word GroupState.Awaiting = codes " awaiting "
group_word GroupState.Stale = codes " stale "
group_word GroupState.Closed = codes " closed "

-- `endpoint 0  group 0 pasid 1 collecting 2`: its state, and how many requests it has
abbrev pub group_line : (endpoint index pasid : ℕ) → (word : List ℕ) → (requests : ℕ) → List ℕ
group_line endpoint index pasid word requests =
    head (codes "endpoint ") endpoint ++ field (codes " group ") index ++ field (codes " pasid ") pasid ++ field word requests ++ line_end

abbrev pub group_lines : (endpoint index : ℕ) → Option GroupWire → List ℕ
group_lines endpoint index None = []
group_lines endpoint index (Some group) = group_line endpoint index group.pasid (group_word group.state) group.requests

-- `endpoint 0  page requests disabled`
abbrev pub disabled_lines : (endpoint : ℕ) → (is_disabled : Bool) → List ℕ
disabled_lines endpoint is_disabled = if is_disabled then head (codes "endpoint ") endpoint ++ codes " page requests disabled" ++ line_end else []

-- the tables of an endpoint; its PASIDs begin at 1
abbrev pub device_lines : (endpoint : ℕ) → DeviceWire → List ℕ
device_lines endpoint device =
    rows (pasid_lines endpoint) 1 device.pasids
    ++ flat_map (cached_line endpoint) device.cache
    ++ rows (tag_lines endpoint) 0 device.tags
    ++ rows (use_lines endpoint) 0 device.slots
    ++ rows (taken_lines endpoint) 0 device.taken
    ++ rows (group_lines endpoint) 0 device.groups
    ++ disabled_lines endpoint device.is_disabled

abbrev pub endpoint_lines : (endpoint : ℕ) → EndpointWire → List ℕ
endpoint_lines endpoint part = device_lines endpoint part.device
