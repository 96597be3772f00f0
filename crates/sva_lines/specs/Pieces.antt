-- The pieces of a line.
use Rattle.std.specs.Prelude.{ℕ, suc, ◌+◌, ◌-◌, ◌==◌, Bool, true, false, if◌then◌else◌, List, [], ◌∷◌, ◌++◌, codes, decimal, length, map, replicate}
use Rattle.sva_model.specs.Range.{Range, pages_in}
use Rattle.sva_model.specs.States.{Extent}
use Rattle.sva_model.specs.States.Extent.{Pages, AllPages}
use Rattle.sva_model.specs.Wire.{AskWire}

-- a word that begins with a space, and a number
abbrev pub field : (word : List ℕ) → (number : ℕ) → List ℕ
field word number = word ++ decimal number

-- the head column: filled up to 11 bytes by spaces (32), since what follows begins with a space
abbrev pub padded : List ℕ → List ℕ
padded text = text ++ replicate (11 - length text) 32

abbrev pub head : (word : List ℕ) → (number : ℕ) → List ℕ
head word number = padded (field word number)

-- the end of a line
abbrev pub line_end : List ℕ
line_end = 10 ∷ []

-- a word where something holds
abbrev pub word_if : Bool → (word : List ℕ) → List ℕ
word_if holds word = if holds then word else []

-- may it be read, and written? `-` for neither
abbrev pub flags_text : (read write : Bool) → List ℕ
flags_text read write = if read then (if write then codes " rw" else codes " r") else (if write then codes " w" else codes " -")

-- texts one behind another with commas between them; the first has one before it where something was listed already
abbrev pub listed : (is_begun : Bool) → List (List ℕ) → List ℕ
listed is_begun [] = []
listed is_begun (text ∷ texts) = word_if is_begun (codes ",") ++ text ++ listed true texts

-- what is said of each place of a table by its number, of the first by the number `at`
abbrev pub rows : {A : Type 0} → (said : ℕ → A → List ℕ) → (at : ℕ) → List A → List ℕ
rows said at [] = []
rows said at (place ∷ places) = said at place ++ rows said (suc at) places

-- pages of a range: ` page 16`, or ` pages 16..31`
abbrev pub range_text : Range → List ℕ
range_text range =
    if range.order == 0 then field (codes " page ") range.base
    else field (codes " pages ") range.base ++ field (codes "..") (range.base + (pages_in range - 1))

-- pages of an invalidation
abbrev pub extent_text : Extent → List ℕ
extent_text (Pages range) = range_text range
extent_text AllPages = codes " all pages"

-- what one page request asks for: ` 16 w`
abbrev pub ask_text : AskWire → List ℕ
ask_text ask = field (codes " ") ask.page ++ flags_text ask.read ask.write

-- what the page requests of a group ask for: `: 16 w, 17 r`
abbrev pub asks_text : List AskWire → List ℕ
asks_text asks = codes ":" ++ listed false (map ask_text asks)

-- a page request: ` pasid 1 group 0 page 16 rw last`
abbrev pub request_text : (pasid index page : ℕ) → (read write last : Bool) → List ℕ
request_text pasid index page read write last =
    field (codes " pasid ") pasid ++ field (codes " group ") index ++ field (codes " page ") page ++ flags_text read write
    ++ (if last then codes " last" else codes " more")
