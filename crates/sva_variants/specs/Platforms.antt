-- On which settings the verdict of a driver rests: what is said of its text on other platforms.
use Rattle.std.specs.Prelude.{◌≡◌, ℕ, not, ◌&&◌, ◌||◌, if◌then◌else◌, Bool, true, false, List, [], ◌∷◌, ◌++◌, codes, flat_map}
use Rattle.std.specs.Prelude.{Option, Some, None}
use Rattle.std.specs.List.{AllZip}
use Rattle.std.specs.Str.{bytes_eq}
use Rattle.sva_script.specs.Lines.{script_words}
use Rattle.sva_script_reading.specs.Begins.{Line, joined_words, lines_from}
use Rattle.sva_driver_reports.specs.Judged.{IsTextJudged}
use Rattle.sva_driver_reports.specs.declared.reports.Ruling.{Ruling}
use Rattle.sva_driver_reports.specs.declared.reports.Ruling.TheVariants as ruling
use Rattle.sva_variants.specs.Needed.{first_line, is_any_cut_off, told_of, wanted_of}
use Rattle.sva_variants.specs.declared.platforms.Platform.{Platform}
use Rattle.sva_variants.specs.declared.platforms.Platform.TheVariants.{VtD, WaitsFence, DrainEmpty, CachesOff, OrderQueue}
use Rattle.sva_variants.specs.declared.trying.Tried.{Tried}

-- ---- The platforms

abbrev pub label_of : Platform → List ℕ
label_of VtD = codes "vt-d               "
label_of WaitsFence = codes "vt-d, waits fence  "
label_of DrainEmpty = codes "vt-d, drain empty  "
label_of CachesOff = codes "vt-d, caches off   "
label_of OrderQueue = codes "vt-d, order queue  "

-- VT-d, and VT-d with each setting the other way by which less is left open: of `link` that is its own, `posted`
abbrev pub settings_of : Platform → List ℕ
settings_of VtD = codes "platform vt-d\n"
settings_of WaitsFence = codes "platform vt-d\nwaits fence\n"
settings_of DrainEmpty = codes "platform vt-d\ndrain empty\n"
settings_of CachesOff = codes "platform vt-d\ncaches off\n"
settings_of OrderQueue = codes "platform vt-d\norder queue\n"

-- ---- The driver's own lines, and what stands in their place

abbrev pub is_of_platform : (word : List ℕ) → Bool
is_of_platform word =
    bytes_eq word (codes "platform") || bytes_eq word (codes "link") || bytes_eq word (codes "waits")
    || bytes_eq word (codes "drain") || bytes_eq word (codes "caches") || bytes_eq word (codes "order")

-- the words are those of the driver's own platform, or of a setting that a platform sets
abbrev pub is_own : List (List ℕ) → Bool
is_own [] = false
is_own (word ∷ words) = is_of_platform word

abbrev pub is_config : List (List ℕ) → Bool
is_config [] = false
is_config (word ∷ words) = bytes_eq word (codes "config")

abbrev pub own_words : List (List ℕ) → List ℕ
own_words words = if is_own words then joined_words words ++ 10 ∷ [] else []

abbrev pub own_of : Line → List ℕ
own_of line = own_words (script_words line.1)

abbrev pub own_settings : (text : List ℕ) → List ℕ
own_settings text = flat_map own_of (lines_from 1 text)

-- the settings stand behind the config, and those of the driver's own are left out; all other lines stay
abbrev pub settings_behind : (settings : List ℕ) → List (List ℕ) → List ℕ
settings_behind settings words = if is_config words then settings else []

abbrev pub worded_under : (settings line : List ℕ) → List (List ℕ) → List ℕ
worded_under settings line words = if is_own words then [] else line ++ 10 ∷ settings_behind settings words

abbrev pub line_under : (settings : List ℕ) → Line → List ℕ
line_under settings line = worded_under settings line.1 (script_words line.1)

abbrev pub under : (settings text : List ℕ) → List ℕ
under settings text = flat_map (line_under settings) (lines_from 1 text)

-- ---- What is said

-- a driver whose own lines are those of a platform stands on it already
abbrev pub other_if : (own : List ℕ) → Platform → List Platform
other_if own platform = if bytes_eq own (settings_of platform) then [] else platform ∷ []

abbrev pub others_of : (own : List ℕ) → List Platform
others_of own =
    other_if own VtD ++ other_if own WaitsFence ++ other_if own DrainEmpty ++ other_if own CachesOff ++ other_if own OrderQueue

abbrev pub row_text : (label line : List ℕ) → List ℕ
row_text label line = label ++ line ++ 10 ∷ []

-- the text on the platform was judged, and the first line of its report is told
abbrev pub IsOn : (text : List ℕ) → (most : ℕ) → Platform → Tried → Type 0
IsOn text most platform tried =
    (report : List ℕ) × IsTextJudged (under (settings_of platform) text) (wanted_of most) tried.said report
    × (tried.text.items ≡ row_text (label_of platform) (first_line report))

abbrev pub as_it_stands : List ℕ
as_it_stands = codes "as it stands       "

unfoldable pub own_row : (own : List ℕ) → List ℕ
own_row own = row_text as_it_stands (first_line own)

abbrev pub otherwise_text : List ℕ
otherwise_text = codes "each platform's lines stand behind config, in place of the file's own; all else is as it stands\n"

abbrev pub report_text : (own : List ℕ) → List Tried → List ℕ
report_text own all = own_row own ++ flat_map told_of all ++ otherwise_text

-- the verdict of the text as it stands is the answer; but of one that is safe, that a search was cut off, if one was
abbrev pub is_safe_or_untried : Option Ruling → Bool
is_safe_or_untried (Some ruling.Safe) = true
is_safe_or_untried (Some ruling.Untried) = true
is_safe_or_untried said = false

abbrev pub ruling_of : (first : Option Ruling) → List Tried → Option Ruling
ruling_of first all = if is_safe_or_untried first && is_any_cut_off all then Some ruling.CutOff else first

pub record AreOn (text : List ℕ) (most : ℕ) (first : Option Ruling) (own : List ℕ) (said : Option Ruling) (out : List ℕ) : Type 0 where
  pub all : List Tried
  pub tried : AllZip (IsOn text most) (others_of (own_settings text)) all
  pub ruling : said ≡ ruling_of first all
  pub report : out ≡ report_text own all
