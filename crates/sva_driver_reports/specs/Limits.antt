-- What a safe verdict is limited to: its platform, and what wasn't asked.
use Rattle.std.specs.Prelude.{ℕ, ◌+◌, ◌==◌, ◌&&◌, nat_lt, if◌then◌else◌, Bool, List, [], ◌∷◌, ◌++◌, codes, Option, Some, None}
use Rattle.sva_open.specs.declared.drivers.Device.{Device}
use Rattle.sva_open.specs.declared.drivers.Line.{Line}
use Rattle.sva_driver_texts.specs.Budgets.{asks_of, has_budget}
use Rattle.sva_driver_texts.specs.declared.kept.Text.{Text}
use Rattle.sva_driver_words.specs.Pieces.{with_endpoint}
use Rattle.sva_driver_words.specs.Platforms.{not_asked_text, platform_text}

-- ---- Where units keep what they read: an ask that would find more, and isn't made

-- which one comes behind so many
abbrev pub next_ask : (asks : ℕ) → List ℕ
next_ask asks =
    if asks == 0 then codes "a first" else
    if asks == 1 then codes "a second" else
    codes "a third"

abbrev pub next_ask_line : (endpoint asks : ℕ) → List ℕ
next_ask_line endpoint asks =
    codes "not asked: " ++ next_ask asks ++ with_endpoint (codes " ask at endpoint") endpoint
    ++ codes ": with caches on one may leave an entry kept, one a translation, and one meet both\n"

-- where there are fewer than three
abbrev pub few : (asks : ℕ) → Option ℕ
few asks = if nat_lt asks 3 then Some asks else None

abbrev pub few_text : (endpoint : ℕ) → Option ℕ → List ℕ
few_text endpoint None = []
few_text endpoint (Some asks) = next_ask_line endpoint asks

-- of an endpoint that may do something by itself
abbrev pub ask_text : (has_caches : Bool) → List Line → (endpoint : ℕ) → Device → List ℕ
ask_text has_caches lines endpoint device =
    if has_caches && has_budget device then few_text endpoint (few (asks_of lines endpoint device)) else []

-- each endpoint's from a number on
unfoldable pub asks_from : (has_caches : Bool) → List Line → (endpoint : ℕ) → List Device → List ℕ
asks_from has_caches lines endpoint [] = []
asks_from has_caches lines endpoint (device ∷ devices) =
    ask_text has_caches lines endpoint device ++ asks_from has_caches lines (endpoint + 1) devices

abbrev pub asks_text : Text → List ℕ
asks_text text =
    asks_from text.driver.start.settings.has_caches text.driver.lines.items 0 text.driver.devices.items

-- ---- All

abbrev pub limits_text : Text → List ℕ
limits_text text =
    platform_text text.driver.start.settings text.driver.start.units ++ not_asked_text text.driver.start.settings
    ++ asks_text text
