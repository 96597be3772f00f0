-- A line of a script as the line of a scenario, with the step that it writes.
use Rattle.std.specs.Prelude.{◌≡◌, ℕ, ◌+◌, ◌&&◌, ◌||◌, if◌then◌else◌, Bool, false, List, [], ◌∷◌, ◌++◌, codes, decimal}
use Rattle.std.specs.Prelude.{Option, Some, None, is_some, option_map, Result, Ok, Err}
use Rattle.std.specs.Str.{bytes_eq}
use Rattle.sva_step.specs.declared.steps.Step.{Step}
use Rattle.sva_grammar.specs.declared.faults.Cause.{Cause}
use Rattle.sva_grammar.specs.Grammar.{◌>>=◌, number, step_read}
use Rattle.sva_script.specs.declared.faults.Stop.{Stop}
use Rattle.sva_script.specs.declared.faults.Stop.TheVariants as stop
use Rattle.sva_script.specs.declared.faults.Wanted.TheVariants as wanted
use Rattle.sva_script.specs.declared.faults.Wrong.{Wrong}
use Rattle.sva_script.specs.declared.places.Field.{Field}
use Rattle.sva_script.specs.declared.places.Field.TheVariants.{Endpoint}
use Rattle.sva_script.specs.Expect.{expected_of}
use Rattle.sva_script.specs.Lines.{Parts, expected_begins, step_begins}
use Rattle.sva_script.specs.Names.{Known, given_of, is_name}
use Rattle.sva_script.specs.Pieces.{joined, spaced}
use Rattle.sva_script.specs.Places.{places_of}
use Rattle.sva_script.specs.Resolve.{plain_rest, wrong}
use Rattle.sva_script.specs.Reserved.{is_kind}
use Rattle.sva_script_reading.specs.Messages.{Link, newest, oldest, oldest_of}

-- ---- Deliveries by what is in flight

-- does the line deliver `next`, `last`, or a message of a kind?
abbrev pub is_by_link : List (List ℕ) → Bool
is_by_link (step ∷ first ∷ words) =
    bytes_eq step (codes "deliver") && (bytes_eq first (codes "next") || bytes_eq first (codes "last") || is_kind first)
is_by_link _ = false

-- the oldest message of a kind at the endpoint of this number
abbrev pub kind_by : (at : ℕ) → Link → (kind : List ℕ) → Result ℕ Cause → Result ℕ Wrong
kind_by at link kind (Ok endpoint) = Ok (oldest_of link kind endpoint)
kind_by at link kind (Err cause) = wrong at (wanted.Field Endpoint)

-- the words behind a kind: an endpoint
abbrev pub message_of_kind : (at : ℕ) → Link → (kind : List ℕ) → List (List ℕ) → Result ℕ Wrong
message_of_kind at link kind [] = wrong at (wanted.Field Endpoint)
message_of_kind at link kind (endpoint ∷ []) = kind_by at link kind (number endpoint)
message_of_kind at link kind (endpoint ∷ word ∷ words) = wrong (at + 1) wanted.NoMore

-- `next` or `last`, behind which no word stands
abbrev pub message_by_age : (at : ℕ) → Link → (age : List ℕ) → List (List ℕ) → Result ℕ Wrong
message_by_age at link age [] = Ok (if bytes_eq age (codes "next") then oldest link else newest link)
message_by_age at link age (word ∷ words) = wrong at wanted.NoMore

-- the number of the message that is delivered; the words behind `deliver` begin at `at`
abbrev pub message_by_link : (at : ℕ) → Link → List (List ℕ) → Result ℕ Wrong
message_by_link at link (step ∷ first ∷ words) =
    if is_kind first then message_of_kind (at + 1) link first words else message_by_age (at + 1) link first words
message_by_link at link words = wrong at wanted.NoMore

-- ---- The step

-- the text of a number that was read
abbrev pub number_text : Result ℕ Wrong → Result (List ℕ) Wrong
number_text (Ok number) = Ok (decimal number)
number_text (Err fault) = Err fault

-- what stands behind a step's name in the line of a scenario
abbrev pub behind_name : (at : ℕ) → Known → Link → List Field → (first : List ℕ) → (words : List (List ℕ)) → Result (List ℕ) Wrong
behind_name at known link places first words =
    if is_by_link (first ∷ words) then spaced (number_text (message_by_link at link (first ∷ words))) else plain_rest at known places words

abbrev pub plain_by : (at : ℕ) → Known → Link → (first : List ℕ) → (words : List (List ℕ)) → Option (List Field) → Result (List ℕ) Wrong
plain_by at known link first words None = wrong at wanted.Step
plain_by at known link first words (Some places) = joined (Ok first) (behind_name (at + 1) known link places first words)

-- the line of a scenario that a step's words stand for
abbrev pub plain_of : (at : ℕ) → Known → Link → List (List ℕ) → Result (List ℕ) Wrong
plain_of at known link [] = wrong at wanted.Step
plain_of at known link (first ∷ words) = plain_by at known link first words (places_of first)

-- a line of a scenario, and the step that it writes
pub record Plain : Type 0 where
  pub text : List ℕ
  pub step : Step

-- what such a line is read as
abbrev pub plain_read : (at : ℕ) → (text : List ℕ) → Result Step Cause → Result Plain Wrong
plain_read at text (Ok step) = Ok (record { text = text; step = step })
plain_read at text (Err cause) = wrong at wanted.Step

-- what a step's words are resolved to
abbrev pub resolved : (at : ℕ) → Known → Link → List (List ℕ) → Result Plain Wrong
resolved at known link words = plain_of at known link words >>= λ text. plain_read at text (step_read text)

-- ---- The line

-- a line's name is one, and no line before has it
abbrev pub named : Known → Option (List ℕ) → Result (Unit {0}) Wrong
named known None = Ok tt
named known (Some name) =
    if is_name name then (if is_some (given_of name known) then wrong 0 wanted.NewName else Ok tt) else wrong 0 wanted.Name

-- the word is `end`, and stands alone
abbrev pub are_end : List (List ℕ) → Bool
are_end (word ∷ []) = bytes_eq word (codes "end")
are_end _ = false

-- is it the last line, `end => ..`?
abbrev pub is_end : Parts → Bool
is_end parts = are_end parts.step && is_some parts.expected

-- the line's step; the last line has none
abbrev pub step_in : Known → Link → Parts → Result (Option Plain) Wrong
step_in known link parts = if is_end parts then Ok None else (resolved (step_begins parts) known link parts.step >>= λ plain. Ok (Some plain))

-- what it expects, where it expects something: a text with a space before each word
abbrev pub expected_in : Known → (at : ℕ) → Option (List (List ℕ)) → Result (Option (List ℕ)) Wrong
expected_in known at None = Ok None
expected_in known at (Some words) = expected_of at known words >>= λ text. Ok (Some text)

-- a line that was read
pub record LineRead : Type 0 where
  pub step : Option Plain
  pub expected : Option (List ℕ)

-- what a line is read as where these are the names so far and this is in flight
abbrev pub line_read : Known → Link → Parts → Result LineRead Wrong
line_read known link parts = do
  _ ← named known parts.name
  step ← step_in known link parts
  expected ← expected_in known (expected_begins parts) parts.expected
  Ok (record { step = step; expected = expected })

-- ---- What a call makes of a line

-- a line is wrong, or memory ran out
abbrev pub IsStopped : {A : Type 0} → Wrong → Result A Stop → Type 0
IsStopped fault (Ok value) = ⊥
IsStopped fault (Err stop.Memory) = Unit {0}
IsStopped fault (Err (stop.Wrong found)) = found ≡ fault

-- the step is given, and its line of a scenario written
abbrev pub Resolves : Result Plain Wrong → (text : List ℕ) → Result Step Stop → Type 0
Resolves (Ok plain) text (Ok step) = (text ≡ plain.text) × (step ≡ plain.step)
Resolves (Ok plain) text (Err stop.Memory) = Unit {0}
Resolves (Ok plain) text (Err (stop.Wrong found)) = ⊥
Resolves (Err fault) text result = IsStopped fault result

-- nothing is written where there is nothing to say
abbrev pub plain_text : Option Plain → List ℕ
plain_text None = []
plain_text (Some plain) = plain.text

abbrev pub expected_text : Option (List ℕ) → List ℕ
expected_text None = []
expected_text (Some text) = text

-- the step is given, and what the line says is written
abbrev pub Reads : Result LineRead Wrong → (text expected : List ℕ) → Result (Option Step) Stop → Type 0
Reads (Ok read) text expected (Ok step) =
    (step ≡ option_map (λ plain. plain.step) read.step) × (text ≡ plain_text read.step) × (expected ≡ expected_text read.expected)
Reads (Ok read) text expected (Err stop.Memory) = Unit {0}
Reads (Ok read) text expected (Err (stop.Wrong found)) = ⊥
Reads (Err fault) text expected result = IsStopped fault result
