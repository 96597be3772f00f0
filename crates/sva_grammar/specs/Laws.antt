-- Laws of the grammar, over every word, every text and every scenario.
use Rattle.std.specs.Prelude.{◌≡◌, ◌↔◌, ℕ, ◌+◌, ◌^◌, ◌<◌, ◌/◌, ◌%◌, ◌==◌, ◌||◌, if◌then◌else◌, Bool, true, false, List, [], ◌∷◌, ◌++◌, zero, suc, length}
use Rattle.std.specs.Prelude.{count_by, codes, decimal, flat_map, map, Option, Some, None, IfSome, Ok}
use Rattle.std.specs.Char.{digit_char}
use Rattle.std.specs.List.{AllByRecursion, join_with_byte}
use Rattle.sva_step.specs.declared.steps.Step.{Step}
use Rattle.sva_step.specs.declared.steps.Step.TheVariants.{Space, DropSpace, Map, Unmap, UnmapRange, Bind, Unbind, Advance, Pump, Serve, Reset, Take}
use Rattle.sva_step.specs.declared.steps.Step.TheVariants.{Reply, Ask, BeginUse, EndUse, Evict, Fault, Finish, Quit, Deliver, Look, Bearer}
use Rattle.sva_step.specs.declared.steps.Verdict.{Verdict}
use Rattle.sva_step.specs.declared.steps.Verdict.TheVariants.{Success, Invalid, Failure}
use Rattle.sva_step.specs.declared.limits.Config.{Config}
use Rattle.sva_grammar.specs.Grammar.{Script, is_too_large, lines_of, number, scenario_of, step_of, vector, word}

-- a word writes a number exactly where it is the number's decimal text
abbrev pub NumbersAreDecimal : Type 0
NumbersAreDecimal = (word : List ℕ) (value : ℕ) → (number word ≡ Ok value) ↔ ((value < 2 ^ 64) × (word ≡ decimal value))

-- the last so many hexadecimal digits of a number, in lower case
abbrev pub hexadecimal : ℕ → ℕ → List ℕ
hexadecimal zero value = []
hexadecimal (suc places) value = digit_char (value / 16 ^ places % 16) ∷ hexadecimal places value

-- a word writes a vector exactly where it is its eight hexadecimal digits
abbrev pub VectorsAreHexadecimal : Type 0
VectorsAreHexadecimal = (word : List ℕ) (value : ℕ) → (vector word ≡ Ok value) ↔ ((value < 2 ^ 32) × (word ≡ hexadecimal 8 value))

-- the text is empty, or ends with an LF
abbrev pub is_ended : List ℕ → Bool
is_ended [] = true
is_ended (byte ∷ []) = byte == 10
is_ended (byte ∷ next ∷ text) = is_ended (next ∷ text)

-- there are as many lines as LFs, and one more where the text isn't ended
abbrev pub LinesAreCounted : Type 0
LinesAreCounted = (text : List ℕ) → length (lines_of text) ≡ count_by (λ byte. byte == 10) text + (if is_ended text then 0 else 1)

-- ---- What is written is read

-- the words of a config's line
abbrev pub config_words : Config → List (List ℕ)
config_words config = codes "config" ∷ decimal config.endpoints ∷ decimal config.frames ∷ decimal config.workers ∷ []

-- the word that allows writing, or doesn't
abbrev pub access_word : Bool → List ℕ
access_word write = if write then codes "w" else codes "r"

-- the word of the bits R and W; a page request has one of them at least
abbrev pub flags_word : Bool → Bool → List ℕ
flags_word read write = (if read then codes "r" else []) ++ (if write then codes "w" else [])

-- the word of the group that a page request joins: a new one, or the unfinished one with this index
abbrev pub group_word : Option ℕ → List ℕ
group_word None = codes "new"
group_word (Some index) = decimal index

-- the word of the bit L: whether the page request finishes its group (PCI Express Base 5.0, section 10.4.1)
abbrev pub last_word : Bool → List ℕ
last_word last = if last then codes "last" else codes "more"

-- the word of a worker's verdict on its job: with the binding Live the response bears its code (PCI Express Base 5.0, section 10.4.2)
abbrev pub verdict_word : Verdict → List ℕ
verdict_word Success = codes "success"
verdict_word Invalid = codes "invalid"
verdict_word Failure = codes "failure"

-- the first word of a step's line
abbrev pub step_name : Step → List ℕ
step_name Space = codes "space"
step_name (DropSpace space) = codes "drop"
step_name (Map space page write) = codes "map"
step_name (Unmap space page count) = codes "unmap"
step_name (UnmapRange space page order) = codes "unmapr"
step_name (Bind endpoint space) = codes "bind"
step_name (Unbind binding) = codes "unbind"
step_name (Advance binding) = codes "advance"
step_name (Pump endpoint) = codes "pump"
step_name (Serve endpoint) = codes "serve"
step_name (Reset endpoint) = codes "reset"
step_name (Take worker) = codes "take"
step_name (Reply worker verdict) = codes "answer"
step_name (Ask endpoint pasid page) = codes "ask"
step_name (BeginUse endpoint pasid page write) = codes "use"
step_name (EndUse endpoint slot) = codes "end"
step_name (Evict endpoint pasid page) = codes "evict"
step_name (Fault endpoint pasid page read write group last) = codes "fault"
step_name (Finish endpoint vector count) = codes "finish"
step_name (Quit endpoint pasid) = codes "quit"
step_name (Deliver message) = codes "deliver"
step_name (Look frame) = codes "look"
step_name (Bearer pasid) = codes "bearer"

-- the words behind it
abbrev pub step_values : Step → List (List ℕ)
step_values Space = []
step_values (DropSpace space) = decimal space ∷ []
step_values (Map space page write) = decimal space ∷ decimal page ∷ access_word write ∷ []
step_values (Unmap space page count) = decimal space ∷ decimal page ∷ decimal count ∷ []
step_values (UnmapRange space page order) = decimal space ∷ decimal page ∷ decimal order ∷ []
step_values (Bind endpoint space) = decimal endpoint ∷ decimal space ∷ []
step_values (Unbind binding) = decimal binding ∷ []
step_values (Advance binding) = decimal binding ∷ []
step_values (Pump endpoint) = decimal endpoint ∷ []
step_values (Serve endpoint) = decimal endpoint ∷ []
step_values (Reset endpoint) = decimal endpoint ∷ []
step_values (Take worker) = decimal worker ∷ []
step_values (Reply worker verdict) = decimal worker ∷ verdict_word verdict ∷ []
step_values (Ask endpoint pasid page) = decimal endpoint ∷ decimal pasid ∷ decimal page ∷ []
step_values (BeginUse endpoint pasid page write) = decimal endpoint ∷ decimal pasid ∷ decimal page ∷ access_word write ∷ []
step_values (EndUse endpoint slot) = decimal endpoint ∷ decimal slot ∷ []
step_values (Evict endpoint pasid page) = decimal endpoint ∷ decimal pasid ∷ decimal page ∷ []
step_values (Fault endpoint pasid page read write group last) =
    decimal endpoint ∷ decimal pasid ∷ decimal page ∷ flags_word read write ∷ group_word group ∷ last_word last ∷ []
step_values (Finish endpoint vector count) = decimal endpoint ∷ hexadecimal 8 vector ∷ decimal count ∷ []
step_values (Quit endpoint pasid) = decimal endpoint ∷ decimal pasid ∷ []
step_values (Deliver message) = decimal message ∷ []
step_values (Look frame) = decimal frame ∷ []
step_values (Bearer pasid) = decimal pasid ∷ []

-- the words of a step's line
abbrev pub step_words : Step → List (List ℕ)
step_words step = step_name step ∷ step_values step

-- a step that has a line: its numbers fit 64 bits, its vector 32, and a page request asks for something
abbrev pub HasLine : Step → Type 0
HasLine Space = Unit {0}
HasLine (DropSpace space) = space < 2 ^ 64
HasLine (Map space page write) = (space < 2 ^ 64) × (page < 2 ^ 64)
HasLine (Unmap space page count) = (space < 2 ^ 64) × (page < 2 ^ 64) × (count < 2 ^ 64)
HasLine (UnmapRange space page order) = (space < 2 ^ 64) × (page < 2 ^ 64) × (order < 2 ^ 64)
HasLine (Bind endpoint space) = (endpoint < 2 ^ 64) × (space < 2 ^ 64)
HasLine (Unbind binding) = binding < 2 ^ 64
HasLine (Advance binding) = binding < 2 ^ 64
HasLine (Pump endpoint) = endpoint < 2 ^ 64
HasLine (Serve endpoint) = endpoint < 2 ^ 64
HasLine (Reset endpoint) = endpoint < 2 ^ 64
HasLine (Take worker) = worker < 2 ^ 64
HasLine (Reply worker verdict) = worker < 2 ^ 64
HasLine (Ask endpoint pasid page) = (endpoint < 2 ^ 64) × (pasid < 2 ^ 64) × (page < 2 ^ 64)
HasLine (BeginUse endpoint pasid page write) = (endpoint < 2 ^ 64) × (pasid < 2 ^ 64) × (page < 2 ^ 64)
HasLine (EndUse endpoint slot) = (endpoint < 2 ^ 64) × (slot < 2 ^ 64)
HasLine (Evict endpoint pasid page) = (endpoint < 2 ^ 64) × (pasid < 2 ^ 64) × (page < 2 ^ 64)
HasLine (Fault endpoint pasid page read write group last) =
    (endpoint < 2 ^ 64) × (pasid < 2 ^ 64) × (page < 2 ^ 64) × ((read || write) ≡ true) × IfSome group (λ index. index < 2 ^ 64)
HasLine (Finish endpoint vector count) = (endpoint < 2 ^ 64) × (vector < 2 ^ 32) × (count < 2 ^ 64)
HasLine (Quit endpoint pasid) = (endpoint < 2 ^ 64) × (pasid < 2 ^ 64)
HasLine (Deliver message) = message < 2 ^ 64
HasLine (Look frame) = frame < 2 ^ 64
HasLine (Bearer pasid) = pasid < 2 ^ 64

-- a config that has a line: its numbers fit 64 bits, and what it numbers begins at 0
abbrev pub HasConfigLine : Config → Type 0
HasConfigLine config = (config.endpoints < 2 ^ 64) × (config.frames < 2 ^ 64) × (config.workers < 2 ^ 64) × (config.first ≡ 0)

-- lines of words, with one space between two words and an LF behind each line
abbrev pub text_of : List (List (List ℕ)) → List ℕ
text_of lines = flat_map (λ words. join_with_byte 32 words ++ 10 ∷ []) lines

-- the plainest text of a scenario
abbrev pub script_text : Script → List ℕ
script_text script = text_of (config_words script.config ∷ map step_words script.steps)

-- each scenario that has lines and isn't too large is read from its text
abbrev pub ScriptsAreRead : Type 0
ScriptsAreRead =
    (script : Script)
    → HasConfigLine script.config
    → AllByRecursion HasLine script.steps
    → is_too_large (script_text script) ≡ false
    → scenario_of (script_text script) ≡ Ok script

-- a line that is read as a step begins with the step's name
abbrev pub LinesAreNamed : Type 0
LinesAreNamed = (words : List (List ℕ)) (step : Step) → step_of words ≡ Ok step → word 0 words ≡ step_name step
