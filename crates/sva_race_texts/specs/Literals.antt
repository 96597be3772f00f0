-- What is asked of the literals of a claim that stand beside others, with `and` between: for each of them the race has
-- one claim more, `sometimes LITERAL`, of ends alone where its claim is of these.
use Rattle.std.specs.Prelude.{ℕ, ◌&&◌, not, if◌then◌else◌, Bool, List, [], ◌∷◌, ◌++◌, codes, Result, Ok, Err}
use Rattle.std.specs.List.{fold, list_any}
use Rattle.std.specs.Str.{bytes_eq}
use Rattle.sva_step.specs.declared.limits.Config.{Config}
use Rattle.sva_script.specs.Names.{Known}
use Rattle.sva_script_reading.specs.Begins.{joined_words}
use Rattle.sva_race_texts.specs.declared.terms.claims.Claiming.TheVariants.{Sometimes}
use Rattle.sva_race_texts.specs.declared.faults.RaceWrong.{RaceWrong}
use Rattle.sva_race_texts.specs.Words.{pieces}
use Rattle.sva_race_texts.specs.Conditions.{condition_of}
use Rattle.sva_race_texts.specs.Seen.{Condition, LineSaid}
use Rattle.sva_race_texts.specs.Readings.{AskedLiteralSaid, ClaimSaid, LiteralsSaid}

-- ---- A literal is asked for once: with the first line in which it stands, and of ends apart from all moments

abbrev pub is_same : (text : List ℕ) → (is_of_ends : Bool) → AskedLiteralSaid → Bool
is_same text is_of_ends literal =
    (if is_of_ends then literal.is_of_ends else not literal.is_of_ends) && bytes_eq literal.text text

abbrev pub is_asked : (text : List ℕ) → (is_of_ends : Bool) → List AskedLiteralSaid → Bool
is_asked text is_of_ends asked = list_any (is_same text is_of_ends) asked

-- ---- One literal

-- the claim that it is true at some moment
abbrev pub sometimes : Condition → ClaimSaid
sometimes condition = record { claiming = Sometimes; condition = condition }

abbrev pub with_claim : LiteralsSaid → AskedLiteralSaid → ClaimSaid → LiteralsSaid
with_claim literals asked claim =
    record { claims = literals.claims ++ claim ∷ []; asked = literals.asked ++ asked ∷ [] }

-- A literal is read as a condition of its own. Of words that are wrong nothing is asked: nor is the condition right in
-- which they stand.
abbrev pub with_read : LiteralsSaid → AskedLiteralSaid → Result Condition RaceWrong → LiteralsSaid
with_read literals asked (Ok condition) = with_claim literals asked (sometimes condition)
with_read literals asked (Err wrong) = literals

abbrev pub asked_by : (line : ℕ) → (is_of_ends : Bool) → (text : List ℕ) → AskedLiteralSaid
asked_by line is_of_ends text = record { text = text; is_of_ends = is_of_ends; line = line }

abbrev pub with_literal : Config → Known → List LineSaid → (line : ℕ) → (is_of_ends : Bool) → LiteralsSaid
    → List (List ℕ) → LiteralsSaid
with_literal config known lines line is_of_ends literals words =
    if is_asked (joined_words words) is_of_ends literals.asked then literals else
    with_read literals (asked_by line is_of_ends (joined_words words)) (condition_of config known lines 0 words)

-- ---- Those of a condition: an `or` of `and`s

abbrev pub with_each : Config → Known → List LineSaid → (line : ℕ) → (is_of_ends : Bool) → LiteralsSaid
    → List (List ℕ) → LiteralsSaid
with_each config known lines line is_of_ends literals words =
    fold (with_literal config known lines line is_of_ends) literals (pieces (codes "and") words)

-- One that stands alone isn't asked for: a claim that has no other says of it what there is to say, and so does a `never`
abbrev pub is_and : (word : List ℕ) → Bool
is_and word = bytes_eq word (codes "and")

abbrev pub has_several : List (List ℕ) → Bool
has_several words = list_any is_and words

abbrev pub with_all : Config → Known → List LineSaid → (line : ℕ) → (is_of_ends : Bool) → LiteralsSaid
    → List (List ℕ) → LiteralsSaid
with_all config known lines line is_of_ends literals words =
    if has_several words then with_each config known lines line is_of_ends literals words else literals

abbrev pub with_condition : Config → Known → List LineSaid → (line : ℕ) → (is_of_ends : Bool) → LiteralsSaid
    → List (List ℕ) → LiteralsSaid
with_condition config known lines line is_of_ends literals words =
    fold (with_all config known lines line is_of_ends) literals (pieces (codes "or") words)
