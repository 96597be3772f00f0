-- A row of a trace: the number of the line, the step, its answer, and the messages that it delivered and sent.
use Rattle.std.specs.Prelude.{ℕ, ◌+◌, ◌-◌, ◌||◌, nat_lt, if◌then◌else◌, List, [], ◌∷◌, ◌++◌, codes, decimal, length, replicate, is_some, option_map, Bool}
use Rattle.std.specs.Prelude.{Option, Some, None}
use Rattle.sva_step.specs.declared.steps.Step.{Step}
use Rattle.sva_step.specs.declared.steps.Step.TheVariants.{Deliver}
use Rattle.sva_model.specs.Message.{Message}
use Rattle.sva_model.specs.Wire.{Wire}
use Rattle.sva_grammar.specs.Replies.{ended, reply_text}
use Rattle.sva_snapshot.specs.Explaining.{Explaining}
use Rattle.sva_script.specs.declared.given.Told.{Told}
use Rattle.sva_script_reports.specs.declared.rows.Columns.{Columns}
use Rattle.sva_script_reports.specs.declared.rows.Columns.TheVariants.{Padded, Tabbed}
use Rattle.sva_script_reports.specs.declared.rows.Style.{Style}
use Rattle.sva_parts_by_labels.specs.Flights.{kind_seen}
use Rattle.sva_script_runs.specs.declared.running.Taken.{Taken}
use Rattle.sva_script_reading.specs.Messages.{kind_word}

-- behind so many bytes a column is filled up to its width, with a space (32) at least; or a tab (9) ends it
abbrev pub column_end : Columns → (width written : ℕ) → List ℕ
column_end Padded width written = replicate (width - (written + 1)) 32 ++ 32 ∷ []
column_end Tabbed width written = 9 ∷ []

abbrev pub column : Columns → (width : ℕ) → List ℕ → List ℕ
column columns width text = text ++ column_end columns width (length text)

-- what a step came to, and the messages that it delivered and first sent
pub record Row : Type 0 where
  pub step : Step
  pub told : Told
  pub delivered : Option Message
  pub first_sent : Option Message

-- what a step came to, as it is told
abbrev pub row_seen : Taken → Row
row_seen taken = record {
  step = taken.step;
  told = taken.told;
  delivered = option_map kind_seen taken.delivered;
  first_sent = option_map kind_seen taken.first_sent;
}

-- did the step send a message?
abbrev pub sends : Told → Bool
sends told = nat_lt told.first told.next

-- `<- NUMBER KIND`
abbrev pub delivered_text : Step → Option Message → (behind : List ℕ) → List ℕ
delivered_text (Deliver message) (Some kind) behind = codes "<- " ++ decimal message ++ 32 ∷ kind_word kind ++ behind
delivered_text step delivered behind = []

abbrev pub kind_text : Option Message → List ℕ
kind_text None = []
kind_text (Some kind) = 32 ∷ kind_word kind

-- `-> NUMBER KIND`, or `-> FIRST..LAST KIND`
abbrev pub sent_text : Told → Option Message → List ℕ
sent_text told sent =
    codes "-> " ++ decimal told.first ++ (if nat_lt told.first (told.next - 1) then codes ".." ++ decimal (told.next - 1) else []) ++ kind_text sent

abbrev pub messages_text : Row → List ℕ
messages_text row =
    delivered_text row.step row.delivered (if sends row.told then codes ", " else [])
    ++ (if sends row.told then sent_text row.told row.first_sent else [])

-- the answer, padded where something follows
abbrev pub answer_column : Columns → Row → List ℕ
answer_column columns row =
    if is_some row.delivered || sends row.told then column columns 23 (reply_text row.told.reply) else reply_text row.told.reply

-- the row of a step
abbrev pub row_text : Columns → (line : ℕ) → (plain : List ℕ) → Row → List ℕ
row_text columns line plain row =
    column columns 5 (decimal line) ++ column columns 27 plain ++ answer_column columns row ++ messages_text row ++ 10 ∷ []

-- what holds a step back that left this, where that is wanted; of a step that isn't held back nothing
abbrev pub whys_if : Explaining → (wanted : Bool) → Wire → Row → List ℕ
whys_if explained wanted wire row = if wanted then explained wire row.step row.told.reply else []

-- the row of a step that left this, and what is said behind it
abbrev pub step_text : Explaining → Style → (line : ℕ) → (plain : List ℕ) → Wire → Row → List ℕ
step_text explained style line plain wire row = row_text style.columns line plain row ++ whys_if explained style.whys wire row

-- the row of the end, which has no number
abbrev pub end_text : Columns → (counts : List ℕ) → List ℕ
end_text columns counts = column columns 5 [] ++ column columns 27 (codes "end") ++ ended counts
