-- A row of a trace, as it is made of its step's answer and messages.
use Rattle.std.proofs.Common.{◌≡◌, ◌∙◌, ap, append-nil, append_assoc, cond, refl, ℕ, ◌||◌, Bool, true, false, List, [], ◌∷◌, ◌++◌, codes, decimal, Option}
use Rattle.std.proofs.Common.{Some, None}
use Rattle.std.specs.Prelude.{is_some}
use Rattle.sva_step.specs.declared.steps.Step.{Step}
use Rattle.sva_step.specs.declared.steps.Step.TheVariants.{Deliver}
use Rattle.sva_model.specs.Message.{Message}
use Rattle.sva_model.specs.Wire.{Wire}
use Rattle.sva_grammar.specs.Replies.{reply_text}
use Rattle.sva_snapshot.specs.Explaining.{Explaining}
use Rattle.sva_script_reports.specs.declared.rows.Columns.{Columns}
use Rattle.sva_script_reports.specs.declared.rows.Style.{Style}
use Rattle.sva_script_reports.specs.Rows.{Row, column, delivered_text, messages_text, row_text, sends, sent_text, step_text, whys_if}
use Rattle.sva_script_reports.proofs.TraceLemmas.{none_of}
use Rattle.sva_script_laws.specs.Traces.{LineRow, behind_step, line_text}

-- what is told of its messages, where something is
abbrev pub messages_by : (test : Bool) → Row → Option (List ℕ)
messages_by true row = Some (messages_text row)
messages_by false row = None

abbrev pub row_made : (explained : Explaining) (line : ℕ) → (plain : List ℕ) → Wire → Row → LineRow
row_made explained line plain wire row = record {
  line = line;
  plain = plain;
  answer = reply_text row.told.reply;
  messages = messages_by (is_some row.delivered || sends row.told) row;
  whys = explained wire row.step row.told.reply;
}

is_none : (delivered : Option Message) → is_some delivered ≡ false → delivered ≡ None
is_none None is = refl
is_none (Some kind) is = absurd (cc is)

no_delivery : (step : Step) (behind : List ℕ) → delivered_text step None behind ≡ []
no_delivery (Deliver message) behind = refl
no_delivery step behind = refl

-- where no message was delivered or sent, nothing is told
no_messages : (row : Row) → (is_some row.delivered || sends row.told) ≡ false → messages_text row ≡ []
no_messages row none =
    let parts = none_of (is_some row.delivered) (sends row.told) none in
    (λ i. delivered_text row.step (is_none row.delivered parts.0 i) (cond (parts.1 i) (codes ", ") [])
    ++ cond (parts.1 i) (sent_text row.told row.first_sent) [])
    ∙ ap (λ l. l ++ []) (no_delivery row.step [])

row_is : (columns : Columns) (line : ℕ) (plain : List ℕ) (row : Row)
    → row_text columns line plain row
    ≡ column columns 5 (decimal line) ++ column columns 27 plain
    ++ (behind_step columns (reply_text row.told.reply) (messages_by (is_some row.delivered || sends row.told) row) ++ 10 ∷ [])
row_is columns line plain row = by_test (is_some row.delivered || sends row.told) refl
  where
    front : List ℕ
    front = column columns 5 (decimal line) ++ column columns 27 plain

    answer : List ℕ
    answer = reply_text row.told.reply

    by_test : (test : Bool) → (is_some row.delivered || sends row.told) ≡ test
        → front ++ cond test (column columns 23 answer) answer ++ messages_text row ++ 10 ∷ []
        ≡ front ++ (behind_step columns answer (messages_by test row) ++ 10 ∷ [])
    by_test true some =
        ap (λ l. l ++ 10 ∷ []) (append_assoc front (column columns 23 answer) (messages_text row))
        ∙ append_assoc front (column columns 23 answer ++ messages_text row) (10 ∷ [])
    by_test false none =
        ap (λ messages. front ++ answer ++ messages ++ 10 ∷ []) (no_messages row none)
        ∙ ap (λ l. l ++ 10 ∷ []) (append-nil (front ++ answer))
        ∙ append_assoc front answer (10 ∷ [])

-- and what is said behind it
pub step_told : (explained : Explaining) (style : Style) (line : ℕ) (plain : List ℕ) (wire : Wire) (row : Row)
    → step_text explained style line plain wire row ≡ line_text style (row_made explained line plain wire row)
step_told explained style line plain wire row = ap (λ l. l ++ whys_if explained style.whys wire row) (row_is style.columns line plain row)
