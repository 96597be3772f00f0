-- The kinds of messages, with their fields.
use Rattle.std.specs.Prelude.{ℕ, zero, suc, ◌/◌, ◌%◌, ◌^◌, if◌then◌else◌, Option, Some, None, List, [], ◌∷◌, ◌++◌, codes}
use Rattle.std.specs.Char.{digit_char}
use Rattle.sva_model.specs.Message.{Code, Message, Scope}
use Rattle.sva_model.specs.Message.Code.{SuccessCode, InvalidCode, FailureCode}
use Rattle.sva_model.specs.Message.Message.{StartMessage, StopMessage, ResetMessage, CompletionMessage, InvalidateMessage, ResponseMessage, RequestMessage}
use Rattle.sva_model.specs.Message.Message.{InvalidatedMessage, PageRequestMessage, MarkerMessage, ResetDoneMessage}
use Rattle.sva_model.specs.Message.Scope.{Coded, Everything}
use Rattle.sva_model.specs.Range.{Range, decode}
use Rattle.sva_model.specs.Wire.{FlightWire}
use Rattle.sva_lines.specs.Pieces.{field, flags_text, range_text, request_text}

-- the pages that a scope names. A code that is that of no range stands for all pages; no host sends one.
abbrev pub pages_text : Option Range → List ℕ
pages_text (Some range) = range_text range
pages_text None = codes " all pages"

abbrev pub scope_text : Scope → List ℕ
scope_text Everything = codes " all pages"
scope_text (Coded code) = pages_text (decode code)

abbrev pub code_text : Code → List ℕ
code_text SuccessCode = codes " success"
code_text InvalidCode = codes " invalid"
code_text FailureCode = codes " failure"

-- the last so many hexadecimal digits of a number
abbrev pub hex_text : (digits number : ℕ) → List ℕ
hex_text zero number = []
hex_text (suc digits) number = digit_char (number / 16 ^ digits % 16) ∷ hex_text digits number

-- the word for the kind of a message, and its fields. The vector of an invalidation's completion has eight hexadecimal digits, and
-- `count` is the field of that name, in which 0 stands for 8.
abbrev pub message_text : Message → List ℕ
message_text (StartMessage pasid) = field (codes " start pasid ") pasid
message_text (StopMessage pasid) = field (codes " stop pasid ") pasid
message_text ResetMessage = codes " reset"
message_text (CompletionMessage tag frame read write) =
    field (codes " completion tag ") tag ++ field (codes " frame ") frame ++ flags_text read write
message_text (InvalidateMessage itag pasid scope) =
    field (codes " invalidate itag ") itag ++ field (codes " pasid ") pasid ++ scope_text scope
message_text (ResponseMessage pasid index code) =
    field (codes " response pasid ") pasid ++ field (codes " group ") index ++ code_text code
message_text (RequestMessage tag pasid page) =
    field (codes " request tag ") tag ++ field (codes " pasid ") pasid ++ field (codes " page ") page
message_text (InvalidatedMessage vector count) =
    codes " invalidated " ++ hex_text 8 vector ++ field (codes " count ") count
message_text (PageRequestMessage pasid index page read write last) =
    codes " page-request" ++ request_text pasid index page read write last
message_text (MarkerMessage pasid) = field (codes " marker pasid ") pasid
message_text ResetDoneMessage = codes " reset-done"

-- the oldest message that holds it back: `, behind 3`
abbrev pub behind_text : Option FlightWire → List ℕ
behind_text None = []
behind_text (Some older) = field (codes ", behind ") older.number
