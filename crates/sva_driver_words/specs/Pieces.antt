-- The pieces of a line that is written: its words, and numbers behind them.
use Rattle.std.specs.Prelude.{ℕ, ◌==◌, if◌then◌else◌, Bool, true, false, List, [], ◌++◌, Option, Some, None, codes, decimal}
use Rattle.sva_open.specs.declared.naming.Kind.{Kind}
use Rattle.sva_open.specs.declared.naming.Kind.TheVariants as kind

-- a blank and a number
abbrev pub and_number : ℕ → List ℕ
and_number number = codes " " ++ decimal number

-- a word with an endpoint, a PASID, a page
abbrev pub with_endpoint : (word : List ℕ) → (endpoint : ℕ) → List ℕ
with_endpoint word endpoint = word ++ and_number endpoint

abbrev pub with_pasid : (word : List ℕ) → (endpoint pasid : ℕ) → List ℕ
with_pasid word endpoint pasid = with_endpoint word endpoint ++ and_number pasid

abbrev pub with_page : (word : List ℕ) → (endpoint pasid page : ℕ) → List ℕ
with_page word endpoint pasid page = with_pasid word endpoint pasid ++ and_number page

-- of how many older ones is said where there are some
abbrev pub and_older : (older : ℕ) → List ℕ
and_older older = if older == 0 then [] else and_number older

abbrev pub access_text : (write : Bool) → List ℕ
access_text true = codes " w"
access_text false = codes " r"

abbrev pub last_text : (last : Bool) → List ℕ
last_text true = codes " last"
last_text false = codes " more"

abbrev pub code_text : (fails : Bool) → List ℕ
code_text true = codes " failure"
code_text false = codes " success"

abbrev pub kind_text : Kind → List ℕ
kind_text kind.Start = codes "start"
kind_text kind.Stop = codes "stop"
kind_text kind.Barrier = codes "barrier"
kind_text kind.Reset = codes "reset"
kind_text kind.Completion = codes "completion"
kind_text kind.Invalidate = codes "invalidate"
kind_text kind.Response = codes "response"
kind_text kind.Request = codes "request"
kind_text kind.Invalidated = codes "invalidated"
kind_text kind.PageRequest = codes "page-request"
kind_text kind.Marker = codes "marker"
kind_text kind.Status = codes "status"
kind_text kind.Passed = codes "passed"
kind_text kind.ResetDone = codes "reset-done"

-- how many places page request queues have, where that is said, with what stands before it and behind it
abbrev pub places_text : (before behind : List ℕ) → Option ℕ → List ℕ
places_text before behind None = []
places_text before behind (Some places) = before ++ codes "places" ++ and_number places ++ behind

-- of one it is said otherwise than of more
abbrev pub counted_text : (count : ℕ) → (one more : List ℕ) → List ℕ
counted_text count one more = decimal count ++ codes " " ++ (if count == 1 then one else more)
