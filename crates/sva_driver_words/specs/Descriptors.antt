-- What the descriptors of a line are, by its words.
use Rattle.std.specs.Prelude.{ℕ, ◌+◌, ◌-◌, ◌%◌, ◌^◌, ◌&&◌, nat_le, nat_lt, if◌then◌else◌, Bool, true, false, Vec, List}
use Rattle.std.specs.Prelude.{[], ◌∷◌, codes, drop, length, map, Option, Some, None, Result, Ok}
use Rattle.std.specs.Global.{Global}
use Rattle.sva_step.specs.declared.limits.Config.{Config}
use Rattle.sva_grammar.specs.Grammar.{◌>>=◌}
use Rattle.sva_open.specs.Below.{named_or}
use Rattle.sva_open.specs.declared.scopes.Scope.{Scope}
use Rattle.sva_open.specs.declared.scopes.Scope.TheVariants as scope
use Rattle.sva_open.specs.declared.descriptors.Descriptor.{Descriptor}
use Rattle.sva_open.specs.declared.descriptors.Descriptor.TheVariants as descriptor
use Rattle.sva_race_texts.specs.Words.{pieces}
use Rattle.sva_driver_words.specs.Faults.{wrong_at, placed}
use Rattle.sva_driver_words.specs.Fields.{endpoint_at, has_word, number_at, order_at, page_by, pasid_at, says}
use Rattle.sva_driver_words.specs.Sayings.{SayingSaid}
use Rattle.sva_driver_words.specs.Sayings.SayingSaid.{SubmitsSaid}
use Rattle.sva_driver_words.specs.Taking.{appended}
use Rattle.sva_driver_words.specs.Units.{is_below}
use Rattle.sva_driver_words.specs.declared.faults.DriverWanted.TheVariants as wanted
use Rattle.sva_driver_words.specs.declared.faults.SubmitWanted.{SubmitWanted}
use Rattle.sva_driver_words.specs.declared.faults.SubmitWanted.TheVariants as submit
use Rattle.sva_driver_words.specs.declared.faults.DriverWrong.{DriverWrong}

-- the aligned range of 2^order pages that has a page (PCI Express Base 5.0, section 10.3.1)
abbrev pub aligned : (pasid page order : ℕ) → Scope
aligned pasid page order = scope.Pages pasid (page - page % (2 ^ order)) (2 ^ order)

-- a descriptor has no word behind so many: `+` stands before the next one
abbrev pub ends_at : (count : ℕ) → List (List ℕ) → Result (Unit {0}) DriverWrong
ends_at count words = if nat_lt count (length words) then wrong_at count (wanted.Submit submit.PlusOrEnd) else Ok tt

-- ---- `of F`, behind so many words: of another endpoint below the unit of the line's, or of the line's

-- endpoints have numbers below 8
abbrev pub beside_at : (at : ℕ) → (units : List ℕ) → (endpoint : ℕ) → List (List ℕ) → Result ℕ DriverWrong
beside_at at units endpoint words = do
  other ← number_at 0 8 at (wanted.Submit submit.Beside) words
  if is_below units endpoint other then Ok other else wrong_at at (wanted.Submit submit.Beside)

abbrev pub other_at : (at : ℕ) → (units : List ℕ) → (endpoint : ℕ) → List (List ℕ) → Result (Option ℕ) DriverWrong
other_at at units endpoint words = do
  other ← beside_at (at + 1) units endpoint words
  _ ← ends_at (at + 2) words
  Ok (Some other)

abbrev pub none_at : (at : ℕ) → List (List ℕ) → Result (Option ℕ) DriverWrong
none_at at words = if nat_lt at (length words) then wrong_at at (wanted.Submit submit.OfOrPlus) else Ok None

abbrev pub of_at : (at : ℕ) → (units : List ℕ) → (endpoint : ℕ) → List (List ℕ) → Result (Option ℕ) DriverWrong
of_at at units endpoint words = if says at (codes "of") words then other_at at units endpoint words else none_at at words

-- ---- Invalidations

abbrev pub range_descriptor : (units : List ℕ) → (endpoint : ℕ) → List (List ℕ) → Result Descriptor DriverWrong
range_descriptor units endpoint words = do
  pasid ← pasid_at 1 words
  page ← page_by 2 wanted.Page words
  order ← order_at 3 words
  other ← of_at 4 units endpoint words
  Ok (descriptor.Device (named_or endpoint other) (aligned pasid page order))

abbrev pub pasid_descriptor : (units : List ℕ) → (endpoint : ℕ) → List (List ℕ) → Result Descriptor DriverWrong
pasid_descriptor units endpoint words = do
  pasid ← pasid_at 1 words
  other ← of_at 2 units endpoint words
  Ok (descriptor.Device (named_or endpoint other) (scope.Pasid pasid))

-- what the unit keeps is struck of each endpoint below it, unless one is named
abbrev pub kept_range : (units : List ℕ) → (endpoint : ℕ) → List (List ℕ) → Result Descriptor DriverWrong
kept_range units endpoint words = do
  pasid ← pasid_at 1 words
  page ← page_by 2 (wanted.Submit submit.PageOrPlus) words
  order ← order_at 3 words
  other ← of_at 4 units endpoint words
  Ok (descriptor.Translations other (aligned pasid page order))

abbrev pub kept_pasid : (units : List ℕ) → (endpoint : ℕ) → List (List ℕ) → Result Descriptor DriverWrong
kept_pasid units endpoint words = do
  pasid ← pasid_at 1 words
  other ← of_at 2 units endpoint words
  Ok (descriptor.Translations other (scope.Pasid pasid))

-- `iotlb P`, or `iotlb P PAGE K`
abbrev pub iotlb_descriptor : (units : List ℕ) → (endpoint : ℕ) → List (List ℕ) → Result Descriptor DriverWrong
iotlb_descriptor units endpoint words =
    if says 2 (codes "of") words then kept_pasid units endpoint words else
    if has_word 2 words then kept_range units endpoint words else
    kept_pasid units endpoint words

abbrev pub entry_descriptor : (units : List ℕ) → (endpoint : ℕ) → List (List ℕ) → Result Descriptor DriverWrong
entry_descriptor units endpoint words = do
  pasid ← pasid_at 1 words
  other ← of_at 2 units endpoint words
  Ok (descriptor.Entry other pasid)

-- ---- Waits

-- behind which place does the word stand that may stand there?
abbrev pub behind : (at : ℕ) → Bool → ℕ
behind at true = at + 1
behind at false = at

-- what a wait may have behind what it has
abbrev pub wait_wanted : (drain fence : Bool) → SubmitWanted
wait_wanted drain fence =
    if drain && fence then submit.PlusOrEnd else
    if drain then submit.FenceOrPlus else
    if fence then submit.DrainOrPlus else
    submit.FlagOrPlus

abbrev pub wait_with : (name : ℕ) → (drain fence : Bool) → (count : ℕ) → List (List ℕ) → Result Descriptor DriverWrong
wait_with name drain fence count words =
    if nat_lt count (length words)
    then wrong_at count (wanted.Submit (wait_wanted drain fence))
    else Ok (descriptor.Wait name drain fence)

-- `wait`, `wait drain`, `wait drain fence`
abbrev pub drain_first : (name : ℕ) → List (List ℕ) → Result Descriptor DriverWrong
drain_first name words =
    let drain = says 1 (codes "drain") words in
    let fence = says (behind 1 drain) (codes "fence") words in
    wait_with name drain fence (behind (behind 1 drain) fence) words

-- `wait fence`, `wait fence drain`
abbrev pub fence_first : (name : ℕ) → List (List ℕ) → Result Descriptor DriverWrong
fence_first name words =
    let drain = says 2 (codes "drain") words in
    wait_with name drain true (behind 2 drain) words

abbrev pub wait_of : (name : ℕ) → List (List ℕ) → Result Descriptor DriverWrong
wait_of name words = if says 1 (codes "fence") words then fence_first name words else drain_first name words

-- ---- A descriptor of a line at an endpoint; waits get a name

abbrev pub descriptor_of : (units : List ℕ) → (endpoint name : ℕ) → List (List ℕ) → Result Descriptor DriverWrong
descriptor_of units endpoint name words =
    if says 0 (codes "range") words then range_descriptor units endpoint words else
    if says 0 (codes "pasid") words then pasid_descriptor units endpoint words else
    if says 0 (codes "iotlb") words then iotlb_descriptor units endpoint words else
    if says 0 (codes "entry") words then entry_descriptor units endpoint words else
    if says 0 (codes "wait") words then wait_of name words else
    wrong_at 0 wanted.Descriptor

-- The same, of words that begin at a place of their line, behind so many descriptors. The queue has 64 places, and all
-- of a line go in at once: behind 64 of them no `+` may stand.
abbrev pub descriptor_at : (units : List ℕ) → (endpoint name count at : ℕ) → List (List ℕ) → Result Descriptor DriverWrong
descriptor_at units endpoint name count at words =
    if nat_le 64 count
    then wrong_at (at - 1) (wanted.Submit submit.Few)
    else placed at (descriptor_of units endpoint name words)

-- a descriptor is seen as it is, and a list of them by what it has
abbrev pub itself : Descriptor → Descriptor
itself it = it

abbrev pub items_of : Vec Descriptor Global → List Descriptor
items_of list = map itself list.items

-- What was read, and what each of these pieces is read as, behind so many others; the first begins at `at`, and a word
-- stands between two.
unfoldable pub each_from : {A : Type 0} → (one : (count at : ℕ) → List (List ℕ) → Result A DriverWrong) → (at : ℕ)
    → (read : List A) → List (List (List ℕ)) → Result (List A) DriverWrong
each_from one at read [] = Ok read
each_from one at read (words ∷ rest) =
    appended read (one (length read) at words) >>= λ more. each_from one (at + length words + 1) more rest

abbrev pub descriptors_of : (units : List ℕ) → (endpoint name at : ℕ) → List (List ℕ) → Result (List Descriptor) DriverWrong
descriptors_of units endpoint name at words =
    each_from (descriptor_at units endpoint name) at [] (pieces (codes "+") words)

-- `submit E D`, `submit E D + D ..`
abbrev pub submit_line : Config → (units : List ℕ) → (name : ℕ) → List (List ℕ) → Result SayingSaid DriverWrong
submit_line config units name words = do
  endpoint ← endpoint_at config 1 words
  list ← descriptors_of units endpoint name 2 (drop 2 words)
  Ok (SubmitsSaid endpoint list)
