-- What a call makes of a line, by what it is read as.
use Rattle.std.proofs.Common.{◌≡◌, ◌∙◌, ap, refl, sym, subst, ℕ, List, [], ◌∷◌, ◌++◌, true, false, not, cond}
use Rattle.std.specs.Prelude.{◌&&◌, Result, Ok, Err, slice_get, slice_set}
use Rattle.std.specs.List.{list_any}
use Rattle.std.specs.Str.{bytes_eq}
use Rattle.sva_grammar.specs.Grammar.{◌>>=◌}
use Rattle.sva_step.specs.declared.limits.Config.{Config}
use Rattle.sva_script.specs.Lines.{Parts, step_begins}
use Rattle.sva_script_reading.specs.Begins.{joined_words}
use Rattle.sva_race_texts.specs.Words.{word_at}
use Rattle.sva_driver_words.specs.Faults.{wrong_at, placed}
use Rattle.sva_driver_words.specs.Fields.{endpoint_at, has_word}
use Rattle.sva_driver_words.specs.declared.faults.DriverStop.{DriverStop}
use Rattle.sva_driver_words.specs.declared.faults.DriverStop.TheVariants as stop
use Rattle.sva_driver_words.specs.declared.faults.DriverWanted.TheVariants as wanted
use Rattle.sva_driver_words.specs.declared.faults.DriverWrong.{DriverWrong}
use Rattle.sva_driver_words.specs.declared.kept.Under.{Under}
use Rattle.sva_driver_words.specs.Says.{is_lock_word}
use Rattle.sva_driver_words.specs.Sayings.{SayingSaid}
use Rattle.sva_driver_words.specs.Taking.{Fails}
use Rattle.sva_driver_texts.specs.Blocks.{under_of}
use Rattle.sva_driver_texts.specs.Devices.{DeviceSaid}
use Rattle.sva_driver_texts.specs.Readings.{Reading, Takes, act_line, act_said, device_line, is_told, name_judged, name_of, saying_in}
use Rattle.sva_driver_texts.specs.Readings.{told_by, told_by_parts, unanswered, unit_line, with_block_of, with_flag_of, with_line, with_lock_of}
use Rattle.sva_driver_texts.specs.Units.{units_of, units_or_own}

-- ---- What fails

-- words whose first part fails
pub fails_on : {A C : Type 0} (read : Result A DriverWrong) (rest : A → Result C DriverWrong) (why : DriverStop) → Fails read why
    → Fails (read >>= rest) why
fails_on read rest (stop.Wrong found) is = ap (λ r. r >>= rest) is
fails_on read rest stop.Memory is = tt

pub fails_takes : (read : Result Reading DriverWrong) (old : Reading) (why : DriverStop) → Fails read why → Takes read old old (Err why)
fails_takes read old (stop.Wrong found) is = (is, refl)
fails_takes read old stop.Memory is = tt

pub placed_fails : (at begins : ℕ) (lent read : Result SayingSaid DriverWrong) (why placed_why : DriverStop) → at ≡ begins → lent ≡ read
    → Fails lent why → ((of : Result SayingSaid DriverWrong) → Fails of why → Fails (placed at of) placed_why) → Fails (placed begins read) placed_why
placed_fails at begins lent read why placed_why same is fails place =
    subst (λ start. Fails (placed start read) placed_why) same
    (subst (λ (of : Result SayingSaid DriverWrong). Fails (placed at of) placed_why) is (place lent fails))

-- ---- What the words of an act say

module _ (config : Config) (reading : Reading) (parts : Parts) (thread : List ℕ) where
  abbrev behind_answer : Result (Unit {0}) DriverWrong → Result SayingSaid DriverWrong
  behind_answer right = right >>= λ done. placed (step_begins parts) (saying_in config reading thread parts.step)

  abbrev behind_name : Result (Unit {0}) DriverWrong → Result SayingSaid DriverWrong
  behind_name right = right >>= λ done. behind_answer (unanswered parts)

  pub name_wrong : (wrong : DriverWrong) → name_judged reading.lines parts.name ≡ Err wrong → act_said config reading parts thread ≡ Err wrong
  name_wrong wrong is = ap behind_name is

  pub answer_wrong : (wrong : DriverWrong) → name_judged reading.lines parts.name ≡ Ok tt → unanswered parts ≡ Err wrong
      → act_said config reading parts thread ≡ Err wrong
  answer_wrong wrong right is = ap behind_name right ∙ ap behind_answer is

  pub said_right : (saying : SayingSaid) → name_judged reading.lines parts.name ≡ Ok tt → unanswered parts ≡ Ok tt
      → saying_in config reading thread parts.step ≡ Ok saying → act_said config reading parts thread ≡ Ok saying
  said_right saying right bare is = ap behind_name right ∙ ap behind_answer bare ∙ ap (placed (step_begins parts)) is

  pub said_fails : (why : DriverStop) → name_judged reading.lines parts.name ≡ Ok tt → unanswered parts ≡ Ok tt
      → Fails (placed (step_begins parts) (saying_in config reading thread parts.step)) why → Fails (act_said config reading parts thread) why
  said_fails why right bare is =
      subst (λ (read : Result SayingSaid DriverWrong). Fails read why) (sym (ap behind_name right ∙ ap behind_answer bare)) is

-- ---- The line of an act

abbrev lined : Reading → (number : ℕ) → Parts → (thread : List ℕ) → Result SayingSaid DriverWrong → Result Reading DriverWrong
lined reading number parts thread read =
    read >>= λ saying. Ok (with_line reading number (name_of parts.name) thread parts.step saying)

pub act_right : (config : Config) (reading new : Reading) (number : ℕ) (parts : Parts) (lent own thread : List ℕ) (saying : SayingSaid)
    → act_said config reading parts lent ≡ Ok saying → lent ≡ own → own ≡ thread
    → new ≡ with_line reading number (name_of parts.name) own parts.step saying → act_line config reading number parts thread ≡ Ok new
act_right config reading new number parts lent own thread saying is same mine behind =
    sym (ap (act_line config reading number parts) mine)
    ∙ ap (lined reading number parts own) (sym (ap (act_said config reading parts) same) ∙ is) ∙ ap Ok (sym behind)

pub act_fails : (config : Config) (reading : Reading) (number : ℕ) (parts : Parts) (lent own thread : List ℕ) (why : DriverStop)
    → Fails (act_said config reading parts lent) why → lent ≡ own → own ≡ thread
    → Takes (act_line config reading number parts thread) reading reading (Err why)
act_fails config reading number parts lent own thread why is same mine =
    fails_takes (act_line config reading number parts thread) reading why
    (subst (λ (of : List ℕ). Fails (act_line config reading number parts of) why) (same ∙ mine)
    (fails_on (act_said config reading parts lent) (λ saying. Ok (with_line reading number (name_of parts.name) lent parts.step saying)) why is))

-- ---- What an endpoint is told

module _ (config : Config) (reading : Reading) (words : List (List ℕ)) where
  abbrev behind_endpoint : Result ℕ DriverWrong → Result Reading DriverWrong
  behind_endpoint read = read >>= λ endpoint. told_by reading endpoint words (slice_get reading.devices endpoint)

  abbrev kept_at : (endpoint : ℕ) → Result DeviceSaid DriverWrong → Result Reading DriverWrong
  kept_at endpoint read = read >>= λ told. Ok (record reading { devices = slice_set reading.devices endpoint told })

  abbrev by_word : (endpoint : ℕ) → Result Reading DriverWrong
  by_word endpoint = cond (has_word 2 words) (kept_at endpoint (told_by_parts words)) (wrong_at 2 wanted.Part)

  by_parts : (endpoint : ℕ) → endpoint_at config 1 words ≡ Ok endpoint → is_told (slice_get reading.devices endpoint) ≡ false
      → has_word 2 words ≡ true → device_line config reading words ≡ kept_at endpoint (told_by_parts words)
  by_parts endpoint at untold some =
      ap behind_endpoint at
      ∙ ap (λ b. cond b (wrong_at 1 wanted.OneLine) (by_word endpoint)) untold
      ∙ ap (λ b. cond b (kept_at endpoint (told_by_parts words)) (wrong_at 2 wanted.Part)) some

  pub device_right : (endpoint : ℕ) (told : DeviceSaid) (new : Reading) → endpoint_at config 1 words ≡ Ok endpoint
      → is_told (slice_get reading.devices endpoint) ≡ false → has_word 2 words ≡ true → told_by_parts words ≡ Ok told
      → new ≡ record reading { devices = slice_set reading.devices endpoint told } → device_line config reading words ≡ Ok new
  device_right endpoint told new at untold some is behind =
      by_parts endpoint at untold some ∙ ap (kept_at endpoint) is ∙ ap Ok (sym behind)

  pub device_fails : (endpoint : ℕ) (why : DriverStop) → endpoint_at config 1 words ≡ Ok endpoint
      → is_told (slice_get reading.devices endpoint) ≡ false → has_word 2 words ≡ true → Fails (told_by_parts words) why
      → Takes (device_line config reading words) reading reading (Err why)
  device_fails endpoint why at untold some is =
      fails_takes (device_line config reading words) reading why
      (subst (λ (read : Result Reading DriverWrong). Fails read why) (sym (by_parts endpoint at untold some))
      (fails_on (told_by_parts words)
      (λ told. Ok (record reading { devices = slice_set reading.devices endpoint told })) why is))

-- ---- Which endpoints share a unit

module _ (config : Config) (reading : Reading) (words : List (List ℕ)) where
  abbrev with_units : Result (List ℕ) DriverWrong → Result Reading DriverWrong
  with_units read = read >>= λ units. Ok (record reading { units = units; set = reading.set ++ word_at 0 words ∷ [] })

  pub unit_right : (units : List ℕ) (new : Reading) → units_of config (units_or_own config reading.units) words ≡ Ok units
      → new ≡ record reading { units = units; set = reading.set ++ word_at 0 words ∷ [] } → unit_line config reading words ≡ Ok new
  unit_right units new is behind = ap with_units is ∙ ap Ok (sym behind)

  pub unit_fails : (why : DriverStop) → Fails (units_of config (units_or_own config reading.units) words) why
      → Takes (unit_line config reading words) reading reading (Err why)
  unit_fails why is =
      fails_takes (unit_line config reading words) reading why
      (fails_on (units_of config (units_or_own config reading.units) words)
      (λ units. Ok (record reading { units = units; set = reading.set ++ word_at 0 words ∷ [] })) why is)

-- ---- A line that is added

pub add_is : (old locked flagged opened new : Reading) (number : ℕ) (under : List Under) (name own thread text : List ℕ)
    (words : List (List ℕ)) (saying : SayingSaid)
    → under ≡ under_of thread old.blocks → own ≡ name → text ≡ joined_words words → locked ≡ with_lock_of old words
    → flagged ≡ with_flag_of locked words → opened ≡ with_block_of flagged thread number words
    → new ≡ record opened {
      lines = opened.lines ++ (record { number = number; under = under; name = own; thread = thread; text = text; saying = saying }) ∷ [];
    }
    → new ≡ with_line old number name thread words saying
add_is old locked flagged opened new number under name own thread text words saying stands named written one two three is =
    let noted : opened ≡ with_block_of (with_flag_of (with_lock_of old words) words) thread number words =
    three ∙ ap (λ reading. with_block_of reading thread number words) (two ∙ ap (λ reading. with_flag_of reading words) one) in
    is ∙ (λ i. record (noted i) {
      lines = (noted i).lines
          ++ (record { number = number; under = stands i; name = named i; thread = thread; text = written i; saying = saying }) ∷ [];
    })

pub lock_added : (old new : Reading) (words : List (List ℕ))
    → (is_lock_word (word_at 0 words) && not (list_any (λ own. bytes_eq own (word_at 1 words)) old.locks)) ≡ true
    → new ≡ record old { locks = old.locks ++ word_at 1 words ∷ [] } → new ≡ with_lock_of old words
lock_added old new words new_one is =
    is ∙ sym (λ i. record old { locks = cond (new_one i) (old.locks ++ word_at 1 words ∷ []) old.locks })

pub lock_known : (old : Reading) (words : List (List ℕ))
    → (is_lock_word (word_at 0 words) && not (list_any (λ own. bytes_eq own (word_at 1 words)) old.locks)) ≡ false
    → old ≡ with_lock_of old words
lock_known old words known = sym (λ i. record old { locks = cond (known i) (old.locks ++ word_at 1 words ∷ []) old.locks })
