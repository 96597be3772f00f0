-- What is turned on or off at an endpoint: `ats E on`, `pri E on`, `mastering E on`, and the same with `off`.
use Rattle.std.specs.Prelude.{ℕ, ◌||◌, if◌then◌else◌, Bool, List, codes, Result, Ok}
use Rattle.std.specs.Str.{bytes_eq}
use Rattle.sva_step.specs.declared.limits.Config.{Config}
use Rattle.sva_grammar.specs.Grammar.{◌>>=◌}
use Rattle.sva_open.specs.declared.acts.Control.{Control}
use Rattle.sva_open.specs.declared.acts.Control.TheVariants as control
use Rattle.sva_open.specs.declared.acts.LocalAct.TheVariants as local
use Rattle.sva_race_texts.specs.Words.{word_at}
use Rattle.sva_driver_words.specs.Faults.{no_more}
use Rattle.sva_driver_words.specs.Fields.{endpoint_at, on_at}
use Rattle.sva_driver_words.specs.Sayings.{SayingSaid, did}
use Rattle.sva_driver_words.specs.declared.faults.DriverWrong.{DriverWrong}

abbrev pub turns : (word : List ℕ) → Bool
turns word = bytes_eq word (codes "ats") || bytes_eq word (codes "pri") || bytes_eq word (codes "mastering")

abbrev pub control_of : (word : List ℕ) → Control
control_of word =
    if bytes_eq word (codes "ats") then control.Ats else
    if bytes_eq word (codes "pri") then control.PageRequests else
    control.Mastering

abbrev pub turn_line : Config → List (List ℕ) → Result SayingSaid DriverWrong
turn_line config words = do
  endpoint ← endpoint_at config 1 words
  on ← on_at 2 words
  _ ← no_more 3 words
  Ok (did endpoint (local.Turn (control_of (word_at 0 words)) on))
