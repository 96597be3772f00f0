-- What is known of a chart, from what is known of the rows that were kept.
use Rattle.std.proofs.Common.{◌≡◌, ap, refl, subst, sym, take, ℕ, List, [], append-nil, Option, Some, None, IfSome, Result, Ok, Err, OnOk}
use Rattle.std.specs.Io.KnownBytes.{Appends}
use Rattle.sva_charts.specs.Charts.{Charts, IsChart}
use Rattle.sva_streams.specs.declared.streams.DriveFault.{DriveFault}
use Rattle.sva_streams.specs.declared.streams.Outcome.{Outcome}
use Rattle.sva_streams.specs.declared.streams.Outcome.TheVariants.{Done, Faulted}
use Rattle.sva_script_reading.specs.Said.{IsSaid, Prints, Said, well}
use Rattle.sva_script_reports.specs.Shows.{show_of}
use Rattle.sva_script_reports.specs.declared.printing.Saying.TheVariants.{Show}
use Rattle.sva_script_reports.proofs.FrontLemmas.{kept_print}

-- a line is wrong
pub stopped : (shown : Said) (out : List ℕ) → IsSaid shown out (Ok Faulted) → (shown.outcome ≡ Faulted) × (out ≡ shown.text)
stopped shown out said = (sym said.0, said.1)

-- all lines were taken
pub all_kept : (shown : Said) (listing out : List ℕ) → shown ≡ well listing → out ≡ [] → (shown.outcome ≡ Done) × (out ≡ [])
all_kept shown listing out is none = (ap (λ said. said.outcome) is, none)

-- more than the first 1,048,577 bytes of a script don't matter
front_shown : (input kept text : List ℕ) → text ≡ kept → kept ≡ take 1048577 input → show_of text ≡ show_of input
front_shown input kept text e h =
    let same = kept_print (λ wire step reply. []) Show (Some input) (Some []) (Some (show_of text).text) kept text (Ok (show_of text).outcome) e h
    (refl, refl) in
    λ i. record { text = same.0 i; outcome = same.1 i }

pub kept_chart : (known old new : Option (List ℕ)) (kept text : List ℕ) (result : Result Outcome DriveFault)
    → text ≡ kept → IfSome known (λ input. kept ≡ take 1048577 input) → Charts text old new result
    → IfSome known (λ input. Charts input old new result)
kept_chart None old new kept text result e h charts = tt
kept_chart (Some input) old new kept text result e h charts =
    subst (λ shown. (said : Said) × IsChart shown said × Prints said old new result) (front_shown input kept text e h) charts

nothing_appended : (old : Option (List ℕ)) → Appends old old []
nothing_appended None = tt
nothing_appended (Some bytes) = sym (append-nil bytes)

-- where nothing was read, nothing is written
pub unread : (known old : Option (List ℕ)) (result : Result Outcome DriveFault) → OnOk result ⊥ → IfSome known (λ input. Charts input old old result)
unread known old (Ok outcome) none = absurd none
unread None old (Err fault) none = tt
unread (Some input) old (Err fault) none =
    (show_of input, (refl, λ wrong. refl), (([], (show_of input).text, refl, nothing_appended old), tt))
