-- The words of a step, by what they are read as.
use Rattle.std.proofs.Common.{◌≡◌, ap, refl, sym, ℕ, List, true, cond}
use Rattle.std.specs.Prelude.{Option, None, Result, Ok, Err}
use Rattle.sva_step.specs.declared.steps.Step.{Step}
use Rattle.sva_script.specs.declared.faults.Stop.TheVariants as script
use Rattle.sva_script.specs.declared.faults.Wanted.TheVariants as wants
use Rattle.sva_script.specs.declared.faults.Wrong.{Wrong}
use Rattle.sva_script.specs.Lines.{parts_of}
use Rattle.sva_script.specs.Names.{Known}
use Rattle.sva_script_reading.specs.Lines.{LineRead, Reads, line_read}
use Rattle.sva_script_reading.specs.Messages.{link_of}
use Rattle.sva_race_texts.specs.declared.faults.RaceWanted.TheVariants as wanted
use Rattle.sva_race_texts.specs.Faults.{as_script, wrong_at}
use Rattle.sva_race_texts.specs.Words.{word_at}
use Rattle.sva_race_texts.specs.Steps.{is_step, judged, step_judged}

pub step_by : (at : ℕ) (known : Known) (words : List (List ℕ)) → is_step (word_at 0 words) ≡ true
    → step_judged at known words ≡ judged at (line_read known (link_of None) (parts_of words))
step_by at known words it =
    ap (λ b. cond b (judged at (line_read known (link_of None) (parts_of words))) (wrong_at at (wanted.Script wants.Step))) it

pub judged_right : (at : ℕ) (read : Result LineRead Wrong) (plain expected : List ℕ) (step : Option Step) → Reads read plain expected (Ok step)
    → judged at read ≡ Ok tt
judged_right at (Ok read) plain expected step reads = refl
judged_right at (Err wrong) plain expected step reads = absurd reads

pub judged_wrong : (at : ℕ) (read : Result LineRead Wrong) (plain expected : List ℕ) (found : Wrong)
    → Reads read plain expected (Err (script.Wrong found)) → judged at read ≡ as_script at found
judged_wrong at (Ok read) plain expected found reads = absurd reads
judged_wrong at (Err wrong) plain expected found reads = ap (λ w. judged at (Err w)) (sym reads)
