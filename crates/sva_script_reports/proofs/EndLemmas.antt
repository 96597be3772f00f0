-- What `test` says of a line behind the last one.
use Rattle.std.proofs.Common.{◌≡◌, ◌∙◌, refl, sym, ℕ, Bool, cond, false, true, List, [], ◌∷◌, ◌++◌, append-nil, ap}
use Rattle.std.specs.Prelude.{Ok}
use Rattle.sva_snapshot.specs.Explaining.{Explaining}
use Rattle.sva_script.specs.declared.faults.Wanted.TheVariants as wanted
use Rattle.sva_script.specs.declared.faults.Wrong.{Wrong}
use Rattle.sva_script.specs.Names.{Known}
use Rattle.sva_script_runs.specs.Runs.{Running}
use Rattle.sva_script_reading.specs.Begins.{at_word, fault_of}
use Rattle.sva_script_reading.specs.Faults.{fault_text}
use Rattle.sva_script_reading.specs.Said.{faulty}
use Rattle.sva_script_reports.specs.Lines.{ComparesWords}
use Rattle.sva_script_reports.specs.declared.testing.Compared.TheVariants.{Differs}
use Rattle.sva_script_reports.specs.Scripts.{At, past_config, test_step}

-- a line behind the last one is told, and ends the run
pub told_behind_end : (explained : Explaining) (run : Running) (line : ℕ) (words given : List (List ℕ)) (known : Known) (wrong : Wrong)
    (is_config was_past is_past : Bool) (after : At)
    (old new : List ℕ) → is_config ≡ false → was_past ≡ true → (words ≡ [] → ⊥) → given ≡ words → known ≡ run.known → wrong ≡ at_word 0 wanted.NoLine
    → new ≡ old ++ fault_text (fault_of known line given wrong)
    → ComparesWords explained (record { is_config = is_config; running = run }) was_past line words old new is_past after (Ok Differs)
told_behind_end explained run line [] given known wrong is_config was_past is_past after old new step past some same is kind told = absurd (some refl)
told_behind_end explained run line (word ∷ words) given known wrong is_config was_past is_past after old new step past some same is kind told =
    let fault = fault_of run.known line (word ∷ words) (at_word 0 wanted.NoLine) in
    let at : At = record { is_config = is_config; running = run } in (
      faulty (fault ∷ []),
      refl,
      told ∙ (λ i. old ++ fault_text (fault_of (is i) line (same i) (kind i))) ∙ ap (λ l. old ++ l) (sym (append-nil (fault_text fault))),
      λ text count rest.
          ap (λ b. cond b (rest count was_past (past_config at)) (cond was_past (faulty (fault ∷ []))
          (test_step explained run line (word ∷ words) count rest))) step
          ∙ ap (λ b. cond b (faulty (fault ∷ [])) (test_step explained run line (word ∷ words) count rest)) past,
    )
