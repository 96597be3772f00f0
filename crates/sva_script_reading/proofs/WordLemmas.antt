-- A line that is read before the run, and is wrong.
use Rattle.std.proofs.Common.{◌≡◌, ◌∙◌, ap, subst, sym, ℕ, Bool, false, List, [], ◌∷◌, ◌++◌, append-nil}
use Rattle.std.specs.Prelude.{None, Result, Ok, Err}
use Rattle.sva_script.specs.declared.faults.Stop.TheVariants as stop
use Rattle.sva_script.specs.declared.faults.Wrong.{Wrong}
use Rattle.sva_script.specs.Lines.{parts_of}
use Rattle.sva_script.specs.Names.{Known}
use Rattle.sva_script_reading.specs.Lines.{LineRead, Reads, line_read}
use Rattle.sva_script_reading.specs.Messages.{link_of}
use Rattle.sva_script_reading.specs.Begins.{fault_of, faults_read, noted}
use Rattle.sva_script_reading.specs.Faults.{Fault, fault_text}
use Rattle.sva_script_reading.specs.Reading.{ReadsWords}

read_failed : (known : Known) (line : ℕ) (words : List (List ℕ)) (read : Result LineRead Wrong) (text expected : List ℕ) (wrong : Wrong)
    → Reads read text expected (Err (stop.Wrong wrong)) → (rest : Known → Bool → List Fault)
    → faults_read known line words rest read ≡ fault_of known line words wrong ∷ rest (noted known line (parts_of words).name) false
read_failed known line words (Ok read) text expected wrong reads rest = absurd reads
read_failed known line words (Err found) text expected wrong reads rest =
    ap (λ w. fault_of known line words w ∷ rest (noted known line (parts_of words).name) false) (sym reads)

pub words_failed : (known : Known) (line : ℕ) (words given : List (List ℕ)) (text expected before after : List ℕ) (wrong : Wrong) → given ≡ words
    → Reads (line_read known (link_of None) (parts_of given)) text expected (Err (stop.Wrong wrong))
    → after ≡ before ++ fault_text (fault_of known line given wrong)
    → ReadsWords known line words (noted known line (parts_of words).name) false before after
words_failed known line words given text expected before after wrong same reads is =
    subst (λ ws. ReadsWords known line ws (noted known line (parts_of ws).name) false before after) same (
      fault_of known line given wrong ∷ [],
      λ rest. read_failed known line given (line_read known (link_of None) (parts_of given)) text expected wrong reads rest,
      is ∙ ap (λ l. before ++ l) (sym (append-nil (fault_text (fault_of known line given wrong)))),
    )
