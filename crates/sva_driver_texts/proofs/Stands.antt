-- Where the lines before `race` lead, by what calls make of them.
use Rattle.std.proofs.Common.{◌≡◌, ◌∙◌, ap, refl, subst, sym, ℕ, List, [], ◌++◌, true, false}
use Rattle.std.specs.Prelude.{IfOk, Some, None, Result, Ok, Err}
use Rattle.std.specs.declared.alloc.AllocError.{AllocError}
use Rattle.sva_judge.specs.Spots.{Spot}
use Rattle.sva_open_safe.specs.declared.wrongs.Wrong.{Wrong}
use Rattle.sva_driver_texts.specs.declared.kept.Begun.{Begun}
use Rattle.sva_driver_texts.specs.declared.kept.Begun.TheVariants as begun
use Rattle.sva_driver_texts.specs.declared.kept.Halt.{Halt}
use Rattle.sva_driver_texts.specs.declared.kept.Halt.TheVariants as halt
use Rattle.sva_driver_texts.specs.declared.kept.Read.{Read}
use Rattle.sva_driver_texts.specs.declared.kept.Text.{Text}
use Rattle.sva_driver_texts.specs.Texts.{DriverRead, IsText, ReadsDriver, ReadsText, StandsAt, StandsBy, behind_first, race_missing, refused_at}

pub missing : (read : Read) (out new : List ℕ) → read.is_race ≡ false → out ≡ [] → new ≡ out ++ race_missing read
    → StandsBy read read.is_race begun.Faulted new
missing read out new lacks none is =
    subst (λ b. StandsBy read b begun.Faulted new) (sym lacks) (refl, is ∙ ap (λ l. l ++ race_missing read) none)

by_lines : (read : Read) (led : Result Spot Halt) (to : Begun) (out : List ℕ) → read.is_race ≡ true
    → behind_first read.opening read.before ≡ led → StandsAt read led to out → StandsBy read read.is_race to out
by_lines read led to out has leads so =
    subst (λ b. StandsBy read b to out) (sym has) (subst (λ by. StandsAt read by to out) (sym leads) so)

pub stands : (read : Read) (spot : Spot) (text : Text) (out : List ℕ) → read.is_race ≡ true → Ok spot ≡ behind_first read.opening read.before
    → IsText read text → out ≡ [] → StandsBy read read.is_race (begun.Stands text) out
stands read spot text out has leads is none = by_lines read (Ok spot) (begun.Stands text) out has (sym leads) (is, none)

pub refused : (read : Read) (place : ℕ) (out new : List ℕ) → read.is_race ≡ true
    → Err (halt.Refused place) ≡ behind_first read.opening read.before → out ≡ [] → new ≡ out ++ refused_at read place
    → StandsBy read read.is_race begun.Faulted new
refused read place out new has leads none is =
    by_lines read (Err (halt.Refused place)) begun.Faulted new has (sym leads) (is ∙ ap (λ l. l ++ refused_at read place) none)

pub leaks : (read : Read) (number : ℕ) (found : Wrong) (out : List ℕ) → read.is_race ≡ true
    → Err (halt.Leaks number found) ≡ behind_first read.opening read.before → out ≡ []
    → StandsBy read read.is_race (begun.Leaks number found) out
leaks read number found out has leads none =
    by_lines read (Err (halt.Leaks number found)) (begun.Leaks number found) out has (sym leads) (refl, none)

-- ---- The whole

pub unread : (read : Result DriverRead (List ℕ)) (out : List ℕ) → ReadsText read None out → ReadsDriver read begun.Faulted out
unread (Ok read) out reads = absurd reads
unread (Err said) out reads = (refl, reads)

pub nothing_said : (read : Result DriverRead (List ℕ)) (kept : Read) (out : List ℕ) → ReadsText read (Some kept) out → out ≡ []
nothing_said (Ok read) kept out reads = reads.1
nothing_said (Err said) kept out reads = absurd reads

pub whole : (read : Result DriverRead (List ℕ)) (kept : Read) (mid new : List ℕ) (result : Result Begun AllocError)
    → ReadsText read (Some kept) mid → IfOk result (λ to. StandsBy kept kept.is_race to new)
    → IfOk result (λ to. ReadsDriver read to new)
whole (Ok read) kept mid new (Ok to) reads so = (kept, reads.0, so)
whole (Ok read) kept mid new (Err lack) reads so = tt
whole (Err said) kept mid new result reads so = absurd reads
