-- A command on the text of a file.
use Rattle.std.proofs.Common.{◌≡◌, refl, subst, sym, ℕ, List, [], Option, Some, Ok, Err, Result}
use Rattle.std.specs.declared.alloc.AllocError.{AllocError}
use Rattle.sva_streams.specs.declared.streams.DriveFault.{DriveFault}
use Rattle.sva_streams.specs.declared.streams.DriveFault.TheVariants.{Write}
use Rattle.sva_streams.specs.Streams.{AppendsProperPrefix}
use Rattle.sva_command.specs.declared.command.Asked.{Asked}
use Rattle.sva_program.specs.Run.{Reports, RunsOnText, TextBy, kept_of, told_on}
use Rattle.sva_program.specs.declared.run.Ending.{Ending}

-- what was kept is how it ended
kept_ok : (ended : Result Ending DriveFault) (ending : Ending) → kept_of ended ≡ Ok ending → ended ≡ Ok ending
kept_ok (Ok other) ending is = cc is
kept_ok (Err fault) ending is = absurd (cc is)

-- what the command says of a text that is read from it, into a buffer
pub text_made : (asked : Asked) (name text said told input old : List ℕ) (ended : Result Ending DriveFault) (ending : Ending) → input ≡ text → old ≡ []
    → kept_of ended ≡ Ok ending → Reports asked (Some input) (Some old) (Some said) ended → told ≡ told_on asked name text ending said
    → TextBy asked name text told ending
text_made asked name text said told input old ended ending reads begins kept report tells =
    let one = subst (λ input. Reports asked (Some input) (Some old) (Some said) ended) reads report in
    let two = subst (λ old. Reports asked (Some text) (Some old) (Some said) ended) begins one in
    (said, subst (λ ended. Reports asked (Some text) (Some []) (Some said) ended) (kept_ok ended ending kept) two, tells)

-- a part of it was written
pub told_part : (asked : Asked) (name text told : List ℕ) (old new : Option (List ℕ)) (ending : Ending) (fault : DriveFault)
    → TextBy asked name text told ending → fault ≡ Write → AppendsProperPrefix old new told → RunsOnText asked name text old new (Err fault)
told_part asked name text told old new ending fault made is part =
    subst (λ f. RunsOnText asked name text old new (Err f)) (sym is) (told, ending, made, (part.0, part.1, part.2, part.3))
