-- What is written of several texts.
use Rattle.std.proofs.Common.{◌≡◌, ◌∙◌, ◌++◌, ℕ, List, Option, Ok, ap, append_assoc, subst, sym}
use Rattle.std.specs.Global.{Global}
use Rattle.std.specs.Prelude.{OnOk, Result, String, Err}
use Rattle.std.specs.declared.alloc.AllocError.{AllocError}
use Rattle.sva_streams.specs.declared.streams.DriveFault.{DriveFault}
use Rattle.sva_streams.specs.declared.streams.DriveFault.TheVariants.{Write}
use Rattle.sva_streams.specs.Streams.{AppendsProperPrefix}
use Rattle.sva_several.specs.declared.driving.Wanted.{Wanted}
use Rattle.sva_several.specs.declared.given.Given.{Given}
use Rattle.sva_several.specs.Told.{IsReport, TellsAll}

-- a part of it was
pub told_part : (wanted : Wanted) (names : List (String Global)) (texts : List Given) (old new : Option (List ℕ)) (out : List ℕ)
    (status : ℕ) (fault : DriveFault) → IsReport wanted names texts out status → fault ≡ Write → AppendsProperPrefix old new out
    → TellsAll wanted names texts old new (Err fault)
told_part wanted names texts old new out status fault reports is part =
    subst (λ f. TellsAll wanted names texts old new (Err f)) (sym is) (out, status, reports, (part.0, part.1, part.2, part.3))

-- a line of four pieces was written, if the last one was
pub four_pieces : {A : Type 0} (result : Result A AllocError) (old first second third new one two three four : List ℕ) → first ≡ old ++ one
    → second ≡ first ++ two → third ≡ second ++ three → OnOk result (new ≡ third ++ four) → OnOk result (new ≡ old ++ (((one ++ two) ++ three) ++ four))
four_pieces (Ok value) old first second third new one two three four h i j k =
    k ∙ ap (λ l. l ++ four) (j ∙ ap (λ l. l ++ three) (i ∙ ap (λ l. l ++ two) h))
    ∙ ap (λ l. (l ++ three) ++ four) (append_assoc old one two) ∙ ap (λ l. l ++ four) (append_assoc old (one ++ two) three)
    ∙ append_assoc old ((one ++ two) ++ three) four
four_pieces (Err fault) old first second third new one two three four h i j k = k
