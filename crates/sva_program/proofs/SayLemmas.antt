-- A text is said: all of it where no call failed, and else a prefix of it.
use Rattle.std.proofs.Common.{arith, append-nil, ◌≡◌, ◌+◌, ℕ, List, [], Option, Result, Ok, Err, OnOk, IfErr}
use Rattle.std.specs.Io.KnownBytes.{Appends}
use Rattle.sva_streams.specs.Streams.{AppendsProperPrefix, Stream}
use Rattle.sva_streams.specs.declared.streams.DriveFault.{DriveFault}
use Rattle.sva_program.specs.Run.{Says}

pub says : {T : Type 0} (contents : T → Option (List ℕ)) (old new : Stream T) (text : List ℕ) (r : Result (Unit {0}) DriveFault)
    → OnOk r (Appends (contents old.inner) (contents new.inner) text)
    → OnOk r (new.failures ≡ old.failures)
    → IfErr r (λ fault. new.failures ≡ old.failures + 1)
    → IfErr r (λ fault. AppendsProperPrefix (contents old.inner) (contents new.inner) text)
    → Says contents old new text
says contents old new text (Ok _) whole kept failed front = ((text, [], append-nil text, whole), λ same. whole, omega (arith, kept), omega (arith, kept))
says contents old new text (Err fault) whole kept failed front = (
  (front.0, front.1, front.2, front.3),
  λ same. absurd (omega (arith, same, failed)),
  omega (arith, failed),
  omega (arith, failed),
)
