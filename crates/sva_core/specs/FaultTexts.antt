-- The texts of the faults of a call, which are this project's own.
use Rattle.std.specs.Prelude.{ℕ, List, ◌++◌, codes, decimal}
use Rattle.sva_core.specs.declared.running.StepFault.{StepFault}
use Rattle.sva_core.specs.declared.running.StepFault.TheVariants.{Memory, Strayed}
use Rattle.sva_core.specs.declared.running.Strayed.{Strayed as StrayedPort}

-- where a receipt doesn't stand
abbrev pub strayed_text : StrayedPort → List ℕ
strayed_text strayed = codes "the port's last receipt doesn't stand in the journal at place " ++ decimal strayed.place

-- why a call was not answered
abbrev pub step_fault_text : StepFault → List ℕ
step_fault_text Memory = codes "out of memory"
step_fault_text (Strayed strayed) = strayed_text strayed
