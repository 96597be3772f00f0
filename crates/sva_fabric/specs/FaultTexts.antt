-- The texts of the faults of a call with a token and of an audit, which are this project's own.
use Rattle.std.specs.Prelude.{ℕ, List, ◌++◌, codes, decimal}
use Rattle.sva_step.specs.Refusals.{refusal_text}
use Rattle.sva_core.specs.FaultTexts.{strayed_text}
use Rattle.sva_fabric.specs.declared.audits.FirstBadReceipt.{FirstBadReceipt}
use Rattle.sva_fabric.specs.declared.faults.Fault.{Fault}
use Rattle.sva_fabric.specs.declared.faults.Fault.TheVariants.{Refused, Memory, Strayed}

-- why a call made, moved or spent no token: a refusal as a report has it, want of memory, or where the port's receipt doesn't stand
abbrev pub fault_text : Fault → List ℕ
fault_text (Refused refusal) = refusal_text refusal
fault_text Memory = codes "out of memory"
fault_text (Strayed strayed) = strayed_text strayed

-- where an audit finds the first receipt that doesn't stand, or calls or tokens that don't add up
abbrev pub bad_receipt_text : FirstBadReceipt → List ℕ
bad_receipt_text bad = codes "the audit is bad at port " ++ decimal bad.port ++ codes ", place " ++ decimal bad.place
