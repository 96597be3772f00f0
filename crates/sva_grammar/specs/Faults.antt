-- The texts of line faults and of want of memory, which are this project's own.
use Rattle.std.specs.Prelude.{ℕ, List, ◌++◌, codes, decimal}
use Rattle.sva_grammar.specs.declared.faults.Cause.{Cause}
use Rattle.sva_grammar.specs.declared.faults.Cause.TheVariants.{NoConfig, UnknownStep, WordCount, BadWord, TooLarge}
use Rattle.sva_grammar.specs.declared.faults.LineFault.{LineFault}
use Rattle.sva_grammar.specs.declared.faults.ParseFault.{ParseFault}
use Rattle.sva_grammar.specs.declared.faults.ParseFault.TheVariants.{Line, Memory}

-- the name of a cause, as the text of a line fault has it
abbrev pub cause_name : Cause → List ℕ
cause_name NoConfig = codes "NoConfig"
cause_name UnknownStep = codes "UnknownStep"
cause_name WordCount = codes "WordCount"
cause_name BadWord = codes "BadWord"
cause_name TooLarge = codes "TooLarge"

-- `line L Cause`, with no line end
abbrev pub line_fault_text : LineFault → List ℕ
line_fault_text fault = codes "line " ++ decimal fault.line ++ codes " " ++ cause_name fault.cause

-- a line fault's own text, or that memory ran out
abbrev pub parse_fault_text : ParseFault → List ℕ
parse_fault_text (Line fault) = line_fault_text fault
parse_fault_text Memory = codes "out of memory"
