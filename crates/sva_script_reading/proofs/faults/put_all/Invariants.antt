use Rattle.std.proofs.Common.{◌≡◌, ◌++◌, drop}
use Rattle.std.specs.Prelude.{flat_map}
use Rattle.sva_script_reading.specs.Faults.{shown_byte}
use Rattle.sva_script_reading.proofs.faults.put_all.Given as goal

-- what was appended and what is left are the whole
abbrev pub invariant-loop-byte : goal.invariant-loop-byte
invariant-loop-byte l = l.out.items ++ flat_map shown_byte (drop l.byte-index l.bytes) ≡ l.initial.out.items ++ flat_map shown_byte l.bytes
