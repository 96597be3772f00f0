use Rattle.std.proofs.Common.{◌≡◌, vec_len}
use Rattle.sva_program.proofs.storming.idlers.Given as goal

-- one is there for each turn of the loop
abbrev pub invariant-loop : goal.invariant-loop
invariant-loop l = record { made : vec_len l.all ≡ l.counter }
