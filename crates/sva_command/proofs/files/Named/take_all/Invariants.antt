use Rattle.std.proofs.Common.{◌≡◌, drop}
use Rattle.sva_command.specs.Command.{texts}
use Rattle.sva_command.specs.Files.{with_words}
use Rattle.sva_command.proofs.files.Named.take_all.Given as goal

-- the words so far, with those that are left
abbrev pub invariant-loop-place : goal.invariant-loop-place
invariant-loop-place l = with_words l.self (texts (drop l.place l.words)) ≡ with_words l.initial.self (texts l.words)
