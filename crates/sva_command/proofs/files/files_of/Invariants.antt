use Rattle.std.proofs.Common.{◌≡◌, ◌++◌, drop}
use Rattle.sva_command.specs.Command.{texts}
use Rattle.sva_command.specs.Files.{every, files_of}
use Rattle.sva_command.proofs.files.files_of.Given as goal

-- the files so far, and those of the names that are left
abbrev pub invariant-loop-place : goal.invariant-loop-place
invariant-loop-place l =
    texts l.list.items ++ every l.part.count l.before (texts (drop l.place l.names)) ≡ files_of l.part (texts l.names)
