use Rattle.std.proofs.Common.{◌≡◌, ◌+◌, ◌≤◌, drop}
use Rattle.sva_command.specs.Command.{texts}
use Rattle.sva_cli.specs.Inputs.{inputs_in}
use Rattle.sva_cli.proofs.inputs.inputs_in.Given as goal

-- those so far, and those that are left
abbrev pub invariant-loop-place : goal.invariant-loop-place
invariant-loop-place l = record {
  counted : l.count + inputs_in (texts (drop l.place l.names)) ≡ inputs_in (texts l.names);
  few : l.count ≤ l.place;
}
