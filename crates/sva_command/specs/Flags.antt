-- What adding flags to a command leaves of it.
use Rattle.std.specs.Prelude.{◌≡◌, codes, false}
use Rattle.clap.specs.Words.{AddsArg, Text, rule_of}
use Rattle.clap.specs.declared.builder.arg.Arg.{Arg}
use Rattle.clap.specs.declared.builder.command.Command.{Command}
use Rattle.sva_command.specs.Command.{flag_rule}

-- it takes one flag more, which is its own and not that of the commands below it
abbrev pub AddsFlag : Text → Command → Command → Type 0
AddsFlag name old new = (arg : Arg) × AddsArg old arg new × (rule_of arg ≡ flag_rule name) × (arg.global ≡ false)

-- `judge` takes the flags that ask something beside its verdict
abbrev pub AddsBeside : Command → Command → Type 0
AddsBeside old new =
    (one : Command) × (two : Command) × AddsFlag (codes "needed") old one × AddsFlag (codes "platforms") one two × AddsFlag (codes "chart") two new

-- and those that say what is told of drivers
abbrev pub AddsTelling : Command → Command → Type 0
AddsTelling old new = (one : Command) × AddsFlag (codes "all") old one × AddsBeside one new
