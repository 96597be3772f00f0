use Rattle.std.proofs.Common.{◌∙◌}
use Rattle.clap.specs.Words.{found_of}
use Rattle.sva_command.proofs.ReadLemmas.{turns_read}
use Rattle.sva_command.proofs.command.turns.Goals as goal

pub returns : goal.returns
returns c written =
    c.unwrap_or.ensures ∙ turns_read (found_of c.args.storm.now) c.get_one.result c.get_one.ensures.none c.get_one.ensures.value written
