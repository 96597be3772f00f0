use Rattle.std.proofs.Common.{◌∙◌}
use Rattle.clap.specs.Words.{found_of}
use Rattle.sva_command.proofs.ReadLemmas.{most_read}
use Rattle.sva_command.proofs.command.most.Goals as goal

pub returns : goal.returns
returns c =
    c.within.ensures ∙ most_read (found_of c.args.explore.now) c.get_one.result c.get_one.ensures.none c.get_one.ensures.value
