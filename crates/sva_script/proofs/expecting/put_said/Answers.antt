use Rattle.sva_script.specs.Expect.{said_word}
use Rattle.sva_script.proofs.PieceLemmas.{puts_spaced}
use Rattle.sva_script.proofs.expecting.put_said.Goals as goal

pub returns-in-Ok : goal.returns-in-Ok
returns-in-Ok c =
    puts_spaced (said_word c.args.at c.args.names.now c.args.place c.args.word.now) c.args.out.now.items c.put.new.out.items
    c.put_said_word.new.out.items c.put_said_word.result c.in-Ok.ensures c.put_said_word.ensures
