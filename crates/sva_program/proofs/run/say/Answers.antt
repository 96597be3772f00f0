use Rattle.std.proofs.Common.{rules}
use Rattle.std.proofs.lemmas.Result.{IfErr-weaker}
use Rattle.sva_program.proofs.SayLemmas.{says}
use Rattle.sva_program.proofs.run.say.Goals as goal

pub returns : goal.returns
returns g c = says g.E.Write.contents c.args.errors.now c.write_all.new.writer c.args.text.now c.write_all.result
    (search rules) (search rules) (IfErr-weaker c.write_all.result _ _ (λ fault h. h.1) c.write_all.ensures.err) (search rules)
