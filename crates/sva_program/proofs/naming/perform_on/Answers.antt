use Rattle.std.proofs.Common.{subst}
use Rattle.sva_streams.specs.Streams.{AppendsProperPrefix}
use Rattle.sva_program.proofs.NameLemmas.{told_part}
use Rattle.sva_program.proofs.naming.perform_on.Goals as goal

pub returns-in-Ok-clause-run : goal.returns-in-Ok-clause-run
returns-in-Ok-clause-run g c =
    let old = g.W.Write.contents c.args.writer.now.inner in
    let new = g.W.Write.contents c.write_all.new.writer.inner in
    told_part c.args.asked c.args.name.now c.args.text.now c.in-Ok.told.items old new c.in-Ok.ending c.in-Err-write_all.fault c.in-Ok.ensures
    c.in-Err-write_all.ensures.err.0 (subst (AppendsProperPrefix old new) c.as_slice.ensures.value c.in-Err-write_all.ensures.front)
