use Rattle.std.proofs.Common.{subst}
use Rattle.sva_streams.specs.Streams.{AppendsProperPrefix}
use Rattle.sva_several.proofs.Tellings.{told_part}
use Rattle.sva_several.proofs.driving.tell_all.Goals as goal

pub returns-in-Ok-clause-told : goal.returns-in-Ok-clause-told
returns-in-Ok-clause-told g c =
    let old = g.W.Write.contents c.args.writer.now.inner in
    let new = g.W.Write.contents c.write_all.new.writer.inner in
    told_part c.args.wanted c.args.names.now c.args.texts.now old new c.in-Ok.out.items c.in-Ok.status c.in-Err-write_all.fault
    c.in-Ok.ensures c.in-Err-write_all.ensures.err.0 (subst (AppendsProperPrefix old new) c.as_slice.ensures.value c.in-Err-write_all.ensures.front)
