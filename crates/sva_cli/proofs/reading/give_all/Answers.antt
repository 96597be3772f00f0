use Rattle.sva_cli.proofs.ReadLemmas.{one_more}
use Rattle.sva_cli.proofs.reading.give_all.Goals as goal

pub loop-place-preserved : goal.loop-place-preserved
loop-place-preserved g c =
    one_more (g.S.Opens.opened c.args.opens.now) g.S.File.Read.remaining (g.S.Opens.fails c.args.opens.now) c.args.standard.now c.args.names.now
    c.loop-place.place c.index-names-place.result c.as_str.result.now c.loop-place.all.items c.push.new.self.items c.in_ok-given.given c.loop-place-test.true
    c.index-names-place.is c.as_str.ensures.value c.loop-place.invariant c.in_ok-given.ensures c.in_ok-push.ensures.items
