use Rattle.std.proofs.Common.{get_or, refl}
use Rattle.sva_several.proofs.Walks.{named_end, named_next}
use Rattle.sva_several.proofs.naming.put_named.Goals as goal

pub loop-place-preserved : goal.loop-place-preserved
loop-place-preserved c =
    let text = c.args.text.now in
    named_next c.args.name.now text c.loop-place.place (get_or text c.loop-place.place 0) c.loop-place.begins _ c.loop-place.out.items c.put_name.new.out.items
    c.push.new.self.items _ c.loop-place-test.true refl c.in_ok-put_name.ensures c.in_ok-push.ensures.items refl c.loop-place.invariant

pub returns : goal.returns
returns c =
    named_end c.args.name.now c.args.text.now c.loop-place.place c.loop-place.begins c.loop-place.out.items _ c.loop-place-test.false c.loop-place.invariant
