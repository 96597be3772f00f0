use Rattle.std.proofs.Common.{refl}
use Rattle.sva_several.proofs.Slots.{one_put}
use Rattle.sva_several.proofs.working.put_one.Goals as goal

pub returns : goal.returns
returns c =
    one_put c.args.search c.args.jobs c.args.texts.now c.args.slots.now _ c.args.answer c.requires.slots c.requires.answer refl
