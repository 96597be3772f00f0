use Rattle.std.proofs.Common.{None, sym, ap, ◌∙◌, set}
use Rattle.std.proofs.lemmas.List.{set-get_or}
use Rattle.std.proofs.lemmas.Option.{get_or_from_slice_get}
use Rattle.sva_frames.proofs.lane.Lane.enter.Goals as goal

pub returns-in-None-clause-after : goal.returns-in-None-clause-after
returns-in-None-clause-after c =
    sym (set-get_or c.args.self.now c.args.frame None)
    ∙ ap (set c.args.self.now c.args.frame) (get_or_from_slice_get c.args.self.now c.args.frame None None c.requires.here ∙ sym c.in-None.is)
