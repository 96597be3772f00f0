use Rattle.std.proofs.Common.{◌∙◌, ◌++◌, ap, append-nil, sym}
use Rattle.sva_snapshot.proofs.explaining.explain.Goals as goal

pub returns-else-is_held : goal.returns-else-is_held
returns-else-is_held g c =
    let old = c.args.out.now.items in
    sym (append-nil old)
    ∙ ap (λ said. old ++ said)
    (sym (g.met.E.Explains.silent c.args.world.now c.args.step.now c.args.reply.now (sym c.is_held.ensures ∙ c.if-is_held.false)))
