use Rattle.std.proofs.Common.{◌≡◌, IfOk, rules, subst, sym, true, false}
use Rattle.sva_cli.specs.Inputs.{is_input}
use Rattle.sva_cli.specs.Reading.{IsReadBy}
use Rattle.sva_cli.proofs.reading.read_one.Goals as goal

pub returns-then-is_input : goal.returns-then-is_input
returns-then-is_input g c =
    let it : is_input c.args.name.now ≡ true = search rules in
    subst (λ is. IfOk c.read_stream.result (IsReadBy (g.S.Opens.opened c.args.opens.now) g.S.File.Read.remaining (g.S.Opens.fails c.args.opens.now)
    (g.I.Read.remaining c.args.input.now.inner) c.args.name.now is)) (sym it) c.read_stream.ensures

pub returns-else-is_input : goal.returns-else-is_input
returns-else-is_input g c =
    let other : is_input c.args.name.now ≡ false = search rules in
    subst (λ is. IfOk c.read_file.result (IsReadBy (g.S.Opens.opened c.args.opens.now) g.S.File.Read.remaining (g.S.Opens.fails c.args.opens.now)
    (g.I.Read.remaining c.args.input.now.inner) c.args.name.now is)) (sym other) c.read_file.ensures
