use Rattle.std.proofs.Common.{◌≡◌, IfOk, rules, subst, sym, true}
use Rattle.sva_cli.specs.Reading.{IsStandard, names_input}
use Rattle.sva_cli.proofs.reading.read_input.Goals as goal

pub returns-then-names_input : goal.returns-then-names_input
returns-then-names_input g c =
    let it : names_input c.args.names.now ≡ true = search rules in
    subst (λ is. IfOk c.read_stream.result (IsStandard (g.I.Read.remaining c.args.input.now.inner) is)) (sym it) c.read_stream.ensures
